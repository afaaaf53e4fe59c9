-- The numbers of formulas.
use Rattle.std.proofs.Common.{◌≤◌, ℕ, List, arith}
use Rattle.std.specs.List.{All}
use Rattle.std.proofs.lemmas.List.Elements.{All-weaker}
use Rattle.cpp_conditions.specs.Propositions.{Proposition, Const, Test, Not, And, Or, IsBelow}
use Rattle.cpp_conditions.specs.View.{formula}
use Rattle.cpp_conditions.specs.declared.formulas.Formula.{Formula}
use Rattle.certificate_format.specs.declared.certificates.AlarmLine.{AlarmLine}
use Rattle.lifted_analysis.specs.declared.lines.LoopLine.{LoopLine}
use Rattle.lifted_analysis.specs.Lines.{AreRegionsBelow}
use Rattle.lifted_analysis.specs.Promises.{AreBelow}

pub more_tests : (m n : ℕ) → m ≤ n → (p : Proposition ℕ) → IsBelow m p → IsBelow n p
more_tests m n le (Const b) h = tt
more_tests m n le (Test x) h = omega (arith, le, h)
more_tests m n le (Not p) h = more_tests m n le p h
more_tests m n le (And p q) h = (more_tests m n le p h.0, more_tests m n le q h.1)
more_tests m n le (Or p q) h = (more_tests m n le p h.0, more_tests m n le q h.1)

pub more_lines : (m n : ℕ) → m ≤ n → (ls : List AlarmLine) → All (λ (l : AlarmLine). IsBelow m (formula l.region)) ls → All (λ (l : AlarmLine). IsBelow n (formula l.region)) ls
more_lines m n le ls h =
    All-weaker (λ (l : AlarmLine). IsBelow m (formula l.region)) (λ (l : AlarmLine). IsBelow n (formula l.region)) (λ l. more_tests m n le (formula l.region)) ls h

pub more_regions : (m n : ℕ) → m ≤ n → (ls : List LoopLine) → AreRegionsBelow m ls → AreRegionsBelow n ls
more_regions m n le ls h =
    All-weaker (λ (l : LoopLine). IsBelow m (formula l.region)) (λ (l : LoopLine). IsBelow n (formula l.region)) (λ l. more_tests m n le (formula l.region)) ls h

pub more_below : (m n : ℕ) → m ≤ n → (cs : List Formula) (p : Formula) → AreBelow m cs p → AreBelow n cs p
more_below m n le cs p h = record {
  each = All-weaker (λ (c : Formula). IsBelow m (formula c)) (λ (c : Formula). IsBelow n (formula c)) (λ c. more_tests m n le (formula c)) cs h.each;
  last = more_tests m n le (formula p) h.last;
}

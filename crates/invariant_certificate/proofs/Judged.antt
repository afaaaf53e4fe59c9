-- The verdict of the trees of a pass is that of the pass.
use Rattle.std.proofs.Common.{◌≡◌, ℤ, List, map, true, length, ap, subst, ◌∙◌}
use Rattle.std.specs.List.{All}
use Rattle.fam_outer.specs.declared.faults.Place.{Place}
use Rattle.c_tree.specs.declared.tree.Kind.{Kind}
use Rattle.c_tree.specs.Places.{program_places}
use Rattle.c_tree.specs.Tree.{Whole}
use Rattle.linear_atoms.specs.declared.atoms.Atom.{Atom}
use Rattle.cpp_conditions.specs.declared.formulas.Formula.{Formula}
use Rattle.cpp_conditions.specs.declared.models.Model.{Model}
use Rattle.cpp_conditions.specs.Numbering.{vector_at}
use Rattle.cpp_conditions.specs.Propositions.{true_on}
use Rattle.cpp_conditions.specs.Validity.{plain, IsValid}
use Rattle.cpp_conditions.specs.View.{formula}
use Rattle.certificate_format.specs.declared.certificates.AlarmLine.{AlarmLine}
use Rattle.certificate_format.specs.declared.certificates.Certificate.{Certificate}
use Rattle.decision_tree.specs.View as tree
use Rattle.leaf_domain.specs.Leaves.{LeafMeaning}
use Rattle.lifted_analysis.specs.declared.findings.AlarmTree.{AlarmTree}
use Rattle.lifted_analysis.specs.declared.findings.LoopTree.{LoopTree}
use Rattle.lifted_analysis.specs.declared.lines.LoopLine.{LoopLine}
use Rattle.lifted_analysis.specs.Canon.{IsTreeOf}
use Rattle.lifted_analysis.specs.Pass.{pass_stop_at, inductive_at}
use Rattle.lifted_analysis.specs.Promises.{by_kind}
use Rattle.lifted_analysis.specs.Turns.{loop_places}
use Rattle.invariant_certificate.specs.declared.verdicts.Verdict.{Verdict}
use Rattle.invariant_certificate.specs.declared.verdicts.Verdict.TheVariants.{Yes, NotInductive, Unlisted}
use Rattle.invariant_certificate.specs.Failing.{AllHold, IsFirstFailing}
use Rattle.invariant_certificate.specs.FirstFailing.{loop_holds, stop_holds, IsJudged}
use Rattle.invariant_certificate.specs.Passes.{is_inductive, is_covered}
use Rattle.invariant_certificate.specs.Verdicts.{AllInductive, IsVerdict, StopsAreListed}
use Rattle.invariant_certificate.proofs.First.{all_hold_said, first_said}
use Rattle.invariant_certificate.proofs.Passed.{IsPassed, loop_key, stop_key, loops_agree, stops_agree}

same_pair : (p q : Place) (a b : Kind) → p ≡ q → a ≡ b → (let x : Place × Kind = (p, a) in x) ≡ (q, b)
same_pair p q a b e f = ap (λ (x : Place). let k : Place × Kind = (x, a) in k) e ∙ ap (λ (x : Kind). let k : Place × Kind = (q, x) in k) f

module _ (M : LeafMeaning) (model : Model) (p : Whole) (cs : List Formula) (ats : List Atom) (c : Certificate) (pl : Formula) (loops : List LoopTree) (alarms : List AlarmTree)
    (h : IsPassed M model p cs ats c pl loops alarms) (e : map loop_key loops ≡ loop_places p.body) (f : map stop_key alarms ≡ by_kind (program_places p)) where
  pub verdict_of : (v : Verdict) → IsJudged model ats c.alarms.items loops alarms v → IsVerdict M model p cs ats c v
  verdict_of Yes j = (
    all_hold_said model loop_key (loop_holds ats) (is_inductive M p cs ats c) loops (loop_places p.body) e (loops_agree M model p cs ats c pl loops alarms h) j.0,
    all_hold_said model stop_key (stop_holds ats c.alarms.items) (is_covered M p cs ats c) alarms (by_kind (program_places p)) f (stops_agree M model p cs ats c pl loops alarms h) j.1,
  )
  verdict_of (NotInductive place config) j =
      subst (λ q. IsFirstFailing model (is_inductive M p cs ats c) (loop_places p.body) q config.values) j.place_is
      (first_said model loop_key (loop_holds ats) (is_inductive M p cs ats c) loops (loop_places p.body) j.one config.values e (loops_agree M model p cs ats c pl loops alarms h) j.first)
  verdict_of (Unlisted place kind config) j = (
    all_hold_said model loop_key (loop_holds ats) (is_inductive M p cs ats c) loops (loop_places p.body) e (loops_agree M model p cs ats c pl loops alarms h) j.0,
    subst (λ at. IsFirstFailing model (is_covered M p cs ats c) (by_kind (program_places p)) at config.values)
        (same_pair j.1.one.place place j.1.one.kind kind j.1.place_is j.1.kind_is)
        (first_said model stop_key (stop_holds ats c.alarms.items) (is_covered M p cs ats c) alarms (by_kind (program_places p)) j.1.one config.values f
        (stops_agree M model p cs ats c pl loops alarms h) j.1.first),
  )

  -- the same over a model and lines that are these
  pub verdict_as : (made : Model) (ls : List AlarmLine) (v : Verdict) → made ≡ model → ls ≡ c.alarms.items → IsJudged made ats ls loops alarms v → IsVerdict M model p cs ats c v
  verdict_as made ls v same is j =
      verdict_of v (subst (λ (x : List AlarmLine). IsJudged model ats x loops alarms v) is (subst (λ (m : Model). IsJudged m ats ls loops alarms v) same j))

-- what is known of a pass over lines that are those of the certificate
pub passed_as : (M : LeafMeaning) (model : Model) (p : Whole) (cs : List Formula) (ats : List Atom) (c : Certificate) (pl : Formula) (loops : List LoopTree) (alarms : List AlarmTree)
    (ls : List LoopLine) → ls ≡ c.loops.items → ((values : List ℤ) → IsValid (plain model) values → true_on (vector_at ats values) (formula pl) ≡ true)
    → All (λ (a : AlarmTree). IsTreeOf (length ats) (pass_stop_at M c.mode p cs pl ls (a.place, a.kind)) (tree.plain a.tree)) alarms
    → All (λ (l : LoopTree). IsTreeOf (length ats) (inductive_at M c.mode p cs pl ls l.place) (tree.plain l.tree)) loops
    → IsPassed M model p cs ats c pl loops alarms
passed_as M model p cs ats c pl loops alarms ls e valid stops inductive = record {
  valid = valid;
  alarms_are = subst (λ (x : List LoopLine). All (λ (a : AlarmTree). IsTreeOf (length ats) (pass_stop_at M c.mode p cs pl x (a.place, a.kind)) (tree.plain a.tree)) alarms) e stops;
  loops_are = subst (λ (x : List LoopLine). All (λ (l : LoopTree). IsTreeOf (length ats) (inductive_at M c.mode p cs pl x l.place) (tree.plain l.tree)) loops) e inductive;
}

-- a yes lists all stops
pub sound_if_yes : (M : LeafMeaning) (model : Model) (p : Whole) (cs : List Formula) (ats : List Atom) (c : Certificate) (v : Verdict) → v ≡ Yes → IsVerdict M model p cs ats c v
    → (AllInductive M model p cs ats c → AllHold model (is_covered M p cs ats c) (by_kind (program_places p)) → StopsAreListed M model p cs ats c) → StopsAreListed M model p cs ats c
sound_if_yes M model p cs ats c v e h f = let both = subst (IsVerdict M model p cs ats c) e h in f both.0 both.1

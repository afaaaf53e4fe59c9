use Rattle.std.proofs.Common.{◌≡◌, ◌++◌, ◌<◌, ◌+◌, ℕ, suc, ℤ, add-one, List, [], ◌∷◌, Bool, length, map, take, drop, get_or, sym, ap, subst, ◌∙◌}
use Rattle.std.proofs.lemmas.List.{take_more, map-append}
use Rattle.std.specs.List.{All}
use Rattle.std.proofs.lemmas.List.Elements.{All-push}
use Rattle.std.proofs.Math.Seq.{drop-cons}
use Rattle.linear_atoms.specs.declared.atoms.Atom.{Atom}
use Rattle.cpp_conditions.specs.declared.conditions.Condition.{Condition}
use Rattle.cpp_conditions.specs.declared.formulas.Formula.{Formula}
use Rattle.cpp_conditions.specs.Numbering.{AreAllAmong, vector_at}
use Rattle.cpp_conditions.specs.Propositions.{Proposition, IsBelow, true_at, true_on}
use Rattle.cpp_conditions.specs.View.{proposition, formula}
use Rattle.cpp_lines.specs.Sections.{AreNumbered, truths_on, truths_at}
use Rattle.cpp_lines.proofs.Adding.{meant_more}
use Rattle.cpp_lines.proofs.Numbering.{numbered_more}
use Rattle.cpp_lines.proofs.sections.formulas_of.Goals as goal

-- the conditions up to one, and from it on
taken : (cs : List Condition) (i : ℕ) (x : Condition) → i < length cs → x ≡ get_or cs i x → map proposition (take (i + 1) cs) ≡ map proposition (take i cs) ++ proposition x ∷ []
taken cs i x h e = ap (map proposition) (take_more cs i x h ∙ ap (λ (y : Condition). take i cs ++ y ∷ []) (sym e)) ∙ meant_more (take i cs) x

left : (cs : List Condition) (i : ℕ) (x : Condition) → i < length cs → x ≡ get_or cs i x → map proposition (drop i cs) ≡ proposition x ∷ map proposition (drop (i + 1) cs)
left cs i x h e =
    ap (map proposition) (drop-cons cs i x h ∙ ap (λ (y : Condition). y ∷ drop (suc i) cs) (sym e)) ∙ ap (λ (n : ℕ). proposition x ∷ map proposition (drop n cs)) (sym (add-one i))

truths_more : (atoms : List Atom) (values : List ℤ) (ps : List (Proposition Atom)) (fs : List Formula) (p : Proposition Atom) (f : Formula) → truths_on atoms values fs ≡ truths_at values ps
    → true_on (vector_at atoms values) (formula f) ≡ true_at values p → truths_on atoms values (fs ++ f ∷ []) ≡ truths_at values (ps ++ p ∷ [])
truths_more atoms values ps fs p f h e =
    map-append (λ g. true_on (vector_at atoms values) (formula g)) fs (f ∷ []) ∙ ap (λ (bs : List Bool). bs ++ true_on (vector_at atoms values) (formula f) ∷ []) h
    ∙ ap (λ (b : Bool). truths_at values ps ++ b ∷ []) e ∙ sym (map-append (λ q. true_at values q) ps (p ∷ []))

pub number-requires-clause-among : goal.number-requires-clause-among
number-requires-clause-among c =
    (subst (AreAllAmong c.args.atoms.now) (left c.args.conditions.now c.loop-condition.condition-index c.condition-item.result c.loop-condition-test.true c.condition-item.is) c.loop-condition.invariant.among).0

pub loop-condition-preserved : goal.loop-condition-preserved
loop-condition-preserved c =
    let cs = c.args.conditions.now in
    let i = c.loop-condition.condition-index in
    let x = c.condition-item.result in
    let one = taken c.args.conditions.now c.loop-condition.condition-index c.condition-item.result c.loop-condition-test.true c.condition-item.is in
    let number = c.in_ok-number.ensures in
    let pushed : c.push.new.self.items ≡ c.loop-condition.made.items ++ c.in_ok-number.field-0 ∷ [] = c.in_ok-push.ensures.items in
    record {
      among = (subst (AreAllAmong c.args.atoms.now) (left cs i x c.loop-condition-test.true c.condition-item.is) c.loop-condition.invariant.among).1;
      numbered = subst (λ (ps : List (Proposition Atom)). AreNumbered c.args.atoms.now ps c.push.new.self.items) (sym one)
          (subst (λ (fs : List Formula). AreNumbered c.args.atoms.now (map proposition (take c.loop-condition.condition-index c.args.conditions.now) ++ proposition c.condition-item.result ∷ []) fs) (sym pushed)
          (numbered_more c.args.atoms.now (map proposition (take i cs)) c.loop-condition.made.items (proposition x) c.in_ok-number.field-0 c.loop-condition.invariant.numbered number.numbered));
      truths = λ values. ap (λ (fs : List Formula). truths_on c.args.atoms.now values fs) pushed
          ∙ truths_more c.args.atoms.now values (map proposition (take i cs)) c.loop-condition.made.items (proposition x) c.in_ok-number.field-0 (c.loop-condition.invariant.truths values) (number.truth values)
          ∙ ap (truths_at values) (sym one);
      below = subst (λ (fs : List Formula). All (λ f. IsBelow (length c.args.atoms.now) (formula f)) fs) (sym pushed)
          (All-push (λ f. IsBelow (length c.args.atoms.now) (formula f)) c.loop-condition.made.items c.in_ok-number.field-0 c.loop-condition.invariant.below number.below);
    }

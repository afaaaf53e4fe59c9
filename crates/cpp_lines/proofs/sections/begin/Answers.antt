use Rattle.std.proofs.Common.{◌≡◌, ◌++◌, ◌+◌, ℕ, List, [], ◌∷◌, ◌<◌, get_or, length, map, take, sym, ap, subst, ◌∙◌, arith}
use Rattle.std.proofs.lemmas.List.{append-nil, take_more, take_all}
use Rattle.linear_atoms.specs.declared.atoms.Atom.{Atom}
use Rattle.cpp_conditions.specs.Distinct.{AreAtomsOf, Grows, Occurs}
use Rattle.cpp_conditions.specs.Numbering.{AreAmong}
use Rattle.cpp_conditions.specs.declared.conditions.Condition.{Condition}
use Rattle.cpp_conditions.proofs.Collected.{one_list}
use Rattle.cpp_conditions.specs.Propositions.{Proposition}
use Rattle.cpp_conditions.specs.Validity.{AreFit}
use Rattle.cpp_conditions.specs.View.{proposition}
use Rattle.cpp_lines.proofs.Adding.{one_more, meant_more}
use Rattle.cpp_lines.proofs.sections.begin.Goals as goal

-- one more of the constraints
more : (cs : List Condition) (i : ℕ) (x : Condition) (old new : List Atom) → i < length cs → x ≡ get_or cs i x → AreAtomsOf (map proposition (take i cs)) old → Grows (λ (a : Atom). Occurs a (proposition x)) old new
    → AreAmong new (proposition x) → AreAtomsOf (map proposition (take (i + 1) cs)) new
more cs i x old new h e m g k =
    subst (λ (ps : List (Proposition Atom)). AreAtomsOf ps new)
    (sym (ap (map proposition) (take_more cs i x h ∙ ap (λ (y : Condition). take i cs ++ y ∷ []) (sym e)) ∙ meant_more (take i cs) x))
    (one_more (map proposition (take i cs)) (proposition x) old new m g k)

pub loop-constraint-preserved : goal.loop-constraint-preserved
loop-constraint-preserved c =
    more c.items-constraint-items.result.now c.loop-constraint.constraint-index c.constraint-item.result c.loop-constraint.atoms.items c.add_atoms.new.atoms.items c.loop-constraint-test.true c.constraint-item.is
    c.loop-constraint.invariant c.add_atoms.ensures.grows c.in_ok-add_atoms.ensures.all

pub returns-clause-kept : goal.returns-clause-kept
returns-clause-kept c =
    let all : take c.loop-constraint.constraint-index c.items-constraint-items.result.now ≡ c.args.model.now.constraints =
    take_all c.loop-constraint.constraint-index c.items-constraint-items.result.now c.loop-constraint-test.false ∙ c.items-constraint-items.ensures in
    let none : map proposition c.new-3.result.items ≡ [] = ap (map proposition) c.new-3.ensures.items in
    let are : AreAtomsOf (map proposition c.args.model.now.constraints) c.loop-constraint.atoms.items =
    subst (λ (cs : List Condition). AreAtomsOf (map proposition cs) c.loop-constraint.atoms.items) all c.loop-constraint.invariant in
    let one : c.requires.few.atoms ≡ c.loop-constraint.atoms.items = one_list (map proposition c.args.model.now.constraints) c.requires.few.atoms c.loop-constraint.atoms.items c.requires.few.are_atoms are in
    record {
      atoms = subst (λ (ps : List (Proposition Atom)). AreAtomsOf ps c.loop-constraint.atoms.items) (sym (ap (λ (ps : List (Proposition Atom)). map proposition c.args.model.now.constraints ++ ps) none ∙ append-nil (map proposition c.args.model.now.constraints)))
          are;
      few = omega (arith, ap length one, c.requires.few.few);
      fit = subst (AreFit (length c.args.model.now.features)) (sym c.new-3.ensures.items) tt;
    }

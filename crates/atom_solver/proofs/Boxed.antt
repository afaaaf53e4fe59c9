-- The box that has each valid configuration of a model.
use Rattle.std.proofs.Common.{◌≡◌, ℤ, Bool, true, false, ◌&&◌, List, length, map, Option, Some, None, sym, ap, subst, refl, ◌∙◌}
use Rattle.std.proofs.lemmas.Bool.{false≢true}
use Rattle.linear_atoms.specs.declared.atoms.Config.{Config}
use Rattle.linear_atoms.specs.declared.atoms.Atom.{Atom}
use Rattle.linear_atoms.specs.Atoms.{AreRanges, AreAtoms}
use Rattle.linear_atoms.specs.declared.ranges.Span.{Span}
use Rattle.cpp_conditions.specs.declared.conditions.Condition.{Condition}
use Rattle.cpp_conditions.specs.declared.models.Model.{Model}
use Rattle.cpp_conditions.specs.Propositions.{Proposition, Const, IsFit, true_at}
use Rattle.cpp_conditions.specs.Validity.{AreFit, all_true}
use Rattle.cpp_conditions.specs.View.{proposition}
use Rattle.atom_solver.specs.Narrowing.{Narrows, HasAllValid}
use Rattle.atom_solver.specs.Solutions.{Finds}
use Rattle.atom_solver.specs.Spans.{ranges, span_of, meets, FindsIn}
use Rattle.atom_solver.specs.Free.{Serves}
use Rattle.atom_solver.proofs.Freed.{narrow_serves, serves_more}
use Rattle.atom_solver.proofs.Narrowed.{narrows_none}
use Rattle.atom_solver.proofs.Pointing.{length_box, box_ranges, found_model}

without : (a b : Bool) → (a && b) ≡ true → (a && true) ≡ true
without true b e = refl
without false b e = e

-- what is kept for all wanted is kept for one
pub narrows_wanted : (cs : List Condition) (p : Proposition Atom) (old new : List Span) → Narrows cs (Const true) old new → Narrows cs p old new
narrows_wanted cs p old new n = record {
  long = n.long;
  some = n.some;
  within = n.within;
  kept = λ vs w t. n.kept vs w (without (all_true vs (map proposition cs)) (true_at vs p) t);
  no_wider = n.no_wider;
}

pub long_box : (model : Model) (spans : List Span) (h : List ℤ → Bool) → Serves h (map span_of model.features) spans → length spans ≡ length model.features
long_box model spans h s = s.long ∙ length_box model.features

pub fit_box : (model : Model) (spans : List Span) (h : List ℤ → Bool) (cs : List Condition) → Serves h (map span_of model.features) spans → cs ≡ model.constraints → AreFit (length model.features) model.constraints → AreFit (length spans) cs
fit_box model spans h cs s e f = subst (λ x. AreFit (length spans) x) (sym e) (subst (λ x. AreFit x model.constraints) (sym (long_box model spans h s)) f)

pub wanted_box : (model : Model) (spans : List Span) (h : List ℤ → Bool) (p : Proposition Atom) → Serves h (map span_of model.features) spans → IsFit (length model.features) p → IsFit (length spans) p
wanted_box model spans h p s f = subst (λ x. IsFit x p) (sym (long_box model spans h s)) f

pub found_box : (model : Model) (p : Proposition Atom) (spans : List Span) (cs : List Condition) (found : Option Config) → Serves (meets model.constraints p) (map span_of model.features) spans → cs ≡ model.constraints
    → FindsIn (ranges spans) (meets cs p) found → Finds model (λ (values : List ℤ). true_at values p) found
found_box model p spans cs found s e f =
    found_model model p (map span_of model.features) model.constraints found refl refl (s.finds found (subst (λ x. FindsIn (ranges spans) (meets x p) found) e f))

-- a box that has each valid configuration has the first at which anything holds
pub all_serves : (model : Model) (p : Proposition Atom) (spans : List Span) → HasAllValid model spans → Serves (meets model.constraints p) (map span_of model.features) spans
all_serves model p spans h = narrow_serves model.constraints p (map span_of model.features) spans (narrows_wanted model.constraints p (map span_of model.features) spans h)

pub long_valid : (model : Model) (spans : List Span) → HasAllValid model spans → length spans ≡ length model.features
long_valid model spans h = h.long ∙ length_box model.features

pub fit_valid : (model : Model) (spans : List Span) (cs : List Condition) → HasAllValid model spans → cs ≡ model.constraints → AreFit (length model.features) model.constraints → AreFit (length spans) cs
fit_valid model spans cs h e f = subst (λ x. AreFit (length spans) x) (sym e) (subst (λ x. AreFit x model.constraints) (sym (long_valid model spans h)) f)

-- within a model that has no valid configuration nothing holds
pub void_finds : (model : Model) (spans : List Span) (found : Option Config) (t : List ℤ → Bool) → HasAllValid model spans → found ≡ None → FindsIn (ranges spans) (meets model.constraints (Const true)) found → Finds model t None
void_finds model spans found t h e f =
    let k : Finds model (λ (values : List ℤ). true) None = found_box model (Const true) spans model.constraints None (all_serves model (Const true) spans h) refl (subst (λ x. FindsIn (ranges spans) (meets model.constraints (Const true)) x) e f) in
    λ vs v. absurd (false≢true (sym (k vs v)))

-- ---- the calls

pub least_at : (cs ds : List Condition) (ss d : List Span) (found : Option Config) (c : Config) → FindsIn (ranges ss) (meets cs (Const true)) found → found ≡ Some c → d ≡ ss → ds ≡ cs
    → FindsIn (ranges d) (meets ds (Const true)) (Some c)
least_at cs ds ss d found c f e g h =
    subst (λ x. FindsIn (ranges x) (meets ds (Const true)) (Some c)) (sym g)
    (subst (λ x. FindsIn (ranges ss) (meets x (Const true)) (Some c)) (sym h) (subst (λ x. FindsIn (ranges ss) (meets cs (Const true)) x) e f))

pub box_serves : (model : Model) (p : Proposition Atom) (spans d made e : List Span) (ds : List Condition) → HasAllValid model spans → d ≡ spans → ds ≡ model.constraints → Serves (meets ds p) d made → e ≡ made
    → Serves (meets model.constraints p) (map span_of model.features) e
box_serves model p spans d made e ds h g i s f =
    subst (Serves (meets model.constraints p) (map span_of model.features)) (sym f)
    (serves_more (meets model.constraints p) (map span_of model.features) spans made (all_serves model p spans h)
    (subst (λ x. Serves (meets model.constraints p) x made) g (subst (λ x. Serves (meets x p) d made) i s)))

pub whole_box : (model : Model) (box : List Span) → box ≡ map span_of model.features → AreRanges model.features → HasAllValid model box
whole_box model box e h = subst (HasAllValid model) (sym e) (narrows_none model.constraints (Const true) (map span_of model.features) (box_ranges model.features h))

pub atoms_box : (model : Model) (box whole : List Span) (atoms : List Atom) → box ≡ whole → whole ≡ map span_of model.features → AreAtoms (length model.features) atoms → AreAtoms (length box) atoms
atoms_box model box whole atoms g e h = subst (λ x. AreAtoms x atoms) (sym (ap length (g ∙ e) ∙ length_box model.features)) h

-- What is remembered of loops.
use Rattle.std.proofs.Common.{◌≡◌, ℕ, Bool, true, false, ◌&&◌, eqb, Some, refl, ap, sym, subst, ◌∙◌, inl, inr, true≢false, Result, Ok, Err, IfOk}
use Rattle.std.proofs.lemmas.Bool.Decides.{eqb_tells}
use Rattle.std.specs.List.{AllByRecursion}
use Rattle.std.specs.Map.{lookup}
use Rattle.indexmap.specs.IndexMap.{insert_entry}
use Rattle.fam_outer.specs.declared.faults.Place.{Place}
use Rattle.c_tree.specs.View.{whole}
use Rattle.leaf_domain.specs.Leaves.{LeafValue, LeafMeaning}
use Rattle.plain_analysis.specs.declared.finals.Entered.{Entered}
use Rattle.plain_analysis.specs.declared.finals.Finals.{Finals}
use Rattle.plain_analysis.specs.declared.task.Task.{Task}
use Rattle.plain_analysis.specs.Finals.{same_entered, IsFinal, Remembers}
use Rattle.plain_analysis.specs.Loops.{final_leaf}
use Rattle.plain_analysis.specs.Stated.{IsLoopAt}
use Rattle.plain_analysis.specs.Statements.{LoopParts, lap_of}
use Rattle.plain_analysis.proofs.StatedLemmas.{one_loop}
use Rattle.plain_analysis.proofs.TableLemmas.{found_entry, inserted_entry}

pub of_eqb : (a b : ℕ) → eqb a b ≡ true → a ≡ b
of_eqb a b e = elim (eqb_tells a b) [ inl h ↦ h.1 | inr h ↦ absurd (true≢false (sym e ∙ h.0)) ]

pub left_of : (x y : Bool) → (x && y) ≡ true → x ≡ true
left_of true y e = refl
left_of false y e = cc

pub right_of : (x y : Bool) → (x && y) ≡ true → y ≡ true
right_of true y e = e
right_of false y e = cc

-- places with the same numbers are the same
pub same_numbers : (a b : Place) → (eqb a.line b.line && eqb a.column b.column) ≡ true → a ≡ b
same_numbers a b e =
    let line : a.line ≡ b.line = of_eqb a.line b.line (left_of (eqb a.line b.line) (eqb a.column b.column) e) in
    let column : a.column ≡ b.column = of_eqb a.column b.column (right_of (eqb a.line b.line) (eqb a.column b.column) e) in
    ap (λ n. let p : Place = record { line = n; column = a.column } in p) line ∙ ap (λ n. let p : Place = record { line = b.line; column = n } in p) column

module _ {L : Type 0} (eq : L → L → Bool) (exact : (a b : L) → eq a b ≡ true → a ≡ b) where
  same_key : (j k : Entered L) → same_entered eq j k ≡ true → j ≡ k
  same_key j k e =
      let place : j.place ≡ k.place = same_numbers j.place k.place (left_of (eqb j.place.line k.place.line && eqb j.place.column k.place.column) (eq j.leaf k.leaf) e) in
      let leaf : j.leaf ≡ k.leaf = exact j.leaf k.leaf (right_of (eqb j.place.line k.place.line && eqb j.place.column k.place.column) (eq j.leaf k.leaf) e) in
      ap (λ p. let i : Entered L = record { place = p; leaf = j.leaf } in i) place ∙ ap (λ l. let i : Entered L = record { place = k.place; leaf = l } in i) leaf

  module _ (value : L → LeafValue) (M : LeafMeaning) (t : Task) where
    pub recalled : (f : Finals L) (place : Place) (leaf last : L) → Remembers value M t f → lookup (same_entered eq (record { place = place; leaf = leaf })) f.entries.entries ≡ Some last → IsFinal value M t (record { place = place; leaf = leaf }) last
    recalled f place leaf last h e =
        let k : Entered L = record { place = place; leaf = leaf } in
        let at = found_entry (λ (d : Entered L × L). IsFinal value M t d.0 d.1) (same_entered eq k) f.entries.entries last h.each e in
        subst (λ j. IsFinal value M t j last) (sym (same_key k at.0 at.2)) at.1

    pub remembered : (f g : Finals L) (place : Place) (leaf last : L) → Remembers value M t f → IsFinal value M t (record { place = place; leaf = leaf }) last
        → g.entries.entries ≡ insert_entry (same_entered eq) f.entries.entries (record { place = place; leaf = leaf }) last → Remembers value M t g
    remembered f g place leaf last h final e =
        let k : Entered L = record { place = place; leaf = leaf } in
        record {
          each = subst (λ es. AllByRecursion (λ (d : Entered L × L). IsFinal value M t d.0 d.1) es) (sym e)
              (inserted_entry (λ (d : Entered L × L). IsFinal value M t d.0 d.1) (same_entered eq) k last f.entries.entries final
              (λ j same. subst (λ i. IsFinal value M t i last) (same_key k j same) final) h.each);
        }

module _ {L : Type 0} (value : L → LeafValue) (M : LeafMeaning) (t : Task) where
  -- the final leaf of the loop that stands at the place
  pub is_final : (place : Place) (leaf last : L) (l : LoopParts) → IsLoopAt (whole t.program.now) place l → (value last).variables ≡ (value leaf).variables
      → value last ≡ final_leaf M t.options.now (lap_of M t.options.now l) (value leaf) → IsFinal value M t (record { place = place; leaf = leaf }) last
  is_final place leaf last l here same e = record {
    same = same;
    final = λ k h. e ∙ ap (λ i. final_leaf M t.options.now (lap_of M t.options.now i) (value leaf)) (one_loop (whole t.program.now) place l k here h);
  }

-- a copy is over as many variables
pub same_made : {L E : Type 0} (value : L → LeafValue) (made : Result L E) (v : LeafValue) (n : ℕ) → v.variables ≡ n → IfOk made (λ x. value x ≡ v) → IfOk made (λ x. (value x).variables ≡ n)
same_made value (Ok x) v n e h = ap (λ (w : LeafValue). w.variables) h ∙ e
same_made value (Err x) v n e h = tt

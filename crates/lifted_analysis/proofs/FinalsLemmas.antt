-- What is remembered of loops, in a forest that grows.
use Rattle.std.proofs.Common.{◌≡◌, Bool, true, ◌&&◌, eqb, List, [], ◌∷◌, Some, refl, ap, sym, subst, ◌∙◌, Result, Ok, Err, IfOk}
use Rattle.std.specs.Prelude.{OnOk}
use Rattle.std.specs.List.{AllByRecursion}
use Rattle.std.specs.Map.{lookup}
use Rattle.indexmap.specs.IndexMap.{insert_entry}
use Rattle.c_tree.specs.View.{whole}
use Rattle.decision_tree.specs.declared.tree.Tree.{Tree}
use Rattle.decision_tree.specs.Listed.{Keeps}
use Rattle.decision_tree.specs.Numbered.{Numbered, erase, root}
use Rattle.decision_tree.specs.Plain.{Plain, leaf_of}
use Rattle.decision_tree.specs.View.{numbered}
use Rattle.decision_tree.proofs.Numbers.{keeps_same, numbers_tell}
use Rattle.leaf_domain.specs.Leaves.{LeafValue, LeafMeaning}
use Rattle.plain_analysis.specs.Stated.{IsLoopAt}
use Rattle.plain_analysis.specs.Statements.{LoopParts}
use Rattle.plain_analysis.specs.declared.ways.Ways.{Ways}
use Rattle.plain_analysis.specs.Ways as spec
use Rattle.plain_analysis.proofs.FinalsLemmas.{same_numbers, of_eqb, left_of, right_of}
use Rattle.plain_analysis.proofs.StatedLemmas.{one_loop}
use Rattle.plain_analysis.proofs.TableLemmas.{found_entry, inserted_entry}
use Rattle.lifted_analysis.specs.declared.family_context.FamilyContext.{FamilyContext}
use Rattle.lifted_analysis.specs.declared.finals.Entered.{Entered}
use Rattle.lifted_analysis.specs.declared.finals.Finals.{Finals}
use Rattle.lifted_analysis.specs.Finals.{same_entered, IsFinal, Remembers}
use Rattle.lifted_analysis.specs.States.{IsState, IsLifted, AreMade}
use Rattle.lifted_analysis.specs.Steps.{final_at}
use Rattle.lifted_analysis.proofs.StateLemmas.{state_stays, state_as}

same_key : (j k : Entered) → same_entered j k ≡ true → j ≡ k
same_key j k e =
    let place : j.place ≡ k.place = same_numbers j.place k.place (left_of (eqb j.place.line k.place.line && eqb j.place.column k.place.column) (eqb j.number k.number) e) in
    let number : j.number ≡ k.number = of_eqb j.number k.number (right_of (eqb j.place.line k.place.line && eqb j.place.column k.place.column) (eqb j.number k.number) e) in
    ap (λ p. let i : Entered = record { place = p; number = j.number } in i) place ∙ ap (λ n. let i : Entered = record { place = k.place; number = n } in i) number

module _ {L : Type 0} (value : L → LeafValue) (M : LeafMeaning) (family : FamilyContext) where
  -- ---- the forest grows

  final_stays : (a b : List (Plain L)) (k : Entered) (last : Tree L) → Keeps a b → IsFinal value M family a k last → IsFinal value M family b k last
  final_stays a b k last h i = record {
    entered = i.entered;
    number = i.number;
    own = h.stay i.entered i.own;
    state = state_stays value family a b (numbered last) h i.state;
    final = i.final;
  }

  each_stays : (a b : List (Plain L)) → Keeps a b → (es : List (Entered × Tree L)) → AllByRecursion (λ (e : Entered × Tree L). IsFinal value M family a e.0 e.1) es → AllByRecursion (λ (e : Entered × Tree L). IsFinal value M family b e.0 e.1) es
  each_stays a b h [] i = tt
  each_stays a b h (e ∷ es) i = (final_stays a b e.0 e.1 h i.0, each_stays a b h es i.1)

  pub memory_stays : (a b : List (Plain L)) (f : Finals L) → Keeps a b → Remembers value M family a f → Remembers value M family b f
  memory_stays a b f h m = record { each = each_stays a b h f.entries.entries m.each }

  pub memory_same : (a b : List (Plain L)) (f : Finals L) → b ≡ a → Remembers value M family a f → Remembers value M family b f
  memory_same a b f e m = subst (λ forest. Remembers value M family forest f) (sym e) m

  -- behind a step, and behind what was passed
  pub memory_lifted : {E : Type 0} (made : Result (Tree L) E) (a b : List (Plain L)) (f : Finals L) (g : List Bool → LeafValue → LeafValue) (t : Plain L) → IfOk made (λ r. IsLifted value family a b g t (numbered r)) → Remembers value M family a f → OnOk made (Remembers value M family b f)
  memory_lifted (Ok r) a b f g t h m = memory_stays a b f h.keeps m
  memory_lifted (Err e) a b f g t h m = tt

  pub memory_made : {E : Type 0} (made : Result (Ways (Tree L)) E) (a b : List (Plain L)) (f : Finals L) (G : List Bool → spec.Ways) → IfOk made (λ r. AreMade value family a b G r) → Remembers value M family a f → OnOk made (Remembers value M family b f)
  memory_made (Ok r) a b f G h m = memory_stays a b f h.keeps m
  memory_made (Err e) a b f G h m = tt

  pub memory_empty : (forest : List (Plain L)) (f : Finals L) → f.entries.entries ≡ [] → Remembers value M family forest f
  memory_empty forest f e = record { each = subst (λ es. AllByRecursion (λ (d : Entered × Tree L). IsFinal value M family forest d.0 d.1) es) (sym e) tt }

  -- ---- entries

  recalled : (forest : List (Plain L)) (f : Finals L) (k : Entered) (last : Tree L) → Remembers value M family forest f → lookup (same_entered k) f.entries.entries ≡ Some last → IsFinal value M family forest k last
  recalled forest f k last m e =
      let at = found_entry (λ (d : Entered × Tree L). IsFinal value M family forest d.0 d.1) (same_entered k) f.entries.entries last m.each e in
      subst (λ j. IsFinal value M family forest j last) (sym (same_key k at.0 at.2)) at.1

  -- what is found is the final tree
  pub recalled_made : {E : Type 0} (made : Result (Tree L) E) (forest : List (Plain L)) (f : Finals L) (k : Entered) (last : Tree L) (t : Numbered L) (l : LoopParts)
      → Remembers value M family forest f → lookup (same_entered k) f.entries.entries ≡ Some last → root t ≡ k.number → IsState value family forest t → IsLoopAt (whole family.program.now) k.place l
      → IfOk made (λ r. numbered r ≡ numbered last) → IfOk made (λ r. IsLifted value family forest forest (final_at M family l) (erase t) (numbered r))
  recalled_made (Ok r) forest f k last t l m e n s here is =
      let known = recalled forest f k last m e in
      let same : erase known.entered ≡ erase t = (numbers_tell forest known.entered t known.own s.tree.own).0 (known.number ∙ sym n) in
      record {
        state = state_as value family forest (numbered last) (numbered r) is known.state;
        keeps = keeps_same forest forest refl;
        at_each = λ v. ap (λ u. value (leaf_of (erase u) v)) is ∙ (known.final l here v ∙ ap (λ u. final_at M family l v (value (leaf_of u v))) same);
      }
  recalled_made (Err x) forest f k last t l m e n s here is = tt

  -- one more is remembered
  pub remembered : (a b : List (Plain L)) (f g : Finals L) (k : Entered) (last : Tree L) (t : Numbered L) (r : Numbered L) (l : LoopParts)
      → Remembers value M family b f → root t ≡ k.number → IsState value family a t → IsLoopAt (whole family.program.now) k.place l
      → IsLifted value family a b (final_at M family l) (erase t) r → numbered last ≡ r → g.entries.entries ≡ insert_entry same_entered f.entries.entries k last → Remembers value M family b g
  remembered a b f g k last t r l m n s here is same e =
      let final : IsFinal value M family b k last = record {
        entered = t;
        number = n;
        own = is.keeps.stay t s.tree.own;
        state = state_as value family b r (numbered last) same is.state;
        final = λ l' there v.
            ap (λ u. value (leaf_of (erase u) v)) same
            ∙ (is.at_each v ∙ ap (λ m. final_at M family m v (value (leaf_of (erase t) v))) (one_loop (whole family.program.now) k.place l l' here there));
      } in
      record {
        each = subst (λ es. AllByRecursion (λ (d : Entered × Tree L). IsFinal value M family b d.0 d.1) es) (sym e)
            (inserted_entry (λ (d : Entered × Tree L). IsFinal value M family b d.0 d.1) same_entered k last f.entries.entries final
            (λ j at. subst (λ i. IsFinal value M family b i last) (same_key k j at) final) m.each);
      }

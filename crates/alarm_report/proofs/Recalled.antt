-- What is known of the regions of paths.
use Rattle.std.proofs.Common.{◌≡◌, ℕ, Bool, true, false, ◌&&◌, eqb, List, [], ◌∷◌, Option, Some, refl, ap, sym, subst, ◌∙◌}
use Rattle.std.proofs.lemmas.Bool.Decides.{Decides-eqb}
use Rattle.std.specs.Bool.{beq}
use Rattle.std.specs.Cmp.Lexicographic.{pointwise}
use Rattle.std.specs.Global.{Vec}
use Rattle.std.specs.List.{AllByRecursion}
use Rattle.std.specs.Map.{lookup}
use Rattle.indexmap.specs.IndexMap.{insert_entry}
use Rattle.linear_atoms.specs.declared.atoms.Atom.{Atom}
use Rattle.cpp_conditions.specs.declared.models.Model.{Model}
use Rattle.plain_analysis.proofs.TableLemmas.{found_entry, inserted_entry}
use Rattle.alarm_report.specs.declared.known.Known.{Known}
use Rattle.alarm_report.specs.declared.region.Region.{Region}
use Rattle.alarm_report.specs.Known.{AreKnown, has_turns, same_turn, same_turns}
use Rattle.alarm_report.specs.Regions.{IsRegionOf}

both : (x y : Bool) → (x && y) ≡ true → (x ≡ true) × (y ≡ true)
both true y e = (refl, e)
both false y e = absurd cc

same_side : (a b : Bool) → beq a b ≡ true → a ≡ b
same_side true true e = refl
same_side false false e = refl
same_side true false e = absurd cc
same_side false true e = absurd cc

one_turn : (t u : ℕ × Bool) → same_turn t u ≡ true → t ≡ u
one_turn (n, a) (m, b) e =
    let h = both (eqb n m) (beq a b) e in
    ap (λ k. (k, a)) ((Decides-eqb n m).0 h.0) ∙ ap (λ s. (m, s)) (same_side a b h.1)

-- a key that passes has the turns
pub of_turns : (turns : List (ℕ × Bool)) (key : Vec (ℕ × Bool)) → has_turns turns key ≡ true → key.items ≡ turns
of_turns turns key e = sym (go turns key.items e)
  where
    go : (ts us : List (ℕ × Bool)) → pointwise same_turn ts us ≡ true → ts ≡ us
    go [] [] e = refl
    go [] (u ∷ us) e = absurd cc
    go (t ∷ ts) [] e = absurd cc
    go (t ∷ ts) (u ∷ us) e =
        let h = both (same_turn t u) (pointwise same_turn ts us) e in
        ap (λ x. x ∷ ts) (one_turn t u h.0) ∙ ap (λ xs. u ∷ xs) (go ts us h.1)

module _ (model : Model) (atoms : List Atom) where
  abbrev Holds : Vec (ℕ × Bool) × Option Region → Type 0
  Holds e = IsRegionOf model atoms e.0.items e.1

  pub none_known : (known : Known) → known.entries.entries ≡ [] → AreKnown model atoms known
  none_known known e = record { each = subst (λ es. AllByRecursion Holds es) (sym e) tt }

  pub recalled : (known : Known) (turns : List (ℕ × Bool)) (found : Option Region) → AreKnown model atoms known → lookup (has_turns turns) known.entries.entries ≡ Some found
      → IsRegionOf model atoms turns found
  recalled known turns found h e =
      let at = found_entry Holds (has_turns turns) known.entries.entries found h.each e in
      subst (λ ts. IsRegionOf model atoms ts found) (of_turns turns at.0 at.2) at.1

  pub remembered : (old new : Known) (key : Vec (ℕ × Bool)) (found : Option Region) → AreKnown model atoms old → IsRegionOf model atoms key.items found
      → new.entries.entries ≡ insert_entry same_turns old.entries.entries key found → AreKnown model atoms new
  remembered old new key found h is e = record {
    each = subst (λ es. AllByRecursion Holds es) (sym e)
        (inserted_entry Holds same_turns key found old.entries.entries is
        (λ other same. subst (λ ts. IsRegionOf model atoms ts found) (sym (of_turns key.items other same)) is) h.each);
  }

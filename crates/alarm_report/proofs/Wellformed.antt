-- The literals of regions are well formed.
use Rattle.std.proofs.Common.{ℕ, suc, Bool, true, false, List, [], ◌∷◌, ◌++◌, length, refl, sym, subst}
use Rattle.std.specs.Prelude.{Some}
use Rattle.std.specs.List.{All}
use Rattle.std.proofs.lemmas.List.Elements.{All-cons, All-nil}
use Rattle.std.proofs.lemmas.List.{append-nil, append_assoc}
use Rattle.linear_atoms.specs.declared.atoms.Atom.{Atom}
use Rattle.linear_atoms.specs.declared.atoms.Literal.{Literal}
use Rattle.linear_atoms.specs.Atoms.{AreAtoms, AreLiterals}
use Rattle.cpp_conditions.specs.declared.models.Model.{Model}
use Rattle.alarm_report.specs.declared.region.Region.{Region}
use Rattle.alarm_report.specs.Regions.{literals_of, AreStanding, IsRegionOf, AreRegionsOf}
use Rattle.alarm_report.specs.Regions as of
use Rattle.alarm_report.proofs.Covering.{AreBelow, PathsBelow, to_true, literals_fit}

fit_without : (n : ℕ) (before : List Literal) (l : Literal) (ls : List Literal) → AreLiterals n (before ++ l ∷ ls) → AreLiterals n (before ++ ls)
fit_without n [] l ls h = h.1
fit_without n (b ∷ before) l ls h = (h.0, fit_without n before l ls h.1)

-- what stands of well-formed literals is well formed
pub standing_fit : (model : Model) (n : ℕ) (before ls standing : List Literal) → AreStanding model before ls standing → AreLiterals n (before ++ ls) → AreLiterals n standing
standing_fit model n before _ _ (of.seen b) fit = subst (AreLiterals n) (append-nil before) fit
standing_fit model n before _ standing (of.drops b l ls s implied rest) fit = standing_fit model n before ls standing rest (fit_without n before l ls fit)
standing_fit model n before _ standing (of.keeps b l ls s implied rest) fit =
    standing_fit model n (before ++ l ∷ []) ls standing rest (subst (AreLiterals n) (sym (append_assoc before (l ∷ []) ls)) fit)

pub region_fits : (model : Model) (atoms : List Atom) (n : ℕ) (turns : List (ℕ × Bool)) (r : Region) → AreAtoms n atoms → AreBelow (length atoms) turns
    → IsRegionOf model atoms turns (Some r) → AreLiterals n r.literals
region_fits model atoms n turns r fit below h = standing_fit model n [] (literals_of atoms turns) r.literals h.0 (literals_fit n atoms turns fit below)

pub regions_fit : (model : Model) (atoms : List Atom) (n : ℕ) (ps : List (List (ℕ × Bool) × Bool)) (rs : List Region) → AreAtoms n atoms → PathsBelow (length atoms) ps
    → AreRegionsOf model atoms (to_true ps) rs → All (λ (r : Region). AreLiterals n r.literals) rs
regions_fit model atoms n [] _ fit below of.no_path = All-nil (λ (r : Region). AreLiterals n r.literals)
regions_fit model atoms n ((turns, false) ∷ ps) rs fit below h = regions_fit model atoms n ps rs fit (λ i p e. below (suc i) p e) h
regions_fit model atoms n ((turns, true) ∷ ps) rs fit below (of.void t qs xs v h) = regions_fit model atoms n ps rs fit (λ i p e. below (suc i) p e) h
regions_fit model atoms n ((turns, true) ∷ ps) _ fit below (of.region t qs q xs v h) =
    All-cons (λ (r : Region). AreLiterals n r.literals) q xs (region_fits model atoms n turns q fit (below 0 (turns, true) refl) v)
    (regions_fit model atoms n ps xs fit (λ i p e. below (suc i) p e) h)

-- Conditions have formulas with the numbers of their atoms.
use Rattle.std.proofs.Common.{◌≡◌, ℕ, suc, ℤ, inl, inr, List, [], ◌∷◌, ◌++◌, slice_get, Some, refl, ap}
use Rattle.linear_atoms.specs.declared.atoms.Atom.{Atom}
use Rattle.cpp_conditions.specs.declared.formulas.Formula.{Formula}
use Rattle.cpp_conditions.specs.declared.formulas.Formula.TheVariants as formulas
use Rattle.cpp_conditions.specs.Numbering.{IsAmong, AreAmong, AreAllAmong, IsNumbered}
use Rattle.cpp_conditions.specs.Propositions.{Proposition, Const, Test, Not, And, Or}
use Rattle.cpp_conditions.specs.Validity.{Plain}
use Rattle.cpp_conditions.specs.View.{formula}
use Rattle.cpp_conditions.proofs.Numbers.{numbered_truth}
use Rattle.cpp_lines.specs.Sections.{AreNumbered, AreConditionsOf, truths_at, truths_on}
use Rattle.reading_laws.proofs.Collecting.{atoms_of}
use Rattle.reading_laws.proofs.MadePrograms.{block}

number : (atoms : List Atom) (a : Atom) → IsAmong a atoms → (n : ℕ) × (slice_get atoms n ≡ Some a)
number [] a h = absurd h
number (b ∷ bs) a (inl e) = (0, ap (λ (x : Atom). Some x) e)
number (b ∷ bs) a (inr m) = let n = number bs a m in (suc n.0, n.1)

record HasFormula (atoms : List Atom) (p : Proposition Atom) : Type 0 where
  made : Formula
  is : IsNumbered atoms p (formula made)

numbered : (atoms : List Atom) (p : Proposition Atom) → AreAmong atoms p → HasFormula atoms p
numbered atoms (Const b) h = record { made = formulas.Const b; is = refl }
numbered atoms (Test a) h = let n = number atoms a h in record { made = formulas.Test n.0; is = n.1 }
numbered atoms (Not p) h = let f = numbered atoms p h in record { made = formulas.Not' block f.made; is = f.is }
numbered atoms (And p q) h = let f = numbered atoms p h.0 in let g = numbered atoms q h.1 in record { made = formulas.And' block f.made block g.made; is = (f.is, g.is) }
numbered atoms (Or p q) h = let f = numbered atoms p h.0 in let g = numbered atoms q h.1 in record { made = formulas.Or' block f.made block g.made; is = (f.is, g.is) }

all_numbered : (atoms : List Atom) (ps : List (Proposition Atom)) → AreAllAmong atoms ps → (fs : List Formula) × AreNumbered atoms ps fs
all_numbered atoms [] h = ([], tt)
all_numbered atoms (p ∷ ps) h = let f = numbered atoms p h.0 in let fs = all_numbered atoms ps h.1 in (f.made ∷ fs.0, (f.is, fs.1))

same_truths : (atoms : List Atom) (ps : List (Proposition Atom)) (fs : List Formula) (values : List ℤ) → AreNumbered atoms ps fs → truths_on atoms values fs ≡ truths_at values ps
same_truths atoms [] [] values h = refl
same_truths atoms [] (f ∷ fs) values h = absurd h
same_truths atoms (p ∷ ps) [] values h = absurd h
same_truths atoms (p ∷ ps) (f ∷ fs) values h = let e = numbered_truth atoms p (formula f) values h.0 in let es = same_truths atoms ps fs values h.1 in λ i. e i ∷ es i

all_behind : (atoms : List Atom) (qs ps : List (Proposition Atom)) → AreAllAmong atoms (qs ++ ps) → AreAllAmong atoms ps
all_behind atoms [] ps h = h
all_behind atoms (q ∷ qs) ps h = all_behind atoms qs ps h.1

-- conditions as formulas over the atoms of a model and of them all
pub record HasConditions (model : Plain) (ps : List (Proposition Atom)) : Type 0 where
  pub conditions : List Formula
  pub atoms : List Atom
  pub are : AreConditionsOf model ps atoms conditions

pub conditions_of : (model : Plain) (ps : List (Proposition Atom)) → HasConditions model ps
conditions_of model ps =
    let atoms = atoms_of (model.constraints ++ ps) in
    let fs = all_numbered atoms.0 ps (all_behind atoms.0 model.constraints ps atoms.1.all) in
    record {
      conditions = fs.0;
      atoms = atoms.0;
      are = record { atoms_are = atoms.1; numbered = fs.1; truths = λ values. same_truths atoms.0 ps fs.0 values fs.1 };
    }

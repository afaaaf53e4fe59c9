-- The program of a variant is what its text is read as.
use Rattle.std.proofs.Common.{◌≡◌, ℤ, List, [], ◌∷◌, ◌++◌, refl, subst, sym}
use Rattle.std.specs.Prelude.{Ok}
use Rattle.fam_outer.specs.declared.dialect.Includes.TheVariants.{Assert}
use Rattle.c_tree.specs.Tree.{Whole}
use Rattle.linear_atoms.specs.declared.atoms.Atom.{Atom}
use Rattle.cpp_conditions.specs.Numbering.{AreAllAmong}
use Rattle.cpp_conditions.specs.Propositions.{Proposition}
use Rattle.cpp_conditions.specs.Validity.{plain, IsValid}
use Rattle.cpp_lines.specs.Preprocessed.{preprocessed}
use Rattle.cpp_lines.specs.Sections.{truths_at}
use Rattle.cpp_lines.specs.Whole.{IsPreprocessed}
use Rattle.feature_values.specs.Values.{tests_of}
use Rattle.c_parser.specs.FamilyReading.{IsFamilyOf, uses_in}
use Rattle.c_parser.specs.Reading.{IsPlainReadOver}
use Rattle.c_parser.specs.Functions.{functions_of_bytes}
use Rattle.c_parser.specs.Variants.{VariantsAreRead, projection, truths_in, given_at}
use Rattle.famlint_loads.specs.declared.product_line.ProductLine.{ProductLine}
use Rattle.famlint_loads.specs.ProductLines.{IsProgramAt, IsUsableLine}

pub is_program_at : VariantsAreRead → (l : ProductLine) (values : List ℤ) (p : Whole) → IsFamilyOf l.dialect l.model l.text l.family → IsValid (plain l.model) values
    → p ≡ projection l.family (truths_in l.family values) → IsProgramAt l values p
is_program_at law l values p spelled valid e =
    let are = spelled.accepted.are in
    let told = are.told in
    let blanked = are.items.blanked in
    let text = preprocessed (truths_at values told.conditions) told.lines blanked in
    let made : IsPreprocessed l.dialect (plain l.model) (truths_at values) l.text text =
    record { blanked = blanked; told = told; without_comments = are.items.without_comments; read = are.items.read; is = refl } in
    record { text = text; preprocessed = made; read = subst (λ q. IsPlainReadOver Assert (given_at l.model (functions_of_bytes l.text) l.family values) text (Ok q)) (sym e) (law l.dialect l.model l.text text l.family values spelled valid made Assert) }

front_among : (atoms : List Atom) (ps qs : List (Proposition Atom)) → AreAllAmong atoms (ps ++ qs) → AreAllAmong atoms ps
front_among atoms [] qs h = tt
front_among atoms (p ∷ ps) qs h = (h.0, front_among atoms ps qs h.1)

-- the atoms of the constraints stand among those of the family
pub among_of : (l : ProductLine) → IsUsableLine l → AreAllAmong l.family.atoms (plain l.model).constraints
among_of l u = front_among l.family.atoms (plain l.model).constraints (u.spelled.accepted.are.told.conditions ++ tests_of l.model.features (uses_in l.model u.spelled.spelled)) u.spelled.conditions.atoms_are.all

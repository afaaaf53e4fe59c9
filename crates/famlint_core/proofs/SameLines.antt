-- Two product lines of the same bytes are the same, as far as answers tell of them.
use Rattle.std.proofs.Common.{◌≡◌, ℕ, Bool, List, [], ◌∷◌, ◌++◌, map, Option, Result, Ok, refl, sym, ap, subst, ◌∙◌}
use Rattle.fam_outer.specs.declared.dialect.Dialect.{Dialect}
use Rattle.fam_outer.specs.declared.faults.FileCode.{FileCode}
use Rattle.fam_outer.specs.declared.faults.Place.{Place}
use Rattle.linear_atoms.specs.declared.atoms.Atom.{Atom}
use Rattle.linear_atoms.specs.Rising.{AreRising}
use Rattle.cpp_conditions.specs.declared.formulas.Formula.{Formula}
use Rattle.cpp_conditions.specs.declared.models.Model.{Model}
use Rattle.cpp_conditions.specs.Propositions.{Proposition, true_on}
use Rattle.cpp_conditions.specs.Validity.{Plain, plain}
use Rattle.cpp_conditions.specs.View.{formula}
use Rattle.cpp_conditions.proofs.Collected.{one_list}
use Rattle.cpp_lines.specs.Sections.{Told, TextIsRead, AreConditionsOf, AreNumbered}
use Rattle.c_tree.specs.Tree.{Whole}
use Rattle.c_tree.specs.View.{whole}
use Rattle.certificate_format.specs.declared.literals.Piece.{Piece}
use Rattle.certificate_format.specs.Regions.{piece_of}
use Rattle.c_parser.specs.declared.family.Family.{Family}
use Rattle.feature_values.specs.Values.{uses_of, tests_of}
use Rattle.c_parser.specs.FamilyReading.{IsFamilyOf, uses_in}
use Rattle.c_parser.specs.Variants.{AreSameFamily}
use Rattle.c_parser.proofs.KeptTexts.{TextsAreReadOnce, same_blanked}
use Rattle.lifted_analysis.specs.Promises.{truths_of}
use Rattle.famlint_loads.specs.declared.product_line.ProductLine.{ProductLine}
use Rattle.famlint_loads.specs.ProductLines.{IsProductLine}
use Rattle.famlint_core.proofs.OneNumbering.{one_numbering}
use Rattle.famlint_core.proofs.VariantOnce.{VariantLaws, same_line_model}

-- the models, the programs, the texts and the atoms are the same, and so are the truths of the conditions at each vector
pub record AreSameLines (k l : ProductLine) : Type 0 where
  pub model : plain k.model ≡ plain l.model
  pub code : whole k.family.code ≡ whole l.family.code
  pub text : k.text ≡ l.text
  pub atoms : k.family.atoms ≡ l.family.atoms
  pub rising : AreRising l.family.atoms
  pub truths : (v : List Bool) → truths_of k.family.conditions v ≡ truths_of l.family.conditions v

-- ---- the conditions of a family

abbrev lines_ok : Told → Result Told (FileCode × Place)
lines_ok t = Ok t

same_lines : (s t : Told) → lines_ok s ≡ lines_ok t → s ≡ t
same_lines s t e = let k : lines_ok s ≡ lines_ok t = e in cc

truths_by : (v : List Bool) (fs : List Formula) → truths_of fs v ≡ map (λ (f : Proposition ℕ). true_on v f) (map formula fs)
truths_by v [] = refl
truths_by v (f ∷ fs) = ap (λ (ts : List Bool). true_on v (formula f) ∷ ts) (truths_by v fs)

record AreSameConditions (f g : Family) : Type 0 where
  atoms : f.atoms ≡ g.atoms
  rising : AreRising g.atoms
  truths : (v : List Bool) → truths_of f.conditions v ≡ truths_of g.conditions v

-- the atoms are those of the constraints and of the conditions of the text, and the formulas have their numbers
same_conditions : TextsAreReadOnce → (dialect : Dialect) (a b : Model) (bytes : List ℕ) (f g : Family) → plain a ≡ plain b → whole f.code ≡ whole g.code → IsFamilyOf dialect a bytes f → IsFamilyOf dialect b bytes g → AreSameConditions f g
same_conditions once dialect a b bytes f g e same o p =
    let h = o.accepted.are in
    let i = p.accepted.are in
    let blanked = same_blanked bytes h.items.blanked i.items.blanked h.items.without_comments i.items.without_comments in
    let read : TextIsRead dialect (plain b) i.items.blanked (Ok h.told) =
    subst (λ (m : Plain). TextIsRead dialect m i.items.blanked (Ok h.told)) e (subst (λ (z : List ℕ). TextIsRead dialect (plain a) z (Ok h.told)) blanked h.items.read) in
    let told : h.told ≡ i.told = same_lines h.told i.told (once dialect (plain b) i.items.blanked (Ok h.told) (Ok i.told) read i.items.read) in
    let names : o.spelled.names ≡ p.spelled.names = ap (λ (w : Whole). w.names) (sym o.code ∙ same ∙ p.code) in
    let tests : tests_of a.features (uses_in a o.spelled) ≡ tests_of b.features (uses_in b p.spelled) =
    ap (λ (m : Plain). tests_of m.features (uses_of m.features o.spelled.names)) e ∙ ap (λ (ns : List (List ℕ)). tests_of b.features (uses_of b.features ns)) names in
    let conditions : List (Proposition Atom) = i.told.conditions ++ tests_of b.features (uses_in b p.spelled) in
    let together : h.told.conditions ++ tests_of a.features (uses_in a o.spelled) ≡ i.told.conditions ++ tests_of b.features (uses_in b p.spelled) =
    ap (λ (t : Told). t.conditions ++ tests_of a.features (uses_in a o.spelled)) told ∙ ap (λ (ps : List (Proposition Atom)). i.told.conditions ++ ps) tests in
    let mine : AreConditionsOf (plain b) conditions f.atoms f.conditions =
    subst (λ (ps : List (Proposition Atom)). AreConditionsOf (plain b) ps f.atoms f.conditions) together
    (subst (λ (m : Plain). AreConditionsOf m (h.told.conditions ++ tests_of a.features (uses_in a o.spelled)) f.atoms f.conditions) e o.conditions) in
    let yours : AreConditionsOf (plain b) conditions g.atoms g.conditions = p.conditions in
    let atoms : f.atoms ≡ g.atoms = one_list ((plain b).constraints ++ conditions) f.atoms g.atoms mine.atoms_are yours.atoms_are in
    let numbered : AreNumbered g.atoms conditions f.conditions = subst (λ (xs : List Atom). AreNumbered xs conditions f.conditions) atoms mine.numbered in
    let formulas : map formula f.conditions ≡ map formula g.conditions = one_numbering g.atoms yours.atoms_are.rising conditions f.conditions g.conditions numbered yours.numbered in
    record {
      atoms = atoms;
      rising = yours.atoms_are.rising;
      truths = λ v. truths_by v f.conditions ∙ ap (λ (fs : List (Proposition ℕ)). map (λ (h : Proposition ℕ). true_on v h) fs) formulas ∙ sym (truths_by v g.conditions);
    }

-- ---- product lines

-- over models with the same features and constraints, families that the same bytes are read as
pub are_same_by : VariantLaws → TextsAreReadOnce → (dialect : Dialect) (bytes : List ℕ) (k l : ProductLine) → plain k.model ≡ plain l.model → k.text ≡ l.text
    → IsFamilyOf dialect k.model bytes k.family → IsFamilyOf dialect l.model bytes l.family → AreSameLines k l
are_same_by laws once dialect bytes k l e text h i =
    let family : AreSameFamily k.family l.family = laws.families dialect k.model l.model bytes k.family l.family e h i in
    let conditions : AreSameConditions k.family l.family = same_conditions once dialect k.model l.model bytes k.family l.family e family.code h i in
    record { model = e; code = family.code; text = text; atoms = conditions.atoms; rising = conditions.rising; truths = conditions.truths }

pub are_same : VariantLaws → TextsAreReadOnce → (dialect : Dialect) (m f : List ℕ) (k l : ProductLine) → IsProductLine dialect m f k → IsProductLine dialect m f l → AreSameLines k l
are_same laws once dialect m f k l h i = are_same_by laws once dialect f k l (same_line_model laws dialect m f k l h i) (h.text ∙ sym i.text) h.family i.family

-- ---- certificates

-- what is so over the pieces and the names of one is so over those of the other
pub over_line : (k l : ProductLine) → AreSameLines k l → (P : (List ℕ → Option Piece) → List (List ℕ) → Type 0) → P (piece_of k.model.features k.family.atoms) (whole k.family.code).names
    → P (piece_of l.model.features l.family.atoms) (whole l.family.code).names
over_line k l e P h =
    subst (λ (w : Whole). P (piece_of l.model.features l.family.atoms) w.names) e.code
    (subst (λ (atoms : List Atom). P (piece_of l.model.features atoms) (whole k.family.code).names) e.atoms
    (subst (λ (m : Plain). P (piece_of m.features k.family.atoms) (whole k.family.code).names) e.model h))

-- A file is read as one family or has one refusal, over models with the same features and constraints.
use Rattle.std.proofs.Common.{◌≡◌, ℕ, ℤ, List, [], ◌++◌, length, Option, Some, None, Result, Ok, Err, refl, sym, ap, subst, ◌∙◌, inl, inr, ◌⊎◌}
use Rattle.fam_outer.specs.declared.dialect.Dialect.{Dialect}
use Rattle.fam_outer.specs.declared.faults.FileCode.{FileCode}
use Rattle.fam_outer.specs.declared.faults.Place.{Place}
use Rattle.fam_outer.specs.Places.{end_place}
use Rattle.fam_outer.specs.Results.{and_then}
use Rattle.linear_atoms.specs.declared.atoms.Atom.{Atom}
use Rattle.linear_atoms.specs.declared.atoms.Feature.{Feature}
use Rattle.cpp_conditions.specs.declared.formulas.Formula.{Formula}
use Rattle.cpp_conditions.specs.declared.models.Model.{Model}
use Rattle.cpp_conditions.specs.Validity.{Plain, plain}
use Rattle.cpp_lines.specs.Code.{code_of}
use Rattle.cpp_lines.specs.Sections.{Told, TextIsRead, AreConditionsOf, truths_at}
use Rattle.cpp_lines.specs.Whole.{blanked_file}
use Rattle.cpp_lines.proofs.Numbering.{same_count}
use Rattle.c_tree.specs.Tree.{Whole}
use Rattle.c_tree.specs.View.{whole}
use Rattle.c_grammar.specs.Within.{SpellsWithin}
use Rattle.feature_values.specs.Declarators.{with_values}
use Rattle.feature_values.specs.Values.{uses_of, tests_of}
use Rattle.family_names.specs.Laws.{NamesAreJudgedOnce}
use Rattle.family_names.specs.Names.{IsFirstNameFault}
use Rattle.for_blocks.specs.Blocks.{unfolded}
use Rattle.c_parser.specs.declared.family_items.Conditions.{Conditions}
use Rattle.c_parser.specs.declared.family.Family.{Family}
use Rattle.c_parser.specs.FamilyItems.{HasItems, HasEarlyFault, family_listed, feature_names}
use Rattle.c_parser.specs.FamilyReading.{IsFamilyOf, IsFamilyRefused, IsListedFamily, families_over, context_of, uses_in}
use Rattle.c_parser.specs.Functions.{functions_of_blanked, functions_of_bytes, own_functions}
use Rattle.c_parser.specs.Items.{Listed}
use Rattle.c_parser.specs.Order.{arranged}
use Rattle.c_parser.specs.Phases.{HasDeep, HasNameFault, HasWrong, wrong_code}
use Rattle.c_parser.specs.Reading.{items_of_code}
use Rattle.c_parser.specs.Variants.{AreSameFamily, FamiliesAreReadOnce, FamiliesAreNotRefused, FamiliesAreRefusedOnce, truths_in}
use Rattle.c_parser.proofs.KeptTexts.{TextsAreReadOnce}
use Rattle.c_parser.proofs.Readings.{Answer, GrammarLaws, deep_spelled, program_spelled, spelled_by, with_names, wrong_spelled}

-- what laws of lower crates say
pub record OnceLaws : Type 0 where
  pub texts : TextsAreReadOnce
  pub grammar : GrammarLaws
  pub names : NamesAreJudgedOnce

-- ---- the phases before the grammar

-- the lines, the conditions and the items, or the first fault
abbrev Lined : Type 0
Lined = Result (Told × Listed) (FileCode × Place)

abbrev with_tokens : Result Listed (FileCode × Place) → Told → Lined
with_tokens (Ok tokens) told = Ok (told, family_listed told.lines tokens)
with_tokens (Err fault) told = Err fault

-- the names and items of code, by two numberings
abbrev numbered : Plain → List ℕ → Result Listed (FileCode × Place)
numbered model code = and_then (items_of_code (own_functions code) [] code) (λ first. items_of_code (own_functions code) (arranged (feature_names model) first) code)

abbrev lined : Plain → List ℕ → Result Told (FileCode × Place) → Lined
lined model blanked (Ok told) = with_tokens (numbered model (code_of blanked)) told
lined model blanked (Err fault) = Err fault

-- what the lines of a file without its comments come to
abbrev Comes : Dialect → Plain → Result (List ℕ) (FileCode × Place) → Lined → Type 0
Comes dialect model (Ok blanked) x = (told : Result Told (FileCode × Place)) × TextIsRead dialect model blanked told × (x ≡ lined model blanked told)
Comes dialect model (Err fault) x = x ≡ Err fault

comes_once : TextsAreReadOnce → (dialect : Dialect) (model : Plain) (file : Result (List ℕ) (FileCode × Place)) (x y : Lined) → Comes dialect model file x → Comes dialect model file y → x ≡ y
comes_once once dialect model (Ok blanked) x y (s, h, i) (t, k, j) = i ∙ ap (lined model blanked) (once dialect model blanked s t h k) ∙ sym j
comes_once once dialect model (Err fault) x y h k = h ∙ sym k

early_comes : (dialect : Dialect) (model : Plain) (bytes : List ℕ) (fault : FileCode × Place) → HasEarlyFault dialect model bytes fault → Comes dialect model (blanked_file bytes) (Err fault)
early_comes dialect model bytes fault (inl e) = subst (λ (r : Result (List ℕ) (FileCode × Place)). Comes dialect model r (Err fault)) (sym e) refl
early_comes dialect model bytes fault (inr (inl h)) = subst (λ (r : Result (List ℕ) (FileCode × Place)). Comes dialect model r (Err fault)) (sym h.without_comments) (Err fault, h.read, refl)
early_comes dialect model bytes fault (inr (inr h)) =
    subst (λ (r : Result (List ℕ) (FileCode × Place)). Comes dialect model r (Err fault)) (sym h.without_comments)
    (Ok h.told, h.read, sym (ap (λ (r : Result Listed (FileCode × Place)). with_tokens (and_then r (λ first. items_of_code (own_functions (code_of h.blanked)) (arranged (feature_names model) first) (code_of h.blanked))) h.told) h.token))

items_come : (dialect : Dialect) (model : Plain) (bytes : List ℕ) (told : Told) (l : Listed) → HasItems dialect model bytes told l → Comes dialect model (blanked_file bytes) (Ok (told, l))
items_come dialect model bytes told l h =
    let is : lined model h.blanked (Ok told) ≡ Ok (told, l) =
    ap (λ (r : Result Listed (FileCode × Place)). with_tokens (and_then r (λ first. items_of_code (own_functions (code_of h.blanked)) (arranged (feature_names model) first) (code_of h.blanked))) told) h.first_are
    ∙ ap (λ (r : Result Listed (FileCode × Place)). with_tokens r told) h.tokens_are ∙ ap (λ (k : Listed). Ok (told, k)) (sym h.is) in
    subst (λ (r : Result (List ℕ) (FileCode × Place)). Comes dialect model r (Ok (told, l))) (sym h.without_comments) (Ok told, h.read, sym is)

-- ---- the grammar

abbrev spelled : Listed → Place → Answer
spelled l end = spelled_by (wrong_code l.items) l end

-- ---- the names

-- the first fault of a name over the functions of a file, by some formulas of the conditions
record HaveFirstFault (model : Model) (functions : List (List ℕ)) (told : Told) (l : Listed) (fault : Option (FileCode × Place)) : Type 0 where
  atoms : List Atom
  conditions : List Formula
  are : AreConditionsOf (plain model) told.conditions atoms conditions
  is : IsFirstNameFault (context_of model atoms conditions l.names functions) (unfolded l.items) fault

named_once : NamesAreJudgedOnce → (a b : Model) → plain a ≡ plain b → (functions : List (List ℕ)) (told : Told) (l : Listed) (f g : Option (FileCode × Place)) → HaveFirstFault a functions told l f → HaveFirstFault b functions told l g → f ≡ g
named_once judged a b e functions told l f g h k =
    judged (context_of a h.atoms h.conditions l.names functions) (context_of b k.atoms k.conditions l.names functions) (unfolded l.items) f g
    (record { models = e; names = refl; functions = refl; truths = λ values. h.are.truths values ∙ sym (k.are.truths values) }) h.is k.is

-- what items come to: behind a program the names are judged
abbrev Ends : Model → List (List ℕ) → Told → Listed → Answer → Answer → Type 0
Ends model functions told l (Ok p) r = (fault : Option (FileCode × Place)) × HaveFirstFault model functions told l fault × (r ≡ with_names fault p)
Ends model functions told l (Err fault) r = r ≡ Err fault

ends_once : NamesAreJudgedOnce → (a b : Model) → plain a ≡ plain b → (functions : List (List ℕ)) (told : Told) (l : Listed) (x r s : Answer) → Ends a functions told l x r → Ends b functions told l x s → r ≡ s
ends_once judged a b e functions told l (Ok p) r s (f, h, i) (g, k, j) = i ∙ ap (λ (o : Option (FileCode × Place)). with_names o p) (named_once judged a b e functions told l f g h k) ∙ sym j
ends_once judged a b e functions told l (Err fault) r s h k = h ∙ sym k

-- what is known of a family are the functions of its bytes
functions_are : (dialect : Dialect) (model : Plain) (bytes : List ℕ) (l : Listed) (known : Conditions) → IsListedFamily dialect model bytes l known → known.functions ≡ functions_of_bytes bytes
functions_are dialect model bytes l known are = are.functions ∙ sym (ap functions_of_blanked are.items.without_comments)

judged_ends : GrammarLaws → (dialect : Dialect) (model : Model) (bytes : List ℕ) (l : Listed) (known : Conditions) (end : Place) (p : Whole) (fault : Option (FileCode × Place)) → (are : IsListedFamily dialect (plain model) bytes l known)
    → SpellsWithin l.names p l.items → (families_over dialect model).named l known fault → Ends model (functions_of_bytes bytes) are.told l (spelled l end) (with_names fault p)
judged_ends laws dialect model bytes l known end p fault are s n =
    let is : IsFirstNameFault (context_of model known.atoms known.formulas l.names (functions_of_bytes bytes)) (unfolded l.items) fault =
    subst (λ (fs : List (List ℕ)). IsFirstNameFault (context_of model known.atoms known.formulas l.names fs) (unfolded l.items) fault) (functions_are dialect (plain model) bytes l known are) n in
    subst (λ (x : Answer). Ends model (functions_of_bytes bytes) are.told l x (with_names fault p)) (sym (program_spelled laws (wrong_code l.items) l end p s))
    (fault, record { atoms = known.atoms; conditions = known.formulas; are = are.conditions; is = is }, refl)

fault_ends : GrammarLaws → (dialect : Dialect) (model : Model) (bytes : List ℕ) (l : Listed) (known : Conditions) (end : Place) (fault : FileCode × Place) → (are : IsListedFamily dialect (plain model) bytes l known)
    → HasWrong l end fault ⊎ (HasDeep l end fault ⊎ HasNameFault (families_over dialect model) l known fault) → Ends model (functions_of_bytes bytes) are.told l (spelled l end) (Err fault)
fault_ends laws dialect model bytes l known end fault are (inl w) = subst (λ (x : Answer). Ends model (functions_of_bytes bytes) are.told l x (Err fault)) (sym (wrong_spelled laws (wrong_code l.items) l end w.position w.wrong)) (ap (λ (f : FileCode × Place). Err f) w.is)
fault_ends laws dialect model bytes l known end fault are (inr (inl w)) = subst (λ (x : Answer). Ends model (functions_of_bytes bytes) are.told l x (Err fault)) (sym (deep_spelled laws (wrong_code l.items) l end w.position w.deep)) (ap (λ (f : FileCode × Place). Err f) w.is)
fault_ends laws dialect model bytes l known end fault are (inr (inr n)) = judged_ends laws dialect model bytes l known end n.program (Some fault) are n.spelled n.names

-- ---- all phases

abbrev EndsBehind : Model → List (List ℕ) → Place → Lined → Answer → Type 0
EndsBehind model functions end (Ok x) r = Ends model functions x.0 x.1 (spelled x.1 end) r
EndsBehind model functions end (Err fault) r = r ≡ Err fault

-- the program of a family, or its refusal, by its phases
record IsReached (dialect : Dialect) (model : Model) (bytes : List ℕ) (r : Answer) : Type 0 where
  lines : Lined
  come : Comes dialect (plain model) (blanked_file bytes) lines
  ends : EndsBehind model (functions_of_bytes bytes) (end_place bytes) lines r

family_reached : GrammarLaws → (dialect : Dialect) (model : Model) (bytes : List ℕ) (f : Family) → (o : IsFamilyOf dialect model bytes f) → IsReached dialect model bytes (Ok o.spelled)
family_reached laws dialect model bytes f o =
    let a = o.accepted in
    record {
      lines = Ok (o.accepted.are.told, o.accepted.listed);
      come = items_come dialect (plain model) bytes a.are.told a.listed a.are.items;
      ends = judged_ends laws dialect model bytes a.listed o.known (end_place bytes) o.spelled None a.are a.spelled a.names;
    }

refusal_reached : GrammarLaws → (dialect : Dialect) (model : Model) (bytes : List ℕ) (fault : FileCode × Place) → IsFamilyRefused dialect model bytes fault → IsReached dialect model bytes (Err fault)
refusal_reached laws dialect model bytes fault (inl h) = record { lines = Err fault; come = early_comes dialect (plain model) bytes fault h; ends = refl }
refusal_reached laws dialect model bytes fault (inr h) = record {
  lines = Ok (h.are.told, h.listed);
  come = items_come dialect (plain model) bytes h.are.told h.listed h.are.items;
  ends = fault_ends laws dialect model bytes h.listed h.known (end_place bytes) fault h.are h.is;
}

same_lines : TextsAreReadOnce → (dialect : Dialect) (a b : Model) → plain a ≡ plain b → (bytes : List ℕ) (x y : Lined) → Comes dialect (plain a) (blanked_file bytes) x → Comes dialect (plain b) (blanked_file bytes) y → x ≡ y
same_lines once dialect a b e bytes x y h k = comes_once once dialect (plain b) (blanked_file bytes) x y (subst (λ (m : Plain). Comes dialect m (blanked_file bytes) x) e h) k

end_once : NamesAreJudgedOnce → (a b : Model) → plain a ≡ plain b → (functions : List (List ℕ)) (end : Place) (x : Lined) (r s : Answer) → EndsBehind a functions end x r → EndsBehind b functions end x s → r ≡ s
end_once judged a b e functions end (Ok x) r s h k = ends_once judged a b e functions x.0 x.1 (spelled x.1 end) r s h k
end_once judged a b e functions end (Err fault) r s h k = h ∙ sym k

reached_once : OnceLaws → (dialect : Dialect) (a b : Model) → plain a ≡ plain b → (bytes : List ℕ) (r s : Answer) → IsReached dialect a bytes r → IsReached dialect b bytes s → r ≡ s
reached_once laws dialect a b e bytes r s h k =
    let same : h.lines ≡ k.lines = same_lines laws.texts dialect a b e bytes h.lines k.lines h.come k.come in
    end_once laws.names a b e (functions_of_bytes bytes) (end_place bytes) k.lines r s (subst (λ (x : Lined). EndsBehind a (functions_of_bytes bytes) (end_place bytes) x r) same h.ends) k.ends

-- ---- the laws

abbrev answer_ok : Whole → Answer
answer_ok p = Ok p

abbrev answer_err : FileCode × Place → Answer
answer_err f = Err f

same_program : (p q : Whole) → answer_ok p ≡ answer_ok q → p ≡ q
same_program p q e = let k : answer_ok p ≡ answer_ok q = e in cc

same_fault : (f g : FileCode × Place) → answer_err f ≡ answer_err g → f ≡ g
same_fault f g e = let k : answer_err f ≡ answer_err g = e in cc

not_both : (p : Whole) (f : FileCode × Place) → answer_ok p ≡ answer_err f → ⊥
not_both p f e = let k : answer_ok p ≡ answer_err f = e in cc

abbrev told_ok : Told × Listed → Lined
told_ok x = Ok x

same_told : (x y : Told × Listed) → told_ok x ≡ told_ok y → x.0 ≡ y.0
same_told x y e = let k : told_ok x ≡ told_ok y = e in let i : x ≡ y = cc in ap (λ (z : Told × Listed). z.0) i

-- the values of a program stand behind the conditions of its file
pub record HasValues (features : List Feature) (told : Told) (spelled : Whole) (f : Family) : Type 0 where
  pub code : whole f.code ≡ with_values (length told.conditions) features (uses_of features spelled.names) spelled
  pub truths : (values : List ℤ) → truths_in f values ≡ truths_at values (told.conditions ++ tests_of features (uses_of features spelled.names))

pub has_values : (dialect : Dialect) (model : Model) (bytes : List ℕ) (f : Family) → (o : IsFamilyOf dialect model bytes f) → HasValues model.features o.accepted.are.told o.spelled f
has_values dialect model bytes f o = record {
  code = o.code ∙ ap (λ (n : ℕ). with_values n model.features (uses_in model o.spelled) o.spelled) (sym (same_count o.known.atoms o.accepted.are.told.conditions o.known.formulas o.accepted.are.conditions.numbered));
  truths = o.conditions.truths;
}

same_values : (features : List Feature) (told : Told) (spelled : Whole) (f g : Family) → HasValues features told spelled f → HasValues features told spelled g → AreSameFamily f g
same_values features told spelled f g h k = record { code = h.code ∙ sym k.code; truths = λ values. h.truths values ∙ sym (k.truths values) }

pub families_once : OnceLaws → FamiliesAreReadOnce
families_once laws dialect a b bytes f g e o p =
    let told : p.accepted.are.told ≡ o.accepted.are.told =
    sym (same_told (o.accepted.are.told, o.accepted.listed) (p.accepted.are.told, p.accepted.listed)
    (same_lines laws.texts dialect a b e bytes (Ok (o.accepted.are.told, o.accepted.listed)) (Ok (p.accepted.are.told, p.accepted.listed))
    (items_come dialect (plain a) bytes o.accepted.are.told o.accepted.listed o.accepted.are.items) (items_come dialect (plain b) bytes p.accepted.are.told p.accepted.listed p.accepted.are.items))) in
    let spelled : p.spelled ≡ o.spelled =
    sym (same_program o.spelled p.spelled (reached_once laws dialect a b e bytes (Ok o.spelled) (Ok p.spelled) (family_reached laws.grammar dialect a bytes f o) (family_reached laws.grammar dialect b bytes g p))) in
    let features : b.features ≡ a.features = ap (λ (m : Plain). m.features) (sym e) in
    same_values a.features o.accepted.are.told o.spelled f g (has_values dialect a bytes f o)
    (subst (λ (fs : List Feature). HasValues fs o.accepted.are.told o.spelled g) features
    (subst (λ (t : Told). HasValues b.features t o.spelled g) told (subst (λ (w : Whole). HasValues b.features p.accepted.are.told w g) spelled (has_values dialect b bytes g p))))

pub not_refused : OnceLaws → FamiliesAreNotRefused
not_refused laws dialect a b bytes f fault e o h =
    not_both o.spelled fault (reached_once laws dialect a b e bytes (Ok o.spelled) (Err fault) (family_reached laws.grammar dialect a bytes f o) (refusal_reached laws.grammar dialect b bytes fault h))

pub refused_once : OnceLaws → FamiliesAreRefusedOnce
refused_once laws dialect a b bytes f g e h k = same_fault f g (reached_once laws dialect a b e bytes (Err f) (Err g) (refusal_reached laws.grammar dialect a bytes f h) (refusal_reached laws.grammar dialect b bytes g k))

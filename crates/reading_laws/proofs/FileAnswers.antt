-- Each file has an answer, by its phases.
use Rattle.std.proofs.Common.{◌≡◌, ℕ, List, [], ◌∷◌, length, Option, Some, None, Result, Ok, Err, refl, ap, inl, inr, arith}
use Rattle.std.proofs.lemmas.List.{length-append}
use Rattle.fam_outer.specs.declared.dialect.Dialect.{Dialect}
use Rattle.fam_outer.specs.declared.faults.FileCode.{FileCode}
use Rattle.fam_outer.specs.declared.faults.FileCode.TheVariants.{TooDeep}
use Rattle.fam_outer.specs.declared.faults.Place.{Place}
use Rattle.fam_outer.specs.Places.{end_place}
use Rattle.fam_outer.specs.Results.{and_then}
use Rattle.linear_atoms.specs.declared.atoms.Atom.{Atom}
use Rattle.cpp_conditions.specs.declared.formulas.Formula.{Formula}
use Rattle.cpp_conditions.specs.declared.models.Model.{Model}
use Rattle.cpp_conditions.specs.Validity.{plain}
use Rattle.c_grammar.specs.Deep as limits
use Rattle.c_grammar.specs.Deep.{Fault, guarded}
use Rattle.c_grammar.specs.Grammar.{File, whole_of}
use Rattle.c_grammar.specs.Machine.{start}
use Rattle.c_grammar.specs.Within.{SpellsWithin}
use Rattle.c_tokens.specs.declared.token.Token.{Token}
use Rattle.c_tokens.specs.Reading.{tokens_of}
use Rattle.c_tree.specs.Tree.{Whole}
use Rattle.cpp_lines.specs.Code.{code_of}
use Rattle.cpp_lines.specs.Sections.{Told, TextIsRead}
use Rattle.cpp_lines.specs.Whole.{blanked_file}
use Rattle.family_names.specs.Names.{IsFirstNameFault}
use Rattle.for_blocks.specs.Blocks.{unfolded}
use Rattle.c_parser.specs.FamilyItems.{feature_names, family_listed}
use Rattle.c_parser.specs.FamilyReading.{IsFamilyRefused, IsListedFamily, context_of, families_over}
use Rattle.c_parser.specs.Functions.{own_functions}
use Rattle.c_parser.specs.Items.{Listed, listed}
use Rattle.c_parser.specs.Order.{arranged}
use Rattle.c_parser.specs.Phases.{IsAcceptedFile, place_with, wrong_code}
use Rattle.c_parser.proofs.Readings.{GrammarLaws}
use Rattle.reading_laws.specs.Answered.{NamesAreJudged, TextsHaveLines}
use Rattle.reading_laws.proofs.NumberedFormulas.{conditions_of}

-- the bytes are read over a model as this program, with these conditions and their atoms, or they have this fault
pub data HasAnswer (dialect : Dialect) (model : Model) (bytes : List ℕ) : Type 0 where
  accepted : (conditions : List Formula) (atoms : List Atom) (functions : List (List ℕ)) (program : Whole) → IsAcceptedFile (families_over dialect model) bytes (record { formulas = conditions; atoms = atoms; functions = functions }) program → HasAnswer dialect model bytes
  refused : (fault : FileCode × Place) → IsFamilyRefused dialect model bytes fault → HasAnswer dialect model bytes

-- what is used of the phases
pub record PhaseLaws : Type 0 where
  pub lines : TextsHaveLines
  pub grammar : GrammarLaws
  pub names : NamesAreJudged

-- ---- the items

abbrev IsFamilyListed : Dialect → Model → List ℕ → Listed → List Formula → List Atom → List (List ℕ) → Type 0
IsFamilyListed dialect model bytes l conditions atoms functions = IsListedFamily dialect (plain model) bytes l (record { formulas = conditions; atoms = atoms; functions = functions })

abbrev Names : Model → Listed → List Formula → List Atom → List (List ℕ) → Option (FileCode × Place) → Type 0
Names model l conditions atoms functions fault = IsFirstNameFault (context_of model atoms conditions l.names functions) (unfolded l.items) fault

with_names : (dialect : Dialect) (model : Model) (bytes : List ℕ) (l : Listed) (conditions : List Formula) (atoms : List Atom) (functions : List (List ℕ)) (p : Whole) → IsFamilyListed dialect model bytes l conditions atoms functions → SpellsWithin l.names p l.items → (fault : Option (FileCode × Place)) → Names model l conditions atoms functions fault → HasAnswer dialect model bytes
with_names dialect model bytes l conditions atoms functions p are s None n = accepted conditions atoms functions p (record { listed = l; are = are; spelled = s; names = n })
with_names dialect model bytes l conditions atoms functions p are s (Some fault) n = refused fault (inr (record { listed = l; known = record { formulas = conditions; atoms = atoms; functions = functions }; are = are; is = inr (inr (record { program = p; spelled = s; names = n })) }))

by_machine : PhaseLaws → (dialect : Dialect) (model : Model) (bytes : List ℕ) (l : Listed) (conditions : List Formula) (atoms : List Atom) (functions : List (List ℕ)) → IsFamilyListed dialect model bytes l conditions atoms functions → (g : Result File Fault) → guarded start 0 l.items ≡ g → HasAnswer dialect model bytes
by_machine laws dialect model bytes l conditions atoms functions are (Ok f) e =
    let n = laws.names (context_of model atoms conditions l.names functions) (unfolded l.items) in
    with_names dialect model bytes l conditions atoms functions (whole_of l.names l.items f) are (record { file = f; forms = (laws.grammar.reads l.items f).0 e; is = refl }) n.0 n.1
by_machine laws dialect model bytes l conditions atoms functions are (Err (limits.Wrong k)) e =
    let b = (laws.grammar.stops_wrong l.items k).0 e in
    let w = b.0 in
    refused (wrong_code l.items (length w.before), place_with l.items (length w.before) (end_place bytes)) (inr (record {
      listed = l;
      known = record { formulas = conditions; atoms = atoms; functions = functions };
      are = are;
      is = inl (record {
        position = length w.before;
        wrong = record { left = k; position = omega (arith, ap length w.cut, length-append w.before w.rest, w.left); wrong = w; shallow = b.1 };
        is = refl;
      });
    }))
by_machine laws dialect model bytes l conditions atoms functions are (Err (limits.Deep k)) e =
    let a = (laws.grammar.stops_deep l.items k).0 e in
    refused (TooDeep, place_with l.items (length a.before) (end_place bytes)) (inr (record {
      listed = l;
      known = record { formulas = conditions; atoms = atoms; functions = functions };
      are = are;
      is = inr (inl (record {
        position = length a.before;
        deep = record { left = k; position = omega (arith, ap length a.cut, length-append a.before (a.item ∷ a.rest), a.left); deep = a };
        is = refl;
      }));
    }))

-- ---- the phases before the grammar

-- the items of tokens over functions and given names
abbrev listed_by : List (List ℕ) → List (List ℕ) → List ℕ → Result (List Token) (FileCode × Place) → Result Listed (FileCode × Place)
listed_by functions given code x = and_then x (λ ts. Ok (listed functions given code ts))

by_tokens : PhaseLaws → (dialect : Dialect) (model : Model) (bytes blanked : List ℕ) (told : Told) → blanked_file bytes ≡ Ok blanked → TextIsRead dialect (plain model) blanked (Ok told) → (x : Result (List Token) (FileCode × Place)) → tokens_of (code_of blanked) ≡ x → HasAnswer dialect model bytes
by_tokens laws dialect model bytes blanked told b r (Ok ts) e =
    let known = conditions_of (plain model) told.conditions in
    let functions = own_functions (code_of blanked) in
    let first : Listed = listed functions [] (code_of blanked) ts in
    let given = arranged (feature_names (plain model)) first in
    let tokens : Listed = listed functions given (code_of blanked) ts in
    let l : Listed = family_listed told.lines tokens in
    by_machine laws dialect model bytes l known.conditions known.atoms functions (record {
      told = told;
      items = record {
        blanked = blanked;
        without_comments = b;
        read = r;
        first = first;
        first_are = ap (listed_by functions [] (code_of blanked)) e;
        tokens = tokens;
        tokens_are = ap (listed_by functions given (code_of blanked)) e;
        is = refl;
      };
      functions = refl;
      conditions = known.are;
    }) (guarded start 0 l.items) refl
by_tokens laws dialect model bytes blanked told b r (Err fault) e = refused fault (inl (inr (inr (record { blanked = blanked; told = told; without_comments = b; read = r; token = ap (listed_by (own_functions (code_of blanked)) [] (code_of blanked)) e }))))

by_lines : PhaseLaws → (dialect : Dialect) (model : Model) (bytes blanked : List ℕ) → blanked_file bytes ≡ Ok blanked → (x : Result Told (FileCode × Place)) → TextIsRead dialect (plain model) blanked x → HasAnswer dialect model bytes
by_lines laws dialect model bytes blanked b (Ok told) r = by_tokens laws dialect model bytes blanked told b r (tokens_of (code_of blanked)) refl
by_lines laws dialect model bytes blanked b (Err fault) r = refused fault (inl (inr (inl (record { blanked = blanked; without_comments = b; read = r }))))

by_comments : PhaseLaws → (dialect : Dialect) (model : Model) (bytes : List ℕ) (x : Result (List ℕ) (FileCode × Place)) → blanked_file bytes ≡ x → HasAnswer dialect model bytes
by_comments laws dialect model bytes (Ok blanked) b = let x = laws.lines dialect (plain model) blanked in by_lines laws dialect model bytes blanked b x.0 x.1
by_comments laws dialect model bytes (Err fault) b = refused fault (inl (inl b))

pub has_answer : PhaseLaws → (dialect : Dialect) (model : Model) (bytes : List ℕ) → HasAnswer dialect model bytes
has_answer laws dialect model bytes = by_comments laws dialect model bytes (blanked_file bytes) refl

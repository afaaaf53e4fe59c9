-- What reading a file over given names answers, by what its phases answered.
use Rattle.std.proofs.Common.{◌≡◌, ℕ, ◌≤◌, false, List, [], length, None, Result, Ok, Err, refl, sym, ap, subst, ◌∙◌}
use Rattle.std.specs.Prelude.{⊤, IfOk}
use Rattle.fam_outer.specs.declared.dialect.Includes.{Includes}
use Rattle.fam_outer.specs.declared.faults.FileCode.{FileCode}
use Rattle.fam_outer.specs.declared.faults.FileRefusal.{FileRefusal}
use Rattle.fam_outer.specs.declared.faults.Place.{Place}
use Rattle.fam_outer.specs.Results.{and_then}
use Rattle.c_tokens.specs.declared.token.Token.{Token}
use Rattle.c_tokens.specs.Reading.{tokens_of}
use Rattle.c_tree.specs.Tree.{Whole}
use Rattle.c_tree.specs.View.{whole}
use Rattle.c_tree.specs.declared.tree.Program.{Program}
use Rattle.c_tree.specs.Whole.{IsProgram, IsPlainProgram}
use Rattle.c_grammar.specs.declared.items.Item.{Item}
use Rattle.c_grammar.specs.Facts.{PlainWithoutGroups}
use Rattle.c_grammar.specs.Grammar.{has_groups}
use Rattle.c_grammar.specs.Within.{WithinIsFile}
use Rattle.for_blocks.specs.Blocks.{unfolded}
use Rattle.c_parser.specs.declared.names.Limits.{Limits}
use Rattle.c_parser.specs.declared.numbering.Numbered.{Numbered}
use Rattle.c_parser.specs.Items.{Listed, listed}
use Rattle.c_parser.specs.Judging.{counted}
use Rattle.c_parser.specs.Names.{first_name_fault, names_of}
use Rattle.c_parser.specs.Phases.{IsReadAs}
use Rattle.c_parser.specs.Signing.{IsListed, items_from}
use Rattle.c_parser.specs.Stages.{IsSpelledBy, given_in, list, listed_in}
use Rattle.c_parser.specs.Reading.{IsReadOver, DeclaresAmong, AreAmong, items_of, items_of_code, code_of_file, only_names, plain_files}
use Rattle.c_parser.proofs.Stepwise.{all_over}
use Rattle.c_parser.proofs.BlockNames.{BlockLaws, block_declared}
use Rattle.c_parser.proofs.FirstOccurrences.{none_new}
use Rattle.c_parser.proofs.NameNumbers.{AreBelow}

-- what was numbered is this list
pub same_list : (l : Listed) (made : Numbered) → IsListed l made → listed_in made ≡ l
same_list l made h = ap (λ (ns : List (List ℕ)). list ns made.items.items) h.names_are ∙ ap (λ (xs : List Item). list l.names xs) h.items_are

-- ---- the items of a file are those of its tokens

pub record StandsFor (functions : List (List ℕ)) (includes : Includes) (given : List (List ℕ)) (bytes : List ℕ) (l : Listed) : Type 0 where
  pub code : List ℕ
  pub tokens : List Token
  pub code_is : code_of_file includes bytes ≡ Ok code
  pub tokens_are : tokens_of code ≡ Ok tokens
  pub is : l ≡ listed functions given code tokens

abbrev listed_err : FileCode × Place → Result Listed (FileCode × Place)
listed_err f = Err f

abbrev pub listed_ok : Listed → Result Listed (FileCode × Place)
listed_ok l = Ok l

pub same_listed : (l m : Listed) → listed_ok l ≡ Ok m → m ≡ l
same_listed l m e = let g : listed_ok l ≡ listed_ok m = e in cc

pub no_list : (f : FileCode × Place) (l : Listed) (x : Result Listed (FileCode × Place)) → x ≡ Err f → x ≡ Ok l → ⊥
no_list f l x h k = let e : listed_err f ≡ listed_ok l = sym h ∙ k in cc

by_tokens : (functions : List (List ℕ)) (includes : Includes) (given : List (List ℕ)) (bytes code : List ℕ) (l : Listed) → code_of_file includes bytes ≡ Ok code → (x : Result (List Token) (FileCode × Place)) → tokens_of code ≡ x → items_of_code functions given code ≡ Ok l → StandsFor functions includes given bytes l
by_tokens functions includes given bytes code l c (Ok ts) e h = record {
  code = code;
  tokens = ts;
  code_is = c;
  tokens_are = e;
  is = same_listed (listed functions given code ts) l (sym (ap (λ (x : Result (List Token) (FileCode × Place)). and_then x (λ ts. Ok (listed functions given code ts))) e) ∙ h);
}
by_tokens functions includes given bytes code l c (Err fault) e h = absurd (no_list fault l (items_of_code functions given code) (ap (λ (x : Result (List Token) (FileCode × Place)). and_then x (λ ts. Ok (listed functions given code ts))) e) h)

by_code : (functions : List (List ℕ)) (includes : Includes) (given : List (List ℕ)) (bytes : List ℕ) (l : Listed) (x : Result (List ℕ) (FileCode × Place)) → code_of_file includes bytes ≡ x → and_then (code_of_file includes bytes) (items_of_code functions given) ≡ Ok l → StandsFor functions includes given bytes l
by_code functions includes given bytes l (Ok code) e h = by_tokens functions includes given bytes code l e (tokens_of code) refl (sym (ap (λ (x : Result (List ℕ) (FileCode × Place)). and_then x (items_of_code functions given)) e) ∙ h)
by_code functions includes given bytes l (Err fault) e h = absurd (no_list fault l (and_then (code_of_file includes bytes) (items_of_code functions given)) (ap (λ (x : Result (List ℕ) (FileCode × Place)). and_then x (items_of_code functions given)) e) h)

pub stands_for : (functions : List (List ℕ)) (includes : Includes) (given : List (List ℕ)) (bytes : List ℕ) (l : Listed) → items_of includes functions given bytes ≡ Ok l → StandsFor functions includes given bytes l
unfolding items_of
stands_for functions includes given bytes l is = by_code functions includes given bytes l (code_of_file includes bytes) refl is

-- the same tokens over other given names
pub stands_anew : (functions : List (List ℕ)) (includes : Includes) (given other : List (List ℕ)) (bytes : List ℕ) (l : Listed) → (s : StandsFor functions includes given bytes l) → items_of includes functions other bytes ≡ Ok (listed functions other s.code s.tokens)
unfolding items_of
stands_anew functions includes given other bytes l s =
    ap (λ (x : Result (List ℕ) (FileCode × Place)). and_then x (items_of_code functions other)) s.code_is
    ∙ ap (λ (x : Result (List Token) (FileCode × Place)). and_then x (λ ts. Ok (listed functions other s.code ts))) s.tokens_are

-- ---- over given names, among which are all that the file declares, a program has these

-- the numbers of names of its items are those of given names
among_given : BlockLaws → (limits : Limits) (given : List (List ℕ)) (items : List Item) → first_name_fault (counted limits) (unfolded items) ≡ None → AreAmong given items → AreBelow (length given) (names_of items)
among_given blocks limits given items none among = λ x h. among x (block_declared blocks limits items x none h)

names_given : BlockLaws → (functions : List (List ℕ)) (limits : Limits) (includes : Includes) (given : List (List ℕ)) (bytes : List ℕ) → DeclaresAmong includes functions given bytes → (l : Listed) → items_of includes functions given bytes ≡ Ok l → first_name_fault (counted limits) (unfolded l.items) ≡ None → l.names ≡ given
names_given blocks functions limits includes given bytes among l are none =
    let s = stands_for functions includes given bytes l are in
    let below : AreBelow (length given) (names_of l.items) = among_given blocks limits given l.items none (among l are) in
    let numbered : AreBelow (length given) (names_of (items_from functions s.code given s.tokens)) =
    subst (λ (xs : List Item). AreBelow (length given) (names_of xs)) (ap (λ (m : Listed). m.items) s.is ∙ sym (all_over functions s.code given s.tokens)) below in
    ap (λ (m : Listed). m.names) s.is ∙ none_new functions s.code given s.tokens numbered

-- no name is counted
abbrev uncounted : Limits
uncounted = record { variables = 0; locals = 0; constants = 0 }

pub has_given : BlockLaws → (functions : List (List ℕ)) (includes : Includes) (given : List (List ℕ)) (bytes : List ℕ) (r : Result Program FileRefusal) → DeclaresAmong includes functions given bytes → IsReadOver includes (only_names functions given) bytes r → IfOk r (λ p. (whole p).names ≡ given)
has_given blocks functions includes given bytes (Ok p) among a =
    ap (λ (w : Whole). w.names) a.is ∙ ap (λ (w : Whole). w.names) a.accepted.spelled.is ∙ names_given blocks functions uncounted includes given bytes among a.accepted.listed a.accepted.are a.accepted.names
has_given blocks functions includes given bytes (Err e) among h = tt

-- ---- a program with few names is well formed

abbrev FormedIfFew : Program → Type 0
FormedIfFew p = length (whole p).names ≤ 48 → IsProgram (whole p)

pub given_names : (given : List (List ℕ)) (bytes : List ℕ) (r : Result Program FileRefusal) → length given ≤ 48 → IfOk r (λ p. (whole p).names ≡ given) → IfOk r FormedIfFew → IfOk r (λ p. IsProgram (whole p))
given_names given bytes (Ok p) few same formed = formed (subst (λ (ns : List (List ℕ)). length ns ≤ 48) (sym same) few)
given_names given bytes (Err e) few same formed = tt

-- ---- no value comes from outside

pub reads_spelled : (functions : List (List ℕ)) (includes : Includes) (given : List (List ℕ)) (limits : Limits) (bytes : List ℕ) (p : Program) (known : ⊤) → IsReadAs (plain_files includes (given_in functions given limits)) bytes (Ok (p, known)) → IsReadOver includes (given_in functions given limits) bytes (Ok p)
reads_spelled functions includes given limits bytes p known a = record { spelled = whole p; accepted = a; is = refl }

-- ---- a program of items without groups is plain

pub plain_program : PlainWithoutGroups → WithinIsFile → (p : Whole) (known : ⊤) → IsSpelledBy (λ l known. has_groups l.items ≡ false) p known → IsPlainProgram p
plain_program law is_file p known h =
    let s = is_file h.listed.names h.listed.items p h.spelled in
    subst IsPlainProgram (sym s.is) (law h.listed.names h.listed.items s.file h.has s.forms)

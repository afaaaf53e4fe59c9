-- The names of a program that is read over its file's own names are those that the file declares, and there are few.
use Rattle.std.proofs.Common.{◌≡◌, ℕ, ◌+◌, ◌≤◌, ◌<◌, Bool, true, false, List, [], ◌∷◌, ◌++◌, length, get_or, Option, Some, None, Result, Ok, Err, refl, sym, ap, subst, ◌∙◌, append_assoc, append-nil, arith, inl}
use Rattle.std.specs.Prelude.{nat_eq, nat_lt, if◌then◌else◌, ◌&&◌, ◌||◌, IfOk}
use Rattle.std.specs.List.{list_any}
use Rattle.std.specs.Str.{bytes_eq}
use Rattle.std.proofs.lemmas.Bool.{eq-eqb}
use Rattle.std.proofs.lemmas.Bool.Decides.{nat_tests}
use Rattle.std.proofs.lemmas.List.{length-append, length-map}
use Rattle.std.proofs.lemmas.List.Folds.{list_any_at}
use Rattle.fam_outer.specs.declared.dialect.Includes.{Includes}
use Rattle.fam_outer.specs.declared.faults.FileCode.{FileCode}
use Rattle.fam_outer.specs.declared.faults.FileCode.TheVariants.{TooManyVariables, TooManyConstants}
use Rattle.fam_outer.specs.declared.faults.FileRefusal.{FileRefusal}
use Rattle.fam_outer.specs.declared.faults.FileRefusal.TheVariants as refusals
use Rattle.fam_outer.specs.declared.faults.Place.{Place}
use Rattle.fam_outer.specs.Results.{and_then}
use Rattle.c_tokens.specs.declared.token.Token.{Token}
use Rattle.c_tokens.specs.declared.token.TokenKind.{TokenKind}
use Rattle.c_tokens.specs.declared.token.TokenKind.TheVariants as kinds
use Rattle.c_tokens.specs.Reading.{tokens_of}
use Rattle.c_tree.specs.Tree.{Whole}
use Rattle.c_tree.specs.View.{whole}
use Rattle.c_tree.specs.Whole.{IsProgram}
use Rattle.c_tree.specs.declared.tree.Program.{Program}
use Rattle.c_grammar.specs.declared.items.Item.{Item}
use Rattle.c_grammar.specs.declared.items.Sign.{Sign}
use Rattle.c_grammar.specs.Facts.{AreFit}
use Rattle.c_grammar.specs.Within.{WithinIsFile}
use Rattle.for_blocks.specs.Blocks.{unfolded}
use Rattle.c_parser.specs.declared.names.Limits.{Limits}
use Rattle.c_parser.specs.declared.numbering.Numbered.{Numbered}
use Rattle.c_parser.specs.declared.order.Arranged.{Arranged}
use Rattle.c_parser.specs.Signs.{keyword_of}
use Rattle.c_parser.specs.Functions.{functions_of_bytes}
use Rattle.c_parser.specs.Items.{Listed, is_function, number_in, with_name, names_with_identifier, names_with_word, names_with, names_from, lexeme_in, items_over, listed, AreNewBehind, AreDistinct}
use Rattle.c_parser.specs.Judging.{counted}
use Rattle.c_parser.specs.Names.{declared_by, first_name_fault, is_seventeenth, limit_fault, names_at, each_once}
use Rattle.c_parser.specs.Order.{variables_of, locals_of, constants_of, arranged}
use Rattle.c_parser.specs.Reading.{Given, code_of_file, items_of_code, items_of, outside, own, own_names, IsPlainRead, IsRead, IsReadOver, AreDeclaredNames}
use Rattle.c_parser.specs.Stages.{IsOwn, list, listed_in}
use Rattle.c_parser.proofs.Arranging.{text_same, each_among, arranged_distinct, arranged_among, arranged_length}
use Rattle.c_parser.proofs.LocalDeclarations.{declared_all}
use Rattle.c_parser.proofs.BlockNames.{BlockLaws, blocks_told}
use Rattle.c_parser.proofs.Declared.{AreTold}
use Rattle.c_parser.proofs.FirstOccurrences.{first_names, names_below}
use Rattle.c_parser.proofs.Growing.{with_token}
use Rattle.c_parser.proofs.Lexical.{TokenLaws}
use Rattle.c_parser.proofs.NameNumbers.{number_at, number_among}
use Rattle.c_parser.proofs.Overs.{listed_ok, no_list, same_listed, stands_anew, stands_for}
use Rattle.c_parser.proofs.Renumbering.{fit_anew, listed_anew, renumbered}

-- ---- distinct names

new_last : (seen names : List (List ℕ)) (w : List ℕ) → AreNewBehind seen names → list_any (bytes_eq w) (seen ++ names) ≡ false → AreNewBehind seen (names ++ w ∷ [])
new_last seen [] w h e = (ap (list_any (bytes_eq w)) (sym (append-nil seen)) ∙ e, tt)
new_last seen (n ∷ ns) w h e = (h.0, new_last (seen ++ n ∷ []) ns w h.1 (ap (list_any (bytes_eq w)) (append_assoc seen (n ∷ []) ns) ∙ e))

with_distinct : (names : List (List ℕ)) (w : List ℕ) → AreDistinct names → AreDistinct (with_name names w)
with_distinct names w h = elim (list_any (bytes_eq w) names) as (λ b. list_any (bytes_eq w) names ≡ b → AreNewBehind [] (if b then names else names ++ w ∷ [])) [
  | true ↦ λ _. h
  | false ↦ λ e. new_last [] names w h e
] refl

identifier_distinct : (b : Bool) (names : List (List ℕ)) (w : List ℕ) → AreDistinct names → AreDistinct (names_with_identifier b names w)
identifier_distinct true names w h = h
identifier_distinct false names w h = with_distinct names w h

word_distinct : (functions names : List (List ℕ)) (w : List ℕ) (o : Option Sign) → AreDistinct names → AreDistinct (names_with_word functions names w o)
word_distinct functions names w (Some s) h = h
word_distinct functions names w None h = identifier_distinct (is_function functions w) names w h

token_distinct : (functions names : List (List ℕ)) (kind : TokenKind) (w : List ℕ) → AreDistinct names → AreDistinct (names_with functions names kind w)
token_distinct functions names (kinds.Number n) w h = h
token_distinct functions names kinds.Word w h = word_distinct functions names w (keyword_of w) h
token_distinct functions names kinds.Mark w h = h

pub distinct_from : (functions : List (List ℕ)) (text : List ℕ) (names : List (List ℕ)) (ts : List Token) → AreDistinct names → AreDistinct (names_from functions text names ts)
distinct_from functions text names [] h = h
distinct_from functions text names (t ∷ ts) h = distinct_from functions text (names_with functions names t.kind (lexeme_in text t)) ts (token_distinct functions names t.kind (lexeme_in text t) h)

-- each token brings one name at most
pub grows_by_few : (functions : List (List ℕ)) (text : List ℕ) (names : List (List ℕ)) (ts : List Token) → length (names_from functions text names ts) ≤ length names + length ts
grows_by_few functions text names [] = omega arith
grows_by_few functions text names (t ∷ ts) = omega (arith, (with_token functions names t.kind (lexeme_in text t)).1, grows_by_few functions text (names_with functions names t.kind (lexeme_in text t)) ts)

-- ---- the names of a file in their order, which are counted

abbrev pub limits_of : Listed → Limits
limits_of first = record { variables = length (variables_of [] first); locals = length (locals_of [] first); constants = length (constants_of [] first) }

-- without a fault, the items over them declare those of the text in their order
told_over : (functions : List (List ℕ)) → TokenLaws → BlockLaws → (first : Listed) (code : List ℕ) (ts : List Token) → tokens_of code ≡ Ok ts → first.names ≡ names_from functions code [] ts → AreDistinct first.names → first_name_fault (counted (limits_of first)) (unfolded (items_over functions (arranged [] first) code ts)) ≡ None
    → AreTold (limits_of first) (arranged [] first) first.names (items_over functions (arranged [] first) code ts)
told_over functions laws blocks first code ts is names distinct none =
    let all = arranged [] first in
    let items = items_over functions all code ts in
    let fit : AreFit (length (arranged [] first)) (items_over functions (arranged [] first) code ts) = fit_anew functions laws [] first code ts is distinct names in
    subst (λ (ns : List (List ℕ)). AreTold (limits_of first) (arranged [] first) ns (items_over functions (arranged [] first) code ts)) (first_names functions all code [] ts fit ∙ sym names)
    (blocks_told blocks (limits_of first) all items (names_below (length all) items fit) none)

-- so none of them is one too many
none_too_many : (limits : Limits) (first : Listed) (items : List Item) → AreDistinct first.names → AreTold limits (arranged [] first) first.names items → (x : ℕ) → x < length (arranged [] first) → limit_fault (counted limits) x ≡ None
none_too_many limits first items distinct h x lt =
    let w = get_or (arranged [] first) x [] in
    let apart : AreDistinct (arranged [] first) = arranged_distinct [] first distinct in
    let here : list_any (bytes_eq w) (arranged [] first) ≡ true = list_any_at (bytes_eq w) (arranged [] first) x [] lt (text_same w) in
    let there : list_any (bytes_eq w) (names_at (arranged [] first) (declared_by items)) ≡ true =
    sym (each_among w [] (names_at (arranged [] first) (declared_by items))) ∙ ap (list_any (bytes_eq w)) h.told ∙ sym (arranged_among [] first distinct w) ∙ here in
    let among : list_any (nat_eq (number_in (arranged [] first) w)) (declared_by items) ≡ true = number_among (arranged [] first) (declared_by items) w apart (λ y e. (h.each y e).below) there in
    (h.each x (subst (λ (y : ℕ). list_any (nat_eq y) (declared_by items) ≡ true) (number_at (arranged [] first) x apart lt) among)).within

-- ---- how many there are then

abbrev limit_if : Bool → Bool → Bool → Option FileCode
limit_if a b c = if a || b then Some TooManyVariables else (if c then Some TooManyConstants else None)

-- the name is the 17th of no class
none_of_three : (a b c : Bool) → limit_if a b c ≡ None → (a ≡ false) × ((b ≡ false) × (c ≡ false))
none_of_three true b c h = absurd cc
none_of_three false true c h = absurd cc
none_of_three false false true h = absurd cc
none_of_three false false false h = (refl, (refl, refl))

no_seventeenth : (limits : Limits) (x : ℕ) → limit_fault (counted limits) x ≡ None
    → (is_seventeenth 0 limits.variables x ≡ false) × ((is_seventeenth limits.variables limits.locals x ≡ false) × (is_seventeenth (limits.variables + limits.locals) limits.constants x ≡ false))
no_seventeenth limits x h =
    none_of_three (is_seventeenth 0 limits.variables x) (is_seventeenth limits.variables limits.locals x) (is_seventeenth (limits.variables + limits.locals) limits.constants x) h

below : (m n : ℕ) → nat_lt m n ≡ true → m < n
below m n e = grind (arith, nat_tests)

not_below : (m n : ℕ) → nat_lt m n ≡ false → n ≤ m
not_below m n e = grind (arith, nat_tests)

second_false : (a b : Bool) → a ≡ true → (a && b) ≡ false → b ≡ false
second_false true b e h = h
second_false false b e h = absurd cc

-- behind so many others there are at most 16, where the 17th is none of them
few_behind : (others count : ℕ) → (16 < count → is_seventeenth others count (others + 16) ≡ false) → count ≤ 16
few_behind others count h = elim (nat_lt 16 count) as (λ b. nat_lt 16 count ≡ b → count ≤ 16) [
  | true ↦ λ e. not_below 16 count (second_false (nat_eq (others + 16) (others + 16)) (nat_lt 16 count) (eq-eqb (others + 16) (others + 16) refl) (h (below 16 count e)))
  | false ↦ λ e. not_below 16 count e
] refl

-- the names are those of the three classes
counted_length : (first : Listed) → length (arranged [] first) ≡ (length (variables_of [] first) + length (locals_of [] first)) + length (constants_of [] first)
counted_length first =
    let all : length (arranged [] first) ≡ length (variables_of [] first ++ (locals_of [] first ++ constants_of [] first)) =
    ap length (append-nil (names_at first.names (variables_of [] first ++ (locals_of [] first ++ constants_of [] first))))
    ∙ length-map (variables_of [] first ++ (locals_of [] first ++ constants_of [] first)) (λ (x : ℕ). get_or first.names x []) in
    omega (arith, all, length-append (variables_of [] first) (locals_of [] first ++ constants_of [] first), length-append (locals_of [] first) (constants_of [] first))

few_names : (first : Listed) → ((x : ℕ) → x < length (arranged [] first) → limit_fault (counted (limits_of first)) x ≡ None) → length (arranged [] first) ≤ 48
few_names first h =
    let variables = length (variables_of [] first) in
    let locals = length (locals_of [] first) in
    let constants = length (constants_of [] first) in
    let count = counted_length first in
    let v = few_behind 0 variables (λ lt. (no_seventeenth (limits_of first) (0 + 16) (h (0 + 16) (omega (arith, lt, count)))).0) in
    let o = few_behind variables locals (λ lt. (no_seventeenth (limits_of first) (variables + 16) (h (variables + 16) (omega (arith, lt, count)))).1.0) in
    let c = few_behind (variables + locals) constants (λ lt. (no_seventeenth (limits_of first) ((variables + locals) + 16) (h ((variables + locals) + 16) (omega (arith, lt, count)))).1.1) in
    omega (arith, count, v, o, c)

-- ---- a file without a fault of a name

no_tokens_over : (functions others given : List (List ℕ)) (code : List ℕ) (fault : FileCode × Place) (r : Result (List Token) (FileCode × Place)) → and_then r (λ ts. Ok (listed functions given code ts)) ≡ Err fault → and_then r (λ ts. Ok (listed others given code ts)) ≡ Err fault
no_tokens_over functions others given code fault (Ok ts) e = absurd (no_list fault (listed functions given code ts) (listed_ok (listed functions given code ts)) e refl)
no_tokens_over functions others given code fault (Err f) e = e

no_code_over : (functions others given : List (List ℕ)) (fault : FileCode × Place) (r : Result (List ℕ) (FileCode × Place)) → and_then r (items_of_code functions given) ≡ Err fault → and_then r (items_of_code others given) ≡ Err fault
no_code_over functions others given fault (Ok code) e = no_tokens_over functions others given code fault (tokens_of code) e
no_code_over functions others given fault (Err f) e = e

-- a fault before the items is one over any functions
refused_over : (includes : Includes) (bytes : List ℕ) (fault : FileCode × Place) (functions others : List (List ℕ)) → items_of includes functions [] bytes ≡ Err fault → items_of includes others [] bytes ≡ Err fault
unfolding items_of
refused_over includes bytes fault functions others e = no_code_over functions others [] fault (code_of_file includes bytes) e

pub record IsOwnList (includes : Includes) (bytes : List ℕ) (l : Listed) : Type 0 where
  pub first : Listed
  pub first_are : items_of includes (functions_of_bytes bytes) [] bytes ≡ Ok first
  pub names : l.names ≡ arranged [] first
  pub told : each_once [] (names_at l.names (declared_by l.items)) ≡ first.names
  pub few : length l.names ≤ 48

own_list : TokenLaws → BlockLaws → (includes : Includes) (bytes : List ℕ) (x : Result Listed (FileCode × Place)) → items_of includes (functions_of_bytes bytes) [] bytes ≡ x → (l : Listed)
    → items_of includes (own_names (functions_of_bytes bytes) x).functions (own_names (functions_of_bytes bytes) x).names bytes ≡ Ok l → first_name_fault (outside (own_names (functions_of_bytes bytes) x)) (unfolded l.items) ≡ None → IsOwnList includes bytes l
own_list laws blocks includes bytes (Err fault) e l are none = absurd (no_list fault l (items_of includes [] [] bytes) (refused_over includes bytes fault (functions_of_bytes bytes) [] e) are)
own_list laws blocks includes bytes (Ok first) e l are none =
    let functions = functions_of_bytes bytes in
    let s = stands_for (functions_of_bytes bytes) includes [] bytes first e in
    let names : first.names ≡ names_from (functions_of_bytes bytes) s.code [] s.tokens = ap (λ (m : Listed). m.names) s.is in
    let distinct : AreDistinct first.names = subst AreDistinct (sym names) (distinct_from functions s.code [] s.tokens tt) in
    let same : l ≡ renumbered (functions_of_bytes bytes) (arranged [] first) s.code s.tokens =
    same_listed (listed functions (arranged [] first) s.code s.tokens) l (sym (stands_anew functions includes [] (arranged [] first) bytes first s) ∙ are) ∙ listed_anew functions [] first s.code s.tokens distinct names in
    let none_there : first_name_fault (counted (limits_of first)) (unfolded (items_over (functions_of_bytes bytes) (arranged [] first) s.code s.tokens)) ≡ None = ap (λ (m : Listed). first_name_fault (counted (limits_of first)) (unfolded m.items)) (sym same) ∙ none in
    let told = told_over functions laws blocks first s.code s.tokens s.tokens_are names distinct none_there in
    record {
      first = first;
      first_are = e;
      names = ap (λ (m : Listed). m.names) same;
      told = ap (λ (m : Listed). each_once [] (names_at m.names (declared_by m.items))) same ∙ told.told;
      few = subst (λ (m : Listed). length m.names ≤ 48) (sym same) (few_names first (none_too_many (limits_of first) first (items_over functions (arranged [] first) s.code s.tokens) distinct told));
    }

own_read : TokenLaws → BlockLaws → (includes : Includes) (bytes : List ℕ) (p : Whole) → (a : IsPlainRead includes bytes (Ok p)) → IsOwnList includes bytes a.accepted.listed
own_read laws blocks includes bytes p a = own_list laws blocks includes bytes (items_of includes (functions_of_bytes bytes) [] bytes) refl a.accepted.listed a.accepted.are a.accepted.names

-- values from outside change no name
same_names : (includes : Includes) (bytes : List ℕ) (p : Whole) → (a : IsPlainRead includes bytes (Ok p)) → p.names ≡ a.accepted.listed.names
same_names includes bytes p a = ap (λ (w : Whole). w.names) a.is ∙ ap (λ (w : Whole). w.names) a.accepted.spelled.is

pub own_declared : TokenLaws → BlockLaws → WithinIsFile → (includes : Includes) (bytes : List ℕ) (p : Whole) → IsPlainRead includes bytes (Ok p) → AreDeclaredNames includes bytes p.names
own_declared laws blocks is_file includes bytes p a =
    let l = a.accepted.listed in
    let o = own_read laws blocks includes bytes p a in
    let spelled = is_file l.names l.items a.spelled a.accepted.spelled in
    let names = same_names includes bytes p a in
    let given : (own includes bytes).names ≡ a.accepted.listed.names = ap (λ (r : Result Listed (FileCode × Place)). (own_names (functions_of_bytes bytes) r).names) o.first_are ∙ sym o.names in
    let functions : (own includes bytes).functions ≡ functions_of_bytes bytes = ap (λ (r : Result Listed (FileCode × Place)). (own_names (functions_of_bytes bytes) r).functions) o.first_are in
    let again : items_of includes (functions_of_bytes bytes) a.accepted.listed.names bytes ≡ Ok a.accepted.listed =
    ap (λ (ns : List (List ℕ)). items_of includes (functions_of_bytes bytes) ns bytes) (sym given) ∙ ap (λ (fs : List (List ℕ)). items_of includes fs (own includes bytes).names bytes) (sym functions) ∙ a.accepted.are in
    record {
      first = o.first;
      first_are = o.first_are;
      items = l.items;
      items_are = subst (λ (ns : List (List ℕ)). items_of includes (functions_of_bytes bytes) ns bytes ≡ Ok (record { names = ns; items = a.accepted.listed.items })) (sym names) again;
      file = spelled.file;
      forms = spelled.forms;
      declared =
          sym o.told ∙ ap (each_once []) (ap (λ (ns : List (List ℕ)). names_at ns (declared_by a.accepted.listed.items)) (sym names) ∙ ap (names_at p.names) (declared_all spelled.forms));
      are = names ∙ o.names;
    }

pub few_declared : TokenLaws → BlockLaws → (includes : Includes) (bytes : List ℕ) (p : Whole) → IsPlainRead includes bytes (Ok p) → length p.names ≤ 48
few_declared laws blocks includes bytes p a = subst (λ (ns : List (List ℕ)). length ns ≤ 48) (sym (same_names includes bytes p a)) (own_read laws blocks includes bytes p a).few

-- ---- what reading a file over its own names answers

abbrev given_of : List (List ℕ) → List (List ℕ) → ℕ → ℕ → ℕ → Given
given_of functions names variables locals constants =
    record { functions = functions; names = names; variables = variables; locals = locals; constants = constants; values = [] }

pub same_numbered : (first : Numbered) (names : List (List ℕ)) (items : List Item) → names ≡ first.names → items ≡ first.items.items → list names items ≡ listed_in first
same_numbered first names items e f = ap (λ (ns : List (List ℕ)). list ns items) e ∙ ap (λ (xs : List Item). list first.names xs) f

-- the items of a file's code are those of the file
pub items_of_own : (includes : Includes) (functions given : List (List ℕ)) (bytes code : List ℕ) (l : Listed) → code_of_file includes bytes ≡ Ok code → items_of_code functions given code ≡ Ok l → items_of includes functions given bytes ≡ Ok l
unfolding items_of
items_of_own includes functions given bytes code l is h = ap (λ (r : Result (List ℕ) (FileCode × Place)). and_then r (items_of_code functions given)) is ∙ h

-- so many names of each class
pub record AreCounts (first : Listed) (made : Arranged) : Type 0 where
  pub variables : made.variables ≡ length (variables_of [] first)
  pub locals : made.locals ≡ length (locals_of [] first)
  pub constants : made.constants ≡ length (constants_of [] first)

pub own_given : (includes : Includes) (bytes : List ℕ) (functions : List (List ℕ)) (first : Listed) (made : Arranged) → functions_of_bytes bytes ≡ functions → items_of includes functions [] bytes ≡ Ok first → made.names ≡ arranged [] first → AreCounts first made
    → IsOwn includes bytes (Ok (functions, made))
own_given includes bytes functions first made own e names counts =
    ap (λ (fs : List (List ℕ)). own_names fs (items_of includes fs [] bytes)) own
    ∙ ap (own_names functions) e
    ∙ ap (λ (ns : List (List ℕ)). given_of functions ns (length (variables_of [] first)) (length (locals_of [] first)) (length (constants_of [] first))) (sym names)
    ∙ ap (λ (v : ℕ). given_of functions made.names v (length (locals_of [] first)) (length (constants_of [] first))) (sym counts.variables)
    ∙ ap (λ (v : ℕ). given_of functions made.names made.variables v (length (constants_of [] first))) (sym counts.locals)
    ∙ ap (given_of functions made.names made.variables made.locals) (sym counts.constants)

pub given_distinct : (first : Listed) (made : Arranged) → AreDistinct first.names → made.names ≡ arranged [] first → AreDistinct made.names
given_distinct first made distinct names = subst AreDistinct (sym names) (arranged_distinct [] first distinct)

pub given_few : (first : Listed) (made : Arranged) (most : ℕ) → AreDistinct first.names → made.names ≡ arranged [] first → length first.names ≤ most → length made.names ≤ most
given_few first made most distinct names few = omega (arith, few, arranged_length [] first distinct, ap (λ (ns : List (List ℕ)). length ns) names)

pub given_counted : (first : Listed) (made : Arranged) → made.names ≡ arranged [] first → AreCounts first made → length made.names ≡ (made.variables + made.locals) + made.constants
given_counted first made names counts = omega (arith, ap (λ (ns : List (List ℕ)). length ns) names, counted_length first, counts.variables, counts.locals, counts.constants)

-- a fault before the items is one over any functions and names
pub own_refused : (includes : Includes) (bytes : List ℕ) (e : FileRefusal) → IsOwn includes bytes (Err e) → IsRead includes bytes (Err e)
own_refused includes bytes (refusals.Fault code place) h = inl (
    ap (λ (r : Result Listed (FileCode × Place)). items_of includes (own_names (functions_of_bytes bytes) r).functions (own_names (functions_of_bytes bytes) r).names bytes) h
    ∙ refused_over includes bytes (code, place) (functions_of_bytes bytes) [] h)
own_refused includes bytes refusals.NoMemory h = tt

pub own_reads : (includes : Includes) (bytes : List ℕ) (given : Given) (r : Result Program FileRefusal) → own includes bytes ≡ given → IsReadOver includes given bytes r → IsRead includes bytes r
own_reads includes bytes given r is h = subst (λ (g : Given). IsReadOver includes g bytes r) (sym is) h

abbrev FewNames : Type 0
FewNames = (includes : Includes) (bytes : List ℕ) (p : Whole) → IsPlainRead includes bytes (Ok p) → length p.names ≤ 48

abbrev FormedIfFew : Program → Type 0
FormedIfFew p = length (whole p).names ≤ 48 → IsProgram (whole p)

pub own_formed : FewNames → (includes : Includes) (bytes : List ℕ) (r : Result Program FileRefusal) → IsRead includes bytes r → IfOk r FormedIfFew → IfOk r (λ p. IsProgram (whole p))
own_formed few includes bytes (Ok p) a formed = formed (omega (arith, few includes bytes (whole p) a))
own_formed few includes bytes (Err e) h formed = tt

abbrev NamesDeclared : Type 0
NamesDeclared = (includes : Includes) (bytes : List ℕ) (p : Whole) → IsPlainRead includes bytes (Ok p) → AreDeclaredNames includes bytes p.names

pub read_declared : NamesDeclared → (includes : Includes) (bytes : List ℕ) (r : Result Program FileRefusal) → IsRead includes bytes r → IfOk r (λ p. AreDeclaredNames includes bytes (whole p).names)
read_declared law includes bytes (Ok p) a = law includes bytes (whole p) a
read_declared law includes bytes (Err e) h = tt

-- What the order of names is read from, item by item and number by number.
use Rattle.std.proofs.Common.{◌≡◌, ℕ, zero, suc, ◌+◌, ◌<◌, Bool, List, [], ◌∷◌, ◌++◌, length, take, drop, get_or, Option, Some, None, refl, sym, ap, subst, ◌∙◌, append_assoc, drop-cons, add-one, arith}
use Rattle.std.specs.Prelude.{◌||◌, if◌then◌else◌}
use Rattle.std.specs.List.{filter, range_with_len}
use Rattle.std.proofs.lemmas.List.{length-map, take_more}
use Rattle.std.proofs.lemmas.List.Elements.{filter-append}
use Rattle.c_grammar.specs.declared.constants.NameClass.{NameClass}
use Rattle.c_grammar.specs.declared.constants.NameKind.{NameKind}
use Rattle.c_grammar.specs.declared.constants.NameKind.TheVariants as kinds
use Rattle.c_grammar.specs.declared.constants.Track.{Track}
use Rattle.c_grammar.specs.declared.items.Item.{Item}
use Rattle.c_grammar.specs.Changes.{IsTrack}
use Rattle.c_grammar.specs.Constants.{kind_behind, kind_after, last_from}
use Rattle.c_grammar.specs.Facts.{AreFit}
use Rattle.c_grammar.specs.Functions.{has_sign}
use Rattle.c_grammar.specs.Classes.{classes_from, class_in}
use Rattle.c_grammar.specs.Locals.{is_main, is_declaring, declares_behind}
use Rattle.c_parser.specs.Names.{has_main, names_at}
use Rattle.c_parser.specs.Order.{class_by, declared_as}
use Rattle.c_parser.proofs.Arranging.{at_both}
use Rattle.family_names.proofs.Declared.{main_on}

-- ---- one item more

behind_more : (kind : NameKind) (before : List Item) (x : Item) → kind_after kind (before ++ x ∷ []) ≡ kind_behind (kind_after kind before) x.sign
behind_more kind [] x = refl
behind_more kind (y ∷ ys) x = behind_more (kind_behind kind y.sign) ys x

last_more : (last : Option Item) (before : List Item) (x : Item) → last_from last (before ++ x ∷ []) ≡ Some x
last_more last [] x = refl
last_more last (y ∷ ys) x = last_more (Some y) ys x

left_behind : (items : List Item) (i : ℕ) (d : Item) → i < length items → drop i items ≡ get_or items i d ∷ drop (i + 1) items
left_behind items i d lt = rw add-one (drop-cons items i d lt)

-- the classes of the names that these items declare behind others
abbrev pub classes_behind : List Item → List Item → List (ℕ × NameClass)
classes_behind before xs = classes_from (has_main before) (declares_behind before) (kind_after kinds.Variable before) xs

-- what is known of the classes behind so many of the items
pub record IsOn (count : ℕ) (items : List Item) (i : ℕ) (in_main : Bool) (track : Track) (kept : List (Option NameClass)) : Type 0 where
  pub fit : AreFit count (drop i items)
  pub main : in_main ≡ has_main (take i items)
  pub track_is : IsTrack (take i items) track
  pub first : (x : ℕ) → class_by kept (classes_behind (take i items) (drop i items)) x ≡ class_in items x

classes_on : (before xs : List Item) (x : Item) → classes_behind before (x ∷ xs) ≡ declared_as before x.sign ++ classes_behind (before ++ x ∷ []) xs
classes_on before xs x =
    let head = declared_as before x.sign in
    let behind = kind_behind (kind_after kinds.Variable before) x.sign in
    ap (λ (b : Bool). head ++ classes_from b (is_declaring x.sign) behind xs) (sym (main_on before x))
    ∙ ap (λ (o : Option Item). head ++ classes_from (has_main (before ++ x ∷ [])) (has_sign is_declaring o) behind xs) (sym (last_more None before x))
    ∙ ap (λ (k : NameKind). head ++ classes_from (has_main (before ++ x ∷ [])) (declares_behind (before ++ x ∷ [])) k xs) (sym (behind_more kinds.Variable before x))

pub item_on : (count : ℕ) (items : List Item) (i : ℕ) (d : Item) (in_main on_main : Bool) (track : Track) (old new : List (Option NameClass)) → i < length items → in_main ≡ has_main (take i items) → on_main ≡ (in_main || is_main (get_or items i d).sign)
    → ((later : List (ℕ × NameClass)) (x : ℕ) → class_by new later x ≡ class_by old (declared_as (take i items) (get_or items i d).sign ++ later) x)
    → ((x : ℕ) → class_by old (classes_behind (take i items) (drop i items)) x ≡ class_in items x)
    → AreFit count (drop i items) → IsTrack (take i items ++ get_or items i d ∷ []) track → IsOn count items (i + 1) on_main track new
item_on count items i d in_main on_main track old new lt main on first so fit is =
    let before = take i items in
    let item = get_or items i d in
    let rest = drop (i + 1) items in
    let more : take (i + 1) items ≡ take i items ++ get_or items i d ∷ [] = take_more items i d lt in
    let left : drop i items ≡ get_or items i d ∷ drop (i + 1) items = left_behind items i d lt in
    record {
      fit = (subst (AreFit count) left fit).1;
      main = on ∙ ap (λ (b : Bool). b || is_main item.sign) main ∙ sym (main_on before item) ∙ ap has_main (sym more);
      track_is = subst (λ (ys : List Item). IsTrack ys track) (sym more) is;
      first = λ x.
          ap (λ (ys : List Item). class_by new (classes_behind ys rest) x) more
          ∙ first (classes_behind (take i items ++ get_or items i d ∷ []) rest) x
          ∙ ap (λ (ds : List (ℕ × NameClass)). class_by old ds x) (sym (classes_on before rest item))
          ∙ ap (λ (ys : List Item). class_by old (classes_behind before ys) x) (sym left)
          ∙ so x;
    }

-- ---- one number more

last_number : (a n j : ℕ) → a + n ≡ j → range_with_len a (suc n) ≡ range_with_len a n ++ j ∷ []
last_number a zero j e = let same : a ≡ j = omega arith in ap (λ (k : ℕ). k ∷ []) same
last_number a (suc n) j e = ap (λ (l : List ℕ). a ∷ l) (last_number (a + 1) n j (omega arith))

numbers_more : (n : ℕ) → range_with_len 0 (n + 1) ≡ range_with_len 0 n ++ n ∷ []
numbers_more n = let on : n + 1 ≡ suc n = omega arith in ap (range_with_len 0) on ∙ last_number 0 n n (omega arith)

-- the next name is added where it passes the test
pub add_more : (names out new : List (List ℕ)) (p : ℕ → Bool) (number : ℕ) (is_added : Bool) → is_added ≡ p number → out ≡ names_at names (filter p (range_with_len 0 number))
    → new ≡ out ++ names_at names (if is_added then number ∷ [] else []) → new ≡ names_at names (filter p (range_with_len 0 (number + 1)))
add_more names out new p number is_added is so added =
    added ∙ ap (λ (ns : List (List ℕ)). ns ++ names_at names (if is_added then number ∷ [] else [])) so
    ∙ ap (λ (b : Bool). names_at names (filter p (range_with_len 0 number)) ++ names_at names (if b then number ∷ [] else [])) is
    ∙ sym (at_both names (filter p (range_with_len 0 number)) (filter p (number ∷ [])))
    ∙ ap (names_at names) (sym (filter-append p (range_with_len 0 number) (number ∷ [])) ∙ ap (filter p) (sym (numbers_more number)))

-- the parts of the arranged names
pub joined : (names first second third fourth : List (List ℕ)) (variables locals constants : List ℕ) (features : List (List ℕ))
    → first ≡ names_at names variables → second ≡ names_at names locals → third ≡ names_at names constants → fourth ≡ features
    → ((first ++ second) ++ third) ++ fourth ≡ names_at names (variables ++ (locals ++ constants)) ++ features
joined names first second third fourth variables locals constants features v o k f =
    ap (λ (ns : List (List ℕ)). ((ns ++ second) ++ third) ++ fourth) v
    ∙ ap (λ (ns : List (List ℕ)). ((names_at names variables ++ ns) ++ third) ++ fourth) o
    ∙ ap (λ (ns : List (List ℕ)). ((names_at names variables ++ names_at names locals) ++ ns) ++ fourth) k
    ∙ ap (λ (ns : List (List ℕ)). ((names_at names variables ++ names_at names locals) ++ names_at names constants) ++ ns) f
    ∙ ap (λ (ns : List (List ℕ)). ns ++ features) (append_assoc (names_at names variables) (names_at names locals) (names_at names constants)
    ∙ ap (λ (ns : List (List ℕ)). names_at names variables ++ ns) (sym (at_both names locals constants))
    ∙ sym (at_both names variables (locals ++ constants)))

pub as_many : (names made : List (List ℕ)) (numbers : List ℕ) (count : ℕ) → count ≡ length made → made ≡ names_at names numbers → count ≡ length numbers
as_many names made numbers count is e = is ∙ ap length e ∙ length-map numbers (λ (x : ℕ). get_or names x [])

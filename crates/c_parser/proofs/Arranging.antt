-- The names of a text in the order of a program's are the same names, each once.
use Rattle.std.proofs.Common.{◌≡◌, ℕ, suc, ◌+◌, ◌≤◌, Bool, true, false, not, ◌||◌, ◌&&◌, cond, List, [], ◌∷◌, ◌++◌, length, get_or, refl, sym, ap, subst, ◌∙◌, append_assoc, append-nil, arith}
use Rattle.std.specs.Prelude.{if◌then◌else◌}
use Rattle.std.specs.List.{filter, list_any, range_with_len}
use Rattle.std.specs.Str.{bytes_eq}
use Rattle.std.proofs.lemmas.Slice.Eq.{bytes_eq-Decides}
use Rattle.std.proofs.lemmas.List.FromFn.{fill_by_all}
use Rattle.std.proofs.lemmas.List.Folds.{list_any-append}
use Rattle.c_parser.specs.Items.{Listed, with_name, AreNewBehind, AreDistinct}
use Rattle.c_parser.specs.Names.{names_at, each_once}
use Rattle.c_parser.specs.Order.{is_of_class, variables_of, locals_of, constants_of, features_of, arranged}
use Rattle.c_grammar.specs.declared.constants.NameClass.{NameClass}
use Rattle.c_grammar.specs.declared.constants.NameClass.TheVariants as classes
use Rattle.c_grammar.specs.Classes.{is_class, class_in}

-- ---- how often a name stands in a list

-- one for a test that is passed
abbrev pub one_if : Bool → ℕ
one_if b = cond b 1 0

abbrev pub count : List ℕ → List (List ℕ) → ℕ
count w [] = 0
count w (n ∷ ns) = one_if (bytes_eq w n) + count w ns

abbrev pub is_among : List ℕ → List (List ℕ) → Bool
is_among w names = list_any (bytes_eq w) names

pub same_text : (w n : List ℕ) → bytes_eq w n ≡ true → w ≡ n
same_text w n e = (bytes_eq-Decides w n).0 e

pub text_same : (w : List ℕ) → bytes_eq w w ≡ true
text_same w = (bytes_eq-Decides w w).1 refl

counted_first : (w n : List ℕ) (ns : List (List ℕ)) → count w (n ∷ ns) ≡ one_if (bytes_eq w n) + count w ns
counted_first w n ns = refl

counted_both : (w : List ℕ) (ms ns : List (List ℕ)) → count w (ms ++ ns) ≡ count w ms + count w ns
counted_both w [] ns = omega arith
counted_both w (m ∷ ms) ns = omega (arith, counted_first w m (ms ++ ns), counted_first w m ms, counted_both w ms ns)

none_counted : (w : List ℕ) (ns : List (List ℕ)) → is_among w ns ≡ false → count w ns ≡ 0
none_counted w [] h = refl
none_counted w (n ∷ ns) h = elim (bytes_eq w n) as (λ b. (b || is_among w ns) ≡ false → one_if b + count w ns ≡ 0) [
  | true ↦ λ e. absurd cc
  | false ↦ λ e. omega (arith, none_counted w ns e)
] h

some_counted : (w : List ℕ) (ns : List (List ℕ)) → is_among w ns ≡ true → 1 ≤ count w ns
some_counted w [] h = absurd cc
some_counted w (n ∷ ns) h = elim (bytes_eq w n) as (λ b. (b || is_among w ns) ≡ true → 1 ≤ one_if b + count w ns) [
  | true ↦ λ e. omega arith
  | false ↦ λ e. omega (arith, some_counted w ns e)
] h

-- at most once is once where it stands there
once_counted : (w : List ℕ) (ns : List (List ℕ)) → count w ns ≤ 1 → count w ns ≡ one_if (is_among w ns)
once_counted w ns le = elim (is_among w ns) as (λ b. is_among w ns ≡ b → count w ns ≡ one_if b) [
  | true ↦ λ e. omega (arith, le, some_counted w ns e)
  | false ↦ λ e. none_counted w ns e
] refl

among_by_count : (w : List ℕ) (ms ns : List (List ℕ)) → count w ms ≡ count w ns → is_among w ms ≡ is_among w ns
among_by_count w ms ns h =
    elim (is_among w ms) as (λ a. is_among w ms ≡ a → a ≡ is_among w ns) [
      | true ↦ λ e. (elim (is_among w ns) as (λ b. is_among w ns ≡ b → true ≡ b) [
        | true ↦ λ k. refl
        | false ↦ λ k. absurd (omega (arith, h, some_counted w ms e, none_counted w ns k))
      ] refl)
      | false ↦ λ e. (elim (is_among w ns) as (λ b. is_among w ns ≡ b → false ≡ b) [
        | true ↦ λ k. absurd (omega (arith, h, none_counted w ms e, some_counted w ns k))
        | false ↦ λ k. refl
      ] refl)
    ] refl

-- ---- distinct names stand at most once

abbrev StandOnce : List (List ℕ) → Type 0
StandOnce ns = (w : List ℕ) → count w ns ≤ 1

one_more : (w n : List ℕ) (before : List (List ℕ)) → is_among n before ≡ false → count w before ≤ 1 → count w (before ++ n ∷ []) ≤ 1
one_more w n before none le = elim (bytes_eq w n) as (λ b. bytes_eq w n ≡ b → count w (before ++ n ∷ []) ≤ 1) [
  | true ↦ λ e. (let zero_before : count w before ≡ 0 = none_counted w before (ap (λ (v : List ℕ). is_among v before) (same_text w n e) ∙ none) in
      omega (arith, counted_both w before (n ∷ []), counted_first w n [], ap one_if e, zero_before))
  | false ↦ λ e. omega (arith, counted_both w before (n ∷ []), counted_first w n [], ap one_if e, le)
] refl

once_behind : (before ns : List (List ℕ)) → AreNewBehind before ns → StandOnce before → StandOnce (before ++ ns)
once_behind before [] h once = λ w. subst (λ (ms : List (List ℕ)). count w ms ≤ 1) (sym (append-nil before)) (once w)
once_behind before (n ∷ ns) h once = λ w. subst (λ (ms : List (List ℕ)). count w ms ≤ 1) (append_assoc before (n ∷ []) ns)
    (once_behind (before ++ n ∷ []) ns h.1 (λ v. one_more v n before h.0 (once v)) w)

pub stand_once : (ns : List (List ℕ)) → AreDistinct ns → StandOnce ns
stand_once ns h = once_behind [] ns h (λ w. omega arith)

new_here : (n : List ℕ) (before ns : List (List ℕ)) → StandOnce (before ++ n ∷ ns) → is_among n before ≡ false
new_here n before ns once = elim (is_among n before) as (λ b. is_among n before ≡ b → b ≡ false) [
  | true ↦ λ e. absurd (omega (arith, once n, counted_both n before (n ∷ ns), counted_first n n ns, ap one_if (text_same n), some_counted n before e))
  | false ↦ λ e. refl
] refl

new_behind : (before ns : List (List ℕ)) → StandOnce (before ++ ns) → AreNewBehind before ns
new_behind before [] once = tt
new_behind before (n ∷ ns) once =
    (new_here n before ns once, new_behind (before ++ n ∷ []) ns (λ w. subst (λ (ms : List (List ℕ)). count w ms ≤ 1) (sym (append_assoc before (n ∷ []) ns)) (once w)))

-- ---- the names of all classes

counted_if : (w : List ℕ) (names : List (List ℕ)) (x : ℕ) (xs : List ℕ) (p : Bool) →
    count w (names_at names (cond p (x ∷ xs) xs)) ≡ cond p (one_if (bytes_eq w (get_or names x []))) 0 + count w (names_at names xs)
counted_if w names x xs true = counted_first w (get_or names x []) (names_at names xs)
counted_if w names x xs false = omega arith

-- one for a name that is this (b) or not, where a feature has it (f) or not, and its class (d) is the one that is asked
abbrev one_of : NameClass → Bool → Bool → NameClass → ℕ
one_of class b f d = cond (not f && is_class class d) (one_if b) 0

-- of a name that is this (b) or not, where a feature has it (f) or has this (g), and that is of a class
all_classes : (b g f : Bool) (d : NameClass) (v o k m : ℕ) → (b ≡ true → g ≡ f) → v + (o + k) ≡ cond g 0 m
    → (one_of classes.Variable b f d + v) + ((one_of classes.Local b f d + o) + (one_of classes.Constant b f d + k)) ≡ cond g 0 (one_if b + m)
all_classes true true true d v o k m same h = omega (arith, h)
all_classes true true false d v o k m same h = absurd (let e : true ≡ false = same refl in cc)
all_classes true false true d v o k m same h = absurd (let e : false ≡ true = same refl in cc)
all_classes true false false classes.Variable v o k m same h = omega (arith, h)
all_classes true false false classes.Local v o k m same h = omega (arith, h)
all_classes true false false classes.Constant v o k m same h = omega (arith, h)
all_classes false true true d v o k m same h = omega (arith, h)
all_classes false true false classes.Variable v o k m same h = omega (arith, h)
all_classes false true false classes.Local v o k m same h = omega (arith, h)
all_classes false true false classes.Constant v o k m same h = omega (arith, h)
all_classes false false true d v o k m same h = omega (arith, h)
all_classes false false false classes.Variable v o k m same h = omega (arith, h)
all_classes false false false classes.Local v o k m same h = omega (arith, h)
all_classes false false false classes.Constant v o k m same h = omega (arith, h)

-- how often a name stands among those of a class
abbrev of_class : NameClass → List ℕ → List (List ℕ) → Listed → List ℕ → ℕ
of_class class w features l xs = count w (names_at l.names (filter (is_of_class class features l) xs))

class_first : (class : NameClass) (w : List ℕ) (features : List (List ℕ)) (l : Listed) (x : ℕ) (xs : List ℕ) →
    of_class class w features l (x ∷ xs) ≡ one_of class (bytes_eq w (get_or l.names x [])) (is_among (get_or l.names x []) features) (class_in l.items x) + of_class class w features l xs
class_first class w features l x xs = counted_if w l.names x (filter (is_of_class class features l) xs) (is_of_class class features l x)

classes_counted : (w : List ℕ) (features : List (List ℕ)) (l : Listed) (xs : List ℕ) →
    of_class classes.Variable w features l xs + (of_class classes.Local w features l xs + of_class classes.Constant w features l xs) ≡ cond (is_among w features) 0 (count w (names_at l.names xs))
classes_counted w features l [] = elim (is_among w features) as (λ g. 0 + (0 + 0) ≡ cond g 0 0) [ true ↦ omega arith | false ↦ omega arith ]
classes_counted w features l (x ∷ xs) =
    let n = get_or l.names x [] in
    let variables = of_class classes.Variable w features l xs in
    let locals = of_class classes.Local w features l xs in
    let constants = of_class classes.Constant w features l xs in
    let step = all_classes (bytes_eq w n) (is_among w features) (is_among n features) (class_in l.items x) variables locals constants (count w (names_at l.names xs))
    (λ e. ap (λ (v : List ℕ). is_among v features) (same_text w n e)) (classes_counted w features l xs) in
    ap (λ (k : ℕ). k + (of_class classes.Local w features l (x ∷ xs) + of_class classes.Constant w features l (x ∷ xs))) (class_first classes.Variable w features l x xs)
    ∙ ap (λ (k : ℕ). (one_of classes.Variable (bytes_eq w n) (is_among n features) (class_in l.items x) + variables) + (k + of_class classes.Constant w features l (x ∷ xs))) (class_first classes.Local w features l x xs)
    ∙ ap (λ (k : ℕ). (one_of classes.Variable (bytes_eq w n) (is_among n features) (class_in l.items x) + variables) + ((one_of classes.Local (bytes_eq w n) (is_among n features) (class_in l.items x) + locals) + k)) (class_first classes.Constant w features l x xs)
    ∙ step
    ∙ ap (λ (k : ℕ). cond (is_among w features) 0 k) (sym (counted_first w n (names_at l.names xs)))

pub at_both : (names : List (List ℕ)) (xs ys : List ℕ) → names_at names (xs ++ ys) ≡ names_at names xs ++ names_at names ys
at_both names [] ys = refl
at_both names (x ∷ xs) ys = ap (λ (ns : List (List ℕ)). get_or names x [] ∷ ns) (at_both names xs ys)

pub at_all : (names : List (List ℕ)) → names_at names (range_with_len 0 (length names)) ≡ names
at_all names = sym (fill_by_all (λ (x : ℕ). get_or names x []) names (length names) [] refl (λ k lt. refl))

-- ---- the features

with_once : (seen : List (List ℕ)) (n : List ℕ) → StandOnce seen → StandOnce (with_name seen n)
with_once seen n once w = elim (is_among n seen) as (λ b. is_among n seen ≡ b → count w (if b then seen else seen ++ n ∷ []) ≤ 1) [
  | true ↦ λ e. once w
  | false ↦ λ e. one_more w n seen e (once w)
] refl

each_stands_once : (seen ns : List (List ℕ)) → StandOnce seen → StandOnce (each_once seen ns)
each_stands_once seen [] once = once
each_stands_once seen (n ∷ ns) once = each_stands_once (with_name seen n) ns (with_once seen n once)

or_follows : (a b : Bool) → (b ≡ true → a ≡ true) → a ≡ (a || b)
or_follows true b h = refl
or_follows false true h = h refl
or_follows false false h = refl

or_false : (b : Bool) → (b || false) ≡ b
or_false true = refl
or_false false = refl

or_assoc : (a b c : Bool) → ((a || b) || c) ≡ (a || (b || c))
or_assoc true b c = refl
or_assoc false b c = refl

pub with_among : (w n : List ℕ) (seen : List (List ℕ)) → is_among w (with_name seen n) ≡ (is_among w seen || bytes_eq w n)
with_among w n seen = elim (is_among n seen) as (λ b. is_among n seen ≡ b → is_among w (if b then seen else seen ++ n ∷ []) ≡ (is_among w seen || bytes_eq w n)) [
  | true ↦ λ e. or_follows (is_among w seen) (bytes_eq w n) (λ k. ap (λ (v : List ℕ). is_among v seen) (same_text w n k) ∙ e)
  | false ↦ λ e. list_any-append (bytes_eq w) seen (n ∷ []) ∙ ap (λ (b : Bool). is_among w seen || b) (or_false (bytes_eq w n))
] refl

pub each_among : (w : List ℕ) (seen ns : List (List ℕ)) → is_among w (each_once seen ns) ≡ (is_among w seen || is_among w ns)
each_among w seen [] = sym (or_false (is_among w seen))
each_among w seen (n ∷ ns) =
    each_among w (with_name seen n) ns ∙ ap (λ (b : Bool). b || is_among w ns) (with_among w n seen) ∙ or_assoc (is_among w seen) (bytes_eq w n) (is_among w ns)

-- of a feature that is this (b) or not, that is named (p) or not, where this is named (n) or not
named_step : (b p n a t : Bool) → (b ≡ true → p ≡ n) → t ≡ (a && n) → cond p (b || t) t ≡ ((b || a) && n)
named_step true true true a t same h = refl
named_step true true false a t same h = absurd (let e : true ≡ false = same refl in cc)
named_step true false true a t same h = absurd (let e : false ≡ true = same refl in cc)
named_step true false false true t same h = h
named_step true false false false t same h = h
named_step false true n a t same h = h
named_step false false n a t same h = h

among_if : (w f : List ℕ) (fs : List (List ℕ)) (p : Bool) → is_among w (cond p (f ∷ fs) fs) ≡ cond p (bytes_eq w f || is_among w fs) (is_among w fs)
among_if w f fs true = refl
among_if w f fs false = refl

named_among : (w : List ℕ) (names features : List (List ℕ)) → is_among w (filter (λ f. is_among f names) features) ≡ (is_among w features && is_among w names)
named_among w names [] = refl
named_among w names (f ∷ fs) =
    among_if w f (filter (λ f. is_among f names) fs) (is_among f names)
    ∙ named_step (bytes_eq w f) (is_among f names) (is_among w names) (is_among w fs) (is_among w (filter (λ f. is_among f names) fs))
    (λ e. ap (λ (v : List ℕ). is_among v names) (sym (same_text w f e))) (named_among w names fs)

features_counted : (w : List ℕ) (features : List (List ℕ)) (l : Listed) → count w (features_of features l) ≡ one_if (is_among w features && is_among w l.names)
features_counted w features l =
    once_counted w (features_of features l) (each_stands_once [] (filter (λ f. is_among f l.names) features) (λ v. omega arith) w)
    ∙ ap one_if (each_among w [] (filter (λ f. is_among f l.names) features) ∙ named_among w l.names features)

-- ---- all names

-- a feature's name that is named (n) or not stands there once or not at all, and so does another one
all_counted : (g n : Bool) (k : ℕ) → k ≡ one_if n → cond g 0 k + one_if (g && n) ≡ k
all_counted true true k h = omega (arith, h)
all_counted true false k h = omega (arith, h)
all_counted false n k h = omega arith

pub arranged_counted : (features : List (List ℕ)) (l : Listed) → AreDistinct l.names → (w : List ℕ) → count w (arranged features l) ≡ count w l.names
arranged_counted features l distinct w =
    let variables = variables_of features l in
    let locals = locals_of features l in
    let constants = constants_of features l in
    counted_both w (names_at l.names (variables_of features l ++ (locals_of features l ++ constants_of features l))) (features_of features l)
    ∙ ap (λ (k : ℕ). k + count w (features_of features l))
    (ap (count w) (at_both l.names variables (locals ++ constants)) ∙ counted_both w (names_at l.names variables) (names_at l.names (locals ++ constants))
    ∙ ap (λ (k : ℕ). count w (names_at l.names variables) + k) (ap (count w) (at_both l.names locals constants) ∙ counted_both w (names_at l.names locals) (names_at l.names constants))
    ∙ classes_counted w features l (range_with_len 0 (length l.names)) ∙ ap (λ (ns : List (List ℕ)). cond (is_among w features) 0 (count w ns)) (at_all l.names))
    ∙ ap (λ (k : ℕ). cond (is_among w features) 0 (count w l.names) + k) (features_counted w features l)
    ∙ all_counted (is_among w features) (is_among w l.names) (count w l.names) (once_counted w l.names (stand_once l.names distinct w))

-- arranged names are distinct
pub arranged_distinct : (features : List (List ℕ)) (l : Listed) → AreDistinct l.names → AreDistinct (arranged features l)
arranged_distinct features l distinct = new_behind [] (arranged features l) (λ w. omega (arith, arranged_counted features l distinct w, stand_once l.names distinct w))

-- they are the names of the text
pub arranged_among : (features : List (List ℕ)) (l : Listed) → AreDistinct l.names → (w : List ℕ) → is_among w (arranged features l) ≡ is_among w l.names
arranged_among features l distinct w = among_by_count w (arranged features l) l.names (arranged_counted features l distinct w)

-- ---- as many

without : List ℕ → List (List ℕ) → List (List ℕ)
without w [] = []
without w (n ∷ ns) = if bytes_eq w n then ns else n ∷ without w ns

one_less : (w : List ℕ) (ns : List (List ℕ)) → is_among w ns ≡ true → length (without w ns) + 1 ≡ length ns
unfolding without
one_less w [] h = absurd cc
one_less w (n ∷ ns) h = elim (bytes_eq w n) as (λ b. (b || is_among w ns) ≡ true → length (cond b ns (n ∷ without w ns)) + 1 ≡ suc (length ns)) [
  | true ↦ λ _. omega arith
  | false ↦ λ k. omega (arith, one_less w ns k)
] h

counted_less : (v w : List ℕ) (ns : List (List ℕ)) → is_among w ns ≡ true → count v ns ≡ one_if (bytes_eq v w) + count v (without w ns)
unfolding without
counted_less v w [] h = absurd cc
counted_less v w (n ∷ ns) h = elim (bytes_eq w n) as (λ b. bytes_eq w n ≡ b → (b || is_among w ns) ≡ true → count v (n ∷ ns) ≡ one_if (bytes_eq v w) + count v (cond b ns (n ∷ without w ns))) [
  | true ↦ λ e _. counted_first v n ns ∙ ap (λ (m : List ℕ). one_if (bytes_eq v m) + count v ns) (sym (same_text w n e))
  | false ↦ λ e k. omega (arith, counted_first v n ns, counted_first v n (without w ns), counted_less v w ns k)
] refl h

no_longer : (ms ns : List (List ℕ)) → ((w : List ℕ) → count w ms ≤ count w ns) → length ms ≤ length ns
no_longer [] ns h = omega arith
no_longer (m ∷ ms) ns h =
    let there : is_among m ns ≡ true = elim (is_among m ns) as (λ b. is_among m ns ≡ b → b ≡ true) [
      | true ↦ λ e. refl
      | false ↦ λ e. absurd (omega (arith, h m, counted_first m m ms, ap one_if (text_same m), none_counted m ns e))
    ] refl in
    omega (arith, one_less m ns there, no_longer ms (without m ns) (λ w. omega (arith, h w, counted_first w m ms, counted_less w m ns there)))

pub arranged_length : (features : List (List ℕ)) (l : Listed) → AreDistinct l.names → length (arranged features l) ≡ length l.names
arranged_length features l distinct =
    omega (arith, no_longer (arranged features l) l.names (λ w. omega (arith, arranged_counted features l distinct w)), no_longer l.names (arranged features l) (λ w. omega (arith, arranged_counted features l distinct w)))

-- ---- names that stand in the order already

pub arranged_stay : (l : Listed) → variables_of [] l ++ (locals_of [] l ++ constants_of [] l) ≡ range_with_len 0 (length l.names) → arranged [] l ≡ l.names
arranged_stay l h = append-nil (names_at l.names (variables_of [] l ++ (locals_of [] l ++ constants_of [] l))) ∙ ap (names_at l.names) h ∙ at_all l.names

-- The names of a text stand in one line in whichever order.
use Rattle.std.proofs.Common.{◌≡◌, ℕ, zero, suc, true, false, ◌||◌, cond, List, [], ◌∷◌, ◌++◌, get_or, refl, sym, subst}
use Rattle.std.specs.List.{filter, list_any}
use Rattle.std.specs.Str.{bytes_eq}
use Rattle.std.proofs.lemmas.Slice.Eq.{bytes_eq-Decides}
use Rattle.c_parser.specs.Items.{Listed, with_name}
use Rattle.c_parser.specs.Names.{names_at, each_once}
use Rattle.c_parser.specs.Order.{variables_of, locals_of, constants_of, features_of, arranged}
use Rattle.certificate_laws.specs.Written.{IsOneLine}
use Rattle.certificate_laws.proofs.Spelled.{AreLines, with_line}
use Rattle.certificate_laws.proofs.Trees.{all_both}

line_at : (names : List (List ℕ)) (x : ℕ) → AreLines names → IsOneLine (get_or names x [])
line_at [] x h = tt
line_at (n ∷ ns) zero h = h.0
line_at (n ∷ ns) (suc x) h = line_at ns x h.1

lines_at : (names : List (List ℕ)) (xs : List ℕ) → AreLines names → AreLines (names_at names xs)
lines_at names [] h = tt
lines_at names (x ∷ xs) h = (line_at names x h, lines_at names xs h)

line_among : (names : List (List ℕ)) (w : List ℕ) → AreLines names → list_any (bytes_eq w) names ≡ true → IsOneLine w
line_among [] w h e = absurd cc
line_among (n ∷ ns) w h e = elim (bytes_eq w n) as (λ b. bytes_eq w n ≡ b → (b || list_any (bytes_eq w) ns) ≡ true → IsOneLine w) [
  | true ↦ λ f _. subst IsOneLine (sym ((bytes_eq-Decides w n).0 f)) h.0
  | false ↦ λ _ k. line_among ns w h.1 k
] refl e

-- features that are named
lines_named : (names features : List (List ℕ)) → AreLines names → AreLines (filter (λ f. list_any (bytes_eq f) names) features)
lines_named names [] h = tt
lines_named names (f ∷ fs) h = elim (list_any (bytes_eq f) names) as (λ b. list_any (bytes_eq f) names ≡ b → AreLines (cond b (f ∷ filter (λ g. list_any (bytes_eq g) names) fs) (filter (λ g. list_any (bytes_eq g) names) fs))) [
  | true ↦ λ e. (line_among names f h e, lines_named names fs h)
  | false ↦ λ _. lines_named names fs h
] refl

lines_once : (seen names : List (List ℕ)) → AreLines seen → AreLines names → AreLines (each_once seen names)
lines_once seen [] h k = h
lines_once seen (n ∷ ns) h k = lines_once (with_name seen n) ns (with_line seen n h k.0) k.1

pub arranged_lines : (features : List (List ℕ)) (l : Listed) → AreLines l.names → AreLines (arranged features l)
arranged_lines features l h =
    let numbers = variables_of features l ++ (locals_of features l ++ constants_of features l) in
    all_both IsOneLine (names_at l.names numbers) (features_of features l) (lines_at l.names numbers h) (lines_once [] (filter (λ f. list_any (bytes_eq f) l.names) features) tt (lines_named l.names features h))

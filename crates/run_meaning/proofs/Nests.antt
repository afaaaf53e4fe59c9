-- The loops that a run has entered, and leaving those whose bodies are over.
use Rattle.std.proofs.Common.{◌≡◌, List, [], ◌∷◌, ◌++◌, map, reverse, take, length, ◌-◌, ◌+◌, ◌<◌, ℕ, ℤ, Option, Some, None, refl, ap, sym, ◌∙◌, arith, MatchOption, option_to_list}
use Rattle.std.proofs.lemmas.List.{reverse-append, length-append, length-reverse, take-append-le}
use Rattle.c_tree.specs.declared.tree.Stmt.{Stmt}
use Rattle.c_tree.specs.declared.tree.Stmt.TheOpen as stmt
use Rattle.c_tree.specs.declared.tree.Stmt.TheOpen.{Stmt-F}
use Rattle.c_tree.specs.Tree.{Code, Done, followed}
use Rattle.c_tree.specs.View.{front, code}
use Rattle.c_tree.specs.Run.{Level, Standing, standing, unless_over, settled}
use Rattle.c_tree.proofs.Views as Views
use Rattle.c_tree.proofs.Views.{by_layer}
use Rattle.run_meaning.specs.declared.levels.Level as rust
use Rattle.run_meaning.specs.View.{stacked, pile, below, nest, level_of}
use Rattle.run_meaning.proofs.Stacks.{pile-put, pile-below}

-- one more loop is the innermost
pub nest-push : (ls : List rust.Level) (l : rust.Level) → nest (ls ++ l ∷ []) ≡ level_of l ∷ nest ls
unfolding nest
nest-push ls l = ap (map level_of) (reverse-append ls (l ∷ []))

pub nest-empty : nest [] ≡ []
unfolding nest
nest-empty = refl

pub nest-none : (ls : List rust.Level) → ls ≡ [] → nest ls ≡ []
nest-none ls e = ap nest e ∙ nest-empty

pub ruleset nests = (nest-none)

-- the loops of a stack that the innermost leaves, if there is one
pub nest-pop : (r : Option rust.Level) (old new : List rust.Level) (m n : ℕ) → m ≡ length old → n ≡ length new → old ≡ new ++ option_to_list r → MatchOption r ((m ≡ 0) × (n ≡ 0)) (λ _. n + 1 ≡ m) → MatchOption r ((nest old ≡ []) × (nest new ≡ [])) (λ l. nest old ≡ level_of l ∷ nest new)
nest-pop None [] [] m n p q e h = (nest-empty, nest-empty)
nest-pop None (x ∷ xs) new m n p q e h = absurd (omega (arith, h.0, p))
nest-pop None [] (x ∷ xs) m n p q e h = absurd (omega (arith, h.1, q))
nest-pop (Some l) old new m n p q e h = ap nest e ∙ nest-push new l

-- levels with the same lists
abbrev pub level : Code → Code → Level
level again out = record { again = again; out = out }

pub level-same : (a b out behind : Code) → a ≡ b → out ≡ behind → level a out ≡ level b behind
level-same a b out behind e f = ap (λ x. level x out) e ∙ ap (level b) f

-- a loop with its test first: its own are its step and itself
pub round_level : (l : rust.Level) (xs step : List Stmt) → l.again.items ≡ xs ++ reverse step → l.skipped ≡ length step + 1 → level_of l ≡ record { again = followed (code step) (pile xs); out = below xs }
round_level l xs step e f =
    let n : length l.again.items - l.skipped ≡ length xs - 1 = omega (arith, f, ap length e, length-append xs (reverse step), length-reverse step) in
    let out : take (length l.again.items - l.skipped) l.again.items ≡ take (length xs - 1) xs = ap (λ k. take k l.again.items) n ∙ ap (take (length xs - 1)) e ∙ take-append-le (length xs - 1) xs (reverse step) (omega arith) in
    level-same (pile l.again.items) (followed (code step) (pile xs)) (pile (take (length l.again.items - l.skipped) l.again.items)) (below xs) (ap pile e ∙ pile-put xs step) (ap pile out ∙ pile-below xs)

-- a loop with its test last: its own is the `if` that it stands in
pub do_round_level : (l : rust.Level) → l.skipped ≡ 1 → level_of l ≡ record { again = pile l.again.items; out = below l.again.items }
do_round_level l f = ap (λ (b : Code). record { again = pile l.again.items; out = b }) (ap (λ k. pile (take (length l.again.items - k) l.again.items)) f ∙ pile-below l.again.items)

unless_over-opened : (rest : Code) (here up : Standing) (x : Stmt-F Stmt) → unless_over (Views.opened x rest) here up ≡ here
unless_over-opened rest here up (stmt.Assign place target value) = refl
unless_over-opened rest here up (stmt.Input place target) = refl
unless_over-opened rest here up (stmt.Assert place test) = refl
unless_over-opened rest here up (stmt.If place test p q) = refl
unless_over-opened rest here up (stmt.While place test step body) = refl
unless_over-opened rest here up (stmt.Do place body test_place test) = refl
unless_over-opened rest here up (stmt.Leave place jump) = refl
unless_over-opened rest here up (stmt.Block place body) = refl
unless_over-opened rest here up (stmt.Skip place) = refl
unless_over-opened rest here up (stmt.Cond number p q) = refl

-- a list with a statement is not over
unless_over-front : (s : Stmt) (rest : Code) (here up : Standing) → unless_over (front s rest) here up ≡ here
unless_over-front s rest here up = by_layer (λ f. unless_over (f rest) here up ≡ here) (unless_over-opened rest here up) s

unless_over-stacked : (x : Stmt) (xs : List Stmt) (rest : Code) (here up : Standing) → unless_over (stacked (map front (x ∷ xs)) rest) here up ≡ here
unless_over-stacked x [] rest here up = unless_over-front x rest here up
unless_over-stacked x (y ∷ ys) rest here up = unless_over-stacked y ys (front x rest) here up

-- nothing is left where something is to do, or where there is no loop; else the innermost loop is
pub settled-here : (xs : List Stmt) (levels : List Level) (store : List ℤ) (taken : ℕ) → 0 < length xs → standing (pile xs) levels store taken ≡ settled (standing (pile xs) levels store taken)
unfolding pile
settled-here [] levels store taken h = absurd (omega (arith, h))
settled-here (x ∷ xs) levels store taken h = sym (unless_over-stacked x xs Done _ _)

pub settled-end : (todo : Code) (levels : List Level) (store : List ℤ) (taken : ℕ) → todo ≡ Done → levels ≡ [] → standing todo levels store taken ≡ settled (standing todo levels store taken)
settled-end todo levels store taken e f = rw (e, f) refl

pub settled-up : (todo : Code) (levels ls : List Level) (l : Level) (store : List ℤ) (taken : ℕ) → todo ≡ Done → levels ≡ l ∷ ls → settled (standing l.again ls store taken) ≡ settled (standing todo levels store taken)
settled-up todo levels ls l store taken e f = rw (e, f) refl

-- standings with the same lists
pub standing-same : (a b : Code) (ls ms : List Level) (store : List ℤ) (taken : ℕ) → a ≡ b → ls ≡ ms → standing a ls store taken ≡ standing b ms store taken
standing-same a b ls ms store taken e f = ap (λ (x : Code). standing x ls store taken) e ∙ ap (λ (l : List Level). standing b l store taken) f

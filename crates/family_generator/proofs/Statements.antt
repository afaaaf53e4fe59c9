-- The items of generated families spell programs.
use Rattle.std.proofs.Common.{◌≡◌, ℕ, zero, suc, ◌+◌, false, List, [], ◌∷◌, ◌++◌, length, map, refl, ap, ◌∙◌, sym, subst, arith, ℤ, pos}
use Rattle.fam_outer.specs.declared.faults.Place.{Place}
use Rattle.c_tree.specs.Tree.{Term, Number, Var, Binary, Code, Done}
use Rattle.c_tree.specs.declared.tree.Op.{Op}
use Rattle.c_tree.specs.declared.tree.Op.TheVariants.{Add, Lt, Gt, Ge}
use Rattle.c_grammar.specs.declared.items.Item.{Item}
use Rattle.c_grammar.specs.declared.items.Sign.TheVariants as signs
use Rattle.c_grammar.specs.Grammar as grammar
use Rattle.c_grammar.specs.Grammar.{at, of_input, Expresses, number, name, loose, binary, Listed, Raise, Outer, File, present, int, unqualified, only_type, bare, variables_end}
use Rattle.c_grammar.specs.Within.{Full, WritesIn, assignment, input_taken, count_behind, none, more, choice, ends, otherwise, change, assert, while, if_else, DeclaresIn, nothing, variables, last_var, no_more, body, main, FormsWithin, file}
use Rattle.family_generator.proofs.BlockTexts.{Block, Switched, Bounded, Checked}
use Rattle.family_generator.proofs.Signs.{laid, laid_joined, laid_again, sign_in, place_in, block_signs, condition_count, blocks_signs, header_signs, file_signs}

-- ---- expressions

lifted : (k : ℕ) {ts : List Item} {e : Term} → Expresses 0 ts e → Expresses k ts e
lifted zero s = s
lifted (suc k) s = loose (lifted k s)

-- a name and a number, with a relation between
relation : (p q r : Place) (op : Op) (x : ℕ) (n : ℤ) → grammar.tighter op ≡ 2 → Full (at p (signs.Name x) ∷ at q (signs.Oper op) ∷ at r (signs.Number n) ∷ []) (Binary op (Var x) (Number n))
relation p q r op x n e = record {
  expresses = loose (loose (loose (subst (λ k. Expresses (suc k) (at p (signs.Name x) ∷ at q (signs.Oper op) ∷ at r (signs.Number n) ∷ []) (Binary op (Var x) (Number n))) e
      (binary q op {ts = at p (signs.Name x) ∷ []} {us = at r (signs.Number n) ∷ []} (lifted (suc (grammar.tighter op)) (name p x)) (lifted (grammar.tighter op) (number r n))))));
  short = omega arith;
}

sum : (p q r : Place) (x : ℕ) (n : ℤ) → Full (at p (signs.Name x) ∷ at q (signs.Oper Add) ∷ at r (signs.Number n) ∷ []) (Binary Add (Var x) (Number n))
sum p q r x n = record {
  expresses = loose (loose (loose (loose (binary q Add {ts = at p (signs.Name x) ∷ []} {us = at r (signs.Number n) ∷ []} (lifted 2 (name p x)) (lifted 1 (number r n))))));
  short = omega arith;
}

literal : (p : Place) (n : ℤ) → Full (at p (signs.Number n) ∷ []) (Number n)
literal p n = record { expresses = lifted 6 (number p n); short = omega arith }

-- ---- statements

-- a list of statements, and what it writes
pub record Lists (k : ℕ) (xs : List Item) : Type 0 where
  pub code : Code
  pub written : WritesIn k (Listed false) xs code

abbrev input_items : Place → Place → Place → Place → Place → Place → ℕ → List Item
input_items p q r s t u x = at p (signs.Name x) ∷ at q signs.Equals ∷ at r signs.Input ∷ at s signs.Open ∷ at t signs.Close ∷ at u signs.Semicolon ∷ []

abbrev reset_items : Place → Place → Place → Place → ℕ → ℤ → List Item
reset_items p q r s y n = at p (signs.Name y) ∷ at q signs.Equals ∷ at r (signs.Number n) ∷ at s signs.Semicolon ∷ []

abbrev count_items : Place → Place → Place → ℕ → List Item
count_items p q r y = at p (signs.Name y) ∷ at q signs.PlusPlus ∷ at r signs.Semicolon ∷ []

reset_written : (k : ℕ) (p q r s : Place) (y : ℕ) (n : ℤ) → Lists k (reset_items p q r s y n)
reset_written k p q r s y n = record { code = _; written = more {ts = reset_items p q r s y n} {us = []} (change s (assignment p q y {ts = at r (signs.Number n) ∷ []} (literal r n))) none }

-- ---- blocks

switched_lists : (a p q r s t u z : Place) (x n : ℕ) (rest : List Item) → Lists 64 rest → Lists 64 (at a (signs.GroupIf n) ∷ (input_items p q r s t u x ++ at z signs.GroupEnd ∷ rest))
switched_lists a p q r s t u z x n rest h = record {
  code = _;
  written = choice a n {ts = input_items p q r s t u x} {us = at z signs.GroupEnd ∷ []} {vs = rest} {k = 63}
      (more {ts = input_items p q r s t u x} {us = []} (change u (input_taken p q r s t x of_input)) none) (ends z) h.written;
}

abbrev while_items : Place → Place → Place → Place → Place → Place → Place → Place → Place → ℕ → ℤ → List Item
while_items p q r s t u v w x y n =
    at p signs.While ∷ at q signs.Open ∷ at r (signs.Name y) ∷ at s (signs.Oper Lt) ∷ at t (signs.Number n) ∷ at u signs.Close ∷ count_items v w x y

while_written : (p q r s t u v w x : Place) (y : ℕ) (n : ℤ) → Lists 63 (while_items p q r s t u v w x y n)
while_written p q r s t u v w x y n = record {
  code = _;
  written = more {ts = while_items p q r s t u v w x y n} {us = []}
      (while p q u {ts = at r (signs.Name y) ∷ at s (signs.Oper Lt) ∷ at t (signs.Number n) ∷ []} {us = count_items v w x y} {k = 62} (relation r s t Lt y n refl) (change x (count_behind v w y Raise))) none;
}

bounded_lists : (a p q r s t u v w x e i j l m z : Place) (y n : ℕ) (most : ℤ) (rest : List Item) → Lists 64 rest
    → Lists 64 (at a (signs.GroupIf n) ∷ (while_items p q r s t u v w x y most ++ at e signs.GroupElse ∷ (reset_items i j l m y (pos 0) ++ at z signs.GroupEnd ∷ rest)))
bounded_lists a p q r s t u v w x e i j l m z y n most rest h =
    let loop = while_written p q r s t u v w x y most in
    let reset = reset_written 63 i j l m y (pos 0) in
    record {
      code = _;
      written = choice a n {ts = while_items p q r s t u v w x y most} {us = at e signs.GroupElse ∷ (reset_items i j l m y (pos 0) ++ at z signs.GroupEnd ∷ [])} {vs = rest} {k = 63}
          loop.written (otherwise e z {ts = reset_items i j l m y (pos 0)} reset.written) h.written;
    }

abbrev sum_items : Place → Place → Place → Place → Place → Place → ℕ → List Item
sum_items p q r s t u y = at p (signs.Name y) ∷ at q signs.Equals ∷ at r (signs.Name y) ∷ at s (signs.Oper Add) ∷ at t (signs.Number (pos 1)) ∷ at u signs.Semicolon ∷ []

abbrev relation_items : Place → Place → Place → ℕ → Op → List Item
relation_items p q r x op = at p (signs.Name x) ∷ at q (signs.Oper op) ∷ at r (signs.Number (pos 0)) ∷ []

abbrev choice_items : Place → Place → Place → Place → Place → Place → Place → Place → Place → Place → Place → Place → Place → Place → Place → Place → Place → ℕ → ℕ → List Item
choice_items a b c d e f g h i j l m n p q r s x y =
    at a signs.If ∷ at b signs.Open ∷ (relation_items c d e x Gt ++ at f signs.Close ∷ (sum_items g h i j l m y ++ at n signs.Else ∷ reset_items p q r s y (pos 0)))

checked_lists : (a b c d e f g h i j l m n p q r s t u v w o k z : Place) (x y : ℕ) (rest : List Item) → Lists 64 rest
    → Lists 64 (choice_items a b c d e f g h i j l m n p q r s x y ++ (at t signs.Assert ∷ at u signs.Open ∷ (relation_items v w o y Ge ++ at k signs.Close ∷ at z signs.Semicolon ∷ rest)))
checked_lists a b c d e f g h i j l m n p q r s t u v w o k z x y rest lists = record {
  code = _;
  written = more {ts = choice_items a b c d e f g h i j l m n p q r s x y} {us = at t signs.Assert ∷ at u signs.Open ∷ (relation_items v w o y Ge ++ at k signs.Close ∷ at z signs.Semicolon ∷ rest)}
      (if_else a b f n {ts = relation_items c d e x Gt} {us = sum_items g h i j l m y} {vs = reset_items p q r s y (pos 0)} {k = 63} (relation c d e Gt x (pos 0) refl)
      (change m (assignment g h y {ts = at i (signs.Name y) ∷ at j (signs.Oper Add) ∷ at l (signs.Number (pos 1)) ∷ []} (sum i j l y (pos 1))))
      (change s (assignment p q y {ts = at r (signs.Number (pos 0)) ∷ []} (literal r (pos 0)))))
      (more {ts = at t signs.Assert ∷ at u signs.Open ∷ (relation_items v w o y Ge ++ at k signs.Close ∷ at z signs.Semicolon ∷ [])} {us = rest}
      (assert t u k z {ts = relation_items v w o y Ge} (relation v w o Ge y (pos 0) refl)) lists.written);
}

block_lists : (f : ℕ → Place) (k x y n : ℕ) (b : Block) (rest : List Item) → Lists 64 rest → Lists 64 (laid f k (block_signs x y n b) ++ rest)
block_lists f k x y n (Switched s) rest h = switched_lists _ _ _ _ _ _ _ _ x n rest h
block_lists f k x y n (Bounded c w) rest h = bounded_lists _ _ _ _ _ _ _ _ _ _ _ _ _ _ _ _ y n (pos (w + 10)) rest h
block_lists f k x y n Checked rest h = checked_lists _ _ _ _ _ _ _ _ _ _ _ _ _ _ _ _ _ _ _ _ _ _ _ _ x y rest h

blocks_list : (f : ℕ → Place) (k x y n : ℕ) (bs : List Block) → Lists 64 (laid f k (blocks_signs x y n bs))
blocks_list f k x y n [] = record { code = Done; written = none }
blocks_list f k x y n (b ∷ bs) =
    subst (Lists 64) (sym (laid_joined f k (block_signs x y n b) (blocks_signs x y (n + condition_count b) bs)))
    (block_lists f k x y n b (laid f (k + length (block_signs x y n b)) (blocks_signs x y (n + condition_count b) bs)) (blocks_list f (k + length (block_signs x y n b)) x y (n + condition_count b) bs))

-- ---- files

-- a file within the limits
pub record IsFormed (xs : List Item) : Type 0 where
  pub made : File
  pub formed : FormsWithin xs made

declares : (p q r s t u : Place) (x y : ℕ) → DeclaresIn 64 (Outer []) (at p signs.Int ∷ at q (signs.Name x) ∷ at r signs.Semicolon ∷ at s signs.Int ∷ at t (signs.Name y) ∷ at u signs.Semicolon ∷ []) (grammar.declared x (pos 0) [] ∷ grammar.declared y (pos 0) [] ∷ [])
declares p q r s t u x y =
    variables [] {us = at p signs.Int ∷ []} {vs = at q (signs.Name x) ∷ at r signs.Semicolon ∷ []} {ws = at s signs.Int ∷ at t (signs.Name y) ∷ at u signs.Semicolon ∷ []}
    (only_type signs.Static (unqualified (int p))) (last_var [] {us = at q (signs.Name x) ∷ []} {vs = at r signs.Semicolon ∷ []} (bare q x) (variables_end r))
    (variables [] {us = at s signs.Int ∷ []} {vs = at t (signs.Name y) ∷ at u signs.Semicolon ∷ []} {ws = []} (only_type signs.Static (unqualified (int s))) (last_var [] {us = at t (signs.Name y) ∷ []} {vs = at u signs.Semicolon ∷ []} (bare t y) (variables_end u)) (nothing []))

header_formed : (a b c d e g p q r v s t z : Place) (x y : ℕ) (statements : List Item) → Lists 64 statements
    → IsFormed (at a signs.Int ∷ at b (signs.Name x) ∷ at c signs.Semicolon ∷ at d signs.Int ∷ at e (signs.Name y) ∷ at g signs.Semicolon
    ∷ at p signs.Int ∷ at q signs.Main ∷ at r signs.Open ∷ at v signs.Void ∷ at s signs.Close ∷ at t signs.LeftBrace ∷ (statements ++ at z signs.RightBrace ∷ []))
header_formed a b c d e g p q r v s t z x y statements h = record {
  made = _;
  formed = file {us = at a signs.Int ∷ at b (signs.Name x) ∷ at c signs.Semicolon ∷ at d signs.Int ∷ at e (signs.Name y) ∷ at g signs.Semicolon ∷ []}
      {vs = at p signs.Int ∷ at q signs.Main ∷ at r signs.Open ∷ at v signs.Void ∷ at s signs.Close ∷ at t signs.LeftBrace ∷ (statements ++ at z signs.RightBrace ∷ [])}
      (declares a b c d e g x y)
      (main q r s t z {ts = at p signs.Int ∷ []} {us = at v signs.Void ∷ []} {vs = statements ++ at z signs.RightBrace ∷ []} (int p) (present v signs.Void) (body z {us = statements} {vs = []} h.written no_more));
}

laid_formed : (f : ℕ → Place) (x y : ℕ) (bs : List Block) → IsFormed (laid f 0 (file_signs x y bs))
laid_formed f x y bs =
    subst (λ (xs : List Item). IsFormed (laid f 0 (header_signs x y) ++ xs)) (sym (laid_joined f 12 (blocks_signs x y 0 bs) (signs.RightBrace ∷ [])))
    (header_formed _ _ _ _ _ _ _ _ _ _ _ _ _ x y (laid f 12 (blocks_signs x y 0 bs)) (blocks_list f 12 x y 0 bs))

-- items with the signs of a generated family form a file within the limits
pub signs_formed : (x y : ℕ) (bs : List Block) (xs : List Item) → map sign_in xs ≡ file_signs x y bs → IsFormed xs
signs_formed x y bs xs e =
    let p : Place = record { line = 0; column = 0 } in
    subst IsFormed (ap (laid (place_in p xs) 0) (sym e) ∙ laid_again p xs) (laid_formed (place_in p xs) x y bs)

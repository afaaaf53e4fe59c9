-- The pieces of a list of statements, as far as their ends go, beside what they are with a block for each `for` that declares variables.
use Rattle.std.proofs.Common.{◌≡◌, ℕ, suc, Bool, true, false, List, [], ◌∷◌, ◌++◌, sym, subst, append_assoc}
use Rattle.fam_outer.specs.declared.faults.Place.{Place}
use Rattle.c_grammar.specs.declared.items.Item.{Item}
use Rattle.c_grammar.specs.declared.items.Sign.{Sign}
use Rattle.c_grammar.specs.declared.items.Sign.TheVariants as signs
use Rattle.c_grammar.specs.Ahead.{IsNoElse}
use Rattle.c_grammar.specs.Grammar.{at}
use Rattle.for_blocks.specs.Blocks.{behind_first, begins_type, declares}
use Rattle.for_blocks.proofs.Texts.{shapes, stops, holds, IsCalm}

-- ---- what stands behind a piece

-- an item comes, and it is no `else`
abbrev pub Starts : List Item → Type 0
Starts [] = ⊥
Starts (x ∷ w) = IsNoElse x.sign

abbrev pub HasItem : List Item → Type 0
HasItem [] = ⊥
HasItem (x ∷ w) = Unit {0}

pub has_item : (w : List Item) → Starts w → HasItem w
has_item [] s = s
has_item (x ∷ w) s = tt

pub starts_more : (ts w : List Item) → Starts ts → Starts (ts ++ w)
starts_more [] w s = absurd s
starts_more (x ∷ ts) w s = s

-- a list of statements; a statement, and whether it ends in an `if` without `else`; what closes a group, with its later parts
pub data Piece : Type 0 where
  Statements : Piece
  Statement : (dangles : Bool) → Piece
  Later : Piece

-- these items may stand behind a piece
abbrev pub Follows : Piece → List Item → Type 0
Follows Statements w = Starts w
Follows (Statement true) w = Starts w
Follows (Statement false) w = HasItem w
Follows Later w = Starts w

pub follows_any : (piece : Piece) (w : List Item) → Starts w → Follows piece w
follows_any Statements w s = s
follows_any (Statement true) w s = s
follows_any (Statement false) w s = has_item w s
follows_any Later w s = s

pub follows_item : (piece : Piece) (w : List Item) → Follows piece w → HasItem w
follows_item Statements w s = has_item w s
follows_item (Statement true) w s = has_item w s
follows_item (Statement false) w s = s
follows_item Later w s = has_item w s

-- ---- the pieces

abbrev pub behind_text : (List Item → List Item) → List Item → List Item
behind_text go [] = []
behind_text go (x ∷ xs) = behind_first go x.sign xs

-- a statement that holds no other
pub record IsSimple (ts : List Item) : Type 0 where
  pub starts : Starts ts
  pub free : holds shapes ts ≡ false
  pub passed : (go : List Item → List Item) (w : List Item) → behind_text go (ts ++ w) ≡ w

-- a declaration
pub record IsDeclaration (ts : List Item) : Type 0 where
  pub starts : Starts ts
  pub free : holds shapes ts ≡ false

pub data IsLoop : Sign → Type 0 where
  of_while : IsLoop signs.While
  of_for : IsLoop signs.For

-- a loop with this in its parentheses declares no variables
abbrev pub DeclaresNone : Place → Place → Place → Sign → List Item → Type 0
DeclaresNone p q r s ts = (w : List Item) → declares (at p s) (at q signs.Open ∷ (ts ++ at r signs.Close ∷ w)) ≡ false

-- a piece, and what it turns into; the number is how many constructs may still stand in one another
pub data Turns : ℕ → Piece → List Item → List Item → Type 0 where
  none : {k : ℕ} → Turns k Statements [] []
  more : {b : Bool} {ts ms us ns : List Item} {k : ℕ} → Turns k (Statement b) ts ms → Turns k Statements us ns → Turns k Statements (ts ++ us) (ms ++ ns)
  choice : (p : Place) (n : ℕ) {ts ms us ns vs os : List Item} {k : ℕ} → Turns k Statements ts ms → Turns k Later us ns → Turns (suc k) Statements vs os → Turns (suc k) Statements (at p (signs.GroupIf n) ∷ (ts ++ (us ++ vs))) (at p (signs.GroupIf n) ∷ (ms ++ (ns ++ os)))
  declaration : {ts us ns : List Item} {k : ℕ} → IsDeclaration ts → Turns k Statements us ns → Turns k Statements (ts ++ us) (ts ++ ns)
  ends : (p : Place) {k : ℕ} → Turns k Later (at p signs.GroupEnd ∷ []) (at p signs.GroupEnd ∷ [])
  otherwise : (p q : Place) {ts ms : List Item} {k : ℕ} → Turns k Statements ts ms → Turns k Later (at p signs.GroupElse ∷ (ts ++ at q signs.GroupEnd ∷ [])) (at p signs.GroupElse ∷ (ms ++ at q signs.GroupEnd ∷ []))
  elif : (p : Place) (n : ℕ) {ts ms us ns : List Item} {k : ℕ} → Turns k Statements ts ms → Turns k Later us ns → Turns (suc k) Later (at p (signs.GroupElif n) ∷ (ts ++ us)) (at p (signs.GroupElif n) ∷ (ms ++ ns))
  simple : {ts : List Item} {k : ℕ} → IsSimple ts → Turns k (Statement false) ts ts
  block : (p q : Place) {ts ms : List Item} {k : ℕ} → Turns k Statements ts ms → Turns (suc k) (Statement false) (at p signs.LeftBrace ∷ (ts ++ at q signs.RightBrace ∷ [])) (at p signs.LeftBrace ∷ (ms ++ at q signs.RightBrace ∷ []))
  loop : (p q r : Place) {s : Sign} {b : Bool} {ts us ns : List Item} {k : ℕ} → IsLoop s → IsCalm shapes ts → DeclaresNone p q r s ts → Turns k (Statement b) us ns → Turns (suc k) (Statement b) (at p s ∷ at q signs.Open ∷ (ts ++ at r signs.Close ∷ us)) (at p s ∷ at q signs.Open ∷ (ts ++ at r signs.Close ∷ ns))
  declaring : (p q r s : Place) (x : Item) {b : Bool} {ts us vs os : List Item} {k : ℕ} → begins_type x.sign ≡ true → IsCalm stops (x ∷ ts) → IsCalm shapes us → Turns k (Statement b) vs os → Turns (suc k) (Statement b) (at p signs.For ∷ at q signs.Open ∷ x ∷ (ts ++ at r signs.Semicolon ∷ (us ++ at s signs.Close ∷ vs))) (at p signs.LeftBrace ∷ x ∷ (ts ++ at r signs.Semicolon ∷ at p signs.For ∷ at p signs.Open ∷ at p signs.Semicolon ∷ (us ++ at s signs.Close ∷ (os ++ at p signs.RightBrace ∷ []))))
  if_then : (p q r : Place) {b : Bool} {ts us ns : List Item} {k : ℕ} → IsCalm shapes ts → Turns k (Statement b) us ns → Turns (suc k) (Statement true) (at p signs.If ∷ at q signs.Open ∷ (ts ++ at r signs.Close ∷ us)) (at p signs.If ∷ at q signs.Open ∷ (ts ++ at r signs.Close ∷ ns))
  if_else : (p q r s : Place) {b : Bool} {ts us ns vs os : List Item} {k : ℕ} → IsCalm shapes ts → Turns k (Statement false) us ns → Turns k (Statement b) vs os → Turns (suc k) (Statement b) (at p signs.If ∷ at q signs.Open ∷ (ts ++ at r signs.Close ∷ (us ++ at s signs.Else ∷ vs))) (at p signs.If ∷ at q signs.Open ∷ (ts ++ at r signs.Close ∷ (ns ++ at s signs.Else ∷ os)))
  do_while : (p q r : Place) {b : Bool} {ts ms us : List Item} {k : ℕ} → Turns k (Statement b) ts ms → IsCalm stops us → Turns (suc k) (Statement false) (at p signs.Do ∷ (ts ++ at q signs.While ∷ (us ++ at r signs.Semicolon ∷ []))) (at p signs.Do ∷ (ms ++ at q signs.While ∷ (us ++ at r signs.Semicolon ∷ [])))

-- ---- more room

pub wider : {k : ℕ} {piece : Piece} {ts ms : List Item} → Turns k piece ts ms → Turns (suc k) piece ts ms
wider none = none
wider (more a b) = more (wider a) (wider b)
wider (choice p n a b c) = choice p n (wider a) (wider b) (wider c)
wider (declaration h a) = declaration h (wider a)
wider (ends p) = ends p
wider (otherwise p q a) = otherwise p q (wider a)
wider (elif p n a b) = elif p n (wider a) (wider b)
wider (simple s) = simple s
wider (block p q a) = block p q (wider a)
wider (loop p q r l c d a) = loop p q r l c d (wider a)
wider (declaring p q r s x t c d a) = declaring p q r s x t c d (wider a)
wider (if_then p q r c a) = if_then p q r c (wider a)
wider (if_else p q r s c a b) = if_else p q r s c (wider a) (wider b)
wider (do_while p q r a h) = do_while p q r (wider a) h

-- ---- lists behind one another

abbrev Joins : ℕ → Piece → List Item → List Item → Type 0
Joins k Statements ts ms = (us ns : List Item) → Turns k Statements us ns → Turns k Statements (ts ++ us) (ms ++ ns)
Joins k (Statement b) ts ms = Unit {0}
Joins k Later ts ms = Unit {0}

joins : {k : ℕ} {piece : Piece} {ts ms : List Item} → Turns k piece ts ms → Joins k piece ts ms
joins none = λ us ns l. l
joins (more {b} {ts} {ms} {us} {ns} {k} a c) = λ ws os l.
    subst (λ (y : List Item). Turns k Statements y ((ms ++ ns) ++ os)) (sym (append_assoc ts us ws))
    (subst (λ (y : List Item). Turns k Statements (ts ++ (us ++ ws)) y) (sym (append_assoc ms ns os)) (more a (joins c ws os l)))
joins (choice p n {ts} {ms} {us} {ns} {vs} {os} {k} a c d) = λ ws xs l.
    let left : ts ++ (us ++ (vs ++ ws)) ≡ (ts ++ (us ++ vs)) ++ ws = simp append_assoc in
    let right : ms ++ (ns ++ (os ++ xs)) ≡ (ms ++ (ns ++ os)) ++ xs = simp append_assoc in
    subst (λ (y : List Item). Turns (suc k) Statements (at p (signs.GroupIf n) ∷ y) (at p (signs.GroupIf n) ∷ ((ms ++ (ns ++ os)) ++ xs))) left
    (subst (λ (y : List Item). Turns (suc k) Statements (at p (signs.GroupIf n) ∷ (ts ++ (us ++ (vs ++ ws)))) (at p (signs.GroupIf n) ∷ y)) right (choice p n a c (joins d ws xs l)))
joins (declaration {ts} {us} {ns} {k} h a) = λ ws os l.
    subst (λ (y : List Item). Turns k Statements y ((ts ++ ns) ++ os)) (sym (append_assoc ts us ws))
    (subst (λ (y : List Item). Turns k Statements (ts ++ (us ++ ws)) y) (sym (append_assoc ts ns os)) (declaration h (joins a ws os l)))
joins (ends p) = tt
joins (otherwise p q a) = tt
joins (elif p n a c) = tt
joins (simple s) = tt
joins (block p q a) = tt
joins (loop p q r l c d a) = tt
joins (declaring p q r s x t c d a) = tt
joins (if_then p q r c a) = tt
joins (if_else p q r s c a d) = tt
joins (do_while p q r a h) = tt

pub joined : {k : ℕ} {ts ms us ns : List Item} → Turns k Statements ts ms → Turns k Statements us ns → Turns k Statements (ts ++ us) (ms ++ ns)
joined {k} {ts} {ms} {us} {ns} a b = joins a us ns b

-- ---- what a piece begins with

-- a statement and what closes a group begin with no `else`, and neither does what a list is followed by
abbrev pub Begins : Piece → List Item → Type 0
Begins Statements ts = (w : List Item) → Starts w → Starts (ts ++ w)
Begins (Statement b) ts = Starts ts
Begins Later ts = Starts ts

pub begins : {k : ℕ} {piece : Piece} {ts ms : List Item} → Turns k piece ts ms → Begins piece ts
begins none = λ w s. s
begins (more {b} {ts} {ms} {us} a c) = λ w s. subst Starts (sym (append_assoc ts us w)) (starts_more ts (us ++ w) (begins a))
begins (choice p n a c d) = λ w s. tt
begins (declaration {ts} {us} h a) = λ w s. subst Starts (sym (append_assoc ts us w)) (starts_more ts (us ++ w) h.starts)
begins (ends p) = tt
begins (otherwise p q a) = tt
begins (elif p n a c) = tt
begins (simple s) = s.starts
begins (block p q a) = tt
begins (loop p q r of_while c d a) = tt
begins (loop p q r of_for c d a) = tt
begins (declaring p q r s x t c d a) = tt
begins (if_then p q r c a) = tt
begins (if_else p q r s c a d) = tt
begins (do_while p q r a h) = tt

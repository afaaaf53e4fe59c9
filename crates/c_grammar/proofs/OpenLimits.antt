-- The limits of what is open: how deep its statements are, and how many operators its expressions have.
use Rattle.std.proofs.Common.{◌≡◌, ℕ, suc, ◌+◌, ◌≤◌, List, [], ◌∷◌, length, arith, inl, inr}
use Rattle.std.specs.Prelude.{IfSome, max}
use Rattle.std.proofs.Math.Nat.{le-max_left, le-max_right, max-eq_left, max-eq_right}
use Rattle.std.proofs.lemmas.Bool.{cases_lt}
use Rattle.fam_outer.specs.declared.faults.Place.{Place}
use Rattle.c_tree.specs.Tree.{Term, Code, Done, Assign, Input, Assert, If, While, Do, Leave, Block, Skip, Cond, followed}
use Rattle.c_tree.specs.Whole.{operators, nesting, IsSmall}
use Rattle.c_grammar.specs.declared.items.Sign.{Sign}
use Rattle.c_grammar.specs.declared.items.Sign.TheVariants as signs
use Rattle.c_grammar.specs.Machine.{Frame, Paren, Pre, Left, Stack, Top, Braces, Yes, No, ThenOf, ElseOf, LoopOf, DoOf, Start, ChangeStart, DeclaredStart, Onward, InList, AtTest, Scope, ListScope, ForScope, Site, AsStatement, AsStart, AsStep, Use, ToAssign, ToInitialise, ToUpdate, ToAssert, ToChoose, ToLoop, ToRepeat, ToRedo, ToReturn, Pending, OfStatement, OfLocal, ReadingState, Ready, LocalConst, LocalType, NextLocal, LocalNamed, Ended, Wants, Has, Counting, Named, Opens, ForOpens, StartComes, TestComes, StepComes, RedoOpens, RedoComes, VoidComes, VoidCloses, CallComes, CallOpens, CallCloses, Finishing, Over, folded, with_declarator, started_by, placed, linked, at_open, at_close, at_semicolon, at_void, at_while, at_function, at_void_function, start, InStatic}
use Rattle.c_grammar.specs.Deep.{depth}

max_parts : (a b k m : ℕ) → max a b + k ≤ m → (a + k ≤ m) × (b + k ≤ m)
max_parts a b k m h = (omega (arith, le-max_left a b), omega (arith, le-max_right a b))

max_both : (a b k m : ℕ) → a + k ≤ m → b + k ≤ m → max a b + k ≤ m
max_both a b k m h i = elim (cases_lt a b) [
  | inl lt ↦ (let is : max a b ≡ b = max-eq_right {n = a} {m = b} (omega arith) in omega (arith, is))
  | inr ge ↦ (let is : max a b ≡ a = max-eq_left {n = a} {m = b} ge in omega (arith, is))
]

-- statements with so many statements around them
abbrev pub Below : ℕ → Code → Type 0
Below m c = (nesting c + m ≤ 128) × IsSmall c

-- statements in so many constructs, each of which is at most two statements, as a `for` is that declares variables
abbrev pub Fine : ℕ → Code → Type 0
Fine k c = Below (k + k) c

below_one : (a m : ℕ) → a + suc m ≤ 128 → max (a + 1) 0 + m ≤ 128
below_one a m h = max_both (a + 1) 0 m 128 (omega arith) (omega arith)

below_both : (a b m : ℕ) → a + suc m ≤ 128 → b + suc m ≤ 128 → max (max a b + 1) 0 + m ≤ 128
below_both a b m h i = let j = max_both a b (suc m) 128 h i in max_both (max a b + 1) 0 m 128 (omega (arith, j)) (omega arith)

pub around_one : (a k : ℕ) → a + (suc k + suc k) ≤ 128 → max (a + 1) 0 + (k + k) ≤ 128
around_one a k h = below_one a (k + k) (omega (arith, h))

pub around_both : (a b k : ℕ) → a + (suc k + suc k) ≤ 128 → b + (suc k + suc k) ≤ 128 → max (max a b + 1) 0 + (k + k) ≤ 128
around_both a b k h i = below_both a b (k + k) (omega (arith, h)) (omega (arith, i))

below_followed : (m : ℕ) (c d : Code) → Below m c → Below m d → Below m (followed c d)
below_followed m Done d h i = i
below_followed m (Assign p x e rest) d h i = let r = below_followed m rest d (h.0, h.1.1) i in (r.0, (h.1.0, r.1))
below_followed m (Input p x rest) d h i = below_followed m rest d h i
below_followed m (Assert p e rest) d h i = let r = below_followed m rest d (h.0, h.1.1) i in (r.0, (h.1.0, r.1))
below_followed m (If p e a b rest) d h i =
    let parts = max_parts (max (nesting a) (nesting b) + 1) (nesting rest) m 128 h.0 in
    let r = below_followed m rest d (parts.1, h.1.3) i in
    (max_both (max (nesting a) (nesting b) + 1) (nesting (followed rest d)) m 128 parts.0 r.0, (h.1.0, h.1.1, h.1.2, r.1))
below_followed m (While p e a b rest) d h i =
    let parts = max_parts (max (nesting a) (nesting b) + 1) (nesting rest) m 128 h.0 in
    let r = below_followed m rest d (parts.1, h.1.3) i in
    (max_both (max (nesting a) (nesting b) + 1) (nesting (followed rest d)) m 128 parts.0 r.0, (h.1.0, h.1.1, h.1.2, r.1))
below_followed m (Do p a q e rest) d h i =
    let parts = max_parts (nesting a + 1) (nesting rest) m 128 h.0 in
    let r = below_followed m rest d (parts.1, h.1.2) i in
    (max_both (nesting a + 1) (nesting (followed rest d)) m 128 parts.0 r.0, (h.1.0, h.1.1, r.1))
below_followed m (Leave p j rest) d h i = let r = below_followed m rest d (h.0, h.1.1) i in (r.0, (h.1.0, r.1))
below_followed m (Block p a rest) d h i =
    let parts = max_parts (nesting a + 1) (nesting rest) m 128 h.0 in
    let r = below_followed m rest d (parts.1, h.1.1) i in
    (max_both (nesting a + 1) (nesting (followed rest d)) m 128 parts.0 r.0, (h.1.0, r.1))
below_followed m (Skip p rest) d h i = below_followed m rest d h i
below_followed m (Cond n a b rest) d h i =
    let parts = max_parts (max (nesting a) (nesting b) + 1) (nesting rest) m 128 h.0 in
    let r = below_followed m rest d (parts.1, h.1.2) i in
    (max_both (max (nesting a) (nesting b) + 1) (nesting (followed rest d)) m 128 parts.0 r.0, (h.1.0, h.1.1, r.1))

fine_followed : (k : ℕ) (c d : Code) → Fine k c → Fine k d → Fine k (followed c d)
fine_followed k c d h i = below_followed (k + k) c d h i

-- ---- what is open

abbrev pub LinksFit : List (ℕ × Code) → ℕ → Type 0
LinksFit [] d = Unit {0}
LinksFit (l ∷ links) d = Fine (suc (length links) + d) l.1 × LinksFit links d

-- what stands before the first test of a loop: a declaration stands in the block that the `for` is
abbrev pub StartFits : Start → ℕ → Type 0
StartFits (ChangeStart c) k = Fine k c
StartFits (DeclaredStart p c) k = Fine (suc k) c

abbrev pub Fits : Stack → Type 0
Fits (Top ds made) = Fine 0 made
Fits (Braces p made outer) = Fine (suc (depth outer)) made × Fits outer
Fits (Yes links n made outer) = Fine (suc (length links) + depth outer) made × LinksFit links (depth outer) × Fits outer
Fits (No links n first made outer) = Fine (suc (length links) + depth outer) made × Fine (suc (length links) + depth outer) first × LinksFit links (depth outer) × Fits outer
Fits (ThenOf p e outer) = (suc (depth outer) ≤ 64) × (operators e ≤ 64) × Fits outer
Fits (ElseOf p e first outer) = Fine (suc (depth outer)) first × (operators e ≤ 64) × Fits outer
Fits (LoopOf start p e advance outer) = (suc (depth outer) ≤ 64) × (operators e ≤ 64) × StartFits start (depth outer) × Fine (suc (depth outer)) advance × Fits outer
Fits (DoOf p outer) = (suc (depth outer) ≤ 64) × Fits outer

-- behind a statement, where no `else` comes
unfoldable pub OnwardFits : Onward → Type 0
OnwardFits (InList outer) = Fits outer
OnwardFits (AtTest p c outer) = Fine (suc (depth outer)) c × Fits outer

pub depth_fits : (outer : Stack) → Fits outer → 0 + (depth outer + depth outer) ≤ 128
depth_fits (Top ds made) h = omega arith
depth_fits (Braces p made outer) h = omega (arith, h.0.0)
depth_fits (Yes links n made outer) h = omega (arith, h.0.0)
depth_fits (No links n first made outer) h = omega (arith, h.0.0)
depth_fits (ThenOf p e outer) h = omega (arith, h.0)
depth_fits (ElseOf p e first outer) h = omega (arith, h.0.0)
depth_fits (LoopOf start p e advance outer) h = omega (arith, h.0)
depth_fits (DoOf p outer) h = omega (arith, h.0)

pub linked_fits : (links : List (ℕ × Code)) (d : ℕ) (c : Code) → LinksFit links d → Fine (length links + d) c → Fine d (linked links c)
linked_fits [] d c h i = (omega (arith, i.0), i.1)
linked_fits (l ∷ links) d c h i = linked_fits links d (Cond l.0 l.1 c Done) h.1 (around_both (nesting l.1) (nesting c) (length links + d) (omega (arith, h.0.0)) (omega (arith, i.0)), (h.0.1, i.1, tt))

then_fine : (p : Place) (e : Term) (k : ℕ) (c : Code) → operators e ≤ 64 → Fine (suc k) c → Fine k (If p e c Done Done)
then_fine p e k c small h = (around_both (nesting c) 0 k h.0 (omega (arith, h.0)), (small, h.1, tt, tt))

pub else_fine : (p : Place) (e : Term) (k : ℕ) (c d : Code) → operators e ≤ 64 → Fine (suc k) c → Fine (suc k) d → Fine k (If p e c d Done)
else_fine p e k c d small h i = (around_both (nesting c) (nesting d) k h.0 i.0, (small, h.1, i.1, tt))

pub loop_fine : (start : Start) (p : Place) (e : Term) (advance : Code) (k : ℕ) (c : Code) → StartFits start k → operators e ≤ 64 → Fine (suc k) advance → Fine (suc k) c → Fine k (started_by start (While p e advance c Done))
loop_fine (ChangeStart first) p e advance k c before small behind h =
    fine_followed k first (While p e advance c Done) before (around_both (nesting advance) (nesting c) k behind.0 h.0, (small, behind.1, h.1, tt))
loop_fine (DeclaredStart q first) p e advance k c before small behind h =
    let m : ℕ = suc (k + k) in
    let loop : Code = While p e advance c Done in
    let fine : Below m loop = (below_both (nesting advance) (nesting c) m (omega (arith, behind.0)) (omega (arith, h.0)), (small, behind.1, h.1, tt)) in
    let inner : Below m (followed first loop) = below_followed m first loop (omega (arith, before.0), before.1) fine in
    (below_one (nesting (followed first loop)) (k + k) inner.0, (inner.1, tt))

folded_fits : (outer : Stack) (c : Code) → Fits outer → Fine (depth outer) c → Fits (folded outer c)
folded_fits (Top ds made) c h i = fine_followed 0 made c h i
folded_fits (Braces p made outer) c h i = (fine_followed (suc (depth outer)) made c h.0 i, h.1)
folded_fits (Yes links n made outer) c h i = (fine_followed (suc (length links) + depth outer) made c h.0 i, h.1, h.2)
folded_fits (No links n first made outer) c h i = (fine_followed (suc (length links) + depth outer) made c h.0 i, h.1, h.2, h.3)
folded_fits (ThenOf p e outer) c h i = h
folded_fits (ElseOf p e first outer) c h i = h
folded_fits (LoopOf _ p e advance outer) c h i = h
folded_fits (DoOf p outer) c h i = h

pub placed_fits : (outer : Stack) (c : Code) → Fits outer → Fine (depth outer) c → OnwardFits (placed outer c)
unfolding OnwardFits
placed_fits (Top ds made) c h i = folded_fits (Top ds made) c h i
placed_fits (Braces p made outer) c h i = folded_fits (Braces p made outer) c h i
placed_fits (Yes links n made outer) c h i = folded_fits (Yes links n made outer) c h i
placed_fits (No links n first made outer) c h i = folded_fits (No links n first made outer) c h i
placed_fits (ThenOf p e outer) c h i = placed_fits outer (If p e c Done Done) h.2 (then_fine p e (depth outer) c h.1 i)
placed_fits (ElseOf p e first outer) c h i = placed_fits outer (If p e first c Done) h.2 (else_fine p e (depth outer) first c h.1 h.0 i)
placed_fits (LoopOf start p e advance outer) c h i = placed_fits outer (started_by start (While p e advance c Done)) h.4 (loop_fine start p e advance (depth outer) c h.2 h.1 h.3 i)
placed_fits (DoOf p outer) c h i = (i, h.1)

unfoldable pub weight : List Frame → ℕ
weight [] = 0
weight (Paren ∷ fs) = weight fs
weight (Pre u ∷ fs) = suc (weight fs)
weight (Left op a ∷ fs) = suc (operators a) + weight fs

-- a change stands in a statement, or in the parentheses of a `for`, which may stand there
unfoldable pub SiteFits : Site → Type 0
SiteFits (AsStatement outer) = Fits outer
SiteFits (AsStart outer) = (suc (depth outer) ≤ 64) × Fits outer
SiteFits (AsStep start p e outer) = (suc (depth outer) ≤ 64) × (operators e ≤ 64) × StartFits start (depth outer) × Fits outer

-- a statement that holds no other
unfoldable pub IsFlat : Code → Type 0
IsFlat c = (nesting c ≡ 0) × IsSmall c

-- what is read but for its end: a statement, or a change in the parentheses of a `for`
unfoldable pub PieceFits : Site → Code → Type 0
PieceFits (AsStatement outer) c = Fine (depth outer) c
PieceFits (AsStart outer) c = IsFlat c
PieceFits (AsStep _ p e outer) c = IsFlat c

pub flat_piece : (site : Site) (c : Code) → SiteFits site → IsFlat c → PieceFits site c
unfolding SiteFits IsFlat PieceFits
flat_piece (AsStatement outer) c h i = (omega (arith, i.0, depth_fits outer h), i.1)
flat_piece (AsStart outer) c h i = i
flat_piece (AsStep _ p e outer) c h i = i

-- where a declaration in `main` stands
abbrev pub ScopeFits : Scope → Type 0
ScopeFits (ListScope outer) = Fits outer
ScopeFits (ForScope p made outer) = (suc (depth outer) ≤ 64) × Fine (suc (depth outer)) made × Fits outer

pub declared_fits : (scope : Scope) (c : Code) → ScopeFits scope → IsFlat c → ScopeFits (with_declarator scope c)
unfolding IsFlat
declared_fits (ListScope outer) c h i = folded_fits outer c h (omega (arith, i.0, depth_fits outer h), i.1)
declared_fits (ForScope p made outer) c h i = (h.0, fine_followed (suc (depth outer)) made c h.1 (omega (arith, i.0, h.0), i.1), h.2)

unfoldable pub UseFits : Use → Type 0
UseFits (ToAssign p x site) = SiteFits site
UseFits (ToInitialise kind p x scope) = ScopeFits scope
UseFits (ToUpdate p x u site) = SiteFits site
UseFits (ToAssert p outer) = Fits outer
UseFits (ToChoose p outer) = (suc (depth outer) ≤ 64) × Fits outer
UseFits (ToLoop p outer) = (suc (depth outer) ≤ 64) × Fits outer
UseFits (ToRepeat start p outer) = (suc (depth outer) ≤ 64) × StartFits start (depth outer) × Fits outer
UseFits (ToRedo p c q outer) = Fine (suc (depth outer)) c × Fits outer
UseFits (ToReturn p outer) = Fits outer

unfoldable pub PendingFits : Pending → Type 0
PendingFits (OfStatement site c) = SiteFits site × PieceFits site c
PendingFits (OfLocal kind scope c) = ScopeFits scope × IsFlat c

unfoldable pub StateFits : ReadingState → ℕ → Type 0
StateFits (Ready outer) k = Fits outer
StateFits (LocalConst scope) k = ScopeFits scope
StateFits (LocalType kind words scope) k = ScopeFits scope
StateFits (NextLocal kind scope) k = ScopeFits scope
StateFits (LocalNamed kind p x scope) k = ScopeFits scope
StateFits (InStatic part outer) k = Fits outer
StateFits (Ended outer c) k = Fits outer × Fine (depth outer) c
StateFits (Wants fs u) k = UseFits u × (weight fs ≤ k) × (k ≤ 64)
StateFits (Has fs u e) k = UseFits u × (weight fs + operators e ≤ k) × (k ≤ 64)
StateFits (Counting p u site) k = SiteFits site
StateFits (Named p x site) k = SiteFits site
StateFits (Opens u) k = UseFits u
StateFits (ForOpens p outer) k = (suc (depth outer) ≤ 64) × Fits outer
StateFits (StartComes p outer) k = (suc (depth outer) ≤ 64) × Fits outer
StateFits (TestComes start outer) k = (suc (depth outer) ≤ 64) × StartFits start (depth outer) × Fits outer
StateFits (StepComes start p e outer) k = (suc (depth outer) ≤ 64) × (operators e ≤ 64) × StartFits start (depth outer) × Fits outer
StateFits (RedoOpens p c outer) k = Fine (suc (depth outer)) c × Fits outer
StateFits (RedoComes p c outer) k = Fine (suc (depth outer)) c × Fits outer
StateFits (VoidComes p outer) k = Fits outer
StateFits (VoidCloses p outer) k = Fits outer
StateFits (CallComes p outer) k = Fits outer
StateFits (CallOpens made) k = PendingFits made
StateFits (CallCloses made) k = PendingFits made
StateFits (Finishing made) k = PendingFits made
StateFits (Over f parts) k = Fine 0 f.body
StateFits _ k = Unit {0}

pub while_fits : (next : ReadingState) (s : Sign) → StateFits next 0 → IfSome (at_while next s) (λ n. StateFits n 0)
while_fits next signs.While h = h
while_fits next _ h = tt

pub open_fits : (next : ReadingState) (s : Sign) → StateFits next 0 → IfSome (at_open next s) (λ n. StateFits n 0)
open_fits next signs.Open h = h
open_fits next _ h = tt

pub close_fits : (next : ReadingState) (s : Sign) → StateFits next 0 → IfSome (at_close next s) (λ n. StateFits n 0)
close_fits next signs.Close h = h
close_fits next _ h = tt

pub semicolon_fits : (next : ReadingState) (s : Sign) → StateFits next 0 → IfSome (at_semicolon next s) (λ n. StateFits n 0)
semicolon_fits next signs.Semicolon h = h
semicolon_fits next _ h = tt

pub void_fits : (next : ReadingState) (s : Sign) → StateFits next 0 → IfSome (at_void next s) (λ n. StateFits n 0)
void_fits next signs.Void h = h
void_fits next _ h = tt

pub function_fits : (next : ReadingState) (s : Sign) → StateFits next 0 → IfSome (at_function next s) (λ n. StateFits n 0)
function_fits next signs.Input h = h
function_fits next (signs.Function k) h = h
function_fits next _ h = tt

pub void_function_fits : (next : ReadingState) (s : Sign) → StateFits next 0 → IfSome (at_void_function next s) (λ n. StateFits n 0)
void_function_fits next (signs.Function k) h = h
void_function_fits next _ h = tt

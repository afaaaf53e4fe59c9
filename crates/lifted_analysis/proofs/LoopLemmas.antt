-- The parts and the rounds of a loop at one vector.
use Rattle.std.proofs.Common.{◌≡◌, ℕ, suc, ◌+◌, ◌-◌, ◌<◌, ◌≤◌, Bool, true, false, if◌then◌else◌, nat_lt, ℤ, List, refl, ap, sym, ◌∙◌, arith}
use Rattle.c_tree.specs.declared.tree.Mode.{Mode}
use Rattle.c_tree.specs.Fit.{IsCodeOf}
use Rattle.c_tree.specs.Project.{projected}
use Rattle.c_tree.specs.Tree.{Whole}
use Rattle.leaf_domain.specs.Leaves.{LeafValue, LeafMeaning}
use Rattle.plain_analysis.specs.Loops.{round_by, rounds_of, taken_by, narrowing_of}
use Rattle.plain_analysis.specs.Stated.{ArePartsOf, HasLoopsIn, HasLoopsOf}
use Rattle.plain_analysis.specs.Statements.{Heads, LoopParts, TestFirst, TestLast, inside, body_of, passed, through_body, failing}
use Rattle.plain_analysis.specs.Ways.{enter}
use Rattle.plain_analysis.proofs.Sizes.{size_of, size_in}
use Rattle.lifted_analysis.specs.Steps.{parts_at, failing_so}

-- the body of a loop is no larger
pub body_small : (l : LoopParts) → size_of (body_of l) ≤ size_in l
body_small (TestFirst test step body) = omega arith
body_small (TestLast body at test) = omega arith

-- the body of a loop is over as many variables, and its loops are the program's
pub body_fits : (n : ℕ) (l : LoopParts) → ArePartsOf n l → IsCodeOf n (body_of l)
body_fits n (TestFirst test step body) h = h.2
body_fits n (TestLast body at test) h = h.1

pub body_loops : (p : Whole) (l : LoopParts) → HasLoopsIn p l → HasLoopsOf p (body_of l)
body_loops p (TestFirst test step body) h = h.1
body_loops p (TestLast body at test) h = h

-- what its body makes of the head's leaf, and the leaf with which its test fails
pub entered_is : (M : LeafMeaning) (mode : Mode) (H : Heads) (ts : List Bool) (l : LoopParts) (x : LeafValue) → passed M mode H (projected ts (body_of l)) (enter (inside M mode l x)) ≡ through_body M mode H (parts_at ts l) x
entered_is M mode H ts (TestFirst test step body) x = refl
entered_is M mode H ts (TestLast body at test) x = refl

pub failing_is : (M : LeafMeaning) (mode : Mode) (H : Heads) (ts : List Bool) (l : LoopParts) (x : LeafValue) → failing_so M mode l x (through_body M mode H (parts_at ts l) x) ≡ failing M mode H (parts_at ts l) x
failing_is M mode H ts (TestFirst test step body) x = refl
failing_is M mode H ts (TestLast body at test) x = refl

-- one round more
pub rounds_go : (M : LeafMeaning) (ts : List ℤ) (delay : ℕ) (G : LeafValue → LeafValue) (n k : ℕ) (x w y z : LeafValue) → k < n → w ≡ G x → y ≡ round_by M ts (nat_lt k delay) x w
    → rounds_of M ts delay G (n - k) k x ≡ z → rounds_of M ts delay G (n - (k + 1)) (k + 1) y ≡ z
rounds_go M ts delay G n k x w y z l e h f =
    let g : suc (n - (k + 1)) ≡ n - k = omega arith in
    ap (λ u. rounds_of M ts delay G (n - (k + 1)) (k + 1) u) (h ∙ ap (round_by M ts (nat_lt k delay) x) e) ∙ (ap (λ m. rounds_of M ts delay G m k x) g ∙ f)

-- the candidate, or what was there
pub narrowing_is : (M : LeafMeaning) (ts : List ℤ) (G : LeafValue → LeafValue) (x w c g y : LeafValue) (b : Bool) → w ≡ G x → c ≡ M.narrow ts x w → g ≡ G c → b ≡ M.leq g c
    → y ≡ (if b then c else x) → narrowing_of M ts G x ≡ y
narrowing_is M ts G x w c g y b ew ec eg eb ey =
    let e : c ≡ M.narrow ts x (G x) = ec ∙ ap (M.narrow ts x) ew in
    ap (λ u. taken_by M x u (G u)) (sym e) ∙ (ap (λ u. if M.leq u c then c else x) (sym eg) ∙ (ap (λ (t : Bool). if t then c else x) (sym eb) ∙ sym ey))

either : (b : Bool) (x : LeafValue) → (if b then x else x) ≡ x
either true x = refl
either false x = refl

-- a candidate that is what was there changes nothing
pub narrowing_stays : (M : LeafMeaning) (ts : List ℤ) (G : LeafValue → LeafValue) (x w c : LeafValue) → w ≡ G x → c ≡ M.narrow ts x w → c ≡ x → narrowing_of M ts G x ≡ x
narrowing_stays M ts G x w c ew ec e =
    let f : M.narrow ts x (G x) ≡ x = sym (ec ∙ ap (M.narrow ts x) ew) ∙ e in
    ap (λ u. taken_by M x u (G u)) f ∙ either (M.leq (G x) x) x

-- the next leaf that belongs to what was chosen
pub next_is : (G : LeafValue → LeafValue) (b : Bool) (x w c g y z : LeafValue) → w ≡ G x → g ≡ G c → y ≡ (if b then c else x) → z ≡ (if b then g else w) → z ≡ G y
next_is G true x w c g y z ew eg ey ez = ez ∙ (eg ∙ ap G (sym ey))
next_is G false x w c g y z ew eg ey ez = ez ∙ (ew ∙ ap G (sym ey))

-- Start values of declarators whose guards hold, one declarator after another.
use Rattle.std.proofs.Common.{◌≡◌, ℕ, zero, suc, ◌+◌, ◌<◌, ◌==◌, ◌&&◌, Bool, true, false, if◌then◌else◌, List, [], ◌∷◌, ◌++◌, take, length, get_or, slice_set, Option, Some, None, refl, ap, sym, ◌∙◌, arith, ◌≢◌}
use Rattle.std.specs.Prelude.{ℤ, unwrap_or}
use Rattle.std.specs.List.{All}
use Rattle.std.proofs.lemmas.List.{take_more}
use Rattle.std.proofs.lemmas.List.Elements.{All-head, All-tail, All-cons}
use Rattle.c_tree.specs.declared.lists.Declared.{Declared}
use Rattle.c_tree.specs.Value.{IsInt}
use Rattle.c_tree.specs.Whole.{IsDeclaredOf}
use Rattle.c_tree.specs.Project.{guards_hold, last_value, start_from, projected_start}

-- one declarator more
last_push : (truths : List Bool) (x : ℕ) (ds : List Declared) (d : Declared) (found : Option ℤ)
    → last_value truths x (ds ++ d ∷ []) found ≡ (if (d.target == x) && guards_hold truths d.guards then Some d.value else last_value truths x ds found)
last_push truths x [] d found = refl
last_push truths x (e ∷ ds) d found = last_push truths x ds d (if (e.target == x) && guards_hold truths e.guards then Some e.value else found)

abbrev picked : Bool → Option ℤ → Option ℤ → Option ℤ
picked b o p = if b then o else p

-- a declarator of another variable, or whose guards fail, changes nothing
last_same : (truths : List Bool) (x : ℕ) (ds : List Declared) (d : Declared) → ((d.target == x) && guards_hold truths d.guards) ≡ false
    → last_value truths x (ds ++ d ∷ []) None ≡ last_value truths x ds None
last_same truths x ds d e = last_push truths x ds d None ∙ ap (λ (b : Bool). picked b (Some d.value) (last_value truths x ds None)) e

last_new : (truths : List Bool) (x : ℕ) (ds : List Declared) (d : Declared) → ((d.target == x) && guards_hold truths d.guards) ≡ true
    → last_value truths x (ds ++ d ∷ []) None ≡ Some d.value
last_new truths x ds d e = last_push truths x ds d None ∙ ap (λ (b : Bool). picked b (Some d.value) (last_value truths x ds None)) e

other_target : (t x : ℕ) (b : Bool) → t ≢ x → ((t == x) && b) ≡ false
other_target t x b h = by_test (t == x) refl
  where
    by_test : (u : Bool) → (t == x) ≡ u → ((t == x) && b) ≡ false
    by_test true e = absurd (h (grind arith))
    by_test false e = ap (λ (u : Bool). u && b) e

same_target : (t x : ℕ) (b : Bool) → t ≡ x → b ≡ true → ((t == x) && b) ≡ true
same_target t x b h e = let f : (t == x) ≡ true = grind arith in ap (λ (u : Bool). u && b) f ∙ e

failing : (t x : ℕ) (b : Bool) → b ≡ false → ((t == x) && b) ≡ false
failing t x b e = by_test (t == x)
  where
    by_test : (u : Bool) → (u && b) ≡ false
    by_test true = e
    by_test false = refl

abbrev headed : List Bool → List Declared → ℕ → ℤ → ℤ
headed truths ds x n = unwrap_or (last_value truths x ds None) n

-- behind the variable of the declarator
start_behind : (truths : List Bool) (ds : List Declared) (d : Declared) (x : ℕ) (ns : List ℤ) → d.target < x → start_from truths (ds ++ d ∷ []) x ns ≡ start_from truths ds x ns
start_behind truths ds d x [] h = refl
start_behind truths ds d x (n ∷ ns) h =
    ap (λ (o : Option ℤ). unwrap_or o n ∷ start_from truths (ds ++ d ∷ []) (x + 1) ns) (last_same truths x ds d (other_target d.target x (guards_hold truths d.guards) (omega arith)))
    ∙ ap (λ (l : List ℤ). headed truths ds x n ∷ l) (start_behind truths ds d (x + 1) ns (omega arith))

-- up to it
start_holding : (truths : List Bool) (ds : List Declared) (d : Declared) (x k : ℕ) (ns : List ℤ) → guards_hold truths d.guards ≡ true → d.target ≡ x + k
    → start_from truths (ds ++ d ∷ []) x ns ≡ slice_set (start_from truths ds x ns) k d.value
start_holding truths ds d x k [] g e = refl
start_holding truths ds d x zero (n ∷ ns) g e =
    ap (λ (o : Option ℤ). unwrap_or o n ∷ start_from truths (ds ++ d ∷ []) (x + 1) ns) (last_new truths x ds d (same_target d.target x (guards_hold truths d.guards) (omega arith) g))
    ∙ ap (λ (l : List ℤ). d.value ∷ l) (start_behind truths ds d (x + 1) ns (omega arith))
start_holding truths ds d x (suc k) (n ∷ ns) g e =
    ap (λ (o : Option ℤ). unwrap_or o n ∷ start_from truths (ds ++ d ∷ []) (x + 1) ns) (last_same truths x ds d (other_target d.target x (guards_hold truths d.guards) (omega arith)))
    ∙ ap (λ (l : List ℤ). headed truths ds x n ∷ l) (start_holding truths ds d (x + 1) k ns g (omega arith))

start_failing : (truths : List Bool) (ds : List Declared) (d : Declared) (x : ℕ) (ns : List ℤ) → guards_hold truths d.guards ≡ false → start_from truths (ds ++ d ∷ []) x ns ≡ start_from truths ds x ns
start_failing truths ds d x [] g = refl
start_failing truths ds d x (n ∷ ns) g =
    ap (λ (o : Option ℤ). unwrap_or o n ∷ start_from truths (ds ++ d ∷ []) (x + 1) ns) (last_same truths x ds d (failing d.target x (guards_hold truths d.guards) g))
    ∙ ap (λ (l : List ℤ). headed truths ds x n ∷ l) (start_failing truths ds d (x + 1) ns g)

-- one declarator more of a list
start_pushed : (truths : List Bool) (ds : List Declared) (d : Declared) (ns : List ℤ)
    → projected_start truths (ds ++ d ∷ []) ns ≡ (if guards_hold truths d.guards then slice_set (projected_start truths ds ns) d.target d.value else projected_start truths ds ns)
start_pushed truths ds d ns = by_test (guards_hold truths d.guards) refl
  where
    by_test : (b : Bool) → guards_hold truths d.guards ≡ b → projected_start truths (ds ++ d ∷ []) ns ≡ (if b then slice_set (projected_start truths ds ns) d.target d.value else projected_start truths ds ns)
    by_test true g = start_holding truths ds d 0 d.target ns g (omega arith)
    by_test false g = start_failing truths ds d 0 ns g

pub start_more : (truths : List Bool) (list : List Declared) (i : ℕ) (d : Declared) (ns : List ℤ) → i < length list → d ≡ get_or list i d
    → projected_start truths (take (i + 1) list) ns ≡ (if guards_hold truths d.guards then slice_set (projected_start truths (take i list) ns) d.target d.value else projected_start truths (take i list) ns)
start_more truths list i d ns h e =
    ap (λ (l : List Declared). projected_start truths l ns) (take_more list i d h ∙ ap (λ (y : Declared). take i list ++ y ∷ []) (sym e))
    ∙ start_pushed truths (take i list) d ns

-- without declarators nothing is set
pub start_none : (truths : List Bool) (x : ℕ) (ns : List ℤ) → start_from truths [] x ns ≡ ns
start_none truths x [] = refl
start_none truths x (n ∷ ns) = ap (λ (l : List ℤ). n ∷ l) (start_none truths (x + 1) ns)

pub length-start : (truths : List Bool) (ds : List Declared) (x : ℕ) (ns : List ℤ) → length (start_from truths ds x ns) ≡ length ns
length-start truths ds x [] = refl
length-start truths ds x (n ∷ ns) = ap suc (length-start truths ds (x + 1) ns)

-- what is found is within `int`
abbrev IsIntIfThere : Option ℤ → Type 0
IsIntIfThere None = Unit {0}
IsIntIfThere (Some n) = IsInt n

either_int : (b : Bool) (n : ℤ) (o : Option ℤ) → IsInt n → IsIntIfThere o → IsIntIfThere (if b then Some n else o)
either_int true n o h k = h
either_int false n o h k = k

int_found : (truths : List Bool) (count x : ℕ) (ds : List Declared) (o : Option ℤ) → All (IsDeclaredOf count) ds → IsIntIfThere o → IsIntIfThere (last_value truths x ds o)
int_found truths count x [] o h k = k
int_found truths count x (d ∷ ds) o h k =
    int_found truths count x ds (if (d.target == x) && guards_hold truths d.guards then Some d.value else o) (All-tail (IsDeclaredOf count) d ds h)
    (either_int ((d.target == x) && guards_hold truths d.guards) d.value o (All-head (IsDeclaredOf count) d ds h).value k)

int_picked : (o : Option ℤ) (n : ℤ) → IsIntIfThere o → IsInt n → IsInt (unwrap_or o n)
int_picked None n h k = k
int_picked (Some m) n h k = h

pub ints-start : (truths : List Bool) (ds : List Declared) (count x : ℕ) (ns : List ℤ) → All (IsDeclaredOf count) ds → All IsInt ns → All IsInt (start_from truths ds x ns)
ints-start truths ds count x [] h k = k
ints-start truths ds count x (n ∷ ns) h k =
    All-cons IsInt (headed truths ds x n) (start_from truths ds (x + 1) ns)
    (int_picked (last_value truths x ds None) n (int_found truths count x ds None h tt) (All-head IsInt n ns k)) (ints-start truths ds count (x + 1) ns h (All-tail IsInt n ns k))

-- A file has no more statements than items.
use Rattle.std.proofs.Common.{◌≡◌, ℕ, suc, ◌+◌, ◌≤◌, List, ◌∷◌, ◌++◌, length, subst, sym, ap, ◌∙◌, arith, le_refl}
use Rattle.std.proofs.lemmas.List.{length-append}
use Rattle.fam_outer.specs.declared.faults.Place.{Place}
use Rattle.c_tree.specs.Tree.{Code, Done, Assign, Input, Assert, If, While, Do, Leave, Block, Skip, Cond, followed, Whole}
use Rattle.c_grammar.specs.declared.items.Item.{Item}
use Rattle.c_grammar.specs.declared.items.Sign.TheVariants as signs
use Rattle.c_grammar.specs.Grammar.{Qualifier, Shape, File, at}
use Rattle.c_grammar.specs.Within as within
use Rattle.c_grammar.specs.Within.{ChangesWithin, ClauseWithin, LocalWithin, WritesIn, BodyWithin, MainWithin, FormsWithin, SpellsWithin}
use Rattle.reading_laws.proofs.MadePrograms.{count_of}

count-followed : (a b : Code) → count_of (followed a b) ≡ count_of a + count_of b
count-followed Done b = omega arith
count-followed (Assign p x e rest) b = omega (arith, count-followed rest b)
count-followed (Input p x rest) b = omega (arith, count-followed rest b)
count-followed (Assert p e rest) b = omega (arith, count-followed rest b)
count-followed (If p e x y rest) b = omega (arith, count-followed rest b)
count-followed (While p e x y rest) b = omega (arith, count-followed rest b)
count-followed (Do p x q e rest) b = omega (arith, count-followed rest b)
count-followed (Leave p j rest) b = omega (arith, count-followed rest b)
count-followed (Block p x rest) b = omega (arith, count-followed rest b)
count-followed (Skip p rest) b = omega (arith, count-followed rest b)
count-followed (Cond n x y rest) b = omega (arith, count-followed rest b)

-- ---- the items around

two_lists : (n m : ℕ) (ts us : List Item) → n ≤ length ts → m ≤ length us → n + m ≤ length (ts ++ us)
two_lists n m ts us h k = omega (arith, length-append ts us, h, k)

then_some : (n : ℕ) (ts us : List Item) → n ≤ length ts → n ≤ length (ts ++ us)
then_some n ts us h = omega (arith, length-append ts us, h)

behind_some : (n : ℕ) (ts us : List Item) → n ≤ length us → n ≤ length (ts ++ us)
behind_some n ts us h = omega (arith, length-append ts us, h)

one_of : (n : ℕ) → suc 0 ≤ suc n
one_of n = omega arith

more_of : (n m : ℕ) → n ≤ m → n ≤ suc m
more_of n m h = omega arith

with_one : (n m : ℕ) → n ≤ m → suc (n + 0) ≤ suc m
with_one n m h = omega arith

with_body : (n m : ℕ) → n ≤ m → suc (0 + (n + 0)) ≤ suc m
with_body n m h = omega arith

with_none : (n m : ℕ) → n ≤ m → suc (n + (0 + 0)) ≤ suc m
with_none n m h = omega arith

with_two : (n m l : ℕ) → n + m ≤ l → suc (n + (m + 0)) ≤ suc l
with_two n m l h = omega arith

with_three : (n m k l : ℕ) → n + (m + k) ≤ l → suc (n + (m + k)) ≤ suc l
with_three n m k l h = omega arith

local_counted : {kind : Qualifier} {ts : List Item} {c : Code} → LocalWithin kind ts c → count_of c ≤ length ts
local_counted (within.uninitialised p x) = one_of _
local_counted (within.initialised p q x e) = one_of _
local_counted (within.from_call p q r s t x f) = one_of _

change_counted : {ts : List Item} {c : Code} → ChangesWithin ts c → count_of c ≤ length ts
change_counted (within.assignment p q x e) = one_of _
change_counted (within.input_taken p q r s t x f) = one_of _
change_counted (within.compound_assignment p q x u e) = one_of _
change_counted (within.count_behind p q x u) = one_of _
change_counted (within.count_before p q x u) = one_of _

clause_counted : {ts : List Item} {c : Code} → ClauseWithin ts c → count_of c ≤ length ts
clause_counted within.no_clause = le_refl 0
clause_counted (within.clause s) = change_counted s

-- the items of a `for`
for_length : (x y : Item) (ts us vs ws : List Item) → length (ts ++ x ∷ (us ++ (vs ++ y ∷ ws))) ≡ length ts + suc (length us + (length vs + suc (length ws)))
for_length x y ts us vs ws =
    length-append ts (x ∷ (us ++ (vs ++ y ∷ ws)))
    ∙ ap (λ n. length ts + suc n) (length-append us (vs ++ y ∷ ws) ∙ ap (λ n. length us + n) (length-append vs (y ∷ ws)))

with_loop : (n a s c t u v w : ℕ) → n ≡ a + suc (s + (c + 0)) → a ≤ t → s ≤ v → c ≤ w → n ≤ suc (suc (t + suc (u + (v + suc w))))
with_loop n a s c t u v w e h j k = omega arith

-- those of one that declares variables
declaring_length : (x : Item) (ts ds us vs ws : List Item) → length (ts ++ (ds ++ (us ++ (vs ++ x ∷ ws)))) ≡ length ts + (length ds + (length us + (length vs + suc (length ws))))
declaring_length x ts ds us vs ws =
    length-append ts (ds ++ (us ++ (vs ++ x ∷ ws)))
    ∙ ap (λ n. length ts + n) (length-append ds (us ++ (vs ++ x ∷ ws)) ∙ ap (λ n. length ds + n) (length-append us (vs ++ x ∷ ws) ∙ ap (λ n. length us + n) (length-append vs (x ∷ ws))))

with_declaration : (n a s c t d u v w : ℕ) → n ≡ a + suc (s + (c + 0)) → a ≤ d → s ≤ v → c ≤ w → suc (n + 0) ≤ suc (suc (t + (d + (u + (v + suc w)))))
with_declaration n a s c t d u v w e h j k = omega arith

counted : {k : ℕ} {s : Shape} {ts : List Item} {c : Code} → WritesIn k s ts c → count_of c ≤ length ts
counted within.none = le_refl 0
counted (within.more {b} {ts} {us} {c} {d} {k} s l) = subst (λ (n : ℕ). n ≤ length (ts ++ us)) (sym (count-followed c d)) (two_lists (count_of c) (count_of d) ts us (counted s) (counted l))
counted (within.choice p n {ts} {us} {vs} {c} {d} {e} {k} s t l) =
    with_three (count_of c) (count_of d) (count_of e) (length (ts ++ (us ++ vs))) (two_lists (count_of c) (count_of d + count_of e) ts (us ++ vs) (counted s) (two_lists (count_of d) (count_of e) us vs (counted t) (counted l)))
counted (within.local {ts} {us} {vs} {c} {d} {kind} {k} q v l) =
    subst (λ (n : ℕ). n ≤ length (ts ++ (us ++ vs))) (sym (count-followed c d)) (behind_some (count_of c + count_of d) ts (us ++ vs) (two_lists (count_of c) (count_of d) us vs (counted v) (counted l)))
counted (within.static_local p {ts} {us} {vs} {ds} {c} q v l) = more_of (count_of c) _ (behind_some (count_of c) ts (us ++ vs) (behind_some (count_of c) us vs (counted l)))
counted (within.last_local p {ts} {c} d) = then_some (count_of c) ts _ (local_counted d)
counted (within.next_local p {ts} {us} {c} {d} {kind} {k} e v) =
    subst (λ (n : ℕ). n ≤ length (ts ++ at p signs.Comma ∷ us)) (sym (count-followed c d)) (two_lists (count_of c) (count_of d) ts (at p signs.Comma ∷ us) (local_counted e) (more_of (count_of d) _ (counted v)))
counted (within.ends p) = omega arith
counted (within.otherwise p q {ts} {c} s) = more_of (count_of c) _ (then_some (count_of c) ts _ (counted s))
counted (within.elif p n {ts} {us} {c} {d} s t) = with_two (count_of c) (count_of d) _ (two_lists (count_of c) (count_of d) ts us (counted s) (counted t))
counted (within.change r {ts} {c} s) = then_some (count_of c) ts _ (change_counted s)
counted (within.call p q r s f) = one_of _
counted (within.void_call p q r s t u v f) = one_of _
counted (within.assert p q r s e) = one_of _
counted (within.skip p) = one_of _
counted (within.block p q {ts} {c} s) = with_one (count_of c) _ (then_some (count_of c) ts _ (counted s))
counted (within.while p q r {b} {ts} {us} {e} {c} f s) = with_body (count_of c) _ (more_of (count_of c) _ (behind_some (count_of c) ts _ (more_of (count_of c) _ (counted s))))
counted (within.for p q r z {b} {ts} {us} {vs} {ws} {start} {step} {c} {t} {e} a g d s) =
    subst (λ (l : ℕ). count_of (followed start (While t e step c Done)) ≤ suc (suc l)) (sym (for_length (at r signs.Semicolon) (at z signs.Close) ts us vs ws))
    (with_loop (count_of (followed start (While t e step c Done))) (count_of start) (count_of step) (count_of c) (length ts) (length us) (length vs) (length ws)
    (count-followed start (While t e step c Done)) (clause_counted a) (clause_counted d) (counted s))
counted (within.declaring_for p q z {b} {ts} {ds} {us} {vs} {ws} {start} {step} {c} {t} {e} y l g d s) =
    subst (λ (n : ℕ). suc (count_of (followed start (While t e step c Done)) + 0) ≤ suc (suc n)) (sym (declaring_length (at z signs.Close) ts ds us vs ws))
    (with_declaration (count_of (followed start (While t e step c Done))) (count_of start) (count_of step) (count_of c) (length ts) (length ds) (length us) (length vs) (length ws)
    (count-followed start (While t e step c Done)) (counted l) (clause_counted d) (counted s))
counted (within.do_while p q r z t {b} {ts} {us} {x} {e} {c} s f) = with_one (count_of c) _ (then_some (count_of c) ts _ (counted s))
counted (within.break p q) = one_of _
counted (within.continue p q) = one_of _
counted (within.return p q f) = one_of _
counted (within.if_then p q r {b} {ts} {us} {e} {c} f s) = with_none (count_of c) _ (more_of (count_of c) _ (behind_some (count_of c) ts _ (more_of (count_of c) _ (counted s))))
counted (within.if_else p q r t {b} {ts} {us} {vs} {e} {c} {d} f s u) =
    with_two (count_of c) (count_of d) _
    (more_of (count_of c + count_of d) _ (behind_some (count_of c + count_of d) ts _ (more_of (count_of c + count_of d) _ (two_lists (count_of c) (count_of d) us _ (counted s) (more_of (count_of d) _ (counted u))))))

body_counted : {us : List Item} {c : Code} {p : Place} → BodyWithin us c p → count_of c ≤ length us
body_counted (within.body p {us} {vs} {c} s e) = then_some (count_of c) us (at p signs.RightBrace ∷ vs) (counted s)

main_counted : {us : List Item} {c : Code} {p : Place} → MainWithin us c p → count_of c ≤ length us
main_counted (within.main q r s t u {ts} {us} {vs} {c} y o b) =
    behind_some (count_of c) ts _ (more_of (count_of c) _ (more_of (count_of c) _ (behind_some (count_of c) us _ (more_of (count_of c) _ (more_of (count_of c) _ (body_counted b))))))

file_counted : {items : List Item} {f : File} → FormsWithin items f → count_of f.body ≤ length items
file_counted (within.file {us} {vs} {ds} {c} {p} d m) = behind_some (count_of c) us vs (main_counted m)

pub few_statements : (names : List (List ℕ)) (p : Whole) (items : List Item) → SpellsWithin names p items → count_of p.body ≤ length items
few_statements names p items s = subst (λ (w : Whole). count_of w.body ≤ length items) (sym s.is) (file_counted s.forms)

-- What is spelled is read: expressions.
use Rattle.std.proofs.Common.{◌≡◌, ℕ, suc, ◌≤◌, ◌<◌, List, [], ◌∷◌, ◌++◌, length, Option, refl, ap, subst, ◌∙◌, append_assoc, arith}
use Rattle.std.proofs.lemmas.Bool.{lt-ltb, le-ltb}
use Rattle.fam_outer.specs.declared.faults.Place.{Place}
use Rattle.c_tree.specs.declared.tree.Op.{Op}
use Rattle.c_tree.specs.declared.tree.Op.TheVariants.{Add, Sub, Mul, Div, Rem, Lt, Le, Gt, Ge, Eq, Ne, And, Or}
use Rattle.c_tree.specs.Tree.{Term, Binary}
use Rattle.c_grammar.specs.declared.items.Sign.{Sign}
use Rattle.c_grammar.specs.declared.items.Sign.TheVariants as signs
use Rattle.c_grammar.specs.declared.items.Item.{Item}
use Rattle.c_grammar.specs.Grammar.{at, tighter, Prefix, Positive, Negative, Inverse, prefix_sign, applied, Expresses, number, name, group, prefix, loose, binary}
use Rattle.c_grammar.specs.Ahead.{IsLooser, Loose}
use Rattle.c_grammar.specs.Machine.{Frame, Paren, Pre, Left, room, Use, ReadingState, Wants, Has, settle, have, step, finish, at_end, moved, run}

pub tighter_small : (op : Op) → tighter op < 6
tighter_small Add = omega arith
tighter_small Sub = omega arith
tighter_small Mul = omega arith
tighter_small Div = omega arith
tighter_small Rem = omega arith
tighter_small Lt = omega arith
tighter_small Le = omega arith
tighter_small Gt = omega arith
tighter_small Ge = omega arith
tighter_small Eq = omega arith
tighter_small Ne = omega arith
tighter_small And = omega arith
tighter_small Or = omega arith

looser_sign : (j k : ℕ) (s : Sign) → j ≤ k → IsLooser k s → IsLooser j s
looser_sign j k (signs.Oper op) le h = omega arith
looser_sign j k _ le h = tt

pub looser : (j k : ℕ) (w : List Item) → j ≤ k → Loose k w → Loose j w
looser j k [] le h = tt
looser j k (x ∷ w) le h = looser_sign j k x.sign le h

-- two states that do the same at a list
abbrev pub Same : ReadingState → ReadingState → List Item → Type 0
Same a b w = run a w ≡ run b w

pub same_by : (a b : ReadingState) → finish a ≡ finish b → (w : List Item) → ((x : Item) (v : List Item) → w ≡ x ∷ v → step a x.place x.sign ≡ step b x.place x.sign) → Same a b w
unfolding run
same_by a b f [] h = ap at_end f
same_by a b f (x ∷ v) h = ap (λ (o : Option ReadingState). moved o (λ next. run next v) (suc (length v))) (h x v refl)

pub pre_step : (u : Prefix) (fs : List Frame) (v : Use) (e : Term) (s : Sign) → have (Pre u ∷ fs) v e s ≡ have fs v (applied u e) s
pre_step u fs v e (signs.Oper op) = refl
pre_step u fs v e signs.Close = refl
pre_step u fs v e signs.Semicolon = refl
pre_step u fs v e signs.Comma = refl
pre_step u fs v e _ = refl

pub pre_absorbs : (u : Prefix) (fs : List Frame) (v : Use) (e : Term) (w : List Item) → Same (Has (Pre u ∷ fs) v e) (Has fs v (applied u e)) w
pre_absorbs u fs v e w = same_by (Has (Pre u ∷ fs) v e) (Has fs v (applied u e)) refl w (λ x y is. pre_step u fs v e x.sign)

pub left_step : (op : Op) (a : Term) (fs : List Frame) (v : Use) (b : Term) (s : Sign) → IsLooser (suc (tighter op)) s → have (Left op a ∷ fs) v b s ≡ have fs v (Binary op a b) s
left_step op a fs v b signs.Close h = rw (lt-ltb (tighter op) 6 (tighter_small op)) refl
left_step op a fs v b (signs.Oper p) h = rw (lt-ltb (tighter op) (suc (tighter p)) h) refl
left_step op a fs v b signs.Semicolon h = rw (lt-ltb (tighter op) 6 (tighter_small op)) refl
left_step op a fs v b signs.Comma h = rw (lt-ltb (tighter op) 6 (tighter_small op)) refl
left_step op a fs v b _ h = refl

pub left_absorbs : (op : Op) (a : Term) (fs : List Frame) (v : Use) (b : Term) (w : List Item) → Loose (suc (tighter op)) w → Same (Has (Left op a ∷ fs) v b) (Has fs v (Binary op a b)) w
left_absorbs op a fs v b w h = same_by (Has (Left op a ∷ fs) v b) (Has fs v (Binary op a b)) refl w (λ x y is. left_step op a fs v b x.sign (subst (Loose (suc (tighter op))) is h))

pub settled : (k : ℕ) (fs : List Frame) (e : Term) → suc k ≤ room fs → settle (suc k) fs e ≡ (fs, e)
settled k [] e le = refl
settled k (Paren ∷ fs) e le = refl
settled k (Pre u ∷ fs) e le = absurd (omega arith)
settled k (Left op a ∷ fs) e le = rw (le-ltb (tighter op) (suc k) le) refl

pub pushes : (p : Place) (op : Op) (fs : List Frame) (v : Use) (a : Term) (w : List Item) → suc (tighter op) ≤ room fs → run (Has fs v a) (at p (signs.Oper op) ∷ w) ≡ run (Wants (Left op a ∷ fs) v) w
unfolding run
pushes p op fs v a w le = ap (λ (s : List Frame × Term). run (Wants (Left op s.1 ∷ s.0) v) w) (settled (tighter op) fs a le)

pub prefixes : (p : Place) (u : Prefix) (fs : List Frame) (v : Use) (w : List Item) → run (Wants fs v) (at p (prefix_sign u) ∷ w) ≡ run (Wants (Pre u ∷ fs) v) w
unfolding run
prefixes p Positive fs v w = refl
prefixes p Negative fs v w = refl
prefixes p Inverse fs v w = refl

pub complete : {k : ℕ} {ts : List Item} {e : Term} → Expresses k ts e → (fs : List Frame) (v : Use) → k ≤ room fs → (w : List Item) → Loose k w → run (Wants fs v) (ts ++ w) ≡ run (Has fs v e) w
unfolding run
complete (number p n) fs v le w h = refl
complete (name p x) fs v le w h = refl
complete (group p q {ts} {e} s) fs v le w h = ap (λ (x : List Item). run (Wants (Paren ∷ fs) v) x) (append_assoc ts (at q signs.Close ∷ []) w) ∙ complete s (Paren ∷ fs) v (omega arith) (at q signs.Close ∷ w) tt
complete (prefix p u {ts} {e} s) fs v le w h = prefixes p u fs v (ts ++ w) ∙ complete s (Pre u ∷ fs) v (omega arith) w (looser 0 0 w (omega arith) h) ∙ pre_absorbs u fs v e w
complete (loose {k} s) fs v le w h = complete s fs v (omega arith) w (looser k (suc k) w (omega arith) h)
complete (binary p op {ts} {us} {a} {b} s t) fs v le w h =
    ap (λ (x : List Item). run (Wants fs v) x) (append_assoc ts (at p (signs.Oper op) ∷ us) w)
    ∙ complete s fs v le (at p (signs.Oper op) ∷ (us ++ w)) (omega arith)
    ∙ pushes p op fs v a (us ++ w) le
    ∙ complete t (Left op a ∷ fs) v (omega arith) w (looser (tighter op) (suc (tighter op)) w (omega arith) h)
    ∙ left_absorbs op a fs v b w h

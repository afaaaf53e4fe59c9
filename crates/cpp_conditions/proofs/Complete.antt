-- What is spelled is read.
use Rattle.std.proofs.Common.{◌≡◌, ℕ, suc, ◌≤◌, ◌<◌, List, [], ◌∷◌, ◌++◌, Some, refl, sym, ap, ◌∙◌, append_assoc, arith}
use Rattle.std.proofs.lemmas.List.{append-nil}
use Rattle.std.proofs.lemmas.Bool.{lt-ltb, le-ltb}
use Rattle.cpp_conditions.specs.declared.operators.Operator.{Operator}
use Rattle.cpp_conditions.specs.declared.operators.Operator.TheVariants.{Times, Plus, Minus, Less, AtMost, Greater, AtLeast, Equal, Differs, Both, Either}
use Rattle.cpp_conditions.specs.declared.operators.Prefix.{Prefix}
use Rattle.cpp_conditions.specs.declared.operators.Prefix.TheVariants.{Positive, Negative, Inverse}
use Rattle.cpp_conditions.specs.Expressions.{Expression, Unary, Binary}
use Rattle.cpp_conditions.specs.Grammar.{tighter, sign, Spells, number, name, defined, defined_group, group, prefix, loose, binary}
use Rattle.cpp_conditions.specs.Machine.{Frame, Paren, Pre, Left, room, Wants, Has, settle, read}
use Rattle.cpp_conditions.specs.Tokens.{Token, Digits, Word, Defined, Open, Close, Bang, Oper, Twice}
use Rattle.cpp_conditions.specs.Descent.{Loose}

pub tighter_small : (op : Operator) → tighter op < 6
tighter_small Times = omega arith
tighter_small Plus = omega arith
tighter_small Minus = omega arith
tighter_small Less = omega arith
tighter_small AtMost = omega arith
tighter_small Greater = omega arith
tighter_small AtLeast = omega arith
tighter_small Equal = omega arith
tighter_small Differs = omega arith
tighter_small Both = omega arith
tighter_small Either = omega arith

looser : (j k : ℕ) (w : List Token) → j ≤ k → Loose k w → Loose j w
looser j k [] le h = tt
looser j k (Digits n ∷ w) le h = tt
looser j k (Word x ∷ w) le h = tt
looser j k (Defined ∷ w) le h = tt
looser j k (Open ∷ w) le h = tt
looser j k (Close ∷ w) le h = tt
looser j k (Bang ∷ w) le h = tt
looser j k (Oper op ∷ w) le h = omega arith
looser j k (Twice ∷ w) le h = tt

pub pre_absorbs : (u : Prefix) (open_ : List Frame) (e : Expression) (w : List Token) → read (Has (Pre u ∷ open_) e) w ≡ read (Has open_ (Unary u e)) w
unfolding read
pre_absorbs u open_ e [] = refl
pre_absorbs u open_ e (Digits n ∷ w) = refl
pre_absorbs u open_ e (Word x ∷ w) = refl
pre_absorbs u open_ e (Defined ∷ w) = refl
pre_absorbs u open_ e (Open ∷ w) = refl
pre_absorbs u open_ e (Close ∷ w) = refl
pre_absorbs u open_ e (Bang ∷ w) = refl
pre_absorbs u open_ e (Oper op ∷ w) = refl
pre_absorbs u open_ e (Twice ∷ w) = refl

pub left_absorbs : (op : Operator) (a : Expression) (open_ : List Frame) (b : Expression) (w : List Token) → Loose (suc (tighter op)) w → read (Has (Left op a ∷ open_) b) w ≡ read (Has open_ (Binary op a b)) w
unfolding read
left_absorbs op a open_ b [] h = rw (lt-ltb (tighter op) 6 (tighter_small op)) refl
left_absorbs op a open_ b (Digits n ∷ w) h = refl
left_absorbs op a open_ b (Word x ∷ w) h = refl
left_absorbs op a open_ b (Defined ∷ w) h = refl
left_absorbs op a open_ b (Open ∷ w) h = refl
left_absorbs op a open_ b (Close ∷ w) h = rw (lt-ltb (tighter op) 6 (tighter_small op)) refl
left_absorbs op a open_ b (Bang ∷ w) h = refl
left_absorbs op a open_ b (Oper p ∷ w) h = rw (lt-ltb (tighter op) (suc (tighter p)) h) refl
left_absorbs op a open_ b (Twice ∷ w) h = refl

-- where the next operand may be of the level, nothing is settled
settled : (k : ℕ) (open_ : List Frame) (e : Expression) → suc k ≤ room open_ → settle (suc k) open_ e ≡ (open_, e)
settled k [] e le = refl
settled k (Paren ∷ open_) e le = refl
settled k (Pre u ∷ open_) e le = absurd (omega arith)
settled k (Left op a ∷ open_) e le = rw (le-ltb (tighter op) (suc k) le) refl

pub pushes : (op : Operator) (open_ : List Frame) (a : Expression) (w : List Token) → suc (tighter op) ≤ room open_ → read (Has open_ a) (Oper op ∷ w) ≡ read (Wants (Left op a ∷ open_)) w
unfolding read
pushes op open_ a w le = ap (λ (s : List Frame × Expression). read (Wants (Left op s.1 ∷ s.0)) w) (settled (tighter op) open_ a le)

pub signs : (u : Prefix) (open_ : List Frame) (w : List Token) → read (Wants open_) (sign u ∷ w) ≡ read (Wants (Pre u ∷ open_)) w
unfolding read
signs Positive open_ w = refl
signs Negative open_ w = refl
signs Inverse open_ w = refl

complete : {k : ℕ} {ts : List Token} {e : Expression} → Spells k ts e → (open_ : List Frame) → k ≤ room open_ → (w : List Token) → Loose k w → read (Wants open_) (ts ++ w) ≡ read (Has open_ e) w
unfolding read
complete (number n) open_ le w h = refl
complete (name x) open_ le w h = refl
complete (defined x) open_ le w h = refl
complete (defined_group x) open_ le w h = refl
complete (group {ts} {e} s) open_ le w h = ap (λ (x : List Token). read (Wants (Paren ∷ open_)) x) (append_assoc ts (Close ∷ []) w) ∙ complete s (Paren ∷ open_) (omega arith) (Close ∷ w) tt
complete (prefix u {ts} {e} s) open_ le w h = signs u open_ (ts ++ w) ∙ complete s (Pre u ∷ open_) (omega arith) w (looser 0 0 w (omega arith) h) ∙ pre_absorbs u open_ e w
complete (loose {k} s) open_ le w h = complete s open_ (omega arith) w (looser k (suc k) w (omega arith) h)
complete (binary op {ts} {us} {a} {b} s t) open_ le w h =
    ap (λ (x : List Token). read (Wants open_) x) (append_assoc ts (Oper op ∷ us) w)
    ∙ complete s open_ le (Oper op ∷ (us ++ w)) (omega arith)
    ∙ pushes op open_ a (us ++ w) le
    ∙ complete t (Left op a ∷ open_) (omega arith) w (looser (tighter op) (suc (tighter op)) w (omega arith) h)
    ∙ left_absorbs op a open_ b w h

pub is_read : (ts : List Token) (e : Expression) → Spells 6 ts e → read (Wants []) ts ≡ Some e
unfolding read
is_read ts e s = ap (λ (x : List Token). read (Wants []) x) (sym (append-nil ts)) ∙ complete s [] (omega arith) [] tt

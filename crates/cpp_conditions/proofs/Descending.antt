-- What the functions of the descent do, as the machine does it.
use Rattle.std.proofs.Common.{◌≡◌, ℕ, suc, ◌<◌, List, [], ◌∷◌, length, Some, None, refl, sym, ap, subst, ◌∙◌, arith}
use Rattle.cpp_conditions.specs.declared.operators.Operator.{Operator}
use Rattle.cpp_conditions.specs.declared.operators.Prefix.{Prefix}
use Rattle.cpp_conditions.specs.declared.expression_refusal.ExpressionRefusal.{ExpressionRefusal}
use Rattle.cpp_conditions.specs.declared.expression_refusal.ExpressionRefusal.TheVariants as stops
use Rattle.cpp_conditions.specs.declared.tokens.Token as coded
use Rattle.cpp_conditions.specs.Expressions.{Expression, Unary, Binary}
use Rattle.cpp_conditions.specs.Grammar.{tighter, sign}
use Rattle.cpp_conditions.specs.Machine.{Frame, Paren, Pre, Left, Wants, Has, read}
use Rattle.cpp_conditions.specs.Tokens.{Token, Digits, Word, Defined, Open, Close, Bang, Oper, Twice}
use Rattle.cpp_conditions.specs.Descent.{plain, Loose, IsNoClose, Goes, Halts, Falls}
use Rattle.cpp_conditions.proofs.Complete.{tighter_small, signs, pre_absorbs, left_absorbs, pushes}

-- behind an expression that is inside a parenthesis
stuck : (open_ : List Frame) (e : Expression) (w : List Token) → Loose 7 w → IsNoClose w → read (Has (Paren ∷ open_) e) w ≡ None
unfolding read
stuck open_ e [] h n = refl
stuck open_ e (Digits k ∷ w) h n = refl
stuck open_ e (Word x ∷ w) h n = refl
stuck open_ e (Defined ∷ w) h n = refl
stuck open_ e (Open ∷ w) h n = refl
stuck open_ e (Close ∷ w) h n = absurd n
stuck open_ e (Bang ∷ w) h n = refl
stuck open_ e (Oper op ∷ w) h n = absurd (omega (arith, tighter_small op))
stuck open_ e (Twice ∷ w) h n = refl

left_over : (e : Expression) (t : Token) (w : List Token) → Loose 7 (t ∷ w) → read (Has [] e) (t ∷ w) ≡ None
unfolding read
left_over e (Digits k) w h = refl
left_over e (Word x) w h = refl
left_over e Defined w h = refl
left_over e Open w h = refl
left_over e Close w h = refl
left_over e Bang w h = refl
left_over e (Oper op) w h = absurd (omega (arith, tighter_small op))
left_over e Twice w h = refl

pub grouped : (ts rest inner after : List Token) (e : Expression) → ts ≡ Open ∷ rest → Goes 6 rest e inner → inner ≡ Close ∷ after → Goes 0 ts e after
unfolding read
grouped ts rest inner after e cut goes close open_ le =
    ap (read (Wants open_)) cut ∙ goes (Paren ∷ open_) (omega arith) ∙ ap (read (Has (Paren ∷ open_) e)) close

pub unclosed : (ts rest inner : List Token) (e : Expression) → ts ≡ Open ∷ rest → Goes 6 rest e inner → Loose 7 inner → IsNoClose inner → Halts 0 ts
unfolding read
unclosed ts rest inner e cut goes h n open_ le =
    ap (read (Wants open_)) cut ∙ goes (Paren ∷ open_) (omega arith) ∙ stuck open_ e inner h n

inside_halts : (ts rest : List Token) → ts ≡ Open ∷ rest → Halts 6 rest → Halts 0 ts
unfolding read
inside_halts ts rest cut halts open_ le = ap (read (Wants open_)) cut ∙ halts (Paren ∷ open_) (omega arith)

pub inside_falls : (s : ExpressionRefusal) (ts rest : List Token) → ts ≡ Open ∷ rest → Falls 6 s rest → Falls 0 s ts
inside_falls stops.NoMemory ts rest cut h = tt
inside_falls stops.Wrong ts rest cut h = inside_halts ts rest cut h

pub prefixed : (u : Prefix) (ts rest after : List Token) (e made : Expression) → ts ≡ sign u ∷ rest → Goes 0 rest e after → made ≡ Unary u e → Goes 0 ts made after
prefixed u ts rest after e made cut goes is open_ le =
    ap (read (Wants open_)) cut ∙ signs u open_ rest ∙ goes (Pre u ∷ open_) (omega arith) ∙ pre_absorbs u open_ e after ∙ ap (λ (x : Expression). read (Has open_ x) after) (sym is)

pub prefix_falls : (u : Prefix) (s : ExpressionRefusal) (ts rest : List Token) → ts ≡ sign u ∷ rest → Falls 0 s rest → Falls 0 s ts
prefix_falls u stops.NoMemory ts rest cut h = tt
prefix_falls u stops.Wrong ts rest cut halts = λ open_ le. ap (read (Wants open_)) cut ∙ signs u open_ rest ∙ halts (Pre u ∷ open_) (omega arith)

pub one_more : (k j : ℕ) (op : Operator) (ts rest after next : List Token) (a b made : Expression) → Goes k ts a rest → rest ≡ Oper op ∷ after → tighter op < k → j ≡ tighter op → Goes j after b next → Loose (suc j) next → made ≡ Binary op a b → Goes k ts made next
one_more k j op ts rest after next a b made goes cut lt is right ends made_is open_ le =
    goes open_ le ∙ ap (read (Has open_ a)) cut ∙ pushes op open_ a after (omega arith) ∙ right (Left op a ∷ open_) (omega arith)
    ∙ left_absorbs op a open_ b next (subst (λ (i : ℕ). Loose (suc i) next) is ends) ∙ ap (λ (x : Expression). read (Has open_ x) next) (sym made_is)

pub right_falls : (k j : ℕ) (op : Operator) (ts rest after : List Token) (a : Expression) (s : ExpressionRefusal) → Goes k ts a rest → rest ≡ Oper op ∷ after → tighter op < k → j ≡ tighter op → Falls j s after → Falls k s ts
right_falls k j op ts rest after a stops.NoMemory goes cut lt is right = tt
right_falls k j op ts rest after a stops.Wrong goes cut lt is right = λ open_ le.
    goes open_ le ∙ ap (read (Has open_ a)) cut ∙ pushes op open_ a after (omega arith) ∙ right (Left op a ∷ open_) (omega arith)

pub all_read : (ts rest : List Token) (e : Expression) → Goes 6 ts e rest → rest ≡ [] → read (Wants []) ts ≡ Some e
unfolding read
all_read ts rest e goes is = goes [] (omega arith) ∙ ap (read (Has [] e)) is

left_stuck : (ts rest : List Token) (e : Expression) → Goes 6 ts e rest → Loose 7 rest → (rest ≡ [] → ⊥) → read (Wants []) ts ≡ None
left_stuck ts [] e goes h n = absurd (n refl)
left_stuck ts (x ∷ rest) e goes h n = goes [] (omega arith) ∙ left_over e x rest h

plain_none : (rest : List coded.Token) → (length rest ≡ 0 → ⊥) → plain rest ≡ [] → ⊥
plain_none [] n e = n refl
plain_none (t ∷ rest) n e = cc

pub some_left : (ts : List Token) (rest : List coded.Token) (e : Expression) → Goes 6 ts e (plain rest) → Loose 7 (plain rest) → (length rest ≡ 0 → ⊥) → read (Wants []) ts ≡ None
some_left ts rest e goes h n = left_stuck ts (plain rest) e goes h (plain_none rest n)

-- What is read is spelled.
use Rattle.std.proofs.Common.{◌≡◌, ℕ, zero, suc, ◌≤◌, ◌<◌, ltb, true, false, cond, List, [], ◌∷◌, ◌++◌, Option, Some, None, refl, sym, ap, subst, ◌∙◌, append_assoc, arith, inl, inr}
use Rattle.std.specs.Prelude.{IfSome}
use Rattle.std.proofs.lemmas.List.{append-nil}
use Rattle.std.proofs.lemmas.Bool.{ltb-false, ltb-true, cases_lt}
use Rattle.cpp_conditions.specs.declared.operators.Operator.TheVariants.{Times, Plus, Minus, Less, AtMost, Greater, AtLeast, Equal, Differs, Both, Either}
use Rattle.cpp_conditions.specs.Expressions.{Expression, Unary, Binary}
use Rattle.cpp_conditions.specs.Grammar.{tighter, sign, Spells, number, name, defined, defined_group, group, prefix, loose, binary}
use Rattle.cpp_conditions.specs.Machine.{Frame, Paren, Pre, Left, room, ExpressionState, Wants, Has, Asks, AsksInside, Asked, settle, closed_by, ended_by, step, finish, moved, read}
use Rattle.cpp_conditions.specs.Tokens.{Token, Digits, Word, Defined, Open, Close, Bang, Oper, Twice}
use Rattle.cpp_conditions.proofs.Complete.{tighter_small}

-- these tokens were read, and left this open
abbrev pub Read : List Frame → List Token → Type 0
Read [] a = a ≡ []
Read (Paren ∷ open_) a = (b : List Token) × Read open_ b × (a ≡ b ++ Open ∷ [])
Read (Pre u ∷ open_) a = (b : List Token) × Read open_ b × (a ≡ b ++ sign u ∷ [])
Read (Left op x ∷ open_) a = (b us : List Token) × Read open_ b × Spells (suc (tighter op)) us x × (tighter op < room open_) × (a ≡ b ++ (us ++ Oper op ∷ []))

abbrev pub Stands : ExpressionState → List Token → Type 0
Stands (Wants open_) a = Read open_ a
Stands (Has open_ e) a = (b ts : List Token) × Read open_ b × Spells 0 ts e × (a ≡ b ++ ts)
Stands (Asks open_) a = (b : List Token) × Read open_ b × (a ≡ b ++ Defined ∷ [])
Stands (AsksInside open_) a = (b : List Token) × Read open_ b × (a ≡ b ++ Defined ∷ Open ∷ [])
Stands (Asked open_ x) a = (b : List Token) × Read open_ b × (a ≡ b ++ Defined ∷ Open ∷ Word x ∷ [])

loosen : (j k : ℕ) {ts : List Token} {e : Expression} → j ≤ k → Spells j ts e → Spells k ts e
loosen j zero {ts} {e} le s = let h : j ≡ 0 = omega arith in subst (λ (i : ℕ). Spells i ts e) h s
loosen j (suc k) {ts} {e} le s = elim (cases_lt j (suc k)) [
  | inl lt ↦ loose (loosen j k (omega arith) s)
  | inr ge ↦ (let h : j ≡ suc k = omega arith in subst (λ (i : ℕ). Spells i ts e) h s)
]

record Settled (k : ℕ) (s : List Frame × Expression) (a : List Token) : Type 0 where
  pub before : List Token
  pub text : List Token
  pub is_read : Read s.0 before
  pub spells : Spells k text s.1
  pub fits : k ≤ room s.0
  pub parts : a ≡ before ++ text

settle_is : (k : ℕ) → k ≤ 6 → (open_ : List Frame) (e : Expression) (j : ℕ) → j ≤ k → j ≤ room open_ → (b ts : List Token) → Read open_ b → Spells j ts e → Settled k (settle k open_ e) (b ++ ts)
settle_is k small [] e j le fits b ts r s = record { before = b; text = ts; is_read = r; spells = loosen j k le s; fits = small; parts = refl }
settle_is k small (Paren ∷ open_) e j le fits b ts r s = record { before = b; text = ts; is_read = r; spells = loosen j k le s; fits = small; parts = refl }
settle_is k small (Pre u ∷ open_) e j le fits b ts r s =
    let is : b ++ ts ≡ r.0 ++ (sign u ∷ ts) = ap (λ (x : List Token). x ++ ts) r.2 ∙ append_assoc r.0 (sign u ∷ []) ts in
    subst (λ (x : List Token). Settled k (settle k open_ (Unary u e)) x) (sym is) (settle_is k small open_ (Unary u e) 0 (omega arith) (omega arith) r.0 (sign u ∷ ts) r.1 (prefix u (loosen j 0 fits s)))
settle_is k small (Left op x ∷ open_) e j le fits b ts r s =
    elim (ltb (tighter op) k) as (λ v. ltb (tighter op) k ≡ v → Settled k (cond v (settle k open_ (Binary op x e)) (Left op x ∷ open_, e)) (b ++ ts)) [
      | true ↦ λ h.
          let is : b ++ ts ≡ r.0 ++ (r.1 ++ Oper op ∷ ts) = ap (λ (y : List Token). y ++ ts) r.5 ∙ append_assoc r.0 (r.1 ++ Oper op ∷ []) ts ∙ ap (λ (y : List Token). r.0 ++ y) (append_assoc r.1 (Oper op ∷ []) ts) in
          subst (λ (y : List Token). Settled k (settle k open_ (Binary op x e)) y) (sym is)
          (settle_is k small open_ (Binary op x e) (suc (tighter op)) (ltb-true (tighter op) k h) r.4 r.0 (r.1 ++ Oper op ∷ ts) r.2 (binary op r.3 (loosen j (tighter op) fits s)))
      | false ↦ λ h. record { before = b; text = ts; is_read = r; spells = loosen j k le s; fits = ltb-false (tighter op) k h; parts = refl }
    ] refl

closed_keeps : (open_ : List Frame) (e : Expression) (a : List Token) → Settled 6 (open_, e) a → IfSome (closed_by open_ e) (λ next. Stands next (a ++ Close ∷ []))
closed_keeps [] e a d = tt
closed_keeps (Paren ∷ open_) e a d =
    let r = d.is_read in (
      r.0,
      Open ∷ (d.text ++ Close ∷ []),
      r.1,
      group d.spells,
      ap (λ (y : List Token). y ++ Close ∷ []) (d.parts ∙ ap (λ (y : List Token). y ++ d.text) r.2 ∙ append_assoc r.0 (Open ∷ []) d.text) ∙ append_assoc r.0 (Open ∷ d.text) (Close ∷ []),
    )
closed_keeps (Pre u ∷ open_) e a d = tt
closed_keeps (Left op x ∷ open_) e a d = tt

of_state : (open_ : List Frame) (e : Expression) (a : List Token) (k : ℕ) → k ≤ 6 → Stands (Has open_ e) a → Settled k (settle k open_ e) a
of_state open_ e a k small h = subst (λ (y : List Token). Settled k (settle k open_ e) y) (sym h.4) (settle_is k small open_ e 0 (omega arith) (omega arith) h.0 h.1 h.2 h.3)

keeps_wanted : (open_ : List Frame) (t : Token) (a : List Token) → Stands (Wants open_) a → IfSome (step (Wants open_) t) (λ next. Stands next (a ++ t ∷ []))
keeps_wanted open_ (Digits n) a r = (a, Digits n ∷ [], r, number n, refl)
keeps_wanted open_ (Word x) a r = (a, Word x ∷ [], r, name x, refl)
keeps_wanted open_ Defined a r = (a, r, refl)
keeps_wanted open_ Open a r = (a, r, refl)
keeps_wanted open_ Close a r = tt
keeps_wanted open_ Bang a r = (a, r, refl)
keeps_wanted open_ (Oper Times) a r = tt
keeps_wanted open_ (Oper Plus) a r = (a, r, refl)
keeps_wanted open_ (Oper Minus) a r = (a, r, refl)
keeps_wanted open_ (Oper Less) a r = tt
keeps_wanted open_ (Oper AtMost) a r = tt
keeps_wanted open_ (Oper Greater) a r = tt
keeps_wanted open_ (Oper AtLeast) a r = tt
keeps_wanted open_ (Oper Equal) a r = tt
keeps_wanted open_ (Oper Differs) a r = tt
keeps_wanted open_ (Oper Both) a r = tt
keeps_wanted open_ (Oper Either) a r = tt
keeps_wanted open_ Twice a r = tt

keeps_had : (open_ : List Frame) (e : Expression) (t : Token) (a : List Token) → Stands (Has open_ e) a → IfSome (step (Has open_ e) t) (λ next. Stands next (a ++ t ∷ []))
keeps_had open_ e (Digits n) a r = tt
keeps_had open_ e (Word x) a r = tt
keeps_had open_ e Defined a r = tt
keeps_had open_ e Open a r = tt
keeps_had open_ e Close a r = closed_keeps (settle 6 open_ e).0 (settle 6 open_ e).1 a (of_state open_ e a 6 (omega arith) r)
keeps_had open_ e Bang a r = tt
keeps_had open_ e (Oper op) a r =
    let d = of_state open_ e a (suc (tighter op)) (tighter_small op) r in
    (d.before, d.text, d.is_read, d.spells, d.fits, ap (λ (y : List Token). y ++ Oper op ∷ []) d.parts ∙ append_assoc d.before d.text (Oper op ∷ []))
keeps_had open_ e Twice a r = tt

-- behind `defined`
grown : (a b c : List Token) (t : Token) → a ≡ b ++ c → a ++ t ∷ [] ≡ b ++ (c ++ t ∷ [])
grown a b c t e = ap (λ (y : List Token). y ++ t ∷ []) e ∙ append_assoc b c (t ∷ [])

keeps_asked : (open_ : List Frame) (t : Token) (a : List Token) → Stands (Asks open_) a → IfSome (step (Asks open_) t) (λ next. Stands next (a ++ t ∷ []))
keeps_asked open_ (Digits n) a r = tt
keeps_asked open_ (Word x) a r = (r.0, Defined ∷ Word x ∷ [], r.1, defined x, grown a r.0 (Defined ∷ []) (Word x) r.2)
keeps_asked open_ Defined a r = tt
keeps_asked open_ Open a r = (r.0, r.1, grown a r.0 (Defined ∷ []) Open r.2)
keeps_asked open_ Close a r = tt
keeps_asked open_ Bang a r = tt
keeps_asked open_ (Oper op) a r = tt
keeps_asked open_ Twice a r = tt

keeps_inside : (open_ : List Frame) (t : Token) (a : List Token) → Stands (AsksInside open_) a → IfSome (step (AsksInside open_) t) (λ next. Stands next (a ++ t ∷ []))
keeps_inside open_ (Digits n) a r = tt
keeps_inside open_ (Word x) a r = (r.0, r.1, grown a r.0 (Defined ∷ Open ∷ []) (Word x) r.2)
keeps_inside open_ Defined a r = tt
keeps_inside open_ Open a r = tt
keeps_inside open_ Close a r = tt
keeps_inside open_ Bang a r = tt
keeps_inside open_ (Oper op) a r = tt
keeps_inside open_ Twice a r = tt

keeps_until : (open_ : List Frame) (x : List ℕ) (t : Token) (a : List Token) → Stands (Asked open_ x) a → IfSome (step (Asked open_ x) t) (λ next. Stands next (a ++ t ∷ []))
keeps_until open_ x (Digits n) a r = tt
keeps_until open_ x (Word y) a r = tt
keeps_until open_ x Defined a r = tt
keeps_until open_ x Open a r = tt
keeps_until open_ x Close a r = (r.0, Defined ∷ Open ∷ Word x ∷ Close ∷ [], r.1, defined_group x, grown a r.0 (Defined ∷ Open ∷ Word x ∷ []) Close r.2)
keeps_until open_ x Bang a r = tt
keeps_until open_ x (Oper op) a r = tt
keeps_until open_ x Twice a r = tt

keeps : (state : ExpressionState) (t : Token) (a : List Token) → Stands state a → IfSome (step state t) (λ next. Stands next (a ++ t ∷ []))
keeps (Wants open_) = keeps_wanted open_
keeps (Has open_ e) = keeps_had open_ e
keeps (Asks open_) = keeps_asked open_
keeps (AsksInside open_) = keeps_inside open_
keeps (Asked open_ x) = keeps_until open_ x

ended_is : (open_ : List Frame) (e : Expression) (a : List Token) → Settled 6 (open_, e) a → IfSome (ended_by open_ e) (λ made. Spells 6 a made)
ended_is [] e a d = subst (λ (y : List Token). Spells 6 y e) (sym (d.parts ∙ ap (λ (y : List Token). y ++ d.text) d.is_read)) d.spells
ended_is (frame ∷ open_) e a d = tt

finishes : (state : ExpressionState) (a : List Token) → Stands state a → IfSome (finish state) (λ made. Spells 6 a made)
finishes (Wants open_) a r = tt
finishes (Has open_ e) a r = ended_is (settle 6 open_ e).0 (settle 6 open_ e).1 a (of_state open_ e a 6 (omega arith) r)
finishes (Asks open_) a r = tt
finishes (AsksInside open_) a r = tt
finishes (Asked open_ x) a r = tt

sound : (state : ExpressionState) (ts a : List Token) → Stands state a → IfSome (read state ts) (λ made. Spells 6 (a ++ ts) made)
unfolding read
sound state [] a r = subst (λ (y : List Token). IfSome (finish state) (λ made. Spells 6 y made)) (sym (append-nil a)) (finishes state a r)
sound state (x ∷ ts) a r = elim (step state x) as (λ o. IfSome o (λ next. Stands next (a ++ x ∷ [])) → IfSome (moved o (λ next. read next ts)) (λ made. Spells 6 (a ++ x ∷ ts) made)) [
  | None ↦ λ h. tt
  | Some next ↦ λ h. subst (λ (y : List Token). IfSome (read next ts) (λ made. Spells 6 y made)) (append_assoc a (x ∷ []) ts) (sound next ts (a ++ x ∷ []) h)
] (keeps state x a r)

pub read_spells : (ts : List Token) (e : Expression) → read (Wants []) ts ≡ Some e → Spells 6 ts e
read_spells ts e h = let s = sound (Wants []) ts [] refl in subst (λ (r : Option Expression). IfSome r (λ made. Spells 6 ts made)) h s

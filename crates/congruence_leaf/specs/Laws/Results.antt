-- What an operation gives at a store that is a function of one form is among the numbers that the parts of the variables say.
use Rattle.std.proofs.Common.{◌≡◌, ◌≢◌, ℕ, nat_eq, ◌<◌, ℤ, pos, negsuc, ◌+ℤ◌, ◌*ℤ◌, ◌≤ℤ◌, Bool, true, false, ◌&&◌, not, if◌then◌else◌, int_le, List, [], ◌∷◌, length, slice_index_or, Option, Some, None, IfSome, refl, ap, sym, subst, ◌∙◌, arith, Decides}
use Rattle.std.specs.Cmp.Lexicographic.{pointwise_decides}
use Rattle.std.proofs.lemmas.Bool.Decides.{Decides-like, Decides-and, Decides-eqb, Decides-int_eq}
use Rattle.std.specs.Int.{int_min, int_max}
use Rattle.std.specs.Ordering.{int_eq}
use Rattle.std.proofs.lemmas.Int.{ints, clamps}
use Rattle.c_tree.specs.declared.tree.Op.{Op}
use Rattle.c_tree.specs.declared.tree.Op.TheVariants.{Mul, Div, Rem}
use Rattle.c_tree.specs.Value.{least, greatest, IsInt}
use Rattle.leaf_domain.specs.declared.form.Form.{Form}
use Rattle.leaf_domain.specs.declared.operation.Operation.{Operation}
use Rattle.leaf_domain.specs.Forms.{IsForm, AreTerms, form_at, terms_at, has_no_term}
use Rattle.leaf_domain.specs.Operations.{IsOperation, Operates}
use Rattle.leaf_domain.specs.Ranges.{Within, exact}
use Rattle.strides.specs.declared.strided.Strided.{Strided}
use Rattle.strides.specs.Strides.{HasStride, IsReduced}
use Rattle.strides.specs.Strided.{Has, reduced, best_part, is_bare}
use Rattle.strides.proofs.StrideLaws.{both}
use Rattle.strides.proofs.StridedLaws.{has_not_bare, reduced_keeps, reduced_best}
use Rattle.linear_terms.specs.Order.{same_term, same_terms}
use Rattle.product_leaf.specs.StrideLeaves.{AllHave, part_at}
use Rattle.product_leaf.specs.Laws.Parts.{read_has}
use Rattle.product_leaf.specs.Laws.FormStrides.{form_has}
use Rattle.congruence_leaf.specs.Congruences.{lone_variable, reach_by, form_reach, form_numbers, is_divisor, divisor_of, same_form, square_where, quotient_by, remainder_by, function_by, function_of, HasDivisor, applied, applied_by, results_by, results_of}
use Rattle.congruence_leaf.specs.declared.functions.Function.{Function}
use Rattle.congruence_leaf.specs.declared.functions.Function.TheVariants.{Square, Quotient, Remainder}
use Rattle.congruence_leaf.specs.Squares.{strided_squares}
use Rattle.congruence_leaf.specs.Laws.Remainders.{same_number, remainders_have, strided_reduced}
use Rattle.congruence_leaf.specs.Laws.Squares.{squares_have, squares_reduced}
use Rattle.congruence_leaf.specs.Laws.Quotients.{quotients_have, quotients_reduced}

-- ---- a form that is a variable and a constant
pub record IsLone (count : ℕ) (f : Form) (s : List ℤ) (x : ℕ) : Type 0 where
  pub below : x < count
  pub value : form_at f s ≡ slice_index_or s x (pos 0) +ℤ f.constant

lone_terms : (count : ℕ) (ts : List (ℕ × ℤ)) (s : List ℤ) (x : ℕ) → AreTerms 0 count ts → lone_variable ts ≡ Some x → (x < count) × (terms_at ts s ≡ slice_index_or s x (pos 0))
lone_terms count [] s x h e = cc
lone_terms count (t ∷ []) s x h e = by_test (int_eq t.1 (pos 1)) refl e
  where
    by_test : (b : Bool) → int_eq t.1 (pos 1) ≡ b → (if b then Some t.0 else None) ≡ Some x → (x < count) × (terms_at (t ∷ []) s ≡ slice_index_or s x (pos 0))
    by_test true f g =
        let i : t.1 ≡ pos 1 = grind (arith, ints) in
        let j : t.0 ≡ x = cc in
        let k : t.1 *ℤ slice_index_or s t.0 (pos 0) ≡ slice_index_or s x (pos 0) =
        ap (λ a. a *ℤ slice_index_or s t.0 (pos 0)) i ∙ times_one (slice_index_or s t.0 (pos 0)) ∙ ap (λ y. slice_index_or s y (pos 0)) j in
        (subst (λ y. y < count) j h.1, ended (t.1 *ℤ slice_index_or s t.0 (pos 0)) (slice_index_or s x (pos 0)) k)
      where
        times_one : (n : ℤ) → pos 1 *ℤ n ≡ n
        times_one n = omega (arith, ints)

        ended : (p q : ℤ) → p ≡ q → p +ℤ pos 0 ≡ q
        ended p q e = omega (arith, ints)
    by_test false f g = cc
lone_terms count (t ∷ u ∷ ts) s x h e = cc

pub lone_is : (count : ℕ) (f : Form) (s : List ℤ) (x : ℕ) → IsForm count f → lone_variable f.terms ≡ Some x → IsLone count f s x
lone_is count f s x h e =
    let (p, q) = lone_terms count f.terms s x h.terms e in
    record { below = p; value = ap (λ v. v +ℤ f.constant) q }

-- ---- the numbers of a form
reach_has : (bs : List Strided) (f : Form) (s : List ℤ) → IsForm (length bs) f → AllHave bs s → IsInt (form_at f s) → Within (form_at f s) (form_reach bs f)
reach_has bs f s h k i = by_variable (lone_variable f.terms) refl
  where
    moved : (l v c n : ℤ) → l ≤ℤ v → n ≡ v +ℤ c → least ≤ℤ n → int_max least (l +ℤ c) ≤ℤ n
    moved l v c n p e q = omega (arith, ints, clamps)

    moved_high : (l v c n : ℤ) → v ≤ℤ l → n ≡ v +ℤ c → n ≤ℤ greatest → n ≤ℤ int_min greatest (l +ℤ c)
    moved_high l v c n p e q = omega (arith, ints, clamps)

    by_variable : (o : Option ℕ) → lone_variable f.terms ≡ o → Within (form_at f s) (reach_by bs o f.constant)
    by_variable None e = record { low = i.low; high = i.high }
    by_variable (Some x) e =
        let l : IsLone (length bs) f s x = lone_is (length bs) f s x h e in
        let p : Has (part_at bs x) (slice_index_or s x (pos 0)) = read_has bs s x l.below k in
        record { low = moved (part_at bs x).low (slice_index_or s x (pos 0)) f.constant (form_at f s) p.low l.value i.low; high = moved_high (part_at bs x).high (slice_index_or s x (pos 0)) f.constant (form_at f s) p.high l.value i.high }

pub form_numbers_have : (bs : List Strided) (f : Form) (s : List ℤ) → IsForm (length bs) f → AllHave bs s → IsInt (form_at f s) → Has (form_numbers bs f) (form_at f s)
unfolding form_numbers
form_numbers_have bs f s h k i =
    let w : Within (form_at f s) (form_reach bs f) = reach_has bs f s h k i in
    record { low = w.low; high = w.high; stride = form_has bs f s h k }

-- ---- the divisor
constant_at : (f : Form) (s : List ℤ) → has_no_term f.terms ≡ true → form_at f s ≡ f.constant
constant_at f s e = no_terms f.terms f.constant e
  where
    no_terms : (ts : List (ℕ × ℤ)) (c : ℤ) → has_no_term ts ≡ true → terms_at ts s +ℤ c ≡ c
    no_terms [] c e = omega (arith, ints)
    no_terms (t ∷ ts) c e = cc

-- a constant to divide by
pub record IsDivisor (f : Form) (m : ℤ) : Type 0 where
  pub value : (s : List ℤ) → form_at f s ≡ m
  pub int : IsInt m
  pub some : m ≢ pos 0

pub divisor_told : (f : Form) (m : ℤ) → divisor_of f ≡ Some m → IsDivisor f m
unfolding divisor_of
divisor_told f m e = by_test (has_no_term f.terms && is_divisor f.constant) refl e
  where
    parts : (a b c d : Bool) → (a && (b && (c && d))) ≡ true → (a ≡ true) × (b ≡ true) × (c ≡ true) × (d ≡ true)
    parts true true true true e = (refl, refl, refl, refl)
    parts true true true false e = cc
    parts true true false d e = cc
    parts true false c d e = cc
    parts false b c d e = cc

    lower : (n m : ℤ) → int_le n m ≡ true → n ≤ℤ m
    lower n m e = grind (arith, ints)

    apart : (n : ℤ) → not (int_eq n (pos 0)) ≡ true → n ≢ pos 0
    apart n e = grind (arith, ints)

    by_test : (t : Bool) → (has_no_term f.terms && is_divisor f.constant) ≡ t → (if t then Some f.constant else None) ≡ Some m → IsDivisor f m
    by_test true g h =
        let j : f.constant ≡ m = cc in
        let (p, q, r, u) = parts (has_no_term f.terms) (int_le least f.constant) (int_le f.constant greatest) (not (int_eq f.constant (pos 0))) g in
        record {
          value = λ s. constant_at f s p ∙ j;
          int = subst IsInt j (record { low = lower least f.constant q; high = lower f.constant greatest r });
          some = subst (λ x. x ≢ pos 0) j (apart f.constant u);
        }
    by_test false g h = cc

-- ---- the function
-- the number that a function has at another, where it has one there
abbrev pub IsValue : Function → ℤ → ℤ → Type 0
IsValue Square n k = k ≡ n *ℤ n
IsValue (Quotient m) n k = exact Div n m ≡ Some k
IsValue (Remainder m) n k = (exact Rem n m ≡ Some k) × (n ≡ least → m ≡ negsuc 0 → ⊥)

-- an operation that is a function of its left form
pub record IsFunction (p : Operation) (g : Function) : Type 0 where
  pub divisor : HasDivisor g
  pub value : (s : List ℤ) (k : ℤ) → Operates p s k → IsValue g (form_at p.left s) k

term_decides : (t u : ℕ × ℤ) → Decides (same_term t u) (t ≡ u)
term_decides t u =
    Decides-like (same_term t u) (λ p i. (p.0 i, p.1 i)) (λ e. (ap (λ x. x.0) e, ap (λ x. x.1) e))
    (Decides-and (nat_eq t.0 u.0) (int_eq t.1 u.1) (Decides-eqb t.0 u.0) (Decides-int_eq t.1 u.1))

same_form_at : (f g : Form) (s : List ℤ) → same_form f g ≡ true → form_at g s ≡ form_at f s
same_form_at f g s e =
    let (p, q) = both (same_terms f.terms g.terms) (int_eq f.constant g.constant) e in
    sym (ap (λ ts. terms_at ts s +ℤ f.constant) ((pointwise_decides term_decides f.terms g.terms).0 p) ∙ ap (λ c. terms_at g.terms s +ℤ c) (same_number f.constant g.constant q))

-- what an operation gives, by its operator and the value of its right form
given : (p : Operation) (s : List ℤ) (k : ℤ) (op : Op) (m : ℤ) → p.op ≡ op → form_at p.right s ≡ m → Operates p s k → exact op (form_at p.left s) m ≡ Some k
given p s k op m i f h = ap (λ o. exact o (form_at p.left s) m) (sym i) ∙ ap (λ y. exact p.op (form_at p.left s) y) (sym f) ∙ h.is

is_square : (p : Operation) → p.op ≡ Mul → same_form p.left p.right ≡ true → IsFunction p Square
is_square p i e = record { divisor = tt; value = λ s k h. squared (form_at p.left s) k (given p s k Mul (form_at p.left s) i (same_form_at p.left p.right s e) h) }
  where
    squared : (n k : ℤ) → Some (n *ℤ n) ≡ Some k → k ≡ n *ℤ n
    squared n k e = cc

is_quotient : (p : Operation) (m : ℤ) → p.op ≡ Div → divisor_of p.right ≡ Some m → IsFunction p (Quotient m)
is_quotient p m i e =
    let d : IsDivisor p.right m = divisor_told p.right m e in
    record { divisor = (d.int, d.some); value = λ s k h. given p s k Div m i (d.value s) h }

is_remainder : (p : Operation) (m : ℤ) → p.op ≡ Rem → divisor_of p.right ≡ Some m → IsFunction p (Remainder m)
is_remainder p m i e =
    let d : IsDivisor p.right m = divisor_told p.right m e in
    record { divisor = (d.int, d.some); value = λ s k h. (given p s k Rem m i (d.value s) h, λ f g. h.rem_is i f (d.value s ∙ g)) }

pub function_told : (p : Operation) (g : Function) → function_of p ≡ Some g → IsFunction p g
function_told p g e = by_op p.op refl e
  where
    by_same : (t : Bool) → p.op ≡ Mul → same_form p.left p.right ≡ t → square_where t ≡ Some g → IsFunction p g
    by_same true i f h = let j : Square ≡ g = cc in subst (IsFunction p) j (is_square p i f)
    by_same false i f h = cc

    by_quotient : (o : Option ℤ) → p.op ≡ Div → divisor_of p.right ≡ o → quotient_by o ≡ Some g → IsFunction p g
    by_quotient None i f h = cc
    by_quotient (Some m) i f h = let j : Quotient m ≡ g = cc in subst (IsFunction p) j (is_quotient p m i f)

    by_remainder : (o : Option ℤ) → p.op ≡ Rem → divisor_of p.right ≡ o → remainder_by o ≡ Some g → IsFunction p g
    by_remainder None i f h = cc
    by_remainder (Some m) i f h = let j : Remainder m ≡ g = cc in subst (IsFunction p) j (is_remainder p m i f)

    by_op : (op : Op) → p.op ≡ op → function_by op p.left p.right ≡ Some g → IsFunction p g
    by_op Mul i f = by_same (same_form p.left p.right) i refl f
    by_op Div i f = by_quotient (divisor_of p.right) i refl f
    by_op Rem i f = by_remainder (divisor_of p.right) i refl f
    by_op op i f = cc

-- ---- results
pub best_has : (P : Option Strided → Type 0) (b : Strided) → is_bare b ≡ false → P (Some (reduced b)) → P (best_part b)
best_has P b e h = subst (λ (t : Bool). P (if t then None else Some (reduced b))) (sym e) h

-- the low of numbers by their best bounds is one of them
applied_has : (d : Strided) (g : Function) (n k : ℤ) → HasDivisor g → IsValue g n k → Has d n → HasStride d.stride d.low → Has (applied d g) k
applied_has d Square n k z e h i = subst (λ x. Has (strided_squares d) x) (sym e) (squares_have d n h i)
applied_has d (Quotient m) n k z e h i = quotients_have d m n k z.1 e h
applied_has d (Remainder m) n k z e h i = remainders_have d m n k e.0 e.1 h

pub applied_reduced : (d : Strided) (g : Function) → IsReduced (applied d g).stride
applied_reduced d Square = squares_reduced d
applied_reduced d (Quotient m) = quotients_reduced d m
applied_reduced d (Remainder m) = strided_reduced d m

-- what a function gives of a form
pub value_has : (bs : List Strided) (p : Operation) (s : List ℤ) (k : ℤ) (g : Function) → IsOperation (length bs) p → AllHave bs s → Operates p s k → function_of p ≡ Some g → Has (reduced (applied_by (best_part (form_numbers bs p.left)) g)) k
value_has bs p s k g o h i e =
    let f : IsFunction p g = function_told p g e in
    let u : Has (form_numbers bs p.left) (form_at p.left s) = form_numbers_have bs p.left s o.left h i.left in
    let b : is_bare (form_numbers bs p.left) ≡ false = has_not_bare (form_numbers bs p.left) (form_at p.left s) u in
    reduced_keeps _ k
    (best_has (λ q. Has (applied_by q g) k) (form_numbers bs p.left) b
    (applied_has (reduced (form_numbers bs p.left)) g (form_at p.left s) k f.divisor (f.value s k i) (reduced_keeps (form_numbers bs p.left) (form_at p.left s) u) (reduced_best (form_numbers bs p.left) b).low.stride))

pub results_have : (bs : List Strided) (p : Operation) (s : List ℤ) (k : ℤ) → IsOperation (length bs) p → AllHave bs s → Operates p s k → IfSome (results_of bs p) (λ b. Has b k)
unfolding results_of
results_have bs p s k o h i = by_function (function_of p) refl
  where
    by_function : (g : Option Function) → function_of p ≡ g → IfSome (results_by bs p.left g) (λ b. Has b k)
    by_function None e = tt
    by_function (Some g) e = value_has bs p s k g o h i e

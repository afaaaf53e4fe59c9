-- Ranges and items at the front of a text.
use Rattle.std.proofs.Common.{◌≡◌, ◌≢◌, ℕ, ℤ, ◌≤ℤ◌, List, [], ◌∷◌, ◌++◌, codes, Bool, true, false, true≢false, refl, sym, ap, subst, ◌∙◌, arith, append_assoc}
use Rattle.std.specs.Prelude.{int_lt, Some, MatchBool}
use Rattle.std.specs.Fmt.{signed_decimal}
use Rattle.std.proofs.lemmas.Int.{ints}
use Rattle.std.proofs.lemmas.List.{append_cancel_left}
use Rattle.std.proofs.lemmas.List.Elements.{recursion_from_All, All-from_recursion, All-cons}
use Rattle.c_tree.specs.Value.{IsInt}
use Rattle.leaf_domain.specs.declared.range.Range.{Range}
use Rattle.alarm_report.specs.LeafTexts.{within_text}
use Rattle.certificate_format.specs.Bounds.{bounds_text, IsIntRange, AreIntBounds}
use Rattle.certificate_format.specs.Forms.{EndsNumber, further}
use Rattle.certificate_format.proofs.Digits.{one_signed}

comma_ends : EndsNumber (codes ",")
comma_ends = (λ h. omega (arith, h), λ h. omega (arith, h))

bracket_ends : EndsNumber (codes "]")
bracket_ends = (λ h. omega (arith, h), λ h. omega (arith, h))

-- ---- a range

abbrev high_text : ℤ → List ℕ → List ℕ
high_text h rest = signed_decimal h ++ (codes "]" ++ rest)

abbrev low_text : ℤ → ℤ → List ℕ → List ℕ
low_text l h rest = signed_decimal l ++ (codes "," ++ high_text h rest)

pub range_text : (r : Range) (rest : List ℕ) → within_text r ++ rest ≡ codes " in [" ++ low_text r.low r.high rest
range_text r rest = simp append_assoc

pub behind_opening : (t a : List ℕ) → t ≡ codes " in [" ++ a → (r : Range) (rest : List ℕ) → t ≡ within_text r ++ rest → a ≡ low_text r.low r.high rest
behind_opening t a is r rest e = append_cancel_left (codes " in [") a (low_text r.low r.high rest) (sym is ∙ e ∙ range_text r rest)

pub behind_low : (t a : List ℕ) (y : ℤ) (b : List ℕ) → IsInt y → t ≡ codes " in [" ++ a → a ≡ signed_decimal y ++ (codes "," ++ b)
    → (r : Range) (rest : List ℕ) → IsIntRange r → t ≡ within_text r ++ rest → (y ≡ r.low) × (b ≡ high_text r.high rest)
behind_low t a y b int is low r rest h e =
    one_signed (codes ",") a y r.low b (high_text r.high rest) int h.int.low comma_ends low (behind_opening t a is r rest e)

pub no_high : (t a : List ℕ) (y : ℤ) (b : List ℕ) → IsInt y → t ≡ codes " in [" ++ a → a ≡ signed_decimal y ++ (codes "," ++ b) → ((z : ℤ) (rest : List ℕ) → IsInt z → b ≡ signed_decimal z ++ (codes "]" ++ rest) → ⊥)
    → (r : Range) (rest : List ℕ) → IsIntRange r → t ≡ within_text r ++ rest → ⊥
no_high t a y b int is low none r rest h e = none r.high rest h.int.high (behind_low t a y b int is low r rest h e).1

pub one_range_by : (t a : List ℕ) (y : ℤ) (b : List ℕ) (z : ℤ) (u : List ℕ) → IsInt y → IsInt z → t ≡ codes " in [" ++ a → a ≡ signed_decimal y ++ (codes "," ++ b) → b ≡ signed_decimal z ++ (codes "]" ++ u)
    → (r : Range) (rest : List ℕ) → IsIntRange r → t ≡ within_text r ++ rest → (y ≡ r.low) × (z ≡ r.high) × (u ≡ rest)
one_range_by t a y b z u int more is low high r rest h e =
    let lows = behind_low t a y b int is low r rest h e in
    let highs = one_signed (codes "]") b z r.high u rest more h.int.high bracket_ends high lows.1 in
    (lows.0, highs.0, highs.1)

pub no_range : (t a : List ℕ) (y : ℤ) (b : List ℕ) (z : ℤ) (u : List ℕ) → IsInt y → IsInt z → t ≡ codes " in [" ++ a → a ≡ signed_decimal y ++ (codes "," ++ b) → b ≡ signed_decimal z ++ (codes "]" ++ u) → int_lt z y ≡ true
    → (r : Range) (rest : List ℕ) → IsIntRange r → t ≡ within_text r ++ rest → ⊥
no_range t a y b z u int more is low high less r rest h e =
    let same = one_range_by t a y b z u int more is low high r rest h e in
    let less' : int_lt r.high r.low ≡ true = subst (λ n. int_lt r.high n ≡ true) same.0 (subst (λ n. int_lt n y ≡ true) same.1 less) in
    omega (arith, ints, less', h.some)

pub range_is : (t a b u : List ℕ) (y z : ℤ) → t ≡ codes " in [" ++ a → a ≡ signed_decimal y ++ (codes "," ++ b) → b ≡ signed_decimal z ++ (codes "]" ++ u) → t ≡ within_text (record { low = y; high = z }) ++ u
range_is t a b u y z is low high =
    is ∙ ap (λ v. codes " in [" ++ v) (low ∙ ap (λ v. signed_decimal y ++ (codes "," ++ v)) high) ∙ sym (range_text (record { low = y; high = z }) u)

-- a range stands in one way at the front
pub one_range : (t : List ℕ) (q r : Range) (u rest : List ℕ) → IsIntRange q → IsIntRange r → t ≡ within_text q ++ u → t ≡ within_text r ++ rest → (q ≡ r) × (u ≡ rest)
one_range t q r u rest h k e f =
    let same = one_range_by t (low_text q.low q.high u) q.low (high_text q.high u) q.high u h.int.low h.int.high (e ∙ range_text q u) refl refl r rest k f in
    (λ i. record { low = same.0 i; high = same.1 i }, same.2)

-- ---- an item

pub no_name : (t name : List ℕ) → ((rest : List ℕ) → t ≡ name ++ rest → ⊥) → (r : Range) (rest : List ℕ) → IsIntRange r → t ≡ (name ++ within_text r) ++ rest → ⊥
no_name t name none r rest h e = none (within_text r ++ rest) (e ∙ append_assoc name (within_text r) rest)

pub behind_name : (t name a : List ℕ) → t ≡ name ++ a → (r : Range) (rest : List ℕ) → t ≡ (name ++ within_text r) ++ rest → a ≡ within_text r ++ rest
behind_name t name a is r rest e = append_cancel_left name a (within_text r ++ rest) (sym is ∙ e ∙ append_assoc name (within_text r) rest)

pub one_item : (t name : List ℕ) (q r : Range) (u rest : List ℕ) → IsIntRange q → IsIntRange r → t ≡ (name ++ within_text q) ++ u → t ≡ (name ++ within_text r) ++ rest → (q ≡ r) × (u ≡ rest)
one_item t name q r u rest h k e f =
    one_range (within_text q ++ u) q r u rest h k refl (behind_name t name (within_text q ++ u) (e ∙ append_assoc name (within_text q) u) r rest f)

pub not_less : (m n : ℤ) → int_lt m n ≡ false → n ≤ℤ m
not_less m n e = grind (arith, ints)

pub int_range : (l h : ℤ) → IsInt l → IsInt h → l ≤ℤ h → IsIntRange (record { low = l; high = h })
int_range l h low high some = record {
  int = record { low = low; high = high };
  some = some;
}

-- ---- items behind the first

pub bounds_cons : (name : List ℕ) (names : List (List ℕ)) (r : Range) (ranges : List Range) → AreIntBounds (name ∷ names) (Some (r ∷ ranges)) → IsIntRange r × AreIntBounds names (Some ranges)
bounds_cons name names r ranges h =
    let all = recursion_from_All IsIntRange (r ∷ ranges) h.1 in
    (all.0, (omega (arith, h.0), All-from_recursion IsIntRange ranges all.1))

pub cons_bounds : (name : List ℕ) (names : List (List ℕ)) (r : Range) (ranges : List Range) → IsIntRange r → AreIntBounds names (Some ranges) → AreIntBounds (name ∷ names) (Some (r ∷ ranges))
cons_bounds name names r ranges h k = (omega (arith, k.0), All-cons IsIntRange r ranges h k.1)

pub further_cons : (name : List ℕ) (names : List (List ℕ)) (r : Range) (ranges : List Range) → further (name ∷ names) (r ∷ ranges) ≡ codes ", " ++ ((name ++ within_text r) ++ further names ranges)
further_cons name names r ranges = append_assoc (codes ", ") (name ++ within_text r) (further names ranges)

pub no_further_cons : (name : List ℕ) (names : List (List ℕ)) (t : List ℕ) → ((r : Range) (ranges : List Range) → IsIntRange r → AreIntBounds names (Some ranges) → t ≡ codes ", " ++ ((name ++ within_text r) ++ further names ranges) → ⊥)
    → (more : List Range) → AreIntBounds (name ∷ names) (Some more) → t ≡ further (name ∷ names) more → ⊥
no_further_cons name names t none [] h e = omega (arith, h.0)
no_further_cons name names t none (r ∷ ranges) h e =
    let parts = bounds_cons name names r ranges h in none r ranges parts.0 parts.1 (e ∙ further_cons name names r ranges)

pub no_item : (name : List ℕ) (names : List (List ℕ)) (t a : List ℕ) → t ≡ codes ", " ++ a → ((r : Range) (rest : List ℕ) → IsIntRange r → a ≡ (name ++ within_text r) ++ rest → ⊥)
    → (more : List Range) → AreIntBounds (name ∷ names) (Some more) → t ≡ further (name ∷ names) more → ⊥
no_item name names t a is none =
    no_further_cons name names t (λ r ranges h k e. none r (further names ranges) h (append_cancel_left (codes ", ") a ((name ++ within_text r) ++ further names ranges) (sym is ∙ e)))

pub no_further : (name : List ℕ) (names : List (List ℕ)) (t a : List ℕ) (q : Range) (u : List ℕ) → t ≡ codes ", " ++ a → a ≡ (name ++ within_text q) ++ u → IsIntRange q
    → ((more : List Range) → AreIntBounds names (Some more) → u ≡ further names more → ⊥)
    → (more : List Range) → AreIntBounds (name ∷ names) (Some more) → t ≡ further (name ∷ names) more → ⊥
no_further name names t a q u is item int none =
    no_further_cons name names t (λ r ranges h k e.
    none ranges k (one_item a name q r u (further names ranges) int h item (append_cancel_left (codes ", ") a ((name ++ within_text r) ++ further names ranges) (sym is ∙ e))).1)

pub further_is : (name : List ℕ) (names : List (List ℕ)) (t a : List ℕ) (q : Range) (u : List ℕ) (more : List Range) → t ≡ codes ", " ++ a → a ≡ (name ++ within_text q) ++ u → u ≡ further names more → t ≡ further (name ∷ names) (q ∷ more)
further_is name names t a q u more is item later =
    is ∙ ap (λ v. codes ", " ++ v) (item ∙ ap (λ v. (name ++ within_text q) ++ v) later) ∙ sym (further_cons name names q more)

-- ---- all items

pub no_first : (name : List ℕ) (names : List (List ℕ)) (t : List ℕ) → ((r : Range) (rest : List ℕ) → IsIntRange r → t ≡ (name ++ within_text r) ++ rest → ⊥)
    → (ranges : List Range) → AreIntBounds (name ∷ names) (Some ranges) → t ≡ bounds_text (name ∷ names) (Some ranges) → ⊥
no_first name names t none [] h e = omega (arith, h.0)
no_first name names t none (r ∷ ranges) h e = none r (further names ranges) (bounds_cons name names r ranges h).0 e

pub no_others : (name : List ℕ) (names : List (List ℕ)) (t : List ℕ) (q : Range) (u : List ℕ) → t ≡ (name ++ within_text q) ++ u → IsIntRange q → ((more : List Range) → AreIntBounds names (Some more) → u ≡ further names more → ⊥)
    → (ranges : List Range) → AreIntBounds (name ∷ names) (Some ranges) → t ≡ bounds_text (name ∷ names) (Some ranges) → ⊥
no_others name names t q u item int none [] h e = omega (arith, h.0)
no_others name names t q u item int none (r ∷ ranges) h e =
    let parts = bounds_cons name names r ranges h in none ranges parts.1 (one_item t name q r u (further names ranges) int parts.0 item e).1

-- ---- answers by a truth

pub told_false : (P : Type 0) {Q : Type 0} (b : Bool) → b ≡ false → MatchBool b P Q → Q
told_false P true e h = absurd (true≢false e)
told_false P false e h = h

pub pushed : (old mid new : List Range) (q : Range) (more : List Range) → mid ≡ old ++ (q ∷ []) → new ≡ mid ++ more → new ≡ old ++ (q ∷ more)
pushed old mid new q more e f = f ∙ ap (λ v. v ++ more) e ∙ append_assoc old (q ∷ []) more

pub further_told : (old mid new : List Range) (name : List ℕ) (names : List (List ℕ)) (t a : List ℕ) (q : Range) (u : List ℕ) (whole : Bool)
    → t ≡ codes ", " ++ a → a ≡ (name ++ within_text q) ++ u → IsIntRange q → mid ≡ old ++ (q ∷ [])
    → MatchBool whole ((more : List Range) × (new ≡ mid ++ more) × AreIntBounds names (Some more) × (u ≡ further names more)) ((more : List Range) → AreIntBounds names (Some more) → u ≢ further names more)
    → MatchBool whole ((more : List Range) × (new ≡ old ++ more) × AreIntBounds (name ∷ names) (Some more) × (t ≡ further (name ∷ names) more)) ((more : List Range) → AreIntBounds (name ∷ names) (Some more) → t ≢ further (name ∷ names) more)
further_told old mid new name names t a q u true is item int e h =
    (q ∷ h.0, pushed old mid new q h.0 e h.1, cons_bounds name names q h.0 int h.2, further_is name names t a q u h.0 is item h.3)
further_told old mid new name names t a q u false is item int e h = no_further name names t a q u is item int h

-- A leaf that is met with a comparison keeps each store at which it holds.
use Rattle.std.proofs.Common.{◌≡◌, ℕ, ℤ, pos, negsuc, ◌-ℤ◌, Bool, true, false, not, ◌||◌, if◌then◌else◌, List, Option, Some, None, Ok, refl, ap, sym, ◌∙◌, subst, arith}
use Rattle.std.specs.Ordering.{int_eq}
use Rattle.std.proofs.lemmas.Int.{ints}
use Rattle.c_tree.specs.declared.tree.Mode.{Mode}
use Rattle.c_tree.specs.declared.tree.Op.{Op}
use Rattle.c_tree.specs.declared.tree.Op.TheVariants.{Rem}
use Rattle.c_tree.specs.Tree.{Term, Number, Var, Neg, Not, Binary}
use Rattle.c_tree.specs.Value.{value_of, least, IsInt}
use Rattle.c_tree.specs.Fit.{IsTermOf}
use Rattle.leaf_domain.specs.declared.form.Form.{Form}
use Rattle.leaf_domain.specs.declared.operation.Operation.{Operation}
use Rattle.leaf_domain.specs.declared.range.Range.{Range}
use Rattle.leaf_domain.specs.declared.compare.Compare.{Compare}
use Rattle.leaf_domain.specs.declared.compare.Compare.TheVariants as compares
use Rattle.leaf_domain.specs.Ranges.{Within, IsInInt, is_empty_range, exact}
use Rattle.leaf_domain.specs.Compares.{holds_between, mirror_of, cut_of}
use Rattle.leaf_domain.specs.Forms.{IsForm, form_at}
use Rattle.leaf_domain.specs.Operations.{IsOperation, Operates, operation_where, operation_if}
use Rattle.leaf_domain.specs.Leaves.{LeafValue, LeafMeaning, LeafLaws, IsLeafLike, nothing_of, is_nothing_of}
use Rattle.leaf_domain.specs.Transfer.{where_some, variable_of, form_where, met, form_met, compared, operation_met, operations_met, operands_compared}
use Rattle.leaf_domain.proofs.Answered.{answers_self, answers_then}
use Rattle.leaf_domain.proofs.CutLemmas.{cut_in_int, cut_holds, mirrored}
use Rattle.leaf_domain.proofs.ArithmeticLemmas.{not_empty}
use Rattle.leaf_domain.proofs.FormValues.{Comes}
use Rattle.leaf_domain.proofs.Results.{gives_same}

-- the form, where there is one, is a form over so many variables
abbrev pub AreForms : ℕ → Option Form → Type 0
AreForms n f = (d : Form) → f ≡ Some d → IsForm n d

pub forms_where : (n : ℕ) (t : Bool) (f : Option Form) → AreForms n f → AreForms n (form_where t f)
forms_where n true f h d e = h d e
forms_where n false f h d e = cc

pub comes_where : (s : List ℤ) (t : Bool) (f : Option Form) (n : ℤ) → (t ≡ true → Comes s f n) → Comes s (form_where t f) n
comes_where s true f n h d e = h refl d e
comes_where s false f n h d e = cc

-- the operation, where there is one, is one over so many variables
abbrev pub AreOperations : ℕ → Option Operation → Type 0
AreOperations n p = (d : Operation) → p ≡ Some d → IsOperation n d

-- the operation, where there is one, gives the number at the store
abbrev pub GivesAt : List ℤ → Option Operation → ℤ → Type 0
GivesAt s p n = (d : Operation) → p ≡ Some d → Operates d s n

abbrev operation_of : Op → Form → Form → Operation
operation_of op g h = record { op = op; left = g; right = h }

same_some : {x y : Operation} → Some x ≡ Some y → x ≡ y
same_some e = cc

pub where_operations : (n : ℕ) (t : Bool) (op : Op) (g h : Option Form) → AreForms n g → AreForms n h → AreOperations n (operation_where t op g h)
where_operations n true op (Some g) (Some h) og oh d e = subst (IsOperation n) (same_some e) (record { left = og g refl; right = oh h refl })
where_operations n true op (Some g) None og oh d e = cc
where_operations n true op None h og oh d e = cc
where_operations n false op g h og oh d e = cc

pub if_operations : (n : ℕ) (t : Bool) (p : Option Operation) → AreOperations n p → AreOperations n (operation_if t p)
if_operations n true None o d e = cc
if_operations n false None o d e = cc
if_operations n true (Some p) o d e = o d e
if_operations n false (Some p) o d e = cc

pub where_gives : (s : List ℤ) (t : Bool) (op : Op) (g h : Option Form) (n m k : ℤ) → (t ≡ true → Comes s g n) → (t ≡ true → Comes s h m) → IsInt n → IsInt m → exact op n m ≡ Some k
    → (op ≡ Rem → n ≡ least → m ≡ negsuc 0 → ⊥) → GivesAt s (operation_where t op g h) k
where_gives s true op (Some g) (Some h) n m k cg ch i j e r d q =
    let a : form_at g s ≡ n = cg refl g refl in
    let b : form_at h s ≡ m = ch refl h refl in
    subst (λ (x : Operation). Operates x s k) (same_some q) (record {
      left = subst IsInt (sym a) i;
      right = subst IsInt (sym b) j;
      is = ap (λ x. exact op x (form_at h s)) a ∙ ap (λ x. exact op n x) b ∙ e;
      rem_is = λ o x y. r o (sym a ∙ x) (sym b ∙ y);
    })
where_gives s true op (Some g) None n m k cg ch i j e r d q = cc
where_gives s true op None h n m k cg ch i j e r d q = cc
where_gives s false op g h n m k cg ch i j e r d q = cc

pub if_gives : (s : List ℤ) (t : Bool) (p : Option Operation) (n : ℤ) → (t ≡ true → GivesAt s p n) → GivesAt s (operation_if t p) n
if_gives s true None n o d e = cc
if_gives s false None n o d e = cc
if_gives s true (Some p) n o d e = o refl d e
if_gives s false (Some p) n o d e = cc

-- a comparison of two numbers is one of their difference with 0
pub between_difference : (op : Compare) (n m : ℤ) → holds_between op n m ≡ true → holds_between op (n -ℤ m) (pos 0) ≡ true
between_difference compares.Lt n m e = grind (arith, ints)
between_difference compares.Le n m e = grind (arith, ints)
between_difference compares.Gt n m e = grind (arith, ints)
between_difference compares.Ge n m e = grind (arith, ints)
between_difference compares.Eq n m e = grind (arith, ints)
between_difference compares.Ne n m e = by_test (int_eq (n -ℤ m) (pos 0)) refl
  where
    by_test : (t : Bool) → int_eq (n -ℤ m) (pos 0) ≡ t → not t ≡ true
    by_test true g = let h : n ≡ m = grind (arith, ints) in absurd (contrary (int_eq n m) (grind (arith, ints)) e)
      where
        contrary : (b : Bool) → b ≡ true → not b ≡ true → ⊥
        contrary true p q = cc
        contrary false p q = cc
    by_test false g = refl

none_true : (a b c : Bool) → a ≡ false → b ≡ false → c ≡ false → (a || b || c) ≡ false
none_true a b c e f g = rw (e, f, g)

module _ (M : LeafMeaning) (laws : LeafLaws M) where
  -- a leaf that holds a store is not Nothing
  held_content : (n : ℕ) (c : Option (List ℤ)) (s : List ℤ) → M.holds (record { variables = n; content = c }) s → is_nothing_of (record { variables = n; content = c }) ≡ false
  held_content n None s h = absurd (laws.nothing_holds n s h)
  held_content n (Some ns) s h = refl

  pub held : (v : LeafValue) (s : List ℤ) → M.holds v s → is_nothing_of v ≡ false
  held v s h = held_content v.variables v.content s h

  pub term_over : (e : Term) (v w : LeafValue) → IsLeafLike M v w → IsTermOf v.variables e → IsTermOf w.variables e
  term_over e v w h o = subst (λ (n : ℕ). IsTermOf n e) (sym h.same) o

  forms_over : (f : Option Form) (v w : LeafValue) → IsLeafLike M v w → AreForms v.variables f → AreForms w.variables f
  forms_over f v w h o d e = subst (λ (n : ℕ). IsForm n d) (sym h.same) (o d e)

  pub where_answers : (v w : LeafValue) → M.valid v → IsLeafLike M v w → IsLeafLike M v (where_some v w)
  where_answers v w h k = by_test (is_nothing_of v)
    where
      by_test : (t : Bool) → IsLeafLike M v (if t then v else w)
      by_test true = answers_self v h
      by_test false = k

  pub where_holds : (v w : LeafValue) (s : List ℤ) → M.holds v s → M.holds w s → M.holds (where_some v w) s
  where_holds v w s h k = rw (held v s h) k

  pub nothing_answers : (v : LeafValue) → M.valid v → IsLeafLike M v (nothing_of v.variables)
  nothing_answers v h = record { valid = laws.nothing_valid v.variables (laws.valid_few v h); same = refl }

  met_answers : (e : Term) (r : Range) (v : LeafValue) → M.valid v → IsTermOf v.variables e → IsInInt r → IsLeafLike M v (met M (variable_of e) r v)
  met_answers (Var x) r v h o i = laws.meet_answers v x r h o i
  met_answers (Number n) r v h o i = answers_self v h
  met_answers (Neg a) r v h o i = answers_self v h
  met_answers (Not a) r v h o i = answers_self v h
  met_answers (Binary op a b) r v h o i = answers_self v h

  met_holds : (mode : Mode) (e : Term) (r : Range) (v : LeafValue) (s : List ℤ) (n : ℤ) → M.valid v → IsTermOf v.variables e → IsInInt r → M.holds v s → value_of e s mode ≡ Ok n → Within n r → M.holds (met M (variable_of e) r v) s
  met_holds mode (Var x) r v s n h o i k g w = laws.meet_holds v x r s h o i k (subst (λ (m : ℤ). Within m r) (sym (gives_same g)) w)
  met_holds mode (Number m) r v s n h o i k g w = k
  met_holds mode (Neg a) r v s n h o i k g w = k
  met_holds mode (Not a) r v s n h o i k g w = k
  met_holds mode (Binary op a b) r v s n h o i k g w = k

  form_met_answers : (f : Option Form) (op : Compare) (v : LeafValue) → M.valid v → AreForms v.variables f → IsLeafLike M v (form_met M f op v)
  form_met_answers None op v h k = answers_self v h
  form_met_answers (Some d) op v h k = laws.meet_form_answers v d op h (k d refl)

  form_met_holds : (f : Option Form) (op : Compare) (v : LeafValue) (s : List ℤ) (n : ℤ) → M.valid v → AreForms v.variables f → M.holds v s → Comes s f n → holds_between op n (pos 0) ≡ true → M.holds (form_met M f op v) s
  form_met_holds None op v s n h k w c e = w
  form_met_holds (Some d) op v s n h k w c e = laws.meet_form_holds v d op s h (k d refl) w (subst (λ (x : ℤ). holds_between op x (pos 0) ≡ true) (sym (c d refl)) e)

  -- the leaf met with two operands' ranges, before the form
  abbrev narrowed : Compare → Term → Term → Range → Range → LeafValue → LeafValue
  narrowed op a b p q v = met M (variable_of b) (cut_of (mirror_of op) q p) (met M (variable_of a) (cut_of op p q) (M.best v))

  first_answers : (op : Compare) (a : Term) (p q : Range) (v : LeafValue) → M.valid v → IsTermOf v.variables a → IsInInt p → IsInInt q → IsLeafLike M v (met M (variable_of a) (cut_of op p q) (M.best v))
  first_answers op a p q v h o i j =
      let t = laws.best_answers v h in
      answers_then v (M.best v) _ t (met_answers a (cut_of op p q) (M.best v) t.valid (term_over a v (M.best v) t o) (cut_in_int op p q i j))

  narrowed_answers : (op : Compare) (a b : Term) (p q : Range) (v : LeafValue) → M.valid v → IsTermOf v.variables a → IsTermOf v.variables b → IsInInt p → IsInInt q → IsLeafLike M v (narrowed op a b p q v)
  narrowed_answers op a b p q v h oa ob i j =
      let t = first_answers op a p q v h oa i j in
      answers_then v _ _ t (met_answers b (cut_of (mirror_of op) q p) _ t.valid (term_over b v _ t ob) (cut_in_int (mirror_of op) q p j i))

  compared_answers : (op : Compare) (a b : Term) (p q : Range) (f : Option Form) (v : LeafValue) → M.valid v → IsTermOf v.variables a → IsTermOf v.variables b → IsInInt p → IsInInt q → AreForms v.variables f → IsLeafLike M v (compared M op (variable_of a) (variable_of b) p q f v)
  compared_answers op a b p q f v h oa ob i j k =
      let t = narrowed_answers op a b p q v h oa ob i j in
      by_test (is_empty_range p || is_empty_range q || is_empty_range (cut_of op p q)) (answers_then v _ _ t (form_met_answers f op (narrowed op a b p q v) t.valid (forms_over f v _ t k)))
    where
      by_test : (t : Bool) → IsLeafLike M v (form_met M f op (narrowed op a b p q v)) → IsLeafLike M v (if t then nothing_of v.variables else form_met M f op (narrowed op a b p q v))
      by_test true g = nothing_answers v h
      by_test false g = g

  compared_some : (op : Compare) (a b : Term) (p q : Range) (f : Option Form) (v : LeafValue) → is_empty_range p ≡ false → is_empty_range q ≡ false → is_empty_range (cut_of op p q) ≡ false
      → compared M op (variable_of a) (variable_of b) p q f v ≡ form_met M f op (narrowed op a b p q v)
  compared_some op a b p q f v i j k = ap (λ t. if t then nothing_of v.variables else form_met M f op (narrowed op a b p q v)) (none_true _ _ _ i j k)

  compared_holds : (mode : Mode) (op : Compare) (a b : Term) (p q : Range) (f : Option Form) (v : LeafValue) (s : List ℤ) (n m : ℤ) → M.valid v → IsTermOf v.variables a → IsTermOf v.variables b → IsInInt p → IsInInt q → AreForms v.variables f
      → M.holds v s → value_of a s mode ≡ Ok n → value_of b s mode ≡ Ok m → Within n p → Within m q → Comes s f (n -ℤ m) → holds_between op n m ≡ true → M.holds (compared M op (variable_of a) (variable_of b) p q f v) s
  compared_holds mode op a b p q f v s n m h oa ob i j fs k ga gb wp wq c e =
      subst (λ (w : LeafValue). M.holds w s) (sym (compared_some op a b p q f v (not_empty n p wp) (not_empty m q wq) (not_empty n (cut_of op p q) cut)))
      (form_met_holds f op (narrowed op a b p q v) s (n -ℤ m) last.valid (forms_over f v _ last fs) (second_holds (first_holds (laws.best_holds v s h).1)) c (between_difference op n m e))
    where
      cut : Within n (cut_of op p q)
      cut = cut_holds op p q n m wp wq e

      best : IsLeafLike M v (M.best v)
      best = laws.best_answers v h

      first : IsLeafLike M v (met M (variable_of a) (cut_of op p q) (M.best v))
      first = first_answers op a p q v h oa i j

      last : IsLeafLike M v (narrowed op a b p q v)
      last = narrowed_answers op a b p q v h oa ob i j

      first_holds : (M.holds v s → M.holds (M.best v) s) → M.holds (met M (variable_of a) (cut_of op p q) (M.best v)) s
      first_holds g = met_holds mode a (cut_of op p q) (M.best v) s n best.valid (term_over a v _ best oa) (cut_in_int op p q i j) (g k) ga cut

      second_holds : M.holds (met M (variable_of a) (cut_of op p q) (M.best v)) s → M.holds (narrowed op a b p q v) s
      second_holds g = met_holds mode b (cut_of (mirror_of op) q p) _ s m first.valid (term_over b v _ first ob) (cut_in_int (mirror_of op) q p j i) g gb (cut_holds (mirror_of op) q p m n wq wp (mirrored op n m ∙ e))

  -- ---- what operators give

  operations_over : (p : Option Operation) (v w : LeafValue) → IsLeafLike M v w → AreOperations v.variables p → AreOperations w.variables p
  operations_over p v w h o d e = subst (λ (n : ℕ). IsOperation n d) (sym h.same) (o d e)

  operation_met_answers : (p : Option Operation) (op : Compare) (r : Range) (v : LeafValue) → M.valid v → AreOperations v.variables p → IsInInt r → IsLeafLike M v (operation_met M p op r v)
  operation_met_answers None op r v h o i = answers_self v h
  operation_met_answers (Some d) op r v h o i = laws.meet_operation_answers v d op r h (o d refl) i

  operation_met_holds : (p : Option Operation) (op : Compare) (r : Range) (v : LeafValue) (s : List ℤ) (n m : ℤ) → M.valid v → AreOperations v.variables p → IsInInt r → M.holds v s → GivesAt s p n → Within m r → holds_between op n m ≡ true → M.holds (operation_met M p op r v) s
  operation_met_holds None op r v s n m h o i k g w e = k
  operation_met_holds (Some d) op r v s n m h o i k g w e = laws.meet_operation_holds v d op r s n m h (o d refl) i k (g d refl) w e

  first_met : (op : Compare) (x : Option Operation) (q : Range) (v w : LeafValue) → IsLeafLike M v w → AreOperations v.variables x → IsInInt q → IsLeafLike M w (operation_met M x op q w)
  first_met op x q v w t o j = operation_met_answers x op q w t.valid (operations_over x v w t o) j

  operations_met_answers : (op : Compare) (x y : Option Operation) (p q : Range) (v w : LeafValue) → IsLeafLike M v w → AreOperations v.variables x → AreOperations v.variables y → IsInInt p → IsInInt q → IsLeafLike M v (operations_met M op x y p q w)
  operations_met_answers op x y p q v w t ox oy i j =
      let u = answers_then v w _ t (first_met op x q v w t ox j) in
      answers_then v _ _ u (operation_met_answers y (mirror_of op) p _ u.valid (operations_over y v _ u oy) i)

  operations_met_holds : (op : Compare) (x y : Option Operation) (p q : Range) (v w : LeafValue) (s : List ℤ) (n m : ℤ) → IsLeafLike M v w → AreOperations v.variables x → AreOperations v.variables y → IsInInt p → IsInInt q
      → M.holds w s → GivesAt s x n → GivesAt s y m → Within n p → Within m q → holds_between op n m ≡ true → M.holds (operations_met M op x y p q w) s
  operations_met_holds op x y p q v w s n m t ox oy i j k gx gy wp wq e =
      let u = answers_then v w _ t (first_met op x q v w t ox j) in
      operation_met_holds y (mirror_of op) p _ s m n u.valid (operations_over y v _ u oy) i
      (operation_met_holds x op q w s n m t.valid (operations_over x v w t ox) j k gx wq e) gy wp (mirrored op n m ∙ e)

  -- two operands as transfer sees them: their ranges, the form of their difference, and what operators give them
  pub record Operands (mode : Mode) (a b : Term) (p q : Range) (f : Option Form) (x y : Option Operation) (v : LeafValue) : Type 0 where
    pub valid : M.valid v
    pub left_over : IsTermOf v.variables a
    pub right_over : IsTermOf v.variables b
    pub left_int : IsInInt p
    pub right_int : IsInInt q
    pub forms : AreForms v.variables f
    pub left_operations : AreOperations v.variables x
    pub right_operations : AreOperations v.variables y

  -- their values at a store
  pub record Values (mode : Mode) (a b : Term) (p q : Range) (f : Option Form) (x y : Option Operation) (s : List ℤ) (n m : ℤ) : Type 0 where
    pub left_is : value_of a s mode ≡ Ok n
    pub right_is : value_of b s mode ≡ Ok m
    pub left_within : Within n p
    pub right_within : Within m q
    pub comes : Comes s f (n -ℤ m)
    pub left_gives : GivesAt s x n
    pub right_gives : GivesAt s y m

  pub operands_answers : (mode : Mode) (op : Compare) (a b : Term) (p q : Range) (f : Option Form) (x y : Option Operation) (v : LeafValue) → Operands mode a b p q f x y v → IsLeafLike M v (operands_compared M op (variable_of a) (variable_of b) p q f x y v)
  operands_answers mode op a b p q f x y v o =
      operations_met_answers op x y p q v _ (compared_answers op a b p q f v o.valid o.left_over o.right_over o.left_int o.right_int o.forms) o.left_operations o.right_operations o.left_int o.right_int

  pub operands_hold : (mode : Mode) (op : Compare) (a b : Term) (p q : Range) (f : Option Form) (x y : Option Operation) (v : LeafValue) (s : List ℤ) (n m : ℤ) → Operands mode a b p q f x y v → Values mode a b p q f x y s n m
      → M.holds v s → holds_between op n m ≡ true → M.holds (operands_compared M op (variable_of a) (variable_of b) p q f x y v) s
  operands_hold mode op a b p q f x y v s n m o t k e =
      operations_met_holds op x y p q v _ s n m (compared_answers op a b p q f v o.valid o.left_over o.right_over o.left_int o.right_int o.forms) o.left_operations o.right_operations o.left_int o.right_int
      (compared_holds mode op a b p q f v s n m o.valid o.left_over o.right_over o.left_int o.right_int o.forms k t.left_is t.right_is t.left_within t.right_within t.comes e)
      t.left_gives t.right_gives t.left_within t.right_within e

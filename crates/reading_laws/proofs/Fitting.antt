-- A condition that bytes are read as is over the features, and their ranges decide none of its atoms.
use Rattle.std.proofs.Common.{◌≡◌, ℕ, ◌<◌, pos, negsuc, Bool, true, false, ◌&&◌, if◌then◌else◌, List, length, Option, Some, None, Result, Ok, Err, refl}
use Rattle.std.specs.Prelude.{IfOk}
use Rattle.fam_outer.specs.declared.faults.ConditionFault.{ConditionFault}
use Rattle.fam_outer.specs.declared.faults.ConditionFault.TheVariants as faults
use Rattle.linear_atoms.specs.declared.atoms.Atom.{Atom}
use Rattle.linear_atoms.specs.declared.atoms.Feature.{Feature}
use Rattle.linear_atoms.specs.declared.forms.Linear.{Linear}
use Rattle.linear_atoms.specs.declared.normal.Normal.{Normal}
use Rattle.linear_atoms.specs.declared.normal.Normal.TheVariants as normals
use Rattle.linear_atoms.specs.Atoms.{AreRanges, IsAtom, IsDecided}
use Rattle.linear_atoms.specs.Forms.{constant_form, feature_form, form_by, is_small_form}
use Rattle.linear_atoms.specs.Normal.{IsNormal, normal_of}
use Rattle.linear_atoms.specs.Ranges.{decided_of}
use Rattle.linear_atoms.specs.Texts.{boolean_at}
use Rattle.linear_atoms.proofs.Coprimes.{normal_kept}
use Rattle.linear_atoms.proofs.Extremes.{decided_so}
use Rattle.cpp_conditions.specs.declared.operators.Operator.{Operator}
use Rattle.cpp_conditions.specs.declared.operators.Operator.TheVariants.{Times, Plus, Minus, Less, AtMost, Greater, AtLeast, Equal, Differs, Both, Either}
use Rattle.cpp_conditions.specs.declared.operators.Prefix.{Prefix}
use Rattle.cpp_conditions.specs.declared.operators.Prefix.TheVariants.{Positive, Negative, Inverse}
use Rattle.cpp_conditions.specs.Expressions.{Expression, Number, Name, IsDefined, Unary, Binary, found}
use Rattle.cpp_conditions.specs.Forming.{IsOver, IsOverFeatures}
use Rattle.cpp_conditions.specs.Grammar.{is_small_zero, is_small_truth, is_small_compared, are_small_forms, is_small_condition, has_reserved, unknown_refuses, has_defined, judged_form, judged, ReadsAs, no_tokens, too_deep, no_condition, read}
use Rattle.cpp_conditions.specs.Macros.{Macros}
use Rattle.cpp_conditions.specs.Meaning.{is_linear, names_feature, name_form, defined_form, difference, form_before, form_between, form, kept, signed, test_of, at_least_zero, less_one, is_zero, compared, cond}
use Rattle.cpp_conditions.specs.Propositions.{Proposition, Not, And, Or}
use Rattle.cpp_conditions.proofs.Sizes.{and_left, and_right, and_true, over_constant, over_feature, over_by, over_sum, over_difference, found_below}

-- ---- forms

over_name : (fs : List Feature) (name : List ℕ) (o : Option ℕ) → found name fs ≡ o → IsOver fs (name_form o)
over_name fs name None e = over_constant fs (pos 0)
over_name fs name (Some n) e = over_feature fs n (found_below name fs n e)

over_switch : (fs : List Feature) (n : ℕ) (b : Bool) → n < length fs → IsOver fs (if b then feature_form n else constant_form (pos 1))
over_switch fs n true h = over_feature fs n h
over_switch fs n false h = over_constant fs (pos 1)

over_defined : (fs : List Feature) (name : List ℕ) (o : Option ℕ) → found name fs ≡ o → IsOver fs (defined_form fs o)
over_defined fs name None e = over_constant fs (pos 0)
over_defined fs name (Some n) e = over_switch fs n (boolean_at fs n) (found_below name fs n e)

over_before : (fs : List Feature) (u : Prefix) (a : Linear) → IsOver fs a → IsOver fs (form_before u a)
over_before fs Positive a o = o
over_before fs Negative a o = over_by fs (negsuc 0) a o
over_before fs Inverse a o = o

over_between : (fs : List Feature) (op : Operator) (named : Bool) (a b : Linear) → IsOver fs a → IsOver fs b → IsOver fs (form_between op named a b)
over_between fs Times true a b o p = over_by fs b.constant a o
over_between fs Times false a b o p = over_by fs a.constant b p
over_between fs Plus named a b o p = over_sum fs a b o p
over_between fs Minus named a b o p = over_difference fs a b o p
over_between fs Less named a b o p = over_difference fs a b o p
over_between fs AtMost named a b o p = over_difference fs a b o p
over_between fs Greater named a b o p = over_difference fs a b o p
over_between fs AtLeast named a b o p = over_difference fs a b o p
over_between fs Equal named a b o p = over_difference fs a b o p
over_between fs Differs named a b o p = over_difference fs a b o p
over_between fs Both named a b o p = over_difference fs a b o p
over_between fs Either named a b o p = over_difference fs a b o p

over_form : (fs : List Feature) (e : Expression) → IsOver fs (form fs e)
over_form fs (Number n) = over_constant fs (pos n)
over_form fs (Name name) = over_name fs name (found name fs) refl
over_form fs (IsDefined name) = over_defined fs name (found name fs) refl
over_form fs (Unary u e) = over_before fs u (form fs e) (over_form fs e)
over_form fs (Binary op a b) = over_between fs op (names_feature fs a) (form fs a) (form fs b) (over_form fs a) (over_form fs b)

over_less : (fs : List Feature) (a : Linear) → IsOver fs a → IsOver fs (less_one a)
over_less fs a o = record { rising = o.rising; below = o.below }

-- ---- tests

over_kept : (fs : List Feature) (a : Atom) (said : Option Bool) → IsAtom (length fs) a → IsDecided fs a said → IsOverFeatures fs (kept a said)
over_kept fs a (Some b) h d = record { fit = tt; undecided = tt }
over_kept fs a None h d = record { fit = h; undecided = d }

over_not : (fs : List Feature) (p : Proposition Atom) → IsOverFeatures fs p → IsOverFeatures fs (Not p)
over_not fs p o = record { fit = o.fit; undecided = o.undecided }

over_and : (fs : List Feature) (p q : Proposition Atom) → IsOverFeatures fs p → IsOverFeatures fs q → IsOverFeatures fs (And p q)
over_and fs p q o r = record { fit = (o.fit, r.fit); undecided = (o.undecided, r.undecided) }

over_or : (fs : List Feature) (p q : Proposition Atom) → IsOverFeatures fs p → IsOverFeatures fs q → IsOverFeatures fs (Or p q)
over_or fs p q o r = record { fit = (o.fit, r.fit); undecided = (o.undecided, r.undecided) }

over_signed : (fs : List Feature) (positive : Bool) (p : Proposition Atom) → IsOverFeatures fs p → IsOverFeatures fs (signed positive p)
over_signed fs true p o = o
over_signed fs false p o = over_not fs p o

over_normal : (fs : List Feature) (n : Normal) → AreRanges fs → IsNormal (length fs) n → IsOverFeatures fs (test_of fs n)
over_normal fs (normals.Const b) ranges h = record { fit = tt; undecided = tt }
over_normal fs (normals.Literal l) ranges h = over_signed fs l.positive (kept l.atom (decided_of fs l.atom)) (over_kept fs l.atom (decided_of fs l.atom) h (decided_so fs l.atom ranges h))

module _ (fs : List Feature) (ranges : AreRanges fs) where
  over_test : (a : Linear) → IsOver fs a → is_small_form a ≡ true → IsOverFeatures fs (at_least_zero fs a)
  over_test a o s = over_normal fs (normal_of a) ranges (normal_kept (length fs) a (normal_of a) refl s o.rising o.below)

  over_zero : (a : Linear) → IsOver fs a → is_small_zero a ≡ true → IsOverFeatures fs (is_zero fs a)
  over_zero a o s =
      let p = over_test a o (and_left (is_small_form a) (is_small_form (less_one a)) s) in
      let q = over_test (less_one a) (over_less fs a o) (and_right (is_small_form a) (is_small_form (less_one a)) s) in
      over_and fs (at_least_zero fs a) (Not (at_least_zero fs (less_one a))) p (over_not fs (at_least_zero fs (less_one a)) q)

  over_nonzero : (a : Linear) → IsOver fs a → is_small_zero a ≡ true → IsOverFeatures fs (Not (is_zero fs a))
  over_nonzero a o s = over_not fs (is_zero fs a) (over_zero a o s)

  over_compared : (op : Operator) (d : Linear) → IsOver fs d → is_small_compared op d ≡ true → IsOverFeatures fs (compared fs op d)
  over_compared AtLeast d o s = over_test d o s
  over_compared Greater d o s = over_test (less_one d) (over_less fs d o) s
  over_compared AtMost d o s = over_test (form_by (negsuc 0) d) (over_by fs (negsuc 0) d o) s
  over_compared Less d o s = over_test (less_one (form_by (negsuc 0) d)) (over_less fs (form_by (negsuc 0) d) (over_by fs (negsuc 0) d o)) s
  over_compared Equal d o s = over_zero d o s
  over_compared Differs d o s = over_nonzero d o s
  over_compared Times d o s = over_nonzero d o s
  over_compared Plus d o s = over_nonzero d o s
  over_compared Minus d o s = over_nonzero d o s
  over_compared Both d o s = over_nonzero d o s
  over_compared Either d o s = over_nonzero d o s

  -- ---- expressions

  over_number : (e : Expression) (more : Bool) → (more && is_small_zero (form fs e)) ≡ true → IsOverFeatures fs (Not (is_zero fs (form fs e)))
  over_number e more s = over_nonzero (form fs e) (over_form fs e) (and_right more (is_small_zero (form fs e)) s)

  over_relation : (op : Operator) (a b : Expression) → (((are_small_forms fs a && are_small_forms fs b) && is_small_compared op (difference (form fs a) (form fs b))) && true) ≡ true
      → IsOverFeatures fs (compared fs op (difference (form fs a) (form fs b)))
  over_relation op a b s =
      let d = over_difference fs (form fs a) (form fs b) (over_form fs a) (over_form fs b) in
      let k = and_left ((are_small_forms fs a && are_small_forms fs b) && is_small_compared op (difference (form fs a) (form fs b))) true s in
      over_compared op (difference (form fs a) (form fs b)) d (and_right (are_small_forms fs a && are_small_forms fs b) (is_small_compared op (difference (form fs a) (form fs b))) k)

  left_small : (a b : Expression) → (((are_small_forms fs a && are_small_forms fs b) && (is_small_truth fs a && is_small_truth fs b)) && true) ≡ true → is_small_condition fs a ≡ true
  left_small a b s =
      let k = and_left ((are_small_forms fs a && are_small_forms fs b) && (is_small_truth fs a && is_small_truth fs b)) true s in
      let f = and_left (are_small_forms fs a && are_small_forms fs b) (is_small_truth fs a && is_small_truth fs b) k in
      let t = and_right (are_small_forms fs a && are_small_forms fs b) (is_small_truth fs a && is_small_truth fs b) k in
      and_true (are_small_forms fs a) (is_small_truth fs a) (and_left (are_small_forms fs a) (are_small_forms fs b) f) (and_left (is_small_truth fs a) (is_small_truth fs b) t)

  right_small : (a b : Expression) → (((are_small_forms fs a && are_small_forms fs b) && (is_small_truth fs a && is_small_truth fs b)) && true) ≡ true → is_small_condition fs b ≡ true
  right_small a b s =
      let k = and_left ((are_small_forms fs a && are_small_forms fs b) && (is_small_truth fs a && is_small_truth fs b)) true s in
      let f = and_left (are_small_forms fs a && are_small_forms fs b) (is_small_truth fs a && is_small_truth fs b) k in
      let t = and_right (are_small_forms fs a && are_small_forms fs b) (is_small_truth fs a && is_small_truth fs b) k in
      and_true (are_small_forms fs b) (is_small_truth fs b) (and_right (are_small_forms fs a) (are_small_forms fs b) f) (and_right (is_small_truth fs a) (is_small_truth fs b) t)

  over_cond : (e : Expression) → is_small_condition fs e ≡ true → IsOverFeatures fs (cond fs e)
  over_cond (Number n) s = over_number (Number n) (are_small_forms fs (Number n)) s
  over_cond (Name name) s = over_number (Name name) (are_small_forms fs (Name name)) s
  over_cond (IsDefined name) s = over_number (IsDefined name) (are_small_forms fs (IsDefined name)) s
  over_cond (Unary Positive e) s = over_number (Unary Positive e) (are_small_forms fs (Unary Positive e)) s
  over_cond (Unary Negative e) s = over_number (Unary Negative e) (are_small_forms fs (Unary Negative e)) s
  over_cond (Unary Inverse e) s = over_not fs (cond fs e) (over_cond e (and_left (is_small_condition fs e) true s))
  over_cond (Binary Times a b) s = over_number (Binary Times a b) (are_small_forms fs (Binary Times a b)) s
  over_cond (Binary Plus a b) s = over_number (Binary Plus a b) (are_small_forms fs (Binary Plus a b)) s
  over_cond (Binary Minus a b) s = over_number (Binary Minus a b) (are_small_forms fs (Binary Minus a b)) s
  over_cond (Binary Both a b) s = over_and fs (cond fs a) (cond fs b) (over_cond a (left_small a b s)) (over_cond b (right_small a b s))
  over_cond (Binary Either a b) s = over_or fs (cond fs a) (cond fs b) (over_cond a (left_small a b s)) (over_cond b (right_small a b s))
  over_cond (Binary Less a b) s = over_relation Less a b s
  over_cond (Binary AtMost a b) s = over_relation AtMost a b s
  over_cond (Binary Greater a b) s = over_relation Greater a b s
  over_cond (Binary AtLeast a b) s = over_relation AtLeast a b s
  over_cond (Binary Equal a b) s = over_relation Equal a b s
  over_cond (Binary Differs a b) s = over_relation Differs a b s

  -- ---- what bytes are read as

  over_fault : (b : Bool) (fault : ConditionFault) (r : Result (Proposition Atom) ConditionFault) → IfOk r (IsOverFeatures fs) → IfOk (if b then Err fault else r) (IsOverFeatures fs)
  over_fault true fault r h = tt
  over_fault false fault r h = h

  over_else : (b : Bool) (fault : ConditionFault) (r : Result (Proposition Atom) ConditionFault) → IfOk r (IsOverFeatures fs) → IfOk (if b then r else Err fault) (IsOverFeatures fs)
  over_else true fault r h = h
  over_else false fault r h = tt

  over_small : (e : Expression) (b : Bool) → is_small_condition fs e ≡ b → IfOk (if b then Ok (cond fs e) else Err faults.TooLarge) (IsOverFeatures fs)
  over_small e true s = over_cond e s
  over_small e false s = tt

  over_judged : (macros : Macros) (e : Expression) → IfOk (judged macros fs e) (IsOverFeatures fs)
  over_judged macros e =
      over_fault (has_reserved e) faults.ReservedName (if unknown_refuses macros fs e then Err faults.UnknownName else (if has_defined macros.above e then Err faults.DefinedName else judged_form fs e))
      (over_fault (unknown_refuses macros fs e) faults.UnknownName (if has_defined macros.above e then Err faults.DefinedName else judged_form fs e)
      (over_fault (has_defined macros.above e) faults.DefinedName (judged_form fs e)
      (over_else (is_linear fs e) faults.NonLinear (if is_small_condition fs e then Ok (cond fs e) else Err faults.TooLarge)
      (over_small e (is_small_condition fs e) refl))))

  pub over_read : (macros : Macros) (bytes : List ℕ) (r : Result (Proposition Atom) ConditionFault) → ReadsAs macros fs bytes r → IfOk r (IsOverFeatures fs)
  over_read macros bytes _ (no_tokens n) = tt
  over_read macros bytes _ (too_deep ts s h) = tt
  over_read macros bytes _ (no_condition ts s h n) = tt
  over_read macros bytes _ (read ts e s h x) = over_judged macros e

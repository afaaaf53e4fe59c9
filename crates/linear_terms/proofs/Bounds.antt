-- Sums and multiples have the numbers of their terms.
use Rattle.std.proofs.Common.{ℕ, ◌<◌, ℤ, pos, ◌+ℤ◌, ◌*ℤ◌, Bool, true, false, if◌then◌else◌, List, [], ◌∷◌, ◌++◌}
use Rattle.std.specs.Ordering.{int_eq, nat_cmp}
use Rattle.std.specs.declared.cmp.Ordering.{Ordering}
use Rattle.std.specs.declared.cmp.Ordering.TheVariants.{Less, Equal, Greater}
use Rattle.linear_terms.specs.Terms.{AreBelow, one, placed, with_term, terms_sum, terms_by}

one_below_by : (v : Bool) (c n : ℕ) (a : ℤ) (us : List (ℕ × ℤ)) → n < c → AreBelow c us → AreBelow c ((if v then [] else (n, a) ∷ []) ++ us)
one_below_by true c n a us h b = b
one_below_by false c n a us h b = (h, b)

one_below : (c n : ℕ) (a : ℤ) (us : List (ℕ × ℤ)) → n < c → AreBelow c us → AreBelow c (one n a ++ us)
one_below c n a us h b = one_below_by (int_eq a (pos 0)) c n a us h b

single_below_by : (v : Bool) (c n : ℕ) (a : ℤ) → n < c → AreBelow c (if v then [] else (n, a) ∷ [])
single_below_by true c n a h = tt
single_below_by false c n a h = (h, tt)

placed_below : (o : Ordering) (c n : ℕ) (a : ℤ) (t : ℕ × ℤ) (ts more : List (ℕ × ℤ)) → n < c → t.0 < c → AreBelow c ts → AreBelow c more → AreBelow c (placed o n a t ts more)
placed_below Less c n a t ts more h k b m = one_below c n a (t ∷ ts) h (k, b)
placed_below Equal c n a t ts more h k b m = one_below c n (a +ℤ t.1) ts h b
placed_below Greater c n a t ts more h k b m = (k, m)

with_term_below : (c n : ℕ) (a : ℤ) (ts : List (ℕ × ℤ)) → n < c → AreBelow c ts → AreBelow c (with_term n a ts)
with_term_below c n a [] h b = single_below_by (int_eq a (pos 0)) c n a h
with_term_below c n a (t ∷ ts) h b = placed_below (nat_cmp n t.0) c n a t ts (with_term n a ts) h b.0 b.1 (with_term_below c n a ts h b.1)

pub terms_sum_below : (c : ℕ) (ts us : List (ℕ × ℤ)) → AreBelow c ts → AreBelow c us → AreBelow c (terms_sum ts us)
terms_sum_below c [] us b d = d
terms_sum_below c (t ∷ ts) us b d = with_term_below c t.0 t.1 (terms_sum ts us) b.0 (terms_sum_below c ts us b.1 d)

pub terms_by_below : (k : ℤ) (c : ℕ) (ts : List (ℕ × ℤ)) → AreBelow c ts → AreBelow c (terms_by k ts)
terms_by_below k c [] b = tt
terms_by_below k c (t ∷ ts) b = one_below c t.0 (t.1 *ℤ k) (terms_by k ts) b.0 (terms_by_below k c ts b.1)

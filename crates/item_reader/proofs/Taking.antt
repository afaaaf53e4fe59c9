-- One item, and then the others.
use Rattle.std.proofs.Common.{◌≡◌, ◌≤◌, ◌<◌, ◌+◌, ℕ, suc, Bool, true, false, ◌||◌, List, ◌∷◌, length, drop, get_or, subst, add-one, add-zero, Option, Some, None, Result, Err, ap, sym, ◌∙◌, arith}
use Rattle.std.specs.Prelude.{nat_le}
use Rattle.std.proofs.lemmas.Bool.Decides.{nat_tests}
use Rattle.std.proofs.lemmas.List.{length-drop, drop_all}
use Rattle.std.proofs.Math.Seq.{drop-cons}
use Rattle.c_grammar.specs.declared.items.Item.{Item}
use Rattle.c_grammar.specs.declared.items.Sign.{Sign}
use Rattle.c_grammar.specs.Grammar as grammar
use Rattle.c_grammar.specs.Machine.{ReadingState, start, step, finish}
use Rattle.c_grammar.specs.Deep as limits
use Rattle.c_grammar.specs.Deep.{Fault, counted, is_deep, is_long, is_nested, went, ended, guarded}
use Rattle.item_reader.specs.declared.unread.Unread.{Unread}
use Rattle.item_reader.specs.declared.unread.Unread.TheVariants as unread
use Rattle.fam_outer.specs.declared.refusal.Refusal.{Refusal}
use Rattle.fam_outer.specs.declared.refusal.Refusal.TheVariants as refusal
use Rattle.reading_states.specs.Signs.{AreUnsigned}
use Rattle.item_reader.specs.Taking.{IsTaken, IsTooMuch, StopsAt, Takes, AreItemsRead}

or_right : (a b : Bool) → (a || b) ≡ false → b ≡ false
or_right true b e = cc
or_right false b e = e

-- where the expression is not long it has at most 64 operators
pub shallow_few : (state : ReadingState) (s : Sign) (count : ℕ) → is_deep state s count ≡ false → counted state s count ≤ 64
shallow_few state s count e =
    let f : nat_le 65 (counted state s count) ≡ false = or_right (is_nested state s) (is_long state s count) e in
    grind (arith, nat_tests)

-- the first of the items that are left
front_item : (items : List Item) (n : ℕ) (x d : Item) → n < length items → x ≡ get_or items n d → drop n items ≡ x ∷ drop (n + 1) items
front_item items n x d h e =
    drop-cons items n d h ∙ (ap (λ y. y ∷ drop (suc n) items) (sym e) ∙ ap (λ k. x ∷ drop k items) (sym (add-one n)))

went_on : (o : Option ReadingState) (deep : Bool) (go : ReadingState → Result grammar.File Fault) (n : ℕ) (next : ReadingState) → o ≡ Some next → deep ≡ false → went o deep go n ≡ go next
went_on o deep go n next e f = ap (λ p. went p deep go n) e ∙ ap (λ b. went (Some next) b go n) f

went_wrong : (o : Option ReadingState) (deep : Bool) (go : ReadingState → Result grammar.File Fault) (n : ℕ) → o ≡ None → went o deep go n ≡ Err (limits.Wrong n)
went_wrong o deep go n e = ap (λ p. went p deep go n) e

went_deep : (o : Option ReadingState) (deep : Bool) (go : ReadingState → Result grammar.File Fault) (n : ℕ) (next : ReadingState) → o ≡ Some next → deep ≡ true → went o deep go n ≡ Err (limits.Deep n)
went_deep o deep go n next e f = ap (λ p. went p deep go n) e ∙ ap (λ b. went (Some next) b go n) f

-- the state before the items from a position on
pub record Stands (items : List Item) (n : ℕ) (state : ReadingState) (count : ℕ) : Type 0 where
  pub same : guarded start 0 items ≡ guarded state count (drop n items)
  pub unsigned : AreUnsigned (drop n items)
  pub few : count ≤ 64

at_front : (items : List Item) (n : ℕ) (x d : Item) (state : ReadingState) (count : ℕ) → n < length items → x ≡ get_or items n d → Stands items n state count
    → guarded start 0 items ≡ went (step state x.place x.sign) (is_deep state x.sign count) (λ next. guarded next (counted state x.sign count) (drop (n + 1) items)) (suc (length (drop (n + 1) items)))
unfolding guarded
at_front items n x d state count h e s = s.same ∙ ap (guarded state count) (front_item items n x d h e)

-- one item further
pub moved_on : (items : List Item) (n : ℕ) (x d : Item) (state next : ReadingState) (count operators : ℕ) → n < length items → x ≡ get_or items n d → Stands items n state count → IsTaken state count x next operators
    → Stands items (n + 1) next operators
moved_on items n x d state next count operators h e s t = record {
  same = at_front items n x d state count h e s ∙ (went_on (step state x.place x.sign) (is_deep state x.sign count) (λ next. guarded next (counted state x.sign count) (drop (n + 1) items)) (suc (length (drop (n + 1) items))) next t.goes t.shallow ∙ ap (λ k. guarded next k (drop (n + 1) items)) (sym t.counts));
  unsigned = (subst AreUnsigned (front_item items n x d h e) s.unsigned).1;
  few = t.few;
}

-- at the wrong item
pub stops_wrong : (items : List Item) (n : ℕ) (x d : Item) (state : ReadingState) (count : ℕ) → n < length items → x ≡ get_or items n d → Stands items n state count → step state x.place x.sign ≡ None → StopsAt items n limits.Wrong
stops_wrong items n x d state count h e s wrong = record {
  left = suc (length (drop (n + 1) items));
  position = omega (arith, length-drop (n + 1) items);
  stops = at_front items n x d state count h e s ∙ went_wrong (step state x.place x.sign) (is_deep state x.sign count) (λ next. guarded next (counted state x.sign count) (drop (n + 1) items)) (suc (length (drop (n + 1) items))) wrong;
}

-- at the item at which too much is open
pub stops_deep : (items : List Item) (n : ℕ) (x d : Item) (state : ReadingState) (count : ℕ) → n < length items → x ≡ get_or items n d → Stands items n state count → IsTooMuch state count x → StopsAt items n limits.Deep
stops_deep items n x d state count h e s t = record {
  left = suc (length (drop (n + 1) items));
  position = omega (arith, length-drop (n + 1) items);
  stops = at_front items n x d state count h e s ∙ went_deep (step state x.place x.sign) (is_deep state x.sign count) (λ next. guarded next (counted state x.sign count) (drop (n + 1) items)) (suc (length (drop (n + 1) items))) t.next t.goes t.deep;
}

-- behind the last item
pub at_last : (items : List Item) (n : ℕ) (state : ReadingState) (count : ℕ) (o : Option grammar.File) → length items ≤ n → Stands items n state count → o ≡ finish state → guarded start 0 items ≡ ended o
unfolding guarded
at_last items n state count o h s e = s.same ∙ (ap (guarded state count) (drop_all n items h) ∙ ap ended (sym e))

pub stops_at_end : (items : List Item) (n : ℕ) (state : ReadingState) (count : ℕ) → length items ≤ n → Stands items n state count → None ≡ finish state → StopsAt items (length items) limits.Wrong
stops_at_end items n state count h s e = record {
  left = 0;
  position = add-zero (length items);
  stops = at_last items n state count None h s e;
}

-- the first item that stops the reading
pub stopped : (e : Refusal Unread) (items : List Item) (n : ℕ) (x d : Item) (state : ReadingState) (count : ℕ) → n < length items → x ≡ get_or items n d → Stands items n state count → Takes state count x n (Err e) → AreItemsRead items (Err e)
stopped refusal.NoMemory items n x d state count h e s t = tt
stopped (refusal.Fault (unread.Wrong m)) items n x d state count h e s t = subst (λ k. StopsAt items k limits.Wrong) (sym t.0) (stops_wrong items n x d state count h e s t.1)
stopped (refusal.Fault (unread.Deep m)) items n x d state count h e s t = subst (λ k. StopsAt items k limits.Deep) (sym t.0) (stops_deep items n x d state count h e s t.1)

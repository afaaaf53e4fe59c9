-- What is known of constants behind one item more, and the names that it changes.
use Rattle.std.proofs.Common.{◌≡◌, ℕ, ◌+◌, ◌<◌, Bool, true, false, not, ◌&&◌, List, [], ◌∷◌, ◌++◌, length, take, drop, get_or, Option, Some, None, sym, ap, subst, ◌∙◌, drop-cons, add-one}
use Rattle.std.specs.Prelude.{if◌then◌else◌, option_map}
use Rattle.std.proofs.lemmas.List.{take_more}
use Rattle.fam_outer.specs.declared.faults.FileCode.{FileCode}
use Rattle.fam_outer.specs.declared.faults.Place.{Place}
use Rattle.c_grammar.specs.declared.constants.NameKind.TheVariants as kinds
use Rattle.c_grammar.specs.declared.items.Item.{Item}
use Rattle.c_grammar.specs.Constants.{is_constant, kind_after, of_constants}
use Rattle.c_grammar.specs.Changes.{changed_at, IsTrack}
use Rattle.c_grammar.specs.Grammar.{at}
use Rattle.c_grammar.specs.Scoped.{still}
use Rattle.cpp_lines.specs.Faults.{or_later}
use Rattle.c_parser.specs.declared.constants.Constants.{Constants}
use Rattle.c_parser.specs.declared.names.Known.{Known}
use Rattle.c_parser.specs.declared.names.Limits.{Limits}
use Rattle.c_parser.specs.Names.{Outside, is_used_behind, constants_in_scope, constant_fault, change_fault, name_fault_from, first_name_fault}
use Rattle.c_parser.specs.Judging.{AreInScope, IsKnown, AreHeld, Judges, counted, declares_constant}

pub held_more : (before : List Item) (x : Item) (new : Constants) → IsTrack (before ++ x ∷ []) new.track → ((p : Place) → AreInScope (of_constants (before ++ at p x.sign ∷ [])) new.names) → AreHeld (before ++ x ∷ []) new
held_more before x new track names = record { track = track; names = names x.place }

-- a constant is declared where the code says so
pub declared_next : (before : List Item) (constant used : Bool) → constant ≡ is_constant (kind_after kinds.Variable before) → used ≡ is_used_behind before → (constant && not used) ≡ declares_constant before
declared_next before constant used c u = ap (λ (b : Bool). b && not used) c ∙ ap (λ (b : Bool). is_constant (kind_after kinds.Variable before) && not b) u

pub unchanged : (o : Outside) (before : List Item) (known : Known) (x : Item) → IsKnown before known → known.in_main ≡ false → None ≡ change_fault o before x
unchanged o before known x k e = ap (λ (b : Bool). if b then constant_fault (o.values ++ constants_in_scope before) (changed_at before x) else None) (sym e ∙ k.main)

-- no name has a value from outside
pub changed : (limits : Limits) (before : List Item) (known : Known) (constants : Constants) (x : Item) → IsKnown before known → AreHeld before constants → known.in_main ≡ true
    → constant_fault (still 0 constants.names) (changed_at before x) ≡ change_fault (counted limits) before x
changed limits before known constants x k h e =
    ap (λ (ns : List ℕ). constant_fault ns (changed_at before x)) (h.names.still_are 0)
    ∙ ap (λ (b : Bool). if b then constant_fault (constants_in_scope before) (changed_at before x) else None) (sym e ∙ k.main)

-- ---- the items of a file

-- behind an item without a fault
pub record Walks (o : Outside) (items : List Item) (n : ℕ) (known : Known) (constants : Constants) : Type 0 where
  pub known_is : IsKnown (take n items) known
  pub held : AreHeld (take n items) constants
  pub fault_is : first_name_fault o items ≡ name_fault_from o (take n items) (drop n items)

pub walk_on : (o : Outside) (items : List Item) (i : ℕ) (d : Item) (known : Known) (constants : Constants) (code : Option FileCode) (change : Option (FileCode × Place)) → i < length items → first_name_fault o items ≡ name_fault_from o (take i items) (drop i items) → code ≡ None → change ≡ None
    → Judges o (take i items) (get_or items i d).sign known code → change ≡ change_fault o (take i items) (get_or items i d) → AreHeld (take i items ++ get_or items i d ∷ []) constants → Walks o items (i + 1) known constants
walk_on o items i d known constants code change lt so none unchanged j c held =
    let t : take (i + 1) items ≡ take i items ++ get_or items i d ∷ [] = take_more items i d lt in
    let r : drop i items ≡ get_or items i d ∷ drop (i + 1) items = rw add-one (drop-cons items i d lt) in
    record {
      known_is = subst (λ (ys : List Item). IsKnown ys known) (sym t) (j.known_is none (get_or items i d).place);
      held = subst (λ (ys : List Item). AreHeld ys constants) (sym t) held;
      fault_is =
          so ∙ ap (name_fault_from o (take i items)) r
          ∙ ap (λ (code : Option FileCode). or_later (option_map (λ k. (k, (get_or items i d).place)) code) (or_later (change_fault o (take i items) (get_or items i d)) (name_fault_from o (take i items ++ get_or items i d ∷ []) (drop (i + 1) items)))) (sym j.fault_is ∙ none)
          ∙ ap (λ (change : Option (FileCode × Place)). or_later change (name_fault_from o (take i items ++ get_or items i d ∷ []) (drop (i + 1) items))) (sym c ∙ unchanged)
          ∙ ap (λ (ys : List Item). name_fault_from o ys (drop (i + 1) items)) (sym t);
    }

pub walk_to : (o : Outside) (items : List Item) (i : ℕ) (d : Item) (known : Known) (code : Option FileCode) (found : FileCode) → i < length items → first_name_fault o items ≡ name_fault_from o (take i items) (drop i items) → code ≡ Some found
    → Judges o (take i items) (get_or items i d).sign known code → Some (found, (get_or items i d).place) ≡ first_name_fault o items
walk_to o items i d known code found lt so some j =
    let r : drop i items ≡ get_or items i d ∷ drop (i + 1) items = rw add-one (drop-cons items i d lt) in
    sym (so ∙ ap (name_fault_from o (take i items)) r
    ∙ ap (λ (code : Option FileCode). or_later (option_map (λ k. (k, (get_or items i d).place)) code) (or_later (change_fault o (take i items) (get_or items i d)) (name_fault_from o (take i items ++ get_or items i d ∷ []) (drop (i + 1) items)))) (sym j.fault_is ∙ some))

pub walk_to_change : (o : Outside) (items : List Item) (i : ℕ) (d : Item) (known : Known) (code : Option FileCode) (change : Option (FileCode × Place)) (found : FileCode × Place) → i < length items → first_name_fault o items ≡ name_fault_from o (take i items) (drop i items) → code ≡ None → change ≡ Some found
    → Judges o (take i items) (get_or items i d).sign known code → change ≡ change_fault o (take i items) (get_or items i d) → Some found ≡ first_name_fault o items
walk_to_change o items i d known code change found lt so none some j c =
    let r : drop i items ≡ get_or items i d ∷ drop (i + 1) items = rw add-one (drop-cons items i d lt) in
    sym (so ∙ ap (name_fault_from o (take i items)) r
    ∙ ap (λ (code : Option FileCode). or_later (option_map (λ k. (k, (get_or items i d).place)) code) (or_later (change_fault o (take i items) (get_or items i d)) (name_fault_from o (take i items ++ get_or items i d ∷ []) (drop (i + 1) items)))) (sym j.fault_is ∙ none)
    ∙ ap (λ (change : Option (FileCode × Place)). or_later change (name_fault_from o (take i items ++ get_or items i d ∷ []) (drop (i + 1) items))) (sym c ∙ some))

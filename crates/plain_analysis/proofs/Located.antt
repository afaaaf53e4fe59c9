-- The entries of a program by their places: places that rise are distinct, so each entry is found at its place.
use Rattle.std.proofs.Common.{◌≡◌, ℕ, true, false, List, [], ◌∷◌, ◌++◌, map, nat_eq, if◌then◌else◌, Option, Some, None, refl, ap, sym, subst, ◌∙◌, arith, append_assoc, append-nil}
use Rattle.std.specs.Prelude.{IsTrue}
use Rattle.std.specs.List.{AllByRecursion}
use Rattle.std.proofs.lemmas.List.{map-append}
use Rattle.fam_outer.specs.declared.faults.Place.{Place}
use Rattle.c_tree.specs.declared.tree.Kind.{Kind}
use Rattle.c_tree.specs.declared.tree.Mode.{Mode}
use Rattle.c_tree.specs.Tree.{Code, Done, Assign, Input, Assert, If, While, Do, Leave, Block, Skip, Cond, Whole}
use Rattle.c_tree.specs.Fit.{IsPlain}
use Rattle.c_tree.specs.Places.{places_of, program_places}
use Rattle.fam_outer.specs.Places.{is_before}
use Rattle.c_tree.specs.Whole.{IsBeforeAll, IsRising}
use Rattle.leaf_domain.specs.Leaves.{LeafValue, LeafMeaning, nothing_of}
use Rattle.leaf_domain.specs.Transfer.{assumed, assigned, forgotten}
use Rattle.leaf_domain.specs.Stops.{may_at}
use Rattle.plain_analysis.specs.Statements.{Heads, Entry, TestFirst, TestLast, passed, chosen, through_body, head_by, behind_by, entries_by}
use Rattle.plain_analysis.specs.Ways.{Ways, onto, enter, leave_by, going_on, end_of}
use Rattle.plain_analysis.specs.Places.{is_same_place, entry_in, leaf_or, at_by, may_stop, alarm_by, alarms_at, alarms_over, alarms_by}
use Rattle.plain_analysis.specs.Entered.{alarms_in}

unfoldable pub place_of : Entry → Place
place_of e = e.place

-- ---- places

same_self : (n : ℕ) → nat_eq n n ≡ true
same_self n = grind arith

pub same_place_self : (a : Place) → is_same_place a a ≡ true
same_place_self a = rw (same_self a.line, same_self a.column) refl

pub before_other : (a b : Place) → IsTrue (is_before a b) → is_same_place a b ≡ false
before_other a b h = grind arith

-- each entry of a list is the one that is found at its place
unfoldable pub IsListed : List Entry → List Entry → Type 0
IsListed all es = AllByRecursion (λ e. entry_in all e.place ≡ Some e) es

listed_behind : (e : Entry) (all es : List Entry) (tail : List Place) → IsBeforeAll e.place (map place_of es ++ tail) → IsListed all es → IsListed (e ∷ all) es
unfolding IsListed place_of
listed_behind e all [] tail h k = k
listed_behind e all (f ∷ es) tail h k =
    (ap (λ b. if b then Some e else entry_in all f.place) (before_other e.place f.place h.0) ∙ k.0, listed_behind e all es tail h.1 k.1)

pub all_listed : (es : List Entry) (tail : List Place) → IsRising (map place_of es ++ tail) → IsListed es es
unfolding IsListed place_of
all_listed [] tail h = tt
all_listed (e ∷ es) tail h = (ap (λ b. if b then Some e else entry_in es e.place) (same_place_self e.place), listed_behind e es es tail h.0 (all_listed es tail h.1))

before_last : (p : Place) (ps : List Place) (end : Place) → IsBeforeAll p (ps ++ end ∷ []) → IsTrue (is_before p end)
before_last p [] end h = h.0
before_last p (q ∷ ps) end h = before_last p ps end h.1

-- the last place of all has no entry
pub none_at_end : (es : List Entry) (end : Place) → IsRising (map place_of es ++ end ∷ []) → entry_in es end ≡ None
unfolding place_of
none_at_end [] end h = refl
none_at_end (e ∷ es) end h = ap (λ b. if b then Some e else entry_in es end) (before_other e.place end (before_last e.place (map place_of es) end h.0)) ∙ none_at_end es end h.1

-- ---- the entries of a plain list have its places

-- two lists of entries one after the other, at their places
both : (xs ys : List Entry) (ps qs : List Place) → map place_of xs ≡ ps → map place_of ys ≡ qs → map place_of (xs ++ ys) ≡ ps ++ qs
both xs ys ps qs e f = map-append place_of xs ys ∙ (ap (λ l. l ++ map place_of ys) e ∙ ap (λ l. ps ++ l) f)

module _ (M : LeafMeaning) (mode : Mode) (H : Heads) where
  pub places_of_entries : (c : Code) (w : Ways) → IsPlain c → map place_of (entries_by M mode H c w) ≡ places_of c
  unfolding place_of
  places_of_entries Done w h = refl
  places_of_entries (Assign place x e rest) w h = ap (λ l. place ∷ l) (places_of_entries rest (onto w (assigned M mode x e w.behind)) h)
  places_of_entries (Input place x rest) w h = ap (λ l. place ∷ l) (places_of_entries rest (onto w (forgotten M x w.behind)) h)
  places_of_entries (Assert place e rest) w h = ap (λ l. place ∷ l) (places_of_entries rest (onto w (assumed M mode e true w.behind)) h)
  places_of_entries (If place e p q rest) w h =
      let yes_in = onto w (assumed M mode e true w.behind) in
      let no_in = onto (passed M mode H p yes_in) (assumed M mode e false w.behind) in
      let out = chosen M mode H e p q w in
      ap (λ l. place ∷ l) (both (entries_by M mode H p yes_in) (entries_by M mode H q no_in ++ entries_by M mode H rest out) _ _ (places_of_entries p yes_in h.0)
      (both (entries_by M mode H q no_in) (entries_by M mode H rest out) _ _ (places_of_entries q no_in h.1) (places_of_entries rest out h.2)))
  places_of_entries (While place e step body rest) w h =
      let l = TestFirst e step body in
      let x = head_by M mode H place l w.behind in
      let step_in = enter (going_on M (through_body M mode H l x)) in
      let body_in = enter (assumed M mode e true x) in
      let out = behind_by M mode H l w x in
      ap (λ l. place ∷ l) (both (entries_by M mode H step step_in) (entries_by M mode H body body_in ++ entries_by M mode H rest out) _ _ (places_of_entries step step_in h.0)
      (both (entries_by M mode H body body_in) (entries_by M mode H rest out) _ _ (places_of_entries body body_in h.1) (places_of_entries rest out h.2)))
  places_of_entries (Do place body at e rest) w h =
      let l = TestLast body at e in
      let x = head_by M mode H place l w.behind in
      let out = behind_by M mode H l w x in
      ap (λ l. place ∷ l) (both (entries_by M mode H body (enter x)) (_ ∷ entries_by M mode H rest out) _ _ (places_of_entries body (enter x) h.0)
      (ap (λ l. at ∷ l) (places_of_entries rest out h.1)))
  places_of_entries (Leave place jump rest) w h = ap (λ l. place ∷ l) (places_of_entries rest (leave_by M mode jump w) h)
  places_of_entries (Block place body rest) w h =
      let out = passed M mode H body w in
      ap (λ l. place ∷ l) (both (entries_by M mode H body w) (entries_by M mode H rest out) _ _ (places_of_entries body w h.0) (places_of_entries rest out h.1))
  places_of_entries (Skip place rest) w h = ap (λ l. place ∷ l) (places_of_entries rest w h)
  places_of_entries (Cond number p q rest) w h = absurd h

  -- ---- what is found at the places

  unfoldable pub leaf_of : Entry → LeafValue
  leaf_of e = e.leaf

  pub leaves_found : (all es : List Entry) (other : Place → LeafValue) → IsListed all es → map (λ (p : Place). leaf_or (other p) (entry_in all p)) (map place_of es) ≡ map leaf_of es
  unfolding IsListed leaf_of place_of
  leaves_found all [] other h = refl
  leaves_found all (e ∷ es) other h =
      ap (λ (x : Option Entry). leaf_or (other e.place) x ∷ map (λ (p : Place). leaf_or (other p) (entry_in all p)) (map place_of es)) h.0
      ∙ ap (λ l. e.leaf ∷ l) (leaves_found all es other h.1)

  pub alarms_found : (all es : List Entry) (ps : List Place) → IsListed all es → alarms_over (λ (p : Place) (kind : Kind). may_stop M mode (entry_in all p) kind) (map place_of es ++ ps) ≡ alarms_in M mode es ++ alarms_over (λ (p : Place) (kind : Kind). may_stop M mode (entry_in all p) kind) ps
  unfolding IsListed place_of
  alarms_found all [] ps h = refl
  alarms_found all (e ∷ es) ps h =
      let A = λ (p : Place) (kind : Kind). may_stop M mode (entry_in all p) kind in
      ap (λ (x : Option Entry). alarms_at (λ kind. may_stop M mode x kind) e.place ++ alarms_over A (map place_of es ++ ps)) h.0
      ∙ (ap (λ l. alarms_at (λ kind. may_at M mode kind e.statement e.leaf) e.place ++ l) (alarms_found all es ps h.1)
      ∙ sym (append_assoc (alarms_at (λ kind. may_at M mode kind e.statement e.leaf) e.place) (alarms_in M mode es) (alarms_over A ps)))

  -- a place without an entry has no alarm
  no_alarms : (all : List Entry) (end : Place) → entry_in all end ≡ None → alarms_over (λ (p : Place) (kind : Kind). may_stop M mode (entry_in all p) kind) (end ∷ []) ≡ []
  no_alarms all end e = ap (λ (x : Option Entry). alarms_at (λ kind. may_stop M mode x kind) end ++ []) e

  -- ---- a plain program whose places rise

  module _ (p : Whole) (d : LeafValue) (plain : IsPlain p.body) (rising : IsRising (program_places p)) where
    abbrev pub es : List Entry
    es = entries_by M mode H p.body (enter d)

    abbrev last : LeafValue
    last = end_of M (passed M mode H p.body (enter d))

    pub same_places : map place_of es ++ p.end ∷ [] ≡ program_places p
    same_places = ap (λ l. l ++ p.end ∷ []) (places_of_entries p.body (enter d) plain)

    rising_here : IsRising (map place_of es ++ p.end ∷ [])
    rising_here = subst IsRising (sym same_places) rising

    pub listed : IsListed es es
    listed = all_listed es (p.end ∷ []) rising_here

    pub at_end : at_by M mode H p d p.end ≡ end_of M (passed M mode H p.body (enter d))
    at_end = ap (λ (x : Option Entry). leaf_or (if is_same_place p.end p.end then last else nothing_of d.variables) x) (none_at_end es p.end rising_here)
        ∙ ap (λ b. if b then last else nothing_of d.variables) (same_place_self p.end)

    pub leaves_are : map leaf_of es ++ end_of M (passed M mode H p.body (enter d)) ∷ [] ≡ map (at_by M mode H p d) (program_places p)
    leaves_are =
        ap (λ l. l ++ end_of M (passed M mode H p.body (enter d)) ∷ []) (sym (leaves_found es es (λ q. if is_same_place p.end q then last else nothing_of d.variables) listed))
        ∙ (ap (λ x. map (at_by M mode H p d) (map place_of es) ++ x ∷ []) (sym at_end)
        ∙ (sym (map-append (at_by M mode H p d) (map place_of es) (p.end ∷ [])) ∙ ap (map (at_by M mode H p d)) same_places))

    pub alarms_are : alarms_in M mode es ≡ alarms_by M mode H p d
    alarms_are =
        sym (append-nil (alarms_in M mode es))
        ∙ (ap (λ l. alarms_in M mode es ++ l) (sym (no_alarms es p.end (none_at_end es p.end rising_here)))
        ∙ (sym (alarms_found es es (p.end ∷ []) listed) ∙ ap (alarms_over (alarm_by M mode H p d)) same_places))

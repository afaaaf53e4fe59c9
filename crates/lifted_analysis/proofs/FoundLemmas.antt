-- What is found of a family at a vector is what the analysis of its program finds.
use Rattle.std.proofs.Common.{◌≡◌, true, false, Bool, not, List, [], ◌∷◌, ◌++◌, map, length, if◌then◌else◌, Option, Some, None, refl, ap, sym, subst, ◌∙◌, arith}
use Rattle.std.specs.Prelude.{IsTrue, slice_index_or}
use Rattle.std.proofs.lemmas.List.{map-append}
use Rattle.fam_outer.specs.declared.faults.Place.{Place}
use Rattle.c_tree.specs.declared.tree.Kind.{Kind}
use Rattle.c_tree.specs.declared.tree.Kind.TheVariants.{Overflow, ZeroDivisor, Assertion}
use Rattle.c_tree.specs.Fit.{IsPlain}
use Rattle.c_tree.specs.Places.{places_of, program_places}
use Rattle.c_tree.specs.Project.{projected, projected_program}
use Rattle.c_tree.specs.Tree.{Code, Done, Assign, Input, Assert, If, While, Do, Leave, Block, Skip, Cond, Whole}
use Rattle.fam_outer.specs.Places.{is_before}
use Rattle.c_tree.specs.Whole.{IsBeforeAll, IsRising, IsProgram}
use Rattle.c_tree.proofs.Wholes.{IsPlain-projected, IsProgram-projected}
use Rattle.leaf_domain.specs.Leaves.{LeafValue, LeafMeaning, LeafLaws, nothing_of, is_nothing_of}
use Rattle.leaf_domain.specs.Soundness.{TransferAnswers, NothingStops}
use Rattle.leaf_domain.specs.Stops.{may_at}
use Rattle.leaf_domain.specs.Transfer.{assumed, assigned, forgotten}
use Rattle.c_tree.specs.declared.tree.Mode.{Mode}
use Rattle.plain_analysis.specs.Places.{is_same_place, entry_in, leaf_or, at_by, may_stop, alarm_by}
use Rattle.plain_analysis.specs.Statements.{Heads, Entry, passed, entries_by}
use Rattle.plain_analysis.specs.Ways.{Ways, onto, enter, leave_by, end_of}
use Rattle.plain_analysis.proofs.Kept.{enter_leaves}
use Rattle.plain_analysis.proofs.Located.{none_at_end, same_places, at_end}
use Rattle.lifted_analysis.specs.Entries.{Visit, visits_at, leaves_in, stops_in, turns_in}
use Rattle.lifted_analysis.specs.Promises.{by_kind}
use Rattle.lifted_analysis.specs.Rules.{heads_where}
use Rattle.lifted_analysis.specs.Turns.{Turn, turns_by, is_inductive, inductive_in, loop_places}
use Rattle.lifted_analysis.proofs.Drawn.{place_of, from, over, IsSame, IsDrawn, drawn_list, matched, asked, loops_matched}
use Rattle.lifted_analysis.proofs.PassedLemmas.{AreFit}
use Rattle.lifted_analysis.proofs.EntryLemmas.{turns_in-append}

-- ---- places

two : (place : Place) (xs ys zs us : List Place) → xs ≡ ys → zs ≡ us → place ∷ (xs ++ zs) ≡ place ∷ (ys ++ us)
two place xs ys zs us e f = ap (λ l. place ∷ (l ++ zs)) e ∙ ap (λ l. place ∷ (ys ++ l)) f

sides : (xs ys zs us vs ws : List Place) → xs ≡ ys → zs ≡ us → vs ≡ ws → xs ++ (zs ++ vs) ≡ ys ++ (us ++ ws)
sides xs ys zs us vs ws e f g = ap (λ l. l ++ (zs ++ vs)) e ∙ (ap (λ l. ys ++ (l ++ vs)) f ∙ ap (λ l. ys ++ (us ++ l)) g)

unfoldable pub loops_in : List Visit → List Place
loops_in fs = map (λ (t : Turn). t.place) (turns_in fs)

loops_in-append : (xs ys : List Visit) → loops_in (xs ++ ys) ≡ loops_in xs ++ loops_in ys
unfolding loops_in
loops_in-append xs ys = ap (map (λ (t : Turn). t.place)) (turns_in-append xs ys) ∙ map-append (λ (t : Turn). t.place) (turns_in xs) (turns_in ys)

module _ (M : LeafMeaning) (mode : Mode) (ts : List Bool) where
  three_parts : (xs ys zs : List Visit) → map place_of (xs ++ (ys ++ zs)) ≡ map place_of xs ++ (map place_of ys ++ map place_of zs)
  three_parts xs ys zs = map-append place_of xs (ys ++ zs) ∙ ap (λ l. map place_of xs ++ l) (map-append place_of ys zs)

  pub places_at : (H : Heads) (c : Code) (w : Ways) → map place_of (visits_at M mode ts H c w) ≡ places_of c
  unfolding place_of
  places_at H Done w = refl
  places_at H (Assign place y e rest) w = ap (λ l. place ∷ l) (places_at H rest (onto w (assigned M mode y e w.behind)))
  places_at H (Input place y rest) w = ap (λ l. place ∷ l) (places_at H rest (onto w (forgotten M y w.behind)))
  places_at H (Assert place e rest) w = ap (λ l. place ∷ l) (places_at H rest (onto w (assumed M mode e true w.behind)))
  places_at H (If place e p q rest) w =
      ap (λ l. place ∷ l) (three_parts (visits_at M mode ts H p _) (visits_at M mode ts H q _) (visits_at M mode ts H rest _)
      ∙ sides _ _ _ _ _ _ (places_at H p _) (places_at H q _) (places_at H rest _))
  places_at H (While place e step body rest) w =
      ap (λ l. place ∷ l) (three_parts (visits_at M mode ts H step _) (visits_at M mode ts H body _) (visits_at M mode ts H rest _)
      ∙ sides _ _ _ _ _ _ (places_at H step _) (places_at H body _) (places_at H rest _))
  places_at H (Do place body at e rest) w =
      ap (λ l. place ∷ l) (map-append place_of (visits_at M mode ts H body _) _)
      ∙ two place _ _ _ _ (places_at H body _) (ap (λ l. at ∷ l) (places_at H rest _))
  places_at H (Leave place jump rest) w = ap (λ l. place ∷ l) (places_at H rest (leave_by M mode jump w))
  places_at H (Block place body rest) w =
      let r = passed M mode H (projected ts body) w in
      ap (λ l. place ∷ l) (map-append place_of (visits_at M mode ts H body w) (visits_at M mode ts H rest r)) ∙ two place _ _ _ _ (places_at H body w) (places_at H rest r)
  places_at H (Skip place rest) w = ap (λ l. place ∷ l) (places_at H rest w)
  places_at H (Cond number p q rest) w =
      let b = slice_index_or ts number false in
      three_parts (visits_at M mode ts (heads_where b H) p _) (visits_at M mode ts (heads_where (not b) H) q _) (visits_at M mode ts H rest _)
      ∙ sides _ _ _ _ _ _ (places_at (heads_where b H) p _) (places_at (heads_where (not b) H) q _) (places_at H rest _)

  -- the loops among statements are those of the list
  three_loops : (xs ys zs : List Visit) → loops_in (xs ++ (ys ++ zs)) ≡ loops_in xs ++ (loops_in ys ++ loops_in zs)
  three_loops xs ys zs = loops_in-append xs (ys ++ zs) ∙ ap (λ l. loops_in xs ++ l) (loops_in-append ys zs)

  pub loops_at : (H : Heads) (c : Code) (w : Ways) → loops_in (visits_at M mode ts H c w) ≡ loop_places c
  unfolding loops_in
  loops_at H Done w = refl
  loops_at H (Assign place y e rest) w = loops_at H rest (onto w (assigned M mode y e w.behind))
  loops_at H (Input place y rest) w = loops_at H rest (onto w (forgotten M y w.behind))
  loops_at H (Assert place e rest) w = loops_at H rest (onto w (assumed M mode e true w.behind))
  loops_at H (If place e p q rest) w =
      three_loops (visits_at M mode ts H p _) (visits_at M mode ts H q _) (visits_at M mode ts H rest _)
      ∙ sides _ _ _ _ _ _ (loops_at H p _) (loops_at H q _) (loops_at H rest _)
  loops_at H (While place e step body rest) w =
      ap (λ l. place ∷ l) (three_loops (visits_at M mode ts H step _) (visits_at M mode ts H body _) (visits_at M mode ts H rest _)
      ∙ sides _ _ _ _ _ _ (loops_at H step _) (loops_at H body _) (loops_at H rest _))
  loops_at H (Do place body at e rest) w =
      ap (λ l. place ∷ l) (loops_in-append (visits_at M mode ts H body _) _) ∙ two place _ _ _ _ (loops_at H body _) (loops_at H rest _)
  loops_at H (Leave place jump rest) w = loops_at H rest (leave_by M mode jump w)
  loops_at H (Block place body rest) w =
      let r = passed M mode H (projected ts body) w in
      loops_in-append (visits_at M mode ts H body w) (visits_at M mode ts H rest r)
      ∙ (ap (λ l. l ++ loops_in (visits_at M mode ts H rest r)) (loops_at H body w) ∙ ap (λ l. loop_places body ++ l) (loops_at H rest r))
  loops_at H (Skip place rest) w = loops_at H rest w
  loops_at H (Cond number p q rest) w =
      let b = slice_index_or ts number false in
      three_loops (visits_at M mode ts (heads_where b H) p _) (visits_at M mode ts (heads_where (not b) H) q _) (visits_at M mode ts H rest _)
      ∙ sides _ _ _ _ _ _ (loops_at (heads_where b H) p _) (loops_at (heads_where (not b) H) q _) (loops_at H rest _)

after_last : (a b : Place) → IsTrue (is_before a b) → is_same_place b a ≡ false
after_last a b h = grind arith

by_kind-append : (ps qs : List Place) → by_kind (ps ++ qs) ≡ by_kind ps ++ by_kind qs
by_kind-append [] qs = refl
by_kind-append (p ∷ ps) qs = ap (λ l. (p, Overflow) ∷ ((p, ZeroDivisor) ∷ ((p, Assertion) ∷ l))) (by_kind-append ps qs)

-- ---- a program at the truths of a vector

module _ (M : LeafMeaning) (laws : LeafLaws M) (mode : Mode) (A : TransferAnswers M mode) (N : NothingStops M mode) (p : Whole) (program : IsProgram p) (ts : List Bool) (d : LeafValue) (valid : M.valid d) (count : d.variables ≡ length p.names) (H : Heads) (fit : AreFit M mode (length p.names) H) where
  V : Whole
  V = projected_program ts p

  abbrev R : List Entry
  R = entries_by M mode H (projected ts p.body) (enter d)

  abbrev T : List Turn
  T = turns_by M mode H (projected ts p.body) (enter d)

  abbrev E : List Visit
  E = visits_at M mode ts H p.body (enter d)

  well : IsProgram (projected_program ts p)
  well = IsProgram-projected ts p program

  plain_body : IsPlain (projected ts p.body)
  plain_body = IsPlain-projected ts p.body

  all_drawn : IsDrawn M mode (length p.names) R T E
  all_drawn = drawn_list M mode (length p.names) laws A program.few ts H fit p.body (enter d) (enter_leaves M laws (length p.names) d (record { valid = valid; count = count })) well.names

  rising : IsRising (map place_of E ++ p.end ∷ [])
  rising = subst (λ l. IsRising (l ++ p.end ∷ [])) (sym (places_at M mode ts H p.body (enter d))) program.rising

  abbrev at : Place → LeafValue
  at = at_by M mode H (projected_program ts p) d

  -- ---- leaves

  abbrev leaf_said : Visit → List (Place × LeafValue)
  leaf_said f = (f.place, f.leaf) ∷ []

  abbrev leaf_there_is : Place → Option Entry → List (Place × LeafValue)
  leaf_there_is q e = (q, leaf_or (nothing_of (length p.names)) e) ∷ []

  leaves_from : (fs : List Visit) → leaves_in fs ≡ from leaf_said fs
  leaves_from [] = refl
  leaves_from (f ∷ fs) = ap (λ l. (f.place, f.leaf) ∷ l) (leaves_from fs)

  leaf_found : (e : Entry) (f : Visit) → IsSame M mode (length p.names) e f → leaf_said f ≡ leaf_there_is f.place (Some e)
  leaf_found e f s = ap (λ x. (f.place, x) ∷ []) (sym s.leaf)

  leaf_lost : (f : Visit) → f.leaf ≡ nothing_of (length p.names) → leaf_said f ≡ leaf_there_is f.place None
  leaf_lost f e = ap (λ x. (f.place, x) ∷ []) e

  leaf_at_place : (q : Place) → IsTrue (is_before q p.end) → leaf_or (nothing_of (length p.names)) (entry_in R q) ≡ at q
  leaf_at_place q h =
      ap (λ m. leaf_or (nothing_of m) (entry_in R q)) (sym count)
      ∙ ap (λ (b : Bool). leaf_or (if b then end_of M (passed M mode H (projected ts p.body) (enter d)) else nothing_of d.variables) (entry_in R q)) (sym (after_last q p.end h))

  leaves_over : (ps : List Place) → IsRising (ps ++ p.end ∷ []) → over leaf_there_is R ps ≡ map (λ (q : Place). (q, at q)) ps
  leaves_over [] h = refl
  leaves_over (q ∷ ps) h =
      ap (λ (x : LeafValue). (q, x) ∷ over leaf_there_is R ps) (leaf_at_place q (before_end q ps h.0)) ∙ ap (λ l. (q, at q) ∷ l) (leaves_over ps h.1)
    where
      before_end : (q : Place) (ps : List Place) → IsBeforeAll q (ps ++ p.end ∷ []) → IsTrue (is_before q p.end)
      before_end q [] h = h.0
      before_end q (r ∷ ps) h = before_end q ps h.1

  pub leaves_are : leaves_in E ++ (p.end, end_of M (passed M mode H (projected ts p.body) (enter d))) ∷ [] ≡ map (λ (q : Place). (q, at q)) (program_places p)
  leaves_are =
      let f : Place → Place × LeafValue = λ q. (q, at q) in
      let found : leaves_in E ≡ map f (places_of p.body) =
      leaves_from E ∙ (matched M mode (length p.names) leaf_said leaf_there_is leaf_found leaf_lost (p.end ∷ []) all_drawn rising
      ∙ (leaves_over (map place_of E) rising ∙ ap (map f) (places_at M mode ts H p.body (enter d))))
      in
      ap (λ l. l ++ (p.end, end_of M (passed M mode H (projected ts p.body) (enter d))) ∷ []) found
      ∙ (ap (λ x. map f (places_of p.body) ++ (p.end, x) ∷ []) (sym (at_end M mode H (projected_program ts p) d plain_body well.rising))
      ∙ sym (map-append f (places_of p.body) (p.end ∷ [])))

  -- ---- stops

  abbrev stop_said : Visit → List ((Place × Kind) × Bool)
  stop_said f =
      ((f.place, Overflow), may_at M mode Overflow f.statement f.leaf)
      ∷ (((f.place, ZeroDivisor), may_at M mode ZeroDivisor f.statement f.leaf) ∷ (((f.place, Assertion), may_at M mode Assertion f.statement f.leaf) ∷ []))

  abbrev stop_there_is : Place → Option Entry → List ((Place × Kind) × Bool)
  stop_there_is q e = ((q, Overflow), may_stop M mode e Overflow) ∷ (((q, ZeroDivisor), may_stop M mode e ZeroDivisor) ∷ (((q, Assertion), may_stop M mode e Assertion) ∷ []))

  stops_from : (fs : List Visit) → stops_in M mode fs ≡ from stop_said fs
  stops_from [] = refl
  stops_from (f ∷ fs) = ap (λ l. stop_said f ++ l) (stops_from fs)

  abbrev three : Place → Bool → Bool → Bool → List ((Place × Kind) × Bool)
  three q a b c = ((q, Overflow), a) ∷ (((q, ZeroDivisor), b) ∷ (((q, Assertion), c) ∷ []))

  three_same : (q : Place) (a b c x y z : Bool) → a ≡ x → b ≡ y → c ≡ z → three q a b c ≡ three q x y z
  three_same q a b c x y z e f g = ap (λ u. three q u b c) e ∙ (ap (λ u. three q x u c) f ∙ ap (three q x y) g)

  stop_found : (e : Entry) (f : Visit) → IsSame M mode (length p.names) e f → stop_said f ≡ stop_there_is f.place (Some e)
  stop_found e f s = three_same f.place _ _ _ _ _ _ (sym (s.stops Overflow)) (sym (s.stops ZeroDivisor)) (sym (s.stops Assertion))

  never_stops : (f : Visit) (kind : Kind) → f.leaf ≡ nothing_of (length p.names) → may_at M mode kind f.statement f.leaf ≡ false
  never_stops f kind e = N kind f.statement f.leaf (ap is_nothing_of e)

  stop_lost : (f : Visit) → f.leaf ≡ nothing_of (length p.names) → stop_said f ≡ stop_there_is f.place None
  stop_lost f e = three_same f.place _ _ _ _ _ _ (never_stops f Overflow e) (never_stops f ZeroDivisor e) (never_stops f Assertion e)

  abbrev stop_at_place : Place × Kind → (Place × Kind) × Bool
  stop_at_place q = (q, alarm_by M mode H (projected_program ts p) d q.0 q.1)

  stops_over : (ps : List Place) → over stop_there_is R ps ≡ map (λ (q : Place × Kind). stop_at_place q) (by_kind ps)
  stops_over [] = refl
  stops_over (q ∷ ps) = ap (λ l. stop_there_is q (entry_in R q) ++ l) (stops_over ps)

  none_last : entry_in R p.end ≡ None
  none_last = none_at_end R p.end (subst IsRising (sym (same_places M mode H (projected_program ts p) d plain_body well.rising)) well.rising)

  pub stops_are : stops_in M mode E ++ (((p.end, Overflow), false) ∷ (((p.end, ZeroDivisor), false) ∷ (((p.end, Assertion), false) ∷ []))) ≡ map (λ (q : Place × Kind). stop_at_place q) (by_kind (program_places p))
  stops_are =
      let f : Place × Kind → (Place × Kind) × Bool = λ q. stop_at_place q in
      let found : stops_in M mode E ≡ map f (by_kind (places_of p.body)) =
      stops_from E ∙ (matched M mode (length p.names) stop_said stop_there_is stop_found stop_lost (p.end ∷ []) all_drawn rising
      ∙ (stops_over (map place_of E) ∙ ap (λ l. map f (by_kind l)) (places_at M mode ts H p.body (enter d))))
      in
      ap (λ l. l ++ stop_there_is p.end None) found
      ∙ (ap (λ (e : Option Entry). map f (by_kind (places_of p.body)) ++ stop_there_is p.end e) (sym none_last)
      ∙ (sym (map-append f (by_kind (places_of p.body)) (by_kind (p.end ∷ []))) ∙ ap (map f) (sym (by_kind-append (places_of p.body) (p.end ∷ [])))))

  -- ---- loops

  asked_at : (us : List Turn) → asked M mode (length p.names) T us ≡ map {B = Place × Bool} (λ (q : Place). (q, inductive_in M T q)) (map (λ (t : Turn). t.place) us)
  asked_at [] = refl
  asked_at (u ∷ us) = ap (λ l. (u.place, inductive_in M T u.place) ∷ l) (asked_at us)

  pub loops_are : map {B = Place × Bool} (λ (t : Turn). (t.place, is_inductive M t)) (turns_in E) ≡ map {B = Place × Bool} (λ (q : Place). (q, inductive_in M T q)) (loop_places p.body)
  unfolding loops_in
  loops_are =
      loops_matched M mode (length p.names) laws (p.end ∷ []) all_drawn rising
      ∙ (asked_at (turns_in E) ∙ ap (map {B = Place × Bool} (λ (q : Place). (q, inductive_in M T q))) (loops_at M mode ts H p.body (enter d)))

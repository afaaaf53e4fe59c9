-- The loops and the places of a variant are among the family's.
use Rattle.std.proofs.Common.{◌≡◌, Bool, true, false, List, ◌∷◌, ◌++◌, map, cond, refl, ap, sym, subst, ◌∙◌, append_assoc}
use Rattle.std.specs.Prelude.{slice_index_or}
use Rattle.std.proofs.lemmas.List.{map-append}
use Rattle.fam_outer.specs.declared.faults.Place.{Place}
use Rattle.c_tree.specs.declared.tree.Mode.{Mode}
use Rattle.c_tree.specs.Fit.{IsPlain}
use Rattle.c_tree.specs.Places.{places_of}
use Rattle.c_tree.specs.Project.{projected}
use Rattle.c_tree.specs.Tree.{Code, Done, Assign, Input, Assert, If, While, Do, Leave, Block, Skip, Cond, followed}
use Rattle.c_tree.proofs.Listed.{places_of-followed}
use Rattle.leaf_domain.specs.Leaves.{LeafMeaning}
use Rattle.leaf_domain.specs.Transfer.{assumed, assigned, forgotten}
use Rattle.plain_analysis.specs.Statements.{Heads, TestFirst, TestLast, passed, chosen, through_body, head_by, behind_by}
use Rattle.plain_analysis.specs.Ways.{Ways, onto, enter, leave_by, going_on}
use Rattle.lifted_analysis.specs.Turns.{Turn, turns_by, loop_places}
use Rattle.certificate_format.proofs.LoopLines.{loops_followed}
use Rattle.invariant_certificate.proofs.Sublists.{Within, none, takes, skips, both, at_left, at_right}

-- one of two sides
side : (f : Code → List Place) (b : Bool) (p q : Code) (ps qs : List Place) → Within (f p) ps → Within (f q) qs → Within (f (cond b p q)) (ps ++ qs)
side f true p q ps qs h k = at_left (f p) ps qs h
side f false p q ps qs h k = at_right (f q) ps qs k

pub loops_projected : (ts : List Bool) (c : Code) → Within (loop_places (projected ts c)) (loop_places c)
loops_projected ts Done = none
loops_projected ts (Assign place target value rest) = loops_projected ts rest
loops_projected ts (Input place target rest) = loops_projected ts rest
loops_projected ts (Assert place test rest) = loops_projected ts rest
loops_projected ts (If place test p q rest) =
    both (loop_places (projected ts p)) (loop_places p) (loop_places (projected ts q) ++ loop_places (projected ts rest)) (loop_places q ++ loop_places rest) (loops_projected ts p)
    (both (loop_places (projected ts q)) (loop_places q) (loop_places (projected ts rest)) (loop_places rest) (loops_projected ts q) (loops_projected ts rest))
loops_projected ts (While place test step body rest) =
    takes place (loop_places (projected ts step) ++ (loop_places (projected ts body) ++ loop_places (projected ts rest))) (loop_places step ++ (loop_places body ++ loop_places rest))
    (both (loop_places (projected ts step)) (loop_places step) (loop_places (projected ts body) ++ loop_places (projected ts rest)) (loop_places body ++ loop_places rest) (loops_projected ts step)
    (both (loop_places (projected ts body)) (loop_places body) (loop_places (projected ts rest)) (loop_places rest) (loops_projected ts body) (loops_projected ts rest)))
loops_projected ts (Do place body at test rest) =
    takes place (loop_places (projected ts body) ++ loop_places (projected ts rest)) (loop_places body ++ loop_places rest)
    (both (loop_places (projected ts body)) (loop_places body) (loop_places (projected ts rest)) (loop_places rest) (loops_projected ts body) (loops_projected ts rest))
loops_projected ts (Leave place jump rest) = loops_projected ts rest
loops_projected ts (Block place body rest) =
    both (loop_places (projected ts body)) (loop_places body) (loop_places (projected ts rest)) (loop_places rest) (loops_projected ts body) (loops_projected ts rest)
loops_projected ts (Skip place rest) = loops_projected ts rest
loops_projected ts (Cond number p q rest) =
    let chosen : Code = cond (slice_index_or ts number false) (projected ts p) (projected ts q) in
    subst (Within (loop_places (followed chosen (projected ts rest)))) (append_assoc (loop_places p) (loop_places q) (loop_places rest))
    (subst (λ l. Within l ((loop_places p ++ loop_places q) ++ loop_places rest)) (sym (loops_followed chosen (projected ts rest)))
    (both (loop_places chosen) (loop_places p ++ loop_places q) (loop_places (projected ts rest)) (loop_places rest)
    (side loop_places (slice_index_or ts number false) (projected ts p) (projected ts q) (loop_places p) (loop_places q) (loops_projected ts p) (loops_projected ts q))
    (loops_projected ts rest)))

pub places_projected : (ts : List Bool) (c : Code) → Within (places_of (projected ts c)) (places_of c)
places_projected ts Done = none
places_projected ts (Assign place target value rest) = takes place (places_of (projected ts rest)) (places_of rest) (places_projected ts rest)
places_projected ts (Input place target rest) = takes place (places_of (projected ts rest)) (places_of rest) (places_projected ts rest)
places_projected ts (Assert place test rest) = takes place (places_of (projected ts rest)) (places_of rest) (places_projected ts rest)
places_projected ts (If place test p q rest) =
    takes place (places_of (projected ts p) ++ (places_of (projected ts q) ++ places_of (projected ts rest))) (places_of p ++ (places_of q ++ places_of rest))
    (both (places_of (projected ts p)) (places_of p) (places_of (projected ts q) ++ places_of (projected ts rest)) (places_of q ++ places_of rest) (places_projected ts p)
    (both (places_of (projected ts q)) (places_of q) (places_of (projected ts rest)) (places_of rest) (places_projected ts q) (places_projected ts rest)))
places_projected ts (While place test step body rest) =
    takes place (places_of (projected ts step) ++ (places_of (projected ts body) ++ places_of (projected ts rest))) (places_of step ++ (places_of body ++ places_of rest))
    (both (places_of (projected ts step)) (places_of step) (places_of (projected ts body) ++ places_of (projected ts rest)) (places_of body ++ places_of rest) (places_projected ts step)
    (both (places_of (projected ts body)) (places_of body) (places_of (projected ts rest)) (places_of rest) (places_projected ts body) (places_projected ts rest)))
places_projected ts (Do place body at test rest) =
    takes place (places_of (projected ts body) ++ at ∷ places_of (projected ts rest)) (places_of body ++ at ∷ places_of rest)
    (both (places_of (projected ts body)) (places_of body) (at ∷ places_of (projected ts rest)) (at ∷ places_of rest) (places_projected ts body)
    (takes at (places_of (projected ts rest)) (places_of rest) (places_projected ts rest)))
places_projected ts (Leave place jump rest) = takes place (places_of (projected ts rest)) (places_of rest) (places_projected ts rest)
places_projected ts (Block place body rest) =
    takes place (places_of (projected ts body) ++ places_of (projected ts rest)) (places_of body ++ places_of rest)
    (both (places_of (projected ts body)) (places_of body) (places_of (projected ts rest)) (places_of rest) (places_projected ts body) (places_projected ts rest))
places_projected ts (Skip place rest) = takes place (places_of (projected ts rest)) (places_of rest) (places_projected ts rest)
places_projected ts (Cond number p q rest) =
    let chosen : Code = cond (slice_index_or ts number false) (projected ts p) (projected ts q) in
    subst (Within (places_of (followed chosen (projected ts rest)))) (append_assoc (places_of p) (places_of q) (places_of rest))
    (subst (λ l. Within l ((places_of p ++ places_of q) ++ places_of rest)) (sym (places_of-followed chosen (projected ts rest)))
    (both (places_of chosen) (places_of p ++ places_of q) (places_of (projected ts rest)) (places_of rest)
    (side places_of (slice_index_or ts number false) (projected ts p) (projected ts q) (places_of p) (places_of q) (places_projected ts p) (places_projected ts q))
    (places_projected ts rest)))

-- each loop has a place
pub loops_placed : (c : Code) → Within (loop_places c) (places_of c)
loops_placed Done = none
loops_placed (Assign place target value rest) = skips place (loop_places rest) (places_of rest) (loops_placed rest)
loops_placed (Input place target rest) = skips place (loop_places rest) (places_of rest) (loops_placed rest)
loops_placed (Assert place test rest) = skips place (loop_places rest) (places_of rest) (loops_placed rest)
loops_placed (If place test p q rest) =
    skips place (loop_places p ++ (loop_places q ++ loop_places rest)) (places_of p ++ (places_of q ++ places_of rest))
    (both (loop_places p) (places_of p) (loop_places q ++ loop_places rest) (places_of q ++ places_of rest) (loops_placed p)
    (both (loop_places q) (places_of q) (loop_places rest) (places_of rest) (loops_placed q) (loops_placed rest)))
loops_placed (While place test step body rest) =
    takes place (loop_places step ++ (loop_places body ++ loop_places rest)) (places_of step ++ (places_of body ++ places_of rest))
    (both (loop_places step) (places_of step) (loop_places body ++ loop_places rest) (places_of body ++ places_of rest) (loops_placed step)
    (both (loop_places body) (places_of body) (loop_places rest) (places_of rest) (loops_placed body) (loops_placed rest)))
loops_placed (Do place body at test rest) =
    takes place (loop_places body ++ loop_places rest) (places_of body ++ at ∷ places_of rest)
    (both (loop_places body) (places_of body) (loop_places rest) (at ∷ places_of rest) (loops_placed body)
    (skips at (loop_places rest) (places_of rest) (loops_placed rest)))
loops_placed (Leave place jump rest) = skips place (loop_places rest) (places_of rest) (loops_placed rest)
loops_placed (Block place body rest) =
    skips place (loop_places body ++ loop_places rest) (places_of body ++ places_of rest)
    (both (loop_places body) (places_of body) (loop_places rest) (places_of rest) (loops_placed body) (loops_placed rest))
loops_placed (Skip place rest) = skips place (loop_places rest) (places_of rest) (loops_placed rest)
loops_placed (Cond number p q rest) =
    both (loop_places p) (places_of p) (loop_places q ++ loop_places rest) (places_of q ++ places_of rest) (loops_placed p)
    (both (loop_places q) (places_of q) (loop_places rest) (places_of rest) (loops_placed q) (loops_placed rest))

-- ---- the loops of a pass

abbrev pub turn_place : Turn → Place
turn_place t = t.place

module _ (M : LeafMeaning) (mode : Mode) (H : Heads) where
  pub turns_placed : (c : Code) (w : Ways) → IsPlain c → map turn_place (turns_by M mode H c w) ≡ loop_places c
  turns_placed Done w h = refl
  turns_placed (Assign place x e rest) w h = turns_placed rest (onto w (assigned M mode x e w.behind)) h
  turns_placed (Input place x rest) w h = turns_placed rest (onto w (forgotten M x w.behind)) h
  turns_placed (Assert place e rest) w h = turns_placed rest (onto w (assumed M mode e true w.behind)) h
  turns_placed (If place e p q rest) w h =
      let x = onto w (assumed M mode e true w.behind) in
      let y = onto (passed M mode H p x) (assumed M mode e false w.behind) in
      let z = chosen M mode H e p q w in
      map-append turn_place (turns_by M mode H p x) (turns_by M mode H q y ++ turns_by M mode H rest z)
      ∙ ap (λ l. l ++ map turn_place (turns_by M mode H q y ++ turns_by M mode H rest z)) (turns_placed p x h.0)
      ∙ ap (λ l. loop_places p ++ l) (map-append turn_place (turns_by M mode H q y) (turns_by M mode H rest z)
      ∙ ap (λ l. l ++ map turn_place (turns_by M mode H rest z)) (turns_placed q y h.1)
      ∙ ap (λ l. loop_places q ++ l) (turns_placed rest z h.2))
  turns_placed (While place e step body rest) w h =
      let l = TestFirst e step body in
      let head = head_by M mode H place l w.behind in
      let x = enter (assumed M mode e true head) in
      let y = behind_by M mode H l w head in
      let z = enter (going_on M (through_body M mode H l head)) in
      ap (λ l. place ∷ l) (map-append turn_place (turns_by M mode H step z) (turns_by M mode H body x ++ turns_by M mode H rest y)
      ∙ ap (λ l. l ++ map turn_place (turns_by M mode H body x ++ turns_by M mode H rest y)) (turns_placed step z h.0)
      ∙ ap (λ l. loop_places step ++ l) (map-append turn_place (turns_by M mode H body x) (turns_by M mode H rest y)
      ∙ ap (λ l. l ++ map turn_place (turns_by M mode H rest y)) (turns_placed body x h.1)
      ∙ ap (λ l. loop_places body ++ l) (turns_placed rest y h.2)))
  turns_placed (Do place body at e rest) w h =
      let l = TestLast body at e in
      let x = enter (head_by M mode H place l w.behind) in
      let y = behind_by M mode H l w (head_by M mode H place l w.behind) in
      ap (λ l. place ∷ l) (map-append turn_place (turns_by M mode H body x) (turns_by M mode H rest y)
      ∙ ap (λ l. l ++ map turn_place (turns_by M mode H rest y)) (turns_placed body x h.0)
      ∙ ap (λ l. loop_places body ++ l) (turns_placed rest y h.1))
  turns_placed (Leave place jump rest) w h = turns_placed rest (leave_by M mode jump w) h
  turns_placed (Block place body rest) w h =
      let y = passed M mode H body w in
      map-append turn_place (turns_by M mode H body w) (turns_by M mode H rest y)
      ∙ ap (λ l. l ++ map turn_place (turns_by M mode H rest y)) (turns_placed body w h.0)
      ∙ ap (λ l. loop_places body ++ l) (turns_placed rest y h.1)
  turns_placed (Skip place rest) w h = turns_placed rest w h
  turns_placed (Cond number p q rest) w h = absurd h

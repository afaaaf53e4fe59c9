-- Statements of a family entered one after another.
use Rattle.std.proofs.Common.{◌≡◌, ℕ, zero, suc, ◌+◌, ◌<◌, ◌≤◌, arith, List, [], ◌∷◌, ◌++◌, map, take, length, get_or, Bool, true, false, not, Some, None, drop, if◌then◌else◌, refl, ap, sym, subst, ◌∙◌, append_assoc, append-nil}
use Rattle.std.specs.Prelude.{Result, Ok, Err, IfOk, OnOk, slice_index_or}
use Rattle.std.specs.List.{All, insert}
use Rattle.std.proofs.lemmas.List.{length-map, length-append, map-append, take_at, drop_at}
use Rattle.std.proofs.lemmas.List.Elements.{All-append, All-cons, All-nil, All-take, All-drop}
use Rattle.std.specs.declared.vec.Vec.{Vec}
use Rattle.std.specs.declared.alloc.Global.{Global}
use Rattle.fam_outer.specs.declared.faults.Place.{Place}
use Rattle.c_tree.specs.declared.tree.Expr.{Expr}
use Rattle.c_tree.specs.declared.tree.Jump as jumps
use Rattle.c_tree.specs.declared.tree.Kind.TheVariants.{Overflow, ZeroDivisor, Assertion}
use Rattle.c_tree.specs.declared.tree.Stmt.{Stmt}
use Rattle.c_tree.specs.declared.tree.Stmt.TheVariants as variant
use Rattle.c_tree.specs.Tree.{Code, Done, Assign, Input, Assert, If, While, Do, Leave, Block, Skip, Cond, followed}
use Rattle.c_tree.specs.View.{term, jump_of, front, code}
use Rattle.c_tree.specs.Project.{projected}
use Rattle.c_tree.proofs.Views.{code-take_more}
use Rattle.decision_tree.specs.declared.tree.Tree.{Tree}
use Rattle.decision_tree.specs.Plain.{Plain, leaf_of}
use Rattle.decision_tree.specs.Listed.{IsTreeIn}
use Rattle.decision_tree.specs.Numbered.{Numbered, erase}
use Rattle.decision_tree.specs.View.{numbered, plain}
use Rattle.decision_tree.proofs.Numbers.{numbered_tree}
use Rattle.leaf_domain.specs.Leaves.{LeafValue, LeafMeaning}
use Rattle.leaf_domain.specs.Stops.{may_at}
use Rattle.leaf_domain.specs.Transfer.{assumed, assigned, forgotten}
use Rattle.c_tree.specs.declared.tree.Mode.{Mode}
use Rattle.plain_analysis.specs.Statements.{Heads, TestFirst, TestLast, passed, chosen, head_by, behind_by}
use Rattle.plain_analysis.specs.Ways.{Ways, onto, enter, leave_by, going_on}
use Rattle.plain_analysis.proofs.Listed.{passed-followed, front-If, front-While, front-Do, front-Leave, front-Block}
use Rattle.tree_unify.specs.Leafwise.{TestsAreOf}
use Rattle.lifted_analysis.specs.declared.noted.Noted.{Noted}
use Rattle.lifted_analysis.specs.declared.noted.TurnTree.{TurnTree}
use Rattle.lifted_analysis.specs.declared.family_context.FamilyContext.{FamilyContext}
use Rattle.lifted_analysis.specs.declared.findings.PlaceTree.{PlaceTree}
use Rattle.lifted_analysis.specs.declared.findings.AlarmTree.{AlarmTree}
use Rattle.lifted_analysis.specs.Entries.{Visit, plain_visit, loop_visit, body_at, first_group, visits_at, visits_both, visits_in, leaves_in, stops_in, turn_of, turns_in, leaf_there, stop_there, turn_there, IsReducedTree, IsSizedTurn, AreReduced, AreReducedStops, AreSized, HasEntered}
use Rattle.lifted_analysis.specs.Rules.{heads_where}
use Rattle.lifted_analysis.specs.States.{IsState, IsSized}
use Rattle.lifted_analysis.specs.Steps.{kept_by, parts_at}
use Rattle.lifted_analysis.specs.Turns.{Turn}
use Rattle.lifted_analysis.proofs.FamilyLemmas.{front-Skip, front-Cond}

onward : {A : Type 0} (old mid new x y z : List A) → mid ≡ old ++ x → new ≡ mid ++ y → z ≡ x ++ y → new ≡ old ++ z
onward old mid new x y z e f g = f ∙ (ap (λ l. l ++ y) e ∙ (append_assoc old x y ∙ ap (λ l. old ++ l) (sym g)))

-- one more behind as many as there were
inserted : {X : Type 0} (xs ys : List X) (x : X) (n : ℕ) → n ≡ length xs → insert (xs ++ ys) n x ≡ xs ++ x ∷ ys
inserted xs ys x n e = ap (λ l. l ++ x ∷ drop n (xs ++ ys)) (take_at xs ys n (sym e)) ∙ ap (λ l. xs ++ x ∷ l) (drop_at xs ys n (sym e))

pub three : {X : Type 0} (a b c d : List X) (x y z : X) → b ≡ a ++ x ∷ [] → c ≡ b ++ y ∷ [] → d ≡ c ++ z ∷ [] → d ≡ a ++ (x ∷ (y ∷ (z ∷ [])))
three a b c d x y z e f g =
    g ∙ (ap (λ l. l ++ z ∷ []) f ∙ (append_assoc b (y ∷ []) (z ∷ []) ∙ (ap (λ l. l ++ y ∷ (z ∷ [])) e ∙ append_assoc a (x ∷ []) (y ∷ (z ∷ [])))))

-- what was made apart, behind what there was
behind : {X Y : Type 0} (f : X → Y) (a n b z : List X) (ys : List Y) → n ≡ [] → map f b ≡ map f n ++ ys → z ≡ a ++ b → map f z ≡ map f a ++ ys
behind f a n b z ys none h e = ap (map f) e ∙ (map-append f a b ∙ ap (λ l. map f a ++ l) (h ∙ ap (λ l. map f l ++ ys) none))

both_all : {X : Type 0} (P : X → Type 0) (a n b z : List X) → n ≡ [] → (All P n → All P b) → z ≡ a ++ b → All P a → All P z
both_all P a n b z none h e r = subst (All P) (sym e) (All-append P a b r (h (subst (All P) (sym none) (All-nil P))))

pub leaves_in-append : (xs ys : List Visit) → leaves_in (xs ++ ys) ≡ leaves_in xs ++ leaves_in ys
leaves_in-append [] ys = refl
leaves_in-append (x ∷ xs) ys = ap (λ l. (x.place, x.leaf) ∷ l) (leaves_in-append xs ys)

pub stops_in-append : (M : LeafMeaning) (mode : Mode) (xs ys : List Visit) → stops_in M mode (xs ++ ys) ≡ stops_in M mode xs ++ stops_in M mode ys
stops_in-append M mode [] ys = refl
stops_in-append M mode (x ∷ xs) ys =
    ap (λ l. ((x.place, Overflow), may_at M mode Overflow x.statement x.leaf) ∷ (((x.place, ZeroDivisor), may_at M mode ZeroDivisor x.statement x.leaf) ∷ (((x.place, Assertion), may_at M mode Assertion x.statement x.leaf) ∷ l))) (stops_in-append M mode xs ys)

pub turns_in-append : (xs ys : List Visit) → turns_in (xs ++ ys) ≡ turns_in xs ++ turns_in ys
turns_in-append [] ys = refl
turns_in-append (x ∷ xs) ys =
    ap (λ l. turn_of x.place x.leaf x.turn ++ l) (turns_in-append xs ys) ∙ sym (append_assoc (turn_of x.place x.leaf x.turn) (turns_in xs) (turns_in ys))

pub state_reduced : {L : Type 0} (value : L → LeafValue) (family : FamilyContext) (forest : List (Plain L)) (t : Numbered L) → IsState value family forest t → IsReducedTree family t
state_reduced value family forest t s = record { tree = numbered_tree 0 320 forest t s.tree; tests = s.tests }

-- a tree of truths that is made of a state leaf by leaf
pub stops_reduced : {L E : Type 0} (made : Result (Tree Bool) E) (value : L → LeafValue) (family : FamilyContext) (forest : List (Plain L)) (truths : List (Plain Bool)) (t : Numbered L)
    → IsState value family forest t → IfOk made (λ r. TestsAreOf (erase t) (plain r)) → IfOk made (λ r. IsTreeIn 0 320 truths (numbered r)) → IfOk made (λ r. IsReducedTree family (numbered r))
stops_reduced (Ok r) value family forest truths t s q own = record { tree = numbered_tree 0 320 truths (numbered r) own; tests = λ k h. s.tests k (q.each k h) }
stops_reduced (Err e) value family forest truths t s q own = tt

module _ {L : Type 0} (value : L → LeafValue) (M : LeafMeaning) (family : FamilyContext) where
  pub none_entered : (a : Noted L) → HasEntered value M family a a (λ v. [])
  none_entered a = record {
    leaves = λ v. sym (append-nil (map (leaf_there value v) a.places.items));
    stops = λ v. sym (append-nil (map (stop_there v) a.alarms.items));
    turns = λ v. sym (append-nil (map (turn_there value v) a.turns.items));
    trees = λ h. h;
    alarm_trees = λ h. h;
    sized = λ h. h;
  }

  pub entered_then : (a b c : Noted L) (xs ys zs : List Bool → List Visit) → ((v : List Bool) → xs v ++ ys v ≡ zs v) → HasEntered value M family a b xs → HasEntered value M family b c ys → HasEntered value M family a c zs
  entered_then a b c xs ys zs e h k = record {
    leaves = λ v. onward (map (leaf_there value v) a.places.items) (map (leaf_there value v) b.places.items) (map (leaf_there value v) c.places.items) (leaves_in (xs v)) (leaves_in (ys v)) (leaves_in (zs v)) (h.leaves v) (k.leaves v) (ap leaves_in (sym (e v)) ∙ leaves_in-append (xs v) (ys v));
    stops = λ v. onward (map (stop_there v) a.alarms.items) (map (stop_there v) b.alarms.items) (map (stop_there v) c.alarms.items) (stops_in M family.options.now.mode (xs v)) (stops_in M family.options.now.mode (ys v)) (stops_in M family.options.now.mode (zs v)) (h.stops v) (k.stops v) (ap (stops_in M family.options.now.mode) (sym (e v)) ∙ stops_in-append M family.options.now.mode (xs v) (ys v));
    turns = λ v. onward (map (turn_there value v) a.turns.items) (map (turn_there value v) b.turns.items) (map (turn_there value v) c.turns.items) (turns_in (xs v)) (turns_in (ys v)) (turns_in (zs v)) (h.turns v) (k.turns v) (ap turns_in (sym (e v)) ∙ turns_in-append (xs v) (ys v));
    trees = λ r. k.trees (h.trees r);
    alarm_trees = λ r. k.alarm_trees (h.alarm_trees r);
    sized = λ r. k.sized (h.sized r);
  }

  pub entered_as : (a b : Noted L) (xs ys : List Bool → List Visit) → ((v : List Bool) → xs v ≡ ys v) → HasEntered value M family a b xs → HasEntered value M family a b ys
  entered_as a b xs ys e h = record {
    leaves = λ v. h.leaves v ∙ ap (λ l. map (leaf_there value v) a.places.items ++ leaves_in l) (e v);
    stops = λ v. h.stops v ∙ ap (λ l. map (stop_there v) a.alarms.items ++ stops_in M family.options.now.mode l) (e v);
    turns = λ v. h.turns v ∙ ap (λ l. map (turn_there value v) a.turns.items ++ turns_in l) (e v);
    trees = h.trees;
    alarm_trees = h.alarm_trees;
    sized = h.sized;
  }

  -- a statement whose tree and three alarm trees were added
  pub entered_at_last : {E : Type 0} (made : Result (Unit {0}) E) (a b c d z : Noted L) (place : Place) (s : Code) (x : List Bool → LeafValue)
      → ((v : List Bool) → map (leaf_there value v) b.places.items ≡ map (leaf_there value v) a.places.items ++ (place, x v) ∷ [])
      → (AreReduced family a.places.items → AreReduced family b.places.items) → b.alarms.items ≡ a.alarms.items → b.turns.items ≡ a.turns.items → c.turns.items ≡ b.turns.items → d.turns.items ≡ c.turns.items → z.turns.items ≡ d.turns.items
      → ((v : List Bool) → map (stop_there v) c.alarms.items ≡ map (stop_there v) b.alarms.items ++ ((place, Overflow), may_at M family.options.now.mode Overflow s (x v)) ∷ [])
      → (AreReducedStops family b.alarms.items → AreReducedStops family c.alarms.items) → c.places.items ≡ b.places.items
      → ((v : List Bool) → map (stop_there v) d.alarms.items ≡ map (stop_there v) c.alarms.items ++ ((place, ZeroDivisor), may_at M family.options.now.mode ZeroDivisor s (x v)) ∷ [])
      → (AreReducedStops family c.alarms.items → AreReducedStops family d.alarms.items) → d.places.items ≡ c.places.items
      → OnOk made ((v : List Bool) → map (stop_there v) z.alarms.items ≡ map (stop_there v) d.alarms.items ++ ((place, Assertion), may_at M family.options.now.mode Assertion s (x v)) ∷ [])
      → OnOk made (AreReducedStops family d.alarms.items → AreReducedStops family z.alarms.items) → z.places.items ≡ d.places.items
      → OnOk made (HasEntered value M family a z (λ v. record { place = place; statement = s; leaf = x v; turn = None } ∷ []))
  entered_at_last (Err e) a b c d z place s x leaves trees same t1 t2 t3 t4 f g h i j k l m n = tt
  entered_at_last (Ok u) a b c d z place s x leaves trees same t1 t2 t3 t4 f g h i j k l m n =
      let places : z.places.items ≡ b.places.items = n ∙ (k ∙ h) in
      let turns : z.turns.items ≡ a.turns.items = t4 ∙ (t3 ∙ (t2 ∙ t1)) in
      record {
        leaves = λ v. ap (map (leaf_there value v)) places ∙ leaves v;
        stops = λ v. three (map (stop_there v) a.alarms.items) (map (stop_there v) c.alarms.items) (map (stop_there v) d.alarms.items) (map (stop_there v) z.alarms.items) _ _ _
            (f v ∙ ap (λ q. map (stop_there v) q ++ ((place, Overflow), may_at M family.options.now.mode Overflow s (x v)) ∷ []) same) (i v) (l v);
        turns = λ v. ap (map (turn_there value v)) turns ∙ sym (append-nil (map (turn_there value v) a.turns.items));
        trees = λ r. subst (AreReduced family) (sym places) (trees r);
        alarm_trees = λ r. m (j (g (subst (AreReducedStops family) (sym same) r)));
        sized = λ r. subst (AreSized value family) (sym turns) r;
      }

  -- behind a call that notes nothing
  pub if_entered : {X E : Type 0} (made : Result X E) (a b : Noted L) (xs ys : List Bool → List Visit) → ((v : List Bool) → xs v ≡ ys v) → HasEntered value M family a b xs → OnOk made (HasEntered value M family a b ys)
  if_entered (Ok x) a b xs ys e h = entered_as a b xs ys e h
  if_entered (Err x) a b xs ys e h = tt

  -- what was noted apart, from nothing on, behind what was noted so far
  pub entered_behind : (a n b z : Noted L) (ys : List Bool → List Visit) → n.places.items ≡ [] → n.alarms.items ≡ [] → n.turns.items ≡ [] → HasEntered value M family n b ys
      → z.places.items ≡ a.places.items ++ b.places.items → z.alarms.items ≡ a.alarms.items ++ b.alarms.items → z.turns.items ≡ a.turns.items ++ b.turns.items → HasEntered value M family a z ys
  entered_behind a n b z ys no_places no_alarms no_turns h places alarms turns = record {
    leaves = λ v. behind (leaf_there value v) a.places.items n.places.items b.places.items z.places.items (leaves_in (ys v)) no_places (h.leaves v) places;
    stops = λ v. behind (stop_there v) a.alarms.items n.alarms.items b.alarms.items z.alarms.items (stops_in M family.options.now.mode (ys v)) no_alarms (h.stops v) alarms;
    turns = λ v. behind (turn_there value v) a.turns.items n.turns.items b.turns.items z.turns.items (turns_in (ys v)) no_turns (h.turns v) turns;
    trees = λ r. both_all (λ (p : PlaceTree L). IsReducedTree family (numbered p.tree)) a.places.items n.places.items b.places.items z.places.items no_places h.trees places r;
    alarm_trees = λ r. both_all (λ (x : AlarmTree). IsReducedTree family (numbered x.tree)) a.alarms.items n.alarms.items b.alarms.items z.alarms.items no_alarms h.alarm_trees alarms r;
    sized = λ r. both_all (λ (t : TurnTree L). IsSizedTurn value family t) a.turns.items n.turns.items b.turns.items z.turns.items no_turns h.sized turns r;
  }

  -- a loop, and the statements in its step and in its body, before which it was added
  pub loop_entered : (a b c z : Noted L) (at : ℕ) (place : Place) (s : Code) (x e g : List Bool → LeafValue) (ys : List Bool → List Visit) → at ≡ length a.turns.items
      → HasEntered value M family a b (λ v. record { place = place; statement = s; leaf = x v; turn = None } ∷ []) → HasEntered value M family b c ys
      → z.places.items ≡ c.places.items → z.alarms.items ≡ c.alarms.items
      → ((v : List Bool) → map (turn_there value v) z.turns.items ≡ insert (map (turn_there value v) c.turns.items) at (record { place = place; entered = e v; head = x v; again = g v }))
      → (AreSized value family c.turns.items → AreSized value family z.turns.items)
      → HasEntered value M family a z (λ v. record { place = place; statement = s; leaf = x v; turn = Some (e v, g v) } ∷ ys v)
  loop_entered a b c z at place s x e g ys first h k places alarms turns sized =
      let both = entered_then a b c _ ys (λ v. record { place = place; statement = s; leaf = x v; turn = None } ∷ ys v) (λ v. refl) h k in
      record {
        leaves = λ v. ap (map (leaf_there value v)) places ∙ both.leaves v;
        stops = λ v. ap (map (stop_there v)) alarms ∙ both.stops v;
        turns = λ v.
            let old = map (turn_there value v) a.turns.items in
            let t : Turn = record { place = place; entered = e v; head = x v; again = g v } in
            turns v ∙ (ap (λ l. insert l at t) (both.turns v) ∙ inserted old (turns_in (ys v)) t at (first ∙ sym (length-map a.turns.items (turn_there value v))));
        trees = λ r. subst (AreReduced family) (sym places) (both.trees r);
        alarm_trees = λ r. subst (AreReducedStops family) (sym alarms) (both.alarm_trees r);
        sized = λ r. sized (both.sized r);
      }

  -- the loops so far come first
  pub turns_before : (a b : Noted L) (xs : List Bool → List Visit) → HasEntered value M family a b xs → length a.turns.items ≤ length b.turns.items
  turns_before a b xs h =
      let ts = map (turn_there value []) a.turns.items in
      let e : length (map (turn_there value []) b.turns.items) ≡ length ts + length (turns_in (xs [])) = ap length (h.turns []) ∙ length-append ts (turns_in (xs [])) in
      let f : length (map (turn_there value []) b.turns.items) ≡ length b.turns.items = length-map b.turns.items (turn_there value []) in
      let g : length ts ≡ length a.turns.items = length-map a.turns.items (turn_there value []) in
      omega arith

module _ (M : LeafMeaning) (mode : Mode) (ts : List Bool) where
  two_more : (xs ys zs us : List Visit) (e : Visit) → zs ≡ ys ++ us → e ∷ (xs ++ zs) ≡ (e ∷ (xs ++ ys)) ++ us
  two_more xs ys zs us e h = ap (λ l. e ∷ (xs ++ l)) h ∙ ap (λ l. e ∷ l) (sym (append_assoc xs ys us))

  three_more : (xs ys zs us ws : List Visit) (e : Visit) → us ≡ zs ++ ws → e ∷ (xs ++ (ys ++ us)) ≡ (e ∷ (xs ++ (ys ++ zs))) ++ ws
  three_more xs ys zs us ws e h =
      ap (λ l. e ∷ (xs ++ (ys ++ l))) h ∙ (ap (λ l. e ∷ (xs ++ l)) (sym (append_assoc ys zs ws)) ∙ ap (λ l. e ∷ l) (sym (append_assoc xs (ys ++ zs) ws)))

  sides_more : (xs ys zs us ws : List Visit) → us ≡ zs ++ ws → xs ++ (ys ++ us) ≡ (xs ++ (ys ++ zs)) ++ ws
  sides_more xs ys zs us ws h = ap (λ l. xs ++ (ys ++ l)) h ∙ (ap (λ l. xs ++ l) (sym (append_assoc ys zs ws)) ∙ sym (append_assoc xs (ys ++ zs) ws))

  pub visits_at-followed : (H : Heads) (a b : Code) (w : Ways) → visits_at M mode ts H (followed a b) w ≡ visits_at M mode ts H a w ++ visits_at M mode ts H b (passed M mode H (projected ts a) w)
  visits_at-followed H Done b w = refl
  visits_at-followed H (Assign place y e rest) b w =
      ap (λ l. plain_visit place (Assign place y e Done) w.behind ∷ l) (visits_at-followed H rest b (onto w (assigned M mode y e w.behind)))
  visits_at-followed H (Input place y rest) b w =
      ap (λ l. plain_visit place (Input place y Done) w.behind ∷ l) (visits_at-followed H rest b (onto w (forgotten M y w.behind)))
  visits_at-followed H (Assert place e rest) b w =
      ap (λ l. plain_visit place (Assert place e Done) w.behind ∷ l) (visits_at-followed H rest b (onto w (assumed M mode e true w.behind)))
  visits_at-followed H (If place e p q rest) b w =
      let u = onto w (assumed M mode e true w.behind) in
      three_more (visits_at M mode ts H p u) (visits_at M mode ts H q (onto (passed M mode H (projected ts p) u) (assumed M mode e false w.behind))) _ _ _ _
      (visits_at-followed H rest b (chosen M mode H e (projected ts p) (projected ts q) w))
  visits_at-followed H (While place e step body rest) b w =
      let l = TestFirst e step body in
      let y = head_by M mode H place (parts_at ts l) w.behind in
      three_more (visits_at M mode ts H step (enter (going_on M (body_at M mode ts H l y)))) (visits_at M mode ts H body (enter (assumed M mode e true y))) _ _ _ _
      (visits_at-followed H rest b (behind_by M mode H (parts_at ts l) w y))
  visits_at-followed H (Do place body at e rest) b w =
      let l = TestLast body at e in
      let y = head_by M mode H place (parts_at ts l) w.behind in
      let u = behind_by M mode H (parts_at ts l) w y in
      let test = plain_visit at (If at e Done Done Done) (going_on M (body_at M mode ts H l y)) in
      two_more (visits_at M mode ts H body (enter y)) (test ∷ visits_at M mode ts H rest u) (test ∷ visits_at M mode ts H (followed rest b) u) (visits_at M mode ts H b (passed M mode H (projected ts rest) u))
      (loop_visit M mode ts H place (Do place body at e Done) l w.behind) (ap (λ l. test ∷ l) (visits_at-followed H rest b u))
  visits_at-followed H (Leave place jump rest) b w =
      ap (λ l. plain_visit place (Leave place jump Done) w.behind ∷ l) (visits_at-followed H rest b (leave_by M mode jump w))
  visits_at-followed H (Block place body rest) b w = two_more (visits_at M mode ts H body w) _ _ _ _ (visits_at-followed H rest b (passed M mode H (projected ts body) w))
  visits_at-followed H (Skip place rest) b w = ap (λ l. plain_visit place (Skip place Done) w.behind ∷ l) (visits_at-followed H rest b w)
  visits_at-followed H (Cond number p q rest) b w =
      let c = slice_index_or ts number false in
      let side = if c then projected ts p else projected ts q in
      sides_more (visits_at M mode ts (heads_where c H) p (onto w (kept_by true c w.behind))) (visits_at M mode ts (heads_where (not c) H) q (onto (first_group M mode ts H c p w) (kept_by false c w.behind)))
      (visits_at M mode ts H rest (passed M mode H side w)) _ (visits_at M mode ts H b (passed M mode H (followed side (projected ts rest)) w))
      (visits_at-followed H rest b (passed M mode H side w)
      ∙ ap (λ y. visits_at M mode ts H rest (passed M mode H side w) ++ visits_at M mode ts H b y) (sym (passed-followed M mode H side (projected ts rest) w)))

  -- one more statement of a list
  pub visits_at-more : (H : Heads) (list : List Stmt) (i : ℕ) (s : Stmt) (w : Ways) → i < length list → s ≡ get_or list i s
      → visits_at M mode ts H (code (take i list)) w ++ visits_at M mode ts H (front s Done) (passed M mode H (projected ts (code (take i list))) w) ≡ visits_at M mode ts H (code (take (i + 1) list)) w
  visits_at-more H list i s w h e = sym (ap (λ c. visits_at M mode ts H c w) (code-take_more list i s h e) ∙ visits_at-followed H (code (take i list)) (front s Done) w)

  -- a statement by its tree
  pub visits_at-If : (H : Heads) (s : Stmt) (place : Place) (e : Expr) (p q : Vec Stmt Global) (w : Ways) → s ≡ variant.If place e p q
      → (plain_visit place (front s Done) w.behind ∷ []) ++ visits_both M mode ts H H (code p.items) (code q.items) (onto w (assumed M mode (term e) true w.behind)) (assumed M mode (term e) false w.behind)
      ≡ visits_at M mode ts H (front s Done) w
  visits_at-If H s place e p q w h =
      let f : front s Done ≡ If place (term e) (code p.items) (code q.items) Done = ap (λ s. front s Done) h ∙ front-If place e p q in
      let u = onto w (assumed M mode (term e) true w.behind) in
      rw f (ap (λ l. plain_visit place (If place (term e) (code p.items) (code q.items) Done) w.behind ∷ (visits_at M mode ts H (code p.items) u ++ l))
      (sym (append-nil (visits_at M mode ts H (code q.items) (onto (passed M mode H (projected ts (code p.items)) u) (assumed M mode (term e) false w.behind))))))

  pub visits_at-While : (H : Heads) (s : Stmt) (place : Place) (e : Expr) (step body : Vec Stmt Global) (w : Ways) → s ≡ variant.While place e step body
      → (let l = TestFirst (term e) (code step.items) (code body.items) in
      loop_visit M mode ts H place (front s Done) l w.behind ∷ visits_in M mode ts H l (head_by M mode H place (parts_at ts l) w.behind)) ≡ visits_at M mode ts H (front s Done) w
  visits_at-While H s place e step body w h =
      let f : front s Done ≡ While place (term e) (code step.items) (code body.items) Done = ap (λ s. front s Done) h ∙ front-While place e step body in
      let l = TestFirst (term e) (code step.items) (code body.items) in
      let y = head_by M mode H place (parts_at ts l) w.behind in
      rw f (ap (λ k. loop_visit M mode ts H place (While place (term e) (code step.items) (code body.items) Done) l w.behind ∷ (visits_at M mode ts H (code step.items) (enter (going_on M (body_at M mode ts H l y))) ++ k))
      (sym (append-nil (visits_at M mode ts H (code body.items) (enter (assumed M mode (term e) true y))))))

  pub visits_at-Do : (H : Heads) (s : Stmt) (place : Place) (body : Vec Stmt Global) (at : Place) (e : Expr) (w : Ways) → s ≡ variant.Do place body at e
      → (let l = TestLast (code body.items) at (term e) in
      loop_visit M mode ts H place (front s Done) l w.behind ∷ visits_in M mode ts H l (head_by M mode H place (parts_at ts l) w.behind)) ≡ visits_at M mode ts H (front s Done) w
  visits_at-Do H s place body at e w h =
      let f : front s Done ≡ Do place (code body.items) at (term e) Done = ap (λ s. front s Done) h ∙ front-Do place body at e in
      rw f refl

  pub visits_at-Leave : (H : Heads) (s : Stmt) (place : Place) (jump : jumps.Jump) (w : Ways) → s ≡ variant.Leave place jump → plain_visit place (front s Done) w.behind ∷ [] ≡ visits_at M mode ts H (front s Done) w
  visits_at-Leave H s place jump w h =
      let f : front s Done ≡ Leave place (jump_of jump) Done = ap (λ s. front s Done) h ∙ front-Leave place jump in
      rw f refl

  pub visits_at-Skip : (H : Heads) (s : Stmt) (place : Place) (w : Ways) → s ≡ variant.Skip place → plain_visit place (front s Done) w.behind ∷ [] ≡ visits_at M mode ts H (front s Done) w
  visits_at-Skip H s place w h =
      let f : front s Done ≡ Skip place Done = ap (λ s. front s Done) h ∙ front-Skip place in
      rw f refl

  pub visits_at-Block : (H : Heads) (s : Stmt) (place : Place) (body : Vec Stmt Global) (w : Ways) → s ≡ variant.Block place body
      → (plain_visit place (front s Done) w.behind ∷ []) ++ visits_at M mode ts H (code body.items) w ≡ visits_at M mode ts H (front s Done) w
  visits_at-Block H s place body w h =
      let f : front s Done ≡ Block place (code body.items) Done = ap (λ s. front s Done) h ∙ front-Block place body in
      rw f (ap (λ l. plain_visit place (Block place (code body.items) Done) w.behind ∷ l) (sym (append-nil (visits_at M mode ts H (code body.items) w))))

  pub visits_at-Cond : (H : Heads) (s : Stmt) (number : ℕ) (p q : Vec Stmt Global) (b : Bool) (w : Ways) → s ≡ variant.Cond number p q → slice_index_or ts number false ≡ b
      → visits_both M mode ts (heads_where b H) (heads_where (not b) H) (code p.items) (code q.items) (onto w (kept_by true b w.behind)) (kept_by false b w.behind) ≡ visits_at M mode ts H (front s Done) w
  visits_at-Cond H s number p q b w h e =
      let f : front s Done ≡ Cond number (code p.items) (code q.items) Done = ap (λ s. front s Done) h ∙ front-Cond number p q in
      let c = slice_index_or ts number false in
      ap (λ c. visits_both M mode ts (heads_where c H) (heads_where (not c) H) (code p.items) (code q.items) (onto w (kept_by true c w.behind)) (kept_by false c w.behind)) (sym e)
      ∙ rw f (ap (λ l. visits_at M mode ts (heads_where c H) (code p.items) (onto w (kept_by true c w.behind)) ++ l)
      (sym (append-nil (visits_at M mode ts (heads_where (not c) H) (code q.items) (onto (first_group M mode ts H c (code p.items) w) (kept_by false c w.behind))))))

pub reduced_push : {X : Type 0} (P : X → Type 0) (xs ys : List X) (x : X) → ys ≡ xs ++ x ∷ [] → P x → All P xs → All P ys
reduced_push P xs ys x e p h = subst (All P) (sym e) (All-append P xs (x ∷ []) h (All-cons P x [] p (All-nil P)))

-- ---- a loop that is added

map_insert : {X Y : Type 0} (f : X → Y) (xs : List X) (i : ℕ) (x : X) → map f (insert xs i x) ≡ insert (map f xs) i (f x)
map_insert f xs zero x = refl
map_insert f [] (suc i) x = refl
map_insert f (y ∷ xs) (suc i) x = ap (λ l. f y ∷ l) (map_insert f xs i x)

module _ {L : Type 0} (value : L → LeafValue) where
  pub turns_inserted : (before now : List (TurnTree L)) (i : ℕ) (place : Place) (entered head again : Tree L) (e h : Numbered L) (v : List Bool) → now ≡ insert before i (record { place = place; entered = entered; head = head; again = again })
      → numbered entered ≡ e → numbered head ≡ h
      → map (turn_there value v) now ≡ insert (map (turn_there value v) before) i (record { place = place; entered = value (leaf_of (erase e) v); head = value (leaf_of (erase h) v); again = value (leaf_of (plain again) v) })
  turns_inserted before now i place entered head again e h v is same also =
      let t : Numbered L → Numbered L → Turn = λ x y. record { place = place; entered = value (leaf_of (erase x) v); head = value (leaf_of (erase y) v); again = value (leaf_of (plain again) v) } in
      ap (map (turn_there value v)) is
      ∙ (map_insert (turn_there value v) before i (record { place = place; entered = entered; head = head; again = again })
      ∙ (ap (λ x. insert (map (turn_there value v) before) i (t x (numbered head))) same ∙ ap (λ y. insert (map (turn_there value v) before) i (t e y)) also))

  pub sized_as : (family : FamilyContext) (t u : Numbered L) → u ≡ t → IsSized value family t → IsSized value family u
  sized_as family t u e s = subst (IsSized value family) (sym e) s

pub all_inserted : {X : Type 0} (P : X → Type 0) (xs ys : List X) (i : ℕ) (x : X) → ys ≡ insert xs i x → P x → All P xs → All P ys
all_inserted P xs ys i x e p h = subst (All P) (sym e) (All-append P (take i xs) (x ∷ drop i xs) (All-take P i xs h) (All-cons P x (drop i xs) p (All-drop P i xs h)))

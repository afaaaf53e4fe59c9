-- Statements entered one after another.
use Rattle.std.proofs.Common.{◌≡◌, List, [], ◌∷◌, ◌++◌, map, true, refl, ap, sym, subst, ◌∙◌, append_assoc, append-nil}
use Rattle.std.specs.Prelude.{Result, Ok, Err, OnOk}
use Rattle.std.proofs.lemmas.List.{map-append}
use Rattle.fam_outer.specs.declared.faults.Place.{Place}
use Rattle.std.specs.declared.vec.Vec.{Vec}
use Rattle.std.specs.declared.alloc.Global.{Global}
use Rattle.c_tree.specs.declared.tree.Expr.{Expr}
use Rattle.c_tree.specs.declared.tree.Stmt.{Stmt}
use Rattle.c_tree.specs.declared.tree.Stmt.TheVariants as variant
use Rattle.c_tree.specs.Tree.{Done, While, Do, Block}
use Rattle.c_tree.specs.View.{term, front, code}
use Rattle.leaf_domain.specs.Leaves.{LeafValue, LeafMeaning}
use Rattle.leaf_domain.specs.Transfer.{assumed}
use Rattle.plain_analysis.specs.declared.entries.Noted.{Noted}
use Rattle.plain_analysis.specs.declared.options.Options.{Options}
use Rattle.plain_analysis.specs.Loops.{final_leaf}
use Rattle.plain_analysis.specs.Statements.{Entry, LoopParts, TestFirst, TestLast, through_body, final_heads, lap_of, entries_of, lap_entries}
use Rattle.plain_analysis.specs.Ways.{Ways, enter, going_on}
use Rattle.plain_analysis.specs.Entered.{place_and_leaf, leaves_in, alarms_in, HasEntered}
use Rattle.plain_analysis.proofs.Listed.{front-While, front-Do, front-Block}

pub leaves_in-append : (xs ys : List Entry) → leaves_in (xs ++ ys) ≡ leaves_in xs ++ leaves_in ys
leaves_in-append [] ys = refl
leaves_in-append (x ∷ xs) ys = ap (λ l. (x.place, x.leaf) ∷ l) (leaves_in-append xs ys)

pub alarms_in-append : (M : LeafMeaning) (o : Options) (xs ys : List Entry) → alarms_in M o.mode (xs ++ ys) ≡ alarms_in M o.mode xs ++ alarms_in M o.mode ys
alarms_in-append M o [] ys = refl
alarms_in-append M o (x ∷ xs) ys = simp (alarms_in-append M o xs ys, append_assoc)

onward : {A : Type 0} (old mid new x y z : List A) → mid ≡ old ++ x → new ≡ mid ++ y → z ≡ x ++ y → new ≡ old ++ z
onward old mid new x y z e f g = f ∙ (ap (λ l. l ++ y) e ∙ (append_assoc old x y ∙ ap (λ l. old ++ l) (sym g)))

-- what holds at Ok
pub on_ok : {A E : Type 0} (r : Result A E) (P : Type 0) → P → OnOk r P
on_ok (Ok x) P p = p
on_ok (Err e) P p = tt

pub on_ok_by : {A E : Type 0} (r : Result A E) (P Q : Type 0) → (P → Q) → OnOk r P → OnOk r Q
on_ok_by (Ok x) P Q f p = f p
on_ok_by (Err e) P Q f p = tt

module _ {L : Type 0} (value : L → LeafValue) (M : LeafMeaning) (o : Options) where
  pub entered_then : (a b c : Noted L) (xs ys : List Entry) → HasEntered value M o a b xs → HasEntered value M o b c ys → HasEntered value M o a c (xs ++ ys)
  entered_then a b c xs ys h k = record {
    leaves = onward (map (place_and_leaf value) a.places.items) (map (place_and_leaf value) b.places.items) (map (place_and_leaf value) c.places.items) (leaves_in xs) (leaves_in ys) (leaves_in (xs ++ ys)) h.leaves k.leaves (leaves_in-append xs ys);
    alarms = onward a.alarms.items b.alarms.items c.alarms.items (alarms_in M o.mode xs) (alarms_in M o.mode ys) (alarms_in M o.mode (xs ++ ys)) h.alarms k.alarms (alarms_in-append M o xs ys);
  }

  pub entered_as : (a b : Noted L) (xs ys : List Entry) → xs ≡ ys → HasEntered value M o a b xs → HasEntered value M o a b ys
  entered_as a b xs ys e = subst (HasEntered value M o a b) e

  -- what is noted apart, from nothing on, and then added
  pub entered_apart : (none apart b c : Noted L) (xs : List Entry) → none.places.items ≡ [] → none.alarms.items ≡ [] → HasEntered value M o none apart xs
      → c.places.items ≡ b.places.items ++ apart.places.items → c.alarms.items ≡ b.alarms.items ++ apart.alarms.items → HasEntered value M o b c xs
  entered_apart none apart b c xs e f h i j =
      let pairs = map (place_and_leaf value) in record {
        leaves = ap pairs i ∙ (map-append (place_and_leaf value) b.places.items apart.places.items ∙ ap (λ l. pairs b.places.items ++ l) (h.leaves ∙ ap (λ l. pairs l ++ leaves_in xs) e));
        alarms = j ∙ ap (λ l. b.alarms.items ++ l) (h.alarms ∙ ap (λ l. l ++ alarms_in M o.mode xs) f);
      }

last_nil : (e : Entry) (xs ys : List Entry) → e ∷ (xs ++ ys) ≡ e ∷ (xs ++ (ys ++ []))
last_nil e xs ys = ap (λ l. e ∷ (xs ++ l)) (sym (append-nil ys))

module _ (M : LeafMeaning) (o : Options) where
  -- the final leaf of a loop
  abbrev pub final_at : LoopParts → LeafValue → LeafValue
  final_at l v = final_leaf M o (lap_of M o l) v

  -- a loop, and what is in it
  abbrev pub loop_entries : Stmt → Place → LoopParts → LeafValue → List Entry
  loop_entries s place l v = record { place = place; statement = front s Done; leaf = final_at l v } ∷ lap_entries M o l (final_at l v)

  pub entries-While : (s : Stmt) (place : Place) (e : Expr) (step body : Vec Stmt Global) (l m : List Stmt) (w : Ways) → s ≡ variant.While place e step body → l ≡ step.items → m ≡ body.items
      → loop_entries s place (TestFirst (term e) (code l) (code m)) w.behind ≡ entries_of M o (front s Done) w
  entries-While s place e step body l m w h i j =
      let f : front s Done ≡ While place (term e) (code step.items) (code body.items) Done = ap (λ s. front s Done) h ∙ front-While place e step body in
      let k = TestFirst (term e) (code step.items) (code body.items) in
      let x = final_at k w.behind in
      let step_in = enter (going_on M (through_body M o.mode (final_heads M o) k x)) in
      let body_in = enter (assumed M o.mode (term e) true x) in
      rw f (rw i (rw j (last_nil (record { place = place; statement = While place (term e) (code step.items) (code body.items) Done; leaf = x }) (entries_of M o (code step.items) step_in) (entries_of M o (code body.items) body_in))))

  pub entries-Do : (s : Stmt) (place : Place) (body : Vec Stmt Global) (at : Place) (e : Expr) (l : List Stmt) (w : Ways) → s ≡ variant.Do place body at e → l ≡ body.items
      → loop_entries s place (TestLast (code l) at (term e)) w.behind ≡ entries_of M o (front s Done) w
  entries-Do s place body at e l w h i =
      let f : front s Done ≡ Do place (code body.items) at (term e) Done = ap (λ s. front s Done) h ∙ front-Do place body at e in
      rw f (rw i refl)

  pub entries-Block : (s : Stmt) (place : Place) (body : Vec Stmt Global) (l : List Stmt) (w : Ways) → s ≡ variant.Block place body → l ≡ body.items
      → (record { place = place; statement = front s Done; leaf = w.behind } ∷ []) ++ entries_of M o (code l) w ≡ entries_of M o (front s Done) w
  entries-Block s place body l w h i =
      let f : front s Done ≡ Block place (code body.items) Done = ap (λ s. front s Done) h ∙ front-Block place body in
      rw f (rw i (ap (λ t. record { place = place; statement = Block place (code body.items) Done; leaf = w.behind } ∷ t) (sym (append-nil (entries_of M o (code body.items) w)))))

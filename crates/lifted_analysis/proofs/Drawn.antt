-- The statements that a projection keeps, among all of a family.
use Rattle.std.proofs.Common.{◌≡◌, ℕ, ◌≤◌, true, false, Bool, not, ◌&&◌, List, [], ◌∷◌, ◌++◌, map, if◌then◌else◌, Option, Some, None, refl, ap, sym, subst, ◌∙◌, arith, append_assoc}
use Rattle.std.specs.Prelude.{slice_index_or, IsTrue}
use Rattle.fam_outer.specs.declared.faults.Place.{Place}
use Rattle.c_tree.specs.declared.tree.Kind.{Kind}
use Rattle.c_tree.specs.declared.tree.Mode.{Mode}
use Rattle.c_tree.specs.Tree.{Term, Code, followed, Done, Assign, Input, Assert, If, While, Do, Leave, Block, Skip, Cond}
use Rattle.c_tree.specs.Project.{projected}
use Rattle.c_tree.specs.Fit.{IsCodeOf}
use Rattle.fam_outer.specs.Places.{is_before}
use Rattle.c_tree.specs.Whole.{IsBeforeAll, IsRising}
use Rattle.leaf_domain.specs.Leaves.{LeafValue, LeafMeaning, LeafLaws, nothing_of}
use Rattle.leaf_domain.specs.Soundness.{TransferAnswers}
use Rattle.leaf_domain.specs.Transfer.{assumed, assigned, forgotten}
use Rattle.leaf_domain.specs.Stops.{may_at}
use Rattle.plain_analysis.specs.Places.{is_same_place, entry_in}
use Rattle.plain_analysis.specs.Statements.{Heads, Entry, LoopParts, TestFirst, TestLast, passed, chosen, through_body, lap, head_by, behind_by, entries_by}
use Rattle.plain_analysis.specs.Ways.{Ways, onto, enter, leave_by, going_on}
use Rattle.plain_analysis.proofs.Listed.{entries-followed}
use Rattle.plain_analysis.proofs.Kept.{AreLeaves, enter_leaves, leave_kept}
use Rattle.plain_analysis.proofs.Located.{same_place_self}
use Rattle.lifted_analysis.specs.Entries.{Visit, loop_visit, body_at, first_group, visits_at, turn_of, turns_in}
use Rattle.lifted_analysis.specs.Rules.{no_heads, heads_where}
use Rattle.lifted_analysis.specs.Steps.{kept_by, parts_at}
use Rattle.lifted_analysis.specs.Turns.{Turn, turns_by, is_inductive, inductive_in}
use Rattle.lifted_analysis.proofs.IdleLemmas.{none_idle, assigned_nothing, forgotten_nothing, assumed_nothing, left_nothing, through_idle, lap_idle, behind_idle, passed_idle, parts_idle}
use Rattle.lifted_analysis.proofs.PassedLemmas.{AreFit, KeepsIn, assign_leaves, input_leaves, test_leaves, within_leaves, onward_leaf, head_leaf, behind_leaves, passed_leaves, sides_leaves}

before_other : (a b : Place) → IsTrue (is_before a b) → is_same_place a b ≡ false
before_other a b h = grind arith

after_other : (a b : Place) → IsTrue (is_before a b) → is_same_place b a ≡ false
after_other a b h = grind arith

-- the parts of a list are fit where it is
IsCodeOf-parts : (count : ℕ) (a b : Code) → IsCodeOf count (followed a b) → IsCodeOf count a × IsCodeOf count b
IsCodeOf-parts count Done b h = (tt, h)
IsCodeOf-parts count (Assign place y e rest) b h = let r = IsCodeOf-parts count rest b h.2 in ((h.0, h.1, r.0), r.1)
IsCodeOf-parts count (Input place y rest) b h = let r = IsCodeOf-parts count rest b h.1 in ((h.0, r.0), r.1)
IsCodeOf-parts count (Assert place e rest) b h = let r = IsCodeOf-parts count rest b h.1 in ((h.0, r.0), r.1)
IsCodeOf-parts count (If place e p q rest) b h = let r = IsCodeOf-parts count rest b h.3 in ((h.0, h.1, h.2, r.0), r.1)
IsCodeOf-parts count (While place e step body rest) b h = let r = IsCodeOf-parts count rest b h.3 in ((h.0, h.1, h.2, r.0, h.4), r.1)
IsCodeOf-parts count (Do place body at e rest) b h = let r = IsCodeOf-parts count rest b h.2 in ((h.0, h.1, r.0), r.1)
IsCodeOf-parts count (Leave place jump rest) b h = let r = IsCodeOf-parts count rest b h.1 in ((h.0, r.0), r.1)
IsCodeOf-parts count (Block place body rest) b h = let r = IsCodeOf-parts count rest b h.1 in ((h.0, r.0), r.1)
IsCodeOf-parts count (Skip place rest) b h = IsCodeOf-parts count rest b h
IsCodeOf-parts count (Cond number p q rest) b h = let r = IsCodeOf-parts count rest b h.2 in ((h.0, h.1, r.0), r.1)

unfoldable pub place_of : Visit → Place
place_of f = f.place

-- ---- one list after another

two_more : {X : Type 0} (xs ys zs us : List X) (e : X) → zs ≡ ys ++ us → e ∷ (xs ++ zs) ≡ (e ∷ (xs ++ ys)) ++ us
two_more xs ys zs us e h = ap (λ l. e ∷ (xs ++ l)) h ∙ ap (λ l. e ∷ l) (sym (append_assoc xs ys us))

sides_more : {X : Type 0} (xs ys zs us ws : List X) → us ≡ zs ++ ws → xs ++ (ys ++ us) ≡ (xs ++ (ys ++ zs)) ++ ws
sides_more xs ys zs us ws h = ap (λ l. xs ++ (ys ++ l)) h ∙ (ap (λ l. xs ++ l) (sym (append_assoc ys zs ws)) ∙ sym (append_assoc xs (ys ++ zs) ws))

list_more : {X : Type 0} (xs zs us ws : List X) → us ≡ zs ++ ws → xs ++ us ≡ (xs ++ zs) ++ ws
list_more xs zs us ws h = ap (λ l. xs ++ l) h ∙ sym (append_assoc xs zs ws)

module _ (M : LeafMeaning) (mode : Mode) (H : Heads) where
  turns_by-followed : (a b : Code) (w : Ways) → turns_by M mode H (followed a b) w ≡ turns_by M mode H a w ++ turns_by M mode H b (passed M mode H a w)
  turns_by-followed Done b w = refl
  turns_by-followed (Assign place x e rest) b w = turns_by-followed rest b (onto w (assigned M mode x e w.behind))
  turns_by-followed (Input place x rest) b w = turns_by-followed rest b (onto w (forgotten M x w.behind))
  turns_by-followed (Assert place e rest) b w = turns_by-followed rest b (onto w (assumed M mode e true w.behind))
  turns_by-followed (If place e p q rest) b w =
      let u = onto w (assumed M mode e true w.behind) in
      sides_more (turns_by M mode H p u) (turns_by M mode H q (onto (passed M mode H p u) (assumed M mode e false w.behind))) _ _ _
      (turns_by-followed rest b (chosen M mode H e p q w))
  turns_by-followed (While place e step body rest) b w =
      let l = TestFirst e step body in
      let x = head_by M mode H place l w.behind in
      ap (λ ts. record { place = place; entered = w.behind; head = x; again = lap M mode H l x } ∷ ts)
      (sides_more (turns_by M mode H step (enter (going_on M (through_body M mode H l x)))) (turns_by M mode H body (enter (assumed M mode e true x))) _ _ _
      (turns_by-followed rest b (behind_by M mode H l w x)))
  turns_by-followed (Do place body at e rest) b w =
      let l = TestLast body at e in
      let x = head_by M mode H place l w.behind in
      two_more (turns_by M mode H body (enter x)) _ _ _ (record { place = place; entered = w.behind; head = x; again = lap M mode H l x }) (turns_by-followed rest b (behind_by M mode H l w x))
  turns_by-followed (Leave place jump rest) b w = turns_by-followed rest b (leave_by M mode jump w)
  turns_by-followed (Block place body rest) b w = list_more (turns_by M mode H body w) _ _ _ (turns_by-followed rest b (passed M mode H body w))
  turns_by-followed (Skip place rest) b w = turns_by-followed rest b w
  turns_by-followed (Cond number p q rest) b w = turns_by-followed rest b w

-- what is said of each statement, and of the entry at each place
abbrev pub from : {Y : Type 0} → (Visit → List Y) → List Visit → List Y
from k [] = []
from k (f ∷ fs) = k f ++ from k fs

abbrev pub over : {Y : Type 0} → (Place → Option Entry → List Y) → List Entry → List Place → List Y
over h es [] = []
over h es (p ∷ ps) = h p (entry_in es p) ++ over h es ps

module _ (M : LeafMeaning) (mode : Mode) (n : ℕ) where
  -- an entry of a statement: with one place and one leaf, which may stop alike
  pub record IsSame (e : Entry) (f : Visit) : Type 0 where
    pub place : e.place ≡ f.place
    pub leaf : e.leaf ≡ f.leaf
    pub stops : (kind : Kind) → may_at M mode kind e.statement e.leaf ≡ may_at M mode kind f.statement f.leaf

  abbrev pub IsLostTurn : Option (LeafValue × LeafValue) → Type 0
  IsLostTurn None = Unit {0}
  IsLostTurn (Some t) = (t.0 ≡ nothing_of n) × (t.1 ≡ nothing_of n)

  -- all of it is Nothing
  pub record IsLost (f : Visit) : Type 0 where
    pub leaf : f.leaf ≡ nothing_of n
    pub turn : IsLostTurn f.turn

  -- entries and loops are those of the statements, without some that are Nothing
  pub data IsDrawn : List Entry → List Turn → List Visit → Type 0 where
    none : IsDrawn [] [] []
    kept : {e : Entry} {f : Visit} {es : List Entry} {ts : List Turn} {fs : List Visit} → IsSame e f → IsDrawn es ts fs → IsDrawn (e ∷ es) (turn_of f.place f.leaf f.turn ++ ts) (f ∷ fs)
    left : {f : Visit} {es : List Entry} {ts : List Turn} {fs : List Visit} → IsLost f → IsDrawn es ts fs → IsDrawn es ts (f ∷ fs)

  drawn-append : {xs : List Entry} {ts : List Turn} {ys : List Visit} (cs : List Entry) (us : List Turn) (ds : List Visit) → IsDrawn xs ts ys → IsDrawn cs us ds → IsDrawn (xs ++ cs) (ts ++ us) (ys ++ ds)
  drawn-append cs us ds none h = h
  drawn-append cs us ds (kept {e = e} {f = f} {es = es} {ts = ts} {fs = fs} s g) h =
      subst (λ l. IsDrawn (e ∷ (es ++ cs)) l (f ∷ (fs ++ ds))) (sym (append_assoc (turn_of f.place f.leaf f.turn) ts us)) (kept s (drawn-append cs us ds g h))
  drawn-append cs us ds (left e g) h = left e (drawn-append cs us ds g h)

  AllLost : List Visit → Type 0
  AllLost [] = Unit {0}
  AllLost (f ∷ fs) = IsLost f × AllLost fs

  lost-append : (fs gs : List Visit) → AllLost fs → AllLost gs → AllLost (fs ++ gs)
  unfolding AllLost
  lost-append [] gs h k = k
  lost-append (f ∷ fs) gs h k = (h.0, lost-append fs gs h.1 k)

  -- behind statements that are all Nothing
  left_behind : (fs : List Visit) {es : List Entry} {ts : List Turn} {gs : List Visit} → AllLost fs → IsDrawn es ts gs → IsDrawn es ts (fs ++ gs)
  unfolding AllLost
  left_behind [] h k = k
  left_behind (f ∷ fs) h k = left h.0 (left_behind fs h.1 k)

  same : (place : Place) (s t : Code) (x : LeafValue) (turn : Option (LeafValue × LeafValue)) → ((kind : Kind) → may_at M mode kind s x ≡ may_at M mode kind t x)
      → IsSame (record { place = place; statement = s; leaf = x }) (record { place = place; statement = t; leaf = x; turn = turn })
  same place s t x turn h = record { place = refl; leaf = refl; stops = h }

  lost : (place : Place) (s : Code) → IsLost (record { place = place; statement = s; leaf = nothing_of n; turn = None })
  lost place s = record { leaf = refl; turn = tt }

  either : (b : Bool) → (if b then nothing_of n else nothing_of n) ≡ nothing_of n
  either true = refl
  either false = refl

  kept_nothing : (w b : Bool) → kept_by w b (nothing_of n) ≡ nothing_of n
  kept_nothing true b = either b
  kept_nothing false b = either b

  module _ (laws : LeafLaws M) (A : TransferAnswers M mode) (few : n ≤ 48) (ts : List Bool) where
    at_nothing : (c : Code) (u w : Ways) → u ≡ onto w (nothing_of n) → AllLost (visits_at M mode ts no_heads c (onto w (nothing_of n))) → AllLost (visits_at M mode ts no_heads c u)
    at_nothing c u w e h = subst (λ y. AllLost (visits_at M mode ts no_heads c y)) (sym e) h

    side_nothing : (c : Code) (a w b : Bool) (u : Ways) → AllLost (visits_at M mode ts no_heads c (onto u (nothing_of n))) → AllLost (visits_at M mode ts (heads_where a no_heads) c (onto u (kept_by w b (nothing_of n))))
    side_nothing c true w b u h = at_nothing c _ u (ap (onto u) (kept_nothing w b)) h
    side_nothing c false w b u h = at_nothing c _ u (ap (onto u) (kept_nothing w b)) h

    off : (c : Code) (w : Ways) → passed M mode no_heads c (onto w (nothing_of n)) ≡ onto w (nothing_of n)
    off c w = passed_idle M laws mode A n few no_heads (none_idle n) c w

    not_so : (e : Term) (want : Bool) → assumed M mode e want (nothing_of n) ≡ nothing_of n
    not_so e want = assumed_nothing M laws mode A n few e want

    nowhere : (l : LoopParts) → through_body M mode no_heads l (nothing_of n) ≡ enter (nothing_of n)
    nowhere l = through_idle M laws mode A n few no_heads (none_idle n) l (parts_idle M laws mode A n few no_heads (none_idle n) l)

    lost_loop : (place : Place) (s : Code) (l : LoopParts) → IsLost (loop_visit M mode ts no_heads place s l (nothing_of n))
    lost_loop place s l = record {
      leaf = refl;
      turn = (refl, lap_idle M laws mode A n few no_heads (none_idle n) (parts_at ts l) (parts_idle M laws mode A n few no_heads (none_idle n) (parts_at ts l)));
    }

    behind_lost : (l : LoopParts) (w : Ways) → behind_by M mode no_heads l (onto w (nothing_of n)) (nothing_of n) ≡ onto w (nothing_of n)
    behind_lost l w = behind_idle M laws mode A n few no_heads (none_idle n) l (parts_idle M laws mode A n few no_heads (none_idle n) l) (onto w (nothing_of n))

    abbrev O : Ways
    O = enter (nothing_of n)

    -- statements that are not kept are all Nothing
    nothing_visits : (c : Code) (w : Ways) → AllLost (visits_at M mode ts no_heads c (onto w (nothing_of n)))
    unfolding AllLost
    nothing_visits Done w = tt
    nothing_visits (Assign place y e rest) w = (lost place (Assign place y e Done), at_nothing rest _ w (ap (onto w) (assigned_nothing M laws mode A n few y e)) (nothing_visits rest w))
    nothing_visits (Input place y rest) w = (lost place (Input place y Done), at_nothing rest _ w (ap (onto w) (forgotten_nothing M laws mode A n few y)) (nothing_visits rest w))
    nothing_visits (Assert place e rest) w = (lost place (Assert place e Done), at_nothing rest _ w (ap (onto w) (not_so e true)) (nothing_visits rest w))
    nothing_visits (If place e p q rest) w =
        let u = onto w (assumed M mode e true (nothing_of n)) in
        let a = passed M mode no_heads (projected ts p) u in (
          lost place (If place e p q Done),
          lost-append (visits_at M mode ts no_heads p u) _ (at_nothing p u w (ap (onto w) (not_so e true)) (nothing_visits p w))
              (lost-append (visits_at M mode ts no_heads q (onto a (assumed M mode e false (nothing_of n)))) _ (at_nothing q _ a (ap (onto a) (not_so e false)) (nothing_visits q a))
              (at_nothing rest _ w (off (If place e (projected ts p) (projected ts q) Done) w) (nothing_visits rest w))),
        )
    nothing_visits (While place e step body rest) w =
        let l = TestFirst e step body in
        let t = enter (going_on M (body_at M mode ts no_heads l (nothing_of n))) in
        let u = enter (assumed M mode e true (nothing_of n)) in (
          lost_loop place (While place e step body Done) l,
          lost-append (visits_at M mode ts no_heads step t) _ (at_nothing step t O (ap (λ b. enter (going_on M b)) (nowhere (parts_at ts l))) (nothing_visits step O))
              (lost-append (visits_at M mode ts no_heads body u) _ (at_nothing body u O (ap enter (not_so e true)) (nothing_visits body O))
              (at_nothing rest _ w (behind_lost (parts_at ts l) w) (nothing_visits rest w))),
        )
    nothing_visits (Do place body at e rest) w =
        let l = TestLast body at e in (
          lost_loop place (Do place body at e Done) l,
          lost-append (visits_at M mode ts no_heads body O) _ (nothing_visits body O)
              (record { leaf = ap (going_on M) (nowhere (parts_at ts l)); turn = tt }, at_nothing rest _ w (behind_lost (parts_at ts l) w) (nothing_visits rest w)),
        )
    nothing_visits (Leave place jump rest) w = (lost place (Leave place jump Done), at_nothing rest _ w (left_nothing M laws mode A n few jump w) (nothing_visits rest w))
    nothing_visits (Block place body rest) w = (
      lost place (Block place body Done),
      lost-append (visits_at M mode ts no_heads body (onto w (nothing_of n))) _ (nothing_visits body w) (at_nothing rest _ w (off (projected ts body) w) (nothing_visits rest w)),
    )
    nothing_visits (Skip place rest) w = (lost place (Skip place Done), nothing_visits rest w)
    nothing_visits (Cond number p q rest) w =
        let b = slice_index_or ts number false in
        let u = first_group M mode ts no_heads b p (onto w (nothing_of n)) in
        lost-append (visits_at M mode ts (heads_where b no_heads) p (onto w (kept_by true b (nothing_of n)))) _ (side_nothing p b true b w (nothing_visits p w))
        (lost-append (visits_at M mode ts (heads_where (not b) no_heads) q (onto u (kept_by false b (nothing_of n)))) _ (side_nothing q (not b) false b u (nothing_visits q u))
        (at_nothing rest _ w (off (if b then projected ts p else projected ts q) w) (nothing_visits rest w)))

    module _ (H : Heads) (fit : AreFit M mode n H) where
      abbrev keeps : (c : Code) → IsCodeOf n c → (w : Ways) → AreLeaves M n w → AreLeaves M n (passed M mode H c w)
      keeps = passed_leaves M laws mode A n H fit

      -- the entries and loops of a projected list are among the statements of the list
      IsDrawnAt : Code → Code → Type 0
      IsDrawnAt c d = (w : Ways) → AreLeaves M n w → IsCodeOf n d → IsDrawn (entries_by M mode H d w) (turns_by M mode H d w) (visits_at M mode ts H c w)

      group : (b : Bool) (p q rest : Code) (w : Ways) → IsDrawnAt p (projected ts p) → IsDrawnAt q (projected ts q) → IsDrawnAt rest (projected ts rest)
          → AreLeaves M n w → IsCodeOf n (followed (if b then projected ts p else projected ts q) (projected ts rest))
          → IsDrawn (entries_by M mode H (followed (if b then projected ts p else projected ts q) (projected ts rest)) w) (turns_by M mode H (followed (if b then projected ts p else projected ts q) (projected ts rest)) w)
          (visits_at M mode ts (heads_where b H) p (onto w (kept_by true b w.behind))
          ++ (visits_at M mode ts (heads_where (not b) H) q (onto (first_group M mode ts H b p w) (kept_by false b w.behind)) ++ visits_at M mode ts H rest (passed M mode H (if b then projected ts p else projected ts q) w)))
      unfolding IsDrawnAt
      group true p q rest w dp dq dr h f =
          let s = IsCodeOf-parts n (projected ts p) (projected ts rest) f in
          let a = passed M mode H (projected ts p) w in
          rw (entries-followed M mode H (projected ts p) (projected ts rest) w, turns_by-followed M mode H (projected ts p) (projected ts rest) w)
          (drawn-append (entries_by M mode H (projected ts rest) a) (turns_by M mode H (projected ts rest) a) _ (dp w h s.0)
          (left_behind (visits_at M mode ts no_heads q (onto a (nothing_of w.behind.variables))) (subst (λ m. AllLost (visits_at M mode ts no_heads q (onto a (nothing_of m)))) (sym h.behind.count) (nothing_visits q a))
          (dr a (keeps (projected ts p) s.0 w h) s.1)))
      group false p q rest w dp dq dr h f =
          let s = IsCodeOf-parts n (projected ts q) (projected ts rest) f in
          let a = passed M mode H (projected ts q) w in
          let u = onto w (nothing_of w.behind.variables) in
          let none : u ≡ onto w (nothing_of n) = ap (λ m. onto w (nothing_of m)) h.behind.count in
          let same : w ≡ onto (passed M mode no_heads (projected ts p) u) w.behind = sym (ap (λ y. onto (passed M mode no_heads (projected ts p) y) w.behind) none ∙ ap (λ y. onto y w.behind) (off (projected ts p) w)) in
          rw (entries-followed M mode H (projected ts q) (projected ts rest) w, turns_by-followed M mode H (projected ts q) (projected ts rest) w)
          (left_behind (visits_at M mode ts no_heads p u) (at_nothing p u w none (nothing_visits p w))
          (drawn-append (entries_by M mode H (projected ts rest) a) (turns_by M mode H (projected ts rest) a) _
          (subst (λ y. IsDrawn (entries_by M mode H (projected ts q) w) (turns_by M mode H (projected ts q) w) (visits_at M mode ts H q y)) same (dq w h s.0))
          (dr a (keeps (projected ts q) s.0 w h) s.1)))

      drawn : (c : Code) → IsDrawnAt c (projected ts c)
      unfolding IsDrawnAt
      drawn Done w h f = none
      drawn (Assign place y e rest) w h f =
          kept (same place (Assign place y e Done) (Assign place y e Done) w.behind None (λ kind. refl)) (drawn rest (onto w (assigned M mode y e w.behind)) (assign_leaves M laws mode A n H fit y e w h f.0 f.1) f.2)
      drawn (Input place y rest) w h f =
          kept (same place (Input place y Done) (Input place y Done) w.behind None (λ kind. refl)) (drawn rest (onto w (forgotten M y w.behind)) (input_leaves M laws mode A n H fit y w h f.0) f.1)
      drawn (Assert place e rest) w h f =
          kept (same place (Assert place e Done) (Assert place e Done) w.behind None (λ kind. refl)) (drawn rest (onto w (assumed M mode e true w.behind)) (test_leaves M laws mode A n H fit e true w w.behind h h.behind f.0) f.1)
      drawn (If place e p q rest) w h f =
          let u = onto w (assumed M mode e true w.behind) in
          let i = test_leaves M laws mode A n H fit e true w w.behind h h.behind f.0 in
          let a = passed M mode H (projected ts p) u in
          let z = onto a (assumed M mode e false w.behind) in
          let j = test_leaves M laws mode A n H fit e false a w.behind (keeps (projected ts p) f.1 u i) h.behind f.0 in
          let r = chosen M mode H e (projected ts p) (projected ts q) w in
          kept (same place (If place e (projected ts p) (projected ts q) Done) (If place e p q Done) w.behind None (λ kind. refl))
          (drawn-append (entries_by M mode H (projected ts q) z ++ entries_by M mode H (projected ts rest) r) (turns_by M mode H (projected ts q) z ++ turns_by M mode H (projected ts rest) r) _ (drawn p u i f.1)
          (drawn-append (entries_by M mode H (projected ts rest) r) (turns_by M mode H (projected ts rest) r) _ (drawn q z j f.2)
          (drawn rest r (sides_leaves M laws mode A n H fit e (projected ts p) (projected ts q) f.0 f.1 f.2 w h) f.3)))
      drawn (While place e step body rest) w h f =
          let p = projected ts step in
          let q = projected ts body in
          let l = TestFirst e p q in
          let k : KeepsIn M laws mode A n H fit l = (f.0, keeps p f.1, keeps q f.2) in
          let x = head_by M mode H place l w.behind in
          let i = head_leaf M laws mode A n H fit place l (f.0, f.1, f.2, f.4) w.behind h.behind in
          let t = enter (going_on M (through_body M mode H l x)) in
          let u = enter (assumed M mode e true x) in
          let r = behind_by M mode H l w x in
          kept (same place (While place e p q Done) (While place e step body Done) x (Some (w.behind, lap M mode H l x)) (λ kind. refl))
          (drawn-append (entries_by M mode H q u ++ entries_by M mode H (projected ts rest) r) (turns_by M mode H q u ++ turns_by M mode H (projected ts rest) r) _
          (drawn step t (enter_leaves M laws n (going_on M (through_body M mode H l x)) (onward_leaf M laws mode A n H fit l k x i)) f.1)
          (drawn-append (entries_by M mode H (projected ts rest) r) (turns_by M mode H (projected ts rest) r) _ (drawn body u (within_leaves M laws mode A n H fit e x i f.0) f.2)
          (drawn rest r (behind_leaves M laws mode A n H fit l k w x h i) f.3)))
      drawn (Do place body at e rest) w h f =
          let q = projected ts body in
          let l = TestLast q at e in
          let k : KeepsIn M laws mode A n H fit l = (f.0, keeps q f.1) in
          let x = head_by M mode H place l w.behind in
          let i = head_leaf M laws mode A n H fit place l (f.0, f.1) w.behind h.behind in
          let y = going_on M (through_body M mode H l x) in
          let r = behind_by M mode H l w x in
          kept (same place (Do place q at e Done) (Do place body at e Done) x (Some (w.behind, lap M mode H l x)) (λ kind. refl))
          (drawn-append (record { place = at; statement = If at e Done Done Done; leaf = y } ∷ entries_by M mode H (projected ts rest) r) (turns_by M mode H (projected ts rest) r) _ (drawn body (enter x) (enter_leaves M laws n x i) f.1)
          (kept (same at (If at e Done Done Done) (If at e Done Done Done) y None (λ kind. refl)) (drawn rest r (behind_leaves M laws mode A n H fit l k w x h i) f.2)))
      drawn (Leave place jump rest) w h f =
          kept (same place (Leave place jump Done) (Leave place jump Done) w.behind None (λ kind. refl)) (drawn rest (leave_by M mode jump w) (leave_kept M laws mode A n jump w h f.0).leaves f.1)
      drawn (Block place body rest) w h f =
          let a = passed M mode H (projected ts body) w in
          kept (same place (Block place (projected ts body) Done) (Block place body Done) w.behind None (λ kind. refl))
          (drawn-append (entries_by M mode H (projected ts rest) a) (turns_by M mode H (projected ts rest) a) _ (drawn body w h f.0)
          (drawn rest a (keeps (projected ts body) f.0 w h) f.1))
      drawn (Skip place rest) w h f = kept (same place (Skip place Done) (Skip place Done) w.behind None (λ kind. refl)) (drawn rest w h f)
      drawn (Cond number p q rest) w h f = group (slice_index_or ts number false) p q rest w (drawn p) (drawn q) (drawn rest) h f

      pub drawn_list : (c : Code) (w : Ways) → AreLeaves M n w → IsCodeOf n (projected ts c) → IsDrawn (entries_by M mode H (projected ts c) w) (turns_by M mode H (projected ts c) w) (visits_at M mode ts H c w)
      unfolding IsDrawnAt
      drawn_list c = drawn c

  -- ---- what is found at the places

  pub absent : {es : List Entry} {ts : List Turn} {fs : List Visit} (q : Place) (tail : List Place) → IsDrawn es ts fs → IsBeforeAll q (map place_of fs ++ tail) → entry_in es q ≡ None
  unfolding place_of
  absent q tail none h = refl
  absent q tail (kept {e = e} {f = f} {es = es} s g) h =
      ap (λ b. if b then Some e else entry_in es q) (subst (λ p. is_same_place p q ≡ false) (sym s.place) (after_other q f.place h.0)) ∙ absent q tail g h.1
  absent q tail (left e g) h = absent q tail g h.1

  module _ {Y : Type 0} (k : Visit → List Y) (h : Place → Option Entry → List Y)
      (found : (e : Entry) (f : Visit) → IsSame e f → k f ≡ h f.place (Some e)) (lost : (f : Visit) → f.leaf ≡ nothing_of n → k f ≡ h f.place None) where
    -- an entry before all places is found at none of them
    skipped : (e : Entry) (es : List Entry) (ps tail : List Place) → IsBeforeAll e.place (ps ++ tail) → over h (e ∷ es) ps ≡ over h es ps
    skipped e es [] tail b = refl
    skipped e es (p ∷ ps) tail b =
        ap (λ (t : Bool). h p (if t then Some e else entry_in es p) ++ over h (e ∷ es) ps) (before_other e.place p b.0)
        ∙ ap (λ l. h p (entry_in es p) ++ l) (skipped e es ps tail b.1)

    pub matched : {es : List Entry} {ts : List Turn} {fs : List Visit} (tail : List Place) → IsDrawn es ts fs → IsRising (map place_of fs ++ tail) → from k fs ≡ over h es (map place_of fs)
    unfolding place_of
    matched tail none r = refl
    matched tail (kept {e = e} {f = f} {es = es} {fs = fs} s g) r =
        let b : IsBeforeAll e.place (map place_of fs ++ tail) = subst (λ p. IsBeforeAll p (map place_of fs ++ tail)) (sym s.place) r.0 in
        let here : is_same_place e.place f.place ≡ true = subst (λ p. is_same_place p f.place ≡ true) (sym s.place) (same_place_self f.place) in
        ap (λ l. l ++ from k fs) (found e f s)
        ∙ (ap (λ (t : Bool). h f.place (if t then Some e else entry_in es f.place) ++ from k fs) (sym here)
        ∙ ap (λ l. h f.place (entry_in (e ∷ es) f.place) ++ l) (matched tail g r.1 ∙ sym (skipped e es (map place_of fs) tail b)))
    matched tail (left {f = f} {es = es} {fs = fs} e g) r =
        ap (λ l. l ++ from k fs) (lost f e.leaf)
        ∙ (ap (λ (t : Option Entry). h f.place t ++ from k fs) (sym (absent f.place tail g r.0))
        ∙ ap (λ l. h f.place (entry_in es f.place) ++ l) (matched tail g r.1))

  -- ---- what is found of loops

  -- a loop before all places is found at none of them
  turn_skipped : (place : Place) (leaf : LeafValue) (turn : Option (LeafValue × LeafValue)) (ts : List Turn) (q : Place) → IsTrue (is_before place q) → inductive_in M (turn_of place leaf turn ++ ts) q ≡ inductive_in M ts q
  turn_skipped place leaf None ts q h = refl
  turn_skipped place leaf (Some t) ts q h =
      ap (λ (b : Bool). if b then is_inductive M (record { place = place; entered = t.0; head = leaf; again = t.1 }) else inductive_in M ts q) (before_other place q h)

  turn_absent : (place : Place) (leaf : LeafValue) (turn : Option (LeafValue × LeafValue)) (ts : List Turn) (q : Place) → IsTrue (is_before q place) → inductive_in M (turn_of place leaf turn ++ ts) q ≡ inductive_in M ts q
  turn_absent place leaf None ts q h = refl
  turn_absent place leaf (Some t) ts q h =
      ap (λ (b : Bool). if b then is_inductive M (record { place = place; entered = t.0; head = leaf; again = t.1 }) else inductive_in M ts q) (after_other q place h)

  no_loop : {es : List Entry} {ts : List Turn} {fs : List Visit} (q : Place) (tail : List Place) → IsDrawn es ts fs → IsBeforeAll q (map place_of fs ++ tail) → inductive_in M ts q ≡ true
  unfolding place_of
  no_loop q tail none h = refl
  no_loop q tail (kept {f = f} {ts = ts} s g) h = turn_absent f.place f.leaf f.turn ts q h.0 ∙ no_loop q tail g h.1
  no_loop q tail (left e g) h = no_loop q tail g h.1

  abbrev pub said : List Turn → List (Place × Bool)
  said us = map {B = Place × Bool} (λ (t : Turn). (t.place, is_inductive M t)) us

  abbrev pub asked : List Turn → List Turn → List (Place × Bool)
  asked ts us = map {B = Place × Bool} (λ (t : Turn). (t.place, inductive_in M ts t.place)) us

  asked_one : (us ts : List Turn) (f : Visit) (fs : List Visit) (t : Option (LeafValue × LeafValue)) → inductive_in M us f.place ≡ inductive_in M ts f.place → asked us (turns_in fs) ≡ asked ts (turns_in fs)
      → asked us (turn_of f.place f.leaf t ++ turns_in fs) ≡ asked ts (turn_of f.place f.leaf t ++ turns_in fs)
  asked_one us ts f fs None e h = h
  asked_one us ts f fs (Some t) e h = ap (λ (b : Bool). (f.place, b) ∷ asked us (turns_in fs)) e ∙ ap (λ l. (f.place, inductive_in M ts f.place) ∷ l) h

  -- the loops of statements, each asked for in a list and in a longer one
  asked_behind : (place : Place) (leaf : LeafValue) (turn : Option (LeafValue × LeafValue)) (ts : List Turn) (fs : List Visit) (tail : List Place) → IsBeforeAll place (map place_of fs ++ tail)
      → asked (turn_of place leaf turn ++ ts) (turns_in fs) ≡ asked ts (turns_in fs)
  unfolding place_of
  asked_behind place leaf turn ts [] tail h = refl
  asked_behind place leaf turn ts (f ∷ fs) tail h = asked_one (turn_of place leaf turn ++ ts) ts f fs f.turn (turn_skipped place leaf turn ts f.place h.0) (asked_behind place leaf turn ts fs tail h.1)

  module _ (laws : LeafLaws M) where
    said_first : (f : Visit) (fs : List Visit) (ts : List Turn) (t : Option (LeafValue × LeafValue)) → said (turns_in fs) ≡ asked (turn_of f.place f.leaf t ++ ts) (turns_in fs)
        → said (turn_of f.place f.leaf t ++ turns_in fs) ≡ asked (turn_of f.place f.leaf t ++ ts) (turn_of f.place f.leaf t ++ turns_in fs)
    said_first f fs ts None e = e
    said_first f fs ts (Some t) e =
        let u : Turn = record { place = f.place; entered = t.0; head = f.leaf; again = t.1 } in
        ap (λ (b : Bool). (f.place, if b then is_inductive M u else inductive_in M ts f.place) ∷ said (turns_in fs)) (sym (same_place_self f.place)) ∙ ap (λ l. (f.place, inductive_in M (u ∷ ts) f.place) ∷ l) e

    said_lost : (f : Visit) (fs : List Visit) (ts : List Turn) (t : Option (LeafValue × LeafValue)) → IsLostTurn t → inductive_in M ts f.place ≡ true → said (turns_in fs) ≡ asked ts (turns_in fs)
        → said (turn_of f.place f.leaf t ++ turns_in fs) ≡ asked ts (turn_of f.place f.leaf t ++ turns_in fs)
    said_lost f fs ts None k e h = h
    said_lost f fs ts (Some t) k e h =
        let u : Turn = record { place = f.place; entered = t.0; head = f.leaf; again = t.1 } in
        let below : is_inductive M u ≡ true =
        ap (λ x. M.leq x f.leaf && M.leq t.1 f.leaf) k.0 ∙ (ap (λ b. b && M.leq t.1 f.leaf) (laws.nothing_leq n f.leaf) ∙ (ap (λ x. M.leq x f.leaf) k.1 ∙ laws.nothing_leq n f.leaf))
        in
        ap (λ (b : Bool). (f.place, b) ∷ said (turns_in fs)) (below ∙ sym e) ∙ ap (λ l. (f.place, inductive_in M ts f.place) ∷ l) h

    pub loops_matched : {es : List Entry} {ts : List Turn} {fs : List Visit} (tail : List Place) → IsDrawn es ts fs → IsRising (map place_of fs ++ tail) → said (turns_in fs) ≡ asked ts (turns_in fs)
    unfolding place_of
    loops_matched tail none r = refl
    loops_matched tail (kept {f = f} {ts = ts} {fs = fs} s g) r = said_first f fs ts f.turn (loops_matched tail g r.1 ∙ sym (asked_behind f.place f.leaf f.turn ts fs tail r.0))
    loops_matched tail (left {f = f} {ts = ts} {fs = fs} e g) r = said_lost f fs ts f.turn e.turn (no_loop f.place tail g r.0) (loops_matched tail g r.1)

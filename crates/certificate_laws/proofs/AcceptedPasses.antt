-- Passes whose loops have the same heads are the same.
use Rattle.std.proofs.Common.{◌≡◌, true, false, List, ◌∷◌, ◌++◌, refl, ap, ◌∙◌}
use Rattle.std.specs.List.{AllByRecursion}
use Rattle.fam_outer.specs.declared.faults.Place.{Place}
use Rattle.c_tree.specs.declared.tree.Mode.{Mode}
use Rattle.c_tree.specs.Tree.{Term, Code, Done, Assign, Input, Assert, If, While, Do, Leave, Block, Skip, Cond}
use Rattle.leaf_domain.specs.Leaves.{LeafValue, LeafMeaning}
use Rattle.leaf_domain.specs.Transfer.{assumed, assigned, forgotten}
use Rattle.plain_analysis.specs.Statements.{Heads, TestFirst, TestLast, passed, chosen, through_body, head_by, behind_by, entries_by}
use Rattle.plain_analysis.specs.Ways.{Ways, onto, enter, leave_by, going_on, behind_loop}
use Rattle.lifted_analysis.specs.Turns.{Turn, turns_by}
use Rattle.certificate_laws.proofs.AcceptedLists.{all_left, all_right}

two : {X : Type 0} (xs ys zs us : List X) → xs ≡ ys → zs ≡ us → xs ++ zs ≡ ys ++ us
two xs ys zs us e f = ap (λ l. l ++ zs) e ∙ ap (λ l. ys ++ l) f

module _ (M : LeafMeaning) (mode : Mode) (g : Place → LeafValue) (K : Heads) where
  -- the heads that places have
  abbrev pub placed : Heads
  placed place lap x = g place

  -- the loop's head is that of its place
  abbrev pub IsGiven : Turn → Type 0
  IsGiven t = g t.place ≡ t.head

  abbrev G : Code → Ways → Ways
  G c w = passed M mode placed c w

  abbrev P : Code → Ways → Ways
  P c w = passed M mode K c w

  -- the pass with the heads of places is the other
  pub record IsSame (c : Code) (w : Ways) : Type 0 where
    pub after : passed M mode placed c w ≡ passed M mode K c w
    pub turns : turns_by M mode placed c w ≡ turns_by M mode K c w
    pub entries : entries_by M mode placed c w ≡ entries_by M mode K c w

  -- the same from other ways that are the same
  from_same : (c : Code) (u w : Ways) → u ≡ w → IsSame c w
      → (G c u ≡ P c w) × (turns_by M mode placed c u ≡ turns_by M mode K c w) × (entries_by M mode placed c u ≡ entries_by M mode K c w)
  from_same c u w e s = (
    ap (passed M mode placed c) e ∙ s.after,
    ap (turns_by M mode placed c) e ∙ s.turns,
    ap (entries_by M mode placed c) e ∙ s.entries,
  )

  same_first : (place : Place) (e : Term) (step body rest : Code) (w : Ways)
      → (let l = TestFirst e step body in
      let x = head_by M mode K place l w.behind in
      g place ≡ x → IsSame step (enter (going_on M (through_body M mode K l x))) → IsSame body (enter (assumed M mode e true x)) → IsSame rest (behind_by M mode K l w x)
      → IsSame (While place e step body rest) w)
  same_first place e step body rest w h ss sb sr =
      let x = head_by M mode K place (TestFirst e step body) w.behind in
      let t = enter (assumed M mode e true x) in
      let y = enter (assumed M mode e true (g place)) in
      let b = from_same body y t (ap (λ v. enter (assumed M mode e true v)) h) sb in
      let step_in = enter (going_on M (G body y)) in
      let step_there = enter (going_on M (P body t)) in
      let s = from_same step step_in step_there (ap (λ u. enter (going_on M u)) b.0) ss in
      let out = behind_loop M w (assumed M mode e false (g place)) (G body y) in
      let out_there = behind_loop M w (assumed M mode e false x) (P body t) in
      let left : out ≡ out_there = ap (λ v. behind_loop M w (assumed M mode e false v) (G body y)) h ∙ ap (behind_loop M w (assumed M mode e false x)) b.0 in
      let r = from_same rest out out_there left sr in
      record {
        after = r.0;
        turns =
            ap (λ v. record { place = place; entered = w.behind; head = v; again = (G step step_in).behind }
            ∷ (turns_by M mode placed step step_in ++ (turns_by M mode placed body y ++ turns_by M mode placed rest out))) h
            ∙ (ap (λ (u : Ways). record { place = place; entered = w.behind; head = x; again = u.behind }
            ∷ (turns_by M mode placed step step_in ++ (turns_by M mode placed body y ++ turns_by M mode placed rest out))) s.0
            ∙ ap (λ l. record { place = place; entered = w.behind; head = x; again = (P step step_there).behind } ∷ l) (two _ _ _ _ s.1 (two _ _ _ _ b.1 r.1)));
        entries =
            ap (λ v. record { place = place; statement = While place e step body Done; leaf = v }
            ∷ (entries_by M mode placed step step_in ++ (entries_by M mode placed body y ++ entries_by M mode placed rest out))) h
            ∙ ap (λ l. record { place = place; statement = While place e step body Done; leaf = x } ∷ l) (two _ _ _ _ s.2 (two _ _ _ _ b.2 r.2));
      }

  same_last : (place : Place) (body : Code) (at : Place) (e : Term) (rest : Code) (w : Ways)
      → (let l = TestLast body at e in
      let x = head_by M mode K place l w.behind in
      g place ≡ x → IsSame body (enter x) → IsSame rest (behind_by M mode K l w x) → IsSame (Do place body at e rest) w)
  same_last place body at e rest w h sb sr =
      let x = head_by M mode K place (TestLast body at e) w.behind in
      let t = enter x in
      let y = enter (g place) in
      let b = from_same body y t (ap enter h) sb in
      let out = behind_loop M w (assumed M mode e false (going_on M (G body y))) (G body y) in
      let out_there = behind_loop M w (assumed M mode e false (going_on M (P body t))) (P body t) in
      let r = from_same rest out out_there (ap (λ u. behind_loop M w (assumed M mode e false (going_on M u)) u) b.0) sr in
      record {
        after = r.0;
        turns =
            ap (λ v. record { place = place; entered = w.behind; head = v; again = assumed M mode e true (going_on M (G body y)) }
            ∷ (turns_by M mode placed body y ++ turns_by M mode placed rest out)) h
            ∙ (ap (λ u. record { place = place; entered = w.behind; head = x; again = assumed M mode e true (going_on M u) }
            ∷ (turns_by M mode placed body y ++ turns_by M mode placed rest out)) b.0
            ∙ ap (λ l. record { place = place; entered = w.behind; head = x; again = assumed M mode e true (going_on M (P body t)) } ∷ l) (two _ _ _ _ b.1 r.1));
        entries =
            ap (λ v. record { place = place; statement = Do place body at e Done; leaf = v }
            ∷ (entries_by M mode placed body y
            ++ record { place = at; statement = If at e Done Done Done; leaf = going_on M (G body y) } ∷ entries_by M mode placed rest out)) h
            ∙ (ap (λ u. record { place = place; statement = Do place body at e Done; leaf = x }
            ∷ (entries_by M mode placed body y
            ++ record { place = at; statement = If at e Done Done Done; leaf = going_on M u } ∷ entries_by M mode placed rest out)) b.0
            ∙ ap (λ l. record { place = place; statement = Do place body at e Done; leaf = x } ∷ l)
            (two _ _ _ _ b.2 (ap (λ l. record { place = at; statement = If at e Done Done Done; leaf = going_on M (P body t) } ∷ l) r.2)));
      }

  pub same_pass : (c : Code) (w : Ways) → AllByRecursion IsGiven (turns_by M mode K c w) → IsSame c w
  same_pass Done w h = record { after = refl; turns = refl; entries = refl }
  same_pass (Assign place x e rest) w h =
      let s = same_pass rest (onto w (assigned M mode x e w.behind)) h in
      record { after = s.after; turns = s.turns; entries = ap (λ l. record { place = place; statement = Assign place x e Done; leaf = w.behind } ∷ l) s.entries }
  same_pass (Input place x rest) w h =
      let s = same_pass rest (onto w (forgotten M x w.behind)) h in
      record { after = s.after; turns = s.turns; entries = ap (λ l. record { place = place; statement = Input place x Done; leaf = w.behind } ∷ l) s.entries }
  same_pass (Assert place e rest) w h =
      let s = same_pass rest (onto w (assumed M mode e true w.behind)) h in
      record { after = s.after; turns = s.turns; entries = ap (λ l. record { place = place; statement = Assert place e Done; leaf = w.behind } ∷ l) s.entries }
  same_pass (If place e p q rest) w h =
      let t = onto w (assumed M mode e true w.behind) in
      let a = P p t in
      let f = onto a (assumed M mode e false w.behind) in
      let b = P q f in
      let j = chosen M mode K e p q w in
      let tp = turns_by M mode K p t in
      let tq = turns_by M mode K q f in
      let tr = turns_by M mode K rest j in
      let behind = all_right IsGiven tp (tq ++ tr) h in
      let sp = same_pass p t (all_left IsGiven tp (tq ++ tr) h) in
      let no_in = onto (G p t) (assumed M mode e false w.behind) in
      let sq = from_same q no_in f (ap (λ u. onto u (assumed M mode e false w.behind)) sp.after) (same_pass q f (all_left IsGiven tq tr behind)) in
      let out = chosen M mode placed e p q w in
      let joined : out ≡ j =
      ap (λ (u : Ways). onto (G q no_in) (M.join u.behind (G q no_in).behind)) sp.after ∙ ap (λ (u : Ways). onto u (M.join a.behind u.behind)) sq.0 in
      let r = from_same rest out j joined (same_pass rest j (all_right IsGiven tq tr behind)) in
      record {
        after = r.0;
        turns = two _ _ _ _ sp.turns (two _ _ _ _ sq.1 r.1);
        entries = ap (λ l. record { place = place; statement = If place e p q Done; leaf = w.behind } ∷ l) (two _ _ _ _ sp.entries (two _ _ _ _ sq.2 r.2));
      }
  same_pass (While place e step body rest) w h =
      let l = TestFirst e step body in
      let x = head_by M mode K place l w.behind in
      let step_in = enter (going_on M (through_body M mode K l x)) in
      let body_in = enter (assumed M mode e true x) in
      let out = behind_by M mode K l w x in
      let ts = turns_by M mode K step step_in in
      let tb = turns_by M mode K body body_in in
      let tr = turns_by M mode K rest out in
      let behind = all_right IsGiven ts (tb ++ tr) h.1 in
      same_first place e step body rest w h.0 (same_pass step step_in (all_left IsGiven ts (tb ++ tr) h.1)) (same_pass body body_in (all_left IsGiven tb tr behind))
      (same_pass rest out (all_right IsGiven tb tr behind))
  same_pass (Do place body at e rest) w h =
      let l = TestLast body at e in
      let x = head_by M mode K place l w.behind in
      let out = behind_by M mode K l w x in
      let tb = turns_by M mode K body (enter x) in
      let tr = turns_by M mode K rest out in
      same_last place body at e rest w h.0 (same_pass body (enter x) (all_left IsGiven tb tr h.1)) (same_pass rest out (all_right IsGiven tb tr h.1))
  same_pass (Leave place jump rest) w h =
      let s = same_pass rest (leave_by M mode jump w) h in
      record { after = s.after; turns = s.turns; entries = ap (λ l. record { place = place; statement = Leave place jump Done; leaf = w.behind } ∷ l) s.entries }
  same_pass (Block place body rest) w h =
      let y = P body w in
      let sb = same_pass body w (all_left IsGiven (turns_by M mode K body w) (turns_by M mode K rest y) h) in
      let r = from_same rest (G body w) y sb.after (same_pass rest y (all_right IsGiven (turns_by M mode K body w) (turns_by M mode K rest y) h)) in
      record {
        after = r.0;
        turns = two _ _ _ _ sb.turns r.1;
        entries = ap (λ l. record { place = place; statement = Block place body Done; leaf = w.behind } ∷ l) (two _ _ _ _ sb.entries r.2);
      }
  same_pass (Skip place rest) w h =
      let s = same_pass rest w h in
      record { after = s.after; turns = s.turns; entries = ap (λ l. record { place = place; statement = Skip place Done; leaf = w.behind } ∷ l) s.entries }
  same_pass (Cond number p q rest) w h =
      let s = same_pass rest w h in
      record { after = s.after; turns = s.turns; entries = s.entries }

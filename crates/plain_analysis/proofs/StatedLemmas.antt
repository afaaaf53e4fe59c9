-- The loops of a program, each found at its place, and those of its parts.
use Rattle.std.proofs.Common.{◌≡◌, ℕ, List, [], ◌∷◌, ◌++◌, ◌<◌, map, length, get_or, if◌then◌else◌, Some, refl, ap, sym, subst, ◌∙◌}
use Rattle.std.specs.List.{AllByRecursion}
use Rattle.std.proofs.lemmas.List.{map-append}
use Rattle.fam_outer.specs.declared.faults.Place.{Place}
use Rattle.c_tree.specs.declared.tree.Stmt.{Stmt}
use Rattle.c_tree.specs.declared.tree.Stmt.TheOpen as stmt
use Rattle.c_tree.specs.declared.tree.Stmt.TheOpen.{Stmt-F}
use Rattle.c_tree.specs.Tree.{Code, Done, Assign, Input, Assert, If, While, Do, Leave, Block, Skip, Cond, Whole}
use Rattle.c_tree.specs.View.{front, code}
use Rattle.c_tree.specs.Places.{places_of, program_places}
use Rattle.c_tree.specs.Whole.{IsBeforeAll, IsRising}
use Rattle.c_tree.proofs.Views.{opened, by_layer, code-at}
use Rattle.plain_analysis.specs.Stated.{Statement, statements_of, statement_in, alone_of, IsLoopAt, HasLoopsOf}
use Rattle.plain_analysis.specs.Statements.{LoopParts, TestFirst, TestLast}
use Rattle.plain_analysis.proofs.Located.{same_place_self, before_other}

-- ---- places that rise are distinct

unfoldable where_of : Statement → Place
where_of s = s.place

unfoldable AreFound : List Statement → List Statement → Type 0
AreFound all ss = AllByRecursion (λ (s : Statement). statement_in all s.place ≡ Some s.alone) ss

found_behind : (s : Statement) (all ss : List Statement) (tail : List Place) → IsBeforeAll s.place (map where_of ss ++ tail) → AreFound all ss → AreFound (s ∷ all) ss
unfolding AreFound where_of
found_behind s all [] tail h k = k
found_behind s all (r ∷ ss) tail h k =
    (ap (λ b. if b then Some s.alone else statement_in all r.place) (before_other s.place r.place h.0) ∙ k.0, found_behind s all ss tail h.1 k.1)

all_found : (ss : List Statement) (tail : List Place) → IsRising (map where_of ss ++ tail) → AreFound ss ss
unfolding AreFound where_of
all_found [] tail h = tt
all_found (s ∷ ss) tail h = (ap (λ b. if b then Some s.alone else statement_in ss s.place) (same_place_self s.place), found_behind s ss ss tail h.0 (all_found ss tail h.1))

-- two lists of statements one after the other, at their places
both : (xs ys : List Statement) (ps qs : List Place) → map where_of xs ≡ ps → map where_of ys ≡ qs → map where_of (xs ++ ys) ≡ ps ++ qs
both xs ys ps qs e f = map-append where_of xs ys ∙ (ap (λ l. l ++ map where_of ys) e ∙ ap (λ l. ps ++ l) f)

places_of_statements : (c : Code) → map where_of (statements_of c) ≡ places_of c
unfolding where_of
places_of_statements Done = refl
places_of_statements (Assign place x e rest) = ap (λ l. place ∷ l) (places_of_statements rest)
places_of_statements (Input place x rest) = ap (λ l. place ∷ l) (places_of_statements rest)
places_of_statements (Assert place e rest) = ap (λ l. place ∷ l) (places_of_statements rest)
places_of_statements (If place e p q rest) =
    ap (λ l. place ∷ l) (both (statements_of p) (statements_of q ++ statements_of rest) _ _ (places_of_statements p)
    (both (statements_of q) (statements_of rest) _ _ (places_of_statements q) (places_of_statements rest)))
places_of_statements (While place e step body rest) =
    ap (λ l. place ∷ l) (both (statements_of step) (statements_of body ++ statements_of rest) _ _ (places_of_statements step)
    (both (statements_of body) (statements_of rest) _ _ (places_of_statements body) (places_of_statements rest)))
places_of_statements (Do place body at e rest) =
    ap (λ l. place ∷ l) (both (statements_of body) (_ ∷ statements_of rest) _ _ (places_of_statements body) (ap (λ l. at ∷ l) (places_of_statements rest)))
places_of_statements (Leave place jump rest) = ap (λ l. place ∷ l) (places_of_statements rest)
places_of_statements (Block place body rest) =
    ap (λ l. place ∷ l) (both (statements_of body) (statements_of rest) _ _ (places_of_statements body) (places_of_statements rest))
places_of_statements (Skip place rest) = ap (λ l. place ∷ l) (places_of_statements rest)
places_of_statements (Cond number p q rest) =
    both (statements_of p) (statements_of q ++ statements_of rest) _ _ (places_of_statements p)
    (both (statements_of q) (statements_of rest) _ _ (places_of_statements q) (places_of_statements rest))

found_first : (all xs ys : List Statement) → AreFound all (xs ++ ys) → AreFound all xs
unfolding AreFound
found_first all [] ys h = tt
found_first all (x ∷ xs) ys h = (h.0, found_first all xs ys h.1)

found_second : (all xs ys : List Statement) → AreFound all (xs ++ ys) → AreFound all ys
unfolding AreFound
found_second all [] ys h = h
found_second all (x ∷ xs) ys h = found_second all xs ys h.1

module _ (p : Whole) where
  abbrev all : List Statement
  all = statements_of p.body

  loops_found : (c : Code) → AreFound all (statements_of c) → HasLoopsOf p c
  unfolding AreFound
  loops_found Done h = tt
  loops_found (Assign place x e rest) h = loops_found rest h.1
  loops_found (Input place x rest) h = loops_found rest h.1
  loops_found (Assert place e rest) h = loops_found rest h.1
  loops_found (If place e a b rest) h =
      let behind = found_second all (statements_of a) (statements_of b ++ statements_of rest) h.1 in (
        loops_found a (found_first all (statements_of a) (statements_of b ++ statements_of rest) h.1),
        loops_found b (found_first all (statements_of b) (statements_of rest) behind),
        loops_found rest (found_second all (statements_of b) (statements_of rest) behind),
      )
  loops_found (While place e step body rest) h =
      let behind = found_second all (statements_of step) (statements_of body ++ statements_of rest) h.1 in (
        record { stands = h.0 },
        loops_found step (found_first all (statements_of step) (statements_of body ++ statements_of rest) h.1),
        loops_found body (found_first all (statements_of body) (statements_of rest) behind),
        loops_found rest (found_second all (statements_of body) (statements_of rest) behind),
      )
  loops_found (Do place body at e rest) h = (
    record { stands = h.0 },
    loops_found body (found_first all (statements_of body) (_ ∷ statements_of rest) h.1),
    loops_found rest (found_second all (statements_of body) (_ ∷ statements_of rest) h.1).1,
  )
  loops_found (Leave place jump rest) h = loops_found rest h.1
  loops_found (Block place body rest) h = (
    loops_found body (found_first all (statements_of body) (statements_of rest) h.1),
    loops_found rest (found_second all (statements_of body) (statements_of rest) h.1),
  )
  loops_found (Skip place rest) h = loops_found rest h.1
  loops_found (Cond number a b rest) h =
      let behind = found_second all (statements_of a) (statements_of b ++ statements_of rest) h in (
        loops_found a (found_first all (statements_of a) (statements_of b ++ statements_of rest) h),
        loops_found b (found_first all (statements_of b) (statements_of rest) behind),
        loops_found rest (found_second all (statements_of b) (statements_of rest) behind),
      )

  -- a program whose places rise has each of its loops at its place
  pub has_its_loops : IsRising (program_places p) → HasLoopsOf p p.body
  has_its_loops rising =
      loops_found p.body (all_found all (p.end ∷ []) (subst (λ l. IsRising (l ++ p.end ∷ [])) (sym (places_of_statements p.body)) rising))

  -- ---- the parts of what the program has

  loops-opened : (rest : Code) (x : Stmt-F Stmt) → HasLoopsOf p (opened x rest) → HasLoopsOf p (opened x Done) × HasLoopsOf p rest
  loops-opened rest (stmt.Assign place target value) h = (tt, h)
  loops-opened rest (stmt.Input place target) h = (tt, h)
  loops-opened rest (stmt.Assert place test) h = (tt, h)
  loops-opened rest (stmt.If place test a b) h = ((h.0, h.1, tt), h.2)
  loops-opened rest (stmt.While place test step body) h = ((h.0, h.1, h.2, tt), h.3)
  loops-opened rest (stmt.Do place body at test) h = ((h.0, h.1, tt), h.2)
  loops-opened rest (stmt.Leave place jump) h = (tt, h)
  loops-opened rest (stmt.Block place body) h = ((h.0, tt), h.1)
  loops-opened rest (stmt.Skip place) h = (tt, h)
  loops-opened rest (stmt.Cond number a b) h = ((h.0, h.1, tt), h.2)

  loops-front : (s : Stmt) (rest : Code) → HasLoopsOf p (front s rest) → HasLoopsOf p (front s Done) × HasLoopsOf p rest
  loops-front s rest = by_layer (λ f. HasLoopsOf p (f rest) → HasLoopsOf p (f Done) × HasLoopsOf p rest) (loops-opened rest) s

  pub loops-at : (list : List Stmt) (i : ℕ) (s : Stmt) → i < length list → s ≡ get_or list i s → HasLoopsOf p (code list) → HasLoopsOf p (front s Done)
  loops-at = code-at (HasLoopsOf p) loops-front

  -- what a list has, a list of the same statements has
  pub loops_same : (l k : List Stmt) → l ≡ k → HasLoopsOf p (code k) → HasLoopsOf p (code l)
  loops_same l k e h = subst (λ x. HasLoopsOf p (code x)) (sym e) h

-- at one place stands one loop
alone_once : (place : Place) (l k : LoopParts) → alone_of place l ≡ alone_of place k → l ≡ k
alone_once place (TestFirst e s a) (TestFirst f t b) h = cc
alone_once place (TestFirst e s a) (TestLast b at f) h = cc
alone_once place (TestLast a at e) (TestFirst f t b) h = cc
alone_once place (TestLast a at e) (TestLast b there f) h = cc

pub one_loop : (p : Whole) (place : Place) (l k : LoopParts) → IsLoopAt p place l → IsLoopAt p place k → l ≡ k
one_loop p place l k h i =
    let same : Some (alone_of place l) ≡ Some (alone_of place k) = sym h.stands ∙ i.stands in
    let alone : alone_of place l ≡ alone_of place k = cc in
    alone_once place l k alone

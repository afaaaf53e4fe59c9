-- What at most so many steps of a run come to from the stores of a leaf.
use Rattle.std.proofs.Common.{◌≡◌, ℕ, zero, suc, ◌<◌, ◌≤◌, ℤ, pos, true, false, List, [], ◌∷◌, ◌++◌, Option, Some, None, refl, ap, sym, ◌∙◌, subst, arith}
use Rattle.std.specs.Prelude.{Result, Ok, Err, slice_get}
use Rattle.std.specs.List.{All, AllByRecursion, Contains}
use Rattle.std.proofs.lemmas.Bool.{false≢true}
use Rattle.std.proofs.lemmas.Int.{ints}
use Rattle.fam_outer.specs.declared.faults.Place.{Place}
use Rattle.c_tree.specs.declared.tree.Kind.{Kind}
use Rattle.c_tree.specs.declared.tree.Mode.{Mode}
use Rattle.c_tree.specs.Tree.{Break, Continue, Code, Done, If, While, Do, followed}
use Rattle.c_tree.specs.Value.{is_zero, IsInt}
use Rattle.c_tree.specs.Fit.{IsCodeOf, IsPlain}
use Rattle.c_tree.specs.Run.{Level, Standing, standing, settled, left_by, Outcome, with_value, with_input, step_of, cut_of, onward, steps_of, End, AtEnd}
use Rattle.leaf_domain.specs.Leaves.{LeafValue, LeafMeaning, LeafLaws}
use Rattle.leaf_domain.specs.Stops.{may_at}
use Rattle.leaf_domain.specs.Soundness.{TransferAnswers, TransferHolds}
use Rattle.plain_analysis.specs.declared.alarm.Alarm.{Alarm}
use Rattle.plain_analysis.specs.Promises.{IsForeseen, AreHeld}
use Rattle.plain_analysis.specs.Stated.{alone_of, ArePartsOf}
use Rattle.plain_analysis.specs.Statements.{Heads, Entry, LoopParts, TestFirst, TestLast, passed, inside, body_of, through_body, lap, failing, entries_by}
use Rattle.plain_analysis.specs.Ways.{Ways, enter, going_on}
use Rattle.plain_analysis.proofs.Kept.{IsLeaf, AreLeaves, Grows, Kept, passed_kept}

pub zero_from_test : (n : ℤ) → is_zero n ≡ true → n ≡ pos 0
zero_from_test n e = grind (arith, ints)

pub nonzero_from_test : (n : ℤ) → is_zero n ≡ false → n ≡ pos 0 → ⊥
nonzero_from_test n e z = absurd (false≢true (sym e ∙ ap is_zero z))

pub got_int : (xs : List ℤ) (k : ℕ) (n : ℤ) → AllByRecursion IsInt xs → slice_get xs k ≡ Some n → IsInt n
got_int [] k n h e = cc
got_int (x ∷ xs) zero n h e = let same : x ≡ n = cc in subst IsInt same h.0
got_int (x ∷ xs) (suc k) n h e = got_int xs k n h.1 e

pub all_first : {X : Type 0} (P : X → Type 0) (xs ys : List X) → AllByRecursion P (xs ++ ys) → AllByRecursion P xs
all_first P [] ys h = tt
all_first P (x ∷ xs) ys h = (h.0, all_first P xs ys h.1)

pub all_second : {X : Type 0} (P : X → Type 0) (xs ys : List X) → AllByRecursion P (xs ++ ys) → AllByRecursion P ys
all_second P [] ys h = h
all_second P (x ∷ xs) ys h = all_second P xs ys h.1

-- a pass, runs over these inputs, and what is said of both
pub record Setting : Type 1 where
  pub M : LeafMeaning
  pub laws : LeafLaws M
  pub mode : Mode
  pub H : Heads
  pub A : TransferAnswers M mode
  pub T : TransferHolds M mode
  pub count : ℕ
  pub inputs : List ℤ
  pub ints : All IsInt inputs
  pub at : Place → LeafValue
  pub end : Place
  pub alarms : List Alarm

-- the leaf at the entry's place is its own, and its stops are among the alarms
pub record Known (S : Setting) (e : Entry) : Type 0 where
  pub leaf : S.at e.place ≡ e.leaf
  pub stops : (kind : Kind) → may_at S.M S.mode kind e.statement e.leaf ≡ true → Contains S.alarms (record { place = e.place; kind = kind })

abbrev pub Seen : Setting → End → Type 0
Seen S e = IsForeseen S.M S.at S.end S.alarms e

abbrev pub walk : Setting → ℕ → Standing → End
walk S m s = steps_of S.mode S.inputs m s

abbrev pub pass : Setting → Code → Ways → Ways
pass S c w = passed S.M S.mode S.H c w

-- from each store of a leaf, what at most n steps come to from where it leads
pub record Fine (S : Setting) (n : ℕ) (go : List ℤ → ℕ → Standing) (v : LeafValue) : Type 0 where
  pub run : (m : ℕ) (s : List ℤ) (taken : ℕ) → m ≤ n → S.M.holds v s → Seen S (walk S m (settled (go s taken)))

-- where the jumps lead
pub record Exits (S : Setting) (n : ℕ) (ls : List Level) (w : Ways) : Type 0 where
  pub broke : Fine S n (left_by Break ls) w.broke
  pub continued : Fine S n (left_by Continue ls) w.continued
  pub returned : Fine S n (standing Done []) w.returned

-- no step
pub record Cut (S : Setting) (c : Code) (v : LeafValue) : Type 0 where
  pub cut : (s : List ℤ) → S.M.holds v s → Seen S (cut_of c s)

-- one step, and then at most n
pub record Next (S : Setting) (n : ℕ) (c : Code) (ls : List Level) (v : LeafValue) : Type 0 where
  pub next : (m : ℕ) (s : List ℤ) (taken : ℕ) → m ≤ n → S.M.holds v s → Seen S (onward (step_of S.mode S.inputs c ls s taken) s (walk S m))

-- what is known of statements, behind which so much was passed
pub record Good (S : Setting) (c : Code) (w : Ways) : Type 0 where
  pub leaves : AreLeaves S.M S.count w
  pub names : IsCodeOf S.count c
  pub plain : IsPlain c
  pub known : AllByRecursion (Known S) (entries_by S.M S.mode S.H c w)
  pub held : AreHeld S.M S.mode S.H c w

abbrev pub body_from : Setting → LoopParts → LeafValue → Ways
body_from S l x = through_body S.M S.mode S.H l x

-- what is known of what comes behind a loop's body: its step, or the test that stands last
abbrev pub Turning : Setting → LoopParts → LeafValue → Type 0
Turning S (TestFirst e step body) x = Good S step (enter (going_on S.M (body_from S (TestFirst e step body) x)))
Turning S (TestLast body at e) x = Known S (record { place = at; statement = If at e Done Done Done; leaf = going_on S.M (body_from S (TestLast body at e) x) })

-- what is known of a loop whose head has x
pub record GoodLoop (S : Setting) (place : Place) (l : LoopParts) (x : LeafValue) : Type 0 where
  pub leaf : IsLeaf S.M S.count x
  pub parts : ArePartsOf S.count l
  pub known : Known S (record { place = place; statement = alone_of place l; leaf = x })
  pub in_body : Good S (body_of l) (enter (inside S.M S.mode l x))
  pub turning : Turning S l x
  pub again : (s : List ℤ) → S.M.holds (lap S.M S.mode S.H l x) s → S.M.holds x s

-- a loop before others
abbrev pub loop_code : Place → LoopParts → Code → Code
loop_code place (TestFirst e step body) k = While place e step body k
loop_code place (TestLast body at e) k = Do place body at e k

abbrev pub again_of : Place → LoopParts → Code → Code
again_of place (TestFirst e step body) k = followed step (While place e step body k)
again_of place (TestLast body at e) k = If at e (Do place body at e Done) Done k

abbrev pub level_of : Place → LoopParts → Code → Level
level_of place l k = record { again = again_of place l k; out = k }

-- what follows a loop whose head has x: behind it, and from its body's returns
pub record After (S : Setting) (n : ℕ) (l : LoopParts) (k : Code) (ls : List Level) (x : LeafValue) : Type 0 where
  pub failed : Fine S n (standing k ls) (failing S.M S.mode S.H l x)
  pub broke : Fine S n (standing k ls) (body_from S l x).broke
  pub returned : Fine S n (standing Done []) (body_from S l x).returned

pub record Sound (S : Setting) (n : ℕ) : Type 0 where
  -- statements before others, in loops that are entered
  pub statements : (c : Code) (w : Ways) (k : Code) (ls : List Level) → Good S c w → Fine S n (standing k ls) (pass S c w).behind → Exits S n ls (pass S c w) → Fine S n (standing (followed c k) ls) w.behind
  -- a loop at its head's leaf, before others
  pub loops : (place : Place) (l : LoopParts) (k : Code) (ls : List Level) (x : LeafValue) → GoodLoop S place l x → ((m : ℕ) → m < n → After S m l k ls x) → Fine S n (standing (loop_code place l k) ls) x

module _ (S : Setting) where
  pub kept : (c : Code) (w : Ways) → Good S c w → Kept S.M S.count w (pass S c w)
  kept c w g = passed_kept S.M S.laws S.mode S.A S.count S.H c w g.leaves g.names g.held

  -- ---- fewer steps, and fewer stores

  pub less : (n m : ℕ) (go : List ℤ → ℕ → Standing) (v : LeafValue) → m ≤ n → Fine S n go v → Fine S m go v
  less n m go v l f = record { run = λ i s taken k h. f.run i s taken (omega arith) h }

  pub finer : (n : ℕ) (go : List ℤ → ℕ → Standing) (v w : LeafValue) → ((s : List ℤ) → S.M.holds w s → S.M.holds v s) → Fine S n go v → Fine S n go w
  finer n go v w g f = record { run = λ i s taken k h. f.run i s taken k (g s h) }

  pub exits_less : (n m : ℕ) (ls : List Level) (w : Ways) → m ≤ n → Exits S n ls w → Exits S m ls w
  exits_less n m ls w l f = record { broke = less n m _ w.broke l f.broke; continued = less n m _ w.continued l f.continued; returned = less n m _ w.returned l f.returned }

  pub exits_finer : (n : ℕ) (ls : List Level) (w u : Ways) → Grows S.M w u → Exits S n ls u → Exits S n ls w
  exits_finer n ls w u g f = record {
    broke = finer n _ u.broke w.broke g.broke f.broke;
    continued = finer n _ u.continued w.continued g.continued f.continued;
    returned = finer n _ u.returned w.returned g.returned f.returned;
  }

  -- ---- no step, and one step

  pub none_made : (c : Code) (ls : List Level) (v : LeafValue) → ((s : List ℤ) (taken : ℕ) → settled (standing c ls s taken) ≡ standing c ls s taken) → Cut S c v → Fine S 0 (standing c ls) v
  none_made c ls v same h = record { run = by_count }
    where
      by_count : (m : ℕ) (s : List ℤ) (taken : ℕ) → m ≤ 0 → S.M.holds v s → Seen S (walk S m (settled (standing c ls s taken)))
      by_count zero s taken l k = subst (λ t. Seen S (walk S 0 t)) (sym (same s taken)) (h.cut s k)
      by_count (suc m) s taken l k = absurd (omega arith)

  pub made : (n : ℕ) (c : Code) (ls : List Level) (v : LeafValue) → ((s : List ℤ) (taken : ℕ) → settled (standing c ls s taken) ≡ standing c ls s taken) → Cut S c v → Next S n c ls v → Fine S (suc n) (standing c ls) v
  made n c ls v same h f = record { run = by_count }
    where
      by_count : (m : ℕ) (s : List ℤ) (taken : ℕ) → m ≤ suc n → S.M.holds v s → Seen S (walk S m (settled (standing c ls s taken)))
      by_count zero s taken l k = subst (λ t. Seen S (walk S 0 t)) (sym (same s taken)) (h.cut s k)
      by_count (suc m) s taken l k = subst (λ t. Seen S (walk S (suc m) t)) (sym (same s taken)) (f.next m s taken (omega arith) k)

  -- a place's leaf has each store of its entry's
  pub at_place : (e : Entry) (s : List ℤ) → Known S e → S.M.holds e.leaf s → S.M.holds (S.at e.place) s
  at_place e s h k = subst (λ v. S.M.holds v s) (sym h.leaf) k

  pub cut_at : (c : Code) (e : Entry) → Known S e → ((s : List ℤ) → cut_of c s ≡ AtEnd e.place s) → Cut S c e.leaf
  cut_at c e h same = record { cut = λ s k. subst (Seen S) (sym (same s)) (at_place e s h k) }

  -- goes on by a value, or stops
  pub by_value : (r : Result ℤ Kind) (place : Place) (go : ℤ → Outcome) (s : List ℤ) (m : ℕ)
      → ((n : ℤ) → r ≡ Ok n → Seen S (onward (go n) s (walk S m)))
      → ((kind : Kind) → r ≡ Err kind → Contains S.alarms (record { place = place; kind = kind }))
      → Seen S (onward (with_value place r go) s (walk S m))
  by_value (Ok n) place go s m f g = f n refl
  by_value (Err kind) place go s m f g = g kind refl

  -- goes on by an input, or waits
  pub by_input : (r : Option ℤ) (place : Place) (go : ℤ → Outcome) (s : List ℤ) (m : ℕ)
      → ((n : ℤ) → r ≡ Some n → Seen S (onward (go n) s (walk S m)))
      → S.M.holds (S.at place) s
      → Seen S (onward (with_input place r go) s (walk S m))
  by_input (Some n) place go s m f h = f n refl
  by_input None place go s m f h = h

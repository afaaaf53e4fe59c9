-- What lists of statements make of what was passed, statement by statement.
use Rattle.std.proofs.Common.{◌≡◌, ℕ, List, [], ◌∷◌, ◌++◌, ◌+◌, ◌<◌, take, length, get_or, true, refl, ap, sym, subst, ◌∙◌, append_assoc}
use Rattle.fam_outer.specs.declared.faults.Place.{Place}
use Rattle.std.specs.declared.vec.Vec.{Vec}
use Rattle.std.specs.declared.alloc.Global.{Global}
use Rattle.c_tree.specs.declared.tree.Expr.{Expr}
use Rattle.c_tree.specs.declared.tree.Jump as rust
use Rattle.c_tree.specs.declared.tree.Mode.{Mode}
use Rattle.c_tree.specs.declared.tree.Stmt.{Stmt}
use Rattle.c_tree.specs.declared.tree.Stmt.TheVariants as variant
use Rattle.c_tree.specs.declared.tree.Stmt.TheViews.{outs-If, outs-While, outs-Do, outs-Leave, outs-Block}
use Rattle.c_tree.specs.Tree.{Code, Done, Assign, Input, Assert, If, While, Do, Leave, Block, Skip, Cond, followed}
use Rattle.c_tree.specs.View.{term, jump_of, front, code}
use Rattle.c_tree.specs.Fit.{IsCodeOf}
use Rattle.c_tree.proofs.Views.{front_out, code-at, code-take_more, IsCodeOf-front}
use Rattle.leaf_domain.specs.Leaves.{LeafMeaning}
use Rattle.leaf_domain.specs.Transfer.{assumed, assigned, forgotten}
use Rattle.plain_analysis.specs.declared.options.Options.{Options}
use Rattle.plain_analysis.specs.Loops.{final_leaf}
use Rattle.plain_analysis.specs.Statements.{Heads, Entry, LoopParts, TestFirst, TestLast, passed, chosen, head_by, behind_by, final_heads, after_of, lap_of, entries_by, entries_of}
use Rattle.plain_analysis.specs.Ways.{Ways, onto, leave_by}

-- ---- one list after another

module _ (M : LeafMeaning) (mode : Mode) (H : Heads) where
  pub passed-followed : (a b : Code) (w : Ways) → passed M mode H (followed a b) w ≡ passed M mode H b (passed M mode H a w)
  passed-followed Done b w = refl
  passed-followed (Assign place x e rest) b w = passed-followed rest b (onto w (assigned M mode x e w.behind))
  passed-followed (Input place x rest) b w = passed-followed rest b (onto w (forgotten M x w.behind))
  passed-followed (Assert place e rest) b w = passed-followed rest b (onto w (assumed M mode e true w.behind))
  passed-followed (If place e p q rest) b w = passed-followed rest b (chosen M mode H e p q w)
  passed-followed (While place e step body rest) b w =
      passed-followed rest b (behind_by M mode H (TestFirst e step body) w (head_by M mode H place (TestFirst e step body) w.behind))
  passed-followed (Do place body at e rest) b w =
      passed-followed rest b (behind_by M mode H (TestLast body at e) w (head_by M mode H place (TestLast body at e) w.behind))
  passed-followed (Leave place jump rest) b w = passed-followed rest b (leave_by M mode jump w)
  passed-followed (Block place body rest) b w = passed-followed rest b (passed M mode H body w)
  passed-followed (Skip place rest) b w = passed-followed rest b w
  passed-followed (Cond number p q rest) b w = passed-followed rest b w

  one_more : (ys zs : List Entry) (e : Entry) → zs ≡ ys → e ∷ zs ≡ e ∷ ys
  one_more ys zs e h = ap (λ l. e ∷ l) h

  two_more : (xs ys zs us : List Entry) (e : Entry) → zs ≡ ys ++ us → e ∷ (xs ++ zs) ≡ (e ∷ (xs ++ ys)) ++ us
  two_more xs ys zs us e h = ap (λ l. e ∷ (xs ++ l)) h ∙ ap (λ l. e ∷ l) (sym (append_assoc xs ys us))

  three_more : (xs ys zs us ws : List Entry) (e : Entry) → us ≡ zs ++ ws → e ∷ (xs ++ (ys ++ us)) ≡ (e ∷ (xs ++ (ys ++ zs))) ++ ws
  three_more xs ys zs us ws e h =
      ap (λ l. e ∷ (xs ++ (ys ++ l))) h ∙ (ap (λ l. e ∷ (xs ++ l)) (sym (append_assoc ys zs ws)) ∙ ap (λ l. e ∷ l) (sym (append_assoc xs (ys ++ zs) ws)))

  pub entries-followed : (a b : Code) (w : Ways) → entries_by M mode H (followed a b) w ≡ entries_by M mode H a w ++ entries_by M mode H b (passed M mode H a w)
  entries-followed Done b w = refl
  entries-followed (Assign place x e rest) b w = one_more _ _ _ (entries-followed rest b (onto w (assigned M mode x e w.behind)))
  entries-followed (Input place x rest) b w = one_more _ _ _ (entries-followed rest b (onto w (forgotten M x w.behind)))
  entries-followed (Assert place e rest) b w = one_more _ _ _ (entries-followed rest b (onto w (assumed M mode e true w.behind)))
  entries-followed (If place e p q rest) b w = three_more _ _ _ _ _ _ (entries-followed rest b (chosen M mode H e p q w))
  entries-followed (While place e step body rest) b w =
      three_more _ _ _ _ _ _ (entries-followed rest b (behind_by M mode H (TestFirst e step body) w (head_by M mode H place (TestFirst e step body) w.behind)))
  entries-followed (Do place body at e rest) b w =
      three_more _ (_ ∷ []) _ _ _ _ (entries-followed rest b (behind_by M mode H (TestLast body at e) w (head_by M mode H place (TestLast body at e) w.behind)))
  entries-followed (Leave place jump rest) b w = one_more _ _ _ (entries-followed rest b (leave_by M mode jump w))
  entries-followed (Block place body rest) b w = two_more _ _ _ _ _ (entries-followed rest b (passed M mode H body w))
  entries-followed (Skip place rest) b w = one_more _ _ _ (entries-followed rest b w)
  entries-followed (Cond number p q rest) b w = entries-followed rest b w

module _ (M : LeafMeaning) (o : Options) where
  pub after_of-followed : (a b : Code) (w : Ways) → after_of M o (followed a b) w ≡ after_of M o b (after_of M o a w)
  after_of-followed = passed-followed M o.mode (final_heads M o)

  pub entries_of-followed : (a b : Code) (w : Ways) → entries_of M o (followed a b) w ≡ entries_of M o a w ++ entries_of M o b (after_of M o a w)
  entries_of-followed = entries-followed M o.mode (final_heads M o)

  -- one more statement of a list
  pub after_of-take_more : (list : List Stmt) (i : ℕ) (s : Stmt) (w : Ways) → i < length list → s ≡ get_or list i s
      → after_of M o (code (take (i + 1) list)) w ≡ after_of M o (front s Done) (after_of M o (code (take i list)) w)
  after_of-take_more list i s w h e = ap (λ c. after_of M o c w) (code-take_more list i s h e) ∙ after_of-followed (code (take i list)) (front s Done) w

  pub entries_of-take_more : (list : List Stmt) (i : ℕ) (s : Stmt) (w : Ways) → i < length list → s ≡ get_or list i s
      → entries_of M o (code (take (i + 1) list)) w ≡ entries_of M o (code (take i list)) w ++ entries_of M o (front s Done) (after_of M o (code (take i list)) w)
  entries_of-take_more list i s w h e = ap (λ c. entries_of M o c w) (code-take_more list i s h e) ∙ entries_of-followed (code (take i list)) (front s Done) w

pub IsCodeOf-at : (count : ℕ) (list : List Stmt) (i : ℕ) (s : Stmt) → i < length list → s ≡ get_or list i s → IsCodeOf count (code list) → IsCodeOf count (front s Done)
IsCodeOf-at count = code-at (IsCodeOf count) (IsCodeOf-front count)

-- ---- the tree of a statement

pub front-If : (place : Place) (e : Expr) (p q : Vec Stmt Global) → front (variant.If place e p q) Done ≡ If place (term e) (code p.items) (code q.items) Done
front-If place e p q = rw (front_out, outs-If) refl

pub front-While : (place : Place) (e : Expr) (step body : Vec Stmt Global) → front (variant.While place e step body) Done ≡ While place (term e) (code step.items) (code body.items) Done
front-While place e step body = rw (front_out, outs-While) refl

pub front-Do : (place : Place) (body : Vec Stmt Global) (at : Place) (e : Expr) → front (variant.Do place body at e) Done ≡ Do place (code body.items) at (term e) Done
front-Do place body at e = rw (front_out, outs-Do) refl

pub front-Leave : (place : Place) (jump : rust.Jump) → front (variant.Leave place jump) Done ≡ Leave place (jump_of jump) Done
front-Leave place jump = rw (front_out, outs-Leave) refl

pub front-Block : (place : Place) (body : Vec Stmt Global) → front (variant.Block place body) Done ≡ Block place (code body.items) Done
front-Block place body = rw (front_out, outs-Block) refl

-- what is fit for a list is fit for a list of the same statements, and over as many variables
pub fit_same : (count : ℕ) (l k : List Stmt) → l ≡ k → IsCodeOf count (code k) → IsCodeOf count (code l)
fit_same count l k e h = subst (λ x. IsCodeOf count (code x)) (sym e) h

pub fit_over : (c : Code) (n m : ℕ) → m ≡ n → IsCodeOf n c → IsCodeOf m c
fit_over c n m e h = subst (λ k. IsCodeOf k c) (sym e) h

-- what a loop makes of what was passed, by lists of the same statements
module _ (M : LeafMeaning) (o : Options) where
  -- behind a loop whose head has its final leaf
  abbrev pub behind_final : LoopParts → Ways → Ways
  behind_final l w = behind_by M o.mode (final_heads M o) l w (final_leaf M o (lap_of M o l) w.behind)

  pub after-While : (s : Stmt) (place : Place) (e : Expr) (step body : Vec Stmt Global) (l m : List Stmt) (w : Ways) → s ≡ variant.While place e step body → l ≡ step.items → m ≡ body.items
      → behind_final (TestFirst (term e) (code l) (code m)) w ≡ after_of M o (front s Done) w
  after-While s place e step body l m w h i j =
      ap (λ x. behind_final (TestFirst (term e) (code x) (code m)) w) i
      ∙ (ap (λ x. behind_final (TestFirst (term e) (code step.items) (code x)) w) j
      ∙ sym (ap (λ s. after_of M o (front s Done) w) h ∙ ap (λ c. after_of M o c w) (front-While place e step body)))

  pub after-Do : (s : Stmt) (place : Place) (body : Vec Stmt Global) (at : Place) (e : Expr) (l : List Stmt) (w : Ways) → s ≡ variant.Do place body at e → l ≡ body.items
      → behind_final (TestLast (code l) at (term e)) w ≡ after_of M o (front s Done) w
  after-Do s place body at e l w h i =
      ap (λ x. behind_final (TestLast (code x) at (term e)) w) i
      ∙ sym (ap (λ s. after_of M o (front s Done) w) h ∙ ap (λ c. after_of M o c w) (front-Do place body at e))

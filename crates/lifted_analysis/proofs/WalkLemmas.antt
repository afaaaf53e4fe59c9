-- What statements of a family do at a vector, whatever loops have at their heads.
use Rattle.std.proofs.Common.{◌≡◌, ℕ, ◌+◌, ◌<◌, List, Bool, true, false, ◌&&◌, if◌then◌else◌, cond, take, length, get_or, refl, ap, sym, subst, ◌∙◌, Result, Ok, Err, IfOk}
use Rattle.std.specs.Prelude.{slice_index_or, OnOk}
use Rattle.std.specs.List.{All}
use Rattle.fam_outer.specs.declared.faults.Place.{Place}
use Rattle.std.specs.declared.vec.Vec.{Vec}
use Rattle.std.specs.declared.alloc.Global.{Global}
use Rattle.c_tree.specs.declared.tree.Expr.{Expr}
use Rattle.c_tree.specs.declared.tree.Jump as jumps
use Rattle.c_tree.specs.declared.tree.Stmt.{Stmt}
use Rattle.c_tree.specs.declared.tree.Stmt.TheVariants as variant
use Rattle.c_tree.specs.Tree.{Code, Done}
use Rattle.c_tree.specs.View.{term, jump_of, front, code}
use Rattle.c_tree.specs.Project.{projected}
use Rattle.c_tree.proofs.Listed.{projected-take_more, projected-Cond}
use Rattle.decision_tree.specs.declared.tree.Tree.{Tree}
use Rattle.decision_tree.specs.Plain.{Plain, leaf_of}
use Rattle.decision_tree.specs.Listed.{Keeps}
use Rattle.decision_tree.specs.Numbered.{erase}
use Rattle.decision_tree.specs.View.{numbered, plain}
use Rattle.leaf_domain.specs.Leaves.{LeafValue, LeafMeaning, LeafLaws, nothing_of}
use Rattle.leaf_domain.specs.Soundness.{TransferAnswers}
use Rattle.plain_analysis.specs.Statements.{Heads, LoopParts, TestFirst, TestLast, passed, head_by}
use Rattle.plain_analysis.specs.declared.ways.Ways as rust
use Rattle.plain_analysis.specs.Ways.{Ways, leave_by}
use Rattle.plain_analysis.proofs.Listed.{passed-followed, front-If, front-While, front-Do, front-Block, front-Leave}
use Rattle.lifted_analysis.specs.declared.family_context.FamilyContext.{FamilyContext}
use Rattle.lifted_analysis.specs.declared.finals.Finals.{Finals}
use Rattle.lifted_analysis.specs.declared.rule.Rule.{Rule}
use Rattle.lifted_analysis.specs.declared.rule.Rule.TheVariants as rule
use Rattle.lifted_analysis.specs.Finals.{Remembers}
use Rattle.lifted_analysis.specs.declared.lines.LoopLine.{LoopLine}
use Rattle.lifted_analysis.specs.Lines.{AreVariableBounds, given_heads}
use Rattle.lifted_analysis.specs.Rules.{heads_where, IsRuleOf, chosen_heads, ruled_heads, passed_with, sides_with, head_with, behind_with, IsRuled, Knows}
use Rattle.lifted_analysis.specs.States.{IsState, IsLifted, AreMade, truths_in}
use Rattle.lifted_analysis.specs.Steps.{kept_by, parts_at}
use Rattle.lifted_analysis.proofs.FamilyLemmas.{front-Skip}
use Rattle.lifted_analysis.proofs.FinalsLemmas.{memory_stays}
use Rattle.lifted_analysis.proofs.PassedLemmas.{AreFit, final_fit, given_fit}
use Rattle.lifted_analysis.proofs.StateLemmas.{state_stays, state_as, counted}

module _ (M : LeafMeaning) (family : FamilyContext) (H : List Bool → Heads) where
  -- one more statement of a list
  pub passed_with-more : (list : List Stmt) (i : ℕ) (s : Stmt) (v : List Bool) (w : Ways) → i < length list → s ≡ get_or list i s
      → passed_with M family H (code (take (i + 1) list)) v w ≡ passed_with M family H (front s Done) v (passed_with M family H (code (take i list)) v w)
  passed_with-more list i s v w h e =
      let ts = truths_in family.choices.now v in
      ap (λ c. passed M family.options.now.mode (H v) c w) (projected-take_more ts list i s h e)
      ∙ passed-followed M family.options.now.mode (H v) (projected ts (code (take i list))) (projected ts (front s Done)) w

  -- a statement by its tree
  so : (s t : Stmt) (c : Code) (v : List Bool) (w : Ways) → s ≡ t → front t Done ≡ c → passed_with M family H c v w ≡ passed_with M family H (front s Done) v w
  so s t c v w h e = ap (λ x. passed_with M family H x v w) (sym (ap (λ s. front s Done) h ∙ e))

  pub passed_with-If : (s : Stmt) (place : Place) (e : Expr) (p q : Vec Stmt Global) (v : List Bool) (w : Ways) → s ≡ variant.If place e p q
      → sides_with M family H (term e) (code p.items) (code q.items) v w ≡ passed_with M family H (front s Done) v w
  passed_with-If s place e p q v w h = so s (variant.If place e p q) _ v w h (front-If place e p q)

  pub passed_with-While : (s : Stmt) (place : Place) (e : Expr) (step body : Vec Stmt Global) (v : List Bool) (w : Ways) → s ≡ variant.While place e step body
      → (let l = TestFirst (term e) (code step.items) (code body.items) in behind_with M family H l v w (head_with M family H place l v w.behind)) ≡ passed_with M family H (front s Done) v w
  passed_with-While s place e step body v w h = so s (variant.While place e step body) _ v w h (front-While place e step body)

  pub passed_with-Do : (s : Stmt) (place : Place) (body : Vec Stmt Global) (at : Place) (e : Expr) (v : List Bool) (w : Ways) → s ≡ variant.Do place body at e
      → (let l = TestLast (code body.items) at (term e) in behind_with M family H l v w (head_with M family H place l v w.behind)) ≡ passed_with M family H (front s Done) v w
  passed_with-Do s place body at e v w h = so s (variant.Do place body at e) _ v w h (front-Do place body at e)

  pub passed_with-Leave : (s : Stmt) (place : Place) (jump : jumps.Jump) (v : List Bool) (w : Ways) → s ≡ variant.Leave place jump
      → leave_by M family.options.now.mode (jump_of jump) w ≡ passed_with M family H (front s Done) v w
  passed_with-Leave s place jump v w h = so s (variant.Leave place jump) _ v w h (front-Leave place jump)

  pub passed_with-Block : (s : Stmt) (place : Place) (body : Vec Stmt Global) (v : List Bool) (w : Ways) → s ≡ variant.Block place body
      → passed_with M family H (code body.items) v w ≡ passed_with M family H (front s Done) v w
  passed_with-Block s place body v w h = so s (variant.Block place body) _ v w h (front-Block place body)

  pub passed_with-Skip : (s : Stmt) (place : Place) (v : List Bool) (w : Ways) → s ≡ variant.Skip place → w ≡ passed_with M family H (front s Done) v w
  passed_with-Skip s place v w h = so s (variant.Skip place) _ v w h (front-Skip place)

  chosen : (b : Bool) (v : List Bool) (p q : Code) (w : Ways) → (if b then passed M family.options.now.mode (H v) p w else passed M family.options.now.mode (H v) q w) ≡ passed M family.options.now.mode (H v) (cond b p q) w
  chosen true v p q w = refl
  chosen false v p q w = refl

  -- a section of groups, by the truth of its condition
  pub passed_with-Cond : (s : Stmt) (number : ℕ) (p q : Vec Stmt Global) (b : Bool) (v : List Bool) (w : Ways) → s ≡ variant.Cond number p q
      → slice_index_or (truths_in family.choices.now v) number false ≡ b
      → (if b then passed_with M family H (code p.items) v w else passed_with M family H (code q.items) v w) ≡ passed_with M family H (front s Done) v w
  passed_with-Cond s number p q b v w h e =
      let ts = truths_in family.choices.now v in
      chosen b v (projected ts (code p.items)) (projected ts (code q.items)) w
      ∙ ap (λ c. passed M family.options.now.mode (H v) c w) (sym (ap (λ s. projected ts (front s Done)) h ∙ projected-Cond ts number p q b e))

-- heads of statements in a group
pub heads_within : (a b c : Bool) (H : Heads) → c ≡ (a && b) → heads_where c H ≡ heads_where b (heads_where a H)
heads_within true true c H e = ap (λ d. heads_where d H) e
heads_within true false c H e = ap (λ d. heads_where d H) e
heads_within false true c H e = ap (λ d. heads_where d H) e
heads_within false false c H e = ap (λ d. heads_where d H) e

-- ---- what is known of loops, in a forest that grows

module _ {L : Type 0} (value : L → LeafValue) (M : LeafMeaning) (family : FamilyContext) where
  ruled_stays : (a b : List (Plain L)) (r : Rule L) → Keeps a b → IsRuled value M family a r → IsRuled value M family b r
  ruled_stays a b rule.Rounds k h = tt
  ruled_stays a b (rule.Lines start index) k h = (record { state = state_stays value family a b (numbered start) k h.0.state; valid = h.0.valid }, h.1)

  -- heads are leaves of the kind
  pub ruled_fit : LeafLaws M → TransferAnswers M family.options.now.mode → (forest : List (Plain L)) (r : Rule L) (v : List Bool) → IsRuled value M family forest r
      → All (λ (l : LoopLine). AreVariableBounds family.variables l.bounds) family.lines.now → AreFit M family.options.now.mode family.variables (ruled_heads value M family r v)
  ruled_fit laws A forest rule.Rounds v h i = final_fit M laws family.options.now A family.variables
  ruled_fit laws A forest (rule.Lines start index) v h i =
      let d = value (leaf_of (plain start) v) in
      let n : d.variables ≡ family.variables = counted value family forest (numbered start) v h.0.state in
      subst (λ m. AreFit M family.options.now.mode m (given_heads M family.lines.now v d)) n (given_fit M laws family.options.now.mode family.lines.now v d (h.0.valid v) (subst (λ m. All (λ (l : LoopLine). AreVariableBounds m l.bounds) family.lines.now) (sym n) i))

  pub known_stays : (r : Rule L) (a b : List (Plain L)) (f : Finals L) → Keeps a b → Knows value M family r a f → Knows value M family r b f
  known_stays r a b f h k = record { memory = memory_stays value M family a b f h k.memory; ruled = ruled_stays a b r h k.ruled }

  pub known_same : (r : Rule L) (a b : List (Plain L)) (f : Finals L) → b ≡ a → Knows value M family r a f → Knows value M family r b f
  known_same r a b f e k = subst (λ forest. Knows value M family r forest f) (sym e) k

  -- behind a step, and behind what was passed
  pub known_lifted : {E : Type 0} (r : Rule L) (made : Result (Tree L) E) (a b : List (Plain L)) (f : Finals L) (g : List Bool → LeafValue → LeafValue) (t : Plain L) → IfOk made (λ x. IsLifted value family a b g t (numbered x)) → Knows value M family r a f → OnOk made (Knows value M family r b f)
  known_lifted r (Ok x) a b f g t h m = known_stays r a b f h.keeps m
  known_lifted r (Err e) a b f g t h m = tt

  pub known_made : {E : Type 0} (r : Rule L) (made : Result (rust.Ways (Tree L)) E) (a b : List (Plain L)) (f : Finals L) (G : List Bool → Ways) → IfOk made (λ x. AreMade value family a b G x) → Knows value M family r a f → OnOk made (Knows value M family r b f)
  known_made r (Ok x) a b f G h m = known_stays r a b f h.keeps m
  known_made r (Err e) a b f G h m = tt

  -- behind a loop of which more is remembered
  pub known_more : {E : Type 0} (r : Rule L) (made : Result (Tree L) E) (a b : List (Plain L)) (f : Finals L) (g : List Bool → LeafValue → LeafValue) (t : Plain L) → IfOk made (λ x. IsLifted value family a b g t (numbered x)) → IsRuled value M family a r → OnOk made (Remembers value M family b f) → OnOk made (Knows value M family r b f)
  known_more r (Ok x) a b f g t h k m = record { memory = m; ruled = ruled_stays a b r h.keeps k }
  known_more r (Err e) a b f g t h k m = tt

  -- ---- the rule that is chosen

  pub rule_known : (is_given : Bool) (forest : List (Plain L)) (start : Tree L) (r : Rule L) → IsRuleOf is_given family.lines.now (numbered start) r → IsState value family forest (numbered start) → ((v : List Bool) → M.valid (value (leaf_of (plain start) v)))
      → IsRuled value M family forest r
  rule_known true forest start (rule.Lines s index) e h valid =
      (record { state = state_as value family forest (numbered start) (numbered s) e.0 h; valid = λ v. subst (λ u. M.valid (value (leaf_of (erase u) v))) (sym e.0) (valid v) }, e.1)
  rule_known true forest start rule.Rounds e h valid = tt
  rule_known false forest start (rule.Lines s index) e h valid = absurd e
  rule_known false forest start rule.Rounds e h valid = tt

  pub rule_heads : (is_given : Bool) (start : Tree L) (r : Rule L) (v : List Bool) (d : LeafValue) → IsRuleOf is_given family.lines.now (numbered start) r → value (leaf_of (plain start) v) ≡ d → ruled_heads value M family r v ≡ chosen_heads M family is_given v d
  rule_heads true start (rule.Lines s index) v d e f = ap (λ x. given_heads M family.lines.now v x) (ap (λ u. value (leaf_of (erase u) v)) e.0 ∙ f)
  rule_heads true start rule.Rounds v d e f = absurd e
  rule_heads false start (rule.Lines s index) v d e f = absurd e
  rule_heads false start rule.Rounds v d e f = refl

  -- a head where its loop is kept, and Nothing elsewhere
  pub head_kept : (b : Bool) (R : List Bool → Heads) (place : Place) (l : LoopParts) (v : List Bool) (x : LeafValue) → (head_with M family R place l v x).variables ≡ x.variables
      → kept_by true b (head_with M family R place l v x) ≡ head_by M family.options.now.mode (heads_where b (R v)) place (parts_at (truths_in family.choices.now v) l) x
  head_kept true R place l v x e = refl
  head_kept false R place l v x e = ap (λ n. nothing_of n) e

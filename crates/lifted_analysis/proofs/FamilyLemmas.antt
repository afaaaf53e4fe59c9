-- The statements of a family, and the trees of its conditions.
use Rattle.std.proofs.Common.{◌≡◌, ℕ, ◌+◌, ◌<◌, List, [], ◌∷◌, Bool, false, length, get_or, refl, ap, sym, subst, ◌∙◌, arith, zero, suc, inl, inr}
use Rattle.std.specs.Prelude.{slice_index_or, slice_get, Some, None}
use Rattle.fam_outer.specs.declared.faults.Place.{Place}
use Rattle.std.specs.declared.vec.Vec.{Vec}
use Rattle.std.specs.declared.alloc.Global.{Global}
use Rattle.c_tree.specs.declared.tree.Expr.{Expr}
use Rattle.c_tree.specs.declared.tree.Stmt.{Stmt}
use Rattle.c_tree.specs.declared.tree.Stmt.TheVariants as variant
use Rattle.c_tree.specs.declared.tree.Stmt.TheViews.{outs-Cond, outs-Skip}
use Rattle.c_tree.specs.Tree.{Done, If, Block, Skip, Cond, Whole}
use Rattle.c_tree.specs.View.{term, front, code}
use Rattle.c_tree.specs.Fit.{IsTermOf, IsCodeOf}
use Rattle.c_tree.proofs.Views.{front_out}
use Rattle.decision_tree.specs.declared.tree.Tree.{Tree}
use Rattle.decision_tree.specs.Plain.{leaf_of, HasTest}
use Rattle.decision_tree.specs.Numbered.{kept, erase}
use Rattle.decision_tree.specs.View.{numbered, plain}
use Rattle.plain_analysis.specs.Stated.{HasLoopsOf, IsPartOf}
use Rattle.plain_analysis.proofs.Listed.{front-If, front-Block}
use Rattle.plain_analysis.proofs.Sizes.{size_of}
use Rattle.tree_unify.proofs.Within.{numbered_leaf}
use Rattle.lifted_analysis.specs.declared.family_context.FamilyContext.{FamilyContext}
use Rattle.lifted_analysis.specs.States.{truths_in, HasTestIn, IsFamily, IsTruth}

pub front-Skip : (place : Place) → front (variant.Skip place) Done ≡ Skip place Done
front-Skip place = rw (front_out, outs-Skip) refl

pub front-Cond : (number : ℕ) (p q : Vec Stmt Global) → front (variant.Cond number p q) Done ≡ Cond number (code p.items) (code q.items) Done
front-Cond number p q = rw (front_out, outs-Cond) refl

-- ---- the trees of conditions

pub truth_at : (cs : List (Tree Bool)) (i : ℕ) (c : Tree Bool) (v : List Bool) → slice_get cs i ≡ Some c → slice_index_or (truths_in cs v) i false ≡ leaf_of (plain c) v
truth_at [] i c v e = cc
truth_at (x ∷ cs) zero c v e = let f : x ≡ c = cc in ap (λ t. leaf_of (plain t) v) f
truth_at (x ∷ cs) (suc i) c v e = truth_at cs i c v e

-- where there is no such condition, its truth is false
pub truth_none : (cs : List (Tree Bool)) (i : ℕ) (v : List Bool) → slice_get cs i ≡ None → slice_index_or (truths_in cs v) i false ≡ false
truth_none [] i v e = refl
truth_none (x ∷ cs) zero v e = cc
truth_none (x ∷ cs) (suc i) v e = truth_none cs i v e

pub got : (cs : List (Tree Bool)) (i : ℕ) (c : Tree Bool) → i < length cs → c ≡ get_or cs i c → slice_get cs i ≡ Some c
got [] i c h e = absurd (omega arith)
got (x ∷ cs) zero c h e = ap Some (sym e)
got (x ∷ cs) (suc i) c h e = got cs i c (omega arith) e

tests_in : (k : ℕ) (cs : List (Tree Bool)) (i : ℕ) (c : Tree Bool) → slice_get cs i ≡ Some c → HasTest k (plain c) → HasTestIn k cs
tests_in k [] i c e h = cc
tests_in k (x ∷ cs) zero c e h = let f : c ≡ x = cc in inl (subst (λ t. HasTest k (plain t)) f h)
tests_in k (x ∷ cs) (suc i) c e h = inr (tests_in k cs i c e h)

pub choice_truth : (family : FamilyContext) (i : ℕ) (c : Tree Bool) → IsFamily family → slice_get family.choices.now i ≡ Some c → IsTruth family (numbered c)
choice_truth family i c f e = record { tree = f.choices i c e; tests = λ k h. inr (inl (tests_in k family.choices.now i c e h)) }

pub never_truth : (family : FamilyContext) → IsFamily family → IsTruth family (numbered family.never.now)
never_truth family f =
    let n = f.never in
    subst (IsTruth family) (sym n.1) (record { tree = record { reduced = tt; small = tt; numbered = numbered_leaf (kept n.0 false) n.0 false refl }; tests = λ k h. absurd h })

pub never_at : (family : FamilyContext) (v : List Bool) → IsFamily family → leaf_of (plain family.never.now) v ≡ false
never_at family v f = ap (λ t. leaf_of (erase t) v) f.never.1

-- ---- sizes

pub group_smaller : (s : Stmt) (number : ℕ) (p q : Vec Stmt Global) (l m : List Stmt) → s ≡ variant.Cond number p q → l ≡ p.items → m ≡ q.items → size_of (code l) + size_of (code m) < size_of (front s Done)
group_smaller s number p q l m h j k =
    let whole : size_of (front s Done) ≡ size_of (code p.items) + size_of (code q.items) + 0 + 1 = ap (λ s. size_of (front s Done)) h ∙ ap size_of (front-Cond number p q) in
    let first : size_of (code l) ≡ size_of (code p.items) = ap (λ l. size_of (code l)) j in
    let second : size_of (code m) ≡ size_of (code q.items) = ap (λ l. size_of (code l)) k in
    omega arith

pub sides_smaller : (s : Stmt) (place : Place) (e : Expr) (p q : Vec Stmt Global) (l m : List Stmt) → s ≡ variant.If place e p q → l ≡ p.items → m ≡ q.items → size_of (code l) + size_of (code m) < size_of (front s Done)
sides_smaller s place e p q l m h j k =
    let whole : size_of (front s Done) ≡ size_of (code p.items) + size_of (code q.items) + 0 + 1 = ap (λ s. size_of (front s Done)) h ∙ ap size_of (front-If place e p q) in
    let first : size_of (code l) ≡ size_of (code p.items) = ap (λ l. size_of (code l)) j in
    let second : size_of (code m) ≡ size_of (code q.items) = ap (λ l. size_of (code l)) k in
    omega arith

pub block_smaller : (s : Stmt) (place : Place) (body : Vec Stmt Global) (l : List Stmt) → s ≡ variant.Block place body → l ≡ body.items → size_of (code l) < size_of (front s Done)
block_smaller s place body l h k =
    let whole : size_of (front s Done) ≡ size_of (code body.items) + 0 + 1 = ap (λ s. size_of (front s Done)) h ∙ ap size_of (front-Block place body) in
    let part : size_of (code l) ≡ size_of (code body.items) = ap (λ l. size_of (code l)) k in
    omega arith

-- the parts of a statement

pub part_If : (n : ℕ) (w : Whole) (s : Stmt) (place : Place) (e : Expr) (p q : Vec Stmt Global) (l m : List Stmt) → s ≡ variant.If place e p q → l ≡ p.items → m ≡ q.items → IsPartOf n w (front s Done)
    → IsTermOf n (term e) × IsPartOf n w (code l) × IsPartOf n w (code m)
part_If n w s place e p q l m h j k part =
    let fit : IsCodeOf n (If place (term e) (code p.items) (code q.items) Done) = subst (IsCodeOf n) (ap (λ s. front s Done) h ∙ front-If place e p q) part.0 in
    let loops : HasLoopsOf w (If place (term e) (code p.items) (code q.items) Done) = subst (HasLoopsOf w) (ap (λ s. front s Done) h ∙ front-If place e p q) part.1 in
    (fit.0, subst (λ x. IsPartOf n w (code x)) (sym j) (fit.1, loops.0), subst (λ x. IsPartOf n w (code x)) (sym k) (fit.2, loops.1))

pub part_Block : (n : ℕ) (w : Whole) (s : Stmt) (place : Place) (body : Vec Stmt Global) (l : List Stmt) → s ≡ variant.Block place body → l ≡ body.items → IsPartOf n w (front s Done) → IsPartOf n w (code l)
part_Block n w s place body l h k part =
    let fit : IsCodeOf n (Block place (code body.items) Done) = subst (IsCodeOf n) (ap (λ s. front s Done) h ∙ front-Block place body) part.0 in
    let loops : HasLoopsOf w (Block place (code body.items) Done) = subst (HasLoopsOf w) (ap (λ s. front s Done) h ∙ front-Block place body) part.1 in
    subst (λ x. IsPartOf n w (code x)) (sym k) (fit.0, loops.0)

pub fit_Cond : (count : ℕ) (s : Stmt) (number : ℕ) (p q : Vec Stmt Global) → s ≡ variant.Cond number p q → IsCodeOf count (front s Done) → IsCodeOf count (code p.items) × IsCodeOf count (code q.items)
fit_Cond count s number p q h k =
    let w : IsCodeOf count (Cond number (code p.items) (code q.items) Done) = subst (IsCodeOf count) (ap (λ s. front s Done) h ∙ front-Cond number p q) k in
    (w.0, w.1)

pub loops_Cond : (p : Whole) (s : Stmt) (number : ℕ) (a b : Vec Stmt Global) → s ≡ variant.Cond number a b → HasLoopsOf p (front s Done) → HasLoopsOf p (code a.items) × HasLoopsOf p (code b.items)
loops_Cond p s number a b h k =
    let w : HasLoopsOf p (Cond number (code a.items) (code b.items) Done) = subst (HasLoopsOf p) (ap (λ s. front s Done) h ∙ front-Cond number a b) k in
    (w.0, w.1)

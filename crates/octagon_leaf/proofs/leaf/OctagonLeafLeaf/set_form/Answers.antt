use Rattle.std.proofs.Common.{◌≡◌, ◌∙◌, ◌++◌, ℤ, Bool, true, false, not, refl, ap, sym, subst, List, to_z, of_z, w64, arith}
use Rattle.std.proofs.lemmas.Int.{ints}
use Rattle.leaf_domain.specs.Forms.{IsFormNumber}
use Rattle.leaf_domain.specs.Ranges.{range_at}
use Rattle.octagon_matrix.specs.Matrices.{MatrixValue}
use Rattle.octagon_leaf.specs.declared.meets.Meet.{Meet}
use Rattle.octagon_leaf.specs.declared.shape.Shape.TheVariants.{Constant, Terms}
use Rattle.octagon_leaf.specs.Octagons.{met_all, dropped, set_term, has_variable}
use Rattle.octagon_leaf.specs.Shapes.{shape_of, between}
use Rattle.octagon_leaf.specs.Meeting.{IsSettled}
use Rattle.octagon_leaf.specs.Laws.Meets.{bounded-kept, bounded-all, variables-all}
use Rattle.octagon_leaf.specs.Laws.Terms.{bounded-dropped}
use Rattle.octagon_leaf.specs.Laws.OctagonLaws.{set-term-bounded, set-term-variables}
use Rattle.octagon_leaf.proofs.Closed.{settled-best, settled-is}
use Rattle.octagon_leaf.proofs.Meanings.{shape-constant, shape-edge, set-constant-is, set-form-is}
use Rattle.octagon_leaf.proofs.leaf.OctagonLeafLeaf.set_form.Goals as goal

is-double : (d : Bool) → not d ≡ false → d ≡ true
is-double true e = refl
is-double false e = cc

pub set_met-requires-clause-small : goal.set_met-requires-clause-small
set_met-requires-clause-small c =
    let h : IsFormNumber c.in-Constant.c = shape-constant c.args.self.now.variables c.args.f.now c.in-Constant.c c.requires.f (sym c.shape_of.ensures ∙ c.in-Constant.is) in
    rw (c.between.ensures) (
      record { low = omega (arith, ints, h.low, h.high); high = omega (arith, ints, h.low, h.high) },
      (record { low = omega (arith, ints, h.low, h.high); high = omega (arith, ints, h.low, h.high) }, tt),
    )

pub from_best-requires-clause-best : goal.from_best-requires-clause-best
from_best-requires-clause-best c =
    let m = c.in-Some.matrix.now in
    let x = c.args.x in
    let r = c.args.r in
    let k = c.in-Constant.c in
    let g : shape_of c.args.f.now ≡ Constant k = sym c.shape_of.ensures ∙ c.in-Constant.is in
    let q : IsFormNumber k = shape-constant c.args.self.now.variables c.args.f.now k c.requires.f g in
    let o : to_z w64 (of_z w64 k) ≡ k = omega (arith, ints, q.low, q.high) in
    let es : List Meet = between x (range_at k k) ++ between x r in
    let D : MatrixValue = met_all (dropped m x) es in
    let P : List Meet → Type 0 = λ fs. IsSettled (met_all (dropped m x) (fs ++ between x r)) c.in_ok-set-in-Constant.set in
    let h : IsSettled D c.in_ok-set-in-Constant.set = subst P (c.between.ensures ∙ ap (λ u. between x (range_at u u)) o) c.in_ok-set-in-Constant.ensures in
    let f = variables-all (dropped m x) es ∙ (c.in-Some.ensures.best.variables ∙ sym c.count-in-Constant.ensures.value) in
    settled-best c.count-in-Constant.result D c.in_ok-set-in-Constant.set f h

pub returns-in_ok-set-in-Constant : goal.returns-in_ok-set-in-Constant
returns-in_ok-set-in-Constant c =
    let m = c.in-Some.matrix.now in
    let x = c.args.x in
    let r = c.args.r in
    let k = c.in-Constant.c in
    let g : shape_of c.args.f.now ≡ Constant k = sym c.shape_of.ensures ∙ c.in-Constant.is in
    let q : IsFormNumber k = shape-constant c.args.self.now.variables c.args.f.now k c.requires.f g in
    let o : to_z w64 (of_z w64 k) ≡ k = omega (arith, ints, q.low, q.high) in
    let es : List Meet = between x (range_at k k) ++ between x r in
    let D : MatrixValue = met_all (dropped m x) es in
    let P : List Meet → Type 0 = λ fs. IsSettled (met_all (dropped m x) (fs ++ between x r)) c.in_ok-set-in-Constant.set in
    let h : IsSettled D c.in_ok-set-in-Constant.set = subst P (c.between.ensures ∙ ap (λ u. between x (range_at u u)) o) c.in_ok-set-in-Constant.ensures in
    let f = variables-all (dropped m x) es ∙ (c.in-Some.ensures.best.variables ∙ sym c.count-in-Constant.ensures.value) in
    c.from_best.ensures
    ∙ (settled-is c.count-in-Constant.result D c.in_ok-set-in-Constant.set (bounded-all (dropped m x) es (bounded-dropped m x (bounded-kept m c.in-Some.ensures.best.kept))) f h
    ∙ sym (set-constant-is c.args.self.now m x c.args.f.now k r c.in-Some.ensures.best (sym c.is_empty.ensures ∙ c.if-is_empty.false) g))

pub from_best-requires-in-Terms-clause-best : goal.from_best-requires-in-Terms-clause-best
from_best-requires-in-Terms-clause-best c =
    let m = c.in-Some.matrix.now in
    let x = c.args.x in
    let r = c.args.r in
    let e = c.in-Terms.e in
    let g : shape_of c.args.f.now ≡ Terms e = sym c.shape_of.ensures ∙ c.in-Terms.is in
    let q : IsFormNumber e.constant = (shape-edge c.args.self.now.variables c.args.f.now e c.requires.f g).constant in
    let o : to_z w64 (of_z w64 e.constant) ≡ e.constant = omega (arith, ints, q.low, q.high) in
    let D : MatrixValue = set_term m x e.first e.constant r in
    let P : ℤ → Type 0 = λ k. IsSettled (set_term m x e.first k r) c.in_ok-set-in-Terms.set in
    let h : IsSettled D c.in_ok-set-in-Terms.set = subst P o c.in_ok-set-in-Terms.ensures in
    let f = set-term-variables m x e.first e.constant r (has_variable x e.first) ∙ (c.in-Some.ensures.best.variables ∙ sym c.count-in-Terms.ensures.value) in
    settled-best c.count-in-Terms.result D c.in_ok-set-in-Terms.set f h

pub returns-in_ok-set-in-Terms : goal.returns-in_ok-set-in-Terms
returns-in_ok-set-in-Terms c =
    let m = c.in-Some.matrix.now in
    let x = c.args.x in
    let r = c.args.r in
    let e = c.in-Terms.e in
    let g : shape_of c.args.f.now ≡ Terms e = sym c.shape_of.ensures ∙ c.in-Terms.is in
    let q : IsFormNumber e.constant = (shape-edge c.args.self.now.variables c.args.f.now e c.requires.f g).constant in
    let o : to_z w64 (of_z w64 e.constant) ≡ e.constant = omega (arith, ints, q.low, q.high) in
    let D : MatrixValue = set_term m x e.first e.constant r in
    let P : ℤ → Type 0 = λ k. IsSettled (set_term m x e.first k r) c.in_ok-set-in-Terms.set in
    let h : IsSettled D c.in_ok-set-in-Terms.set = subst P o c.in_ok-set-in-Terms.ensures in
    let f = set-term-variables m x e.first e.constant r (has_variable x e.first) ∙ (c.in-Some.ensures.best.variables ∙ sym c.count-in-Terms.ensures.value) in
    c.from_best-in-Terms.ensures
    ∙ (settled-is c.count-in-Terms.result D c.in_ok-set-in-Terms.set (set-term-bounded m x e.first e.constant r (has_variable x e.first) (bounded-kept m c.in-Some.ensures.best.kept)) f h
    ∙ sym (set-form-is c.args.self.now m x c.args.f.now e r c.in-Some.ensures.best (sym c.is_empty.ensures ∙ c.if-is_empty.false) g (is-double e.is_double c.if-not-e.false)))

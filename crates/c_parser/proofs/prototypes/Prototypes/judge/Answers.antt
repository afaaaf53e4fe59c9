use Rattle.std.proofs.Common.{List, ℕ, subst, refl}
use Rattle.std.specs.Prelude.{IfOk}
use Rattle.std.proofs.lemmas.Result.{IfOk-weaker}
use Rattle.c_parser.specs.declared.prototypes.Prototypes.{Prototypes}
use Rattle.c_parser.specs.Judging.{DeclaresAlike, JudgesFunction}
use Rattle.c_parser.proofs.Judging.{called, declared_void, declared_valued}
use Rattle.c_parser.proofs.prototypes.Prototypes.judge.Goals as goal

pub returns-then-in_main : goal.returns-then-in_main
returns-then-in_main c = λ before m f t.
    called before c.args.number c.args.self.now c.args.in_main c.is_behind_equals.result c.call_fault.result c.if-in_main.true m f (c.is_behind_equals.ensures before t) c.call_fault.ensures

pub returns-then-is_behind_void : goal.returns-then-is_behind_void
returns-then-is_behind_void c = λ before m f t.
    let old : Prototypes = c.args.self.now in
    let new : Prototypes = record { valued = c.args.self.now.valued; void = c.declare_alike.new.alike } in
    IfOk-weaker c.declare_alike.result (λ fault. DeclaresAlike c.args.self.now.void.items c.args.self.now.valued.items c.args.number c.declare_alike.new.alike.items fault) (λ fault. JudgesFunction before c.args.number new fault)
    (λ fault d. declared_void before c.args.number old new c.args.in_main c.is_behind_void.result fault c.if-in_main.false m c.if-is_behind_void.true f (c.is_behind_void.ensures before t) refl d)
    (subst (λ (others : List ℕ). IfOk c.declare_alike.result (λ fault. DeclaresAlike c.args.self.now.void.items others c.args.number c.declare_alike.new.alike.items fault)) c.deref.ensures.value c.declare_alike.ensures)

pub returns-else-is_behind_void : goal.returns-else-is_behind_void
returns-else-is_behind_void c = λ before m f t.
    let old : Prototypes = c.args.self.now in
    let new : Prototypes = record { valued = c.declare_alike-else-is_behind_void.new.alike; void = c.args.self.now.void } in
    IfOk-weaker c.declare_alike-else-is_behind_void.result (λ fault. DeclaresAlike c.args.self.now.valued.items c.args.self.now.void.items c.args.number c.declare_alike-else-is_behind_void.new.alike.items fault) (λ fault. JudgesFunction before c.args.number new fault)
    (λ fault d. declared_valued before c.args.number old new c.args.in_main c.is_behind_void.result fault c.if-in_main.false m c.if-is_behind_void.false f (c.is_behind_void.ensures before t) refl d)
    (subst (λ (others : List ℕ). IfOk c.declare_alike-else-is_behind_void.result (λ fault. DeclaresAlike c.args.self.now.valued.items others c.args.number c.declare_alike-else-is_behind_void.new.alike.items fault)) c.deref-else-is_behind_void.ensures.value c.declare_alike-else-is_behind_void.ensures)

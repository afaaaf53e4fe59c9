use Rattle.std.proofs.Common.{◌≡◌, length, refl, sym, ◌∙◌, arith}
use Rattle.std.proofs.lemmas.Result.{IfOk-weaker}
use Rattle.family_names.specs.NameContexts.{plain}
use Rattle.family_names.specs.declared.seen.Seen.{Seen}
use Rattle.family_names.specs.Judging.{Uses, Declares, IsCall, DeclaresFunction, Judges}
use Rattle.family_names.proofs.Walking.{at_use, use_inside, at_declaration, at_call, at_prototype, at_other, other_sign, same_classes}
use Rattle.family_names.proofs.judging.judge.Goals as goal

pub returns-then-uses_next : goal.returns-then-uses_next
returns-then-uses_next c = λ before k a s i. IfOk-weaker c.use_fault.result (λ fault. Uses (plain c.args.context.now) c.args.seen.now c.args.used.now c.use_fault.new.settled c.is_in_own-is_own.result c.in-Name.number c.use_fault.new.used fault)
    (λ fault. Judges (plain c.args.context.now) before c.args.sign c.args.seen.now c.use_fault.new.used c.use_fault.new.settled fault)
    (λ fault u. at_use (plain c.args.context.now) before c.args.sign c.args.seen.now c.args.used.now c.use_fault.new.used c.use_fault.new.settled c.is_in_own-is_own.result c.in-Name.number fault c.in-Name.is
    (sym (c.uses_next.ensures before k i) ∙ c.if-uses_next.true) (c.is_in_own-is_own.ensures before i) k a u)
    (c.use_fault.ensures a.tests (use_inside before c.args.seen.now k (sym (c.uses_next.ensures before k i) ∙ c.if-uses_next.true)) s)

pub returns-else-uses_next : goal.returns-else-uses_next
returns-else-uses_next c = λ before k a s i. IfOk-weaker c.declare.result (λ fault. Declares (plain c.args.context.now) c.args.seen.now c.len-values.result c.of-class.result c.is_static-is_static.result c.in-Name.number c.declare.new.seen fault)
    (λ fault. Judges (plain c.args.context.now) before c.args.sign c.declare.new.seen c.args.used.now c.args.settled.now fault)
    (λ fault d. at_declaration (plain c.args.context.now) before c.args.sign c.args.seen.now c.declare.new.seen c.args.used.now c.args.settled.now c.len-values.result c.of-class.result c.is_constant.result c.is_static-is_static.result c.in-Name.number fault c.in-Name.is
    (sym (c.uses_next.ensures before k i) ∙ c.if-uses_next.false) k a s c.of-class.ensures (c.is_constant.ensures before i) (c.is_static-is_static.ensures before i) (let n : c.len-values.result ≡ length c.args.used.now.names.items = omega (arith, c.len-values.ensures) in n) d)
    (c.declare.ensures k.sound)

pub returns-in_ok-pass-in_default : goal.returns-in_ok-pass-in_default
returns-in_ok-pass-in_default c = λ before k a s i.
    at_other (plain c.args.context.now) before c.args.sign c.args.seen.now c.pass.new.seen c.args.used.now c.args.settled.now c.pass.new.settled (other_sign c.args.sign c.in_default.not-Name c.in_default.not-Function) k a s
    (c.in_ok-pass-in_default.ensures k.sound s.sound (k.inside ∙ sym k.main) (s.inside ∙ k.inside ∙ sym k.main))

pub returns-then-seen : goal.returns-then-seen
returns-then-seen c = λ before k a s i. IfOk-weaker c.call_fault.result (λ fault. IsCall (plain c.args.context.now) c.args.seen.now.groups c.args.seen.now.functions c.is_behind_equals-wants_value.result c.in-Function.number fault)
    (λ fault. Judges (plain c.args.context.now) before c.args.sign c.args.seen.now c.args.used.now c.args.settled.now fault)
    (λ fault call. at_call (plain c.args.context.now) before c.args.sign c.args.seen.now c.args.used.now c.args.settled.now c.is_behind_equals-wants_value.result c.in-Function.number fault c.in-Function.is c.if-seen.true k a s
    (c.is_behind_equals-wants_value.ensures before i) call)
    c.call_fault.ensures

pub returns-else-seen : goal.returns-else-seen
returns-else-seen c = λ before k a s i.
    let new : Seen = record {
      groups = c.args.seen.now.groups;
      in_main = c.args.seen.now.in_main;
      names = c.args.seen.now.names;
      variables = c.args.seen.now.variables;
      locals = c.args.seen.now.locals;
      constants = c.args.seen.now.constants;
      declarations = c.args.seen.now.declarations;
      local_declarations = c.args.seen.now.local_declarations;
      functions = c.declare_function.new.functions;
    } in
    IfOk-weaker c.declare_function.result (λ fault. DeclaresFunction (plain c.args.context.now) c.args.seen.now.groups c.args.seen.now.functions c.is_behind_void-is_void.result c.in-Function.number c.declare_function.new.functions fault)
    (λ fault. Judges (plain c.args.context.now) before c.args.sign new c.args.used.now c.args.settled.now fault)
    (λ fault d. at_prototype (plain c.args.context.now) before c.args.sign c.args.seen.now new c.args.used.now c.args.settled.now c.is_behind_void-is_void.result c.in-Function.number fault c.in-Function.is c.if-seen.false k a s
    (c.is_behind_void-is_void.ensures before i) d (record { groups = refl; main = refl; names = refl; classes = same_classes c.args.seen.now new refl refl refl; declarations = refl; locals = refl }))
    c.declare_function.ensures

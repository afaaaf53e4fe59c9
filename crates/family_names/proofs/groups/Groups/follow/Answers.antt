use Rattle.std.proofs.Common.{◌≡◌, List, reverse, ap, sym, subst, ◌∙◌}
use Rattle.cpp_groups.specs.Kept.{behind}
use Rattle.family_names.specs.Groups.{IsOpened, sections}
use Rattle.family_names.specs.declared.groups.Group.{Group}
use Rattle.family_names.proofs.Opened.{opened_left, behind_left}
use Rattle.family_names.proofs.groups.Groups.follow.Goals as goal

pub invariant_of-self : goal.invariant_of-self
invariant_of-self c = subst IsOpened (sym c.leave.ensures) (opened_left (reverse c.self.inside.list.items) c.self.invariant)

pub returns-in-Endif : goal.returns-in-Endif
returns-in-Endif c = λ truths.
    let v : reverse c.self.inside.list.items ≡ c.args.self.now = cc in
    ap (sections truths) c.leave.ensures ∙ rw c.in-Endif.is (behind_left truths (reverse c.self.inside.list.items) ∙ ap (λ (gs : List Group). behind (sections truths gs)) v)

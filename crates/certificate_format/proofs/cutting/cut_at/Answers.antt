use Rattle.std.proofs.Common.{sym, ap, subst₂, ◌∙◌, length, drop}
use Rattle.certificate_format.specs.Cuts.{IsCut}
use Rattle.certificate_format.proofs.Splitting.{found_cut, not_found}
use Rattle.certificate_format.proofs.cutting.cut_at.Goals as goal

pub returns : goal.returns
returns c =
    let s = c.args.separator.now in
    let t = c.args.text.now in
    subst₂ (λ a r. IsCut s t a r) (sym c.split_at.ensures.front)
    (sym (c.split_at-2.ensures.back ∙ ap (drop (length s)) c.split_at.ensures.back))
    (found_cut s t c.in-Some.place c.in-Some.ensures.0 c.in-Some.ensures.1)

pub returns-in_default : goal.returns-in_default
returns-in_default c = not_found c.args.separator.now c.args.text.now c.in_default.ensures

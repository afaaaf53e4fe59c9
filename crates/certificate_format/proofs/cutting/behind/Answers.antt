use Rattle.std.proofs.Common.{sym, ap, ◌∙◌}
use Rattle.std.specs.Str.{bytes_eq}
use Rattle.certificate_format.proofs.Splitting.{not_front}
use Rattle.certificate_format.proofs.cutting.behind.Goals as goal

pub returns-else-eq : goal.returns-else-eq
returns-else-eq c rest e =
    not_front c.args.text.now c.args.prefix.now rest (ap (λ f. bytes_eq f c.args.prefix.now) (sym c.split_at.ensures.front) ∙ sym c.eq.ensures ∙ c.if-eq.false) e

use Rattle.std.proofs.Common.{◌≡◌, ◌++◌, ◌∙◌, ◌<◌, ◌^◌, ap, sym, rules, length, take, append_assoc}
use Rattle.std.specs.Prelude.{get_or}
use Rattle.std.proofs.lemmas.List.Elements.{All-more}
use Rattle.alarm_page.specs.Escapes.{escape, escaped}
use Rattle.alarm_page.proofs.Reading.{escaped_more}
use Rattle.alarm_page.proofs.escapes.push_escaped.Goals as goal

pub loop-byte-preserved : goal.loop-byte-preserved
loop-byte-preserved c =
    let text = c.args.text.now.items in
    let bytes = c.args.bytes.now in
    let i = c.loop-byte.byte-index in
    let within : i < length bytes = search rules in
    let more : c.push_escape.new.text.items ≡ c.loop-byte.text.items ++ escape (get_or bytes i 0) = search rules in (
      more ∙ ap (λ t. t ++ escape (get_or bytes i 0)) c.loop-byte.invariant.0 ∙ append_assoc text (escaped (take i bytes)) (escape (get_or bytes i 0))
          ∙ ap (λ l. text ++ l) (sym (escaped_more bytes i 0 within)),
      All-more (λ b. b < 2 ^ 8) bytes i 0 within c.loop-byte.invariant.1 (search rules),
    )

use Rattle.std.proofs.Common.{rules, ◌≡◌, ◌++◌, ap, ◌∙◌, codes}
use Rattle.command_words.specs.Spelling.{overflow_name, regions_name, unknown_name, includes_name}
use Rattle.famlint_requests.specs.MadeBy as specs
use Rattle.famlint_requests.proofs.PageOptions.{added}
use Rattle.famlint_requests.proofs.request.page_options.push_others.Goals as goal

pub returns : goal.returns
returns c =
    let text = c.args.text.now.items in
    let overflow = specs.with_value (codes " --overflow=") (overflow_name c.args.analysis.now.mode) in
    let regions = specs.with_value (codes " --regions=") (regions_name c.args.regions) in
    let unknown = specs.with_value (codes " --unknown=") (unknown_name c.args.dialect.unknown) in
    let includes = specs.with_value (codes " --includes=") (includes_name c.args.dialect.includes) in
    let first = c.push_option.new.text.items in
    let second = c.push_option-2.new.text.items in
    let third = c.push_option-3.new.text.items in
    let fourth = c.push_option-4.new.text.items in
    let whole = c.extend_from_slice.new.self.items in
    let has_first : first ≡ text ++ overflow = c.in_ok-push_option.ensures ∙ ap (λ v. text ++ specs.with_value (codes " --overflow=") v) c.mode_name.ensures.name in
    let has_second : second ≡ first ++ regions = c.in_ok-push_option-2.ensures ∙ ap (λ v. first ++ specs.with_value (codes " --regions=") v) c.regions_name.ensures.name in
    let has_third : third ≡ second ++ unknown = c.in_ok-push_option-3.ensures ∙ ap (λ v. second ++ specs.with_value (codes " --unknown=") v) c.unknown_name.ensures.name in
    let has_fourth : fourth ≡ third ++ includes = c.in_ok-push_option-4.ensures ∙ ap (λ v. third ++ specs.with_value (codes " --includes=") v) c.includes_name.ensures.name in
    let has_whole : whole ≡ fourth ++ codes "\n" = search rules in
    added text overflow _ first whole has_first (added first regions _ second whole has_second
    (added second unknown _ third whole has_third (added third includes _ fourth whole has_fourth has_whole)))

use Rattle.std.proofs.Common.{rules, ◌≡◌, ◌++◌, codes}
use Rattle.std.specs.Fmt.{decimal}
use Rattle.command_words.specs.Spelling.{domain_name, widening_name}
use Rattle.famlint_requests.specs.MadeBy as specs
use Rattle.famlint_requests.proofs.PageOptions.{added}
use Rattle.famlint_requests.proofs.request.page_options.push_precision.Goals as goal

pub returns : goal.returns
returns c =
    let text = c.args.text.now.items in
    let analysis = c.args.analysis.now in
    let domain = specs.with_value (codes "--domain=") (domain_name analysis.domain) in
    let delay = specs.with_value (codes " --delay=") (decimal analysis.delay) in
    let narrow = specs.with_value (codes " --narrow=") (decimal analysis.narrow) in
    let widening = specs.with_value (codes " --widening=") (widening_name analysis.widening) in
    let first = c.push_option.new.text.items in
    let second = c.push_number.new.text.items in
    let third = c.push_number-2.new.text.items in
    let whole = c.push_option-2.new.text.items in
    let has_first : first ≡ text ++ domain = search rules in
    let has_second : second ≡ first ++ delay = search rules in
    let has_third : third ≡ second ++ narrow = search rules in
    let has_whole : whole ≡ third ++ widening = search rules in
    added text domain _ first whole has_first (added first delay _ second whole has_second (added second narrow _ third whole has_third has_whole))

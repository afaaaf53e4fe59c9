use Rattle.std.specs.Prelude.{IsOk}
use Rattle.fam_outer.proofs.Given.{given_one}
use Rattle.famlint_loads.specs.Loads.{Comes, IsText}
use Rattle.famlint_loads.proofs.load.load_text.Goals as goal

pub returns-clause-given : goal.returns-clause-given
returns-clause-given g c =
    given_one g.F.Files.loads (g.F.Files.content c.args.files.now) c.args.files.now c.load-answer.new.self c.args.path.now c.args.limit c.load-answer.result
    (IsOk c.text_of.result) (λ bytes. Comes (IsText c.args.limit c.args.long bytes) c.text_of.result) c.load-answer.ensures.made c.load-answer.ensures.answer c.text_of.ensures.text

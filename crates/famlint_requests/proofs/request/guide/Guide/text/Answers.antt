use Rattle.famlint_requests.proofs.request.guide.Guide.text.Goals as goal

pub returns-in-Commands : goal.returns-in-Commands
returns-in-Commands c = rw c.in-Commands.is (rw c.all_options.ensures at c.with_options.ensures)

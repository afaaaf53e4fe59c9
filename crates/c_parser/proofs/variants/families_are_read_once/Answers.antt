use Rattle.c_parser.proofs.FamilyOnce.{families_once, not_refused, refused_once}
use Rattle.c_parser.proofs.Readings.{GrammarLaws}
use Rattle.c_parser.proofs.variants.families_are_read_once.Goals as goal

pub returns-clause-once : goal.returns-clause-once
returns-clause-once c =
    let grammar : GrammarLaws = record { reads = c.reads_within_the_limits.ensures.file; stops_wrong = c.reads_within_the_limits.ensures.wrong; stops_deep = c.reads_within_the_limits.ensures.deep } in
    families_once (record { texts = c.texts_are_read_once.ensures; grammar = grammar; names = c.names_are_judged_once.ensures })

pub returns-clause-accepted : goal.returns-clause-accepted
returns-clause-accepted c =
    let grammar : GrammarLaws = record { reads = c.reads_within_the_limits.ensures.file; stops_wrong = c.reads_within_the_limits.ensures.wrong; stops_deep = c.reads_within_the_limits.ensures.deep } in
    not_refused (record { texts = c.texts_are_read_once.ensures; grammar = grammar; names = c.names_are_judged_once.ensures })

pub returns-clause-refused : goal.returns-clause-refused
returns-clause-refused c =
    let grammar : GrammarLaws = record { reads = c.reads_within_the_limits.ensures.file; stops_wrong = c.reads_within_the_limits.ensures.wrong; stops_deep = c.reads_within_the_limits.ensures.deep } in
    refused_once (record { texts = c.texts_are_read_once.ensures; grammar = grammar; names = c.names_are_judged_once.ensures })

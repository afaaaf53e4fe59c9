use Rattle.std.proofs.Common.{ap}
use Rattle.c_tree.specs.Tree.{Break, Continue, Return}
use Rattle.c_tree.specs.View.{term, jump_of}
use Rattle.lifted_analysis.proofs.WaysLemmas.{broke_made, continued_made, returned_made, left_as}
use Rattle.lifted_analysis.proofs.ways.leave.Goals as goal

pub returns-in_ok-broke-in-Break : goal.returns-in_ok-broke-in-Break
returns-in_ok-broke-in-Break g c =
    let value = g.L.Leaf.value in
    let M = g.L.Leaf.meaning in
    let family = c.args.family.now in
    let mode = family.options.now.mode in
    let a = c.args.tables.now.leaves in
    let d = c.joined.new.tables.leaves in
    left_as value family M mode a d c.args.ways _ (jump_of c.args.jump.now) Break (ap jump_of c.in-Break.is)
    (broke_made value family M g.met.L.Leaf.laws mode a c.nothing_tree.new.tables.leaves d c.args.ways c.in_ok-behind.behind c.in_ok-broke-in-Break.broke c.requires.states c.in_ok-behind.ensures c.in_ok-broke-in-Break.ensures)

pub returns-in_ok-continued-in-Continue : goal.returns-in_ok-continued-in-Continue
returns-in_ok-continued-in-Continue g c =
    let value = g.L.Leaf.value in
    let M = g.L.Leaf.meaning in
    let family = c.args.family.now in
    let mode = family.options.now.mode in
    let a = c.args.tables.now.leaves in
    let d = c.joined-in-Continue.new.tables.leaves in
    left_as value family M mode a d c.args.ways _ (jump_of c.args.jump.now) Continue (ap jump_of c.in-Continue.is)
    (continued_made value family M g.met.L.Leaf.laws mode a c.nothing_tree.new.tables.leaves d c.args.ways c.in_ok-behind.behind c.in_ok-continued-in-Continue.continued c.requires.states c.in_ok-behind.ensures c.in_ok-continued-in-Continue.ensures)

pub returns-in_ok-returned-in-Return : goal.returns-in_ok-returned-in-Return
returns-in_ok-returned-in-Return g c =
    let value = g.L.Leaf.value in
    let M = g.L.Leaf.meaning in
    let family = c.args.family.now in
    let mode = family.options.now.mode in
    let a = c.args.tables.now.leaves in
    let d = c.joined-in-Return.new.tables.leaves in
    left_as value family M mode a d c.args.ways _ (jump_of c.args.jump.now) (Return (term c.in-Return.e)) (ap jump_of c.in-Return.is)
    (returned_made value family M g.met.L.Leaf.laws mode (term c.in-Return.e) a c.nothing_tree.new.tables.leaves c.stepped.new.tables.leaves d c.args.ways c.in_ok-behind.behind c.in_ok-returning-in-Return.returning c.in_ok-returned-in-Return.returned
    c.requires.states c.in_ok-behind.ensures c.in_ok-returning-in-Return.ensures c.in_ok-returned-in-Return.ensures)

use Rattle.std.proofs.Common.{◌≡◌, ℕ, List, Result, Err, sym, ap, subst, ◌∙◌, rules}
use Rattle.fam_outer.specs.declared.faults.FileRefusal.{FileRefusal}
use Rattle.c_tree.specs.declared.tree.Program.{Program}
use Rattle.c_parser.specs.Reading.{IsRead}
use Rattle.c_parser.specs.Stages.{given_in}
use Rattle.c_parser.proofs.OwnNames.{own_formed, own_reads, own_refused, read_declared}
use Rattle.c_parser.proofs.plain.read_plain.Goals as goal

pub returns-in_err-functions-clause-reads : goal.returns-in_err-functions-clause-reads
returns-in_err-functions-clause-reads c =
    let e : c.from_residual.result ≡ Err c.in_err-functions.field-0.0 = search rules in
    subst (λ (r : Result Program FileRefusal). IsRead c.args.includes c.args.bytes.now r) (sym e) (own_refused c.args.includes c.args.bytes.now c.in_err-functions.field-0.0 c.in_err-functions.ensures.own)

pub returns-clause-reads : goal.returns-clause-reads
returns-clause-reads c =
    own_reads c.args.includes c.args.bytes.now _ c.read_over.result
    (c.in_ok-functions.ensures.own ∙ ap (λ (fs : List (List ℕ)). given_in fs c.in_ok-functions.made.names (record { variables = c.in_ok-functions.made.variables; locals = c.in_ok-functions.made.locals; constants = c.in_ok-functions.made.constants })) (sym c.items.ensures)
    ∙ ap (λ (ns : List (List ℕ)). given_in c.items.result.now ns (record { variables = c.in_ok-functions.made.variables; locals = c.in_ok-functions.made.locals; constants = c.in_ok-functions.made.constants })) (sym c.items-2.ensures)) c.read_over.ensures.reads

pub returns-clause-names : goal.returns-clause-names
returns-clause-names c =
    read_declared c.names_are_declared.ensures.names c.args.includes c.args.bytes.now c.read_over.result
    (own_reads c.args.includes c.args.bytes.now _ c.read_over.result
    (c.in_ok-functions.ensures.own ∙ ap (λ (fs : List (List ℕ)). given_in fs c.in_ok-functions.made.names (record { variables = c.in_ok-functions.made.variables; locals = c.in_ok-functions.made.locals; constants = c.in_ok-functions.made.constants })) (sym c.items.ensures)
    ∙ ap (λ (ns : List (List ℕ)). given_in c.items.result.now ns (record { variables = c.in_ok-functions.made.variables; locals = c.in_ok-functions.made.locals; constants = c.in_ok-functions.made.constants })) (sym c.items-2.ensures)) c.read_over.ensures.reads)

pub returns-clause-program : goal.returns-clause-program
returns-clause-program c =
    own_formed c.names_are_declared.ensures.few c.args.includes c.args.bytes.now c.read_over.result
    (own_reads c.args.includes c.args.bytes.now _ c.read_over.result
    (c.in_ok-functions.ensures.own ∙ ap (λ (fs : List (List ℕ)). given_in fs c.in_ok-functions.made.names (record { variables = c.in_ok-functions.made.variables; locals = c.in_ok-functions.made.locals; constants = c.in_ok-functions.made.constants })) (sym c.items.ensures)
    ∙ ap (λ (ns : List (List ℕ)). given_in c.items.result.now ns (record { variables = c.in_ok-functions.made.variables; locals = c.in_ok-functions.made.locals; constants = c.in_ok-functions.made.constants })) (sym c.items-2.ensures)) c.read_over.ensures.reads)
    c.read_over.ensures.program

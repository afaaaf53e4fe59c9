use Rattle.std.proofs.Common.{◌++◌, ℕ, List, sym, ap, ◌∙◌, append_assoc}
use Rattle.std.specs.Borrow.{Bor}
use Rattle.std.proofs.lemmas.List.{append-nil}
use Rattle.cpp_lines.specs.Defined as specs
use Rattle.cpp_lines.specs.Lines.{pieces}
use Rattle.cpp_lines.specs.Taking.{plain_names}
use Rattle.cpp_lines.proofs.defined.names_of.Goals as goal

pub lines-init : goal.lines-init
lines-init c = ap (λ (xs : List (Bor (List ℕ))). plain_names xs ++ specs.names_of (pieces c.args.blanked.now)) c.new-names.ensures.items

pub lines-preserved : goal.lines-preserved
lines-preserved c =
    ap (λ (xs : List (List ℕ)). xs ++ specs.names_of (pieces c.in-Some.behind.now)) c.in_ok-add_name.ensures
    ∙ append_assoc (plain_names c.lines.names.items) (specs.names_in c.in-Some.line.now) (specs.names_of (pieces c.in-Some.behind.now))
    ∙ ap (λ (ps : List (List ℕ)). plain_names c.lines.names.items ++ specs.names_of ps) (sym c.in-Some.ensures.0) ∙ c.lines.invariant

pub returns : goal.returns
returns c =
    c.in_ok-add_name-2.ensures
    ∙ ap (λ (xs : List (List ℕ)). plain_names c.lines.names.items ++ xs) (sym (append-nil (specs.names_in c.lines.rest.now)))
    ∙ ap (λ (ps : List (List ℕ)). plain_names c.lines.names.items ++ specs.names_of ps) (sym c.in_default.ensures) ∙ c.lines.invariant

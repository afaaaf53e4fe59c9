use Rattle.std.proofs.Common.{◌≡◌, ◌++◌, List, ℕ, subst, ap, ◌∙◌}
use Rattle.certificate_format.proofs.Ranging.{no_name, behind_name}
use Rattle.certificate_format.proofs.leaves.item_before.Goals as goal

pub returns-in_default : goal.returns-in_default
returns-in_default c =
    no_name c.args.text.now c.args.name.now (subst (λ name. (rest : List ℕ) → c.args.text.now ≡ name ++ rest → ⊥) c.bytes.ensures c.in_default.ensures)

pub returns-in-None : goal.returns-in-None
returns-in-None c r rest h e =
    c.in-None.ensures r rest h (behind_name c.args.text.now c.args.name.now c.in-Some.text.now (c.in-Some.ensures ∙ ap (λ n. n ++ c.in-Some.text.now) c.bytes.ensures) r rest e)

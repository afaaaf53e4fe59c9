-- How much is open.
use Rattle.std.proofs.Common.{◌≡◌, ℕ, ◌+◌, List, [], ◌∷◌, ◌++◌, length, take, get_or, ◌<◌, refl, ap, sym, ◌∙◌, arith}
use Rattle.std.specs.Prelude.{reverse, nat_le}
use Rattle.std.proofs.lemmas.Bool.Decides.{nat_tests}
use Rattle.std.proofs.lemmas.List.{length-map, length-reverse, take_more}
use Rattle.c_grammar.specs.Deep.{tail_depth}
use Rattle.c_grammar.specs.Machine as machine
use Rattle.reading_states.specs.declared.unfinished.Link.{Link}
use Rattle.reading_states.specs.declared.states.Tailing.{Tailing}
use Rattle.reading_states.specs.declared.states.Tailing.TheVariants as tailings
use Rattle.item_reader.specs.Limits.{capped}
use Rattle.reading_states.specs.Views.{as_link, as_links, as_tailing, as_parts}
use Rattle.reading_states.proofs.Parts.{parts_more}

pub links_length : (list : List Link) → length (as_links list) ≡ length list
unfolding as_links
links_length list = length-map (reverse list) as_link ∙ length-reverse list

-- the cap is above the limit
pub at_least : (r n : ℕ) → r ≡ capped n → nat_le 64 r ≡ nat_le 64 n
at_least r n e = grind (arith, nat_tests)

tail_cons : (x : Tailing) (rest : List machine.Tailing) → tail_depth (as_tailing x ∷ rest) ≡ tail_depth (as_tailing x ∷ []) + tail_depth rest
tail_cons (tailings.Another numbers) rest = omega arith
tail_cons (tailings.Final numbers) rest = omega arith

pub tails_none : tail_depth (as_parts []) ≡ 0
unfolding as_parts
tails_none = refl

-- one more group behind `main`
pub tails_more : (list : List Tailing) (i : ℕ) (x : Tailing) → i < length list → x ≡ get_or list i x → tail_depth (as_parts (take (i + 1) list)) ≡ tail_depth (as_tailing x ∷ []) + tail_depth (as_parts (take i list))
tails_more list i x h e =
    ap (λ l. tail_depth (as_parts l)) (take_more list i x h)
    ∙ (ap (λ y. tail_depth (as_parts (take i list ++ y ∷ []))) (sym e)
    ∙ (ap tail_depth (parts_more (take i list) x) ∙ tail_cons x (as_parts (take i list))))

-- What an operation answers for both parts.
use Rattle.std.proofs.Common.{◌≡◌, Bool, true, false, if◌then◌else◌, refl, ap, sym, subst, ◌∙◌}
use Rattle.leaf_domain.specs.declared.form.Form.{Form}
use Rattle.leaf_domain.specs.declared.compare.Compare.{Compare}
use Rattle.leaf_domain.specs.Forms.{IsForm}
use Rattle.leaf_domain.specs.Leaves.{LeafValue, Alike, IsLeafLike, is_nothing_of}
use Rattle.octagon_leaf.specs.Octagons.{octagons}
use Rattle.octagon_leaf.specs.Laws.{octagon_laws}
use Rattle.congruence_leaf.specs.Congruences.{congruences as strides}
use Rattle.congruence_leaf.specs.Laws.{congruence_laws as stride_laws}
use Rattle.paired_leaf.specs.Pairs.{pair_of, first_of, second_of, IsPair}
use Rattle.paired_leaf.specs.Exchange.{exchanged}
use Rattle.paired_leaf.specs.PairedLeaves.{joined}
use Rattle.paired_leaf.proofs.ExchangeLaws.{exchanged_like}

-- as many variables
pub same_count : (v a b c d : LeafValue) → IsLeafLike octagons (first_of v) c → IsLeafLike strides (second_of v) d → a ≡ c → b ≡ d → a.variables ≡ b.variables
same_count v a b c d i j e f = ap (λ (u : LeafValue). u.variables) e ∙ i.same ∙ sym j.same ∙ sym (ap (λ (u : LeafValue). u.variables) f)

pub exchanged_same : (a b c d : LeafValue) → a ≡ c → b ≡ d → exchanged octagons strides a b ≡ exchanged octagons strides c d
exchanged_same a b c d e f = ap (λ u. exchanged octagons strides u b) e ∙ ap (λ u. exchanged octagons strides c u) f

pub pair_same : (a b c d : LeafValue) → a ≡ c → b ≡ d → pair_of a b ≡ pair_of c d
pair_same a b c d e f = ap (λ u. pair_of u b) e ∙ ap (λ u. pair_of c u) f

-- the parts of two leaves of one call
pub firsts_alike : (v w : LeafValue) → IsPair octagons strides v → IsPair octagons strides w → v.variables ≡ w.variables → Alike octagons (first_of v) (first_of w)
firsts_alike v w p q e = record { first = p.first; second = q.first; same = e }

pub seconds_alike : (v w : LeafValue) → IsPair octagons strides v → IsPair octagons strides w → v.variables ≡ w.variables → Alike strides (second_of v) (second_of w)
seconds_alike v w p q e = record { first = p.second; second = q.second; same = e }

pub both_same : {R : Type 0} (f : LeafValue → LeafValue → R) (a b c d : LeafValue) → a ≡ c → b ≡ d → f a b ≡ f c d
both_same f a b c d e g = ap (λ u. f u b) e ∙ ap (λ u. f c u) g

-- ---- the join, by which of both is Nothing
pub joined_first_nothing : (v w : LeafValue) → is_nothing_of v ≡ true → w ≡ joined octagons strides v w
joined_first_nothing v w e =
    let c = pair_of (octagons.join (first_of v) (first_of w)) (strides.join (second_of v) (second_of w)) in
    let P : Bool → Type 0 = λ t. w ≡ (if t then w else (if is_nothing_of w then v else c)) in
    subst P (sym e) refl

pub joined_second_nothing : (v w : LeafValue) → is_nothing_of v ≡ false → is_nothing_of w ≡ true → v ≡ joined octagons strides v w
joined_second_nothing v w e f =
    let c = pair_of (octagons.join (first_of v) (first_of w)) (strides.join (second_of v) (second_of w)) in
    let P : Bool → Type 0 = λ t. v ≡ (if t then w else (if is_nothing_of w then v else c)) in
    let Q : Bool → Type 0 = λ t. v ≡ (if t then v else c) in
    subst P (sym e) (subst Q (sym f) refl)

pub joined_parts : (v w : LeafValue) → is_nothing_of v ≡ false → is_nothing_of w ≡ false → pair_of (octagons.join (first_of v) (first_of w)) (strides.join (second_of v) (second_of w)) ≡ joined octagons strides v w
joined_parts v w e f =
    let c = pair_of (octagons.join (first_of v) (first_of w)) (strides.join (second_of v) (second_of w)) in
    let P : Bool → Type 0 = λ t. c ≡ (if t then w else (if is_nothing_of w then v else c)) in
    let Q : Bool → Type 0 = λ t. c ≡ (if t then v else c) in
    subst P (sym e) (subst Q (sym f) refl)

-- two parts that refined each other have as many variables as before
pub both_answered : (a : LeafValue) {b : LeafValue} (c d : LeafValue) → IsLeafLike octagons a c → IsLeafLike strides b d → a.variables ≡ b.variables → (exchanged octagons strides c d).variables ≡ a.variables
both_answered a {b} c d i j e =
    (exchanged_like octagons strides octagon_laws stride_laws a c d (record { first = i.valid; second = j.valid; same = i.same ∙ e ∙ sym j.same }) i.same).1

-- a leaf met with a comparison has as many variables
pub first_met : (v u a : LeafValue) (f : Form) (op : Compare) → IsPair octagons strides v → IsForm v.variables f → u ≡ first_of v → a ≡ octagons.meet_form u f op → a.variables ≡ v.variables
first_met v u a f op p g e h = ap (λ (w : LeafValue). w.variables) (h ∙ ap (λ w. octagons.meet_form w f op) e) ∙ (octagon_laws.meet_form_answers (first_of v) f op p.first g).same

pub second_met : (v u a : LeafValue) (f : Form) (op : Compare) → IsPair octagons strides v → IsForm v.variables f → u ≡ second_of v → a ≡ strides.meet_form u f op → a.variables ≡ v.variables
second_met v u a f op p g e h = ap (λ (w : LeafValue). w.variables) (h ∙ ap (λ w. strides.meet_form w f op) e) ∙ (stride_laws.meet_form_answers (second_of v) f op p.second g).same

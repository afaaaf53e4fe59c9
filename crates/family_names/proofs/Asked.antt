-- What stands in groups is kept where each of their conditions has the truth that is asked of it.
use Rattle.std.proofs.Common.{◌≡◌, ℕ, zero, suc, ◌<◌, Bool, true, false, not, ◌&&◌, List, [], ◌∷◌, ◌++◌, Some, None, reverse, length, get_or, slice_get, refl, sym, ap, subst, ◌∙◌, append_assoc, arith}
use Rattle.std.proofs.lemmas.List.{reverse-append}
use Rattle.std.specs.List.{All}
use Rattle.std.proofs.lemmas.Option.{get_or_from_slice_get, slice_get_within}
use Rattle.cpp_groups.specs.declared.section.Section.{Section}
use Rattle.cpp_groups.specs.declared.section.Section.TheVariants.{Seeking, Keeping, Passed}
use Rattle.cpp_groups.specs.Kept.{in_next, truth, next_group, all_kept}
use Rattle.cpp_conditions.specs.declared.formulas.Formula.{Formula}
use Rattle.cpp_conditions.specs.Propositions.{And, IsBelow, true_on}
use Rattle.cpp_conditions.specs.View.{formula}
use Rattle.family_names.specs.declared.groups.Group.{Group}
use Rattle.family_names.specs.declared.groups.Group.TheVariants.{First, Later, Else}
use Rattle.family_names.specs.Groups.{sections, are_kept, is_first, with_group, IsSome, IsOpened, is_true, is_as_asked, are_as_asked}
use Rattle.family_names.specs.Names.{truths_on}

pub truth_with : (fs : List Formula) (n : ℕ) (f : Formula) → slice_get fs n ≡ Some f → (v : List Bool) → truth (truths_on fs v) n ≡ true_on v (formula f)
truth_with [] n f e v = absurd cc
truth_with (g ∷ gs) zero f e v = let same : g ≡ f = cc in ap (λ (o : Formula). true_on v (formula o)) same
truth_with (g ∷ gs) (suc n) f e v = truth_with gs n f e v

pub truth_without : (fs : List Formula) (n : ℕ) → slice_get fs n ≡ None → (v : List Bool) → truth (truths_on fs v) n ≡ false
truth_without [] n e v = refl
truth_without (g ∷ gs) zero e v = absurd cc
truth_without (g ∷ gs) (suc n) e v = truth_without gs n e v

pub below_at : (fs : List Formula) (n : ℕ) (f : Formula) → slice_get fs n ≡ Some f → (count : ℕ) → All (λ (g : Formula). IsBelow count (formula g)) fs → IsBelow count (formula f)
below_at fs n f e count h = subst (λ (o : Formula). IsBelow count (formula o)) (get_or_from_slice_get fs n f f e) (h n f (slice_get_within fs n f e))

-- no group of the innermost section was kept so far, and what is around it is
abbrev pub waits : List Section → Bool
waits [] = true
waits (Seeking ∷ ss) = all_kept ss
waits (Keeping ∷ ss) = false
waits (Passed ∷ ss) = false

-- the latest group is kept, or with false it and those before it in its section aren't, but what is around them is
abbrev pub kept_by : List Bool → Bool → List Group → Bool
kept_by truths true gs = all_kept (sections truths gs)
kept_by truths false gs = waits (sections truths gs)

abbrev AreSome : List Section → Type 0
AreSome [] = ⊥
AreSome (s ∷ ss) = Unit {0}

later_some : (b : Bool) (ss : List Section) → AreSome ss → AreSome (in_next b ss)
later_some b [] h = h
later_some b (s ∷ ss) h = tt

sections_some : (truths : List Bool) (gs : List Group) → IsSome gs → IsOpened gs → AreSome (sections truths gs)
sections_some truths [] s h = s
sections_some truths (First n ∷ gs) s h = tt
sections_some truths (Later n ∷ gs) s h = later_some (truth truths n) (sections truths gs) (sections_some truths gs h.0 h.1)
sections_some truths (Else ∷ gs) s h = later_some true (sections truths gs) (sections_some truths gs h.0 h.1)

first_kept : (b : Bool) (ss : List Section) → all_kept (next_group Seeking b ∷ ss) ≡ (b && all_kept ss)
first_kept true ss = refl
first_kept false ss = refl

first_waits : (b : Bool) (ss : List Section) → waits (next_group Seeking b ∷ ss) ≡ (not b && all_kept ss)
first_waits true ss = refl
first_waits false ss = refl

later_kept : (b : Bool) (ss : List Section) → AreSome ss → all_kept (in_next b ss) ≡ (b && waits ss)
later_kept b [] h = absurd h
later_kept true (Seeking ∷ ss) h = refl
later_kept true (Keeping ∷ ss) h = refl
later_kept true (Passed ∷ ss) h = refl
later_kept false (Seeking ∷ ss) h = refl
later_kept false (Keeping ∷ ss) h = refl
later_kept false (Passed ∷ ss) h = refl

later_waits : (b : Bool) (ss : List Section) → AreSome ss → waits (in_next b ss) ≡ (not b && waits ss)
later_waits b [] h = absurd h
later_waits true (Seeking ∷ ss) h = refl
later_waits true (Keeping ∷ ss) h = refl
later_waits true (Passed ∷ ss) h = refl
later_waits false (Seeking ∷ ss) h = refl
later_waits false (Keeping ∷ ss) h = refl
later_waits false (Passed ∷ ss) h = refl

pub kept_step : (truths : List Bool) (asked : Bool) (g : Group) (gs : List Group) → IsOpened (with_group g gs) → kept_by truths asked (g ∷ gs) ≡ (is_as_asked asked (is_true truths g) && kept_by truths (is_first g) gs)
kept_step truths true (First n) gs h = first_kept (truth truths n) (sections truths gs)
kept_step truths false (First n) gs h = first_waits (truth truths n) (sections truths gs)
kept_step truths true (Later n) gs h = later_kept (truth truths n) (sections truths gs) (sections_some truths gs h.0 h.1)
kept_step truths false (Later n) gs h = later_waits (truth truths n) (sections truths gs) (sections_some truths gs h.0 h.1)
kept_step truths true Else gs h = later_kept true (sections truths gs) (sections_some truths gs h.0 h.1)
kept_step truths false Else gs h = later_waits true (sections truths gs) (sections_some truths gs h.0 h.1)

none_left : (truths : List Bool) (asked : Bool) → kept_by truths asked [] ≡ true
none_left truths true = refl
none_left truths false = refl

by_guards : (truths : List Bool) (asked : Bool) (gs : List Group) → IsOpened gs → kept_by truths asked gs ≡ are_as_asked truths asked gs
by_guards truths asked [] h = none_left truths asked
by_guards truths asked (First n ∷ gs) h =
    kept_step truths asked (First n) gs h ∙ ap (λ (b : Bool). is_as_asked asked (is_true truths (First n)) && b) (by_guards truths true gs h)
by_guards truths asked (Later n ∷ gs) h =
    kept_step truths asked (Later n) gs h ∙ ap (λ (b : Bool). is_as_asked asked (is_true truths (Later n)) && b) (by_guards truths false gs h.1)
by_guards truths asked (Else ∷ gs) h =
    kept_step truths asked Else gs h ∙ ap (λ (b : Bool). is_as_asked asked (is_true truths Else) && b) (by_guards truths false gs h.1)

pub opened_guards : (truths : List Bool) (gs : List Group) → IsOpened gs → are_kept truths gs ≡ are_as_asked truths true gs
opened_guards truths gs h = by_guards truths true gs h

-- ---- two halves

and_assoc : (a b c : Bool) → (a && (b && c)) ≡ ((a && b) && c)
and_assoc true b c = refl
and_assoc false b c = refl

and_one : (a : Bool) → (a && true) ≡ a
and_one true = refl
and_one false = refl

and_swap : (a b : Bool) → (a && b) ≡ (b && a)
and_swap true b = sym (and_one b)
and_swap false true = refl
and_swap false false = refl

apart : (truths : List Bool) (asked : Bool) (xs : List Group) (g : Group) (ys : List Group) → are_as_asked truths asked (xs ++ g ∷ ys) ≡ (are_as_asked truths asked (xs ++ g ∷ []) && are_as_asked truths (is_first g) ys)
apart truths asked [] g ys = ap (λ (b : Bool). b && are_as_asked truths (is_first g) ys) (sym (and_one (is_as_asked asked (is_true truths g))))
apart truths asked (x ∷ xs) g ys =
    ap (λ (b : Bool). is_as_asked asked (is_true truths x) && b) (apart truths (is_first x) xs g ys)
    ∙ and_assoc (is_as_asked asked (is_true truths x)) (are_as_asked truths (is_first x) (xs ++ g ∷ [])) (are_as_asked truths (is_first g) ys)

pub halves : (truths : List Bool) (asked : Bool) (outer inner : List Group) (d : Group) → 0 < length inner
    → are_as_asked truths asked (reverse (outer ++ inner)) ≡ (are_as_asked truths (is_first (get_or inner 0 d)) (reverse outer) && are_as_asked truths asked (reverse inner))
halves truths asked outer [] d lt = absurd (omega (arith, lt))
halves truths asked outer (g ∷ gs) d lt =
    ap (are_as_asked truths asked) (reverse-append outer (g ∷ gs) ∙ ap (λ (xs : List Group). xs ++ reverse outer) (reverse-append (g ∷ []) gs) ∙ append_assoc (reverse gs) (g ∷ []) (reverse outer))
    ∙ apart truths asked (reverse gs) g (reverse outer)
    ∙ ap (λ (xs : List Group). are_as_asked truths asked xs && are_as_asked truths (is_first g) (reverse outer)) (sym (reverse-append (g ∷ []) gs))
    ∙ and_swap (are_as_asked truths asked (reverse (g ∷ gs))) (are_as_asked truths (is_first g) (reverse outer))

pub halved : (conditions : List Formula) (asked b : Bool) (groups outer inner : List Group) (d : Group) (front back made : Formula) → groups ≡ outer ++ inner → 0 < length inner → b ≡ is_first (get_or inner 0 d)
    → ((v : List Bool) → are_as_asked (truths_on conditions v) b (reverse outer) ≡ true_on v (formula front)) → ((v : List Bool) → are_as_asked (truths_on conditions v) asked (reverse inner) ≡ true_on v (formula back))
    → formula made ≡ And (formula front) (formula back) → (v : List Bool) → are_as_asked (truths_on conditions v) asked (reverse groups) ≡ true_on v (formula made)
halved conditions asked b groups outer inner d front back made parts some first f g both v =
    ap (λ (gs : List Group). are_as_asked (truths_on conditions v) asked (reverse gs)) parts
    ∙ halves (truths_on conditions v) asked outer inner d some
    ∙ ap (λ (c : Bool). are_as_asked (truths_on conditions v) c (reverse outer) && are_as_asked (truths_on conditions v) asked (reverse inner)) (sym first)
    ∙ ap (λ (c : Bool). c && are_as_asked (truths_on conditions v) asked (reverse inner)) (f v)
    ∙ ap (λ (c : Bool). true_on v (formula front) && c) (g v)
    ∙ sym (ap (true_on v) both)

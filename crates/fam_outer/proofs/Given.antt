-- Loads one after another: what is known of the first ones and of those behind them is known of all.
use Rattle.std.proofs.Common.{◌≡◌, ℕ, suc, List, [], ◌∷◌, ◌++◌, length, refl, ap, subst, arith, ◌∙◌}
use Rattle.std.specs.Prelude.{Option, Some}
use Rattle.fam_outer.specs.declared.files.Loaded.{Loaded}
use Rattle.fam_outer.specs.Loading.{IsLoaded, Source, Load, load_of, Lead, AreOf, AreAnswered, Agree, AreGiven, only}

-- one load
pub given_one : {S : Type 0} (loads : S → Load → S → Type 0) (content : List ℕ → Option (List ℕ)) (before after : S) (path : List ℕ) (limit : ℕ)
    (answer : Loaded) (Done : Type 0) (Hold : List ℕ → Type 0) → loads before (load_of path limit answer) after → IsLoaded (content path) limit answer
    → ((bytes : List ℕ) → IsLoaded (Some bytes) limit answer → Hold bytes)
    → AreGiven loads content before after (record { path = path; limit = limit } ∷ []) only Done Hold
given_one loads content before after path limit answer Done Hold made answered hold = record {
  history = load_of path limit answer ∷ [];
  lead = (after, made, refl);
  of = (refl, tt);
  all = λ _. refl;
  answered = (answered, tt);
  hold = λ bytes agree. hold bytes agree.0;
}

-- of what follows
pub given_so : {S X : Type 0} (loads : S → Load → S → Type 0) (content : List ℕ → Option (List ℕ)) (before after : S) (sources : List Source)
    (contents : X → List (List ℕ)) (D E : Type 0) (P Q : X → Type 0) → AreGiven loads content before after sources contents D P
    → (E → D) → ((told : X) → P told → Q told) → AreGiven loads content before after sources contents E Q
given_so loads content before after sources contents D E P Q g done so = record {
  history = g.history;
  lead = g.lead;
  of = g.of;
  all = λ e. g.all (done e);
  answered = g.answered;
  hold = λ told agree. so told (g.hold told agree);
}

-- by a part of what is told
pub given_of : {S X Y : Type 0} (loads : S → Load → S → Type 0) (content : List ℕ → Option (List ℕ)) (before after : S) (sources : List Source)
    (contents : Y → List (List ℕ)) (D : Type 0) (P : Y → Type 0) (part : X → Y) → AreGiven loads content before after sources contents D P
    → AreGiven loads content before after sources (λ told. contents (part told)) D (λ told. P (part told))
given_of loads content before after sources contents D P part g = record {
  history = g.history;
  lead = g.lead;
  of = g.of;
  all = g.all;
  answered = g.answered;
  hold = λ told agree. g.hold (part told) agree;
}

agree_front : (history : List Load) (sources : List Source) (xs ys : List (List ℕ)) → AreOf sources history → length sources ≡ length xs → Agree history (xs ++ ys)
    → Agree history xs
agree_front [] sources xs ys of same agree = tt
agree_front (load ∷ rest) [] xs ys of same agree = absurd of
agree_front (load ∷ rest) (source ∷ sources) [] ys of same agree = let e : suc (length sources) ≡ 0 = same in absurd (omega (arith, e))
agree_front (load ∷ rest) (source ∷ sources) (x ∷ xs) ys of same agree =
    let e : suc (length sources) ≡ suc (length xs) = same in
    (agree.0, agree_front rest sources xs ys of.1 (omega (arith, e)) agree.1)

of_front : (history : List Load) (sources more : List Source) → AreOf sources history → AreOf (sources ++ more) history
of_front [] sources more of = tt
of_front (load ∷ rest) [] more of = absurd of
of_front (load ∷ rest) (source ∷ sources) more of = (of.0, of_front rest sources more of.1)

-- the first of more loads, where it is not done
pub given_front : {S X : Type 0} (loads : S → Load → S → Type 0) (content : List ℕ → Option (List ℕ)) (before after : S) (sources more : List Source)
    (contents others : X → List (List ℕ)) (D E : Type 0) (P Q : X → Type 0) → AreGiven loads content before after sources contents D P
    → ((told : X) → length sources ≡ length (contents told)) → (E → ⊥) → ((told : X) → P told → Q told)
    → AreGiven loads content before after (sources ++ more) (λ told. contents told ++ others told) E Q
given_front loads content before after sources more contents others D E P Q g same undone so = record {
  history = g.history;
  lead = g.lead;
  of = of_front g.history sources more g.of;
  all = λ e. absurd (undone e);
  answered = g.answered;
  hold = λ told agree. so told (g.hold told (agree_front g.history sources (contents told) (others told) g.of (same told) agree));
}

-- ---- all of some loads, and then others

lead_append : {S : Type 0} (loads : S → Load → S → Type 0) (before between after : S) (first second : List Load) → Lead loads before first between
    → Lead loads between second after → Lead loads before (first ++ second) after
lead_append {S = S} loads before between after [] second h k = subst (λ (s : S). Lead loads s second after) h k
lead_append {S = S} loads before between after (load ∷ rest) second (here, made, h) k = (here, made, lead_append loads here between after rest second h k)

of_append : (first second : List Load) (sources more : List Source) → AreOf sources first → length first ≡ length sources → AreOf more second
    → AreOf (sources ++ more) (first ++ second)
of_append [] second [] more h same k = k
of_append [] second (source ∷ sources) more h same k = let e : 0 ≡ suc (length sources) = same in absurd (omega (arith, e))
of_append (load ∷ rest) second [] more h same k = absurd h
of_append (load ∷ rest) second (source ∷ sources) more h same k =
    let e : suc (length rest) ≡ suc (length sources) = same in
    (h.0, of_append rest second sources more h.1 (omega (arith, e)) k)

answered_append : (content : List ℕ → Option (List ℕ)) (first second : List Load) → AreAnswered content first → AreAnswered content second
    → AreAnswered content (first ++ second)
answered_append content [] second h k = k
answered_append content (load ∷ rest) second h k = (h.0, answered_append content rest second h.1 k)

agree_parts : (first second : List Load) (xs ys : List (List ℕ)) → length first ≡ length xs → Agree (first ++ second) (xs ++ ys)
    → Agree first xs × Agree second ys
agree_parts [] second [] ys same agree = (tt, agree)
agree_parts [] second (x ∷ xs) ys same agree = let e : 0 ≡ suc (length xs) = same in absurd (omega (arith, e))
agree_parts (load ∷ rest) second [] ys same agree = let e : suc (length rest) ≡ 0 = same in absurd (omega (arith, e))
agree_parts (load ∷ rest) second (x ∷ xs) ys same agree =
    let e : suc (length rest) ≡ suc (length xs) = same in
    let parts = agree_parts rest second xs ys (omega (arith, e)) agree.1 in
    ((agree.0, parts.0), parts.1)

length_append : (first second : List Load) (sources more : List Source) → length first ≡ length sources → length second ≡ length more
    → length (first ++ second) ≡ length (sources ++ more)
length_append [] second [] more h k = k
length_append [] second (source ∷ sources) more h k = let e : 0 ≡ suc (length sources) = h in absurd (omega (arith, e))
length_append (load ∷ rest) second [] more h k = let e : suc (length rest) ≡ 0 = h in absurd (omega (arith, e))
length_append (load ∷ rest) second (source ∷ sources) more h k =
    let e : suc (length rest) ≡ suc (length sources) = h in
    ap (λ (n : ℕ). suc n) (length_append rest second sources more (omega (arith, e)) k)

-- all of the first, which are done, and then the others
pub given_then : {S X : Type 0} (loads : S → Load → S → Type 0) (content later : List ℕ → Option (List ℕ)) (before between after : S)
    (sources more : List Source) (contents others : X → List (List ℕ)) (D E : Type 0) (P Q R : X → Type 0)
    → AreGiven loads content before between sources contents D P → D → ((told : X) → length sources ≡ length (contents told))
    → later ≡ content → AreGiven loads later between after more others E Q → ((told : X) → P told → Q told → R told)
    → AreGiven loads content before after (sources ++ more) (λ told. contents told ++ others told) E R
given_then loads content later before between after sources more contents others D E P Q R g done same kept k both =
    let whole = g.all done in
    let answered : AreAnswered content k.history = subst (λ (c : List ℕ → Option (List ℕ)). AreAnswered c k.history) kept k.answered in
    record {
      history = g.history ++ k.history;
      lead = lead_append loads before between after g.history k.history g.lead k.lead;
      of = of_append g.history k.history sources more g.of whole k.of;
      all = λ e. length_append g.history k.history sources more whole (k.all e);
      answered = answered_append content g.history k.history g.answered answered;
      hold = λ told agree.
          let parts = agree_parts g.history k.history (contents told) (others told) (whole ∙ same told) agree in
          both told (g.hold told parts.0) (k.hold told parts.1);
    }

-- ---- contents that are told

-- the paths of the sources hold these, where they are told
abbrev pub AreHeld : (List ℕ → Option (List ℕ)) → List Source → List (List ℕ) → Type 0
AreHeld content [] contents = Unit {0}
AreHeld content (source ∷ sources) [] = ⊥
AreHeld content (source ∷ sources) (bytes ∷ contents) = (content source.path ≡ Some bytes) × AreHeld content sources contents

-- the answers agree with what is told
pub told_agree : (content : List ℕ → Option (List ℕ)) (history : List Load) (sources : List Source) (contents : List (List ℕ)) → AreOf sources history
    → AreAnswered content history → AreHeld content sources contents → Agree history contents
told_agree content [] sources contents of answered held = tt
told_agree content (load ∷ rest) [] contents of answered held = absurd of
told_agree content (load ∷ rest) (source ∷ sources) [] of answered held = absurd held
told_agree content (load ∷ rest) (source ∷ sources) (bytes ∷ contents) of answered held =
    let there : content load.source.path ≡ Some bytes = ap (λ (s : Source). content s.path) of.0 ∙ held.0 in (
      subst (λ (o : Option (List ℕ)). IsLoaded o load.source.limit load.answer) there answered.0,
      told_agree content rest sources contents of.1 answered.1 held.1,
    )

-- What is known behind the items that stay is what is known behind all, where nothing is known at each directive.
use Rattle.std.proofs.Common.{◌≡◌, Bool, true, false, not, ◌&&◌, List, [], ◌∷◌, Option, None, Some, refl, sym, ap, subst, ◌∙◌}
use Rattle.std.specs.Prelude.{if◌then◌else◌}
use Rattle.cpp_groups.specs.declared.section.Section.{Section}
use Rattle.cpp_groups.specs.Kept.{all_kept, sections_after}
use Rattle.c_grammar.specs.declared.items.Item.{Item}
use Rattle.c_grammar.specs.declared.items.Sign.{Sign}
use Rattle.c_grammar.specs.declared.items.Sign.TheVariants as signs
use Rattle.c_grammar.specs.Constants.{last_from, is_joining}
use Rattle.c_grammar.specs.Functions.{has_sign, stands_behind}
use Rattle.c_grammar.specs.Grammar.{is_group}
use Rattle.c_grammar.specs.Kept.{directive_of, kept_from, kept}
use Rattle.family_names.specs.Names.{sections_behind, is_kept}

-- behind a token the same sections are open
pub same_sections : (truths : List Bool) (ss : List Section) (s : Sign) → is_group s ≡ false → sections_after truths ss (directive_of s) ≡ ss
same_sections truths ss (signs.GroupIf n) h = absurd cc
same_sections truths ss (signs.GroupElif n) h = absurd cc
same_sections truths ss signs.GroupElse h = absurd cc
same_sections truths ss signs.GroupEnd h = absurd cc
same_sections truths ss _ h = refl

-- an item stays, or it is a directive or what stands around it goes
data Choice (g k : Bool) : Type 0 where
  stays : g ≡ false → k ≡ true → Choice g k
  directs : g ≡ true → Choice g k
  goes : g ≡ false → k ≡ false → Choice g k

chosen : (g k : Bool) → Choice g k
chosen true k = directs refl
chosen false true = stays refl refl
chosen false false = goes refl refl

pub both_ways : (b : Bool) → b ≡ true → b ≡ false → ⊥
both_ways b h k = let bad : true ≡ false = sym h ∙ k in cc

-- ---- what is known

-- what is known behind some items: of those that stay, and of all; where what stands around the next one goes, nothing is known of the first
pub record AreLike {S : Type 0} (nothing : S) (ss : List Section) (here all : S) : Type 0 where
  pub kept : all_kept ss ≡ true → here ≡ all
  pub gone : all_kept ss ≡ false → here ≡ nothing

-- where nothing is known before a directive, nothing is behind it
abbrev pub StaysNothing : {S : Type 0} → (S → Item → S) → S → Type 0
StaysNothing next nothing = (x : Item) → is_group x.sign ≡ true → next nothing x ≡ nothing

by_choice : {S : Type 0} (next : S → Item → S) (nothing : S) → StaysNothing next nothing → (truths : List Bool) (ss : List Section) (x : Item) (here all : S) → AreLike nothing ss here all → (is_group x.sign ≡ true → all ≡ nothing) → Choice (is_group x.sign) (all_kept ss)
    → AreLike nothing (sections_after truths ss (directive_of x.sign)) (if (not (is_group x.sign) && all_kept ss) then next here x else here) (next all x)
by_choice next nothing still truths ss x here all l before (stays g k) =
    subst (λ (t : Bool). AreLike nothing (sections_after truths ss (directive_of x.sign)) (if t then next here x else here) (next all x)) (sym (ap (λ (t : Bool). not t && all_kept ss) g ∙ k))
    (subst (λ (us : List Section). AreLike nothing us (next here x) (next all x)) (sym (same_sections truths ss x.sign g)) (record {
      kept = λ _. ap (λ t. next t x) (l.kept k);
      gone = λ e. absurd (both_ways (all_kept ss) k e);
    }))
by_choice next nothing still truths ss x here all l before (directs g) =
    let none : here ≡ nothing = elim (all_kept ss) as (λ k. all_kept ss ≡ k → here ≡ nothing) [ true ↦ λ k. l.kept k ∙ before g | false ↦ λ k. l.gone k ] refl in
    subst (λ (t : Bool). AreLike nothing (sections_after truths ss (directive_of x.sign)) (if (not t && all_kept ss) then next here x else here) (next all x)) (sym g) (record {
      kept = λ _. none ∙ sym (ap (λ t. next t x) (before g) ∙ still x g);
      gone = λ _. none;
    })
by_choice next nothing still truths ss x here all l before (goes g k) =
    subst (λ (t : Bool). AreLike nothing (sections_after truths ss (directive_of x.sign)) (if t then next here x else here) (next all x)) (sym (ap (λ (t : Bool). not t && all_kept ss) g ∙ k))
    (subst (λ (us : List Section). AreLike nothing us here (next all x)) (sym (same_sections truths ss x.sign g)) (record {
      kept = λ e. absurd (both_ways (all_kept ss) e k);
      gone = λ _. l.gone k;
    }))

pub like_next : {S : Type 0} (next : S → Item → S) (nothing : S) → StaysNothing next nothing → (truths : List Bool) (ss : List Section) (x : Item) (here all : S) → AreLike nothing ss here all → (is_group x.sign ≡ true → all ≡ nothing)
    → AreLike nothing (sections_after truths ss (directive_of x.sign)) (if (not (is_group x.sign) && all_kept ss) then next here x else here) (next all x)
like_next next nothing still truths ss x here all l before = by_choice next nothing still truths ss x here all l before (chosen (is_group x.sign) (all_kept ss))

-- at each directive nothing is known
abbrev pub KnowNothing : {S : Type 0} → (S → Item → S) → S → S → List Item → Type 0
KnowNothing next nothing all [] = Unit {0}
KnowNothing next nothing all (x ∷ xs) = (is_group x.sign ≡ true → all ≡ nothing) × KnowNothing next nothing (next all x) xs

-- what is known behind items
abbrev pub known_behind : {S : Type 0} → (S → Item → S) → S → List Item → S
known_behind next here [] = here
known_behind next here (x ∷ xs) = known_behind next (next here x) xs

known_more : {S : Type 0} (next : S → Item → S) (keep : Bool) (here : S) (x : Item) (ys : List Item) → known_behind next here (if keep then x ∷ ys else ys) ≡ known_behind next (if keep then next here x else here) ys
known_more next true here x ys = refl
known_more next false here x ys = refl

known_kept : {S : Type 0} (next : S → Item → S) (nothing : S) → StaysNothing next nothing → (truths : List Bool) (ss : List Section) (here all : S) (items : List Item) → KnowNothing next nothing all items → AreLike nothing ss here all
    → AreLike nothing (sections_behind truths ss items) (known_behind next here (kept_from truths ss items)) (known_behind next all items)
known_kept next nothing still truths ss here all [] h l = l
known_kept next nothing still truths ss here all (x ∷ xs) h l =
    let us = sections_after truths ss (directive_of x.sign) in
    subst (λ b. AreLike nothing (sections_behind truths (sections_after truths ss (directive_of x.sign)) xs) b (known_behind next (next all x) xs))
    (sym (known_more next (not (is_group x.sign) && all_kept ss) here x (kept_from truths us xs)))
    (known_kept next nothing still truths us (if (not (is_group x.sign) && all_kept ss) then next here x else here) (next all x) xs h.1 (like_next next nothing still truths ss x here all l h.0))

-- before an item that stays the same is known
pub known_same : {S : Type 0} (next : S → Item → S) (nothing : S) → StaysNothing next nothing → (truths : List Bool) (before : List Item) → KnowNothing next nothing nothing before → is_kept truths before ≡ true
    → known_behind next nothing (kept truths before) ≡ known_behind next nothing before
known_same next nothing still truths before h k = (known_kept next nothing still truths [] nothing nothing before h (record { kept = λ _. refl; gone = λ _. refl })).kept k

-- ---- what stands last

-- whether the last item has such a sign
abbrev pub by_last : (Sign → Bool) → Bool → Item → Bool
by_last is b x = is x.sign

-- no directive has such a sign
abbrev pub AreOthers : (Sign → Bool) → Type 0
AreOthers is = (s : Sign) → is_group s ≡ true → is s ≡ false

pub no_join : AreOthers is_joining
no_join (signs.GroupIf n) e = refl
no_join (signs.GroupElif n) e = refl
no_join signs.GroupElse e = refl
no_join signs.GroupEnd e = refl
no_join _ e = absurd cc

ends_known : (is : Sign → Bool) (last : Option Item) (items : List Item) → has_sign is (last_from last items) ≡ known_behind (by_last is) (has_sign is last) items
ends_known is last [] = refl
ends_known is last (x ∷ xs) = ends_known is (Some x) xs

-- what stands directly before an item that stays is what stands there in what stays, where no directive stands behind such a sign nor has it
pub stands_kept : (is : Sign → Bool) → AreOthers is → (truths : List Bool) (before : List Item) → KnowNothing (by_last is) false false before → is_kept truths before ≡ true → stands_behind is (kept truths before) ≡ stands_behind is before
stands_kept is other truths before h k = ends_known is None (kept truths before) ∙ known_same (by_last is) false (λ x g. other x.sign g) truths before h k ∙ sym (ends_known is None before)

-- ---- an item in front, left out or not

-- leaving out what is no directive, and then what goes, is leaving out what goes first
pub by_out : (truths : List Bool) (ss : List Section) (x : Item) (ys : List Item) (out keep : Bool) → (out ≡ true → is_group x.sign ≡ false) → (not (is_group x.sign) && all_kept ss) ≡ keep
    → (if out then kept_from truths (sections_after truths ss (directive_of x.sign)) ys else (if keep then x ∷ kept_from truths (sections_after truths ss (directive_of x.sign)) ys else kept_from truths (sections_after truths ss (directive_of x.sign)) ys))
    ≡ kept_from truths ss (if out then ys else x ∷ ys)
by_out truths ss x ys true keep plain k = ap (λ (us : List Section). kept_from truths us ys) (same_sections truths ss x.sign (plain refl))
by_out truths ss x ys false keep plain k = ap (λ (b : Bool). if b then x ∷ kept_from truths (sections_after truths ss (directive_of x.sign)) ys else kept_from truths (sections_after truths ss (directive_of x.sign)) ys) (sym k)

pub right : (a b : Bool) → (a && b) ≡ true → b ≡ true
right true b e = e
right false b e = absurd cc

pub either : (t : Bool) (ys : List Item) → (if t then ys else ys) ≡ ys
either true ys = refl
either false ys = refl

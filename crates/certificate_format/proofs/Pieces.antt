-- The pieces of a region, and their literals, each once.
use Rattle.std.proofs.Common.{◌≡◌, ◌⊎◌, inl, inr, ℕ, Bool, true, false, not, ◌&&◌, ◌||◌, true≢false, append-nil, append_assoc, List, [], ◌∷◌, ◌++◌, codes, map, refl, sym, ap, ap₂, subst, ◌∙◌}
use Rattle.std.specs.Prelude.{nat_eq, filter, flat_map, if◌then◌else◌, Option, Some}
use Rattle.std.specs.List.{list_any}
use Rattle.std.proofs.lemmas.List.{map-append}
use Rattle.std.proofs.lemmas.Grind.{flat_map-append}
use Rattle.std.proofs.lemmas.Bool.Decides.{Decides-eqb}
use Rattle.certificate_format.specs.declared.literals.Numbered.{Numbered}
use Rattle.certificate_format.specs.declared.literals.Piece.{Piece}
use Rattle.certificate_format.specs.Cuts.{Lacks, IsCut, Begins, AreBetween}
use Rattle.certificate_format.specs.Regions.{is_same, same_bool, distinct, literals_in}
use Rattle.certificate_format.specs.Rows.{added, all_added}

-- ---- parts

pub begins_more : (s t : List ℕ) (parts : List (List ℕ)) (rest part more : List ℕ) → Begins s t parts rest → IsCut s rest part more → Begins s t (parts ++ (part ∷ [])) more
begins_more s t [] rest part more b c = (more, subst (λ u. IsCut s u part more) (sym b) c, refl)
begins_more s t (p ∷ parts) rest part more b c = (b.0, b.1, begins_more s b.0 parts rest part more b.2 c)

-- ---- literals that are the same

and_parts : (a b : Bool) → (a && b) ≡ true → (a ≡ true) × (b ≡ true)
and_parts true true e = (refl, refl)
and_parts true false e = absurd (true≢false (sym e))
and_parts false b e = absurd (true≢false (sym e))

same_bools : (a b : Bool) → same_bool a b ≡ true → a ≡ b
same_bools true b e = sym e
same_bools false true e = absurd (true≢false (sym e))
same_bools false false e = refl

bool_refl : (a : Bool) → same_bool a a ≡ true
bool_refl true = refl
bool_refl false = refl

pub same_is : (a b : Numbered) → is_same a b ≡ true → a ≡ b
same_is a b e =
    let parts = and_parts (nat_eq a.number b.number) (same_bool a.positive b.positive) e in
    let n = (Decides-eqb a.number b.number).0 parts.0 in
    let p = same_bools a.positive b.positive parts.1 in
    λ i. record { number = n i; positive = p i }

same_refl : (a : Numbered) → is_same a a ≡ true
same_refl a = ap₂ (λ x y. x && y) ((Decides-eqb a.number a.number).1 refl) (bool_refl a.positive)

by_truth : (b : Bool) → (b ≡ true) ⊎ (b ≡ false)
by_truth true = inl refl
by_truth false = inr refl

not_same_sym : (a b : Numbered) → is_same a b ≡ false → is_same b a ≡ false
not_same_sym a b e =
    elim (by_truth (is_same b a)) [
      | inl t ↦ absurd (true≢false (sym (same_refl a) ∙ ap (λ x. is_same a x) (sym (same_is b a t)) ∙ e))
      | inr f ↦ f
    ]

-- ---- each literal once

abbrev others : Numbered → List Numbered → List Numbered
others l literals = filter (λ m. not (is_same l m)) literals

left_out : (l m : Numbered) (literals : List Numbered) → is_same l m ≡ true → others l (m ∷ literals) ≡ others l literals
left_out l m literals e = ap (λ b. if not b then m ∷ others l literals else others l literals) e

kept_in : (l m : Numbered) (literals : List Numbered) → is_same l m ≡ false → others l (m ∷ literals) ≡ m ∷ others l literals
kept_in l m literals e = ap (λ b. if not b then m ∷ others l literals else others l literals) e

found_in : (x l : Numbered) → is_same x l ≡ false → (literals : List Numbered) → list_any (is_same x) (others l literals) ≡ list_any (is_same x) literals
found_in x l e [] = refl
found_in x l e (m ∷ literals) =
    elim (by_truth (is_same l m)) [
      | inl t ↦
          let xm : is_same x m ≡ false = subst (λ z. is_same x z ≡ false) (same_is l m t) e in
          ap (list_any (is_same x)) (left_out l m literals t) ∙ found_in x l e literals ∙ sym (ap (λ b. b || list_any (is_same x) literals) xm)
      | inr f ↦ ap (list_any (is_same x)) (kept_in l m literals f) ∙ ap (λ b. is_same x m || b) (found_in x l e literals)
    ]

others_end : (l x : Numbered) (literals : List Numbered) → others l (literals ++ (x ∷ [])) ≡ others l literals ++ others l (x ∷ [])
others_end l x [] = refl
others_end l x (m ∷ literals) =
    elim (by_truth (is_same l m)) [
      | inl t ↦ left_out l m (literals ++ (x ∷ [])) t ∙ others_end l x literals ∙ sym (ap (λ v. v ++ others l (x ∷ [])) (left_out l m literals t))
      | inr f ↦ kept_in l m (literals ++ (x ∷ [])) f ∙ ap (λ v. m ∷ v) (others_end l x literals) ∙ sym (ap (λ v. v ++ others l (x ∷ [])) (kept_in l m literals f))
    ]

added_there : (found : List Numbered) (l : Numbered) → list_any (is_same l) found ≡ true → added found l ≡ found
added_there found l e = ap (λ b. if b then found else found ++ (l ∷ [])) e

added_new : (found : List Numbered) (l : Numbered) → list_any (is_same l) found ≡ false → added found l ≡ found ++ (l ∷ [])
added_new found l e = ap (λ b. if b then found else found ++ (l ∷ [])) e

added_cons : (l x : Numbered) (literals : List Numbered) → l ∷ others l (added literals x) ≡ added (l ∷ others l literals) x
added_cons l x literals =
    elim (by_truth (is_same x l)) [
      | inl t ↦
          let there : list_any (is_same x) (l ∷ others l literals) ≡ true = ap (λ b. b || list_any (is_same x) (others l literals)) t in
          let lx : is_same l x ≡ true = subst (λ z. is_same l z ≡ true) (sym (same_is x l t)) (same_refl l) in
          elim (by_truth (list_any (is_same x) literals)) [
            | inl u ↦ ap (λ d. l ∷ others l d) (added_there literals x u) ∙ sym (added_there (l ∷ others l literals) x there)
            | inr u ↦
                ap (λ d. l ∷ others l d) (added_new literals x u) ∙ ap (λ v. l ∷ v) (others_end l x literals ∙ ap (λ v. others l literals ++ v) (left_out l x [] lx) ∙ append-nil (others l literals))
                ∙ sym (added_there (l ∷ others l literals) x there)
          ]
      | inr f ↦
          let same : list_any (is_same x) (l ∷ others l literals) ≡ list_any (is_same x) literals = ap (λ b. b || list_any (is_same x) (others l literals)) f ∙ found_in x l f literals in
          elim (by_truth (list_any (is_same x) literals)) [
            | inl u ↦ ap (λ d. l ∷ others l d) (added_there literals x u) ∙ sym (added_there (l ∷ others l literals) x (same ∙ u))
            | inr u ↦
                ap (λ d. l ∷ others l d) (added_new literals x u) ∙ ap (λ v. l ∷ v) (others_end l x literals ∙ ap (λ v. others l literals ++ v) (kept_in l x [] (not_same_sym x l f)))
                ∙ sym (added_new (l ∷ others l literals) x (same ∙ u))
          ]
    ]

pub distinct_more : (literals : List Numbered) (x : Numbered) → distinct (literals ++ (x ∷ [])) ≡ added (distinct literals) x
distinct_more [] x = refl
distinct_more (l ∷ literals) x = ap (λ d. l ∷ others l d) (distinct_more literals x) ∙ added_cons l x (distinct literals)

all_distinct : (literals more : List Numbered) → distinct (literals ++ more) ≡ all_added (distinct literals) more
all_distinct literals [] = ap distinct (append-nil literals)
all_distinct literals (x ∷ more) =
    ap distinct (sym (append_assoc literals (x ∷ []) more)) ∙ all_distinct (literals ++ (x ∷ [])) more ∙ ap (λ d. all_added d more) (distinct_more literals x)

piece_more : (pieces : List Piece) (p : Piece) → distinct (flat_map literals_in (pieces ++ (p ∷ []))) ≡ all_added (distinct (flat_map literals_in pieces)) (literals_in p)
piece_more pieces p =
    ap distinct (flat_map-append literals_in pieces (p ∷ []) ∙ ap (λ ls. flat_map literals_in pieces ++ ls) (append-nil (literals_in p)))
    ∙ all_distinct (flat_map literals_in pieces) (literals_in p)

-- ---- the pieces up to a rest

-- the literals of the pieces before the rest are found
pub record AreFound (of : List ℕ → Option Piece) (region rest : List ℕ) (found : List Numbered) : Type 0 where
  pub texts : List (List ℕ)
  pub pieces : List Piece
  pub begins : Begins (codes " && ") region texts rest
  pub spelled : map of texts ≡ map Some pieces
  pub found_is : found ≡ distinct (flat_map literals_in pieces)

pub none_found : (of : List ℕ → Option Piece) (region : List ℕ) (found : List Numbered) → found ≡ [] → AreFound of region region found
none_found of region found e = record {
  texts = [];
  pieces = [];
  begins = refl;
  spelled = refl;
  found_is = e;
}

spelled_more : (of : List ℕ → Option Piece) (texts : List (List ℕ)) (pieces : List Piece) (text : List ℕ) (p : Piece) → map of texts ≡ map Some pieces → of text ≡ Some p
    → map of (texts ++ (text ∷ [])) ≡ map Some (pieces ++ (p ∷ []))
spelled_more of texts pieces text p e f =
    map-append of texts (text ∷ []) ∙ ap₂ (λ x y. x ++ (y ∷ [])) e f ∙ sym (map-append Some pieces (p ∷ []))

pub found_more : (of : List ℕ → Option Piece) (region rest : List ℕ) (found : List Numbered) (text more : List ℕ) (p : Piece) (new : List Numbered) → AreFound of region rest found → IsCut (codes " && ") rest text more
    → of text ≡ Some p → new ≡ all_added found (literals_in p) → AreFound of region more new
found_more of region rest found text more p new f c is e = record {
  texts = f.texts ++ (text ∷ []);
  pieces = f.pieces ++ (p ∷ []);
  begins = begins_more (codes " && ") region f.texts rest text more f.begins c;
  spelled = spelled_more of f.texts f.pieces text p f.spelled is;
  found_is = e ∙ ap (λ d. all_added d (literals_in p)) f.found_is ∙ sym (piece_more f.pieces p);
}

pub all_found : (of : List ℕ → Option Piece) (region rest : List ℕ) (found : List Numbered) (p : Piece) (new : List Numbered) → AreFound of region rest found → Lacks (codes " && ") rest → of rest ≡ Some p
    → new ≡ all_added found (literals_in p) → (texts : List (List ℕ)) × (pieces : List Piece) × AreBetween (codes " && ") region texts × (map of texts ≡ map Some pieces) × (new ≡ distinct (flat_map literals_in pieces))
all_found of region rest found p new f none is e = (
  f.texts ++ (rest ∷ []),
  f.pieces ++ (p ∷ []),
  record { front = f.texts; last = rest; begins = f.begins; ends = none; parts_are = refl },
  spelled_more of f.texts f.pieces rest p f.spelled is,
  e ∙ ap (λ d. all_added d (literals_in p)) f.found_is ∙ sym (piece_more f.pieces p),
)

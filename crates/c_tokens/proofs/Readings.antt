-- What the function reads is a reading.
use Rattle.std.proofs.Common.{◌≡◌, ℕ, zero, suc, ◌+◌, ◌-◌, ◌<◌, ◌≤◌, true, false, cond, List, [], ◌∷◌, length, take, drop, get_or, Option, Some, None, Result, Ok, Err, refl, sym, ap, subst, ◌∙◌, add-one, arith}
use Rattle.std.specs.List.{list_all}
use Rattle.std.proofs.lemmas.Bool.{and_from}
use Rattle.std.proofs.lemmas.List.{length-drop}
use Rattle.std.proofs.Math.Seq.{drop-cons}
use Rattle.fam_outer.specs.declared.faults.Place.{Place}
use Rattle.fam_outer.specs.declared.faults.FileCode.{FileCode}
use Rattle.fam_outer.specs.declared.faults.FileCode.TheVariants.{StrayByte, Literal}
use Rattle.c_tokens.specs.declared.token.Token.{Token}
use Rattle.c_tokens.specs.declared.token.TokenKind.{TokenKind}
use Rattle.c_words.specs.Bytes.{is_space}
use Rattle.c_tokens.specs.Lexemes.{is_lexeme, IsLongest, lexeme_of, kind_of}
use Rattle.fam_outer.specs.Places.{place_at}
use Rattle.c_tokens.specs.Reading.{slice, IsSpaceBetween, IsTokenIn, StandBetween, IsStray, HasFault, IsReading, known, front_of, before, read_lexeme, read_from, tokens_of}
use Rattle.c_tokens.proofs.Longest.{is_longest}

-- a reading from an offset on
abbrev pub ReadingFrom : List ℕ → ℕ → Result (List Token) (FileCode × Place) → Type 0
ReadingFrom text offset (Ok ts) = StandBetween text offset ts (length text)
ReadingFrom text offset (Err fault) = (ts : List Token) × (at : ℕ) × StandBetween text offset ts at × HasFault text at fault.0 × (fault.1 ≡ place_at text at)

-- the bytes from an offset on
pub record IsAt (text : List ℕ) (offset : ℕ) (rest : List ℕ) : Type 0 where
  pub within : offset ≤ length text
  pub here : rest ≡ drop offset text

pub at_length : {text : List ℕ} {offset : ℕ} {rest : List ℕ} → IsAt text offset rest → offset + length rest ≡ length text
at_length {text} {offset} at = omega (arith, ap length at.here, length-drop offset text, at.within)

pub cons_at : (text : List ℕ) (offset : ℕ) → offset < length text → drop offset text ≡ get_or text offset 0 ∷ drop (offset + 1) text
cons_at text offset lt = rw (add-one offset) (drop-cons text offset 0 lt)

next_at : (text : List ℕ) (offset b : ℕ) (bs : List ℕ) → IsAt text offset (b ∷ bs) → IsAt text (offset + 1) bs
next_at text offset b bs at =
    let n = at_length at in
    record { within = omega arith; here = ap (drop 1) (at.here ∙ cons_at text offset (omega arith)) }

pub empty_space : (text : List ℕ) (offset : ℕ) → offset ≤ length text → IsSpaceBetween text offset offset
empty_space text offset le = record { order = omega arith; within = le; spaces = (let k : offset - offset ≡ 0 = omega arith in rw k refl) }

wider_space : (text : List ℕ) (offset end b : ℕ) (bs : List ℕ) → IsAt text offset (b ∷ bs) → is_space b ≡ true → IsSpaceBetween text (offset + 1) end → IsSpaceBetween text offset end
wider_space text offset end b bs at s h =
    let o = h.order in
    let k : end - offset ≡ suc (end - (offset + 1)) = omega arith in
    record {
      order = omega arith;
      within = h.within;
      spaces = rw (k, ← at.here) (and_from (is_space b) (list_all is_space (take (end - (offset + 1)) bs)) s (subst (λ (xs : List ℕ). list_all is_space (take (end - (offset + 1)) xs) ≡ true) (sym (next_at text offset b bs at).here) h.spaces));
    }

wider : (text : List ℕ) (offset b : ℕ) (bs : List ℕ) (ts : List Token) (end : ℕ) → IsAt text offset (b ∷ bs) → is_space b ≡ true → StandBetween text (offset + 1) ts end → StandBetween text offset ts end
wider text offset b bs [] end at s h = wider_space text offset end b bs at s h
wider text offset b bs (t ∷ ts) end at s h = (wider_space text offset t.start b bs at s h.0, h.1)

wider_reading : (text : List ℕ) (offset b : ℕ) (bs : List ℕ) (r : Result (List Token) (FileCode × Place)) → IsAt text offset (b ∷ bs) → is_space b ≡ true → ReadingFrom text (offset + 1) r → ReadingFrom text offset r
wider_reading text offset b bs (Ok ts) at s h = wider text offset b bs ts (length text) at s h
wider_reading text offset b bs (Err fault) at s h = (h.0, h.1, wider text offset b bs h.0 h.1 at s h.2, h.3, h.4)

-- a token in front of a reading
token_first : (text : List ℕ) (offset : ℕ) (t : Token) (r : Result (List Token) (FileCode × Place)) → IsSpaceBetween text offset t.start → IsTokenIn text t → ReadingFrom text t.end r → ReadingFrom text offset (before (t ∷ []) r)
token_first text offset t (Ok ts) s is h = (s, (is, h))
token_first text offset t (Err fault) s is h = (t ∷ h.0, h.1, (s, (is, h.2)), h.3, h.4)

fault_here : (text : List ℕ) (offset : ℕ) (code : FileCode) → offset ≤ length text → HasFault text offset code → ReadingFrom text offset (Err (code, place_at text offset))
fault_here text offset code le h = ([], offset, empty_space text offset le, h, refl)

is_stray : (text : List ℕ) (offset b : ℕ) (bs : List ℕ) → IsAt text offset (b ∷ bs) → is_space b ≡ false → lexeme_of (b ∷ bs) ≡ 0 → IsStray text offset
is_stray text offset b bs at s e =
    let n = at_length at in
    let one : (offset + 1) - offset ≡ 1 = omega arith in
    record {
      within = omega arith;
      no_space = rw (one, ← at.here, s) refl;
      none = subst (λ (xs : List ℕ). IsLongest is_lexeme 0 xs) at.here (subst (λ (i : ℕ). IsLongest is_lexeme i (b ∷ bs)) e (is_longest is_lexeme (b ∷ bs)));
    }

lexeme_at : (text : List ℕ) (offset n : ℕ) (rest : List ℕ) → IsAt text offset rest → lexeme_of rest ≡ n → IsLongest is_lexeme n (drop offset text)
lexeme_at text offset n rest at e = subst (λ (xs : List ℕ). IsLongest is_lexeme n xs) at.here (subst (λ (i : ℕ). IsLongest is_lexeme i rest) e (is_longest is_lexeme rest))

kind_at : (text : List ℕ) (offset n : ℕ) (rest : List ℕ) (kind : Option TokenKind) → IsAt text offset rest → kind_of (take n rest) ≡ kind → kind_of (slice text offset (offset + n)) ≡ kind
kind_at text offset n rest kind at e = (let k : (offset + n) - offset ≡ n = omega arith in rw (k, ← at.here) e)

lexed_reading : (text : List ℕ) (offset b : ℕ) (bs : List ℕ) (n : ℕ) (kind : Option TokenKind) → IsAt text offset (b ∷ bs) → is_space b ≡ false
    → lexeme_of (b ∷ bs) ≡ n → kind_of (take n (b ∷ bs)) ≡ kind → (more : ℕ → Result (List Token) (FileCode × Place)) → (0 < n → ReadingFrom text (offset + n) (more (n - 1))) → ReadingFrom text offset (read_lexeme text offset (known n kind) more)
lexed_reading text offset b bs zero kind at s e k more h = fault_here text offset StrayByte at.within (is_stray text offset b bs at s e)
lexed_reading text offset b bs (suc n) None at s e k more h = fault_here text offset Literal at.within (suc n, record { begins = omega arith; longest = lexeme_at text offset (suc n) (b ∷ bs) at e; none = kind_at text offset (suc n) (b ∷ bs) None at k })
lexed_reading text offset b bs (suc n) (Some kind) at s e k more h =
    let len : (offset + suc n) - offset ≡ suc n = omega arith in
    token_first text offset (record { kind = kind; place = place_at text offset; start = offset; end = offset + suc n }) (more (suc n - 1)) (empty_space text offset at.within)
    (record {
      begins = omega arith;
      longest = subst (λ (i : ℕ). IsLongest is_lexeme i (drop offset text)) (sym len) (lexeme_at text offset (suc n) (b ∷ bs) at e);
      kind = kind_at text offset (suc n) (b ∷ bs) (Some kind) at k;
      place = refl;
    })
    (h (omega arith))

pub reads : (text : List ℕ) (offset left : ℕ) (rest : List ℕ) → IsAt text offset rest → left ≤ length rest → ReadingFrom text (offset + left) (read_from text offset left rest)
reads text offset left [] at le =
    let n = at_length at in
    let k : offset + left ≡ length text = omega arith in
    subst (λ (i : ℕ). IsSpaceBetween text i (length text)) (sym k) (empty_space text (length text) (omega arith))
reads text offset (suc left) (b ∷ bs) at le = subst (λ (i : ℕ). ReadingFrom text i (read_from text (offset + 1) left bs)) (let k : offset + 1 + left ≡ offset + suc left = omega arith in k) (reads text (offset + 1) left bs (next_at text offset b bs at) (omega arith))
reads text offset zero (b ∷ bs) at le =
    subst (λ (i : ℕ). ReadingFrom text i (read_from text offset 0 (b ∷ bs))) (let k : offset ≡ offset + 0 = omega arith in k)
    (elim (is_space b) as (λ v. is_space b ≡ v → ReadingFrom text offset (cond v (read_from text (offset + 1) 0 bs) (read_lexeme text offset (front_of (b ∷ bs)) (λ left. read_from text (offset + 1) left bs)))) [
      | true ↦ λ s. wider_reading text offset b bs (read_from text (offset + 1) 0 bs) at s (subst (λ (i : ℕ). ReadingFrom text i (read_from text (offset + 1) 0 bs)) (let k : offset + 1 + 0 ≡ offset + 1 = omega arith in k) (reads text (offset + 1) 0 bs (next_at text offset b bs at) (omega arith)))
      | false ↦ λ s. lexed_reading text offset b bs (lexeme_of (b ∷ bs)) (kind_of (take (lexeme_of (b ∷ bs)) (b ∷ bs))) at s refl refl (λ left. read_from text (offset + 1) left bs)
          (λ lt. (let fits = (is_longest is_lexeme (b ∷ bs)).fits in
          subst (λ (i : ℕ). ReadingFrom text i (read_from text (offset + 1) (lexeme_of (b ∷ bs) - 1) bs)) (let k : offset + 1 + (lexeme_of (b ∷ bs) - 1) ≡ offset + lexeme_of (b ∷ bs) = omega arith in k) (reads text (offset + 1) (lexeme_of (b ∷ bs) - 1) bs (next_at text offset b bs at) (omega arith))))
    ] refl)

whole : (text : List ℕ) (r : Result (List Token) (FileCode × Place)) → ReadingFrom text 0 r → IsReading text r
whole text (Ok ts) h = h
whole text (Err fault) h = h

pub is_reading : (text : List ℕ) → IsReading text (tokens_of text)
unfolding tokens_of
is_reading text = whole text (read_from text 0 0 text) (subst (λ (i : ℕ). ReadingFrom text i (read_from text 0 0 text)) (let k : 0 + 0 ≡ 0 = omega arith in k) (reads text 0 0 text (record { within = omega arith; here = refl }) (omega arith)))

-- A blanked text has no comment and no splice, and neither has what stays of its lines.
use Rattle.std.proofs.Common.{◌≡◌, ℕ, zero, suc, ◌+◌, ◌-◌, ◌≤◌, ◌==◌, Bool, true, false, not, ◌||◌, ◌&&◌, cond, List, [], ◌∷◌, ◌++◌, length, drop, Option, Some, None, refl, sym, ap, ◌∙◌, arith}
use Rattle.std.specs.Prelude.{codes, is_none, option_map, unwrap_or}
use Rattle.std.specs.List.{prefix_len}
use Rattle.std.proofs.lemmas.Bool.{or_parts, or_from}
use Rattle.std.proofs.lemmas.Bool.Decides.{nat_tests}
use Rattle.fam_outer.specs.declared.faults.Place.{Place}
use Rattle.fam_outer.specs.declared.faults.FileCode.{FileCode}
use Rattle.fam_outer.specs.declared.faults.FileCode.TheVariants.{OpenComment, Splice, CommentAtDirective}
use Rattle.fam_outer.specs.Places.{is_newline, place_at}
use Rattle.cpp_lines.specs.Bytes.{begins_with, is_line_byte}
use Rattle.cpp_lines.specs.Comments.{block_len, comment_len, comment_left, blanked_byte, blank_from}
use Rattle.cpp_lines.specs.Faults.{ends_line, ends_line_behind, is_splice, touches_directive, comment_fault, fault_at, or_later, first_fault_from}
use Rattle.cpp_lines.specs.Pieces.{opens}
use Rattle.cpp_lines.proofs.Blanking.{begins_len}

-- no comment and no splice begins at one of these bytes
abbrev pub IsClean : List ℕ → Type 0
IsClean [] = Unit {0}
IsClean (b ∷ bs) = (opens (b ∷ bs) ≡ false) × (is_splice (b ∷ bs) ≡ false) × IsClean bs

-- ---- such a text is its own blanked text, and has no fault

no_comment : (bytes : List ℕ) → opens bytes ≡ false → comment_len bytes ≡ 0
no_comment bytes h =
    let p = or_parts (begins_with 47 42 bytes) (begins_with 47 47 bytes) h in
    ap (λ (t : Bool). cond t (unwrap_or (option_map (λ n. 2 + n) (block_len (drop 2 bytes))) (length bytes)) (cond (begins_with 47 47 bytes) (prefix_len is_line_byte bytes) 0)) p.0
    ∙ ap (λ (t : Bool). cond t (prefix_len is_line_byte bytes) 0) p.1

pub blank_clean : (text : List ℕ) → IsClean text → blank_from 0 text ≡ text
blank_clean [] h = refl
blank_clean (b ∷ bs) h =
    ap (λ (n : ℕ). blanked_byte n b ∷ blank_from (n - 1) bs) (no_comment (b ∷ bs) h.0) ∙ ap (λ (xs : List ℕ). b ∷ xs) (blank_clean bs h.2)

fault_none : (whole : List ℕ) (offset : ℕ) (bytes : List ℕ) → opens bytes ≡ false → is_splice bytes ≡ false → fault_at whole offset 0 bytes ≡ None
fault_none whole offset bytes h s =
    let p = or_parts (begins_with 47 42 bytes) (begins_with 47 47 bytes) h in
    ap (λ (t : Bool). cond t (Some Splice) (comment_fault whole offset bytes)) s
    ∙ ap (λ (t : Bool). cond (t && is_none (block_len (drop 2 bytes))) (Some OpenComment) (cond (touches_directive whole offset (comment_len bytes)) (Some CommentAtDirective) None)) p.0
    ∙ ap (λ (n : ℕ). cond (touches_directive whole offset n) (Some CommentAtDirective) None) (no_comment bytes h)

pub clean_without_fault : (whole : List ℕ) (offset : ℕ) (text : List ℕ) → IsClean text → first_fault_from whole offset 0 text ≡ None
clean_without_fault whole offset [] h = refl
clean_without_fault whole offset (b ∷ bs) h =
    ap (λ (o : Option FileCode). or_later (option_map (λ code. (code, place_at whole offset)) o) (first_fault_from whole (offset + 1) (comment_left 0 (b ∷ bs) - 1) bs)) (fault_none whole offset (b ∷ bs) h.0 h.1)
    ∙ ap (λ (n : ℕ). first_fault_from whole (offset + 1) (n - 1) bs) (no_comment (b ∷ bs) h.0)
    ∙ clean_without_fault whole (offset + 1) bs h.2

-- ---- a blanked text is so: a comment or a splice in it stood in the text before

weaker : (a x y : Bool) → (x ≡ true → y ≡ true) → (a && y) ≡ false → (a && x) ≡ false
weaker false x y go h = refl
weaker true false y go h = refl
weaker true true y go h = absurd (let e : true ≡ false = sym (go refl) ∙ h in cc)

either : (a b c d : Bool) → (a ≡ true → c ≡ true) → (b ≡ true → d ≡ true) → (a || b) ≡ true → (c || d) ≡ true
either true b c d f g h = ap (λ (t : Bool). t || d) (f refl)
either false b true d f g h = refl
either false b false d f g h = g h

both : (a b c d : Bool) → (a ≡ true → c ≡ true) → (b ≡ true → d ≡ true) → (a && b) ≡ true → (c && d) ≡ true
both true b c d f g h = ap (λ (t : Bool). t && d) (f refl) ∙ g h
both false b c d f g h = absurd cc

-- a byte that is no space was there before
byte_was : (k c y : ℕ) → (32 == y) ≡ false → (blanked_byte k c == y) ≡ true → (c == y) ≡ true
byte_was zero c y n h = h
byte_was (suc k) c y n h = elim (is_newline c) as (λ t. (cond t c 32 == y) ≡ true → (c == y) ≡ true) [
  | true ↦ λ e. e
  | false ↦ λ e. absurd (let z : true ≡ false = sym e ∙ n in cc)
] h

not_slash : (b : ℕ) → (b == 10) ≡ true → (b == 47) ≡ false
not_slash b e = grind (arith, nat_tests)

blanked_slash : (k b : ℕ) → (blanked_byte (suc k) b == 47) ≡ false
blanked_slash k b = elim (is_newline b) as (λ t. is_newline b ≡ t → (cond t b 32 == 47) ≡ false) [ true ↦ λ e. not_slash b e | false ↦ λ e. refl ] refl

begins_not : (x y b : ℕ) (bs : List ℕ) → (b == x) ≡ false → begins_with x y (b ∷ bs) ≡ false
begins_not x y b [] e = refl
begins_not x y b (c ∷ bs) e = ap (λ (t : Bool). t && (c == y)) e

opens_not : (b : ℕ) (bs : List ℕ) → (b == 47) ≡ false → opens (b ∷ bs) ≡ false
opens_not b bs e = or_from (begins_with 47 42 (b ∷ bs)) (begins_with 47 47 (b ∷ bs)) (begins_not 47 42 b bs e) (begins_not 47 47 b bs e)

-- where no comment is open, none opens
is_slash : (b y : ℕ) (bs : List ℕ) → begins_with 47 y (b ∷ bs) ≡ true → (b == 47) ≡ true
is_slash b y [] h = absurd cc
is_slash b y (c ∷ bs) h = elim (b == 47) as (λ t. (t && (c == y)) ≡ true → t ≡ true) [ true ↦ λ _. refl | false ↦ λ e. absurd cc ] h

slash_stands : (b : ℕ) → (b == 47) ≡ true → is_newline b ≡ false
slash_stands b e = grind (arith, nat_tests)

no_block : (bytes : List ℕ) (o : Option ℕ) → 2 ≤ length bytes → unwrap_or (option_map (λ n. 2 + n) o) (length bytes) ≡ 0 → ⊥
no_block bytes None le h = omega (arith, le, h)
no_block bytes (Some n) le h = omega (arith, h)

none_opens : (b : ℕ) (bs : List ℕ) → comment_len (b ∷ bs) ≡ 0 → opens (b ∷ bs) ≡ false
none_opens b bs h = elim (begins_with 47 42 (b ∷ bs)) as (λ t. begins_with 47 42 (b ∷ bs) ≡ t
    → cond t (unwrap_or (option_map (λ n. 2 + n) (block_len (drop 2 (b ∷ bs)))) (length (b ∷ bs))) (cond (begins_with 47 47 (b ∷ bs)) (prefix_len is_line_byte (b ∷ bs)) 0) ≡ 0 → (t || begins_with 47 47 (b ∷ bs)) ≡ false) [
      | true ↦ λ e k. absurd (no_block (b ∷ bs) (block_len (drop 2 (b ∷ bs))) (begins_len 47 42 (b ∷ bs) e) k)
      | false ↦ λ e k. elim (begins_with 47 47 (b ∷ bs)) as (λ t. begins_with 47 47 (b ∷ bs) ≡ t → cond t (prefix_len is_line_byte (b ∷ bs)) 0 ≡ 0 → t ≡ false) [
        | true ↦ λ f z. absurd (let one : cond (not (is_newline b)) (1 + prefix_len is_line_byte bs) 0 ≡ 1 + prefix_len is_line_byte bs = ap (λ (t : Bool). cond (not t) (1 + prefix_len is_line_byte bs) 0) (slash_stands b (is_slash b 47 bs f)) in omega (arith, one, z))
        | false ↦ λ f z. refl
      ] refl k
    ] refl h

second_was : (x y b : ℕ) (bs : List ℕ) → (32 == y) ≡ false → begins_with x y (b ∷ bs) ≡ false → begins_with x y (b ∷ blank_from 0 bs) ≡ false
second_was x y b [] n h = refl
second_was x y b (c ∷ cs) n h = weaker (b == x) (blanked_byte (comment_left 0 (c ∷ cs)) c == y) (c == y) (byte_was (comment_left 0 (c ∷ cs)) c y n) h

opens_was : (b : ℕ) (bs : List ℕ) → opens (b ∷ bs) ≡ false → opens (b ∷ blank_from 0 bs) ≡ false
opens_was b bs h =
    let p = or_parts (begins_with 47 42 (b ∷ bs)) (begins_with 47 47 (b ∷ bs)) h in
    or_from (begins_with 47 42 (b ∷ blank_from 0 bs)) (begins_with 47 47 (b ∷ blank_from 0 bs)) (second_was 47 42 b bs refl p.0) (second_was 47 47 b bs refl p.1)

end_was : (left : ℕ) (bs : List ℕ) → ends_line (blank_from left bs) ≡ true → ends_line bs ≡ true
end_was left [] h = h
end_was left (c ∷ []) h = either (blanked_byte (comment_left left (c ∷ [])) c == 10) false (c == 10) false (byte_was (comment_left left (c ∷ [])) c 10 refl) (λ e. e) h
end_was left (c ∷ d ∷ ds) h =
    let k = comment_left left (c ∷ d ∷ ds) in
    let m = comment_left (comment_left left (c ∷ d ∷ ds) - 1) (d ∷ ds) in
    either (blanked_byte k c == 10) ((blanked_byte k c == 13) && (blanked_byte m d == 10)) (c == 10) ((c == 13) && (d == 10)) (byte_was k c 10 refl)
    (both (blanked_byte k c == 13) (blanked_byte m d == 10) (c == 13) (d == 10) (byte_was k c 13 refl) (byte_was m d 10 refl)) h

-- no byte of the word is a space
abbrev HasNoSpace : List ℕ → Type 0
HasNoSpace [] = Unit {0}
HasNoSpace (c ∷ word) = ((32 == c) ≡ false) × HasNoSpace word

behind_was : (word : List ℕ) → HasNoSpace word → (left : ℕ) (bytes : List ℕ) → ends_line_behind word (blank_from left bytes) ≡ true → ends_line_behind word bytes ≡ true
behind_was [] n left bytes h = end_was left bytes h
behind_was (c ∷ word) n left [] h = h
behind_was (c ∷ word) n left (b ∷ bs) h =
    let k = comment_left left (b ∷ bs) in
    both (blanked_byte k b == c) (ends_line_behind word (blank_from (k - 1) bs)) (b == c) (ends_line_behind word bs) (byte_was k b c n.0) (behind_was word n.1 (k - 1) bs) h

splice_was : (left : ℕ) (bytes : List ℕ) → is_splice (blank_from left bytes) ≡ true → is_splice bytes ≡ true
splice_was left bytes h =
    either (ends_line_behind (codes "\\") (blank_from left bytes)) (ends_line_behind (codes "??/") (blank_from left bytes)) (ends_line_behind (codes "\\") bytes) (ends_line_behind (codes "??/") bytes)
    (behind_was (codes "\\") (refl, tt) left bytes) (behind_was (codes "??/") (refl, (refl, (refl, tt))) left bytes) h

no_splice_comes : (left : ℕ) (bytes : List ℕ) → is_splice bytes ≡ false → is_splice (blank_from left bytes) ≡ false
no_splice_comes left bytes h = weaker true (is_splice (blank_from left bytes)) (is_splice bytes) (splice_was left bytes) h

more_left : (n : ℕ) → (suc n == 0) ≡ false
more_left n = grind (arith, nat_tests)

-- no comment opens at the first byte of a blanked text
no_comment_comes : (left n b : ℕ) (bs : List ℕ) → comment_left left (b ∷ bs) ≡ n → opens (blanked_byte n b ∷ blank_from (n - 1) bs) ≡ false
no_comment_comes left (suc n) b bs e = opens_not (blanked_byte (suc n) b) (blank_from (suc n - 1) bs) (blanked_slash n b)
no_comment_comes zero zero b bs e = opens_was b bs (none_opens b bs e)
no_comment_comes (suc left) zero b bs e = absurd (omega (arith, sym (ap (λ (t : Bool). cond t (comment_len (b ∷ bs)) (suc left)) (more_left left)) ∙ e))

split_none : (o : Option FileCode) (place : Place) (later : Option (FileCode × Place)) → or_later (option_map (λ code. (code, place)) o) later ≡ None → (o ≡ None) × (later ≡ None)
split_none None place later h = (refl, h)
split_none (Some code) place later h = absurd cc

no_splice : (whole : List ℕ) (offset left : ℕ) (bytes : List ℕ) → fault_at whole offset left bytes ≡ None → is_splice bytes ≡ false
no_splice whole offset left bytes h = elim (is_splice bytes) as (λ t. cond t (Some Splice) (cond (left == 0) (comment_fault whole offset bytes) None) ≡ None → t ≡ false) [
  | true ↦ λ e. absurd cc
  | false ↦ λ e. refl
] h

pub blanked_clean : (whole : List ℕ) (offset left : ℕ) (text : List ℕ) → first_fault_from whole offset left text ≡ None → IsClean (blank_from left text)
blanked_clean whole offset left [] h = tt
blanked_clean whole offset left (b ∷ bs) h =
    let s = split_none (fault_at whole offset left (b ∷ bs)) (place_at whole offset) (first_fault_from whole (offset + 1) (comment_left left (b ∷ bs) - 1) bs) h in (
      no_comment_comes left (comment_left left (b ∷ bs)) b bs refl,
      no_splice_comes left (b ∷ bs) (no_splice whole offset left (b ∷ bs) s.0),
      blanked_clean whole (offset + 1) (comment_left left (b ∷ bs) - 1) bs s.1,
    )

-- ---- a line before other lines

newline_first : (rest : List ℕ) → opens (10 ∷ rest) ≡ false
newline_first [] = refl
newline_first (b ∷ bs) = refl

pub newline_clean : (rest : List ℕ) → IsClean rest → IsClean (10 ∷ rest)
newline_clean rest h = (newline_first rest, refl, h)

pub line_clean : (line rest others : List ℕ) → IsClean (line ++ 10 ∷ rest) → IsClean others → IsClean (line ++ 10 ∷ others)
line_clean [] rest others h k = newline_clean others k
line_clean (b ∷ []) rest others h k = (h.0, h.1, newline_clean others k)
line_clean (b ∷ c ∷ []) rest others h k = (h.0, h.1, line_clean (c ∷ []) rest others h.2 k)
line_clean (b ∷ c ∷ d ∷ []) rest others h k = (h.0, h.1, line_clean (c ∷ d ∷ []) rest others h.2 k)
line_clean (b ∷ c ∷ d ∷ e ∷ []) rest others h k = (h.0, h.1, line_clean (c ∷ d ∷ e ∷ []) rest others h.2 k)
line_clean (b ∷ c ∷ d ∷ e ∷ f ∷ fs) rest others h k = (h.0, h.1, line_clean (c ∷ d ∷ e ∷ f ∷ fs) rest others h.2 k)

pub clean_behind : (line rest : List ℕ) → IsClean (line ++ 10 ∷ rest) → IsClean rest
clean_behind [] rest h = h.2
clean_behind (b ∷ bs) rest h = clean_behind bs rest h.2

-- The faults of a text are those of its pieces.
use Rattle.std.proofs.Common.{◌≡◌, ◌⊎◌, ◌↔◌, ℕ, zero, suc, ◌+◌, ◌-◌, ◌≤◌, ◌<◌, true, false, cond, List, [], ◌∷◌, ◌++◌, length, drop, Some, None, refl, sym, ◌∙◌, ap, subst, inl, inr, zero-add, append-nil, append_assoc, arith}
use Rattle.std.specs.Prelude.{option_map, unwrap_or, is_none, ◌==◌, ◌&&◌}
use Rattle.std.proofs.lemmas.Bool.{eqb-true}
use Rattle.std.proofs.lemmas.List.{length-drop}
use Rattle.fam_outer.specs.declared.faults.FileCode.{FileCode}
use Rattle.fam_outer.specs.declared.faults.FileCode.TheVariants.{OpenComment, Splice, CommentAtDirective}
use Rattle.cpp_lines.specs.Bytes.{begins_with}
use Rattle.cpp_lines.specs.Comments.{block_len, comment_len, comment_left}
use Rattle.cpp_lines.specs.Faults.{is_open, is_splice, touches_directive, comment_fault, fault_at, left_at, fault_of}
use Rattle.cpp_lines.specs.Pieces.{Piece, code, block, line, spelled, HasNoEnd, opens, MayStand, IsUnclosedOrNone, IsRead, all_spelled, IsComment, HasFault}
use Rattle.cpp_lines.proofs.Pieces.{not_zero, or_parts, code_len, piece_len, open_len, closed_len}

-- ---- how many bytes of a comment are left

one_less : (n : ℕ) → suc n - 1 ≡ n
one_less n = omega arith

still : (n : ℕ) (bytes : List ℕ) → comment_left (suc n) bytes - 1 ≡ n
still n bytes = ap (λ t. cond t (comment_len bytes) (suc n) - 1) (not_zero n) ∙ one_less n

left_passed : (xs rest : List ℕ) (n : ℕ) → left_at (length xs) (length xs + n) (xs ++ rest) ≡ left_at 0 n rest
left_passed [] rest n = ap (λ i. left_at 0 i rest) (zero-add n)
left_passed (x ∷ xs) rest n =
    ap (λ i. left_at (suc (length xs)) i (x ∷ (xs ++ rest))) (let k : suc (length xs) + n ≡ suc (length xs + n) = omega arith in k)
    ∙ (ap (λ i. left_at i (length xs + n) (xs ++ rest)) (still (length xs) (x ∷ (xs ++ rest))) ∙ left_passed xs rest n)

left_inside : (xs rest : List ℕ) (n : ℕ) → n ≤ length xs → left_at (length xs) n (xs ++ rest) ≡ length xs - n
left_inside xs rest zero h = let k : length xs ≡ length xs - 0 = omega arith in k
left_inside [] rest (suc n) h = absurd (omega arith)
left_inside (x ∷ xs) rest (suc n) h =
    ap (λ i. left_at i n (xs ++ rest)) (still (length xs) (x ∷ (xs ++ rest)))
    ∙ (left_inside xs rest n (omega arith) ∙ (let k : length xs - n ≡ suc (length xs) - suc n = omega arith in k))

-- inside a comment some are left
inside_left : (x : ℕ) (xs rest : List ℕ) (n : ℕ) → comment_len (x ∷ (xs ++ rest)) ≡ suc (length xs) → n < length xs → left_at 0 (suc n) (x ∷ (xs ++ rest)) ≡ 0 → ⊥
inside_left x xs rest n e h z =
    let some : left_at 0 (suc n) (x ∷ (xs ++ rest)) ≡ length xs - n =
    ap (λ i. left_at (i - 1) n (xs ++ rest)) e ∙ (ap (λ i. left_at i n (xs ++ rest)) (one_less (length xs)) ∙ left_inside xs rest n (omega arith)) in
    absurd (omega arith)

comment_left_behind : (x : ℕ) (xs rest : List ℕ) (n : ℕ) → comment_len (x ∷ (xs ++ rest)) ≡ suc (length xs) → left_at 0 (suc (length xs) + n) (x ∷ (xs ++ rest)) ≡ left_at 0 n rest
comment_left_behind x xs rest n e =
    ap (λ i. left_at 0 i (x ∷ (xs ++ rest))) (let k : suc (length xs) + n ≡ suc (length xs + n) = omega arith in k)
    ∙ (ap (λ i. left_at (i - 1) (length xs + n) (xs ++ rest)) e ∙ (ap (λ i. left_at i (length xs + n) (xs ++ rest)) (one_less (length xs)) ∙ left_passed xs rest n))

left_behind : (p : Piece) (rest : List ℕ) (n : ℕ) → MayStand p rest → left_at 0 (length (spelled p) + n) (spelled p ++ rest) ≡ left_at 0 n rest
left_behind (code b) rest n h =
    ap (λ i. left_at 0 i (b ∷ rest)) (let k : length (b ∷ []) + n ≡ suc n = omega arith in k) ∙ ap (λ i. left_at (i - 1) n rest) (code_len b rest h)
left_behind (block xs) rest n h = comment_left_behind 47 (42 ∷ (xs ++ 42 ∷ (47 ∷ []))) rest n (piece_len (block xs) rest h tt)
left_behind (line xs) rest n h = comment_left_behind 47 (47 ∷ xs) rest n (piece_len (line xs) rest h tt)

-- ---- places of pieces

length-joined : (xs ys : List ℕ) → length (xs ++ ys) ≡ length xs + length ys
length-joined [] ys = sym (zero-add (length ys))
length-joined (x ∷ xs) ys = let h = length-joined xs ys in omega arith

drop_passed : (xs ys : List ℕ) (n : ℕ) → drop (length xs + n) (xs ++ ys) ≡ drop n ys
drop_passed [] ys n = ap (λ i. drop i ys) (zero-add n)
drop_passed (x ∷ xs) ys n =
    ap (λ i. drop i (x ∷ (xs ++ ys))) (let k : suc (length xs) + n ≡ suc (length xs + n) = omega arith in k) ∙ drop_passed xs ys n

-- where the pieces in front end, the text goes on with bytes, and no comment is open
pub record GoesOn (text : List ℕ) (offset : ℕ) (bytes : List ℕ) : Type 0 where
  pub behind : drop offset text ≡ bytes
  pub fresh : left_at 0 offset text ≡ 0

goes_further : (p : Piece) (rest text bytes : List ℕ) (ps : List Piece) → text ≡ spelled p ++ rest → MayStand p rest → GoesOn rest (length (all_spelled ps)) bytes → GoesOn text (length (all_spelled (p ∷ ps))) bytes
goes_further p rest text bytes ps e may h =
    subst (λ xs. GoesOn xs (length (all_spelled (p ∷ ps))) bytes) (sym e) (subst (λ n. GoesOn (spelled p ++ rest) n bytes) (sym (length-joined (spelled p) (all_spelled ps))) (record {
      behind = drop_passed (spelled p) rest (length (all_spelled ps)) ∙ h.behind;
      fresh = left_behind p rest (length (all_spelled ps)) may ∙ h.fresh;
    }))

goes_on_at : (front back : List Piece) (p : Piece) (text unclosed : List ℕ) → IsRead text (front ++ p ∷ back) unclosed → (rest : List ℕ) × MayStand p rest × GoesOn text (length (all_spelled front)) (spelled p ++ rest)
goes_on_at [] back p text unclosed r = (r.0, r.2, record { behind = r.1; fresh = refl })
goes_on_at (q ∷ front) back p text unclosed r =
    let more = goes_on_at front back p r.0 unclosed r.3 in
    (more.0, more.1, goes_further q r.0 text (spelled p ++ more.0) front r.1 r.2 more.2)

goes_on_behind : (ps : List Piece) (text unclosed : List ℕ) → IsRead text ps unclosed → IsUnclosedOrNone unclosed × GoesOn text (length (all_spelled ps)) unclosed
goes_on_behind [] text unclosed r = (r.1, record { behind = r.0; fresh = refl })
goes_on_behind (q ∷ ps) text unclosed r =
    let more = goes_on_behind ps r.0 unclosed r.3 in
    (more.0, goes_further q r.0 text unclosed ps r.1 r.2 more.1)

-- a place at which no comment is open is that of a piece, or that behind all of them
abbrev Begins : List Piece → ℕ → Type 0
Begins ps offset =
    ((front : List Piece) × (p : Piece) × (back : List Piece) × (ps ≡ front ++ p ∷ back) × (offset ≡ length (all_spelled front))) ⊎ (offset ≡ length (all_spelled ps))

behind_first : (p : Piece) (ps : List Piece) (m offset : ℕ) → offset ≡ length (spelled p) + m → Begins ps m → Begins (p ∷ ps) offset
behind_first p ps m offset e (inl k) =
    inl (p ∷ k.0, k.1, k.2, ap (λ qs. p ∷ qs) k.3, e ∙ (ap (λ i. length (spelled p) + i) k.4 ∙ sym (length-joined (spelled p) (all_spelled k.0))))
behind_first p ps m offset e (inr k) = inr (e ∙ (ap (λ i. length (spelled p) + i) k ∙ sym (length-joined (spelled p) (all_spelled ps))))

split_at : (a b : ℕ) → (b < a) ⊎ ((m : ℕ) × (b ≡ a + m))
split_at zero b = inr (b, sym (zero-add b))
split_at (suc a) zero = inl (omega arith)
split_at (suc a) (suc b) = elim (split_at a b) [ inl h ↦ inl (omega arith) | inr h ↦ inr (h.0, let k = h.1 in omega arith) ]

within_piece : (p : Piece) (rest : List ℕ) (n : ℕ) → MayStand p rest → suc n < length (spelled p) → left_at 0 (suc n) (spelled p ++ rest) ≡ 0 → ⊥
within_piece (code b) rest n h lt z = absurd (omega arith)
within_piece (block xs) rest n h lt z = inside_left 47 (42 ∷ (xs ++ 42 ∷ (47 ∷ []))) rest n (piece_len (block xs) rest h tt) (omega arith) z
within_piece (line xs) rest n h lt z = inside_left 47 (47 ∷ xs) rest n (piece_len (line xs) rest h tt) (omega arith) z

begins_at : (ps : List Piece) (text unclosed : List ℕ) (offset : ℕ) → IsRead text ps unclosed → offset < length text → left_at 0 offset text ≡ 0 → Begins ps offset
begins_at [] text unclosed zero r lt z = inr refl
begins_at [] text unclosed (suc n) r lt z =
    elim r.1 [
      | inl e ↦ absurd (let k : length text ≡ 0 = ap length (r.0 ∙ e) in omega arith)
      | inr o ↦
          let whole : text ≡ 47 ∷ (42 ∷ o.0) = r.0 ∙ o.1 in
          let all : text ≡ 47 ∷ ((42 ∷ o.0) ++ []) = whole ∙ ap (λ xs. 47 ∷ xs) (sym (append-nil (42 ∷ o.0))) in
          let len : comment_len (47 ∷ ((42 ∷ o.0) ++ [])) ≡ suc (length (42 ∷ o.0)) =
          ap (λ xs. comment_len (47 ∷ xs)) (append-nil (42 ∷ o.0)) ∙ ap (λ l. unwrap_or (option_map (λ i. 2 + i) l) (length (47 ∷ (42 ∷ o.0)))) (open_len o.0 o.2) in
          let short : length text ≡ suc (length (42 ∷ o.0)) = ap length whole in
          absurd (inside_left 47 (42 ∷ o.0) [] n len (omega arith) (subst (λ xs. left_at 0 (suc n) xs ≡ 0) all z))
    ]
begins_at (p ∷ ps) text unclosed zero r lt z = inl ([], p, ps, refl, refl)
begins_at (p ∷ ps) text unclosed (suc n) r lt z =
    elim (split_at (length (spelled p)) (suc n)) [
      | inl h ↦ absurd (within_piece p r.0 n r.2 h (subst (λ xs. left_at 0 (suc n) xs ≡ 0) r.1 z))
      | inr h ↦
          let there : left_at 0 (length (spelled p) + h.0) (spelled p ++ r.0) ≡ 0 = subst (λ i. left_at 0 i (spelled p ++ r.0) ≡ 0) h.1 (subst (λ xs. left_at 0 (suc n) xs ≡ 0) r.1 z) in
          let fits : length text ≡ length (spelled p) + length r.0 = ap length r.1 ∙ length-joined (spelled p) r.0 in
          let place = h.1 in
          behind_first p ps h.0 (suc n) h.1 (begins_at ps r.0 unclosed h.0 r.3 (omega arith) (sym (left_behind p r.0 h.0 r.2) ∙ there))
    ]

-- ---- what is at fault there

nothing_at_code : (text : List ℕ) (offset b : ℕ) (rest : List ℕ) → opens (b ∷ rest) ≡ false → comment_fault text offset (b ∷ rest) ≡ None
nothing_at_code text offset b rest h =
    let parts = or_parts (begins_with 47 42 (b ∷ rest)) (begins_with 47 47 (b ∷ rest)) h in
    ap (λ t. cond (t && is_none (block_len (drop 2 (b ∷ rest)))) (Some OpenComment) (cond (touches_directive text offset (comment_len (b ∷ rest))) (Some CommentAtDirective) None)) parts.0
    ∙ ap (λ n. cond (touches_directive text offset n) (Some CommentAtDirective) None) (code_len b rest h)

closes : (p : Piece) (rest : List ℕ) → MayStand p rest → IsComment p → is_open (spelled p ++ rest) ≡ false
closes (code b) rest h c = absurd c
closes (block xs) rest h c = ap (λ o. is_none o) (ap block_len (append_assoc xs (42 ∷ (47 ∷ [])) rest) ∙ closed_len xs rest h)
closes (line xs) rest h c = refl

comment_found : (text : List ℕ) (offset : ℕ) (p : Piece) (rest : List ℕ) → MayStand p rest → IsComment p
    → comment_fault text offset (spelled p ++ rest) ≡ cond (touches_directive text offset (length (spelled p))) (Some CommentAtDirective) None
comment_found text offset p rest h c =
    ap (λ t. cond t (Some OpenComment) (cond (touches_directive text offset (comment_len (spelled p ++ rest))) (Some CommentAtDirective) None)) (closes p rest h c)
    ∙ ap (λ n. cond (touches_directive text offset n) (Some CommentAtDirective) None) (piece_len p rest h c)

unclosed_found : (text : List ℕ) (offset : ℕ) (inner : List ℕ) → HasNoEnd inner → comment_fault text offset (47 ∷ (42 ∷ inner)) ≡ Some OpenComment
unclosed_found text offset inner h =
    ap (λ o. cond (is_none o) (Some OpenComment) (cond (touches_directive text offset (comment_len (47 ∷ (42 ∷ inner)))) (Some CommentAtDirective) None)) (open_len inner h)

at_comment : (text : List ℕ) (ps front back : List Piece) (unclosed : List ℕ) (offset : ℕ) (given : FileCode) (p : Piece) (rest : List ℕ) → MayStand p rest → IsComment p → ps ≡ front ++ p ∷ back → offset ≡ length (all_spelled front)
    → comment_fault text offset (spelled p ++ rest) ≡ Some given → HasFault text ps unclosed offset given
at_comment text ps front back unclosed offset given p rest may c among begins e =
    let chosen : cond (touches_directive text offset (length (spelled p))) (Some CommentAtDirective) None ≡ Some given = sym (comment_found text offset p rest may c) ∙ e in
    elim (touches_directive text offset (length (spelled p))) as (λ t. touches_directive text offset (length (spelled p)) ≡ t → cond t (Some CommentAtDirective) None ≡ Some given → HasFault text ps unclosed offset given) [
      | true ↦ λ t k.
          let same : CommentAtDirective ≡ given = cc in
          subst (HasFault text ps unclosed offset) same (record { front = front; comment = p; back = back; among = among; begins = begins; is_comment = c; touches = t })
      | false ↦ λ t k. absurd cc
    ] refl chosen

at_piece : (text : List ℕ) (ps front back : List Piece) (unclosed : List ℕ) (offset : ℕ) (given : FileCode) (p : Piece) (rest : List ℕ) → MayStand p rest → ps ≡ front ++ p ∷ back → offset ≡ length (all_spelled front)
    → comment_fault text offset (spelled p ++ rest) ≡ Some given → HasFault text ps unclosed offset given
at_piece text ps front back unclosed offset given (code b) rest may among begins e =
    let k : None ≡ Some given = sym (nothing_at_code text offset b rest may) ∙ e in absurd cc
at_piece text ps front back unclosed offset given (block xs) rest may among begins e = at_comment text ps front back unclosed offset given (block xs) rest may tt among begins e
at_piece text ps front back unclosed offset given (line xs) rest may among begins e = at_comment text ps front back unclosed offset given (line xs) rest may tt among begins e

fresh_fault : (text : List ℕ) (ps : List Piece) (unclosed : List ℕ) (offset : ℕ) (given : FileCode) → IsRead text ps unclosed → offset < length text → Begins ps offset
    → comment_fault text offset (drop offset text) ≡ Some given → HasFault text ps unclosed offset given
fresh_fault text ps unclosed offset given r lt (inl k) e =
    let at = goes_on_at k.0 k.2 k.1 text unclosed (subst (λ qs. IsRead text qs unclosed) k.3 r) in
    let here : drop offset text ≡ spelled k.1 ++ at.0 = ap (λ i. drop i text) k.4 ∙ at.2.behind in
    at_piece text ps k.0 k.2 unclosed offset given k.1 at.0 at.1 k.3 k.4 (ap (comment_fault text offset) (sym here) ∙ e)
fresh_fault text ps unclosed offset given r lt (inr k) e =
    let at = goes_on_behind ps text unclosed r in
    let here : drop offset text ≡ unclosed = ap (λ i. drop i text) k ∙ at.1.behind in
    elim at.0 [
      | inl n ↦ absurd (let some : length text - offset ≡ 0 = sym (length-drop offset text) ∙ ap length (here ∙ n) in omega arith)
      | inr o ↦
          let found : Some OpenComment ≡ Some given = sym (unclosed_found text offset o.0 o.2) ∙ (ap (comment_fault text offset) (sym (here ∙ o.1)) ∙ e) in
          let same : OpenComment ≡ given = cc in
          subst (HasFault text ps unclosed offset) same ((λ n. let empty : 47 ∷ (42 ∷ o.0) ≡ [] = sym o.1 ∙ n in absurd cc), k)
    ]

of_pieces : (text : List ℕ) (ps : List Piece) (unclosed : List ℕ) (offset : ℕ) (given : FileCode) → IsRead text ps unclosed → offset < length text → fault_of text offset ≡ Some given → HasFault text ps unclosed offset given
of_pieces text ps unclosed offset given r lt e =
    elim (is_splice (drop offset text)) as (λ t. is_splice (drop offset text) ≡ t → cond t (Some Splice) (cond (left_at 0 offset text == 0) (comment_fault text offset (drop offset text)) None) ≡ Some given → HasFault text ps unclosed offset given) [
      | true ↦ λ s k. let same : Splice ≡ given = cc in subst (HasFault text ps unclosed offset) same s
      | false ↦ λ s k. elim (left_at 0 offset text == 0) as (λ t. (left_at 0 offset text == 0) ≡ t → cond t (comment_fault text offset (drop offset text)) None ≡ Some given → HasFault text ps unclosed offset given) [
        | true ↦ λ z l. fresh_fault text ps unclosed offset given r lt (begins_at ps text unclosed offset r lt (eqb-true (left_at 0 offset text) 0 z)) l
        | false ↦ λ z l. absurd cc
      ] refl k
    ] refl e

fault_fresh : (text : List ℕ) (offset left : ℕ) (rest bytes : List ℕ) → left ≡ 0 → rest ≡ 47 ∷ bytes → fault_at text offset left rest ≡ comment_fault text offset (47 ∷ bytes)
fault_fresh text offset left rest bytes e f = ap (λ l. fault_at text offset l rest) e ∙ ap (fault_at text offset 0) f

begins_so : (p : Piece) (rest : List ℕ) → IsComment p → (bytes : List ℕ) × (spelled p ++ rest ≡ 47 ∷ bytes)
begins_so (code b) rest c = absurd c
begins_so (block xs) rest c = (42 ∷ ((xs ++ 42 ∷ (47 ∷ [])) ++ rest), refl)
begins_so (line xs) rest c = (47 ∷ (xs ++ rest), refl)

from_pieces : (text : List ℕ) (ps : List Piece) (unclosed : List ℕ) (offset : ℕ) (given : FileCode) → IsRead text ps unclosed → HasFault text ps unclosed offset given → fault_of text offset ≡ Some given
from_pieces text ps unclosed offset Splice r h = ap (λ t. cond t (Some Splice) (cond (left_at 0 offset text == 0) (comment_fault text offset (drop offset text)) None)) h
from_pieces text ps unclosed offset OpenComment r h =
    let at = goes_on_behind ps text unclosed r in
    elim at.0 [
      | inl n ↦ absurd (h.0 n)
      | inr o ↦
          let here : drop offset text ≡ 47 ∷ (42 ∷ o.0) = ap (λ i. drop i text) h.1 ∙ (at.1.behind ∙ o.1) in
          let fresh : left_at 0 offset text ≡ 0 = ap (λ i. left_at 0 i text) h.1 ∙ at.1.fresh in
          fault_fresh text offset (left_at 0 offset text) (drop offset text) (42 ∷ o.0) fresh here ∙ unclosed_found text offset o.0 o.2
    ]
from_pieces text ps unclosed offset CommentAtDirective r h =
    let at = goes_on_at h.front h.back h.comment text unclosed (subst (λ qs. IsRead text qs unclosed) h.among r) in
    let here : drop offset text ≡ spelled h.comment ++ at.0 = ap (λ i. drop i text) h.begins ∙ at.2.behind in
    let fresh : left_at 0 offset text ≡ 0 = ap (λ i. left_at 0 i text) h.begins ∙ at.2.fresh in
    let bytes = begins_so h.comment at.0 h.is_comment in
    fault_fresh text offset (left_at 0 offset text) (drop offset text) bytes.0 fresh (here ∙ bytes.1)
    ∙ (ap (comment_fault text offset) (sym bytes.1) ∙ (comment_found text offset h.comment at.0 at.1 h.is_comment ∙ ap (λ t. cond t (Some CommentAtDirective) None) h.touches))
from_pieces text ps unclosed offset _ r h = absurd h

pub faults_of_pieces : (text : List ℕ) (ps : List Piece) (unclosed : List ℕ) (offset : ℕ) (given : FileCode) → IsRead text ps unclosed → offset < length text → ((fault_of text offset ≡ Some given) ↔ HasFault text ps unclosed offset given)
faults_of_pieces text ps unclosed offset given r lt = (of_pieces text ps unclosed offset given r lt, from_pieces text ps unclosed offset given r)

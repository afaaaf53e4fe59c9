-- A line and what stands behind its newline are read apart.
use Rattle.std.proofs.Common.{◌≡◌, ℕ, suc, ◌+◌, ◌-◌, ◌<◌, ◌≤◌, inl, inr, false, List, [], ◌∷◌, ◌++◌, map, length, take, drop, None, Result, Ok, Err, refl, sym, ap, subst, ◌∙◌, arith}
use Rattle.std.specs.Prelude.{count_by}
use Rattle.std.specs.List.{list_all, list_any}
use Rattle.std.proofs.Math.Seq.{take-add, take-append-add, drop-append_seam}
use Rattle.std.proofs.lemmas.Bool.{and_from, both_ways, cases_lt, false_from_ne_true}
use Rattle.std.proofs.lemmas.List.{length-drop, length-append, take-append-le, drop-append-le, drop-drop}
use Rattle.std.proofs.lemmas.List.Folds.{list_all-append}
use Rattle.fam_outer.specs.declared.faults.Place.{Place}
use Rattle.fam_outer.specs.declared.faults.FileCode.{FileCode}
use Rattle.fam_outer.specs.declared.faults.FileCode.TheVariants as codes
use Rattle.c_tokens.specs.declared.token.Token.{Token}
use Rattle.c_words.specs.Bytes.{is_space}
use Rattle.c_tokens.specs.Lexemes.{is_lexeme, IsLongest, kind_of}
use Rattle.fam_outer.specs.Places.{is_newline, last_line, end_place, place_at}
use Rattle.c_tokens.specs.Reading.{slice, IsSpaceBetween, IsTokenIn, StandBetween, HasFault, IsReading, tokens_of}
use Rattle.c_tokens.specs.Lines.{lower_place, lower_token, line_behind}
use Rattle.fam_outer.proofs.Placing.{one_spot, any-newline, last-newline, count-append}
use Rattle.c_tokens.proofs.Newlines.{in_lexeme}
use Rattle.c_tokens.proofs.Readings.{is_reading}
use Rattle.c_tokens.proofs.OneReading.{one}

-- ---- in the line, what stands behind its newline changes nothing

slice_of : (line tail : List ℕ) (start end : ℕ) → start ≤ end → end ≤ length line → slice (line ++ tail) start end ≡ slice line start end
slice_of line tail start end le fits =
    ap (take (end - start)) (drop-append-le start line tail (omega arith)) ∙ take-append-le (end - start) (drop start line) tail (omega (arith, length-drop start line))

place_of : (line tail : List ℕ) (offset : ℕ) → offset ≤ length line → place_at (line ++ tail) offset ≡ place_at line offset
place_of line tail offset le = ap end_place (take-append-le offset line tail le)

-- a front that is longer than the bytes before a newline is no lexeme
no_longer : (xs rest : List ℕ) (m : ℕ) → length xs < m → is_lexeme (take m (xs ++ 10 ∷ rest)) ≡ false
no_longer xs rest m lt =
    let k : m ≡ length xs + suc (m - suc (length xs)) = omega arith in
    let e : take m (xs ++ 10 ∷ rest) ≡ xs ++ 10 ∷ take (m - suc (length xs)) rest = ap (λ (i : ℕ). take i (xs ++ 10 ∷ rest)) k ∙ take-append-add xs (10 ∷ rest) (suc (m - suc (length xs))) in
    subst (λ (ys : List ℕ). is_lexeme ys ≡ false) (sym e)
    (false_from_ne_true (is_lexeme (xs ++ 10 ∷ take (m - suc (length xs)) rest)) (λ h. both_ways (list_any is_newline (xs ++ 10 ∷ take (m - suc (length xs)) rest)) (in_lexeme (xs ++ 10 ∷ take (m - suc (length xs)) rest) h) (any-newline xs (take (m - suc (length xs)) rest))))

longest_before : (xs rest : List ℕ) (n : ℕ) → IsLongest is_lexeme n xs → IsLongest is_lexeme n (xs ++ 10 ∷ rest)
longest_before xs rest n h =
    let f = h.fits in
    record {
      fits = omega (arith, length-append xs (10 ∷ rest));
      passes = λ lt. ap is_lexeme (take-append-le n xs (10 ∷ rest) h.fits) ∙ h.passes lt;
      longest = λ m lt le. elim (cases_lt (length xs) m) [ inl k ↦ no_longer xs rest m k | inr k ↦ ap is_lexeme (take-append-le m xs (10 ∷ rest) k) ∙ h.longest m lt k ];
    }

longest_of_line : (line rest : List ℕ) (n offset : ℕ) → offset ≤ length line → IsLongest is_lexeme n (drop offset line) → IsLongest is_lexeme n (drop offset (line ++ 10 ∷ rest))
longest_of_line line rest n offset le h = subst (λ (xs : List ℕ). IsLongest is_lexeme n xs) (sym (drop-append-le offset line (10 ∷ rest) le)) (longest_before (drop offset line) rest n h)

space_of_line : (line rest : List ℕ) (start end : ℕ) → IsSpaceBetween line start end → IsSpaceBetween (line ++ 10 ∷ rest) start end
space_of_line line rest start end h =
    let w = h.within in
    record { order = h.order; within = omega (arith, length-append line (10 ∷ rest)); spaces = ap (list_all is_space) (slice_of line (10 ∷ rest) start end h.order h.within) ∙ h.spaces }

token_of_line : (line rest : List ℕ) (t : Token) → IsTokenIn line t → IsTokenIn (line ++ 10 ∷ rest) t
token_of_line line rest t h =
    let b = h.begins in
    let f = h.longest.fits in
    let n = length-drop t.start line in
    let fits : t.end ≤ length line = omega arith in
    record {
      begins = h.begins;
      longest = longest_of_line line rest (t.end - t.start) t.start (omega arith) h.longest;
      kind = ap kind_of (slice_of line (10 ∷ rest) t.start t.end (omega arith) fits) ∙ h.kind;
      place = h.place ∙ sym (place_of line (10 ∷ rest) t.start (omega arith));
    }

stand_in_line : (line rest : List ℕ) (start : ℕ) (ts : List Token) (end : ℕ) → StandBetween line start ts end → StandBetween (line ++ 10 ∷ rest) start ts end
stand_in_line line rest start [] end h = space_of_line line rest start end h
stand_in_line line rest start (t ∷ ts) end h = (space_of_line line rest start t.start h.0, (token_of_line line rest t h.1.0, stand_in_line line rest t.end ts end h.1.1))

fault_of_line : (line rest : List ℕ) (offset : ℕ) (code : FileCode) → HasFault line offset code → (offset ≤ length line) × HasFault (line ++ 10 ∷ rest) offset code
fault_of_line line rest offset codes.StrayByte h =
    let w = h.within in (
      omega arith,
      record {
        within = omega (arith, length-append line (10 ∷ rest));
        no_space = ap (list_all is_space) (slice_of line (10 ∷ rest) offset (offset + 1) (omega arith) (omega arith)) ∙ h.no_space;
        none = longest_of_line line rest 0 offset (omega arith) h.none;
      },
    )
fault_of_line line rest offset codes.Literal h =
    let f = h.1.longest.fits in
    let b = h.1.begins in
    let n = length-drop offset line in (
      omega arith,
      (
        h.0,
        record {
          begins = h.1.begins;
          longest = longest_of_line line rest h.0 offset (omega arith) h.1.longest;
          none = ap kind_of (slice_of line (10 ∷ rest) offset (offset + h.0) (omega arith) (omega arith)) ∙ h.1.none;
        },
      ),
    )
fault_of_line line rest offset _ h = absurd h

-- ---- behind the newline, offsets and lines are moved

drop_line : (line rest : List ℕ) (offset : ℕ) → drop (offset + (length line + 1)) (line ++ 10 ∷ rest) ≡ drop offset rest
drop_line [] rest offset = (let k : offset + (0 + 1) ≡ suc offset = omega arith in rw k refl)
drop_line (b ∷ bs) rest offset = (let k : offset + (suc (length bs) + 1) ≡ suc (offset + (length bs + 1)) = omega arith in rw k (drop_line bs rest offset))

take_line : (line rest : List ℕ) (offset : ℕ) → take (offset + (length line + 1)) (line ++ 10 ∷ rest) ≡ line ++ 10 ∷ take offset rest
take_line line rest offset = (let k : offset + (length line + 1) ≡ length line + suc offset = omega arith in rw k (take-append-add line (10 ∷ rest) (suc offset)))

place_below : (line rest : List ℕ) (offset : ℕ) → lower_place (count_by is_newline line + 1) (place_at rest offset) ≡ place_at (line ++ 10 ∷ rest) (offset + (length line + 1))
place_below line rest offset =
    one_spot (count_by is_newline (take offset rest) + 1 + (count_by is_newline line + 1)) (count_by is_newline (line ++ 10 ∷ take offset rest) + 1) (length (last_line (take offset rest)) + 1) (length (last_line (line ++ 10 ∷ take offset rest)) + 1)
    (omega (arith, count-append line (10 ∷ take offset rest), count-append (10 ∷ []) (take offset rest)))
    (ap (λ (xs : List ℕ). length xs + 1) (sym (last-newline line (take offset rest))))
    ∙ ap end_place (sym (take_line line rest offset))

slice_below : (line rest : List ℕ) (start end : ℕ) → slice (line ++ 10 ∷ rest) (start + (length line + 1)) (end + (length line + 1)) ≡ slice rest start end
slice_below line rest start end =
    let k : (end + (length line + 1)) - (start + (length line + 1)) ≡ end - start = omega arith in
    ap (λ (i : ℕ). take i (drop (start + (length line + 1)) (line ++ 10 ∷ rest))) k ∙ ap (take (end - start)) (drop_line line rest start)

longest_below : (line rest : List ℕ) (n offset : ℕ) → IsLongest is_lexeme n (drop offset rest) → IsLongest is_lexeme n (drop (offset + (length line + 1)) (line ++ 10 ∷ rest))
longest_below line rest n offset h = subst (λ (xs : List ℕ). IsLongest is_lexeme n xs) (sym (drop_line line rest offset)) h

space_below : (line rest : List ℕ) (start end : ℕ) → IsSpaceBetween rest start end → IsSpaceBetween (line ++ 10 ∷ rest) (start + (length line + 1)) (end + (length line + 1))
space_below line rest start end h =
    let o = h.order in
    let w = h.within in
    record { order = omega arith; within = omega (arith, length-append line (10 ∷ rest)); spaces = ap (list_all is_space) (slice_below line rest start end) ∙ h.spaces }

abbrev below : List ℕ → Token → Token
below line t = lower_token (count_by is_newline line + 1) (length line + 1) t

token_below : (line rest : List ℕ) (t : Token) → IsTokenIn rest t → IsTokenIn (line ++ 10 ∷ rest) (below line t)
token_below line rest t h =
    let b = h.begins in
    let k : t.end - t.start ≡ (t.end + (length line + 1)) - (t.start + (length line + 1)) = omega arith in
    record {
      begins = omega arith;
      longest = subst (λ (i : ℕ). IsLongest is_lexeme i (drop (t.start + (length line + 1)) (line ++ 10 ∷ rest))) k (longest_below line rest (t.end - t.start) t.start h.longest);
      kind = ap kind_of (slice_below line rest t.start t.end) ∙ h.kind;
      place = ap (lower_place (count_by is_newline line + 1)) h.place ∙ place_below line rest t.start;
    }

stand_below : (line rest : List ℕ) (start : ℕ) (ts : List Token) (end : ℕ) → StandBetween rest start ts end → StandBetween (line ++ 10 ∷ rest) (start + (length line + 1)) (map (below line) ts) (end + (length line + 1))
stand_below line rest start [] end h = space_below line rest start end h
stand_below line rest start (t ∷ ts) end h = (space_below line rest start t.start h.0, (token_below line rest t h.1.0, stand_below line rest t.end ts end h.1.1))

fault_below : (line rest : List ℕ) (offset : ℕ) (code : FileCode) → HasFault rest offset code → HasFault (line ++ 10 ∷ rest) (offset + (length line + 1)) code
fault_below line rest offset codes.StrayByte h =
    let w = h.within in
    let k : (offset + 1) + (length line + 1) ≡ offset + (length line + 1) + 1 = omega arith in
    record {
      within = omega (arith, length-append line (10 ∷ rest));
      no_space = subst (λ (i : ℕ). list_all is_space (slice (line ++ 10 ∷ rest) (offset + (length line + 1)) i) ≡ false) k (ap (list_all is_space) (slice_below line rest offset (offset + 1)) ∙ h.no_space);
      none = longest_below line rest 0 offset h.none;
    }
fault_below line rest offset codes.Literal h =
    let k : (offset + h.0) + (length line + 1) ≡ offset + (length line + 1) + h.0 = omega arith in (
      h.0,
      record {
        begins = h.1.begins;
        longest = longest_below line rest h.0 offset h.1.longest;
        none = subst (λ (i : ℕ). kind_of (slice (line ++ 10 ∷ rest) (offset + (length line + 1)) i) ≡ None) k (ap kind_of (slice_below line rest offset (offset + h.0)) ∙ h.1.none);
      },
    )
fault_below line rest offset _ h = absurd h

-- ---- both together

space_joined : (text : List ℕ) (a b c : ℕ) → IsSpaceBetween text a b → IsSpaceBetween text b c → IsSpaceBetween text a c
space_joined text a b c h k =
    let o = h.order in
    let p = k.order in
    let n : c - a ≡ (b - a) + (c - b) = omega arith in
    let m : a + (b - a) ≡ b = omega arith in
    let e : slice text a c ≡ slice text a b ++ slice text b c =
    ap (λ (i : ℕ). take i (drop a text)) n ∙ take-add (b - a) (c - b) (drop a text) ∙ ap (λ (xs : List ℕ). slice text a b ++ take (c - b) xs) (drop-drop (b - a) a text ∙ ap (λ (i : ℕ). drop i text) m) in
    record {
      order = omega arith;
      within = k.within;
      spaces = ap (list_all is_space) e ∙ list_all-append is_space (slice text a b) (slice text b c) ∙ and_from (list_all is_space (slice text a b)) (list_all is_space (slice text b c)) h.spaces k.spaces;
    }

space_first : (text : List ℕ) (a b : ℕ) (ts : List Token) (end : ℕ) → IsSpaceBetween text a b → StandBetween text b ts end → StandBetween text a ts end
space_first text a b [] end s h = space_joined text a b end s h
space_first text a b (t ∷ ts) end s h = (space_joined text a b t.start s h.0, h.1)

joined : (text : List ℕ) (a : ℕ) (ts : List Token) (b : ℕ) (us : List Token) (c : ℕ) → StandBetween text a ts b → StandBetween text b us c → StandBetween text a (ts ++ us) c
joined text a [] b us c h k = space_first text a b us c h k
joined text a (t ∷ ts) b us c h k = (h.0, (h.1.0, joined text t.end ts b us c h.1.1 k))

newline_space : (line rest : List ℕ) → IsSpaceBetween (line ++ 10 ∷ rest) (length line) (0 + (length line + 1))
newline_space line rest =
    let n : (0 + (length line + 1)) - length line ≡ 1 = omega arith in
    record { order = omega arith; within = omega (arith, length-append line (10 ∷ rest)); spaces = rw (n, drop-append_seam) refl }

both : (line rest : List ℕ) (ts us : List Token) (end : ℕ) → StandBetween line 0 ts (length line) → StandBetween rest 0 us end → StandBetween (line ++ 10 ∷ rest) 0 (ts ++ map (below line) us) (end + (length line + 1))
both line rest ts us end h k =
    joined (line ++ 10 ∷ rest) 0 ts (length line) (map (below line) us) (end + (length line + 1)) (stand_in_line line rest 0 ts (length line) h)
    (space_first (line ++ 10 ∷ rest) (length line) (0 + (length line + 1)) (map (below line) us) (end + (length line + 1)) (newline_space line rest) (stand_below line rest 0 us end k))

apart_reading : (line rest : List ℕ) (r s : Result (List Token) (FileCode × Place)) → IsReading line r → IsReading rest s → IsReading (line ++ 10 ∷ rest) (line_behind line r s)
apart_reading line rest (Err fault) s h k =
    let f = fault_of_line line rest h.1 fault.0 h.3 in
    (h.0, h.1, stand_in_line line rest 0 h.0 h.1 h.2, f.1, h.4 ∙ sym (place_of line (10 ∷ rest) h.1 f.0))
apart_reading line rest (Ok ts) (Ok us) h k =
    subst (λ (i : ℕ). StandBetween (line ++ 10 ∷ rest) 0 (ts ++ map (below line) us) i) (let e : length rest + (length line + 1) ≡ length (line ++ 10 ∷ rest) = omega (arith, length-append line (10 ∷ rest)) in e) (both line rest ts us (length rest) h k)
apart_reading line rest (Ok ts) (Err fault) h k =
    (ts ++ map (below line) k.0, k.1 + (length line + 1), both line rest ts k.0 k.1 h k.2, fault_below line rest k.1 fault.0 k.3, ap (lower_place (count_by is_newline line + 1)) k.4 ∙ place_below line rest k.1)

pub apart : (line rest : List ℕ) → tokens_of (line ++ 10 ∷ rest) ≡ line_behind line (tokens_of line) (tokens_of rest)
apart line rest = sym (one (line ++ 10 ∷ rest) (line_behind line (tokens_of line) (tokens_of rest)) (apart_reading line rest (tokens_of line) (tokens_of rest) (is_reading line) (is_reading rest)))

-- Steps of the search for the first fault.
use Rattle.std.proofs.Common.{◌≡◌, ℕ, ◌+◌, ◌-◌, ◌<◌, ◌≤◌, Bool, true, false, cond, List, [], ◌∷◌, ◌++◌, length, take, drop, get_or, Option, Some, None, refl, sym, ap, subst, ◌∙◌, arith}
use Rattle.std.specs.Prelude.{option_map, ◌&&◌, ◌||◌}
use Rattle.std.specs.List.{list_any}
use Rattle.std.proofs.Math.Seq.{take-add}
use Rattle.std.proofs.lemmas.List.{length-append, length-take-le, drop-drop, take_more}
use Rattle.std.proofs.lemmas.List.Folds.{list_any-append}
use Rattle.std.proofs.lemmas.Bool.{or_from, or_right, ne_eqb}
use Rattle.fam_outer.specs.declared.faults.Place.{Place}
use Rattle.fam_outer.specs.declared.faults.FileCode.{FileCode}
use Rattle.fam_outer.specs.declared.faults.FileCode.TheVariants.{OpenComment, CommentAtDirective}
use Rattle.fam_outer.specs.Places.{is_newline, last_line, place_at}
use Rattle.fam_outer.proofs.Placing.{last-append, last-newline}
use Rattle.cpp_lines.specs.Comments.{comment_len, comment_left, blank}
use Rattle.cpp_lines.specs.Directives.{begins_directive}
use Rattle.cpp_lines.specs.Faults.{is_open, is_directive_at, touches_directive, comment_fault, fault_at, or_later, first_fault_from}

-- the bytes behind the last newline are those of the last part that has one
pub last_of : (xs ys : List ℕ) → list_any is_newline ys ≡ true → last_line (xs ++ ys) ≡ last_line ys
last_of [] ys e = refl
last_of (b ∷ bs) ys e =
    let h : list_any is_newline (bs ++ ys) ≡ true = list_any-append is_newline bs ys ∙ or_right (list_any is_newline bs) (list_any is_newline ys) e in
    ap (λ (t : Bool). cond t (last_line (bs ++ ys)) (b ∷ (bs ++ ys))) (or_right (is_newline b) (list_any is_newline (bs ++ ys)) h) ∙ last_of bs ys e

-- one byte more
pub last_at_newline : (bytes : List ℕ) (i : ℕ) → i < length bytes → get_or bytes i 0 ≡ 10 → 0 ≡ length (last_line (take (i + 1) bytes))
last_at_newline bytes i lt e = sym (ap (λ (xs : List ℕ). length (last_line xs)) (take_more bytes i 0 lt ∙ ap (λ (b : ℕ). take i bytes ++ b ∷ []) e) ∙ ap length (last-newline (take i bytes) []))

pub last_at_byte : (bytes : List ℕ) (i len : ℕ) → i < length bytes → (get_or bytes i 0 ≡ 10 → ⊥) → len ≡ length (last_line (take i bytes)) → len + 1 ≡ length (last_line (take (i + 1) bytes))
last_at_byte bytes i len lt ne e =
    let h : last_line (take (i + 1) bytes) ≡ last_line (take i bytes) ++ get_or bytes i 0 ∷ [] =
    ap last_line (take_more bytes i 0 lt) ∙ last-append (take i bytes) (get_or bytes i 0 ∷ []) (or_from (is_newline (get_or bytes i 0)) false (ne_eqb (get_or bytes i 0) 10 ne) refl) in
    let k : length (last_line (take i bytes) ++ get_or bytes i 0 ∷ []) ≡ length (last_line (take i bytes)) + 1 = omega (arith, length-append (last_line (take i bytes)) (get_or bytes i 0 ∷ [])) in
    omega (arith, ap length h)

-- ---- a comment at a directive line

where_true : (v a b : Bool) → (v ≡ true → a ≡ b) → (v && a) ≡ (v && b)
where_true true a b h = h refl
where_true false a b h = refl

pub touches_same : (text blanked rest comment : List ℕ) (offset before len : ℕ) → blanked ≡ blank text → rest ≡ drop offset text → before ≡ length (last_line (take offset text)) → comment ≡ take len rest → len ≤ length rest
    → (list_any is_newline comment && (begins_directive (drop (offset - before) blanked) || begins_directive (drop (offset + length comment - length (last_line comment)) blanked))) ≡ touches_directive text offset len
touches_same text blanked rest comment offset before len eb er ep ec le =
    let same : comment ≡ take len (drop offset text) = ec ∙ ap (take len) er in
    let n : length comment ≡ len = ap length ec ∙ length-take-le len rest le in
    let all : take (offset + len) text ≡ take offset text ++ comment = take-add offset len text ∙ ap (λ (xs : List ℕ). take offset text ++ xs) (sym same) in
    where_true (list_any is_newline comment) (begins_directive (drop (offset - before) blanked) || begins_directive (drop (offset + length comment - length (last_line comment)) blanked)) (is_directive_at text offset || is_directive_at text (offset + len))
    (λ v. let last : length (last_line (take (offset + len) text)) ≡ length (last_line comment) = ap (λ (xs : List ℕ). length (last_line xs)) all ∙ ap length (last_of (take offset text) comment v) in
    let i : offset + length comment - length (last_line comment) ≡ (offset + len) - length (last_line (take (offset + len) text)) = omega arith in
    ap (λ (k : ℕ). begins_directive (drop (offset - k) blanked) || begins_directive (drop (offset + length comment - length (last_line comment)) blanked)) ep
    ∙ ap (λ (k : ℕ). begins_directive (drop (offset - length (last_line (take offset text))) blanked) || begins_directive (drop k blanked)) i
    ∙ ap (λ (bs : List ℕ). begins_directive (drop (offset - length (last_line (take offset text))) bs) || begins_directive (drop ((offset + len) - length (last_line (take (offset + len) text))) bs)) eb)
    ∙ ap (λ (xs : List ℕ). list_any is_newline xs && (is_directive_at text offset || is_directive_at text (offset + len))) same

pub comment_is : (text rest : List ℕ) (offset : ℕ) (touches : Bool) → is_open rest ≡ false → touches_directive text offset (comment_len rest) ≡ touches → comment_fault text offset rest ≡ cond touches (Some CommentAtDirective) None
comment_is text rest offset touches e f =
    ap (λ (b : Bool). cond b (Some OpenComment) (cond (touches_directive text offset (comment_len rest)) (Some CommentAtDirective) None)) e
    ∙ ap (λ (b : Bool). cond b (Some CommentAtDirective) None) f

-- ---- steps of the loop

pub passed_fault : (text : List ℕ) (at left b : ℕ) (bs rest : List ℕ) (total : Option (FileCode × Place)) → rest ≡ b ∷ bs → None ≡ fault_at text at left rest → first_fault_from text at left rest ≡ total
    → first_fault_from text (at + 1) (comment_left left rest - 1) bs ≡ total
passed_fault text at left b bs rest total cut e h =
    ap (λ (xs : List ℕ). first_fault_from text (at + 1) (comment_left left xs - 1) bs) cut
    ∙ ap (λ (o : Option FileCode). or_later (option_map (λ code. (code, place_at text at)) o) (first_fault_from text (at + 1) (comment_left left (b ∷ bs) - 1) bs)) (subst (λ (xs : List ℕ). None ≡ fault_at text at left xs) cut e)
    ∙ ap (first_fault_from text at left) (sym cut) ∙ h

pub found_fault : (text : List ℕ) (at left b : ℕ) (bs rest : List ℕ) (code : FileCode) (total : Option (FileCode × Place)) → rest ≡ b ∷ bs → Some code ≡ fault_at text at left rest → first_fault_from text at left rest ≡ total
    → Some (code, place_at text at) ≡ total
found_fault text at left b bs rest code total cut e h =
    ap (λ (o : Option FileCode). or_later (option_map (λ code. (code, place_at text at)) o) (first_fault_from text (at + 1) (comment_left left (b ∷ bs) - 1) bs)) (subst (λ (xs : List ℕ). Some code ≡ fault_at text at left xs) cut e)
    ∙ ap (first_fault_from text at left) (sym cut) ∙ h

pub no_fault : (text : List ℕ) (at left : ℕ) (rest : List ℕ) (total : Option (FileCode × Place)) → rest ≡ [] → first_fault_from text at left rest ≡ total → None ≡ total
no_fault text at left rest total cut h = ap (first_fault_from text at left) (sym cut) ∙ h

pub front_more : (text : List ℕ) (offset n : ℕ) (rest : List ℕ) → rest ≡ drop offset text → take (offset + n) text ≡ take offset text ++ take n rest
front_more text offset n rest e = take-add offset n text ∙ ap (λ (xs : List ℕ). take offset text ++ take n xs) (sym e)

pub behind : (text : List ℕ) (offset n : ℕ) (rest : List ℕ) → rest ≡ drop offset text → drop n rest ≡ drop (offset + n) text
behind text offset n rest e = ap (drop n) e ∙ drop-drop n offset text

-- Lists that follow blocks: what is left where blocks are left, as items and blocks are added and given up.
use Rattle.std.proofs.Common.{◌≡◌, ℕ, zero, suc, ◌+◌, ◌≤◌, true, false, List, [], ◌∷◌, ◌++◌, length, take, reverse, refl, sym, ◌∙◌, ap, subst, arith, Some, None, slice_get, if◌then◌else◌}
use Rattle.std.proofs.lemmas.List.{take_all, take-take, take-append-le, length_push, length-take-le, reverse-append}
use Rattle.c_grammar.specs.Scoped.{has_block, left_of, left_where, BeginWithin, without_innermost}

some_same : {a b : ℕ} → Some a ≡ Some b → a ≡ b
some_same e = cc

-- ---- how many are left

more_within : (count : ℕ) (bs : List ℕ) → BeginWithin count bs → BeginWithin (count + 1) bs
more_within count [] s = tt
more_within count (b ∷ bs) s = (omega (arith, s.0), s.1)

left_within : (n count : ℕ) (bs : List ℕ) → BeginWithin count bs → left_of n count bs ≤ count
left_within n count [] s = omega arith
left_within zero count (b ∷ bs) s = s.0
left_within (suc n) count (b ∷ bs) s = omega (arith, left_within n b bs s.1, s.0)

left_same : (n count other b : ℕ) (bs : List ℕ) → left_of n count (b ∷ bs) ≡ left_of n other (b ∷ bs)
left_same zero count other b bs = refl
left_same (suc n) count other b bs = refl

left_alone : (n count b : ℕ) → left_of n count (b ∷ []) ≡ b
left_alone zero count b = refl
left_alone (suc n) count b = refl

-- ---- without items

pub new-sound : {T : Type 0} (xs : List T) (begins : List ℕ) → begins ≡ [] → BeginWithin (length xs) (reverse begins)
new-sound xs begins e = rw e tt

pub new-left : {T : Type 0} (n : ℕ) (xs : List T) (begins : List ℕ) → xs ≡ [] → begins ≡ [] → left_where n xs (reverse begins) ≡ []
new-left zero xs begins e f = e
new-left (suc n) xs begins e f = rw (e, f) refl

pub new-outside : (begins : List ℕ) → begins ≡ [] → has_block (reverse begins) ≡ false
new-outside begins e = rw e refl

-- ---- an item is added

pub pushed-sound : {T : Type 0} (xs ys : List T) (x : T) (bs : List ℕ) → ys ≡ xs ++ x ∷ [] → BeginWithin (length xs) bs
    → BeginWithin (length ys) bs
pushed-sound xs ys x bs e s = rw (e, length_push xs x) (more_within (length xs) bs s)

pushed_in : {T : Type 0} (n : ℕ) (xs : List T) (x : T) (b : ℕ) (bs : List ℕ) → BeginWithin (length xs) (b ∷ bs)
    → take (left_of n (length (xs ++ x ∷ [])) (b ∷ bs)) (xs ++ x ∷ []) ≡ take (left_of n (length xs) (b ∷ bs)) xs
pushed_in n xs x b bs s =
    rw (left_same n (length (xs ++ x ∷ [])) (length xs) b bs)
    (take-append-le (left_of n (length xs) (b ∷ bs)) xs (x ∷ []) (left_within n (length xs) (b ∷ bs) s))

pub pushed-left : {T : Type 0} (n : ℕ) (xs ys : List T) (x : T) (bs : List ℕ) → ys ≡ xs ++ x ∷ [] → BeginWithin (length xs) bs
    → left_where (suc n) ys bs ≡ (if has_block bs then left_where (suc n) xs bs else left_where (suc n) xs bs ++ x ∷ [])
pushed-left n xs ys x [] e s =
    take_all (length ys) ys (omega arith) ∙ e ∙ sym (ap (λ them. them ++ x ∷ []) (take_all (length xs) xs (omega arith)))
pushed-left n xs ys x (b ∷ bs) e s = rw e (pushed_in n xs x b bs s)

-- ---- a block is opened

entered-blocks : (begins now : List ℕ) (count : ℕ) → now ≡ begins ++ count ∷ [] → reverse now ≡ count ∷ reverse begins
entered-blocks begins now count e = ap reverse e ∙ reverse-append begins (count ∷ [])

pub entered-sound : {T : Type 0} (xs : List T) (begins now : List ℕ) (count : ℕ) → count ≡ length xs → now ≡ begins ++ count ∷ []
    → BeginWithin (length xs) (reverse begins) → BeginWithin (length xs) (reverse now)
entered-sound xs begins now count counted e s = rw (entered-blocks begins now count e, counted) (omega arith, s)

pub entered-inside : (begins now : List ℕ) (count : ℕ) → now ≡ begins ++ count ∷ [] → has_block (reverse now) ≡ true
entered-inside begins now count e = rw (entered-blocks begins now count e) refl

entered_where : {T : Type 0} (n : ℕ) (xs : List T) (bs : List ℕ) → left_where (suc n) xs (length xs ∷ bs) ≡ left_where n xs bs
entered_where zero xs bs = take_all (length xs) xs (omega arith)
entered_where (suc n) xs bs = refl

pub entered-left : {T : Type 0} (n : ℕ) (xs : List T) (begins now : List ℕ) (count : ℕ) → count ≡ length xs → now ≡ begins ++ count ∷ []
    → left_where (suc n) xs (reverse now) ≡ left_where n xs (reverse begins)
entered-left n xs begins now count counted e = rw (entered-blocks begins now count e, counted) (entered_where n xs (reverse begins))

-- ---- the innermost block is left

left_sound : (count b : ℕ) (bs : List ℕ) → BeginWithin count (b ∷ bs) → BeginWithin b (without_innermost (b ∷ bs))
left_sound count b [] s = (omega arith, tt)
left_sound count b (c ∷ bs) s = s.1

pub left-sound : {T : Type 0} (xs ys : List T) (b : ℕ) (bs cs : List ℕ) → slice_get bs 0 ≡ Some b → ys ≡ take b xs → cs ≡ without_innermost bs
    → BeginWithin (length xs) bs → BeginWithin (length ys) cs
left-sound xs ys b [] cs first e f s = cc
left-sound xs ys b (c ∷ bs) cs first e f s =
    let same : c ≡ b = some_same first in
    let within : b ≤ length xs = omega (arith, same, s.0) in
    rw (e, f, length-take-le b xs within) (subst (λ k. BeginWithin k (without_innermost (c ∷ bs))) same (left_sound (length xs) c bs s))

inside_left : (bs : List ℕ) → has_block (without_innermost bs) ≡ has_block bs
inside_left [] = refl
inside_left (b ∷ []) = refl
inside_left (b ∷ c ∷ bs) = refl

pub left-inside : (bs cs : List ℕ) → cs ≡ without_innermost bs → has_block cs ≡ has_block bs
left-inside bs cs f = rw f (inside_left bs)

left_left : {T : Type 0} (n : ℕ) (xs : List T) (b : ℕ) (bs : List ℕ) → BeginWithin (length xs) (b ∷ bs)
    → left_where n (take b xs) (without_innermost (b ∷ bs)) ≡ left_where (suc n) xs (b ∷ bs)
left_left zero xs b bs s = refl
left_left (suc n) xs b [] s = rw (left_alone n (length (take b xs)) b) (take-take b b xs (omega arith))
left_left (suc n) xs b (c ∷ bs) s =
    rw (length-take-le b xs s.0)
    (take-take (left_of n b (c ∷ bs)) b xs (left_within n b (c ∷ bs) s.1))

pub left-left : {T : Type 0} (n : ℕ) (xs ys : List T) (b : ℕ) (bs cs : List ℕ) → slice_get bs 0 ≡ Some b → ys ≡ take b xs
    → cs ≡ without_innermost bs → BeginWithin (length xs) bs
    → left_where n ys cs ≡ (if has_block bs then left_where (suc n) xs bs else left_where n xs bs)
left-left n xs ys b [] cs first e f s = cc
left-left n xs ys b (c ∷ bs) cs first e f s =
    rw (f, e, sym (some_same first)) (left_left n xs c bs s)

-- outside of all blocks there is none to be left
pub outside-left : {T : Type 0} (n : ℕ) (xs : List T) (bs : List ℕ) → slice_get bs 0 ≡ None
    → left_where n xs bs ≡ (if has_block bs then left_where (suc n) xs bs else left_where n xs bs)
outside-left n xs [] none = refl
outside-left n xs (b ∷ bs) none = cc

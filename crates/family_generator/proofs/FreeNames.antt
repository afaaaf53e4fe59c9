-- The two names of a generated family are no features', and differ.
use Rattle.std.proofs.Common.{◌≡◌, inl, inr, ℕ, suc, ◌+◌, ◌<◌, nat_eq, Bool, true, false, not, cond, List, [], ◌∷◌, ◌++◌, codes, length, map, Option, Some, None, refl, ap, ◌∙◌, sym, subst, append_assoc, arith}
use Rattle.std.specs.Prelude.{slice_get}
use Rattle.std.specs.Fmt.{digits}
use Rattle.std.specs.List.{list_any}
use Rattle.std.specs.Str.{bytes_eq}
use Rattle.std.proofs.lemmas.Bool.Decides.{nat_tests}
use Rattle.std.proofs.lemmas.Slice.Eq.{bytes_eq-Decides}
use Rattle.fam_outer.specs.declared.faults.Place.{Place}
use Rattle.linear_atoms.specs.declared.atoms.Feature.{Feature}
use Rattle.c_grammar.specs.declared.items.Item.{Item}
use Rattle.c_grammar.specs.declared.items.Sign.{Sign}
use Rattle.c_grammar.specs.declared.items.Sign.TheVariants as signs
use Rattle.c_grammar.specs.Facts.{IsFit, AreFit}
use Rattle.c_parser.specs.Items.{number_in}
use Rattle.family_names.specs.Names.{NameContext, is_feature, is_feature_name}
use Rattle.family_generator.specs.Features.{generated_features}
use Rattle.family_generator.proofs.BlockTexts.{Block, Switched, Bounded, Checked}
use Rattle.family_generator.proofs.Signs.{laid, sign_in, block_signs, blocks_signs, condition_count, file_signs}
use Rattle.family_generator.proofs.Lexed.{first_in, second_in}
use Rattle.family_generator.proofs.NameFaults.{AreFree, AreOwn, IsOwn}

-- ---- a name is at its number

one_more : (k : ℕ) → 1 + k ≡ suc k
one_more k = omega arith

found_by : (n : List ℕ) (ns : List (List ℕ)) (w : List ℕ) (b : Bool) → bytes_eq w n ≡ b → (number_in ns w < length ns → slice_get ns (number_in ns w) ≡ Some w)
    → cond (not b) (1 + number_in ns w) 0 < suc (length ns) → slice_get (n ∷ ns) (cond (not b) (1 + number_in ns w) 0) ≡ Some w
found_by n ns w true e rest lt = ap (λ (m : List ℕ). Some m) (sym ((bytes_eq-Decides w n).0 e))
found_by n ns w false e rest lt = ap (slice_get (n ∷ ns)) (one_more (number_in ns w)) ∙ rest (omega arith)

number_found : (names : List (List ℕ)) (w : List ℕ) → number_in names w < length names → slice_get names (number_in names w) ≡ Some w
number_found [] w lt = absurd (omega arith)
number_found (n ∷ ns) w lt = found_by n ns w (bytes_eq w n) refl (number_found ns w) lt

-- ---- the numbers of the two names are those of names

abbrev AllFit : ℕ → List Sign → Type 0
AllFit count [] = Unit {0}
AllFit count (s ∷ ss) = IsFit count s × AllFit count ss

signs_fit : (count : ℕ) (xs : List Item) → AreFit count xs → AllFit count (map sign_in xs)
signs_fit count [] h = tt
signs_fit count (x ∷ xs) h = (h.0, signs_fit count xs h.1)

-- ---- no feature has such a name

not_feature : (context : NameContext) (x : ℕ) (name : List ℕ) → slice_get context.names x ≡ Some name → context.model.features ≡ generated_features
    → list_any (λ (f : Feature). bytes_eq f.name name) generated_features ≡ false → is_feature context x ≡ false
not_feature context x name e f h =
    ap (is_feature_name context.model) e ∙ ap (λ (features : List Feature). list_any (λ (f : Feature). bytes_eq f.name name) features) f ∙ h

first_no_feature : list_any (λ (f : Feature). bytes_eq f.name (codes "a")) generated_features ≡ false
unfolding digits
first_no_feature = refl

second_no_feature : list_any (λ (f : Feature). bytes_eq f.name (codes "b")) generated_features ≡ false
unfolding digits
second_no_feature = refl

-- ---- both differ

same_number : (m n : ℕ) → nat_eq m n ≡ true → m ≡ n
same_number m n e = grind (arith, nat_tests)

abbrev first_byte : Option (List ℕ) → ℕ
first_byte None = 0
first_byte (Some []) = 0
first_byte (Some (b ∷ bs)) = b

two_apart : (names : List (List ℕ)) (x y : ℕ) (b : Bool) → nat_eq y x ≡ b → slice_get names x ≡ Some (codes "a") → slice_get names y ≡ Some (codes "b") → b ≡ false
two_apart names x y true e f g = absurd (let bytes : 97 ≡ 98 = ap first_byte (sym f ∙ ap (slice_get names) (sym (same_number y x e)) ∙ g) in omega (arith, bytes))
two_apart names x y false e f g = refl

pub names_free : (context : NameContext) (bs : List Block) (xs : List Item) → context.model.features ≡ generated_features → AreFit (length context.names) xs
    → map sign_in xs ≡ file_signs (first_in context.names) (second_in context.names) bs → AreFree context (first_in context.names) (second_in context.names)
names_free context bs xs features fit e =
    let x = first_in context.names in
    let y = second_in context.names in
    let all : AllFit (length context.names) (file_signs (first_in context.names) (second_in context.names) bs) = subst (AllFit (length context.names)) e (signs_fit (length context.names) xs fit) in
    let first : slice_get context.names (first_in context.names) ≡ Some (codes "a") = number_found context.names (codes "a") all.1.0 in
    let second : slice_get context.names (second_in context.names) ≡ Some (codes "b") = number_found context.names (codes "b") all.1.1.1.1.0 in
    record {
      first = not_feature context x (codes "a") first features first_no_feature;
      second = not_feature context y (codes "b") second features second_no_feature;
      apart = two_apart context.names x y (nat_eq y x) refl first second;
    }

-- ---- no other name stands behind the header

abbrev AllOwn : ℕ → ℕ → List Sign → Type 0
AllOwn x y [] = Unit {0}
AllOwn x y (s ∷ ss) = IsOwn x y s × AllOwn x y ss

all_joined : (x y : ℕ) (ss ts : List Sign) → AllOwn x y ss → AllOwn x y ts → AllOwn x y (ss ++ ts)
all_joined x y [] ts h k = k
all_joined x y (s ∷ ss) ts h k = (h.0, all_joined x y ss ts h.1 k)

laid_own : (f : ℕ → Place) (k x y : ℕ) (ss : List Sign) → AllOwn x y ss → AreOwn x y (laid f k ss)
laid_own f k x y [] h = tt
laid_own f k x y (s ∷ ss) h = (h.0, laid_own f (k + 1) x y ss h.1)

block_own : (x y n : ℕ) (b : Block) → AllOwn x y (block_signs x y n b)
block_own x y n (Switched f) = (tt, (inl refl, (tt, (tt, (tt, (tt, (tt, (tt, tt))))))))
block_own x y n (Bounded c w) = (tt, (tt, (tt, (inr refl, (tt, (tt, (tt, (inr refl, (tt, (tt, (tt, (inr refl, (tt, (tt, (tt, (tt, tt))))))))))))))))
block_own x y n Checked = (tt, (tt, (inl refl, (tt, (tt, (tt, (inr refl, (tt, (inr refl, (tt, (tt, (tt, (tt, (inr refl, (tt, (tt, (tt, (tt, (tt, (inr refl, (tt, (tt, (tt, (tt, tt))))))))))))))))))))))))

blocks_own : (x y n : ℕ) (bs : List Block) → AllOwn x y (blocks_signs x y n bs ++ signs.RightBrace ∷ [])
blocks_own x y n [] = (tt, tt)
blocks_own x y n (b ∷ bs) =
    subst (AllOwn x y) (sym (append_assoc (block_signs x y n b) (blocks_signs x y (n + condition_count b) bs) (signs.RightBrace ∷ [])))
    (all_joined x y (block_signs x y n b) (blocks_signs x y (n + condition_count b) bs ++ signs.RightBrace ∷ []) (block_own x y n b) (blocks_own x y (n + condition_count b) bs))

-- the items behind the header
pub statements_own : (f : ℕ → Place) (x y : ℕ) (bs : List Block) → AreOwn x y (laid f 12 (blocks_signs x y 0 bs ++ signs.RightBrace ∷ []))
statements_own f x y bs = laid_own f 12 x y (blocks_signs x y 0 bs ++ signs.RightBrace ∷ []) (blocks_own x y 0 bs)

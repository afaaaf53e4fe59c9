-- What the pieces of regions say.
use Rattle.std.proofs.Common.{◌≡◌, ◌⊎◌, inl, inr, ℤ, pos, ◌+ℤ◌, int_le, Bool, true, false, not, ◌&&◌, if◌then◌else◌, List, [], ◌∷◌, refl, sym, ap, ap₂, ◌∙◌, arith}
use Rattle.std.specs.Prelude.{map}
use Rattle.std.specs.Ordering.{int_eq}
use Rattle.std.proofs.lemmas.Int.{ints}
use Rattle.std.proofs.Math.Bool.{and_assoc}
use Rattle.linear_atoms.specs.declared.atoms.Feature.{Feature}
use Rattle.linear_atoms.specs.declared.atoms.Literal.{Literal}
use Rattle.linear_atoms.specs.declared.regions.Regions.{Regions}
use Rattle.linear_atoms.specs.declared.regions.Regions.TheVariants.{Paths, Merged}
use Rattle.linear_atoms.specs.Atoms.{literal_holds}
use Rattle.linear_atoms.specs.Forms.{sum_at}
use Rattle.atom_solver.specs.Solutions.{all_hold}
use Rattle.alarm_report.specs.Pieces.{Piece, Single, Value, leave_value, folded, pieces_of}
use Rattle.alarm_report.proofs.Piecewise.{LeaveValue, value_left}

abbrev pub piece_holds : Piece → List ℤ → Bool
piece_holds (Single l) values = literal_holds l values
piece_holds (Value a) values = int_eq (sum_at a.terms values) a.bound

abbrev pub pieces_hold : List Piece → List ℤ → Bool
pieces_hold [] values = true
pieces_hold (p ∷ ps) values = piece_holds p values && pieces_hold ps values

by_truth : (b : Bool) → (b ≡ true) ⊎ (b ≡ false)
by_truth true = inl refl
by_truth false = inr refl

-- ---- truths

one_between : (b s : ℤ) → int_eq s b ≡ (int_le b s && not (int_le (b +ℤ pos 1) s))
one_between b s = grind (arith, ints)

-- a value is what both literals say
value_says : (l m : Literal) (values : List ℤ) → LeaveValue l m → int_eq (sum_at l.atom.terms values) l.atom.bound ≡ (literal_holds l values && literal_holds m values)
value_says l m values h =
    let sum = sum_at l.atom.terms values in
    let first : literal_holds l values ≡ int_le l.atom.bound sum = ap (λ b. if b then int_le l.atom.bound sum else not (int_le l.atom.bound sum)) h.lower in
    let other : literal_holds m values ≡ not (int_le (l.atom.bound +ℤ pos 1) sum) =
    ap (λ b. if b then int_le m.atom.bound (sum_at m.atom.terms values) else not (int_le m.atom.bound (sum_at m.atom.terms values))) h.upper
    ∙ ap₂ (λ ts b. not (int_le b (sum_at ts values))) (sym h.terms_are) h.bound_is in
    one_between l.atom.bound sum ∙ sym (ap₂ (λ x y. x && y) first other)

singles_hold : (ls : List Literal) (values : List ℤ) → pieces_hold (map Single ls) values ≡ all_hold ls values
singles_hold [] values = refl
singles_hold (l ∷ ls) values = ap (λ b. literal_holds l values && b) (singles_hold ls values)

folded_hold : (features : List Feature) (ls : List Literal) (values : List ℤ) → pieces_hold (folded features ls) values ≡ all_hold ls values
folded_hold features [] values = refl
folded_hold features (l ∷ []) values = refl
folded_hold features (l ∷ m ∷ ls) values = by (by_truth (leave_value features l m)) (folded_hold features ls values) (folded_hold features (m ∷ ls) values)
  where
    chosen : Bool → List Piece
    chosen b = if b then Value l.atom ∷ folded features ls else Single l ∷ folded features (m ∷ ls)

    by : (leave_value features l m ≡ true) ⊎ (leave_value features l m ≡ false) → pieces_hold (folded features ls) values ≡ all_hold ls values
        → pieces_hold (folded features (m ∷ ls)) values ≡ all_hold (m ∷ ls) values → pieces_hold (folded features (l ∷ m ∷ ls)) values ≡ all_hold (l ∷ m ∷ ls) values
    by (inl e) x y =
        ap (λ b. pieces_hold (chosen b) values) e ∙ ap₂ (λ a b. a && b) (value_says l m values (value_left features l m e)) x
        ∙ and_assoc (literal_holds l values) (literal_holds m values) (all_hold ls values)
    by (inr e) x y = ap (λ b. pieces_hold (chosen b) values) e ∙ ap (λ b. literal_holds l values && b) y

pub all_pieces_hold : (regions : Regions) (features : List Feature) (ls : List Literal) (values : List ℤ) → pieces_hold (pieces_of regions features ls) values ≡ all_hold ls values
all_pieces_hold Paths features ls values = singles_hold ls values
all_pieces_hold Merged features ls values = folded_hold features ls values

-- The literals that the text of a region is read as.
use Rattle.std.proofs.Common.{◌≡◌, ◌≢◌, ℕ, suc, ◌+◌, pos, ◌+ℤ◌, Bool, true, false, true≢false, List, [], ◌∷◌, ◌⊎◌, inl, inr, length, map, refl, sym, ap, ap₂, subst, ◌∙◌, arith}
use Rattle.std.specs.Prelude.{if◌then◌else◌, flat_map, ◌&&◌, slice_get, Option, Some, None}
use Rattle.std.specs.Str.{bytes_eq}
use Rattle.std.specs.Ordering.{int_eq}
use Rattle.std.specs.Cmp.Lexicographic.{pointwise_decides}
use Rattle.std.proofs.lemmas.Bool.{and_parts}
use Rattle.std.proofs.lemmas.Bool.Decides.{Decides-int_eq}
use Rattle.std.proofs.lemmas.Slice.Eq.{bytes_eq-Decides}
use Rattle.linear_atoms.specs.declared.atoms.Atom.{Atom}
use Rattle.linear_atoms.specs.declared.atoms.Feature.{Feature}
use Rattle.linear_atoms.specs.declared.atoms.Literal.{Literal}
use Rattle.linear_atoms.specs.declared.regions.Regions.{Regions}
use Rattle.linear_atoms.specs.declared.regions.Regions.TheVariants.{Paths, Merged}
use Rattle.linear_atoms.specs.Atoms.{IsAtom, AreAtoms, AreLiterals}
use Rattle.linear_atoms.specs.Order.{same_terms}
use Rattle.linear_atoms.specs.Texts.{literal_text, value_text}
use Rattle.cpp_conditions.specs.Numbering.{IsAmong}
use Rattle.cpp_conditions.proofs.Numbers.{term_decides}
use Rattle.alarm_report.specs.Pieces.{Single, Value, is_next, leave_value, folded, pieces_of, piece_text}
use Rattle.alarm_report.specs.Pieces as told
use Rattle.alarm_report.proofs.Piecewise.{LeaveValue, value_left}
use Rattle.certificate_format.specs.declared.literals.Numbered.{Numbered}
use Rattle.certificate_format.specs.declared.literals.Piece.{Piece}
use Rattle.certificate_format.specs.declared.literals.Piece.TheVariants as read
use Rattle.certificate_format.specs.Regions.{numbered, spelling, literal_from, next_from, value_by, value_from, or_else, piece_of, literals_in}
use Rattle.certificate_laws.proofs.Naming.{HaveNames}
use Rattle.certificate_laws.proofs.Writable.{AreOver}
use Rattle.certificate_laws.proofs.Literals.{by_truth, one_literal}
use Rattle.certificate_laws.proofs.Values.{one_value, no_value}

-- ---- atoms of a list

pub among_atom : (n : ℕ) (a : Atom) (atoms : List Atom) → AreAtoms n atoms → IsAmong a atoms → IsAtom n a
among_atom n a [] h k = absurd k
among_atom n a (b ∷ atoms) h (inl e) = subst (IsAtom n) e h.0
among_atom n a (b ∷ atoms) h (inr k) = among_atom n a atoms h.1 k

pub over_fit : (n : ℕ) (atoms : List Atom) (ls : List Literal) → AreAtoms n atoms → AreOver atoms ls → AreLiterals n ls
over_fit n atoms [] h k = tt
over_fit n atoms (l ∷ ls) h k = (among_atom n l.atom atoms h k.0, over_fit n atoms ls h k.1)

-- ---- places of atoms

-- the atom stands at this number, of atoms of which the first has the number n
record IsAt (n : ℕ) (atoms : List Atom) (a : Atom) (number : ℕ) : Type 0 where
  place : ℕ
  number_is : number ≡ n + place
  there : slice_get atoms place ≡ Some a

at_later : (n : ℕ) (b : Atom) (atoms : List Atom) (a : Atom) (number : ℕ) → IsAt (n + 1) atoms a number → IsAt n (b ∷ atoms) a number
at_later n b atoms a number h = record { place = suc h.place; number_is = h.number_is ∙ omega arith; there = h.there }

at_first : (n : ℕ) (b : Atom) (atoms : List Atom) (a : Atom) → b ≡ a → IsAt n (b ∷ atoms) a n
at_first n b atoms a e = record { place = 0; number_is = omega arith; there = ap Some e }

among_behind : (a b : Atom) (atoms : List Atom) → b ≢ a → IsAmong a (b ∷ atoms) → IsAmong a atoms
among_behind a b atoms none (inl e) = absurd (none e)
among_behind a b atoms none (inr m) = m

-- ---- literals

-- the numbered literal is this one, of atoms of which the first has the number n
pub record Stands (n : ℕ) (atoms : List Atom) (l : Literal) (m : Numbered) : Type 0 where
  pub place : ℕ
  pub number : m.number ≡ n + place
  pub there : slice_get atoms place ≡ Some l.atom
  pub positive : m.positive ≡ l.positive

-- the text has this literal
record Spells (n : ℕ) (atoms : List Atom) (l : Literal) (answer : Option Piece) : Type 0 where
  literal : Numbered
  is : answer ≡ Some (read.Literal literal)
  stands : Stands n atoms l literal

later : (n : ℕ) (a : Atom) (atoms : List Atom) (l : Literal) (answer : Option Piece) → Spells (n + 1) atoms l answer → Spells n (a ∷ atoms) l answer
later n a atoms l answer h = record {
  literal = h.literal;
  is = h.is;
  stands = record { place = suc h.stands.place; number = h.stands.number ∙ omega arith; there = h.stands.there; positive = h.stands.positive };
}

spelled : (fs : List Feature) → HaveNames fs → (n : ℕ) (atoms : List Atom) (l : Literal) → AreAtoms (length fs) atoms → IsAtom (length fs) l.atom → IsAmong l.atom atoms
    → Spells n atoms l (literal_from fs n atoms (literal_text fs l))
spelled fs named n [] l h k among = absurd among
spelled fs named n (a ∷ atoms) l h k among = by (λ m. spelled fs named (n + 1) atoms l h.1 k m) (by_truth (bytes_eq (spelling fs a true) text)) (by_truth (bytes_eq (spelling fs a false) text))
  where
    text : List ℕ
    text = literal_text fs l

    rest : Option Piece
    rest = literal_from fs (n + 1) atoms text

    choose : Bool → Bool → Option Piece
    choose b c = if b then Some (read.Literal (numbered n true)) else (if c then Some (read.Literal (numbered n false)) else rest)

    same : (p : Bool) → bytes_eq (spelling fs a p) text ≡ true → record { atom = a; positive = p } ≡ l
    same p e = one_literal fs (record { atom = a; positive = p }) l named h.0 k ((bytes_eq-Decides (spelling fs a p) text).0 e)

    here : (p : Bool) → bytes_eq (spelling fs a p) text ≡ true → Stands n (a ∷ atoms) l (numbered n p)
    here p e = record {
      place = 0;
      number = omega arith;
      there = ap (λ (x : Literal). Some x.atom) (same p e);
      positive = ap (λ (x : Literal). x.positive) (same p e);
    }

    other : (p : Bool) → l.positive ≡ p → bytes_eq (spelling fs a p) text ≡ false → a ≢ l.atom
    other p e f g = true≢false (sym ((bytes_eq-Decides (spelling fs a p) text).1 (λ i. literal_text fs (record { atom = g i; positive = sym e i }))) ∙ f)

    differs : bytes_eq (spelling fs a true) text ≡ false → bytes_eq (spelling fs a false) text ≡ false → a ≢ l.atom
    differs f g = elim (by_truth l.positive) [ inl e ↦ other true e f | inr e ↦ other false e g ]

    by : (IsAmong l.atom atoms → Spells (n + 1) atoms l rest) → (bytes_eq (spelling fs a true) text ≡ true) ⊎ (bytes_eq (spelling fs a true) text ≡ false) → (bytes_eq (spelling fs a false) text ≡ true) ⊎ (bytes_eq (spelling fs a false) text ≡ false)
        → Spells n (a ∷ atoms) l (literal_from fs n (a ∷ atoms) text)
    by more (inl e) g = record {
      literal = numbered n true;
      is = ap (λ b. choose b (bytes_eq (spelling fs a false) text)) e;
      stands = here true e;
    }
    by more (inr e) (inl g) = record {
      literal = numbered n false;
      is = ap₂ choose e g;
      stands = here false g;
    }
    by more (inr e) (inr g) =
        subst (Spells n (a ∷ atoms) l) (sym (ap₂ choose e g)) (later n a atoms l rest (more (among_behind l.atom a atoms (differs e g) among)))

-- ---- values

-- no literal has the text of a value
no_literal : (fs : List Feature) → HaveNames fs → (n : ℕ) (atoms : List Atom) (a : Atom) → AreAtoms (length fs) atoms → IsAtom (length fs) a → literal_from fs n atoms (value_text fs a) ≡ None
no_literal fs named n [] a h k = refl
no_literal fs named n (b ∷ atoms) a h k =
    ap₂ (λ x y. if x then Some (read.Literal (numbered n true)) else (if y then Some (read.Literal (numbered n false)) else literal_from fs (n + 1) atoms (value_text fs a))) (other true) (other false)
    ∙ no_literal fs named (n + 1) atoms a h.1 k
  where
    other : (p : Bool) → bytes_eq (spelling fs b p) (value_text fs a) ≡ false
    other p = elim (by_truth (bytes_eq (spelling fs b p) (value_text fs a))) [
      | inl e ↦ absurd (no_value fs (record { atom = b; positive = p }) a named h.0 k ((bytes_eq-Decides (spelling fs b p) (value_text fs a)).0 e))
      | inr e ↦ e
    ]

-- the second has the same terms and the next bound
record IsNext (a b : Atom) : Type 0 where
  terms : a.terms ≡ b.terms
  bound : b.bound ≡ a.bound +ℤ pos 1

next_of : (a b : Atom) → is_next a b ≡ true → IsNext a b
next_of a b e =
    let both = and_parts (same_terms a.terms b.terms) (int_eq b.bound (a.bound +ℤ pos 1)) e in
    record { terms = (pointwise_decides term_decides a.terms b.terms).0 both.0; bound = (Decides-int_eq b.bound (a.bound +ℤ pos 1)).0 both.1 }

is_next_by : (a b : Atom) → IsNext a b → is_next a b ≡ true
is_next_by a b h = ap₂ (λ x y. x && y) ((pointwise_decides term_decides a.terms b.terms).1 h.terms) ((Decides-int_eq b.bound (a.bound +ℤ pos 1)).1 h.bound)

one_next : (a b c : Atom) → IsNext a b → IsNext a c → c ≡ b
one_next a b c h k =
    let terms = sym k.terms ∙ h.terms in
    let bound = k.bound ∙ sym h.bound in
    λ i. record { terms = terms i; bound = bound i }

-- the next atom is found
record NextIs (n : ℕ) (atoms : List Atom) (b : Atom) (answer : Option ℕ) : Type 0 where
  number : ℕ
  is : answer ≡ Some number
  at : IsAt n atoms b number

next_found : (n : ℕ) (atoms : List Atom) (a b : Atom) → IsNext a b → IsAmong b atoms → NextIs n atoms b (next_from n atoms a)
next_found n [] a b h among = absurd among
next_found n (c ∷ atoms) a b h among = by (λ m. next_found (n + 1) atoms a b h m) (by_truth (is_next a c))
  where
    choose : Bool → Option ℕ
    choose t = if t then Some n else next_from (n + 1) atoms a

    by : (IsAmong b atoms → NextIs (n + 1) atoms b (next_from (n + 1) atoms a)) → (is_next a c ≡ true) ⊎ (is_next a c ≡ false) → NextIs n (c ∷ atoms) b (choose (is_next a c))
    by more (inl e) = record { number = n; is = ap choose e; at = at_first n c atoms b (one_next a b c h (next_of a c e)) }
    by more (inr e) =
        let none : c ≢ b = λ f. true≢false (sym (is_next_by a b h) ∙ ap (is_next a) (sym f) ∙ e) in
        let rest = more (among_behind b c atoms none among) in
        record { number = rest.number; is = ap choose e ∙ rest.is; at = at_later n c atoms b rest.number rest.at }

-- the value of the atom with this next is found
record ValueIs (n : ℕ) (atoms : List Atom) (a : Atom) (k : ℕ) (answer : Option Piece) : Type 0 where
  number : ℕ
  is : answer ≡ Some (read.Value number k)
  at : IsAt n atoms a number

not_text : (n : ℕ) (o : Option ℕ) (rest : Option Piece) → value_by false n o rest ≡ rest
not_text n None rest = refl
not_text n (Some m) rest = refl

value_found : (fs : List Feature) → HaveNames fs → (all : List Atom) (n : ℕ) (atoms : List Atom) (a : Atom) (k : ℕ) → AreAtoms (length fs) atoms → IsAtom (length fs) a → next_from 0 all a ≡ Some k → IsAmong a atoms
    → ValueIs n atoms a k (value_from fs all n atoms (value_text fs a))
value_found fs named all n [] a k h well next among = absurd among
value_found fs named all n (c ∷ atoms) a k h well next among = by (λ m. value_found fs named all (n + 1) atoms a k h.1 well next m) (by_truth (bytes_eq (value_text fs c) text))
  where
    text : List ℕ
    text = value_text fs a

    rest : Option Piece
    rest = value_from fs all (n + 1) atoms text

    by : (IsAmong a atoms → ValueIs (n + 1) atoms a k rest) → (bytes_eq (value_text fs c) text ≡ true) ⊎ (bytes_eq (value_text fs c) text ≡ false) → ValueIs n (c ∷ atoms) a k (value_by (bytes_eq (value_text fs c) text) n (next_from 0 all c) rest)
    by more (inl e) =
        let same : c ≡ a = one_value fs c a named h.0 well ((bytes_eq-Decides (value_text fs c) text).0 e) in
        record { number = n; is = ap₂ (λ b o. value_by b n o rest) e (ap (next_from 0 all) same ∙ next); at = at_first n c atoms a same }
    by more (inr e) =
        let none : c ≢ a = λ f. true≢false (sym ((bytes_eq-Decides (value_text fs c) text).1 (ap (value_text fs) f)) ∙ e) in
        let found = more (among_behind a c atoms none among) in
        record { number = found.number; is = ap (λ b. value_by b n (next_from 0 all c) rest) e ∙ not_text n (next_from 0 all c) rest ∙ found.is; at = at_later n c atoms a found.number found.at }

-- ---- regions

-- each numbered literal is the one at its place
abbrev pub StandAll : List Atom → List Literal → List Numbered → Type 0
StandAll atoms [] [] = Unit {0}
StandAll atoms [] (m ∷ ms) = ⊥
StandAll atoms (l ∷ ls) [] = ⊥
StandAll atoms (l ∷ ls) (m ∷ ms) = Stands 0 atoms l m × StandAll atoms ls ms

-- the texts stand for pieces, whose literals are these
pub record AreStood (of : List ℕ → Option Piece) (atoms : List Atom) (ls : List Literal) (texts : List (List ℕ)) : Type 0 where
  pub pieces : List Piece
  pub spelled : map of texts ≡ map Some pieces
  pub stand : StandAll atoms ls (flat_map literals_in pieces)

module _ (fs : List Feature) (named : HaveNames fs) (atoms : List Atom) (well : AreAtoms (length fs) atoms) where
  abbrev of : List ℕ → Option Piece
  of = piece_of fs atoms

  abbrev texts : List told.Piece → List (List ℕ)
  texts ps = map (piece_text fs) ps

  single : (l : Literal) (ls : List Literal) (ts : List (List ℕ)) → IsAmong l.atom atoms → AreStood of atoms ls ts → AreStood of atoms (l ∷ ls) (literal_text fs l ∷ ts)
  single l ls ts among rest =
      let own = spelled fs named 0 atoms l well (among_atom (length fs) l.atom atoms well among) among in
      let is : of (literal_text fs l) ≡ Some (read.Literal own.literal) = ap (λ o. or_else o (value_from fs atoms 0 atoms (literal_text fs l))) own.is in
      record { pieces = read.Literal own.literal ∷ rest.pieces; spelled = ap₂ (λ x xs. x ∷ xs) is rest.spelled; stand = (own.stands, rest.stand) }

  value : (l m : Literal) (ls : List Literal) (ts : List (List ℕ)) → LeaveValue l m → IsAmong l.atom atoms → IsAmong m.atom atoms → AreStood of atoms ls ts → AreStood of atoms (l ∷ m ∷ ls) (value_text fs l.atom ∷ ts)
  value l m ls ts h first second rest =
      let fit = among_atom (length fs) l.atom atoms well first in
      let next = next_found 0 atoms l.atom m.atom (record { terms = h.terms_are; bound = h.bound_is }) second in
      let own = value_found fs named atoms 0 atoms l.atom next.number well fit next.is first in
      let is : of (value_text fs l.atom) ≡ Some (read.Value own.number next.number) =
      ap (λ o. or_else o (value_from fs atoms 0 atoms (value_text fs l.atom))) (no_literal fs named 0 atoms l.atom well fit) ∙ own.is in
      record {
        pieces = read.Value own.number next.number ∷ rest.pieces;
        spelled = ap₂ (λ x xs. x ∷ xs) is rest.spelled;
        stand = (
          record { place = own.at.place; number = own.at.number_is; there = own.at.there; positive = sym h.lower },
          (record { place = next.at.place; number = next.at.number_is; there = next.at.there; positive = sym h.upper }, rest.stand),
        );
      }

  none : AreStood of atoms [] []
  none = record { pieces = []; spelled = refl; stand = tt }

  singles_stood : (ls : List Literal) → AreOver atoms ls → AreStood of atoms ls (texts (map Single ls))
  singles_stood [] h = none
  singles_stood (l ∷ ls) h = single l ls (texts (map Single ls)) h.0 (singles_stood ls h.1)

  folded_stood : (ls : List Literal) → AreOver atoms ls → AreStood of atoms ls (texts (folded fs ls))
  folded_stood [] h = none
  folded_stood (l ∷ []) h = single l [] [] h.0 none
  folded_stood (l ∷ m ∷ ls) h = by (by_truth (leave_value fs l m)) (folded_stood ls h.1.1) (folded_stood (m ∷ ls) h.1)
    where
      choose : Bool → List told.Piece
      choose b = if b then Value l.atom ∷ folded fs ls else Single l ∷ folded fs (m ∷ ls)

      by : (leave_value fs l m ≡ true) ⊎ (leave_value fs l m ≡ false) → AreStood of atoms ls (texts (folded fs ls)) → AreStood of atoms (m ∷ ls) (texts (folded fs (m ∷ ls)))
          → AreStood of atoms (l ∷ m ∷ ls) (texts (choose (leave_value fs l m)))
      by (inl e) x y = subst (λ b. AreStood of atoms (l ∷ m ∷ ls) (texts (choose b))) (sym e) (value l m ls (texts (folded fs ls)) (value_left fs l m e) h.0 h.1.0 x)
      by (inr e) x y = subst (λ b. AreStood of atoms (l ∷ m ∷ ls) (texts (choose b))) (sym e) (single l (m ∷ ls) (texts (folded fs (m ∷ ls))) h.0 y)

  -- the texts of a region's pieces stand for its literals
  pub pieces_stood : (regions : Regions) (ls : List Literal) → AreOver atoms ls → AreStood of atoms ls (texts (pieces_of regions fs ls))
  pieces_stood Paths ls h = singles_stood ls h
  pieces_stood Merged ls h = folded_stood ls h

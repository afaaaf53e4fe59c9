-- Values that have one text are one value, and no literal has the text of a value.
use Rattle.std.proofs.Common.{◌≡◌, ℤ, Bool, true, false, not, ◌&&◌, List, ◌++◌, codes, ℕ, length, get_or, drop, refl, sym, ap, ◌∙◌, arith, append_assoc}
use Rattle.std.specs.Fmt.{signed_decimal}
use Rattle.linear_atoms.specs.declared.atoms.Atom.{Atom}
use Rattle.linear_atoms.specs.declared.atoms.Feature.{Feature}
use Rattle.linear_atoms.specs.declared.atoms.Literal.{Literal}
use Rattle.linear_atoms.specs.Atoms.{IsAtom}
use Rattle.linear_atoms.specs.Texts.{terms_text, is_switch, literal_text, value_text}
use Rattle.certificate_laws.proofs.Naming.{HaveNames}
use Rattle.certificate_laws.proofs.Literals.{Ends, first_terms, no_bang, bang, tail, parts, tail_ends, one_bound, one_front, shown}

abbrev value_tail : ℤ → List ℕ
value_tail b = codes " == " ++ signed_decimal b

value_ends : (b : ℤ) → Ends (value_tail b)
value_ends b = (refl, omega arith, omega arith)

value_parts : (fs : List Feature) (a : Atom) → value_text fs a ≡ terms_text true fs a.terms ++ value_tail a.bound
value_parts fs a = append_assoc (terms_text true fs a.terms) (codes " == ") (signed_decimal a.bound)

pub one_value : (fs : List Feature) (a b : Atom) → HaveNames fs → IsAtom (length fs) a → IsAtom (length fs) b → value_text fs a ≡ value_text fs b → a ≡ b
one_value fs a b named p q e =
    let terms = first_terms fs named a.terms b.terms (value_tail a.bound) (value_tail b.bound) (shown fs a p) (shown fs b q) p.positive q.positive (value_ends a.bound) (value_ends b.bound)
    (sym (value_parts fs a) ∙ e ∙ value_parts fs b) in
    let bound = one_bound a.bound b.bound p.bounded q.bounded (ap (drop 4) terms.1) in
    λ i. record { terms = terms.0 i; bound = bound i }

no_tail : (s p : Bool) (b c : ℤ) → tail s p b ≡ value_tail c → ⊥
no_tail true p b c e = let l : 0 ≡ length (codes " == " ++ signed_decimal c) = ap length e in omega (arith, l)
no_tail false true b c e = omega (arith, ap (λ v. get_or v 1 0) e)
no_tail false false b c e = omega (arith, ap (λ v. get_or v 1 0) e)

pub no_value : (fs : List Feature) (l : Literal) (a : Atom) → HaveNames fs → IsAtom (length fs) l.atom → IsAtom (length fs) a → literal_text fs l ≡ value_text fs a → ⊥
no_value fs l a named p q e =
    let s = is_switch fs l.atom.terms l.atom.bound in
    let x = tail s l.positive l.atom.bound in
    let y = value_tail a.bound in
    let split : bang (s && not l.positive) ++ (terms_text true fs l.atom.terms ++ x) ≡ bang false ++ (terms_text true fs a.terms ++ y) =
    sym (parts s l.positive (terms_text true fs l.atom.terms) l.atom.bound) ∙ e ∙ value_parts fs a in
    let fronts = one_front (s && not l.positive) false (terms_text true fs l.atom.terms ++ x) (terms_text true fs a.terms ++ y)
    (λ r. no_bang fs named l.atom.terms x r (shown fs l.atom p) p.positive) (λ r. no_bang fs named a.terms y r (shown fs a q) q.positive) split in
    let terms = first_terms fs named l.atom.terms a.terms x y (shown fs l.atom p) (shown fs a q) p.positive q.positive (tail_ends s l.positive l.atom.bound) (value_ends a.bound) fronts.1 in
    no_tail s l.positive l.atom.bound a.bound terms.1

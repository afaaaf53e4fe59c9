-- What is read so far, and how it goes on behind a line.
use Rattle.std.proofs.Common.{◌≡◌, ◌⊎◌, inl, inr, ℕ, zero, suc, ◌+◌, ◌-◌, ◌≤◌, ◌<◌, ◌==◌, ◌&&◌, nat_lt, Bool, true, false, cond, List, [], ◌∷◌, ◌++◌, length, map, Option, Some, None, Result, Ok, Err, refl, sym, ap, subst, ◌∙◌, append_assoc, arith}
use Rattle.std.proofs.lemmas.List.{append-nil, length-append, length-map}
use Rattle.std.proofs.lemmas.Bool.Decides.{nat_tests}
use Rattle.fam_outer.specs.declared.dialect.Dialect.{Dialect}
use Rattle.fam_outer.specs.declared.faults.Place.{Place}
use Rattle.fam_outer.specs.declared.faults.FileCode.{FileCode}
use Rattle.fam_outer.specs.declared.faults.FileCode.TheVariants.{NoEndif}
use Rattle.fam_outer.specs.Places.{place_at}
use Rattle.linear_atoms.specs.declared.atoms.Atom.{Atom}
use Rattle.cpp_conditions.specs.Macros.{Macros, among}
use Rattle.cpp_conditions.specs.Propositions.{Proposition}
use Rattle.cpp_conditions.specs.Validity.{Plain}
use Rattle.cpp_conditions.specs.View.{proposition}
use Rattle.cpp_lines.specs.declared.directives.Directive.{Directive}
use Rattle.cpp_lines.specs.declared.directives.Directive.TheVariants as named
use Rattle.cpp_lines.specs.declared.line.Line.{Line}
use Rattle.cpp_lines.specs.declared.sections.Reading.{Reading}
use Rattle.cpp_lines.specs.Defined.{names_in, names_of}
use Rattle.cpp_lines.specs.Lines.{line_place, pieces}
use Rattle.cpp_lines.specs.Nesting.{named_in, opens_section, ends_before, ends_of, opened_by}
use Rattle.cpp_lines.specs.Opens.{flags, first_after, first_of}
use Rattle.cpp_lines.specs.Sections as sections
use Rattle.cpp_lines.specs.Sections.{Told, AreRead, TextIsRead, HasFault, IsRead, line_at, in_front}
use Rattle.cpp_lines.specs.Taking.{meant, plain_names, macros_of, IsTaken, IsFaulty, IsFollowed, Takes, ReadsLines, earlier, is_short}
use Rattle.fam_outer.specs.declared.faults.FileRefusal.{FileRefusal}
use Rattle.fam_outer.specs.declared.faults.FileRefusal.TheVariants.{NoMemory, Fault}

-- ---- nesting: as many open sections are ended behind a line as before it

some_left : (n : ℕ) → suc zero ≤ n → (n == 0) ≡ false
some_left n h = grind (arith, nat_tests)

none_left : (n : ℕ) → n < 1 → (n == 0) ≡ true
none_left n h = grind (arith, nat_tests)

abbrev IsOn : Option Directive → List Bool → ℕ → Type 0
IsOn d opens n = (length opens ≤ ends_before d n) × ((opens_section d && (n == 0)) ≡ false)

opened_on : (opens : List Bool) (n : ℕ) → length (false ∷ opens) ≤ n → (length opens ≤ n - 1) × ((n == 0) ≡ false)
opened_on opens n h = (omega arith, some_left n (omega arith))

ended_on : (opens : List Bool) (n : ℕ) → length (opened_by (Some named.Endif) opens) ≤ n → length opens ≤ n + 1
ended_on [] n h = omega arith
ended_on (b ∷ opens) n h = omega arith

else_on : (opens : List Bool) (n : ℕ) → length (opened_by (Some named.Else) opens) ≤ n → length opens ≤ n
else_on [] n h = h
else_on (b ∷ opens) n h = h

pub nest_on : (d : Option Directive) (opens : List Bool) (n : ℕ) → length (opened_by d opens) ≤ n → IsOn d opens n
nest_on None opens n h = (h, refl)
nest_on (Some named.If) opens n h = opened_on opens n h
nest_on (Some named.Ifdef) opens n h = opened_on opens n h
nest_on (Some named.Ifndef) opens n h = opened_on opens n h
nest_on (Some named.Include) opens n h = (h, refl)
nest_on (Some named.OtherInclude) opens n h = (h, refl)
nest_on (Some named.Elif) opens n h = (h, refl)
nest_on (Some named.Else) opens n h = (else_on opens n h, refl)
nest_on (Some named.Endif) opens n h = (ended_on opens n h, refl)
nest_on (Some named.Define) opens n h = (h, refl)

abbrev IsOff : Option Directive → List Bool → ℕ → Type 0
IsOff d opens n = (ends_before d n < length opens) ⊎ ((opens ≡ []) × (opens_section d ≡ true) × ((opens_section d && (n == 0)) ≡ true))

opened_off : (opens : List Bool) (n : ℕ) → n < length (false ∷ opens) → (n - 1 < length opens) ⊎ ((opens ≡ []) × (true ≡ true) × ((n == 0) ≡ true))
opened_off [] n h = inr (refl, refl, none_left n (omega arith))
opened_off (b ∷ opens) n h = inl (omega arith)

ended_off : (opens : List Bool) (n : ℕ) → n < length (opened_by (Some named.Endif) opens) → n + 1 < length opens
ended_off [] n h = absurd (omega arith)
ended_off (b ∷ opens) n h = omega arith

else_off : (opens : List Bool) (n : ℕ) → n < length (opened_by (Some named.Else) opens) → n < length opens
else_off [] n h = h
else_off (b ∷ opens) n h = h

pub nest_off : (d : Option Directive) (opens : List Bool) (n : ℕ) → n < length (opened_by d opens) → IsOff d opens n
nest_off None opens n h = inl h
nest_off (Some named.If) opens n h = opened_off opens n h
nest_off (Some named.Ifdef) opens n h = opened_off opens n h
nest_off (Some named.Ifndef) opens n h = opened_off opens n h
nest_off (Some named.Include) opens n h = inl h
nest_off (Some named.OtherInclude) opens n h = inl h
nest_off (Some named.Elif) opens n h = inl h
nest_off (Some named.Else) opens n h = inl (else_off opens n h)
nest_off (Some named.Endif) opens n h = inl (ended_off opens n h)
nest_off (Some named.Define) opens n h = inl h

-- the outermost section stays the same while one is open
same_first : (d : Option Directive) (place : Place) (opens : List Bool) (first : Place) (n : ℕ) → n < length opens → first_after d place opens first ≡ first
same_first d place [] first n h = absurd (omega arith)
same_first d place (b ∷ opens) first n h = elim (opens_section d) as (λ t. cond t (first_of place (b ∷ opens) first) first ≡ first) [ true ↦ refl | false ↦ refl ]

new_first : (d : Option Directive) (place : Place) (opens : List Bool) (first : Place) → opens ≡ [] → opens_section d ≡ true → first_after d place opens first ≡ place
new_first d place opens first e t =
    ap (λ b. cond b (first_of place opens first) first) t ∙ ap (λ (os : List Bool). first_of place os first) e

-- ---- what is read so far

in_front_on : (xs ys : List Line) (ps qs : List (Proposition Atom)) (r : Result Told (FileCode × Place)) → in_front xs ps (in_front ys qs r) ≡ in_front (xs ++ ys) (ps ++ qs) r
in_front_on xs ys ps qs (Ok told) =
    ap (λ (ls : List Line). Ok (record { lines = ls; conditions = ps ++ (qs ++ told.conditions) })) (sym (append_assoc xs ys told.lines))
    ∙ ap (λ (cs : List (Proposition Atom)). Ok (record { lines = (xs ++ ys) ++ told.lines; conditions = cs })) (sym (append_assoc ps qs told.conditions))
in_front_on xs ys ps qs (Err fault) = refl

-- where as many sections are ended as are open, the text is read as what is read so far and then the rest; where fewer are, the
-- outermost open section has no end
pub record Stands (dialect : Dialect) (m : Plain) (text : List ℕ) (start : ℕ) (now : Reading) (lines : List (List ℕ)) : Type 0 where
  pub goes_on : (r : Result Told (FileCode × Place)) → length (flags now.opens) ≤ ends_of lines → AreRead dialect m text (plain_names now.above.items) (flags now.opens) (meant now) start lines r → TextIsRead dialect m text (in_front now.lines.items (meant now) r)
  pub defined : plain_names now.defined.items ≡ names_of (pieces text)
  pub unclosed : ends_of lines < length (flags now.opens) → TextIsRead dialect m text (Err (NoEndif, now.opens.first))

pub unclosed_on : (dialect : Dialect) (m : Plain) (text : List ℕ) (start : ℕ) (first : Place) (line : List ℕ) (lines : List (List ℕ)) (old new : Reading) → first ≡ place_at text start → Stands dialect m text start old (line ∷ lines)
    → IsFollowed (line_place first line) line old new → ends_of lines < length (flags new.opens) → TextIsRead dialect m text (Err (NoEndif, new.opens.first))
unclosed_on dialect m text start first line lines old new ef s f h =
    let k : ends_of lines < length (opened_by (named_in line) (flags old.opens)) = subst (λ (os : List Bool). ends_of lines < length os) f.opened h in
    elim (nest_off (named_in line) (flags old.opens) (ends_of lines) k) [
      | inl o ↦ subst (λ (p : Place). TextIsRead dialect m text (Err (NoEndif, p))) (sym (f.first ∙ same_first (named_in line) (line_place first line) (flags old.opens) old.opens.first (ends_of (line ∷ lines)) o)) (s.unclosed o)
      | inr o ↦ subst (λ (p : Place). TextIsRead dialect m text (Err (NoEndif, p)))
          (sym (f.first ∙ new_first (named_in line) (line_place first line) (flags old.opens) old.opens.first o.0 o.1 ∙ ap (λ (p : Place). line_place p line) ef))
          (s.goes_on (Err (NoEndif, line_place (place_at text start) line)) (subst (λ (os : List Bool). length os ≤ ends_of (line ∷ lines)) (sym o.0) (omega arith))
          (sections.unclosed (flags old.opens) (meant old) start line lines o.2))
    ]

goes_on_read : (dialect : Dialect) (m : Plain) (text : List ℕ) (start : ℕ) (first : Place) (line : List ℕ) (lines : List (List ℕ)) (old new : Reading) → first ≡ place_at text start → Stands dialect m text start old (line ∷ lines) → (t : IsTaken dialect m start first line old new)
    → (r : Result Told (FileCode × Place)) → length (flags new.opens) ≤ ends_of lines → AreRead dialect m text (plain_names new.above.items) (flags new.opens) (meant new) (start + length line + 1) lines r
    → TextIsRead dialect m text (in_front old.lines.items (meant old) (in_front (line_at (length (meant old)) start (place_at text start) line ∷ []) t.judged.conditions r))
goes_on_read dialect m text start first line lines old new ef s t r h k =
    let n = nest_on (named_in line) (flags old.opens) (ends_of lines) (subst (λ (os : List Bool). length os ≤ ends_of lines) t.followed.opened h) in
    s.goes_on (in_front (line_at (length (meant old)) start (place_at text start) line ∷ []) t.judged.conditions r) n.0
    (sections.goes_on (flags old.opens) (meant old) start line lines t.judged.conditions r n.1
    (subst (λ (file : List (List ℕ)). IsRead dialect (among dialect.unknown (plain_names old.above.items) file) m (flags old.opens) (meant old) line t.judged.conditions) s.defined t.judged.is_read)
    (subst (λ (os : List Bool). AreRead dialect m text (plain_names old.above.items ++ names_in line) os (meant old ++ t.judged.conditions) (start + length line + 1) lines r) t.followed.opened
    (subst (λ (above : List (List ℕ)). AreRead dialect m text above (flags new.opens) (meant old ++ t.judged.conditions) (start + length line + 1) lines r) t.named.above
    (subst (λ (ps : List (Proposition Atom)). AreRead dialect m text (plain_names new.above.items) (flags new.opens) ps (start + length line + 1) lines r) t.judged.meant_now k))))

pub stands_on : (dialect : Dialect) (m : Plain) (text : List ℕ) (start : ℕ) (first : Place) (line : List ℕ) (lines : List (List ℕ)) (old new : Reading) → first ≡ place_at text start → Stands dialect m text start old (line ∷ lines)
    → IsTaken dialect m start first line old new → Stands dialect m text (start + length line + 1) new lines
stands_on dialect m text start first line lines old new ef s t = record {
  goes_on = λ r h k. subst (λ (x : Result Told (FileCode × Place)). TextIsRead dialect m text x)
      (in_front_on old.lines.items (line_at (length (meant old)) start (place_at text start) line ∷ []) (meant old) t.judged.conditions r
      ∙ ap (λ (p : Place). in_front (old.lines.items ++ line_at (length (meant old)) start p line ∷ []) (meant old ++ t.judged.conditions) r) (sym ef)
      ∙ ap (λ (ls : List Line). in_front ls (meant old ++ t.judged.conditions) r) (sym t.lines)
      ∙ ap (λ (ps : List (Proposition Atom)). in_front new.lines.items ps r) (sym t.judged.meant_now))
      (goes_on_read dialect m text start first line lines old new ef s t r h k);
  defined = ap (λ (v : _). plain_names v.items) t.named.defined ∙ s.defined;
  unclosed = unclosed_on dialect m text start first line lines old new ef s t.followed;
}

-- a line with a fault
fault_on : (dialect : Dialect) (m : Plain) (text : List ℕ) (start : ℕ) (first : Place) (line : List ℕ) (lines : List (List ℕ)) (old new : Reading) (code : FileCode) (place : Place) → first ≡ place_at text start → Stands dialect m text start old (line ∷ lines)
    → IsFaulty dialect m first line old new code place → length (flags new.opens) ≤ ends_of lines → TextIsRead dialect m text (Err (code, place))
fault_on dialect m text start first line lines old new code place ef s f h =
    let n = nest_on (named_in line) (flags old.opens) (ends_of lines) (subst (λ (os : List Bool). length os ≤ ends_of lines) f.followed.opened h) in
    subst (λ (p : Place). TextIsRead dialect m text (Err (code, p))) (sym (f.place_is ∙ ap (λ (p : Place). line_place p line) ef))
    (s.goes_on (Err (code, line_place (place_at text start) line)) n.0 (sections.faulty (flags old.opens) (meant old) start line lines code n.1
    (subst (λ (file : List (List ℕ)). HasFault dialect (among dialect.unknown (plain_names old.above.items) file) m (flags old.opens) (meant old) line code) s.defined f.fault)))

fewer : (a b : ℕ) → nat_lt a b ≡ true → a < b
fewer a b e = grind (arith, nat_tests)

not_fewer : (a b : ℕ) → nat_lt a b ≡ false → b ≤ a
not_fewer a b e = grind (arith, nat_tests)

pub fault_read : (dialect : Dialect) (m : Plain) (text : List ℕ) (start : ℕ) (first : Place) (line : List ℕ) (lines : List (List ℕ)) (old new : Reading) (refusal : FileRefusal) → first ≡ place_at text start → Stands dialect m text start old (line ∷ lines)
    → Takes dialect m start first line old new (Err refusal) → ReadsLines dialect m text (Err (earlier refusal (is_short (ends_of lines) new.opens) new.opens.first))
fault_read dialect m text start first line lines old new NoMemory ef s f = tt
fault_read dialect m text start first line lines old new (Fault code place) ef s f =
    elim (nat_lt (ends_of lines) (length (flags new.opens))) as (λ t. nat_lt (ends_of lines) (length (flags new.opens)) ≡ t → ReadsLines dialect m text (Err (cond t (Fault NoEndif new.opens.first) (Fault code place)))) [
      | true ↦ λ e. unclosed_on dialect m text start first line lines old new ef s f.followed (fewer (ends_of lines) (length (flags new.opens)) e)
      | false ↦ λ e. fault_on dialect m text start first line lines old new code place ef s f (not_fewer (ends_of lines) (length (flags new.opens)) e)
    ] refl

one_at_most : (dialect : Dialect) (macros : Macros) (m : Plain) (opens : List Bool) (ps : List (Proposition Atom)) (line : List ℕ) (qs : List (Proposition Atom)) → IsRead dialect macros m opens ps line qs → length qs ≤ 1
one_at_most dialect macros m opens ps line [] (sections.untested f e) = omega arith
one_at_most dialect macros m opens ps line (q ∷ []) (sections.tested text p f e h k) = omega arith
one_at_most dialect macros m opens ps line (q ∷ (_ ∷ _)) x5 = elim x5 [ ]

-- at most one more condition
pub one_more_at_most : (dialect : Dialect) (m : Plain) (start : ℕ) (first : Place) (line : List ℕ) (old new : Reading) → IsTaken dialect m start first line old new → length new.conditions.items ≤ length old.conditions.items + 1
one_more_at_most dialect m start first line old new t =
    omega (
      arith,
      one_at_most dialect (macros_of dialect old) m (flags old.opens) (meant old) line t.judged.conditions t.judged.is_read,
      ap length t.judged.meant_now,
      length-append (meant old) t.judged.conditions,
      length-map new.conditions.items proposition,
      length-map old.conditions.items proposition,
    )

-- ---- the beginning and the end

nothing_in_front : (r : Result Told (FileCode × Place)) → in_front [] [] r ≡ r
nothing_in_front (Ok told) = refl
nothing_in_front (Err fault) = refl

pub begun : (dialect : Dialect) (m : Plain) (text : List ℕ) (now : Reading) (lines : List (List ℕ)) → now.lines.items ≡ [] → now.conditions.items ≡ [] → flags now.opens ≡ [] → now.above.items ≡ []
    → plain_names now.defined.items ≡ names_of (pieces text)
    → ((r : Result Told (FileCode × Place)) → AreRead dialect m text [] [] [] 0 lines r → TextIsRead dialect m text r) → Stands dialect m text 0 now lines
begun dialect m text now lines el ec eo ea named all =
    let em : meant now ≡ [] = ap (map proposition) ec in
    record {
      goes_on = λ r h k. subst (λ (x : Result Told (FileCode × Place)). TextIsRead dialect m text x)
          (sym (ap (λ (ls : List Line). in_front ls (meant now) r) el ∙ ap (λ (ps : List (Proposition Atom)). in_front [] ps r) em ∙ nothing_in_front r))
          (all r (subst (λ (above : List (List ℕ)). AreRead dialect m text above [] [] 0 lines r) (ap plain_names ea)
          (subst (λ (os : List Bool). AreRead dialect m text (plain_names now.above.items) os [] 0 lines r) eo
          (subst (λ (ps : List (Proposition Atom)). AreRead dialect m text (plain_names now.above.items) (flags now.opens) ps 0 lines r) em k))));
      defined = named;
      unclosed = λ h. absurd (let z : ends_of lines < 0 = subst (λ (os : List Bool). ends_of lines < length os) eo h in omega arith);
    }

pub ended : (dialect : Dialect) (m : Plain) (text : List ℕ) (start : ℕ) (now : Reading) → Stands dialect m text start now [] → length (flags now.opens) ≡ 0
    → TextIsRead dialect m text (Ok (record { lines = now.lines.items; conditions = meant now }))
ended dialect m text start now s e =
    subst (λ (x : Result Told (FileCode × Place)). TextIsRead dialect m text x)
    (ap (λ (ls : List Line). Ok (record { lines = ls; conditions = meant now ++ [] })) (append-nil now.lines.items)
    ∙ ap (λ (ps : List (Proposition Atom)). Ok (record { lines = now.lines.items; conditions = ps })) (append-nil (meant now)))
    (s.goes_on (Ok (record { lines = []; conditions = [] })) (omega arith) (sections.none (flags now.opens) (meant now) start))

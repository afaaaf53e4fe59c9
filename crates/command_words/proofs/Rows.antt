-- The rows of a command's matches, by their names.
use Rattle.std.proofs.Common.{◌≡◌, ◌∙◌, Bool, List, [], ◌∷◌, true, false, not, refl, sym, ap, cond, subst}
use Rattle.std.specs.Prelude.{Option, Some, None, find, fold, is_some}
use Rattle.std.specs.List.{list_all}
use Rattle.std.specs.Str.{bytes_eq}
use Rattle.std.proofs.lemmas.Bool.{and_parts, not-true}
use Rattle.std.proofs.lemmas.Slice.Eq.{bytes_eq-Decides}
use Rattle.clap.specs.Walk.{Row, Rule, Text, default_rows, has_row, reading_by, with_default, with_values, without}
use Rattle.clap.specs.declared.builder.value_parser.Reading.{Reading}
use Rattle.clap.specs.declared.parser.matches.ValueSource.{ValueSource}
use Rattle.clap.specs.declared.parser.matches.ValueSource.TheVariants.{DefaultValue}

-- the first row with the name
abbrev pub row_at : Text → List Row → Option Row
row_at id rows = find (λ r. bytes_eq r.id id) rows

-- a row with these values
abbrev pub new_row : Text → Reading → ValueSource → List Text → Row
new_row id how source values = record { id = id; values = values; count = None; source = Some source; reading = how }

pub has_row-is : (id : Text) (rows : List Row) → has_row id rows ≡ is_some (row_at id rows)
has_row-is id [] = refl
has_row-is id (r ∷ rs) = go (bytes_eq r.id id) refl (has_row-is id rs)
  where
    go : (b : Bool) → bytes_eq r.id id ≡ b → has_row id rs ≡ is_some (row_at id rs) → has_row id (r ∷ rs) ≡ is_some (row_at id (r ∷ rs))
    go true e rest = rw e refl
    go false e rest = rw e rest

pub has_none : (id : Text) (rows : List Row) → has_row id rows ≡ false → row_at id rows ≡ None
has_none id rows e = go (row_at id rows) refl
  where
    go : (o : Option Row) → row_at id rows ≡ o → o ≡ None
    go None h = refl
    go (Some r) h = let no : true ≡ false = ap is_some (sym h) ∙ sym (has_row-is id rows) ∙ e in absurd cc

-- ---- names

same_name : (a : Text) → bytes_eq a a ≡ true
same_name a = (bytes_eq-Decides a a).1 refl

-- a name that is one of two is not the other
apart : (a other id : Text) → bytes_eq a other ≡ true → bytes_eq other id ≡ false → bytes_eq a id ≡ false
apart a other id e d = subst (λ (t : Text). bytes_eq t id ≡ false) (sym ((bytes_eq-Decides a other).0 e)) d

pub other_way : (a b : Text) → bytes_eq a b ≡ false → bytes_eq b a ≡ false
other_way a b d = go (bytes_eq b a) refl
  where
    go : (t : Bool) → bytes_eq b a ≡ t → t ≡ false
    go false e = refl
    go true e = let no : true ≡ false = sym (same_name b) ∙ apart b a b e d in absurd cc

-- ---- rows of one name, where another's change

without_other : (id other : Text) (rows : List Row) → bytes_eq other id ≡ false → row_at id (without other rows) ≡ row_at id rows
without_other id other [] d = refl
without_other id other (r ∷ rs) d = go (bytes_eq r.id other) refl (without_other id other rs d)
  where
    go : (b : Bool) → bytes_eq r.id other ≡ b → row_at id (without other rs) ≡ row_at id rs → row_at id (without other (r ∷ rs)) ≡ row_at id (r ∷ rs)
    go true e rest = rw (e, apart r.id other id e d) refl
    go false e rest = rw e (ap (cond (bytes_eq r.id id) (Some r)) rest)

with_other : (id other : Text) (how : Reading) (source : ValueSource) (values : List Text) (rows : List Row) → bytes_eq other id ≡ false
    → row_at id (with_values other how source values rows) ≡ row_at id rows
with_other id other how source values [] d = rw d refl
with_other id other how source values (r ∷ rs) d = go (bytes_eq r.id other) refl (with_other id other how source values rs d)
  where
    go : (b : Bool) → bytes_eq r.id other ≡ b → row_at id (with_values other how source values rs) ≡ row_at id rs
        → row_at id (with_values other how source values (r ∷ rs)) ≡ row_at id (r ∷ rs)
    go true e rest = rw (e, apart r.id other id e d) refl
    go false e rest = rw e (ap (cond (bytes_eq r.id id) (Some r)) rest)

-- an option's use is its only one
pub set_other : (id other : Text) (how : Reading) (source : ValueSource) (values : List Text) (rows : List Row) → bytes_eq other id ≡ false
    → row_at id (with_values other how source values (without other rows)) ≡ row_at id rows
set_other id other how source values rows d = with_other id other how source values (without other rows) d ∙ without_other id other rows d

-- ---- rows of a name that had none

without_own : (id : Text) (rows : List Row) → row_at id rows ≡ None → row_at id (without id rows) ≡ None
without_own id [] h = refl
without_own id (r ∷ rs) h = go (bytes_eq r.id id) refl (λ e. without_own id rs e)
  where
    go : (b : Bool) → bytes_eq r.id id ≡ b → (row_at id rs ≡ None → row_at id (without id rs) ≡ None) → row_at id (without id (r ∷ rs)) ≡ None
    go true e rest = let no : Some r ≡ None = rw e at h in absurd cc
    go false e rest = let none : row_at id rs ≡ None = rw e at h in rw (e, e) (rest none)

with_own : (id : Text) (how : Reading) (source : ValueSource) (values : List Text) (rows : List Row) → row_at id rows ≡ None
    → row_at id (with_values id how source values rows) ≡ Some (new_row id how source values)
with_own id how source values [] h = rw (same_name id) refl
with_own id how source values (r ∷ rs) h = go (bytes_eq r.id id) refl (λ e. with_own id how source values rs e)
  where
    go : (b : Bool) → bytes_eq r.id id ≡ b → (row_at id rs ≡ None → row_at id (with_values id how source values rs) ≡ Some (new_row id how source values))
        → row_at id (with_values id how source values (r ∷ rs)) ≡ Some (new_row id how source values)
    go true e rest = let no : Some r ≡ None = rw e at h in absurd cc
    go false e rest = let none : row_at id rs ≡ None = rw e at h in rw (e, e) (rest none)

pub set_own : (id : Text) (how : Reading) (source : ValueSource) (values : List Text) (rows : List Row) → row_at id rows ≡ None
    → row_at id (with_values id how source values (without id rows)) ≡ Some (new_row id how source values)
set_own id how source values rows h = with_own id how source values (without id rows) (without_own id rows h)

-- ---- defaults

defaults_other : (id other : Text) (how : Reading) (values : List Text) (rows : List Row) → bytes_eq other id ≡ false
    → row_at id (default_rows other how values rows) ≡ row_at id rows
defaults_other id other how [] rows d = refl
defaults_other id other how (v ∷ vs) rows d = with_other id other how DefaultValue (v ∷ vs) rows d

pub default_other : (id : Text) (a : Rule) (rows : List Row) → bytes_eq a.id id ≡ false → row_at id (with_default rows a) ≡ row_at id rows
default_other id a rows d = go (has_row a.id rows) refl
  where
    go : (b : Bool) → has_row a.id rows ≡ b → row_at id (with_default rows a) ≡ row_at id rows
    go true e = rw e refl
    go false e = rw e (defaults_other id a.id (reading_by a) a.defaults rows d)

-- a row that is there stays
pub default_kept : (a : Rule) (rows : List Row) (r : Row) → row_at a.id rows ≡ Some r → row_at a.id (with_default rows a) ≡ Some r
default_kept a rows r h = rw (has_row-is a.id rows ∙ ap is_some h) h

-- where there is none, the default's comes
pub default_new : (a : Rule) (v : Text) (rows : List Row) → a.defaults ≡ v ∷ [] → row_at a.id rows ≡ None
    → row_at a.id (with_default rows a) ≡ Some (new_row a.id (reading_by a) DefaultValue (v ∷ []))
default_new a v rows e h = rw (has_row-is a.id rows ∙ ap is_some h, e) (with_own a.id (reading_by a) DefaultValue (v ∷ []) rows h)

pub all_other : (id : Text) (rules : List Rule) (rows : List Row) → list_all (λ a. not (bytes_eq a.id id)) rules ≡ true
    → row_at id (fold with_default rows rules) ≡ row_at id rows
all_other id [] rows e = refl
all_other id (a ∷ rules) rows e =
    let p = and_parts (not (bytes_eq a.id id)) (list_all (λ a. not (bytes_eq a.id id)) rules) e in
    all_other id rules (with_default rows a) p.1 ∙ default_other id a rows (not-true _ p.0)

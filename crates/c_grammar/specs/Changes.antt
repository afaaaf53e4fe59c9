-- Which names a list of items changes (ISO/IEC 9899:2011, 6.5.2.4, 6.5.3.1 and 6.5.16), and what is known of names behind items.
use Rattle.std.specs.Prelude.{◌≡◌, ℕ, Bool, true, false, List, Option, Some, None}
use Rattle.fam_outer.specs.declared.faults.Place.{Place}
use Rattle.c_grammar.specs.declared.constants.NameKind.TheVariants as kinds
use Rattle.c_grammar.specs.declared.constants.Track.{Track}
use Rattle.c_grammar.specs.declared.items.Item.{Item}
use Rattle.c_grammar.specs.declared.items.Sign.{Sign}
use Rattle.c_grammar.specs.declared.items.Sign.TheVariants as signs
use Rattle.c_grammar.specs.Constants.{kind_after, last_from}
use Rattle.c_grammar.specs.Locals.{open_behind}
use Rattle.c_grammar.specs.Scopes.{is_static_behind}

-- behind a name the sign changes it
abbrev pub is_change : Sign → Bool
is_change signs.Equals = true
is_change signs.PlusEquals = true
is_change signs.MinusEquals = true
is_change signs.StarEquals = true
is_change signs.SlashEquals = true
is_change signs.PercentEquals = true
is_change signs.PlusPlus = true
is_change signs.MinusMinus = true
is_change _ = false

-- the name with its place, where it is changed
abbrev pub name_at : Bool → Sign → Place → Option (ℕ × Place)
name_at true (signs.Name x) p = Some (x, p)
name_at _ s p = None

-- the name that two items change, the first of which has this place and sign
abbrev pub changed_from : Place → Sign → Item → Option (ℕ × Place)
changed_from p signs.PlusPlus y = name_at true y.sign y.place
changed_from p signs.MinusMinus y = name_at true y.sign y.place
changed_from p s y = name_at (is_change y.sign) s p

abbrev pub changed_behind : Option Item → Item → Option (ℕ × Place)
changed_behind None y = None
changed_behind (Some x) y = changed_from x.place x.sign y

-- in a declarator nothing is changed: its `=` begins an initialiser
abbrev pub changed_outside : Option ℕ → Option Item → Item → Option (ℕ × Place)
changed_outside None last x = changed_behind last x
changed_outside (Some opened) last x = None

-- the name that an item changes together with the last one of those before it
abbrev pub changed_at : List Item → Item → Option (ℕ × Place)
changed_at before x = changed_outside (open_behind before) (last_from None before) x

-- what is known of names behind these items
pub record IsTrack (before : List Item) (track : Track) : Type 0 where
  pub last : track.last ≡ last_from None before
  pub kind : track.kind ≡ kind_after kinds.Variable before
  pub opened : track.opened ≡ open_behind before
  pub static : track.is_static ≡ is_static_behind before

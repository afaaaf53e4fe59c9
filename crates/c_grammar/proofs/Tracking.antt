-- What is known of names behind one item more.
use Rattle.std.proofs.Common.{◌≡◌, ℕ, Bool, false, List, [], ◌∷◌, ◌++◌, Option, Some, None, refl, sym, ap, ◌∙◌}
use Rattle.c_grammar.specs.declared.constants.NameKind.{NameKind}
use Rattle.c_grammar.specs.declared.constants.NameKind.TheVariants as kinds
use Rattle.c_grammar.specs.declared.constants.Track.{Track}
use Rattle.c_grammar.specs.declared.items.Item.{Item}
use Rattle.c_grammar.specs.Constants.{kind_behind, kind_after, last_from}
use Rattle.c_grammar.specs.Functions.{has_sign}
use Rattle.c_grammar.specs.Locals.{is_declaring, declares_behind, opened_by, open_from, open_behind}
use Rattle.c_grammar.specs.Scopes.{static_after}
use Rattle.c_grammar.specs.Statics.{static_behind}
use Rattle.c_grammar.specs.Changes.{IsTrack}

last_more : (last : Option Item) (before : List Item) (x : Item) → last_from last (before ++ x ∷ []) ≡ Some x
last_more last [] x = refl
last_more last (y ∷ ys) x = last_more (Some y) ys x

after_more : (kind : NameKind) (before : List Item) (x : Item) → kind_after kind (before ++ x ∷ []) ≡ kind_behind (kind_after kind before) x.sign
after_more kind [] x = refl
after_more kind (y ∷ ys) x = after_more (kind_behind kind y.sign) ys x

open_more : (last : Option Item) (opened : Option ℕ) (before : List Item) (x : Item)
    → open_from (has_sign is_declaring last) opened (before ++ x ∷ []) ≡ opened_by (has_sign is_declaring (last_from last before)) (open_from (has_sign is_declaring last) opened before) x.sign
open_more last opened [] x = refl
open_more last opened (y ∷ ys) x = open_more (Some y) (opened_by (has_sign is_declaring last) opened y.sign) ys x

static_more : (static : Bool) (before : List Item) (x : Item) → static_after static (before ++ x ∷ []) ≡ static_behind (static_after static before) x.sign
static_more static [] x = refl
static_more static (y ∷ ys) x = static_more (static_behind static y.sign) ys x

-- what follows an item opens, where this stands behind a sign that declares or not
opened_more : (before : List Item) (x : Item) (old : Track) (declares : Bool) → IsTrack before old → declares ≡ declares_behind before → opened_by declares old.opened x.sign ≡ open_behind (before ++ x ∷ [])
opened_more before x old declares h d =
    ap (λ (b : Bool). opened_by b old.opened x.sign) d ∙ ap (λ (o : Option ℕ). opened_by (declares_behind before) o x.sign) h.opened ∙ sym (open_more None None before x)

pub track_more : (before : List Item) (x : Item) (old new : Track) (declares : Bool) → IsTrack before old → declares ≡ declares_behind before
    → new.last ≡ Some x → new.kind ≡ kind_behind old.kind x.sign → new.opened ≡ opened_by declares old.opened x.sign → new.is_static ≡ static_behind old.is_static x.sign → IsTrack (before ++ x ∷ []) new
track_more before x old new declares h d last kind opened static = record {
  last = last ∙ sym (last_more None before x);
  kind = kind ∙ ap (λ (k : NameKind). kind_behind k x.sign) h.kind ∙ sym (after_more kinds.Variable before x);
  opened = opened ∙ opened_more before x old declares h d;
  static = static ∙ ap (λ (b : Bool). static_behind b x.sign) h.static ∙ sym (static_more false before x);
}

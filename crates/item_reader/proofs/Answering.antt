-- What the reading comes to, by the laws of the grammar.
use Rattle.std.proofs.Common.{◌≡◌, ◌≤◌, ℕ, false, List, [], ◌∷◌, length, Ok, Err, subst, sym}
use Rattle.c_tree.specs.Tree.{Whole}
use Rattle.c_tree.specs.Whole.{IsProgram, IsPlainProgram}
use Rattle.c_grammar.specs.declared.items.Item.{Item}
use Rattle.c_grammar.specs.declared.items.Sign.{Sign}
use Rattle.c_grammar.specs.declared.items.Sign.TheVariants as signs
use Rattle.c_grammar.specs.Facts.{AreFit, IsFit, AreRising, WellFormed, PlainWithoutGroups}
use Rattle.c_grammar.specs.Grammar.{File, has_groups, whole_of}
use Rattle.c_grammar.specs.Within.{SpellsWithin, WithinIsFile}
use Rattle.c_grammar.specs.Laws.{ReadsWithin, StopsWrong, StopsDeep}
use Rattle.c_grammar.specs.Machine.{start}
use Rattle.c_grammar.specs.Deep.{guarded}
use Rattle.c_tree.specs.declared.tree.Program.{Program}
use Rattle.item_reader.specs.declared.unread.Unread.{Unread}
use Rattle.item_reader.specs.declared.unread.Unread.TheVariants as unread
use Rattle.fam_outer.specs.declared.refusal.Refusal.{Refusal}
use Rattle.fam_outer.specs.declared.refusal.Refusal.TheVariants as refusal
use Rattle.item_reader.specs.Reading.{IsDeepAt, IsWrongAt, OnDeep, OnWrong}
use Rattle.reading_states.specs.Signs.{IsUnsigned, AreUnsigned}
use Rattle.item_reader.specs.Taking.{AreItemsRead}

unsigned_sign : (count : ℕ) (s : Sign) → IsFit count s → IsUnsigned s
unsigned_sign count (signs.Number n) h = h.0
unsigned_sign count _ h = tt

-- numbers that an `int` literal has are not negative
pub unsigned_items : (count : ℕ) (items : List Item) → AreFit count items → AreUnsigned items
unsigned_items count [] h = tt
unsigned_items count (x ∷ w) h = (unsigned_sign count x.sign h.0, unsigned_items count w h.1)

-- the program of the file that was read
pub spelled : ReadsWithin → (names : List (List ℕ)) (items : List Item) (f : File) (p : Whole) → guarded start 0 items ≡ Ok f → p ≡ whole_of names items f → SpellsWithin names p items
spelled law names items f p reads is = record { file = f; forms = (law items f).0 reads; is = is }

pub formed : WellFormed → (names : List (List ℕ)) (items : List Item) (p : Whole) → length names ≤ 48 → AreFit (length names) items → AreRising items → SpellsWithin names p items → IsProgram p
formed law names items p few fit rising s = subst IsProgram (sym s.is) (law names items s.file few fit rising s.forms)

pub plain : PlainWithoutGroups → WithinIsFile → (names : List (List ℕ)) (items : List Item) (p : Whole) → SpellsWithin names p items → has_groups items ≡ false → IsPlainProgram p
plain law is_file names items p s none = let t = is_file names items p s in subst IsPlainProgram (sym t.is) (law names items t.file none t.forms)

-- what is refused as wrong
pub wrong_there : StopsWrong → (e : Refusal Unread) (items : List Item) → AreItemsRead items (Err e) → OnWrong {X = Program} (Err e) (IsWrongAt items)
wrong_there law refusal.NoMemory items r = tt
wrong_there law (refusal.Fault (unread.Wrong n)) items r = let w = (law items r.left).0 r.stops in record { left = r.left; position = r.position; wrong = w.0; shallow = w.1 }
wrong_there law (refusal.Fault (unread.Deep n)) items r = tt

-- what is refused as too deep
pub deep_there : StopsDeep → (e : Refusal Unread) (items : List Item) → AreItemsRead items (Err e) → OnDeep {X = Program} (Err e) (IsDeepAt items)
deep_there law refusal.NoMemory items r = tt
deep_there law (refusal.Fault (unread.Wrong n)) items r = tt
deep_there law (refusal.Fault (unread.Deep n)) items r = record { left = r.left; position = r.position; deep = (law items r.left).0 r.stops }

-- What is read is spelled: definitions.
use Rattle.std.proofs.Common.{ℕ, ℤ, List, [], ◌∷◌, ◌++◌, subst, append_assoc}
use Rattle.std.specs.Prelude.{IfSome}
use Rattle.fam_outer.specs.declared.faults.Place.{Place}
use Rattle.c_tree.specs.declared.tree.Op.TheVariants.{Sub}
use Rattle.c_tree.specs.declared.lists.Declared.{Declared}
use Rattle.c_grammar.specs.declared.items.Sign.{Sign}
use Rattle.c_grammar.specs.declared.items.Sign.TheVariants as signs
use Rattle.c_grammar.specs.declared.items.Item.{Item}
use Rattle.c_grammar.specs.Grammar.{at, Defines, defined, negative_defined, enclosed, negative_enclosed, declared, definition, File}
use Rattle.c_grammar.specs.Machine.{Sections, guards_of, AfterDefine, Defining, NegativeDefining, Enclosing, NegativeEnclosing, Enclosed, with_declared, at_close, after_define, defined_as, defining, negative_defining, enclosing, negative_enclosing}
use Rattle.c_grammar.proofs.Standing.{Tail, Stands}
use Rattle.c_grammar.proofs.SoundFiles.{moves, prepends}

-- a definition in front of the rest of a file
definition_tail : {us : List Item} {x : ℕ} {n : ℤ} (secs : Sections) (ds : List Declared) (w : List Item) (f : File) → Defines us x n → Tail secs (with_declared secs ds x n) w f → Tail secs ds (us ++ w) f
definition_tail {us} {x} {n} secs ds w f o t = prepends secs ds (declared x n (guards_of secs) ∷ []) us w f (λ ws fs d. definition (guards_of secs) o d) t

pub define_keeps : (secs : Sections) (ds : List Declared) (p : Place) (s : Sign) (a : List Item) → Stands (AfterDefine secs ds) a → IfSome (after_define secs ds s) (λ next. Stands next (a ++ at p s ∷ []))
define_keeps secs ds p (signs.Name x) a r = λ w f k. moves a (at p (signs.Name x)) w (r (at p (signs.Name x) ∷ w) f (λ q. k q p))
define_keeps secs ds p _ a r = tt

pub defining_keeps : (x : ℕ) (secs : Sections) (ds : List Declared) (p : Place) (s : Sign) (a : List Item) → Stands (Defining x secs ds) a → IfSome (defining x secs ds s) (λ next. Stands next (a ++ at p s ∷ []))
defining_keeps x secs ds p (signs.Number n) a r = λ w f t. moves a (at p (signs.Number n)) w (r (at p (signs.Number n) ∷ w) f (λ q y. definition_tail secs ds w f (defined q y p x n) t))
defining_keeps x secs ds p (signs.Oper Sub) a r = λ w f k. moves a (at p (signs.Oper Sub)) w (r (at p (signs.Oper Sub) ∷ w) f (λ q y. k q y p))
defining_keeps x secs ds p signs.Open a r = λ w f k. moves a (at p signs.Open) w (r (at p signs.Open ∷ w) f (λ q y. k q y p))
defining_keeps x secs ds p _ a r = tt

pub negative_defining_keeps : (x : ℕ) (secs : Sections) (ds : List Declared) (p : Place) (s : Sign) (a : List Item) → Stands (NegativeDefining x secs ds) a → IfSome (negative_defining x secs ds s) (λ next. Stands next (a ++ at p s ∷ []))
negative_defining_keeps x secs ds p (signs.Number n) a r = λ w f t. moves a (at p (signs.Number n)) w (r (at p (signs.Number n) ∷ w) f (λ q y z. definition_tail secs ds w f (negative_defined q y z p x n) t))
negative_defining_keeps x secs ds p _ a r = tt

pub enclosing_keeps : (x : ℕ) (secs : Sections) (ds : List Declared) (p : Place) (s : Sign) (a : List Item) → Stands (Enclosing x secs ds) a → IfSome (enclosing x secs ds s) (λ next. Stands next (a ++ at p s ∷ []))
enclosing_keeps x secs ds p (signs.Number n) a r = λ w f k. moves a (at p (signs.Number n)) w (r (at p (signs.Number n) ∷ w) f (λ q y z. k (at q signs.Define ∷ at y (signs.Name x) ∷ at z signs.Open ∷ at p (signs.Number n) ∷ []) (λ u. enclosed q y z p u x n)))
enclosing_keeps x secs ds p (signs.Oper Sub) a r = λ w f k. moves a (at p (signs.Oper Sub)) w (r (at p (signs.Oper Sub) ∷ w) f (λ q y z. k q y z p))
enclosing_keeps x secs ds p _ a r = tt

pub negative_enclosing_keeps : (x : ℕ) (secs : Sections) (ds : List Declared) (p : Place) (s : Sign) (a : List Item) → Stands (NegativeEnclosing x secs ds) a → IfSome (negative_enclosing x secs ds s) (λ next. Stands next (a ++ at p s ∷ []))
negative_enclosing_keeps x secs ds p (signs.Number n) a r = λ w f k.
    moves a (at p (signs.Number n)) w (r (at p (signs.Number n) ∷ w) f (λ q y z v. k (at q signs.Define ∷ at y (signs.Name x) ∷ at z signs.Open ∷ at v (signs.Oper Sub) ∷ at p (signs.Number n) ∷ []) (λ u. negative_enclosed q y z v p u x n)))
negative_enclosing_keeps x secs ds p _ a r = tt

pub enclosed_keeps : (x : ℕ) (n : ℤ) (secs : Sections) (ds : List Declared) (p : Place) (s : Sign) (a : List Item) → Stands (Enclosed x n secs ds) a → IfSome (at_close (defined_as x n secs ds) s) (λ next. Stands next (a ++ at p s ∷ []))
enclosed_keeps x n secs ds p signs.Close a r = λ w f t.
    moves a (at p signs.Close) w (r (at p signs.Close ∷ w) f (λ us o. subst (λ (y : List Item). Tail secs ds y f) (append_assoc us (at p signs.Close ∷ []) w) (definition_tail secs ds w f (o p) t)))
enclosed_keeps x n secs ds p _ a r = tt

-- Arithmetic operators on operands that have linear forms, and their values at a store.
use Rattle.std.specs.Prelude.{◌≡◌, ℕ, ℤ, negsuc, Bool, true, false, List, Option, Some, None, IfSome}
use Rattle.c_tree.specs.declared.tree.Op.{Op}
use Rattle.c_tree.specs.declared.tree.Op.TheVariants.{Div, Rem}
use Rattle.c_tree.specs.Value.{least, IsInt}
use Rattle.leaf_domain.specs.declared.form.Form.{Form}
use Rattle.leaf_domain.specs.declared.operation.Operation.{Operation}
use Rattle.leaf_domain.specs.Ranges.{exact}
use Rattle.leaf_domain.specs.Forms.{IsForm, form_at}

-- both operands are forms over so many variables
pub record IsOperation (count : ℕ) (p : Operation) : Type 0 where
  pub left : IsForm count p.left
  pub right : IsForm count p.right

-- an operation over so many variables, where there is one
abbrev pub HasOperation : ℕ → Option Operation → Type 0
HasOperation count p = IfSome p (IsOperation count)

-- The number that the operator gives at a store, where the operands lie within `int`. The remainder of MIN by -1 is a stop.
pub record Operates (p : Operation) (s : List ℤ) (n : ℤ) : Type 0 where
  pub left : IsInt (form_at p.left s)
  pub right : IsInt (form_at p.right s)
  pub is : exact p.op (form_at p.left s) (form_at p.right s) ≡ Some n
  pub rem_is : p.op ≡ Rem → form_at p.left s ≡ least → form_at p.right s ≡ negsuc 0 → ⊥

-- the operator with the forms of its operands, where it counts and there are both
abbrev pub operation_where : Bool → Op → Option Form → Option Form → Option Operation
operation_where true op (Some f) (Some g) = Some (record { op = op; left = f; right = g })
operation_where counts op f g = None

-- the operation, where it counts
abbrev pub operation_if : Bool → Option Operation → Option Operation
operation_if counts None = None
operation_if true (Some p) = Some p
operation_if false (Some p) = None

-- a quotient or a remainder has the value of its operation, and a sum, a difference or a product where it fits
abbrev pub kept_operation : Op → Bool → Option Operation → Option Operation
kept_operation Div fits p = p
kept_operation Rem fits p = p
kept_operation op fits p = operation_if fits p

-- What the definitions of transfer and of stops say of a leaf that is Nothing.
use Rattle.std.proofs.Common.{◌≡◌, ℕ, ℤ, Bool, true, false, not, ◌&&◌, if◌then◌else◌, List, Option, Some, None, refl, ap, ◌∙◌}
use Rattle.c_tree.specs.declared.tree.Kind.{Kind}
use Rattle.c_tree.specs.declared.tree.Kind.TheVariants.{Overflow, ZeroDivisor, Assertion}
use Rattle.c_tree.specs.declared.tree.Mode.{Mode}
use Rattle.c_tree.specs.declared.tree.Op.TheVariants.{Add, Sub, Mul, Div, Rem, Lt, Le, Gt, Ge, Eq, Ne, And, Or}
use Rattle.c_tree.specs.Tree.{Term, Number, Var, Neg, Not, Binary, Jump, Break, Continue, Return, Done, Assign, Input, Assert, If, While, Do, Leave, Block, Skip, Cond}
use Rattle.leaf_domain.specs.declared.range.Range.{Range}
use Rattle.leaf_domain.specs.Ranges.{empty_range}
use Rattle.leaf_domain.specs.Leaves.{LeafValue, LeafMeaning, nothing_of, is_nothing_of}
use Rattle.leaf_domain.specs.Transfer.{transfer, where_some, range_where_some, range_of_sides, truth_range, range_of_term, assumed}
use Rattle.leaf_domain.specs.Stops.{unless_nothing, is_of_value, may_term}
use Rattle.leaf_domain.specs.Soundness.{NothingStops}

-- a leaf without a list is Nothing
pub nothing_is : (n : ℕ) (c : Option (List ℤ)) → is_nothing_of (record { variables = n; content = c }) ≡ true → record { variables = n; content = c } ≡ nothing_of n
nothing_is n None e = refl
nothing_is n (Some ns) e = cc

-- ---- sides and ranges

where_nothing : (v w : LeafValue) → is_nothing_of v ≡ true → where_some v w ≡ v
where_nothing v w e = ap (λ t. if t then v else w) e

range_where_nothing : (v : LeafValue) (r : Range) → is_nothing_of v ≡ true → range_where_some v r ≡ empty_range
range_where_nothing v r e = ap (λ t. if t then empty_range else r) e

sides_nothing : (v u w : LeafValue) → is_nothing_of v ≡ true → range_of_sides (where_some v u) (where_some v w) ≡ empty_range
sides_nothing v u w e =
    ap (λ x. range_of_sides x (where_some v w)) (where_nothing v u e) ∙ ap (λ x. range_of_sides v x) (where_nothing v w e)
    ∙ ap (λ t. truth_range (not t) (not t)) e

pub range_of_nothing : (M : LeafMeaning) (mode : Mode) (e : Term) (v : LeafValue) → is_nothing_of v ≡ true → range_of_term M mode e v ≡ empty_range
range_of_nothing M mode (Number n) v h = range_where_nothing v _ h
range_of_nothing M mode (Var x) v h = range_where_nothing v _ h
range_of_nothing M mode (Neg a) v h = range_where_nothing v _ h
range_of_nothing M mode (Not a) v h = sides_nothing v _ _ h
range_of_nothing M mode (Binary Add a b) v h = range_where_nothing v _ h
range_of_nothing M mode (Binary Sub a b) v h = range_where_nothing v _ h
range_of_nothing M mode (Binary Mul a b) v h = range_where_nothing v _ h
range_of_nothing M mode (Binary Div a b) v h = range_where_nothing v _ h
range_of_nothing M mode (Binary Rem a b) v h = range_where_nothing v _ h
range_of_nothing M mode (Binary Lt a b) v h = sides_nothing v _ _ h
range_of_nothing M mode (Binary Le a b) v h = sides_nothing v _ _ h
range_of_nothing M mode (Binary Gt a b) v h = sides_nothing v _ _ h
range_of_nothing M mode (Binary Ge a b) v h = sides_nothing v _ _ h
range_of_nothing M mode (Binary Eq a b) v h = sides_nothing v _ _ h
range_of_nothing M mode (Binary Ne a b) v h = sides_nothing v _ _ h
range_of_nothing M mode (Binary And a b) v h = sides_nothing v _ _ h
range_of_nothing M mode (Binary Or a b) v h = sides_nothing v _ _ h

-- both sides of a test are the leaf
pub sides_of_nothing : (M : LeafMeaning) (mode : Mode) (e : Term) (v : LeafValue) → is_nothing_of v ≡ true → ((transfer M mode e).when_true v ≡ v) × ((transfer M mode e).when_false v ≡ v)
sides_of_nothing M mode (Number n) v h = (where_nothing v _ h, where_nothing v _ h)
sides_of_nothing M mode (Var x) v h = (where_nothing v _ h, where_nothing v _ h)
sides_of_nothing M mode (Neg a) v h = (where_nothing v _ h, where_nothing v _ h)
sides_of_nothing M mode (Not a) v h = (where_nothing v _ h, where_nothing v _ h)
sides_of_nothing M mode (Binary Add a b) v h = (where_nothing v _ h, where_nothing v _ h)
sides_of_nothing M mode (Binary op a b) v h = (where_nothing v _ h, where_nothing v _ h)

pub assumed_of_nothing : (M : LeafMeaning) (mode : Mode) (e : Term) (want : Bool) (v : LeafValue) → is_nothing_of v ≡ true → assumed M mode e want v ≡ v
assumed_of_nothing M mode e true v h = (sides_of_nothing M mode e v h).0
assumed_of_nothing M mode e false v h = (sides_of_nothing M mode e v h).1

-- ---- stops

at_nothing : (v : LeafValue) (b : Bool) → is_nothing_of v ≡ true → unless_nothing v b ≡ false
at_nothing v b h = ap (λ t. if t then false else b) h

pub no_stop_at_nothing : (M : LeafMeaning) (mode : Mode) (kind : Kind) (e : Term) (v : LeafValue) → is_nothing_of v ≡ true → may_term M mode kind e v ≡ false
no_stop_at_nothing M mode kind (Number n) v h = refl
no_stop_at_nothing M mode kind (Var x) v h = refl
no_stop_at_nothing M mode kind (Neg a) v h = at_nothing v _ h
no_stop_at_nothing M mode kind (Not a) v h = at_nothing v _ h
no_stop_at_nothing M mode kind (Binary Add a b) v h = at_nothing v _ h
no_stop_at_nothing M mode kind (Binary op a b) v h = at_nothing v _ h

no_value_stop : (M : LeafMeaning) (mode : Mode) (kind : Kind) (e : Term) (v : LeafValue) → is_nothing_of v ≡ true → (is_of_value kind && may_term M mode kind e v) ≡ false
no_value_stop M mode Overflow e v h = no_stop_at_nothing M mode Overflow e v h
no_value_stop M mode ZeroDivisor e v h = no_stop_at_nothing M mode ZeroDivisor e v h
no_value_stop M mode Assertion e v h = refl

pub nothing_stops : (M : LeafMeaning) (mode : Mode) → NothingStops M mode
nothing_stops M mode kind Done v h = refl
nothing_stops M mode kind (Assign place x e rest) v h = no_value_stop M mode kind e v h
nothing_stops M mode kind (Input place x rest) v h = refl
nothing_stops M mode Overflow (Assert place e rest) v h = no_stop_at_nothing M mode Overflow e v h
nothing_stops M mode ZeroDivisor (Assert place e rest) v h = no_stop_at_nothing M mode ZeroDivisor e v h
nothing_stops M mode Assertion (Assert place e rest) v h = at_nothing v _ h
nothing_stops M mode kind (If place e p q rest) v h = no_value_stop M mode kind e v h
nothing_stops M mode kind (While place e step body rest) v h = no_value_stop M mode kind e v h
nothing_stops M mode kind (Do place body at e rest) v h = refl
nothing_stops M mode kind (Leave place Break rest) v h = refl
nothing_stops M mode kind (Leave place Continue rest) v h = refl
nothing_stops M mode kind (Leave place (Return e) rest) v h = no_value_stop M mode kind e v h
nothing_stops M mode kind (Block place body rest) v h = refl
nothing_stops M mode kind (Skip place rest) v h = refl
nothing_stops M mode kind (Cond number p q rest) v h = refl

-- A kind of leaf whose tests and assignments of linear forms are linearised too, those of products among them of which one factor has one value.
use Rattle.leaf_domain.specs.Leaves.{LeafMeaning}
use Rattle.linearised_leaf.specs.Tightened.{tightened, tightened_set}
use Rattle.linearised_leaf.specs.Products.{operation_form, operation_met, operation_set}

abbrev pub linearised : LeafMeaning → LeafMeaning
linearised M = record M {
  meet_form = λ v f op. tightened M (M.meet_form v f op) f op;
  set_form = λ v x f r. tightened_set M v x f (M.set_form v x f r);
  meet_operation = λ v p op r. operation_met M (M.meet_operation v p op r) (operation_form M v p) op r;
  set_operation = λ v x p r. operation_set M v x (operation_form M v p) (M.set_operation v x p r);
}

-- Octagons together with intervals and strides are below strides alone.
use Rattle.octagon_leaf.specs.Octagons.{octagons}
use Rattle.product_leaf.specs.StrideLeaves.{strides}
use Rattle.paired_leaf.specs.Pairs.{second_of}
use Rattle.paired_leaf.specs.Below.{IsBelowParts}
use Rattle.sharp_leaf.specs.SharpLeaves.{sharp}
use Rattle.sharp_leaf.proofs.BelowParts.{reduced_parts, sharp_below}
use Rattle.sharp_leaf.proofs.StridesWithin.{met_below, set_below}

pub sharp_below_strides : IsBelowParts octagons strides sharp
sharp_below_strides = record {
  start = λ s. record { first = (sharp_below.start s).first; second = (sharp_below.start s).second };
  best = λ v p. record { first = (sharp_below.best v p).first; second = (sharp_below.best v p).second };
  leq = sharp_below.leq;
  join = λ v w k. record { first = (sharp_below.join v w k).first; second = (sharp_below.join v w k).second };
  widen = λ ts v w k. record { first = (sharp_below.widen ts v w k).first; second = (sharp_below.widen ts v w k).second };
  narrow = λ ts v w k. record { first = (sharp_below.narrow ts v w k).first; second = (sharp_below.narrow ts v w k).second };
  bounds = sharp_below.bounds;
  form_range = sharp_below.form_range;
  meet_range = λ v x r p l i. record { first = (sharp_below.meet_range v x r p l i).first; second = (sharp_below.meet_range v x r p l i).second };
  meet_form = λ v f op p g. record { first = (sharp_below.meet_form v f op p g).first; second = (sharp_below.meet_form v f op p g).second };
  set_range = λ v x r p l i. record { first = (sharp_below.set_range v x r p l i).first; second = (sharp_below.set_range v x r p l i).second };
  set_form = λ v x f r p l g i. record { first = (sharp_below.set_form v x f r p l g i).first; second = (sharp_below.set_form v x f r p l g i).second };
  operation_range = λ v d n h. ((sharp_below.operation_range v d n h).0, tt);
  meet_operation = λ v d op r p o i. record {
    first = (sharp_below.meet_operation v d op r p o i).first;
    second = λ s h. met_below (second_of v) d op r s (reduced_parts v p).1 o ((sharp_below.meet_operation v d op r p o i).second s h);
  };
  set_operation = λ v x d r p l o i. record {
    first = (sharp_below.set_operation v x d r p l o i).first;
    second = λ s h. set_below (second_of v) x d r s (reduced_parts v p).1 l i ((sharp_below.set_operation v x d r p l o i).second s h);
  };
}

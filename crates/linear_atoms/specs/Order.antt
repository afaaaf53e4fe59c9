-- The order of terms of linear forms, given on from the crate below.
pub use Rattle.linear_terms.specs.Order.{same_term, same_terms, term_order, terms_order, terms_total, terms_tie, terms_equivalence, terms_partial_order}

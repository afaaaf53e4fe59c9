pub mod PairLemmas
pub mod PartLemmas
pub mod ExchangeLaws
pub mod RangeLemmas
pub mod PairedLaws
pub mod BelowLaws

pub mod Pairs
pub mod Exchange
pub mod PairedLeaves
pub mod Below

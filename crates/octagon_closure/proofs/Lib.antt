-- The proof, in the order of the papers. What is said of matrices and values, and halves:
pub mod Octagons
pub mod HalfNumbers
pub mod Stores
-- shortest walks, Miné's strong closure, by one variable after another and after one entry:
pub mod Passing
pub mod Walks
pub mod OneMeet
-- the rounding and the halving, by Bagnara, Hill and Zaffanella, which keep the triangle inequalities:
pub mod Tightening
-- a tightly closed matrix is exact, since values of some terms extend to one more:
pub mod Extending
pub mod Attaining
-- so the steps together give the best bounds, which are unique:
pub mod Steps
pub mod Below
pub mod Closing
pub mod Unique
-- what the loops of the code do:
pub mod Rows
pub mod Lowering

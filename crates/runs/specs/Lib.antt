pub mod Correct
pub mod Decisions
pub mod Laws
pub mod Theorem

pub mod Asks
pub mod FitLaws
pub mod Fits
pub mod Laws
pub mod Procedure
pub mod Reachable
pub mod States
pub mod Tallies

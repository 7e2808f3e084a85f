pub mod Default
pub mod Justified
pub mod Laws
pub mod Listing
pub mod Policies
pub mod Shapes
pub mod Verdicts
pub mod Weak

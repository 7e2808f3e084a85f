pub mod Examples
pub mod Laws
pub mod Private
pub mod Strays

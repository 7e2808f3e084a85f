pub mod Examples
pub mod Laws
pub mod Lines
pub mod Printing
pub mod Private
pub mod Scripts
pub mod Steps
pub mod Texts

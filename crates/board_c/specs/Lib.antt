pub mod Exports
pub mod Flat
pub mod Laws
pub mod Numbers

pub mod Appending
pub mod Dumps
pub mod Examples
pub mod Laws
pub mod Private

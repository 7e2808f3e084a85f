pub mod EdgeValues
pub mod FirstFault
pub mod Heads
pub mod Laws
pub mod Private
pub mod Reading
pub mod Writing

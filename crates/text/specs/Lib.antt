pub mod Digits
pub mod Examples
pub mod Laws
pub mod Lines
pub mod Places
pub mod Printers
pub mod Signs
pub mod Texts

pub mod Charges
pub mod Laws

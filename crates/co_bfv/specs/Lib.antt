pub mod Secrets
pub mod Ciphertexts
pub mod Totals
pub mod Draws
pub mod Encryptions

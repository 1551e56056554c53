pub mod Composing
pub mod Wholes
pub mod Digits
pub mod Centring
pub mod Parting
pub mod Spectra_agree

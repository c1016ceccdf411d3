pub mod Places
pub mod Lists
pub mod Rounds

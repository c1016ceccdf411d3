pub mod Places
pub mod Writes
pub mod Faults
pub mod Calls
pub mod Rounds
pub mod Laws

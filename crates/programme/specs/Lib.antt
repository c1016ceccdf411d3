pub mod Faults
pub mod Verdicts
pub mod Trail

pub mod Supply
pub mod Tables
pub mod Cells
pub mod Lines
pub mod Through
pub mod Rounds

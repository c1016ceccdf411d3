pub mod Frames
pub mod Stacks

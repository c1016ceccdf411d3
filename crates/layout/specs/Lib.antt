pub mod Layout
pub mod Markers

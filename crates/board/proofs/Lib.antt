mod Sweeps
mod Tables
mod Progress

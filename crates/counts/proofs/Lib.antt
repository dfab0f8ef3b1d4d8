pub mod Tallies
pub mod Counts

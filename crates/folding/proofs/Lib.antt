pub mod Laying
pub mod Window
pub mod Rest
pub mod Lengths
pub mod Samples

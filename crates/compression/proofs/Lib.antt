pub mod Extending
pub mod InTurns
pub mod Loading

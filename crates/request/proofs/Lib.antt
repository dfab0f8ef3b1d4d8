pub mod Rules
pub mod OneBlock

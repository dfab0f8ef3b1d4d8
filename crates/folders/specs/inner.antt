pub mod Folders
pub mod OneHead

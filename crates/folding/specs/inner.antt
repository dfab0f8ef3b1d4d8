pub mod Folding
pub mod Buffer

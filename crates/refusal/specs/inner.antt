pub mod FirstBad
pub mod Numbered

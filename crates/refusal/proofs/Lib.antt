pub mod Laws
pub mod FirstBad
pub mod Numbers

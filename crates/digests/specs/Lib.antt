pub mod States
pub mod inner

pub mod Texts
pub mod inner
pub mod Refusal
pub mod Faults

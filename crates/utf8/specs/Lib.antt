pub mod Ascii
pub mod Grammar
pub mod Scalar
pub mod inner

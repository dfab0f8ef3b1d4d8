pub mod Faults
pub mod Passed
pub mod Ids
pub mod Standing
pub mod KindSound
pub mod KindComplete
pub mod BlockImage
pub mod SameBlock

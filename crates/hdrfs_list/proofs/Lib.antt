-- The parts of the proofs.
pub mod Room

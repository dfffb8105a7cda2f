-- Laws that the proofs of the links share.
pub mod Iterate
pub mod Passes

-- Laws that the proofs of the reading share.
pub mod BlockWords
pub mod Parts
pub mod Steps

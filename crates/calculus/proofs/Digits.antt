-- Laws of tests as types and of the binary digits of a word, which stand with the sets of permissions.
pub use Rattle.permset.proofs.Digits.{T-or, T-or-left, T-or-right, T_and, T-fst, T-snd, T_true, member-or, member-single, member-single-only, member-low, member-lt}

-- The starred samples of document 01 ("Samples on the wall"), from the words of a table to its refusal, or to its leak, facts and estimate,
-- and some more that tell apart readings which the starred ones do not. One claim covers the list: crates/sample_claim/proofs/Claim.antt.
use Rattle.std.specs.Prelude.{ℕ, ◌+◌, List, [], ◌∷◌, ◌++◌, Bool, true, false, ◌&&◌, length, eqb}
use Rattle.table.specs.Code.{code}
use Rattle.calculus.specs.Layout.{estimate_words}
use Rattle.calculus.specs.Estimate.{same, estimate}
use Rattle.calculus.specs.Answer.{Answer, refused, verdict, answer, standing_bound, work_words}

-- what a sample is to give: a refusal, or a leak, and the facts and the words of the estimate where they are known; or a leak over its bound,
-- with the bound used and the lowest permission outside
pub data Expected : Type 0 where
  refusal : (number place : ℕ) → Expected
  leaks : (leak : ℕ) → Expected
  counts : (leak facts : ℕ) → Expected
  fills : (leak facts : ℕ) (words : List ℕ) → Expected
  exceeds : (leak bound first : ℕ) → Expected

pub record Sample : Type 0 where
  pub words : List ℕ
  pub opponent : ℕ
  pub expected : Expected

unfoldable pub agrees : Sample → Expected → Answer → Bool
unfolding same estimate
agrees s (refusal n p) (refused m q) = eqb n m && eqb p q
agrees s (refusal n p) (verdict v) = false
agrees s (leaks l) (refused m q) = false
agrees s (leaks l) (verdict v) = eqb l v.leak
agrees s (counts l f) (refused m q) = false
agrees s (counts l f) (verdict v) = eqb l v.leak && eqb f v.facts
agrees s (fills l f ws) (refused m q) = false
agrees s (fills l f ws) (verdict v) = eqb l v.leak && eqb f v.facts && same ws (estimate (code s.words) s.opponent)
agrees s (exceeds l b x) (refused m q) = false
agrees s (exceeds l b x) (verdict v) = v.over && eqb l v.leak && eqb b v.bound && eqb x v.first

-- the answer to a sample, with the standing bound and slices that are just long enough
unfoldable pub answer_to : Sample → Answer
unfolding answer
answer_to s = answer s.words s.opponent standing_bound (estimate_words (code s.words)) (work_words (length s.words))

unfoldable pub passes : List Sample → Bool
unfolding agrees answer_to
passes [] = true
passes (s ∷ ss) = elim (agrees s s.expected (answer_to s)) [ true ↦ passes ss | false ↦ false ]

-- ---- tables

-- a handler of this name with permissions 0 and 1, and this guard
abbrev handler : ℕ → ℕ → List ℕ → List ℕ
handler name guard body = (0x02000000 + name) ∷ 0x03000003 ∷ (0x04000000 + guard) ∷ body

-- one handler
abbrev pub single : ℕ → List ℕ → List ℕ
single guard body = 0x01000001 ∷ handler 0 guard body

-- a handler that passes its message on to name 1, with this set required
abbrev relayed : ℕ → ℕ → List ℕ
relayed perms required =
    0x02000000 ∷ (0x03000000 + perms) ∷ 0x04000000 ∷ (0x23000000 + required) ∷ 0x13000001 ∷ 0x14000000 ∷ 0x02000001 ∷ 0x03000002
    ∷ 0x04000008 ∷ 0x24000002 ∷ []

abbrev pub relay : ℕ → ℕ → List ℕ
relay perms required = 0x01000002 ∷ relayed perms required

abbrev pub twins : List ℕ
twins = 0x01000003 ∷ relayed 8 4 ++ (0x02000001 ∷ 0x03000004 ∷ 0x04000008 ∷ 0x24000004 ∷ [])

unfoldable pub samples : List Sample
samples =
    -- *01000000 alone
    record { words = 0x01000000 ∷ []; opponent = 0; expected = fills 0 0 (0 ∷ 0 ∷ 0 ∷ 0 ∷ 0 ∷ 0 ∷ 0 ∷ []) }
    -- direct; its guard 04000004; the same with ρ 4
    ∷ record { words = single 0 (0x24000002 ∷ []); opponent = 0; expected = counts 2 70 }
    ∷ record { words = single 4 (0x24000002 ∷ []); opponent = 0; expected = counts 0 0 }
    ∷ record { words = single 4 (0x24000002 ∷ []); opponent = 4; expected = leaks 2 }
    -- ours: direct with ρ 2, where the standing bound lets no permission pass
    ∷ record { words = single 0 (0x24000002 ∷ []); opponent = 2; expected = exceeds 2 0 1 }
    -- a permission that the handler lacks
    ∷ record { words = single 0 (0x24000004 ∷ []); opponent = 0; expected = counts 0 67 }
    -- if on true; with the message as condition
    ∷ record { words = single 0 (0x19000000 ∷ 0x10000002 ∷ 0x24000001 ∷ 0x24000002 ∷ []); opponent = 0; expected = leaks 1 }
    ∷ record { words = single 0 (0x19000000 ∷ 0x14000000 ∷ 0x24000001 ∷ 0x24000002 ∷ []); opponent = 0; expected = leaks 3 }
    -- a function applied; a function alone
    ∷ record { words = single 0 (0x16000000 ∷ 0x15000000 ∷ 0x24000001 ∷ 0x10000000 ∷ []); opponent = 0; expected = counts 1 78 }
    ∷ record { words = single 0 (0x15000000 ∷ 0x24000001 ∷ []); opponent = 0; expected = counts 0 68 }
    -- relay with 23000001; ours: relay from a sender that lacks the receiver's guard
    ∷ record { words = relay 8 1; opponent = 0; expected = leaks 0 }
    ∷ record { words = relay 0 0; opponent = 0; expected = leaks 0 }
    -- relay; twins
    ∷ record { words = relay 8 0; opponent = 0; expected = counts 2 207 }
    ∷ record { words = twins; opponent = 0; expected = counts 4 207 }
    -- no words; 01000021
    ∷ record { words = []; opponent = 0; expected = refusal 1 0 }
    ∷ record { words = 0x01000021 ∷ []; opponent = 0; expected = refusal 3 0 }
    -- wide tables: 05000000 alone, direct, relay
    ∷ record { words = 0x05000000 ∷ []; opponent = 0; expected = fills 0 0 (0 ∷ 0 ∷ 0 ∷ 0 ∷ 0 ∷ 0 ∷ 0 ∷ 0 ∷ 0 ∷ []) }
    ∷ record { words = 0x05000001 ∷ handler 0 0 (0x24000002 ∷ []); opponent = 0; expected = counts 2 102 }
    ∷ record { words = 0x05000002 ∷ relayed 8 0; opponent = 0; expected = counts 2 303 }
    -- 64 handlers and 65; a name 63 and one past it, in a block and in a body, and 32 in a narrow body
    ∷ record { words = 0x05000040 ∷ []; opponent = 0; expected = refusal 4 1 }
    ∷ record { words = 0x05000041 ∷ []; opponent = 0; expected = refusal 3 0 }
    ∷ record { words = 0x05000001 ∷ handler 63 0 (0x1300003f ∷ []); opponent = 0; expected = leaks 0 }
    ∷ record { words = 0x05000001 ∷ handler 64 0 (0x1300003f ∷ []); opponent = 0; expected = refusal 5 1 }
    ∷ record { words = 0x05000001 ∷ handler 0 0 (0x13000040 ∷ []); opponent = 0; expected = refusal 9 4 }
    ∷ record { words = single 0 (0x13000020 ∷ []); opponent = 0; expected = refusal 9 4 }
    ∷ []

-- What is said of a view: what its tests decide, and that a word is one of an accepted table with a well-formed estimate.
use Rattle.std.specs.Prelude.{ℕ, Bool}
use Rattle.table.specs.Code.{Code, code}
use Rattle.calculus.specs.Constraint.{Rule}
use Rattle.calculus.specs.Layout.{sets}
use Rattle.queries.specs.Ready.{At}
use Rattle.checker.specs.declared.view.View.{View}
use Rattle.checker.specs.Decides.{Checked, CheckedIf, CheckedBy, MasksOf}
use Rattle.checker.specs.declared.sends.Sending.{Sending}
use Rattle.checker.specs.Lowered.{Lowered}
use Rattle.checker.specs.Sends.{AskedFor, AskedToSend, Sent}
use Rattle.checker.specs.Words.{WordLowered}

-- r decides a rule on the words of the estimate
abbrev pub Tested : View → (Code → Rule) → Bool → Type 0
Tested v k r = Checked v.layout v.estimate.now k r

-- the same, for codes with a property
abbrev pub TestedIf : View → (Code → Type 0) → (Code → Rule) → Bool → Type 0
TestedIf v q k r = CheckedIf v.layout v.estimate.now q k r

-- the same, where masks are used
abbrev pub TestedBy : View → (Code → Rule) → Bool → Type 0
TestedBy v k r = CheckedBy v.layout v.estimate.now v.masks.now k r

-- the masks are those of a code
abbrev pub Sorted : View → Type 0
Sorted v = MasksOf v.layout v.masks.now

-- the word p of an accepted table with its links and masks, and a well-formed estimate
abbrev pub Seen : View → ℕ → Type 0
Seen v p = At v.words.now v.links.now v.masks.now v.estimate.now v.layout p

-- r is `below`, or the lowest word below it that does not obey what p asks
abbrev pub Lowers : View → (ρ p below r : ℕ) → Type 0
Lowers v ρ p below r = WordLowered v.words.now v.estimate.now ρ p below r

-- the send s is one of such a table
abbrev pub Handed : View → Sending → Type 0
Handed v s = Sent v.words.now v.masks.now v.estimate.now v.layout s

-- r is `below`, or the lowest word below it that does not obey what the send s asks for the block b; for every block
abbrev pub LowersFor : View → Sending → (b below r : ℕ) → Type 0
LowersFor v s b below r = Lowered (AskedFor (code v.words.now) (sets (code v.words.now) v.estimate.now) s.p s.d s.required.bits b) below r

abbrev pub LowersForAll : View → Sending → (below r : ℕ) → Type 0
LowersForAll v s below r = Lowered (AskedToSend (code v.words.now) (sets (code v.words.now) v.estimate.now) s.p s.d s.required.bits) below r

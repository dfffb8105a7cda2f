-- The answer to a table, ρ and the words of an estimate from elsewhere (document 02, wish 12): the leak read from it, or a refusal's number and place.
use Rattle.std.specs.Prelude.{ℕ, Result, Ok, Err, ◌^◌, List, eqb, leb, ltb, length}
use Rattle.std.proofs.Math.Bool.{true, false}
use Rattle.permset.specs.Sets.{width}
use Rattle.table.specs.Answer.{number, place}
use Rattle.table.specs.Scan.{accepted, reading}
use Rattle.table.specs.Scan.{refused as unreadable}
use Rattle.table.specs.Code.{Code, code}
use Rattle.calculus.specs.Layout.{estimate_words}
use Rattle.calculus.specs.Estimate.{leak}
use Rattle.stray.specs.Stray.{first_stray}
use Rattle.checker.specs.Obeyed.{first_broken}
use Rattle.permset.specs.declared.PermSet.{PermSet}
use Rattle.audit.specs.declared.AuditFault.{AuditFault}
use Rattle.audit.specs.declared.AuditFault.TheVariants as faults

pub data Answer : Type 0 where
  refused : (number place : ℕ) → Answer
  obeys : (leak : ℕ) → Answer

-- a refusal's number and place, and 0 where there is none
unfoldable pub number_of : Answer → ℕ
number_of (refused n at) = n
number_of (obeys s) = 0

unfoldable pub place_of : Answer → ℕ
place_of (refused n at) = at
place_of (obeys s) = 0

-- the number, place and leak of each case
unfoldable pub said : Result PermSet AuditFault → Answer
unfolding number place
said (Err (faults.Table r)) = refused (number r) (place r)
said (Err faults.Rho) = refused 20 0
said (Err faults.Length) = refused 52 0
said (Err (faults.Stray k)) = refused 53 k
said (Err (faults.Broken p)) = refused 54 p
said (Ok s) = obeys s.bits

module _ (c : Code) (ρ : ℕ) (est : List ℕ) where
  -- "54 rule broken, place the lowest word p or b a broken rule is stated for"
  unfoldable pub ruled : Answer
  ruled = elim (ltb (first_broken c ρ est) c.size) [ true ↦ refused 54 (first_broken c ρ est) | false ↦ obeys (leak c ρ est) ]

  -- "53 stray bit, place the lowest slice index with one"
  unfoldable pub swept : Answer
  unfolding ruled
  swept = elim (ltb (first_stray c est) (length est)) [ true ↦ refused 53 (first_stray c est) | false ↦ ruled ]

  -- "52 estimate slice not exactly 2WR+W words, place 0"
  unfoldable pub sized : Answer
  unfolding swept
  sized = elim (eqb (length est) (estimate_words c)) [ true ↦ swept | false ↦ refused 52 0 ]

  -- "in that order after .. 20"
  unfoldable pub judged : Answer
  unfolding sized
  judged = elim (leb (2 ^ width) ρ) [ true ↦ refused 20 0 | false ↦ sized ]

-- "after the table's numbers"
unfoldable pub audited : List ℕ → ℕ → List ℕ → Answer
unfolding judged
audited ws ρ est = elim (reading ws) [ accepted ↦ judged (code ws) ρ est | unreadable n at ↦ refused n at ]

-- The depths of the words that a word leaves to come, by its kind: what the code keeps of the tasks of the scan.
use Rattle.std.specs.Prelude.{ℕ, suc, Bool, true, false, List, [], ◌∷◌, eqb, ltb, replicate}
use Rattle.table.specs.Words.{kind, argument, arity}

-- one of the four cases: a system, a handler, another word of a block, a term
unfoldable pub one_of : (system handler block : Bool) → (names parts : List ℕ) → List ℕ
one_of true h b names parts = names
one_of false true b names parts = 0 ∷ 0 ∷ 1 ∷ []
one_of false false true names parts = []
one_of false false false names parts = parts

-- where the word w stands at the depth d
unfoldable pub leaves : ℕ → ℕ → List ℕ
unfolding one_of
leaves w d = one_of (eqb (kind w) 1) (eqb (kind w) 2) (ltb (kind w) 16) (replicate (argument w) 0) (replicate (arity w) (suc d))

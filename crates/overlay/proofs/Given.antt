-- What a block of a table gives to the joined table.
use mathlib.Core.Path.{◌≡◌, refl, sym, subst, ◌∙◌}
use mathlib.Core.List.{List, []}
use mathlib.Core.Bool.{Bool, true, false}
use Prim.Native.Nat.{ℕ, ◌+◌, ◌-◌, ◌≤◌, ◌<◌}
use native.Mathlib.Omega.{arith}
use lib.ListN.{length, get_or, drop, length-drop}
use lib.Seq.{get_or-drop, get_or-take, length-take-le}
use Rattle.blocks.specs.Blocks.{name_of, perms_of}
use Rattle.overlay.specs.Lookup.{Sought, nothing, found, seek}
use Rattle.overlay.specs.Parts.{part, given}

-- a word of a part
pub part-word : (ws : List ℕ) (a e i : ℕ) → i < e - a → get_or (part a e ws) i 0 ≡ get_or ws (a + i) 0
part-word ws a e i h = get_or-take (e - a) (drop a ws) i 0 h ∙ get_or-drop a ws i 0

pub length_part : (ws : List ℕ) (a e : ℕ) → e ≤ length ws → length (part a e ws) ≡ e - a
length_part ws a e h = length-take-le (e - a) (drop a ws) (omega (arith, length-drop a ws))

module _ (os : List (List ℕ)) (b : List ℕ) where
  pub given-own : (new : Bool) → seek (name_of b) (perms_of b) 1 os ≡ nothing → given new os b ≡ b
  unfolding given
  given-own new e = rw (given, e)

  pub given-none : (a : ℕ) (o : List ℕ) → seek (name_of b) (perms_of b) 1 os ≡ found a o → given true os b ≡ []
  unfolding given
  given-none a o e = rw (given, e)

  pub given-other : (a : ℕ) (o : List ℕ) → seek (name_of b) (perms_of b) 1 os ≡ found a o → given false os b ≡ o
  unfolding given
  given-other a o e = rw (given, e)

  -- no more words than the block or the other table has
  pub given-short : (new : Bool) (k : ℕ) → length b ≤ k → ((a : ℕ) (o : List ℕ) → seek (name_of b) (perms_of b) 1 os ≡ found a o → length o ≤ k)
      → length (given new os b) ≤ k
  given-short new k h f = go new (seek (name_of b) (perms_of b) 1 os) refl
    where
      go : (x : Bool) (q : Sought) → seek (name_of b) (perms_of b) 1 os ≡ q → length (given x os b) ≤ k
      go x nothing e = subst (λ (l : List ℕ). length l ≤ k) (sym (given-own x e)) h
      go true (found a o) e = subst (λ (l : List ℕ). length l ≤ k) (sym (given-none a o e)) (omega arith)
      go false (found a o) e = subst (λ (l : List ℕ). length l ≤ k) (sym (given-other a o e)) (f a o e)

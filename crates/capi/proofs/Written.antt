-- Words that are read from a slice of bytes, handed to a call and written back: the slice is what its definition says.
use Prim.Native.Nat.{ℕ, ◌*◌, ◌/◌, ◌≤◌, min}
use mathlib.Core.Path.{◌≡◌, refl, sym, ap, ap₂, ◌∙◌, subst}
use mathlib.Core.List.{List, ◌++◌}
use native.Mathlib.Omega.{arith}
use lib.ListN.{length, take, drop, replicate, length-replicate}
use lib.Seq.{take_at, take_all, length-take-le}
use Rattle.table.specs.Code.{code}
use Rattle.table.proofs.Linked.{linked}
use Rattle.calculus.specs.Layout.{estimate_words}
use Rattle.calculus.specs.Estimate.{estimate}
use Rattle.calculus.specs.Answer.{Answer, refused, verdict, answer, work_words, estimate_after, work_after}
use Rattle.calculus.proofs.Least.{estimate-well}
use Rattle.little_endian.specs.LittleEndian.{words_of, bytes_of}
use Rattle.little_endian.proofs.Laws.{Below, length-words_of, written_back, replaced-words}
use Rattle.capi.specs.Interface.{estimate_left, estimate_bytes, work_left, work_bytes}
use Rattle.capi.proofs.Refusals.{verdict-fit}
use Rattle.verdict.proofs.Room.{estimate-capped, work-capped, estimate-room, work-room}

-- ---- what a call leaves, by its answer

module _ (ws : List ℕ) (ρ bound : ℕ) (est work : List ℕ) where
  pub estimate-left : estimate_after ws ρ bound est work ≡ estimate_left ws ρ (answer ws ρ bound (length est) (length work)) est
  unfolding estimate_after estimate_left
  estimate-left = go (answer ws ρ bound (length est) (length work))
    where
      go : (a : Answer)
          → (elim a as (λ b. List ℕ) [ refused n at ↦ est | verdict v ↦ estimate (code ws) ρ ++ drop (estimate_words (code ws)) est ])
          ≡ estimate_left ws ρ a est
      go (refused n at) = refl
      go (verdict v) = refl

  pub work-left : work_after ws ρ bound est work ≡ work_left ws (answer ws ρ bound (length est) (length work)) work
  unfolding work_after work_left
  work-left = go (answer ws ρ bound (length est) (length work))
    where
      go : (a : Answer)
          → (elim a as (λ b. List ℕ) [
            | refused n at ↦ work
            | verdict v ↦ replicate (work_words (length ws)) 0 ++ drop (work_words (length ws)) work
          ]) ≡ work_left ws a work
      go (refused n at) = refl
      go (verdict v) = refl

-- ---- written back

-- n words were read from bs
module _ (bs : List ℕ) (low : Below 256 bs) (n : ℕ) (most : n ≤ length bs / 4) where
  back : bytes_of (take n (words_of bs)) ++ drop (4 * n) bs ≡ bs
  back = written_back bs 0 n low (omega arith) most

  -- the words es in place of the first of them
  replaced : (es : List ℕ) (k : ℕ) → length es ≡ k → k ≤ n
      → bytes_of (es ++ drop k (take n (words_of bs))) ++ drop (4 * n) bs ≡ bytes_of es ++ drop (4 * k) bs
  replaced es k e h =
      subst (λ (m : ℕ). bytes_of (es ++ drop m (take n (words_of bs))) ++ drop (4 * n) bs ≡ bytes_of es ++ drop (4 * m) bs) e
      (replaced-words es bs n low (omega arith) most)

  module _ (ws : List ℕ) (ρ bound : ℕ) where
    pub estimate-written : (work : ℕ) (a : Answer) → a ≡ answer ws ρ bound n work
        → bytes_of (estimate_left ws ρ a (take n (words_of bs))) ++ drop (4 * n) bs ≡ estimate_bytes ws ρ a bs
    unfolding estimate_left estimate_bytes
    estimate-written work (refused number place) e = back
    estimate-written work (verdict v) e =
        let fit = verdict-fit ws ρ bound n work v (sym e) in
        replaced (estimate (code ws) ρ) (estimate_words (code ws)) (estimate-well (code ws) (linked ws fit.readable) ρ).long fit.long

    pub work-written : (est : ℕ) (a : Answer) → a ≡ answer ws ρ bound est n
        → bytes_of (work_left ws a (take n (words_of bs))) ++ drop (4 * n) bs ≡ work_bytes ws a bs
    unfolding work_left work_bytes
    work-written est (refused number place) e = back
    work-written est (verdict v) e =
        let fit = verdict-fit ws ρ bound est n v (sym e) in
        replaced (replicate (work_words (length ws)) 0) (work_words (length ws)) (length-replicate (work_words (length ws)) 0) fit.room

-- ---- a slice of bytes around a call on its words

-- the words `new` stand at the start of an array, and are written to the bytes bs
pub written : (bs new rest : List ℕ) (n m : ℕ) (after : List ℕ) → length new ≡ n → n ≤ length bs / 4
    → m ≡ min (length bs / 4) (length (take n (new ++ rest))) → after ≡ bytes_of (take m (take n (new ++ rest))) ++ drop (4 * m) bs
    → after ≡ bytes_of new ++ drop (4 * n) bs
written bs new rest n m after long most count content =
    let front : take n (new ++ rest) ≡ new = take_at new rest n long in
    let all : m ≡ n = omega (arith, ap length front) in
    let whole : take m (take n (new ++ rest)) ≡ new = ap₂ take all front ∙ take_all n new (omega arith) in
    content ∙ ap₂ (λ (us : List ℕ) (k : ℕ). bytes_of us ++ drop (4 * k) bs) whole all

-- the words that are read from the bytes bs to the start of an array `own`
module _ (bs own now : List ℕ) (n : ℕ) (count : n ≡ min (length bs / 4) (length own)) (content : now ≡ take n (words_of bs) ++ drop n own) where
  pub read-most : n ≤ length bs / 4
  read-most = omega arith

  pub read_first : take n now ≡ take n (words_of bs)
  read_first =
      ap (take n) content
      ∙ take_at (take n (words_of bs)) (drop n own) n (length-take-le n (words_of bs) (omega (arith, length-words_of bs)))

  pub read_length : length (take n now) ≡ n
  read_length = ap length read_first ∙ length-take-le n (words_of bs) (omega (arith, length-words_of bs))

-- the work slice around a call: n words were read from its bytes, and `new` is what the call left of them
module _ (ws : List ℕ) (ρ bound : ℕ) (est : List ℕ) (small : length ws ≤ 256)
    (bs own now : List ℕ) (n : ℕ) (room : length own ≡ 1024) (count : n ≡ min (length bs / 4) (length own))
    (content : now ≡ take n (words_of bs) ++ drop n own) (a : Answer) (answers : a ≡ answer ws ρ bound (length est) (length (take n now))) where
  answers-n : a ≡ answer ws ρ bound (length est) n
  answers-n = answers ∙ ap (answer ws ρ bound (length est)) (read_length bs own now n count content)

  pub work-answer : a ≡ answer ws ρ bound (length est) (length bs / 4)
  work-answer =
      answers-n
      ∙ ap (answer ws ρ bound (length est)) (count ∙ ap (min (length bs / 4)) room)
      ∙ work-capped ws ρ bound (length est) (length bs / 4) 1024 (work-room ws small)

  pub work-estimate : (new : List ℕ) → new ≡ estimate_after ws ρ bound est (take n now) → new ≡ estimate_left ws ρ a est
  work-estimate new e = e ∙ estimate-left ws ρ bound est (take n now) ∙ ap (λ (b : Answer). estimate_left ws ρ b est) (sym answers)

  pub work-bytes : Below 256 bs → (new rest : List ℕ) (m : ℕ) (after : List ℕ) → length new ≡ length (take n now)
      → new ≡ work_after ws ρ bound est (take n now) → m ≡ min (length bs / 4) (length (take n (new ++ rest)))
      → after ≡ bytes_of (take m (take n (new ++ rest))) ++ drop (4 * m) bs → after ≡ work_bytes ws a bs
  work-bytes low new rest m after long e c w =
      written bs new rest n m after (long ∙ read_length bs own now n count content) (read-most bs own now n count content) c w
      ∙ ap (λ (us : List ℕ). bytes_of us ++ drop (4 * n) bs)
      (e
      ∙ work-left ws ρ bound est (take n now)
      ∙ ap₂ (work_left ws) (sym answers) (read_first bs own now n count content))
      ∙ work-written bs low n (read-most bs own now n count content) ws ρ bound (length est) a answers-n

-- the estimate slice around a call, in the same way
module _ (ws : List ℕ) (ρ bound work : ℕ) (small : length ws ≤ 256)
    (bs own now : List ℕ) (n : ℕ) (room : length own ≡ 5888) (count : n ≡ min (length bs / 4) (length own))
    (content : now ≡ take n (words_of bs) ++ drop n own) (a : Answer) (answers : a ≡ answer ws ρ bound (length (take n now)) work) where
  answers-for : a ≡ answer ws ρ bound n work
  answers-for = answers ∙ ap (λ (k : ℕ). answer ws ρ bound k work) (read_length bs own now n count content)

  pub estimate-answer : a ≡ answer ws ρ bound (length bs / 4) work
  estimate-answer =
      answers-for
      ∙ ap (λ (k : ℕ). answer ws ρ bound k work) (count ∙ ap (min (length bs / 4)) room)
      ∙ estimate-capped ws ρ bound (length bs / 4) work 5888 (estimate-room ws small)

  pub estimate-bytes : Below 256 bs → (new rest : List ℕ) (m : ℕ) (after : List ℕ) → length new ≡ length (take n now)
      → new ≡ estimate_left ws ρ a (take n now) → m ≡ min (length bs / 4) (length (take n (new ++ rest)))
      → after ≡ bytes_of (take m (take n (new ++ rest))) ++ drop (4 * m) bs → after ≡ estimate_bytes ws ρ a bs
  estimate-bytes low new rest m after long e c w =
      written bs new rest n m after (long ∙ read_length bs own now n count content) (read-most bs own now n count content) c w
      ∙ ap (λ (us : List ℕ). bytes_of us ++ drop (4 * n) bs)
      (e ∙ ap (estimate_left ws ρ a) (read_first bs own now n count content))
      ∙ estimate-written bs low n (read-most bs own now n count content) ws ρ bound work a answers-for

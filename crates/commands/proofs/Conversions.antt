-- Laws of the commands `widen` and `narrow`.
use Prim.Native.Nat.{ℕ, zero, suc, ◌*◌, ◌%◌, ◌≤◌}
use mathlib.Core.Path.{◌≡◌, refl, sym, ap, ◌∙◌}
use mathlib.Core.Bool.{Bool}
use mathlib.Core.List.{List, ◌++◌}
use native.Mathlib.Omega.{arith}
use lib.ListN.{length, take, drop, replicate}
use lib.Seq.{take_all}
use Rattle.text.specs.Writing.{Wrote}
use Rattle.text.proofs.Writing.{reworded}
use Rattle.little_endian.specs.LittleEndian.{words_of, bytes_of, whole_words}
use Rattle.little_endian.proofs.Laws.{length-bytes_of}
use Rattle.widths.specs.Converters.{kind_for, converted, convertible, Answer, written, refusal, convert_answer, convert_out}
use Rattle.widths.proofs.Words.{length-kept}
use Rattle.widths.proofs.Theorems.{answer-written, converted-written}
use Rattle.widths.proofs.Lengths.{answer-first}
use Rattle.report.specs.Lines.{refusal_line}
use Rattle.commands.specs.Printed.{converted_text, convert_text}

module _ (wide : Bool) (ws : List ℕ) where
  pub converted-refused : (n p : ℕ) → convert_answer wide ws 1024 ≡ refusal n p → refusal_line n p ≡ converted_text wide ws
  unfolding converted_text
  converted-refused n p e = rw (converted_text, e)

  few : (n : ℕ) → convert_answer wide ws 1024 ≡ written n → (n ≡ length ws) × (length ws ≤ 1024)
  unfolding convert_answer
  few n e = let a = answer-written (convertible wide ws) (length ws) 1024 n e in (a.1, a.2)

  module _ (n : ℕ) (e : convert_answer wide ws 1024 ≡ written n) (words out after : List ℕ) (k : ℕ) (q : words ≡ convert_out wide ws (replicate 1024 0))
      (h : 65536 ≤ length out) (c : k ≡ whole_words out (take n words)) where
    there : take n words ≡ converted wide ws
    there = ap (take n) q ∙ converted-written wide ws (replicate 1024 0) n e

    count : k ≡ length (converted wide ws)
    count = omega (arith, c, ap length there, length-kept (kind_for wide) ws, (few n e).0, (few n e).1)

    pub converted-done : after ≡ bytes_of (take k (take n words)) ++ drop (4 * k) out → Wrote out 0 (converted_text wide ws) after (4 * k)
    unfolding converted_text
    converted-done w =
        let t : converted_text wide ws ≡ bytes_of (converted wide ws) = rw (converted_text, e) in
        let l : take k (take n words) ≡ converted wide ws = ap (take k) there ∙ take_all k (converted wide ws) (omega (arith, count)) in
        reworded (sym t)
        (record {
          bytes = w ∙ ap (λ (v : List ℕ). bytes_of v ++ drop (4 * k) out) l;
          ends = omega (arith, length-bytes_of (converted wide ws), count);
          fits = omega (arith, count, length-kept (kind_for wide) ws, (few n e).1);
        })

-- of more than 1,024 words the first 1,025 decide
pub converted-first : (wide : Bool) (ws : List ℕ) → converted_text wide (take 1025 ws) ≡ converted_text wide ws
converted-first wide ws = go (convert_answer wide ws 1024) refl
  where
    go : (a : Answer) → convert_answer wide ws 1024 ≡ a → converted_text wide (take 1025 ws) ≡ converted_text wide ws
    go (written n) e = ap (converted_text wide) (take_all 1025 ws (omega (arith, (few wide ws n e).1)))
    go (refusal n p) e =
        sym (converted-refused wide (take 1025 ws) n p (answer-first wide ws (replicate 1024 0) ∙ e)) ∙ converted-refused wide ws n p e

module _ (wide : Bool) (input : List ℕ) where
  pub convert-even : length input % 4 ≡ 0 → converted_text wide (words_of input) ≡ convert_text wide input
  unfolding convert_text
  convert-even e = rw (convert_text, e)

  pub convert-odd : (length input % 4 ≡ 0 → ⊥) → refusal_line 30 0 ≡ convert_text wide input
  unfolding convert_text
  convert-odd h = go (length input % 4) h
    where
      go : (k : ℕ) → (k ≡ 0 → ⊥)
          → ◌≡◌ {A = List ℕ} (refusal_line 30 0) (elim k [ zero ↦ converted_text wide (words_of input) | suc n ↦ refusal_line 30 0 ])
      go zero g = absurd (g refl)
      go (suc n) g = refl

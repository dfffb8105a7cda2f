-- The check of an estimate over bytes: the words that are taken from them, and what the number of its answer says.
use Prim.Native.Nat.{ℕ, zero, suc, ◌+◌, ◌*◌, ◌/◌, ◌%◌, ◌^◌, ◌≤◌, ◌<◌}
use mathlib.Core.Path.{◌≡◌, refl, sym, ap, ◌∙◌, subst}
use mathlib.Core.Bool.{Bool, true, false, not}
use mathlib.Core.List.{List, [], ◌∷◌}
use native.Mathlib.Decide.{dec_lt}
use native.Mathlib.Omega.{arith}
use borrow.Author.Tests.{eqb-true, eq-eqb, ne_eqb, ltb-false, le-ltb, leb-false, le-leb, lt-leb}
use lib.Dec.{eqb, leb, ltb, lit<}
use lib.ListN.{length, take}
use Rattle.permset.specs.Sets.{width}
use Rattle.little_endian.specs.LittleEndian.{words_of}
use Rattle.little_endian.proofs.Laws.{Below, length-words_of, words_of-below}
use Rattle.table.specs.Scan.{Outcome, accepted, refused as unreadable, first_of, scan, reading}
use Rattle.table.specs.Code.{code}
use Rattle.calculus.specs.Layout.{estimate_words, Words}
use Rattle.verdict.proofs.Room.{estimate-room}
use Rattle.interface.specs.Numbers.{system_tests}
use Rattle.std.specs.Prelude.{Err}
use Rattle.audit.specs.declared.AuditFault.{AuditFault}
use Rattle.audit.specs.declared.AuditFault.TheVariants as faults
use Rattle.audit.specs.Audited.{Answer, said, refused, obeys, number_of, place_of, judged, audited}
use Rattle.audit.specs.Passes.{Passes, Sound, Exact}
use Rattle.audit.proofs.Exact.{exact}
use Rattle.audit.proofs.Steps.{other_length, high-rho, low-rho, table-refused, table-accepted}
use Rattle.capi.specs.Check.{check_number, estimate_from, bytes_audited, ExactNumber, taken, TakenIn}

-- ---- slices of another length than an estimate has

module _ (ws : List ℕ) (ρ : ℕ) (xs ys : List ℕ) where
  pub other-lengths : (reading ws ≡ accepted → length xs ≡ estimate_words (code ws) → ⊥) → (reading ws ≡ accepted → length ys ≡ estimate_words (code ws) → ⊥)
      → audited ws ρ xs ≡ audited ws ρ ys
  other-lengths f g = go (reading ws) refl
    where
      rho : reading ws ≡ accepted → Dec (ρ < 2 ^ width) → judged (code ws) ρ xs ≡ judged (code ws) ρ ys
      rho e (yes h) =
          sym (other_length (code ws) ρ xs (f e) ∙ low-rho (code ws) ρ xs h) ∙ other_length (code ws) ρ ys (g e) ∙ low-rho (code ws) ρ ys h
      rho e (no h) = sym (high-rho (code ws) ρ xs (omega arith)) ∙ high-rho (code ws) ρ ys (omega arith)

      go : (o : Outcome) → reading ws ≡ o → audited ws ρ xs ≡ audited ws ρ ys
      go accepted e = sym (table-accepted ws ρ xs e) ∙ rho e (dec_lt ρ (2 ^ width)) ∙ table-accepted ws ρ ys e
      go (unreadable n at) e = sym (table-refused ws ρ xs n at e) ∙ table-refused ws ρ ys n at e

-- an accepted table has a word, and so has its estimate
some_words : (ws : List ℕ) → reading ws ≡ accepted → 0 ≡ estimate_words (code ws) → ⊥
unfolding reading scan estimate_words code
some_words [] e z = let y : ◌≡◌ {A = ℕ} 0 1 = cc in omega arith
some_words (w ∷ ws) e z = omega arith

pub taken-audited : (ws : List ℕ) (ρ : ℕ) (bs : List ℕ) → length ws ≤ 256 → audited ws ρ (taken bs) ≡ audited ws ρ (estimate_from bs)
unfolding taken estimate_from
taken-audited ws ρ bs h = go (leb (length bs) 23552) refl (eqb (length bs % 4) 0) refl
  where
    go : (a : Bool) → leb (length bs) 23552 ≡ a → (b : Bool) → eqb (length bs % 4) 0 ≡ b
        → audited ws ρ (elim a [ true ↦ elim b [ true ↦ words_of bs | false ↦ [] ] | false ↦ [] ]) ≡ audited ws ρ (elim b [ true ↦ words_of bs | false ↦ [] ])
    go true x b y = refl
    go false x true y =
        other-lengths ws ρ [] (words_of bs) (λ e z. some_words ws e z)
        (λ e z. omega (arith, leb-false (length bs) 23552 x, eqb-true (length bs % 4) 0 y, length-words_of bs, estimate-room ws h))
    go false x false y = refl

-- ---- the words that are taken

module _ (bs : List ℕ) where
  nothing-taken : taken bs ≡ [] → (room : List ℕ) → TakenIn bs room 0
  nothing-taken e room = record { words = sym e; count = sym (ap length e); most = omega arith }

  pub too_many : 23552 < length bs → (room : List ℕ) → TakenIn bs room 0
  unfolding taken
  too_many h room = nothing-taken (ap (λ (b : Bool). elim b [ true ↦ estimate_from bs | false ↦ [] ]) (lt-leb (length bs) 23552 h)) room

  pub odd-bytes : length bs ≤ 23552 → (length bs % 4 ≡ 0 → ⊥) → (room : List ℕ) → TakenIn bs room 0
  unfolding taken estimate_from
  odd-bytes h n room =
      nothing-taken
      (ap (λ (b : Bool). elim b [ true ↦ estimate_from bs | false ↦ [] ]) (le-leb (length bs) 23552 h)
      ∙ ap (λ (b : Bool). elim b [ true ↦ words_of bs | false ↦ [] ]) (ne_eqb (length bs % 4) 0 n)) room

  pub all-taken : length bs ≤ 23552 → length bs % 4 ≡ 0 → (own now : List ℕ) (n : ℕ) → length own ≡ 5888 → n ≡ length bs / 4 → take n now ≡ words_of bs → TakenIn bs now n
  unfolding taken estimate_from
  all-taken h z own now n r e t =
      let s : taken bs ≡ words_of bs =
      ap (λ (b : Bool). elim b [ true ↦ estimate_from bs | false ↦ [] ]) (le-leb (length bs) 23552 h)
      ∙ ap (λ (b : Bool). elim b [ true ↦ words_of bs | false ↦ [] ]) (eq-eqb (length bs % 4) 0 z)
      in
      record { words = t ∙ sym s; count = e ∙ sym (length-words_of bs) ∙ ap length (sym s); most = omega arith }

-- ---- the number

pub fault_numbered : (f : AuditFault) → check_number (said (Err f)) ≡ 2 ^ 32 + number_of (said (Err f)) * 65536 + place_of (said (Err f))
unfolding said check_number number_of place_of
fault_numbered (faults.Table r) = refl
fault_numbered faults.Rho = refl
fault_numbered faults.Length = refl
fault_numbered (faults.Stray k) = refl
fault_numbered (faults.Broken p) = refl

none-wrong : (a b : Bool) → first_of ((a, 31) ∷ (b, 30) ∷ []) ≡ 0 → (a ≡ false) × (b ≡ false)
unfolding first_of
none-wrong true b h = absurd (omega arith)
none-wrong false true h = absurd (omega arith)
none-wrong false false h = (refl, refl)

negated : (b : Bool) → not b ≡ false → b ≡ true
negated true e = refl
negated false e = sym e

-- the bytes of a system that is read, and no others
read-bytes : (n : ℕ) → first_of (system_tests n) ≡ 0 → (n ≤ 1024) × (n % 4 ≡ 0)
unfolding system_tests
read-bytes n e =
    let t = none-wrong (ltb 1024 n) (not (eqb (n % 4) 0)) e in (ltb-false 1024 n t.0, eqb-true (n % 4) 0 (negated (eqb (n % 4) 0) t.1))

bytes_read : (n : ℕ) → n ≤ 1024 → n % 4 ≡ 0 → first_of (system_tests n) ≡ 0
unfolding system_tests first_of
bytes_read n h z =
    ap (λ (b : Bool). first_of ((b, 31) ∷ (not (eqb (n % 4) 0), 30) ∷ [])) (le-ltb 1024 n h)
    ∙ ap (λ (b : Bool). first_of ((not b, 30) ∷ [])) (eq-eqb (n % 4) 0 z)

module _ (system : List ℕ) (ρ : ℕ) (est : List ℕ) where
  abbrev ws : List ℕ
  ws = words_of system

  whole_words_lem : length est % 4 ≡ 0 → estimate_from est ≡ words_of est
  unfolding estimate_from
  whole_words_lem z = ap (λ (b : Bool). elim b [ true ↦ words_of est | false ↦ [] ]) (eq-eqb (length est % 4) 0 z)

  -- what passes is whole words
  passed-even : Passes ws ρ (estimate_from est) → length est % 4 ≡ 0
  unfolding estimate_from
  passed-even p = go (eqb (length est % 4) 0) refl p
    where
      go : (b : Bool) → eqb (length est % 4) 0 ≡ b → Passes ws ρ (elim b [ true ↦ words_of est | false ↦ [] ]) → length est % 4 ≡ 0
      go true e q = eqb-true (length est % 4) 0 e
      go false e q = absurd (some_words ws q.readable q.long)

  words-low : Below 256 est → Words (estimate_from est)
  unfolding estimate_from
  words-low low = go (eqb (length est % 4) 0)
    where
      go : (b : Bool) → Words (elim b [ true ↦ words_of est | false ↦ [] ])
      go true = words_of-below est low
      go false = λ k. lit< tt

  exact-answer : (length system ≤ 1024) × (length system % 4 ≡ 0) → (a : Answer) → Exact ws ρ (estimate_from est) a → ExactNumber system ρ est (check_number a)
  unfolding Exact check_number
  exact-answer h (refused n p) x =
      record {
        yes = λ l. absurd (omega arith);
        no = λ l q. x (subst (Passes ws ρ) (sym (whole_words_lem q.even)) q.passes);
      }
  exact-answer h (obeys s) x =
      let z = passed-even x.0 in
      record {
        yes = λ l. (
          record { short = h.0; whole = h.1; even = z; passes = subst (Passes ws ρ) (whole_words_lem z) x.0 },
          subst (λ (es : List ℕ). Sound ws ρ es s) (whole_words_lem z) x.1,
        );
        no = λ l q. omega (arith, x.1.small);
      }

  pub exact-number : Below 256 est → ExactNumber system ρ est (check_number (bytes_audited system ρ est))
  unfolding bytes_audited check_number
  exact-number low = go (first_of (system_tests (length system))) refl
    where
      go : (n : ℕ) → first_of (system_tests (length system)) ≡ n
          → ExactNumber system ρ est (check_number (elim n [ zero ↦ audited ws ρ (estimate_from est) | suc k ↦ refused (suc k) 0 ]))
      go zero e = exact-answer (read-bytes (length system) e) (audited ws ρ (estimate_from est)) (exact ws ρ (estimate_from est) (words-low low))
      go (suc n) e = record { yes = λ l. absurd (omega arith); no = λ l q. omega (arith, bytes_read (length system) q.short q.whole) }

  -- refused before the reading, and after it
  pub refused-before : (f : ℕ) → f ≡ first_of (system_tests (length system)) → 0 < f → check_number (bytes_audited system ρ est) ≡ 2 ^ 32 + f * 65536 + 0
  unfolding bytes_audited check_number
  refused-before f e h = go (first_of (system_tests (length system))) e
    where
      go : (n : ℕ) → f ≡ n → check_number (elim n [ zero ↦ audited ws ρ (estimate_from est) | suc k ↦ refused (suc k) 0 ]) ≡ 2 ^ 32 + f * 65536 + 0
      go zero q = absurd (omega arith)
      go (suc n) q = omega arith

  pub answered-after : first_of (system_tests (length system)) ≡ 0 → audited ws ρ (estimate_from est) ≡ bytes_audited system ρ est
  unfolding bytes_audited
  answered-after e = sym (rw (e, bytes_audited))

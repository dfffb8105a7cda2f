-- Four rows of zeros with the plain elements set, and then what each word makes in turn, are the four masks.
use Prim.Native.Nat.{ℕ, ◌+◌, ◌-◌, ◌*◌, ◌%◌, ◌/◌, ◌≤◌, ◌<◌}
use mathlib.Core.Path.{◌≡◌, refl, sym, ap, ◌∙◌, subst}
use mathlib.Core.Bool.{Bool, true, false, ◌&&◌}
use mathlib.Core.List.{List}
use mathlib.Core.Logic.{◌⊎◌, inl, inr, ⊎_elim}
use native.Mathlib.Decide.{dec_lt, ℕ_discrete}
use native.Mathlib.Omega.{arith}
use borrow.Author.Tests.{lt-ltb, le-ltb, eqb-true, eq-eqb}
use lib.Dec.{T, eqb, ltb, ltb→lt, lt→ltb, lit<}
use lib.ListN.{length, get_or, take, drop, replicate, length-replicate}
use Rattle.permset.specs.Sets.{member}
use Rattle.permset.proofs.Laws.{member-empty}
use Rattle.table.specs.Scan.{accepted, reading}
use Rattle.table.specs.Code.{Code, code}
use Rattle.calculus.specs.Elements.{plain, elements, makes}
use Rattle.calculus.specs.Layout.{bit, mark, row_words, Words}
use Rattle.calculus.proofs.Digits.{T_and, T-fst, T-snd, T_true}
use Rattle.calculus.proofs.Slices.{pour-words, pour-adds, pour-new, pour-has, length-mark, mark-words, mark-new, mark-has}
use Rattle.rows.specs.declared.layout.Layout.{Layout}
use Rattle.rows.specs.Laid.{LaidOut}
use Rattle.rows.proofs.Full.{full, full-bit, full-words, full-short}
use Rattle.masks.specs.declared.Sort.{Sort}
use Rattle.masks.specs.declared.Sort.TheVariants as sorts
use Rattle.rows.specs.Mask.{Mask}
use Rattle.masks.specs.Masks.{Masked, property, making_number, word_makes, sort_has, mark_if, mark_word, plain_masks, first_word, Filled, FilledIn}
use Rattle.masks.proofs.Sorts.{plain_has, plain-property, made-property, word-making, and_yes, and_no, both, pour-rest, mark-rest, if-at, if-other, if-length, if-rest, if-words, mask-part}

-- ---- the plain elements

module _ (zeros : List ℕ) (row lead : ℕ) (z : (k : ℕ) → get_or zeros k 0 ≡ 0) (some : 1 ≤ lead) (most : lead ≤ row) (room : 4 * row ≤ length zeros) where
  zero-digit : (d : ℕ) → bit zeros d ≡ false
  unfolding bit
  zero-digit d = ap (λ (x : ℕ). member x (d % 32)) (z (d / 32)) ∙ member-empty (d % 32)

  plain-words : Words (plain_masks row lead zeros)
  unfolding plain_masks
  plain-words =
      pour-words (mark zeros (32 * row + 7)) (3 * row) (replicate lead full)
      (mark-words zeros (32 * row + 7) (λ k. rw (z k) (lit< tt))) (full-words lead)

  plain-new : (d : ℕ) → T (bit (plain_masks row lead zeros) d) → (d ≡ 32 * row + 7) ⊎ ((96 * row ≤ d) × (d < 96 * row + 32 * lead))
  unfolding plain_masks
  plain-new d t =
      ⊎_elim
      (λ x. ⊎_elim (λ y. absurd (subst T (zero-digit d) y)) (λ e. inl e) (mark-new zeros (32 * row + 7) d x))
      (λ x. let s : d - 32 * (3 * row) < 32 * lead = full-short lead (d - 32 * (3 * row)) x.1 in
      let l : 32 * (3 * row) ≤ d = x.0 in inr (omega arith, omega arith))
      (pour-new (mark zeros (32 * row + 7)) (3 * row) (replicate lead full) d t)

  plain-seven : T (bit (plain_masks row lead zeros) (32 * row + 7))
  unfolding plain_masks
  plain-seven = pour-adds (mark zeros (32 * row + 7)) (3 * row) _ (32 * row + 7) (mark-has zeros (32 * row + 7) (omega arith))

  plain-sent : (v : ℕ) → v < 32 * lead → T (bit (plain_masks row lead zeros) (32 * (3 * row) + v))
  unfolding plain_masks
  plain-sent v h =
      pour-has (mark zeros (32 * row + 7)) (3 * row) (replicate lead full) v (omega (arith, length-mark zeros (32 * row + 7)))
      (full-bit lead v h)

  pub plain-rest : drop (4 * row) (plain_masks row lead zeros) ≡ drop (4 * row) zeros
  unfolding plain_masks
  plain-rest =
      pour-rest (mark zeros (32 * row + 7)) (3 * row) (replicate lead full) (4 * row) (omega (arith, length-replicate lead full))
      ∙ mark-rest zeros (32 * row + 7) (4 * row) (omega arith)

  abbrev below : ℕ → Bool
  below v = ltb v (32 * lead)

  plain-digit : (s : Sort) (v : ℕ) → v < 32 * row → bit (plain_masks row lead zeros) (32 * first_word s row + v) ≡ (below v && plain_has s v)
  unfolding first_word plain_has
  plain-digit sorts.Function v h =
      both _ _ (λ t. absurd (⊎_elim (λ e. omega arith) (λ e. omega (arith, e.0)) (plain-new (32 * 0 + v) t)))
      (λ t. absurd (T-snd (below v) false t))
  plain-digit sorts.Record v h =
      both _ _
      (λ t. ⊎_elim (λ e. T_and (below v) (eqb v 7) (lt→ltb v (32 * lead) (omega arith)) (subst T (sym (eq-eqb v 7 (omega arith))) tt))
      (λ e. absurd (omega (arith, e.0))) (plain-new (32 * row + v) t))
      (λ t. let e : v ≡ 7 = eqb-true v 7 (T_true (eqb v 7) (T-snd (below v) (eqb v 7) t)) in
      subst (λ (k : ℕ). T (bit (plain_masks row lead zeros) (32 * row + k))) (sym e) plain-seven)
  plain-digit sorts.Cell v h =
      both _ _ (λ t. absurd (⊎_elim (λ e. omega arith) (λ e. omega (arith, e.0)) (plain-new (32 * (2 * row) + v) t)))
      (λ t. absurd (T-snd (below v) false t))
  plain-digit sorts.Message v h =
      both _ _
      (λ t. ⊎_elim (λ e. absurd (omega arith))
      (λ e. T_and (below v) true (lt→ltb v (32 * lead) (omega (arith, e.1))) tt) (plain-new (32 * (3 * row) + v) t))
      (λ t. plain-sent v (ltb→lt v (32 * lead) (T-fst (below v) true t)))

  pub plain-filled : (c : Code) → plain c ≡ 32 * lead → Filled c row (32 * lead) (plain_masks row lead zeros)
  plain-filled c n = record { words = plain-words; digits = λ s v h. plain-digit s v h ∙ go s v (dec_lt v (32 * lead)) }
    where
      go : (s : Sort) (v : ℕ) → Dec (v < 32 * lead) → (below v && plain_has s v) ≡ (below v && property s c v)
      go s v (yes h) = ap (λ (b : Bool). below v && b) (plain-property c v s (omega arith))
      go s v (no h) = sym (and_no (below v) (plain_has s v) (le-ltb v (32 * lead) (omega arith))) ∙ and_no (below v) _ (le-ltb v (32 * lead) (omega arith))

-- ---- what a word makes

module _ (ws : List ℕ) (row v m : ℕ) (inside : v < 32 * row) (room : 4 * row ≤ length ws) where
  -- the words after each sort
  abbrev one : List ℕ
  one = mark_if (sort_has sorts.Function m) ws v

  abbrev two : List ℕ
  two = mark_if (sort_has sorts.Record m) one (32 * row + v)

  abbrev three : List ℕ
  three = mark_if (sort_has sorts.Cell m) two (64 * row + v)

  one-length : length one ≡ length ws
  one-length = if-length ws v (sort_has sorts.Function m)

  two-length : length two ≡ length ws
  two-length = if-length one (32 * row + v) (sort_has sorts.Record m) ∙ one-length

  three-length : length three ≡ length ws
  three-length = if-length two (64 * row + v) (sort_has sorts.Cell m) ∙ two-length

  pub word-words : Words ws → Words (mark_word row v m ws)
  unfolding mark_word
  word-words w =
      if-words three (96 * row + v) (sort_has sorts.Message m)
      (if-words two (64 * row + v) (sort_has sorts.Cell m)
      (if-words one (32 * row + v) (sort_has sorts.Record m) (if-words ws v (sort_has sorts.Function m) w)))

  pub word-rest : drop (4 * row) (mark_word row v m ws) ≡ drop (4 * row) ws
  unfolding mark_word
  word-rest =
      if-rest three (96 * row + v) (sort_has sorts.Message m) (4 * row) (omega arith)
      ∙ if-rest two (64 * row + v) (sort_has sorts.Cell m) (4 * row) (omega arith)
      ∙ if-rest one (32 * row + v) (sort_has sorts.Record m) (4 * row) (omega arith)
      ∙ if-rest ws v (sort_has sorts.Function m) (4 * row) (omega arith)

  -- a digit that a sort leaves alone
  module _ (d : ℕ) where
    first-kept : (d ≡ v → ⊥) → bit one d ≡ bit ws d
    first-kept h = if-other ws v (sort_has sorts.Function m) d h

    second-kept : (d ≡ 32 * row + v → ⊥) → bit two d ≡ bit one d
    second-kept h = if-other one (32 * row + v) (sort_has sorts.Record m) d h

    third-kept : (d ≡ 64 * row + v → ⊥) → bit three d ≡ bit two d
    third-kept h = if-other two (64 * row + v) (sort_has sorts.Cell m) d h

    fourth-kept : (d ≡ 96 * row + v → ⊥) → bit (mark_word row v m ws) d ≡ bit three d
    unfolding mark_word
    fourth-kept h = if-other three (96 * row + v) (sort_has sorts.Message m) d h

  pub word_kept : (s : Sort) (u : ℕ) → u < 32 * row → (u ≡ v → ⊥)
      → bit (mark_word row v m ws) (32 * first_word s row + u) ≡ bit ws (32 * first_word s row + u)
  unfolding first_word
  word_kept s u l h =
      let d = 32 * first_word s row + u in
      fourth-kept d (λ e. go3 s e) ∙ third-kept d (λ e. go2 s e) ∙ second-kept d (λ e. go1 s e) ∙ first-kept d (λ e. go0 s e)
    where
      go0 : (s : Sort) → 32 * first_word s row + u ≡ v → ⊥
      go0 sorts.Function e = h (omega arith)
      go0 sorts.Record e = omega arith
      go0 sorts.Cell e = omega arith
      go0 sorts.Message e = omega arith

      go1 : (s : Sort) → 32 * first_word s row + u ≡ 32 * row + v → ⊥
      go1 sorts.Function e = omega arith
      go1 sorts.Record e = h (omega arith)
      go1 sorts.Cell e = omega arith
      go1 sorts.Message e = omega arith

      go2 : (s : Sort) → 32 * first_word s row + u ≡ 64 * row + v → ⊥
      go2 sorts.Function e = omega arith
      go2 sorts.Record e = omega arith
      go2 sorts.Cell e = h (omega arith)
      go2 sorts.Message e = omega arith

      go3 : (s : Sort) → 32 * first_word s row + u ≡ 96 * row + v → ⊥
      go3 sorts.Function e = omega arith
      go3 sorts.Record e = omega arith
      go3 sorts.Cell e = omega arith
      go3 sorts.Message e = h (omega arith)

  pub word_set : (s : Sort) → bit ws (32 * first_word s row + v) ≡ false → bit (mark_word row v m ws) (32 * first_word s row + v) ≡ sort_has s m
  unfolding first_word mark_word
  word_set sorts.Function f =
      let d = 32 * 0 + v in
      fourth-kept d (λ e. omega arith) ∙ third-kept d (λ e. omega arith) ∙ second-kept d (λ e. omega arith)
      ∙ if-at ws v (sort_has sorts.Function m) d (omega arith) (omega arith) f
  word_set sorts.Record f =
      let d = 32 * row + v in
      fourth-kept d (λ e. omega arith) ∙ third-kept d (λ e. omega arith)
      ∙ if-at one (32 * row + v) (sort_has sorts.Record m) d refl (omega (arith, one-length)) (first-kept d (λ e. omega arith) ∙ f)
  word_set sorts.Cell f =
      let d = 32 * (2 * row) + v in
      fourth-kept d (λ e. omega arith)
      ∙ if-at two (64 * row + v) (sort_has sorts.Cell m) d (omega arith) (omega (arith, two-length))
      (second-kept d (λ e. omega arith) ∙ first-kept d (λ e. omega arith) ∙ f)
  word_set sorts.Message f =
      let d = 32 * (3 * row) + v in
      if-at three (96 * row + v) (sort_has sorts.Message m) d (omega arith) (omega (arith, three-length))
      (third-kept d (λ e. omega arith) ∙ second-kept d (λ e. omega arith) ∙ first-kept d (λ e. omega arith) ∙ f)

-- one word more
module _ (ws masks : List ℕ) (row first p : ℕ) (r : reading ws ≡ accepted) (n : plain (code ws) ≡ first) (inside : first + p < 32 * row) (room : 4 * row ≤ length masks) where
  same_test : (v n : ℕ) → (v ≡ n → ⊥) → ltb v n ≡ ltb v (n + 1)
  same_test v n h = go (dec_lt v n)
    where
      go : Dec (v < n) → ltb v n ≡ ltb v (n + 1)
      go (yes l) = lt-ltb v n l ∙ sym (lt-ltb v (n + 1) (omega arith))
      go (no l) = le-ltb v n (omega arith) ∙ sym (le-ltb v (n + 1) (omega arith))

  pub one_more : (m : ℕ) → m ≡ word_makes (get_or ws p 0) → Filled (code ws) row (first + p) masks
      → Filled (code ws) row (first + (p + 1)) (mark_word row (first + p) m masks)
  one_more m e f =
      record {
        words = word-words masks row (first + p) m inside room f.words;
        digits = λ s v h. go s v h (ℕ_discrete v (first + p)) ∙ ap (λ (n : ℕ). ltb v n && property s (code ws) v) (omega arith);
      }
    where
      made : (s : Sort) → sort_has s m ≡ property s (code ws) (first + p)
      made s =
          let q : p ≡ first + p - plain (code ws) = omega arith in
          ap (sort_has s) (e ∙ word-making ws r p ∙ ap (λ (k : ℕ). making_number (makes ((code ws).node k))) q)
          ∙ made-property (code ws) (first + p) s (omega arith)

      go : (s : Sort) (v : ℕ) → v < 32 * row → Dec (v ≡ first + p)
          → bit (mark_word row (first + p) m masks) (32 * first_word s row + v) ≡ (ltb v (first + p + 1) && property s (code ws) v)
      go s v h (yes k) =
          subst (λ (u : ℕ). bit (mark_word row (first + p) m masks) (32 * first_word s row + u) ≡ (ltb u (first + p + 1) && property s (code ws) u)) (sym k)
          (word_set masks row (first + p) m inside room s
          (f.digits s (first + p) inside ∙ sym (and_no (ltb (first + p) (first + p)) _ (le-ltb (first + p) (first + p) (omega arith))))
          ∙ made s ∙ and_yes (ltb (first + p) (first + p + 1)) _ (lt-ltb (first + p) (first + p + 1) (omega arith)))
      go s v h (no k) =
          word_kept masks row (first + p) m inside room s v h k
          ∙ f.digits s v h
          ∙ ap (λ (b : Bool). b && property s (code ws) v) (same_test v (first + p) k)

-- ---- all of them

module _ (c : Code) (masks : List ℕ) (l : Layout) (o : LaidOut c l) where
  pub lead-some : 1 ≤ l.lead
  lead-some = omega (arith, o.lead)

  pub lead-fits : 32 * l.lead + c.size ≤ 32 * l.row
  unfolding row_words
  lead-fits = omega (arith, o.lead, o.row)

  module _ (room : 4 * l.row ≤ length masks) (f : Filled c l.row (32 * l.lead + c.size) masks) where
    row-mask : (s : Sort) → first_word s l.row + l.row ≤ length masks
        → Mask c (property s c) (take l.row (drop (first_word s l.row) masks))
    row-mask s h =
        mask-part c (property s c) masks (first_word s l.row) l.row (sym o.row) h f.words
        (λ v b. f.digits s v (omega (arith, lead-fits, o.lead))
        ∙ sym (and_yes (ltb v (32 * l.lead + c.size)) _ (lt-ltb v (32 * l.lead + c.size) (omega (arith, o.lead)))))

    masked : Masked c masks l.row
    unfolding property first_word
    masked =
        record {
          functions = row-mask sorts.Function (omega arith);
          records = row-mask sorts.Record (omega arith);
          cells = row-mask sorts.Cell (omega arith);
          messages = row-mask sorts.Message (omega arith);
        }

    pub filled_in : (zeros : List ℕ) → drop (4 * l.row) masks ≡ drop (4 * l.row) zeros → FilledIn c l.row zeros masks
    filled_in zeros e =
        let n : 32 * l.lead + c.size ≡ elements c = omega (arith, o.lead) in
        record { masked = masked; filled = subst (λ (n : ℕ). Filled c l.row n masks) n f; rest = e }

-- Wish 11 of document 02: for every accepted system the order of its blocks does not matter.
use Prim.Native.Nat.{ℕ, suc, ◌≤◌, ◌<◌}
use mathlib.Core.Path.{◌≡◌, sym, ap, ◌∙◌, subst, subst₂}
use mathlib.Core.List.{List, [], ◌∷◌, map, flatten, Permᴰ}
use native.Mathlib.Decide.{dec_lt}
use native.Mathlib.Omega.{arith}
use lib.ListN.{length, get_or}
use Rattle.table.specs.Words.{kind}
use Rattle.table.specs.Scan.{accepted, names_at, reading}
use Rattle.table.specs.Code.{code}
use Rattle.table.proofs.Linked.{linked}
use Rattle.table.proofs.Widths.{names-most}
use Rattle.blocks.specs.Blocks.{blocks, places, table_of, Good, All}
use Rattle.blocks.proofs.Block.{good-long}
use Rattle.blocks.proofs.Tables.{blocks-good, blocks-few, blocks-whole}
use Rattle.blocks.proofs.Places.{blocks-places}
use Rattle.blocks.proofs.Rearranged.{rearranged-good, rearranged-accepted, rearranged-blocks}
use Rattle.solver.specs.Ceiling.{under}
use Rattle.block_order.specs.Lines.{reports}
use Rattle.block_order.specs.Order.{Moves, rearranged, Independent, OrderFree}
use Rattle.block_order.proofs.Renumbering.{Long, Rearranges, perm-length, rearranges}
use Rattle.block_order.proofs.Codes.{Sound, Onto, long-table, rearranged-code, word_moved}
use Rattle.block_order.proofs.Sets.{Both, sets_same, leak-same}
use Rattle.block_order.proofs.Facts.{facts-same}
use Rattle.block_order.proofs.Answers.{answer-same}
use Rattle.block_order.proofs.Reports.{reports-same}

all-long : (names : ℕ) (bs : List (List ℕ)) → All (Good names) bs → All Long bs
all-long names [] g = tt
all-long names (b ∷ bs) g = (let l = good-long names b g.0 in omega arith, all-long names bs g.1)

-- a permutation of the numbers that leaves alone those from n on has the others below n
kept-below : (π σ : ℕ → ℕ) (n : ℕ) → ((p : ℕ) → σ (π p) ≡ p) → ((p : ℕ) → n ≤ p → σ p ≡ p) → (p : ℕ) → p < n → π p < n
kept-below π σ n there fixed p h = go (dec_lt (π p) n)
  where
    go : Dec (π p < n) → π p < n
    go (yes l) = l
    go (no l) = let e : p ≡ π p = sym (there p) ∙ fixed (π p) (omega arith) in omega arith

module _ (bs cs : List (List ℕ)) (r : Rearranges 1 bs cs) (count : length bs ≡ length cs) where
  behind : (p : ℕ) → suc (length (flatten bs)) ≤ p → r.π p ≡ p
  behind p h = r.behind p (omega arith)

  behind-back : (p : ℕ) → suc (length (flatten bs)) ≤ p → r.σ p ≡ p
  behind-back p h = ap r.σ (sym (behind p h)) ∙ r.there p

  pub onto : Onto r.π bs cs
  onto =
      let l = r.long in
      record {
        head = r.before 0 (omega arith);
        inside = λ p h. let i = kept-below r.π r.σ (suc (length (flatten bs))) r.there behind-back p h in omega arith;
        behind = behind;
        count = count;
        long = r.long;
        moves = r.moves;
      }

  pub onto-back : Onto r.σ cs bs
  onto-back =
      let l = r.long in
      record {
        head = ap r.σ (sym (r.before 0 (omega arith))) ∙ r.there 0;
        inside = λ p h. let i = kept-below r.σ r.π (suc (length (flatten bs))) r.back behind p (omega arith) in omega arith;
        behind = λ p h. behind-back p (omega arith);
        count = sym count;
        long = sym r.long;
        moves = r.moves-back;
      }

-- ---- tables of blocks

module _ (k names : ℕ) (bs cs : List (List ℕ)) (x : Sound k names bs) (y : Sound k names cs) (p : Permᴰ bs cs)
    (own : blocks (table_of k bs) ≡ bs) (others : blocks (table_of k cs) ≡ cs) where
  abbrev ws : List ℕ
  ws = table_of k bs

  abbrev ds : List ℕ
  ds = table_of k cs

  r : Rearranges 1 bs cs
  r = rearranges 1 p

  there : Onto r.π bs cs
  there = onto bs cs r (perm-length p)

  both : Both r.π r.σ (code (table_of k bs)) (code (table_of k cs))
  both =
      record {
        there = r.there;
        back = r.back;
        to = rearranged-code k names bs cs x y r.π there;
        from = rearranged-code k names cs bs y x r.σ (onto-back bs cs r (perm-length p));
        first = linked ws x.reads;
        second = linked ds y.reads;
      }

  long : length (table_of k cs) ≡ length (table_of k bs)
  long = let l = r.long in omega (arith, long-table k bs, long-table k cs)

  same_size : (code (table_of k bs)).size ≡ (code (table_of k cs)).size
  unfolding code
  same_size = sym long

  starts : Permᴰ (map r.π (code (table_of k bs)).blocks) (code (table_of k cs)).blocks
  starts =
      subst₂ (λ (ps qs : List ℕ). Permᴰ (map r.π ps) qs)
      (sym (blocks-places ws x.reads ∙ ap (places 1) own)) (sym (blocks-places ds y.reads ∙ ap (places 1) others))
      (r.starts (all-long names bs x.goods)).1

  tables-independent : Independent (table_of k bs) (table_of k cs)
  unfolding reports
  tables-independent =
      let c = code ws in
      let d = code ds in
      record {
        accepts = y.reads;
        π = r.π;
        σ = r.σ;
        renumbers =
            record {
              there = r.there;
              back = r.back;
              long = long;
              inside = λ q h. omega (arith, there.inside q (omega (arith, long-table k bs)), long-table k cs);
              head = there.head;
              word = word_moved k names bs cs x y r.π there;
              moves = subst₂ (λ (us vs : List (List ℕ)). Moves r.π 1 us vs) (sym own) (sym others) r.moves;
            };
        leak = leak-same r.π r.σ c d both;
        facts = facts-same r.π r.σ c d both;
        sets = sets_same r.π r.σ c d both;
        answer = answer-same r.π r.σ ws ds x.reads y.reads both same_size;
        ceiling = λ ρ bound n est work. ap (under n) (answer-same r.π r.σ ws ds x.reads y.reads both same_size ρ bound est work);
        lines = λ ρ. reports-same r.π r.σ c d both ρ starts;
      }

-- ---- any accepted table

pub order-free : (ws : List ℕ) → reading ws ≡ accepted → OrderFree ws
order-free ws e bs p =
    let k = kind (get_or ws 0 0) in
    let n = names_at ws in
    let whole : table_of k (blocks ws) ≡ ws = blocks-whole ws e in
    let few = blocks-few ws e in
    let same : length (blocks ws) ≡ length bs = perm-length p in
    let x : Sound k n (blocks ws) =
    record { goods = blocks-good ws e; few = omega (arith, names-most (get_or ws 0 0)); reads = ap reading whole ∙ e } in
    let y : Sound k n bs =
    record { goods = rearranged-good ws e bs p; few = omega (arith, names-most (get_or ws 0 0)); reads = rearranged-accepted ws e bs p } in
    subst (λ (vs : List ℕ). Independent vs (rearranged ws bs)) whole
    (tables-independent k n (blocks ws) bs x y p (ap blocks whole) (rearranged-blocks ws e bs p))

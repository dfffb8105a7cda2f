use Rattle.std.proofs.Common.{◌≡◌, ◌∙◌, refl, ℕ, List, [], ◌∷◌, rules}
use Rattle.std.specs.List.{fold}
use Rattle.fingerprint.specs.Fnv.{step, hash_from, basis, fnv1a}
use Rattle.fingerprint.proofs.fingerprint.Goals as goal

hash_from-fold : (bytes : List ℕ) (hash : ℕ) → fold step hash bytes ≡ hash_from hash bytes
unfolding hash_from
hash_from-fold [] hash = refl
hash_from-fold (byte ∷ bytes) hash = hash_from-fold bytes (step hash byte)

pub returns : goal.returns
unfolding fnv1a
returns c =
    let folded : c.fold.result ≡ fold step basis c.args.bytes.now = search rules in
    folded ∙ hash_from-fold c.args.bytes.now basis

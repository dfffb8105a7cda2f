-- The C interface of manifests: what a manifest says as one number.
use Rattle.std.specs.Prelude.{ℕ, ◌+◌, ◌*◌, ◌^◌}
use Rattle.manifest.specs.Manifest.{Outcome, refused, accepted}

-- set + version × 2^24 + counted × 2^40; refused, 2^32 + number × 65,536 + place
unfoldable pub outcome_number : Outcome → ℕ
outcome_number (accepted version set others) = set + version * 2 ^ 24 + others * 2 ^ 40
outcome_number (refused number place) = 2 ^ 32 + number * 65536 + place

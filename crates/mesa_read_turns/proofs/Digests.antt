-- The bytes of a digest.
use Rattle.std.proofs.Common.{ℕ, suc, ◌<◌, ◌^◌, List, [], ◌∷◌}
use Rattle.std.specs.List.{AllByRecursion}
use Rattle.mesa_pick_files.specs.mesa_key.Spelling.{AreBytes}

pub all_bytes : (bytes : List ℕ) → AreBytes bytes → AllByRecursion (λ byte. byte < 2 ^ 8) bytes
all_bytes [] are = tt
all_bytes (byte ∷ bytes) are = (are 0, all_bytes bytes (λ i. are (suc i)))

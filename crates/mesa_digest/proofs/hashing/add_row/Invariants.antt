use Rattle.std.proofs.Common.{◌++◌, ℕ, List, take}
use Rattle.std.specs.Prelude.{flat_map}
use Rattle.sha2.specs.Hashers.{Holds256}
use Rattle.mesa_digest.specs.Digests.{amount_bytes}
use Rattle.mesa_digest.proofs.hashing.add_row.Given as goal

abbrev pub invariant-values : goal.invariant-values
invariant-values l = (m : List ℕ) → Holds256 l.fn.hasher m → Holds256 l.hasher (m ++ (l.row.key ++ flat_map amount_bytes (take l.value-index l.row.values)))

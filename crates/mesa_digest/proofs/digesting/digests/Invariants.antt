use Rattle.std.proofs.Common.{◌≡◌, ◌%◌, ◌^◌, take}
use Rattle.std.specs.Prelude.{flat_map}
use Rattle.std.specs.List.{sum_by}
use Rattle.sha2.specs.Hashers.{Holds256}
use Rattle.mesa_digest.specs.Digests.{mark, row_bytes}
use Rattle.mesa_digest.proofs.digesting.digests.Given as goal

-- the rows so far went into both digests
abbrev pub invariant-rows : goal.invariant-rows
invariant-rows l = record {
  ordered : Holds256 l.hasher (flat_map row_bytes (take l.row-index l.rows));
  set : l.set ≡ sum_by (mark l.schema) (take l.row-index l.rows) % 2 ^ 128;
}

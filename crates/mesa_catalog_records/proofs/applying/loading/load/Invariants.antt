use Rattle.std.proofs.Common.{◌≡◌, ℕ, ◌≤◌, map}
use Rattle.std.specs.Prelude.{find}
use Rattle.mesa_table_records.specs.Readied.{is_part_of, part_in}
use Rattle.mesa_catalog_records.proofs.Loads.{AreLoading}
use Rattle.mesa_catalog_records.proofs.applying.loading.load.Given as goal

-- the tables so far are loaded, and the parts of the others are left
abbrev pub invariant-loop-number : goal.invariant-loop-number
invariant-loop-number l = record {
  loading : AreLoading l.version (map part_in l.initial.parts.items) l.initial.tables l.tables l.number;
  left : (m : ℕ) → l.number ≤ m → find (is_part_of m) l.parts.items ≡ find (is_part_of m) l.initial.parts.items;
}

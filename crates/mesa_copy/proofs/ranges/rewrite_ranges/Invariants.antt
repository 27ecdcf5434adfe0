use Rattle.std.proofs.Common.{◌≡◌, ◌≤◌, ◌++◌, ℕ, List, flat_map, get_or, length, take}
use Rattle.mesa_schema.specs.Recasts.{Recast}
use Rattle.mesa_compact.specs.mesa_merge.Faults.{faults_of}
use Rattle.mesa_open_files.specs.Recasts.{AreRangesOf, AreRewritten, own, recast_ids}
use Rattle.mesa_file.specs.Serials.{AreNext}
use Rattle.mesa_open_files.specs.declared.recasting.RecastRange.{RecastRange}
use Rattle.mesa_open_files.specs.declared.recasting.RecastedRange.{RecastedRange}
use Rattle.mesa_copy.specs.Copying.{known_ranges}
use Rattle.mesa_copy.specs.Renewals.{IsRenewal, columns_in}
use Rattle.mesa_copy.proofs.ranges.rewrite_ranges.Given as goal

abbrev pub invariant-each : goal.invariant-each
invariant-each g l = record {
  count : length l.made.items ≡ l.i;
  rest : (j : ℕ) (d : RecastRange g.row.R.Denot) → l.i ≤ j → get_or l.ranges j d ≡ get_or l.fn.ranges j d;
  rewritten : (r : Recast) → IsRenewal r l.renewal → AreRewritten g.M.Made.bytes g.M.Made.id_of g.R.FileReader.bytes (columns_in l.renewal) r (take (length l.fn.made.items) l.fn.ranges) l.fn.made.items
      → AreRewritten g.M.Made.bytes g.M.Made.id_of g.R.FileReader.bytes (columns_in l.renewal) r (take l.i l.fn.ranges) l.made.items;
  more : (more : List (RecastedRange g.row.M.Denot)) × (l.made.items ≡ l.fn.made.items ++ more) × AreNext l.fn.ids l.ids (recast_ids g.M.Made.id_of more);
  known : known_ranges g.R.FileReader.bytes l.ranges ≡ known_ranges g.R.FileReader.bytes l.fn.ranges;
  kept : AreRangesOf g.R.FileReader.bytes l.renewal.table.value l.ranges;
  faults : g.B.Bench.faults l.bench ≡ g.B.Bench.faults l.fn.bench;
  reads : faults_of g.R.FileReader.faults (flat_map own l.ranges) ≡ faults_of g.R.FileReader.faults (flat_map own l.fn.ranges);
}

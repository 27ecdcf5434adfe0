use Rattle.std.proofs.Common.{◌≡◌, ◌≤◌, drop, length}
use Rattle.std.specs.Prelude.{flat_map}
use Rattle.mesa_schema.specs.Recasts.{recast_lineage}
use Rattle.mesa_catalog_table.specs.mesa_store_spec.Catalog.{recast_in}
use Rattle.mesa_catalog_table.specs.mesa_store_spec.Fitting.{singles_renewed}
use Rattle.mesa_table_records.specs.Stated.{stating_loaded}
use Rattle.mesa_table_records.proofs.renewing.renews_loaded.Given as goal

-- the versions that are left decide, and what is told that is left
abbrev pub invariant-loop-single : goal.invariant-loop-single
invariant-loop-single l = record {
  few : l.told ≤ length l.k.singles;
  left : singles_renewed (recast_lineage l.evolving (recast_in l.k)) l.k.epoch (flat_map stating_loaded (drop l.single-index l.loaded)) (drop l.told l.k.singles)
      ≡ singles_renewed (recast_lineage l.evolving (recast_in l.k)) l.k.epoch (flat_map stating_loaded l.loaded) l.k.singles;
}

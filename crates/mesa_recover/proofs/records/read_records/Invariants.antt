use Rattle.std.proofs.Common.{◌≡◌, suc, take, Some, None}
use Rattle.mesa_journal.specs.Read.{bodies_of}
use Rattle.mesa_store_spec.specs.Journaled.{catalog}
use Rattle.mesa_recover.proofs.records.read_records.Given as goal

-- the first body and those so far make the catalogue
abbrev pub invariant-loop-body : goal.invariant-loop-body
invariant-loop-body l = record {
  made : catalog l.area (bodies_of (take (suc l.body-index) l.bodies)) ≡ Some l.catalog.catalogue;
  free : l.catalog.reserved ≡ None;
}

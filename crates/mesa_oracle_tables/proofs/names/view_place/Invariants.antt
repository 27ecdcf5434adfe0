use Rattle.std.proofs.Common.{◌≡◌, drop}
use Rattle.mesa_oracle_tables.specs.Found.{view_named}
use Rattle.mesa_oracle_tables.proofs.names.view_place.Given as goal

-- the first among the others is the first
abbrev pub invariant-views : goal.invariant-views
invariant-views l = record {
  place : view_named l.name (drop l.view l.evolving.views) ≡ view_named l.name l.evolving.views;
}

use Rattle.std.proofs.Common.{◌≡◌, take}
use Rattle.mesa_oracle_tables.specs.Kept.{shared}
use Rattle.mesa_oracle_tables.proofs.store.versions.shared_again.Given as goal

-- the contents so far
abbrev pub invariant-tables : goal.invariant-tables
invariant-tables l = shared l.again ≡ shared (take l.content-index l.contents)

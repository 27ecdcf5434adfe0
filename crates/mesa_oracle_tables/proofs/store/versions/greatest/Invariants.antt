use Rattle.std.proofs.Common.{◌≡◌, drop}
use Rattle.mesa_oracle_tables.specs.Kept.{greatest_of}
use Rattle.mesa_oracle_tables.proofs.store.versions.greatest.Given as goal

-- the greatest of the one so far and of those that are left
abbrev pub invariant-oldests : goal.invariant-oldests
invariant-oldests l = greatest_of l.found (drop l.oldest-index l.oldests) ≡ greatest_of l.floor l.oldests

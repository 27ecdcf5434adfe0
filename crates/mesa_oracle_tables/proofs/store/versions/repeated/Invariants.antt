use Rattle.std.proofs.Common.{◌≡◌, replicate}
use Rattle.mesa_oracle_tables.proofs.store.versions.repeated.Given as goal

-- so many are there
abbrev pub invariant-count : goal.invariant-count
invariant-count l = l.many ≡ replicate l._done l.number

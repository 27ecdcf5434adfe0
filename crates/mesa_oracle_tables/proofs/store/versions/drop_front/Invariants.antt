use Rattle.std.proofs.Common.{◌≡◌, drop}
use Rattle.mesa_oracle_tables.proofs.store.versions.drop_front.Given as goal

-- so many are gone
abbrev pub invariant-versions : goal.invariant-versions
invariant-versions l = l.versions.items ≡ drop l._done l.fn.versions.items

use Rattle.std.proofs.Common.{◌≡◌, ◌++◌, drop, length, map, take}
use Rattle.std.specs.Prelude.{max}
use Rattle.mesa_oracle_tables.proofs.store.versions.raise.Given as goal

-- those before the one at hand are raised, and the others are as they were
abbrev pub invariant-tables : goal.invariant-tables
invariant-tables l = record {
  done : take l.number l.oldests ++ map (λ oldest. max oldest l.version) (drop l.number l.oldests) ≡ map (λ oldest. max oldest l.version) l.fn.oldests;
  long : length l.oldests ≡ length l.fn.oldests;
}

use Rattle.std.proofs.Common.{◌≡◌, ℕ, List, map, take}
use Rattle.mesa_schema.specs.mesa_columns.Columns.{place_of}
use Rattle.mesa_batch.specs.declared.glance.Glanced.{Glanced}
use Rattle.mesa_batch.specs.Numbers.{number_at}
use Rattle.mesa_batch.proofs.glance.numbered.Given as goal

-- the tables so far have their numbers
abbrev pub invariant-tables : goal.invariant-tables
invariant-tables l = (q : List ℕ) → number_at q l.numbers.entries ≡ place_of q (take l.number (map (λ (t : Glanced). t.name) l.tables))

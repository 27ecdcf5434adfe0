use Rattle.std.proofs.Common.{◌≡◌, ◌<◌, ℕ, List, [], drop, length, map, None, Some}
use Rattle.std.specs.Prelude.{slice_get}
use Rattle.mesa_schema.specs.Changes.{columns_of}
use Rattle.mesa_batch.specs.Batch.{Placed}
use Rattle.mesa_batch.specs.Gathered.{rows_at}
use Rattle.mesa_batch.specs.Glance.{Known}
use Rattle.mesa_batch.specs.Numbers.{known_of}
use Rattle.mesa_batch.specs.Totals.{abs_totals, over_bound, totals_with}
use Rattle.mesa_model.specs.Load.{bounds_checked}
use Rattle.mesa_oracle_tables.specs.Kept.{nowhere, tables_in, totals_in}
use Rattle.mesa_oracle_tables.specs.Grown.{HasRows}
use Rattle.mesa_oracle_tables.proofs.growing.totals_with_batch.Given as goal

-- the tables so far have their totals, and the first refusal is due among the others
abbrev pub invariant-tables : goal.invariant-tables
invariant-tables l = record {
  count : length l.after ≡ l.number;
  more : (number : ℕ) (known : Known) → number < l.number → slice_get (map known_of l.tables) number ≡ Some known → totals_in number l.after ≡ totals_with (totals_in number l.totals) (abs_totals (columns_of known.lineage) (rows_at number l.batch));
  bound : (number : ℕ) (known : Known) → number < l.number → slice_get (map known_of l.tables) number ≡ Some known → over_bound (totals_in number l.totals) (abs_totals (columns_of known.lineage) (rows_at number l.batch)) ≡ None;
  due : (placed : List Placed) → HasRows placed l.batch → bounds_checked placed l.number (tables_in nowhere l.number l.totals [] (drop l.number (map known_of l.tables))) ≡ bounds_checked placed 0 (tables_in nowhere 0 l.totals [] (map known_of l.tables));
}

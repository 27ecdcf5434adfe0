-- What the absolute values of a file's rows add up to.
use Rattle.std.specs.Prelude.{◌≡◌, ℕ, ◌-◌, ◌<◌, ◌^◌, min, List, length, get_or, map}
use Rattle.mesa_open_files.specs.mesa_columns.declared.rows.Row.{Row}
use Rattle.mesa_schema.specs.Changes.{Lineage, columns_at, columns_of, epoch_of, lifted}
use Rattle.mesa_open_files.specs.mesa_batch.Totals.{abs_total, abs_totals}
use Rattle.mesa_examine.specs.declared.totals.Sums.{Sums}

-- a total of 2^128 or more stands as 2^128 - 1, which is more than any total that is recorded
abbrev pub most : ℕ
most = 2 ^ 128 - 1

abbrev pub counted : List ℕ → List ℕ
counted totals = map (λ total. min most total) totals

-- For each of as many value columns, the absolute values of the rows, added up.
pub record AreTotals (columns : ℕ) (totals : List ℕ) (rows : List Row) : Type 0 where
  pub len : length totals ≡ columns
  pub each : (j : ℕ) → j < columns → get_or totals j 0 ≡ min most (abs_total j rows)

-- For each sum column of an epoch the absolute values of rows of that epoch, added up, and for each present one those of the rows at present.
pub record AreSumsOf (l : Lineage) (epoch : ℕ) (rows : List Row) (sums : Sums) : Type 0 where
  pub own : sums.own ≡ counted (abs_totals (columns_at l epoch) rows)
  pub present : sums.present ≡ counted (abs_totals (columns_of l) (map (lifted l epoch (epoch_of l)) rows))

-- A sum that would leave its type, which only unsound bytes can bring.
use Rattle.std.specs.Prelude.{◌≡◌, ℕ, ◌-◌, ◌^◌, List, [], ◌++◌, map, Option, Some, None, false}
use Rattle.mesa_scan.specs.mesa_file.declared.damage.Damage.{Damage}
use Rattle.mesa_scan.specs.mesa_file.declared.damage.Seen.TheVariants as seen
use Rattle.mesa_columns.specs.declared.rows.Row.{Row}
use Rattle.mesa_columns.specs.declared.views.View.{View}
use Rattle.mesa_columns.specs.Columns.{Columns}
use Rattle.mesa_scan.specs.mesa_schema.Views.{view_key_places, view_value_places}
use Rattle.mesa_delta.specs.Reading.{IsIndexed, index_of}
use Rattle.mesa_delta.specs.declared.input.Input.{Input}
use Rattle.mesa_scan.specs.Cursors.{lift_by, reader_in}
use Rattle.mesa_answer.specs.Gathering.{Wanted}
use Rattle.mesa_answer.specs.Sums.{SumLeavesAmong}

-- It is told as a misfit of one of the files whose rows are added up: each call says of which.
abbrev pub IsSumDamage : ℕ → Damage → Type 0
IsSumDamage file d = d ≡ record { file = file; place = 0; want = seen.Fits; found = seen.Misfit 0 }

-- all groups of rows of these columns, by the key columns and with the value columns at these places
abbrev pub every_group : Columns → List ℕ → List ℕ → Wanted
every_group s columns values = record { schema = s; columns = columns; values = values; resume = None; inclusive = false; most = 2 ^ 64 - 1 }

-- all groups of a view of a table with these columns
abbrev pub view_groups : Columns → View → Wanted
view_groups s v = every_group s (view_key_places s v) (view_value_places s v)

-- A sum of a group of one file's rows really leaves its type: they are put in one by one at present, and with one of the first of them the sum of those before it doesn't combine. It is told of this file.
pub record IsFileSum {R : Type 0} (bytes : R → Option (List ℕ)) (w : Wanted) (input : Input R) (d : Damage) : Type 0 where
  pub key : List ℕ
  pub given : List Row
  pub leaves : SumLeavesAmong w [] given key
  pub first : (b : List ℕ) (all : List Row) → bytes (reader_in input) ≡ Some b → IsIndexed (index_of input.reader) all b → (rest : List Row) × (map (lift_by input) all ≡ given ++ rest)
  pub told : IsSumDamage (index_of input.reader).file d

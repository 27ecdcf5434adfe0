-- What a scan has given of an input.
use Rattle.std.specs.Prelude.{◌≡◌, ℕ, ◌≤◌, List, [], get_or, map, take, length, Option, Some}
use Rattle.mesa_delta.specs.mesa_columns.declared.rows.Row.{Row}
use Rattle.mesa_delta.specs.mesa_columns.Columns.{kinds_of}
use Rattle.mesa_schema.specs.Changes.{columns_at, columns_of}
use Rattle.mesa_delta.specs.mesa_fold.Folded.{rows_of}
use Rattle.mesa_schema.specs.Lifting.{Lifts}
use Rattle.mesa_delta.specs.mesa_columns.Rows.{AreRowsOf}
use Rattle.mesa_filter.specs.Filter.{KeyFilter, filtered}
use Rattle.mesa_delta.specs.Reading.{IsIndexed, index_of}
use Rattle.mesa_delta.specs.mesa_delta_format.Spread.{blocks_of}
use Rattle.mesa_delta.specs.declared.input.Input.{Input}
use Rattle.mesa_scan.specs.Cursors.{IsInput, lift_by, reader_in}
use Rattle.mesa_scan.specs.declared.scanning.Scan.{Scan}
use Rattle.mesa_scan.specs.Allowing.{allowed_among}

-- the filter of a scan
abbrev pub filter_of : Scan → KeyFilter
filter_of s = s.filter.now

-- the block at which a scan goes on
abbrev pub next_of : Scan → ℕ
next_of s = s.next

-- how many blocks it has read
abbrev pub read_of : Scan → ℕ
read_of s = s.blocks_read

-- A filter is one of the columns to which an input's rows are lifted.
abbrev pub IsFilterOf : {R : Type 0} → Input R → KeyFilter → Type 0
IsFilterOf i f = f.kinds ≡ kinds_of (columns_of i.evolving.value)

-- how many key columns the rows of an input's file have
abbrev pub keys_in : {R : Type 0} → Input R → ℕ
keys_in i = length (columns_at i.evolving.value i.epoch).keys

-- the rows of a file's first blocks, lifted, that meet a filter
abbrev pub matching : {R : Type 0} → Input R → KeyFilter → List Row → ℕ → List Row
matching i f all n = filtered (columns_of i.evolving.value) f.terms (map (lift_by i) (rows_of (take n (blocks_of (index_of i.reader).layout all))))

-- those of its block of a number
abbrev pub matching_block : {R : Type 0} → Input R → KeyFilter → List Row → ℕ → List Row
matching_block i f all n = filtered (columns_of i.evolving.value) f.terms (map (lift_by i) (get_or (blocks_of (index_of i.reader).layout all) n []))

-- A scan has given just these rows of an input: they have the present columns' form, and where the file is told and its index is true of it, they are the matching rows of the blocks before the one at which it goes on. It has read those of these blocks that may have one.
pub record HasScanned {R : Type 0} (bytes : R → Option (List ℕ)) (i : Input R) (s : Scan) (given : List Row) : Type 0 where
  pub input : IsInput bytes i
  pub filter : IsFilterOf i (filter_of s)
  pub lifts : Lifts s.lift i.evolving.value i.epoch
  pub columns : s.columns ≡ keys_in i
  pub within : next_of s ≤ length (index_of i.reader).entries
  pub counted : read_of s ≡ allowed_among (filter_of s) (keys_in i) (index_of i.reader) (next_of s)
  pub form : AreRowsOf (columns_of i.evolving.value) given
  pub told : (b : List ℕ) (all : List Row) → bytes (reader_in i) ≡ Some b → IsIndexed (index_of i.reader) all b → given ≡ matching i (filter_of s) all (next_of s)

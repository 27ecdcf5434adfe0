-- A store with one table, a batch of one row, and an empty batch.
use Rattle.mesa_delta_format.specs.mesa_key.declared.Format.TheVariants as format
use Rattle.std.proofs.Common.{◌≡◌, refl, ℕ, List, [], ◌∷◌, ◌++◌, Some, None}
use Rattle.std.specs.Prelude.{pos, codes, ◌==◌, if◌then◌else◌}
use Rattle.mesa_delta_format.specs.mesa_value.declared.Agg.TheVariants as agg
use Rattle.mesa_delta_format.specs.mesa_key.declared.KeyType.TheVariants as kind
use Rattle.mesa_history_spec.specs.mesa_columns.declared.rows.Row.{Row}
use Rattle.mesa_history_spec.specs.mesa_schema.Changes.{Lineage}
use Rattle.mesa_history_spec.specs.mesa_file.declared.file_ref.FileRef.{FileRef}
use Rattle.mesa_record.specs.mesa_record_fields.Reading.{file_ref_at}
use Rattle.mesa_record.specs.Reading.{fields_of, files_at}
use Rattle.mesa_record.specs.mesa_record_fields.Reading as reading_below
use Rattle.mesa_commit.specs.mesa_disk.declared.area.Area.TheVariants.{Zero}
use Rattle.mesa_store_spec.specs.Catalog.{Catalog, empty_delta}
use Rattle.mesa_store_spec.specs.Fitting.{fits, catalog_from}
use Rattle.mesa_store_spec.specs.Journaled.{catalog}
use Rattle.mesa_store_spec.specs.Contents.{Rows, kept_of}
use Rattle.mesa_store_spec.proofs.Bodies.{half, word, long, key, id_bytes, first_run, run_1, empty_batch}

-- table,t,k int,v sum
abbrev pub table_t : List ℕ
table_t = 2 ∷ 1 ∷ 116 ∷ 1 ∷ 1 ∷ 107 ∷ 0 ∷ 1 ∷ 1 ∷ 118 ∷ 0 ∷ []

abbrev digest : List ℕ
digest = 96 ∷ 132 ∷ 91 ∷ 33 ∷ 213 ∷ 96 ∷ 80 ∷ 188 ∷ 204 ∷ 191 ∷ 190 ∷ 245 ∷ 49 ∷ 59 ∷ 129 ∷ 144 ∷ 116 ∷ 74 ∷ 200 ∷ 187 ∷ 215 ∷ 95 ∷ 173 ∷ 114 ∷ 0 ∷ 217 ∷ 81 ∷ 254 ∷ 18 ∷ 104 ∷ 211 ∷ 147 ∷ []

-- the file of the row: id, length, rows, blocks, first and last key, aggregates, digest, and no view's file
abbrev pub file_bytes : ℕ → ℕ → List ℕ
file_bytes run k = id_bytes run k ++ long 103 ++ long 1 ++ word 1 ++ (0 ∷ 8 ∷ key 1) ++ (0 ∷ 8 ∷ key 1) ++ (1 ∷ long 5) ++ digest ++ 0 ∷ []

-- row,t,1,5
abbrev pub batch_0 : List ℕ
batch_0 = 5 ∷ word 0 ++ half 1 ++ half 0 ++ word 0 ++ file_bytes 1 0 ++ 1 ∷ long 5

abbrev pub file : FileRef
file = record { format = format.One; id = first_run 0; len = 103; rows = 1; blocks = 1; first = key 1; last = key 1; aggregates = pos 5 ∷ []; digest = digest }

abbrev lineage : Lineage
lineage = record { begins = 0; first = record { keys = record { name = codes "k"; kind = kind.Int } ∷ []; values = record { name = codes "v"; agg = agg.Sum } ∷ [] }; changes = []; views = [] }

abbrev pub bodies : List (List ℕ)
bodies = run_1 ∷ table_t ∷ batch_0 ∷ empty_batch 1 ∷ []

abbrev pub catalogue : Catalog
catalogue = record {
  tables = record {
    name = codes "t";
    lineage = lineage;
    totals = 5 ∷ [];
    oldest = 0;
    base = None;
    cumulatives = [];
    singles = record { epoch = 0; files = Some (record { file = file; views = [] }); totals = Some (5 ∷ []) } ∷ empty_delta ∷ [];
  } ∷ [];
  floor = 0;
  next = 2;
  run = 1;
}

is_catalogue : catalog Zero bodies ≡ Some catalogue
unfolding fields_of file_ref_at files_at reading_below.rising fits catalog_from
is_catalogue = refl

-- key 1, value 5
abbrev pub row : Row
row = record { key = key 1; values = pos 5 ∷ [] }

abbrev pub rows : Rows
rows id = if id == first_run 0 then row ∷ [] else []

-- both versions have the row
stands_for : kept_of rows catalogue ≡ record {
  store = record { tables = record { name = codes "t"; lineage = lineage; totals = 5 ∷ []; oldest = 0; contents = (row ∷ []) ∷ (row ∷ []) ∷ [] } ∷ []; floor = 0 };
  next = 2;
  ranges = record { base_to = None; cumulatives = [] } ∷ [];
}
unfolding kept_of
stands_for = refl

-- The store of one row as it is written now: a file of format 2 and records of the second edition, which may also stand behind those of the first.
use Rattle.mesa_delta_format.specs.mesa_key.declared.Format.TheVariants as format
use Rattle.std.proofs.Common.{◌≡◌, refl, ℕ, List, [], ◌∷◌, ◌++◌, Some, None}
use Rattle.std.specs.Prelude.{pos, codes}
use Rattle.mesa_delta_format.specs.mesa_value.declared.Agg.TheVariants as agg
use Rattle.mesa_delta_format.specs.mesa_key.declared.KeyType.TheVariants as kind
use Rattle.mesa_history_spec.specs.mesa_schema.Changes.{Lineage}
use Rattle.mesa_history_spec.specs.mesa_file.declared.file_ref.FileRef.{FileRef}
use Rattle.mesa_record.specs.mesa_record_fields.Reading.{file_ref_at}
use Rattle.mesa_record.specs.Reading.{fields_of, files_at}
use Rattle.mesa_record.specs.mesa_record_fields.Reading as reading_below
use Rattle.mesa_commit.specs.mesa_disk.declared.area.Area.TheVariants.{Zero}
use Rattle.mesa_store_spec.specs.Catalog.{TableMeta, empty_delta}
use Rattle.mesa_store_spec.specs.Fitting.{fits, catalog_from}
use Rattle.mesa_store_spec.specs.Journaled.{catalog}
use Rattle.mesa_store_spec.proofs.Bodies.{half, word, long, wide, key, id_bytes, first_run, run_1, expire}
use Rattle.mesa_store_spec.proofs.OneRow as first
use Rattle.mesa_store_spec.proofs.OneRow.{table_t}

abbrev digest : List ℕ
digest = 200 ∷ 28 ∷ 41 ∷ 111 ∷ 15 ∷ 110 ∷ 218 ∷ 207 ∷ 96 ∷ 57 ∷ 150 ∷ 61 ∷ 93 ∷ 239 ∷ 42 ∷ 45 ∷ 186 ∷ 5 ∷ 44 ∷ 252 ∷ 221 ∷ 128 ∷ 37 ∷ 57 ∷ 2 ∷ 58 ∷ 191 ∷ 60 ∷ 134 ∷ 28 ∷ 199 ∷ 54 ∷ []

-- the file of the row: format, id, length, rows, blocks, first and last key, aggregates, digest, and no view's file
abbrev pub file_bytes : ℕ → List ℕ
file_bytes k = 2 ∷ id_bytes 1 k ++ long 111 ++ long 1 ++ word 1 ++ (0 ∷ 8 ∷ key 1) ++ (0 ∷ 8 ∷ key 1) ++ (1 ∷ wide 5) ++ digest ++ 0 ∷ []

-- a batch of one row, with this file, and with this total
abbrev pub batch : ℕ → List ℕ → List ℕ → List ℕ
batch version file total = 9 ∷ word version ++ half 1 ++ half 0 ++ word 0 ++ file ++ 1 ∷ total

-- a batch without rows
abbrev empty_batch : ℕ → List ℕ
empty_batch version = 9 ∷ word version ++ half 0

abbrev bodies : List (List ℕ)
bodies = run_1 ∷ table_t ∷ batch 0 (file_bytes 0) (wide 5) ∷ empty_batch 1 ∷ []

abbrev file : ℕ → FileRef
file k = record { format = format.Two; id = first_run k; len = 111; rows = 1; blocks = 1; first = key 1; last = key 1; aggregates = pos 5 ∷ []; digest = digest }

abbrev lineage : Lineage
lineage = record { begins = 0; first = record { keys = record { name = codes "k"; kind = kind.Int } ∷ []; values = record { name = codes "v"; agg = agg.Sum } ∷ [] }; changes = []; views = [] }

abbrev meta : TableMeta
meta = record {
  name = codes "t";
  lineage = lineage;
  totals = 5 ∷ [];
  oldest = 0;
  base = None;
  cumulatives = [];
  singles = record { epoch = 0; files = Some (record { file = file 0; views = [] }); totals = Some (5 ∷ []) } ∷ empty_delta ∷ [];
}

is_catalogue : catalog Zero bodies ≡ Some (record { tables = meta ∷ []; floor = 0; next = 2; run = 1 })
unfolding fields_of file_ref_at files_at reading_below.rising fits catalog_from
is_catalogue = refl

-- a base whose rows are in this file
abbrev merged : ℕ → List ℕ
merged k = 10 ∷ half 0 ++ 1 ∷ word 0 ++ word 1 ++ word 0 ++ 1 ∷ file_bytes k

-- the batch of the first edition is merged into a file of format 2
is_merged : catalog Zero (first.bodies ++ expire 1 ∷ merged 1 ∷ []) ≡ Some (record {
  tables = record meta {
    oldest = 1;
    base = Some (record { to = 1; delta = record { epoch = 0; files = Some (record { file = file 1; views = [] }); totals = None } });
    singles = [];
  } ∷ [];
  floor = 1;
  next = 2;
  run = 1;
})
unfolding fields_of file_ref_at files_at reading_below.rising fits catalog_from
is_merged = refl

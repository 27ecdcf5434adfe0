-- The store of the derived view, whose table is recast to its key columns in the other order: the view's file is named again.
use Rattle.mesa_delta_format.specs.mesa_key.declared.Format.TheVariants as format
use Rattle.std.proofs.Common.{◌≡◌, refl, ℕ, List, [], ◌∷◌, ◌++◌, Some, None}
use Rattle.std.specs.Prelude.{pos, codes, ◌==◌, if◌then◌else◌}
use Rattle.mesa_delta_format.specs.mesa_value.declared.Agg.TheVariants as agg
use Rattle.mesa_delta_format.specs.mesa_key.declared.KeyType.TheVariants as kind
use Rattle.mesa_history_spec.specs.mesa_columns.declared.rows.Row.{Row}
use Rattle.mesa_history_spec.specs.mesa_schema.Changes.{Lineage}
use Rattle.mesa_history_spec.specs.mesa_file.declared.file_ref.FileRef.{FileRef}
use Rattle.mesa_record.specs.mesa_record_fields.Reading.{file_ref_at}
use Rattle.mesa_record.specs.Reading.{fields_of, files_at, recasting_at, stated_single_at}
use Rattle.mesa_record.specs.mesa_record_fields.Reading as reading_below
use Rattle.mesa_commit.specs.mesa_disk.declared.area.Area.TheVariants.{Zero}
use Rattle.mesa_store_spec.specs.Catalog.{Catalog}
use Rattle.mesa_store_spec.specs.Fitting.{fits, catalog_from}
use Rattle.mesa_store_spec.specs.Journaled.{catalog}
use Rattle.mesa_store_spec.specs.Contents.{Rows, kept_of}
use Rattle.mesa_store_spec.proofs.Bodies.{half, word, long, wide, key, id_bytes, first_run, run_1}
use Rattle.mesa_store_spec.proofs.DerivedView.{table_t, view_w, batch_0, batch_1, digest_w, file_w}

abbrev bodies : List (List ℕ)
bodies = run_1 ∷ table_t ∷ batch_0 ∷ view_w ∷ batch_1 ∷ []

abbrev digest_3 : List ℕ
digest_3 = 18 ∷ 174 ∷ 50 ∷ 203 ∷ 30 ∷ 192 ∷ 45 ∷ 1 ∷ 234 ∷ 177 ∷ 10 ∷ 119 ∷ 77 ∷ 68 ∷ 209 ∷ 6 ∷ 33 ∷ 90 ∷ 141 ∷ 250 ∷ 7 ∷ 222 ∷ 61 ∷ 156 ∷ 88 ∷ 4 ∷ 199 ∷ 112 ∷ 23 ∷ 76 ∷ 145 ∷ 60 ∷ []

abbrev digest_4 : List ℕ
digest_4 = 201 ∷ 66 ∷ 13 ∷ 87 ∷ 254 ∷ 39 ∷ 120 ∷ 5 ∷ 182 ∷ 93 ∷ 74 ∷ 211 ∷ 8 ∷ 137 ∷ 46 ∷ 229 ∷ 160 ∷ 31 ∷ 102 ∷ 17 ∷ 248 ∷ 83 ∷ 190 ∷ 25 ∷ 136 ∷ 71 ∷ 2 ∷ 173 ∷ 54 ∷ 109 ∷ 220 ∷ 91 ∷ []

-- a reference as it is written now, of one value column
abbrev ref_bytes : ℕ → List ℕ → ℕ → ℕ → List ℕ → List ℕ → ℕ → List ℕ → List ℕ
ref_bytes form id len rows first last total digest = form ∷ id ++ long len ++ long rows ++ word 1 ++ first ++ last ++ (1 ∷ wide total) ++ digest

-- the view's file, as it was recorded
abbrev view_bytes : List ℕ
view_bytes = ref_bytes 1 (id_bytes 1 2) 103 1 (0 ∷ 8 ∷ key 1) (0 ∷ 8 ∷ key 1) 1 digest_w

abbrev file_3 : FileRef
file_3 = record { format = format.Two; id = first_run 3; len = 152; rows = 2; blocks = 1; first = key 1 ++ key 1; last = key 2 ++ key 1; aggregates = pos 12 ∷ []; digest = digest_3 }

abbrev file_4 : FileRef
file_4 = record { format = format.Two; id = first_run 4; len = 120; rows = 1; blocks = 1; first = key 3 ++ key 1; last = key 3 ++ key 1; aggregates = pos 1 ∷ []; digest = digest_4 }

-- recast,t,b;a,v in the epoch behind one, with the singletons of both versions: the second names these view files
abbrev recast_in_epoch : ℕ → List ℕ → List ℕ
recast_in_epoch epoch views =
    14 ∷ half 0 ++ word epoch ++ (2 ∷ 1 ∷ 98 ∷ 1 ∷ 97 ∷ []) ++ (1 ∷ 1 ∷ 118 ∷ []) ++ 0 ∷ word 2
    ++ word 0 ++ word epoch ++ ref_bytes 2 (id_bytes 1 3) 152 2 (0 ∷ 16 ∷ key 1 ++ key 1) (0 ∷ 16 ∷ key 2 ++ key 1) 12 digest_3 ++ 0 ∷ 1 ∷ wide 12
    ++ word 1 ++ word epoch ++ ref_bytes 2 (id_bytes 1 4) 120 1 (0 ∷ 16 ∷ key 3 ++ key 1) (0 ∷ 16 ∷ key 3 ++ key 1) 1 digest_4 ++ views ++ 1 ∷ wide 1

abbrev recast : List ℕ
recast = recast_in_epoch 1 (1 ∷ 0 ∷ view_bytes)

abbrev lineage : Lineage
lineage = record {
  begins = 1;
  first = record { keys = record { name = codes "b"; kind = kind.Int } ∷ record { name = codes "a"; kind = kind.Int } ∷ []; values = record { name = codes "v"; agg = agg.Sum } ∷ [] };
  changes = [];
  views = record { name = codes "w"; keys = codes "a" ∷ []; values = codes "v" ∷ [] } ∷ [];
}

abbrev after : Catalog
after = record {
  tables = record {
    name = codes "t";
    lineage = lineage;
    totals = 13 ∷ [];
    oldest = 0;
    base = None;
    cumulatives = [];
    singles =
        record { epoch = 1; files = Some (record { file = file_3; views = [] }); totals = Some (12 ∷ []) }
        ∷ record { epoch = 1; files = Some (record { file = file_4; views = record { view = 0; file = file_w } ∷ [] }); totals = Some (1 ∷ []) }
        ∷ [];
  } ∷ [];
  floor = 0;
  next = 2;
  run = 1;
}

is_after : catalog Zero (bodies ++ recast ∷ []) ≡ Some after
unfolding fields_of file_ref_at files_at recasting_at stated_single_at reading_below.rising fits catalog_from
is_after = refl

-- the epoch is the next one, and a view's file isn't left out
epoch_to_come : catalog Zero (bodies ++ recast_in_epoch 2 (1 ∷ 0 ∷ view_bytes) ∷ []) ≡ None
unfolding fields_of file_ref_at files_at recasting_at stated_single_at reading_below.rising fits catalog_from
epoch_to_come = refl

view_left_out : catalog Zero (bodies ++ recast_in_epoch 1 (0 ∷ []) ∷ []) ≡ None
unfolding fields_of file_ref_at files_at recasting_at stated_single_at reading_below.rising fits catalog_from
view_left_out = refl

-- a batch of the epoch before comes too late
old_batch : catalog Zero (bodies ++ recast ∷ (5 ∷ word 2 ++ half 1 ++ half 0 ++ word 0 ++ (id_bytes 1 5 ++ long 112 ++ long 1 ++ word 1 ++ (0 ∷ 16 ∷ key 1 ++ key 3) ++ (0 ∷ 16 ∷ key 1 ++ key 3) ++ (1 ∷ long 1) ++ digest_w) ++ 0 ∷ 1 ∷ long 1) ∷ []) ≡ None
unfolding fields_of file_ref_at files_at recasting_at stated_single_at reading_below.rising fits catalog_from
old_batch = refl

abbrev row : ℕ → ℕ → ℕ → Row
row b a value = record { key = key b ++ key a; values = pos value ∷ [] }

abbrev rows : Rows
rows id =
    if id == first_run 3 then row 1 1 5 ∷ row 2 1 7 ∷ []
    else if id == first_run 4 then row 3 1 1 ∷ []
    else if id == first_run 2 then record { key = key 1; values = pos 1 ∷ [] } ∷ []
    else []

stands_for : kept_of rows after ≡ record {
  store = record { tables = record { name = codes "t"; lineage = lineage; totals = 13 ∷ []; oldest = 0; contents = (row 1 1 5 ∷ row 2 1 7 ∷ []) ∷ (row 1 1 5 ∷ row 2 1 7 ∷ row 3 1 1 ∷ []) ∷ [] } ∷ []; floor = 0 };
  next = 2;
  ranges = record { base_to = None; cumulatives = [] } ∷ [];
}
unfolding kept_of
stands_for = refl

-- A store in which a view is added when data is there: the batch before it has no file of the view, the batch after it has one.
use Rattle.mesa_delta_format.specs.mesa_key.declared.Format.TheVariants as format
use Rattle.std.proofs.Common.{◌≡◌, refl, ℕ, List, [], ◌∷◌, ◌++◌, Some, None}
use Rattle.std.specs.Prelude.{pos, codes, ◌==◌, if◌then◌else◌}
use Rattle.mesa_delta_format.specs.mesa_value.declared.Agg.TheVariants as agg
use Rattle.mesa_delta_format.specs.mesa_key.declared.KeyType.TheVariants as kind
use Rattle.mesa_history_spec.specs.mesa_columns.declared.rows.Row.{Row}
use Rattle.mesa_history_spec.specs.mesa_schema.Changes.{Lineage}
use Rattle.mesa_history_spec.specs.mesa_file.declared.file_ref.FileRef.{FileRef}
use Rattle.mesa_record.specs.mesa_record_fields.Reading.{file_ref_at}
use Rattle.mesa_record.specs.Reading.{fields_of, files_at}
use Rattle.mesa_record.specs.mesa_record_fields.Reading as reading_below
use Rattle.mesa_commit.specs.mesa_disk.declared.area.Area.TheVariants.{Zero}
use Rattle.mesa_store_spec.specs.Catalog.{Catalog}
use Rattle.mesa_store_spec.specs.Fitting.{fits, catalog_from}
use Rattle.mesa_store_spec.specs.Journaled.{catalog}
use Rattle.mesa_store_spec.specs.Contents.{Rows, kept_of}
use Rattle.mesa_store_spec.proofs.Bodies.{half, word, long, key, id_bytes, first_run, run_1}

-- table,t,a int;b int,v sum
abbrev pub table_t : List ℕ
table_t = 2 ∷ 1 ∷ 116 ∷ 2 ∷ 1 ∷ 97 ∷ 0 ∷ 1 ∷ 98 ∷ 0 ∷ 1 ∷ 1 ∷ 118 ∷ 0 ∷ []

-- view,w,t,a,v
abbrev pub view_w : List ℕ
view_w = 3 ∷ half 0 ++ 1 ∷ 119 ∷ 1 ∷ 1 ∷ 97 ∷ 1 ∷ 1 ∷ 118 ∷ []

abbrev digest_0 : List ℕ
digest_0 = 12 ∷ 95 ∷ 81 ∷ 253 ∷ 44 ∷ 62 ∷ 203 ∷ 249 ∷ 23 ∷ 122 ∷ 153 ∷ 196 ∷ 233 ∷ 246 ∷ 9 ∷ 1 ∷ 109 ∷ 44 ∷ 10 ∷ 148 ∷ 142 ∷ 175 ∷ 56 ∷ 179 ∷ 251 ∷ 208 ∷ 208 ∷ 252 ∷ 124 ∷ 102 ∷ 159 ∷ 118 ∷ []

abbrev digest_1 : List ℕ
digest_1 = 165 ∷ 193 ∷ 160 ∷ 178 ∷ 40 ∷ 154 ∷ 5 ∷ 199 ∷ 219 ∷ 191 ∷ 127 ∷ 76 ∷ 30 ∷ 140 ∷ 101 ∷ 177 ∷ 108 ∷ 19 ∷ 9 ∷ 180 ∷ 235 ∷ 128 ∷ 175 ∷ 220 ∷ 196 ∷ 62 ∷ 122 ∷ 255 ∷ 156 ∷ 42 ∷ 170 ∷ 230 ∷ []

abbrev pub digest_w : List ℕ
digest_w = 50 ∷ 2 ∷ 7 ∷ 208 ∷ 237 ∷ 45 ∷ 102 ∷ 48 ∷ 169 ∷ 158 ∷ 154 ∷ 182 ∷ 65 ∷ 158 ∷ 25 ∷ 63 ∷ 89 ∷ 21 ∷ 53 ∷ 93 ∷ 123 ∷ 16 ∷ 156 ∷ 202 ∷ 21 ∷ 128 ∷ 79 ∷ 151 ∷ 196 ∷ 99 ∷ 117 ∷ 240 ∷ []

-- row,t,1,1,5 and row,t,1,2,7
abbrev pub batch_0 : List ℕ
batch_0 =
    5 ∷ word 0 ++ half 1 ++ half 0 ++ word 0
    ++ (id_bytes 1 0 ++ long 136 ++ long 2 ++ word 1 ++ (0 ∷ 16 ∷ key 1 ++ key 1) ++ (0 ∷ 16 ∷ key 1 ++ key 2) ++ (1 ∷ long 12) ++ digest_0)
    ++ 0 ∷ 1 ∷ long 12

-- row,t,1,3,1
abbrev pub batch_1 : List ℕ
batch_1 =
    5 ∷ word 1 ++ half 1 ++ half 0 ++ word 0
    ++ (id_bytes 1 1 ++ long 112 ++ long 1 ++ word 1 ++ (0 ∷ 16 ∷ key 1 ++ key 3) ++ (0 ∷ 16 ∷ key 1 ++ key 3) ++ (1 ∷ long 1) ++ digest_1)
    ++ 1 ∷ 0 ∷ (id_bytes 1 2 ++ long 103 ++ long 1 ++ word 1 ++ (0 ∷ 8 ∷ key 1) ++ (0 ∷ 8 ∷ key 1) ++ (1 ∷ long 1) ++ digest_w)
    ++ 1 ∷ long 1

abbrev file_0 : FileRef
file_0 = record { format = format.One; id = first_run 0; len = 136; rows = 2; blocks = 1; first = key 1 ++ key 1; last = key 1 ++ key 2; aggregates = pos 12 ∷ []; digest = digest_0 }

abbrev file_1 : FileRef
file_1 = record { format = format.One; id = first_run 1; len = 112; rows = 1; blocks = 1; first = key 1 ++ key 3; last = key 1 ++ key 3; aggregates = pos 1 ∷ []; digest = digest_1 }

abbrev pub file_w : FileRef
file_w = record { format = format.One; id = first_run 2; len = 103; rows = 1; blocks = 1; first = key 1; last = key 1; aggregates = pos 1 ∷ []; digest = digest_w }

abbrev lineage : Lineage
lineage = record {
  begins = 0;
  first = record { keys = record { name = codes "a"; kind = kind.Int } ∷ record { name = codes "b"; kind = kind.Int } ∷ []; values = record { name = codes "v"; agg = agg.Sum } ∷ [] };
  changes = [];
  views = record { name = codes "w"; keys = codes "a" ∷ []; values = codes "v" ∷ [] } ∷ [];
}

abbrev catalogue : Catalog
catalogue = record {
  tables = record {
    name = codes "t";
    lineage = lineage;
    totals = 13 ∷ [];
    oldest = 0;
    base = None;
    cumulatives = [];
    singles =
        record { epoch = 0; files = Some (record { file = file_0; views = [] }); totals = Some (12 ∷ []) }
        ∷ record { epoch = 0; files = Some (record { file = file_1; views = record { view = 0; file = file_w } ∷ [] }); totals = Some (1 ∷ []) }
        ∷ [];
  } ∷ [];
  floor = 0;
  next = 2;
  run = 1;
}

is_catalogue : catalog Zero (run_1 ∷ table_t ∷ batch_0 ∷ view_w ∷ batch_1 ∷ []) ≡ Some catalogue
unfolding fields_of file_ref_at files_at reading_below.rising fits catalog_from
is_catalogue = refl

-- a file of a view that isn't there yet, and a view of a name that is there
view_to_come : catalog Zero (run_1 ∷ table_t ∷ batch_0 ∷ batch_1 ∷ []) ≡ None
unfolding fields_of file_ref_at files_at reading_below.rising fits catalog_from
view_to_come = refl

view_again : catalog Zero (run_1 ∷ table_t ∷ batch_0 ∷ view_w ∷ view_w ∷ []) ≡ None
unfolding fields_of file_ref_at files_at reading_below.rising fits catalog_from
view_again = refl

abbrev row : ℕ → ℕ → Row
row b value = record { key = key 1 ++ key b; values = pos value ∷ [] }

abbrev rows : Rows
rows id =
    if id == first_run 0 then row 1 5 ∷ row 2 7 ∷ []
    else if id == first_run 1 then row 3 1 ∷ []
    else if id == first_run 2 then record { key = key 1; values = pos 1 ∷ [] } ∷ []
    else []

-- the view's file counts nowhere
stands_for : kept_of rows catalogue ≡ record {
  store = record { tables = record { name = codes "t"; lineage = lineage; totals = 13 ∷ []; oldest = 0; contents = (row 1 5 ∷ row 2 7 ∷ []) ∷ (row 1 5 ∷ row 2 7 ∷ row 3 1 ∷ []) ∷ [] } ∷ []; floor = 0 };
  next = 2;
  ranges = record { base_to = None; cumulatives = [] } ∷ [];
}
unfolding kept_of
stands_for = refl

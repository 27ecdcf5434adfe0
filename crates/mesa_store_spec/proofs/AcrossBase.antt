-- A store of a replaced value: three batches, of which the first two are merged into a base.
use Rattle.mesa_delta_format.specs.mesa_key.declared.Format.TheVariants as format
use Rattle.std.proofs.Common.{◌≡◌, refl, ℕ, List, [], ◌∷◌, ◌++◌, Some, None}
use Rattle.std.specs.Prelude.{pos, ◌==◌, codes, if◌then◌else◌}
use Rattle.mesa_delta_format.specs.mesa_value.declared.Agg.TheVariants as agg
use Rattle.mesa_delta_format.specs.mesa_key.declared.KeyType.TheVariants as kind
use Rattle.mesa_history_spec.specs.mesa_columns.declared.rows.Row.{Row}
use Rattle.mesa_history_spec.specs.mesa_schema.Changes.{Lineage}
use Rattle.mesa_history_spec.specs.mesa_file.declared.file_ref.FileRef.{FileRef}
use Rattle.mesa_record.specs.mesa_record_fields.Reading.{file_ref_at}
use Rattle.mesa_record.specs.Reading.{fields_of, files_at}
use Rattle.mesa_record.specs.mesa_record_fields.Reading as reading_below
use Rattle.mesa_commit.specs.mesa_disk.declared.area.Area.TheVariants.{Zero}
use Rattle.mesa_store_spec.specs.Catalog.{Catalog, Delta}
use Rattle.mesa_store_spec.specs.Fitting.{fits, catalog_from}
use Rattle.mesa_store_spec.specs.Journaled.{catalog}
use Rattle.mesa_store_spec.specs.Contents.{Rows, kept_of}
use Rattle.mesa_store_spec.proofs.Bodies.{half, word, long, key, id_bytes, first_run, run_1, expire}

-- table,t,k int,v replace
abbrev table_t : List ℕ
table_t = 2 ∷ 1 ∷ 116 ∷ 1 ∷ 1 ∷ 107 ∷ 0 ∷ 1 ∷ 1 ∷ 118 ∷ 3 ∷ []

abbrev digest_5 : List ℕ
digest_5 = 228 ∷ 12 ∷ 64 ∷ 41 ∷ 119 ∷ 45 ∷ 205 ∷ 152 ∷ 145 ∷ 102 ∷ 178 ∷ 131 ∷ 94 ∷ 15 ∷ 249 ∷ 109 ∷ 243 ∷ 35 ∷ 174 ∷ 45 ∷ 248 ∷ 89 ∷ 164 ∷ 181 ∷ 78 ∷ 44 ∷ 68 ∷ 13 ∷ 27 ∷ 154 ∷ 90 ∷ 204 ∷ []

abbrev digest_6 : List ℕ
digest_6 = 135 ∷ 133 ∷ 209 ∷ 226 ∷ 111 ∷ 92 ∷ 21 ∷ 129 ∷ 157 ∷ 248 ∷ 116 ∷ 238 ∷ 183 ∷ 52 ∷ 249 ∷ 180 ∷ 171 ∷ 101 ∷ 42 ∷ 147 ∷ 88 ∷ 254 ∷ 58 ∷ 35 ∷ 138 ∷ 118 ∷ 191 ∷ 0 ∷ 187 ∷ 170 ∷ 87 ∷ 213 ∷ []

abbrev digest_4 : List ℕ
digest_4 = 240 ∷ 18 ∷ 55 ∷ 168 ∷ 78 ∷ 190 ∷ 119 ∷ 129 ∷ 3 ∷ 200 ∷ 114 ∷ 122 ∷ 128 ∷ 88 ∷ 116 ∷ 82 ∷ 228 ∷ 99 ∷ 156 ∷ 166 ∷ 250 ∷ 79 ∷ 200 ∷ 74 ∷ 98 ∷ 62 ∷ 208 ∷ 156 ∷ 239 ∷ 170 ∷ 157 ∷ 150 ∷ []

-- the file of one row with key 1: id, length, rows, blocks, first and last key, aggregates, digest, and no view's file
abbrev pub file_bytes : ℕ → List ℕ → List ℕ
file_bytes k digest = id_bytes 1 k ++ long 103 ++ long 1 ++ word 1 ++ (0 ∷ 8 ∷ key 1) ++ (0 ∷ 8 ∷ key 1) ++ (1 ∷ long 0) ++ digest ++ 0 ∷ []

-- a batch of one row, which has no sum column
abbrev batch : ℕ → List ℕ → List ℕ
batch version digest = 5 ∷ word version ++ half 1 ++ half 0 ++ word 0 ++ file_bytes version digest ++ 0 ∷ []

-- the versions from one to another are merged, into a base (1) or a cumulative (0)
abbrev pub swap : ℕ → ℕ → ℕ → List ℕ → List ℕ
swap base from to files = 6 ∷ half 0 ++ base ∷ word from ++ word to ++ word 0 ++ files

abbrev pub loaded : List (List ℕ)
loaded = run_1 ∷ table_t ∷ batch 0 digest_5 ∷ batch 1 digest_6 ∷ batch 2 digest_4 ∷ expire 1 ∷ []

abbrev pub merged : List ℕ
merged = swap 1 0 1 (1 ∷ file_bytes 3 digest_6)

abbrev file : ℕ → List ℕ → FileRef
file k digest = record { format = format.One; id = first_run k; len = 103; rows = 1; blocks = 1; first = key 1; last = key 1; aggregates = pos 0 ∷ []; digest = digest }

abbrev single : ℕ → List ℕ → Delta
single k digest = record { epoch = 0; files = Some (record { file = file k digest; views = [] }); totals = Some [] }

abbrev lineage : Lineage
lineage = record { begins = 0; first = record { keys = record { name = codes "k"; kind = kind.Int } ∷ []; values = record { name = codes "v"; agg = agg.Replace } ∷ [] }; changes = []; views = [] }

abbrev before : Catalog
before = record {
  tables = record {
    name = codes "t";
    lineage = lineage;
    totals = [];
    oldest = 1;
    base = None;
    cumulatives = [];
    singles = single 0 digest_5 ∷ single 1 digest_6 ∷ single 2 digest_4 ∷ [];
  } ∷ [];
  floor = 1;
  next = 3;
  run = 1;
}

abbrev after : Catalog
after = record {
  tables = record {
    name = codes "t";
    lineage = lineage;
    totals = [];
    oldest = 1;
    base = Some (record { to = 1; delta = record { epoch = 0; files = Some (record { file = file 3 digest_6; views = [] }); totals = None } });
    cumulatives = [];
    singles = single 2 digest_4 ∷ [];
  } ∷ [];
  floor = 1;
  next = 3;
  run = 1;
}

is_before : catalog Zero loaded ≡ Some before
unfolding fields_of file_ref_at files_at reading_below.rising fits catalog_from
is_before = refl

is_after : catalog Zero (loaded ++ merged ∷ []) ≡ Some after
unfolding fields_of file_ref_at files_at reading_below.rising fits catalog_from
is_after = refl

-- a base isn't for versions that can be queried still, nor for the first version alone, and it begins with it
too_far : catalog Zero (loaded ++ swap 1 0 2 (1 ∷ file_bytes 3 digest_6) ∷ []) ≡ None
unfolding fields_of file_ref_at files_at reading_below.rising fits catalog_from
too_far = refl

too_short : catalog Zero (loaded ++ swap 1 0 0 (1 ∷ file_bytes 3 digest_6) ∷ []) ≡ None
unfolding fields_of file_ref_at files_at reading_below.rising fits catalog_from
too_short = refl

too_late : catalog Zero (loaded ++ swap 1 1 1 (1 ∷ file_bytes 3 digest_6) ∷ []) ≡ None
unfolding fields_of file_ref_at files_at reading_below.rising fits catalog_from
too_late = refl

-- a base isn't made twice, and a cumulative is of ten versions
base_again : catalog Zero (loaded ++ merged ∷ swap 1 0 1 (1 ∷ file_bytes 4 digest_6) ∷ []) ≡ None
unfolding fields_of file_ref_at files_at reading_below.rising fits catalog_from
base_again = refl

three_versions : catalog Zero (loaded ++ swap 0 0 2 (1 ∷ file_bytes 3 digest_4) ∷ []) ≡ None
unfolding fields_of file_ref_at files_at reading_below.rising fits catalog_from
three_versions = refl

-- a merged file's id isn't one that a batch has
id_of_a_batch : catalog Zero (loaded ++ swap 1 0 1 (1 ∷ file_bytes 2 digest_6) ∷ []) ≡ None
unfolding fields_of file_ref_at files_at reading_below.rising fits catalog_from
id_of_a_batch = refl

abbrev row : ℕ → Row
row value = record { key = key 1; values = pos value ∷ [] }

abbrev rows : Rows
rows id =
    if id == first_run 0 then row 5 ∷ []
    else if id == first_run 1 then row 6 ∷ []
    else if id == first_run 2 then row 4 ∷ []
    else if id == first_run 3 then row 6 ∷ []
    else []

-- the newest value stands at each version, before the swap
stands_before : kept_of rows before ≡ record {
  store = record { tables = record { name = codes "t"; lineage = lineage; totals = []; oldest = 1; contents = (row 6 ∷ []) ∷ (row 4 ∷ []) ∷ [] } ∷ []; floor = 1 };
  next = 3;
  ranges = record { base_to = None; cumulatives = [] } ∷ [];
}
unfolding kept_of
stands_before = refl

-- and after it
stands_after : kept_of rows after ≡ record {
  store = record { tables = record { name = codes "t"; lineage = lineage; totals = []; oldest = 1; contents = (row 6 ∷ []) ∷ (row 4 ∷ []) ∷ [] } ∷ []; floor = 1 };
  next = 3;
  ranges = record { base_to = Some 1; cumulatives = [] } ∷ [];
}
unfolding kept_of
stands_after = refl

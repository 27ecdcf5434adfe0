-- A store of two tables, of which one lets versions go before the other.
use Rattle.std.proofs.Common.{◌≡◌, refl, ℕ, List, [], ◌∷◌, ◌++◌, Some, None}
use Rattle.std.specs.Prelude.{codes}
use Rattle.mesa_delta_format.specs.mesa_value.declared.Agg.TheVariants as agg
use Rattle.mesa_delta_format.specs.mesa_key.declared.KeyType.TheVariants as kind
use Rattle.mesa_history_spec.specs.mesa_schema.Changes.{Lineage}
use Rattle.mesa_record.specs.mesa_record_fields.Reading.{file_ref_at}
use Rattle.mesa_record.specs.Reading.{fields_of, files_at}
use Rattle.mesa_record.specs.mesa_record_fields.Reading as reading_below
use Rattle.mesa_commit.specs.mesa_disk.declared.area.Area.TheVariants.{Zero}
use Rattle.mesa_store_spec.specs.Catalog.{Catalog, TableMeta, empty_delta}
use Rattle.mesa_store_spec.specs.Fitting.{fits, catalog_from}
use Rattle.mesa_store_spec.specs.Journaled.{catalog}
use Rattle.mesa_store_spec.specs.Contents.{Rows, kept_of}
use Rattle.mesa_store_spec.proofs.Bodies.{half, word, run_1, empty_batch, expire, expire_table}

-- a table of this letter, with a sum column
abbrev table : ℕ → List ℕ
table letter = 2 ∷ 1 ∷ letter ∷ 1 ∷ 1 ∷ 107 ∷ 0 ∷ 1 ∷ 1 ∷ 118 ∷ 0 ∷ []

-- a base without rows from version 0 to this one
abbrev base_to : ℕ → ℕ → List ℕ
base_to number to = 6 ∷ half number ++ 1 ∷ word 0 ++ word to ++ word 0 ++ 0 ∷ []

-- tables t and u, two versions, and t without the first of them
abbrev bodies : List (List ℕ)
bodies = run_1 ∷ table 116 ∷ table 117 ∷ empty_batch 0 ∷ empty_batch 1 ∷ expire_table 0 1 ∷ []

abbrev lineage : Lineage
lineage = record { begins = 0; first = record { keys = record { name = codes "k"; kind = kind.Int } ∷ []; values = record { name = codes "v"; agg = agg.Sum } ∷ [] }; changes = []; views = [] }

abbrev meta : List ℕ → ℕ → TableMeta
meta name oldest = record { name = name; lineage = lineage; totals = 0 ∷ []; oldest = oldest; base = None; cumulatives = []; singles = empty_delta ∷ empty_delta ∷ [] }

abbrev apart : Catalog
apart = record { tables = meta (codes "t") 1 ∷ meta (codes "u") 0 ∷ []; floor = 0; next = 2; run = 1 }

is_apart : catalog Zero bodies ≡ Some apart
unfolding fields_of file_ref_at files_at reading_below.rising fits catalog_from
is_apart = refl

-- a base of t may reach to its oldest version, one of u not
base_of_t : catalog Zero (bodies ++ base_to 0 1 ∷ []) ≡ Some (record apart {
  tables = record (meta (codes "t") 1) { base = Some (record { to = 1; delta = empty_delta }); singles = [] } ∷ meta (codes "u") 0 ∷ [];
})
unfolding fields_of file_ref_at files_at reading_below.rising fits catalog_from
base_of_t = refl

base_of_u : catalog Zero (bodies ++ base_to 1 1 ∷ []) ≡ None
unfolding fields_of file_ref_at files_at reading_below.rising fits catalog_from
base_of_u = refl

-- t's versions don't come again, and a later table begins at the floor
back : catalog Zero (bodies ++ expire_table 0 0 ∷ []) ≡ None
unfolding fields_of file_ref_at files_at reading_below.rising fits catalog_from
back = refl

to_come : catalog Zero (bodies ++ expire_table 1 2 ∷ []) ≡ None
unfolding fields_of file_ref_at files_at reading_below.rising fits catalog_from
to_come = refl

no_such_table : catalog Zero (bodies ++ expire_table 2 1 ∷ []) ≡ None
unfolding fields_of file_ref_at files_at reading_below.rising fits catalog_from
no_such_table = refl

later_table : catalog Zero (bodies ++ table 118 ∷ []) ≡ Some (record apart { tables = meta (codes "t") 1 ∷ meta (codes "u") 0 ∷ meta (codes "v") 0 ∷ [] })
unfolding fields_of file_ref_at files_at reading_below.rising fits catalog_from
later_table = refl

-- an expiry of all may be to the floor, and leaves t's oldest version as it is
all_to_floor : catalog Zero (bodies ++ expire 0 ∷ []) ≡ Some apart
unfolding fields_of file_ref_at files_at reading_below.rising fits catalog_from
all_to_floor = refl

all_to_last : catalog Zero (bodies ++ expire 1 ∷ []) ≡ Some (record apart { tables = meta (codes "t") 1 ∷ meta (codes "u") 1 ∷ []; floor = 1 })
unfolding fields_of file_ref_at files_at reading_below.rising fits catalog_from
all_to_last = refl

abbrev no_rows : Rows
no_rows id = []

-- t has a content at one version, u at two
stands_for : kept_of no_rows apart ≡ record {
  store = record {
    tables = record { name = codes "t"; lineage = lineage; totals = 0 ∷ []; oldest = 1; contents = [] ∷ [] }
        ∷ record { name = codes "u"; lineage = lineage; totals = 0 ∷ []; oldest = 0; contents = [] ∷ [] ∷ [] } ∷ [];
    floor = 0;
  };
  next = 2;
  ranges = record { base_to = None; cumulatives = [] } ∷ record { base_to = None; cumulatives = [] } ∷ [];
}
unfolding kept_of
stands_for = refl

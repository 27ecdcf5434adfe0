-- Records that don't fit what stands before them.
use Rattle.std.proofs.Common.{◌≡◌, refl, ℕ, List, [], ◌∷◌, ◌++◌, None, is_some, true}
use Rattle.mesa_record.specs.mesa_record_fields.Reading.{file_ref_at}
use Rattle.mesa_record.specs.Reading.{fields_of, files_at}
use Rattle.mesa_record.specs.mesa_record_fields.Reading as reading_below
use Rattle.mesa_commit.specs.mesa_disk.declared.area.Area.TheVariants.{Zero}
use Rattle.mesa_store_spec.specs.Fitting.{fits, catalog_from}
use Rattle.mesa_store_spec.specs.Journaled.{catalog}
use Rattle.mesa_store_spec.proofs.Bodies.{half, word, long, run_1, empty_batch, expire}
use Rattle.mesa_store_spec.proofs.OneRow.{table_t, file_bytes, bodies}
use Rattle.mesa_store_spec.proofs.SecondEdition as second

-- run 2
abbrev run_2 : List ℕ
run_2 = 1 ∷ 0 ∷ 0 ∷ 0 ∷ 2 ∷ []

-- the numbers of runs begin with 1, and none comes twice
first_run_2 : catalog Zero (run_2 ∷ []) ≡ None
unfolding fields_of reading_below.rising fits catalog_from
first_run_2 = refl

run_1_again : catalog Zero (run_1 ∷ run_1 ∷ []) ≡ None
unfolding fields_of reading_below.rising fits catalog_from
run_1_again = refl

-- versions begin with 0, and none is left out
first_version_1 : catalog Zero (run_1 ∷ empty_batch 1 ∷ []) ≡ None
unfolding fields_of reading_below.rising fits catalog_from
first_version_1 = refl

-- the oldest version is one that is there
expire_to_come : catalog Zero (run_1 ∷ empty_batch 0 ∷ expire 1 ∷ []) ≡ None
unfolding fields_of reading_below.rising fits catalog_from
expire_to_come = refl

-- a batch of one row, with this file, of an epoch, with this total
abbrev batch : ℕ → List ℕ → ℕ → List ℕ → List ℕ
batch version file epoch total = 5 ∷ word version ++ half 1 ++ half 0 ++ word epoch ++ file ++ 1 ∷ total

-- a table of a name that is there
table_again : catalog Zero (bodies ++ table_t ∷ []) ≡ None
unfolding fields_of file_ref_at files_at reading_below.rising fits catalog_from
table_again = refl

-- a file's id is of the last run, and new
id_of_an_older_run : catalog Zero (bodies ++ run_2 ∷ batch 2 (file_bytes 1 1) 0 (long 5) ∷ []) ≡ None
unfolding fields_of file_ref_at files_at reading_below.rising fits catalog_from
id_of_an_older_run = refl

id_twice : catalog Zero (bodies ++ batch 2 (file_bytes 1 0) 0 (long 5) ∷ []) ≡ None
unfolding fields_of file_ref_at files_at reading_below.rising fits catalog_from
id_twice = refl

-- a batch is of the present epoch
epoch_to_come : catalog Zero (bodies ++ batch 2 (file_bytes 1 1) 1 (long 5) ∷ []) ≡ None
unfolding fields_of file_ref_at files_at reading_below.rising fits catalog_from
epoch_to_come = refl

-- with 2^127 - 6 the total is 2^127 - 1, and with one more it is past the bound
abbrev nearly : ℕ → List ℕ
nearly last = 0x7f ∷ 0xff ∷ 0xff ∷ 0xff ∷ 0xff ∷ 0xff ∷ 0xff ∷ 0xff ∷ 0xff ∷ 0xff ∷ 0xff ∷ 0xff ∷ 0xff ∷ 0xff ∷ 0xff ∷ last ∷ []

within_the_bound : is_some (catalog Zero (bodies ++ second.batch 2 (second.file_bytes 1) (nearly 0xfa) ∷ [])) ≡ true
unfolding fields_of file_ref_at files_at reading_below.rising fits catalog_from
within_the_bound = refl

past_the_bound : catalog Zero (bodies ++ second.batch 2 (second.file_bytes 1) (nearly 0xfb) ∷ []) ≡ None
unfolding fields_of file_ref_at files_at reading_below.rising fits catalog_from
past_the_bound = refl

-- An empty warehouse whose area 1 states it behind 6,554 runs, and a run more.
use Rattle.std.proofs.Common.{◌≡◌, refl, ℕ, ◌+◌, ◌^◌, ◌<◌, List, [], ◌∷◌, ◌++◌, Some, None, inr, arith}
use Rattle.std.specs.FinMap.{empty}
use Rattle.mesa_commit.specs.mesa_disk.Image.{Image}
use Rattle.mesa_commit.specs.mesa_disk.declared.area.Area.TheVariants.{Zero, One}
use Rattle.mesa_commit.specs.mesa_journal.Journal.{Closed, word, of_word}
use Rattle.mesa_commit.specs.mesa_journal.Areas.{HasJournal, number_in}
use Rattle.mesa_record.specs.Reading.{fields_of, stated_at}
use Rattle.mesa_record.specs.mesa_record_fields.Reading as reading_below
use Rattle.mesa_store_spec.specs.Catalog.{empty_catalog}
use Rattle.mesa_store_spec.specs.Fitting.{fits, catalog_from}
use Rattle.mesa_store_spec.specs.Journaled.{catalog}
use Rattle.mesa_store_spec.specs.Contents.{Rows}
use Rattle.mesa_store_spec.specs.Sound.{IsSoundAs}
use Rattle.mesa_store_spec.proofs.Bodies.{run_1}

-- the checkpoint, by its kind: 15, or 8, 11 or 13 in an earlier edition
abbrev checkpoint_as : ℕ → List ℕ
checkpoint_as kind = kind ∷ 0 ∷ 0 ∷ 0 ∷ 1 ∷ 0 ∷ 0 ∷ 0x19 ∷ 0x9a ∷ 0 ∷ 0 ∷ 0 ∷ 0 ∷ 0 ∷ 0 ∷ 0 ∷ 0 ∷ 0 ∷ 0 ∷ []

abbrev checkpoint : List ℕ
checkpoint = checkpoint_as 15

abbrev run_6555 : List ℕ
run_6555 = 1 ∷ 0 ∷ 0 ∷ 0x19 ∷ 0x9b ∷ []

is_stated : catalog One (checkpoint ∷ []) ≡ Some (record empty_catalog { run = 6554 })
unfolding fields_of stated_at reading_below.rising fits catalog_from
is_stated = refl

is_stated_first : catalog One (checkpoint_as 8 ∷ []) ≡ Some (record empty_catalog { run = 6554 })
unfolding fields_of stated_at reading_below.rising fits catalog_from
is_stated_first = refl

is_stated_second : catalog One (checkpoint_as 11 ∷ []) ≡ Some (record empty_catalog { run = 6554 })
unfolding fields_of stated_at reading_below.rising fits catalog_from
is_stated_second = refl

is_stated_third : catalog One (checkpoint_as 13 ∷ []) ≡ Some (record empty_catalog { run = 6554 })
unfolding fields_of stated_at reading_below.rising fits catalog_from
is_stated_third = refl

is_run : catalog One (checkpoint ∷ run_6555 ∷ []) ≡ Some (record empty_catalog { run = 6555 })
unfolding fields_of stated_at reading_below.rising fits catalog_from
is_run = refl

-- an odd number has no place in area 0
not_in_zero : catalog Zero (checkpoint ∷ []) ≡ None
unfolding fields_of stated_at reading_below.rising fits catalog_from
not_in_zero = refl

-- a checkpoint is no later body, and another record is no first one of area 1
not_later : catalog Zero (run_1 ∷ checkpoint ∷ []) ≡ None
unfolding fields_of stated_at reading_below.rising fits catalog_from
not_later = refl

not_first : catalog One (run_1 ∷ []) ≡ None
unfolding fields_of stated_at reading_below.rising fits catalog_from
not_first = refl

abbrev area_zero : List ℕ
area_zero = 1 ∷ 0 ∷ 0 ∷ 0 ∷ 5 ∷ 1 ∷ 0 ∷ 0 ∷ 0 ∷ 1 ∷ 0 ∷ []

-- 35 bytes
abbrev area_one : List ℕ
area_one = 1 ∷ 0 ∷ 0 ∷ 0 ∷ 0x13 ∷ (checkpoint ++ 1 ∷ 0 ∷ 0 ∷ 0 ∷ 5 ∷ (run_6555 ++ 0 ∷ []))

abbrev image : Image
image = record { zero = area_zero; one = area_one; files = empty }

zero_is : Closed area_zero (run_1 ∷ []) 10
unfolding word
zero_is = record { gate = 0; rest = []; shut = λ e. omega (arith, e); split = refl; fit = ((let short : 5 < 2 ^ 32 = omega arith in short), tt); ends = refl }

one_is : Closed area_one (checkpoint ∷ run_6555 ∷ []) 34
unfolding word
one_is = record { gate = 0; rest = []; shut = λ e. omega (arith, e); split = refl; fit = ((let short : 19 < 2 ^ 32 = omega arith in short), ((let less : 5 < 2 ^ 32 = omega arith in less), tt)); ends = refl }

is_journal : HasJournal image One (checkpoint ∷ run_6555 ∷ []) 34
unfolding number_in of_word
is_journal = record { whole = inr one_is; behind = record { others = run_1 ∷ []; end = 10; whole = inr zero_is; leads = (let less : 1 < 2 = omega arith in less) } }

is_sound : (rows : Rows) → IsSoundAs image (checkpoint ∷ run_6555 ∷ []) (record empty_catalog { run = 6555 }) rows
is_sound rows = record { live = One; end = 34; journal = is_journal; records = is_run; files = tt; rows_are = tt }

-- Journals that end in the midst of a record: behind a gate that isn't open what follows is no matter, behind an open one it is damage.
use Rattle.std.proofs.Common.{◌≡◌, refl, ℕ, ◌<◌, ◌≤◌, ◌^◌, List, [], ◌∷◌, ◌++◌, Some, inl, inr, arith}
use Rattle.std.specs.FinMap.{empty}
use Rattle.mesa_commit.specs.mesa_disk.Image.{Image}
use Rattle.mesa_commit.specs.mesa_journal.Journal.{Closed, IsDamaged, frames, word, of_word}
use Rattle.mesa_record.specs.Reading.{fields_of}
use Rattle.mesa_record.specs.mesa_record_fields.Reading as reading_below
use Rattle.mesa_commit.specs.mesa_disk.declared.area.Area.TheVariants.{Zero}
use Rattle.mesa_store_spec.specs.Catalog.{empty_catalog}
use Rattle.mesa_store_spec.specs.Fitting.{fits, catalog_from}
use Rattle.mesa_store_spec.specs.Journaled.{catalog}
use Rattle.mesa_store_spec.specs.Contents.{Rows}
use Rattle.mesa_store_spec.specs.Sound.{IsSoundAs}
use Rattle.mesa_store_spec.proofs.Bodies.{run_1}

abbrev run_2 : List ℕ
run_2 = 1 ∷ 0 ∷ 0 ∷ 0 ∷ 2 ∷ []

-- the record of run 1, and behind a gate of this number the front of another
abbrev cut : ℕ → List ℕ
cut gate = 1 ∷ 0 ∷ 0 ∷ 0 ∷ 5 ∷ 1 ∷ 0 ∷ 0 ∷ 0 ∷ 1 ∷ gate ∷ 0 ∷ 0 ∷ 0 ∷ 5 ∷ 1 ∷ 0 ∷ []

abbrev image : Image
image = record { zero = cut 2; one = []; files = empty }

after_run_1 : catalog Zero (run_1 ∷ []) ≡ Some (record empty_catalog { run = 1 })
unfolding fields_of reading_below.rising fits catalog_from
after_run_1 = refl

closed : Closed (cut 2) (run_1 ∷ []) 10
unfolding word
closed = record { gate = 2; rest = 0 ∷ 0 ∷ 0 ∷ 5 ∷ 1 ∷ 0 ∷ []; shut = λ e. omega (arith, e); split = refl; fit = ((let short : 5 < 2 ^ 32 = omega arith in short), tt); ends = refl }

-- a gate of 2 ends the journal
is_sound : (rows : Rows) → IsSoundAs image (run_1 ∷ []) (record empty_catalog { run = 1 }) rows
is_sound rows = record {
  live = Zero;
  end = 10;
  journal = record { whole = inr closed; behind = record { others = []; end = 0; whole = inl (record { short = (let e : 0 ≤ 1 = omega arith in e); none = refl; ends = refl }); leads = omega arith } };
  records = after_run_1;
  files = tt;
  rows_are = tt;
}

-- the next run writes its record there
after_run_2 : catalog Zero (run_1 ∷ run_2 ∷ []) ≡ Some (record empty_catalog { run = 2 })
unfolding fields_of reading_below.rising fits catalog_from
after_run_2 = refl

area_after : frames (run_1 ∷ run_2 ∷ []) ++ 0 ∷ [] ≡ 1 ∷ 0 ∷ 0 ∷ 0 ∷ 5 ∷ 1 ∷ 0 ∷ 0 ∷ 0 ∷ 1 ∷ 1 ∷ 0 ∷ 0 ∷ 0 ∷ 5 ∷ 1 ∷ 0 ∷ 0 ∷ 0 ∷ 2 ∷ 0 ∷ []
unfolding word
area_after = refl

-- a gate of 1 whose record isn't whole is damage at its place: 21 bytes are needed, and 17 are there
is_damaged : IsDamaged (cut 1) 10 21
unfolding word of_word
is_damaged = record {
  bodies = run_1 ∷ [];
  tail = 0 ∷ 0 ∷ 0 ∷ 5 ∷ 1 ∷ 0 ∷ [];
  split = refl;
  fit = ((let short : 5 < 2 ^ 32 = omega arith in short), tt);
  place = refl;
  some = (let two : 2 ≤ 17 = omega arith in two);
  wants = refl;
  short = (let less : 17 < 21 = omega arith in less);
}

-- What is known of a disk that tells no bytes.
use Rattle.std.specs.Prelude.{◌≡◌, ◌<◌, ◌^◌, ℕ, List, Option, None, Some}
use Rattle.mesa_disk.specs.Image.{Image}
use Rattle.mesa_disk.specs.Story.{Story}
use Rattle.mesa_disk.specs.declared.area.Area.{Area}
use Rattle.mesa_disk.specs.declared.area.Area.TheVariants.{Zero, One}

abbrev pub len_of : ℕ → ℕ → Area → ℕ
len_of z o Zero = z
len_of z o One = o

-- no image is named, so what is said of each image says nothing
abbrev pub untold_story : ℕ → ℕ → ℕ → ℕ → ℕ → Story
untold_story len_zero len_one clock faults read_faults = record {
  told = None;
  len = len_of len_zero len_one;
  moment = clock;
  may_leave = λ c. ⊥;
  may_have_left = λ t c. ⊥;
  faults = faults;
  read_faults = read_faults;
}

pub told_never : (i : Image) → ◌≡◌ {A = Option Image} None (Some i) → ⊥
told_never i is = cc

pub small_of : (zero one : ℕ) → (zero < 2 ^ 64) × (one < 2 ^ 64) → (a : Area) → len_of zero one a < 2 ^ 64
small_of z o small Zero = small.0
small_of z o small One = small.1

pub no_size : (b : List ℕ) → ◌≡◌ {A = Option (List ℕ)} None (Some b) → ⊥
no_size b is = cc

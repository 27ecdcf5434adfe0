-- The record of a disk in memory: what it held at first, and each call that changed it.
use Rattle.std.specs.Prelude.{◌≡◌, ◌⊎◌, ℕ, ◌≤◌, List, [], ◌∷◌, map, length, Option, None, Some, refl}
use Rattle.std.specs.Ordering.{nat_cmp}
use Rattle.std.specs.Coded.{Coded, code_by, coded×, coded_ℕ, coded_list, ×_prop, Unit-prop, le_prop}
use Rattle.std.specs.FinMap as fin
use Rattle.std.specs.Arc.{arc_value}
use Rattle.mesa_io.specs.Causes.{Rose}
use Rattle.mesa_disk.specs.Image.{Image, area_of, with_file, without_file, Tears, Loses, May, with_area, overwritten}
use Rattle.mesa_disk.specs.Story.{After}
use Rattle.mesa_disk.specs.declared.memory.held.Held.{Held}
use Rattle.mesa_disk.specs.declared.memory.held.Given.{Given}
use Rattle.mesa_disk.specs.declared.memory.held.Start.{Start}
use Rattle.mesa_disk.specs.declared.memory.held.Start.TheVariants.{AsGiven, Shared}
use Rattle.mesa_disk.specs.declared.memory.calls.Done.{Done}
use Rattle.mesa_disk.specs.declared.memory.calls.Call.{Call}
use Rattle.mesa_disk.specs.declared.memory.calls.Call.TheVariants.{Write, Sync, Adopt, Remove}

-- what is held
abbrev pub held_image : Held → Image
held_image held = record { zero = held.zero.items; one = held.one.items; files = fin.from_entries (map (λ e. (e.0, arc_value e.1)) held.files.entries) }

-- what a disk was made from; where an id stands twice, the first file counts
abbrev pub given_image : Given → Image
given_image given = record { zero = given.zero.items; one = given.one.items; files = fin.from_entries given.files.items }

-- what was held at first
abbrev pub start_image : Start → Image
start_image (AsGiven given) = given_image given
start_image (Shared held) = held_image held

-- what is held now: the start, until a call changes it
abbrev pub now_image : Start → Option Held → Image
now_image start None = start_image start
now_image start (Some held) = held_image held

-- two images are one in at most one way
abbrev pub image_code : Coded Image
image_code =
    code_by (List ℕ × (List ℕ × fin.FinMap nat_cmp (List ℕ))) (coded× (coded_list coded_ℕ) (coded× (coded_list coded_ℕ) (fin.code {R = nat_cmp} coded_ℕ (coded_list coded_ℕ))))
    (λ i. (i.zero, (i.one, i.files))) (λ p. record { zero = p.0; one = p.1.0; files = p.1.1 }) (λ _. refl)

-- what a read gives after a call
abbrev pub seen_step : Call → Image → Image
seen_step (Write area at bytes) seen = with_area area (overwritten at bytes (area_of area seen)) seen
seen_step Sync seen = seen
seen_step (Adopt id bytes) seen = with_file id (arc_value bytes) seen
seen_step (Remove id) seen = without_file id seen

-- what a read gives after calls
abbrev pub seen_after : Image → List Done → Image
seen_after seen [] = seen
seen_after seen (d ∷ ds) = seen_after (seen_step d.call seen) ds

-- What a crash may leave: what a read gives, or something else.
abbrev pub Left : Image → (Image → Type 0) → Image → Type 0
Left seen other c = (seen ≡ c) ⊎ other c

-- What a crash after a call may leave beside what a read gives.
abbrev pub other_step : Call → Image → (Image → Type 0) → Image → Type 0
other_step (Write area at bytes) seen other = After (Tears area at (length bytes)) (Left seen other)
other_step Sync seen other = λ c. ⊥
other_step (Adopt id bytes) seen other = After (λ d c. (c ≡ d) ⊎ (c ≡ with_file id (arc_value bytes) d)) (Left seen other)
other_step (Remove id) seen other = After (May Loses id) (Left seen other)

-- What a crash after calls may leave beside what a read gives.
abbrev pub OtherAfter : Image → (Image → Type 0) → List Done → Image → Type 0
OtherAfter seen other [] = other
OtherAfter seen other (d ∷ ds) = OtherAfter (seen_step d.call seen) (other_step d.call seen other) ds

-- What a crash before some call, at a moment from t on, may have left.
abbrev pub PastLeft : Image → (Image → Type 0) → List Done → ℕ → Image → Type 0
PastLeft seen other [] t c = ⊥
PastLeft seen other (d ∷ ds) t c = ((t ≤ d.before) × Left seen other c) ⊎ PastLeft (seen_step d.call seen) (other_step d.call seen other) ds t c

-- At first a crash leaves what a read gives.
abbrev pub nothing : Image → Type 0
nothing c = ⊥

-- What a crash after these calls may leave.
abbrev pub MayLeave : Image → List Done → Image → Type 0
MayLeave start calls = Left (seen_after start calls) (OtherAfter start nothing calls)

-- What a crash may have left after these calls, or before one of them at a moment from t on.
abbrev pub MayHaveLeft : Image → List Done → ℕ → Image → Type 0
MayHaveLeft start calls t c = MayLeave start calls c ⊎ PastLeft start nothing calls t c

-- The clock has risen since each call.
abbrev pub AllBefore : ℕ → List Done → Type 0
AllBefore clock [] = Unit {0}
AllBefore clock (d ∷ ds) = Rose d.before clock × AllBefore clock ds

pub AllBefore-prop : (clock : ℕ) (ds : List Done) → IsProp (AllBefore clock ds)
AllBefore-prop clock [] = Unit-prop
AllBefore-prop clock (d ∷ ds) = ×_prop le_prop (AllBefore-prop clock ds)

-- A write begins within its area or at its end.
abbrev pub IsPlaced : Call → Image → Type 0
IsPlaced (Write area at bytes) seen = at ≤ length (area_of area seen)
IsPlaced Sync seen = Unit {0}
IsPlaced (Adopt id bytes) seen = Unit {0}
IsPlaced (Remove id) seen = Unit {0}

-- So does each write among calls.
abbrev pub ArePlaced : Image → List Done → Type 0
ArePlaced seen [] = Unit {0}
ArePlaced seen (d ∷ ds) = IsPlaced d.call seen × ArePlaced (seen_step d.call seen) ds

IsPlaced-prop : (call : Call) (seen : Image) → IsProp (IsPlaced call seen)
IsPlaced-prop (Write area at bytes) seen = le_prop
IsPlaced-prop Sync seen = Unit-prop
IsPlaced-prop (Adopt id bytes) seen = Unit-prop
IsPlaced-prop (Remove id) seen = Unit-prop

pub ArePlaced-prop : (seen : Image) (ds : List Done) → IsProp (ArePlaced seen ds)
ArePlaced-prop seen [] = Unit-prop
ArePlaced-prop seen (d ∷ ds) = ×_prop (IsPlaced-prop d.call seen) (ArePlaced-prop (seen_step d.call seen) ds)

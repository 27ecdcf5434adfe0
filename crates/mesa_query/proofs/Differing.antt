-- Damage that is told of a query's files: what is found differs from what was wanted.
use Rattle.std.proofs.Common.{◌≡◌, inl, inr, ⊎_elim, ℕ, ◌<◌, List, [], ◌∷◌, sym, ap, subst, arith}
use Rattle.std.specs.Prelude.{◌⊎◌, Option}
use Rattle.mesa_group_blocks.specs.mesa_io.Causes.{Rose}
use Rattle.mesa_file.specs.declared.damage.Damage.{Damage}
use Rattle.mesa_file.specs.declared.damage.Seen.{Seen}
use Rattle.mesa_file.specs.declared.damage.Seen.TheVariants as seen
use Rattle.mesa_group_blocks.specs.mesa_columns.declared.rows.Row.{Row}
use Rattle.mesa_filter.specs.declared.terms.Term.{Term}
use Rattle.mesa_group_blocks.specs.mesa_answer.Gathering.{Wanted}
use Rattle.mesa_group_blocks.specs.mesa_delta.Damages.{IsWrongLength, IsPieceDamage}
use Rattle.mesa_group_blocks.specs.mesa_delta_format.Indexed.{Indexed}
use Rattle.mesa_group_blocks.specs.mesa_delta.Reading.{IsBlockDamage}
use Rattle.mesa_group_blocks.specs.mesa_delta.declared.input.Input.{Input}
use Rattle.mesa_group_blocks.specs.mesa_scan.Cursors.{reader_in}
use Rattle.mesa_group_blocks.specs.mesa_scan.Damaged.{IsDamaged}
use Rattle.mesa_group_blocks.specs.mesa_merge.Faults.{SomeRose, faults_of}
use Rattle.mesa_group_blocks.specs.mesa_view.SumDamage.{IsSumDamage}
use Rattle.mesa_group_blocks.specs.mesa_open_files.declared.querying.PinnedInput.{PinnedInput}
use Rattle.mesa_group_blocks.specs.mesa_open_files.Errors.{Differs}
use Rattle.mesa_group_blocks.specs.mesa_open_files.GivingBack.{SomeFailed}
use Rattle.mesa_query.specs.Files.{IsDamageIn}
use Rattle.mesa_query.specs.Sums.{IsSumIn}

-- ---- faults

rose_above : (before now : ℕ) → Rose before now → 0 < now
rose_above before now rose = omega (arith, rose)

-- a reader whose count rose has failed
pub rose_failed : {R : Type 0} (faults : R → ℕ) (before : List ℕ) (inputs : List (Input R)) → SomeRose before (faults_of faults inputs) → SomeFailed faults inputs
rose_failed faults [] inputs rose = absurd rose
rose_failed faults (b ∷ before) [] rose = absurd rose
rose_failed faults (b ∷ before) (i ∷ inputs) rose = ⊎_elim
    (λ (one : Rose b (faults (reader_in i))). inl (rose_above b (faults (reader_in i)) one))
    (λ (more : SomeRose before (faults_of faults inputs)). inr (rose_failed faults before inputs more))
    rose

-- ---- damage

length_in : Seen → ℕ
length_in (seen.Length n) = n
length_in s = 0

digest_in : Seen → List ℕ
digest_in (seen.Digest bytes) = bytes
digest_in s = []

unlike_fits : (n : ℕ) → seen.Fits ≡ seen.Misfit n → ⊥
unlike_fits n same = cc

told_as : (d told : Damage) → d ≡ told → Differs told → Differs d
told_as d told is differs = subst Differs (sym is) differs

length_differs : (file len size : ℕ) (d : Damage) → IsWrongLength file len size d → Differs d
unfolding length_in
length_differs file len size d wrong = told_as d _ wrong.0 (λ same. wrong.1 (sym (ap length_in same)))

piece_differs : (told : Option (List ℕ)) (file place len : ℕ) (digest : List ℕ) (Never : List ℕ → Type 0) (d : Damage) → IsPieceDamage told file place len digest Never d → Differs d
unfolding digest_in
piece_differs told file place len digest Never d (piece, read, inl wrong) = told_as d _ wrong.0 (λ same. wrong.1 (sym (ap digest_in same)))
piece_differs told file place len digest Never d (piece, read, inr misfit) = told_as d _ misfit.0.0 (λ same. unlike_fits 0 same)

block_differs : (told : Option (List ℕ)) (size : ℕ) (x : Indexed) (block : ℕ) (before : List (List Row)) (d : Damage) → IsBlockDamage told size x block before d → Differs d
block_differs told size x block before d (inl wrong) = length_differs x.file x.len size d wrong
block_differs told size x block before d (inr piece) = piece_differs told x.file _ _ _ _ d piece.1

pub damaged_differs : {R : Type 0} (bytes : R → Option (List ℕ)) (size : R → ℕ) (i : Input R) (d : Damage) → IsDamaged bytes size i d → Differs d
damaged_differs bytes size i d damaged = block_differs (bytes (reader_in i)) (size (reader_in i)) _ damaged.block damaged.before d damaged.shown

pub sum_differs : (file : ℕ) (d : Damage) → IsSumDamage file d → Differs d
sum_differs file d is = told_as d _ is (λ same. unlike_fits 0 same)

file_differs : {R : Type 0} (bytes : R → Option (List ℕ)) (size : R → ℕ) (d : Damage) (old new : List (PinnedInput R)) → IsDamageIn bytes size d old new → Differs d
file_differs bytes size d [] new damage = absurd damage
file_differs bytes size d (file ∷ old) [] damage = absurd damage
file_differs bytes size d (file ∷ old) (now ∷ new) (inl here) = damaged_differs bytes size file.input d here.0
file_differs bytes size d (file ∷ old) (now ∷ new) (inr later) = file_differs bytes size d old new later

-- what is told of a query's files differs from what was wanted
pub query_differs : {R : Type 0} (bytes : R → Option (List ℕ)) (size : R → ℕ) (w : Wanted) (terms : List Term) (view : Option ℕ) (d : Damage) (old new : List (PinnedInput R)) → IsDamageIn bytes size d old new ⊎ IsSumIn bytes w terms view old d → Differs d
query_differs bytes size w terms view d old new (inl block) = file_differs bytes size d old new block
query_differs bytes size w terms view d old new (inr sum) = sum_differs _ d sum.told

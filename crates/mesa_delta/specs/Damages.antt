-- What damage is told of a file, and when.
use Rattle.std.specs.Prelude.{◌≡◌, ◌≢◌, ◌⊎◌, ℕ, List, length, take, drop, Option, Some}
use Rattle.sha2.specs.Sha256.{sha256}
use Rattle.mesa_delta_format.specs.mesa_file.declared.damage.Damage.{Damage}
use Rattle.mesa_delta_format.specs.mesa_file.declared.damage.Seen.TheVariants as seen

-- A piece of a file was read: as many bytes from a place on, the file's where they are told.
pub record IsPiece (content : Option (List ℕ)) (at count : ℕ) (piece : List ℕ) : Type 0 where
  pub len : length piece ≡ count
  pub told : (bytes : List ℕ) → content ≡ Some bytes → piece ≡ take count (drop at bytes)

-- The file's length isn't the recorded one.
abbrev pub IsWrongLength : ℕ → ℕ → ℕ → Damage → Type 0
IsWrongLength file len size d = (d ≡ record { file = file; place = 0; want = seen.Length len; found = seen.Length size }) × (size ≢ len)

-- The digest of a piece isn't the recorded one.
abbrev pub IsWrongDigest : ℕ → ℕ → List ℕ → List ℕ → Damage → Type 0
IsWrongDigest file place digest piece d = (d ≡ record { file = file; place = place; want = seen.Digest digest; found = seen.Digest (sha256 piece) }) × (sha256 piece ≢ digest)

-- A piece with the recorded digest isn't in the grammar.
abbrev pub IsMisfit : ℕ → ℕ → List ℕ → List ℕ → Damage → Type 0
IsMisfit file place digest piece d = (d ≡ record { file = file; place = place; want = seen.Fits; found = seen.Misfit 0 }) × (sha256 piece ≡ digest)

-- A piece was read of which either is so: its digest isn't the recorded one, or it has this digest and cannot stand there.
abbrev pub IsPieceDamage : Option (List ℕ) → ℕ → ℕ → ℕ → List ℕ → (List ℕ → Type 0) → Damage → Type 0
IsPieceDamage told file place len digest Never d =
    (piece : List ℕ) × IsPiece told place len piece × (IsWrongDigest file place digest piece d ⊎ (IsMisfit file place digest piece d × Never piece))

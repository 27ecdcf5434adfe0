-- What a file's calls say of its bytes.
use Rattle.std.specs.Prelude.{◌≡◌, ℕ, List, [], ◌∷◌, ◌++◌, length, if◌then◌else◌, Option, None, Some, option_map}
use Rattle.std.proofs.Common.{ap, sym, ◌∙◌}
use Rattle.mesa_os.specs.Calls.{Call, Wrote}

-- the bytes that a call added
abbrev pub written_by : Call → List ℕ
written_by (Wrote bytes ok) = if ok then bytes else []
written_by call = []

-- the bytes that were written one behind the other
abbrev pub written : List Call → List ℕ
written [] = []
written (call ∷ calls) = written calls ++ written_by call

-- the same where it is told
abbrev pub told_bytes : Option (List Call) → Option (List ℕ)
told_bytes told = option_map written told

-- how many bytes were written; a count that is taken for it where nothing is told
abbrev pub written_len : ℕ → Option (List Call) → ℕ
written_len count None = count
written_len count (Some calls) = length (written calls)

pub told_sized : (told : Option (List Call)) (count : ℕ) (bytes : List ℕ) → written_len count told ≡ count → told_bytes told ≡ Some bytes → length bytes ≡ count
told_sized None count bytes counted is = cc
told_sized (Some calls) count bytes counted is = let same : written calls ≡ bytes = cc in ap length (sym same) ∙ counted

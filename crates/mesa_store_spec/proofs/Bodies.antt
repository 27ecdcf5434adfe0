-- Fields of worked bodies, byte by byte.
use Rattle.std.specs.Prelude.{ℕ, ◌+◌, ◌^◌, List, [], ◌∷◌, ◌++◌}

-- small numbers as fields of two, four, eight and sixteen bytes
abbrev pub half : ℕ → List ℕ
half n = 0 ∷ n ∷ []

abbrev pub word : ℕ → List ℕ
word n = 0 ∷ 0 ∷ 0 ∷ n ∷ []

abbrev pub long : ℕ → List ℕ
long n = 0 ∷ 0 ∷ 0 ∷ 0 ∷ 0 ∷ 0 ∷ 0 ∷ n ∷ []

abbrev pub wide : ℕ → List ℕ
wide n = long 0 ++ long n

-- a small int as a key column
abbrev pub key : ℕ → List ℕ
key n = 0x80 ∷ 0 ∷ 0 ∷ 0 ∷ 0 ∷ 0 ∷ 0 ∷ n ∷ []

-- the id of a run's file, as a field and as a number
abbrev pub id_bytes : ℕ → ℕ → List ℕ
id_bytes run k = 0 ∷ 0 ∷ run ∷ 0 ∷ 0 ∷ 0 ∷ 0 ∷ k ∷ []

abbrev pub first_run : ℕ → ℕ
first_run k = 2 ^ 40 + k

-- run 1 begins
abbrev pub run_1 : List ℕ
run_1 = 1 ∷ 0 ∷ 0 ∷ 0 ∷ 1 ∷ []

-- a batch without rows
abbrev pub empty_batch : ℕ → List ℕ
empty_batch version = 5 ∷ word version ++ half 0

-- the oldest version is this one
abbrev pub expire : ℕ → List ℕ
expire version = 7 ∷ word version

-- the oldest version of a table is this one
abbrev pub expire_table : ℕ → ℕ → List ℕ
expire_table table version = 12 ∷ half table ++ word version

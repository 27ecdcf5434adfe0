-- Histories: lists of numbers, each of which tells the name under which its turn was taken.
use Rattle.std.specs.Prelude.{◌&&◌, true, [], ◌∷◌, ◌≡◌, ◌==◌, ℕ, ◌/◌, ◌%◌, ◌^◌, Bool, false, if◌then◌else◌, List, length, Option, Some, None, filter, nat_lt, not, IsTrue}
use Rattle.std.specs.List.{list_any, slice_get}

-- The name of a number: the sixteen bits above the lowest sixteen.
abbrev pub name_of : ℕ → ℕ
name_of x = (x / 2 ^ 16) % 2 ^ 16

-- whether the number is one of these
abbrev pub has : List ℕ → ℕ → Bool
has numbers n = list_any (λ m. m == n) numbers

-- whether there is an entry, and its name is one of these
abbrev pub has_at : List ℕ → Option ℕ → Bool
has_at names None = false
has_at names (Some x) = has names (name_of x)

-- The entries of a history that have one of these names, in their order.
abbrev pub entries_of : List ℕ → List ℕ → List ℕ
entries_of names list = filter (λ x. has names (name_of x)) list

-- The own positions are exactly those of the history at which one of the names stands.
abbrev pub Exactly : List ℕ → List ℕ → List ℕ → Type 0
Exactly own names list = (k : ℕ) → has own k ≡ has_at names (slice_get list k)

-- Two lists of names have none in common.
abbrev pub AreApart : List ℕ → List ℕ → Type 0
AreApart names others = (n : ℕ) → IsTrue (has names n) → has others n ≡ false

-- Each of the first names is one of the second.
abbrev pub Within : List ℕ → List ℕ → Type 0
Within names others = (n : ℕ) → IsTrue (has names n) → IsTrue (has others n)

-- the longer of two lists
abbrev pub longer_of : List ℕ → List ℕ → List ℕ
longer_of xs ys = if nat_lt (length xs) (length ys) then ys else xs

-- the other one
abbrev pub shorter_of : List ℕ → List ℕ → List ℕ
shorter_of xs ys = if nat_lt (length xs) (length ys) then xs else ys

abbrev pub without : ℕ → List ℕ → List ℕ
without n names = filter (λ m. not (m == n)) names

-- whether no number stands twice
abbrev pub once : List ℕ → Bool
once [] = true
once (x ∷ xs) = not (has xs x) && once xs

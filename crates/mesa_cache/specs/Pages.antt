-- The pages of a file, and those that are kept.
use Rattle.std.specs.Prelude.{◌≡◌, ℕ, ◌-◌, ◌*◌, min, List, length, take, drop, Contains, Option, Some, ◌⊎◌}

-- how many bytes a page has
abbrev pub page_size : ℕ
page_size = 16384

-- a page of a file: the bytes from its place on, fewer at the file's end
abbrev pub page_of : ℕ → List ℕ → List ℕ
page_of number bytes = take page_size (drop (page_size * number) bytes)

-- These are the bytes of a file's page: as many as the file's size gives it, and the file's where they are told.
pub record IsPage (content : Option (List ℕ)) (size number : ℕ) (page : List ℕ) : Type 0 where
  pub len : length page ≡ min page_size (size - page_size * number)
  pub told : (bytes : List ℕ) → content ≡ Some bytes → page ≡ page_of number bytes

-- Each page that is kept is the file's page of its number.
abbrev pub ArePages : Option (List ℕ) → ℕ → List (ℕ × List ℕ) → Type 0
ArePages content size pages = (number : ℕ) (page : List ℕ) → Contains pages (number, page) → IsPage content size number page

-- They are as long as the file's size gives them.
abbrev pub AreSized : ℕ → List (ℕ × List ℕ) → Type 0
AreSized size pages = (number : ℕ) (page : List ℕ) → Contains pages (number, page) → length page ≡ min page_size (size - page_size * number)

-- They are those pages of these bytes.
abbrev pub AreOf : List ℕ → List (ℕ × List ℕ) → Type 0
AreOf bytes pages = (number : ℕ) (page : List ℕ) → Contains pages (number, page) → page ≡ page_of number bytes

-- Whatever page is kept now was kept before.
abbrev pub AreAmong : List (ℕ × List ℕ) → List (ℕ × List ℕ) → Type 0
AreAmong new old = (number : ℕ) (page : List ℕ) → Contains new (number, page) → Contains old (number, page)

-- Whatever page is kept now was kept before, or is this one.
abbrev pub AreWith : ℕ → List ℕ → List (ℕ × List ℕ) → List (ℕ × List ℕ) → Type 0
AreWith number page new old = (n : ℕ) (p : List ℕ) → Contains new (n, p) → Contains old (n, p) ⊎ ((n ≡ number) × (p ≡ page))

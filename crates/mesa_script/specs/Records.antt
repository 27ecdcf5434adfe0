-- The records of a script: their names, and how many fields each has.
use Rattle.std.specs.Prelude.{ℕ, zero, suc, List, [], ◌∷◌, length, take, codes, Bool, ◌&&◌, ◌==◌, nat_le, if◌then◌else◌, Option, Some, None}
use Rattle.mesa_model.specs.mesa_list.Bytes.{same_bytes}

-- what a record is for, by its first field
pub data Name : Type 0 where
  Lease : Name
  Session : Name
  Table : Name
  View : Name
  Alter : Name
  Row : Name
  Commit : Name
  Query : Name
  Explain : Name
  Pin : Name
  Release : Name
  Expire : Name
  Work : Name
  Recast : Name

-- the value that stands beside a word in a list of words
abbrev pub named : {A : Type 0} → List (List ℕ × A) → List ℕ → Option A
named [] word = None
named (p ∷ words) word = if same_bytes p.0 word then Some p.1 else named words word

-- the names of records
abbrev pub names : List (List ℕ × Name)
names =
    (codes "lease", Lease) ∷ (codes "session", Session) ∷ (codes "table", Table) ∷ (codes "view", View) ∷ (codes "alter", Alter)
    ∷ (codes "row", Row) ∷ (codes "commit", Commit) ∷ (codes "query", Query) ∷ (codes "explain", Explain) ∷ (codes "pin", Pin)
    ∷ (codes "release", Release) ∷ (codes "expire", Expire) ∷ (codes "work", Work) ∷ (codes "recast", Recast) ∷ []

-- the record of a name
abbrev pub name_of : List ℕ → Option Name
name_of word = named names word

-- the changes that an alter may ask for
pub data Change : Type 0 where
  AddValue : Change
  DropValue : Change
  AddKey : Change

-- the names of changes
abbrev pub changes : List (List ℕ × Change)
changes = (codes "add_value", AddValue) ∷ (codes "drop_value", DropValue) ∷ (codes "add_key", AddKey) ∷ []

-- the change of a name
abbrev pub change_of : List ℕ → Option Change
change_of word = named changes word

-- the field at a place, counted from 0, and no bytes behind the last one
abbrev pub field : ℕ → List (List ℕ) → List ℕ
field place [] = []
field zero (word ∷ fields) = word
field (suc place) (word ∷ fields) = field place fields

-- whether a number lies in a range, its ends included
abbrev pub is_between : ℕ → ℕ → ℕ → Bool
is_between low high n = nat_le low n && nat_le n high

-- how many fields an alter of this change may have
abbrev alter_has : Option Change → ℕ → Bool
alter_has None n = is_between 4 5 n
alter_has (Some AddValue) n = n == 5
alter_has (Some DropValue) n = n == 4
alter_has (Some AddKey) n = n == 5

-- A record of this name has as many fields as it may have, the name included.
abbrev pub fits_fields : Name → List (List ℕ) → Bool
fits_fields Lease fields = length fields == 2
fits_fields Session fields = length fields == 1
fits_fields Table fields = length fields == 4
fits_fields View fields = length fields == 5
fits_fields Alter fields = alter_has (change_of (field 2 fields)) (length fields)
fits_fields Row fields = nat_le 2 (length fields)
fits_fields Commit fields = length fields == 1
fits_fields Query fields = is_between 2 8 (length fields)
fits_fields Explain fields = is_between 2 4 (length fields)
fits_fields Pin fields = is_between 1 2 (length fields)
fits_fields Release fields = length fields == 2
fits_fields Expire fields = is_between 2 3 (length fields)
fits_fields Work fields = is_between 2 3 (length fields)
fits_fields Recast fields = length fields == 4

-- whether a word begins like the version of a pin
abbrev pub asks_pin : List ℕ → Bool
asks_pin word = same_bytes (take 4 word) (codes "pin:")

-- The paths of a store's files.
use Rattle.std.specs.Prelude.{◌≡◌, ℕ, ◌-◌, Bool, true, false, ◌&&◌, ◌||◌, nat_le, List, ◌∷◌, ◌++◌, length, replicate, codes}
use Rattle.std.specs.List.{list_all}
use Rattle.std.specs.Fmt.{digits}

-- a path within a folder; 47 is a slash
abbrev pub within : List ℕ → List ℕ → List ℕ
within folder name = folder ++ 47 ∷ name

-- the sixteen digits of an id's number, of which leading ones are `0`, code 48
unfoldable pub id_digits : ℕ → List ℕ
id_digits number = let shown = digits 16 false number in replicate (16 - length shown) 48 ++ shown

-- the name of an adopted file
abbrev pub adopted_name : ℕ → List ℕ
adopted_name id = id_digits id ++ codes ".mesa"

-- the name of a draft
abbrev pub draft_name : ℕ → List ℕ
draft_name id = id_digits id ++ codes ".draft"

-- where the adopted file of an id lies in a folder
abbrev pub adopted_path_of : List ℕ → ℕ → List ℕ
adopted_path_of folder id = within folder (adopted_name id)

-- where its draft lies
abbrev pub draft_path_of : List ℕ → ℕ → List ℕ
draft_path_of folder id = within folder (draft_name id)

-- where the journal areas lie
abbrev pub zero_path_of : List ℕ → List ℕ
zero_path_of folder = within folder (codes "journal0")

abbrev pub one_path_of : List ℕ → List ℕ
one_path_of folder = within folder (codes "journal1")

-- whether a byte is the code of a digit or of a letter from `a` to `f`
abbrev pub is_lower_hex : ℕ → Bool
is_lower_hex byte = (nat_le 48 byte && nat_le byte 57) || (nat_le 97 byte && nat_le byte 102)

-- Sixteen such bytes.
pub record AreDigits (name : List ℕ) : Type 0 where
  pub sixteen : length name ≡ 16
  pub hex : list_all is_lower_hex name ≡ true

-- A name of sixteen digits, and behind them this ending.
pub record IsNumbered (ending name : List ℕ) : Type 0 where
  pub number : List ℕ
  pub are_digits : AreDigits number
  pub is : name ≡ number ++ ending

-- Fields by their places.
use Rattle.std.proofs.Common.{◌≡◌, ℕ, zero, suc, List, [], ◌∷◌, refl, Some, None, get_or, ◌+◌, drop, ap, ◌∙◌, add-one}
use Rattle.csv.specs.Records.{field_at}
use Rattle.mesa_script.specs.Records.{field}

-- a field that is there
pub field_there : (place : ℕ) (fields : List (List ℕ)) (word : List ℕ) → field_at fields place ≡ Some word → field place fields ≡ word
unfolding field_at
field_there place [] word e = cc e
field_there zero (f ∷ fields) word e = cc e
field_there (suc place) (f ∷ fields) word e = field_there place fields word e

-- no field behind the last
pub field_behind : (place : ℕ) (fields : List (List ℕ)) → field_at fields place ≡ None → field place fields ≡ []
unfolding field_at
field_behind place [] e = refl
field_behind zero (f ∷ fields) e = cc e
field_behind (suc place) (f ∷ fields) e = field_behind place fields e

-- the same as an item of the list
pub field-get : (place : ℕ) (fields : List (List ℕ)) → field place fields ≡ get_or fields place []
field-get place [] = refl
field-get zero (f ∷ fields) = refl
field-get (suc place) (f ∷ fields) = field-get place fields

-- the fields behind the first
pub field_behind_first : (place : ℕ) (fields : List (List ℕ)) → field (place + 1) fields ≡ get_or (drop 1 fields) place []
field_behind_first place fields = ap (λ n. field n fields) (add-one place) ∙ by fields
  where
    by : (fields : List (List ℕ)) → field (suc place) fields ≡ get_or (drop 1 fields) place []
    by [] = refl
    by (f ∷ fields) = field-get place fields

-- What a walk over two short keys may leave out.
use Rattle.std.specs.Prelude.{◌≡◌, ℕ, List, take, Bool, false, ◌&&◌, IsTrue}
use Rattle.std.specs.Ordering.{is_ge, is_le}
use Rattle.mesa_fold.specs.mesa_key.declared.KeyType.{KeyType}
use Rattle.mesa_fold.specs.mesa_key.declared.KeyValue.{KeyValue}
use Rattle.mesa_fold.specs.mesa_key.Order.{byte_cmp, short_key}
use Rattle.mesa_fold.specs.mesa_key.Spelling.{IsKey, key_spelling}
use Rattle.mesa_filter.specs.declared.terms.Term.{Term}
use Rattle.mesa_filter.specs.Filter.{meets}

-- bytes from low to high, both included
abbrev pub lies_between : List ℕ → List ℕ → List ℕ → Bool
lies_between low high bytes = is_le (byte_cmp low bytes) && is_ge (byte_cmp high bytes)

-- No key of these types whose first columns have a short key from low to high meets the terms.
abbrev pub NoneMeets : List KeyType → ℕ → List Term → List ℕ → List ℕ → Type 0
NoneMeets kinds columns terms low high = (key : List KeyValue) → IsKey kinds key → IsTrue (lies_between low high (short_key (key_spelling (take columns key)))) → meets key terms ≡ false

-- Keys and their bytes, both ways.
use Rattle.std.proofs.Common.{◌≡◌, ℕ, ◌+◌, List, [], ◌∷◌, ◌++◌, length, take, drop, refl, sym, ◌∙◌, ap, arith, true, false, subst, append_assoc, append-nil, inl, inr, lit<, ◌-◌, length-append}
use Rattle.std.specs.Prelude.{◌&&◌, Some, None, slice_get}
use Rattle.std.proofs.lemmas.Bool.{eqb-true}
use Rattle.std.proofs.lemmas.Bool.{cases_lt}
use Rattle.std.proofs.lemmas.List.{take-append-drop, get_or-take, get_or-drop, get_or_past, length-take, take_at}
use Rattle.mesa_key.specs.declared.KeyValue.{KeyValue}
use Rattle.mesa_key.specs.declared.KeyType.{KeyType}
use Rattle.mesa_key.specs.Spelling.{AreBytes, IsKey, column_length, column_value, is_column, is_spelling, key_of, key_spelling, value_spelling}
use Rattle.mesa_key.proofs.Reading.{after_key, begins_with_key}
use Rattle.mesa_key.proofs.Columns.{begins, both, spells}
use Rattle.mesa_key.proofs.Zeros.{cut_column}
use Rattle.mesa_key.specs.Columns.{has_column}

-- the bytes of a value, the other values' and more
regrouped : (value : KeyValue) (key : List KeyValue) (more : List ℕ) → key_spelling (value ∷ key) ++ more ≡ value_spelling value ++ (key_spelling key ++ more)
regrouped value key more = append_assoc (value_spelling value) (key_spelling key) more

-- A key is read again from its spelling, whatever follows.
pub key_again : (types : List KeyType) (key : List KeyValue) (more : List ℕ) → IsKey types key → key_of types (key_spelling key ++ more) ≡ key
key_again [] [] more h = refl
key_again [] (value ∷ key) more h = absurd h
key_again (kind ∷ types) [] more h = absurd h
key_again (kind ∷ types) (value ∷ key) more h =
    let first = begins kind value (key_spelling key ++ more) h.0 in
    ap (key_of (kind ∷ types)) (regrouped value key more)
    ∙ ap (λ column. column_value kind column ∷ key_of types (drop (column_length kind (value_spelling value ++ (key_spelling key ++ more))) (value_spelling value ++ (key_spelling key ++ more)))) first.column
    ∙ ap (λ rest. column_value kind (value_spelling value) ∷ key_of types rest) first.rest
    ∙ ap (λ v. v ∷ key_of types (key_spelling key ++ more)) first.read
    ∙ ap (λ vs. value ∷ vs) (key_again types key more h.1)

-- Bytes that begin with a key's spelling begin with one.
pub spelling_begins : (types : List KeyType) (key : List KeyValue) (more : List ℕ) → IsKey types key → begins_with_key types (key_spelling key ++ more) ≡ true
spelling_begins [] [] more h = refl
spelling_begins [] (value ∷ key) more h = absurd h
spelling_begins (kind ∷ types) [] more h = absurd h
spelling_begins (kind ∷ types) (value ∷ key) more h =
    let first = begins kind value (key_spelling key ++ more) h.0 in
    ap (begins_with_key (kind ∷ types)) (regrouped value key more)
    ∙ ap (λ column. is_column kind column && begins_with_key types (drop (column_length kind (value_spelling value ++ (key_spelling key ++ more))) (value_spelling value ++ (key_spelling key ++ more)))) first.column
    ∙ ap (λ rest. is_column kind (value_spelling value) && begins_with_key types rest) first.rest
    ∙ ap (λ passes. passes && begins_with_key types (key_spelling key ++ more)) first.passes
    ∙ spelling_begins types key more h.1

-- A key's spelling ends where the bytes behind it begin.
pub after_spelling : (types : List KeyType) (key : List KeyValue) (more : List ℕ) → IsKey types key → after_key types (key_spelling key ++ more) ≡ more
after_spelling [] [] more h = refl
after_spelling [] (value ∷ key) more h = absurd h
after_spelling (kind ∷ types) [] more h = absurd h
after_spelling (kind ∷ types) (value ∷ key) more h =
    let first = begins kind value (key_spelling key ++ more) h.0 in
    ap (after_key (kind ∷ types)) (regrouped value key more) ∙ ap (after_key types) first.rest ∙ after_spelling types key more h.1

-- A spelling with nothing left over is one.
pub spelling_passes : (types : List KeyType) (key : List KeyValue) → IsKey types key → is_spelling types (key_spelling key) ≡ true
spelling_passes [] [] h = refl
spelling_passes [] (value ∷ key) h = absurd h
spelling_passes (kind ∷ types) [] h = absurd h
spelling_passes (kind ∷ types) (value ∷ key) h =
    let first = begins kind value (key_spelling key) h.0 in
    ap (λ column. is_column kind column && is_spelling types (drop (column_length kind (value_spelling value ++ key_spelling key)) (value_spelling value ++ key_spelling key))) first.column
    ∙ ap (λ rest. is_column kind (value_spelling value) && is_spelling types rest) first.rest
    ∙ ap (λ passes. passes && is_spelling types (key_spelling key)) first.passes
    ∙ spelling_passes types key h.1

-- No spelling begins another.
pub spelled_once : (types : List KeyType) (a b : List KeyValue) (more others : List ℕ) → IsKey types a → IsKey types b → key_spelling a ++ more ≡ key_spelling b ++ others → (a ≡ b) × (more ≡ others)
spelled_once types a b more others f g e = (
  sym (key_again types a more f) ∙ ap (key_of types) e ∙ key_again types b others g,
  sym (after_spelling types a more f) ∙ ap (after_key types) e ∙ after_spelling types b others g,
)

pub bytes-take : (n : ℕ) (bytes : List ℕ) → AreBytes bytes → AreBytes (take n bytes)
bytes-take n bytes h i = elim (cases_lt i n) [
  | inl lt ↦ rw (get_or-take n bytes i 0 lt) (h i)
  | inr ge ↦ rw (get_or_past (take n bytes) i 0 (omega (arith, length-take n bytes))) (lit< tt)
]

pub bytes-drop : (n : ℕ) (bytes : List ℕ) → AreBytes bytes → AreBytes (drop n bytes)
bytes-drop n bytes h i = rw (get_or-drop n bytes i 0) (h (n + i))

-- What the bytes begin with, where they begin with a key of these types.
pub record BeginsWithKey (types : List KeyType) (bytes : List ℕ) : Type 0 where
  pub key : IsKey types (key_of types bytes)
  pub spelled : key_spelling (key_of types bytes) ++ after_key types bytes ≡ bytes

pub begins_spelled : (types : List KeyType) (bytes : List ℕ) → AreBytes bytes → begins_with_key types bytes ≡ true → BeginsWithKey types bytes
begins_spelled [] bytes f h = record { key = tt; spelled = refl }
begins_spelled (kind ∷ types) bytes f h =
    let parts = both _ _ h in
    let n : ℕ = column_length kind bytes in
    let first = spells kind (take n bytes) (bytes-take n bytes f) parts.0 in
    let others = begins_spelled types (drop n bytes) (bytes-drop n bytes f) parts.1 in
    record {
      key = (first.value, others.key);
      spelled = append_assoc (value_spelling (column_value kind (take n bytes))) (key_spelling (key_of types (drop n bytes))) (after_key types (drop n bytes))
          ∙ ap (λ column. column ++ (key_spelling (key_of types (drop n bytes)) ++ after_key types (drop n bytes))) first.spelled
          ∙ ap (λ rest. take n bytes ++ rest) others.spelled
          ∙ take-append-drop n bytes;
    }

-- Bytes that begin with no key of these types don't begin with one's spelling.
pub no_spelling : (types : List KeyType) (bytes : List ℕ) → begins_with_key types bytes ≡ false → (key : List KeyValue) (more : List ℕ) → IsKey types key → bytes ≡ key_spelling key ++ more → ⊥
no_spelling types bytes h key more f e = let same : false ≡ true = sym h ∙ ap (begins_with_key types) e ∙ spelling_begins types key more f in cc

-- a spelling begins with a key and ends with it
ends : (types : List KeyType) (bytes : List ℕ) → is_spelling types bytes ≡ true → (begins_with_key types bytes ≡ true) × (after_key types bytes ≡ [])
ends [] [] h = (refl, refl)
ends [] (b ∷ bytes) h = absurd (omega (arith, eqb-true (length (b ∷ bytes)) 0 h))
ends (kind ∷ types) bytes h =
    let parts = both _ _ h in
    let others = ends types (drop (column_length kind bytes) bytes) parts.1 in
    (ap (λ t. t && begins_with_key types (drop (column_length kind bytes) bytes)) parts.0 ∙ others.0, others.1)

pub spelling_key : (types : List KeyType) (bytes : List ℕ) → AreBytes bytes → is_spelling types bytes ≡ true → IsKey types (key_of types bytes)
spelling_key types bytes f h = (begins_spelled types bytes f (ends types bytes h).0).key

pub spelling_spelled : (types : List KeyType) (bytes : List ℕ) → AreBytes bytes → is_spelling types bytes ≡ true → key_spelling (key_of types bytes) ≡ bytes
spelling_spelled types bytes f h =
    let whole = ends types bytes h in
    sym (append-nil _) ∙ ap (λ rest. key_spelling (key_of types bytes) ++ rest) (sym whole.1) ∙ (begins_spelled types bytes f whole.0).spelled

-- No key begins where its first column doesn't.
pub no_column : (kinds more : List KeyType) (type : KeyType) (bytes column : List ℕ) → kinds ≡ type ∷ more → column ≡ take (column_length type bytes) bytes → is_column type column ≡ false → begins_with_key kinds bytes ≡ false
no_column kinds more type bytes column e f h =
    ap (λ types. begins_with_key types bytes) e
    ∙ ap (λ found. is_column type found && begins_with_key more (drop (column_length type bytes) bytes)) (sym f)
    ∙ ap (λ t. t && begins_with_key more (drop (column_length type bytes) bytes)) h

-- No key begins where its first column isn't whole.
pub no_whole : (kinds : List KeyType) (type : KeyType) (bytes : List ℕ) → has_column kinds bytes ≡ false → Some type ≡ slice_get kinds 0 → begins_with_key kinds bytes ≡ false
no_whole [] type bytes h e = cc
no_whole (kind ∷ kinds) type bytes h e = ap (λ t. t && begins_with_key kinds (drop (column_length kind bytes) bytes)) (cut_column kind bytes h)

pub no_kinds : (kinds : List KeyType) → None ≡ slice_get kinds 0 → kinds ≡ []
no_kinds [] e = refl
no_kinds (kind ∷ kinds) e = cc

-- What was read once all types are through.
pub read_key : (types kinds : List KeyType) (bytes rest : List ℕ) (key : List KeyValue) → kinds ≡ [] → AreBytes bytes
    → key_of types bytes ≡ key ++ key_of kinds rest → begins_with_key types bytes ≡ begins_with_key kinds rest → after_key types bytes ≡ after_key kinds rest
    → IsKey types key × (key_spelling key ++ rest ≡ bytes)
read_key types kinds bytes rest key none f e g a =
    let all : key_of types bytes ≡ key = e ∙ ap (λ left. key ++ key_of left rest) none ∙ append-nil key in
    let whole = begins_spelled types bytes f (g ∙ ap (λ left. begins_with_key left rest) none) in
    let left : after_key types bytes ≡ rest = a ∙ ap (λ left. after_key left rest) none in
    (subst (IsKey types) all whole.key, ap (λ k. key_spelling k ++ rest) (sym all) ∙ ap (λ r. key_spelling (key_of types bytes) ++ r) (sym left) ∙ whole.spelled)

-- The bytes before a key's rest spell it.
pub read_spelling : (bytes rest : List ℕ) (key : List KeyValue) → key_spelling key ++ rest ≡ bytes → take (length bytes - length rest) bytes ≡ key_spelling key
read_spelling bytes rest key e =
    let size : length (key_spelling key) + length rest ≡ length bytes = sym (length-append (key_spelling key) rest) ∙ ap length e in
    ap (take (length bytes - length rest)) (sym e) ∙ take_at (key_spelling key) rest (length bytes - length rest) (omega arith)

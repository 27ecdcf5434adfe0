-- What reading a row's fields tells.
use Rattle.std.specs.Prelude.{◌≡◌, ℕ, List, ◌++◌, Result, Ok, Err, ⊤}
use Rattle.mesa_list.specs.Checks.{◌>>=◌}
use Rattle.mesa_schema.specs.mesa_key.declared.KeyValue.{KeyValue}
use Rattle.mesa_schema.specs.mesa_key.Spelling.{key_spelling}
use Rattle.mesa_batch.specs.declared.reading.FieldError.{FieldError}
use Rattle.mesa_batch.specs.declared.reading.FieldError.TheVariants.{Bad, Memory}

-- a key's spelling, where there is a key
abbrev pub spelled : Result (List KeyValue) ℕ → Result (List ℕ) ℕ
spelled key = key >>= (λ values. Ok (key_spelling values))

-- these, and then what a result has
abbrev pub after : {A : Type 0} → List A → Result (List A) ℕ → Result (List A) ℕ
after first result = result >>= (λ more. Ok (first ++ more))

-- the refusal names the first bad column
abbrev pub IsRefusal : {A : Type 0} → Result A ℕ → FieldError → Type 0
IsRefusal result (Bad column) = result ≡ Err column
IsRefusal result Memory = ⊤

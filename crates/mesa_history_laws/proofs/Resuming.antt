-- A printed resume key is read back as the key that it was made of.
use Rattle.std.proofs.Common.{◌≡◌, ℕ, ◌<◌, List, [], ◌∷◌, ◌++◌, length, drop, decimal, refl, ◌∙◌, ap, subst, arith, true, cond, Option, Some, None, Result, Ok, ok_or, nat_eq}
use Rattle.std.specs.List.{join_with_byte, starts_with}
use Rattle.std.proofs.lemmas.List.{length-append}
use Rattle.std.proofs.Math.Seq.{drop-append_seam, take-append_seam}
use Rattle.std.proofs.lemmas.Cmp.{nat_list_eq_equiv}
use lib.Pointwise.{pointwise}
use Rattle.mesa_history_spec.specs.mesa_list.Checks.{◌>>=◌, ◌>>◌, refuse_unless}
use Rattle.mesa_history_spec.specs.mesa_key.declared.KeyType.{KeyType}
use Rattle.mesa_history_spec.specs.mesa_key.Spelling.{is_spelling, key_of}
use Rattle.mesa_history_spec.proofs.mesa_key.Keys.{spelling_passes}
use Rattle.mesa_history_spec.specs.mesa_columns.Columns.{Columns, chosen, key_names, kinds_of}
use Rattle.mesa_history_spec.proofs.mesa_fold.KeyLifts.{Spells}
use Rattle.mesa_history_spec.specs.mesa_filter.declared.words.QueryError.{QueryError}
use Rattle.mesa_history_spec.specs.mesa_filter.declared.words.QueryError.TheVariants.{BadResume}
use Rattle.mesa_history_spec.specs.mesa_filter.Hex.{bytes_of_hex, hex_of}
use Rattle.mesa_history_spec.specs.mesa_filter.Resume.{resume_of, resume_prefix}
use Rattle.mesa_history_laws.proofs.KeyBytes.{Bytes, hex_read, key_bytes}

begins_with : (xs ys : List ℕ) → starts_with nat_eq (xs ++ ys) xs ≡ true
begins_with xs ys = ap (pointwise nat_eq xs) (take-append_seam xs ys) ∙ nat_list_eq_equiv.refl xs

abbrev group_key_of : Columns → List ℕ → Option (List ℕ) → Option (List ℕ)
group_key_of s columns None = None
group_key_of s columns (Some key) = cond (is_spelling (chosen columns (kinds_of s)) key) (Some key) None

module _ (s : Columns) (relation : List ℕ) (version epoch : ℕ) (columns : List ℕ) where
  abbrev prefix : List ℕ
  prefix = resume_prefix s relation version epoch columns

  -- what a text is read as that isn't empty
  abbrev read_of : List ℕ → Result (Option (List ℕ)) QueryError
  read_of words = do
    refuse_unless (starts_with nat_eq words prefix) BadResume
    key ← ok_or (group_key_of s columns (bytes_of_hex (drop (length prefix) words))) BadResume
    Ok (Some key)

  not_empty : (words : List ℕ) → 0 < length words → resume_of s relation version epoch columns words ≡ read_of words
  not_empty [] some = absurd (omega (arith, some))
  not_empty (b ∷ words) some = refl

  some_bytes : (key : List ℕ) → 0 < length (prefix ++ hex_of key)
  some_bytes key =
      let front : List ℕ = relation ++ 47 ∷ decimal version ++ 47 ∷ decimal epoch ++ 47 ∷ join_with_byte 59 (chosen columns (key_names s)) in
      omega (arith, length-append front (47 ∷ []), length-append prefix (hex_of key))

  -- A printed resume key is read back.
  pub resume_again : (key : List ℕ) → Spells (chosen columns (kinds_of s)) key → resume_of s relation version epoch columns (prefix ++ hex_of key) ≡ Ok (Some key)
  resume_again key is =
      let types : List KeyType = chosen columns (kinds_of s) in
      let bytes : Bytes key = subst Bytes is.spelled (key_bytes types (key_of types key) is.key) in
      let passes : is_spelling types key ≡ true = subst (λ bytes. is_spelling types bytes ≡ true) is.spelled (spelling_passes types (key_of types key) is.key) in
      not_empty (prefix ++ hex_of key) (some_bytes key)
      ∙ ap (λ b. refuse_unless b BadResume >> (ok_or (group_key_of s columns (bytes_of_hex (drop (length prefix) (prefix ++ hex_of key)))) BadResume >>= (λ key. Ok (Some key)))) (begins_with prefix (hex_of key))
      ∙ ap (λ rest. ok_or (group_key_of s columns (bytes_of_hex rest)) BadResume >>= (λ key. Ok (Some key))) (drop-append_seam prefix (hex_of key))
      ∙ ap (λ o. ok_or (group_key_of s columns o) BadResume >>= (λ key. Ok (Some key))) (hex_read key bytes)
      ∙ ap (λ b. ok_or (cond b (Some key) None) BadResume >>= (λ key. Ok (Some key))) passes

-- The place of a name.
use Rattle.std.proofs.Common.{◌≡◌, ℕ, ◌<◌, List, length, get_or, true, sym, subst, Some}
use Rattle.std.specs.List.{position_or_len}
use Rattle.std.specs.Cmp.Lexicographic.{same_text}
use Rattle.std.proofs.lemmas.Bool.{ltb-true}
use Rattle.std.proofs.lemmas.List.Sums.{passes_at_first}
use Rattle.std.proofs.lemmas.Option.{cond_some}
use Rattle.mesa_key.specs.mesa_list.Bytes.{same_bytes}
use Rattle.mesa_columns.specs.Columns.{place_of}

-- What stands at a name's place has the name.
pub place_named : (name : List ℕ) (names : List (List ℕ)) (place : ℕ) (d : List ℕ) → place_of name names ≡ Some place → (place < length names) × (get_or names place d ≡ name)
place_named name names place d e =
    let found = cond_some _ _ _ e in
    let within : position_or_len (same_bytes name) names < length names = ltb-true _ _ found.0 in
    (subst (λ p. p < length names) found.1 within, sym (same_text name (get_or names place d) (sym (subst (λ p. same_bytes name (get_or names p d) ≡ true) found.1 (passes_at_first (same_bytes name) names d within)))))

-- The name at the front of a term.
use Rattle.std.proofs.Common.{◌≡◌, ℕ, ◌+◌, ◌≤◌, List, [], ◌∷◌, length, take, Bool, true, false, cond, refl, sym, ◌∙◌, ap, arith, Some, None}
use Rattle.std.specs.Prelude.{not, position, take_while}
use Rattle.std.specs.List.{position_or_len, prefix_len}
use Rattle.std.proofs.lemmas.Bool.{ltb-false}
use Rattle.std.proofs.lemmas.List.{take_all}
use Rattle.std.proofs.lemmas.Option.{cond_some}
use Rattle.mesa_fold.specs.mesa_columns.Names.{is_name_byte}

same_front : (xs : List ℕ) → position_or_len (λ b. not (is_name_byte b)) xs ≡ prefix_len is_name_byte xs
same_front [] = refl
same_front (x ∷ xs) = elim (is_name_byte x) as (λ t. cond (not (not t)) (1 + position_or_len (λ b. not (is_name_byte b)) xs) 0 ≡ cond t (1 + prefix_len is_name_byte xs) 0) [ true ↦ ap (λ n. 1 + n) (same_front xs) | false ↦ refl ]

untrue : (t : Bool) (n : ℕ) → cond t (Some n) None ≡ None → t ≡ false
untrue true n e = cc
untrue false n e = refl

-- It ends where a byte stands that may not be in a name,
pub front_ends : (bytes : List ℕ) (end : ℕ) → position (λ b. not (is_name_byte b)) bytes ≡ Some end → take end bytes ≡ take_while is_name_byte bytes
front_ends bytes end e = let found = cond_some _ _ _ e in ap (λ n. take n bytes) (sym found.1 ∙ same_front bytes)

-- or is all.
pub front_all : (bytes : List ℕ) → position (λ b. not (is_name_byte b)) bytes ≡ None → bytes ≡ take_while is_name_byte bytes
front_all bytes e =
    let past : length bytes ≤ position_or_len (λ b. not (is_name_byte b)) bytes = ltb-false _ _ (untrue _ _ e) in
    sym (take_all (prefix_len is_name_byte bytes) bytes (omega (arith, same_front bytes)))

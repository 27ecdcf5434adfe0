-- Rows whose keys rise fold to themselves.
use Rattle.std.proofs.Common.{◌≡◌, List, [], ◌∷◌, ◌++◌, map, true, refl, sym, ◌∙◌, ap, subst, append_assoc}
use Rattle.std.proofs.lemmas.Bool.{and_from, and_parts}
use Rattle.std.proofs.lemmas.List.{append-nil}
use Rattle.std.specs.Ordering.{is_lt}
use Rattle.std.specs.declared.cmp.Ordering.{Ordering}
use Rattle.std.specs.declared.cmp.Ordering.TheVariants.{Less, Equal, Greater}
use Rattle.std.specs.Cmp.Lexicographic.{nat_list_cmp_total}
use Rattle.mesa_delta_format.specs.mesa_value.declared.Agg.{Agg}
use Rattle.mesa_delta_format.specs.mesa_key.Order.{byte_cmp}
use Rattle.mesa_history_spec.specs.mesa_columns.declared.rows.Row.{Row}
use Rattle.mesa_history_spec.specs.mesa_fold.Folded.{folded}
use Rattle.mesa_history_spec.specs.mesa_fold.Laws.{AreUnder}
use Rattle.mesa_history_spec.specs.mesa_columns.Rows.{keys_rise}
use Rattle.mesa_history_spec.proofs.mesa_fold.SameFolds.{puts_given}
use Rattle.mesa_delta_format.specs.mesa_block.Rows.{Rise}
use Rattle.mesa_delta_format.specs.mesa_block.Spelling.{key_of}

-- a file's rows
pub rising : (rows : List Row) → Rise (map key_of rows) → keys_rise rows ≡ true
rising [] r = refl
rising (row ∷ []) r = refl
rising (row ∷ next ∷ rows) r = and_from (is_lt (byte_cmp row.key next.key)) (keys_rise (next ∷ rows)) (ap is_lt r.0) (rising (next ∷ rows) r.1)

is_below : (o : Ordering) → is_lt o ≡ true → o ≡ Less
is_below Less e = refl
is_below Equal e = cc
is_below Greater e = cc

-- the first of them is below each later one
first_under : (x row : Row) (xs rows : List Row) → keys_rise (x ∷ (xs ++ row ∷ rows)) ≡ true → byte_cmp x.key row.key ≡ Less
first_under x row [] rows r = is_below _ (and_parts (is_lt (byte_cmp x.key row.key)) _ r).0
first_under x row (y ∷ ys) rows r =
    let parts = and_parts (is_lt (byte_cmp x.key y.key)) _ r in
    nat_list_cmp_total.trans x.key y.key row.key (is_below _ parts.0) (first_under y row ys rows parts.1)

rise_behind : (x : Row) (xs : List Row) → keys_rise (x ∷ xs) ≡ true → keys_rise xs ≡ true
rise_behind x [] r = refl
rise_behind x (y ∷ ys) r = (and_parts (is_lt (byte_cmp x.key y.key)) _ r).1

under : (row : Row) (xs rows : List Row) → keys_rise (xs ++ row ∷ rows) ≡ true → AreUnder row.key xs
under row [] rows r = tt
under row (x ∷ xs) rows r = (first_under x row xs rows r, under row xs rows (rise_behind x (xs ++ row ∷ rows) r))

folds_on : (aggs : List Agg) (front rest : List Row) → keys_rise (front ++ rest) ≡ true → folded aggs (front ∷ []) ≡ front → folded aggs ((front ++ rest) ∷ []) ≡ front ++ rest
folds_on aggs front [] r is = ap (λ rows. folded aggs (rows ∷ [])) (append-nil front) ∙ is ∙ sym (append-nil front)
folds_on aggs front (row ∷ rest) r is =
    let next : folded aggs ((front ++ row ∷ []) ∷ []) ≡ front ++ row ∷ [] = puts_given.next aggs [] [] front row (subst (AreUnder row.key) (sym (append-nil front)) (under row front rest r)) ∙ ap (λ rows. rows ++ row ∷ []) is in
    let split : (front ++ row ∷ []) ++ rest ≡ front ++ row ∷ rest = append_assoc front (row ∷ []) rest in
    subst (λ rows. folded aggs (rows ∷ []) ≡ rows) split (folds_on aggs (front ++ row ∷ []) rest (ap keys_rise split ∙ r) next)

-- Rows whose keys rise fold to themselves.
pub folds_itself : (aggs : List Agg) (rows : List Row) → keys_rise rows ≡ true → folded aggs (rows ∷ []) ≡ rows
folds_itself aggs rows r = folds_on aggs [] rows r refl

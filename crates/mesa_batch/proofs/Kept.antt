-- Rows that are a fold stay one.
use Rattle.std.proofs.Common.{◌≡◌, List, [], ◌∷◌, ◌++◌, sym, ◌∙◌, ap, subst}
use Rattle.std.specs.Prelude.{T}
use Rattle.std.proofs.lemmas.List.{append-nil}
use Rattle.mesa_schema.specs.mesa_value.declared.Agg.{Agg}
use Rattle.mesa_schema.specs.mesa_columns.declared.rows.Row.{Row}
use Rattle.mesa_schema.specs.mesa_fold.Folded.{folded, keys_of}
use Rattle.mesa_schema.specs.mesa_fold.Put.{put_row, put_rows}
use Rattle.mesa_batch.specs.Put.{IsFold}
use Rattle.mesa_schema.proofs.mesa_fold.Keys.{is_rising}
use Rattle.mesa_schema.proofs.mesa_fold.Folds.{keys, folded-folded, keys-folded_at, rising-keys_of}
use Rattle.mesa_schema.proofs.mesa_fold.Folding.{of_rows, put_all, put_one}

pub of_rows-same : (aggs : List Agg) (rows : List Row) → IsFold aggs rows → of_rows aggs rows ≡ rows
of_rows-same aggs rows fold = ap (of_rows aggs) (sym (append-nil rows)) ∙ fold

pub IsFold-of_rows : (aggs : List Agg) (rows : List Row) → IsFold aggs (of_rows aggs rows)
IsFold-of_rows aggs rows =
    let same : folded aggs (rows ∷ []) ≡ of_rows aggs rows = ap (of_rows aggs) (append-nil rows) in
    subst (λ xs. folded aggs (xs ∷ []) ≡ of_rows aggs rows) same (folded-folded aggs (rows ∷ []) [] ∙ same)

-- their keys rise
pub rising-IsFold : (aggs : List Agg) (rows : List Row) → IsFold aggs rows → T (is_rising (keys rows))
rising-IsFold aggs rows fold =
    let same : keys rows ≡ keys_of rows = ap keys (sym (of_rows-same aggs rows fold)) ∙ keys-folded_at aggs rows (keys_of rows) in
    subst (λ ks. T (is_rising ks)) (sym same) (rising-keys_of rows)

-- a row put among them
pub IsFold-put_row : (aggs : List Agg) (row : Row) (rows : List Row) → IsFold aggs rows → IsFold aggs (put_row aggs row rows)
IsFold-put_row aggs row rows fold =
    let put : of_rows aggs (rows ++ row ∷ []) ≡ put_row aggs row rows = put_one aggs rows row ∙ ap (put_row aggs row) (of_rows-same aggs rows fold) in
    subst (IsFold aggs) put (IsFold-of_rows aggs (rows ++ row ∷ []))

-- a batch put among them is folded with them
pub put_rows-fold : (aggs : List Agg) (content batch : List Row) → IsFold aggs content → put_rows aggs content batch ≡ folded aggs (content ∷ batch ∷ [])
put_rows-fold aggs content batch fold =
    ap (λ rows. put_rows aggs rows batch) (sym (of_rows-same aggs content fold))
    ∙ put_all aggs content batch
    ∙ ap (λ more. of_rows aggs (content ++ more)) (sym (append-nil batch))

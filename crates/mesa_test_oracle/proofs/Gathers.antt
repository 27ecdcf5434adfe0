-- What a load's rows come to as a batch.
use Rattle.std.proofs.Common.{◌≡◌, ◌≢◌, ℕ, List, [], ◌∷◌, sym, ◌∙◌, ap, subst, Result, Ok, Err, Some, get_or}
use Rattle.std.specs.Prelude.{slice_get, option_map, unwrap_or, OnOk, IfErr}
use Rattle.std.specs.Result.{MatchResult, result_err}
use Rattle.std.proofs.lemmas.Option.{get_or_from_slice_get, slice_get-map}
use Rattle.mesa_list.specs.Checks.{◌>>◌, refused_as}
use Rattle.mesa_oracle_tables.specs.mesa_columns.Columns.{Columns, aggs_of}
use Rattle.mesa_schema.specs.Changes.{columns_of}
use Rattle.mesa_oracle_tables.specs.mesa_fold.Folded.{folded}
use Rattle.mesa_oracle_tables.specs.mesa_columns.Rows.{AreRowsOf}
use Rattle.mesa_batch.specs.declared.words.RowWords.{RowWords}
use Rattle.mesa_batch.specs.declared.words.BatchError.{BatchError}
use Rattle.mesa_batch.specs.declared.words.BatchError.TheVariants as error
use Rattle.mesa_batch.specs.Batch.{Named, Placed, batch_from, batch_of, columns_at, rows_for}
use Rattle.mesa_batch.specs.Gathered.{Batched, each_once, rows_at, with_row}
use Rattle.mesa_batch.specs.Glance.{Known, Sight, columns_in, tables_of}
use Rattle.mesa_batch.proofs.RowByRow.{row_by_row}
use Rattle.mesa_batch.proofs.RowForms.{batch_forms}
use Rattle.mesa_model.specs.Refusals.{batch_refusal}
use Rattle.mesa_binding.specs.declared.failure.Failure.{Failure}
use Rattle.mesa_binding.specs.Told.{IsDue, batch_failure}
use Rattle.mesa_oracle_tables.specs.Grown.{IsBatchOf}

-- what keys compared behind rows and then other rows give
abbrev pub given : List Named → List Placed → List RowWords → Result (List Placed) BatchError
given tables before rows = each_once before >> batch_from tables before rows

-- A row that is kept leaves it to the others.
pub row_goes_on : (tables : List Named) (before after : List Placed) (words : RowWords) (rows : List RowWords) → with_row tables before words ≡ Ok after → given tables before (words ∷ rows) ≡ given tables after rows
row_goes_on tables before after words rows e = subst (λ (r : Result (List Placed) BatchError). MatchResult r (λ placed. given tables before (words ∷ rows) ≡ given tables placed rows) (λ d. given tables before (words ∷ rows) ≡ (each_once before >> Err d))) e (row_by_row tables before words rows)

-- A refused row refuses the load, where no key came twice before it.
pub row_stops : (tables : List Named) (before : List Placed) (words : RowWords) (rows : List RowWords) (e : BatchError) (last : Result Batched BatchError) → (e ≢ error.Memory → with_row tables before words ≡ Err e) → OnOk last (each_once before ≡ Ok tt)
    → IfErr last (λ d. d ≢ error.Memory → each_once before ≡ Err d) → unwrap_or (result_err last) e ≢ error.Memory → given tables before (words ∷ rows) ≡ Err (unwrap_or (result_err last) e)
row_stops tables before words rows e (Ok b) refused once twice other =
    subst (λ (r : Result (List Placed) BatchError). MatchResult r (λ placed. given tables before (words ∷ rows) ≡ given tables placed rows) (λ d. given tables before (words ∷ rows) ≡ (each_once before >> Err d))) (refused other) (row_by_row tables before words rows)
    ∙ ap (λ (r : Result (Unit {0}) BatchError). r >> Err e) once
row_stops tables before words rows e (Err d) refused once twice other = ap (λ (r : Result (Unit {0}) BatchError). r >> batch_from tables before (words ∷ rows)) (twice other)

-- and is told
pub is_told : (e : BatchError) (due : Result (List Placed) BatchError) (failure : Failure) → failure ≡ batch_failure e → (e ≢ error.Memory → due ≡ Err e) → IsDue (refused_as batch_refusal due) failure
is_told error.Memory due failure is h = subst (IsDue (refused_as batch_refusal due)) (sym is) tt
is_told (error.NoTable row) due failure is h = subst (IsDue (refused_as batch_refusal due)) (sym is) (ap (refused_as batch_refusal) (h (λ p. cc)))
is_told (error.BadRow row column) due failure is h = subst (IsDue (refused_as batch_refusal due)) (sym is) (ap (refused_as batch_refusal) (h (λ p. cc)))
is_told (error.DuplicateKey first second) due failure is h = subst (IsDue (refused_as batch_refusal due)) (sym is) (ap (refused_as batch_refusal) (h (λ p. cc)))

no_columns : Columns
no_columns = record { keys = []; values = [] }

-- the columns by which a table's rows are read
columns-at : (sight : Sight) (number : ℕ) (known : Known) → slice_get sight.tables number ≡ Some known → columns_at number (tables_of sight) ≡ columns_of known.lineage
columns-at sight number known there =
    let named : slice_get (tables_of sight) number ≡ Some (record { name = known.name; columns = columns_of known.lineage }) = slice_get-map _ sight.tables number ∙ ap (option_map (λ (t : Known). record { name = t.name; columns = columns_of t.lineage })) there in
    get_or_from_slice_get _ number (columns_of known.lineage) (record { keys = []; values = [] }) (slice_get-map (λ (n : Named). n.columns) (tables_of sight) number ∙ ap (option_map (λ (n : Named). n.columns)) named)

columns-in : (sight : Sight) (number : ℕ) (known : Known) → slice_get sight.tables number ≡ Some known → get_or (columns_in sight) number (record { keys = []; values = [] }) ≡ columns_of known.lineage
columns-in sight number known there = get_or_from_slice_get (columns_in sight) number (columns_of known.lineage) (record { keys = []; values = [] }) (slice_get-map _ sight.tables number ∙ ap (option_map (λ (t : Known). columns_of t.lineage)) there)

-- a batch of a load's rows is one of the tables by which they were read
pub is_batch : (sight : Sight) (words : List RowWords) (placed : List Placed) (batch : Batched) → batch_of (tables_of sight) words ≡ Ok placed
    → ((number : ℕ) (aggs : _) → rows_at number batch ≡ folded aggs (rows_for number placed ∷ [])) → ((number : ℕ) (aggs : _) → folded aggs (rows_at number batch ∷ []) ≡ rows_at number batch)
    → (placed ≢ [] → batch.columns ≡ columns_in sight) → IsBatchOf sight.tables batch
is_batch sight words placed batch all rows fold columns = record {
  forms = λ number known there.
      let s = columns_at number (tables_of sight) in
      let form : AreRowsOf s (folded (aggs_of s) (rows_for number placed ∷ [])) = (batch_forms (tables_of sight) words placed number all).1 in
      subst (λ s'. AreRowsOf s' (rows_at number batch)) (columns-at sight number known there) (subst (AreRowsOf s) (sym (rows number (aggs_of s))) form);
  fold = fold;
  columns = λ number known there some.
      let read : batch.columns ≡ columns_in sight = columns (λ none. some (rows number [] ∙ ap (λ ps. folded [] (rows_for number ps ∷ [])) none)) in
      ap (λ cs. get_or cs number (record { keys = []; values = [] })) read ∙ columns-in sight number known there;
}

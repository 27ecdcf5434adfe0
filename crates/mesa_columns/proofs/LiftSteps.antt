-- Lifting rows step by step.
use Rattle.std.proofs.Common.{◌≡◌, ℕ, List, [], ◌++◌, length, map, take, drop, sym, ◌∙◌, ap, Some, add-one}
use Rattle.std.specs.Prelude.{unwrap_or}
use Rattle.std.specs.List.{remove}
use Rattle.mesa_columns.specs.declared.rows.Row.{Row}
use Rattle.mesa_columns.specs.declared.changes.Change.{Change}
use Rattle.mesa_columns.specs.declared.changes.Change.TheVariants.{DropValue}
use Rattle.mesa_columns.specs.declared.columns.ValueColumn.{ValueColumn}
use Rattle.mesa_columns.specs.declared.lifting.Source.{Source}
use Rattle.mesa_columns.specs.Columns.{place_of}
use Rattle.mesa_columns.specs.Changes.{lifted_once, without}
use Rattle.mesa_columns.specs.Lifting.{moved, value_from}
use Rattle.mesa_columns.proofs.Drops.{without-map}

-- A value column less.
pub dropped : (sources less : List Source) (suffix : List ℕ) (values : List ValueColumn) (name : List ℕ) (place : ℕ) (change : Change) (row : Row)
    → less ≡ remove sources place → change ≡ DropValue name → place_of name (map (λ (c : ValueColumn). c.name) values) ≡ Some place
    → moved less suffix row ≡ lifted_once (record { keys = []; values = values }) change (moved sources suffix row)
dropped sources less suffix values name place change row gone e at =
    ap (λ vs. record { key = row.key ++ suffix; values = vs }) (
    ap (map (value_from row.values)) (gone ∙ ap (λ n. take place sources ++ drop n sources) (sym (add-one place)))
    ∙ without-map (value_from row.values) place sources
    ∙ ap (λ o. without (unwrap_or o (length values)) (map (value_from row.values) sources)) (sym at))
    ∙ ap (λ c. lifted_once (record { keys = []; values = values }) c (moved sources suffix row)) (sym e)

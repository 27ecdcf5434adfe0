-- The rows of a range, by the columns that a table had and by those that it has now.
use Rattle.std.proofs.Common.{◌≡◌, ℕ, ◌-◌, ◌≤◌, List, [], ◌∷◌, ◌++◌, length, map, take, drop, refl, sym, ◌∙◌, ap, arith, length-drop}
use Rattle.std.specs.List.{AllByRecursion}
use Rattle.std.proofs.lemmas.List.{drop-append-le, take-append-drop, take-append-le}
use Rattle.mesa_columns.specs.declared.rows.Row.{Row}
use Rattle.mesa_columns.specs.declared.changes.Change.{Change}
use Rattle.mesa_columns.specs.Columns.{aggs_of}
use Rattle.mesa_columns.specs.Changes.{columns_after, lifted_by}
use Rattle.mesa_pick_files.specs.mesa_schema.Changes.{Lineage, columns_at, epoch_of, lifted}
use Rattle.mesa_open_files.specs.mesa_fold.Folded.{folded}
use Rattle.mesa_columns.proofs.Lists.{map_is}
use Rattle.mesa_engine.specs.mesa_history_spec.Sources.{Source, range_rows, source_at}
use Rattle.mesa_file_records.specs.Grown.{HasGrown}

module _ (was now : Lineage) (grown : HasGrown was now) where
  abbrev epoch : ℕ
  epoch = epoch_of was

  -- the changes that came since
  abbrev since : List Change
  since = drop (length was.changes) now.changes

  changes_are : now.changes ≡ was.changes ++ since
  changes_are = sym (take-append-drop (length was.changes) now.changes) ∙ ap (λ front. front ++ since) grown.changes

  columns_same : (from : ℕ) → from ≤ epoch → columns_at now from ≡ columns_at was from
  columns_same from le =
      let at = from - was.begins in
      λ i. columns_after (grown.first i) (((λ j. take (from - grown.begins j) (changes_are j)) ∙ take-append-le at was.changes since (omega (arith, le))) i)

  changes_same : (from : ℕ) → from ≤ epoch → take (epoch - now.begins - (from - now.begins)) (drop (from - now.begins) now.changes) ≡ take (epoch - was.begins - (from - was.begins)) (drop (from - was.begins) was.changes)
  changes_same from le =
      let at = from - was.begins in
      let count = epoch - was.begins - at in
      (λ i. take (epoch - grown.begins i - (from - grown.begins i)) (drop (from - grown.begins i) (changes_are i)))
      ∙ ap (take count) (drop-append-le at was.changes since (omega (arith, le)))
      ∙ take-append-le count (drop at was.changes) since (let left = length-drop at was.changes in omega (arith, left))

  lifted_same : (from : ℕ) (row : Row) → from ≤ epoch → lifted now from epoch row ≡ lifted was from epoch row
  lifted_same from row le = λ i. lifted_by (columns_same from le i) (changes_same from le i) row

  sources_same : (sources : List Source) → AllByRecursion (λ (s : Source). s.epoch ≤ epoch) sources → map (source_at now epoch) sources ≡ map (source_at was epoch) sources
  sources_same [] all = refl
  sources_same (s ∷ sources) all = λ i. map_is (lifted now s.epoch epoch) (lifted was s.epoch epoch) s.rows (λ row. lifted_same s.epoch row all.0) i ∷ sources_same sources all.1 i

  -- what was written in the epoch that was, or in an earlier one, folds in that epoch to the same rows
  pub range_same : (sources : List Source) → AllByRecursion (λ (s : Source). s.epoch ≤ epoch) sources → range_rows was epoch sources ≡ range_rows now epoch sources
  range_same sources all = sym (λ i. folded (aggs_of (columns_same epoch (omega arith) i)) (sources_same sources all i))

use Rattle.std.proofs.Common.{◌≡◌, ◌<◌, ℕ, [], ◌∷◌, length, map, Some}
use Rattle.std.specs.Prelude.{slice_get}
use Rattle.mesa_answer.specs.mesa_columns.Columns.{aggs_of}
use Rattle.mesa_schema.specs.Changes.{columns_of}
use Rattle.mesa_answer.specs.mesa_fold.Folded.{folded}
use Rattle.mesa_batch.specs.Gathered.{rows_at}
use Rattle.mesa_batch.specs.Glance.{Known}
use Rattle.mesa_batch.specs.Numbers.{known_of}
use Rattle.mesa_model.specs.Load.{newest_content}
use Rattle.mesa_oracle_tables.specs.Kept.{content_in, contents_in}
use Rattle.mesa_oracle_tables.proofs.growing.contents_with_batch.Given as goal

-- the tables so far have their contents
abbrev pub invariant-tables : goal.invariant-tables
invariant-tables l = record {
  count : length l.after ≡ l.number;
  folds : (number : ℕ) (known : Known) → number < l.number → slice_get (map known_of l.tables) number ≡ Some known → content_in number l.after ≡ folded (aggs_of (columns_of known.lineage)) (newest_content (contents_in number l.versions.items) ∷ rows_at number l.batch ∷ []);
}

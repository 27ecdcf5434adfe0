use Rattle.mesa_fold.specs.mesa_key.Spelling.{key_of}
use Rattle.mesa_fold.specs.mesa_columns.Columns.{kinds_of}
use Rattle.mesa_filter.specs.Filter.{meets}
use Rattle.mesa_fold.proofs.FilteredFolds.{filtered_folds}
use Rattle.mesa_filter.proofs.laws.filters_folds.Goals as goal

pub returns : goal.returns
returns c = λ s terms aggs parts. filtered_folds (λ key. meets (key_of (kinds_of s) key) terms) aggs parts

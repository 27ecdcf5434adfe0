-- Rows of different lengths are written as all rows are.
use Rattle.std.proofs.Common.{◌≡◌, ◌≢◌, ◌∙◌, ℕ, List, [], ◌∷◌, refl, ap, true}
use Rattle.csv.specs.Writing.{default_writer, escaped, fields_text, is_blank, row_text, with_flexible}
use Rattle.csv.specs.declared.writer.QuoteStyle.TheVariants as style
use Rattle.csv.specs.declared.writer.WriterBuilder.{WriterBuilder}

-- such a writer
abbrev flexible_writer : WriterBuilder
flexible_writer = with_flexible default_writer true

same_row : (fields : List (List ℕ)) → row_text flexible_writer fields ≡ row_text default_writer fields
unfolding escaped fields_text is_blank
same_row [] = refl
same_row (field ∷ fields) = refl

pub row_as_default : (writer : WriterBuilder) (fields : List (List ℕ)) → writer ≡ flexible_writer → row_text writer fields ≡ row_text default_writer fields
row_as_default writer fields e = ap (λ w. row_text w fields) e ∙ same_row fields

-- it looks at no numbers
pub looks_at_none : (writer : WriterBuilder) → writer ≡ flexible_writer → writer.style ≢ style.NonNumeric
looks_at_none writer e f = let same : style.Necessary ≡ style.NonNumeric = cc (ap (λ (w : WriterBuilder). w.style) e) in cc

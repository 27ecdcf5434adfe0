-- The vector of the format, computed.
use Rattle.std.proofs.Common.{◌≡◌, ℕ, List, [], ◌∷◌, refl, length}
use Rattle.std.specs.Prelude.{pos, negsuc, codes}
use Rattle.mesa_columns.specs.mesa_key.declared.KeyValue.TheVariants.{Int, Text}
use Rattle.mesa_columns.specs.mesa_key.declared.KeyType.TheVariants as kind
use Rattle.mesa_columns.specs.mesa_value.declared.Agg.TheVariants.{Sum}
use Rattle.mesa_columns.specs.mesa_key.Spelling.{key_spelling, before_zero}
use Rattle.mesa_columns.specs.declared.rows.Row.{Row}
use Rattle.mesa_columns.specs.mesa_key.declared.Format.TheVariants as format
use Rattle.mesa_block.specs.Layout.{Layout}
use Rattle.mesa_block.specs.Spelling.{block}

abbrev pub one_schema : Layout
one_schema = record { format = format.One; columns = record { keys = record { name = codes "k"; kind = kind.Int } ∷ []; values = record { name = codes "v"; agg = Sum } ∷ [] } }

abbrev pub wide_schema : Layout
wide_schema = record one_schema { format = format.Two }

abbrev pub one_row : List Row
one_row = record { key = key_spelling (Int (pos 1) ∷ []); values = pos 5 ∷ [] } ∷ []

abbrev pub one_block : List ℕ
one_block = 0 ∷ 0 ∷ 1 ∷ 0x80 ∷ 0 ∷ 0 ∷ 0 ∷ 0 ∷ 0 ∷ 0 ∷ 1 ∷ 0 ∷ 0 ∷ 0 ∷ 0 ∷ 0 ∷ 0 ∷ 0 ∷ 5 ∷ []

pub one : block one_schema one_row ≡ one_block
unfolding block
one = refl

one_long : length one_block ≡ 19
one_long = refl

abbrev pub wide_block : List ℕ
wide_block = 0 ∷ 0 ∷ 1 ∷ 0x80 ∷ 0 ∷ 0 ∷ 0 ∷ 0 ∷ 0 ∷ 0 ∷ 1 ∷ 0 ∷ 0 ∷ 0 ∷ 0 ∷ 0 ∷ 0 ∷ 0 ∷ 0 ∷ 0 ∷ 0 ∷ 0 ∷ 0 ∷ 0 ∷ 0 ∷ 0 ∷ 5 ∷ []

pub wide : block wide_schema one_row ≡ wide_block
unfolding block
wide = refl

wide_long : length wide_block ≡ 27
wide_long = refl

abbrev two_schema : Layout
two_schema = record { format = format.One; columns = record { keys = record { name = codes "t"; kind = kind.Text } ∷ record { name = codes "u"; kind = kind.Text } ∷ []; values = record { name = codes "v"; agg = Sum } ∷ [] } }

abbrev two_rows : List Row
two_rows = record { key = key_spelling (Text (codes "ab") ∷ Text (codes "x") ∷ []); values = negsuc 0 ∷ [] } ∷ record { key = key_spelling (Text (codes "b") ∷ Text [] ∷ []); values = pos 2 ∷ [] } ∷ []

two : block two_schema two_rows ≡ 0 ∷ 0 ∷ 2 ∷ 2 ∷ 1 ∷ 97 ∷ 98 ∷ 98 ∷ 1 ∷ 0 ∷ 120 ∷ 255 ∷ 255 ∷ 255 ∷ 255 ∷ 255 ∷ 255 ∷ 255 ∷ 255 ∷ 0 ∷ 0 ∷ 0 ∷ 0 ∷ 0 ∷ 0 ∷ 0 ∷ 2 ∷ []
unfolding block before_zero
two = refl

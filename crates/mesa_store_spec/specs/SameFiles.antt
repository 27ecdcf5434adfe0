-- Whether references name the same files, and tell the same of them.
use lib.Pointwise.{pointwise}
use Rattle.std.specs.Prelude.{List, Bool, true, false, ◌&&◌, ◌==◌}
use Rattle.std.specs.Ordering.{int_eq}
use Rattle.mesa_delta_format.specs.mesa_key.declared.Format.{Format}
use Rattle.mesa_delta_format.specs.mesa_key.declared.Format.TheVariants as format
use Rattle.mesa_history_spec.specs.mesa_list.Bytes.{same_bytes}
use Rattle.mesa_history_spec.specs.mesa_file.declared.file_ref.FileRef.{FileRef}
use Rattle.mesa_record.specs.declared.record.ViewRef.{ViewRef}

abbrev pub same_format : Format → Format → Bool
same_format format.One format.One = true
same_format format.One format.Two = false
same_format format.Two format.One = false
same_format format.Two format.Two = true

-- the same id, lengths and counts
abbrev pub same_counts : FileRef → FileRef → Bool
same_counts a b = same_format a.format b.format && (a.id == b.id) && (a.len == b.len) && (a.rows == b.rows) && (a.blocks == b.blocks)

-- the same keys, aggregates and digest
abbrev pub same_contents : FileRef → FileRef → Bool
same_contents a b = same_bytes a.first b.first && same_bytes a.last b.last && pointwise int_eq a.aggregates b.aggregates && same_bytes a.digest b.digest

abbrev pub same_ref : FileRef → FileRef → Bool
same_ref a b = same_counts a b && same_contents a b

abbrev pub same_view : ViewRef → ViewRef → Bool
same_view a b = (a.view == b.view) && same_ref a.file b.file

-- The same view files, in the same order.
abbrev pub same_views : List ViewRef → List ViewRef → Bool
same_views = pointwise same_view

-- Which block may come next.
use Rattle.std.specs.Prelude.{Bool, ◌||◌, ◌&&◌, ◌==◌}
use Rattle.mesa_delta_format.specs.mesa_key.Order.{byte_cmp}
use Rattle.mesa_delta_format.specs.mesa_columns.declared.rows.Row.{Row}
use Rattle.mesa_delta_format.specs.mesa_block.Layout.{Layout, values_size, widths_of}
use Rattle.mesa_delta_format.specs.mesa_block.Fill.{is_full}
use Rattle.mesa_delta_format.specs.mesa_block.Reading.{is_less}
use Rattle.mesa_delta.specs.declared.run.Run.{Run}

-- A block that begins with a row may come next: it is the first, or its key is greater than the last one and there is no room for it in the last block.
abbrev pub goes_on : Layout → Run → Row → Bool
goes_on s run row = (run.next == 0) || (is_less (byte_cmp run.last row.key) && is_full (values_size (widths_of s)) run.count run.len row)

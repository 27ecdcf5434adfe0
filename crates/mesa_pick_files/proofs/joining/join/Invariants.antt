use Rattle.std.proofs.Common.{◌≡◌, ◌+◌, ◌++◌, length, take, reverse, vec_capacity, vec_len}
use Rattle.mesa_query.specs.mesa_group_blocks.Moved.{inputs_in}
use Rattle.mesa_query.specs.Files.{owns_in}
use Rattle.mesa_pick_files.proofs.joining.join.Given as goal

-- those that are left, and behind them those that were put, the last one first
abbrev pub invariant-inputs : goal.invariant-inputs
invariant-inputs g l = record {
  inputs : l.initial.inputs.items ≡ l.inputs.items ++ inputs_in (reverse l.files.items);
  own : l.own ≡ take (vec_len l.inputs) l.own ++ owns_in (reverse l.files.items);
  count : vec_len l.inputs + vec_len l.files ≡ length l.own;
  room : vec_capacity l.files ≡ vec_capacity l.initial.files;
}

abbrev pub decreases-inputs : goal.decreases-inputs
decreases-inputs g l = vec_len l.inputs

use Rattle.std.proofs.Common.{◌++◌, List, take}
use Rattle.std.specs.Prelude.{flat_map}
use Rattle.mesa_pick_files.specs.Files.{AreSources, Seen}
use Rattle.mesa_pick_files.proofs.Viewing.{single_seen}
use Rattle.mesa_pick_files.proofs.views.push_singles.Given as goal

-- the files of the singletons so far
abbrev pub invariant-loop-single : goal.invariant-loop-single
invariant-loop-single l = (seen : List Seen) → AreSources l.initial.sources seen → AreSources l.sources (seen ++ flat_map (single_seen l.viewed.table.now.value l.viewed.own.now.value l.viewed.view) (take l.single-index l.singles))

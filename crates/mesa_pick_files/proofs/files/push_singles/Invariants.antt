use Rattle.std.proofs.Common.{◌≡◌, ◌++◌, map, take}
use Rattle.std.specs.Prelude.{flat_map}
use Rattle.mesa_pick_files.specs.Files.{want_of}
use Rattle.mesa_pick_files.proofs.Filing.{single_wanted}
use Rattle.mesa_pick_files.proofs.files.push_singles.Given as goal

-- the files of the singletons so far
abbrev pub invariant-loop-single : goal.invariant-loop-single
invariant-loop-single l = map want_of l.files.items ≡ map want_of l.initial.files.items ++ flat_map (single_wanted l.evolving.value) (take l.single-index l.singles)

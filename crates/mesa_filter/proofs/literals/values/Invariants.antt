use Rattle.std.proofs.Common.{◌≡◌, drop}
use Rattle.mesa_fold.specs.mesa_columns.Numbers.{key_value_of}
use Rattle.mesa_filter.specs.Filter.{each_some}
use Rattle.mesa_filter.proofs.Texts.{after}
use Rattle.mesa_filter.proofs.literals.values.Given as goal

-- the values so far and those of the texts that are left are those of all
abbrev pub invariant-loop-text : goal.invariant-loop-text
invariant-loop-text l = after l.found (each_some (key_value_of l.kind) (drop l.text-index l.texts)) ≡ each_some (key_value_of l.kind) l.texts

use Rattle.std.proofs.Common.{◌≡◌, ◌++◌, length, take}
use Rattle.mesa_key.specs.Spelling.{key_spelling}
use Rattle.mesa_key.proofs.encoding.encode.Given as goal

-- the spellings of the values so far stand at the end
abbrev pub invariant-loop-value : goal.invariant-loop-value
invariant-loop-value l = record {
  start : l.start ≡ length l.fn.out.items;
  spelled : l.out.items ≡ l.fn.out.items ++ key_spelling (take l.value-index l.value-items);
}

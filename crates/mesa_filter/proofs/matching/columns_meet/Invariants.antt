use Rattle.std.proofs.Common.{◌≡◌, true}
use Rattle.mesa_fold.specs.mesa_key.Spelling.{is_spelling}
use Rattle.mesa_filter.specs.Walk.{all_meet}
use Rattle.mesa_filter.proofs.matching.columns_meet.Given as goal

-- the columns that are left decide, and spell the rest of a key
abbrev pub invariant-loop-place : goal.invariant-loop-place
invariant-loop-place l = record {
  met : all_meet l.columns.kinds l.place l.terms l.columns.bytes ≡ all_meet l.kinds 0 l.terms l.key;
  spelled : is_spelling l.columns.kinds l.columns.bytes ≡ true;
}

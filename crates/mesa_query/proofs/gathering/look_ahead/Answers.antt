use Rattle.std.proofs.Common.{refl}
use Rattle.mesa_group_blocks.proofs.mesa_merge.Causing.{cause_quiet}
use Rattle.mesa_group_blocks.proofs.Moved.{moved_none}
use Rattle.mesa_query.proofs.gathering.look_ahead.Goals as goal

pub returns-then-not-is_empty-clause-moved : goal.returns-then-not-is_empty-clause-moved
returns-then-not-is_empty-clause-moved g c = moved_none g.R.FileReader.bytes g.R.FileReader.size c.args.files.now

pub returns-then-not-is_empty-clause-cause : goal.returns-then-not-is_empty-clause-cause
returns-then-not-is_empty-clause-cause g c = cause_quiet _ _ _ refl

use Rattle.std.proofs.Common.{subst}
use Rattle.std.specs.Prelude.{IfNone, Option}
use Rattle.mesa_delta.specs.declared.error.FileError.{FileError}
use Rattle.mesa_merge.specs.Calls.{answer_of}
use Rattle.mesa_merge.specs.Merged.{IsGoing}
use Rattle.mesa_merge.proofs.Between.{next_whole}
use Rattle.mesa_merge.proofs.merge.Merge.next.Goals as goal

pub go_on-requires : goal.go_on-requires
go_on-requires g c = (c.type_bounds.send-R, subst (λ (o : Option FileError). IfNone o (IsGoing g.R.FileReader.bytes c.args.self.now)) c.in-None.is c.requires)

pub returns-in-None-clause-next : goal.returns-in-None-clause-next
returns-in-None-clause-next g c = λ _. next_whole g.R.FileReader.bytes g.R.FileReader.faults g.R.FileReader.size c.args.self.now c.go_on.new.self (answer_of c.go_on.result c.go_on.new.self) c.go_on.ensures.next

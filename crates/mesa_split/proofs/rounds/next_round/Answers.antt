use Rattle.std.proofs.Common.{subst, ◌∙◌}
use Rattle.std.specs.List.{AllByRecursion}
use Rattle.mesa_split.specs.Split.{IsGained}
use Rattle.mesa_split.proofs.Rounding.{round_failed, round_made, round_memory, round_unflushed, round_unwritten, wrote_sent}
use Rattle.mesa_split.proofs.rounds.next_round.Goals as goal

pub returns-in_default : goal.returns-in_default
returns-in_default g c = round_memory c.requires.ready

pub returns-in-Some : goal.returns-in-Some
returns-in-Some g c = round_failed c.round-wrote.new.parts c.deref.result.now c.round-wrote.ensures.pieces c.taken-merged.ensures.inputs (c.deref.ensures.value ∙ c.taken-merged.ensures.answers) c.in-Some.ensures c.round-wrote.ensures.wrote

pub returns-in-Err : goal.returns-in-Err
returns-in-Err g c = round_unwritten c.round-wrote.new.parts c.deref.result.now c.round-wrote.ensures.pieces c.taken-merged.ensures.inputs (c.deref.ensures.value ∙ c.taken-merged.ensures.answers) c.in_default-failure.ensures c.in-Err.ensures.wrote

pub flush-requires-after_bounds : goal.flush-requires-after_bounds
flush-requires-after_bounds g c = λ _ _. wrote_sent g.D.Draft.bytes c.in-Ok-wrote.ensures.wrote ∙ c.requires.sent

pub returns-in-Ok-flush : goal.returns-in-Ok-flush
returns-in-Ok-flush g c =
    round_made c.round-wrote.new.parts c.round-wrote.ensures.pieces c.taken-merged.ensures.inputs c.taken-merged.ensures.answers (subst (AllByRecursion IsGained) c.deref.ensures.value c.in_default-failure.ensures) c.in-Ok-wrote.ensures.wrote c.in-Ok-flush.ensures

pub returns-in-Err-flush : goal.returns-in-Err-flush
returns-in-Err-flush g c =
    round_unflushed c.round-wrote.new.parts c.deref.result.now c.round-wrote.ensures.pieces c.taken-merged.ensures.inputs (c.deref.ensures.value ∙ c.taken-merged.ensures.answers) c.in_default-failure.ensures c.in-Ok-wrote.ensures.wrote c.in-Err-flush.ensures

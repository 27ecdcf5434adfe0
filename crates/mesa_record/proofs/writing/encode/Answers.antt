use Rattle.std.proofs.Common.{◌++◌, ap, ◌∙◌}
use Rattle.mesa_record_fields.specs.declared.edition.Edition.TheVariants.{Fourth}
use Rattle.mesa_record.specs.Reading.{record_at}
use Rattle.mesa_record.specs.Rules.{IsRecord}
use Rattle.mesa_record.specs.Spelling.{spelled}
use Rattle.mesa_record.proofs.Room.{fits_fourth}
use Rattle.mesa_record.proofs.writing.encode.Goals as goal

pub returns-clause-again : goal.returns-clause-again
returns-clause-again c =
    let r = c.args.«record».now in
    let is : IsRecord r = record { typed = c.in_ok-write.ensures.typed; rules = c.requires } in
    ap record_at (c.in_ok-write.ensures.bytes ∙ ap (λ front. front ++ spelled r) c.new-out.ensures.items) ∙ c.reads_records.ensures Fourth r is (fits_fourth r)

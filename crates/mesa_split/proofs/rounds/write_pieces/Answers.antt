use Rattle.std.proofs.Common.{◌++◌, List, length, sym, ap, subst, ◌∙◌}
use Rattle.std.specs.Prelude.{IsTrue}
use Rattle.std.specs.List.{AllByRecursion}
use Rattle.mesa_compact.specs.mesa_columns.declared.rows.Row.{Row}
use Rattle.mesa_compact.specs.mesa_columns.Rows.{keys_rise}
use Rattle.mesa_delta.specs.Writing.{columns_of}
use Rattle.mesa_answer.specs.declared.groups.Groups.{Groups}
use Rattle.mesa_merge.proofs.Handing.{refill}
use Rattle.mesa_compact.specs.Grouping.{TakesRows}
use Rattle.mesa_split.specs.Parts.{joined}
use Rattle.mesa_split.specs.Written.{HasPoured, HasWritten}
use Rattle.mesa_split.proofs.rounds.write_pieces.Goals as goal

pub write_parts-requires-clause-poured : goal.write_parts-requires-clause-poured
write_parts-requires-clause-poured g c = λ _ _.
    subst (λ (gs : List Groups). (given : List Row) × HasPoured g.D.Draft.bytes c.args.writer.now gs given × IsTrue (keys_rise (given ++ joined c.args.held.now))) (sym c.deref_mut.ensures.value) c.requires.poured

pub write_parts-requires-clause-takes : goal.write_parts-requires-clause-takes
write_parts-requires-clause-takes g c = λ _ _. subst (AllByRecursion (TakesRows (columns_of c.args.writer.now))) (sym c.deref_mut.ensures.value) c.requires.takes

pub returns : goal.returns
returns g c =
    let old = c.args.groups.now in
    let rows = joined c.args.held.now in
    let back = refill old.len old.items c.write_parts.new.groups (sym old.ok.0) (c.write_parts.auto.groups ∙ ap length c.deref_mut.ensures.value) in
    subst (λ (gs : List Groups). HasWritten g.D.Draft.bytes g.D.Draft.id_of g.D.Draft.faults c.args.newest rows c.args.writer.now old.items c.write_parts.new.writer gs c.write_parts.result) (sym back)
    (subst (λ (gs : List Groups). HasWritten g.D.Draft.bytes g.D.Draft.id_of g.D.Draft.faults c.args.newest rows c.args.writer.now gs c.write_parts.new.writer c.write_parts.new.groups c.write_parts.result) c.deref_mut.ensures.value c.write_parts.ensures)

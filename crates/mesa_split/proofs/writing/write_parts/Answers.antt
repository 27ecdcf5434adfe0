use Rattle.std.proofs.Common.{◌+◌, ◌++◌, [], take, refl, sym, ◌∙◌, ap, subst, arith}
use Rattle.std.proofs.lemmas.List.{append-nil}
use Rattle.std.specs.List.{AllByRecursion}
use Rattle.mesa_compact.specs.mesa_columns.Columns.{Columns}
use Rattle.mesa_compact.specs.mesa_columns.Rows.{AreRowsOf, IsRowOf, keys_rise}
use Rattle.mesa_delta.specs.Writing.{columns_of}
use Rattle.mesa_answer.specs.Answering.{KeepsSums}
use Rattle.mesa_compact.specs.Damaged.{LeavesAmong, RowLeaves}
use Rattle.mesa_compact.specs.Grouping.{TakesRows}
use Rattle.mesa_compact.proofs.Causing.{caused_ok, caused_on}
use Rattle.mesa_compact.proofs.Putting.{takes_kept}
use Rattle.mesa_split.specs.Parts.{joined}
use Rattle.mesa_split.specs.Written.{HasPoured}
use Rattle.mesa_split.proofs.Written.{behind_leaves, behind_one, behind_rise, behind_sums, joined_form}
use Rattle.mesa_split.proofs.Verdicts.{all_of}
use Rattle.mesa_split.proofs.writing.write_parts.Goals as goal

pub parts-init : goal.parts-init
parts-init g c = record { poured = λ given h rise. subst (HasPoured g.T.Draft.bytes c.args.writer.now c.args.groups.now) (sym (append-nil given)) h; columns = refl; id = refl; draft = refl; faults = refl; wanted = refl }

pub write_rows-requires-clause-poured : goal.write_rows-requires-clause-poured
write_rows-requires-clause-poured g c = λ _ _.
    let parts = c.args.parts.now in
    let i = c.parts.part-index in
    let start = c.requires.poured in
    let more = behind_one start.0 parts i c.part-item.result c.rows_of_part.result.now c.parts-test.true c.part-item.is c.rows_of_part.ensures in
    (start.0 ++ joined (take i parts), c.parts.invariant.poured start.0 start.1 start.2, ap keys_rise more ∙ behind_rise start.0 parts (i + 1) start.2)

pub write_rows-requires-clause-form : goal.write_rows-requires-clause-form
write_rows-requires-clause-form g c = λ _ _.
    let s : Columns = columns_of c.args.writer.now in
    subst (λ (t : Columns). AreRowsOf t c.rows_of_part.result.now) (sym c.parts.invariant.columns) (subst (AreRowsOf s) (sym c.rows_of_part.ensures) (joined_form (IsRowOf s) c.args.parts.now c.parts.part-index c.part-item.result c.requires.form c.parts-test.true c.part-item.is))

pub write_rows-requires-clause-takes : goal.write_rows-requires-clause-takes
write_rows-requires-clause-takes g c = λ _ _.
    takes_kept (columns_of c.parts.writer) c.args.groups.now c.parts.groups c.parts.invariant.wanted (subst (λ (t : Columns). AllByRecursion (TakesRows t) c.args.groups.now) (sym c.parts.invariant.columns) c.requires.takes)

pub parts-preserved : goal.parts-preserved
parts-preserved g c =
    let parts = c.args.parts.now in
    let i = c.parts.part-index in
    let inv = c.parts.invariant in
    record {
      poured = λ given h rise.
          let more = behind_one given parts i c.part-item.result c.rows_of_part.result.now c.parts-test.true c.part-item.is c.rows_of_part.ensures in
          subst (HasPoured g.T.Draft.bytes c.write_rows.new.writer c.write_rows.new.groups) more (c.in-Ok.ensures.poured (given ++ joined (take i parts)) (inv.poured given h rise) (ap keys_rise more ∙ behind_rise given parts (i + 1) rise));
      columns = c.in-Ok.ensures.columns ∙ inv.columns;
      id = c.in-Ok.ensures.id ∙ inv.id;
      draft = c.in-Ok.ensures.draft ∙ inv.draft;
      faults = (c.in-Ok.ensures.causes []).drafts.quiet ∙ inv.faults;
      wanted = c.in-Ok.ensures.wanted ∙ inv.wanted;
    }

pub returns-in-Err : goal.returns-in-Err
returns-in-Err g c =
    let parts = c.args.parts.now in
    let i = c.parts.part-index in
    let inv = c.parts.invariant in
    let s : Columns = columns_of c.args.writer.now in
    record {
      poured = tt;
      columns = c.in-Err.ensures.columns ∙ inv.columns;
      id = c.in-Err.ensures.id ∙ inv.id;
      draft = c.in-Err.ensures.draft ∙ inv.draft;
      wanted = c.in-Err.ensures.wanted ∙ inv.wanted;
      causes = λ reads. caused_on _ _ _ _ _ reads reads reads _ _ inv.faults refl (c.in-Err.ensures.causes reads) refl (λ d told. (
        told.0,
        λ given h rise.
            let more = behind_one given parts i c.part-item.result c.rows_of_part.result.now c.parts-test.true c.part-item.is c.rows_of_part.ensures in
            let here = told.1 (given ++ joined (take i parts)) (inv.poured given h rise) (ap keys_rise more ∙ behind_rise given parts (i + 1) rise) in
            let there = subst (λ (t : Columns). LeavesAmong (RowLeaves t) ((given ++ joined (take i parts)) ++ c.rows_of_part.result.now)) inv.columns here in
            behind_leaves (RowLeaves s) given parts (i + 1) (subst (LeavesAmong (RowLeaves s)) more there),
      ));
      accepts = λ d e given h rise keeps.
          let more = behind_one given parts i c.part-item.result c.rows_of_part.result.now c.parts-test.true c.part-item.is c.rows_of_part.ensures in
          c.in-Err.ensures.accepts d e (given ++ joined (take i parts)) (inv.poured given h rise) (ap keys_rise more ∙ behind_rise given parts (i + 1) rise)
          (subst (λ (t : Columns). KeepsSums t ((given ++ joined (take i parts)) ++ c.rows_of_part.result.now)) (sym inv.columns) (subst (KeepsSums s) (sym more) (behind_sums s given parts (i + 1) keeps)));
    }

pub returns : goal.returns
returns g c =
    let inv = c.parts.invariant in
    let parts = c.args.parts.now in
    record {
      poured = λ given h rise. subst (λ rows. HasPoured g.T.Draft.bytes c.parts.writer c.parts.groups (given ++ rows)) (ap joined (all_of parts c.parts.part-index (omega (arith, c.parts-test.false)))) (inv.poured given h rise);
      columns = inv.columns;
      id = inv.id;
      draft = inv.draft;
      wanted = inv.wanted;
      causes = λ reads. caused_ok _ _ _ reads reads _ inv.faults refl;
      accepts = tt;
    }

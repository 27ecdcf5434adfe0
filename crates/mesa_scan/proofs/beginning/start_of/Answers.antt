use Rattle.std.proofs.Common.{◌≡◌, ◌<◌, List, length, sym, subst, ap, ◌∙◌, arith}
use Rattle.std.proofs.lemmas.List.{length-map}
use Rattle.std.specs.Prelude.{map, take, None, Some}
use Rattle.mesa_delta.specs.mesa_key.Order.{short_key}
use Rattle.mesa_delta.specs.mesa_columns.declared.rows.Row.{Row}
use Rattle.mesa_schema.specs.Changes.{columns_of}
use Rattle.mesa_delta.specs.mesa_columns.Columns.{Columns}
use Rattle.mesa_delta.specs.mesa_fold.Folded.{rows_of}
use Rattle.mesa_schema.specs.Lineages.{IsLineage}
use Rattle.mesa_delta.specs.mesa_delta_format.Indexed.{Indexed, IsIndex}
use Rattle.mesa_delta.specs.mesa_delta_format.Places.{shorts_of}
use Rattle.mesa_delta.specs.Reading.{index_of}
use Rattle.mesa_delta.specs.mesa_delta_format.Spread.{blocks_of}
use Rattle.mesa_delta.proofs.mesa_delta_format.Searching.{within}
use Rattle.mesa_scan.specs.Cursors.{lift_by}
use Rattle.mesa_scan.specs.Cut.{cut}
use Rattle.mesa_scan.proofs.Starting.{first_keys, none_before}
use Rattle.mesa_scan.proofs.beginning.start_of.Goals as goal

pub returns-clause-within : goal.returns-clause-within
returns-clause-within g c =
    let index : IsIndex (index_of c.args.input.now.reader) = subst IsIndex c.index.ensures c.blocks-blocks.ensures.index in
    let some : 0 < length (index_of c.args.input.now.reader).entries = index.tail.some in
    let few : length (shorts_of (index_of c.args.input.now.reader).entries) ≡ length (index_of c.args.input.now.reader).entries = rw length-map in
    omega (arith, c.seek.ensures.seek, within (short_key c.as_slice.result.now) (shorts_of (index_of c.args.input.now.reader).entries), few, some)

pub returns-clause-before : goal.returns-clause-before
returns-clause-before g c = λ b all told indexed.
    let i = c.args.input.now in
    let lineage : IsLineage i.evolving.value = subst IsLineage c.deref.ensures c.present.ensures.rules in
    let count : length (index_of i.reader).layout.columns.keys ≡ length (columns_of i.evolving.value).keys =
    sym (ap length (c.keys-columns.ensures.same ∙ ap (λ (s : Columns). s.keys) (c.schema.ensures ∙ ap (λ (x : Indexed). x.layout.columns) c.index-2.ensures)))
    ∙ c.if-columns-keys.false ∙ ap length (c.keys.ensures.same ∙ ap (λ (s : Columns). s.keys) (c.present.ensures.columns ∙ ap columns_of c.deref.ensures)) in
    let rows : List Row = map (lift_by i) (rows_of (take c.seek.result (blocks_of (index_of i.reader).layout all))) in
    ap (λ o. cut o None rows) c.in-Some.is ∙ ap (λ k. cut (Some k) None rows) (sym c.as_slice.ensures)
    ∙ none_before c.as_slice.result.now (lift_by i) (blocks_of (index_of i.reader).layout all) c.seek.result
    (first_keys c.lifts_to_present.ensures.keys c.lifts_to_present.ensures.form g.R.FileReader.bytes i c.seek.result all b c.requires lineage count indexed)
    (λ before front row back behind is le. c.seek.ensures.begins all b indexed before front row back behind is le)

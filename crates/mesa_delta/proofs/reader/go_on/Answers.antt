use Rattle.std.proofs.Common.{◌≡◌, ◌∙◌, rules, sym, ap, true, false}
use Rattle.std.proofs.lemmas.Option.{get_or_from_slice_get}
use Rattle.mesa_delta_format.specs.mesa_columns.declared.rows.Row.{Row}
use Rattle.mesa_delta_format.specs.mesa_block.Layout.{Layout}
use Rattle.mesa_delta_format.specs.mesa_columns.Lent.{lent}
use Rattle.mesa_delta_format.specs.declared.place.Entry.{Entry}
use Rattle.mesa_delta.specs.NextBlock.{goes_on}
use Rattle.mesa_delta.proofs.Going.{never_allowed, never_counted, one_more_of}
use Rattle.mesa_delta.proofs.reader.go_on.Goals as goal

pub returns-then-not-allows-clause-never : goal.returns-then-not-allows-clause-never
returns-then-not-allows-clause-never c = λ d is.
    let x = c.args.index.now in
    let row : Row = lent c.row.result in
    let at = sym (get_or_from_slice_get c.args.rows.now 0 row row c.row.ensures) in
    let s : Layout = record { format = c.format.result; columns = c.schema.result.now } in
    let layout : s ≡ x.layout = λ i. record { format = c.format.ensures i; columns = c.schema.ensures i } in
    let off : goes_on x.layout c.args.run.now row ≡ false = sym (ap (λ (s : Layout). goes_on s c.args.run.now row) layout) ∙ sym c.allows.ensures ∙ c.if-not-allows.true in
    never_allowed c.fits_alone.ensures c.grows_by_rows.ensures x c.args.run.now c.args.rows.now row c.entry-entry.ensures.index c.requires.some at off

pub returns-then-after-rows-clause-never : goal.returns-then-after-rows-clause-never
returns-then-after-rows-clause-never c = λ d is.
    let after = c.in_ok-after.after in
    never_counted c.fits_alone.ensures c.args.index.now c.args.run.now after c.args.rows.now c.entry-entry.ensures.index c.in_ok-after.ensures.next c.in_ok-after.ensures.rows (search rules) (search rules)

pub returns-clause-more : goal.returns-clause-more
returns-clause-more c = λ parts h b.
    let x = c.args.index.now in
    let after = c.in_ok-after.after in
    let row : Row = lent c.row.result in
    let at = sym (get_or_from_slice_get c.args.rows.now 0 row row c.row.ensures) in
    let s : Layout = record { format = c.format.result; columns = c.schema.result.now } in
    let layout : s ≡ x.layout = λ i. record { format = c.format.ensures i; columns = c.schema.ensures i } in
    let e : goes_on x.layout c.args.run.now row ≡ true = sym (ap (λ (s : Layout). goes_on s c.args.run.now row) layout) ∙ sym c.allows.ensures ∙ c.if-not-allows.false in
    let p = c.in_ok-after.ensures in
    one_more_of c.grows_by_rows.ensures x c.args.run.now after parts c.args.rows.now row h b at e p.next p.rows p.last p.count (p.len ∙ ap (λ (e : Entry). e.len) c.entry-entry.ensures.entry)

use Rattle.std.proofs.Common.{◌≡◌, ◌∙◌, ◌++◌, ◌∷◌, [], List, false, true, ap, length, map, subst, sym}
use Rattle.mesa_columns.specs.declared.rows.Row.{Row}
use Rattle.mesa_columns.specs.Lent.{lent}
use Rattle.mesa_block.specs.Rows.{IsRow, Rise}
use Rattle.mesa_block.specs.Spelling.{key_of}
use Rattle.mesa_block.specs.Fill.{Built, fit}
use Rattle.mesa_block.proofs.Held.{full_not, held_more, room_fits, rows_of_row}
use Rattle.mesa_block.proofs.builder.BlockBuilder.push.Goals as goal

pub returns-then-is_full-clause-fits : goal.returns-then-is_full-clause-fits
returns-then-is_full-clause-fits c =
    let b = c.self.inside in
    let row : Row = lent c.args.row in
    let h = subst (λ (x : Built). IsRow x.layout row) (sym c.self.view_is) c.requires.form in
    subst (λ (x : Built). false ≡ fit x.layout (x.rows ++ row ∷ [])) c.self.view_is
    (full_not c.reads_back.ensures.passes (record { format = b.format; columns = b.schema }) b.kinds.items b.widths.items b.size b.keys b.values.items row b.len c.len-rows.result c.self.invariant h c.len-rows.ensures (sym c.is_full.ensures ∙ c.if-is_full.true))

pub invariant_of-self-2 : goal.invariant_of-self-2
invariant_of-self-2 c =
    let b = c.self.inside in
    let row : Row = lent c.args.row in
    let h = subst (λ (x : Built). IsRow x.layout row) (sym c.self.view_is) c.requires.form in
    let g = subst (λ (x : Built). Rise (map key_of (x.rows ++ row ∷ []))) (sym c.self.view_is) c.requires.greater in
    held_more c.reads_back.ensures.passes (record { format = b.format; columns = b.schema }) b.kinds.items b.widths.items b.size b.keys c.push.new.self b.values.items c.extend_from_slice.new.self.items row b.len c.len-rows.result c.self.invariant h g c.len-rows.ensures
    (sym c.is_full.ensures ∙ c.if-is_full.false) c.in_ok-push.ensures.ok c.in_default.ensures.items

pub returns-clause-fits : goal.returns-clause-fits
returns-clause-fits c =
    let b = c.self.inside in
    let row : Row = lent c.args.row in
    let h = subst (λ (x : Built). IsRow x.layout row) (sym c.self.view_is) c.requires.form in
    subst (λ (x : Built). true ≡ fit x.layout (x.rows ++ row ∷ [])) c.self.view_is
    (room_fits c.reads_back.ensures.passes (record { format = b.format; columns = b.schema }) b.kinds.items b.widths.items b.size b.keys b.values.items row b.len c.len-rows.result c.self.invariant h c.len-rows.ensures (sym c.is_full.ensures ∙ c.if-is_full.false))

pub returns-clause-ok : goal.returns-clause-ok
returns-clause-ok c =
    let b = c.self.inside in
    let row : Row = lent c.args.row in
    let h = subst (λ (x : Built). IsRow x.layout row) (sym c.self.view_is) c.requires.form in
    ap (λ (rows : List Row). record { layout = record { format = b.format; columns = b.schema }; rows = rows })
    (rows_of_row (length b.schema.values) b.keys c.push.new.self b.values.items c.extend_from_slice.new.self.items row c.self.invariant.over h.form.values c.in_ok-push.ensures.ok c.in_default.ensures.items)
    ∙ ap (λ (x : Built). record { layout = x.layout; rows = x.rows ++ row ∷ [] }) c.self.view_is

use Rattle.std.proofs.Common.{◌≡◌, ◌∙◌, ◌++◌, ◌-◌, ◌<◌, ap, sym, arith, length, get_or, rules}
use Rattle.std.specs.Prelude.{ℤ, pos, slice_get, Some}
use Rattle.std.proofs.lemmas.Int.{to_z-of_z}
use Rattle.std.proofs.lemmas.List.{length-map}
use mir.Val.{SFits}
use mir.Syntax.{w128}
use Rattle.mesa_key.specs.Spelling.{columns_of, is_spelling}
use Rattle.mesa_columns.specs.Columns.{kinds_of}
use Rattle.mesa_columns.specs.declared.columns.KeyColumn.{KeyColumn}
use Rattle.mesa_digest.specs.Digests.{amount_bytes}
use Rattle.mesa_digest.proofs.Spelling.{if_ok_items, joined, key_column, on_ok, row_spells, value_column}
use Rattle.mesa_digest.proofs.naming.add_cell.Goals as goal

pub column_at-requires-clause-spelled : goal.column_at-requires-clause-spelled
column_at-requires-clause-spelled c = (λ i. is_spelling (c.requires.kinds i) (c.as_slice.ensures i)) ∙ row_spells c.args.schema.now c.args.row.now c.requires.form

pub returns-then-place-kinds : goal.returns-then-place-kinds
returns-then-place-kinds c =
    let s = c.args.schema.now in
    let row = c.args.row.now in
    let p = c.args.place in
    let name = c.label.result.0.now in
    let within : p < length s.keys = omega (arith, ap length c.requires.kinds, length-map s.keys (λ (k : KeyColumn). k.kind)) in
    let kind : slice_get (kinds_of s) p ≡ Some c.column_at.result.kind = sym (λ i. slice_get (c.requires.kinds i) p) ∙ c.column_at.ensures.kind in
    let column : slice_get (columns_of (kinds_of s) row.key) p ≡ Some c.column_at.result.bytes.now = sym (λ i. slice_get (columns_of (c.requires.kinds i) (c.as_slice.ensures i)) p) ∙ c.column_at.ensures.column in
    on_ok c.add_column.result _ _ (λ last.
    joined s row p c.args.spelled.now.items name _ _ _ c.requires.form c.requires.place c.label.ensures.name (key_column s row p c.column_at.result.kind c.column_at.result.bytes.now within kind column)
    (c.in_ok-extend_from_slice.ensures.items ∙ ap (λ xs. xs ++ name) c.in_ok-push.ensures.items) last) c.add_column.ensures

pub returns : goal.returns
returns c =
    let s = c.args.schema.now in
    let row = c.args.row.now in
    let p = c.args.place in
    let name = c.label.result.0.now in
    let count : length c.args.kinds.now ≡ length s.keys = ap length c.requires.kinds ∙ length-map s.keys (λ (k : KeyColumn). k.kind) in
    let value : ℤ = get_or c.as_slice-2.result.now (p - length c.args.kinds.now) (pos 0) in
    let fits : SFits w128 value = search rules in
    let bytes : c.bytes_of.result ≡ amount_bytes value = simp to_z-of_z at c.bytes_of.ensures in
    let here : value ≡ get_or row.values (p - length s.keys) (pos 0) = λ i. get_or (c.as_slice-2.ensures i) (p - count i) (pos 0) in
    if_ok_items c.extend_from_slice-2.result _ _ _ _ (λ last.
    joined s row p c.args.spelled.now.items name (amount_bytes value) _ _ c.requires.form c.requires.place c.label.ensures.name (value_column s row p value c.requires.form (omega (arith, count)) c.requires.place here)
    (c.in_ok-extend_from_slice.ensures.items ∙ ap (λ xs. xs ++ name) c.in_ok-push.ensures.items) (last ∙ ap (λ xs. c.extend_from_slice.new.self.items ++ xs) (c.as_slice-3.ensures ∙ bytes))) c.extend_from_slice-2.ensures.items

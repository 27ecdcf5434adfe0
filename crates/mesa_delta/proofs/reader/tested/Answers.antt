use Rattle.std.proofs.Common.{◌≡◌, List, Option, length, rules}
use Rattle.std.specs.Prelude.{IfSome}
use Rattle.std.proofs.lemmas.Option.{IfSome_then}
use Rattle.std.proofs.lemmas.Result.{IfOk-weaker}
use Rattle.sha2.specs.Sha256.{sha256}
use Rattle.mesa_delta_format.specs.mesa_key.Order.{short_key}
use Rattle.mesa_delta_format.specs.mesa_columns.declared.rows.Row.{Row}
use Rattle.mesa_delta_format.specs.mesa_block.Layout.{Layout}
use Rattle.mesa_delta_format.specs.mesa_block.Rows.{AreRows}
use Rattle.mesa_delta_format.specs.mesa_block.Spelling.{block}
use Rattle.mesa_delta.specs.Reading.{IsBlock}
use Rattle.mesa_delta_format.specs.Tail.{first_key}
use Rattle.mesa_delta.proofs.Accepting.{block_told}
use Rattle.mesa_delta.proofs.reader.tested.Goals as goal

pub returns-clause-block : goal.returns-clause-block
returns-clause-block c =
    let x = c.args.index.now in
    let bytes = c.args.bytes.now in
    let e = c.entry-entry.result in
    let s : Layout = record { format = c.format-format.result; columns = c.schema-schema.result.now } in
    let layout : s ≡ x.layout = λ i. record { format = c.format-format.ensures i; columns = c.schema-schema.ensures i } in
    let len : e.len ≡ length bytes = search rules in
    let digest : e.digest ≡ sha256 bytes = search rules in
    let Told : Option (List Row) → Type 0 = λ o. IfSome o (λ rows. AreRows s rows × (block s rows ≡ bytes) × (short_key (first_key rows) ≡ e.short)) in
    let Is : Option (List Row) → Type 0 = λ o. IfSome o (IsBlock x c.args.i) in
    IfOk-weaker c.block_in.result Told Is (λ o told. IfSome_then o told (λ rows. block_told x c.args.i e s bytes rows layout c.entry-entry.ensures.entry len digest)) c.block_in.ensures.found

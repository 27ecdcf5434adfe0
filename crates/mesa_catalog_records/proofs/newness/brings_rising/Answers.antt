use Rattle.std.proofs.Common.{List, ◌∙◌, sym, subst}
use Rattle.std.specs.Prelude.{Option, flat_map}
use Rattle.mesa_table_records.specs.mesa_record.declared.record.Files.{Files}
use Rattle.mesa_table_records.specs.mesa_record.declared.record.Part.{Part}
use Rattle.mesa_table_records.specs.mesa_record.declared.record.Record.{Record}
use Rattle.mesa_table_records.specs.mesa_catalog_table.Named.{file_ids, ids_if_any}
use Rattle.mesa_catalog_records.specs.Named.{RiseTo, ids_brought, part_ids, recast_ids}
use Rattle.mesa_catalog_records.proofs.Ids.{some_holds}
use Rattle.mesa_catalog_records.proofs.newness.brings_rising.Goals as goal

pub returns-in-Publish : goal.returns-in-Publish
returns-in-Publish c = λ yes.
    let run = c.args.run in
    let above = c.args.above in
    let found = some_holds c.parts_rise.result (RiseTo run above (flat_map part_ids c.as_slice.result.now)) c.parts_rise.ensures (sym c.is_some.ensures ∙ yes) in
    let last = found.0 in
    (last, subst (λ (r : Record). RiseTo run above (ids_brought r) last) (sym c.in-Publish.is) (subst (λ (parts : List Part). RiseTo run above (flat_map part_ids parts) last) c.as_slice.ensures found.1))

pub returns-in-Recast : goal.returns-in-Recast
returns-in-Recast c = λ yes.
    let found = some_holds c.recast_rises.result (RiseTo c.args.run c.args.above (recast_ids c.in-Recast.told)) c.recast_rises.ensures (sym c.is_some-in-Recast.ensures ∙ yes) in
    (found.0, subst (λ (r : Record). RiseTo c.args.run c.args.above (ids_brought r) found.0) (sym c.in-Recast.is) found.1)

pub returns-in-Some : goal.returns-in-Some
returns-in-Some c = λ yes.
    let run = c.args.run in
    let above = c.args.above in
    let found = some_holds c.files_rise.result (RiseTo run above (file_ids c.in-Some.files)) c.files_rise.ensures (sym c.is_some-in-Some.ensures ∙ yes) in
    let last = found.0 in
    (last, subst (λ (r : Record). RiseTo run above (ids_brought r) last) (sym c.in-Swap.is) (subst (λ (files : Option Files). RiseTo run above (ids_if_any files) last) (sym c.in-Some.is) found.1))

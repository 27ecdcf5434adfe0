use Rattle.std.proofs.Common.{◌≡◌, ◌∙◌, ◌++◌, ap, arith}
use Rattle.mesa_disk.specs.Files.{files_of}
use Rattle.mesa_engine.specs.mesa_store_spec.Catalog.{Catalog}
use Rattle.mesa_engine.proofs.mesa_store_spec.Plans.{due_work_fits}
use Rattle.mesa_engine.specs.EngineState.{next_id}
use Rattle.mesa_file_records.specs.Adopted.{files_if_any, told_under}
use Rattle.mesa_file_records.proofs.Told.{count_made}
use Rattle.mesa_file_records.specs.Swapped.{files_under_if_any, swap_of, table_in}
use Rattle.mesa_file_records.proofs.Records.{few_files, is_swapped}
use Rattle.mesa_file_records.proofs.swapping.swap.Goals as goal

pub bring-requires-after_bounds : goal.bring-requires-after_bounds
bring-requires-after_bounds g c κs within =
    let l = c.args.metadata.now.state in
    let finished = c.requires.finished in
    let few = few_files g.M.Made.bytes g.M.Made.id_of g.R.FileReader.bytes l c.requires.shaped finished.0 c.args.task.now c.args.delta finished.1 c.requires.there in
    let run = ap (λ (k : Catalog). k.run) c.catalog.ensures in
    omega (arith, few, run)

pub returns : goal.returns
returns g c =
    let bytes = g.M.Made.bytes in
    let l = c.args.metadata.now.state in
    let task = c.args.task.now in
    let files = c.args.delta.files in
    let run = ap (λ (k : Catalog). k.run) c.catalog.ensures in
    let first : c.number.result ≡ next_id l = omega (arith, run) in
    let due = c.requires.due in
    let may = due_work_fits l.catalogue (table_in l task) due.0 due.1 task.work due.2 due.3 due.4 in
    let entry = c.record.ensures ∙ ap (swap_of task) (c.in_ok-files.ensures.files ∙ ap (λ id. files_under_if_any id files) first) in
    let made : files_of bytes c.bring.new.adopting.made.items ≡ told_under bytes (next_id l) (files_if_any files) = c.in_ok-files.ensures.made ∙ (λ i. files_of bytes (c.new.ensures.items i) ++ told_under bytes (first i) (files_if_any files)) in
    let count = count_made bytes c.bring.new.adopting.made.items (next_id l) (files_if_any files) made in
    record { swapped = λ was is. is_swapped bytes g.M.Made.id_of g.R.FileReader.bytes l c.requires.shaped was task c.args.delta is c.requires.there may c.requires.given c.requires.room _ entry made (omega (arith, count)) }

use Rattle.std.proofs.Common.{◌≡◌, ◌<◌, List, length, refl, sym, ap, subst, ◌∙◌, arith}
use Rattle.std.specs.List.{AllByRecursion}
use Rattle.mesa_compact.specs.mesa_columns.declared.rows.Row.{Row}
use Rattle.mesa_compact.specs.mesa_columns.Columns.{Columns}
use Rattle.mesa_schema.specs.Changes.{columns_of}
use Rattle.mesa_delta.specs.declared.error.FileError.TheVariants.{Memory, Read}
use Rattle.mesa_answer.specs.declared.groups.Groups.{Groups}
use Rattle.mesa_compact.specs.mesa_scan.Cursors.{IsInput}
use Rattle.mesa_merge.proofs.Handing.{refill}
use Rattle.mesa_open_files.specs.declared.merging.CompactError.TheVariants.{File}
use Rattle.mesa_compact.specs.Grouping.{TakesRows}
use Rattle.mesa_compact.specs.Writing.{damaged_by}
use Rattle.mesa_compact.proofs.Causing.{caused_memory}
use Rattle.mesa_split.specs.Lending.{AllTell, AreEmpty, AreReady, items_of, lists_in, lists_of, own_in, returned}
use Rattle.mesa_split.specs.Rounds.{HasRangeFile}
use Rattle.mesa_split.specs.declared.parts.Part.{Part}
use Rattle.mesa_split.proofs.Loans.{lent_empty, parts_count}
use Rattle.mesa_split.proofs.Splitting.{each_input, lists_each, lists_known, own_known, rest_known, spares_inputs}
use Rattle.mesa_split.proofs.Tables.{Lent, lent_ready, lent_tells, own_back, own_inputs_back, spares_back, spares_inputs_back, table_accepts, table_causes, table_made}
use Rattle.mesa_split.proofs.Verdicts.{unread_lists}
use Rattle.mesa_split.proofs.table.table_file.Goals as goal

-- ---- nothing was lent

pub returns-in-Err : goal.returns-in-Err
returns-in-Err g c =
    let bytes = g.R.FileReader.bytes in
    let own = c.args.inputs.now in
    let now = c.lend.new.inputs in
    let os = c.args.spare.now in
    let ns = c.lend.new.spare in
    let same : lists_of now ns ≡ lists_of own os = c.in-Err.ensures.unread in
    let known = lists_known bytes own now os ns same in
    let each = subst (λ ls. AllByRecursion (AllByRecursion (IsInput bytes)) (items_of ls)) (sym same) (lists_each bytes own os (each_input bytes c.args.evolving.now own.items c.requires.inputs) c.requires.spare) in
    record {
      file = tt;
      wanted = refl;
      known = own_known bytes own now os ns known;
      kept = each.0;
      spare_known = rest_known bytes own now os ns known;
      spare_kept = spares_inputs bytes now ns each;
      causes = caused_memory _ _ _ _ _ refl ((unread_lists g.R.FileReader.faults {T = List Row} own now os ns same).other (λ (is : Memory ≡ Read). cc));
      accepts = λ d (is : File Memory ≡ damaged_by d). cc;
    }

-- ---- what parts merge

pub range_file-file-requires-clause-some : goal.range_file-file-requires-clause-some
range_file-file-requires-clause-some g c = λ _ _. subst (λ (ps : List (Part g.row.R.Denot)). 0 < length ps) (sym c.deref_mut.ensures.value) (omega (arith, c.in-Ok.ensures.count))

pub range_file-file-requires-clause-ready : goal.range_file-file-requires-clause-ready
range_file-file-requires-clause-ready g c = λ _ _.
    let bytes = g.R.FileReader.bytes in
    let l = c.args.evolving.now in
    let ps : List (Part g.row.R.Denot) = c.in-Ok.parts.items in
    let ready = lent_ready bytes g.R.FileReader.faults g.R.FileReader.size l c.args.inputs.now c.lend.new.inputs c.args.inputs.now c.args.spare.now c.lend.new.spare c.args.spare.now ps ps c.in-Ok.ensures.lent c.requires.inputs c.requires.spare in
    subst (AreReady bytes c.present.result.now) (sym c.deref_mut.ensures.value) (subst (λ (s : Columns). AreReady bytes s ps) (sym c.present.ensures.columns) ready)

pub range_file-file-requires-clause-takes : goal.range_file-file-requires-clause-takes
range_file-file-requires-clause-takes g c = λ _ _. subst (λ (s : Columns). AllByRecursion (TakesRows s) c.args.groups.now.items) (sym c.present.ensures.columns) c.requires.takes

pub range_file-file-requires-clause-tells : goal.range_file-file-requires-clause-tells
range_file-file-requires-clause-tells g c = λ _ _.
    let bytes = g.R.FileReader.bytes in
    let ps : List (Part g.row.R.Denot) = c.in-Ok.parts.items in
    let some : 0 < length ps = omega (arith, c.in-Ok.ensures.count) in
    let tells = lent_tells bytes g.R.FileReader.faults g.R.FileReader.size c.args.evolving.now c.args.inputs.now c.lend.new.inputs c.args.inputs.now c.args.spare.now c.lend.new.spare c.args.spare.now ps ps c.in-Ok.ensures.lent some c.requires.spare in
    subst (λ (xs : List (Part g.row.R.Denot)). AllTell bytes (own_in xs) xs) (sym c.deref_mut.ensures.value) tells

pub give_back-requires-clause-count : goal.give_back-requires-clause-count
give_back-requires-clause-count g c = λ _ _.
    let parts = c.in-Ok.parts in
    let qs : List (Part g.row.R.Denot) = c.range_file-file.new.parts in
    let same : length qs ≡ length parts.items = c.range_file-file.auto.parts ∙ ap length c.deref_mut.ensures.value in
    ap length (refill parts.len parts.items qs (sym parts.ok.0) same) ∙ same ∙ c.in-Ok.ensures.count

pub give_back-requires-clause-empty : goal.give_back-requires-clause-empty
give_back-requires-clause-empty g c = λ _ _.
    let nows = lists_of c.lend.new.inputs c.lend.new.spare in
    let ps : List (Part g.row.R.Denot) = c.in-Ok.parts.items in
    subst (λ n. AreEmpty n nows) (parts_count ps ∙ c.in-Ok.ensures.count) (lent_empty (lists_of c.args.inputs.now c.args.spare.now) nows (lists_in ps) c.in-Ok.ensures.lent)

pub returns : goal.returns
returns g c =
    let bytes = g.R.FileReader.bytes in
    let faults = g.R.FileReader.faults in
    let size = g.R.FileReader.size in
    let told = g.M.Made.bytes in
    let drawn = g.M.Made.id_of in
    let l = c.args.evolving.now in
    let own = c.args.inputs.now in
    let now = c.lend.new.inputs in
    let back = c.give_back.new.inputs in
    let os = c.args.spare.now in
    let ns = c.lend.new.spare in
    let gs = c.give_back.new.spare in
    let parts = c.in-Ok.parts in
    let ps : List (Part g.row.R.Denot) = parts.items in
    let qs : List (Part g.row.R.Denot) = c.range_file-file.new.parts in
    let groups : List Groups = c.args.groups.now.items in
    let after : List Groups = c.range_file-file.new.groups.items in
    let before = g.B.Bench.faults c.args.bench.now in
    let end = g.B.Bench.faults c.range_file-file.new.bench in
    let r = c.range_file-file.result in
    let same : length qs ≡ length ps = c.range_file-file.auto.parts ∙ ap length c.deref_mut.ensures.value in
    let refilled = refill parts.len ps qs (sym parts.ok.0) same in
    let lent : Lent bytes faults size l own now back os ns gs ps qs = record {
      lent = c.in-Ok.ensures.lent;
      some = omega (arith, c.in-Ok.ensures.count);
      same = same;
      given_back = c.give_back.ensures ∙ ap (λ (xs : List (Part g.row.R.Denot)). returned (lists_of now ns) (lists_in xs)) refilled;
      inputs = c.requires.inputs;
      spares = c.requires.spare;
    } in
    let file : HasRangeFile told drawn bytes faults size (columns_of l) c.args.id c.args.newest (own_in ps) ps qs groups after before end r =
    subst (λ (s : Columns). HasRangeFile told drawn bytes faults size s c.args.id c.args.newest (own_in ps) ps qs groups after before end r) c.present.ensures.columns
    (subst (λ (xs : List (Part g.row.R.Denot)). HasRangeFile told drawn bytes faults size c.present.result.now c.args.id c.args.newest (own_in xs) xs qs groups after before end r) c.deref_mut.ensures.value c.range_file-file.ensures) in
    let line = c.present.ensures.rules in
    record {
      file = table_made bytes faults size l own now back os ns gs ps qs told drawn c.args.id c.args.newest groups after before end r c.folds_totals.ensures line lent file;
      wanted = file.wanted;
      known = own_back bytes faults size l own now back os ns gs ps qs lent file.inputs.known;
      kept = own_inputs_back bytes faults size l own now back os ns gs ps qs lent file.inputs.each;
      spare_known = spares_back bytes faults size l own now back os ns gs ps qs lent file.inputs.known;
      spare_kept = spares_inputs_back bytes faults size l own now back os ns gs ps qs lent file.inputs.each;
      causes = table_causes bytes faults size l own now back os ns gs ps qs told drawn c.args.id c.args.newest groups after before end r lent file;
      accepts = table_accepts bytes faults size l own now back os ns gs ps qs told drawn c.args.id c.args.newest groups after before end r c.folds_totals.ensures line lent file;
    }

use Rattle.std.proofs.Common.{◌≡◌, ◌++◌, ◌<◌, suc, zero, [], ◌∷◌, refl, sym, ◌∙◌, ap, subst}
use Rattle.std.specs.Prelude.{Option, Some, None, Err, option_map, option_to_list}
use Rattle.std.specs.List.{AllByRecursion}
use Rattle.mesa_schema.specs.Changes.{columns_of}
use Rattle.mesa_compact.specs.mesa_columns.Columns.{Columns}
use Rattle.mesa_schema.specs.Recasts.{Recast, recast_columns}
use Rattle.mesa_batch.specs.Totals.{abs_totals, sum_bound}
use Rattle.mesa_delta.specs.declared.input.Input.{Input}
use Rattle.mesa_compact.specs.mesa_merge.Faults.{faults_of}
use Rattle.mesa_compact.specs.mesa_merge.Inputs.{Known, known_of, knowns_of}
use Rattle.mesa_open_files.specs.Batches.{made_ids}
use Rattle.mesa_open_files.specs.Inputs.{AreInputsTo, IsMergeOf}
use Rattle.mesa_open_files.specs.Recasts.{HasRangeFile, IsRangeRewritten, own, recast_content, recast_ids}
use Rattle.mesa_file.specs.Serials.{AreNext, drawn, next_serials}
use Rattle.mesa_open_files.specs.declared.made.MadeFile.{MadeFile}
use Rattle.mesa_open_files.specs.declared.recasting.RecastedRange.{RecastedRange}
use Rattle.mesa_compact.specs.Bounded.{AreBounded}
use Rattle.mesa_compact.specs.Regrouped.{IsRegroupDamage}
use Rattle.mesa_compact.specs.Writing.{HasCauses}
use Rattle.mesa_compact.proofs.Causing.{caused_ok, caused_on}
use Rattle.mesa_compact.proofs.Whole.{if_ok_map}
use Rattle.mesa_copy.specs.Renewals.{IsRenewal, columns_in}
use Rattle.mesa_copy.proofs.Mapping.{caused_none, four_map, none_told}
use Rattle.mesa_copy.proofs.Numbering.{next_none, next_one}
use Rattle.mesa_copy.proofs.range.rewrite_range.Goals as goal

pub rewrite_input-input-requires-clause-input : goal.rewrite_input-input-requires-clause-input
rewrite_input-input-requires-clause-input g c = λ _ _.
    let there : c.args.range.now.input ≡ Some c.in-Some.input = sym c.take.ensures.value ∙ c.in-Some.is in
    (subst (λ (o : Option (Input g.row.R.Denot)). AreInputsTo g.R.FileReader.bytes (columns_in c.args.renewal.now) (option_to_list o)) there c.requires.range).0.0

pub rewrite_input-input-requires-clause-table : goal.rewrite_input-input-requires-clause-table
rewrite_input-input-requires-clause-table g c = λ _ _.
    let there : c.args.range.now.input ≡ Some c.in-Some.input = sym c.take.ensures.value ∙ c.in-Some.is in
    (subst (λ (o : Option (Input g.row.R.Denot)). AreInputsTo g.R.FileReader.bytes (columns_in c.args.renewal.now) (option_to_list o)) there c.requires.range).0.1

-- ---- a range with an input

pub returns-in-Ok-clause-rewritten : goal.returns-in-Ok-clause-rewritten
returns-in-Ok-clause-rewritten g c = λ r is.
    let read = g.R.FileReader.bytes in
    let s : Columns = columns_in c.args.renewal.now in
    let there : Some c.in-Some.input ≡ c.args.range.now.input = sym c.in-Some.is ∙ c.take.ensures.value in
    let all = (rw c.in-Ok.is at c.rewrite_input-input.ensures.made) r is in
    record {
      from = refl;
      to = refl;
      rows = all.0;
      merge = subst (λ (o : Option (Input g.row.R.Denot)). IsMergeOf read s (option_to_list o) all.0) there all.1;
      file = subst (λ (o : Option (Input g.row.R.Denot)). HasRangeFile g.M.Made.bytes g.M.Made.id_of (recast_content s r all.0) o (Some c.in-Ok.file)) there all.2;
      totals = all.3;
      small = rw c.in-Ok.is at c.rewrite_input-input.ensures.small;
    }

pub returns-in-Ok-clause-numbered : goal.returns-in-Ok-clause-numbered
returns-in-Ok-clause-numbered g c =
    let id_of = g.M.Made.id_of in
    let d = c.args.ids.now in
    let id : id_of c.in-Ok.file.made ≡ drawn d = (rw c.in-Ok.is at c.rewrite_input-input.ensures.id) ∙ c.draw-id.ensures.id in
    subst (λ e. AreNext d e (id_of c.in-Ok.file.made ∷ [])) (sym c.draw-id.ensures.next) (subst (λ n. AreNext d (next_serials d) (n ∷ [])) (sym id) (next_one d))

pub returns-in-Ok-clause-ids : goal.returns-in-Ok-clause-ids
returns-in-Ok-clause-ids g c = (suc zero, c.draw-id.ensures.next)

pub returns-in-Ok-clause-known : goal.returns-in-Ok-clause-known
returns-in-Ok-clause-known g c =
    let read = g.R.FileReader.bytes in
    let there : Some c.in-Some.input ≡ c.args.range.now.input = sym c.in-Some.is ∙ c.take.ensures.value in
    let file : option_map (known_of read) c.replace-lent.new.dest ≡ option_map (known_of read) c.args.range.now.input = ap (option_map (known_of read)) c.replace-lent.ensures.after ∙ ap Some c.rewrite_input-input.ensures.known ∙ ap (option_map (known_of read)) there in
    λ i. record { from = c.args.range.now.from; to = c.args.range.now.to; file = file i }

pub returns-in-Ok-clause-kept : goal.returns-in-Ok-clause-kept
returns-in-Ok-clause-kept g c =
    let read = g.R.FileReader.bytes in
    let s : Columns = columns_in c.args.renewal.now in
    let there : c.args.range.now.input ≡ Some c.in-Some.input = sym c.take.ensures.value ∙ c.in-Some.is in
    let was = (subst (λ (o : Option (Input g.row.R.Denot)). AreInputsTo read s (option_to_list o)) there c.requires.range).0 in
    subst (λ (o : Option (Input g.row.R.Denot)). AreInputsTo read s (option_to_list o)) (sym c.replace-lent.ensures.after) ((c.rewrite_input-input.ensures.kept, ap (λ (k : Known). columns_of k.table) c.rewrite_input-input.ensures.known ∙ was.1), tt)

pub returns-in-Ok-clause-causes : goal.returns-in-Ok-clause-causes
returns-in-Ok-clause-causes g c =
    let faults = g.R.FileReader.faults in
    let there : Some c.in-Some.input ≡ c.args.range.now.input = sym c.in-Some.is ∙ c.take.ensures.value in
    let one = rw c.in-Ok.is at c.rewrite_input-input.ensures.causes in
    let before = ap (λ (o : Option (Input g.row.R.Denot)). faults_of faults (option_to_list o)) there in
    let after = ap (λ (o : Option (Input g.row.R.Denot)). faults_of faults (option_to_list o)) c.replace-lent.ensures.after in
    caused_ok _ _ _ _ _ _ one.drafts.quiet (after ∙ one.reads.quiet ∙ before)

-- ---- a range without one

pub returns-in_default-clause-rewritten : goal.returns-in_default-clause-rewritten
returns-in_default-clause-rewritten g c =
    let bytes = g.M.Made.bytes in
    let id_of = g.M.Made.id_of in
    let read = g.R.FileReader.bytes in
    let s : Columns = columns_in c.args.renewal.now in
    let x = c.args.range.now in
    let none : x.input ≡ None = sym c.take.ensures.value ∙ c.in_default.is in
    four_map c.rewrite_none.result
    (λ y. (y.from ≡ x.from) × (y.to ≡ x.to))
    (λ y. y.file ≡ None)
    (λ y. (r : Recast) → IsRenewal r c.args.renewal.now → y.totals ≡ abs_totals (recast_columns s r) [])
    (λ y. AllByRecursion (λ n. n < sum_bound) y.totals)
    (λ y. (r : Recast) → IsRenewal r c.args.renewal.now → IsRangeRewritten bytes id_of read s r x y)
    (λ y versions file totals small r is. record {
      from = versions.0;
      to = versions.1;
      rows = [];
      merge = subst (λ (o : Option (Input g.row.R.Denot)). IsMergeOf read s (option_to_list o) []) (sym none) (λ parts told. refl);
      file = subst (λ (o : Option (Input g.row.R.Denot)). HasRangeFile bytes id_of (recast_content s r []) o y.file) (sym none) (subst (λ (f : Option (MadeFile g.row.M.Denot)). HasRangeFile {R = g.row.R.Denot} bytes id_of (recast_content s r []) None f) (sym file) tt);
      totals = totals r is;
      small = small;
    })
    c.rewrite_none.ensures.versions c.rewrite_none.ensures.file c.rewrite_none.ensures.totals c.rewrite_none.ensures.small

pub returns-in_default-clause-numbered : goal.returns-in_default-clause-numbered
returns-in_default-clause-numbered g c =
    if_ok_map c.rewrite_none.result (λ y. y.file ≡ None) (λ y. AreNext c.args.ids.now c.args.ids.now (recast_ids g.M.Made.id_of (y ∷ [])))
    (λ y file. subst (λ (f : Option (MadeFile g.row.M.Denot)). AreNext c.args.ids.now c.args.ids.now (made_ids g.M.Made.id_of (option_to_list f ++ []))) (sym file) (next_none c.args.ids.now)) c.rewrite_none.ensures.file

pub returns-in_default-clause-ids : goal.returns-in_default-clause-ids
returns-in_default-clause-ids g c = (zero, refl)

pub returns-in_default-clause-known : goal.returns-in_default-clause-known
returns-in_default-clause-known g c =
    let file = ap (option_map (known_of g.R.FileReader.bytes)) (c.take.ensures.after ∙ sym (sym c.take.ensures.value ∙ c.in_default.is)) in
    λ i. record { from = c.args.range.now.from; to = c.args.range.now.to; file = file i }

pub returns-in_default-clause-kept : goal.returns-in_default-clause-kept
returns-in_default-clause-kept g c = subst (λ (o : Option (Input g.row.R.Denot)). AreInputsTo g.R.FileReader.bytes (columns_in c.args.renewal.now) (option_to_list o)) (sym c.take.ensures.after) tt

pub returns-in_default-clause-causes : goal.returns-in_default-clause-causes
returns-in_default-clause-causes g c =
    let stays = ap (λ (o : Option (Input g.row.R.Denot)). faults_of g.R.FileReader.faults (option_to_list o)) (c.take.ensures.after ∙ sym (sym c.take.ensures.value ∙ c.in_default.is)) in
    caused_none _ _ _ _ c.rewrite_none.result c.rewrite_none.ensures.memory stays

pub returns-in_default-clause-accepts : goal.returns-in_default-clause-accepts
returns-in_default-clause-accepts g c =
    let s : Columns = columns_in c.args.renewal.now in
    none_told c.rewrite_none.result (λ d. AreBounded s (knowns_of g.R.FileReader.bytes (own c.args.range.now)) → ⊥) c.rewrite_none.ensures.memory

-- ---- an input that isn't rewritten

pub returns-in-Err-clause-ids : goal.returns-in-Err-clause-ids
returns-in-Err-clause-ids g c = (suc zero, c.draw-id.ensures.next)

pub returns-in-Err-clause-known : goal.returns-in-Err-clause-known
returns-in-Err-clause-known g c =
    let read = g.R.FileReader.bytes in
    let there : Some c.in-Some.input ≡ c.args.range.now.input = sym c.in-Some.is ∙ c.take.ensures.value in
    let file : option_map (known_of read) c.replace-lent.new.dest ≡ option_map (known_of read) c.args.range.now.input = ap (option_map (known_of read)) c.replace-lent.ensures.after ∙ ap Some c.rewrite_input-input.ensures.known ∙ ap (option_map (known_of read)) there in
    λ i. record { from = c.args.range.now.from; to = c.args.range.now.to; file = file i }

pub returns-in-Err-clause-kept : goal.returns-in-Err-clause-kept
returns-in-Err-clause-kept g c =
    let read = g.R.FileReader.bytes in
    let s : Columns = columns_in c.args.renewal.now in
    let there : c.args.range.now.input ≡ Some c.in-Some.input = sym c.take.ensures.value ∙ c.in-Some.is in
    let was = (subst (λ (o : Option (Input g.row.R.Denot)). AreInputsTo read s (option_to_list o)) there c.requires.range).0 in
    subst (λ (o : Option (Input g.row.R.Denot)). AreInputsTo read s (option_to_list o)) (sym c.replace-lent.ensures.after) ((c.rewrite_input-input.ensures.kept, ap (λ (k : Known). columns_of k.table) c.rewrite_input-input.ensures.known ∙ was.1), tt)

pub returns-in-Err-clause-causes : goal.returns-in-Err-clause-causes
returns-in-Err-clause-causes g c =
    let faults = g.R.FileReader.faults in
    let x = c.args.renewal.now in
    let there : Some c.in-Some.input ≡ c.args.range.now.input = sym c.in-Some.is ∙ c.take.ensures.value in
    let before = ap (λ (o : Option (Input g.row.R.Denot)). faults_of faults (option_to_list o)) there in
    let one = rw c.in-Err.is at c.rewrite_input-input.ensures.causes in
    let here = caused_on {U = RecastedRange g.row.M.Denot} _ (IsRegroupDamage g.R.FileReader.bytes g.R.FileReader.size (columns_in x) x.columns.items x.values.items (c.rewrite_input-input.result.0 ∷ [])) _ _ _ _ _ _ _ (Err c.in-Err.error) refl before one refl (λ d told. told) in
    subst (λ (o : Option (Input g.row.R.Denot)). HasCauses {T = RecastedRange g.row.M.Denot} (g.B.Bench.faults c.args.bench.now) (g.B.Bench.faults c.rewrite_input-input.new.bench) (faults_of faults (own c.args.range.now)) (faults_of faults (option_to_list o)) (IsRegroupDamage g.R.FileReader.bytes g.R.FileReader.size (columns_in x) x.columns.items x.values.items (option_to_list o)) (Err c.in-Err.error)) (sym c.replace-lent.ensures.after) here

pub returns-in-Err-clause-accepts : goal.returns-in-Err-clause-accepts
returns-in-Err-clause-accepts g c = λ d is b.
    let s : Columns = columns_in c.args.renewal.now in
    let there : c.args.range.now.input ≡ Some c.in-Some.input = sym c.take.ensures.value ∙ c.in-Some.is in
    (rw c.in-Err.is at c.rewrite_input-input.ensures.accepts) d is (subst (λ (o : Option (Input g.row.R.Denot)). AreBounded s (knowns_of g.R.FileReader.bytes (option_to_list o))) there b)

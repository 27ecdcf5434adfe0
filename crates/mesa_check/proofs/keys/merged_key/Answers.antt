use Rattle.std.proofs.Common.{◌≡◌, ◌∙◌, ap, sym, subst, refl, map, []}
use Rattle.std.specs.Prelude.{Option, None, Some}
use Rattle.std.specs.List.{AllByRecursion}
use Rattle.std.proofs.lemmas.Result.{IfOk-weaker}
use Rattle.mesa_store_spec.specs.Contents.{rows_if_any}
use Rattle.mesa_pick_files.specs.Files.{want_of}
use Rattle.mesa_pick_files.specs.Lent.{lent_in, now_if_any}
use Rattle.mesa_record.specs.declared.record.Files.{Files}
use Rattle.mesa_schema.specs.Changes.{columns_at, columns_of, epoch_of, lifted}
use Rattle.mesa_catalog_table.specs.Meaning.{meta_of}
use Rattle.mesa_compare.specs.mesa_open_files.Opening.{HasEpoch}
use Rattle.mesa_compare.specs.Compared.{IsLiftedTo}
use Rattle.mesa_check.specs.Found.{rows_found}
use Rattle.mesa_check.specs.Held.{delta_of}
use Rattle.mesa_check.specs.Parts.{parts_of}
use Rattle.mesa_check.specs.Tested.{IsThere}
use Rattle.mesa_check.proofs.Merged.{asked_key, not_asked}
use Rattle.mesa_check.proofs.Rows.{all_lifted, are_there, present_is, there_files}
use Rattle.mesa_check.proofs.Standing.{parts_replace}
use Rattle.mesa_check.proofs.Told.{singles_found}
use Rattle.mesa_check.proofs.keys.merged_key.Goals as goal

pub returns-then-not-is_below-clause-key : goal.returns-then-not-is_below-clause-key
returns-then-not-is_below-clause-key g c = λ next i found held told files below agrees read so.
    let to = c.args.one.now.range.to in
    not_asked found (meta_of next c.args.table.now) to (delta_of c.args.one.now.range) (sym (below to ∙ sym c.is_below.ensures ∙ c.if-not-is_below.true))

pub cumulative_difference-requires-clause-epochs : goal.cumulative_difference-requires-clause-epochs
cumulative_difference-requires-clause-epochs g c κs within =
    let held = c.requires.held in
    subst (AllByRecursion HasEpoch) (sym c.deref.ensures.value) (c.in_ok-inputs.ensures.epochs (c.parts.ensures.epochs held.0 (epoch_of c.args.table.now.evolving.value) held.1.table held.1.shaped.epochs c.requires.epoch_before))

pub cumulative_difference-requires-clause-alike : goal.cumulative_difference-requires-clause-alike
cumulative_difference-requires-clause-alike g c κs within =
    let l = c.args.table.now.evolving.value in
    (columns_of l, subst (AllByRecursion (IsLiftedTo (columns_of l))) (sym c.deref.ensures.value) (all_lifted c.in_ok-inputs.inputs.items l (lent_in c.parts.result) c.in_ok-inputs.ensures.files), refl)

pub returns-in-Some-clause-key : goal.returns-in-Some-clause-key
returns-in-Some-clause-key g c =
    IfOk-weaker c.cumulative_difference.result _ _ (λ o differs next i found held told files below agrees read so.
    let t = c.args.table.now in
    let l = t.evolving.value in
    let to = c.args.one.now.range.to in
    let d = delta_of c.args.one.now.range in
    let asked = sym (below to ∙ sym c.is_below.ensures ∙ c.if-not-is_below.false) in
    let f : Files = c.in-Some.files.now in
    let is : d.files ≡ Some f = sym c.files.ensures ∙ ap now_if_any c.in-Some.is in
    let parts = there_files i found l d f is (are_there i found l d (sym read.tested.found ∙ so) read.files) in
    let at = c.epoch.ensures in
    let here = subst (λ e. IsThere i found (record { columns = columns_at l e; file = f.file })) (sym at) parts.0 in
    let mine = rows_found found f.file.id in
    let u = meta_of next t in
    let may = parts_replace i found u held.shaped.lineage (now_if_any c.args.before) to c.requires.order agrees (sym asked) (singles_found i found u to files) in
    asked_key i found u to d asked (parts_of u (now_if_any c.args.before) to) may c.deref.result.now (lent_in c.parts.result) (ap (map want_of) c.deref.ensures.value ∙ c.in_ok-inputs.ensures.files) (c.parts.ensures.range next held.table)
    o (map (lifted l c.epoch.result (epoch_of l)) mine) (sym (present_is found l d f c.epoch.result is at)) (λ cs lifts have bound. differs i (columns_of l) cs mine told lifts refl have here bound)) c.cumulative_difference.ensures.difference

pub cumulative_difference-requires-in-None-clause-epochs : goal.cumulative_difference-requires-in-None-clause-epochs
cumulative_difference-requires-in-None-clause-epochs g c κs within =
    let held = c.requires.held in
    subst (AllByRecursion HasEpoch) (sym c.deref-in-None.ensures.value) (c.in_ok-inputs.ensures.epochs (c.parts.ensures.epochs held.0 (epoch_of c.args.table.now.evolving.value) held.1.table held.1.shaped.epochs c.requires.epoch_before))

pub cumulative_difference-requires-in-None-clause-alike : goal.cumulative_difference-requires-in-None-clause-alike
cumulative_difference-requires-in-None-clause-alike g c κs within =
    let l = c.args.table.now.evolving.value in
    (columns_of l, subst (AllByRecursion (IsLiftedTo (columns_of l))) (sym c.deref-in-None.ensures.value) (all_lifted c.in_ok-inputs.inputs.items l (lent_in c.parts.result) c.in_ok-inputs.ensures.files), tt)

pub returns-clause-key : goal.returns-clause-key
returns-clause-key g c =
    IfOk-weaker c.cumulative_difference-in-None.result _ _ (λ o differs next i found held told files below agrees read so.
    let t = c.args.table.now in
    let l = t.evolving.value in
    let to = c.args.one.now.range.to in
    let d = delta_of c.args.one.now.range in
    let asked = sym (below to ∙ sym c.is_below.ensures ∙ c.if-not-is_below.false) in
    let is : d.files ≡ None = sym c.files.ensures ∙ ap now_if_any c.in-None.is in
    let u = meta_of next t in
    let may = parts_replace i found u held.shaped.lineage (now_if_any c.args.before) to c.requires.order agrees (sym asked) (singles_found i found u to files) in
    asked_key i found u to d asked (parts_of u (now_if_any c.args.before) to) may c.deref-in-None.result.now (lent_in c.parts.result) (ap (map want_of) c.deref-in-None.ensures.value ∙ c.in_ok-inputs.ensures.files) (c.parts.ensures.range next held.table)
    o [] (sym (ap (λ (x : Option Files). map (lifted l d.epoch (epoch_of l)) (rows_if_any (rows_found found) x)) is)) (λ cs lifts have bound. differs i (columns_of l) cs [] told lifts tt have refl bound)) c.cumulative_difference-in-None.ensures.difference

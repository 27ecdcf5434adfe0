use Rattle.std.proofs.Common.{List, subst, sym, arith}
use Rattle.std.proofs.lemmas.List.{with_items_is}
use Rattle.std.specs.List.{AllByRecursion}
use Rattle.mesa_group_blocks.specs.mesa_fold.Folded.{rows_of}
use Rattle.mesa_group_blocks.specs.mesa_merge.Inputs.{AreTold, knowns_of}
use Rattle.std.specs.Prelude.{◌⊎◌}
use Rattle.mesa_group_blocks.specs.mesa_answer.Answering.{KeepsSums}
use Rattle.mesa_group_blocks.specs.mesa_answer.Gathering.{wanted_by}
use Rattle.mesa_group_blocks.proofs.mesa_answer.Results.{if_err}
use Rattle.mesa_group_blocks.specs.mesa_open_files.Pins.{IsPinnedInput}
use Rattle.mesa_group_blocks.specs.mesa_open_files.declared.querying.PinnedInput.{PinnedInput}
use Rattle.mesa_group_blocks.specs.Moved.{inputs_in}
use Rattle.mesa_query.specs.Files.{IsDamageIn}
use Rattle.mesa_group_blocks.specs.Ungrouped.{parts_ungrouped}
use Rattle.mesa_query.specs.Sums.{IsSumIn}
use Rattle.mesa_query.proofs.answering.answer.Goals as goal

pub returns-clause-pinned : goal.returns-clause-pinned
returns-clause-pinned g c = λ s is. record {
  query = is.query;
  inputs = subst (AllByRecursion (IsPinnedInput g.R.FileReader.bytes s c.args.pinned.now.view)) (sym (with_items_is c.args.pinned.now.inputs c.answer_from.new.files (omega arith)))
      (c.answer_from.ensures.pinned s (subst (AllByRecursion (IsPinnedInput g.R.FileReader.bytes s c.args.pinned.now.view)) (sym c.deref_mut.ensures.value) is.inputs));
}

pub returns-clause-never : goal.returns-clause-never
returns-clause-never g c =
    let bytes = g.R.FileReader.bytes in
    let view = c.args.pinned.now.view in
    if_err c.answer_from.result _ _ (λ e never d is s h contents told keeps.
    never d is s h.query (subst (AllByRecursion (IsPinnedInput bytes s view)) (sym c.deref_mut.ensures.value) h.inputs) contents
    (subst (λ (files : List (PinnedInput _)). AreTold (knowns_of bytes (inputs_in files)) contents) (sym c.deref_mut.ensures.value) told)
    (subst (λ (files : List (PinnedInput _)). KeepsSums s (rows_of (parts_ungrouped view files contents))) (sym c.deref_mut.ensures.value) keeps)) c.answer_from.ensures.never

pub returns-clause-damaged : goal.returns-clause-damaged
returns-clause-damaged g c =
    let bytes = g.R.FileReader.bytes in
    let view = c.args.pinned.now.view in
    let q = c.args.pinned.now.query in
    if_err c.answer_from.result _ _ (λ e damaged d is s h.
    let files = damaged d is s h.query (subst (AllByRecursion (IsPinnedInput bytes s view)) (sym c.deref_mut.ensures.value) h.inputs) in
    let before = subst (λ (old : List (PinnedInput _)). IsDamageIn bytes g.R.FileReader.size d old c.answer_from.new.files ⊎ IsSumIn bytes (wanted_by s q) q.asked.terms view old d) c.deref_mut.ensures.value files in
    subst (λ (new : List (PinnedInput _)). IsDamageIn bytes g.R.FileReader.size d c.args.pinned.now.inputs.items new ⊎ IsSumIn bytes (wanted_by s q) q.asked.terms view c.args.pinned.now.inputs.items d) (sym (with_items_is c.args.pinned.now.inputs c.answer_from.new.files (omega arith))) before) c.answer_from.ensures.damaged

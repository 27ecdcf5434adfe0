use Rattle.std.proofs.Common.{◌≡◌, [], sym, ap, subst, ◌∙◌}
use Rattle.mesa_schema.specs.Changes.{columns_of}
use Rattle.mesa_schema.specs.mesa_columns.Columns.{Columns, aggs_of}
use Rattle.mesa_schema.specs.mesa_fold.Folded.{folded, rows_of}
use Rattle.mesa_examine.specs.mesa_batch.Bound.{KeepsBound}
use Rattle.mesa_merge.specs.Inputs.{AreTold, knowns_of, lifted_parts}
use Rattle.mesa_merge.specs.Merged.{HasMerged, inputs_of, nothing_given}
use Rattle.mesa_compare.specs.Difference.{first_difference}
use Rattle.mesa_view.proofs.mesa_answer.Results.{if_ok}
use Rattle.mesa_compare.specs.Compared.{present_rows}
use Rattle.mesa_compare.proofs.GivenBack.{same_fresh}
use Rattle.mesa_compare.proofs.cumulatives.fold_difference.Goals as goal

pub against_file-requires-clause-merge : goal.against_file-requires-clause-merge
against_file-requires-clause-merge g c κs within =
    let bytes = g.D.Reader.FileReader.bytes in
    let start = c.requires.inputs in
    let lifted = rw c.in-Some.is at start.2 in (
      nothing_given c.args.inputs.items,
      subst (λ (s : Columns). HasMerged bytes s c.in-Ok.merge (nothing_given c.args.inputs.items)) (sym lifted) (c.in-Ok.ensures.merged start.0 start.1),
      c.new.ensures.nothing (aggs_of (columns_of c.in-Some.own.now.evolving.now.value)),
    )

pub against_file-requires-clause-fresh : goal.against_file-requires-clause-fresh
against_file-requires-clause-fresh g c κs within = same_fresh g.D.Reader.FileReader.faults _ _ (sym c.in-Ok.ensures.inputs) c.requires.fresh

pub against_file-requires-clause-epoch : goal.against_file-requires-clause-epoch
against_file-requires-clause-epoch g c κs within = rw c.in-Some.is at c.requires.own_epoch

pub against_none-requires-clause-merge : goal.against_none-requires-clause-merge
against_none-requires-clause-merge g c κs within =
    let start = c.requires.inputs in
    (start.0, nothing_given c.args.inputs.items, c.in-Ok.ensures.merged start.0 start.1, c.new.ensures.nothing (aggs_of start.0))

pub against_none-requires-clause-fresh : goal.against_none-requires-clause-fresh
against_none-requires-clause-fresh g c κs within = same_fresh g.D.Reader.FileReader.faults _ _ (sym c.in-Ok.ensures.inputs) c.requires.fresh

pub returns-in-Some-clause-difference : goal.returns-in-Some-clause-difference
returns-in-Some-clause-difference g c = if_ok c.against_file.result _ _ (λ o first i s contents all is inputs lifted told has keeps.
    let bytes = g.D.Reader.FileReader.bytes in
    let known : knowns_of bytes (inputs_of c.in-Ok.merge) ≡ knowns_of bytes c.args.inputs.items = ap (knowns_of bytes) c.in-Ok.ensures.inputs in
    let columns : columns_of c.in-Some.own.now.evolving.now.value ≡ s = rw c.in-Some.is at lifted in
    let its = rw c.in-Some.is at has in
    rw c.in-Some.is (first i contents all is (subst (λ ks. AreTold ks contents) (sym known) told) its
    (subst (λ (t : Columns). KeepsBound (aggs_of t) [] (rows_of (lifted_parts (knowns_of bytes (inputs_of c.in-Ok.merge)) contents))) (sym columns) (subst (λ ks. KeepsBound (aggs_of s) [] (rows_of (lifted_parts ks contents))) (sym known) keeps))
    ∙ (λ k. first_difference (folded (aggs_of (columns k)) (lifted_parts (known k) contents)) (present_rows c.in-Some.own.now all)))) c.against_file.ensures.difference

pub returns-in-None-clause-difference : goal.returns-in-None-clause-difference
returns-in-None-clause-difference g c = if_ok c.against_none.result _ _ (λ o first i s contents all is inputs lifted told has keeps.
    let bytes = g.D.Reader.FileReader.bytes in
    let known : knowns_of bytes (inputs_of c.in-Ok.merge) ≡ knowns_of bytes c.args.inputs.items = ap (knowns_of bytes) c.in-Ok.ensures.inputs in
    let none : all ≡ [] = rw c.in-None.is at has in
    rw c.in-None.is (first s (nothing_given c.args.inputs.items) contents (c.in-Ok.ensures.merged s inputs) (c.new.ensures.nothing (aggs_of s)) (subst (λ ks. AreTold ks contents) (sym known) told)
    (subst (λ ks. KeepsBound (aggs_of s) [] (rows_of (lifted_parts ks contents))) (sym known) keeps)
    ∙ (λ k. first_difference (folded (aggs_of s) (lifted_parts (known k) contents)) (sym none k)))) c.against_none.ensures.difference

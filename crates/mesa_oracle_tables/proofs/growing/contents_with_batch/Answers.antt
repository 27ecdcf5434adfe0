use Rattle.std.proofs.Common.{◌∙◌, ◌≡◌, ℕ, List, ap, map, length, length-append, [], ◌∷◌, arith}
use Rattle.std.specs.declared.alloc.Global.{Global}
use Rattle.std.specs.declared.sync.Arc.{Arc}
use Rattle.std.proofs.lemmas.List.{length-map, map-append}
use Rattle.std.proofs.lemmas.Option.{slice_get_within}
use Rattle.mesa_answer.specs.mesa_columns.declared.rows.Row.{Row}
use Rattle.mesa_answer.specs.mesa_columns.Columns.{aggs_of}
use Rattle.mesa_schema.specs.Changes.{columns_of}
use Rattle.mesa_answer.specs.mesa_fold.Folded.{folded}
use Rattle.mesa_batch.specs.Gathered.{rows_at}
use Rattle.mesa_batch.specs.Glance.{Known}
use Rattle.mesa_batch.specs.Numbers.{known_of}
use Rattle.mesa_model.specs.Load.{newest_content}
use Rattle.mesa_oracle_tables.specs.Kept.{contents_in}
use Rattle.mesa_oracle_tables.proofs.Items.{map_there, one_more}
use Rattle.mesa_oracle_tables.proofs.growing.contents_with_batch.Goals as goal

pub table_content-requires-clause-forms : goal.table_content-requires-clause-forms
table_content-requires-clause-forms c =
    let there = map_there known_of c.args.tables.now c.tables.number c.index-tables-number.result c.tables-test.true c.index-tables-number.is in
    rw (c.present-schema.ensures.columns, c.deref.ensures) (c.requires.can.forms c.tables.number _ there)

pub table_content-requires-clause-fold : goal.table_content-requires-clause-fold
table_content-requires-clause-fold c =
    let there = map_there known_of c.args.tables.now c.tables.number c.index-tables-number.result c.tables-test.true c.index-tables-number.is in
    rw (c.present-schema.ensures.columns, c.deref.ensures) (c.requires.can.fold c.tables.number _ there)

pub table_content-requires-clause-rows_forms : goal.table_content-requires-clause-rows_forms
table_content-requires-clause-rows_forms c =
    let there = map_there known_of c.args.tables.now c.tables.number c.index-tables-number.result c.tables-test.true c.index-tables-number.is in
    rw (c.present-schema.ensures.columns, c.deref.ensures, c.as_slice.ensures, c.in_ok-rows.ensures) (c.requires.batch.forms c.tables.number _ there)

pub table_content-requires-clause-bounded : goal.table_content-requires-clause-bounded
table_content-requires-clause-bounded c =
    let there = map_there known_of c.args.tables.now c.tables.number c.index-tables-number.result c.tables-test.true c.index-tables-number.is in
    rw (c.present-schema.ensures.columns, c.deref.ensures, c.as_slice.ensures, c.in_ok-rows.ensures) (c.requires.can.bounded c.tables.number _ there)

pub tables-preserved : goal.tables-preserved
tables-preserved c =
    let inv = c.tables.invariant in
    let number = c.tables.number in
    let table = c.index-tables-number.result in
    let versions = c.args.versions.now.items in
    let batch = c.args.batch.now in
    let next = c.in_ok-table_content.field-0 in
    let value : Arc (List Row) Global → List Row = λ a. a.value in
    let there = map_there known_of c.args.tables.now number table c.tables-test.true c.index-tables-number.is in
    let own : next.value ≡ folded (aggs_of (columns_of table.evolving.value)) (newest_content (contents_in number versions) ∷ rows_at number batch ∷ []) = c.in_ok-table_content.ensures ∙ (λ i. folded (aggs_of ((c.present-schema.ensures.columns ∙ ap columns_of c.deref.ensures) i)) (newest_content (contents_in number versions) ∷ (c.as_slice.ensures ∙ c.in_ok-rows.ensures) i ∷ [])) in
    record {
      count = omega (arith, ap length c.in_ok-push.ensures.ok, length-append c.tables.after (next ∷ []), inv.count);
      folds = λ n k lt e. rw (c.in_ok-push.ensures.ok, map-append value c.tables.after (next ∷ []))
          (one_more (λ (m : ℕ) (q : Known) (rows : List Row). rows ≡ folded (aggs_of (columns_of q.lineage)) (newest_content (contents_in m versions) ∷ rows_at m batch ∷ [])) (map value c.tables.after) next.value [] (map known_of c.args.tables.now) number (known_of table) (length-map c.tables.after value ∙ inv.count) there own inv.folds n k lt e);
    }

pub returns : goal.returns
returns c =
    let inv = c.tables.invariant in
    record {
      count = omega (arith, inv.count, c.tables-test.false, c.tables.auto.number-end, length-map c.args.tables.now known_of);
      folds = λ n k e. inv.folds n k (omega (arith, slice_get_within (map known_of c.args.tables.now) n k e, c.tables-test.false, length-map c.args.tables.now known_of)) e;
    }

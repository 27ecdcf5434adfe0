use Rattle.std.proofs.Common.{◌≡◌, ◌∙◌, ◌+◌, ◌∷◌, ◌++◌, [], Bool, take, ap, subst, sym}
use Rattle.std.specs.Prelude.{filter}
use Rattle.std.proofs.lemmas.List.Elements.{All-from_recursion}
use Rattle.mesa_key.specs.Spelling.{key_of}
use Rattle.mesa_model.specs.mesa_columns.declared.rows.Row.{Row as AnyRow}
use Rattle.mesa_model.specs.mesa_columns.Columns.{kinds_of}
use Rattle.mesa_model.specs.mesa_columns.Rows.{IsRowOf}
use Rattle.mesa_filter.specs.Filter.{meets}
use Rattle.mesa_answer.specs.Answering.{KeepsSums}
use Rattle.mesa_answer.specs.Gathered.{HasPut, wanted_of}
use Rattle.mesa_answer.specs.Gathering.{Wanted}
use Rattle.mesa_answer.proofs.Bounds.{sums_filtered}
use Rattle.mesa_answer.proofs.Forms.{row_spells}
use Rattle.mesa_answer.proofs.Passing.{none_more_passes, one_more_passes}
use Rattle.mesa_answer.proofs.answering.gathered.Goals as goal
use Rattle.mesa_answer.proofs.answering.gathered.Goals.{else-matches, then-matches+in_ok-put_bounded}

pub matches-requires : goal.matches-requires
matches-requires c =
    let s = c.args.schema.now in
    let row = c.row-item.result in
    let form : IsRowOf s row = subst (IsRowOf s) (sym c.row-item.is) (All-from_recursion (IsRowOf s) c.args.rows.now c.requires.of_schema c.loop-row.row-index row c.loop-row-test.true) in
    rw (c.filter-filter.ensures.kinds, c.requires.asked.kinds, c.as_slice.ensures) (row_spells s row form)

pub put_bounded-requires-clause-gathering : goal.put_bounded-requires-clause-gathering
put_bounded-requires-clause-gathering c =
    let s = c.args.schema.now in
    let test : AnyRow → Bool = λ (row : AnyRow). meets (key_of (kinds_of s) row.key) c.args.query.now.asked.terms in
    let some = filter test (take c.loop-row.row-index c.args.rows.now) in
    let schema = ap (λ (w : Wanted). w.schema) c.loop-row.invariant.wanted in
    let keeps : KeepsSums c.loop-row.groups.schema.now (some ++ c.row-item.result ∷ []) =
    subst (λ t. KeepsSums t (some ++ c.row-item.result ∷ [])) (sym schema) (sums_filtered s test c.loop-row.row-index c.args.rows.now c.row-item.result c.loop-row-test.true c.row-item.is c.requires.bounded) in
    rw c.lend.ensures (some, c.loop-row.invariant.put, keeps)

pub loop-row-preserved : goal.loop-row-preserved
loop-row-preserved c =
    let s = c.args.schema.now in
    let row = c.row-item.result in
    let i = c.loop-row.row-index in
    let test : AnyRow → Bool = λ (row : AnyRow). meets (key_of (kinds_of s) row.key) c.args.query.now.asked.terms in
    let some = filter test (take i c.args.rows.now) in
    let met : c.matches.result ≡ test row = rw (c.filter-filter.ensures.kinds, c.filter-filter.ensures.terms, c.requires.asked.kinds, c.as_slice.ensures) at c.matches.ensures in
    elim c.if-matches.branch [
      | then-matches+in_ok-put_bounded w ↦
          let put : HasPut w.put_bounded.new.groups (some ++ row ∷ []) = rw w.lend.ensures at (w.in_ok-put_bounded.ensures.put some c.loop-row.invariant.put) in
          let more = one_more_passes test i c.args.rows.now row c.loop-row-test.true c.row-item.is (sym met ∙ w.if-matches.true) in
          record {
            put = subst (λ g. HasPut g (filter test (take (c.loop-row.row-index + 1) c.args.rows.now))) (sym w.groups-is) (subst (HasPut w.put_bounded.new.groups) (sym more) put);
            wanted = ap wanted_of w.groups-is ∙ w.in_ok-put_bounded.ensures.wanted ∙ c.loop-row.invariant.wanted;
          }
      | else-matches w ↦
          let same = none_more_passes test i c.args.rows.now row c.loop-row-test.true c.row-item.is (sym met ∙ w.if-matches.false) in
          record {
            put = subst (λ g. HasPut g (filter test (take (c.loop-row.row-index + 1) c.args.rows.now))) (sym w.groups-is) (subst (HasPut c.loop-row.groups) (sym same) c.loop-row.invariant.put);
            wanted = ap wanted_of w.groups-is ∙ c.loop-row.invariant.wanted;
          }
    ]

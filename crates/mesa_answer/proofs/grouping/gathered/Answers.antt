use Rattle.std.proofs.Common.{◌∙◌, ◌∷◌, [], ◌++◌, ap, subst, sym, take}
use Rattle.mesa_answer.specs.Answering.{KeepsSums}
use Rattle.mesa_answer.specs.Gathered.{HasPut}
use Rattle.mesa_answer.specs.Gathering.{Wanted}
use Rattle.mesa_answer.proofs.Bounds.{sums_taken}
use Rattle.mesa_answer.proofs.Passing.{one_more_row}
use Rattle.mesa_answer.proofs.grouping.gathered.Goals as goal

pub put_bounded-requires-clause-gathering : goal.put_bounded-requires-clause-gathering
put_bounded-requires-clause-gathering c =
    let i = c.loop-row.row-index in
    let rows = c.args.rows.now in
    let row = c.row-item.result in
    let schema = ap (λ (w : Wanted). w.schema) c.loop-row.invariant.wanted in
    let keeps : KeepsSums c.loop-row.groups.schema.now (take i rows ++ row ∷ []) =
    subst (λ t. KeepsSums t (take i rows ++ row ∷ [])) (sym schema) (sums_taken c.args.schema.now i rows row c.loop-row-test.true c.row-item.is c.requires.bounded) in
    rw c.lend.ensures (take i rows, c.loop-row.invariant.put, keeps)

pub loop-row-preserved : goal.loop-row-preserved
loop-row-preserved c =
    let i = c.loop-row.row-index in
    let rows = c.args.rows.now in
    let row = c.row-item.result in
    let put : HasPut c.put_bounded.new.groups (take i rows ++ row ∷ []) = rw c.lend.ensures at (c.in_ok-put_bounded.ensures.put (take i rows) c.loop-row.invariant.put) in
    record {
      put = subst (HasPut c.put_bounded.new.groups) (sym (one_more_row i rows row c.loop-row-test.true c.row-item.is)) put;
      wanted = c.in_ok-put_bounded.ensures.wanted ∙ c.loop-row.invariant.wanted;
    }

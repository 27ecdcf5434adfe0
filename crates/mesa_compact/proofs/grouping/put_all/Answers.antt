use Rattle.std.proofs.Common.{◌++◌, ◌∷◌, [], sym, ◌∙◌, subst, get_or, set, arith, add-one}
use Rattle.mesa_open_files.specs.mesa_columns.Columns.{Columns}
use Rattle.mesa_open_files.specs.mesa_columns.Lent.{lent}
use Rattle.mesa_open_files.specs.mesa_columns.Rows.{IsRowOf}
use Rattle.mesa_answer.specs.Answering.{KeepsSums}
use Rattle.mesa_answer.specs.Gathered.{HasPut, wanted_of}
use Rattle.mesa_answer.specs.declared.groups.Groups.{Groups}
use Rattle.mesa_compact.specs.Grouping.{TakesRows}
use Rattle.mesa_compact.proofs.Putting.{AllUpTo, all_at, map_set, takes_kept, upto_all, upto_at, upto_set}
use Rattle.mesa_compact.proofs.grouping.put_all.Goals as goal

pub put_row-requires-clause-gathering : goal.put_row-requires-clause-gathering
put_row-requires-clause-gathering c =
    let start = c.requires.gathering in
    (start.0, upto_at c.groups.i _ _ c.groups.groups c.index-groups-i.result (c.groups.invariant.put start.0 start.1) (omega (arith, c.groups-test.true, c.groups.auto.groups)))

pub put_row-requires-clause-form : goal.put_row-requires-clause-form
put_row-requires-clause-form c =
    let form = c.requires.form in
    subst (λ (s : Columns). IsRowOf s (lent c.args.row)) (sym (all_at (TakesRows form.0) c.groups.groups c.groups.i c.index-groups-i.result (takes_kept form.0 c.args.groups.now c.groups.groups c.groups.invariant.wanted form.2) (omega (arith, c.groups-test.true, c.groups.auto.groups)))) form.1

pub groups-preserved : goal.groups-preserved
groups-preserved c =
    let inv = c.groups.invariant in
    let i = c.groups.i in
    record {
      put = λ given h.
          let was = inv.put given h in
          subst (λ n. AllUpTo n (λ (x : Groups). HasPut x (given ++ lent c.args.row ∷ [])) (λ (x : Groups). HasPut x given) (set c.groups.groups i c.put_row.new.groups)) (sym (add-one i))
          (upto_set i _ _ c.groups.groups c.put_row.new.groups was (c.in-Ok.ensures.put given (upto_at i _ _ c.groups.groups c.index-groups-i.result was (omega (arith, c.groups-test.true, c.groups.auto.groups)))));
      wanted = map_set _ c.groups.groups i c.put_row.new.groups c.index-groups-i.result c.in-Ok.ensures.wanted ∙ inv.wanted;
    }

pub returns-in-Err-clause-wanted : goal.returns-in-Err-clause-wanted
returns-in-Err-clause-wanted c = map_set _ c.groups.groups c.groups.i c.put_row.new.groups c.index-groups-i.result c.in-Err.ensures.wanted ∙ c.groups.invariant.wanted

pub returns-in-Err-clause-never : goal.returns-in-Err-clause-never
returns-in-Err-clause-never c = λ d e s given h takes keeps.
    let inv = c.groups.invariant in
    let its = all_at (TakesRows s) c.groups.groups c.groups.i c.index-groups-i.result (takes_kept s c.args.groups.now c.groups.groups inv.wanted takes) (omega (arith, c.groups-test.true, c.groups.auto.groups)) in
    c.in-Err.ensures.never d e given (upto_at c.groups.i _ _ c.groups.groups c.index-groups-i.result (inv.put given h) (omega (arith, c.groups-test.true, c.groups.auto.groups)))
    (subst (λ (t : Columns). KeepsSums t (given ++ lent c.args.row ∷ [])) (sym its) keeps)

pub returns-in-Err-clause-leaves : goal.returns-in-Err-clause-leaves
returns-in-Err-clause-leaves c = λ d e s given h takes. (
    let inv = c.groups.invariant in
    record {
      groups = wanted_of (get_or c.groups.groups c.groups.i c.index-groups-i.result);
      schema = all_at (TakesRows s) c.groups.groups c.groups.i c.index-groups-i.result (takes_kept s c.args.groups.now c.groups.groups inv.wanted takes) (omega (arith, c.groups-test.true, c.groups.auto.groups));
      key = _;
      leaves = c.in-Err.ensures.leaves d e given (upto_at c.groups.i _ _ c.groups.groups c.index-groups-i.result (inv.put given h) (omega (arith, c.groups-test.true, c.groups.auto.groups)));
    })

pub returns-clause-put : goal.returns-clause-put
returns-clause-put c = λ given h. upto_all c.groups.i _ _ c.groups.groups (c.groups.invariant.put given h) (omega (arith, c.groups-test.false, c.groups.auto.groups, c.groups.auto.i-end))

use Rattle.std.proofs.Common.{◌≡◌, ◌∙◌, ◌++◌, ◌<◌, List, ap, subst, sym, length, map}
use Rattle.std.specs.Prelude.{slice_get}
use Rattle.mesa_open_files.specs.mesa_columns.declared.rows.Row.{Row}
use Rattle.mesa_open_files.specs.mesa_columns.declared.views.View.{View}
use Rattle.mesa_schema.specs.Changes.{Lineage, columns_of}
use Rattle.mesa_open_files.specs.mesa_columns.Columns.{kinds_of}
use Rattle.mesa_scan.specs.Cursors.{lift_by}
use Rattle.mesa_answer.specs.Answering.{KeepsSums}
use Rattle.mesa_answer.specs.Gathered.{wanted_of}
use Rattle.mesa_answer.specs.Regrouping.{places_seen}
use Rattle.mesa_answer.proofs.Results.{if_err, on_ok}
use Rattle.mesa_group_blocks.proofs.Blocks.{some_here, there_of, under_matching}
use Rattle.mesa_group_blocks.proofs.regrouped.gather_regrouped.Goals as goal

pub of-requires : goal.of-requires
of-requires g c = record { there = subst (λ (l : Lineage). c.args.view < length l.views) (sym c.deref-2.ensures) (there_of c.args.input.now.evolving.value.views c.args.view c.requires.columns.0 c.requires.columns.1) }

pub gather_each_block-requires-clause-every : goal.gather_each_block-requires-clause-every
gather_each_block-requires-clause-every g c = λ κs below. c.in_ok-every.ensures.kinds ∙ ap kinds_of (c.present.ensures.columns ∙ ap (λ (l : Lineage). columns_of l) c.deref.ensures)

pub gather_each_block-requires-clause-seen : goal.gather_each_block-requires-clause-seen
gather_each_block-requires-clause-seen g c = λ κs below.
    let l = c.args.input.now.evolving.value in
    let v = c.requires.columns.0 in
    let seen = some_here (λ (v : View). c.in_ok-regrouping.regrouping ≡ places_seen (columns_of l) v) (slice_get l.views c.args.view) v c.requires.columns.1 (rw c.deref-2.ensures at c.in_ok-regrouping.ensures.seen) in
    (v, seen, c.requires.columns.2)

pub returns-clause-put : goal.returns-clause-put
returns-clause-put g c =
    let start = c.args.input.now in
    let l = start.evolving.value in
    let p = c.in_ok-regrouping.regrouping in
    on_ok c.gather_each_block.result _ _ (λ put given h.
    let r = put given h in (
      r.0,
      r.1,
      λ v there rows told.
          let seen = some_here (λ (v : View). p ≡ places_seen (columns_of l) v) (slice_get l.views c.args.view) v there (rw c.deref-2.ensures at c.in_ok-regrouping.ensures.seen) in
          r.2 rows told ∙ under_matching (wanted_of c.args.groups.now).schema (columns_of l) v p c.args.filter.now (map (lift_by start) rows) seen c.requires.filter,
    )) c.gather_each_block.ensures.put

pub returns-clause-never : goal.returns-clause-never
returns-clause-never g c =
    let start = c.args.input.now in
    let l = start.evolving.value in
    let s = (wanted_of c.args.groups.now).schema in
    let f = c.args.filter.now in
    let p = c.in_ok-regrouping.regrouping in
    if_err c.gather_each_block.result _ _ (λ e never is v there given h rows told keeps.
    let seen = some_here (λ (v : View). p ≡ places_seen (columns_of l) v) (slice_get l.views c.args.view) v there (rw c.deref-2.ensures at c.in_ok-regrouping.ensures.seen) in
    never is given h rows told (subst (λ (more : List Row). KeepsSums s (given ++ more)) (sym (under_matching s (columns_of l) v p f (map (lift_by start) rows) seen c.requires.filter)) keeps)) c.gather_each_block.ensures.never

pub returns-clause-sum : goal.returns-clause-sum
returns-clause-sum g c =
    let start = c.args.input.now in
    let l = start.evolving.value in
    let s = (wanted_of c.args.groups.now).schema in
    let f = c.args.filter.now in
    let p = c.in_ok-regrouping.regrouping in
    if_err c.gather_each_block.result _ _ (λ e sum is given h.
    let r = sum is given h in (
      r.0,
      r.1,
      λ v there rows told.
          let seen = some_here (λ (v : View). p ≡ places_seen (columns_of l) v) (slice_get l.views c.args.view) v there (rw c.deref-2.ensures at c.in_ok-regrouping.ensures.seen) in
          let first = r.2 rows told in
          (first.0, sym (under_matching s (columns_of l) v p f (map (lift_by start) rows) seen c.requires.filter) ∙ first.1),
    )) c.gather_each_block.ensures.sum

use Rattle.std.proofs.Common.{◌≤◌, ◌<◌, sym, subst}
use Rattle.mesa_catalog_table.proofs.Ranged.{none_before, none_behind, none_where_they_differ}
use Rattle.mesa_catalog_table.proofs.table.Table.single.Goals as goal
use Rattle.mesa_catalog_table.proofs.table.Table.single.Goals.{then-from-to-via-then-from-to, then-from-to-via-else-from-to+then-from-start, then-from-to-via-else-from-to+else-from-start+then-next-from}

pub returns-then-from-to : goal.returns-then-from-to
returns-then-from-to c =
    let next = c.args.next in
    let t = c.args.self.now in
    let from = c.args.from in
    let to = c.args.to in
    elim c.then-from-to.branch [
      | then-from-to-via-then-from-to w ↦ sym (none_where_they_differ next t from to w.if-from-to.true)
      | then-from-to-via-else-from-to+then-from-start w ↦ sym (none_before next t from to w.if-from-to.false (subst (λ start. from < start) w.start.ensures.start w.if-from-start.true))
      | then-from-to-via-else-from-to+else-from-start+then-next-from w ↦ sym (none_behind next t from to c.requires w.if-from-to.false (subst (λ start. start ≤ from) w.start.ensures.start w.if-from-start.false) w.if-next-from.true)
    ]

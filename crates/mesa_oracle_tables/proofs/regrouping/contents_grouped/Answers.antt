use Rattle.std.proofs.Common.{◌≡◌, ◌∙◌, List, [], get_or, set, sym, subst, arith}
use Rattle.std.specs.declared.alloc.Global.{Global}
use Rattle.std.specs.declared.sync.Arc.{Arc}
use Rattle.std.proofs.lemmas.List.{length-map, map-set}
use Rattle.mesa_answer.specs.mesa_columns.declared.rows.Row.{Row}
use Rattle.mesa_schema.specs.Recasts.{Recast, recast_rows}
use Rattle.mesa_answer.specs.mesa_columns.Rows.{AreRowsOf}
use Rattle.mesa_answer.specs.Answering.{KeepsSums}
use Rattle.mesa_oracle_tables.specs.Kept.{shared}
use Rattle.mesa_oracle_tables.proofs.Changes.{content_there, with_past}
use Rattle.mesa_oracle_tables.proofs.regrouping.contents_grouped.Goals as goal

pub returns-in_default : goal.returns-in_default
returns-in_default c =
    let contents = c.args.contents.now in
    let r : Recast = record { keys = c.args.names.now.keys; values = c.args.names.now.values } in
    c.in_ok-recast.ensures ∙ with_past (recast_rows c.args.schema.now r) c.args.table (shared contents) (omega (arith, c.in_default.ensures.lookup.3, length-map contents (λ (a : Arc (List Row) Global). a.value)))

pub recast_rows-requires-clause-of_table : goal.recast_rows-requires-clause-of_table
recast_rows-requires-clause-of_table c =
    let contents = c.args.contents.now in
    let found = c.in-Some.ensures.lookup.3 in
    let is = content_there contents c.args.table c.in-Some.content.now found.0 (found.1 c.in-Some.content.now) in
    subst (λ (rows : List Row). AreRowsOf c.args.schema.now rows) (is ∙ sym (c.as_slice-3.ensures ∙ c.deref.ensures)) c.requires.forms

pub recast_rows-requires-clause-bounded : goal.recast_rows-requires-clause-bounded
recast_rows-requires-clause-bounded c =
    let contents = c.args.contents.now in
    let found = c.in-Some.ensures.lookup.3 in
    let is = content_there contents c.args.table c.in-Some.content.now found.0 (found.1 c.in-Some.content.now) in
    subst (λ (rows : List Row). KeepsSums c.args.schema.now rows) (is ∙ sym (c.as_slice-3.ensures ∙ c.deref.ensures)) c.requires.sums

pub returns : goal.returns
returns c =
    let contents = c.args.contents.now in
    let table = c.args.table in
    let content = c.in-Some.content.now in
    let found = c.in-Some.ensures.lookup.3 in
    let r : Recast = record { keys = c.args.names.now.keys; values = c.args.names.now.values } in
    let read = c.as_slice-3.ensures ∙ c.deref.ensures ∙ sym (content_there contents table content found.0 (found.1 content)) in
    let own : c.in_ok-own.own.value ≡ recast_rows c.args.schema.now r (get_or (shared contents) table []) =
    c.in_ok-own.ensures.ok ∙ c.in_ok-rows.ensures.content ∙ (λ j. recast_rows c.args.schema.now (record { keys = c.as_slice.ensures j; values = c.as_slice-2.ensures j }) (read j)) in
    map-set (λ (a : Arc (List Row) Global). a.value) c.in_ok-recast.recast table c.in_ok-own.own ∙ (λ j. set (c.in_ok-recast.ensures j) table (own j))

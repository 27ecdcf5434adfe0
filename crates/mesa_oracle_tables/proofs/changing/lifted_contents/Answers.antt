use Rattle.std.proofs.Common.{◌≡◌, ◌∙◌, List, [], ap, get_or, map, set, sym, arith}
use Rattle.std.specs.declared.alloc.Global.{Global}
use Rattle.std.specs.declared.sync.Arc.{Arc}
use Rattle.std.proofs.lemmas.List.{length-map, map-set}
use Rattle.mesa_answer.specs.mesa_columns.declared.rows.Row.{Row}
use Rattle.mesa_answer.specs.mesa_columns.Lifting.{lifted_with}
use Rattle.mesa_oracle_tables.specs.Kept.{shared}
use Rattle.mesa_oracle_tables.proofs.Changes.{content_there, lifted_past}
use Rattle.mesa_oracle_tables.proofs.changing.lifted_contents.Goals as goal

pub returns-in_default : goal.returns-in_default
returns-in_default c =
    let contents = c.args.contents.now in
    c.in_ok-lifted.ensures ∙ lifted_past c.args.lift.now c.args.table (shared contents) (omega (arith, c.in_default.ensures.lookup.3, length-map contents (λ (a : Arc (List Row) Global). a.value)))

pub returns : goal.returns
returns c =
    let contents = c.args.contents.now in
    let table = c.args.table in
    let content = c.in-Some.content.now in
    let found = c.in-Some.ensures.lookup.3 in
    let own : c.in_ok-own.own.value ≡ map (lifted_with c.args.lift.now) (get_or (shared contents) table []) =
    c.in_ok-own.ensures.ok ∙ c.in_ok-rows.ensures ∙ ap (map (lifted_with c.args.lift.now)) (c.as_slice.ensures ∙ c.deref.ensures ∙ sym (content_there contents table content found.0 (found.1 content))) in
    map-set (λ (a : Arc (List Row) Global). a.value) c.in_ok-lifted.lifted table c.in_ok-own.own ∙ (λ j. set (c.in_ok-lifted.ensures j) table (own j))

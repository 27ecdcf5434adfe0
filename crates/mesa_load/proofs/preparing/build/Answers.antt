use Rattle.std.proofs.Common.{List, map, Ok, Err, sym, subst}
use Rattle.std.specs.Prelude.{Bool, IfOk, Result}
use Rattle.mesa_file.specs.Serials.{next_ids}
use Rattle.mesa_load.specs.Collected.{finished}
use Rattle.mesa_load.specs.FilesToWrite.{AreDone, content_in}
use Rattle.mesa_load.specs.Plans.{HaveFiles}
use Rattle.mesa_load.specs.declared.building.FileToWrite.{FileToWrite}
use Rattle.mesa_load.proofs.Written.{done_made, next_made}
use Rattle.mesa_load.proofs.preparing.build.Goals as goal

if_ok : {A E : Type 0} (P Q : A → Type 0) (r : Result A E) → IfOk r P → ((x : A) → P x → Q x) → IfOk r Q
if_ok P Q (Ok x) h f = f x h
if_ok P Q (Err e) h f = tt

pub returns-clause-made : goal.returns-clause-made
returns-clause-made g c =
    let bytes = g.M.Made.bytes in
    let id_of = g.M.Made.id_of in
    let faults = g.B.Draft.Draft.faults in
    let jobs = c.args.plan.now.jobs.items in
    if_ok _ _ c.collect.result c.collect.ensures.all (λ files all.
    subst (λ (over : Bool). HaveFiles bytes id_of over (map content_in jobs) files.items) (sym c.if-plan.false)
    (done_made bytes id_of faults jobs files.items
    (subst (λ (js : List FileToWrite). AreDone bytes id_of faults js (map finished files.items)) c.deref.ensures.value (subst (AreDone bytes id_of faults c.deref.result.now) all c.write_all-written.ensures.done))))

pub returns-clause-numbered : goal.returns-clause-numbered
returns-clause-numbered g c =
    let n = c.len-count.result in
    let first = c.args.ids.now in
    let opened = c.in_ok-drafts.ensures.numbered in
    let written = c.write_all-written.ensures.numbered (next_ids n first) opened.0 in
    if_ok _ _ c.collect.result c.collect.ensures.all (λ files all. next_made g.row.B-Draft.Denot g.M.Made.id_of first _ n files.items _ all written opened.1)

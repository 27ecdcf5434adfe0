use Rattle.std.proofs.Common.{◌∙◌, ◌+◌, List, suc, take, sym, ap}
use Rattle.std.proofs.lemmas.Result.{err_from_is_err_and}
use Rattle.mesa_journal.specs.Read.{bodies_of}
use Rattle.mesa_journal.specs.declared.reading.Body.{Body}
use Rattle.mesa_store_spec.specs.Journaled.{catalog}
use Rattle.mesa_recover.proofs.Bodies.{bodies_more, first_refused, later_refused, one_body}
use Rattle.mesa_recover.proofs.records.read_records.Goals as goal

pub loop-body-init : goal.loop-body-init
loop-body-init c =
    let split = c.in-Some.ensures.cases.0 in
    record {
      made = ap (λ (bs : List Body). catalog c.args.area (bodies_of (take 1 bs))) split ∙ one_body c.args.area c.in-Some.first.now.bytes c.in_ok-catalog.catalog.catalogue c.in_ok-catalog.ensures.made;
      free = c.in_ok-catalog.ensures.free;
    }

pub loop-body-preserved : goal.loop-body-preserved
loop-body-preserved c =
    let area = c.args.area in
    let i = c.loop-body.body-index in
    let split = c.in-Some.ensures.cases.0 in
    let had = sym (ap (λ (bs : List Body). catalog area (bodies_of (take (suc i) bs))) split) ∙ c.loop-body.invariant.made in
    record {
      made = ap (λ (bs : List Body). catalog area (bodies_of (take (suc (i + 1)) bs))) split
          ∙ bodies_more area c.in-Some.first.now.bytes c.in-Some.others.now i c.body-item.result c.loop-body.catalog.catalogue c.read_record.new.catalog.catalogue c.loop-body-test.true c.body-item.is had c.in_ok-read_record.ensures.made;
      free = c.in_ok-read_record.ensures.free;
    }

pub returns-in_err-read_record-clause-misfit : goal.returns-in_err-read_record-clause-misfit
returns-in_err-read_record-clause-misfit c =
    let p = err_from_is_err_and c.from_residual-in_err-read_record.result c.from_residual-in_err-read_record.ensures.1 in
    let area = c.args.area in
    let i = c.loop-body.body-index in
    let split = c.in-Some.ensures.cases.0 in
    let had = sym (ap (λ (bs : List Body). catalog area (bodies_of (take (suc i) bs))) split) ∙ c.loop-body.invariant.made in
    rw (p.1, p.2) (later_refused area c.args.bodies.now c.in-Some.first.now c.in-Some.others.now i c.body-item.result c.loop-body.catalog.catalogue _ split c.loop-body-test.true c.body-item.is had c.in_err-read_record.ensures.misfit)

pub returns-in_err-catalog-clause-misfit : goal.returns-in_err-catalog-clause-misfit
returns-in_err-catalog-clause-misfit c =
    let p = err_from_is_err_and c.from_residual.result c.from_residual.ensures.1 in
    rw (p.1, p.2) (first_refused c.args.area c.args.bodies.now c.in-Some.first.now c.in-Some.others.now _ c.in-Some.ensures.cases.0 c.in_err-catalog.ensures.misfit)

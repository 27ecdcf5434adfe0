use Rattle.std.proofs.Common.{◌≡◌, ◌∙◌, List, Some, ap, subst}
use Rattle.std.proofs.lemmas.Result.{err_from_is_err_and}
use Rattle.mesa_journal.specs.Areas.{number_of}
use Rattle.mesa_journal.specs.Read.{bodies_of, placed_from}
use Rattle.mesa_journal.specs.declared.reading.Body.{Body}
use Rattle.mesa_store_spec.specs.Journaled.{catalog}
use Rattle.mesa_recover.specs.Misfits.{IsMisfitIn}
use Rattle.mesa_recover.proofs.Reasons.{misfit_reason}
use Rattle.mesa_recover.proofs.reading.read_store.Goals as goal

pub returns-clause-found : goal.returns-clause-found
returns-clause-found g c =
    let journal = c.in-Ok.journal in
    let made = c.in_ok-catalog.catalog.catalogue in
    record {
      bodies = bodies_of journal.read.bodies;
      reads = record {
        bytes = c.in-Ok.ensures.bytes;
        records = subst (λ (bs : List Body). catalog journal.live (bodies_of bs) ≡ Some made) c.as_slice-bodies.ensures c.in_ok-catalog.ensures.made;
        journal = λ i told. (c.in-Ok.ensures.found i told).journal;
        files = λ i told. c.in_ok-check_catalog.ensures.good i (c.read_live.ensures.unmoved.told ∙ told);
        gate = c.in-Ok.ensures.gate;
        none = c.in-Ok.ensures.none;
      };
      numbered = c.area_number.ensures ∙ ap (λ (bs : List Body). number_of (bodies_of bs)) c.as_slice-bodies.ensures;
      other = λ i told. (c.in-Ok.ensures.found i told).holds;
    }

pub returns-in_err-catalog-clause-reason : goal.returns-in_err-catalog-clause-reason
returns-in_err-catalog-clause-reason g c =
    let p = err_from_is_err_and c.from_residual.result c.from_residual.ensures.1 in
    let journal = c.in-Ok.journal in
    rw (p.1, p.2) (misfit_reason journal.live (g.D.Disk.story c.args.disk.now) (g.D.Disk.story c.read_live.new.disk) journal.read.bodies journal.read.end _ c.in_err-catalog.ensures.kind
    (subst (λ (bs : List Body). bs ≡ placed_from 0 (bodies_of bs) → IsMisfitIn journal.live (bodies_of bs) c.in_err-catalog.field-0.0) c.as_slice-bodies.ensures c.in_err-catalog.ensures.misfit)
    (λ i told. let found = c.in-Ok.ensures.found i told in (found.journal, found.places)))

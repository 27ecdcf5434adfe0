use Rattle.std.proofs.Common.{◌≡◌, refl, sym, ◌∙◌, subst}
use Rattle.std.specs.Prelude.{Err}
use Rattle.mesa_disk.specs.declared.failures.DraftError.TheVariants.{Failed, Memory}
use Rattle.mesa_compact.proofs.Causing.{caused_draft, caused_memory, caused_ok, caused_room}
use Rattle.mesa_compact.proofs.filing.begin_file.Goals as goal

pub returns-in-Err-Failed-clause-causes : goal.returns-in-Err-Failed-clause-causes
returns-in-Err-Failed-clause-causes g c = λ reads. let is : c.draft.result ≡ Err Failed = cc in caused_draft _ _ _ reads c.draft.result c.draft.ensures.cause is

pub returns-in-Err-Memory-clause-causes : goal.returns-in-Err-Memory-clause-causes
returns-in-Err-Memory-clause-causes g c = λ reads. let is : c.draft.result ≡ Err Memory = cc in caused_room _ _ _ reads c.draft.result c.draft.ensures.cause is

pub returns-in-Ok-new-clause-causes : goal.returns-in-Ok-new-clause-causes
returns-in-Ok-new-clause-causes g c = λ reads. caused_ok _ _ _ reads reads _ c.in-Ok.ensures.cause.quiet refl

pub returns-in-Err-clause-causes : goal.returns-in-Err-clause-causes
returns-in-Err-clause-causes g c = λ reads.
    let none : g.B.Draft.Draft.faults c.in-Err.draft ≡ 0 = subst (λ (d : g.row.B-Draft.Denot). g.B.Draft.Draft.faults d ≡ 0) (sym c.in-Err.ensures.given_back) c.in-Ok.ensures.fresh in
    caused_memory _ _ _ reads reads (c.spoil.ensures.quiet none ∙ c.in-Ok.ensures.cause.quiet) refl

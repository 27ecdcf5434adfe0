use Rattle.std.proofs.Common.{◌≡◌, ℕ, ◌∙◌, refl, sym, subst}
use Rattle.mesa_open_files.specs.mesa_delta_format.Summary.{IsReferenceOf}
use Rattle.mesa_delta.specs.Writing.{id_of, layout_of}
use Rattle.mesa_compact.proofs.Causing.{caused_finish, caused_ok}
use Rattle.mesa_compact.proofs.filing.end_file.Goals as goal

pub returns-in-Ok-clause-made : goal.returns-in-Ok-clause-made
returns-in-Ok-clause-made g c =
    λ rows some taken.
    let held = c.held.ensures rows taken in
    let own : g.M.Made.id_of c.in-Ok.made ≡ id_of c.args.writer = c.in-Ok.ensures.id ∙ c.requires.own in
    record {
      rows = record { some = some; good = held.0; rise = held.1; spelled = refl };
      told = λ bytes told. (c.in-Ok.ensures.file rows taken bytes told).spelled;
      reference = subst (λ (n : ℕ). IsReferenceOf (layout_of c.args.writer) n rows c.in-Ok.file) (sym own) (c.in-Ok.ensures.reference rows taken);
    }

pub returns-in-Ok-clause-causes : goal.returns-in-Ok-clause-causes
returns-in-Ok-clause-causes g c = λ reads. caused_ok _ _ _ reads reads _ refl refl

pub returns-in-Err-clause-causes : goal.returns-in-Err-clause-causes
returns-in-Err-clause-causes g c = λ reads. caused_finish _ _ _ _ _ reads c.in-Err.error c.from.result c.requires.fresh c.in-Err.ensures.cause.1 c.in-Err.ensures.quiet c.from.ensures c.spoil.ensures.counted c.spoil.ensures.quiet c.spoil.ensures.later

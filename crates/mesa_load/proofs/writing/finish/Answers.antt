use Rattle.std.proofs.Common.{◌≡◌, ℕ, ◌∙◌, refl, sym, subst}
use Rattle.mesa_open_files.specs.mesa_delta_format.Summary.{IsReferenceOf}
use Rattle.mesa_delta.specs.Writing.{id_of, layout_of}
use Rattle.mesa_load.proofs.writing.finish.Goals as goal

pub returns-clause-made : goal.returns-clause-made
returns-clause-made g c =
    λ rows some taken.
    let held = c.held.ensures rows taken in
    let own : g.M.Made.id_of c.in_ok-made.made ≡ id_of c.args.writer = c.in_ok-made.ensures.id ∙ c.requires.own in
    record {
      rows = record { some = some; good = held.0; rise = held.1; spelled = refl };
      told = λ bytes told. (c.in_ok-made.ensures.file rows taken bytes told).spelled;
      reference = subst (λ (n : ℕ). IsReferenceOf (layout_of c.args.writer) n rows c.in_ok-made.file) (sym own) (c.in_ok-made.ensures.reference rows taken);
    }

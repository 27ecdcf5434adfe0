use Rattle.std.proofs.Common.{◌∷◌, [], refl, ◌∙◌, sym}
use Rattle.mesa_file_records.proofs.Bases.{full_base, held_files}
use Rattle.mesa_file_records.proofs.recasting.bring_base.Goals as goal

-- a base with rows
pub returns : goal.returns
returns g c =
    let took = c.in_ok-brought.ensures.brought in
    let b = c.in-Some.base in
    let files = held_files b.delta c.in-Some-delta.delta _ c.in-Some-delta.is ((λ i. (sym c.deref.ensures i).files) ∙ (λ i. (sym c.behind-delta.view_is i).files) ∙ c.in-Some-files.is) in
    record {
      brought = (
        took.0 ∷ [],
        (c.bring_range.new.left.items, took.1, refl),
        full_base c.args.base.now b c.in-Some.is c.in-Some-files.old files c.args.adopting.now.next took.0 took.2 took.3 c.in_ok-brought.brought took.5,
        took.6,
        took.7,
      );
    }

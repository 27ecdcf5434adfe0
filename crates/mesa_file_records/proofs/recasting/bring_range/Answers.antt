use Rattle.std.proofs.Common.{◌∷◌, ◌++◌, [], sym, ◌∙◌, ap}
use Rattle.mesa_disk.specs.Files.{files_of}
use Rattle.mesa_file_records.specs.Adopted.{ref_under, told_under}
use Rattle.mesa_file_records.proofs.recasting.bring_range.Goals as goal

-- the range that was taken, whose file has the next id
pub returns : goal.returns
returns g c =
    let bytes = g.M.Made.bytes in
    let took = c.in_ok-made.ensures.taken in
    let next = c.args.adopting.now.next in
    record {
      brought = (
        took.0,
        took.1,
        took.3,
        took.4,
        sym took.5,
        (λ i. record { file = (c.in_ok-file.ensures.reference ∙ ap (ref_under next) (sym took.2)) i; views = c.in_ok-views.ensures i }),
        c.in_ok-file.ensures.next,
        c.in_ok-file.ensures.made ∙ ap (λ f. files_of bytes c.args.adopting.now.made.items ++ told_under bytes next (f ∷ [])) (sym took.2),
      );
    }

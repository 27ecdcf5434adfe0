use Rattle.std.proofs.Common.{arith, rules, ◌∙◌}
use Rattle.std.proofs.lemmas.List.{take_rest}
use Rattle.mesa_delta_format.proofs.Entering.{entry_again}
use Rattle.mesa_delta_format.proofs.place.read_entry.Goals as goal

pub returns-clause-spelled : goal.returns-clause-spelled
returns-clause-spelled c =
    let bytes = c.args.bytes.now in
    entry_again bytes c.copy_from_slice.new.self c.copy_from_slice-2.new.self c.read_u64.result c.read_u32.result c.requires (search rules) c.copy_from_slice.ensures.after
    (c.copy_from_slice-2.ensures.after ∙ take_rest bytes 28) (omega (arith, c.read_u64.ensures)) (omega (arith, c.read_u32.ensures))

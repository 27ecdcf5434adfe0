use Rattle.std.proofs.Common.{subst}
use Rattle.mesa_history_spec.specs.mesa_columns.Columns.{Columns}
use Rattle.mesa_open_files.specs.Opening.{IsDamageOf}
use Rattle.mesa_open_files.proofs.opening.open_one.Goals as goal

pub returns-in-Err-Damaged-clause-met : goal.returns-in-Err-Damaged-clause-met
returns-in-Err-Damaged-clause-met g c =
    subst (λ (s : Columns). IsDamageOf (g.D.Disk.story c.args.disk.now).told s c.args.wanted.now.file.now c.in-Err-Damaged.damage) c.in-Ok.ensures.schema
    (c.in-Err-Damaged.ensures.damaged c.in-Err-Damaged.damage c.in-Err-Damaged.field-0-is)

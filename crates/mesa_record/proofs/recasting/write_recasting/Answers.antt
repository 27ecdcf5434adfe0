use Rattle.mesa_record_fields.proofs.mesa_list.Whole.{both}
use Rattle.mesa_record.specs.Rules.{are_recast_columns, are_recast_deltas}
use Rattle.mesa_record.proofs.recasting.write_recasting.Goals as goal

pub write_deltas-requires : goal.write_deltas-requires
write_deltas-requires c = (both (are_recast_columns c.args.recasting.now) (are_recast_deltas c.args.recasting.now) c.requires).1

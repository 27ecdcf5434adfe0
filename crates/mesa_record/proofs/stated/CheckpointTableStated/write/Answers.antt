use Rattle.mesa_record_fields.proofs.mesa_list.Whole.{both}
use Rattle.mesa_record.specs.Rules.{are_stated_columns, are_stated_deltas}
use Rattle.mesa_record.proofs.stated.CheckpointTableStated.write.Goals as goal

pub write_deltas-requires : goal.write_deltas-requires
write_deltas-requires c = (both (are_stated_columns c.args.self.now) (are_stated_deltas c.args.self.now) c.requires).1

use Rattle.mesa_schema.proofs.LineageChanges.{lineage_changed, lineage_new, lineage_viewed}
use Rattle.mesa_schema.proofs.PresentRows.{columns_more}
use Rattle.mesa_schema.proofs.laws.tables_keep_rules.Goals as goal

pub returns : goal.returns
returns c = record { made = lineage_new; changed = lineage_changed; viewed = lineage_viewed; columns = columns_more }

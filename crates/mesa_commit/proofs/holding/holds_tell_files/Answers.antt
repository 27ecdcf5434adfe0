use Rattle.mesa_commit.proofs.Filing.{freed_unheld, freed_unnamed, kept_had}
use Rattle.mesa_commit.proofs.holding.holds_tell_files.Goals as goal

pub returns : goal.returns
returns c = record {
  freed = λ position next named trash pins f id is. (freed_unheld position next named trash pins f id is, freed_unnamed position next named trash pins f id is);
  kept = kept_had;
}

use Rattle.std.proofs.Common.{rules}
use Rattle.std.proofs.lemmas.Fn.{filter_same}
use Rattle.mesa_commit.specs.Holding as spec
use Rattle.mesa_engine.specs.Meaning.{holds_by}
use Rattle.mesa_engine.proofs.trash.keep_held.Goals as goal

pub returns : goal.returns
returns c = filter_same _ (spec.is_held (holds_by c.args.holders.now)) _ (λ x b f called. search rules) _ _ c.retain.ensures.filtered

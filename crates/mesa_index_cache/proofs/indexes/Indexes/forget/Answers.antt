use Rattle.std.proofs.Common.{subst}
use Rattle.mesa_index_cache.specs.declared.indexes.Indexes.{Indexes}
use Rattle.mesa_index_cache.specs.Kept.{AreWithout}
use Rattle.mesa_index_cache.proofs.Entries.{taken_without}
use Rattle.mesa_index_cache.proofs.indexes.Indexes.forget.Goals as goal

pub returns : goal.returns
returns c =
    let new : Indexes = record { by_file = c.remove-kept.new.self } in
    subst (λ id. AreWithout id new c.args.self.now) c.number.ensures (taken_without c.args.self.now new c.number.result c.remove-kept.ensures.updates.0)

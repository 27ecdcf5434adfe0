use Rattle.std.proofs.Common.{◌∙◌, subst}
use Rattle.mesa_index_cache.specs.declared.indexes.Indexes.{Indexes}
use Rattle.mesa_index_cache.specs.Kept.{AreWith}
use Rattle.mesa_index_cache.proofs.Entries.{kept_with}
use Rattle.mesa_index_cache.proofs.indexes.Indexes.keep.Goals as goal

pub returns-in-Ok : goal.returns-in-Ok
returns-in-Ok c =
    let old = c.args.self.now in
    let new : Indexes = record { by_file = c.insert-before.new.self } in
    subst (λ x. AreWith c.args.index.now.file x new old) (c.new.ensures ∙ c.in-Ok.ensures)
    (subst (λ id. AreWith id c.new.result.index new old) (c.number-number.ensures ∙ c.file.ensures)
    (kept_with c.insert-before.result old new c.number-number.result c.new.result c.insert-before.ensures.updates c.insert-before.ensures.err))

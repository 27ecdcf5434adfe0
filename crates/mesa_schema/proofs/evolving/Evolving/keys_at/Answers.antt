use Rattle.std.proofs.Common.{◌∙◌, ◌+◌, ◌-◌, ap, sym, length, take}
use Rattle.std.specs.Prelude.{count_by}
use Rattle.mesa_columns.specs.Changes.{adds_key}
use Rattle.mesa_fold.proofs.KeyCounts.{key_count}
use Rattle.mesa_schema.proofs.evolving.Evolving.keys_at.Goals as goal

pub returns : goal.returns
returns c =
    (λ i. length (c.keys.ensures.same i) + c.added_keys.ensures.count i)
    ∙ ap (λ changes. length c.self.inside.first.keys + count_by adds_key (take c.changes_before.result changes)) c.as_slice.ensures
    ∙ (λ i. length (c.self.view_is i).first.keys + count_by adds_key (take (c.changes_before.ensures i) (c.self.view_is i).changes))
    ∙ sym (key_count c.args.self.now.first (take (c.args.epoch - c.args.self.now.begins) c.args.self.now.changes))

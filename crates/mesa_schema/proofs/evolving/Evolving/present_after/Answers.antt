use Rattle.std.proofs.Common.{◌≡◌, ◌∙◌, ap, is_ok}
use Rattle.mesa_columns.specs.Schema.{is_schema}
use Rattle.mesa_columns.specs.Changes.{changed}
use Rattle.mesa_schema.specs.Changes.{columns_of}
use Rattle.mesa_schema.proofs.LineageChanges.{changed_schema}
use Rattle.mesa_schema.proofs.evolving.Evolving.present_after.Goals as goal

pub of-requires : goal.of-requires
of-requires c =
    let same : record { keys = c.in_ok-keys.keys.items; values = c.in_ok-keys.values.items } ≡ columns_of c.args.self.now =
    (λ i. record { keys = c.in_ok-keys.ensures.keys i; values = c.in_ok-keys.ensures.values i }) ∙ c.present.ensures.columns in
    ap is_schema (c.in_ok-change_columns.ensures ∙ ap (λ s. changed s c.args.change.now) same) ∙ changed_schema c.args.self.now c.args.change.now c.present.ensures.rules (ap is_ok c.requires)

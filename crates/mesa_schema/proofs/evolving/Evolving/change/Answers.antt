use Rattle.std.proofs.Common.{◌+◌, ◌<◌, ◌∙◌, ap, length, nat_lt, rules, sym}
use Rattle.std.proofs.lemmas.Bool.{ltb-true}
use Rattle.mesa_schema.specs.Changes.{Lineage, epoch_of}
use Rattle.mesa_schema.proofs.LineageChanges.{kept_with_change}
use Rattle.mesa_schema.proofs.evolving.Evolving.change.Goals as goal

pub invariant_of-self-2 : goal.invariant_of-self-2
invariant_of-self-2 c =
    let l : Lineage = record { begins = c.self.inside.begins; first = c.self.inside.first; changes = c.self.inside.changes; views = c.self.inside.views } in
    let room : l.begins + length l.changes < 1000 = ltb-true (epoch_of l) 1000 (ap (λ x. nat_lt (epoch_of x) 1000) c.self.view_is ∙ sym c.if-not-has_room.ensures) in
    kept_with_change l c.self.inside.present c.args.change c.push.new.self c.in_ok-present.present c.self.invariant
    (search rules) (search rules) room c.in_ok-push.ensures.ok (search rules)

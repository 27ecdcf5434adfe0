use Rattle.std.proofs.Common.{◌++◌, ◌∙◌, sym, ap, List, ℕ}
use Rattle.std.proofs.lemmas.List.{append-nil}
use Rattle.std.specs.Arc.{arc_value}
use Rattle.mesa_disk.proofs.Maps.{keys-shown}
use Rattle.mesa_disk.proofs.memory.held.held_ids.Goals as goal

pub returns : goal.returns
returns c =
    let ids = c.loop-number.ids.items in
    sym (append-nil ids)
    ∙ ap (λ (l : List ℕ). ids ++ l) (sym c.in-None.ensures.steps.0)
    ∙ c.loop-number.invariant
    ∙ sym (keys-shown arc_value c.args.held.now.files.entries c.keys-number-items.ensures.ordered)

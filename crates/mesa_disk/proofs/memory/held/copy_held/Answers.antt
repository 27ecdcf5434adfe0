use Rattle.std.proofs.Common.{◌≡◌, rules}
use Rattle.std.specs.Arc.{arc_value}
use Rattle.std.specs.FinMap.{from_entries}
use Rattle.mesa_disk.proofs.Maps.{shown-clone}
use Rattle.mesa_disk.proofs.memory.held.copy_held.Goals as goal

pub returns : goal.returns
returns c =
    let old = c.args.held.now in
    let zero : c.in_ok-to_vec.field-0.items ≡ old.zero.items = search rules in
    let one : c.in_ok-to_vec-2.field-0.items ≡ old.one.items = search rules in
    let files = shown-clone arc_value old.files.entries c.in_ok-clone.field-0.entries c.in_ok-clone.ensures.cases in
    λ i. record { zero = zero i; one = one i; files = from_entries (files i) }

use Rattle.std.proofs.Common.{◌∙◌, ap, sym, ◌≡◌}
use Rattle.std.specs.Prelude.{false}
use Rattle.std.specs.Option.{is_some, option_or}
use Rattle.std.specs.Bool.{then_some}
use Rattle.mesa_list.specs.Bytes.{same_bytes}
use Rattle.mesa_batch.specs.Numbers.{number_at}
use Rattle.mesa_batch.proofs.NameNumbers.{number_kept, number_new}
use Rattle.mesa_batch.proofs.glance.number_name.Goals as goal

pub returns-then-contains_key : goal.returns-then-contains_key
returns-then-contains_key c = number_kept c.args.numbers.now.entries c.args.name.now c.args.number (sym c.contains_key.ensures ∙ c.if-contains_key.true)

pub returns : goal.returns
returns c = λ q.
    let key = c.in_ok-from_slice.field-0 in
    let same = c.in_ok-from_slice.ensures.items in
    let absent : is_some (number_at c.args.name.now c.args.numbers.now.entries) ≡ false = sym c.contains_key.ensures ∙ c.if-contains_key.false in
    ap (number_at q) c.in_ok-insert.ensures.entries
    ∙ number_new c.args.numbers.now.entries key c.args.number (ap (λ n. is_some (number_at n c.args.numbers.now.entries)) same ∙ absent) q
    ∙ ap (λ n. option_or (number_at q c.args.numbers.now.entries) (then_some (same_bytes q n) c.args.number)) same

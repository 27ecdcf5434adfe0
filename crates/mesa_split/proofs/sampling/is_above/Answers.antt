use Rattle.std.proofs.Common.{◌≡◌, ◌∙◌, List, ℕ, None, sym, ap}
use Rattle.std.specs.Prelude.{Option, Some}
use Rattle.std.specs.Option.{option_copied}
use Rattle.std.specs.Ordering.{is_lt}
use Rattle.mesa_key.specs.Order.{byte_cmp}
use Rattle.mesa_split.specs.Sampling.{end_of, lies_above}
use Rattle.mesa_split.proofs.Cuts.{end_is}
use Rattle.mesa_split.proofs.sampling.is_above.Goals as goal

pub returns-in-Some : goal.returns-in-Some
returns-in-Some c =
    let last : end_of None c.args.cuts.now ≡ Some c.in-Some.last.now = end_is c.args.cuts.now ∙ sym c.last.ensures.value ∙ ap option_copied c.in-Some.is in
    c.is_lt.ensures ∙ ap is_lt (c.compare.ensures ∙ ap (λ (k : List ℕ). byte_cmp k c.args.key.now) c.as_slice.ensures) ∙ sym (ap (λ (o : Option (List ℕ)). lies_above o c.args.key.now) last)

pub returns-in-None : goal.returns-in-None
returns-in-None c = sym (ap (λ (o : Option (List ℕ)). lies_above o c.args.key.now) (end_is c.args.cuts.now ∙ sym c.last.ensures.value ∙ ap option_copied c.in-None.is))

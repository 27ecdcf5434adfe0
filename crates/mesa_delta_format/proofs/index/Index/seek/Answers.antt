use Rattle.std.proofs.Common.{◌≡◌, arith, ap, ◌∙◌}
use Rattle.std.proofs.lemmas.List.{length-map}
use Rattle.mesa_block.specs.mesa_key.Order.{short_key}
use Rattle.mesa_delta_format.specs.Places.{short_of, shorts_of}
use Rattle.mesa_delta_format.specs.Seeking.{seek_in}
use Rattle.mesa_delta_format.specs.declared.index.Held.{Held}
use Rattle.mesa_delta_format.proofs.Searching.{within}
use Rattle.mesa_delta_format.proofs.index.Index.seek.Goals as goal

pub overflow_cast-result : goal.overflow_cast-result
overflow_cast-result c =
    let x = c.self.inside.held.value in
    let shorts = shorts_of x.entries in
    let is : c.seek.result ≡ seek_in (short_key c.args.key.now) shorts = c.seek.ensures ∙ ap (λ l. seek_in (short_key c.args.key.now) (shorts_of l)) (c.as_slice.ensures ∙ ap (λ (k : Held). k.entries) c.deref.ensures) in
    omega (arith, is, within (short_key c.args.key.now) shorts, length-map x.entries short_of, c.self.invariant.few)

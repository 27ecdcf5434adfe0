use Rattle.std.proofs.Common.{◌∙◌, ap, take, drop, ◌++◌, replicate}
use Rattle.mesa_key.proofs.Cuts.{filled}
use Rattle.mesa_key.proofs.order.short.Goals as goal

pub returns : goal.returns
returns c =
    ap (λ front. front ++ drop c.min-len.result (replicate 16 0)) c.copy_from_slice.ensures.after
    ∙ ap (λ n. take n c.args.bytes.now ++ drop n (replicate 16 0)) c.min-len.ensures
    ∙ filled c.args.bytes.now

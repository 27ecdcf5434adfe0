use Rattle.std.proofs.Common.{sym, arith}
use Rattle.std.proofs.lemmas.List.{length-take-le, take_all}
use Rattle.mesa_key.proofs.decoding.head_of.Goals as goal

pub slice_bounds-result-end : goal.slice_bounds-result-end
slice_bounds-result-end c = let more = c.if-text-gt256.true in sym (length-take-le 256 c.args.text.now (omega (arith, more)))

pub returns-else-text-gt256 : goal.returns-else-text-gt256
returns-else-text-gt256 c = let few = c.if-text-gt256.false in sym (take_all 256 c.args.text.now (omega (arith, few)))

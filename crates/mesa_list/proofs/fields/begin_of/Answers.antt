use Rattle.std.proofs.Common.{◌≡◌, ◌+◌, ◌-◌, ◌<◌, length, take, arith, sym, ap, ◌∙◌}
use Rattle.mesa_list.specs.Pieces.{last_end}
use Rattle.mesa_list.proofs.Pieces.{last_of_front}
use Rattle.mesa_list.proofs.fields.begin_of.Goals as goal

pub returns-else-i-eq0 : goal.returns-else-i-eq0
returns-else-i-eq0 c =
    let before : c.args.i - 1 < length c.args.ends.now = omega arith in
    let next : c.args.i - 1 + 1 ≡ c.args.i = omega arith in
    sym (last_of_front c.args.start c.args.ends.now (c.args.i - 1) 0 before) ∙ ap (λ n. last_end c.args.start (take n c.args.ends.now)) next

use Rattle.std.proofs.Common.{◌≡◌, ◌+◌, ◌-◌, arith, ap, ◌∙◌, take, drop}
use Rattle.std.specs.Int.{w64, from_be_bytes}
use Rattle.mesa_delta_format.proofs.index.rows_at.Goals as goal

pub returns : goal.returns
returns c =
    let eight : c.args.at + 8 - c.args.at ≡ 8 = omega arith in
    let read : c.read_u64.result ≡ from_be_bytes w64 (take (c.args.at + 8 - c.args.at) (drop c.args.at c.args.bytes.now)) = omega (arith, c.read_u64.ensures) in
    read ∙ ap (λ n. from_be_bytes w64 (take n (drop c.args.at c.args.bytes.now))) eight

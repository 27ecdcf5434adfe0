use Rattle.std.proofs.Common.{◌≡◌, refl}
use Rattle.std.specs.Int.{w128, to_be_bytes, cast_unsigned}
use Rattle.std.proofs.lemmas.Int.{to_z-of_z}
use Rattle.mesa_block.proofs.writing.put_value.Goals as goal

pub returns-in_ok-extend_from_slice-in-Eight : goal.returns-in_ok-extend_from_slice-in-Eight
returns-in_ok-extend_from_slice-in-Eight c =
    let bytes : c.to_be_bytes-bytes.result ≡ to_be_bytes w128 (cast_unsigned w128 c.args.amount) = simp (to_z-of_z, c.ranges.amount) at c.to_be_bytes-bytes.ensures in
    rw (c.in-Eight.is, c.in_ok-extend_from_slice-in-Eight.ensures.items, bytes) refl

pub returns-in_ok-extend_from_slice-in-Sixteen : goal.returns-in_ok-extend_from_slice-in-Sixteen
returns-in_ok-extend_from_slice-in-Sixteen c =
    let bytes : c.to_be_bytes-bytes.result ≡ to_be_bytes w128 (cast_unsigned w128 c.args.amount) = simp (to_z-of_z, c.ranges.amount) at c.to_be_bytes-bytes.ensures in
    rw (c.in-Sixteen.is, c.in_ok-extend_from_slice-in-Sixteen.ensures.items, bytes) refl

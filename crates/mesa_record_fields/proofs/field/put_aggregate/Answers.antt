use Rattle.std.proofs.Common.{◌≡◌, refl}
use Rattle.std.specs.Int.{w128, to_be_bytes, cast_unsigned}
use Rattle.std.proofs.lemmas.Int.{to_z-of_z}
use Rattle.mesa_record_fields.specs.Spelling.{wide}
use Rattle.mesa_record_fields.proofs.field.put_aggregate.Goals as goal

pub returns-clause-bytes : goal.returns-clause-bytes
unfolding wide
returns-clause-bytes c =
    let bytes : c.to_be_bytes.result ≡ to_be_bytes w128 (cast_unsigned w128 c.args.amount) = simp (to_z-of_z, c.ranges.amount) at c.to_be_bytes.ensures in
    rw (c.in_ok-extend_from_slice.ensures.items, bytes) refl

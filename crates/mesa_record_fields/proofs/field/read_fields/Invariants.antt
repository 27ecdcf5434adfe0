use Rattle.std.proofs.Common.{◌≡◌, ◌-◌}
use Rattle.mesa_record_fields.specs.Reading.{many, rising, with_front}
use Rattle.mesa_record_fields.proofs.field.read_fields.Given as goal

-- the fields so far and those that are left are all
abbrev pub invariant-loop : goal.invariant-loop
invariant-loop g l = with_front l.fields (rising (λ x. 0) (λ least. g.T.Field.read_at) 1 (l.count - l.counter) l.cursor) ≡ many g.T.Field.read_at l.count l.fn.cursor

use Rattle.std.proofs.Common.{◌≡◌, ◌-◌}
use Rattle.mesa_record_fields.specs.Reading.{many, rising, with_front}
use Rattle.mesa_record.proofs.stated.read_stated.Given as goal

-- the fields so far and those that are left are all
abbrev pub invariant-loop : goal.invariant-loop
invariant-loop g l = with_front l.fields (rising (λ x. 0) (λ least. g.T.Stated.read_at l.edition l.floor) 1 (l.count - l.counter) l.cursor) ≡ many (g.T.Stated.read_at l.edition l.floor) l.count l.fn.cursor

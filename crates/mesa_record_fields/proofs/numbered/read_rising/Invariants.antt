use Rattle.std.proofs.Common.{◌≡◌, ◌-◌}
use Rattle.mesa_record_fields.specs.Reading.{rising, with_front}
use Rattle.mesa_record_fields.proofs.numbered.read_rising.Given as goal

-- the fields so far and those that are left are all
abbrev pub invariant-loop : goal.invariant-loop
invariant-loop g l = with_front l.fields (rising g.T.Numbered.number_of (g.T.Numbered.read_at l.edition) l.least (l.count - l.counter) l.cursor) ≡ rising g.T.Numbered.number_of (g.T.Numbered.read_at l.edition) 0 l.count l.fn.cursor

use Rattle.mesa_parse.proofs.Taking.{by-found}
use Rattle.mesa_parse.proofs.records.next_record.Goals as goal

pub returns : goal.returns
returns c =
    let read = c.in-Ok.ensures.reads c.requires.plain c.requires.ready in
    let both = by-found c.args.reader.now c.read_byte_record.new.self c.in-Ok.found _ c.requires read (c.in-Ok.ensures.ready c.requires.plain) in
    record { next = both.0; between = both.1; fails = tt }

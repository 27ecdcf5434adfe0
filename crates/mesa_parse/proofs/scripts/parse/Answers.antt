use Rattle.std.proofs.Common.{ap, arith, length, refl}
use Rattle.mesa_parse.proofs.RecordsLeft.{length-records_of}
use Rattle.mesa_parse.proofs.scripts.parse.Goals as goal

pub records-init : goal.records-init
records-init c = record {
  between = c.record_reader-reader.ensures.between;
  few = omega (arith, ap length c.record_reader-reader.ensures.all, length-records_of c.deref.result.now, ap length c.deref.ensures.value);
  same = rw (c.record_reader-reader.ensures.all, c.deref.ensures.value, c.new-reading.ensures) refl;
}

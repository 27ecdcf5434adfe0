use Rattle.mesa_store_spec.proofs.AllSourced.{alter_sourced, expire_sourced, expire_table_sourced, publish_sourced, recast_sources, swap_sourced, table_sourced, view_sourced}
use Rattle.mesa_record.specs.declared.record.Record.TheVariants as record_of
use Rattle.mesa_store_spec.proofs.Moving.{kind_of}
use Rattle.mesa_store_spec.proofs.sources.sources_go_on.Goals as goal

pub returns : goal.returns
returns g = record {
  run = λ rows written c number has. record { tables = has.tables; others = has.others };
  table = λ rows written c name keys values is has. table_sourced rows written c is has name keys values;
  view = λ rows written c table name keys values is sound_rows has fit. view_sourced rows written c is has sound_rows table name keys values fit;
  alter = λ rows written c table change is has fit typed. alter_sourced rows written c is has table change fit typed;
  publish = λ rows written c version parts batch is has accepted brings. publish_sourced rows written c is has parts batch accepted version brings;
  swap = λ rows written c table base from to epoch files is has fit made. swap_sourced rows written c is has table base from to epoch files fit made;
  recast = λ rows written c k is has fit told brings. recast_sources rows written c is has k (kind_of c (record_of.Recast k) fit) told brings;
  expire = λ rows written c version has. expire_sourced rows written c has version;
  expire_table = λ rows written c table version has fit. expire_table_sourced rows written c has table version fit;
}

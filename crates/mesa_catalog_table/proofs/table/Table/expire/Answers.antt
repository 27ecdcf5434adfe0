use Rattle.std.proofs.Common.{arith}
use Rattle.mesa_catalog_table.specs.Meaning.{meta_of}
use Rattle.mesa_catalog_table.proofs.table.Table.expire.Goals as goal

pub returns-clause-meta : goal.returns-clause-meta
returns-clause-meta c = λ next. λ i. record (meta_of next c.args.self.now) { oldest = c.max-self.ensures i }

pub returns-clause-table : goal.returns-clause-table
returns-clause-table c = λ next below table. record {
  tens = table.tens;
  loaded = table.loaded;
  oldest = omega (arith, c.max-self.ensures, table.oldest, below);
  widths = table.widths;
}

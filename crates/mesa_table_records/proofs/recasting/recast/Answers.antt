use Rattle.std.proofs.Common.{ap, length, arith}
use Rattle.mesa_catalog_table.specs.Meaning.{start_of_base, tens_from}
use Rattle.mesa_table_records.proofs.Recasted.{loaded_recast, singles_recast, tens_recast}
use Rattle.mesa_table_records.proofs.recasting.recast.Goals as goal

pub returns-clause-meta : goal.returns-clause-meta
returns-clause-meta c = λ next k table fit is.
    let t = c.args.table.now in
    let y = c.args.made in
    let cumulatives = ap (tens_from (start_of_base y.base)) c.clear.ensures.items in
    let singles = singles_recast next t y k table fit is in
    λ i. record {
      name = t.name;
      lineage = is.lineage i;
      totals = is.totals_are i;
      oldest = t.oldest;
      base = is.base i;
      cumulatives = cumulatives i;
      singles = singles i;
    }

pub returns-clause-table : goal.returns-clause-table
returns-clause-table c = λ next k table fit is. record {
  tens = let start = tens_recast next c.args.table.now c.args.made k table fit is in let none = ap length c.clear.ensures.items in omega (arith, start, none);
  loaded = loaded_recast next c.args.table.now c.args.made k table fit is;
  oldest = table.oldest;
  widths = is.widths;
}

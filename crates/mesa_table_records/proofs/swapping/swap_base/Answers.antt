use Rattle.std.proofs.Common.{◌+◌, ◌-◌, ◌≤◌, ◌∙◌, ap, sym, subst, drop, length, arith, Some}
use Rattle.mesa_catalog_table.specs.Meaning.{AreLoaded, singles_from, start_of_base, tens_from}
use Rattle.mesa_catalog_table.proofs.Singles.{loaded_behind, singles_dropped}
use Rattle.mesa_catalog_table.proofs.Works.{starts}
use Rattle.mesa_table_records.proofs.swapping.swap_base.Goals as goal

pub returns-clause-meta : goal.returns-clause-meta
returns-clause-meta c = λ next table swap.
    let t = c.args.table.now in
    let to = c.args.to in
    let behind : start_of_base t.base ≤ to + 1 = let h = swap.0 in omega arith in
    let singles =
    ap (singles_from (to + 1) next) c.drop_through.ensures
    ∙ sym (singles_dropped (start_of_base t.base) to next t.loaded.items behind swap.1 table.loaded)
    ∙ ap (λ start. drop (to + 1 - start) (singles_from (start_of_base t.base) next t.loaded.items)) (sym (starts next t)) in
    let cumulatives = ap (tens_from (to + 1)) c.clear.ensures.items in
    λ i. record {
      name = t.name;
      lineage = t.evolving.value;
      totals = t.totals;
      oldest = t.oldest;
      base = Some (record { to = to; delta = c.args.delta.value });
      cumulatives = cumulatives i;
      singles = singles i;
    }

pub returns-clause-table : goal.returns-clause-table
returns-clause-table c = λ next table swap. record {
  tens = let below = swap.1 in let none = ap length c.clear.ensures.items in omega arith;
  loaded = subst (AreLoaded (c.args.to + 1) next) (sym c.drop_through.ensures) (loaded_behind c.args.to (start_of_base c.args.table.now.base) next c.args.table.now.loaded.items table.loaded);
  oldest = table.oldest;
  widths = table.widths;
}

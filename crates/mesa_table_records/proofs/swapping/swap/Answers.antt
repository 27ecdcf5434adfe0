use Rattle.std.proofs.Common.{◌++◌, ◌∷◌, [], ◌∙◌, ap, sym, subst, length, arith, ℕ}
use Rattle.std.proofs.lemmas.List.{length_push}
use Rattle.mesa_catalog_table.specs.mesa_store_spec.Catalog.{meta_swapped}
use Rattle.mesa_catalog_table.specs.Meaning.{start_of_base, meta_of, tens_from}
use Rattle.mesa_table_records.specs.Readied.{IsSwapOf}
use Rattle.mesa_catalog_table.proofs.Tens.{tens_pushed}
use Rattle.mesa_table_records.proofs.swapping.swap.Goals as goal

pub returns-else-base-clause-meta : goal.returns-else-base-clause-meta
returns-else-base-clause-meta c = λ next table swap.
    let t = c.args.table.now in
    let is = subst (λ b. IsSwapOf next t b c.args.to) c.if-base.false swap in
    let tens =
    ap (tens_from (start_of_base t.base)) c.push_reserved.ensures.items ∙ tens_pushed (start_of_base t.base) t.cumulatives.items c.args.delta
    ∙ ap (λ (to : ℕ). tens_from (start_of_base t.base) t.cumulatives.items ++ record { to = to; delta = c.args.delta.value } ∷ []) (sym is.0) in
    (λ i. record (meta_of next t) { cumulatives = tens i })
    ∙ ap (λ b. meta_swapped (meta_of next t) b c.args.to c.args.delta.value) (sym c.if-base.false)

pub returns-else-base-clause-table : goal.returns-else-base-clause-table
returns-else-base-clause-table c = λ next table swap.
    let t = c.args.table.now in
    let is = subst (λ b. IsSwapOf next t b c.args.to) c.if-base.false swap in
    let count = ap length c.push_reserved.ensures.items ∙ length_push t.cumulatives.items c.args.delta in
    record {
      tens = let end = is.0 in let below = is.1 in omega arith;
      loaded = table.loaded;
      oldest = table.oldest;
      widths = table.widths;
    }

pub returns-then-base-clause-meta : goal.returns-then-base-clause-meta
returns-then-base-clause-meta c = λ next table swap.
    let t = c.args.table.now in
    c.swap_base.ensures.meta next table (subst (λ b. IsSwapOf next t b c.args.to) c.if-base.true swap)
    ∙ ap (λ b. meta_swapped (meta_of next t) b c.args.to c.args.delta.value) (sym c.if-base.true)

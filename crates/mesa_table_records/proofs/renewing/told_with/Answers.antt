use Rattle.std.proofs.Common.{◌≡◌, ◌≤◌, ◌<◌, ◌++◌, ◌∙◌, ap, refl, sym, drop, length, arith, Option, Some, None}
use Rattle.mesa_schema.specs.Recasts.{recast_lineage}
use Rattle.mesa_catalog_table.specs.mesa_record.declared.record.Files.{Files}
use Rattle.mesa_catalog_table.specs.mesa_record.declared.checkpoint.CheckpointSingle.{CheckpointSingle}
use Rattle.mesa_catalog_table.specs.mesa_store_spec.Catalog.{Delta, recast_in}
use Rattle.mesa_catalog_table.specs.mesa_store_spec.Checkpoint.{stating_single, totals_or_none}
use Rattle.mesa_catalog_table.specs.mesa_store_spec.Fitting.{singles_renewed}
use Rattle.mesa_table_records.proofs.Renewed.{none_told, single_asked, told_taken}
use Rattle.mesa_table_records.proofs.renewing.told_with.Goals as goal

pub returns-in_default-clause-renewed : goal.returns-in_default-clause-renewed
returns-in_default-clause-renewed c = λ olds.
    let k = c.args.k.now in
    let d = c.args.delta.now in
    let held : d.files ≡ None = ap (λ (x : Delta). x.files) (sym c.delta.view_is) ∙ c.in_default.is in
    ap (λ (o : Option Files). singles_renewed (recast_lineage c.args.evolving.now (recast_in k)) k.epoch (stating_single c.args.version d.epoch d.totals o ++ olds) (drop c.args.told k.singles)) held

pub returns-then-told-singles-clause-renewed : goal.returns-then-told-singles-clause-renewed
returns-then-told-singles-clause-renewed c = λ olds.
    let k = c.args.k.now in
    let d = c.args.delta.now in
    let m = recast_lineage c.args.evolving.now (recast_in k) in
    let held : d.files ≡ Some c.in-Some.old = ap (λ (x : Delta). x.files) (sym c.delta.view_is) ∙ c.in-Some.is in
    let old : CheckpointSingle = record { version = c.args.version; epoch = d.epoch; files = c.in-Some.old; totals = totals_or_none d.totals } in
    let whole : length k.singles ≤ c.args.told = omega (arith, c.if-told-singles.true, ap length c.as_slice-singles.ensures) in
    ap (λ (o : Option Files). singles_renewed m k.epoch (stating_single c.args.version d.epoch d.totals o ++ olds) (drop c.args.told k.singles)) held ∙ none_told m k.epoch c.args.told olds k.singles old whole

pub returns-then-renews_single-clause-renewed : goal.returns-then-renews_single-clause-renewed
returns-then-renews_single-clause-renewed c = λ olds.
    let k = c.args.k.now in
    let d = c.args.delta.now in
    let l = c.args.evolving.now in
    let m = recast_lineage l (recast_in k) in
    let held : d.files ≡ Some c.in-Some.old = ap (λ (x : Delta). x.files) (sym c.delta.view_is) ∙ c.in-Some.is in
    let old : CheckpointSingle = record { version = c.args.version; epoch = d.epoch; files = c.in-Some.old; totals = totals_or_none d.totals } in
    let new = c.index-singles-told.result in
    let less : c.args.told < length c.as_slice-singles.result.now = omega (arith, c.if-told-singles.false, ap length c.as_slice-singles.ensures, c.requires.told) in
    let fit = single_asked l (recast_in k) k.epoch c.args.sums c.args.version old new c.in-Some.old _ c.requires.sums refl refl (sym c.renews_single.ensures ∙ c.if-renews_single.true) in
    ap (λ (o : Option Files). singles_renewed m k.epoch (stating_single c.args.version d.epoch d.totals o ++ olds) (drop c.args.told k.singles)) held
    ∙ told_taken m k.epoch c.args.told olds k.singles c.as_slice-singles.result.now old new _ c.as_slice-singles.ensures less c.index-singles-told.is fit

pub returns-clause-renewed : goal.returns-clause-renewed
returns-clause-renewed c = λ olds.
    let k = c.args.k.now in
    let d = c.args.delta.now in
    let l = c.args.evolving.now in
    let m = recast_lineage l (recast_in k) in
    let held : d.files ≡ Some c.in-Some.old = ap (λ (x : Delta). x.files) (sym c.delta.view_is) ∙ c.in-Some.is in
    let old : CheckpointSingle = record { version = c.args.version; epoch = d.epoch; files = c.in-Some.old; totals = totals_or_none d.totals } in
    let new = c.index-singles-told.result in
    let less : c.args.told < length c.as_slice-singles.result.now = omega (arith, c.if-told-singles.false, ap length c.as_slice-singles.ensures, c.requires.told) in
    let fit = single_asked l (recast_in k) k.epoch c.args.sums c.args.version old new c.in-Some.old _ c.requires.sums refl refl (sym c.renews_single.ensures ∙ c.if-renews_single.false) in
    ap (λ (o : Option Files). singles_renewed m k.epoch (stating_single c.args.version d.epoch d.totals o ++ olds) (drop c.args.told k.singles)) held
    ∙ told_taken m k.epoch c.args.told olds k.singles c.as_slice-singles.result.now old new _ c.as_slice-singles.ensures less c.index-singles-told.is fit

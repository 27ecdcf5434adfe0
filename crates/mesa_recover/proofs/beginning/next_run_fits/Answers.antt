use Rattle.std.proofs.Common.{◌≡◌, ◌+◌, ◌-◌, ◌<◌, ◌^◌, true, sym, subst}
use Rattle.mesa_store_spec.specs.Fitting.{fits}
use Rattle.mesa_recover.specs.Opening.{run_record}
use Rattle.mesa_recover.proofs.Beginnings.{fits_run}
use Rattle.mesa_recover.proofs.beginning.next_run_fits.Goals as goal

pub returns : goal.returns
returns c =
    let k = c.args.catalog.now.catalogue in
    subst (λ n. fits k (run_record (n + 1)) ≡ true) (sym c.requires.run) (fits_run k (subst (λ n. n < 2 ^ 24 - 1) c.requires.run c.requires.few))

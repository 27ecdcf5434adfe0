use Rattle.std.proofs.Common.{◌∙◌, ap, arith, refl, sym}
use Rattle.mesa_model.specs.Versions.{version_checked}
use Rattle.mesa_validate.proofs.Doing.{ruled_expiry}
use Rattle.mesa_validate.proofs.versions.expire.Goals as goal

pub returns-clause-ruled : goal.returns-clause-ruled
returns-clause-ruled c =
    let checked = c.in_ok-check_version.ensures in
    ruled_expiry c.args.catalog.now.catalogue c.args.version _ (omega (arith, checked.low, c.floor.ensures)) checked.high (λ w has. ap (λ o. version_checked w o c.args.version) (has.floor ∙ sym c.floor.ensures) ∙ sym (checked.checked w has)) refl refl

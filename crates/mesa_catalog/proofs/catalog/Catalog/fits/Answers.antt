use Rattle.std.proofs.Common.{◌∙◌, sym}
use Rattle.mesa_catalog_records.proofs.Applies.{fits_both, fits_not}
use Rattle.mesa_catalog.proofs.catalog.Catalog.fits.Goals as goal

pub returns-then-allows : goal.returns-then-allows
returns-then-allows c = fits_both c.args.self.now.catalogue c.args.r.now c.brings_new_files.result (sym c.if-allows.true ∙ c.allows.ensures) c.brings_new_files.ensures

pub returns-else-allows : goal.returns-else-allows
returns-else-allows c = c.if-allows.false ∙ fits_not c.args.self.now.catalogue c.args.r.now (sym c.if-allows.false ∙ c.allows.ensures)

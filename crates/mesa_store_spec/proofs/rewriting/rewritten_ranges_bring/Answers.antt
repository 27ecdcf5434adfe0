use Rattle.mesa_store_spec.proofs.CatalogRewriting.{catalog_brings, catalog_fits, catalog_told}
use Rattle.mesa_store_spec.proofs.rewriting.rewritten_ranges_bring.Goals as goal

pub returns : goal.returns
returns g = record {
  brings = λ rows written c table r made is has lt all covers. catalog_brings rows written c table r made is has lt all covers;
  told = λ rows written c table r made is has lt all covers. catalog_told rows written c table r made is has lt all covers;
  fits = λ area bodies c table r made bytes e lt checked counted covers. catalog_fits area bodies c table r made bytes e lt checked counted covers;
}

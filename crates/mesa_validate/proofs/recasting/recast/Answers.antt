use Rattle.std.proofs.Common.{◌≡◌, ◌∙◌, ℕ, Option, Some, ap, ok_or, sym, subst}
use Rattle.std.proofs.lemmas.Result.{err_from_is_err_and}
use Rattle.mesa_list.specs.Checks.{◌>>=◌, refused_as}
use Rattle.mesa_schema.specs.Changes.{Lineage}
use Rattle.mesa_schema.specs.Recasts.{recast_checked}
use Rattle.mesa_model.specs.Refusals.{no_such_table, recast_refusal}
use Rattle.mesa_model.specs.Tables.{recast_asked}
use Rattle.mesa_catalog.specs.mesa_store_spec.Catalog.{meta_at}
use Rattle.mesa_binding.specs.Told.{IsDue}
use Rattle.mesa_validate.specs.Seen.{number_of}
use Rattle.mesa_validate.proofs.recasting.recast.Goals as goal

pub returns-in_err-names-clause-refused : goal.returns-in_err-names-clause-refused
returns-in_err-names-clause-refused c =
    let p = err_from_is_err_and c.from_residual.result c.from_residual.ensures.1 in
    let cat = c.args.catalog.now.catalogue in
    let words = c.args.words.now in
    let failure = c.in_err-names.field-0.0 in
    let found : number_of cat words.table ≡ Some c.in-Some.table = ap (number_of cat) (sym c.as_slice.ensures) ∙ sym c.table_number.ensures.found ∙ c.in-Some.is in
    let due = subst (λ (l : Lineage). IsDue (refused_as recast_refusal (recast_checked l (recast_asked words))) failure) (c.deref.ensures ∙ c.evolving.ensures) c.in_err-names.ensures.refused in
    rw (p.1, p.2) (subst (λ (o : Option ℕ). IsDue (ok_or o no_such_table >>= (λ table. refused_as recast_refusal (recast_checked (meta_at cat table).lineage (recast_asked words)))) failure) (sym found) due)

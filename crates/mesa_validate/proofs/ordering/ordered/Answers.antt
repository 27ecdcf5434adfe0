use Rattle.std.proofs.Common.{◌≡◌, ◌∙◌, ◌<◌, Some, ap, length, sym, subst}
use Rattle.std.specs.Prelude.{IfSome, IsTrue, slice_get}
use Rattle.mesa_schema.specs.Changes.{Lineage, columns_of}
use Rattle.mesa_model.specs.Orders.{choice, is_candidate}
use Rattle.mesa_catalog.specs.mesa_store_spec.Catalog.{meta_at}
use Rattle.mesa_validate.specs.Found.{without_rows}
use Rattle.mesa_validate.specs.Ordered.{as_read}
use Rattle.mesa_validate.proofs.ReadBy.{read_asked, read_chosen}
use Rattle.mesa_validate.proofs.ordering.ordered.Goals as goal

pub through-requires-clause-candidate : goal.through-requires-clause-candidate
through-requires-clause-candidate c =
    let same = c.deref.ensures ∙ sym c.deref-in-Some.ensures in
    subst (λ (l : Lineage). IfSome (slice_get l.views c.in-Some.view) (λ v. IsTrue (is_candidate (columns_of l) c.args.found.query.asked.values v))) same c.in-Some.ensures.candidate

pub returns-in_ok-query-in-Some-clause-read : goal.returns-in_ok-query-in-Some-clause-read
returns-in_ok-query-in-Some-clause-read c =
    let f = c.args.found in
    let number = c.in-Some.view in
    let same = c.deref.ensures ∙ sym c.deref-in-Some.ensures in
    let within = subst (λ (l : Lineage). number < length l.views) same c.in-Some.ensures.there in
    let chosen = subst (λ (l : Lineage). Some number ≡ choice (columns_of l) l.views f.query.asked.values f.query.asked.terms) same c.in-Some.ensures.choice in
    read_chosen c.deref-in-Some.result.now number c.in_ok-query-in-Some.query within f (sym c.is_some.ensures ∙ c.if-is_some.false) chosen c.in_ok-query-in-Some.ensures.query
    ∙ ap (λ (l : Lineage). as_read l f) (c.deref-in-Some.ensures ∙ c.evolving-evolving.ensures)

pub returns-in_ok-query-in-Some-clause-sound : goal.returns-in_ok-query-in-Some-clause-sound
returns-in_ok-query-in-Some-clause-sound c =
    let f = c.args.found in
    let number = c.in-Some.view in
    let same = c.deref.ensures ∙ sym c.deref-in-Some.ensures in
    let within = subst (λ (l : Lineage). number < length l.views) same c.in-Some.ensures.there in
    read_asked c.deref-in-Some.result.now number c.in_ok-query-in-Some.query within (without_rows (meta_at c.args.catalog.now.catalogue f.relation.table)) f.relation.table (sym (c.deref-in-Some.ensures ∙ c.evolving-evolving.ensures)) c.in_ok-query-in-Some.ensures.of_view

use Rattle.std.proofs.Common.{◌∙◌, sym, arith, []}
use Rattle.std.proofs.lemmas.Iterator.Adapters.{position_from-zero}
use Rattle.std.proofs.lemmas.List.{length-map}
use Rattle.std.proofs.lemmas.Option.{get_or_from_slice_get, slice_get_within}
use Rattle.mesa_list.specs.Bytes.{same_bytes}
use Rattle.mesa_store_spec.specs.mesa_columns.declared.views.View.{View}
use Rattle.mesa_catalog_table.specs.Lookups.{view_names}
use Rattle.mesa_catalog_table.proofs.Places.{place_here, place_later, place_nowhere}
use Rattle.mesa_catalog_table.proofs.finding.view_place.Goals as goal

pub loop-view-init : goal.loop-view-init
loop-view-init c = sym (position_from-zero (same_bytes c.args.name.now) (view_names c.args.evolving.now))

pub returns-then-eq : goal.returns-then-eq
returns-then-eq c =
    let names = view_names c.args.evolving.now in
    let given = sym c.bytes.ensures.same in
    let here = get_or_from_slice_get names c.loop-view.view c.view_name.result.now [] c.view_name.ensures ∙ sym c.bytes-in-loop-view.ensures.same in
    let test = (λ k. same_bytes (given k) (here k)) ∙ sym c.eq.ensures ∙ c.if-eq.true in
    sym (place_here (same_bytes c.args.name.now) names c.loop-view.view [] (slice_get_within names c.loop-view.view _ c.view_name.ensures) test) ∙ c.loop-view.invariant

pub loop-view-preserved : goal.loop-view-preserved
loop-view-preserved c =
    let names = view_names c.args.evolving.now in
    let given = sym c.bytes.ensures.same in
    let here = get_or_from_slice_get names c.loop-view.view c.view_name.result.now [] c.view_name.ensures ∙ sym c.bytes-in-loop-view.ensures.same in
    let test = (λ k. same_bytes (given k) (here k)) ∙ sym c.eq.ensures ∙ c.if-eq.false in
    sym (place_later (same_bytes c.args.name.now) names c.loop-view.view [] (slice_get_within names c.loop-view.view _ c.view_name.ensures) test) ∙ c.loop-view.invariant

pub returns : goal.returns
returns c =
    let names = view_names c.args.evolving.now in
    let count = length-map c.args.evolving.now.views (λ (v : View). v.name) in
    sym (place_nowhere (same_bytes c.args.name.now) names c.loop-view.view (omega arith)) ∙ c.loop-view.invariant

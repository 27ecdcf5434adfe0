use Rattle.std.proofs.Common.{◌≡◌, ◌<◌, ◌∙◌, ap, subst, sym, true, false, None, Some, Ok, length, arith, rules}
use Rattle.std.specs.Prelude.{is_some}
use Rattle.std.proofs.lemmas.Result.{err_from_is_err_and}
use Rattle.mesa_catalog.specs.mesa_columns.declared.views.View.{View}
use Rattle.mesa_schema.specs.Changes.{Lineage, columns_of}
use Rattle.mesa_catalog.specs.mesa_columns.Names.{is_name}
use Rattle.mesa_catalog.specs.mesa_columns.Schema.{is_schema}
use Rattle.mesa_schema.specs.Views.{max_views}
use Rattle.mesa_schema.proofs.LineageRules.{present_schema}
use Rattle.mesa_record.specs.declared.record.Record.TheVariants as record_of
use Rattle.mesa_model.specs.declared.replies.Reply.TheVariants as reply
use Rattle.mesa_catalog.specs.mesa_catalog_records.Names.{relation_of}
use Rattle.mesa_catalog.specs.mesa_store_spec.Catalog.{meta_at}
use Rattle.mesa_binding.specs.Asked.{more_views_checked}
use Rattle.mesa_binding.specs.Told.{IsDue}
use Rattle.mesa_validate.specs.Seen.{number_of}
use Rattle.mesa_validate.proofs.Doing.{bad_view, nowhere_view, ruled_view, taken_view}
use Rattle.mesa_validate.proofs.schemas.view.Goals as goal

pub returns-then-is_some-clause-refused : goal.returns-then-is_some-clause-refused
returns-then-is_some-clause-refused c =
    let words = c.args.words.now in
    let cat = c.args.catalog.now.catalogue in
    let named = ap is_name (sym c.as_slice.ensures) ∙ c.in_ok-name.ensures.named in
    let name = c.in_ok-name.ensures.read ∙ c.as_slice.ensures in
    let there : c.is_some.result ≡ true = search rules in
    let taken : is_some (relation_of cat words.view) ≡ true = ap (λ n. is_some (relation_of cat n)) (sym name) ∙ sym (c.is_some.ensures ∙ ap is_some c.find.ensures) ∙ there in
    taken_view cat words named taken

pub returns-in_default-clause-refused : goal.returns-in_default-clause-refused
returns-in_default-clause-refused c =
    let words = c.args.words.now in
    let cat = c.args.catalog.now.catalogue in
    let named = ap is_name (sym c.as_slice.ensures) ∙ c.in_ok-name.ensures.named in
    let name = c.in_ok-name.ensures.read ∙ c.as_slice.ensures in
    let there : c.is_some.result ≡ false = search rules in
    let free : is_some (relation_of cat words.view) ≡ false = ap (λ n. is_some (relation_of cat n)) (sym name) ∙ sym (c.is_some.ensures ∙ ap is_some c.find.ensures) ∙ there in
    let none : number_of cat words.table ≡ None = ap (number_of cat) (sym c.as_slice-2.ensures) ∙ sym c.table_number.ensures.found ∙ c.in_default.is in
    nowhere_view cat words named free none

pub returns-in_err-chosen-clause-refused : goal.returns-in_err-chosen-clause-refused
returns-in_err-chosen-clause-refused c =
    let p = err_from_is_err_and c.from_residual-in_err-chosen.result c.from_residual-in_err-chosen.ensures.1 in
    let words = c.args.words.now in
    let cat = c.args.catalog.now.catalogue in
    let table = c.in-Some.table in
    let failure = c.in_err-chosen.field-0.0 in
    let named = ap is_name (sym c.as_slice.ensures) ∙ c.in_ok-name.ensures.named in
    let name = c.in_ok-name.ensures.read ∙ c.as_slice.ensures in
    let there : c.is_some.result ≡ false = search rules in
    let free : is_some (relation_of cat words.view) ≡ false = ap (λ n. is_some (relation_of cat n)) (sym name) ∙ sym (c.is_some.ensures ∙ ap is_some c.find.ensures) ∙ there in
    let found : number_of cat words.table ≡ Some table = ap (number_of cat) (sym c.as_slice-2.ensures) ∙ sym c.table_number.ensures.found ∙ c.in-Some.is in
    let lineage = c.deref-2.ensures ∙ c.evolving-evolving.ensures in
    let due = subst (λ (l : Lineage). IsDue (more_views_checked l words) failure) lineage c.in_err-chosen.ensures.refused in
    rw (p.1, p.2) (bad_view cat words named free table found failure due)

pub returns-clause-ruled : goal.returns-clause-ruled
returns-clause-ruled c =
    let words = c.args.words.now in
    let cat = c.args.catalog.now.catalogue in
    let table = c.in-Some.table in
    let named = ap is_name (sym c.as_slice.ensures) ∙ c.in_ok-name.ensures.named in
    let name = c.in_ok-name.ensures.read ∙ c.as_slice.ensures in
    let there : c.is_some.result ≡ false = search rules in
    let free : is_some (relation_of cat words.view) ≡ false = ap (λ n. is_some (relation_of cat n)) (sym name) ∙ sym (c.is_some.ensures ∙ ap is_some c.find.ensures) ∙ there in
    let found : number_of cat words.table ≡ Some table = ap (number_of cat) (sym c.as_slice-2.ensures) ∙ sym c.table_number.ensures.found ∙ c.in-Some.is in
    let shown = c.deref.ensures ∙ c.evolving-evolving.ensures in
    let lineage = c.deref-2.ensures ∙ c.evolving-evolving.ensures in
    let schema : is_schema (columns_of (meta_at cat table).lineage) ≡ true = subst (λ (l : Lineage). is_schema (columns_of l) ≡ true) shown (present_schema c.deref.result.now c.present.ensures.rules) in
    let checked = subst (λ (l : Lineage). more_views_checked l words ≡ Ok tt) lineage c.in_ok-chosen.ensures.checked in
    let room : length (meta_at cat table).lineage.views < max_views = omega (arith, c.in_ok-chosen.ensures.room, ap (λ (l : Lineage). length l.views) lineage) in
    let made = c.in_ok-chosen.ensures.asked in
    ruled_view cat words named free table found _ c.in-Some.ensures.there schema checked room
    (ap (λ (v : View). record_of.View table v.name v.keys v.values) made ∙ ap (λ n. record_of.View table n words.keys words.values) name) (ap reply.View (c.in_ok-made.ensures ∙ name))

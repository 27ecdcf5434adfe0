use Rattle.std.proofs.Common.{◌≡◌, ◌∙◌, ◌+◌, ap, subst, sym, Some, Ok, refl}
use Rattle.std.proofs.lemmas.Result.{err_from_is_err_and}
use Rattle.mesa_list.specs.Checks.{refused_as}
use Rattle.mesa_schema.specs.Changes.{Lineage, change_checked, columns_of, epoch_of}
use Rattle.mesa_model.specs.declared.replies.Reply.TheVariants as reply
use Rattle.mesa_model.specs.Refusals.{change_refusal}
use Rattle.mesa_model.specs.Tables.{change_asked, changed_name}
use Rattle.mesa_catalog.specs.mesa_store_spec.Catalog.{meta_at}
use Rattle.mesa_binding.specs.Asked.{change_allowed}
use Rattle.mesa_binding.specs.Told.{IsDue}
use Rattle.mesa_validate.specs.Seen.{number_of}
use Rattle.mesa_validate.proofs.Doing.{change_due, nowhere_change, refused_change, ruled_change, meta_named}
use Rattle.mesa_validate.proofs.schemas.alter.Goals as goal

pub returns-in_default-clause-refused : goal.returns-in_default-clause-refused
returns-in_default-clause-refused c =
    let words = c.args.words.now in
    let cat = c.args.catalog.now.catalogue in
    nowhere_change cat words (ap (number_of cat) (sym c.as_slice.ensures) ∙ sym c.table_number.ensures.found ∙ c.in_default.is)

pub returns-in_err-change-clause-refused : goal.returns-in_err-change-clause-refused
returns-in_err-change-clause-refused c =
    let p = err_from_is_err_and c.from_residual-in_err-change.result c.from_residual-in_err-change.ensures.1 in
    let words = c.args.words.now in
    let cat = c.args.catalog.now.catalogue in
    let table = c.in-Some.table in
    let failure = c.in_err-change.field-0.0 in
    let found : number_of cat words.table ≡ Some table = ap (number_of cat) (sym c.as_slice.ensures) ∙ sym c.table_number.ensures.found ∙ c.in-Some.is in
    let lineage = c.deref.ensures ∙ c.evolving-evolving.ensures in
    let due = subst (λ (l : Lineage). IsDue (change_allowed l words.change) failure) lineage c.in_err-change.ensures.refused in
    rw (p.1, p.2) (refused_change cat words table found failure due)

pub returns-in_err-check_change-clause-refused : goal.returns-in_err-check_change-clause-refused
returns-in_err-check_change-clause-refused c =
    let p = err_from_is_err_and c.from_residual-in_err-check_change.result c.from_residual-in_err-check_change.ensures.1 in
    let words = c.args.words.now in
    let cat = c.args.catalog.now.catalogue in
    let table = c.in-Some.table in
    let change = c.in_ok-change.change in
    let failure = c.in_err-check_change.field-0.0 in
    let l = (meta_at cat table).lineage in
    let found : number_of cat words.table ≡ Some table = ap (number_of cat) (sym c.as_slice.ensures) ∙ sym c.table_number.ensures.found ∙ c.in-Some.is in
    let asked : change_asked (columns_of l) words.change ≡ Ok change = ap (λ (k : Lineage). change_asked (columns_of k) words.change) (sym (c.deref.ensures ∙ c.evolving-evolving.ensures)) ∙ c.in_ok-change.ensures.asked in
    let due = subst (λ (k : Lineage). IsDue (refused_as (change_refusal (changed_name change)) (change_checked k change)) failure) (c.deref-2.ensures ∙ c.evolving-evolving.ensures) c.in_err-check_change.ensures.refused in
    rw (p.1, p.2) (refused_change cat words table found failure (change_due l words.change change failure asked due))

pub returns-clause-told : goal.returns-clause-told
returns-clause-told c =
    let words = c.args.words.now in
    let cat = c.args.catalog.now.catalogue in
    let table = c.in-Some.table in
    let found : number_of cat words.table ≡ Some table = ap (number_of cat) (sym c.as_slice.ensures) ∙ sym c.table_number.ensures.found ∙ c.in-Some.is in
    let name = c.in_ok-name.ensures ∙ c.name.ensures ∙ meta_named cat words.table table found in
    let epoch : c.epoch-epoch.result + 1 ≡ epoch_of (meta_at cat table).lineage + 1 = ap (λ e. e + 1) (c.epoch-epoch.ensures.count ∙ ap epoch_of (c.deref-3.ensures ∙ c.evolving-evolving.ensures)) in
    (table, found, λ j. reply.Altered (name j) (epoch j))

pub returns-clause-ruled : goal.returns-clause-ruled
returns-clause-ruled c =
    let words = c.args.words.now in
    let cat = c.args.catalog.now.catalogue in
    let table = c.in-Some.table in
    let change = c.in_ok-change.change in
    let l = (meta_at cat table).lineage in
    let found : number_of cat words.table ≡ Some table = ap (number_of cat) (sym c.as_slice.ensures) ∙ sym c.table_number.ensures.found ∙ c.in-Some.is in
    let asked : change_asked (columns_of l) words.change ≡ Ok change = ap (λ (k : Lineage). change_asked (columns_of k) words.change) (sym (c.deref.ensures ∙ c.evolving-evolving.ensures)) ∙ c.in_ok-change.ensures.asked in
    let checked : change_checked l change ≡ Ok tt = ap (λ (k : Lineage). change_checked k change) (sym (c.deref-2.ensures ∙ c.evolving-evolving.ensures)) ∙ c.in_ok-check_change.ensures.passes in
    let name = c.in_ok-name.ensures ∙ c.name.ensures ∙ meta_named cat words.table table found in
    let epoch : c.epoch-epoch.result + 1 ≡ epoch_of l + 1 = ap (λ e. e + 1) (c.epoch-epoch.ensures.count ∙ ap epoch_of (c.deref-3.ensures ∙ c.evolving-evolving.ensures)) in
    ruled_change cat words table found _ change c.in-Some.ensures.there asked checked refl (λ j. reply.Altered (name j) (epoch j))

use Rattle.std.proofs.Common.{◌≡◌, true, sym, subst}
use Rattle.std.proofs.lemmas.Result.{err_from_is_err_and}
use Rattle.mesa_read_turns.proofs.Opens.{has_no_asked, has_no_files, met_damage, not_unread, rules_undamaged}
use Rattle.mesa_open_files.proofs.Counts.{counted_none}
use Rattle.mesa_pick_files.proofs.There.{name_there, view_within}
use Rattle.mesa_read_turns.proofs.query_files.files_asked.Goals as goal
use Rattle.mesa_engine.specs.mesa_store_spec.Catalog.{meta_at}
use Rattle.mesa_engine.specs.EngineState.{books_of}
use Rattle.mesa_validate.specs.Found.{answer_found}
use Rattle.mesa_open_files.specs.Opening.{Counted}
use Rattle.mesa_engine.specs.mesa_history_spec.Rows.{no_rows}
use Rattle.mesa_engine.specs.mesa_invariant_spec.Causes.{Cause, outcome_of}
use Rattle.mesa_engine.specs.mesa_invariant_spec.Queries.{HasNoAnswer}
use Rattle.mesa_engine.specs.mesa_invariant_spec.Undamaged.{is_damaged}

pub returns-in_err-catalog-clause-refused : goal.returns-in_err-catalog-clause-refused
returns-in_err-catalog-clause-refused g c =
    let p = err_from_is_err_and c.from_residual.result c.from_residual.ensures.1 in
    rw (p.1, p.2) (has_no_asked c.args.metadata.now.state c.args.session c.args.words.now c.in_err-catalog.field-0.0 c.in_err-catalog.ensures.refused c.in_err-catalog.ensures.opened)

pub open_found-requires-clause-shaped : goal.open_found-requires-clause-shaped
open_found-requires-clause-shaped g c κs within = c.requires c.in_ok-catalog.field-0.catalog.now.catalogue c.in_ok-catalog.ensures.catalogue

pub open_found-requires-clause-there : goal.open_found-requires-clause-there
open_found-requires-clause-there g c κs within =
    (name_there c.in_ok-catalog.field-0.catalog.now.catalogue c.args.words.now.relation c.in_ok-catalog.field-0.found.relation c.in_ok-catalog.ensures.relation).0

pub open_found-requires-clause-view : goal.open_found-requires-clause-view
open_found-requires-clause-view g c κs within =
    let k = c.in_ok-catalog.field-0.catalog.now.catalogue in
    let f = c.in_ok-catalog.field-0.found in
    view_within (meta_at k f.relation.table).lineage f.relation.view (name_there k c.args.words.now.relation f.relation c.in_ok-catalog.ensures.relation).1

pub returns-in-Ok-clause-files : goal.returns-in-Ok-clause-files
returns-in-Ok-clause-files g c = record {
  catalogue = c.in_ok-catalog.field-0.catalog.now.catalogue;
  asked = c.in_ok-catalog.ensures.catalogue;
  found = c.in_ok-catalog.field-0.found;
  sees = c.in_ok-catalog.ensures.sees no_rows;
  relation = c.in_ok-catalog.ensures.relation;
  version = c.in_ok-catalog.ensures.version;
  answered = c.in_ok-catalog.ensures.answered;
  query = c.in_ok-catalog.ensures.sound;
  within = c.open_found.ensures.within;
  kinds = c.open_found.ensures.kinds;
  files = c.in-Ok.ensures.files;
}

pub returns-in-Err-clause-refused : goal.returns-in-Err-clause-refused
returns-in-Err-clause-refused g c =
    let l = c.args.metadata.now.state in
    let words = c.args.words.now in
    let s = c.args.session in
    let sees = c.in_ok-catalog.ensures.sees no_rows in
    let f = c.in_ok-catalog.field-0.found in
    subst (HasNoAnswer (books_of no_rows l) s words) (sym c.failed.ensures)
    (has_no_files l s words _ c.opening_told.ensures sees.opened (answer_found sees.store f) (c.in_ok-catalog.ensures.answered (books_of no_rows l).bare s sees))

pub returns-in_err-catalog-clause-counted : goal.returns-in_err-catalog-clause-counted
returns-in_err-catalog-clause-counted g c =
    let p = err_from_is_err_and c.from_residual.result c.from_residual.ensures.1 in
    let s = g.D.Disk.story c.args.disk.now in
    rw (p.1, p.2) (subst (Counted s s) (sym (not_unread c.in_err-catalog.field-0.0)) (counted_none s))

pub returns-in_err-catalog-clause-unsound : goal.returns-in_err-catalog-clause-unsound
returns-in_err-catalog-clause-unsound g c =
    let p = err_from_is_err_and c.from_residual.result c.from_residual.ensures.1 in
    rw (p.1, p.2) (λ is. absurd (rules_undamaged c.in_err-catalog.field-0.0 is))

pub returns-in-Err-clause-unsound : goal.returns-in-Err-clause-unsound
returns-in-Err-clause-unsound g c is =
    let met = met_damage c.in-Err.error (subst (λ (x : Cause). is_damaged (outcome_of x) ≡ true) c.failed.ensures is) in
    record {
      opened = (c.in_ok-catalog.ensures.sees no_rows).opened;
      catalogue = c.in_ok-catalog.field-0.catalog.now.catalogue;
      asked = c.in_ok-catalog.ensures.catalogue;
      found = c.in_ok-catalog.field-0.found;
      relation = c.in_ok-catalog.ensures.relation;
      unsound = c.in-Err.ensures.unsound met.0 met.1;
    }

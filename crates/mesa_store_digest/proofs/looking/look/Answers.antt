use Rattle.std.proofs.Common.{◌≡◌, ◌<◌, ap, ◌∙◌, sym, subst, arith, inr, length, Err, List}
use Rattle.std.specs.Prelude.{IfErr, IfOk, IfSome, is_some}
use Rattle.std.proofs.lemmas.Result.{err_from_is_err_and}
use Rattle.mesa_delta.specs.declared.error.FileError.TheVariants as file_error
use Rattle.mesa_recover.specs.mesa_io.Causes.{Rose}
use Rattle.mesa_open_files.specs.mesa_file.declared.damage.Damage.{Damage}
use Rattle.mesa_store_spec.specs.Catalog.{meta_at}
use Rattle.mesa_store_digest.proofs.Content.{err_is, given_quiet, given_rose, looked_is}
use Rattle.mesa_store_digest.proofs.Newest.{columns_named, file_reason, none_named}
use Rattle.mesa_store_digest.proofs.looking.look.Goals as goal
use Rattle.mesa_store_digest.specs.Latest.{CanBeLookedAt, HasLookReason, IsLatest, all_asked}
use Rattle.mesa_store_digest.specs.Errors.{look_failure}
use Rattle.mesa_store_digest.specs.Looked.{AreDigests}
use Rattle.mesa_pick_files.specs.mesa_merge.Faults.{HaveFaultCause, faults_of}
use Rattle.mesa_pick_files.specs.mesa_model.Relations.{relation_columns}
use Rattle.mesa_pick_files.specs.Told.{TellContent}
use Rattle.mesa_recover.specs.declared.opened.Opened.{Opened}
use Rattle.mesa_validate.specs.Found.{columns_at}
use Rattle.mesa_pick_files.specs.mesa_columns.Columns.{Columns}
use Rattle.mesa_pick_files.specs.mesa_columns.declared.rows.Row.{Row}
use Rattle.mesa_open_files.specs.Errors.{Differs}
use Rattle.mesa_open_files.specs.GivingBack.{pinned_inputs}
use Rattle.mesa_open_files.specs.Pins.{IsPinned}

pub returns-in_default-clause-reason : goal.returns-in_default-clause-reason
returns-in_default-clause-reason g c = none_named c.args.opened.now.catalog.catalogue c.args.name.now (sym c.in_default.ensures.found)

pub pin_place-requires-clause-named : goal.pin_place-requires-clause-named
pin_place-requires-clause-named g c κs within = (c.args.name.now, sym c.in-Some.ensures.found)

pub returns-in_err-pinned-clause-reason : goal.returns-in_err-pinned-clause-reason
returns-in_err-pinned-clause-reason g c =
    let p = err_from_is_err_and c.from_residual.result c.from_residual.ensures.1 in
    rw (p.1, p.2) (c.in_err-pinned.ensures.reason c.args.name.now (sym c.in-Some.ensures.found))

pub returns-in_err-pinned-clause-quiet : goal.returns-in_err-pinned-clause-quiet
returns-in_err-pinned-clause-quiet g c = λ other.
    let p = err_from_is_err_and c.from_residual.result c.from_residual.ensures.1 in
    c.in_err-pinned.ensures.quiet (λ is. other (p.1 ∙ ap Err (p.2 ∙ err_is _ _ is)))

pub digests_of-looked-requires-clause-table : goal.digests_of-looked-requires-clause-table
digests_of-looked-requires-clause-table g c κs within =
    subst (λ (o : Opened _). c.in-Some.place.table < length o.catalog.catalogue.tables) (sym c.in_ok-pinned.ensures.same) c.in-Some.ensures.table

pub digests_of-looked-requires-clause-view : goal.digests_of-looked-requires-clause-view
digests_of-looked-requires-clause-view g c κs within =
    subst (λ (o : Opened _). IfSome c.in-Some.place.view (λ view. view < length (meta_at o.catalog.catalogue c.in-Some.place.table).lineage.views)) (sym c.in_ok-pinned.ensures.same) c.in-Some.ensures.view

pub digests_of-looked-requires-clause-pinned : goal.digests_of-looked-requires-clause-pinned
digests_of-looked-requires-clause-pinned g c κs within =
    let k = c.args.opened.now.catalog.catalogue in
    let name = c.args.name.now in
    let place = c.in-Some.place in
    let p = c.in_ok-pinned.pinned in
    let bytes = g.D.Reader.FileReader.bytes in
    let latest : IsLatest bytes (g.D.Disk.story c.args.opened.now.disk) k name p = c.in_ok-pinned.ensures.latest name (sym c.in-Some.ensures.found) in
    let same = columns_named k name place latest.relation (sym c.in-Some.ensures.found) latest.named in
    subst (λ (o : Opened _). IsPinned bytes (columns_at o.catalog.catalogue place) p) (sym c.in_ok-pinned.ensures.same) (subst (λ (t : Columns). IsPinned bytes t p) same latest.pinned)

pub digests_of-looked-requires-clause-asked : goal.digests_of-looked-requires-clause-asked
digests_of-looked-requires-clause-asked g c κs within =
    let k = c.args.opened.now.catalog.catalogue in
    let name = c.args.name.now in
    let place = c.in-Some.place in
    let p = c.in_ok-pinned.pinned in
    let latest : IsLatest g.D.Reader.FileReader.bytes (g.D.Disk.story c.args.opened.now.disk) k name p = c.in_ok-pinned.ensures.latest name (sym c.in-Some.ensures.found) in
    let same = columns_named k name place latest.relation (sym c.in-Some.ensures.found) latest.named in
    latest.asked ∙ ap all_asked same ∙ ap (λ (o : Opened _). all_asked (columns_at o.catalog.catalogue place)) (sym c.in_ok-pinned.ensures.same)

pub returns-in-Ok-clause-looked : goal.returns-in-Ok-clause-looked
returns-in-Ok-clause-looked g c =
    let k = c.args.opened.now.catalog.catalogue in
    let name = c.args.name.now in
    let place = c.in-Some.place in
    let p = c.in_ok-pinned.pinned in
    let bytes = g.D.Reader.FileReader.bytes in
    let old = g.D.Disk.story c.args.opened.now.disk in
    let latest : IsLatest bytes old k name p = c.in_ok-pinned.ensures.latest name (sym c.in-Some.ensures.found) in
    let same = columns_named k name place latest.relation (sym c.in-Some.ensures.found) latest.named in
    let of = subst (λ (o : Opened _). IfOk c.digests_of-looked.result (AreDigests bytes (columns_at o.catalog.catalogue place) p)) c.in_ok-pinned.ensures.same c.digests_of-looked.ensures.digests in
    looked_is bytes old k name p (columns_at k place) c.in-Ok.pair c.digests_of-looked.new.pinned.version latest same c.digests_of-looked.ensures.version
    (subst (λ x. IfOk x (AreDigests bytes (columns_at k place) p)) c.in-Ok.is of)

pub returns-in-Ok-clause-quiet : goal.returns-in-Ok-clause-quiet
returns-in-Ok-clause-quiet g c = λ other.
    let faults = g.D.Reader.FileReader.faults in
    let was = pinned_inputs c.in_ok-pinned.pinned in
    let is = pinned_inputs c.digests_of-looked.new.pinned in
    let mid = g.D.Disk.story c.pin_place.new.opened.disk in
    let new = g.D.Disk.story c.retire_pinned.new.disk in
    let cause = subst (HaveFaultCause (λ e. e ≡ file_error.Read) (faults_of faults was) (faults_of faults is)) c.in-Ok.is c.digests_of-looked.ensures.cause in
    let back = given_quiet faults was is mid new c.in_ok-pinned.ensures.fresh cause.quiet c.retire_pinned.ensures.given in
    let before = c.in_ok-pinned.ensures.quiet (λ is. cc) in
    (back.0 ∙ before.0, back.1 ∙ before.1)

pub returns-in-Err-clause-quiet : goal.returns-in-Err-clause-quiet
returns-in-Err-clause-quiet g c = λ other.
    let faults = g.D.Reader.FileReader.faults in
    let was = pinned_inputs c.in_ok-pinned.pinned in
    let is = pinned_inputs c.digests_of-looked.new.pinned in
    let mid = g.D.Disk.story c.pin_place.new.opened.disk in
    let new = g.D.Disk.story c.retire_pinned.new.disk in
    let cause = subst (HaveFaultCause (λ e. e ≡ file_error.Read) (faults_of faults was) (faults_of faults is)) c.in-Err.is c.digests_of-looked.ensures.cause in
    let stay = cause.other (λ read. other (ap Err (c.from.ensures ∙ ap look_failure read))) in
    let back = given_quiet faults was is mid new c.in_ok-pinned.ensures.fresh stay c.retire_pinned.ensures.given in
    let before = c.in_ok-pinned.ensures.quiet (λ is. cc) in
    (back.0 ∙ before.0, back.1 ∙ before.1)

pub returns-in-Err-clause-reason : goal.returns-in-Err-clause-reason
returns-in-Err-clause-reason g c =
    let k = c.args.opened.now.catalog.catalogue in
    let name = c.args.name.now in
    let place = c.in-Some.place in
    let p = c.in_ok-pinned.pinned in
    let bytes = g.D.Reader.FileReader.bytes in
    let faults = g.D.Reader.FileReader.faults in
    let was = pinned_inputs p in
    let is = pinned_inputs c.digests_of-looked.new.pinned in
    let old = g.D.Disk.story c.args.opened.now.disk in
    let mid = g.D.Disk.story c.pin_place.new.opened.disk in
    let new = g.D.Disk.story c.retire_pinned.new.disk in
    let e = c.in-Err.error in
    let latest : IsLatest bytes old k name p = c.in_ok-pinned.ensures.latest name (sym c.in-Some.ensures.found) in
    let same : relation_columns latest.relation ≡ columns_at c.pin_place.new.opened.catalog.catalogue place =
    columns_named k name place latest.relation (sym c.in-Some.ensures.found) latest.named ∙ ap (λ (o : Opened _). columns_at o.catalog.catalogue place) (sym c.in_ok-pinned.ensures.same)
    in
    let can : CanBeLookedAt k name = record { relation = ap is_some latest.named; version = omega (arith, latest.newest) } in
    let cause = subst (HaveFaultCause (λ e. e ≡ file_error.Read) (faults_of faults was) (faults_of faults is)) c.in-Err.is c.digests_of-looked.ensures.cause in
    let before = c.in_ok-pinned.ensures.quiet (λ is. cc) in
    let differs = subst (λ x. IfErr x (λ e. (d : Damage) → e ≡ file_error.Damaged d → Differs d)) c.in-Err.is c.digests_of-looked.ensures.damaged in
    let never = subst (λ x. IfErr x (λ e. (d : Damage) → e ≡ file_error.Damaged d → (told : List Row) → TellContent bytes (columns_at c.pin_place.new.opened.catalog.catalogue place) p told → ⊥)) c.in-Err.is c.digests_of-looked.ensures.never in
    subst (HasLookReason old new k name) (sym c.from.ensures)
    (file_reason old new k name e can
    (λ read. inr (subst (λ n. Rose n new.read_faults) before.1 (given_rose faults was is mid new c.in_ok-pinned.ensures.fresh (cause.failed read) c.retire_pinned.ensures.given)))
    differs
    (λ d is rows start.
    let its = latest.told rows start in
    never d is its.0 (subst (λ (t : Columns). TellContent bytes t p its.0) same its.2)))

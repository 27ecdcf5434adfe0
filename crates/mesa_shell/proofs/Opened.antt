-- What an opening made of a store, from its two parts.
use Rattle.std.proofs.Common.{◌≡◌, ⊎_elim, ℕ, ◌+◌, ◌<◌, ◌≤◌, [], sym, ◌∙◌, ap, subst, arith, Some, None}
use Rattle.std.proofs.lemmas.Bool.{cases_lt}
use Rattle.std.specs.Prelude.{Result, Ok, Err, IfOk, IfErr}
use Rattle.mesa_io.specs.Causes.{last}
use Rattle.mesa_disk.specs.Image.{Image}
use Rattle.mesa_disk.specs.Story.{Story, Unmoved}
use Rattle.mesa_engine.specs.mesa_commit.Filed.{FilesAdopted}
use Rattle.mesa_session.specs.mesa_history_spec.Rows.{Rows}
use Rattle.mesa_engine.specs.mesa_store_spec.Catalog.{Catalog, applied}
use Rattle.mesa_engine.specs.mesa_store_spec.Shape.{IsCatalog}
use Rattle.mesa_engine.specs.mesa_store_spec.Fitting.{max_runs}
use Rattle.mesa_engine.specs.mesa_store_spec.Countable.{AreCounted}
use Rattle.mesa_engine.specs.mesa_store_spec.Ids.{HasOwnIds, named}
use Rattle.mesa_engine.specs.mesa_store_spec.Recordable.{AreRecordable}
use Rattle.mesa_engine.proofs.mesa_store_spec.Wholes.{catalog_whole}
use Rattle.mesa_recover.specs.declared.error.OpenError.{OpenError}
use Rattle.mesa_recover.specs.declared.error.OpenError.TheVariants as open_error
use Rattle.mesa_recover.specs.Opening.{HasReason, IsHeldAs, IsSoundStart, Keeps, first_id, most_runs, run_record}
use Rattle.mesa_recover.proofs.Beginnings.{runs_few}
use Rattle.mesa_engine.specs.Vault.{IsRead}
use Rattle.mesa_engine.specs.mesa_catalog.declared.begun.Begun.{Begun}
use Rattle.mesa_recover.specs.declared.opened.Opened.{Opened}
use Rattle.mesa_recover.specs.Opened.{IsOpened}
use Rattle.mesa_shell.specs.Unopened.{HasSameCounts, IsUnopened}
use Rattle.mesa_shell.proofs.Unmoved.{keeps_before, keeps_unmoved, read_before, reason_before, sound_after}
use Rattle.mesa_shell.specs.Begun.{HasBegun}

run_shaped : (c : Catalog) (number : ℕ) → IsCatalog c → IsCatalog (applied c (run_record number))
run_shaped c number is = record { tables = is.tables; names = is.names; floor = is.floor; few = is.few; most = is.most }

run_owns : (c : Catalog) (number : ℕ) → c.run ≤ number → HasOwnIds c → HasOwnIds (applied c (run_record number))
run_owns c number le own = record { once = own.once; runs = λ id some. let most = own.runs id some in omega (arith, most, le) }

run_counted : (c : Catalog) (number : ℕ) → number ≤ max_runs → AreCounted c → AreCounted (applied c (run_record number))
run_counted c number few is = record { tables = is.tables; run = few }

module _ {D : Type 0} (story : D → Story) (old : Story) (o : Opened D) (is : IsOpened (story o.disk) o) (still : Unmoved old (story o.disk))
    (faults : (story o.disk).faults ≡ old.faults) (reads : (story o.disk).read_faults ≡ old.read_faults) where
  abbrev known : Catalog
  known = o.catalog.catalogue

  begun_from : (b : Begun D) → b.run ≡ o.last_run + 1 → b.catalog.catalogue ≡ applied known (run_record b.run) → b.catalog.reserved ≡ None → b.since ≡ o.since → b.end < (story b.disk).len b.area
      → ((rows : Rows) → IsSoundStart (story o.disk) known rows → IsHeldAs (story b.disk) b.area b.end b.catalog.catalogue rows) → Keeps (story o.disk) (story b.disk)
      → FilesAdopted 0 (first_id b.run) (first_id (b.run + 1)) (named b.catalog.catalogue) [] [] (story b.disk).told
      → ((i : Image) → (story o.disk).told ≡ Some i → IsRead (story b.disk))
      → ((story b.disk).faults ≡ (story o.disk).faults) × ((story b.disk).read_faults ≡ (story o.disk).read_faults) → (story o.disk).moment ≤ (story b.disk).moment → o.last_run < most_runs → HasBegun story old b
  begun_from b run applies free since long held keeps filed told quiet later less =
      let read = is.reads in
      let whole = catalog_whole o.area is.bodies known read.bytes read.records in
      record {
        catalogue = known;
        reads = (o.area, is.bodies, o.end, read_before old (story o.disk) still o.area is.bodies o.end known read);
        number = omega (arith, less, is.run);
        applies = applies;
        ready = record {
          run = ap (λ (c : Catalog). c.run) applies;
          few = omega (arith, run, less);
          free = free;
          shaped = subst IsCatalog (sym applies) (run_shaped known b.run whole.shaped);
          own = subst HasOwnIds (sym applies) (run_owns known b.run (omega (arith, run, is.run)) whole.own);
          columns = subst AreCounted (sym applies) (run_counted known b.run (omega (arith, run, less)) whole.counted);
          recordable = subst AreRecordable (sym applies) whole.recordable;
          long = long;
          filed = filed;
          since = omega (arith, since, is.now, later);
        };
        keeps = keeps_before old (story o.disk) still (story b.disk) keeps;
        held = λ rows start. held rows (sound_after old (story o.disk) still known rows start);
        told = λ i at. told i (still.told ∙ at);
        since = since ∙ is.now ∙ still.moment;
        faults = quiet.0 ∙ faults;
        read_faults = quiet.1 ∙ reads;
      }

  pub has_begun : (r : Result (Begun D) (OpenError × D)) → IfOk r (λ b. b.run ≡ o.last_run + 1) → IfOk r (λ b. b.catalog.catalogue ≡ applied known (run_record b.run)) → IfOk r (λ b. b.catalog.reserved ≡ None)
      → IfOk r (λ b. b.since ≡ o.since) → IfOk r (λ b. b.end < (story b.disk).len b.area)
      → IfOk r (λ b. (rows : Rows) → IsSoundStart (story o.disk) known rows → IsHeldAs (story b.disk) b.area b.end b.catalog.catalogue rows) → IfOk r (λ b. Keeps (story o.disk) (story b.disk))
      → IfOk r (λ b. FilesAdopted 0 (first_id b.run) (first_id (b.run + 1)) (named b.catalog.catalogue) [] [] (story b.disk).told)
      → IfOk r (λ b. (i : Image) → (story o.disk).told ≡ Some i → IsRead (story b.disk))
      → IfOk r (λ b. ((story b.disk).faults ≡ (story o.disk).faults) × ((story b.disk).read_faults ≡ (story o.disk).read_faults)) → IfOk r (λ b. (story o.disk).moment ≤ (story b.disk).moment)
      → (o.last_run ≡ most_runs → r ≡ Err (open_error.RunsFull, o.disk)) → IfOk r (HasBegun story old)
  has_begun (Ok b) run applies free since long held keeps filed told quiet later full =
      begun_from b run applies free since long held keeps filed told quiet later
      (⊎_elim (λ lt. lt) (λ ge. absurd (let few = runs_few o.area is.bodies known is.reads.bytes is.reads.records in let last : o.last_run ≡ most_runs = omega (arith, ge, few, is.run) in let never : Ok b ≡ Err (open_error.RunsFull, o.disk) = full last in cc never)) (cases_lt o.last_run most_runs))
  has_begun (Err e) run applies free since long held keeps filed told quiet later full = tt

  -- no run begins on a store that was read
  pub unopened_from : (r : Result (Begun D) (OpenError × D)) → IfErr r (λ e. HasReason (story o.disk) (story e.1) e.0) → IfErr r (λ e. Keeps (story o.disk) (story e.1))
      → IfErr r (λ e. (i : Image) → (story o.disk).told ≡ Some i → IsRead (story e.1)) → IfErr r (λ e. (e.0 ≡ open_error.Fault → ⊥) → HasSameCounts (story o.disk) (story e.1))
      → IfErr r (λ e. (e.0 ≡ open_error.Fault → ⊥) → (e.0 ≡ open_error.Memory → ⊥) → e.1 ≡ o.disk) → IfErr r (λ e. IsUnopened old (story e.1) e.0)
  unopened_from (Ok b) reason keeps told other untouched = tt
  unopened_from (Err e) reason keeps told other untouched = record {
    reason = reason_before old (story o.disk) still (story e.1) e.0 faults reads reason;
    keeps = (keeps_before old (story o.disk) still (story e.1) keeps, λ c rows start below. told start.image (still.told ∙ start.told));
    quiet = λ fault. let same = other fault in (same.0 ∙ faults, same.1 ∙ reads);
    unmoved = λ fault memory. subst (λ d. Unmoved old (story d)) (sym (untouched fault memory)) still;
  }

-- nor on one that can't be read
pub unread : (old new : Story) (e : OpenError) → HasReason old new e → Unmoved old new → ((x : Image) → new.moment < last → new.may_have_left new.moment x → new.may_leave x) → ((e ≡ open_error.Fault → ⊥) → HasSameCounts old new) → IsUnopened old new e
unread old new e reason still only other = record {
  reason = reason;
  keeps = (keeps_unmoved old new still only, λ c rows start below. (start.image, still.told ∙ start.told));
  quiet = other;
  unmoved = λ fault memory. still;
}

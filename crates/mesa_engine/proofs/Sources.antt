-- What stands written of each table, once a turn's record is written.
use Rattle.std.proofs.Common.{◌≡◌, ℕ, ◌<◌, List, [], ◌∷◌, ◌++◌, length, Bool, refl, sym, ◌∙◌, ap, subst, Option, None, Some, IsTrue, Ok}
use Rattle.mesa_batch.specs.Batch.{Named, Placed, batch_of}
use Rattle.mesa_batch.specs.declared.words.RowWords.{RowWords}
use Rattle.mesa_catalog.specs.mesa_schema.Recasts.{Recast}
use Rattle.mesa_disk.specs.Story.{Story}
use Rattle.mesa_model.specs.declared.commands.Command.{Command}
use Rattle.mesa_model.specs.declared.commands.Command.TheVariants as command
use Rattle.mesa_model.specs.declared.entries.Entry.{Entry}
use Rattle.mesa_model.specs.declared.replies.Reply.{Reply}
use Rattle.mesa_model.specs.declared.replies.Reply.TheVariants as reply
use Rattle.mesa_model.specs.Load.{tables_named}
use Rattle.mesa_model.specs.Warehouse.{Store}
use Rattle.mesa_invariant_spec.specs.mesa_history_spec.Found.{Kept}
use Rattle.mesa_invariant_spec.specs.mesa_history_spec.Law.{Accepts, Leaves, Regroups, Writing, batch_or_none, recast_for, regroups, writing_as, writing_by, writing_if_told, written_in, written_through}
use Rattle.mesa_invariant_spec.specs.mesa_history_spec.Machine.{Claim, Errand, Recasts}
use Rattle.mesa_invariant_spec.specs.mesa_history_spec.Replay.{told_by}
use Rattle.mesa_invariant_spec.specs.mesa_history_spec.Run.{Place, Renewed, Stage, begins, command_of, place_of}
use Rattle.mesa_invariant_spec.specs.mesa_history_spec.Turns.{IsDue}
use Rattle.mesa_record.specs.declared.record.Part.{Part}
use Rattle.mesa_record.specs.declared.record.Record.TheVariants as record_of
use Rattle.mesa_catalog.specs.mesa_store_spec.Catalog.{Catalog, applied}
use Rattle.mesa_catalog.specs.mesa_store_spec.Contents.{kept_of}
use Rattle.mesa_catalog.proofs.mesa_store_spec.Accepted.{read_accepted}
use Rattle.mesa_catalog.proofs.mesa_store_spec.AllSourced.{agree_sourced, publish_sourced}
use Rattle.mesa_catalog.specs.mesa_store_spec.Brought.{BringsAll}
use Rattle.mesa_catalog.specs.mesa_store_spec.Sourced.{HasSources, tables_read, written_behind}
use Rattle.mesa_invariant_spec.specs.mesa_history_spec.Rows.{Rows}
use Rattle.mesa_invariant_spec.specs.Causes.{told_at}
use Rattle.mesa_invariant_spec.specs.Invariant.{Outset, run_of}
use Rattle.mesa_invariant_spec.proofs.Projections.{named_is}
use Rattle.mesa_engine.specs.EngineState.{EngineState, books_of, next_id}
use Rattle.mesa_engine.specs.Vault.{Origin, IsVault, written_by}
use Rattle.mesa_engine.proofs.Accepting.{written_more}
use Rattle.mesa_engine.proofs.Agreeing.{named_agree, same_kept}
use Rattle.mesa_engine.proofs.Changing.{tables_are}

-- a reply that leaves what stands written
abbrev pub LeavesWritten : Reply → Type 0
LeavesWritten rep = (s : Store) (c : Command) (stage : Stage) → writing_as s c stage rep ≡ Leaves

leaves_if_told : (s : Store) (c : Option Command) (stage : Stage) (p : ℕ) (rep : Reply) → LeavesWritten rep → writing_if_told s c stage (Some (told_at p rep)) ≡ Leaves
leaves_if_told s None stage p rep none = refl
leaves_if_told s (Some c) stage p rep none = none s c stage

-- the recast of a renewed claim
regroups_of : (table : ℕ) (errand : Errand) (epoch : ℕ) (r : Recast) → errand ≡ Recasts epoch r → regroups (recast_for table errand) ≡ Regroups table r
regroups_of table errand epoch r is = ap (λ x. regroups (recast_for table x)) is

module _ (o : Outset) (g : Origin) (sound : Bool) (l : EngineState) (story : Story) (held : Option (List ℕ)) (h : List Entry) (running refused : Bool) (v : IsVault o g sound l story held h running refused)
    (later : Rows) (agree : (id : ℕ) → id < next_id l → later id ≡ v.rows id) (e : Entry) (p : ℕ) where
  abbrev c : Catalog
  c = l.catalogue

  abbrev s : Store
  s = (run_of o h).state.warehouse.store

  abbrev stage : Stage
  stage = (place_of (run_of o h) e.session).stage

  -- what stood written so far, with the rows of files that are to come
  has_sources : IsTrue sound → HasSources later (written_by o g.found h) c
  has_sources ok = agree_sourced v.rows later (written_by o g.found h) c (named_agree o g sound l story held h running refused v later agree) (v.sourced ok)

  -- the tables are those for which the catalogue stands
  store_is : IsTrue sound → s ≡ (kept_of later c).store
  store_is ok = ap (λ (k : Kept). k.store) (v.invariant.state.rows ok ∙ sym (same_kept o g sound l story held h running refused v later agree))

  -- what stands written behind the entry
  written_now : IsTrue sound → (x : Writing) → writing_by o.script (run_of o h) e ≡ x → written_by o g.found (h ++ e ∷ []) ≡ written_behind later c x (written_by o g.found h)
  written_now ok x is = λ i number.
      (written_more o.script (begins o.start) h e number (g.found number) ∙ (λ j. written_through (store_is ok j) (is j) number (written_in o.script (begins o.start) h number (g.found number)))) i

  sources_behind : (x : Writing) → writing_by o.script (run_of o h) e ≡ x → (d : Catalog) → (HasSources later (written_by o g.found h) c → HasSources later (written_behind later c x (written_by o g.found h)) d) → IsTrue sound → HasSources later (written_by o g.found (h ++ e ∷ [])) d
  sources_behind x is d goes ok = subst (λ written. HasSources later written d) (sym (written_now ok x is)) (goes (has_sources ok))

  -- A record that leaves what stands written.
  pub sources_stay : (rep : Reply) → told_by o.script (run_of o h) e ≡ Some (told_at p rep) → LeavesWritten rep → (x : Catalog) → (HasSources later (written_by o g.found h) c → HasSources later (written_by o g.found h) x) → IsTrue sound → HasSources later (written_by o g.found (h ++ e ∷ [])) x
  sources_stay rep told none x goes ok = sources_behind Leaves (ap (writing_if_told s (command_of o.script e) stage) told ∙ leaves_if_told s (command_of o.script e) stage p rep none) x goes ok

  -- A batch that is accepted is written.
  module _ (words : List RowWords) (batch : List Placed) (read : batch_of (tables_read c) words ≡ Ok batch) (known : command_of o.script e ≡ Some (command.Load words)) (told : told_by o.script (run_of o h) e ≡ Some (told_at p (reply.Loaded c.next (length batch)))) where
    batch_is : batch_or_none (batch_of (tables_named s) words) ≡ batch
    batch_is = ap (λ (n : List Named). batch_or_none (batch_of n words)) (named_is sound (books_of v.rows l) (run_of o h).state v.invariant.state ∙ tables_are c) ∙ ap batch_or_none read

    accepts : writing_by o.script (run_of o h) e ≡ Accepts c.next batch
    accepts = (λ i. writing_if_told s (known i) stage (told i)) ∙ ap (Accepts c.next) batch_is

    pub batch_sources : (version : ℕ) (parts : List Part) → BringsAll later parts batch 0 c.tables → IsTrue sound → HasSources later (written_by o g.found (h ++ e ∷ [])) (applied c (record_of.Publish version parts))
    batch_sources version parts brings ok =
        sources_behind (Accepts c.next batch) accepts (applied c (record_of.Publish version parts)) (λ has. publish_sourced later (written_by o g.found h) c v.shaped has parts batch (read_accepted c words batch read) version brings) ok

  -- What stands written of a table that is recast is grouped.
  module _ (asked : Command) (claim : Claim) (epoch : ℕ) (r : Recast) (errand : claim.errand ≡ Recasts epoch r) (due : IsDue o.script (run_of o h) e.session e.command asked (Renewed claim)) (name : List ℕ) (begins_at : ℕ) (told : told_by o.script (run_of o h) e ≡ Some (told_at p (reply.Recast name begins_at))) where
    groups : writing_by o.script (run_of o h) e ≡ Regroups claim.table r
    groups = (λ i. writing_if_told s (due.known i) ((ap (λ (x : Place). x.stage) due.place) i) (told i)) ∙ regroups_of claim.table claim.errand epoch r errand

    pub recast_sources : (x : Catalog) → (HasSources later (written_by o g.found h) c → HasSources later (written_behind later c (Regroups claim.table r) (written_by o g.found h)) x) → IsTrue sound → HasSources later (written_by o g.found (h ++ e ∷ [])) x
    recast_sources x goes ok = sources_behind (Regroups claim.table r) groups x goes ok

-- The files behind a swap.
use Rattle.std.proofs.Common.{◌≡◌, ◌∙◌, ⊎_elim, inl, inr, ℕ, List, ◌∷◌, ◌++◌, [], length, map, Bool, true, false, not, sym, ap, subst, Option, None}
use Rattle.std.specs.Prelude.{filter}
use Rattle.std.proofs.lemmas.List.{append_cancel_left}
use Rattle.std.specs.List.{AllByRecursion}
use Rattle.mesa_disk.specs.Story.{Story}
use Rattle.mesa_engine.specs.mesa_store_spec.Ids.{named}
use Rattle.mesa_engine.specs.EngineState.{EngineState, holders, ids_held, next_id}
use Rattle.mesa_engine.specs.Recorded.{holds_in}
use Rattle.mesa_engine.specs.Vault.{Origin, IsVault}
use Rattle.mesa_write_turns.specs.mesa_invariant_spec.Turns.{IsTurn, Shown, entry}
use Rattle.mesa_write_turns.specs.mesa_invariant_spec.Invariant.{Outset}
use Rattle.mesa_engine.proofs.Filing.{holds_are}
use Rattle.mesa_write_turns.specs.mesa_history_spec.Replay.{is_skip}
use Rattle.mesa_model.specs.declared.entries.Entry.{Entry}
use Rattle.mesa_model.specs.declared.entries.Kind.TheVariants as kind
use Rattle.mesa_model.specs.declared.entries.Outcome.{Outcome}
use Rattle.mesa_model.specs.declared.entries.Outcome.TheVariants as outcome
use Rattle.mesa_engine.specs.mesa_commit.declared.trash.Dropped.{Dropped}
use Rattle.mesa_engine.specs.mesa_commit.Holding.{Among, IsHad, ids_of, kept}
use Rattle.mesa_engine.proofs.mesa_commit.Filing.{kept_had}
use Rattle.mesa_engine.proofs.mesa_commit.Waiting.{kept_among, unpicked}
use Rattle.mesa_work_turns.specs.Swept.{HasStood, IsSwept}

-- ---- turns that stand

module _ (old new : Shown) (session number : ℕ) where
  -- the outcome of the entry that a turn added, where the turn stands
  pub stood_as : (k : Outcome) (moment : ℕ) → new.history ≡ old.history ++ entry session number kind.Close k moment ∷ [] → HasStood old new session number → k ≡ outcome.Stands
  stood_as k moment grew stood =
      let ends : entry session number kind.Close k moment ∷ [] ≡ entry session number kind.Close outcome.Stands stood.0 ∷ [] = append_cancel_left old.history _ _ (sym grew ∙ stood.1) in
      let same : entry session number kind.Close k moment ≡ entry session number kind.Close outcome.Stands stood.0 = cc in
      ap (λ (e : Entry). e.outcome) same

  -- a turn that is skipped doesn't stand
  pub skipped_stood : IsTurn old new session number kind.Close → old.running ≡ false → HasStood old new session number → ⊥
  skipped_stood turn failed stood =
      let no : false ≡ true = sym (ap is_skip (stood_as turn.outcome new.clock turn.grew stood)) ∙ turn.skipped ∙ ap not failed in
      cc

-- ---- files

passes : (test : Dropped → Bool) (id : ℕ) (ds : List Dropped) → AllByRecursion (λ (d : Dropped). d.id ≡ id → test d ≡ true) (filter test ds)
passes test id [] = tt
passes test id (d ∷ ds) =
    unpicked (test d) d (filter test ds) (AllByRecursion (λ (e : Dropped). e.id ≡ id → test e ≡ true)) (λ so. (λ same. so, passes test id ds)) (passes test id ds)

-- Once all that no hold is on has been removed, what is there is named, or was had by a pin or an open query.
pub swept : (o : Outset) (g : Origin) (sound : Bool) (l : EngineState) (story : Story) (held : Option (List ℕ)) (h : List Entry) (running refused : Bool) → IsVault o g sound l story held h running refused
    → l.closed ≡ None → (ds : List Dropped) → l.trash ≡ kept (holds_in l) ds → IsSwept story.told l h
swept o g sound l story held h running refused v none ds trash = record {
  seen = v.seen;
  filed = v.filed;
  wanted = λ i told id there. ⊎_elim (λ (is : Among id (named l.catalogue)). inl is) (λ waits. inr (had id waits)) ((v.ready none).strays i told id there);
}
  where
    again : (id : ℕ) → Among id (ids_of l.trash) → Among id (ids_of (kept (holds_in l) l.trash))
    again id waits =
        subst (λ xs. Among id (ids_of (kept (holds_in l) xs))) (sym trash)
        (kept_among _ id (kept (holds_in l) ds) (passes _ id ds) (subst (λ xs. Among id (ids_of xs)) trash waits))

    had : (id : ℕ) → Among id (ids_of l.trash) → IsHad id (map ids_held (holders v.seen l))
    had id waits =
        kept_had (length h) (next_id l) (named l.catalogue) l.trash (map ids_held (holders v.seen l)) v.filed id
        (subst (λ hs. Among id (ids_of (kept hs l.trash))) (sym (holds_are v.seen l)) (again id waits))

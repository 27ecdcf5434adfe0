-- Each held pin was given in the history, and holds the tables as they stood there.
use Rattle.std.proofs.Common.{◌≡◌, ℕ, ◌<◌, ◌≤◌, List, [], ◌∷◌, ◌++◌, length, refl, sym, ◌∙◌, ap, subst, append_assoc, not, is_none, nat_le, ◌⊎◌, inl, inr, Some, None, Result, Ok, Err}
use Rattle.std.specs.List.{AllByRecursion}
use Rattle.std.proofs.lemmas.List.{append-nil}
use Rattle.mesa_history_spec.specs.mesa_list.Checks.{◌>>◌}
use Rattle.mesa_history_spec.specs.mesa_schema.Changes.{change_checked, columns_of}
use Rattle.mesa_history_spec.specs.mesa_columns.Names.{is_name}
use Rattle.mesa_history_spec.specs.mesa_schema.Recasts.{recast_checked}
use Rattle.mesa_history_spec.specs.mesa_columns.Schema.{schema_checked}
use Rattle.mesa_history_spec.specs.mesa_batch.Batch.{batch_of}
use Rattle.mesa_history_spec.specs.mesa_filter.declared.words.VersionWord.{VersionWord}
use Rattle.mesa_history_spec.specs.mesa_model.declared.commands.Command.{Command}
use Rattle.mesa_history_spec.specs.mesa_model.declared.commands.Command.TheVariants as command
use Rattle.mesa_history_spec.specs.mesa_model.declared.commands.Script.{Script}
use Rattle.mesa_history_spec.specs.mesa_model.declared.entries.Entry.{Entry}
use Rattle.mesa_history_spec.specs.mesa_model.declared.replies.Refusal.{Refusal}
use Rattle.mesa_history_spec.specs.mesa_model.declared.replies.Reply.{Reply}
use Rattle.mesa_history_spec.specs.mesa_model.declared.replies.Reply.TheVariants as reply
use Rattle.mesa_history_spec.specs.mesa_model.Warehouse.{Pin, Warehouse, max_pins, max_tables, max_versions, table_at}
use Rattle.mesa_history_spec.specs.mesa_model.WellFormed.{IsWellFormed}
use Rattle.mesa_history_spec.specs.mesa_model.Load.{bounds_checked, load_batch, tables_named}
use Rattle.mesa_history_spec.specs.mesa_model.Relations.{is_taken, table_number}
use Rattle.mesa_history_spec.specs.mesa_model.Step.{done_or_refused, step}
use Rattle.mesa_history_spec.specs.mesa_model.Tables.{alter_table, change_asked, columns_asked, make_table, make_view, names_are_good, recast_asked, recast_table, view_of_table_checked}
use Rattle.mesa_history_spec.specs.mesa_model.Versions.{common_oldest, expire_to, version_asked, version_checked}
use Rattle.mesa_history_spec.specs.mesa_model.Pins.{is_pin, make_pin, pin_of, release_pin, store_at}
use Rattle.mesa_history_spec.specs.mesa_model.Refusals.{refuse_closed}
use Rattle.mesa_history_spec.specs.Run.{Run, State, Told, begins}
use Rattle.mesa_history_spec.specs.Replay.{go, no_rows, runs, told_by}
use Rattle.mesa_history_spec.proofs.More.{runs_more}
use Rattle.mesa_history_laws.specs.Given.{WasGiven, warehouse_after}
use Rattle.mesa_history_laws.proofs.Checks.{after_check, after_other, after_other_check, after_refuse_if, after_refuse_unless, after_some, after_value}
use Rattle.mesa_history_laws.proofs.FromTheFold.{asked_there}
use Rattle.mesa_history_spec.proofs.mesa_columns.Lists.{all_append, all_filter, all_so}
use Rattle.mesa_history_laws.proofs.TurnKinds.{Stays, Steps, turned_does}
use Rattle.mesa_history_laws.proofs.WellFormed.{common_kept, runs_well}

-- a pin that a command's reply tells of
record IsNew (w : Warehouse) (session : ℕ) (told : Reply) (pin : Pin) : Type 0 where
  mine : session ≡ pin.session
  tells : told ≡ reply.Pinned pin.token pin.version
  store : pin.store ≡ store_at w.store pin.version
  above : common_oldest w.store ≤ pin.version
  below : pin.version < w.next

-- ---- a command

module _ (w : Warehouse) (is : IsWellFormed w) (session : ℕ) (Q : Pin → Type 0) (all : AllByRecursion Q w.pins) where
  abbrev IsKept : Reply → Pin → Type 0
  IsKept told pin = Q pin ⊎ IsNew w session told pin

  -- each pin after a command was there before it, or is the one that its reply tells of
  record Pins (r : Result (Warehouse × Reply) Refusal) : Type 0 where
    each : AllByRecursion (IsKept (done_or_refused w r).1) (done_or_refused w r).0.pins

  old : (told : Reply) → AllByRecursion (IsKept told) w.pins
  old told = all_so Q (IsKept told) w.pins (λ pin q. inl q) all

  no : (e : Refusal) → Pins (Err e)
  no e = record { each = old (reply.Refused e) }

  nothing_keeps : Pins (refuse_closed w.closed >> Ok (w, reply.Idle))
  nothing_keeps = after_check Pins no (refuse_closed w.closed) _ (λ open'. record { each = old reply.Idle })

  pin_keeps : (asked : VersionWord) → Pins (make_pin w session asked)
  pin_keeps asked =
      after_check Pins no (refuse_closed w.closed) _ (λ open'. after_value Pins no (version_asked w (common_oldest w.store) asked) _ (λ version told. after_refuse_if Pins no (nat_le max_pins (length w.pins)) _ _ (λ room.
      let there = asked_there w (common_oldest w.store) (common_kept w is) asked version told in
      record { each = all_append (IsKept _) w.pins _ (old _) (inr (record { mine = refl; tells = refl; store = refl; above = there.0; below = there.1 }), tt) })))

  release_keeps : (token : ℕ) → Pins (release_pin w session token)
  release_keeps token =
      after_check Pins no (refuse_closed w.closed) _ (λ open'. after_refuse_if Pins no (is_none (pin_of w session token)) _ _ (λ held.
      record { each = all_filter (IsKept (reply.Released token)) (λ pin. not (is_pin session token pin)) w.pins (old (reply.Released token)) }))

  -- Each pin after a command was there before it, or is the one that its reply tells of.
  pins_kept : (c : Command) → AllByRecursion (IsKept (step w session c).1) (step w session c).0.pins
  pins_kept (command.Table words) =
      let all : Pins (make_table w words) =
      after_check Pins no (refuse_closed w.closed) _ (λ open'. after_refuse_unless Pins no (is_name words.table) _ _ (λ name. after_refuse_if Pins no (is_taken w.store words.table) _ _ (λ free.
      after_refuse_unless Pins no (names_are_good (columns_asked words)) _ _ (λ names. after_other_check Pins no _ (schema_checked (columns_asked words)) _ (λ schema. after_refuse_if Pins no (nat_le max_tables (length w.store.tables)) _ _ (λ room.
      record { each = old _ })))))) in
      all.each
  pins_kept (command.View words) =
      let all : Pins (make_view w words) =
      after_check Pins no (refuse_closed w.closed) _ (λ open'. after_refuse_unless Pins no (is_name words.view) _ _ (λ name. after_refuse_if Pins no (is_taken w.store words.view) _ _ (λ free.
      after_some Pins no (table_number w.store words.table) _ _ (λ number at. after_check Pins no (view_of_table_checked (table_at w.store number) words) _ (λ rules.
      record { each = old _ }))))) in
      all.each
  pins_kept (command.Alter words) =
      let all : Pins (alter_table w words) =
      after_check Pins no (refuse_closed w.closed) _ (λ open'. after_some Pins no (table_number w.store words.table) _ _ (λ number at. after_value Pins no (change_asked (columns_of (table_at w.store number).lineage) words.change) _ (λ c asked.
      after_other_check Pins no _ (change_checked (table_at w.store number).lineage c) _ (λ rules.
      record { each = old _ })))) in
      all.each
  pins_kept (command.Load rows) =
      let all : Pins (load_batch w rows) =
      after_check Pins no (refuse_closed w.closed) _ (λ open'. after_other Pins no _ (batch_of (tables_named w.store) rows) _ (λ batch read. after_refuse_if Pins no (nat_le max_versions w.next) _ _ (λ room. after_check Pins no (bounds_checked batch 0 w.store.tables) _ (λ bound.
      record { each = old _ })))) in
      all.each
  pins_kept (command.Query words) = old _
  pins_kept (command.Explain words) = nothing_keeps.each
  pins_kept (command.Pin asked) = (pin_keeps asked).each
  pins_kept (command.Release token) = (release_keeps token).each
  pins_kept (command.Expire None version) =
      let all : Pins (expire_to w None version) =
      after_check Pins no (refuse_closed w.closed) _ (λ open'. after_check Pins no (version_checked w w.store.floor version) _ (λ there. record { each = old _ })) in
      all.each
  pins_kept (command.Expire (Some name) version) =
      let all : Pins (expire_to w (Some name) version) =
      after_check Pins no (refuse_closed w.closed) _ (λ open'. after_some Pins no (table_number w.store name) _ _ (λ number at. after_check Pins no (version_checked w (table_at w.store number).oldest version) _ (λ there. record { each = old _ }))) in
      all.each
  pins_kept (command.Work words) = nothing_keeps.each
  pins_kept (command.Recast words) =
      let all : Pins (recast_table w words) =
      after_check Pins no (refuse_closed w.closed) _ (λ open'. after_some Pins no (table_number w.store words.table) _ _ (λ number at. after_other_check Pins no _ (recast_checked (table_at w.store number).lineage (recast_asked words)) _ (λ rules.
      record { each = old _ }))) in
      all.each

-- ---- a turn

-- a pin that a turn told of
record IsToldBy (script : Script) (r : Run) (e : Entry) (pin : Pin) : Type 0 where
  told : Told
  tells : told_by script r e ≡ Some told
  new : IsNew r.state.warehouse e.session told.reply pin

module _ (script : Script) (r : Run) (is : IsWellFormed r.state.warehouse) (e : Entry) (Q : Pin → Type 0) (all : AllByRecursion Q r.state.warehouse.pins) where
  -- Each pin after a turn was there before it, or is the one that the turn told of.
  turn_pins : AllByRecursion (λ pin. Q pin ⊎ IsToldBy script r e pin) (go script r e).state.warehouse.pins
  unfolding go
  turn_pins = elim (turned_does script r e) [
    | Stays same ↦ subst (AllByRecursion (λ pin. Q pin ⊎ IsToldBy script r e pin)) (sym same) (all_so Q (λ pin. Q pin ⊎ IsToldBy script r e pin) r.state.warehouse.pins (λ pin q. inl q) all)
    | Steps c state told ↦
        let w : Warehouse = r.state.warehouse in
        let K : Pin → Type 0 = λ (pin : Pin). Q pin ⊎ IsNew w e.session (step w e.session c).1 pin in
        subst (λ (x : Warehouse). AllByRecursion (λ pin. Q pin ⊎ IsToldBy script r e pin) x.pins) (sym state)
        (all_so K (λ pin. Q pin ⊎ IsToldBy script r e pin) (step w e.session c).0.pins
        (λ pin kept. elim kept as (λ _. Q pin ⊎ IsToldBy script r e pin) [ inl q ↦ inl q | inr new ↦ inr (record { told = record { at = r.position; reply = (step w e.session c).1; heading = no_rows }; tells = told; new = new }) ])
        (pins_kept w is e.session Q all c))
  ]

-- ---- a history

module _ (script : Script) (start : State) (first : IsWellFormed start.warehouse) where
  -- a pin given in a history was given in a longer one
  given_more : (h more : List Entry) (pin : Pin) → WasGiven script start h pin → WasGiven script start (h ++ more) pin
  given_more h more pin was = record {
    before = was.before;
    entry = was.entry;
    more = was.more ++ more;
    told = was.told;
    parts = sym (append_assoc was.before (was.entry ∷ was.more) more) ∙ ap (λ (xs : List Entry). xs ++ more) was.parts;
    session = was.session;
    tells = was.tells;
    reply = was.reply;
    store = was.store;
    above = was.above;
    below = was.below;
  }

  given_now : (h : List Entry) (e : Entry) (pin : Pin) → IsToldBy script (runs script (begins start) h) e pin → WasGiven script start (h ++ e ∷ []) pin
  given_now h e pin by = record {
    before = h;
    entry = e;
    more = [];
    told = by.told;
    parts = refl;
    session = by.new.mine;
    tells = by.tells;
    reply = by.new.tells;
    store = by.new.store;
    above = by.new.above;
    below = by.new.below;
  }

  given_in : (h more : List Entry) → AllByRecursion (WasGiven script start h) (warehouse_after script start h).pins → AllByRecursion (WasGiven script start (h ++ more)) (warehouse_after script start (h ++ more)).pins
  given_in h [] all = subst (λ (xs : List Entry). AllByRecursion (WasGiven script start xs) (warehouse_after script start xs).pins) (sym (append-nil h)) all
  given_in h (e ∷ more) all =
      let r : Run = runs script (begins start) h in
      let turn = turn_pins script r (runs_well script (begins start) h first) e (WasGiven script start h) all in
      let next : AllByRecursion (WasGiven script start (h ++ e ∷ [])) (go script r e).state.warehouse.pins =
      all_so (λ pin. WasGiven script start h pin ⊎ IsToldBy script r e pin) (WasGiven script start (h ++ e ∷ [])) (go script r e).state.warehouse.pins
      (λ pin either. elim either as (λ _. WasGiven script start (h ++ e ∷ []) pin) [ inl was ↦ given_more h (e ∷ []) pin was | inr by ↦ given_now h e pin by ]) turn in
      let there : AllByRecursion (WasGiven script start (h ++ e ∷ [])) (warehouse_after script start (h ++ e ∷ [])).pins =
      subst (λ (x : Run). AllByRecursion (WasGiven script start (h ++ e ∷ [])) x.state.warehouse.pins) (sym (runs_more script (begins start) h e)) next in
      subst (λ (xs : List Entry). AllByRecursion (WasGiven script start xs) (warehouse_after script start xs).pins) (append_assoc h (e ∷ []) more) (given_in (h ++ e ∷ []) more there)

  -- From a start that holds no pins, each held pin was given in the history.
  pub pins_given : start.warehouse.pins ≡ [] → (h : List Entry) → AllByRecursion (WasGiven script start h) (warehouse_after script start h).pins
  unfolding runs
  pins_given none h = given_in [] h (subst (AllByRecursion (WasGiven script start [])) (sym none) tt)

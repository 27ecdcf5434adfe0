-- The fold law, over whole histories.
use Rattle.std.proofs.Common.{◌≡◌, ℕ, ◌-◌, ◌==◌, List, [], ◌∷◌, map, cond, Bool, true, false, refl, sym, ◌∙◌, ap, subst, arith, slice_get, Option, Some, None}
use Rattle.std.proofs.lemmas.List.{get_or_past}
use Rattle.std.proofs.lemmas.Option.{slice_get_past}
use Rattle.mesa_history_spec.specs.mesa_schema.Changes.{Lineage, columns_of, epoch_of, rule_checked}
use Rattle.mesa_history_spec.specs.mesa_schema.Recasts.{Recast}
use Rattle.mesa_history_spec.specs.mesa_columns.Rows.{AreRowsOf}
use Rattle.mesa_history_spec.proofs.mesa_schema.Passing.{passed_first}
use Rattle.mesa_history_spec.specs.mesa_model.declared.commands.Script.{Script}
use Rattle.mesa_history_spec.specs.mesa_model.declared.entries.Entry.{Entry}
use Rattle.mesa_history_spec.specs.mesa_model.Warehouse.{Store, Table, Warehouse, content_at, table_at}
use Rattle.mesa_history_spec.specs.mesa_model.Tables.{columns_asked}
use Rattle.mesa_history_spec.specs.mesa_model.WellFormed.{IsContent, IsTable, IsWellFormed}
use Rattle.mesa_history_spec.specs.Law.{Accepts, FoldLaw, Leaves, Regroups, Writing, carried_content, carried_in, carried_through, source_then, start_source, writing_by, written_in, written_through}
use Rattle.mesa_history_spec.specs.Run.{Run, begins}
use Rattle.mesa_history_spec.specs.Replay.{go, runs}
use Rattle.mesa_history_spec.specs.Sources.{Source, Written, rows_now, source_recast, written_recast}
use Rattle.mesa_history_laws.proofs.Kept.{IsAt, Law, LawAt, all_written, first_written, law_early}
use Rattle.mesa_history_laws.proofs.LawLoads.{law_loads}
use Rattle.mesa_history_laws.proofs.LawTables.{law_alters, law_expires, law_expires_one, law_makes, law_recasts, law_views}
use Rattle.mesa_history_laws.proofs.Lifting.{present_now}
use Rattle.mesa_history_laws.proofs.Lineages.{change_default}
use Rattle.mesa_history_spec.proofs.mesa_columns.Lists.{all_at, all_got}
use Rattle.mesa_history_laws.proofs.Moves.{Moves}
use Rattle.mesa_history_laws.proofs.Recasts.{recast_rules, recast_there}
use Rattle.mesa_history_laws.proofs.Turns.{go_moves}
use Rattle.mesa_history_laws.proofs.WellFormed.{go_well, table_kept, table_there}

-- ---- the start

module _ (start : Warehouse) (is : IsWellFormed start) where
  abbrev pub start_early : ℕ → ℕ → Source
  start_early number version = start_source start number version

  start_at : (number : ℕ) (t : Table) (version : ℕ) → slice_get start.store.tables number ≡ Some t → start_source start number version ≡ record { epoch = epoch_of t.lineage; rows = content_at t version }
  start_at number t version at = ap (source_then version) at

  start_forms : (t : Table) (version : ℕ) → IsTable start t → AreRowsOf (columns_of t.lineage) (content_at t version)
  start_forms t version table =
      let content : IsContent (columns_of t.lineage) (content_at t version) = all_at (IsContent (columns_of t.lineage)) t.contents (version - t.oldest) [] (record { forms = tt; order = refl }) table.contents in
      content.forms

  -- what the law says of a table of the start is its content
  start_table : (number : ℕ) (t : Table) → slice_get start.store.tables number ≡ Some t → LawAt start (start_early number) [] start.next t
  start_table number t at =
      let table = all_got (IsTable start) start.store.tables number t at is.tables in
      record {
        versions = table.versions;
        early_at = λ version. subst (IsAt t.lineage) (sym (start_at number t version at))
            (record { epoch = omega arith; form = subst (AreRowsOf (columns_of t.lineage)) (sym (present_now t.lineage (content_at t version))) (start_forms t version table) });
        later_at = tt;
        contents = λ version le lt. sym (law_early start t (start_early number) (all_written start (start_early number) []) version lt ∙ ap (rows_now t.lineage) (start_at number t version at) ∙ present_now t.lineage (content_at t version));
      }

  -- a start without versions has no rows
  none_at : (version : ℕ) (number : ℕ) (o : Option Table) → slice_get start.store.tables number ≡ o → start.next ≡ 0 → (source_then version o).rows ≡ []
  none_at version number None e none = refl
  none_at version number (Some t) e none =
      let table = all_got (IsTable start) start.store.tables number t e is.tables in
      get_or_past t.contents (version - t.oldest) [] (let count = table.versions in omega (arith, count, none))

  -- The law holds at the start.
  pub law_starts : Law start start_early (λ number. []) start.store start.next
  law_starts = record {
    tables = start_table;
    more = omega arith;
    grows = omega arith;
    since = λ number. tt;
    nothing = λ none number version. none_at version number (slice_get start.store.tables number) refl none;
    others = λ number le. ((λ version. ap (source_then version) (slice_get_past start.store.tables number le)), tt);
  }

-- ---- a turn

abbrev early_by : Store → Writing → (ℕ → ℕ → Source) → ℕ → ℕ → Source
early_by s x early number version = carried_through s x number (early number version)

abbrev later_by : Store → Writing → (ℕ → List Written) → ℕ → List Written
later_by s x later number = written_through s x number (later number)

module _ (start : Warehouse) (w : Warehouse) (is : IsWellFormed w) (early : ℕ → ℕ → Source) (later : ℕ → List Written) (law : Law start early later w.store w.next) where
  -- Every turn keeps the law, of what is carried through it.
  law_moves : Moves w (λ s next x. Law start (early_by w.store x early) (later_by w.store x later) s next)
  law_moves = record {
    same = law;
    loads = λ words batch read. law_loads start early later w law (table_kept w is) words batch read;
    makes = λ words free schema. law_makes start early later w law words.table (columns_asked words);
    views = λ words number free at rules. law_views start early later w.store w.next law number (table_at w.store number) words (table_there w.store words.table number at);
    alters = λ words number c at asked rules.
        let t : Table = table_at w.store number in
        law_alters start early later w.store w.next law number t c (table_there w.store words.table number at) (change_default t.lineage words.change c asked (passed_first (rule_checked t.lineage c) _ rules).0);
    expires = λ version ok. law_expires start early later w.store w.next law version;
    expires_one = λ name number version at ok. law_expires_one start early later w.store w.next law number version (table_at w.store number) (table_there w.store name number at);
    recasts = λ number r rules. law_recasts start early later w law number r (recast_there w.store number r rules) (recast_rules (table_at w.store number).lineage r rules);
  }

-- ---- a history

-- Every history keeps the law, of what is carried through it.
pub law_runs : (start : Warehouse) (script : Script) (r : Run) (h : List Entry) (early : ℕ → ℕ → Source) (later : ℕ → List Written) → IsWellFormed r.state.warehouse → Law start early later r.state.warehouse.store r.state.warehouse.next
    → Law start (λ number version. carried_in script r h number (early number version)) (λ number. written_in script r h number (later number)) (runs script r h).state.warehouse.store (runs script r h).state.warehouse.next
unfolding runs carried_in written_in
law_runs start script r [] early later is law = law
law_runs start script r (e ∷ h) early later is law =
    let s : Store = r.state.warehouse.store in
    law_runs start script (go script r e) h (early_by s (writing_by script r e) early) (later_by s (writing_by script r e) later) (go_well script r e is)
    (go_moves script r e (λ store next x. Law start (early_by s x early) (later_by s x later) store next) (law_moves start r.state.warehouse is early later law))

-- the start's newest content is carried as all else
first_if : (start : Warehouse) (l : Lineage) (r : Recast) (early : ℕ → Source) (later : List Written) (b : Bool) → cond b (map (written_recast l r) (first_written start early ∷ later)) (first_written start early ∷ later)
    ≡ first_written start (λ version. cond b (source_recast l r (early version)) (early version)) ∷ cond b (map (written_recast l r) later) later
first_if start l r early later true = refl
first_if start l r early later false = refl

first_by : (start : Warehouse) (s : Store) (x : Writing) (number : ℕ) (early : ℕ → Source) (later : List Written) → written_through s x number (first_written start early ∷ later)
    ≡ first_written start (λ version. carried_through s x number (early version)) ∷ written_through s x number later
first_by start s (Accepts version batch) number early later = refl
first_by start s (Regroups table r) number early later = first_if start (table_at s number).lineage r early later (table == number)
first_by start s Leaves number early later = refl

written_same : (start : Warehouse) (script : Script) (r : Run) (h : List Entry) (number : ℕ) (early : ℕ → Source) (later : List Written)
    → written_in script r h number (all_written start early later) ≡ all_written start (λ version. carried_in script r h number (early version)) (written_in script r h number later)
unfolding carried_in written_in
written_same start script r [] number early later = refl
written_same start script r (e ∷ h) number early later =
    let s : Store = r.state.warehouse.store in
    let x : Writing = writing_by script r e in
    ap (written_in script (go script r e) h number) (first_by start s x number early later)
    ∙ written_same start script (go script r e) h number (λ version. carried_through s x number (early version)) (written_through s x number later)

-- The fold law.
pub law_holds : FoldLaw
law_holds script start h is number t version at le lt =
    let early = start_early start.warehouse is in
    let r = begins start in
    let law = law_runs start.warehouse script r h early (λ n. []) is (law_starts start.warehouse is) in
    (law.tables number t at).contents version le lt
    ∙ ap (λ written. carried_content start.warehouse t (λ v. carried_in script r h number (early number v)) written version) (sym (written_same start.warehouse script r h number (early number) []))

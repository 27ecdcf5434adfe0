-- What a query's files tell on a sound store.
use Rattle.std.proofs.Common.{◌≡◌, ℕ, ◌<◌, ◌^◌, List, [], ◌∷◌, ◌++◌, length, Bool, true, false, IsTrue, refl, sym, ◌∙◌, ap, subst, Option, None, Some, Ok}
use Rattle.std.specs.Prelude.{find, option_map}
use Rattle.std.specs.List.{AllByRecursion}
use Rattle.mesa_read_turns.specs.Opening.{HasItsFiles, HasUnsoundFile, IsHeaded, read_in, tells_damage}
use Rattle.mesa_read_turns.specs.Seeing.{catalogue_asked}
use Rattle.mesa_pick_files.proofs.Contents.{columns_found, seen_columns, seen_content}
use Rattle.mesa_read_turns.proofs.Opens.{Answers, one_answer, opened_from}
use Rattle.mesa_read_turns.proofs.States.{sees_state, version_range}
use Rattle.mesa_pick_files.proofs.There.{name_there}
use Rattle.mesa_pick_files.proofs.mesa_catalog_records.Loads.{found_holds}
use Rattle.mesa_pick_files.proofs.mesa_catalog_records.TableMetas.{all_at}
use Rattle.mesa_engine.specs.mesa_commit.Images.{Has}
use Rattle.mesa_disk.specs.Image.{Image}
use Rattle.mesa_disk.specs.Story.{Story, Unmoved}
use Rattle.mesa_filter.specs.Query.{BuiltQuery, IsQueryOf, group_kinds}
use Rattle.mesa_filter.specs.declared.words.QueryWords.{QueryWords}
use Rattle.mesa_filter.specs.declared.words.VersionWord.{VersionWord}
use Rattle.mesa_filter.specs.declared.words.VersionWord.TheVariants as asks
use Rattle.mesa_engine.specs.mesa_history_spec.Run.{First, State}
use Rattle.mesa_engine.specs.mesa_history_spec.Turns.{IsDue}
use Rattle.mesa_engine.specs.mesa_store_spec.Catalog.{Catalog, no_meta, meta_at}
use Rattle.mesa_engine.specs.mesa_store_spec.Fitting.{delta_live, deltas_of, live_files}
use Rattle.mesa_engine.proofs.mesa_store_spec.Lists.{all_unflat}
use Rattle.mesa_engine.specs.mesa_store_spec.Planned.{planned}
use Rattle.mesa_engine.specs.mesa_store_spec.Shape.{IsCatalog, IsShaped}
use Rattle.mesa_engine.specs.mesa_store_spec.Sound.{HaveSoundRows, HasSoundRows, wants}
use Rattle.mesa_engine.proofs.Holding.{pins_of}
use Rattle.mesa_engine.proofs.Lists.{map_all}
use Rattle.mesa_engine.proofs.Staying.{there_now}
use Rattle.mesa_engine.specs.EngineState.{HeldPin, Holder, EngineState, books_of, files_held, holders}
use Rattle.mesa_engine.specs.Turned.{is_held_pin}
use Rattle.mesa_engine.specs.Vault.{Origin, Starts, IsVault, IsVaultAt, outset_of}
use Rattle.mesa_model.specs.Page.{page_of}
use Rattle.mesa_model.specs.Query.{Answer, answer_rows, query_answer}
use Rattle.mesa_model.specs.Warehouse.{Warehouse}
use Rattle.mesa_model.specs.declared.commands.Command.TheVariants as command
use Rattle.mesa_model.specs.declared.entries.Entry.{Entry}
use Rattle.mesa_model.specs.declared.entries.Kind.TheVariants as kind
use Rattle.mesa_model.specs.declared.entries.Outcome.TheVariants as outcome
use Rattle.mesa_pick_files.specs.Told.{Tells}
use Rattle.mesa_engine.specs.declared.failure.Failure.{Failure}
use Rattle.mesa_pick_files.proofs.Given.{AreGiven, IsGiven, all_given}
use Rattle.mesa_pick_files.proofs.Ordered.{IsAllowed, read_rows, read_view}
use Rattle.mesa_pick_files.proofs.Reading.{columns_read}
use Rattle.mesa_pick_files.proofs.Telling.{content_form, content_read, pinned_tells, meta_given}
use Rattle.mesa_validate.proofs.ReadBy.{read_limit, read_prefix, read_resume, read_version}
use Rattle.mesa_columns.specs.Columns.{Columns}
use Rattle.mesa_pick_files.proofs.Unsound.{seen_sound}
use Rattle.mesa_pick_files.specs.Read.{relation_read}
use Rattle.mesa_pick_files.proofs.Among.{all_planned}
use Rattle.mesa_validate.specs.Found.{answer_found}
use Rattle.mesa_engine.proofs.mesa_history_spec.BareSteps.{query-bare}
use Rattle.mesa_engine.specs.mesa_history_spec.Bare.{bare_answer, bare_result}
use Rattle.mesa_engine.specs.mesa_history_spec.Rows.{Rows, no_rows}
use Rattle.mesa_open_files.specs.declared.querying.Pinned.{Pinned}
use Rattle.mesa_engine.specs.mesa_commit.Filed.{PinFiles}
use Rattle.mesa_engine.specs.mesa_invariant_spec.Books.{AreBooksOf}
use Rattle.mesa_engine.specs.mesa_invariant_spec.Queries.{IsOpen, IsPinned}
use Rattle.mesa_engine.specs.mesa_invariant_spec.Turns.{entry}
use Rattle.mesa_engine.specs.mesa_invariant_spec.Invariant.{Outset, Counts, run_at}

-- ---- the catalogue that a query sees

-- it has the shape of one
pub asked_shaped : (o : Outset) (g : Origin) (sound : Bool) (l : EngineState) (story : Story) (held : Option (List ℕ)) (h : List Entry) (running refused : Bool) → IsVault o g sound l story held h running refused
    → (session : ℕ) (v : VersionWord) (c : Catalog) → catalogue_asked l session v ≡ Some c → IsCatalog c
asked_shaped o g sound l story held h running refused v session asks.Latest c is = let same : l.catalogue ≡ c = cc in subst IsCatalog same v.shaped
asked_shaped o g sound l story held h running refused v session (asks.At n) c is = let same : l.catalogue ≡ c = cc in subst IsCatalog same v.shaped
asked_shaped o g sound l story held h running refused v session (asks.Pin token) c is = by (find (is_held_pin session token) l.pins) refl is
  where
    by : (found : Option HeldPin) → find (is_held_pin session token) l.pins ≡ found → option_map (λ (p : HeldPin). p.copy) found ≡ Some c → IsCatalog c
    by None there e = absurd cc
    by (Some p) there e =
        let same : p.copy ≡ c = cc in
        subst IsCatalog same (found_holds (λ (x : HeldPin). IsCatalog x.copy) (is_held_pin session token) l.pins p (pins_of (λ (x : Holder). IsCatalog x.1) v.seen l v.copies) there)

-- Its rows are such as a sound store has, and a read gives its files.
pub record IsRead (rows : Rows) (image : Image) (c : Catalog) : Type 0 where
  pub sound_rows : HaveSoundRows rows c
  pub has : Has (wants rows (live_files c)) image

module _ (o : Outset) (g : Origin) (sound : Bool) (l : EngineState) (story : Story) (held : Option (List ℕ)) (h : List Entry) (running refused : Bool) (v : IsVault o g sound l story held h running refused) (ok : IsTrue sound) (was_open : l.closed ≡ None) where
  asked_read : (image : Image) → story.told ≡ Some image → (session : ℕ) (asked : VersionWord) (c : Catalog) → catalogue_asked l session asked ≡ Some c → IsRead v.rows image c
  asked_read image told session asked c = by asked
    where
      present : l.catalogue ≡ c → IsRead v.rows image c
      present same = subst (IsRead v.rows image) same (record { sound_rows = (v.sound_rows ok).0; has = there_now o g sound l story held h running refused v was_open ok image told })

      held_files : AllByRecursion (λ (x : HeldPin). Has (wants v.rows (live_files x.copy)) image) l.pins
      held_files = pins_of (λ (x : Holder). Has (wants v.rows (live_files x.1)) image) v.seen l (map_all (λ (p : PinFiles). Has p.1 image) (files_held v.rows) (holders v.seen l) (v.there ok image told))

      pinned : (token : ℕ) (found : Option HeldPin) → find (is_held_pin session token) l.pins ≡ found → option_map (λ (p : HeldPin). p.copy) found ≡ Some c → IsRead v.rows image c
      pinned token None there e = absurd cc
      pinned token (Some p) there e =
          let same : p.copy ≡ c = cc in
          subst (IsRead v.rows image) same (record {
            sound_rows = found_holds (λ (x : HeldPin). HaveSoundRows v.rows x.copy) (is_held_pin session token) l.pins p (pins_of (λ (x : Holder). HaveSoundRows v.rows x.1) v.seen l (v.sound_rows ok).1) there;
            has = found_holds (λ (x : HeldPin). Has (wants v.rows (live_files x.copy)) image) (is_held_pin session token) l.pins p held_files there;
          })

      by : (x : VersionWord) → catalogue_asked l session x ≡ Some c → IsRead v.rows image c
      by asks.Latest is = (let same : l.catalogue ≡ c = cc in present same)
      by (asks.At n) is = (let same : l.catalogue ≡ c = cc in present same)
      by (asks.Pin token) is = pinned token (find (is_held_pin session token) l.pins) refl is

  -- none of its files is unsound
  asked_sound : (session : ℕ) (words : QueryWords) → HasUnsoundFile story.told l session words → ⊥
  asked_sound session words has =
      let c = has.catalogue in
      let f = has.found in
      let t = meta_at c f.relation.table in
      let image = (v.read ok).0 in
      let told = (v.read ok).1 in
      let read = asked_read image told session words.version c has.asked in
      let there = name_there c words.relation f.relation has.relation in
      let given = meta_given v.rows c image f.relation.table read.sound_rows read.has there.0 in
      let q = read_in c f in
      seen_sound v.rows image story.told told (relation_read t.lineage q.relation.view (planned t q.query.version))
      (all_given v.rows image t.lineage q.relation.view (read_view t.lineage f there.1) (planned t q.query.version) (all_planned (AreGiven v.rows image t.lineage) t (all_unflat (IsGiven v.rows image) (delta_live t.lineage) (deltas_of t) given) q.query.version)) has.unsound

  -- Its files tell the answer that each state gives of which the vault's books are.
  pub asked_tells : {R : Type 0} (bytes : R → Option (List ℕ)) (faults : R → ℕ) (session : ℕ) (words : QueryWords) (p : Pinned R) → HasItsFiles bytes faults story.told l session words p
      → (s : State) (answer : Answer) → AreBooksOf sound (books_of v.rows l) s → query_answer s.warehouse session words ≡ Ok answer → Tells bytes p answer
  asked_tells bytes faults session words p has s answer are is =
      let c = has.catalogue in
      let f = has.found in
      let t = meta_at c f.relation.table in
      let image = (v.read ok).0 in
      let told = (v.read ok).1 in
      let shaped = asked_shaped o g sound l story held h running refused v session words.version c has.asked in
      let read = asked_read image told session words.version c has.asked in
      let there = name_there c words.relation f.relation has.relation in
      let range = version_range l session words c has.asked f.relation.table f.query.version there.0 has.version shaped v.versions in
      let rowed : AreBooksOf true (books_of v.rows l) s = record { projection = are.projection; machine = are.machine; rows = λ yes. are.rows ok; pins = λ yes. are.pins ok } in
      let sees = sees_state l session words c has.asked f.relation.table f.query.version there.0 has.version has.sees v.rows range.0 range.1 s rowed in
      let found : Ok (answer_found sees.sees.store f) ≡ Ok answer = sym (has.answered s.warehouse session sees.sees) ∙ is in
      let same : answer_found sees.sees.store f ≡ answer = cc in
      let columns = seen_columns v.rows c f.query.version sees.sees.store f.relation sees.has in
      let content = seen_content v.rows c f.query.version sees.sees.store f.relation sees.has in
      let q = read_in c f in
      let its = all_at (IsShaped c.floor c.next) c.tables f.relation.table no_meta shaped.tables there.0 in
      let sound_rows = all_at (HasSoundRows v.rows) c.tables f.relation.table no_meta read.sound_rows there.0 in
      let given = meta_given v.rows c image f.relation.table read.sound_rows read.has there.0 in
      let allowed : IsAllowed t.lineage f = record {
        query = subst (λ (s : Columns). IsQueryOf s f.query) (columns_found c f.relation) has.query;
        within = has.within;
        views = its.lineage.views;
        there = there.1;
      } in
      let formed = content_form v.rows c.floor c.next t its sound_rows f.query.version None tt in
      pinned_tells bytes faults story.told t q p has.files (read_view t.lineage f there.1) v.rows image told c.floor c.next its sound_rows given answer
      (ap (λ (a : Answer). a.page) (sym same) ∙ (λ j. page_of f.query.version f.query.limit f.query.resume (answer_rows (columns j) f.query.asked (content j)))
      ∙ (λ j. page_of (sym (read_version t.lineage f) j) (sym (read_limit t.lineage f) j) (sym (read_resume t.lineage f) j) (sym (read_rows v.rows t f f.query.version allowed formed) j))
      ∙ ap (λ n. page_of q.query.version q.query.limit q.query.resume (answer_rows (columns_read t.lineage q.relation.view) q.query.asked (content_read v.rows t q.relation.view n))) (sym (read_version t.lineage f)))
      (ap (λ (a : Answer). a.heading) (sym same) ∙ (λ j. record { kinds = sym has.kinds j; prefix = sym (read_prefix t.lineage f) j }))

-- the books answer a query that has its files
pub files_answered : {R : Type 0} (bytes : R → Option (List ℕ)) (faults : R → ℕ) (told : Option Image) (l : EngineState) (session : ℕ) (words : QueryWords) (p : Pinned R) → HasItsFiles bytes faults told l session words p → Answers l session words
files_answered bytes faults told l session words p has = (answer_found has.sees.store has.found, has.answered (books_of no_rows l).bare session has.sees)

-- they answer it at its files' version, under their heading, whatever rows the files have
files_headed : {R : Type 0} (bytes : R → Option (List ℕ)) (faults : R → ℕ) (told : Option Image) (l : EngineState) (session : ℕ) (words : QueryWords) (p : Pinned R) → HasItsFiles bytes faults told l session words p
    → (sound : Bool) (rows : Rows) (s : State) (answer : Answer) → AreBooksOf sound (books_of rows l) s → query_answer s.warehouse session words ≡ Ok answer → IsHeaded p.query p.version answer
files_headed bytes faults told l session words p has sound rows s answer are is =
    let f = has.found in
    let l' = (meta_at has.catalogue f.relation.table).lineage in
    let found = answer_found has.sees.store f in
    let both : Ok (bare_answer answer) ≡ Ok (bare_answer found) =
    ap (bare_result bare_answer) (sym is) ∙ query-bare s.warehouse session words ∙ ap (λ (x : Warehouse). bare_result bare_answer (query_answer x session words)) are.projection ∙ ap (bare_result bare_answer) (has.answered (books_of no_rows l).bare session has.sees) in
    let same : bare_answer answer ≡ bare_answer found = cc in
    record {
      at = ap (λ (a : Answer). a.page.version) same ∙ sym (read_version l' f) ∙ sym has.files.version;
      heading = ap (λ (a : Answer). a.heading) same ∙ (λ j. record { kinds = sym has.kinds j; prefix = sym (read_prefix l' f) j }) ∙ ap (λ (q : BuiltQuery). record { kinds = group_kinds q; prefix = q.prefix }) (sym has.files.query);
    }

-- ---- what a turn leaves

-- Whatever rows the files had when the run began, the query is open; on a sound store its files tell the answer.
pub opened_is : {R : Type 0} (bytes : R → Option (List ℕ)) (faults : R → ℕ) (n : Starts) (l : EngineState) (story new : Story) (held : Option (List ℕ)) (h : List Entry) (running refused : Bool) → IsVaultAt n l story held h running refused
    → (s number : ℕ) → s < 2 ^ 16 → number < 2 ^ 32 → (words : QueryWords) (m : ℕ) → m ≡ story.moment → running ≡ true → Unmoved story new → ((w : Rows) → IsDue n.script (run_at n.script (n.start w) h) s number (command.Query words) First)
    → Counts story new false → (at : ℕ) → at ≡ length h → l.closed ≡ None → (p : Pinned R) → HasItsFiles bytes faults story.told l s words p
    → IsOpen n.script n.start (h ++ entry s number kind.Decide outcome.Stands m ∷ []) s number words at (λ w answer. IsHeaded p.query p.version answer × (n.sound w → Tells bytes p answer))
opened_is bytes faults n l story new held h running refused v s number low few words m moment ran unmoved due counts at place was_open p has w =
    let o = outset_of n w in
    let plain = v w false (λ is. absurd cc) in
    let answers = files_answered bytes faults story.told l s words p has in
    let mine : IsPinned false (books_of plain.rows l) s words (IsHeaded p.query p.version) = record {
      asked = answers;
      answers = λ state answer are is. files_headed bytes faults story.told l s words p has false plain.rows state answer are is;
    } in
    let bare = opened_from o (n.origin w) false l story held h running refused plain s number low few words m moment ran new unmoved (due w) (IsHeaded p.query p.version) mine counts at place in
    record {
      answer = bare.answer;
      due = bare.due;
      told = (
        bare.told,
        λ sound.
            let vault = v w true (λ is. sound) in
            let mine : IsPinned true (books_of vault.rows l) s words (Tells bytes p) = record {
              asked = answers;
              answers = asked_tells o (n.origin w) true l story held h running refused vault refl was_open bytes faults s words p has;
            } in
            let full = opened_from o (n.origin w) true l story held h running refused vault s number low few words m moment ran new unmoved (due w) (Tells bytes p) mine counts at place in
            subst (Tells bytes p) (one_answer o (h ++ entry s number kind.Decide outcome.Stands m ∷ []) s number at words (IsHeaded p.query p.version) (Tells bytes p) bare full) full.told,
      );
    }

-- ---- damage

not_so : (b : Bool) → (b ≡ true → ⊥) → b ≡ false
not_so true never = absurd (never refl)
not_so false never = refl

-- On a sound store opening a query's files meets no damage.
pub opened_undamaged : (n : Starts) (l : EngineState) (story : Story) (held : Option (List ℕ)) (h : List Entry) (running refused : Bool) → IsVaultAt n l story held h running refused → (s : ℕ) (words : QueryWords) (failure : Failure)
    → (tells_damage failure ≡ true → HasUnsoundFile story.told l s words) → (w : Rows) → n.sound w → tells_damage failure ≡ false
opened_undamaged n l story held h running refused v s words failure unsound w sound =
    not_so (tells_damage failure) (λ is. let has = unsound is in asked_sound (outset_of n w) (n.origin w) true l story held h running refused (v w true (λ ok. sound)) refl has.opened s words has)

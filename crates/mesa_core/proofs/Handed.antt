-- What files that are handed out for a query say of its answer, from its first turn to the page that is printed at its close.
use Rattle.std.proofs.Common.{◌≡◌, ℕ, List, [], ◌∷◌, append-nil, true, false, refl, sym, ap, ◌∙◌, subst, Option, None, Some, Ok, Err}
use Rattle.std.specs.Prelude.{IfErr, IfNone, IfSome, Result}
use Rattle.std.specs.List.{AllByRecursion}
use Rattle.mesa_recast_turns.specs.mesa_answer.Answering.{KeepsSums}
use Rattle.mesa_recast_turns.specs.mesa_read_turns.Closing.{IsPageOf as IsClosedWith, IsSomePageOf, IsToClose, cause_if}
use Rattle.mesa_recast_turns.specs.mesa_read_turns.Opening.{IsHeaded}
use Rattle.mesa_filter.specs.declared.words.QueryWords.{QueryWords}
use Rattle.mesa_delta.specs.declared.error.FileError.{FileError}
use Rattle.mesa_delta.specs.declared.error.FileError.TheVariants as file_error
use Rattle.mesa_recast_turns.specs.mesa_history_spec.Run.{State, Finished}
use Rattle.mesa_recast_turns.specs.mesa_merge.Inputs.{Known, knowns_of}
use Rattle.mesa_model.specs.declared.commands.Script.{Script}
use Rattle.mesa_model.specs.declared.entries.Entry.{Entry}
use Rattle.mesa_model.specs.declared.entries.Kind.TheVariants as kind
use Rattle.mesa_model.specs.Query.{Answer}
use Rattle.mesa_recast_turns.specs.mesa_query.mesa_group_blocks.Moved.{inputs_in}
use Rattle.mesa_recast_turns.specs.mesa_query.Files.{owns_in}
use Rattle.mesa_recast_turns.specs.mesa_pick_files.Told.{AreOfRelation, parts_known, parts_under}
use Rattle.mesa_recast_turns.specs.mesa_pick_files.Told.{Tells as TellsOf}
use Rattle.mesa_recast_turns.specs.mesa_query.mesa_group_blocks.Ungrouped.{parts_ungrouped, rows_ungrouped}
use Rattle.mesa_recast_turns.specs.mesa_query.Relation.{page_over, parts_pinned}
use Rattle.mesa_recast_turns.specs.mesa_columns.declared.rows.Row.{Row}
use Rattle.mesa_recast_turns.specs.mesa_columns.Columns.{Columns}
use Rattle.mesa_open_files.specs.mesa_fold.Folded.{rows_of}
use Rattle.mesa_script.specs.Rows.{rendered}
use Rattle.mesa_script.specs.declared.rendered.Rendered.{Rendered}
use Rattle.mesa_core.specs.Pins.{HasAnswered, IsOpenQuery, TakesQuery, heading_in, known_pin}
use Rattle.mesa_recast_turns.specs.mesa_history_spec.Rows.{Rows, no_rows}
use Rattle.mesa_open_files.specs.Errors.{HasDiffered}
use Rattle.mesa_open_files.specs.GivingBack.{SomeFailed, pinned_inputs}
use Rattle.mesa_open_files.specs.Pins.{IsPinned, IsPinnedInput, rows_pinned}
use Rattle.mesa_open_files.specs.declared.querying.Pinned.{Pinned}
use Rattle.mesa_open_files.specs.declared.querying.PinnedInput.{PinnedInput}
use Rattle.mesa_recast_turns.specs.mesa_invariant_spec.Queries.{IsOpen, closing_fault, closing_outcome}
use Rattle.mesa_recast_turns.specs.mesa_invariant_spec.Turns.{IsSeen, IsTurn, Shown, Takes}
use Rattle.mesa_recast_turns.specs.mesa_invariant_spec.Undamaged.{is_damaged}
use Rattle.mesa_recast_turns.specs.mesa_invariant_spec.Invariant.{run_at}
use Rattle.mesa_core.specs.Handing.{Tells}

-- ---- the close

module _ {R : Type 0} (bytes : R → Option (List ℕ)) where
  abbrev knowns : List (PinnedInput R) → List Known
  knowns files = knowns_of bytes (inputs_in files)

  -- the relation's rows, by what is known of the files
  pub parts_are : (view : Option ℕ) (files : List (PinnedInput R)) (contents : List (List Row)) → parts_pinned view files contents ≡ parts_known view (knowns files) (owns_in files) contents
  parts_are view [] contents = refl
  parts_are view (file ∷ files) [] = refl
  parts_are view (file ∷ files) (rows ∷ contents) = ap (λ (more : List (List Row)). rows_pinned view file rows ∷ more) (parts_are view files contents)

  -- and its rows before any are grouped
  under_is : (view : Option ℕ) (files : List (PinnedInput R)) (contents : List (List Row)) → parts_ungrouped view files contents ≡ parts_under view (knowns files) (owns_in files) contents
  under_is view [] contents = refl
  under_is view (file ∷ files) [] = refl
  under_is view (file ∷ files) (rows ∷ contents) = ap (λ (more : List (List Row)). rows_ungrouped view file rows ∷ more) (under_is view files contents)

  pub relation_is : (s : Columns) (view : Option ℕ) (files : List (PinnedInput R)) → AllByRecursion (IsPinnedInput bytes s view) files → AreOfRelation s view (knowns files) (owns_in files)
  relation_is s view [] each = tt
  relation_is s view (file ∷ files) each = (each.0.relation, relation_is s view files each.1)

  module _ (faults : R → ℕ) (p : Pinned R) where
    -- the page that is printed is the answer's
    told_page : (answered : Result Rendered FileError) (answer : Answer) → HasAnswered bytes faults p answered → TellsOf bytes p answer → IsClosedWith answered p.version answer
    told_page (Err e) answer has tells = tt
    told_page (Ok text) answer has tells =
        let (s, pinned, found) = has in
        let (page, over, printed) = found in
        let page_is : page ≡ answer.page =
        over tells.contents tells.told
        ∙ ap (page_over s p.query) (parts_are p.view p.inputs.items tells.contents)
        ∙ sym (tells.page s (relation_is s p.view p.inputs.items pinned.inputs)) in
        let heading : heading_in p.query ≡ answer.heading = sym tells.heading in
        let text_is : text ≡ rendered answer.heading answer.page = printed ∙ (λ i. rendered (heading i) (page_is i)) in
        (text_is, sym tells.at)

    -- and on any store it is under the answer's heading, at its version
    told_some : (answered : Result Rendered FileError) (answer : Answer) → HasAnswered bytes faults p answered → IsHeaded p.query p.version answer → IsSomePageOf answered p.version answer
    told_some (Err e) answer has headed = tt
    told_some (Ok text) answer has headed =
        let (s, pinned, found) = has in
        let (page, over, printed) = found in
        let heading : heading_in p.query ≡ answer.heading = sym headed.heading in
        (page, printed ∙ (λ i. rendered (heading i) page), sym headed.at)

    pub to_close : (script : Script) (from : Rows → State) (sound : Rows → Type 0) (h : List Entry) (session number : ℕ) (answered : Result Rendered FileError) → IsOpenQuery script from h session number p.at (λ past. Tells sound (known_pin bytes p))
        → HasAnswered bytes faults p answered → (w : Rows) → IsToClose script (run_at script (from w) h) session number p.at (λ (answer : Answer). IsSomePageOf answered p.version answer × (sound w → IsClosedWith answered p.version answer))
    to_close script from sound h session number answered is has w =
        let o = is.opened w in
        record {
          words = is.words;
          opened = record {
            answer = o.answer;
            due = o.due;
            told = (told_some answered o.answer has o.told.0, λ ok. told_page answered o.answer has (o.told.1 ok));
          };
        }

    -- where the files tell the answer, no damage comes in its place
    pub none_damaged : (answered : Result Rendered FileError) (answer : Answer) → HasAnswered bytes faults p answered → TellsOf bytes p answer → is_damaged (closing_outcome (cause_if answered)) ≡ false
    none_damaged (Ok text) answer has tells = refl
    none_damaged (Err file_error.Read) answer has tells = refl
    none_damaged (Err (file_error.Damaged d)) answer has tells =
        let (s, pinned, damage) = has in
        absurd (damage.never tells.contents tells.told (subst (λ (parts : List (List Row)). KeepsSums s (rows_of parts)) (sym (under_is p.view p.inputs.items tells.contents)) (tells.sums s (relation_is s p.view p.inputs.items pinned.inputs))))
    none_damaged (Err file_error.Memory) answer has tells = refl

    pub has_differed : (answered : Result Rendered FileError) → HasAnswered bytes faults p answered → IfErr answered HasDiffered
    has_differed (Ok text) has = tt
    has_differed (Err file_error.Read) has = tt
    has_differed (Err (file_error.Damaged d)) has = has.2.differs
    has_differed (Err file_error.Memory) has = tt

    pub has_failed : (answered : Result Rendered FileError) → HasAnswered bytes faults p answered → closing_fault (cause_if answered) ≡ true → SomeFailed faults (pinned_inputs p)
    has_failed (Ok text) has is = absurd (let never : false ≡ true = is in cc)
    has_failed (Err file_error.Read) has is = has.2
    has_failed (Err (file_error.Damaged d)) has is = absurd (let never : false ≡ true = is in cc)
    has_failed (Err file_error.Memory) has is = absurd (let never : false ≡ true = is in cc)

  -- ---- the first turn

  module _ (script : Script) (from : Rows → State) (sound : Rows → Type 0) (old new : Shown) (session number : ℕ) (words : QueryWords) where
    pub takes_query : (result : Option (Pinned R)) → IfSome result (λ p. IsOpen script from new.history session number words p.at (λ w answer. IsHeaded p.query p.version answer × (sound w → TellsOf bytes p answer))) → IfSome result (λ p. (s : Columns) × IsPinned bytes s p)
        → IfSome result (λ _. IsTurn old new session number kind.Decide) → IsSeen script (from no_rows) new → old.running ≡ true → IfNone result (Takes script (from no_rows) old new session number kind.Decide Finished)
        → TakesQuery bytes script from (λ past. Tells sound) old new session number result
    takes_query (Some p) opened pinned turn seen ran over = (
      record {
        turn = turn;
        seen = seen;
        ran = ran;
        opened = record {
          words = words;
          past = new.history;
          later = [];
          whole = append-nil new.history;
          opened = opened;
        };
      },
      pinned,
    )
    takes_query None opened pinned turn seen ran over = over

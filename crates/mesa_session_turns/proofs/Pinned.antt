-- A pinned query that was answered: what is known of its files is what was known before, and its page is that of the files as they are now.
use Rattle.std.proofs.Common.{◌≡◌, inl, inr, ⊎_elim, ℕ, ◌<◌, List, [], ◌∷◌, map, refl, sym, ap, ◌∙◌, subst}
use Rattle.std.specs.Prelude.{◌⊎◌, Option, Result, Ok, Err, IfOk, IfErr}
use Rattle.mesa_file.specs.declared.damage.Damage.{Damage}
use Rattle.mesa_core.specs.mesa_columns.declared.rows.Row.{Row}
use Rattle.mesa_core.specs.mesa_columns.Columns.{Columns}
use Rattle.mesa_core.specs.mesa_schema.Changes.{epoch_of, lifted}
use Rattle.mesa_core.specs.mesa_fold.Folded.{rows_of}
use Rattle.mesa_model.specs.declared.replies.Page.{Page}
use Rattle.mesa_script.specs.declared.rendered.Rendered.{Rendered}
use Rattle.mesa_script.specs.Rows.{rendered}
use Rattle.mesa_core.specs.mesa_answer.Answering.{KeepsSums}
use Rattle.mesa_core.specs.mesa_answer.Gathering.{wanted_by}
use Rattle.mesa_delta.specs.declared.error.FileError.{FileError}
use Rattle.mesa_delta.specs.declared.error.FileError.TheVariants as file
use Rattle.mesa_core.specs.mesa_merge.Faults.{SomeRose, faults_of}
use Rattle.mesa_core.specs.mesa_merge.Inputs.{Known, AreTold, known_of, knowns_of}
use Rattle.mesa_query.specs.mesa_scan.Cursors.{reader_in}
use Rattle.mesa_filter.specs.Query.{BuiltQuery}
use Rattle.mesa_open_files.specs.GivingBack.{SomeFailed, pinned_inputs}
use Rattle.mesa_open_files.specs.Pins.{relation_rows}
use Rattle.mesa_open_files.specs.declared.querying.Pinned.{Pinned}
use Rattle.mesa_open_files.specs.declared.querying.PinnedInput.{PinnedInput}
use Rattle.mesa_core.proofs.Known.{cons_none, first_same, rest_same}
use Rattle.mesa_query.specs.mesa_group_blocks.Moved.{inputs_in}
use Rattle.mesa_query.specs.Files.{IsDamageIn, owns_in}
use Rattle.mesa_query.specs.mesa_group_blocks.Ungrouped.{parts_ungrouped, rows_under}
use Rattle.mesa_query.specs.Relation.{page_over, parts_pinned}
use Rattle.mesa_query.specs.Sums.{IsSumIn}
use Rattle.mesa_core.specs.Damages.{IsUnread}
use Rattle.mesa_core.specs.Pins.{IsAnswer, IsAnswerDamage, IsPageOver, heading_in, known_pin}
use Rattle.mesa_query.specs.Same.{IsSamePin, readers_in}
use Rattle.mesa_query.proofs.Differing.{query_differs, rose_failed}

-- ---- files of which the same is known

module _ {R : Type 0} (bytes : R → Option (List ℕ)) where
  abbrev knowns : List (PinnedInput R) → List Known
  knowns files = knowns_of bytes (inputs_in files)

  module _ (o n : PinnedInput R) (same : known_of bytes n.input ≡ known_of bytes o.input) where
    table : n.input.evolving.value ≡ o.input.evolving.value
    table = ap (λ (k : Known). k.table) same

    epoch : n.input.epoch ≡ o.input.epoch
    epoch = ap (λ (k : Known). k.epoch) same

    lifts : (rows : List Row) → map (λ (row : Row). lifted n.input.evolving.value n.input.epoch (epoch_of n.input.evolving.value) row) rows ≡ map (λ (row : Row). lifted o.input.evolving.value o.input.epoch (epoch_of o.input.evolving.value) row) rows
    lifts rows = λ j. map (λ (row : Row). lifted (table j) (epoch j) (epoch_of (table j)) row) rows

    pub one_part : (view : Option ℕ) (rows : List Row) → n.own ≡ o.own
        → relation_rows view n.input.evolving.value (map (λ (row : Row). lifted n.input.evolving.value n.input.epoch (epoch_of n.input.evolving.value) row) rows) n.own
        ≡ relation_rows view o.input.evolving.value (map (λ (row : Row). lifted o.input.evolving.value o.input.epoch (epoch_of o.input.evolving.value) row) rows) o.own
    one_part view rows own = λ j. relation_rows view (table j) (lifts rows j) (own j)

    pub one_ungrouped : (view : Option ℕ) (rows : List Row) → n.own ≡ o.own
        → rows_under view n.input.evolving.value (map (λ (row : Row). lifted n.input.evolving.value n.input.epoch (epoch_of n.input.evolving.value) row) rows) n.own
        ≡ rows_under view o.input.evolving.value (map (λ (row : Row). lifted o.input.evolving.value o.input.epoch (epoch_of o.input.evolving.value) row) rows) o.own
    one_ungrouped view rows own = λ j. rows_under view (table j) (lifts rows j) (own j)

  same_parts : (view : Option ℕ) (old new : List (PinnedInput R)) (contents : List (List Row)) → knowns new ≡ knowns old → owns_in new ≡ owns_in old → parts_pinned view new contents ≡ parts_pinned view old contents
  same_parts view [] [] contents known own = refl
  same_parts view [] (n ∷ new) contents known own = absurd (cons_none _ _ known)
  same_parts view (o ∷ old) [] contents known own = absurd (cons_none _ _ (sym known))
  same_parts view (o ∷ old) (n ∷ new) [] known own = refl
  same_parts view (o ∷ old) (n ∷ new) (rows ∷ contents) known own =
      λ j. one_part o n (first_same _ _ _ _ known) view rows (first_same _ _ _ _ own) j ∷ same_parts view old new contents (rest_same _ _ _ _ known) (rest_same _ _ _ _ own) j

  same_ungrouped : (view : Option ℕ) (old new : List (PinnedInput R)) (contents : List (List Row)) → knowns new ≡ knowns old → owns_in new ≡ owns_in old → parts_ungrouped view new contents ≡ parts_ungrouped view old contents
  same_ungrouped view [] [] contents known own = refl
  same_ungrouped view [] (n ∷ new) contents known own = absurd (cons_none _ _ known)
  same_ungrouped view (o ∷ old) [] contents known own = absurd (cons_none _ _ (sym known))
  same_ungrouped view (o ∷ old) (n ∷ new) [] known own = refl
  same_ungrouped view (o ∷ old) (n ∷ new) (rows ∷ contents) known own =
      λ j. one_ungrouped o n (first_same _ _ _ _ known) view rows (first_same _ _ _ _ own) j ∷ same_ungrouped view old new contents (rest_same _ _ _ _ known) (rest_same _ _ _ _ own) j

  -- ---- a query before and after its files were read

  module _ (old new : Pinned R) (rest' : new ≡ record old { inputs = new.inputs }) (known : knowns new.inputs.items ≡ knowns old.inputs.items) (own : owns_in new.inputs.items ≡ owns_in old.inputs.items) where
    pub query : new.query ≡ old.query
    query = ap (λ (p : Pinned R). p.query) rest'

    view : new.view ≡ old.view
    view = ap (λ (p : Pinned R). p.view) rest'

    pub known_stays : known_pin bytes new ≡ known_pin bytes old
    known_stays = λ j. record {
      query = query j;
      version = ap (λ (p : Pinned R). p.version) rest' j;
      view = view j;
      at = ap (λ (p : Pinned R). p.at) rest' j;
      files = known j;
      own = own j;
    }

    parts_stay : (contents : List (List Row)) → parts_pinned new.view new.inputs.items contents ≡ parts_pinned old.view old.inputs.items contents
    parts_stay contents = ap (λ (v : Option ℕ). parts_pinned v new.inputs.items contents) view ∙ same_parts old.view old.inputs.items new.inputs.items contents known own

    pub ungrouped_stay : (contents : List (List Row)) → parts_ungrouped new.view new.inputs.items contents ≡ parts_ungrouped old.view old.inputs.items contents
    ungrouped_stay contents = ap (λ (v : Option ℕ). parts_ungrouped v new.inputs.items contents) view ∙ same_ungrouped old.view old.inputs.items new.inputs.items contents known own

    pub page_stays : (s : Columns) (page : Page) → IsPageOver bytes s old page → IsPageOver bytes s new page
    page_stays s page over contents told = over contents (subst (λ ks. AreTold ks contents) known told) ∙ sym (λ j. page_over s (query j) (parts_stay contents j))

    -- a page that was printed, or not for want of memory
    pub page_closes : (faults : R → ℕ) (s : Columns) (page : Page) (r : Result Rendered FileError) → IsPageOver bytes s old page → IfOk r (λ text. text ≡ rendered (heading_in new.query) page) → IfErr r (λ e. e ≡ file.Memory) → IsAnswer bytes faults s new r
    page_closes faults s page (Ok text) over is none = (page, page_stays s page over, is)
    page_closes faults s page (Err e) over is none = subst (IsUnread faults (pinned_inputs new) (IsAnswerDamage bytes s new)) (sym none) tt

    -- why there is no page
    pub fault_closes : (faults size : R → ℕ) (s : Columns) (e : FileError) → (e ≡ file.Read → SomeRose (faults_of faults (inputs_in old.inputs.items)) (faults_of faults (inputs_in new.inputs.items)))
        → ((d : Damage) → e ≡ file.Damaged d → IsDamageIn bytes size d old.inputs.items new.inputs.items ⊎ IsSumIn bytes (wanted_by s old.query) old.query.asked.terms old.view old.inputs.items d)
        → ((d : Damage) → e ≡ file.Damaged d → (contents : List (List Row)) → AreTold (knowns old.inputs.items) contents → KeepsSums s (rows_of (parts_ungrouped old.view old.inputs.items contents)) → ⊥)
        → IsUnread faults (pinned_inputs new) (IsAnswerDamage bytes s new) e
    fault_closes faults size s file.Read failed damaged never = rose_failed faults _ (inputs_in new.inputs.items) (failed refl)
    fault_closes faults size s (file.Damaged d) failed damaged never = record {
      differs = query_differs bytes size (wanted_by s old.query) old.query.asked.terms old.view d old.inputs.items new.inputs.items (damaged d refl);
      never = λ contents told sums. never d refl contents (subst (λ ks. AreTold ks contents) known told) (subst (λ parts. KeepsSums s (rows_of parts)) (ungrouped_stay contents) sums);
    }
    fault_closes faults size s file.Memory failed damaged never = tt

  -- ---- the same query, without its caches

  failed_along : (faults : R → ℕ) (old new : List (PinnedInput R)) → readers_in new ≡ readers_in old → SomeFailed faults (inputs_in old) → SomeFailed faults (inputs_in new)
  failed_along faults [] new same failed = absurd failed
  failed_along faults (o ∷ old) [] same failed = absurd (cons_none _ _ (sym same))
  failed_along faults (o ∷ old) (n ∷ new) same failed = ⊎_elim
      (λ (one : 0 < faults (reader_in o.input)). inl (subst (λ (r : R). 0 < faults r) (sym (first_same _ _ _ _ same)) one))
      (λ (more : SomeFailed faults (inputs_in old)). inr (failed_along faults old new (rest_same _ _ _ _ same) more))
      failed

  module _ (old new : Pinned R) (same : IsSamePin bytes old new) where
    pub known_along : known_pin bytes new ≡ known_pin bytes old
    known_along = known_stays old new same.rest same.files.known same.files.own

    pub answer_along : (faults : R → ℕ) (s : Columns) (r : Result Rendered FileError) → IsAnswer bytes faults s old r → IsAnswer bytes faults s new r
    answer_along faults s (Ok text) is =
        (is.0, page_stays old new same.rest same.files.known same.files.own s is.0 is.1, is.2 ∙ ap (λ (q : BuiltQuery). rendered (heading_in q) is.0) (sym (query old new same.rest same.files.known same.files.own)))
    answer_along faults s (Err file.Read) is = failed_along faults old.inputs.items new.inputs.items same.files.readers is
    answer_along faults s (Err (file.Damaged d)) is = record {
      differs = is.differs;
      never = λ contents told sums. is.never contents (subst (λ ks. AreTold ks contents) same.files.known told) (subst (λ parts. KeepsSums s (rows_of parts)) (ungrouped_stay old new same.rest same.files.known same.files.own contents) sums);
    }
    answer_along faults s (Err file.Memory) is = tt

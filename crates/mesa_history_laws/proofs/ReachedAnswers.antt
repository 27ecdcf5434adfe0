-- Answers at any version, also by a pin, are pages of what the fold law gives, and so is whatever is printed.
use Rattle.std.proofs.Common.{◌≡◌, ◌≤◌, ℕ, zero, suc, ◌-◌, List, [], ◌∷◌, refl, sym, ◌∙◌, ap, subst, arith, Some, Ok, get_or, slice_get}
use Rattle.mesa_history_spec.specs.mesa_list.Checks.{◌>>=◌}
use Rattle.mesa_history_spec.specs.mesa_filter.declared.words.QueryWords.{QueryWords}
use Rattle.mesa_history_spec.specs.mesa_filter.declared.words.VersionWord.{VersionWord}
use Rattle.mesa_history_spec.specs.mesa_filter.declared.words.VersionWord.TheVariants as asks
use Rattle.mesa_history_spec.specs.mesa_model.declared.commands.Script.{Script}
use Rattle.mesa_history_spec.specs.mesa_model.declared.entries.Entry.{Entry}
use Rattle.mesa_history_spec.specs.mesa_model.declared.replies.Page.{Page}
use Rattle.mesa_history_spec.specs.mesa_model.declared.replies.Refusal.TheVariants as no
use Rattle.mesa_history_spec.specs.mesa_model.declared.replies.Reply.TheVariants as reply
use Rattle.mesa_history_spec.specs.mesa_model.Versions.{oldest_among}
use Rattle.mesa_history_spec.specs.mesa_model.Warehouse.{Pin, Store, Table, Warehouse, content_at}
use Rattle.mesa_history_spec.specs.mesa_model.WellFormed.{IsWellFormed}
use Rattle.mesa_history_spec.specs.mesa_model.Pins.{is_pin, pin_of, store_at, table_pinned}
use Rattle.mesa_history_spec.specs.mesa_model.Refusals.{refuse_closed}
use Rattle.mesa_history_spec.specs.mesa_model.Query.{Answer, query_answer, store_asked}
use Rattle.mesa_history_spec.specs.Law.{law_content}
use Rattle.mesa_history_spec.specs.Run.{State, Told, begins}
use Rattle.mesa_history_spec.specs.Replay.{runs, told_by}
use Rattle.mesa_history_laws.specs.Answers.{IsFromItsPin, IsFromItsVersion}
use Rattle.mesa_history_laws.specs.Given.{WasGiven, warehouse_after}
use Rattle.mesa_history_laws.specs.Printed.{IsPrintedFromTheFold}
use Rattle.mesa_history_laws.proofs.AnswersOver.{answer_at, answer_in, answers_same, at_version, like_mapped, present_version}
use Rattle.mesa_history_laws.proofs.Checks.{bound, bound_some, passed}
use Rattle.mesa_history_laws.proofs.FoldLaw.{law_holds}
use Rattle.mesa_history_laws.proofs.FromTheFold.{answer_folds, present_folds, seen_in}
use Rattle.mesa_history_laws.proofs.LaterRelations.{relation_there}
use Rattle.mesa_history_spec.proofs.mesa_columns.Lists.{all_found}
use Rattle.mesa_history_laws.proofs.Pinning.{pins_given}
use Rattle.mesa_history_laws.proofs.Printing.{pages_answered}

-- an answer over tables pinned at a version is the answer over the tables at that version
unpinned : (s : Store) (words : QueryWords) (version : ℕ) → answer_in (store_at s version) words (at_version version) ≡ answer_in s words (at_version version)
unpinned s words version =
    answers_same (λ number t other. other ≡ table_pinned version t) words (at_version version) (at_version version) s (store_at s version)
    (like_mapped (λ number t other. other ≡ table_pinned version t) (table_pinned version) (λ t. refl) (λ t. refl) (λ number t. refl) 0 s.tables)
    (λ r t found same. record {
      version = refl;
      rows = λ seen told.
          let at : version ≡ seen = cc in
          let place : seen - version ≡ 0 = omega (arith, at) in
          ap (λ (x : Table). content_at x seen) same ∙ ap (λ i. get_or (content_at r.table version ∷ []) i []) place ∙ ap (content_at r.table) at;
    })

-- the pin that a query names, and the answer over it
pin_named : (w : Warehouse) (session token : ℕ) (words : QueryWords) (answer : Answer) → answer_at w session words (asks.Pin token) ≡ Ok answer
    → (pin : Pin) × (pin_of w session token ≡ Some pin) × (answer_in pin.store words (at_version pin.store.floor) ≡ Ok answer)
pin_named w session token words answer e =
    let open' = passed (refuse_closed w.closed) (store_asked w session (asks.Pin token) >>= (λ store. answer_in store words (at_version store.floor))) answer e in
    let store = bound (store_asked w session (asks.Pin token)) (λ (store : Store). answer_in store words (at_version store.floor)) answer open' in
    let pin = bound_some (pin_of w session token) (no.NoPin token) (λ (pin : Pin). Ok pin.store) store.0 store.1 in
    let of = pin.2 in
    let same : store.0 ≡ pin.0.store = cc in
    (pin.0, pin.1, subst (λ (s : Store). answer_in s words (at_version s.floor) ≡ Ok answer) same store.2)

-- no table's oldest version is above the first at which all can be queried
oldest_below : (floor : ℕ) (ts : List Table) (number : ℕ) (t : Table) → slice_get ts number ≡ Some t → t.oldest ≤ oldest_among floor ts
oldest_below floor [] number t at = cc
oldest_below floor (x ∷ ts) zero t at = (let same : x ≡ t = cc in let is = ap (λ (y : Table). y.oldest) same in omega (arith, is))
oldest_below floor (x ∷ ts) (suc number) t at = (let rest = oldest_below floor ts number t at in omega (arith, rest))

module _ (script : Script) (start : State) (is : IsWellFormed start.warehouse) (none : start.warehouse.pins ≡ []) where
  pinned_folds : (h : List Entry) (session token : ℕ) (words : QueryWords) (answer : Answer) → answer_at (warehouse_after script start h) session words (asks.Pin token) ≡ Ok answer → IsFromItsPin script start h session token words answer
  pinned_folds h session token words answer e =
      let now : Warehouse = warehouse_after script start h in
      let named = pin_named now session token words answer e in
      let pin : Pin = named.0 in
      let given : WasGiven script start h pin = all_found (WasGiven script start h) (is_pin session token) now.pins pin named.1 (pins_given script start is none h) in
      let then : Warehouse = warehouse_after script start given.before in
      let over : answer_in (store_at then.store pin.version) words (at_version pin.version) ≡ Ok answer = subst (λ (s : Store). answer_in s words (at_version s.floor) ≡ Ok answer) given.store named.2 in
      let plain : answer_in then.store words (at_version pin.version) ≡ Ok answer = sym (unpinned then.store words pin.version) ∙ over in
      let seen = seen_in then.store words (at_version pin.version) answer plain in
      let above = oldest_below then.store.floor then.store.tables seen.0.number seen.0.table (relation_there then.store words.relation seen.0 seen.1) in
      let pinned = given.above in
      record {
        pin = pin;
        held = named.1;
        given = given;
        fold = (answer_folds (law_content script start given.before) then (law_holds script start given.before is) words pin.version answer (at_version pin.version) seen.0 seen.1 refl (omega (arith, above, pinned), given.below) plain).0;
      }

  version_folds : (h : List Entry) (session : ℕ) (words : QueryWords) (answer : Answer) (version : VersionWord) → words.version ≡ version → answer_at (warehouse_after script start h) session words version ≡ Ok answer
      → IsFromItsVersion script start h session words answer version
  version_folds h session words answer asks.Latest at e =
      let now : Warehouse = warehouse_after script start h in
      present_folds script start h words answer is (subst (λ v. answer_in now.store words (present_version now v) ≡ Ok answer) (sym at) (passed (refuse_closed now.closed) (answer_in now.store words (present_version now asks.Latest)) answer e))
  version_folds h session words answer (asks.At version) at e =
      let now : Warehouse = warehouse_after script start h in
      present_folds script start h words answer is (subst (λ v. answer_in now.store words (present_version now v) ≡ Ok answer) (sym at) (passed (refuse_closed now.closed) (answer_in now.store words (present_version now (asks.At version))) answer e))
  version_folds h session words answer (asks.Pin token) at e = pinned_folds h session token words answer e

  -- The answer to a query, after any history, is from the fold at its version.
  pub answers_fold : (h : List Entry) (session : ℕ) (words : QueryWords) (answer : Answer) → query_answer (warehouse_after script start h) session words ≡ Ok answer → IsFromItsVersion script start h session words answer words.version
  answers_fold h session words answer e = version_folds h session words answer words.version refl e

  -- Every page that is printed is from the fold, at the position with which it is printed.
  pub pages_fold : (h : List Entry) (e : Entry) (told : Told) (page : Page) → told_by script (runs script (begins start) h) e ≡ Some told → told.reply ≡ reply.Page page → IsPrintedFromTheFold script start h e.session told
  pages_fold h e told page tells reads =
      let was = pages_answered script start h e told page tells reads in
      record { was = was; fold = answers_fold was.before e.session was.words was.answer was.answers }

-- An answer at a version stays while the table's epoch does and the version can be queried.
use Rattle.std.proofs.Common.{◌≡◌, ℕ, ◌<◌, ◌≤◌, List, sym, ◌∙◌, ap, subst, arith, Option, Some, Result, Ok, option_map, slice_get, nat_le}
use Rattle.std.specs.Prelude.{IfSome}
use Rattle.std.proofs.lemmas.Bool.{le-ltb, lt-leb}
use Rattle.mesa_history_spec.specs.mesa_list.Checks.{◌>>=◌, ◌>>◌, refuse_if, refused_as}
use Rattle.mesa_history_spec.specs.mesa_columns.declared.rows.Row.{Row}
use Rattle.mesa_history_spec.specs.mesa_columns.declared.views.View.{View}
use Rattle.mesa_history_spec.specs.mesa_columns.Columns.{Columns}
use Rattle.mesa_history_spec.specs.mesa_schema.Changes.{epoch_of}
use Rattle.mesa_history_spec.specs.mesa_filter.declared.words.QueryWords.{QueryWords}
use Rattle.mesa_history_spec.specs.mesa_filter.declared.words.VersionWord.TheVariants as asks
use Rattle.mesa_history_spec.specs.mesa_filter.Asked.{asked_of}
use Rattle.mesa_history_spec.specs.mesa_filter.Resume.{resume_of}
use Rattle.mesa_history_spec.specs.mesa_model.declared.commands.Script.{Script}
use Rattle.mesa_history_spec.specs.mesa_model.declared.entries.Entry.{Entry}
use Rattle.mesa_history_spec.specs.mesa_model.declared.replies.Refusal.{Refusal}
use Rattle.mesa_history_spec.specs.mesa_model.declared.replies.Refusal.TheVariants as no
use Rattle.mesa_history_spec.specs.mesa_model.Warehouse.{Store, Table, Warehouse, content_at, newest_of}
use Rattle.mesa_history_spec.specs.mesa_model.WellFormed.{IsWellFormed}
use Rattle.mesa_history_spec.specs.mesa_model.Page.{page_of}
use Rattle.mesa_history_spec.specs.mesa_model.Relations.{Relation, relation_of}
use Rattle.mesa_history_spec.specs.mesa_model.Refusals.{query_refusal, refuse_closed}
use Rattle.mesa_history_spec.specs.mesa_model.Versions.{version_asked, version_checked}
use Rattle.mesa_history_spec.specs.mesa_model.Query.{Answer, answer_rows, heading_of, query_answer}
use Rattle.mesa_history_spec.specs.Run.{Run}
use Rattle.mesa_history_spec.specs.Replay.{runs}
use Rattle.mesa_history_laws.specs.Later.{IsLater, IsStillThere, epoch_named, oldest_named}
use Rattle.mesa_history_laws.proofs.AnswersOver.{answer_at, answer_from, answer_in, answer_of, at_version, columns_seen, present_version, rows_seen}
use Rattle.mesa_history_laws.proofs.Checks.{checked_ok, passed}
use Rattle.mesa_history_laws.proofs.Counting.{versions_counted}
use Rattle.mesa_history_laws.proofs.FromTheFold.{seen_in}
use Rattle.mesa_history_laws.proofs.LaterRelations.{relation_later, relation_there}
use Rattle.mesa_history_laws.proofs.Staying.{table_stays}
use Rattle.mesa_history_laws.proofs.WellFormed.{runs_well, version_there}

-- ---- a relation's answer

over_relation : (s : Store) (words : QueryWords) (version : ℕ) (r : Relation) → relation_of s words.relation ≡ Some r → answer_in s words (at_version version) ≡ answer_from words r.view r.table.lineage (Ok version) (content_at r.table)
over_relation s words version r found = ap (answer_of words (at_version version)) found

-- what a query is answered over an epoch, columns and rows
abbrev answer_with : QueryWords → ℕ → Option View → ℕ → Columns → List Row → Result Answer Refusal
answer_with words version view epoch s rows = do
  asked ← refused_as query_refusal (asked_of (columns_seen s view) words)
  resume ← refused_as query_refusal (resume_of (columns_seen s view) words.relation version epoch asked.columns words.resume)
  Ok (record {
    page = page_of version words.limit resume (answer_rows (columns_seen s view) asked (rows_seen s view rows));
    heading = heading_of (columns_seen s view) words version epoch asked;
  })

-- the same where the version is seen as this of the relation's table
over_seen : (s : Store) (words : QueryWords) (seen : Table → Result ℕ Refusal) (version : ℕ) (r : Relation) → relation_of s words.relation ≡ Some r → seen r.table ≡ Ok version → answer_in s words seen ≡ answer_in s words (at_version version)
over_seen s words seen version r found is =
    ap (answer_of words seen) found ∙ ap (λ told. answer_from words r.view r.table.lineage told (content_at r.table)) is ∙ sym (over_relation s words version r found)

-- ---- a version later on

-- a version that is there passes
passes : (w : Warehouse) (oldest version : ℕ) → oldest ≤ version → version < w.next → version_asked w oldest (asks.At version) ≡ Ok version
passes w oldest version le lt =
    ap (λ b. refuse_if b (no.Stale version oldest) >> refuse_if (nat_le w.next version) (no.Future (asks.At version) (newest_of w)) >> Ok version) (le-ltb version oldest le)
    ∙ ap (λ b. refuse_if b (no.Future (asks.At version) (newest_of w)) >> Ok version) (lt-leb w.next version lt)

same_some : {A : Type 0} (x y : A) → Some x ≡ Some y → x ≡ y
same_some x y e = cc

module _ (script : Script) (r : Run) (h : List Entry) (is : IsWellFormed r.state.warehouse) where
  abbrev was : Warehouse
  was = r.state.warehouse

  abbrev now : Warehouse
  now = (runs script r h).state.warehouse

  -- Tables stay: their names, their views, and while the epoch is the same the columns and the contents.
  pub tables_stay : (number : ℕ) (t : Table) → slice_get was.store.tables number ≡ Some t → (later : Table) × (slice_get now.store.tables number ≡ Some later) × IsLater was t later
  tables_stay number t at =
      let stays = table_stays script r h number t is at in
      (stays.table, stays.there, stays.later)

  module _ (words : QueryWords) (version : ℕ) (same : epoch_named now.store words.relation ≡ epoch_named was.store words.relation) (le : IfSome (oldest_named now.store words.relation) (λ oldest. oldest ≤ version)) (lt : version < was.next) (r' : Relation) (here : relation_of was.store words.relation ≡ Some r') where
    -- the table of the relation, later on
    abbrev there : Table
    there = (table_stays script r h r'.number r'.table is (relation_there was.store words.relation r' here)).table

    still_found : relation_of now.store words.relation ≡ Some (record r' { table = there })
    still_found =
        let stays = table_stays script r h r'.number r'.table is (relation_there was.store words.relation r' here) in
        let later : IsLater was r'.table stays.table = stays.later in
        relation_later was.store now.store words.relation r' stays.table later.more here (runs_well script r h is).names stays.there later.name later.views

    -- the version can be asked for of it
    above : there.oldest ≤ version
    above = subst (λ (o : Option Relation). IfSome (option_map (λ (x : Relation). x.table.oldest) o) (λ oldest. oldest ≤ version)) still_found le

    answer_stays : answer_in now.store words (at_version version) ≡ answer_in was.store words (at_version version)
    answer_stays =
        let later : IsLater was r'.table there = (table_stays script r h r'.number r'.table is (relation_there was.store words.relation r' here)).later in
        let epoch : epoch_of there.lineage ≡ epoch_of r'.table.lineage =
        same_some (epoch_of there.lineage) (epoch_of r'.table.lineage) (sym (ap (option_map (λ (x : Relation). epoch_of x.table.lineage)) still_found) ∙ same ∙ ap (option_map (λ (x : Relation). epoch_of x.table.lineage)) here) in
        over_relation now.store words version (record r' { table = there }) still_found
        ∙ (λ i. answer_with words version r'.view (epoch i) (later.columns epoch i) (later.contents epoch version above lt i))
        ∙ sym (over_relation was.store words version r' here)

    answer_again : (seen later : Table → Result ℕ Refusal) (answer : Answer) → seen r'.table ≡ Ok version → later there ≡ Ok version → answer_in was.store words seen ≡ Ok answer → answer_in now.store words later ≡ Ok answer
    answer_again seen later answer was_seen is_seen e =
        over_seen now.store words later version (record r' { table = there }) still_found is_seen ∙ answer_stays ∙ sym (over_seen was.store words seen version r' here was_seen) ∙ e

  -- An answer at a version stays: whoever asks again, while the warehouse is open, the version can be queried and the table's epoch is the same, gets the same answer.
  pub answers_stay : (session other : ℕ) (words : QueryWords) (version : ℕ) (answer : Answer) → words.version ≡ asks.At version → query_answer was session words ≡ Ok answer → IsStillThere was now words.relation version → query_answer now other words ≡ Ok answer
  answers_stay session other words version answer at e still =
      let first : answer_at was session words (asks.At version) ≡ Ok answer = subst (λ v. answer_at was session words v ≡ Ok answer) at e in
      let over = passed (refuse_closed was.closed) (answer_in was.store words (present_version was (asks.At version))) answer first in
      let seen = seen_in was.store words (present_version was (asks.At version)) answer over in
      let r' : Relation = seen.0 in
      let ok = checked_ok (version_checked was r'.table.oldest version) (Ok version) seen.2 seen.3 in
      let there = version_there was r'.table.oldest version ok in
      let grown = versions_counted script r h 0 in
      let lt = there.1 in
      subst (λ v. answer_at now other words v ≡ Ok answer) (sym at)
      (ap (λ closed. refuse_closed closed >> answer_in now.store words (present_version now (asks.At version))) still.opens
      ∙ answer_again words version still.epoch still.there there.1 r' seen.1 (present_version was (asks.At version)) (present_version now (asks.At version)) answer
      (passes was r'.table.oldest version there.0 there.1)
      (let begins = above words version still.epoch still.there there.1 r' seen.1 in passes now _ version begins (omega (arith, lt, grown))) over)

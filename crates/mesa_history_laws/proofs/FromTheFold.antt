-- Answers are pages of what the fold law gives.
use Rattle.std.proofs.Common.{◌≡◌, ℕ, ◌-◌, ◌==◌, ◌⊎◌, inl, inr, ◌<◌, ◌≤◌, List, refl, sym, ◌∙◌, ap, subst, arith, Option, Some, None, Result, Ok}
use Rattle.std.proofs.lemmas.Bool.{eq-eqb}
use Rattle.mesa_history_spec.specs.mesa_list.Checks.{◌>>=◌, refuse_if, refused_as}
use Rattle.mesa_history_spec.specs.mesa_columns.declared.rows.Row.{Row}
use Rattle.mesa_history_spec.specs.mesa_schema.Changes.{columns_of, epoch_of}
use Rattle.mesa_history_spec.specs.mesa_filter.declared.words.QueryWords.{QueryWords}
use Rattle.mesa_history_spec.specs.mesa_filter.declared.words.VersionWord.{VersionWord}
use Rattle.mesa_history_spec.specs.mesa_filter.declared.words.VersionWord.TheVariants as asks
use Rattle.mesa_history_spec.specs.mesa_filter.Asked.{Asked, asked_of}
use Rattle.mesa_history_spec.specs.mesa_filter.Resume.{resume_of}
use Rattle.mesa_history_spec.specs.mesa_model.declared.commands.Script.{Script}
use Rattle.mesa_history_spec.specs.mesa_model.declared.entries.Entry.{Entry}
use Rattle.mesa_history_spec.specs.mesa_model.declared.replies.Refusal.{Refusal}
use Rattle.mesa_history_spec.specs.mesa_model.declared.replies.Refusal.TheVariants as no
use Rattle.mesa_history_spec.specs.mesa_model.Warehouse.{Store, Table, Warehouse, content_at}
use Rattle.mesa_history_spec.specs.mesa_model.WellFormed.{IsWellFormed}
use Rattle.mesa_history_spec.specs.mesa_model.Page.{page_of}
use Rattle.mesa_history_spec.specs.mesa_model.Relations.{Relation, relation_columns, relation_of}
use Rattle.mesa_history_spec.specs.mesa_model.Refusals.{no_such_table, query_refusal}
use Rattle.mesa_history_spec.specs.mesa_model.Versions.{version_asked, version_checked}
use Rattle.mesa_history_spec.specs.mesa_model.Query.{Answer, answer_over, answer_rows}
use Rattle.mesa_history_spec.specs.Law.{HoldsIn, law_content}
use Rattle.mesa_history_spec.specs.Run.{State, begins}
use Rattle.mesa_history_laws.specs.Answers.{IsByLaw, IsFromThePresent}
use Rattle.mesa_history_laws.specs.Given.{warehouse_after}
use Rattle.mesa_history_laws.proofs.AnswersOver.{answer_from, answer_in, answer_of, present_version, rows_seen}
use Rattle.mesa_history_laws.proofs.Checks.{bound, bound_other, bound_some, checked_ok, passed, passed_unless}
use Rattle.mesa_history_laws.proofs.FoldLaw.{law_holds}
use Rattle.mesa_history_laws.proofs.LaterRelations.{relation_there}
use Rattle.mesa_history_laws.proofs.WellFormed.{runs_well, table_kept, version_there}

-- ---- answers over the law

-- the answer over a relation at a version, once its resume key is read
abbrev resumed : QueryWords → Relation → ℕ → Asked → Result Answer Refusal
resumed words r n asked = refused_as query_refusal (resume_of (relation_columns r) words.relation n (epoch_of r.table.lineage) asked.columns words.resume) >>= (λ (resume : Option (List ℕ)). Ok (answer_over r words n asked resume))

module _ (law : ℕ → Table → ℕ → List Row) (now : Warehouse) (holds : HoldsIn law now) (words : QueryWords) (version : ℕ) where
  -- An answer over the present tables, at a version at which its relation's table can be queried, is by the law.
  pub answer_folds : (answer : Answer) (seen : Table → Result ℕ Refusal) (r : Relation) → relation_of now.store words.relation ≡ Some r → seen r.table ≡ Ok version → (r.table.oldest ≤ version) × (version < now.next)
      → answer_in now.store words seen ≡ Ok answer → (fold : IsByLaw law now.store words version answer) × (fold.relation ≡ r)
  answer_folds answer seen r found told there is =
      let own : answer_from words r.view r.table.lineage (seen r.table) (content_at r.table) ≡ Ok answer = sym (ap (answer_of words seen) found) ∙ is in
      let asked = bound_other query_refusal (asked_of (relation_columns r) words) _ answer own in
      let known = subst (λ (v : Result ℕ Refusal). (v >>= (λ (n : ℕ). resumed words r n asked.0)) ≡ Ok answer) told asked.2 in
      let resume = bound_other query_refusal (resume_of (relation_columns r) words.relation version (epoch_of r.table.lineage) asked.0.columns words.resume) _ answer known in
      let last : Ok (answer_over r words version asked.0 resume.0) ≡ Ok answer = resume.2 in
      let same : answer_over r words version asked.0 resume.0 ≡ answer = cc in (
        record {
          relation = r;
          asked = asked.0;
          resume = resume.0;
          named = found;
          asks = asked.1;
          resumes = resume.1;
          page = ap (λ (a : Answer). a.page) (sym same)
              ∙ ap (λ rows. page_of version words.limit resume.0 (answer_rows (relation_columns r) asked.0 (rows_seen (columns_of r.table.lineage) r.view rows)))
              (holds r.number r.table version (relation_there now.store words.relation r found) there.0 there.1);
          heading = ap (λ (a : Answer). a.heading) (sym same);
        },
        refl,
      )

-- ---- the version that is asked

-- A version that is asked for and there can be queried, where the oldest one is there.
pub asked_there : (w : Warehouse) (oldest : ℕ) → (oldest < w.next) ⊎ ((oldest ≡ 0) × (w.next ≡ 0)) → (asked : VersionWord) (version : ℕ) → version_asked w oldest asked ≡ Ok version → (oldest ≤ version) × (version < w.next)
asked_there w oldest kept asks.Latest version e =
    let newest : Ok (w.next - 1) ≡ Ok version = passed (refuse_if (w.next == 0) (no.Future asks.Latest None)) (Ok (w.next - 1)) version e in
    let same : w.next - 1 ≡ version = cc in
    let some = passed_unless (w.next == 0) (no.Future asks.Latest None) (Ok (w.next - 1)) version e in
    elim kept as (λ _. (oldest ≤ version) × (version < w.next)) [
      | inl lt ↦ (omega (arith, lt, same), omega (arith, lt, same))
      | inr empty ↦ (let none = eq-eqb w.next 0 empty.1 in cc)
    ]
asked_there w oldest kept (asks.At version) seen e =
    let passes = passed (version_checked w oldest version) (Ok version) seen e in
    let same : version ≡ seen = cc in
    let there = version_there w oldest version (checked_ok (version_checked w oldest version) (Ok version) seen e) in
    let le = there.0 in
    let lt = there.1 in
    (omega (arith, le, same), omega (arith, lt, same))
asked_there w oldest kept (asks.Pin token) version e = cc

-- an answer was made over a relation, at the version that is seen of its table
pub seen_in : (s : Store) (words : QueryWords) (seen : Table → Result ℕ Refusal) (answer : Answer) → answer_in s words seen ≡ Ok answer → (r : Relation) × (relation_of s words.relation ≡ Some r) × (version : ℕ) × (seen r.table ≡ Ok version)
seen_in s words seen answer is =
    let relation = bound_some (relation_of s words.relation) no_such_table _ answer is in
    let asked = bound_other query_refusal (asked_of (relation_columns relation.0) words) _ answer relation.2 in
    let version = bound (seen relation.0.table) _ answer asked.2 in
    (relation.0, relation.1, version.0, version.1)

-- The answer to a query of the present tables, after any history, is from the fold.
pub present_folds : (script : Script) (start : State) (h : List Entry) (words : QueryWords) (answer : Answer) → IsWellFormed start.warehouse
    → answer_in (warehouse_after script start h).store words (present_version (warehouse_after script start h) words.version) ≡ Ok answer → IsFromThePresent script start h words answer
present_folds script start h words answer is e =
    let now : Warehouse = warehouse_after script start h in
    let seen = seen_in now.store words (present_version now words.version) answer e in
    let r : Relation = seen.0 in
    let kept = table_kept now (runs_well script (begins start) h is) r.number r.table (relation_there now.store words.relation r seen.1) in
    let folds = answer_folds (law_content script start h) now (law_holds script start h is) words seen.2 answer (present_version now words.version) r seen.1 seen.3
    (asked_there now r.table.oldest kept words.version seen.2 seen.3) e in
    record {
      version = seen.2;
      fold = folds.0;
      asked = ap (λ (x : Relation). version_asked now x.table.oldest words.version) folds.1 ∙ seen.3;
    }

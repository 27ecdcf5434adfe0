-- The rows that files tell, and their digests.
use Rattle.std.proofs.Common.{◌≡◌, ℕ, ◌+◌, ◌<◌, List, [], ◌∷◌, inl, inr, true, refl, sym, ◌∙◌, ap, subst, arith}
use Rattle.std.specs.Prelude.{Option, Result, Err}
use Rattle.std.specs.List.{AllByRecursion}
use Rattle.mesa_recover.specs.mesa_io.Causes.{Rose}
use Rattle.mesa_disk.specs.Story.{Story}
use Rattle.mesa_delta.specs.declared.input.Input.{Input}
use Rattle.mesa_query.specs.mesa_scan.Cursors.{reader_in}
use Rattle.mesa_digest.specs.Digests.{digests_of}
use Rattle.mesa_digest.specs.Digests as digest
use Rattle.mesa_digest.specs.declared.digesting.DigestPair.{DigestPair}
use Rattle.mesa_pick_files.specs.mesa_columns.declared.rows.Row.{Row}
use Rattle.mesa_pick_files.specs.mesa_columns.Columns.{Columns, aggs_of}
use Rattle.mesa_pick_files.specs.mesa_columns.Rows.{AreRowsOf, keys_rise}
use Rattle.mesa_pick_files.proofs.mesa_fold.RisingRows.{folded_rise}
use Rattle.mesa_filter.specs.Asked.{Asked, places_below}
use Rattle.mesa_pick_files.specs.mesa_model.Query.{answer_rows}
use Rattle.mesa_pick_files.specs.mesa_model.Relations.{relation_columns, relation_content}
use Rattle.mesa_pick_files.specs.mesa_answer.Answering.{grouped_columns}
use Rattle.mesa_store_spec.specs.Catalog.{Catalog}
use Rattle.mesa_pick_files.specs.mesa_merge.Faults.{SomeRose, faults_of}
use Rattle.mesa_pick_files.specs.mesa_merge.Inputs.{AreTold, knowns_of}
use Rattle.mesa_pick_files.specs.Told.{TellContent}
use Rattle.mesa_query.specs.mesa_group_blocks.Moved.{inputs_in}
use Rattle.mesa_query.specs.Relation.{parts_pinned}
use Rattle.mesa_query.specs.Whole.{whole_over}
use Rattle.mesa_open_files.specs.GivingBack.{GivesBack, SomeFailed}
use Rattle.mesa_open_files.specs.declared.querying.Pinned.{Pinned}
use Rattle.mesa_store_spec.specs.Contents.{kept_of}
use Rattle.mesa_store_digest.specs.Latest.{HasContent, IsLatest, all_asked}
use Rattle.mesa_store_digest.specs.Looked.{AreDigests, IsDigestOf}
use Rattle.mesa_store_digest.proofs.AllAsked.{answer_itself, chosen_below}

-- all columns are the columns
pub all_columns : (s : Columns) → grouped_columns s (places_below s.keys) (places_below s.values) ≡ s
all_columns s = λ i. record { keys = chosen_below s.keys s.keys refl i; values = chosen_below s.values s.values refl i }

pub rows_formed : (s : Columns) (asked : Asked) (rows : List Row) → asked ≡ all_asked s → AreRowsOf (grouped_columns s asked.columns asked.values) rows → AreRowsOf s rows
rows_formed s asked rows is form = subst (λ (t : Columns). AreRowsOf t rows) ((λ i. grouped_columns s (is i).columns (is i).values) ∙ all_columns s) form

-- The whole answer of all columns is the content that the files tell.
pub told_rows : {R : Type 0} (bytes : R → Option (List ℕ)) (s : Columns) (p : Pinned R) (rows told : List Row) → p.query.asked ≡ all_asked s
    → ((contents : List (List Row)) → AreTold (knowns_of bytes (inputs_in p.inputs.items)) contents → rows ≡ whole_over s p.query (parts_pinned p.view p.inputs.items contents)) → TellContent bytes s p told → rows ≡ told
told_rows bytes s p rows told is over tells =
    let parts : List (List Row) = parts_pinned p.view p.inputs.items tells.contents in
    let rise : keys_rise told ≡ true = subst (λ (rs : List Row). keys_rise rs ≡ true) tells.fold (folded_rise (aggs_of s) parts) in
    over tells.contents tells.told ∙ (λ i. answer_rows s (is i) (tells.fold i)) ∙ answer_itself s told tells.form rise

-- Their digests are those of the relation.
pub looked_is : {R : Type 0} (bytes : R → Option (List ℕ)) (story : Story) (c : Catalog) (name : List ℕ) (p : Pinned R) (s : Columns) (pair : DigestPair) (version : ℕ) (latest : IsLatest bytes story c name p) → relation_columns latest.relation ≡ s → version ≡ p.version → AreDigests bytes s p pair
    → IsDigestOf story c name version pair.rows pair.ordered pair.set
looked_is bytes story c name p s pair version latest same at of = record {
  relation = latest.relation;
  named = latest.named;
  newest = latest.newest ∙ ap (λ n. n + 1) (sym at);
  content = of.content;
  form = subst (λ (t : Columns). AreRowsOf t of.content) (sym same) of.form;
  is = λ files start.
      let its = latest.told files start in
      let here : HasContent (kept_of files c).store name (relation_columns latest.relation) p.version its.0 = its.1 in
      let rows : of.content ≡ its.0 = of.told its.0 (subst (λ (t : Columns). TellContent bytes t p its.0) same its.2) in
      record { relation = here.relation; named = here.named; columns_are = here.columns_are; content_is = ap (relation_content here.relation) at ∙ here.content_is ∙ sym rows };
  rows_are = ap (λ (d : DigestPair). d.rows) of.are;
  ordered_is = ap (λ (d : DigestPair). d.ordered) of.are;
  set_is = ap (λ (d : DigestPair). d.set) of.are ∙ ap (λ (t : Columns). digest.set t of.content) (sym same);
}

-- ---- counts

-- equal results of one error have equal errors
pub err_is : {T E : Type 0} (e f : E) → ◌≡◌ {A = Result T E} (Err e) (Err f) → e ≡ f
err_is e f is = cc

-- where a reader has failed, its giving back is counted
pub failed_rose : {R : Type 0} (faults : R → ℕ) (inputs : List (Input R)) (before now : ℕ) → AllByRecursion (λ (i : Input R). 0 < faults (reader_in i) → Rose before now) inputs → SomeFailed faults inputs → Rose before now
failed_rose faults [] before now all failed = absurd failed
failed_rose faults (i ∷ inputs) before now all (inl here) = all.0 here
failed_rose faults (i ∷ inputs) before now all (inr more) = failed_rose faults inputs before now all.1 more

-- readers whose counts stay have met no fault if they had met none
pub still_fresh : {R : Type 0} (faults : R → ℕ) (old new : List (Input R)) → AllByRecursion (λ (i : Input R). faults (reader_in i) ≡ 0) old → faults_of faults new ≡ faults_of faults old → AllByRecursion (λ (i : Input R). faults (reader_in i) ≡ 0) new
still_fresh faults old [] fresh e = tt
still_fresh faults [] (i ∷ new) fresh e = cc e
still_fresh faults (o ∷ old) (i ∷ new) fresh e =
    let first : faults (reader_in i) ≡ faults (reader_in o) = cc e in
    let rest : faults_of faults new ≡ faults_of faults old = cc e in
    (first ∙ fresh.0, still_fresh faults old new fresh.1 rest)

-- a reader that had met no fault and whose count rose has failed
pub rose_failed : {R : Type 0} (faults : R → ℕ) (old new : List (Input R)) → AllByRecursion (λ (i : Input R). faults (reader_in i) ≡ 0) old → SomeRose (faults_of faults old) (faults_of faults new) → SomeFailed faults new
rose_failed faults [] new fresh rose = absurd rose
rose_failed faults (o ∷ old) [] fresh rose = absurd rose
rose_failed faults (o ∷ old) (i ∷ new) fresh (inl here) = inl (omega (arith, here))
rose_failed faults (o ∷ old) (i ∷ new) fresh (inr more) = inr (rose_failed faults old new fresh.1 more)

-- readers that were fresh, and whose counts stay, are given back without a count
pub given_quiet : {R : Type 0} (faults : R → ℕ) (was is : List (Input R)) (old new : Story) → AllByRecursion (λ (i : Input R). faults (reader_in i) ≡ 0) was → faults_of faults is ≡ faults_of faults was → GivesBack faults is old new → (new.faults ≡ old.faults) × (new.read_faults ≡ old.read_faults)
given_quiet faults was is old new fresh stay given = (given.calls, given.quiet (still_fresh faults was is fresh stay))

-- and where a count of theirs rose, one of the disk rises
pub given_rose : {R : Type 0} (faults : R → ℕ) (was is : List (Input R)) (old new : Story) → AllByRecursion (λ (i : Input R). faults (reader_in i) ≡ 0) was → SomeRose (faults_of faults was) (faults_of faults is) → GivesBack faults is old new → Rose old.read_faults new.read_faults
given_rose faults was is old new fresh rose given = failed_rose faults is old.read_faults new.read_faults given.counted (rose_failed faults was is fresh rose)

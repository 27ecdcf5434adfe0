-- An expiry changes no answer at a version that outlives it, and one of a table none over another table.
use Rattle.std.proofs.Common.{◌≡◌, ℕ, ◌+◌, ◌-◌, ◌<◌, ◌≤◌, List, [], refl, sym, ◌∙◌, ap, subst, arith, true, not, Option, Some, None, Result, Ok, Err, nat_le, ◌==◌, get_or, ◌⊎◌, inl, inr}
use Rattle.std.specs.Prelude.{max}
use Rattle.std.proofs.lemmas.Bool.{cases_lt, eq-eqb, le-ltb, leb-true}
use Rattle.std.proofs.lemmas.List.{get_or-drop}
use Rattle.mesa_history_spec.specs.mesa_list.Checks.{◌>>=◌, ◌>>◌, refuse_if}
use Rattle.mesa_history_spec.specs.mesa_filter.declared.words.QueryWords.{QueryWords}
use Rattle.mesa_history_spec.specs.mesa_filter.declared.words.VersionWord.{VersionWord}
use Rattle.mesa_history_spec.specs.mesa_filter.declared.words.VersionWord.TheVariants as asks
use Rattle.mesa_history_spec.specs.mesa_model.declared.commands.Command.TheVariants as command
use Rattle.mesa_history_spec.specs.mesa_model.declared.replies.Refusal.{Refusal}
use Rattle.mesa_history_spec.specs.mesa_model.declared.replies.Refusal.TheVariants as no
use Rattle.mesa_history_spec.specs.mesa_model.declared.replies.Reply.{Reply}
use Rattle.mesa_history_spec.specs.mesa_model.Warehouse.{Store, Table, Warehouse, content_at, newest_of, table_at}
use Rattle.mesa_history_spec.specs.mesa_model.Relations.{Relation, relation_of, table_number}
use Rattle.mesa_history_spec.specs.mesa_model.Refusals.{refuse_closed}
use Rattle.mesa_history_spec.specs.mesa_model.Step.{done_or_refused, step}
use Rattle.mesa_history_spec.specs.mesa_model.Versions.{expire_to, store_from, table_from, version_asked, version_checked}
use Rattle.mesa_history_spec.specs.mesa_model.Query.{query_answer}
use Rattle.mesa_history_laws.specs.Versions.{differ, is_of_another, outlives}
use Rattle.mesa_history_laws.proofs.AnswersOver.{AreLike, SeesSame, answer_at, answers_same, like_mapped, like_set, present_version}
use Rattle.mesa_history_laws.proofs.Checks.{after_check, after_some, passed}
use Rattle.mesa_history_laws.proofs.WellFormed.{version_there}

-- ---- a table without its versions below one

-- a version that isn't below the new oldest is checked as before
same_checked : (w : Warehouse) (was oldest version : ℕ) → oldest ≤ version → version_checked w (max was oldest) version ≡ version_checked w was version
same_checked w was oldest version le =
    let rest : Result (Unit {0}) Refusal = refuse_if (nat_le w.next version) (no.Future (asks.At version) (newest_of w)) in
    elim (cases_lt version was) [
      | inl stale ↦ (let same : max was oldest ≡ was = omega (arith, stale, le) in ap (λ n. version_checked w n version) same)
      | inr above ↦
          let high : max was oldest ≤ version = omega (arith, above, le) in
          ap (λ b. refuse_if b (no.Stale version (max was oldest)) >> rest) (le-ltb version (max was oldest) high)
          ∙ ap (λ b. refuse_if b (no.Stale version was) >> rest) (sym (le-ltb version was above))
    ]

-- it has the contents that it had at those that are left
same_content : (t : Table) (oldest version : ℕ) → oldest ≤ version → content_at (table_from oldest t) version ≡ content_at t version
same_content t oldest version le =
    let place : oldest - t.oldest + (version - max t.oldest oldest) ≡ version - t.oldest = omega (arith, le) in
    get_or-drop (oldest - t.oldest) t.contents (version - max t.oldest oldest) [] ∙ ap (λ i. get_or t.contents i []) place

-- a table, or the same without its versions below one
abbrev IsFrom : ℕ → ℕ → Table → Table → Type 0
IsFrom oldest number t other = (other ≡ t) ⊎ (other ≡ table_from oldest t)

rows_left : (oldest number : ℕ) (t other : Table) → IsFrom oldest number t other → (version : ℕ) → oldest ≤ version → content_at other version ≡ content_at t version
rows_left oldest number t other (inl same) version le = ap (λ (x : Table). content_at x version) same
rows_left oldest number t other (inr same) version le = ap (λ (x : Table). content_at x version) same ∙ same_content t oldest version le

checked_left : (w : Warehouse) (oldest number : ℕ) (t other : Table) → IsFrom oldest number t other → (version : ℕ) → oldest ≤ version → version_checked w other.oldest version ≡ version_checked w t.oldest version
checked_left w oldest number t other (inl same) version le = ap (λ (x : Table). version_checked w x.oldest version) same
checked_left w oldest number t other (inr same) version le = ap (λ (x : Table). version_checked w x.oldest version) same ∙ same_checked w t.oldest oldest version le

-- ---- answers at versions that are left

module _ (w : Warehouse) (new : Store) (oldest : ℕ) (below : oldest < w.next) (like : AreLike (IsFrom oldest) 0 w.store.tables new.tables) (session : ℕ) (words : QueryWords) where
  abbrev after : Warehouse
  after = record w { store = new }

  latest_same : (number : ℕ) (t other : Table) → IsFrom oldest number t other → SeesSame (present_version w asks.Latest) (present_version after asks.Latest) t other
  latest_same number t other from = record {
    version = refl;
    rows = λ version told.
        let is : Ok (w.next - 1) ≡ Ok version = passed (refuse_if (w.next == 0) (no.Future asks.Latest None)) (Ok (w.next - 1)) version told in
        let newest : w.next - 1 ≡ version = cc in
        rows_left oldest number t other from version (omega (arith, newest, below));
  }

  at_same : (version : ℕ) → oldest ≤ version → (number : ℕ) (t other : Table) → IsFrom oldest number t other → SeesSame (present_version w (asks.At version)) (present_version after (asks.At version)) t other
  at_same version le number t other from = record {
    version = ap (λ r. r >> Ok version) (checked_left w oldest number t other from version le);
    rows = λ seen told.
        let is : Ok version ≡ Ok seen = passed (version_checked w t.oldest version) (Ok version) seen told in
        let same : version ≡ seen = cc in
        rows_left oldest number t other from seen (omega (arith, same, le));
  }

  same_at : (version : VersionWord) → outlives oldest version ≡ true → answer_at after session words version ≡ answer_at w session words version
  same_at asks.Latest out =
      ap (λ answer. refuse_closed w.closed >> answer)
      (answers_same (IsFrom oldest) words (present_version w asks.Latest) (present_version after asks.Latest) w.store new like (λ r t found from. latest_same r.number r.table t from))
  same_at (asks.At version) out =
      let le : oldest ≤ version = leb-true oldest version out in
      ap (λ answer. refuse_closed w.closed >> answer)
      (answers_same (IsFrom oldest) words (present_version w (asks.At version)) (present_version after (asks.At version)) w.store new like (λ r t found from. at_same version le r.number r.table t from))
  same_at (asks.Pin token) out = refl

-- ---- answers over other tables

-- a table, unless it has this number
abbrev IsOther : ℕ → ℕ → Table → Table → Type 0
IsOther place number t other = (number ≡ place) ⊎ (other ≡ t)

module _ (w : Warehouse) (new : Store) (place : ℕ) (like : AreLike (IsOther place) 0 w.store.tables new.tables) (session : ℕ) (words : QueryWords)
    (another : differ (Some place) (relation_of w.store words.relation) ≡ true) where
  abbrev later : Warehouse
  later = record w { store = new }

  apart : (r : Relation) → relation_of w.store words.relation ≡ Some r → r.number ≡ place → ⊥
  apart r found same =
      let is : not (r.number == place) ≡ true = subst (λ o. differ (Some place) o ≡ true) found another in
      let equal : (r.number == place) ≡ true = eq-eqb r.number place same in
      let is_not : not true ≡ true = ap not (sym equal) ∙ is in
      cc

  other_same : (version : VersionWord) (r : Relation) (t : Table) → relation_of w.store words.relation ≡ Some r → IsOther place r.number r.table t → SeesSame (present_version w version) (present_version later version) r.table t
  other_same version r t found (inl same) = absurd (apart r found same)
  other_same asks.Latest r t found (inr same) = record { version = refl; rows = λ n told. ap (λ (x : Table). content_at x n) same }
  other_same (asks.At version) r t found (inr same) = record { version = ap (λ (x : Table). version_asked w x.oldest (asks.At version)) same; rows = λ n told. ap (λ (x : Table). content_at x n) same }
  other_same (asks.Pin token) r t found (inr same) = record { version = refl; rows = λ n told. ap (λ (x : Table). content_at x n) same }

  others_at : (version : VersionWord) → answer_at later session words version ≡ answer_at w session words version
  others_at asks.Latest =
      ap (λ answer. refuse_closed w.closed >> answer)
      (answers_same (IsOther place) words (present_version w asks.Latest) (present_version later asks.Latest) w.store new like (λ r t found from. other_same asks.Latest r t found from))
  others_at (asks.At version) =
      ap (λ answer. refuse_closed w.closed >> answer)
      (answers_same (IsOther place) words (present_version w (asks.At version)) (present_version later (asks.At version)) w.store new like (λ r t found from. other_same (asks.At version) r t found from))
  others_at (asks.Pin token) = refl

-- ---- an expiry

-- the answers are the same once the expiry was done or refused
record Keeps (w : Warehouse) (session : ℕ) (words : QueryWords) (r : Result (Warehouse × Reply) Refusal) : Type 0 where
  same : query_answer (done_or_refused w r).0 session words ≡ query_answer w session words

-- An expiry changes no answer to a query whose version outlives it.
pub expire_keeps : (w : Warehouse) (session other oldest : ℕ) (table : Option (List ℕ)) (words : QueryWords) → outlives oldest words.version ≡ true
    → query_answer (step w session (command.Expire table oldest)).0 other words ≡ query_answer w other words
expire_keeps w session other oldest None words out =
    let K = Keeps w other words in
    let stays : (e : Refusal) → K (Err e) = λ e. record { same = refl } in
    let all : K (expire_to w None oldest) =
    after_check K stays (refuse_closed w.closed) _ (λ open'. after_check K stays (version_checked w w.store.floor oldest) _ (λ there.
    record { same = same_at w (store_from w.store oldest) oldest (version_there w w.store.floor oldest there).1 (like_mapped (IsFrom oldest) (table_from oldest) (λ t. refl) (λ t. refl) (λ number t. inr refl) 0 w.store.tables) other words words.version out })) in
    all.same
expire_keeps w session other oldest (Some name) words out =
    let K = Keeps w other words in
    let stays : (e : Refusal) → K (Err e) = λ e. record { same = refl } in
    let all : K (expire_to w (Some name) oldest) =
    after_check K stays (refuse_closed w.closed) _ (λ open'. after_some K stays (table_number w.store name) _ _ (λ number is. after_check K stays (version_checked w (table_at w.store number).oldest oldest) _ (λ there.
    record {
      same = same_at w _ oldest (version_there w (table_at w.store number).oldest oldest there).1
          (like_set (IsFrom oldest) (table_from oldest) (λ t. refl) (λ t. refl) (λ place t. inl refl) 0 number (λ t. inr refl) w.store.tables) other words words.version out;
    }))) in
    all.same

-- An expiry of one table changes no answer over another.
pub expire_leaves : (w : Warehouse) (session other oldest : ℕ) (table : List ℕ) (words : QueryWords) → is_of_another w.store table words.relation ≡ true
    → query_answer (step w session (command.Expire (Some table) oldest)).0 other words ≡ query_answer w other words
expire_leaves w session other oldest name words another =
    let K = Keeps w other words in
    let stays : (e : Refusal) → K (Err e) = λ e. record { same = refl } in
    let all : K (expire_to w (Some name) oldest) =
    after_check K stays (refuse_closed w.closed) _ (λ open'. after_some K stays (table_number w.store name) _ _ (λ number is. after_check K stays (version_checked w (table_at w.store number).oldest oldest) _ (λ there.
    record {
      same = others_at w _ number (like_set (IsOther number) (table_from oldest) (λ t. refl) (λ t. refl) (λ place t. inr refl) 0 number (λ t. let at : 0 + number ≡ number = omega arith in inl at) w.store.tables) other words
          (subst (λ (o : Option ℕ). differ o (relation_of w.store words.relation) ≡ true) is another) words.version;
    }))) in
    all.same

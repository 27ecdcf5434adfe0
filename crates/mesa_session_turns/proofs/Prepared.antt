-- A load's rows as they were prepared, and for how long they stand.
use Rattle.std.proofs.Common.{◌≡◌, ℕ, ◌+◌, ◌<◌, ◌≤◌, List, ◌++◌, refl, sym, ap, ◌∙◌, subst, arith, true≢false}
use Rattle.std.specs.Prelude.{Option, Result, Ok, Err, IsOk, IfOk, IfErr, OnOk, OnErr, min}
use Rattle.mesa_io.specs.Causes.{last}
use Rattle.mesa_batch.specs.Batch.{Placed, batch_of}
use Rattle.mesa_batch.specs.Glance.{Sight, tables_of}
use Rattle.mesa_batch.specs.declared.words.BatchError.{BatchError}
use Rattle.mesa_batch.specs.declared.words.RowWords.{RowWords}
use Rattle.mesa_model.specs.declared.entries.Entry.{Entry}
use Rattle.mesa_open_files.specs.Batches.{HasPrepared, IsPrepared, IsUnprepared}
use Rattle.mesa_open_files.specs.declared.prepared.LoadError.{LoadError}
use Rattle.mesa_open_files.specs.declared.prepared.LoadError.TheVariants as load
use Rattle.mesa_open_files.specs.declared.prepared.Prepared.{Prepared}
use Rattle.mesa_open_files.specs.declared.merging.CompactError.{CompactError}
use Rattle.mesa_open_files.specs.declared.merging.CompactError.TheVariants as compact
use Rattle.mesa_load.specs.Preparing.{IsReason}
use Rattle.mesa_core.specs.Answers.{Owes}
use Rattle.mesa_core.specs.Drafts.{owed_by_error, owed_by_load, owed_by_work}
use Rattle.mesa_session_turns.specs.Loads.{StaysPrepared}

ok_given : {A E : Type 0} (r : Result A E) → IsOk r → (a : A) × (r ≡ Ok a)
ok_given (Ok a) ok = (a, refl)
ok_given (Err e) ok = absurd (true≢false (sym ok))

reason_told : (batch : Result (List Placed) BatchError) (before now : ℕ) (e : LoadError) → IsReason batch before now e → IsUnprepared batch e
reason_told batch before now (load.Batch refusal) is = is.0
reason_told batch before now load.Draft is = is.0
reason_told batch before now load.Memory is = tt

-- what preparing says is what a deciding turn asks for
pub prepared_is : {M : Type 0} (bytes : M → Option (List ℕ)) (id_of : M → ℕ) (sight : Sight) (rows : List RowWords) (made : Result (Prepared M) LoadError) (before now : ℕ)
    → OnOk made (IsOk (batch_of (tables_of sight) rows)) → IfOk made (λ p. (batch : List Placed) → batch_of (tables_of sight) rows ≡ Ok batch → IsPrepared bytes id_of sight batch p) → IfErr made (IsReason (batch_of (tables_of sight) rows) before now)
    → HasPrepared bytes id_of sight rows made
prepared_is bytes id_of sight rows (Ok p) before now ok is refused = let batch = ok_given (batch_of (tables_of sight) rows) ok in (batch.0, batch.1, is batch.0 batch.1)
prepared_is bytes id_of sight rows (Err e) before now ok is refused = reason_told (batch_of (tables_of sight) rows) before now e refused

-- what was prepared by a look stands while the generation does
pub first_stays : {M E : Type 0} (bytes : M → Option (List ℕ)) (id_of : M → ℕ) (sees : List Entry → Sight) (lasts : (h more : List Entry) → (sees (h ++ more)).generation ≡ (sees h).generation → sees (h ++ more) ≡ sees h) (looked : Result Sight E) (generation : ℕ) (rows : List RowWords) (made : Result (Prepared M) LoadError)
    → IfOk looked (λ s. HasPrepared bytes id_of s rows made) → OnErr looked (made ≡ Err load.Memory) → IfOk looked (λ s. generation ≡ s.generation)
    → (h : List Entry) → IfOk looked (λ s. s ≡ sees h) → StaysPrepared bytes id_of sees h generation rows made
first_stays bytes id_of sees lasts (Ok s) generation rows made is none told h saw more same =
    subst (λ (x : Sight). HasPrepared bytes id_of x rows made) (saw ∙ sym (lasts h more (same ∙ (told ∙ ap (λ (x : Sight). x.generation) saw)))) is
first_stays bytes id_of sees lasts (Err e) generation rows made is none told h saw more same = subst (HasPrepared bytes id_of (sees (h ++ more)) rows) (sym none) tt

-- ---- what is owed

-- a failed draft of a load is owed an answer
pub owed_made : {T : Type 0} (made : Result T LoadError) → made ≡ Err load.Draft → 0 < owed_by_load made
owed_made made failed = let one : owed_by_load made ≡ 1 = ap owed_by_load failed in omega (arith, one)

-- and so is one of a work
pub owed_merged : {T : Type 0} (merged : Result T CompactError) → merged ≡ Err compact.Draft → 0 < owed_by_work merged
owed_merged merged failed = let one : owed_by_work merged ≡ 1 = ap owed_by_work failed in omega (arith, one)

-- and so is one by which a recast's ranges weren't rewritten
pub owed_error : {T : Type 0} (e : CompactError) → ◌≡◌ {A = Result T CompactError} (Err e) (Err compact.Draft) → 0 < owed_by_error e
owed_error {T = T} e failed = let one : owed_by_work {T = T} (Err e) ≡ 1 = ap owed_by_work failed in omega (arith, one)

-- preparing counts the faults that it tells
pub prepared_owes : {T : Type 0} (batch : Result (List Placed) BatchError) (before now : ℕ) (made : Result T LoadError) → IfErr made (IsReason batch before now) → OnOk made (now ≡ before) → Owes before now (owed_by_load made)
prepared_owes batch before now (Ok p) refused quiet low = let same : now ≡ before = quiet in omega (arith, same)
prepared_owes batch before now (Err (load.Batch refusal)) refused quiet low = let same : now ≡ before = refused.1 in omega (arith, same)
prepared_owes batch before now (Err load.Draft) refused quiet low = let rose : min (before + 1) last ≤ now = refused.1 in omega (arith, rose, low)
prepared_owes batch before now (Err load.Memory) refused quiet low = let same : now ≡ before = refused in omega (arith, same)

-- a load that wasn't prepared owes nothing
pub unprepared_owes : {T : Type 0} (before now : ℕ) (made : Result T LoadError) → made ≡ Err load.Memory → now ≡ before → Owes before now (owed_by_load made)
unprepared_owes before now made none same low = let zero : owed_by_load made ≡ 0 = ap owed_by_load none in omega (arith, zero, same)

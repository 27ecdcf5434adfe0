-- What comes of a round.
use Rattle.std.proofs.Common.{◌≡◌, inl, inr, ℕ, zero, suc, ◌+◌, ◌<◌, ◌≤◌, List, [], ◌∷◌, ◌++◌, get_or, length, refl, sym, subst, ◌∙◌, arith, add-one, drop, set, Global, Vec}
use Rattle.std.specs.Prelude.{Option, Some, Result, Ok, Err}
use Rattle.std.specs.List.{AllByRecursion}
use Rattle.mesa_file.specs.declared.damage.Damage.{Damage}
use Rattle.mesa_compact.specs.mesa_columns.declared.rows.Row.{Row}
use Rattle.mesa_compact.specs.mesa_columns.Columns.{Columns}
use Rattle.mesa_delta.specs.Writing.{draft_of}
use Rattle.mesa_delta.specs.declared.error.FileError.{FileError}
use Rattle.mesa_delta.specs.declared.error.FileError.TheVariants.{Damaged, Memory, Read}
use Rattle.mesa_delta.specs.declared.input.Input.{Input}
use Rattle.mesa_delta.specs.declared.writer.DeltaWriter.{DeltaWriter}
use Rattle.mesa_answer.specs.declared.groups.Groups.{Groups}
use Rattle.mesa_compact.specs.mesa_scan.Cursors.{IsInput}
use Rattle.mesa_merge.specs.Faults.{faults_of}
use Rattle.mesa_merge.specs.Inputs.{knowns_of}
use Rattle.mesa_open_files.specs.declared.merging.CompactError.{CompactError}
use Rattle.mesa_open_files.specs.declared.merging.CompactError.TheVariants.{Draft, File}
use Rattle.mesa_compact.specs.Writing.{IsDraftFault, IsReadFault, damaged_by}
use Rattle.mesa_split.specs.Held.{held_bytes, held_faults, sent_bytes, sent_number}
use Rattle.mesa_split.specs.Lending.{AreReady, HavePieces, Moved, answers_of, counts_in, lists_in, own_in}
use Rattle.mesa_split.specs.Parts.{HasPiece}
use Rattle.mesa_split.specs.Rounds.{HasFlushed, HasRound, IsFlushed, StayInputs}
use Rattle.mesa_split.specs.Split.{IsFailureOf, IsGained, IsSomeBy}
use Rattle.mesa_split.specs.Written.{HasWritten}
use Rattle.mesa_split.specs.declared.held.Held.{Held}
use Rattle.mesa_split.specs.declared.parts.Part.{Part}
use Rattle.mesa_split.proofs.Numbers.{told_same}
use Rattle.mesa_split.proofs.Verdicts.{gained_not, moved_same, pieces_accept, pieces_damaged, pieces_inputs, pieces_known, pieces_moved}
use Rattle.mesa_split.proofs.Staying.{all_lists, same_lists, some_lists, stay_none}

abbrev Answers : Type 0
Answers = List (Result (List Row) FileError)

-- ---- what parts have merged is taken

pub rest_taken : {R : Type 0} (ps : List (Part R)) (i : ℕ) (q d : Part R) → i < length ps → answers_of (drop i ps) ≡ (get_or ps i d).rows ∷ answers_of (drop (i + 1) (set ps i q))
rest_taken {R = R} ps i q d lt = rw add-one (steps ps i q d lt) where
  steps : (ps : List (Part R)) (i : ℕ) (q d : Part R) → i < length ps → answers_of (drop i ps) ≡ (get_or ps i d).rows ∷ answers_of (drop (suc i) (set ps i q))
  steps [] i q d lt = absurd (omega (arith, lt))
  steps (x ∷ xs) zero q d lt = refl
  steps (x ∷ xs) (suc i) q d lt = steps xs i q d (omega (arith, lt))

pub none_left : {R : Type 0} (ps : List (Part R)) (i : ℕ) → length ps ≤ i → answers_of (drop i ps) ≡ []
none_left [] zero le = refl
none_left [] (suc i) le = refl
none_left (x ∷ xs) zero le = absurd (omega (arith, le))
none_left (x ∷ xs) (suc i) le = none_left xs i (omega (arith, le))

-- each part's inputs may be merged
pub ready_at : {R : Type 0} (P : List (Input R) → Type 0) (ps : List (Part R)) → AllByRecursion (λ (p : Part R). P p.inputs.items) ps → (i : ℕ) (d : Part R) → i < length ps → P (get_or ps i d).inputs.items
ready_at P [] all i d lt = absurd (omega (arith, lt))
ready_at P (p ∷ ps) all zero d lt = all.0
ready_at P (p ∷ ps) all (suc i) d lt = ready_at P ps all.1 i d (omega (arith, lt))

-- what each part has merged
pub pieces_each : {R : Type 0} (bytes : R → Option (List ℕ)) (faults size : R → ℕ) (s : Columns) (cuts : List (List ℕ)) (at : ℕ) (ps qs : List (Part R)) → length qs ≡ length ps
    → ((i : ℕ) (d : Part R) → i < length ps → HasPiece bytes faults size s cuts (at + i) (get_or ps i d).inputs.items (get_or qs i d).inputs.items (get_or qs i d).rows) → HavePieces bytes faults size s cuts at ps qs
pieces_each bytes faults size s cuts at [] [] same each = tt
pieces_each bytes faults size s cuts at [] (q ∷ qs) same each = absurd (omega (arith, same))
pieces_each bytes faults size s cuts at (p ∷ ps) [] same each = absurd (omega (arith, same))
pieces_each bytes faults size s cuts at (p ∷ ps) (q ∷ qs) same each =
    let here : at + 0 ≡ at = omega arith in (
      subst (λ n. HasPiece bytes faults size s cuts n p.inputs.items q.inputs.items q.rows) here (each 0 p (omega arith)),
      pieces_each bytes faults size s cuts (suc at) ps qs (omega (arith, same)) (λ i d lt.
          let there : at + suc i ≡ suc at + i = omega arith in
          subst (λ n. HasPiece bytes faults size s cuts n (get_or ps i d).inputs.items (get_or qs i d).inputs.items (get_or qs i d).rows) there (each (suc i) d (omega (arith, lt)))),
    )

-- ---- what is written beside

abbrev pub Wrote : {M D U : Type 0} → (D → Option (List ℕ)) → ℕ → List Row → DeltaWriter M (Held M D) → List Groups → DeltaWriter M (Held M D) → List Groups → Result U CompactError → Type 0
Wrote told newest rows old before new now r = HasWritten (held_bytes told) (sent_number told) held_faults newest rows old before new now r

module _ {M D U : Type 0} (told : D → Option (List ℕ)) {newest : ℕ} {rows : List Row} {old new : DeltaWriter M (Held M D)} {before now : List Groups} where
  -- it is for the same draft
  pub wrote_sent : {r : Result U CompactError} → Wrote told newest rows old before new now r → sent_bytes told (draft_of new) ≡ sent_bytes told (draft_of old)
  wrote_sent h = told_same _ _ h.draft

  -- and fails by no device
  pub wrote_quiet : {e : CompactError} → Wrote {U = U} told newest rows old before new now (Err e) → (IsDraftFault e → ⊥) × (IsReadFault e → ⊥)
  wrote_quiet h = let causes = h.causes [] in ((λ is. let rose = causes.drafts.failed is in absurd (omega (arith, rose))), (λ is. causes.reads.failed is))

-- ---- a round

module _ {R : Type 0} (bytes : R → Option (List ℕ)) (faults size : R → ℕ) (s : Columns) (cuts : List (List ℕ)) (first : ℕ) (olds mid news : List (Part R)) (pieces : HavePieces bytes faults size s cuts first olds mid) (lists : lists_in news ≡ lists_in mid) where
  inputs_after : StayInputs bytes olds news
  inputs_after = record {
    known = same_lists (knowns_of bytes) mid news lists ∙ pieces_known bytes faults size s cuts first olds mid pieces;
    each = all_lists (AllByRecursion (IsInput bytes)) mid news lists (pieces_inputs bytes faults size s cuts first olds mid pieces);
  }

  moved_after : Moved (counts_in faults olds) (counts_in faults news) (answers_of mid)
  moved_after = subst (λ cs. Moved (counts_in faults olds) cs (answers_of mid)) (sym (same_lists (faults_of faults) mid news lists)) (pieces_moved bytes faults size s cuts first olds mid pieces)

module _ {M D R : Type 0} {told : D → Option (List ℕ)} {drawn counted : D → ℕ} {bytes : R → Option (List ℕ)} {faults size : R → ℕ} {s : Columns} {cuts : List (List ℕ)} {first newest : ℕ} {rows : List Row} {olds : List (Part R)} {old : DeltaWriter M (Held M D)} {before : D} {groups : List Groups} where
  -- there is no memory
  pub round_memory : AreReady bytes s olds → HasRound told drawn counted bytes faults size s cuts first newest rows olds olds old old before before groups groups (Err (File Memory))
  round_memory ready = record {
    pieces = tt;
    poured = tt;
    sent = tt;
    over = record { columns = refl; id = refl; draft = refl; wanted = refl };
    inputs = stay_none bytes s olds ready;
    drafts = record { later = omega arith; failed = λ (is : File Memory ≡ Draft). cc; quiet = tt; other = λ _. refl };
    reads = ([], refl, inl (tt, λ (is : File Memory ≡ File Read). cc));
    damaged = λ d (is : File Memory ≡ damaged_by d). cc;
    accepts = λ d (is : File Memory ≡ damaged_by d). cc;
  }

  -- a part has failed
  pub round_failed : {news : List (Part R)} {new : DeltaWriter M (Held M D)} {after : List Groups} (mid : List (Part R)) (rs : Answers) {r : Result (Unit {0}) CompactError} {e : FileError} → HavePieces bytes faults size s cuts first olds mid → lists_in news ≡ lists_in mid → rs ≡ answers_of mid → IsFailureOf rs (Some e) → Wrote told newest rows old groups new after r → HasRound told drawn counted bytes faults size s cuts first newest rows olds news old new before before groups after (Err (File e))
  round_failed {news = news} mid rs {e = e} pieces lists same why w = record {
    pieces = tt;
    poured = tt;
    sent = tt;
    over = record { columns = w.columns; id = w.id; draft = refl; wanted = w.wanted };
    inputs = inputs_after bytes faults size s cuts first olds mid news pieces lists;
    drafts = record { later = omega arith; failed = λ (is : File e ≡ Draft). cc; quiet = tt; other = λ _. refl };
    reads = (answers_of mid, moved_after bytes faults size s cuts first olds mid news pieces lists, inr (e, refl, subst (λ (xs : Answers). IsFailureOf xs (Some e)) same why));
    damaged = λ d is. inl (some_lists bytes size mid news d lists (pieces_damaged bytes faults size s cuts first olds mid d pieces (by_damage d is)));
    accepts = λ d is tells b given h rise keeps. pieces_accept bytes faults size s cuts (own_in olds) first olds mid d pieces tells (by_damage d is) b;
  } where
    by_damage : (d : Damage) → File e ≡ damaged_by d → IsSomeBy (Damaged d) (answers_of mid)
    by_damage d is = let error : e ≡ Damaged d = cc in subst (λ (xs : Answers). IsSomeBy (Damaged d) xs) same (subst (λ x. IsSomeBy x rs) error why.0)

  -- the rows of the round before were not written
  pub round_unwritten : {news : List (Part R)} {new : DeltaWriter M (Held M D)} {after : List Groups} (mid : List (Part R)) (rs : Answers) {e : CompactError} → HavePieces bytes faults size s cuts first olds mid → lists_in news ≡ lists_in mid → rs ≡ answers_of mid → AllByRecursion IsGained rs → Wrote {U = Unit {0}} told newest rows old groups new after (Err e) → HasRound told drawn counted bytes faults size s cuts first newest rows olds news old new before before groups after (Err e)
  round_unwritten {news = news} mid rs pieces lists same all w =
      let quiet = wrote_quiet told w in
      record {
        pieces = tt;
        poured = tt;
        sent = tt;
        over = record { columns = w.columns; id = w.id; draft = refl; wanted = w.wanted };
        inputs = inputs_after bytes faults size s cuts first olds mid news pieces lists;
        drafts = record { later = omega arith; failed = λ is. absurd (quiet.0 is); quiet = tt; other = λ _. refl };
        reads = (answers_of mid, moved_after bytes faults size s cuts first olds mid news pieces lists, inl (subst (AllByRecursion IsGained) same all, quiet.1));
        damaged = λ d is. inr ((w.causes []).damaged d is);
        accepts = λ d is tells b given h rise keeps. w.accepts d is given h rise keeps;
      }

  -- they were not put on the draft
  pub round_unflushed : {news : List (Part R)} {new last : DeltaWriter M (Held M D)} {now : D} {after : List Groups} (mid : List (Part R)) (rs : Answers) {u : Unit {0}} {e : CompactError} → HavePieces bytes faults size s cuts first olds mid → lists_in news ≡ lists_in mid → rs ≡ answers_of mid → AllByRecursion IsGained rs → Wrote told newest rows old groups new after (Ok u) → IsFlushed {U = Unit {0}} told drawn counted new last before now (Err e) → HasRound told drawn counted bytes faults size s cuts first newest rows olds news old last before now groups after (Err e)
  round_unflushed {news = news} mid rs pieces lists same all w f = record {
    pieces = tt;
    poured = tt;
    sent = tt;
    over = record { columns = f.columns ∙ w.columns; id = f.id ∙ w.id; draft = f.draft; wanted = w.wanted };
    inputs = inputs_after bytes faults size s cuts first olds mid news pieces lists;
    drafts = record { later = f.cause.later; failed = f.cause.failed; quiet = tt; other = f.cause.other };
    reads = (answers_of mid, moved_after bytes faults size s cuts first olds mid news pieces lists, inl (subst (AllByRecursion IsGained) same all, f.plain.0));
    damaged = λ d is. absurd (f.plain.1 d is);
    accepts = λ d is tells b given h rise keeps. f.plain.1 d is;
  }

  -- all went well
  pub round_made : {news : List (Part R)} {new last : DeltaWriter M (Held M D)} {now : D} {after : List Groups} (mid : List (Part R)) {made : Vec (Result (List Row) FileError) Global} {u v : Unit {0}} → HavePieces bytes faults size s cuts first olds mid → lists_in news ≡ lists_in mid → made.items ≡ answers_of mid → AllByRecursion IsGained made.items → Wrote told newest rows old groups new after (Ok u) → IsFlushed told drawn counted new last before now (Ok v) → HasRound told drawn counted bytes faults size s cuts first newest rows olds news old last before now groups after (Ok made)
  round_made {news = news} mid pieces lists same all w f =
      let gained = subst (AllByRecursion IsGained) same all in
      record {
        pieces = (mid, pieces, same, all, moved_same (counts_in faults olds) (counts_in faults news) (answers_of mid) (moved_after bytes faults size s cuts first olds mid news pieces lists) (gained_not (answers_of mid) gained));
        poured = λ given h rise. (let one = w.poured given h rise in record { taken = f.taken (given ++ rows) one.taken; put = one.put });
        sent = f.sent;
        over = record { columns = f.columns ∙ w.columns; id = f.id ∙ w.id; draft = f.draft; wanted = w.wanted };
        inputs = inputs_after bytes faults size s cuts first olds mid news pieces lists;
        drafts = record { later = f.cause.later; failed = tt; quiet = f.cause.quiet; other = tt };
        reads = (answers_of mid, moved_after bytes faults size s cuts first olds mid news pieces lists, gained);
        damaged = tt;
        accepts = tt;
      }

-- ---- the last round

module _ {M D : Type 0} {told : D → Option (List ℕ)} {drawn counted : D → ℕ} {newest : ℕ} {rows : List Row} {old new : DeltaWriter M (Held M D)} {before : D} {groups after : List Groups} where
  pub last_unwritten : {e : CompactError} → Wrote {U = Unit {0}} told newest rows old groups new after (Err e) → HasFlushed {U = Unit {0}} told drawn counted newest rows old new before before groups after (Err e)
  last_unwritten w =
      let quiet = wrote_quiet told w in
      record {
        poured = tt;
        flushed = tt;
        over = record { columns = w.columns; id = w.id; draft = refl; wanted = w.wanted };
        drafts = record { later = omega arith; failed = λ is. absurd (quiet.0 is); quiet = tt; other = λ _. refl };
        read = quiet.1;
        damaged = λ d is. (w.causes []).damaged d is;
        accepts = λ d is given h rise keeps. w.accepts d is given h rise keeps;
      }

  pub last_flushed : {last : DeltaWriter M (Held M D)} {now : D} {u : Unit {0}} (r : Result (Unit {0}) CompactError) → Wrote told newest rows old groups new after (Ok u) → IsFlushed told drawn counted new last before now r → HasFlushed told drawn counted newest rows old last before now groups after r
  last_flushed (Ok v) w f = record {
    poured = λ given h rise. (let one = w.poured given h rise in record { taken = f.taken (given ++ rows) one.taken; put = one.put });
    flushed = f.flushed;
    over = record { columns = f.columns ∙ w.columns; id = f.id ∙ w.id; draft = f.draft; wanted = w.wanted };
    drafts = f.cause;
    read = tt;
    damaged = tt;
    accepts = tt;
  }
  last_flushed (Err e) w f = record {
    poured = tt;
    flushed = tt;
    over = record { columns = f.columns ∙ w.columns; id = f.id ∙ w.id; draft = f.draft; wanted = w.wanted };
    drafts = f.cause;
    read = f.plain.0;
    damaged = λ d is. absurd (f.plain.1 d is);
    accepts = λ d is given h rise keeps. f.plain.1 d is;
  }

-- Files that were written side by side, one beside another.
use Rattle.std.proofs.Common.{◌≡◌, ℕ, zero, suc, ◌<◌, List, [], ◌∷◌, Option, length, map, slice_index_or, take, drop, ◌++◌, refl, sym, ap, subst, ◌∙◌, arith}
use Rattle.std.specs.List.{AllByRecursion}
use Rattle.std.proofs.Math.Seq.{take-append_seam}
use Rattle.mesa_delta.specs.declared.error.WriteError.{WriteError}
use Rattle.mesa_delta.specs.declared.error.WriteError.TheVariants as write
use Rattle.mesa_open_files.specs.Batches.{made_ids}
use Rattle.mesa_open_files.specs.Made.{Content}
use Rattle.mesa_file.specs.Serials.{AreNext, Drafts, after_drafts, next_ids}
use Rattle.mesa_open_files.specs.declared.made.MadeFile.{MadeFile}
use Rattle.mesa_load.specs.Collected.{HasCause, IsBegun, finished}
use Rattle.mesa_load.specs.FilesToWrite.{AreDone, HasFiled, HasId, HasWritten, HaveIds, IsCause, IsCounted, IsDone, IsFit, IsReady, content_in}
use Rattle.mesa_load.specs.Plans.{AreMade}
use Rattle.mesa_load.specs.declared.building.FileToWrite.{FileToWrite}
use Rattle.mesa_load.specs.declared.building.WriteState.{WriteState}
use Rattle.mesa_load.specs.declared.building.WriteState.TheVariants as progress

module _ {M T : Type 0} (bytes : M → Option (List ℕ)) (id_of : M → ℕ) (faults : T → ℕ) where
  counted : (a b : ℕ) (e : WriteError) → a ≡ 0 → IsCause a b e → IsCounted e b
  counted a b write.Draft none rose = omega (arith, none, rose)
  counted a b write.Memory none same = same ∙ none

  one_written : (job : FileToWrite) (id : ℕ) (draft : T) (after : WriteState M T) → faults draft ≡ 0 → HasWritten bytes id_of faults (content_in job) id draft after → IsDone bytes id_of faults job after
  one_written job id draft (progress.Finished file) none h = h.0
  one_written job id draft (progress.Failed error left) none h = counted (faults draft) (faults left) error none h
  one_written job id draft (progress.Begun other left) none h = h
  one_written job id draft progress.Lent none h = h

  module _ (told : T → Option (List ℕ)) (own : T → ℕ) where
    one_done : (job : FileToWrite) (before after : WriteState M T) → IsBegun told own faults before → HasFiled bytes id_of faults job before after → IsDone bytes id_of faults job after
    one_done job (progress.Begun id draft) after begun h = one_written job id draft after begun.2 h
    one_done job (progress.Finished file) after begun h = absurd h
    one_done job (progress.Failed error draft) after begun h = absurd h
    one_done job progress.Lent after begun h = absurd h

    -- from place to place
    pub all_done : (jobs : List FileToWrite) (before after : List (WriteState M T)) → length before ≡ length jobs → length after ≡ length jobs → AllByRecursion (IsBegun told own faults) before
        → ((i : ℕ) (j : FileToWrite) (p : WriteState M T) → i < length jobs → HasFiled bytes id_of faults (slice_index_or jobs i j) (slice_index_or before i p) (slice_index_or after i p))
        → AreDone bytes id_of faults jobs after
    all_done [] before [] a b begun each = tt
    all_done [] before (p ∷ ps) a b begun each = absurd (omega arith)
    all_done (j ∷ js) [] after a b begun each = absurd (omega arith)
    all_done (j ∷ js) (q ∷ qs) [] a b begun each = absurd (omega arith)
    all_done (j ∷ js) (q ∷ qs) (p ∷ ps) a b begun each =
        (one_done j q p begun.0 (each zero j p (omega arith)), all_done js qs ps (omega arith) (omega arith) begun.1 (λ i k r lt. each (suc i) k r (omega arith)))

  -- a file has its draft's id
  written_id : (content : Content) (id own : ℕ) (draft : T) (after : WriteState M T) → own ≡ id → HasWritten bytes id_of faults content own draft after → HasId id_of id after
  written_id content id own draft (progress.Finished file) is h = h.1 ∙ is
  written_id content id own draft (progress.Failed error left) is h = tt
  written_id content id own draft (progress.Begun other left) is h = absurd h
  written_id content id own draft progress.Lent is h = absurd h

  one_id : (job : FileToWrite) (id : ℕ) (before after : WriteState M T) → HasId id_of id before → HasFiled bytes id_of faults job before after → HasId id_of id after
  one_id job id (progress.Begun own draft) after is h = written_id (content_in job) id own draft after is h
  one_id job id (progress.Finished file) after is h = absurd h
  one_id job id (progress.Failed error draft) after is h = absurd h
  one_id job id progress.Lent after is h = absurd h

  pub all_ids : (jobs : List FileToWrite) (ids : List ℕ) (before after : List (WriteState M T)) → length before ≡ length jobs → length after ≡ length jobs → HaveIds id_of ids before
      → ((i : ℕ) (j : FileToWrite) (p : WriteState M T) → i < length jobs → HasFiled bytes id_of faults (slice_index_or jobs i j) (slice_index_or before i p) (slice_index_or after i p))
      → HaveIds id_of ids after
  all_ids [] [] before [] a b was each = tt
  all_ids [] (id ∷ ids) [] after a b was each = absurd was
  all_ids [] (id ∷ ids) (q ∷ qs) after a b was each = absurd (omega arith)
  all_ids [] [] before (p ∷ ps) a b was each = absurd (omega arith)
  all_ids (j ∷ js) ids [] after a b was each = absurd (omega arith)
  all_ids (j ∷ js) ids (q ∷ qs) [] a b was each = absurd (omega arith)
  all_ids (j ∷ js) [] (q ∷ qs) (p ∷ ps) a b was each = absurd was
  all_ids (j ∷ js) (id ∷ ids) (q ∷ qs) (p ∷ ps) a b was each =
      (one_id j id q p was.0 (each zero j p (omega arith)), all_ids js ids qs ps (omega arith) (omega arith) was.1 (λ i k r lt. each (suc i) k r (omega arith)))

  pub done_causes : (jobs : List FileToWrite) (after : List (WriteState M T)) → AreDone bytes id_of faults jobs after → AllByRecursion (HasCause faults) after
  done_causes jobs [] all = tt
  done_causes [] (p ∷ ps) all = absurd all
  done_causes (j ∷ js) (progress.Finished file ∷ ps) all = (tt, done_causes js ps all.1)
  done_causes (j ∷ js) (progress.Failed error left ∷ ps) all = (all.0, done_causes js ps all.1)
  done_causes (j ∷ js) (progress.Begun id draft ∷ ps) all = absurd all.0
  done_causes (j ∷ js) (progress.Lent ∷ ps) all = absurd all.0

  pub done_made : (jobs : List FileToWrite) (files : List (MadeFile M)) → AreDone bytes id_of faults jobs (map finished files) → AreMade bytes id_of (map content_in jobs) files
  done_made [] [] all = tt
  done_made [] (f ∷ fs) all = absurd all
  done_made (j ∷ js) [] all = absurd all
  done_made (j ∷ js) (f ∷ fs) all = (all.0, done_made js fs all.1)

module _ {M T : Type 0} (id_of : M → ℕ) where
  -- one draft more
  pub ids_more : (ids : List ℕ) (ps : List (WriteState M T)) (id : ℕ) (p : WriteState M T) → HaveIds id_of ids ps → HasId id_of id p → HaveIds id_of (ids ++ id ∷ []) (ps ++ p ∷ [])
  ids_more [] [] id p all one = (one, tt)
  ids_more [] (q ∷ ps) id p all one = absurd all
  ids_more (i ∷ ids) [] id p all one = absurd all
  ids_more (i ∷ ids) (q ∷ ps) id p all one = (all.0, ids_more ids ps id p all.1 one)

module _ {M : Type 0} (T : Type 0) (id_of : M → ℕ) where
  -- files have just these ids
  ids_made : (ids : List ℕ) (files : List (MadeFile M)) → HaveIds {M = M} {T = T} id_of ids (map finished files) → made_ids id_of files ≡ ids
  ids_made [] [] all = refl
  ids_made [] (f ∷ fs) all = absurd all
  ids_made (i ∷ ids) [] all = absurd all
  ids_made (i ∷ ids) (f ∷ fs) all = ap (λ (n : ℕ). n ∷ made_ids id_of fs) all.0 ∙ ap (λ (ns : List ℕ). i ∷ ns) (ids_made ids fs all.1)

  -- and these are the next drafts'
  pub next_made : (d e : Drafts) (n : ℕ) (files : List (MadeFile M)) (ps : List (WriteState M T)) → ps ≡ map finished files → HaveIds id_of (next_ids n d) ps → e ≡ after_drafts n d → AreNext d e (made_ids id_of files)
  next_made d e n files ps all have after = record { count = n; next = ids_made (next_ids n d) files (subst (HaveIds id_of (next_ids n d)) all have); after = after }

module _ {M T : Type 0} (bytes : T → Option (List ℕ)) (id_of faults : T → ℕ) where
  one_ready : (job : FileToWrite) (p : WriteState M T) → IsFit job → IsBegun bytes id_of faults p → IsReady bytes id_of job p
  one_ready job (progress.Begun id draft) fit begun = (begun.0, begun.1, fit)
  one_ready job (progress.Finished file) fit begun = begun
  one_ready job (progress.Failed error draft) fit begun = begun
  one_ready job progress.Lent fit begun = begun

  -- each job may be done
  pub all_ready : (jobs : List FileToWrite) (drafts : List (WriteState M T)) (i : ℕ) (j : FileToWrite) (p : WriteState M T) → i < length jobs → length drafts ≡ length jobs
      → AllByRecursion IsFit jobs → AllByRecursion (IsBegun bytes id_of faults) drafts → IsReady bytes id_of (slice_index_or jobs i j) (slice_index_or drafts i p)
  all_ready [] drafts i j p lt same fit begun = absurd (omega arith)
  all_ready (k ∷ ks) [] i j p lt same fit begun = absurd (omega arith)
  all_ready (k ∷ ks) (d ∷ ds) zero j p lt same fit begun = one_ready k d fit.0 begun.0
  all_ready (k ∷ ks) (d ∷ ds) (suc i) j p lt same fit begun = all_ready ks ds i j p (omega arith) (omega arith) fit.1 begun.1

-- a list that was written back into a vector
pub written_back : {A : Type 0} (n : ℕ) (xs ys : List A) → length xs ≡ n → take n (xs ++ drop (length xs) ys) ≡ xs
written_back {A = A} n xs ys count = ap (λ (m : ℕ). take m (xs ++ drop (length xs) ys)) (sym count) ∙ take-append_seam xs (drop (length xs) ys)

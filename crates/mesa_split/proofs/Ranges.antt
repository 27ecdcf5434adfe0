-- The file of a range.
use Rattle.std.proofs.Common.{◌≡◌, inl, ℕ, ◌<◌, ◌≤◌, List, [], refl, subst, ◌∙◌, arith, true, false}
use Rattle.std.specs.Prelude.{Bool, Option, None, Some, Result, Ok, Err}
use Rattle.mesa_compact.specs.mesa_io.Causes.{Rose}
use Rattle.mesa_file.specs.declared.damage.Damage.{Damage}
use Rattle.mesa_compact.specs.mesa_columns.Columns.{Columns}
use Rattle.mesa_delta.specs.declared.input.Input.{Input}
use Rattle.mesa_delta.specs.declared.writer.DeltaWriter.{DeltaWriter}
use Rattle.mesa_answer.specs.declared.groups.Groups.{Groups}
use Rattle.mesa_open_files.specs.Made.{IsMadeFile}
use Rattle.mesa_open_files.specs.declared.made.MadeFile.{MadeFile}
use Rattle.mesa_open_files.specs.declared.merging.CompactError.{CompactError}
use Rattle.mesa_compact.specs.Writing.{HasCauses}
use Rattle.mesa_split.specs.Lending.{AreReady}
use Rattle.mesa_split.specs.Rounds.{HasRangeFile, HasRun}
use Rattle.mesa_split.specs.declared.held.Held.{Held}
use Rattle.mesa_split.specs.declared.parts.Part.{Part}
use Rattle.mesa_split.proofs.Staying.{stay_none}

module _ {M R : Type 0} (drawn : M → ℕ) (told : M → Option (List ℕ)) (bytes : R → Option (List ℕ)) (faults size : R → ℕ) (s : Columns) (id newest : ℕ) (own : List (Input R)) where
  abbrev RangeFile : List (Part R) → List (Part R) → List Groups → List Groups → ℕ → ℕ → Result (Option (MadeFile M)) CompactError → Type 0
  RangeFile olds news groups after before now r = HasRangeFile told drawn bytes faults size s id newest own olds news groups after before now r

  -- no file was begun
  pub range_unbegun : {T : Type 0} (olds : List (Part R)) (groups : List Groups) (before now : ℕ) (e : CompactError) → AreReady bytes s olds → ((reads : List ℕ) → HasCauses {T = T} before now reads reads (λ (d : Damage). ⊥) (Err e)) → RangeFile olds olds groups groups before now (Err e)
  range_unbegun olds groups before now e ready causes = record {
    file = tt;
    wanted = refl;
    inputs = stay_none bytes s olds ready;
    drafts = record { later = (causes []).drafts.later; failed = (causes []).drafts.failed; quiet = tt; other = (causes []).drafts.other };
    reads = ([], refl, inl (tt, λ is. (causes []).reads.failed is));
    damaged = λ d is. absurd ((causes []).damaged d is);
    accepts = λ d is b keeps. (causes []).damaged d is;
  }

  module _ {D : Type 0} (bytes_on : D → Option (List ℕ)) (id_on faults_on : D → ℕ) (olds news : List (Part R)) (old new : DeltaWriter M (Held M D)) (before now : D) (groups after : List Groups) where
    abbrev Run : Result Bool CompactError → Type 0
    Run r = HasRun bytes_on id_on faults_on bytes faults size s newest own olds news old new before now groups after r

    -- the rows weren't all written, and the draft was given back
    pub range_failed : (start begun end : ℕ) (e : CompactError) → Run (Err e) → faults_on before ≡ 0 → begun ≡ start → (0 < faults_on now → Rose begun end) → (faults_on now ≡ 0 → end ≡ begun) → begun ≤ end → RangeFile olds news groups after start end (Err e)
    range_failed start begun end e run fresh stay counted quiet later = record {
      file = tt;
      wanted = run.over.wanted;
      inputs = run.inputs;
      drafts = record {
        later = omega (arith, stay, later);
        failed = λ is. subst (λ b. Rose b end) stay (counted (omega (arith, fresh, run.drafts.failed is)));
        quiet = tt;
        other = λ never. quiet (run.drafts.other never ∙ fresh) ∙ stay;
      };
      reads = run.reads;
      damaged = run.damaged;
      accepts = run.accepts;
    }

    -- there are no rows, and the draft was given back
    pub range_none : (start begun end : ℕ) → Run (Ok false) → faults_on before ≡ 0 → begun ≡ start → (faults_on now ≡ 0 → end ≡ begun) → RangeFile olds news groups after start end (Ok None)
    range_none start begun end run fresh stay quiet =
        let same : end ≡ start = quiet (run.drafts.quiet ∙ fresh) ∙ stay in
        record {
          file = (run.all.rows, run.all.merge, run.all.none refl);
          wanted = run.over.wanted;
          inputs = run.inputs;
          drafts = record { later = omega (arith, same); failed = tt; quiet = same; other = tt };
          reads = run.reads;
          damaged = tt;
          accepts = tt;
        }

    -- the file wasn't finished
    pub range_unended : {T : Type 0} (start begun end : ℕ) (some : Bool) (e : CompactError) → Run (Ok some) → begun ≡ start → ((reads : List ℕ) → HasCauses {T = T} begun end reads reads (λ (d : Damage). ⊥) (Err e)) → RangeFile olds news groups after start end (Err e)
    range_unended start begun end some e run stay causes = record {
      file = tt;
      wanted = run.over.wanted;
      inputs = run.inputs;
      drafts = record {
        later = subst (λ n. n ≤ end) stay (causes []).drafts.later;
        failed = λ is. subst (λ n. Rose n end) stay ((causes []).drafts.failed is);
        quiet = tt;
        other = λ never. (causes []).drafts.other never ∙ stay;
      };
      reads = (run.reads.0, run.reads.1, inl (run.reads.2, λ is. (causes []).reads.failed is));
      damaged = λ d is. absurd ((causes []).damaged d is);
      accepts = λ d is b keeps. (causes []).damaged d is;
    }

    -- it was
    pub range_made : {T : Type 0} (start begun end : ℕ) (made : MadeFile M) (v : T) (run : Run (Ok true)) → begun ≡ start → ((reads : List ℕ) → HasCauses begun end reads reads (λ (d : Damage). ⊥) (Ok v)) → IsMadeFile told drawn (record { columns = s; rows = run.all.rows }) made → drawn made.made ≡ id → RangeFile olds news groups after start end (Ok (Some made))
    range_made start begun end made v run stay causes is at =
        let same : end ≡ start = (causes []).drafts.quiet ∙ stay in
        record {
          file = (run.all.rows, run.all.merge, (run.all.many refl, is, run.all.poured.put, at));
          wanted = run.over.wanted;
          inputs = run.inputs;
          drafts = record { later = omega (arith, same); failed = tt; quiet = same; other = tt };
          reads = run.reads;
          damaged = tt;
          accepts = tt;
        }

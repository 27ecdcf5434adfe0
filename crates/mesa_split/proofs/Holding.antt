-- Bytes that are held for a draft, and put on it.
use Rattle.std.proofs.Common.{◌≡◌, ℕ, ◌+◌, ◌≤◌, List, [], ◌∷◌, ◌++◌, length, refl, sym, ap, ◌∙◌, arith, append_assoc, true}
use Rattle.std.proofs.lemmas.Bool.Decides.{nat_tests}
use Rattle.std.proofs.lemmas.List.{append-nil}
use Rattle.std.specs.Prelude.{Bool, ◌==◌, Option, None, Some, Ok, Err, option_map}
use Rattle.mesa_compact.specs.mesa_io.Causes.{Rose}
use Rattle.mesa_compact.specs.mesa_columns.declared.rows.Row.{Row}
use Rattle.mesa_delta.specs.Writing.{HasTaken, columns_of, draft_of, id_of}
use Rattle.mesa_delta.specs.declared.error.FileError.TheVariants.{Memory, Read}
use Rattle.mesa_delta.specs.declared.writer.DeltaWriter.{DeltaWriter}
use Rattle.mesa_open_files.specs.declared.merging.CompactError.TheVariants.{Draft, File}
use Rattle.mesa_compact.specs.Writing.{damaged_by}
use Rattle.mesa_split.specs.Held.{held_bytes, sent_bytes}
use Rattle.mesa_split.specs.Rounds.{IsFlushed}
use Rattle.mesa_split.specs.declared.held.Held.{Held}

pub held_none : (o : Option (List ℕ)) (items : List ℕ) → items ≡ [] → option_map (λ (b : List ℕ). b ++ items) o ≡ o
held_none None items none = refl
held_none (Some b) items none = ap Some (ap (λ xs. b ++ xs) none ∙ append-nil b)

-- more of it is
pub held_more : (o : Option (List ℕ)) (items more all : List ℕ) → all ≡ items ++ more → option_map (λ (b : List ℕ). b ++ all) o ≡ option_map (λ (b : List ℕ). b ++ more) (option_map (λ (b : List ℕ). b ++ items) o)
held_more None items more all same = refl
held_more (Some b) items more all same = ap Some (ap (λ xs. b ++ xs) same ∙ sym (append_assoc b items more))

-- an empty list
pub empty_list : {A : Type 0} (xs : List A) (empty : Bool) → empty ≡ (length xs == 0) → empty ≡ true → xs ≡ []
empty_list [] empty is so = refl
empty_list (x ∷ xs) empty is so = absurd (grind (arith, nat_tests))

-- ---- it is put on the draft

module _ {M D : Type 0} {told : D → Option (List ℕ)} {drawn counted : D → ℕ} {old : DeltaWriter M (Held M D)} {before : D} (for : sent_bytes told (draft_of old) ≡ told before) where
  -- nothing is held
  pub flush_idle : (draft_of old).bytes.items ≡ [] → IsFlushed {U = Unit} told drawn counted old old before before (Ok tt)
  flush_idle none = record {
    taken = λ rows h. h;
    sent = for;
    flushed = held_none (sent_bytes told (draft_of old)) (draft_of old).bytes.items none ∙ for;
    columns = refl;
    id = refl;
    draft = refl;
    cause = record { later = omega arith; failed = tt; quiet = refl; other = tt };
    plain = tt;
  }

  -- there is no memory; the draft's count stays
  pub flush_memory : {now : D} → drawn now ≡ drawn before → counted now ≡ counted before → IsFlushed {U = Unit} told drawn counted old old before now (Err (File Memory))
  flush_memory same stay = record {
    taken = tt;
    sent = tt;
    flushed = tt;
    columns = refl;
    id = refl;
    draft = same;
    cause = record { later = omega (arith, stay); failed = λ (is : File Memory ≡ Draft). cc; quiet = tt; other = λ _. stay };
    plain = ((λ (is : File Memory ≡ File Read). cc), (λ d (is : File Memory ≡ damaged_by d). cc));
  }

  -- the draft has failed
  pub flush_failed : {now : D} → drawn now ≡ drawn before → counted before ≤ counted now → Rose (counted before) (counted now) → IsFlushed {U = Unit} told drawn counted old old before now (Err Draft)
  flush_failed same later rose = record {
    taken = tt;
    sent = tt;
    flushed = tt;
    columns = refl;
    id = refl;
    draft = same;
    cause = record { later = later; failed = λ _. rose; quiet = tt; other = λ never. absurd (never refl) };
    plain = ((λ (is : Draft ≡ File Read). cc), (λ d (is : Draft ≡ damaged_by d). cc));
  }

  -- all that was held is on the draft, and the writer goes on with nothing held
  pub flush_sent : {new : DeltaWriter M (Held M D)} {now : D} (held : Held M D) → told now ≡ option_map (λ (b : List ℕ). b ++ (draft_of old).bytes.items) (told before) → held_bytes told held ≡ told now → sent_bytes told held ≡ told now → draft_of new ≡ held
      → ((rows : List Row) → HasTaken (held_bytes told) old rows → held_bytes told held ≡ held_bytes told (draft_of old) → HasTaken (held_bytes told) new rows) → columns_of new ≡ columns_of old → id_of new ≡ id_of old
      → drawn now ≡ drawn before → counted now ≡ counted before → IsFlushed {U = Unit} told drawn counted old new before now (Ok tt)
  flush_sent held put bytes sent is taken columns id same stay =
      let all : held_bytes told held ≡ held_bytes told (draft_of old) = bytes ∙ put ∙ ap (option_map (λ (b : List ℕ). b ++ (draft_of old).bytes.items)) (sym for) in
      record {
        taken = λ rows h. taken rows h all;
        sent = ap (sent_bytes told) is ∙ sent;
        flushed = ap (held_bytes told) is ∙ bytes;
        columns = columns;
        id = id;
        draft = same;
        cause = record { later = omega (arith, stay); failed = tt; quiet = stay; other = tt };
        plain = tt;
      }

-- Rounds, one after the other.
use Rattle.std.proofs.Common.{◌≡◌, ◌⊎◌, inl, inr, ℕ, suc, ◌+◌, ◌<◌, ◌≤◌, List, [], ◌∷◌, ◌++◌, length, length-append, refl, sym, ap, subst, ◌∙◌, arith, Global, Vec, true, false}
use Rattle.std.specs.Prelude.{Bool, ◌||◌, not, Option, None, Result, Ok, Err, IsTrue}
use Rattle.std.specs.List.{AllByRecursion}
use Rattle.mesa_compact.specs.mesa_io.Causes.{HasFaultCause, Rose}
use Rattle.mesa_file.specs.declared.damage.Damage.{Damage}
use Rattle.mesa_compact.specs.mesa_columns.declared.rows.Row.{Row}
use Rattle.mesa_compact.specs.mesa_columns.Columns.{Columns}
use Rattle.mesa_compact.specs.mesa_columns.Rows.{AreRowsOf, keys_rise}
use Rattle.mesa_delta.specs.Writing.{columns_of, draft_of}
use Rattle.mesa_delta.specs.declared.error.FileError.{FileError}
use Rattle.mesa_delta.specs.declared.error.FileError.TheVariants.{Memory, Read}
use Rattle.mesa_delta.specs.declared.input.Input.{Input}
use Rattle.mesa_delta.specs.declared.writer.DeltaWriter.{DeltaWriter}
use Rattle.mesa_answer.specs.Answering.{KeepsSums}
use Rattle.mesa_answer.specs.declared.groups.Groups.{Groups}
use Rattle.mesa_compact.specs.mesa_scan.Cut.{CutsRise}
use Rattle.mesa_merge.specs.Inputs.{knowns_of}
use Rattle.mesa_merge.specs.Sums.{sum_damage}
use Rattle.mesa_open_files.specs.declared.merging.CompactError.{CompactError}
use Rattle.mesa_open_files.specs.declared.merging.CompactError.TheVariants.{Draft, File}
use Rattle.mesa_compact.specs.Bounded.{AreBounded}
use Rattle.mesa_compact.specs.Damaged.{LeavesAmong, RowLeaves}
use Rattle.mesa_compact.specs.Grouping.{TakesRows}
use Rattle.mesa_compact.specs.Writing.{IsDraftFault, damaged_by}
use Rattle.mesa_compact.proofs.Putting.{takes_kept}
use Rattle.mesa_split.specs.Held.{held_bytes, sent_bytes}
use Rattle.mesa_split.specs.Lending.{AllTell, AreReady, HavePieces, Moved, answers_of, counts_in, own_in}
use Rattle.mesa_split.specs.Parts.{AreFirst, joined}
use Rattle.mesa_split.specs.Rounds.{HasFlushed, HasRound, HasRun, IsFrontTotal, StayInputs, StaysOver, merge_of}
use Rattle.mesa_split.specs.Split.{IsGained}
use Rattle.mesa_split.specs.Written.{HasPoured}
use Rattle.mesa_split.specs.declared.held.Held.{Held}
use Rattle.mesa_split.specs.declared.parts.Part.{Part}
use Rattle.mesa_split.proofs.Pieces.{first_all, first_begin, first_keep, first_none, first_pieces}
use Rattle.mesa_split.proofs.Staying.{own_on, stay_none, stay_on, tell_on}

abbrev Answers : Type 0
Answers = List (Result (List Row) FileError)

-- whether there is any row, once there are more
pub more_some : (some empty : Bool) (rows : List Row) → (empty ≡ false → 0 < length rows) → (some || not empty) ≡ true → (some ≡ true) ⊎ (0 < length rows)
more_some true empty rows more is = inl refl
more_some false true rows more is = absurd cc
more_some false false rows more is = inr (more refl)

pub none_more : (some empty : Bool) (rows : List Row) → (empty ≡ true → rows ≡ []) → (some || not empty) ≡ false → (some ≡ false) × (rows ≡ [])
none_more true empty rows none is = absurd cc
none_more false true rows none is = (refl, none refl)
none_more false false rows none is = absurd cc

form_right : (s : Columns) (xs ys : List Row) → AreRowsOf s (xs ++ ys) → AreRowsOf s ys
form_right s [] ys h = h
form_right s (x ∷ xs) ys h = form_right s xs ys h.1

pieces_count : {R : Type 0} (bytes : R → Option (List ℕ)) (faults size : R → ℕ) (s : Columns) (cuts : List (List ℕ)) (at : ℕ) (os ns : List (Part R)) → HavePieces bytes faults size s cuts at os ns → length ns ≡ length os
pieces_count bytes faults size s cuts at [] [] h = refl
pieces_count bytes faults size s cuts at [] (n ∷ ns) h = absurd h
pieces_count bytes faults size s cuts at (o ∷ os) [] h = absurd h
pieces_count bytes faults size s cuts at (o ∷ os) (n ∷ ns) h = ap suc (pieces_count bytes faults size s cuts (suc at) os ns h.1)

-- the inputs of the first part, and what all tell, as it stands
module _ {R : Type 0} (bytes : R → Option (List ℕ)) (olds parts : List (Part R)) where
  tells_now : AllTell bytes (own_in olds) olds → StayInputs bytes olds parts → AllTell bytes (own_in parts) parts
  tells_now tells stay = tell_on bytes (own_in olds) (own_in parts) olds parts tells stay.known (own_on bytes olds parts stay.known)

  bounded_now : (s : Columns) → StayInputs bytes olds parts → AreBounded s (knowns_of bytes (own_in olds)) → AreBounded s (knowns_of bytes (own_in parts))
  bounded_now s stay b = subst (AreBounded s) (sym (own_on bytes olds parts stay.known)) b

module _ {M D R : Type 0} (told : D → Option (List ℕ)) (drawn counted : D → ℕ) (bytes : R → Option (List ℕ)) (faults size : R → ℕ) (s : Columns) (cuts : List (List ℕ)) (newest : ℕ) (olds : List (Part R)) (old : DeltaWriter M (Held M D)) (before : D) (groups : List Groups) where
  -- The pieces before this one were merged: some rows were written, and those of the last round are held.
  pub record Runs (parts : List (Part R)) (w : DeltaWriter M (Held M D)) (draft : D) (now : List Groups) (first : ℕ) (held : Answers) (some : Bool) : Type 0 where
    pub given : List Row
    pub poured : HasPoured (held_bytes told) w now given
    pub pieces : AreFirst s cuts first (knowns_of bytes (own_in olds)) (given ++ joined held)
    pub many : some ≡ true → 0 < length (given ++ joined held)
    pub none : some ≡ false → given ++ joined held ≡ []
    pub sent : sent_bytes told (draft_of w) ≡ told draft
    pub over : StaysOver drawn old w before draft groups now
    pub inputs : StayInputs bytes olds parts
    pub counts : counts_in faults parts ≡ counts_in faults olds
    pub quiet : counted draft ≡ counted before

module _ {M D R : Type 0} {told : D → Option (List ℕ)} {drawn counted : D → ℕ} {bytes : R → Option (List ℕ)} {faults size : R → ℕ} {s : Columns} {cuts : List (List ℕ)} {newest : ℕ} {olds : List (Part R)} {old : DeltaWriter M (Held M D)} {before : D} {groups : List Groups} where
  -- the same of a list that is lent
  pub runs_lent : {parts : List (Part R)} {w : DeltaWriter M (Held M D)} {draft : D} {now : List Groups} {first : ℕ} {held lent : Answers} {some : Bool} → lent ≡ held → Runs told drawn counted bytes faults size s cuts newest olds old before groups parts w draft now first held some → Runs told drawn counted bytes faults size s cuts newest olds old before groups parts w draft now first lent some
  runs_lent {parts = parts} {w = w} {draft = draft} {now = now} {first = first} {some = some} same inv = subst (λ (rs : Answers). Runs told drawn counted bytes faults size s cuts newest olds old before groups parts w draft now first rs some) (sym same) inv

  pub runs_first : {none : Answers} → none ≡ [] → AreReady bytes s olds → HasPoured (held_bytes told) old groups [] → sent_bytes told (draft_of old) ≡ told before → Runs told drawn counted bytes faults size s cuts newest olds old before groups olds old before groups 0 none false
  runs_first empty ready poured sent = runs_lent empty (record {
    given = [];
    poured = poured;
    pieces = first_none s cuts (knowns_of bytes (own_in olds));
    many = λ (no : false ≡ true). cc;
    none = λ _. refl;
    sent = sent;
    over = record { columns = refl; id = refl; draft = refl; wanted = refl };
    inputs = stay_none bytes s olds ready;
    counts = refl;
    quiet = refl;
  })

  module _ {parts : List (Part R)} {w : DeltaWriter M (Held M D)} {draft : D} {now : List Groups} {first : ℕ} {held : Answers} {some : Bool} (rise : CutsRise None cuts) (columns : columns_of old ≡ s) (inv : Runs told drawn counted bytes faults size s cuts newest olds old before groups parts w draft now first held some) where
    total_now : (d : Damage) → d ≡ sum_damage newest → ((given : List Row) → HasPoured (held_bytes told) w now given → IsTrue (keys_rise (given ++ joined held)) → LeavesAmong (RowLeaves (columns_of w)) (given ++ joined held)) → IsFrontTotal s (knowns_of bytes (own_in olds)) newest d
    total_now d is leaves = record {
      rows = inv.given ++ joined held;
      begins = first_begin s cuts first (knowns_of bytes (own_in olds)) (inv.given ++ joined held) rise inv.pieces;
      leaves = subst (λ (t : Columns). LeavesAmong (RowLeaves t) (inv.given ++ joined held)) (inv.over.columns ∙ columns) (leaves inv.given inv.poured inv.pieces.rise);
      told = is;
    }

    keeps_now : (b : AreBounded s (knowns_of bytes (own_in olds))) → KeepsSums s (merge_of s (knowns_of bytes (own_in olds)) b.contents) → KeepsSums (columns_of w) (inv.given ++ joined held)
    keeps_now b keeps = subst (λ (t : Columns). KeepsSums t (inv.given ++ joined held)) (sym (inv.over.columns ∙ columns)) (first_keep s cuts first (knowns_of bytes (own_in olds)) (inv.given ++ joined held) rise inv.pieces b.contents b.told keeps)

    -- there is no memory
    pub run_memory : HasRun told drawn counted bytes faults size s newest (own_in olds) olds parts old w before draft groups now (Err (File Memory))
    run_memory = record {
      all = tt;
      over = inv.over;
      inputs = inv.inputs;
      drafts = record { later = omega (arith, inv.quiet); failed = λ (is : File Memory ≡ Draft). cc; quiet = tt; other = λ _. inv.quiet };
      reads = ([], inv.counts, inl (tt, λ (is : File Memory ≡ File Read). cc));
      damaged = λ d (is : File Memory ≡ damaged_by d). cc;
      accepts = λ d (is : File Memory ≡ damaged_by d). cc;
    }

    -- what the next call asks for
    pub run_given : (given : List Row) × HasPoured (held_bytes told) w now given × IsTrue (keys_rise (given ++ joined held))
    run_given = (inv.given, inv.poured, inv.pieces.rise)

    pub run_form : AreRowsOf (columns_of w) (joined held)
    run_form = subst (λ (t : Columns). AreRowsOf t (joined held)) (sym (inv.over.columns ∙ columns)) (form_right s inv.given (joined held) inv.pieces.form)

    pub run_takes : AllByRecursion (TakesRows s) groups → AllByRecursion (TakesRows (columns_of w)) now
    run_takes takes = takes_kept (columns_of w) groups now inv.over.wanted (subst (λ (t : Columns). AllByRecursion (TakesRows t) groups) (sym (inv.over.columns ∙ columns)) takes)

    over_on : (x : DeltaWriter M (Held M D)) (d : D) (gs : List Groups) → StaysOver drawn w x draft d now gs → StaysOver drawn old x before d groups gs
    over_on x d gs more = record { columns = more.columns ∙ inv.over.columns; id = more.id ∙ inv.over.id; draft = more.draft ∙ inv.over.draft; wanted = more.wanted ∙ inv.over.wanted }

    drafts_on : {T : Type 0} (d : D) (e : CompactError) → HasFaultCause {T = T} IsDraftFault (counted draft) (counted d) (Err e) → HasFaultCause {T = Bool} IsDraftFault (counted before) (counted d) (Err e)
    drafts_on d e h = record {
      later = subst (λ n. n ≤ counted d) inv.quiet h.later;
      failed = λ is. subst (λ n. Rose n (counted d)) inv.quiet (h.failed is);
      quiet = tt;
      other = λ never. h.other never ∙ inv.quiet;
    }

    -- a round has failed
    pub run_round : {news : List (Part R)} {x : DeltaWriter M (Held M D)} {d : D} {gs : List Groups} {e : CompactError} → AllTell bytes (own_in olds) olds → HasRound told drawn counted bytes faults size s cuts first newest (joined held) parts news w x draft d now gs (Err e) → HasRun told drawn counted bytes faults size s newest (own_in olds) olds news old x before d groups gs (Err e)
    run_round {news = news} {x = x} {d = d} {gs = gs} {e = e} tells h = record {
      all = tt;
      over = over_on x d gs h.over;
      inputs = stay_on bytes olds parts news inv.inputs h.inputs;
      drafts = drafts_on d e h.drafts;
      reads = (h.reads.0, subst (λ cs. Moved cs (counts_in faults news) h.reads.0) inv.counts h.reads.1, h.reads.2);
      damaged = λ damage is. elim (h.damaged damage is) [ inl here ↦ inl here | inr total ↦ inr (total_now damage total.0 total.1) ];
      accepts = λ damage is b keeps. h.accepts damage is (tells_now bytes olds parts tells inv.inputs) (bounded_now bytes olds parts s inv.inputs b) inv.given inv.poured inv.pieces.rise (keeps_now b keeps);
    }

    -- the last one has
    pub run_last : {x : DeltaWriter M (Held M D)} {d : D} {gs : List Groups} {e : CompactError} → HasFlushed {U = Unit {0}} told drawn counted newest (joined held) w x draft d now gs (Err e) → HasRun told drawn counted bytes faults size s newest (own_in olds) olds parts old x before d groups gs (Err e)
    run_last {x = x} {d = d} {gs = gs} {e = e} h = record {
      all = tt;
      over = over_on x d gs h.over;
      inputs = inv.inputs;
      drafts = drafts_on d e h.drafts;
      reads = ([], inv.counts, inl (tt, h.read));
      damaged = λ damage is. (let total = h.damaged damage is in inr (total_now damage total.0 total.1));
      accepts = λ damage is b keeps. h.accepts damage is inv.given inv.poured inv.pieces.rise (keeps_now b keeps);
    }

    -- all pieces were merged and written
    pub run_made : {x : DeltaWriter M (Held M D)} {d : D} {gs : List Groups} {u : Unit {0}} → length cuts < first → HasFlushed told drawn counted newest (joined held) w x draft d now gs (Ok u) → HasRun told drawn counted bytes faults size s newest (own_in olds) olds parts old x before d groups gs (Ok some)
    run_made {x = x} {d = d} {gs = gs} lt h = record {
      all = record {
        rows = inv.given ++ joined held;
        poured = h.poured inv.given inv.poured inv.pieces.rise;
        merge = first_all s cuts first (knowns_of bytes (own_in olds)) (inv.given ++ joined held) rise lt inv.pieces;
        many = inv.many;
        none = inv.none;
        flushed = h.flushed;
      };
      over = over_on x d gs h.over;
      inputs = inv.inputs;
      drafts = record { later = omega (arith, inv.quiet, h.drafts.later); failed = tt; quiet = h.drafts.quiet ∙ inv.quiet; other = tt };
      reads = ([], inv.counts, tt);
      damaged = tt;
      accepts = tt;
    }

    -- one more round
    pub runs_next : {news : List (Part R)} {x : DeltaWriter M (Held M D)} {d : D} {gs : List Groups} {made : Vec (Result (List Row) FileError) Global} {next : ℕ} {more : Bool} → AllTell bytes (own_in olds) olds → next ≡ first + length parts
        → (more ≡ true → (some ≡ true) ⊎ (0 < length (joined made.items))) → (more ≡ false → (some ≡ false) × (joined made.items ≡ []))
        → HasRound told drawn counted bytes faults size s cuts first newest (joined held) parts news w x draft d now gs (Ok made) → Runs told drawn counted bytes faults size s cuts newest olds old before groups news x d gs next made.items more
    runs_next {news = news} {x = x} {d = d} {gs = gs} {made = made} {next = next} tells is many none h =
        let all : List Row = inv.given ++ joined held in
        let mid : List (Part R) = h.pieces.0 in
        let own : List (Input R) = own_in olds in
        let same : made.items ≡ answers_of mid = h.pieces.2 in
        let count = pieces_count bytes faults size s cuts first parts mid h.pieces.1 in
        let step = first_pieces bytes faults size s cuts own first parts mid all rise (tell_on bytes own own olds parts tells inv.inputs.known refl) h.pieces.1 (subst (AllByRecursion IsGained) same h.pieces.3) inv.pieces in
        let at : first + length mid ≡ next = omega (arith, count, is) in
        let long = length-append all (joined made.items) in
        record {
          given = all;
          poured = h.poured inv.given inv.poured inv.pieces.rise;
          pieces = subst (λ n. AreFirst s cuts n (knowns_of bytes own) (all ++ joined made.items)) at (subst (λ (rs : Answers). AreFirst s cuts (first + length mid) (knowns_of bytes own) (all ++ joined rs)) (sym same) step);
          many = λ yes. elim (many yes) [ inl so ↦ omega (arith, inv.many so, long) | inr so ↦ omega (arith, so, long) ];
          none = λ no. (let both = none no in λ i. inv.none both.0 i ++ both.1 i);
          sent = h.sent;
          over = over_on x d gs h.over;
          inputs = stay_on bytes olds parts news inv.inputs h.inputs;
          counts = h.pieces.4 ∙ inv.counts;
          quiet = h.drafts.quiet ∙ inv.quiet;
        }

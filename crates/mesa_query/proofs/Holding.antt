-- The newest file that holds a group.
use Rattle.std.proofs.Common.{◌≡◌, ℕ, zero, suc, ◌+◌, ◌<◌, ◌≤◌, List, [], ◌∷◌, ◌++◌, length, drop, get_or, set, inl, inr, refl, sym, ◌∙◌, ap, subst, arith}
use Rattle.std.specs.Prelude.{Option, Some, slice_get}
use Rattle.std.proofs.Math.Nat.{eq-or-lt_of_le}
use Rattle.std.proofs.lemmas.Option.{get_or_from_slice_get, slice_get-get_or, slice_get_within}
use Rattle.mesa_file.specs.declared.damage.Damage.{Damage}
use Rattle.mesa_group_blocks.specs.mesa_columns.declared.rows.Row.{Row}
use Rattle.mesa_group_blocks.specs.mesa_fold.Folded.{rows_of}
use Rattle.mesa_filter.specs.declared.terms.Term.{Term}
use Rattle.mesa_filter.specs.Filter.{filtered}
use Rattle.mesa_group_blocks.specs.mesa_delta_format.Indexed.{Indexed}
use Rattle.mesa_group_blocks.specs.mesa_delta.Reading.{index_of}
use Rattle.mesa_group_blocks.specs.mesa_scan.Damaged.{IsDamaged}
use Rattle.mesa_group_blocks.specs.mesa_merge.Inputs.{AreTold, IsTold, Known, known_of, knowns_of}
use Rattle.mesa_group_blocks.specs.mesa_answer.Gathering.{Wanted}
use Rattle.mesa_group_blocks.specs.mesa_answer.Sums.{HasGroup, SumLeavesAmong}
use Rattle.mesa_group_blocks.proofs.mesa_answer.Leaving.{group_before, leaves_behind, leaves_group}
use Rattle.mesa_group_blocks.specs.mesa_view.SumDamage.{IsSumDamage}
use Rattle.mesa_group_blocks.specs.mesa_open_files.declared.querying.PinnedInput.{PinnedInput}
use Rattle.mesa_group_blocks.specs.Moved.{AreMoved, IsMoved, inputs_in}
use Rattle.mesa_query.specs.Files.{IsDamageIn}
use Rattle.mesa_query.specs.Sums.{HoldsGroup, IsNewestFrom, IsSumIn, LacksGroup, rows_matching}
use Rattle.mesa_group_blocks.specs.Ungrouped.{parts_ungrouped}
use Rattle.mesa_group_blocks.proofs.Moved.{moved_further, moved_known, moved_same}
use Rattle.mesa_query.proofs.Files.{damage_before, file_damage, moved_count, moved_rows, moved_told}
use Rattle.mesa_group_blocks.proofs.Contents.{given_front, matching_first, told_count, told_here}

-- ---- damage of one of the files

-- of one behind the first ones
pub damage_behind : {R : Type 0} (bytes : R → Option (List ℕ)) (size : R → ℕ) (d : Damage) (n : ℕ) (old new : List (PinnedInput R)) → length new ≡ length old → IsDamageIn bytes size d (drop n old) (drop n new) → IsDamageIn bytes size d old new
damage_behind bytes size d zero old new long h = h
damage_behind bytes size d (suc n) [] new long h = absurd h
damage_behind bytes size d (suc n) (file ∷ old) [] long h = absurd (omega (arith, long))
damage_behind bytes size d (suc n) (file ∷ old) (now ∷ new) long h = inr (damage_behind bytes size d n old new (omega (arith, long)) h)

-- of one behind which no block was taken, among those behind the first ones
pub damage_dropped : {R : Type 0} (bytes : R → Option (List ℕ)) (size : R → ℕ) (d : Damage) (m : ℕ) (start files : List (PinnedInput R)) (n : ℕ) (x i : PinnedInput R) → m ≤ n → n < length files → length files ≡ length start → i ≡ get_or files n i
    → AreMoved bytes size (drop n start) (drop n files) → IsDamaged bytes size i.input d → IsDamageIn bytes size d (drop m start) (drop m (set files n x))
damage_dropped bytes size d zero start files n x i le lt long is left h = file_damage bytes size d start files n x i lt long is left h
damage_dropped bytes size d (suc m) [] files n x i le lt long is left h = absurd (omega (arith, lt, long))
damage_dropped bytes size d (suc m) (s ∷ start) [] n x i le lt long is left h = absurd (omega (arith, lt))
damage_dropped bytes size d (suc m) (s ∷ start) (y ∷ files) zero x i le lt long is left h = absurd (omega (arith, le))
damage_dropped bytes size d (suc m) (s ∷ start) (y ∷ files) (suc n) x i le lt long is left h = damage_dropped bytes size d m start files n x i (omega (arith, le)) (omega (arith, lt)) (omega (arith, long)) is left h

-- of files of which blocks were read ahead before
pub damage_moved : {R : Type 0} (bytes : R → Option (List ℕ)) (size : R → ℕ) (d : Damage) (start old new : List (PinnedInput R)) → AreMoved bytes size start old → IsDamageIn bytes size d old new → IsDamageIn bytes size d start new
damage_moved bytes size d [] [] new m h = h
damage_moved bytes size d [] (file ∷ old) new m h = absurd m
damage_moved bytes size d (s ∷ start) [] new m h = absurd m
damage_moved bytes size d (s ∷ start) (file ∷ old) [] m h = absurd h
damage_moved bytes size d (s ∷ start) (file ∷ old) (now ∷ new) m h = elim h [
  | inl here ↦ inl (damage_before bytes size d s file m.0 here.0, moved_further bytes size start old new m.1 here.1)
  | inr later ↦ inr (damage_moved bytes size d start old new m.1 later)
]

-- none is told of files that are told
pub damage_unsound : {R : Type 0} (bytes : R → Option (List ℕ)) (size : R → ℕ) (d : Damage) (old new : List (PinnedInput R)) (contents : List (List Row)) → IsDamageIn bytes size d old new → AreTold (knowns_of bytes (inputs_in old)) contents → ⊥
damage_unsound bytes size d [] new contents h told = h
damage_unsound bytes size d (file ∷ old) [] contents h told = h
damage_unsound bytes size d (file ∷ old) (now ∷ new) [] h told = told
damage_unsound bytes size d (file ∷ old) (now ∷ new) (rows ∷ contents) h told = elim h [
  | inl here ↦ here.0.unsound told.0.0 rows told.0.1 told.0.2
  | inr later ↦ damage_unsound bytes size d old new contents later told.1
]

-- ---- the newest of the files so far

pub record IsNewestTo {R : Type 0} (bytes : R → Option (List ℕ)) (w : Wanted) (terms : List Term) (view : Option ℕ) (key : List ℕ) (from to : ℕ) (files : List (PinnedInput R)) (id : ℕ) : Type 0 where
  pub at : ℕ
  pub file : PinnedInput R
  pub behind : from ≤ at
  pub under : at < to
  pub one : slice_get files at ≡ Some file
  pub holds : from < at → HoldsGroup bytes w terms view key file
  pub newer : (j : ℕ) (other : PinnedInput R) → at < j → j < to → slice_get files j ≡ Some other → LacksGroup bytes w terms view key other
  pub is : id ≡ (index_of file.input.reader).file

-- the first of them
pub newest_first : {R : Type 0} (bytes : R → Option (List ℕ)) (w : Wanted) (terms : List Term) (view : Option ℕ) (key : List ℕ) (from : ℕ) (files : List (PinnedInput R)) (id : ℕ) (file : PinnedInput R) → from < length files → file ≡ get_or files from file → id ≡ (index_of file.input.reader).file
    → IsNewestTo bytes w terms view key from (from + 1) files id
newest_first bytes w terms view key from files id file lt here is = record {
  at = from;
  file = file;
  behind = omega arith;
  under = omega arith;
  one = slice_get-get_or files from file lt ∙ ap Some (sym here);
  holds = λ more. absurd (omega (arith, more));
  newer = λ j other above below. absurd (omega (arith, above, below));
  is = is;
}

-- one file more, which holds the group
pub newest_here : {R : Type 0} (bytes : R → Option (List ℕ)) (w : Wanted) (terms : List Term) (view : Option ℕ) (key : List ℕ) (from i : ℕ) (files : List (PinnedInput R)) (id : ℕ) (file : PinnedInput R) → from ≤ i → i < length files → file ≡ get_or files i file → id ≡ (index_of file.input.reader).file
    → HoldsGroup bytes w terms view key file → IsNewestTo bytes w terms view key from (i + 1) files id
newest_here bytes w terms view key from i files id file behind lt here is holds = record {
  at = i;
  file = file;
  behind = behind;
  under = omega arith;
  one = slice_get-get_or files i file lt ∙ ap Some (sym here);
  holds = λ _. holds;
  newer = λ j other above below. absurd (omega (arith, above, below));
  is = is;
}

-- or doesn't
pub newest_before : {R : Type 0} (bytes : R → Option (List ℕ)) (w : Wanted) (terms : List Term) (view : Option ℕ) (key : List ℕ) (from i : ℕ) (files : List (PinnedInput R)) (id : ℕ) (file : PinnedInput R) → file ≡ get_or files i file
    → LacksGroup bytes w terms view key file → IsNewestTo bytes w terms view key from i files id → IsNewestTo bytes w terms view key from (i + 1) files id
newest_before {R = R} bytes w terms view key from i files id file here lacks h = record {
  at = h.at;
  file = h.file;
  behind = h.behind;
  under = omega (arith, h.under);
  one = h.one;
  holds = h.holds;
  newer = λ j other above below there.
      elim (eq-or-lt_of_le (let le : j ≤ i = omega (arith, below) in le)) [
        | inl same ↦
            let at : slice_get files i ≡ Some other = subst (λ n. slice_get files n ≡ Some other) same there in
            let this : file ≡ other = here ∙ get_or_from_slice_get files i other file at in
            subst (LacksGroup bytes w terms view key) this lacks
        | inr lt ↦ h.newer j other above lt there
      ];
  is = h.is;
}

-- all files were looked at
pub newest_all : {R : Type 0} (bytes : R → Option (List ℕ)) (w : Wanted) (terms : List Term) (view : Option ℕ) (key : List ℕ) (from to : ℕ) (files : List (PinnedInput R)) (id : ℕ) → length files ≤ to → IsNewestTo bytes w terms view key from to files id → IsNewestFrom bytes w terms view key from files id
newest_all bytes w terms view key from to files id le h = record {
  at = h.at;
  file = h.file;
  behind = h.behind;
  one = h.one;
  holds = h.holds;
  newer = λ j other above there. h.newer j other above (let lt : j < length files = slice_get_within files j other there in omega (arith, lt, le)) there;
  is = h.is;
}

-- ---- the sum

-- a file behind the first ones, as it was and as it is
pub record WasMoved {R : Type 0} (bytes : R → Option (List ℕ)) (size : R → ℕ) (files : List (PinnedInput R)) (j : ℕ) (now : PinnedInput R) : Type 0 where
  pub was : PinnedInput R
  pub there : slice_get files j ≡ Some was
  pub moved : IsMoved bytes size was now

was_moved : {R : Type 0} (bytes : R → Option (List ℕ)) (size : R → ℕ) (n j : ℕ) (start now : List (PinnedInput R)) (file : PinnedInput R) → length now ≡ length start → AreMoved bytes size (drop n start) (drop n now) → n ≤ j → slice_get now j ≡ Some file → WasMoved bytes size start j file
was_moved bytes size n j [] [] file long m le there = cc there
was_moved bytes size n j [] (y ∷ now) file long m le there = absurd (omega (arith, long))
was_moved bytes size n j (s ∷ start) [] file long m le there = absurd (omega (arith, long))
was_moved {R = R} bytes size zero zero (s ∷ start) (y ∷ now) file long m le there = record { was = s; there = refl; moved = subst (λ (f : PinnedInput R). IsMoved bytes size s f) (cc there) m.0 }
was_moved bytes size zero (suc j) (s ∷ start) (y ∷ now) file long m le there = let rest = was_moved bytes size zero j start now file (omega (arith, long)) m.1 (omega arith) there in record { was = rest.was; there = rest.there; moved = rest.moved }
was_moved bytes size (suc n) zero (s ∷ start) (y ∷ now) file long m le there = absurd (omega (arith, le))
was_moved bytes size (suc n) (suc j) (s ∷ start) (y ∷ now) file long m le there = let rest = was_moved bytes size n j start now file (omega (arith, long)) m (omega (arith, le)) there in record { was = rest.was; there = rest.there; moved = rest.moved }

record NowMoved {R : Type 0} (bytes : R → Option (List ℕ)) (size : R → ℕ) (files : List (PinnedInput R)) (j : ℕ) (was : PinnedInput R) : Type 0 where
  now : PinnedInput R
  there : slice_get files j ≡ Some now
  moved : IsMoved bytes size was now

now_moved : {R : Type 0} (bytes : R → Option (List ℕ)) (size : R → ℕ) (n j : ℕ) (start now : List (PinnedInput R)) (file : PinnedInput R) → length now ≡ length start → AreMoved bytes size (drop n start) (drop n now) → n ≤ j → slice_get start j ≡ Some file → NowMoved bytes size now j file
now_moved bytes size n j [] [] file long m le there = cc there
now_moved bytes size n j [] (y ∷ now) file long m le there = absurd (omega (arith, long))
now_moved bytes size n j (s ∷ start) [] file long m le there = absurd (omega (arith, long))
now_moved {R = R} bytes size zero zero (s ∷ start) (y ∷ now) file long m le there = record { now = y; there = refl; moved = subst (λ (f : PinnedInput R). IsMoved bytes size f y) (cc there) m.0 }
now_moved bytes size zero (suc j) (s ∷ start) (y ∷ now) file long m le there = let rest = now_moved bytes size zero j start now file (omega (arith, long)) m.1 (omega arith) there in record { now = rest.now; there = rest.there; moved = rest.moved }
now_moved bytes size (suc n) zero (s ∷ start) (y ∷ now) file long m le there = absurd (omega (arith, le))
now_moved bytes size (suc n) (suc j) (s ∷ start) (y ∷ now) file long m le there = let rest = now_moved bytes size n j start now file (omega (arith, long)) m (omega (arith, le)) there in record { now = rest.now; there = rest.there; moved = rest.moved }

-- what a file held as it is, it held as it was
pub holds_moved : {R : Type 0} (bytes : R → Option (List ℕ)) (size : R → ℕ) (w : Wanted) (terms : List Term) (view : Option ℕ) (key : List ℕ) (old new : PinnedInput R) → IsMoved bytes size old new → HoldsGroup bytes w terms view key new → HoldsGroup bytes w terms view key old
holds_moved bytes size w terms view key old new m h = λ rows told.
    subst (HasGroup w.schema w.columns key) (ap (filtered w.schema terms) (moved_rows bytes size view old new rows m)) (h rows (moved_told bytes size old new rows m told))

pub lacks_moved : {R : Type 0} (bytes : R → Option (List ℕ)) (size : R → ℕ) (w : Wanted) (terms : List Term) (view : Option ℕ) (key : List ℕ) (old new : PinnedInput R) → IsMoved bytes size old new → LacksGroup bytes w terms view key new → LacksGroup bytes w terms view key old
lacks_moved bytes size w terms view key old new m h = λ rows told has.
    h rows (moved_told bytes size old new rows m told) (subst (HasGroup w.schema w.columns key) (sym (ap (filtered w.schema terms) (moved_rows bytes size view old new rows m))) has)

pub file_moved : {R : Type 0} (bytes : R → Option (List ℕ)) (size : R → ℕ) (old new : PinnedInput R) → IsMoved bytes size old new → (index_of new.input.reader).file ≡ (index_of old.input.reader).file
file_moved bytes size old new m = ap (λ (x : Indexed). x.file) (moved_same bytes size old new m).index

-- THE SUM IS TOLD of the newest file that holds its group: with a row of this file it leaves its type, and those behind it are looked at.
pub sum_in : {R : Type 0} (bytes : R → Option (List ℕ)) (size : R → ℕ) (w : Wanted) (terms : List Term) (view : Option ℕ) (key : List ℕ) (start now : List (PinnedInput R)) (i : ℕ) (file x : PinnedInput R) (given more : List Row) (id : ℕ) (d : Damage)
    → i < length start → length now ≡ length start → file ≡ get_or start i file → x ≡ get_or now i x → (index_of x.input.reader).file ≡ (index_of file.input.reader).file → AreMoved bytes size (drop (suc i) start) (drop (suc i) now)
    → SumLeavesAmong w given more key → ((contents : List (List Row)) → AreTold (knowns_of bytes (inputs_in start)) contents → given ≡ matching_first w.schema terms view start contents i)
    → ((rows : List Row) → IsTold (known_of bytes file.input) rows → (rest : List Row) × (rows_matching w.schema terms view file rows ≡ more ++ rest))
    → IsNewestFrom bytes w terms view key i now id → IsSumDamage id d → IsSumIn bytes w terms view start d
sum_in {R = R} bytes size w terms view key start now i file x given more id d lt long here there same left leaves put read newest told =
    let own : HoldsGroup bytes w terms view key file = λ rows is.
    let first = read rows is in
    subst (HasGroup w.schema w.columns key) (sym first.1) (group_before w.schema w.columns key more first.0 (leaves_group w given more key leaves)) in
    let first = λ (contents : List (List Row)) (are : AreTold (knowns_of bytes (inputs_in start)) contents).
    let front = read (get_or contents i []) (told_here bytes start contents i file are lt here) in
    given_front w.schema terms view start contents i file given more front.0 lt (told_count bytes start contents are) here (put contents are) front.1 in
    let begin : SumLeavesAmong w [] (given ++ more) key = leaves_behind w [] given more key leaves in
    let newer : (at : ℕ) → i ≤ at → ((j : ℕ) (other : PinnedInput R) → at < j → slice_get now j ≡ Some other → LacksGroup bytes w terms view key other) → (j : ℕ) (other : PinnedInput R) → at < j → slice_get start j ≡ Some other → LacksGroup bytes w terms view key other = λ at le none j other above one.
    let is = now_moved bytes size (suc i) j start now other long left (let more : suc i ≤ j = omega (arith, le, above) in more) one in
    lacks_moved bytes size w terms view key other is.now is.moved (none j is.now above is.there) in
    elim (eq-or-lt_of_le newest.behind) [
      | inl is ↦
          let at : slice_get now i ≡ Some newest.file = subst (λ n. slice_get now n ≡ Some newest.file) (sym is) newest.one in
          let this : newest.file ≡ x = sym (there ∙ get_or_from_slice_get now i newest.file x at) in
          let file_is : id ≡ (index_of file.input.reader).file = newest.is ∙ ap (λ (f : PinnedInput R). (index_of f.input.reader).file) this ∙ same in
          record {
            key = key;
            given = given ++ more;
            leaves = begin;
            first = first;
            at = newest.at;
            file = file;
            one = ap (slice_get start) (sym is) ∙ slice_get-get_or start i file lt ∙ ap Some (sym here);
            holds = own;
            newer = newer newest.at newest.behind newest.newer;
            told = subst (λ n. IsSumDamage n d) file_is told;
          }
      | inr above ↦
          let was = was_moved bytes size (suc i) newest.at start now newest.file long left (let more : suc i ≤ newest.at = omega (arith, above) in more) newest.one in
          record {
            key = key;
            given = given ++ more;
            leaves = begin;
            first = first;
            at = newest.at;
            file = was.was;
            one = was.there;
            holds = holds_moved bytes size w terms view key was.was newest.file was.moved (newest.holds above);
            newer = newer newest.at newest.behind newest.newer;
            told = subst (λ n. IsSumDamage n d) (newest.is ∙ file_moved bytes size was.was newest.file was.moved) told;
          }
    ]

-- ---- files of which blocks were read before

pub parts_moved : {R : Type 0} (bytes : R → Option (List ℕ)) (size : R → ℕ) (view : Option ℕ) (start now : List (PinnedInput R)) (contents : List (List Row)) → AreMoved bytes size start now → parts_ungrouped view now contents ≡ parts_ungrouped view start contents
parts_moved bytes size view [] [] contents m = refl
parts_moved bytes size view [] (y ∷ now) contents m = absurd m
parts_moved bytes size view (s ∷ start) [] contents m = absurd m
parts_moved bytes size view (s ∷ start) (y ∷ now) [] m = refl
parts_moved bytes size view (s ∷ start) (y ∷ now) (rows ∷ contents) m = λ i. moved_rows bytes size view s y rows m.0 i ∷ parts_moved bytes size view start now contents m.1 i

-- A sum that is told of them is one of theirs as they were.
pub sum_before : {R : Type 0} (bytes : R → Option (List ℕ)) (size : R → ℕ) (w : Wanted) (terms : List Term) (view : Option ℕ) (start now : List (PinnedInput R)) (d : Damage) → AreMoved bytes size start now → IsSumIn bytes w terms view now d → IsSumIn bytes w terms view start d
sum_before {R = R} bytes size w terms view start now d m h =
    let long : length now ≡ length start = moved_count bytes size start now m in
    let was = was_moved bytes size 0 h.at start now h.file long m (omega arith) h.one in
    record {
      key = h.key;
      given = h.given;
      leaves = h.leaves;
      first = λ contents told.
          subst (λ (parts : List (List Row)). (rest : List Row) × (filtered w.schema terms (rows_of parts) ≡ h.given ++ rest)) (parts_moved bytes size view start now contents m)
          (h.first contents (subst (λ (ks : List Known). AreTold ks contents) (sym (moved_known bytes size start now m)) told));
      at = h.at;
      file = was.was;
      one = was.there;
      holds = holds_moved bytes size w terms view h.key was.was h.file was.moved h.holds;
      newer = λ j other above there.
          let is = now_moved bytes size 0 j start now other long m (omega arith) there in
          lacks_moved bytes size w terms view h.key other is.now is.moved (h.newer j is.now above is.there);
      told = subst (λ n. IsSumDamage n d) (file_moved bytes size was.was h.file was.moved) h.told;
    }

-- What a checkpoint states, both ways.
use Rattle.std.proofs.Common.{◌≡◌, ℕ, ◌+◌, ◌<◌, ◌^◌, List, [], ◌∷◌, ◌++◌, length, refl, sym, ap, subst, ◌∙◌, append_assoc, arith, Bool, true, false, Ok, Option, Some, None}
use Rattle.std.specs.Prelude.{IsTrue, ◌&&◌, flat_map, nat_le, nat_lt}
use Rattle.std.specs.List.{AllByRecursion, list_all}
use Rattle.std.proofs.lemmas.Bool.{ltb-true, lt-ltb}
use Rattle.mesa_record_fields.proofs.mesa_list.Whole.{both}
use Rattle.mesa_record_fields.specs.mesa_columns.declared.changes.Change.{Change}
use Rattle.mesa_record_fields.specs.mesa_columns.declared.views.View.{View}
use Rattle.mesa_record_fields.specs.declared.edition.Edition.{Edition}
use Rattle.mesa_record_fields.specs.declared.edition.Edition.TheVariants.{First, Second, Third, Fourth}
use Rattle.mesa_record.specs.declared.checkpoint.CheckpointRange.{CheckpointRange}
use Rattle.mesa_record.specs.declared.checkpoint.CheckpointSingle.{CheckpointSingle}
use Rattle.mesa_record.specs.declared.checkpoint.CheckpointTable.{CheckpointTable}
use Rattle.mesa_record.specs.declared.checkpoint.StatedColumns.{StatedColumns}
use Rattle.mesa_record.specs.declared.checkpoint.StatedDeltas.{StatedDeltas}
use Rattle.mesa_record.specs.declared.checkpoint.Checkpoint.{Checkpoint}
use Rattle.mesa_record_fields.specs.Reading.{Left, Read, byte_at, change_at, count_at, flag_of, half_at, key_columns_at, meaning, name_at, names_at, sized_at, totals_at, value_columns_at, word_at}
use Rattle.mesa_record.specs.Reading.{base_if, begins_at, base_if_any_at, columns_in, deltas_in, files_at, files_if_any_at, oldest_at, stated_at, stated_columns_at, stated_deltas_at, stated_of, stated_range_at, stated_single_at, stated_table_at, stated_view_at, stated_views_at}
use Rattle.mesa_record_fields.specs.Rules.{IsTypedChange, IsWord, is_change, is_count_of_columns, is_long, is_short}
use Rattle.mesa_record.specs.Rules.{AreTypedColumns, AreTypedDeltas, FitsBase, FitsBegins, FitsOldest, FitsRange, FitsSingle, FitsTable, IsTypedBase, IsTypedCheckpoint, IsTypedRange, IsTypedSingle, IsTypedStatedView, IsTypedTable, are_files, are_stated_columns, are_stated_deltas, is_base_if_any, is_checkpoint, is_stated_range, is_stated_single, is_stated_table, is_stated_view}
use Rattle.mesa_record_fields.specs.Spelling.{change, counted, flag, half, key_column, sized, text, total, value_column, word}
use Rattle.mesa_record.specs.Spelling.{base_if_any, begins_field, checkpoint_fields, files, files_if_any, oldest_field, stated_columns, stated_deltas, stated_range, stated_single, stated_table, stated_view}
use Rattle.mesa_record_fields.proofs.Both.{Again, Begins, Found, begins_two, here, list_found, of_ok, ok_is, step_of}
use Rattle.mesa_record_fields.proofs.Numbers.{byte_again, byte_found, half_again, half_found, one, word_again, word_found}
use Rattle.mesa_record_fields.proofs.Texts.{meaning_again, meaning_found, ruled_again, ruled_found}
use Rattle.mesa_record_fields.proofs.ColumnsBoth.{HasKeys, HasValues, all_of_order, change_again, change_found, flag_of_byte, keys_again, keys_found, made_again, many_again, name_again, name_found, names_again, names_found, values_again, values_found}
use Rattle.mesa_record_fields.proofs.FileRefsBoth.{AreTotals, all_true, totals_again, totals_found}
use Rattle.mesa_record.proofs.FilesBoth.{files_again, files_found, files_if_any_again, files_if_any_found, files_if_any_keep, files_if_any_of, files_keep, files_of}

-- ---- what is kept by a thing that is read, and by each of a list

-- a thing within its type that keeps its rules, and that an edition has room for
pub record Keeps {A : Type 0} (Typed : A → Type 0) (rule : A → Bool) (Fits : A → Type 0) (x : A) : Type 0 where
  pub typed : Typed x
  pub rules : IsTrue (rule x)
  pub fits : Fits x

-- things that every edition has room for
abbrev Anyhow : {A : Type 0} → A → Type 0
Anyhow x = Unit {0}

all_anyhow : {A : Type 0} (xs : List A) → AllByRecursion Anyhow xs
all_anyhow [] = tt
all_anyhow (x ∷ xs) = (tt, all_anyhow xs)

module _ {A : Type 0} (Typed : A → Type 0) (rule : A → Bool) (Fits : A → Type 0) where
  all_keep : (xs : List A) → AllByRecursion Typed xs → IsTrue (list_all rule xs) → AllByRecursion Fits xs → AllByRecursion (Keeps Typed rule Fits) xs
  all_keep [] typed rules fits = tt
  all_keep (x ∷ xs) typed rules fits =
      let r = both (rule x) (list_all rule xs) rules in
      (record { typed = typed.0; rules = r.0; fits = fits.0 }, all_keep xs typed.1 r.1 fits.1)

  all_kept : (xs : List A) → AllByRecursion (Keeps Typed rule Fits) xs → Keeps (AllByRecursion Typed) (list_all rule) (AllByRecursion Fits) xs
  all_kept [] all = record { typed = tt; rules = refl; fits = tt }
  all_kept (x ∷ xs) all =
      let rest = all_kept xs all.1 in
      record { typed = (all.0.typed, rest.typed); rules = all_true (rule x) (list_all rule xs) all.0.rules rest.rules; fits = (all.0.fits, rest.fits) }

-- a list no longer than its count can tell, of things that keep theirs
abbrev KeepAll : {A : Type 0} → (ℕ → Bool) → (A → Type 0) → (A → Bool) → (A → Type 0) → List A → Type 0
KeepAll few Typed rule Fits = Keeps (AllByRecursion Typed) (λ xs. few (length xs) && list_all rule xs) (AllByRecursion Fits)

-- ---- lists behind their counts

module _ (count_at : Left → Read ℕ) (count : ℕ → List ℕ) (few : ℕ → Bool) where
  pub sized_again : {A : Type 0} (read : Left → Read A) (spell : A → List ℕ) (Typed : A → Type 0) (rule : A → Bool) (Fits : A → Type 0)
      → ((n : ℕ) → IsTrue (few n) → Again count_at (count n) n) → ((x : A) → Keeps Typed rule Fits x → Again read (spell x) x)
      → (xs : List A) → KeepAll few Typed rule Fits xs → Again (sized_at count_at read) (sized count spell xs) xs
  sized_again read spell Typed rule Fits size each xs is at more =
      let r = both (few (length xs)) (list_all rule xs) is.rules in
      let n = size (length xs) r.0 at (flat_map spell xs ++ more) in
      let fields = many_again read spell (Keeps Typed rule Fits) each xs (all_keep Typed rule Fits xs is.typed r.1 is.fits) n.0 more in
      (fields.0, ap (λ bytes. sized_at count_at read (here at bytes)) (append_assoc (count (length xs)) (flat_map spell xs) more) ∙ rw (n.1, fields.1) refl)

  pub sized_found : {A : Type 0} (read : Left → Read A) (spell : A → List ℕ) (Typed : A → Type 0) (rule : A → Bool) (Fits : A → Type 0)
      → Found count_at count (λ n. IsTrue (few n)) → Found read spell (Keeps Typed rule Fits) → Found (sized_at count_at read) (sized count spell) (KeepAll few Typed rule Fits)
  sized_found read spell Typed rule Fits size each l after xs bytes h =
      let s = step_of (count_at l) _ _ h in
      let f = size l s.0.1 s.0.0 bytes s.1 in
      let g = list_found (λ x. 0) (λ least. read) spell (λ least x. Keeps Typed rule Fits x) (λ least. each) 1 s.0.0 s.0.1 after xs f.1.rest s.2 in
      let kept = all_kept Typed rule Fits xs (all_of_order (Keeps Typed rule Fits) 1 xs g.order) in (
        record { typed = kept.typed; rules = all_true (few (length xs)) (list_all rule xs) (subst (λ n. IsTrue (few n)) (sym g.count) f.0) kept.rules; fits = kept.fits },
        subst (λ n. Begins l (count n ++ flat_map spell xs) after) (sym g.count) (begins_two l s.0.1 after (count s.0.0) (flat_map spell xs) f.1 g.begins),
      )

abbrev in_two : ℕ → Bool
in_two n = nat_lt n (2 ^ 16)

in_two_again : (n : ℕ) → IsTrue (in_two n) → Again half_at (half n) n
in_two_again n h = half_again n (ltb-true _ _ h)

in_two_found : Found half_at half (λ n. IsTrue (in_two n))
in_two_found l after n bytes h = let f = half_found l after n bytes h in (lt-ltb _ _ f.0, f.1)

abbrev pub in_four : ℕ → Bool
in_four n = nat_lt n (2 ^ 32)

pub in_four_again : (n : ℕ) → IsTrue (in_four n) → Again word_at (word n) n
in_four_again n h = word_again n (ltb-true _ _ h)

pub in_four_found : Found word_at word (λ n. IsTrue (in_four n))
in_four_found l after n bytes h = let f = word_found l after n bytes h in (lt-ltb _ _ f.0, f.1)

-- ---- changes and views

stated_change_again : (c : Change) → Keeps IsTypedChange is_change Anyhow c → Again change_at (change c) c
stated_change_again c is = change_again c (is.typed, is.rules)

stated_change_found : Found change_at change (Keeps IsTypedChange is_change Anyhow)
stated_change_found l after c bytes h = let f = change_found l after c bytes h in (record { typed = f.0.0; rules = f.0.1; fits = tt }, f.1)

abbrev IsView : View → Type 0
IsView = Keeps IsTypedStatedView is_stated_view Anyhow

view_again : (v : View) → IsView v → Again stated_view_at (stated_view v) v
view_again v is at more =
    let counts = both (is_count_of_columns (length v.keys)) (is_count_of_columns (length v.values)) is.rules in
    let b2 = counted text v.values ++ more in
    let b1 = counted text v.keys ++ b2 in
    let r1 = name_again v.name is.typed.name at b1 in
    let r2 = names_again v.keys (record { all = is.typed.keys; count = counts.0 }) r1.0 b2 in
    let r3 = names_again v.values (record { all = is.typed.values; count = counts.1 }) r2.0 more in
    let flat : stated_view v ++ more ≡ text v.name ++ b1 = simp append_assoc refl in
    (r3.0, ap (λ bytes. stated_view_at (here at bytes)) flat ∙ rw (r1.1, r2.1, r3.1) refl)

view_found : Found stated_view_at stated_view IsView
view_found l after v bytes h =
    let s1 = step_of (name_at l) _ _ h in
    let f1 = name_found l s1.0.1 s1.0.0 bytes s1.1 in
    let s2 = step_of (names_at s1.0.1) _ _ s1.2 in
    let f2 = names_found s1.0.1 s2.0.1 s2.0.0 f1.1.rest s2.1 in
    let s3 = step_of (names_at s2.0.1) _ _ s2.2 in
    let f3 = names_found s2.0.1 s3.0.1 s3.0.0 f2.1.rest s3.1 in
    let made : View = record { name = s1.0.0; keys = s2.0.0; values = s3.0.0 } in
    subst (λ (z : View × Left). IsView z.0 × Begins l (stated_view z.0) z.1) (ok_is (made, s3.0.1) (v, after) s3.2) (
      record { typed = record { name = f1.0; keys = f2.0.all; values = f3.0.all }; rules = all_true (is_count_of_columns (length made.keys)) (is_count_of_columns (length made.values)) f2.0.count f3.0.count; fits = tt },
      begins_two l s1.0.1 s3.0.1 _ _ f1.1 (begins_two s1.0.1 s2.0.1 s3.0.1 _ _ f2.1 f3.1),
    )

abbrev few_views : ℕ → Bool
few_views n = nat_le n 8

few_views_again : (n : ℕ) → IsTrue (few_views n) → Again (count_at 8) (one n) n
few_views_again n h = ruled_again few_views byte_at (one n) n h (λ at more. (at + 1, byte_again n at more))

few_views_found : Found (count_at 8) one (λ n. IsTrue (few_views n))
few_views_found l after n bytes h = let f = ruled_found few_views byte_at one (λ b. b < 2 ^ 8) byte_found l after n bytes h in (f.0.1, f.1)

-- ---- deltas

abbrev IsRange : Edition → CheckpointRange → Type 0
IsRange e = Keeps IsTypedRange is_stated_range (FitsRange e)

range_again : (e : Edition) (r : CheckpointRange) → IsRange e r → Again (stated_range_at e) (stated_range e r) r
range_again e r is at more =
    let b2 = files_if_any e r.files ++ more in
    let b1 = word r.epoch ++ b2 in
    let r1 = word_again r.to is.typed.to at b1 in
    let r2 = word_again r.epoch is.typed.epoch r1.0 b2 in
    let r3 = files_if_any_again e r.files (files_if_any_of e r.files is.typed.files is.fits is.rules) r2.0 more in
    let flat : stated_range e r ++ more ≡ word r.to ++ b1 = simp append_assoc refl in
    (r3.0, ap (λ bytes. stated_range_at e (here at bytes)) flat ∙ rw (r1.1, r2.1, r3.1) refl)

range_found : (e : Edition) → Found (stated_range_at e) (stated_range e) (IsRange e)
range_found e l after r bytes h =
    let s1 = step_of (word_at l) _ _ h in
    let f1 = word_found l s1.0.1 s1.0.0 bytes s1.1 in
    let s2 = step_of (word_at s1.0.1) _ _ s1.2 in
    let f2 = word_found s1.0.1 s2.0.1 s2.0.0 f1.1.rest s2.1 in
    let s3 = step_of (files_if_any_at e s2.0.1) _ _ s2.2 in
    let f3 = files_if_any_found e s2.0.1 s3.0.1 s3.0.0 f2.1.rest s3.1 in
    let keep = files_if_any_keep e s3.0.0 f3.0 in
    let made : CheckpointRange = record { to = s1.0.0; epoch = s2.0.0; files = s3.0.0 } in
    subst (λ (z : CheckpointRange × Left). IsRange e z.0 × Begins l (stated_range e z.0) z.1) (ok_is (made, s3.0.1) (r, after) s3.2) (
      record { typed = record { to = f1.0; epoch = f2.0; files = keep.0 }; rules = keep.2; fits = keep.1 },
      begins_two l s1.0.1 s3.0.1 _ _ f1.1 (begins_two s1.0.1 s2.0.1 s3.0.1 _ _ f2.1 f3.1),
    )

abbrev IsSingle : Edition → CheckpointSingle → Type 0
IsSingle e = Keeps IsTypedSingle is_stated_single (FitsSingle e)

pub single_again : (e : Edition) (s : CheckpointSingle) → IsSingle e s → Again (stated_single_at e) (stated_single e s) s
unfolding stated_single_at stated_single
single_again e s is at more =
    let r = both (are_files s.files) (nat_le (length s.totals) 16) is.rules in
    let b3 = counted (total e) s.totals ++ more in
    let b2 = files e s.files ++ b3 in
    let b1 = word s.epoch ++ b2 in
    let r1 = word_again s.version is.typed.version at b1 in
    let r2 = word_again s.epoch is.typed.epoch r1.0 b2 in
    let r3 = files_again e s.files (files_of e s.files is.typed.files is.fits.files r.0) r2.0 b3 in
    let r4 = totals_again e s.totals is.typed.totals is.fits.totals r.1 r3.0 more in
    let flat : stated_single e s ++ more ≡ word s.version ++ b1 = simp append_assoc refl in
    (r4.0, ap (λ bytes. stated_single_at e (here at bytes)) flat ∙ rw (r1.1, r2.1, r3.1, r4.1) refl)

pub single_found : (e : Edition) → Found (stated_single_at e) (stated_single e) (IsSingle e)
unfolding stated_single_at stated_single
single_found e l after s bytes h =
    let s1 = step_of (word_at l) _ _ h in
    let f1 = word_found l s1.0.1 s1.0.0 bytes s1.1 in
    let s2 = step_of (word_at s1.0.1) _ _ s1.2 in
    let f2 = word_found s1.0.1 s2.0.1 s2.0.0 f1.1.rest s2.1 in
    let s3 = step_of (files_at e s2.0.1) _ _ s2.2 in
    let f3 = files_found e s2.0.1 s3.0.1 s3.0.0 f2.1.rest s3.1 in
    let s4 = step_of (totals_at e s3.0.1) _ _ s3.2 in
    let f4 = totals_found e s3.0.1 s4.0.1 s4.0.0 f3.1.rest s4.1 in
    let keep = files_keep e s3.0.0 f3.0 in
    let made : CheckpointSingle = record { version = s1.0.0; epoch = s2.0.0; files = s3.0.0; totals = s4.0.0 } in
    subst (λ (z : CheckpointSingle × Left). IsSingle e z.0 × Begins l (stated_single e z.0) z.1) (ok_is (made, s4.0.1) (s, after) s4.2) (
      record {
        typed = record { version = f1.0; epoch = f2.0; files = keep.0; totals = f4.0.typed };
        rules = all_true (are_files made.files) (nat_le (length made.totals) 16) keep.2 f4.0.few;
        fits = record { files = keep.1; totals = f4.0.fits };
      },
      begins_two l s1.0.1 s4.0.1 _ _ f1.1 (begins_two s1.0.1 s2.0.1 s4.0.1 _ _ f2.1 (begins_two s2.0.1 s3.0.1 s4.0.1 _ _ f3.1 f4.1)),
    )

abbrev IsBase : Edition → Option CheckpointRange → Type 0
IsBase e = Keeps IsTypedBase is_base_if_any (FitsBase e)

base_again : (e : Edition) (o : Option CheckpointRange) → IsBase e o → Again (base_if_any_at e) (base_if_any e o) o
base_again e None is at more = let some = meaning_again flag_of 0 false refl at more in (some.0, rw some.1 refl)
base_again e (Some r) is at more =
    let some = meaning_again flag_of 1 true refl at (stated_range e r ++ more) in
    let all = made_again (stated_range_at e) Some (stated_range e r) r (range_again e r (record { typed = is.typed; rules = is.rules; fits = is.fits })) some.0 more in
    (all.0, rw some.1 all.1)

-- the base behind the flag
base_if_found : (e : Edition) (some : Bool) (l mid after : Left) (o : Option CheckpointRange) → Begins l (one (flag some)) mid → base_if e some mid ≡ Ok (o, after) → IsBase e o × Begins l (base_if_any e o) after
base_if_found e false l mid after o first h =
    subst (λ (z : Option CheckpointRange × Left). IsBase e z.0 × Begins l (base_if_any e z.0) z.1) (of_ok _ (None, mid) (o, after) refl h) (record { typed = tt; rules = refl; fits = tt }, first)
base_if_found e true l mid after o first h =
    let s = step_of (stated_range_at e mid) _ _ h in
    let g = range_found e mid s.0.1 s.0.0 first.rest s.1 in
    subst (λ (z : Option CheckpointRange × Left). IsBase e z.0 × Begins l (base_if_any e z.0) z.1) (of_ok _ (Some s.0.0, s.0.1) (o, after) refl s.2)
    (record { typed = g.0.typed; rules = g.0.rules; fits = g.0.fits }, begins_two l mid s.0.1 (one 1) (stated_range e s.0.0) first g.1)

base_found : (e : Edition) → Found (base_if_any_at e) (base_if_any e) (IsBase e)
base_found e l after o bytes h =
    let s = step_of (meaning flag_of l) _ _ h in
    let g = meaning_found flag_of flag flag_of_byte l s.0.1 s.0.0 bytes s.1 in
    base_if_found e s.0.0 l s.0.1 after o g.1 s.2

-- ---- what stands of a table

oldest_again : (e : Edition) (floor n : ℕ) → IsWord n → FitsOldest e floor n → Again (oldest_at e floor) (oldest_field e n) n
oldest_again First floor n small is at more = (at, ap (λ (x : ℕ). Ok (x, here at more)) (sym is))
oldest_again Second floor n small is at more = (at, ap (λ (x : ℕ). Ok (x, here at more)) (sym is))
oldest_again Third floor n small is at more = word_again n small at more
oldest_again Fourth floor n small is at more = word_again n small at more

record IsOldest (e : Edition) (floor n : ℕ) : Type 0 where
  pub small : IsWord n
  pub fits : FitsOldest e floor n

-- no field stands for it
oldest_is_floor : (e : Edition) (floor n : ℕ) (l after : Left) → ((n : ℕ) → n ≡ floor → FitsOldest e floor n) → oldest_field e floor ≡ [] → IsWord floor → Begins l [] l → ◌≡◌ {A = ℕ × Left} (floor, l) (n, after) → IsOldest e floor n × Begins l (oldest_field e n) after
oldest_is_floor e floor n l after fits none small same is = subst (λ (z : ℕ × Left). IsOldest e floor z.0 × Begins l (oldest_field e z.0) z.1) is (record { small = small; fits = fits floor refl }, subst (λ bs. Begins l bs l) (sym none) same)

oldest_found : (e : Edition) (floor : ℕ) → IsWord floor → Found (oldest_at e floor) (oldest_field e) (IsOldest e floor)
oldest_found First floor small l after n bytes h = oldest_is_floor First floor n l after (λ n is. is) refl small (record { split = refl; rest = bytes }) (ok_is (floor, l) (n, after) h)
oldest_found Second floor small l after n bytes h = oldest_is_floor Second floor n l after (λ n is. is) refl small (record { split = refl; rest = bytes }) (ok_is (floor, l) (n, after) h)
oldest_found Third floor small l after n bytes h = let f = word_found l after n bytes h in (record { small = f.0; fits = tt }, f.1)
oldest_found Fourth floor small l after n bytes h = let f = word_found l after n bytes h in (record { small = f.0; fits = tt }, f.1)

begins_again : (e : Edition) (n : ℕ) → IsWord n → FitsBegins e n → Again (begins_at e) (begins_field e n) n
begins_again First n small is at more = (at, ap (λ (x : ℕ). Ok (x, here at more)) (sym is))
begins_again Second n small is at more = (at, ap (λ (x : ℕ). Ok (x, here at more)) (sym is))
begins_again Third n small is at more = (at, ap (λ (x : ℕ). Ok (x, here at more)) (sym is))
begins_again Fourth n small is at more = word_again n small at more

record IsBegin (e : Edition) (n : ℕ) : Type 0 where
  pub small : IsWord n
  pub fits : FitsBegins e n

-- no field stands for it
begins_is_zero : (e : Edition) (n : ℕ) (l after : Left) → ((n : ℕ) → n ≡ 0 → FitsBegins e n) → begins_field e 0 ≡ [] → Begins l [] l → ◌≡◌ {A = ℕ × Left} (0, l) (n, after) → IsBegin e n × Begins l (begins_field e n) after
begins_is_zero e n l after fits none same is =
    subst (λ (z : ℕ × Left). IsBegin e z.0 × Begins l (begins_field e z.0) z.1) is (record { small = omega arith; fits = fits 0 refl }, subst (λ bs. Begins l bs l) (sym none) same)

begins_found : (e : Edition) → Found (begins_at e) (begins_field e) (IsBegin e)
begins_found First l after n bytes h = begins_is_zero First n l after (λ n is. is) refl (record { split = refl; rest = bytes }) (ok_is (0, l) (n, after) h)
begins_found Second l after n bytes h = begins_is_zero Second n l after (λ n is. is) refl (record { split = refl; rest = bytes }) (ok_is (0, l) (n, after) h)
begins_found Third l after n bytes h = begins_is_zero Third n l after (λ n is. is) refl (record { split = refl; rest = bytes }) (ok_is (0, l) (n, after) h)
begins_found Fourth l after n bytes h = let f = word_found l after n bytes h in (record { small = f.0; fits = tt }, f.1)

-- what is read of a table's columns, each by itself
record HasColumns (e : Edition) (c : StatedColumns) : Type 0 where
  pub keys : HasKeys c.keys
  pub values : HasValues c.values
  pub changes : KeepAll in_two IsTypedChange is_change Anyhow c.changes
  pub views : KeepAll few_views IsTypedStatedView is_stated_view Anyhow c.views
  pub totals : AreTotals e c.totals

abbrev columns_bytes : Edition → StatedColumns → List ℕ
columns_bytes e c = counted key_column c.keys ++ (counted value_column c.values ++ (sized half change c.changes ++ (counted stated_view c.views ++ counted (total e) c.totals)))

-- five lists in front of a sixth
flat_five : (a b c d e rest : List ℕ) → (a ++ (b ++ (c ++ (d ++ e)))) ++ rest ≡ a ++ (b ++ (c ++ (d ++ (e ++ rest))))
flat_five a b c d e rest =
    append_assoc a (b ++ (c ++ (d ++ e))) rest
    ∙ ap (λ l. a ++ l) (append_assoc b (c ++ (d ++ e)) rest ∙ ap (λ l. b ++ l) (append_assoc c (d ++ e) rest ∙ ap (λ l. c ++ l) (append_assoc d e rest)))

columns_again : (e : Edition) (c : StatedColumns) → HasColumns e c → Again (stated_columns_at e) (columns_bytes e c) c
unfolding stated_columns_at
columns_again e c has at more =
    let b4 = counted (total e) c.totals ++ more in
    let b3 = counted stated_view c.views ++ b4 in
    let b2 = sized half change c.changes ++ b3 in
    let b1 = counted value_column c.values ++ b2 in
    let r1 = keys_again c.keys has.keys at b1 in
    let r2 = values_again c.values has.values r1.0 b2 in
    let r3 = sized_again half_at half in_two change_at change IsTypedChange is_change Anyhow in_two_again stated_change_again c.changes has.changes r2.0 b3 in
    let r4 = sized_again (count_at 8) one few_views stated_view_at stated_view IsTypedStatedView is_stated_view Anyhow few_views_again view_again c.views has.views r3.0 b4 in
    let r5 = totals_again e c.totals has.totals.typed has.totals.fits has.totals.few r4.0 more in
    let flat : columns_bytes e c ++ more ≡ counted key_column c.keys ++ b1 = flat_five (counted key_column c.keys) (counted value_column c.values) (sized half change c.changes) (counted stated_view c.views) (counted (total e) c.totals) more in
    (r5.0, ap (λ bytes. stated_columns_at e (here at bytes)) flat ∙ rw (r1.1, r2.1, r3.1, r4.1, r5.1) refl)

columns_found : (e : Edition) → Found (stated_columns_at e) (columns_bytes e) (HasColumns e)
unfolding stated_columns_at
columns_found e l after c bytes h =
    let s1 = step_of (key_columns_at l) _ _ h in
    let f1 = keys_found l s1.0.1 s1.0.0 bytes s1.1 in
    let s2 = step_of (value_columns_at s1.0.1) _ _ s1.2 in
    let f2 = values_found s1.0.1 s2.0.1 s2.0.0 f1.1.rest s2.1 in
    let s3 = step_of (sized_at half_at change_at s2.0.1) _ _ s2.2 in
    let f3 = sized_found half_at half in_two change_at change IsTypedChange is_change Anyhow in_two_found stated_change_found s2.0.1 s3.0.1 s3.0.0 f2.1.rest s3.1 in
    let s4 = step_of (stated_views_at s3.0.1) _ _ s3.2 in
    let f4 = sized_found (count_at 8) one few_views stated_view_at stated_view IsTypedStatedView is_stated_view Anyhow few_views_found view_found s3.0.1 s4.0.1 s4.0.0 f3.1.rest s4.1 in
    let s5 = step_of (totals_at e s4.0.1) _ _ s4.2 in
    let f5 = totals_found e s4.0.1 s5.0.1 s5.0.0 f4.1.rest s5.1 in
    let made : StatedColumns = record { keys = s1.0.0; values = s2.0.0; changes = s3.0.0; views = s4.0.0; totals = s5.0.0 } in
    subst (λ (z : StatedColumns × Left). HasColumns e z.0 × Begins l (columns_bytes e z.0) z.1) (ok_is (made, s5.0.1) (c, after) s5.2) (
      record { keys = f1.0; values = f2.0; changes = f3.0; views = f4.0; totals = f5.0 },
      begins_two l s1.0.1 s5.0.1 _ _ f1.1 (begins_two s1.0.1 s2.0.1 s5.0.1 _ _ f2.1 (begins_two s2.0.1 s3.0.1 s5.0.1 _ _ f3.1 (begins_two s3.0.1 s4.0.1 s5.0.1 _ _ f4.1 f5.1))),
    )

record HasDeltas (e : Edition) (d : StatedDeltas) : Type 0 where
  pub base : IsBase e d.base
  pub cumulatives : KeepAll in_four IsTypedRange is_stated_range (FitsRange e) d.cumulatives
  pub singles : KeepAll in_four IsTypedSingle is_stated_single (FitsSingle e) d.singles

abbrev deltas_bytes : Edition → StatedDeltas → List ℕ
deltas_bytes e d = base_if_any e d.base ++ (sized word (stated_range e) d.cumulatives ++ sized word (stated_single e) d.singles)

-- three lists in front of a fourth
flat_three : (a b c rest : List ℕ) → (a ++ (b ++ c)) ++ rest ≡ a ++ (b ++ (c ++ rest))
flat_three a b c rest = append_assoc a (b ++ c) rest ∙ ap (λ l. a ++ l) (append_assoc b c rest)

deltas_again : (e : Edition) (d : StatedDeltas) → HasDeltas e d → Again (stated_deltas_at e) (deltas_bytes e d) d
unfolding stated_deltas_at
deltas_again e d has at more =
    let b2 = sized word (stated_single e) d.singles ++ more in
    let b1 = sized word (stated_range e) d.cumulatives ++ b2 in
    let r1 = base_again e d.base has.base at b1 in
    let r2 = sized_again word_at word in_four (stated_range_at e) (stated_range e) IsTypedRange is_stated_range (FitsRange e) in_four_again (range_again e) d.cumulatives has.cumulatives r1.0 b2 in
    let r3 = sized_again word_at word in_four (stated_single_at e) (stated_single e) IsTypedSingle is_stated_single (FitsSingle e) in_four_again (single_again e) d.singles has.singles r2.0 more in
    let flat : deltas_bytes e d ++ more ≡ base_if_any e d.base ++ b1 = flat_three (base_if_any e d.base) (sized word (stated_range e) d.cumulatives) (sized word (stated_single e) d.singles) more in
    (r3.0, ap (λ bytes. stated_deltas_at e (here at bytes)) flat ∙ rw (r1.1, r2.1, r3.1) refl)

deltas_found : (e : Edition) → Found (stated_deltas_at e) (deltas_bytes e) (HasDeltas e)
unfolding stated_deltas_at
deltas_found e l after d bytes h =
    let s1 = step_of (base_if_any_at e l) _ _ h in
    let f1 = base_found e l s1.0.1 s1.0.0 bytes s1.1 in
    let s2 = step_of (sized_at word_at (stated_range_at e) s1.0.1) _ _ s1.2 in
    let f2 = sized_found word_at word in_four (stated_range_at e) (stated_range e) IsTypedRange is_stated_range (FitsRange e) in_four_found (range_found e) s1.0.1 s2.0.1 s2.0.0 f1.1.rest s2.1 in
    let s3 = step_of (sized_at word_at (stated_single_at e) s2.0.1) _ _ s2.2 in
    let f3 = sized_found word_at word in_four (stated_single_at e) (stated_single e) IsTypedSingle is_stated_single (FitsSingle e) in_four_found (single_found e) s2.0.1 s3.0.1 s3.0.0 f2.1.rest s3.1 in
    let made : StatedDeltas = record { base = s1.0.0; cumulatives = s2.0.0; singles = s3.0.0 } in
    subst (λ (z : StatedDeltas × Left). HasDeltas e z.0 × Begins l (deltas_bytes e z.0) z.1) (ok_is (made, s3.0.1) (d, after) s3.2) (
      record { base = f1.0; cumulatives = f2.0; singles = f3.0 },
      begins_two l s1.0.1 s3.0.1 _ _ f1.1 (begins_two s1.0.1 s2.0.1 s3.0.1 _ _ f2.1 f3.1),
    )

-- ---- tables

abbrev IsTable : Edition → ℕ → CheckpointTable → Type 0
IsTable e floor = Keeps IsTypedTable is_stated_table (FitsTable e floor)

-- the rules of a table's columns, one for each list
module _ (t : CheckpointTable) where
  abbrev keys_rule : Bool
  keys_rule = is_count_of_columns (length t.keys)

  abbrev values_rule : Bool
  values_rule = is_count_of_columns (length t.values)

  abbrev changes_rule : Bool
  changes_rule = is_short t.changes && list_all is_change t.changes

  abbrev views_rule : Bool
  views_rule = nat_le (length t.views) 8 && list_all is_stated_view t.views

  abbrev totals_rule : Bool
  totals_rule = nat_le (length t.totals) 16

columns_of : (e : Edition) (floor : ℕ) (t : CheckpointTable) → IsTable e floor t → HasColumns e (columns_in t)
columns_of e floor t is =
    let typed = is.typed.columns in
    let rules = both (are_stated_columns t) (are_stated_deltas t) is.rules in
    let four = both (keys_rule t && values_rule t && changes_rule t && views_rule t) (totals_rule t) rules.0 in
    let three = both (keys_rule t && values_rule t && changes_rule t) (views_rule t) four.0 in
    let two = both (keys_rule t && values_rule t) (changes_rule t) three.0 in
    let first = both (keys_rule t) (values_rule t) two.0 in
    record {
      keys = record { all = typed.keys; count = first.0 };
      values = record { all = typed.values; count = first.1 };
      changes = record { typed = typed.changes; rules = two.1; fits = all_anyhow t.changes };
      views = record { typed = typed.views; rules = three.1; fits = all_anyhow t.views };
      totals = record { typed = typed.totals; few = four.1; fits = is.fits.totals };
    }

columns_keep : (e : Edition) (t : CheckpointTable) → HasColumns e (columns_in t) → AreTypedColumns t × IsTrue (are_stated_columns t)
columns_keep e t has = (
  record { keys = has.keys.all; values = has.values.all; changes = has.changes.typed; views = has.views.typed; totals = has.totals.typed },
  all_true (keys_rule t && values_rule t && changes_rule t && views_rule t) (totals_rule t)
      (all_true (keys_rule t && values_rule t && changes_rule t) (views_rule t)
      (all_true (keys_rule t && values_rule t) (changes_rule t) (all_true (keys_rule t) (values_rule t) has.keys.count has.values.count) has.changes.rules)
      has.views.rules)
      has.totals.few,
)

-- the rules of a table's deltas, likewise
module _ (t : CheckpointTable) where
  abbrev cumulatives_rule : Bool
  cumulatives_rule = is_long t.cumulatives && list_all is_stated_range t.cumulatives

  abbrev singles_rule : Bool
  singles_rule = is_long t.singles && list_all is_stated_single t.singles

deltas_of : (e : Edition) (floor : ℕ) (t : CheckpointTable) → IsTable e floor t → HasDeltas e (deltas_in t)
deltas_of e floor t is =
    let typed = is.typed.deltas in
    let rules = both (are_stated_columns t) (are_stated_deltas t) is.rules in
    let two = both (is_base_if_any t.base && cumulatives_rule t) (singles_rule t) rules.1 in
    let first = both (is_base_if_any t.base) (cumulatives_rule t) two.0 in
    record {
      base = record { typed = typed.base; rules = first.0; fits = is.fits.base };
      cumulatives = record { typed = typed.cumulatives; rules = first.1; fits = is.fits.cumulatives };
      singles = record { typed = typed.singles; rules = two.1; fits = is.fits.singles };
    }

deltas_keep : (e : Edition) (t : CheckpointTable) → HasDeltas e (deltas_in t) → AreTypedDeltas t × IsTrue (are_stated_deltas t)
deltas_keep e t has = (
  record { base = has.base.typed; cumulatives = has.cumulatives.typed; singles = has.singles.typed },
  all_true (is_base_if_any t.base && cumulatives_rule t) (singles_rule t) (all_true (is_base_if_any t.base) (cumulatives_rule t) has.base.rules has.cumulatives.rules) has.singles.rules,
)

table_again : (e : Edition) (floor : ℕ) (t : CheckpointTable) → IsTable e floor t → Again (stated_table_at e floor) (stated_table e t) t
unfolding stated_table_at stated_table stated_columns stated_deltas
table_again e floor t is at more =
    let columns = columns_bytes e (columns_in t) in
    let deltas = deltas_bytes e (deltas_in t) in
    let b4 = deltas ++ more in
    let b3 = columns ++ b4 in
    let b2 = begins_field e t.begins ++ b3 in
    let b1 = oldest_field e t.oldest ++ b2 in
    let r1 = name_again t.name is.typed.name at b1 in
    let r2 = oldest_again e floor t.oldest is.typed.oldest is.fits.oldest r1.0 b2 in
    let r3 = begins_again e t.begins is.typed.begins is.fits.begins r2.0 b3 in
    let r4 = columns_again e (columns_in t) (columns_of e floor t is) r3.0 b4 in
    let r5 = deltas_again e (deltas_in t) (deltas_of e floor t is) r4.0 more in
    let flat : stated_table e t ++ more ≡ text t.name ++ b1 = flat_five (text t.name) (oldest_field e t.oldest) (begins_field e t.begins) columns deltas more in
    (r5.0, ap (λ bytes. stated_table_at e floor (here at bytes)) flat ∙ rw (r1.1, r2.1, r3.1, r4.1, r5.1) refl)

table_found : (e : Edition) (floor : ℕ) → IsWord floor → Found (stated_table_at e floor) (stated_table e) (IsTable e floor)
unfolding stated_table_at stated_table stated_columns stated_deltas
table_found e floor small l after t bytes h =
    let s1 = step_of (name_at l) _ _ h in
    let f1 = name_found l s1.0.1 s1.0.0 bytes s1.1 in
    let s2 = step_of (oldest_at e floor s1.0.1) _ _ s1.2 in
    let f2 = oldest_found e floor small s1.0.1 s2.0.1 s2.0.0 f1.1.rest s2.1 in
    let s3 = step_of (begins_at e s2.0.1) _ _ s2.2 in
    let f3 = begins_found e s2.0.1 s3.0.1 s3.0.0 f2.1.rest s3.1 in
    let s4 = step_of (stated_columns_at e s3.0.1) _ _ s3.2 in
    let f4 = columns_found e s3.0.1 s4.0.1 s4.0.0 f3.1.rest s4.1 in
    let s5 = step_of (stated_deltas_at e s4.0.1) _ _ s4.2 in
    let f5 = deltas_found e s4.0.1 s5.0.1 s5.0.0 f4.1.rest s5.1 in
    let made : CheckpointTable = stated_of s1.0.0 s2.0.0 s3.0.0 s4.0.0 s5.0.0 in
    let columns = columns_keep e made f4.0 in
    let deltas = deltas_keep e made f5.0 in
    subst (λ (z : CheckpointTable × Left). IsTable e floor z.0 × Begins l (stated_table e z.0) z.1) (ok_is (made, s5.0.1) (t, after) s5.2) (
      record {
        typed = record { name = f1.0; oldest = f2.0.small; begins = f3.0.small; columns = columns.0; deltas = deltas.0 };
        rules = all_true (are_stated_columns made) (are_stated_deltas made) columns.1 deltas.1;
        fits = record { oldest = f2.0.fits; begins = f3.0.fits; totals = f4.0.totals.fits; base = f5.0.base.fits; cumulatives = f5.0.cumulatives.fits; singles = f5.0.singles.fits };
      },
      begins_two l s1.0.1 s5.0.1 _ _ f1.1 (begins_two s1.0.1 s2.0.1 s5.0.1 _ _ f2.1 (begins_two s2.0.1 s3.0.1 s5.0.1 _ _ f3.1 (begins_two s3.0.1 s4.0.1 s5.0.1 _ _ f4.1 f5.1))),
    )

-- ---- the checkpoint

abbrev pub IsStated : Edition → Checkpoint → Type 0
IsStated e = Keeps IsTypedCheckpoint is_checkpoint (λ (k : Checkpoint). AllByRecursion (FitsTable e k.floor) k.tables)

pub stated_again : (e : Edition) (k : Checkpoint) → IsStated e k → Again (stated_at e) (checkpoint_fields e k) k
unfolding stated_at
stated_again e k is at more =
    let b4 = sized half (stated_table e) k.tables ++ more in
    let b3 = word k.versions ++ b4 in
    let b2 = word k.floor ++ b3 in
    let b1 = word k.run ++ b2 in
    let r1 = word_again k.number is.typed.number at b1 in
    let r2 = word_again k.run is.typed.run r1.0 b2 in
    let r3 = word_again k.floor is.typed.floor r2.0 b3 in
    let r4 = word_again k.versions is.typed.versions r3.0 b4 in
    let r5 = sized_again half_at half in_two (stated_table_at e k.floor) (stated_table e) IsTypedTable is_stated_table (FitsTable e k.floor) in_two_again (table_again e k.floor) k.tables (record { typed = is.typed.tables; rules = is.rules; fits = is.fits }) r4.0 more in
    let flat : checkpoint_fields e k ++ more ≡ word k.number ++ b1 = flat_five (word k.number) (word k.run) (word k.floor) (word k.versions) (sized half (stated_table e) k.tables) more in
    (r5.0, ap (λ bytes. stated_at e (here at bytes)) flat ∙ rw (r1.1, r2.1, r3.1, r4.1, r5.1) refl)

pub stated_found : (e : Edition) → Found (stated_at e) (checkpoint_fields e) (IsStated e)
unfolding stated_at
stated_found e l after k bytes h =
    let s1 = step_of (word_at l) _ _ h in
    let f1 = word_found l s1.0.1 s1.0.0 bytes s1.1 in
    let s2 = step_of (word_at s1.0.1) _ _ s1.2 in
    let f2 = word_found s1.0.1 s2.0.1 s2.0.0 f1.1.rest s2.1 in
    let s3 = step_of (word_at s2.0.1) _ _ s2.2 in
    let f3 = word_found s2.0.1 s3.0.1 s3.0.0 f2.1.rest s3.1 in
    let s4 = step_of (word_at s3.0.1) _ _ s3.2 in
    let f4 = word_found s3.0.1 s4.0.1 s4.0.0 f3.1.rest s4.1 in
    let s5 = step_of (sized_at half_at (stated_table_at e s3.0.0) s4.0.1) _ _ s4.2 in
    let f5 = sized_found half_at half in_two (stated_table_at e s3.0.0) (stated_table e) IsTypedTable is_stated_table (FitsTable e s3.0.0) in_two_found (table_found e s3.0.0 f3.0) s4.0.1 s5.0.1 s5.0.0 f4.1.rest s5.1 in
    let made : Checkpoint = record { number = s1.0.0; run = s2.0.0; floor = s3.0.0; versions = s4.0.0; tables = s5.0.0 } in
    subst (λ (z : Checkpoint × Left). IsStated e z.0 × Begins l (checkpoint_fields e z.0) z.1) (ok_is (made, s5.0.1) (k, after) s5.2) (
      record { typed = record { number = f1.0; run = f2.0; floor = f3.0; versions = f4.0; tables = f5.0.typed }; rules = f5.0.rules; fits = f5.0.fits },
      begins_two l s1.0.1 s5.0.1 _ _ f1.1 (begins_two s1.0.1 s2.0.1 s5.0.1 _ _ f2.1 (begins_two s2.0.1 s3.0.1 s5.0.1 _ _ f3.1 (begins_two s3.0.1 s4.0.1 s5.0.1 _ _ f4.1 f5.1))),
    )

-- Records, both ways.
use Rattle.std.proofs.Common.{◌≡◌, inl, inr, ℕ, ◌+◌, ◌<◌, ◌^◌, List, [], ◌∷◌, ◌++◌, length, refl, sym, ap, subst, ◌∙◌, append_assoc, append-nil, Bool, true, false, Result, Ok, Err, Option}
use Rattle.std.specs.Prelude.{IsTrue, ◌&&◌, ◌==◌, flat_map, if◌then◌else◌, map, nat_le, nat_lt}
use Rattle.std.specs.List.{AllByRecursion, list_all}
use Rattle.std.proofs.lemmas.Bool.{eqb-true, ltb-true, lt-ltb}
use Rattle.mesa_record_fields.proofs.mesa_list.Whole.{both}
use Rattle.mesa_record_fields.specs.mesa_key.Spelling.{AreBytes}
use Rattle.mesa_record_fields.specs.mesa_columns.declared.columns.KeyColumn.{KeyColumn}
use Rattle.mesa_record_fields.specs.mesa_columns.declared.columns.ValueColumn.{ValueColumn}
use Rattle.mesa_record_fields.specs.declared.edition.Edition.{Edition}
use Rattle.mesa_record_fields.specs.declared.edition.Edition.TheVariants.{First, Second, Third, Fourth}
use Rattle.mesa_record_fields.specs.declared.error.RecordError.{RecordError}
use Rattle.mesa_record.specs.declared.record.Record.{Record}
use Rattle.mesa_record.specs.declared.record.Record.TheVariants as record_of
use Rattle.mesa_record.specs.declared.record.Files.{Files}
use Rattle.mesa_record.specs.declared.record.Part.{Part}
use Rattle.mesa_record.specs.declared.checkpoint.Checkpoint.{Checkpoint}
use Rattle.mesa_record.specs.Editions.{IsSpelled}
use Rattle.mesa_record_fields.specs.Reading.{Left, Read, byte_at, change_at, file_ref_at, flag_of, half_at, key_columns_at, meaning, name_at, names_at, rising, value_columns_at, word_at}
use Rattle.mesa_record.specs.Reading.{alter_at, checkpoint_at, ended, expire_at, expire_table_at, fields_of, files_at, files_if_any_at, part_at, part_number, publish_at, recast_at, recasting_at, record_at, run_at, stated_at, swap_at, table_at, view_at}
use Rattle.mesa_record_fields.specs.Rules.{IsHalf, IsNamed, IsWord, is_count_of_columns, rise_from}
use Rattle.mesa_record.specs.Rules.{FitsIn, FitsPart, IsRecord, IsTypedPart, are_files, is_part}
use Rattle.mesa_record_fields.specs.Spelling.{change, counted, flag, half, key_column, text, value_column, word}
use Rattle.mesa_record.specs.Spelling.{checkpoint_fields, checkpoint_kind, files_if_any, part, publish_kind, recasting_fields, spelled_in, swap_kind}
use Rattle.mesa_record_fields.proofs.Both.{Again, Begins, Bytes, Found, InOrder, all_bytes, begins_two, here, list_again, list_found, ok_is, step_of}
use Rattle.mesa_record_fields.proofs.Numbers.{byte_again, byte_found, half_again, half_found, one, word_again, word_found}
use Rattle.mesa_record_fields.proofs.Texts.{meaning_again, meaning_found}
use Rattle.mesa_record_fields.proofs.ColumnsBoth.{HasKeys, HasNames, HasValues, IsChange, change_again, change_found, either_way, flag_again, flag_of_byte, keys_again, keys_found, made_again, made_found, name_again, name_found, names_again, names_found, two_again, two_found, values_again, values_found}
use Rattle.mesa_record_fields.proofs.FileRefsBoth.{all_true, totals_fit, totals_in, totals_wider}
use Rattle.mesa_record.proofs.FilesBoth.{AreFilesIfAny, IsPart, files_if_any_again, files_if_any_found, files_if_any_keep, files_if_any_of, files_keep, files_of, part_again, part_found}
use Rattle.mesa_record.proofs.RecastBoth.{IsRecasting, recasting_again, recasting_found}
use Rattle.mesa_record.proofs.StatedBoth.{IsStated, stated_again, stated_found}

-- ---- what the rules say of a batch's parts

parts_in_order : (e : Edition) (least : ℕ) (parts : List Part) → IsTrue (rise_from least (map (λ (p : Part). p.table) parts)) → IsTrue (list_all is_part parts) → AllByRecursion IsTypedPart parts → AllByRecursion (FitsPart e) parts → InOrder (IsPart e) part_number least parts
parts_in_order e least [] rise good typed fits = tt
parts_in_order e least (p ∷ parts) rise good typed fits =
    let r = both (nat_le least p.table) (rise_from (p.table + 1) (map (λ (p : Part). p.table) parts)) rise in
    let g = both (is_part p) (list_all is_part parts) good in
    let h = both (are_files p.files) (nat_le (length p.totals) 16) g.0 in
    (record { number = r.0; table = typed.0.table; epoch = typed.0.epoch; files = files_of e p.files typed.0.files fits.0.files h.0; totals = record { all = totals_in e p.totals typed.0.totals fits.0.totals; count = h.1 } }, parts_in_order e (p.table + 1) parts r.1 g.1 typed.1 fits.1)

record PartsKeep (e : Edition) (least : ℕ) (parts : List Part) : Type 0 where
  pub rise : IsTrue (rise_from least (map (λ (p : Part). p.table) parts))
  pub good : IsTrue (list_all is_part parts)
  pub typed : AllByRecursion IsTypedPart parts
  pub fits : AllByRecursion (FitsPart e) parts

parts_keep : (e : Edition) (least : ℕ) (parts : List Part) → InOrder (IsPart e) part_number least parts → PartsKeep e least parts
parts_keep e least [] all = record { rise = refl; good = refl; typed = tt; fits = tt }
parts_keep e least (p ∷ parts) all =
    let rest = parts_keep e (p.table + 1) parts all.1 in
    let files = files_keep e p.files all.0.files in
    record {
      rise = all_true (nat_le least p.table) _ all.0.number rest.rise;
      good = all_true (is_part p) _ (all_true (are_files p.files) (nat_le (length p.totals) 16) files.2 all.0.totals.count) rest.good;
      typed = (record { table = all.0.table; epoch = all.0.epoch; files = files.0; totals = totals_wider e p.totals all.0.totals.all }, rest.typed);
      fits = (record { files = files.1; totals = totals_fit e p.totals all.0.totals.all }, rest.fits);
    }

-- ---- the fields of each kind

abbrev kind_number : Edition → Record → ℕ
kind_number e (record_of.Run number) = 1
kind_number e (record_of.Table name keys values) = 2
kind_number e (record_of.View table name keys values) = 3
kind_number e (record_of.Alter table c) = 4
kind_number e (record_of.Publish version parts) = publish_kind e
kind_number e (record_of.Swap table base from to epoch f) = swap_kind e
kind_number e (record_of.Expire version) = 7
kind_number e (record_of.ExpireTable table version) = 12
kind_number e (record_of.Checkpoint k) = checkpoint_kind e
kind_number e (record_of.Recast r) = 14

-- a record's bytes behind its kind
abbrev fields : Edition → Record → List ℕ
fields e (record_of.Run number) = word number
fields e (record_of.Table name keys values) = text name ++ (counted key_column keys ++ counted value_column values)
fields e (record_of.View table name keys values) = half table ++ (text name ++ (counted text keys ++ counted text values))
fields e (record_of.Alter table c) = half table ++ change c
fields e (record_of.Publish version parts) = word version ++ (half (length parts) ++ flat_map (part e) parts)
fields e (record_of.Swap table base from to epoch f) = half table ++ (flag base ∷ (word from ++ (word to ++ (word epoch ++ files_if_any e f))))
fields e (record_of.Expire version) = word version
fields e (record_of.ExpireTable table version) = half table ++ word version
fields e (record_of.Checkpoint k) = checkpoint_fields e k
fields e (record_of.Recast r) = recasting_fields r

spelled_so : (e : Edition) (r : Record) → spelled_in e r ≡ one (kind_number e r) ++ fields e r
unfolding spelled_in
spelled_so e (record_of.Run number) = refl
spelled_so e (record_of.Table name keys values) = refl
spelled_so e (record_of.View table name keys values) = refl
spelled_so e (record_of.Alter table c) = refl
spelled_so e (record_of.Publish version parts) = refl
spelled_so e (record_of.Swap table base from to epoch f) = refl
spelled_so e (record_of.Expire version) = refl
spelled_so e (record_of.ExpireTable table version) = refl
spelled_so e (record_of.Checkpoint k) = refl
spelled_so e (record_of.Recast r) = refl

table_again : (name : List ℕ) (keys : List KeyColumn) (values : List ValueColumn) → IsNamed name → HasKeys keys → HasValues values → Again table_at (fields Second (record_of.Table name keys values)) (record_of.Table name keys values)
table_again name keys values named k v at more =
    let b2 = counted value_column values ++ more in
    let b1 = counted key_column keys ++ b2 in
    let r1 = name_again name named at b1 in
    let r2 = keys_again keys k r1.0 b2 in
    let r3 = values_again values v r2.0 more in
    let flat : fields Second (record_of.Table name keys values) ++ more ≡ text name ++ b1 = simp append_assoc refl in
    (r3.0, ap (λ bytes. table_at (here at bytes)) flat ∙ rw (r1.1, r2.1, r3.1) refl)

view_again : (table : ℕ) (name : List ℕ) (keys values : List (List ℕ)) → IsHalf table → IsNamed name → HasNames keys → HasNames values → Again view_at (fields Second (record_of.View table name keys values)) (record_of.View table name keys values)
view_again table name keys values small named k v at more =
    let b3 = counted text values ++ more in
    let b2 = counted text keys ++ b3 in
    let b1 = text name ++ b2 in
    let r0 = half_again table small at b1 in
    let r1 = name_again name named r0.0 b2 in
    let r2 = names_again keys k r1.0 b3 in
    let r3 = names_again values v r2.0 more in
    let flat : fields Second (record_of.View table name keys values) ++ more ≡ half table ++ b1 = simp append_assoc refl in
    (r3.0, ap (λ bytes. view_at (here at bytes)) flat ∙ rw (r0.1, r1.1, r2.1, r3.1) refl)

publish_again : (e : Edition) (version : ℕ) (parts : List Part) → IsWord version → IsHalf (length parts) → InOrder (IsPart e) part_number 0 parts → Again (publish_at e) (fields e (record_of.Publish version parts)) (record_of.Publish version parts)
publish_again e version parts small few order at more =
    let b2 = flat_map (part e) parts ++ more in
    let b1 = half (length parts) ++ b2 in
    let r1 = word_again version small at b1 in
    let r2 = half_again (length parts) few r1.0 b2 in
    let r3 = list_again part_number (part_at e) (part e) (IsPart e) (part_again e) 0 parts order r2.0 more in
    let flat : fields e (record_of.Publish version parts) ++ more ≡ word version ++ b1 = simp append_assoc refl in
    (r3.0, ap (λ bytes. publish_at e (here at bytes)) flat ∙ rw (r1.1, r2.1, r3.1) refl)

swap_again : (e : Edition) (table : ℕ) (base : Bool) (from to epoch : ℕ) (f : Option Files) → IsHalf table → IsWord from → IsWord to → IsWord epoch → AreFilesIfAny e f → Again (swap_at e) (fields e (record_of.Swap table base from to epoch f)) (record_of.Swap table base from to epoch f)
swap_again e table base from to epoch f h a b ep are at more =
    let b5 = files_if_any e f ++ more in
    let b4 = word epoch ++ b5 in
    let b3 = word to ++ b4 in
    let b2 = word from ++ b3 in
    let b1 = flag base ∷ b2 in
    let r0 = half_again table h at b1 in
    let r1 = meaning_again flag_of (flag base) base (flag_again base) r0.0 b2 in
    let r2 = word_again from a r1.0 b3 in
    let r3 = word_again to b r2.0 b4 in
    let r4 = word_again epoch ep r3.0 b5 in
    let r5 = files_if_any_again e f are r4.0 more in
    let flat : fields e (record_of.Swap table base from to epoch f) ++ more ≡ half table ++ b1 = simp append_assoc refl in
    (r5.0, ap (λ bytes. swap_at e (here at bytes)) flat ∙ rw (r0.1, r1.1, r2.1, r3.1, r4.1, r5.1) refl)

-- the parts of a batch, by the rules
publish_fields : (e : Edition) (version : ℕ) (parts : List Part) → IsRecord (record_of.Publish version parts) → AllByRecursion (FitsPart e) parts → Again (publish_at e) (fields e (record_of.Publish version parts)) (record_of.Publish version parts)
publish_fields e version parts is fits =
    let two = both (nat_lt (length parts) (2 ^ 16) && rise_from 0 (map (λ (p : Part). p.table) parts)) (list_all is_part parts) is.rules in
    let few = both (nat_lt (length parts) (2 ^ 16)) (rise_from 0 (map (λ (p : Part). p.table) parts)) two.0 in
    publish_again e version parts is.typed.0 (ltb-true _ _ few.0) (parts_in_order e 0 parts few.1 two.1 is.typed.1 fits)

-- a batch and a merged range are read alike in the third edition, in the fourth and in the second
reads_publish : publish_at Third ≡ publish_at Second
unfolding file_ref_at files_at
reads_publish = refl

reads_publish_fourth : publish_at Fourth ≡ publish_at Second
unfolding file_ref_at files_at
reads_publish_fourth = refl

reads_swap : swap_at Third ≡ swap_at Second
unfolding file_ref_at files_at
reads_swap = refl

reads_swap_fourth : swap_at Fourth ≡ swap_at Second
unfolding file_ref_at files_at
reads_swap_fourth = refl

stated_fields : (e : Edition) (k : Checkpoint) → IsRecord (record_of.Checkpoint k) → FitsIn e (record_of.Checkpoint k) → Again (checkpoint_at e) (fields e (record_of.Checkpoint k)) (record_of.Checkpoint k)
stated_fields e k is fits = made_again (stated_at e) record_of.Checkpoint (checkpoint_fields e k) k (stated_again e k (record { typed = is.typed; rules = is.rules; fits = fits }))

-- the fields of a record are read again
fields_again : (e : Edition) (r : Record) → IsRecord r → FitsIn e r → (place : ℕ) → Again (fields_of place (kind_number e r)) (fields e r) r
unfolding fields_of
fields_again e (record_of.Run number) is fits place = made_again word_at record_of.Run (word number) number (word_again number is.typed)
fields_again e (record_of.Table name keys values) is fits place =
    let counts = both (is_count_of_columns (length keys)) (is_count_of_columns (length values)) is.rules in
    table_again name keys values is.typed.0 (record { all = is.typed.1; count = counts.0 }) (record { all = is.typed.2; count = counts.1 })
fields_again e (record_of.View table name keys values) is fits place =
    let counts = both (is_count_of_columns (length keys)) (is_count_of_columns (length values)) is.rules in
    view_again table name keys values is.typed.0 is.typed.1 (record { all = is.typed.2; count = counts.0 }) (record { all = is.typed.3; count = counts.1 })
fields_again e (record_of.Alter table c) is fits place =
    two_again half_at (λ table. change_at) record_of.Alter (half table) (change c) table c (half_again table is.typed.0) (change_again c (is.typed.1, is.rules))
fields_again First (record_of.Publish version parts) is fits place = publish_fields First version parts is fits
fields_again Second (record_of.Publish version parts) is fits place = publish_fields Second version parts is fits
fields_again Third (record_of.Publish version parts) is fits place =
    subst (λ (read : Left → Read Record). Again read (fields Third (record_of.Publish version parts)) (record_of.Publish version parts)) reads_publish (publish_fields Third version parts is fits)
fields_again Fourth (record_of.Publish version parts) is fits place =
    subst (λ (read : Left → Read Record). Again read (fields Fourth (record_of.Publish version parts)) (record_of.Publish version parts)) reads_publish_fourth (publish_fields Fourth version parts is fits)
fields_again First (record_of.Swap table base from to epoch f) is fits place =
    swap_again First table base from to epoch f is.typed.0 is.typed.1 is.typed.2 is.typed.3 (files_if_any_of First f is.typed.4 fits is.rules)
fields_again Second (record_of.Swap table base from to epoch f) is fits place =
    swap_again Second table base from to epoch f is.typed.0 is.typed.1 is.typed.2 is.typed.3 (files_if_any_of Second f is.typed.4 fits is.rules)
fields_again Third (record_of.Swap table base from to epoch f) is fits place =
    subst (λ (read : Left → Read Record). Again read (fields Third (record_of.Swap table base from to epoch f)) (record_of.Swap table base from to epoch f)) reads_swap
    (swap_again Third table base from to epoch f is.typed.0 is.typed.1 is.typed.2 is.typed.3 (files_if_any_of Third f is.typed.4 fits is.rules))
fields_again Fourth (record_of.Swap table base from to epoch f) is fits place =
    subst (λ (read : Left → Read Record). Again read (fields Fourth (record_of.Swap table base from to epoch f)) (record_of.Swap table base from to epoch f)) reads_swap_fourth
    (swap_again Fourth table base from to epoch f is.typed.0 is.typed.1 is.typed.2 is.typed.3 (files_if_any_of Fourth f is.typed.4 fits is.rules))
fields_again e (record_of.Expire version) is fits place = made_again word_at record_of.Expire (word version) version (word_again version is.typed)
fields_again e (record_of.ExpireTable table version) is fits place =
    two_again half_at (λ table. word_at) record_of.ExpireTable (half table) (word version) table version (half_again table is.typed.0) (word_again version is.typed.1)
fields_again First (record_of.Checkpoint k) is fits place = stated_fields First k is fits
fields_again Second (record_of.Checkpoint k) is fits place = stated_fields Second k is fits
fields_again Third (record_of.Checkpoint k) is fits place = stated_fields Third k is fits
fields_again Fourth (record_of.Checkpoint k) is fits place = stated_fields Fourth k is fits
fields_again e (record_of.Recast r) is fits place = made_again recasting_at record_of.Recast (recasting_fields r) r (recasting_again r (record { typed = is.typed; rules = is.rules }))

-- a record is read again from its spelling
pub record_again : (e : Edition) (r : Record) → IsRecord r → FitsIn e r → record_at (spelled_in e r) ≡ Ok r
record_again e r is fits =
    let all = fields_again e r is fits 0 1 [] in
    ap record_at (spelled_so e r ∙ ap (λ bs. one (kind_number e r) ++ bs) (sym (append-nil (fields e r))))
    ∙ rw (byte_again (kind_number e r) 0 (fields e r ++ []), all.1) refl

-- ---- what is read of each kind

-- a record of the kind of this number
pub record IsOfKind (e : Edition) (number : ℕ) (r : Record) : Type 0 where
  pub «record» : IsRecord r
  pub fits : FitsIn e r
  pub kind : kind_number e r ≡ number

-- what behind a record's kind was spelled so
abbrev FoundFields : Edition → ℕ → (Left → Read Record) → Type 0
FoundFields e number read = Found read (fields e) (IsOfKind e number)

run_found : FoundFields Second 1 run_at
run_found = made_found word_at record_of.Run IsWord (IsOfKind Second 1) word (fields Second) word_found (λ number small. (record { «record» = record { typed = small; rules = refl }; fits = tt; kind = refl }, refl))

expire_found : FoundFields Second 7 expire_at
expire_found = made_found word_at record_of.Expire IsWord (IsOfKind Second 7) word (fields Second) word_found (λ version small. (record { «record» = record { typed = small; rules = refl }; fits = tt; kind = refl }, refl))

expire_table_found : FoundFields Second 12 expire_table_at
expire_table_found = two_found half_at (λ table. word_at) record_of.ExpireTable IsHalf (λ table version. IsWord version) (IsOfKind Second 12) half word (fields Second) half_found (λ table. word_found)
    (λ table version small is. (record { «record» = record { typed = (small, is); rules = refl }; fits = tt; kind = refl }, refl))

alter_found : FoundFields Second 4 alter_at
alter_found = two_found half_at (λ table. change_at) record_of.Alter IsHalf (λ table c. IsChange c) (IsOfKind Second 4) half change (fields Second) half_found (λ table. change_found)
    (λ table c small is. (record { «record» = record { typed = (small, is.0); rules = is.1 }; fits = tt; kind = refl }, refl))

table_found : FoundFields Second 2 table_at
table_found l after r bytes h =
    let s1 = step_of (name_at l) _ _ h in
    let f1 = name_found l s1.0.1 s1.0.0 bytes s1.1 in
    let s2 = step_of (key_columns_at s1.0.1) _ _ s1.2 in
    let f2 = keys_found s1.0.1 s2.0.1 s2.0.0 f1.1.rest s2.1 in
    let s3 = step_of (value_columns_at s2.0.1) _ _ s2.2 in
    let f3 = values_found s2.0.1 s3.0.1 s3.0.0 f2.1.rest s3.1 in
    let made = record_of.Table s1.0.0 s2.0.0 s3.0.0 in
    let rules = all_true (is_count_of_columns (length s2.0.0)) (is_count_of_columns (length s3.0.0)) f2.0.count f3.0.count in
    subst (λ (z : Record × Left). IsOfKind Second 2 z.0 × Begins l (fields Second z.0) z.1) (ok_is (made, s3.0.1) (r, after) s3.2) (
      record { «record» = record { typed = (f1.0, f2.0.all, f3.0.all); rules = rules }; fits = tt; kind = refl },
      begins_two l s1.0.1 s3.0.1 _ _ f1.1 (begins_two s1.0.1 s2.0.1 s3.0.1 _ _ f2.1 f3.1),
    )

view_found : FoundFields Second 3 view_at
view_found l after r bytes h =
    let s0 = step_of (half_at l) _ _ h in
    let f0 = half_found l s0.0.1 s0.0.0 bytes s0.1 in
    let s1 = step_of (name_at s0.0.1) _ _ s0.2 in
    let f1 = name_found s0.0.1 s1.0.1 s1.0.0 f0.1.rest s1.1 in
    let s2 = step_of (names_at s1.0.1) _ _ s1.2 in
    let f2 = names_found s1.0.1 s2.0.1 s2.0.0 f1.1.rest s2.1 in
    let s3 = step_of (names_at s2.0.1) _ _ s2.2 in
    let f3 = names_found s2.0.1 s3.0.1 s3.0.0 f2.1.rest s3.1 in
    let made = record_of.View s0.0.0 s1.0.0 s2.0.0 s3.0.0 in
    let rules = all_true (is_count_of_columns (length s2.0.0)) (is_count_of_columns (length s3.0.0)) f2.0.count f3.0.count in
    subst (λ (z : Record × Left). IsOfKind Second 3 z.0 × Begins l (fields Second z.0) z.1) (ok_is (made, s3.0.1) (r, after) s3.2) (
      record { «record» = record { typed = (f0.0, f1.0, f2.0.all, f3.0.all); rules = rules }; fits = tt; kind = refl },
      begins_two l s0.0.1 s3.0.1 _ _ f0.1 (begins_two s0.0.1 s1.0.1 s3.0.1 _ _ f1.1 (begins_two s1.0.1 s2.0.1 s3.0.1 _ _ f2.1 f3.1)),
    )

publish_found : (e : Edition) → FoundFields e (publish_kind e) (publish_at e)
publish_found e l after r bytes h =
    let s1 = step_of (word_at l) _ _ h in
    let f1 = word_found l s1.0.1 s1.0.0 bytes s1.1 in
    let s2 = step_of (half_at s1.0.1) _ _ s1.2 in
    let f2 = half_found s1.0.1 s2.0.1 s2.0.0 f1.1.rest s2.1 in
    let s3 = step_of (rising part_number (part_at e) 0 s2.0.0 s2.0.1) _ _ s2.2 in
    let f3 = list_found part_number (part_at e) (part e) (IsPart e) (part_found e) 0 s2.0.0 s2.0.1 s3.0.1 s3.0.0 f2.1.rest s3.1 in
    let made = record_of.Publish s1.0.0 s3.0.0 in
    let keep = parts_keep e 0 s3.0.0 f3.order in
    let few : length s3.0.0 < 2 ^ 16 = rw f3.count f2.0 in
    let rules = all_true (nat_lt (length s3.0.0) (2 ^ 16) && rise_from 0 (map (λ (p : Part). p.table) s3.0.0)) (list_all is_part s3.0.0)
    (all_true (nat_lt (length s3.0.0) (2 ^ 16)) (rise_from 0 (map (λ (p : Part). p.table) s3.0.0)) (lt-ltb _ _ few) keep.rise) keep.good in
    let count : Begins s1.0.1 (half (length s3.0.0)) s2.0.1 = subst (λ n. Begins s1.0.1 (half n) s2.0.1) (sym f3.count) f2.1 in
    subst (λ (z : Record × Left). IsOfKind e (publish_kind e) z.0 × Begins l (fields e z.0) z.1) (ok_is (made, s3.0.1) (r, after) s3.2) (
      record { «record» = record { typed = (f1.0, keep.typed); rules = rules }; fits = keep.fits; kind = refl },
      begins_two l s1.0.1 s3.0.1 _ _ f1.1 (begins_two s1.0.1 s2.0.1 s3.0.1 _ _ count f3.begins),
    )

swap_found : (e : Edition) → FoundFields e (swap_kind e) (swap_at e)
swap_found e l after r bytes h =
    let s0 = step_of (half_at l) _ _ h in
    let f0 = half_found l s0.0.1 s0.0.0 bytes s0.1 in
    let s1 = step_of (meaning flag_of s0.0.1) _ _ s0.2 in
    let f1 = meaning_found flag_of flag flag_of_byte s0.0.1 s1.0.1 s1.0.0 f0.1.rest s1.1 in
    let s2 = step_of (word_at s1.0.1) _ _ s1.2 in
    let f2 = word_found s1.0.1 s2.0.1 s2.0.0 f1.1.rest s2.1 in
    let s3 = step_of (word_at s2.0.1) _ _ s2.2 in
    let f3 = word_found s2.0.1 s3.0.1 s3.0.0 f2.1.rest s3.1 in
    let s4 = step_of (word_at s3.0.1) _ _ s3.2 in
    let f4 = word_found s3.0.1 s4.0.1 s4.0.0 f3.1.rest s4.1 in
    let s5 = step_of (files_if_any_at e s4.0.1) _ _ s4.2 in
    let f5 = files_if_any_found e s4.0.1 s5.0.1 s5.0.0 f4.1.rest s5.1 in
    let keep = files_if_any_keep e s5.0.0 f5.0 in
    let made = record_of.Swap s0.0.0 s1.0.0 s2.0.0 s3.0.0 s4.0.0 s5.0.0 in
    subst (λ (z : Record × Left). IsOfKind e (swap_kind e) z.0 × Begins l (fields e z.0) z.1) (ok_is (made, s5.0.1) (r, after) s5.2) (
      record { «record» = record { typed = (f0.0, f2.0, f3.0, f4.0, keep.0); rules = keep.2 }; fits = keep.1; kind = refl },
      begins_two l s0.0.1 s5.0.1 _ _ f0.1 (begins_two s0.0.1 s1.0.1 s5.0.1 _ _ f1.1 (begins_two s1.0.1 s2.0.1 s5.0.1 _ _ f2.1 (begins_two s2.0.1 s3.0.1 s5.0.1 _ _ f3.1 (begins_two s3.0.1 s4.0.1 s5.0.1 _ _ f4.1 f5.1)))),
    )

checkpoint_found : (e : Edition) → FoundFields e (checkpoint_kind e) (checkpoint_at e)
checkpoint_found e = made_found (stated_at e) record_of.Checkpoint (IsStated e) (IsOfKind e (checkpoint_kind e)) (checkpoint_fields e) (fields e) (stated_found e)
    (λ k is. (record { «record» = record { typed = is.typed; rules = is.rules }; fits = is.fits; kind = refl }, refl))

recast_found : FoundFields Fourth 14 recast_at
recast_found = made_found recasting_at record_of.Recast IsRecasting (IsOfKind Fourth 14) recasting_fields (fields Fourth) recasting_found
    (λ r is. (record { «record» = record { typed = is.typed; rules = is.rules }; fits = tt; kind = refl }, refl))

-- what was read behind a kind is a record of it, in an edition
abbrev BehindIn : Edition → ℕ → Left → Left → Record → Type 0
BehindIn e b l after r = IsOfKind e b r × Begins l (fields e r) after

abbrev Behind : ℕ → Left → Left → Record → Type 0
Behind b l after r = (e : Edition) × BehindIn e b l after r

of_number : (e : Edition) (number b : ℕ) (l after : Left) (r : Record) → (b == number) ≡ true → BehindIn e number l after r → Behind b l after r
of_number e number b l after r is f = (e, (record { «record» = f.0.«record»; fits = f.0.fits; kind = f.0.kind ∙ sym (eqb-true b number is) }, f.1))

fields_found : (place b : ℕ) (l after : Left) (r : Record) → Bytes l.bytes → fields_of place b l ≡ Ok (r, after) → Behind b l after r
unfolding fields_of
fields_found place b l after r bytes h = elim (either_way (b == 1) (run_at l) _ (r, after) h) [
  | inl is ↦ of_number Second 1 b l after r is.0 (run_found l after r bytes is.1)
  | inr h1 ↦ elim (either_way (b == 2) (table_at l) _ (r, after) h1) [
    | inl is ↦ of_number Second 2 b l after r is.0 (table_found l after r bytes is.1)
    | inr h2 ↦ elim (either_way (b == 3) (view_at l) _ (r, after) h2) [
      | inl is ↦ of_number Second 3 b l after r is.0 (view_found l after r bytes is.1)
      | inr h3 ↦ elim (either_way (b == 4) (alter_at l) _ (r, after) h3) [
        | inl is ↦ of_number Second 4 b l after r is.0 (alter_found l after r bytes is.1)
        | inr h4 ↦ elim (either_way (b == 5) (publish_at First l) _ (r, after) h4) [
          | inl is ↦ of_number First 5 b l after r is.0 (publish_found First l after r bytes is.1)
          | inr h5 ↦ elim (either_way (b == 6) (swap_at First l) _ (r, after) h5) [
            | inl is ↦ of_number First 6 b l after r is.0 (swap_found First l after r bytes is.1)
            | inr h6 ↦ elim (either_way (b == 7) (expire_at l) _ (r, after) h6) [
              | inl is ↦ of_number Second 7 b l after r is.0 (expire_found l after r bytes is.1)
              | inr h7 ↦ elim (either_way (b == 8) (checkpoint_at First l) _ (r, after) h7) [
                | inl is ↦ of_number First 8 b l after r is.0 (checkpoint_found First l after r bytes is.1)
                | inr h8 ↦ elim (either_way (b == 9) (publish_at Second l) _ (r, after) h8) [
                  | inl is ↦ of_number Second 9 b l after r is.0 (publish_found Second l after r bytes is.1)
                  | inr h9 ↦ elim (either_way (b == 10) (swap_at Second l) _ (r, after) h9) [
                    | inl is ↦ of_number Second 10 b l after r is.0 (swap_found Second l after r bytes is.1)
                    | inr h10 ↦ elim (either_way (b == 11) (checkpoint_at Second l) _ (r, after) h10) [
                      | inl is ↦ of_number Second 11 b l after r is.0 (checkpoint_found Second l after r bytes is.1)
                      | inr h11 ↦ elim (either_way (b == 12) (expire_table_at l) _ (r, after) h11) [
                        | inl is ↦ of_number Second 12 b l after r is.0 (expire_table_found l after r bytes is.1)
                        | inr h12 ↦ elim (either_way (b == 13) (checkpoint_at Third l) _ (r, after) h12) [
                          | inl is ↦ of_number Third 13 b l after r is.0 (checkpoint_found Third l after r bytes is.1)
                          | inr h13 ↦ elim (either_way (b == 14) (recast_at l) _ (r, after) h13) [
                            | inl is ↦ of_number Fourth 14 b l after r is.0 (recast_found l after r bytes is.1)
                            | inr h14 ↦ elim (either_way (b == 15) (checkpoint_at Fourth l) _ (r, after) h14) [
                              | inl is ↦ of_number Fourth 15 b l after r is.0 (checkpoint_found Fourth l after r bytes is.1)
                              | inr h15 ↦ absurd cc
                            ]
                          ]
                        ]
                      ]
                    ]
                  ]
                ]
              ]
            ]
          ]
        ]
      ]
    ]
  ]
]

empty : (bytes : List ℕ) → length bytes ≡ 0 → bytes ≡ []
empty [] h = refl
empty (b ∷ bytes) h = absurd cc

-- nothing follows a record
record_ends : (none : Bool) (bytes : List ℕ) (x r : Record) (e : RecordError) → (length bytes == 0) ≡ none → if◌then◌else◌ {A = Result Record RecordError} none (Ok x) (Err e) ≡ Ok r → (bytes ≡ []) × (x ≡ r)
record_ends true bytes x r e is h = (empty bytes (eqb-true _ 0 is), ok_is x r h)
record_ends false bytes x r e is h = absurd cc

-- what was read is a record, and was spelled so in an edition
pub record_found : (bytes : List ℕ) (r : Record) → AreBytes bytes → record_at bytes ≡ Ok r → IsRecord r × IsSpelled r bytes
record_found bytes r are h =
    let all = all_bytes bytes are in
    let l = here 0 bytes in
    let s = step_of (byte_at l) _ _ h in
    let f = byte_found l s.0.1 s.0.0 all s.1 in
    let t = step_of (fields_of 0 s.0.0 s.0.1) ended _ s.2 in
    let some = fields_found 0 s.0.0 s.0.1 t.0.1 t.0.0 f.1.rest t.1 in
    let e = some.0 in
    let g = some.1 in
    let ends = record_ends (length t.0.1.bytes == 0) t.0.1.bytes t.0.0 r _ refl t.2 in
    let kind : one (kind_number e t.0.0) ≡ one s.0.0 = ap one g.0.kind in
    let split : bytes ≡ (one s.0.0 ++ fields e t.0.0) ++ t.0.1.bytes = (begins_two l s.0.1 t.0.1 (one s.0.0) (fields e t.0.0) f.1 g.1).split in
    let whole : spelled_in e t.0.0 ≡ bytes = spelled_so e t.0.0 ∙ ap (λ k. k ++ fields e t.0.0) kind ∙ sym (append-nil (one s.0.0 ++ fields e t.0.0)) ∙ ap (λ rest. (one s.0.0 ++ fields e t.0.0) ++ rest) (sym ends.0) ∙ sym split in
    subst (λ (x : Record). IsRecord x × IsSpelled x bytes) ends.1 (g.0.«record», record { edition = e; fits = g.0.fits; spelled = whole })

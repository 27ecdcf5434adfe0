-- The files of deltas, and the parts of batches, both ways.
use Rattle.std.proofs.Common.{◌≡◌, [], ◌∷◌, ℕ, ◌+◌, ◌<◌, ◌^◌, List, ◌++◌, length, refl, sym, ap, subst, ◌∙◌, append_assoc, Bool, true, false, Ok, Option, Some, None}
use Rattle.std.specs.Prelude.{IsTrue, ◌&&◌, flat_map, map, nat_le}
use Rattle.mesa_record_fields.proofs.mesa_list.Whole.{both}
use Rattle.std.specs.List.{AllByRecursion, list_all}
use Rattle.mesa_record_fields.specs.declared.edition.Edition.{Edition}
use Rattle.mesa_record.specs.declared.record.ViewRef.{ViewRef}
use Rattle.mesa_record.specs.declared.record.Files.{Files}
use Rattle.mesa_record.specs.declared.record.Part.{Part}
use Rattle.mesa_record_fields.specs.Reading.{Left, byte_at, total_at, count_at, file_ref_at, flag_of, half_at, meaning, ruled, totals_at, word_at}
use Rattle.mesa_record.specs.Reading.{files_at, files_if, files_if_any_at, part_at, view_number, view_ref_at, view_refs_at}
use Rattle.mesa_record_fields.specs.Rules.{IsHalf, IsWord, is_file_ref, rise_from}
use Rattle.mesa_record.specs.Rules.{AreTypedFiles, FitsFiles, FitsFilesIfAny, FitsView, IsTypedFiles, IsTypedView, are_files, are_files_if_any, are_view_refs}
use Rattle.mesa_record_fields.specs.Spelling.{counted, total, file_ref, flag, half, word}
use Rattle.mesa_record.specs.Spelling.{files, files_if_any, part, view_ref}
use Rattle.mesa_record_fields.proofs.Both.{Again, Begins, Found, InOrder, begins_two, here, list_again, list_found, of_ok, ok_is, step_of}
use Rattle.mesa_record_fields.proofs.Numbers.{IsTotalIn, total_again, total_found, byte_again, byte_found, half_again, half_found, one, word_again, word_found}
use Rattle.mesa_record_fields.proofs.Texts.{meaning_again, meaning_found, ruled_again, ruled_found}
use Rattle.mesa_record_fields.proofs.ColumnsBoth.{IsCounted, counted_again, counted_found, flag_of_byte, made_again, two_again, two_found}
use Rattle.mesa_record_fields.proofs.FileRefsBoth.{all_true, IsRef, file_ref_again, file_ref_found}

-- ---- views' files

-- a view's file whose number is at least this one
pub record IsView (e : Edition) (least : ℕ) (v : ViewRef) : Type 0 where
  pub number : IsTrue (nat_le least v.view)
  pub small : v.view < 2 ^ 8
  pub file : IsRef e v.file

view_ref_again : (e : Edition) (least : ℕ) (v : ViewRef) → IsView e least v → Again (view_ref_at e least) (view_ref e v) v
view_ref_again e least v is = two_again (ruled (nat_le least) byte_at) (λ view. file_ref_at e) (λ view f. record { view = view; file = f }) (one v.view) (file_ref e v.file) v.view v.file
    (ruled_again (nat_le least) byte_at (one v.view) v.view is.number (λ at more. (at + 1, byte_again v.view at more))) (file_ref_again e v.file is.file)

view_ref_found : (e : Edition) (least : ℕ) → Found (view_ref_at e least) (view_ref e) (IsView e least)
view_ref_found e least = two_found (ruled (nat_le least) byte_at) (λ view. file_ref_at e) (λ view f. record { view = view; file = f }) (λ view. (view < 2 ^ 8) × IsTrue (nat_le least view)) (λ view f. IsRef e f) (IsView e least)
    one (file_ref e) (view_ref e)
    (ruled_found (nat_le least) byte_at one (λ b. b < 2 ^ 8) byte_found) (λ view. file_ref_found e) (λ view f number file. (record { number = number.1; small = number.0; file = file }, refl))

abbrev pub AreViews : Edition → List ViewRef → Type 0
AreViews e views = InOrder (IsView e) view_number 0 views × IsTrue (nat_le (length views) 8)

views_again : (e : Edition) (views : List ViewRef) → AreViews e views → Again (view_refs_at e) (counted (view_ref e) views) views
views_again e views are at more =
    let count = ruled_again (λ n. nat_le n 8) byte_at (one (length views)) (length views) are.1 (λ at more. (at + 1, byte_again (length views) at more)) at (flat_map (view_ref e) views ++ more) in
    let fields = list_again view_number (view_ref_at e) (view_ref e) (IsView e) (view_ref_again e) 0 views are.0 count.0 more in
    (fields.0, rw count.1 fields.1)

views_found : (e : Edition) → Found (view_refs_at e) (counted (view_ref e)) (AreViews e)
views_found e l after views bytes h =
    let s = step_of (count_at 8 l) _ _ h in
    let f = ruled_found (λ n. nat_le n 8) byte_at one (λ b. b < 2 ^ 8) byte_found l s.0.1 s.0.0 bytes s.1 in
    let g = list_found view_number (view_ref_at e) (view_ref e) (IsView e) (view_ref_found e) 0 s.0.0 s.0.1 after views f.1.rest s.2 in
    ((g.order, subst (λ n. IsTrue (nat_le n 8)) (sym g.count) f.0.1), subst (λ n. Begins l (one n ++ flat_map (view_ref e) views) after) (sym g.count) (begins_two l s.0.1 after (one s.0.0) (flat_map (view_ref e) views) f.1 g.begins))

-- ---- the files of a delta

pub record AreFiles (e : Edition) (f : Files) : Type 0 where
  pub file : IsRef e f.file
  pub views : AreViews e f.views

pub files_again : (e : Edition) (f : Files) → AreFiles e f → Again (files_at e) (files e f) f
unfolding files_at files
files_again e f are = two_again (file_ref_at e) (λ file. view_refs_at e) (λ file views. record { file = file; views = views }) (file_ref e f.file) (counted (view_ref e) f.views) f.file f.views (file_ref_again e f.file are.file) (views_again e f.views are.views)

pub files_found : (e : Edition) → Found (files_at e) (files e) (AreFiles e)
unfolding files_at files
files_found e = two_found (file_ref_at e) (λ file. view_refs_at e) (λ file views. record { file = file; views = views }) (IsRef e) (λ file views. AreViews e views) (AreFiles e) (file_ref e) (counted (view_ref e)) (files e)
    (file_ref_found e) (λ file. views_found e) (λ file views a b. (record { file = a; views = b }, refl))

abbrev pub AreFilesIfAny : Edition → Option Files → Type 0
AreFilesIfAny e None = Unit {0}
AreFilesIfAny e (Some f) = AreFiles e f

pub files_if_any_again : (e : Edition) (f : Option Files) → AreFilesIfAny e f → Again (files_if_any_at e) (files_if_any e f) f
files_if_any_again e None are at more = let some = meaning_again flag_of 0 false refl at more in (some.0, rw some.1 refl)
files_if_any_again e (Some f) are at more =
    let some = meaning_again flag_of 1 true refl at (files e f ++ more) in
    let all = made_again (files_at e) Some (files e f) f (files_again e f are) some.0 more in
    (all.0, rw some.1 all.1)

-- the files behind the flag
files_if_found : (e : Edition) (some : Bool) (l mid after : Left) (f : Option Files) → Begins l (one (flag some)) mid → files_if e some mid ≡ Ok (f, after) → AreFilesIfAny e f × Begins l (files_if_any e f) after
files_if_found e false l mid after f first h =
    subst (λ (z : Option Files × Left). AreFilesIfAny e z.0 × Begins l (files_if_any e z.0) z.1) (of_ok _ (None, mid) (f, after) refl h) (tt, first)
files_if_found e true l mid after f first h =
    let s = step_of (files_at e mid) _ _ h in
    let g = files_found e mid s.0.1 s.0.0 first.rest s.1 in
    subst (λ (z : Option Files × Left). AreFilesIfAny e z.0 × Begins l (files_if_any e z.0) z.1) (of_ok _ (Some s.0.0, s.0.1) (f, after) refl s.2)
    (g.0, begins_two l mid s.0.1 (one 1) (files e s.0.0) first g.1)

pub files_if_any_found : (e : Edition) → Found (files_if_any_at e) (files_if_any e) (AreFilesIfAny e)
files_if_any_found e l after f bytes h =
    let s = step_of (meaning flag_of l) _ _ h in
    let g = meaning_found flag_of flag flag_of_byte l s.0.1 s.0.0 bytes s.1 in
    files_if_found e s.0.0 l s.0.1 after f g.1 s.2

-- ---- what the rules say, and what they are made of

views_in_order : (e : Edition) (least : ℕ) (views : List ViewRef) → IsTrue (rise_from least (map (λ (v : ViewRef). v.view) views)) → IsTrue (list_all (λ (v : ViewRef). is_file_ref v.file) views) → AllByRecursion IsTypedView views → AllByRecursion (FitsView e) views → InOrder (IsView e) view_number least views
views_in_order e least [] rise good typed fits = tt
views_in_order e least (v ∷ views) rise good typed fits =
    let r = both (nat_le least v.view) (rise_from (v.view + 1) (map (λ (v : ViewRef). v.view) views)) rise in
    let g = both (is_file_ref v.file) (list_all (λ (v : ViewRef). is_file_ref v.file) views) good in
    (record { number = r.0; small = typed.0.view; file = record { typed = typed.0.file; rules = g.0; fits = fits.0 } }, views_in_order e (v.view + 1) views r.1 g.1 typed.1 fits.1)

record ViewsKeep (e : Edition) (least : ℕ) (views : List ViewRef) : Type 0 where
  pub rise : IsTrue (rise_from least (map (λ (v : ViewRef). v.view) views))
  pub good : IsTrue (list_all (λ (v : ViewRef). is_file_ref v.file) views)
  pub typed : AllByRecursion IsTypedView views
  pub fits : AllByRecursion (FitsView e) views

views_keep : (e : Edition) (least : ℕ) (views : List ViewRef) → InOrder (IsView e) view_number least views → ViewsKeep e least views
views_keep e least [] all = record { rise = refl; good = refl; typed = tt; fits = tt }
views_keep e least (v ∷ views) all =
    let rest = views_keep e (v.view + 1) views all.1 in
    record {
      rise = all_true (nat_le least v.view) _ all.0.number rest.rise;
      good = all_true (is_file_ref v.file) _ all.0.file.rules rest.good;
      typed = (record { view = all.0.small; file = all.0.file.typed }, rest.typed);
      fits = (all.0.file.fits, rest.fits);
    }

pub files_of : (e : Edition) (f : Files) → IsTypedFiles f → FitsFiles e f → IsTrue (are_files f) → AreFiles e f
files_of e f typed fits h =
    let two = both (is_file_ref f.file) (are_view_refs f.views) h in
    let views = both (nat_le (length f.views) 8 && rise_from 0 (map (λ (v : ViewRef). v.view) f.views)) (list_all (λ (v : ViewRef). is_file_ref v.file) f.views) two.1 in
    let few = both (nat_le (length f.views) 8) (rise_from 0 (map (λ (v : ViewRef). v.view) f.views)) views.0 in
    record { file = record { typed = typed.file; rules = two.0; fits = fits.file }; views = (views_in_order e 0 f.views few.1 views.1 typed.views fits.views, few.0) }

pub files_keep : (e : Edition) (f : Files) → AreFiles e f → IsTypedFiles f × FitsFiles e f × IsTrue (are_files f)
files_keep e f are =
    let views = views_keep e 0 f.views are.views.0 in
    let few = all_true (nat_le (length f.views) 8) (rise_from 0 (map (λ (v : ViewRef). v.view) f.views)) are.views.1 views.rise in (
      record { file = are.file.typed; views = views.typed },
      record { file = are.file.fits; views = views.fits },
      all_true (is_file_ref f.file) (are_view_refs f.views) are.file.rules (all_true (nat_le (length f.views) 8 && rise_from 0 (map (λ (v : ViewRef). v.view) f.views)) (list_all (λ (v : ViewRef). is_file_ref v.file) f.views) few views.good),
    )

pub files_if_any_of : (e : Edition) (f : Option Files) → AreTypedFiles f → FitsFilesIfAny e f → IsTrue (are_files_if_any f) → AreFilesIfAny e f
files_if_any_of e None typed fits h = tt
files_if_any_of e (Some f) typed fits h = files_of e f typed fits h

pub files_if_any_keep : (e : Edition) (f : Option Files) → AreFilesIfAny e f → AreTypedFiles f × FitsFilesIfAny e f × IsTrue (are_files_if_any f)
files_if_any_keep e None are = (tt, tt, refl)
files_if_any_keep e (Some f) are = files_keep e f are

-- ---- parts

pub record IsPart (e : Edition) (least : ℕ) (p : Part) : Type 0 where
  pub number : IsTrue (nat_le least p.table)
  pub table : IsHalf p.table
  pub epoch : IsWord p.epoch
  pub files : AreFiles e p.files
  pub totals : IsCounted (λ n. nat_le n 16) (IsTotalIn e) p.totals

pub part_again : (e : Edition) (least : ℕ) (p : Part) → IsPart e least p → Again (part_at e least) (part e p) p
part_again e least p is at more =
    let totals_bytes = counted (total e) p.totals in
    let b3 = totals_bytes ++ more in
    let b2 = files e p.files ++ b3 in
    let b1 = word p.epoch ++ b2 in
    let table = ruled_again (nat_le least) half_at (half p.table) p.table is.number (half_again p.table is.table) at b1 in
    let epoch = word_again p.epoch is.epoch table.0 b2 in
    let all = files_again e p.files is.files epoch.0 b3 in
    let totals = counted_again (λ n. nat_le n 16) (total_at e) (total e) (IsTotalIn e) (total_again e) p.totals is.totals.all is.totals.count all.0 more in
    let flat : part e p ++ more ≡ half p.table ++ b1 = simp append_assoc refl in
    (totals.0, ap (λ bytes. part_at e least (here at bytes)) flat ∙ rw (table.1, epoch.1, all.1, totals.1) refl)

pub part_found : (e : Edition) (least : ℕ) → Found (part_at e least) (part e) (IsPart e least)
part_found e least l after p bytes h =
    let s1 = step_of (ruled (nat_le least) half_at l) _ _ h in
    let f1 = ruled_found (nat_le least) half_at half IsHalf half_found l s1.0.1 s1.0.0 bytes s1.1 in
    let s2 = step_of (word_at s1.0.1) _ _ s1.2 in
    let f2 = word_found s1.0.1 s2.0.1 s2.0.0 f1.1.rest s2.1 in
    let s3 = step_of (files_at e s2.0.1) _ _ s2.2 in
    let f3 = files_found e s2.0.1 s3.0.1 s3.0.0 f2.1.rest s3.1 in
    let s4 = step_of (totals_at e s3.0.1) _ _ s3.2 in
    let f4 = counted_found (λ n. nat_le n 16) (total_at e) (total e) (IsTotalIn e) (total_found e) s3.0.1 s4.0.1 s4.0.0 f3.1.rest s4.1 in
    let made : Part = record { table = s1.0.0; epoch = s2.0.0; files = s3.0.0; totals = s4.0.0 } in
    subst (λ (z : Part × Left). IsPart e least z.0 × Begins l (part e z.0) z.1) (ok_is (made, s4.0.1) (p, after) s4.2) (
      record { number = f1.0.1; table = f1.0.0; epoch = f2.0; files = f3.0; totals = f4.0 },
      begins_two l s1.0.1 s4.0.1 _ _ f1.1 (begins_two s1.0.1 s2.0.1 s4.0.1 _ _ f2.1 (begins_two s2.0.1 s3.0.1 s4.0.1 _ _ f3.1 f4.1)),
    )

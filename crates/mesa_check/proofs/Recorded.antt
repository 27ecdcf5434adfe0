-- A file is found in one way, and so are the files of a delta.
use Rattle.std.proofs.Common.{◌≡◌, ℕ, zero, suc, ◌^◌, ◌<◌, List, [], ◌∷◌, length, map, refl, sym, ◌∙◌, ap, subst, arith, Bool, true, false, ◌&&◌}
use Rattle.std.specs.Prelude.{IfSome, IsTrue, is_some, slice_get, unwrap_or, Option, None, Some}
use Rattle.std.specs.List.{AllByRecursion, list_all}
use Rattle.mesa_disk.specs.Image.{Image}
use Rattle.mesa_pick_files.specs.mesa_columns.declared.rows.Row.{Row}
use Rattle.mesa_schema.specs.Changes.{Lineage, columns_at, columns_of, epoch_of, lifted}
use Rattle.mesa_pick_files.specs.mesa_columns.Schema.{is_schema}
use Rattle.mesa_batch.specs.Totals.{abs_totals}
use Rattle.mesa_pick_files.specs.mesa_block.Layout.{Layout}
use Rattle.mesa_delta.specs.mesa_delta_format.File.{IsFile, file_bytes}
use Rattle.mesa_delta.specs.mesa_delta_format.Spread.{blocks_of}
use Rattle.mesa_record.specs.declared.record.Files.{Files}
use Rattle.mesa_record.specs.declared.record.ViewRef.{ViewRef}
use Rattle.mesa_pick_files.specs.mesa_columns.declared.views.View.{View}
use Rattle.mesa_store_spec.proofs.Contents.{present_now}
use Rattle.mesa_pick_files.specs.Files.{own_lineage}
use Rattle.mesa_store_spec.specs.Catalog.{Delta}
use Rattle.mesa_store_spec.specs.Fitting.{LiveFile, columns_seen, view_live}
use Rattle.mesa_compare.specs.mesa_open_files.Opening.{wanted_columns, wanted_layout}
use Rattle.mesa_compare.specs.mesa_open_files.declared.opening.Wanted.{Wanted}
use Rattle.mesa_compare.specs.mesa_examine.Examined.{AreSumsIn, IsExaminedAs}
use Rattle.mesa_compare.specs.mesa_examine.Sums.{counted}
use Rattle.mesa_compare.specs.mesa_examine.declared.totals.Sums.{Sums}
use Rattle.mesa_check.specs.Found.{AreFound, Found, IsFoundAs}
use Rattle.mesa_check.specs.Faults.{agrees_if_any, is_view_found}
use Rattle.mesa_check.specs.Tested.{AreSumsAt, AreSumsFound, HasRows, IsTestIn, IsTested, live_file_of}
use Rattle.mesa_check.specs.declared.testing.Test.{Test}

-- two files of as many blocks with the same bytes have the same rows
abbrev pub OneFile : Type 0
OneFile = (s : Layout) (rows others : List Row) (bytes : List ℕ) → IsTrue (is_schema s.columns) → length bytes < 2 ^ 64 → IsFile s rows bytes → IsFile s others bytes → length (blocks_of s rows) ≡ length (blocks_of s others) → rows ≡ others

-- what is examined of a file is what is found of it
pub found_once : OneFile → (i : Image) (w : Wanted) (rows : Option (List Row)) (o : Option Sums) → IsTrue (is_schema (wanted_columns w)) → w.file.now.len < 2 ^ 64 → IsExaminedAs i w o → IsFoundAs i (live_file_of w) rows → AreSumsFound w rows o
found_once law i w None None schema fits examined found = tt
found_once law i w None (Some sums) schema fits examined found = found (file_bytes (wanted_layout w) examined.0) examined.0 examined.1 examined.2 examined.3
found_once law i w (Some rows) None schema fits examined found = examined (file_bytes (wanted_layout w) rows) rows found.0 found.1 found.2
found_once law i w (Some rows) (Some sums) schema fits examined found =
    let s : Layout = wanted_layout w in
    let mine : List Row = examined.0 in
    let read : Some (file_bytes s mine) ≡ Some (file_bytes s rows) = sym examined.1 ∙ found.0 in
    let same : file_bytes s mine ≡ file_bytes s rows = cc in
    let len : w.file.now.len ≡ length (file_bytes s rows) = found.2.len in
    let few : length (file_bytes s rows) < 2 ^ 64 = omega (arith, len, fits) in
    let one : mine ≡ rows = law s mine rows (file_bytes s rows) schema few (subst (IsFile s mine) same examined.2) found.1 (sym examined.3.blocks ∙ found.2.blocks) in
    subst (λ (r : List Row). AreSumsIn w r sums) one examined.4

pub has_rows : (i : Image) (w : Wanted) (o : Option Sums) → is_some o ≡ true → IsExaminedAs i w o → HasRows i (live_file_of w)
has_rows i w None some examined = absurd cc
has_rows i w (Some sums) some examined = (examined.0, (examined.1, examined.2, examined.3))

-- ---- views' files

last_out : (b : Bool) → (b && false) ≡ false
last_out true = refl
last_out false = refl

-- a view that isn't there
pub none_seen : (found : Found) (l : Lineage) (view id : ℕ) → slice_get l.views view ≡ None → false ≡ (is_some (slice_get l.views view) && is_some (found id))
none_seen found l view id none = λ k. is_some (sym none k) && is_some (found id)

pub some_as_found : (w : Wanted) (rows : Option (List Row)) (o : Option Sums) → AreSumsFound w rows o → is_some o ≡ is_some rows
some_as_found w None None is = refl
some_as_found w None (Some sums) is = absurd is
some_as_found w (Some rows) None is = absurd is
some_as_found w (Some rows) (Some sums) is = refl

-- ---- the files of a delta

module _ (told : Option Image) (l : Lineage) (epoch : ℕ) (f : Files) (totals : Option (List ℕ)) (e : ℕ) (t : Test) (at : e ≡ epoch) where
  abbrev own_live_file : LiveFile
  own_live_file = record { columns = columns_at l e; file = f.file }

  same_live_file : own_live_file ≡ record { columns = columns_at l epoch; file = f.file }
  same_live_file = λ k. record { columns = columns_at l (at k); file = f.file }

  its_file : (i : Image) (o : Option (List Row)) → IsFoundAs i (record { columns = columns_at l epoch; file = f.file }) o → IsFoundAs i own_live_file o
  its_file i o is = subst (λ (x : LiveFile). IsFoundAs i x o) (sym same_live_file) is

  -- all are the recorded ones
  pub files_found : (sums : Sums) → ((i : Image) (rows : Option (List Row)) → told ≡ Some i → IsFoundAs i (record { columns = columns_at l e; file = f.file }) rows → AreSumsAt l e rows (Some sums))
      → ((i : Image) → told ≡ Some i → HasRows i (record { columns = columns_at l e; file = f.file }))
      → ((i : Image) (found : Found) → told ≡ Some i → AreFound i found (map (view_live l) f.views) → true ≡ list_all (is_view_found found l) f.views) → ((i : Image) → told ≡ Some i → AllByRecursion (HasRows i) (map (view_live l) f.views))
      → t.found ≡ true → ((sums_own : List ℕ) → sums.own ≡ counted sums_own → t.totalled ≡ agrees_if_any totals sums_own) → t.present ≡ sums.present → IsTestIn told l (record { epoch = epoch; files = Some f; totals = totals }) t
  files_found sums own own_there views views_there is_found_so totalled present = record {
    tested = λ i found is are. by found (found f.file.id) refl (own i (found f.file.id) is (its_file i (found f.file.id) are.0)) (views i found is are.1);
    there = λ i is so. (subst (HasRows i) same_live_file (own_there i is), views_there i is);
  }
    where
      by : (found : Found) (o : Option (List Row)) → found f.file.id ≡ o → AreSumsAt l e o (Some sums) → true ≡ list_all (is_view_found found l) f.views → IsTested found l (record { epoch = epoch; files = Some f; totals = totals }) t
      by found None eq s all = absurd s
      by found (Some rows) eq s all = record {
        found = is_found_so ∙ (λ k. is_some (sym eq k) && all k);
        totalled = λ so. totalled (abs_totals (columns_at l epoch) (unwrap_or (found f.file.id) [])) (s.own ∙ (λ k. counted (abs_totals (columns_at l (at k)) (unwrap_or (sym eq k) []))));
        present = λ so. present ∙ s.present ∙ (λ k. counted (abs_totals (columns_of l) (map (lifted l (at k) (epoch_of l)) (unwrap_or (sym eq k) []))));
      }

  -- the table's own isn't
  pub own_lost : ((i : Image) (rows : Option (List Row)) → told ≡ Some i → IsFoundAs i (record { columns = columns_at l e; file = f.file }) rows → false ≡ is_some rows) → t.found ≡ false → IsTestIn told l (record { epoch = epoch; files = Some f; totals = totals }) t
  own_lost own lost = record {
    tested = λ i found is are. record {
      found = lost ∙ (λ k. own i (found f.file.id) is (its_file i (found f.file.id) are.0) k && list_all (is_view_found found l) f.views);
      totalled = λ so. cc;
      present = λ so. cc;
    };
    there = λ i is so. cc;
  }

  -- one of the views' isn't
  pub views_lost : ((i : Image) (found : Found) → told ≡ Some i → AreFound i found (map (view_live l) f.views) → false ≡ list_all (is_view_found found l) f.views) → t.found ≡ false → IsTestIn told l (record { epoch = epoch; files = Some f; totals = totals }) t
  views_lost views lost = record {
    tested = λ i found is are. record {
      found = lost ∙ sym (last_out (is_some (found f.file.id))) ∙ (λ k. is_some (found f.file.id) && views i found is are.1 k);
      totalled = λ so. cc;
      present = λ so. cc;
    };
    there = λ i is so. cc;
  }

-- a delta with these files
pub of_files : (told : Option Image) (l : Lineage) (d : Delta) (f : Files) (t : Test) → d.files ≡ Some f → IsTestIn told l (record { epoch = d.epoch; files = Some f; totals = d.totals }) t → IsTestIn told l d t
of_files told l d f t is test = subst (λ (e : Delta). IsTestIn told l e t) (sym (with_it d (Some f) is)) test
  where
    with_it : (d : Delta) (o : Option Files) → d.files ≡ o → d ≡ record { epoch = d.epoch; files = o; totals = d.totals }
    with_it d o is = λ k. record { epoch = d.epoch; files = is k; totals = d.totals }

-- a delta without rows
pub without_files : (told : Option Image) (l : Lineage) (d : Delta) (t : Test) → d.files ≡ None → t.found ≡ true → t.totalled ≡ agrees_if_any d.totals (abs_totals (columns_at l d.epoch) []) → t.present ≡ counted (abs_totals (columns_of l) []) → IsTestIn told l d t
without_files told l d t is is_found_so totalled present = subst (λ (e : Delta). IsTestIn told l e t) (sym (with_none d is)) none
  where
    with_none : (d : Delta) → d.files ≡ None → d ≡ record { epoch = d.epoch; files = None; totals = d.totals }
    with_none d is = λ k. record { epoch = d.epoch; files = is k; totals = d.totals }

    none : IsTestIn told l (record { epoch = d.epoch; files = None; totals = d.totals }) t
    none = record { tested = λ i found is are. record { found = is_found_so; totalled = λ so. totalled; present = λ so. present }; there = λ i is so. tt }

-- ---- a view's file as it is wanted

pub seen_some : {X : Type 0} (xs : List X) (n : ℕ) → n < length xs → (x : X) × (slice_get xs n ≡ Some x)
seen_some [] n h = absurd (omega (arith, h))
seen_some (x ∷ xs) zero h = (x, refl)
seen_some (x ∷ xs) (suc n) h = seen_some xs n (omega (arith, h))

-- a view's file under columns that never change
abbrev pub live_as : Lineage → ViewRef → LiveFile
live_as own v = record { columns = columns_at own 0; file = v.file }

pub view_live_file : (l : Lineage) (v : ViewRef) (own : Lineage) → v.view < length l.views → IfSome (slice_get l.views v.view) (λ view. own ≡ own_lineage l view)
    → live_as own v ≡ view_live l v
view_live_file l v own there is =
    let some = seen_some l.views v.view there in
    let same : own ≡ own_lineage l some.0 = subst (λ (o : Option View). IfSome o (λ view. own ≡ own_lineage l view)) some.1 is in
    λ k. record { columns = (ap (λ (m : Lineage). columns_at m 0) same ∙ ap (columns_seen (columns_of l)) (sym some.1)) k; file = v.file }

pub view_there : (l : Lineage) (view : ℕ) → view < length l.views → is_some (slice_get l.views view) ≡ true
view_there l view there = let some = seen_some l.views view there in ap is_some some.1

-- a view's own rows are what they are
pub own_rows : (l : Lineage) (view : View) (own : Lineage) (rows : List Row) → own ≡ own_lineage l view → map (lifted own 0 (epoch_of own)) rows ≡ rows
own_rows l view own rows same = (λ k. map (lifted (same k) 0 (epoch_of (same k))) rows) ∙ present_now (own_lineage l view) rows

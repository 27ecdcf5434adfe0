-- Records joined with device calls.
use Rattle.std.proofs.Common.{◌≡◌, ◌≢◌, inl, inr, ⊎_elim, ℕ, ◌+◌, List, [], ◌∷◌, ◌++◌, map, length, Option, Some, Bool, true, false, not, ◌&&◌, ◌||◌, ◌==◌, refl, sym, ◌∙◌, ap, subst, arith}
use Rattle.std.proofs.lemmas.Bool.Decides.{nat_tests}
use Rattle.std.specs.List.{AllByRecursion}
use Rattle.mesa_store_spec.specs.mesa_key.Spelling.{AreBytes}
use Rattle.mesa_disk.specs.Image.{Image}
use Rattle.mesa_disk.specs.Files.{IsNoneOf}
use Rattle.mesa_disk.specs.Story.{Story}
use Rattle.mesa_disk.specs.declared.area.Area.{Area}
use Rattle.mesa_commit.specs.Images.{ids_of, Shows, Stands}
use Rattle.mesa_commit.specs.Turn.{AreApart, Brings, OldOrNew}
use Rattle.mesa_store_spec.specs.mesa_record.declared.record.Record.{Record}
use Rattle.mesa_store_spec.specs.Catalog.{Catalog, applied}
use Rattle.mesa_store_spec.specs.Fitting.{LiveFile, fits, kind_fits, live_files, brought, live_id, are_new_ids, has_number, run_of_id}
use Rattle.mesa_store_spec.specs.Journaled.{catalog}
use Rattle.mesa_store_spec.specs.Contents.{Rows, kept_of}
use Rattle.mesa_store_spec.specs.Sound.{wants, HaveSoundRows, StandsFor}
use Rattle.mesa_store_spec.specs.Held.{IsHeld, IsUnnamed, StandsForEither}
use Rattle.mesa_store_spec.proofs.OneMore.{catalog_more}
use Rattle.mesa_store.specs.Store.{Writes}

-- an image that shows a catalogue's bodies and files stands for what the catalogue stands for
pub shows_stands : (live : Area) (bodies : List (List ℕ)) (end : ℕ) (c : Catalog) (rows : Rows) (i : Image) → catalog live bodies ≡ Some c → HaveSoundRows rows c → Shows live bodies end (wants rows (live_files c)) i → StandsFor i (kept_of rows c)
shows_stands live bodies end c rows i records sound_rows is = record {
  bodies = bodies;
  catalogue = c;
  rows = rows;
  is = record { live = live; end = end; journal = record { whole = inr is.journal; behind = is.behind }; records = records; files = is.has; rows_are = sound_rows };
  same = refl;
}

-- ---- new ids

both_true : (a b : Bool) → (a && b) ≡ true → (a ≡ true) × (b ≡ true)
both_true true b e = (refl, e)
both_true false b e = absurd (let f : false ≡ true = e in cc)

not_true : (b : Bool) → not b ≡ true → b ≡ false
not_true true e = absurd (let f : false ≡ true = e in cc)
not_true false e = refl

none_first : (id t : ℕ) (taken : List ℕ) → (has_number id taken ≡ false → IsNoneOf taken id) → (b : Bool) → (id == t) ≡ b → (b || has_number id taken) ≡ false → IsNoneOf (t ∷ taken) id
none_first id t taken rest true is e = absurd (let f : true ≡ false = e in cc)
none_first id t taken rest false is e = ((λ same. let f : t ≡ id = same in let n : (id == t) ≡ true = grind (arith, nat_tests) in let g : true ≡ false = sym n ∙ is in cc), rest e)

none_has : (id : ℕ) (taken : List ℕ) → has_number id taken ≡ false → IsNoneOf taken id
none_has id [] e = tt
none_has id (t ∷ taken) e = none_first id t taken (none_has id taken) (id == t) refl e

-- new ids are none of those that are taken
new_ids : (run : ℕ) (taken ids : List ℕ) → are_new_ids run taken ids ≡ true → AllByRecursion (IsNoneOf taken) ids
new_ids run taken [] e = tt
new_ids run taken (id ∷ ids) e =
    let split = both_true ((run_of_id id == run) && not (has_number id taken)) (are_new_ids run (id ∷ taken) ids) e in
    let first = both_true (run_of_id id == run) (not (has_number id taken)) split.0 in
    (none_has id taken (not_true (has_number id taken) first.1), fewer ids (new_ids run (id ∷ taken) ids split.1))
  where
    fewer : (others : List ℕ) → AllByRecursion (IsNoneOf (id ∷ taken)) others → AllByRecursion (IsNoneOf taken) others
    fewer [] all = tt
    fewer (other ∷ others) all = (all.0.1, fewer others all.1)

-- each the other way round
none_turned : (ids : List ℕ) (x : ℕ) → IsNoneOf ids x → AllByRecursion (IsNoneOf (x ∷ [])) ids
none_turned [] x none = tt
none_turned (id ∷ ids) x none = (((λ same. none.0 (sym same)), tt), none_turned ids x none.1)

one_more : (x : ℕ) (xs others : List ℕ) → AllByRecursion (IsNoneOf (x ∷ [])) others → AllByRecursion (IsNoneOf xs) others → AllByRecursion (IsNoneOf (x ∷ xs)) others
one_more x xs [] first rest = tt
one_more x xs (other ∷ others) first rest = ((first.0.0, rest.0), one_more x xs others first.1 rest.1)

none_at_all : (others : List ℕ) → AllByRecursion (IsNoneOf []) others
none_at_all [] = tt
none_at_all (other ∷ others) = (tt, none_at_all others)

apart_turned : (xs ys : List ℕ) → AreApart xs ys → AreApart ys xs
apart_turned xs [] apart = none_at_all xs
apart_turned xs (y ∷ ys) apart = one_more y ys xs (none_turned xs y apart.0) (apart_turned xs ys apart.1)

-- ---- ids of files

wants_ids : (rows : Rows) (files : List LiveFile) → ids_of (wants rows files) ≡ map live_id files
wants_ids rows [] = refl
wants_ids rows (x ∷ files) = ap (λ ids. x.file.id ∷ ids) (wants_ids rows files)

unnamed_ids : (id : ℕ) (files : List LiveFile) → AllByRecursion (λ (x : LiveFile). x.file.id ≢ id) files → IsNoneOf (map live_id files) id
unnamed_ids id [] all = tt
unnamed_ids id (x ∷ files) all = (all.0, unnamed_ids id files all.1)

none_named : (c : Catalog) (dropped : List ℕ) → AllByRecursion (IsUnnamed c) dropped → AreApart (map live_id (live_files c)) dropped
none_named c [] all = tt
none_named c (id ∷ dropped) all = (unnamed_ids id (live_files c) all.0, none_named c dropped all.1)

-- ---- a record that is written

module _ (s0 : Story) (live : Area) (bodies : List (List ℕ)) (end : ℕ) (c : Catalog) (rows : Rows) (r : Record) (body : List ℕ) (made : List (ℕ × Option (List ℕ))) (dropped : List ℕ) (writes : Writes s0 live bodies end c rows r body made dropped) where
  brings_new : are_new_ids c.run (map live_id (live_files c)) (map live_id (brought c r)) ≡ true
  unfolding fits
  brings_new = (both_true (kind_fits c r) (are_new_ids c.run (map live_id (live_files c)) (map live_id (brought c r))) writes.step.fitting).1

  pub brings : Brings s0 live bodies end (wants rows (live_files c)) (wants rows (brought c r)) (wants rows (live_files (applied c r))) dropped
  brings = record {
    stands = writes.held.stands;
    apart = subst (λ ids. AreApart ids (ids_of (wants rows (live_files c)))) (sym (wants_ids rows (brought c r)))
        (subst (AreApart (map live_id (brought c r))) (sym (wants_ids rows (live_files c))) (apart_turned (map live_id (live_files c)) (map live_id (brought c r)) (new_ids c.run (map live_id (live_files c)) (map live_id (brought c r)) brings_new)));
    there = λ i new old. writes.step.grows i old new;
    gone = subst (AreApart dropped) (sym (wants_ids rows (live_files (applied c r)))) (apart_turned (map live_id (live_files (applied c r))) dropped (none_named (applied c r) dropped writes.unnamed));
  }

  records_more : catalog live (bodies ++ body ∷ []) ≡ Some (applied c r)
  records_more = catalog_more live bodies body c r writes.held.records writes.step.reads writes.step.fitting

  pub either : (i : Image) → OldOrNew live bodies end (wants rows (live_files c)) body (wants rows (live_files (applied c r))) i → StandsForEither (kept_of rows c) (kept_of rows (applied c r)) i
  either i shows =
      ⊎_elim (λ old. inl (shows_stands live bodies end c rows i writes.held.records writes.held.sound_rows old))
      (λ new. inr (shows_stands live (bodies ++ body ∷ []) (end + length body + 5) (applied c r) rows i records_more writes.step.sound_rows new)) shows

  bytes_more : (xs : List (List ℕ)) → AllByRecursion AreBytes xs → AllByRecursion AreBytes (xs ++ body ∷ [])
  bytes_more [] all = (writes.step.bytes, tt)
  bytes_more (x ∷ xs) all = (all.0, bytes_more xs all.1)

  pub held_on : (now : Story) → Stands now live (bodies ++ body ∷ []) (end + length body + 5) (wants rows (live_files (applied c r))) → IsHeld now live (bodies ++ body ∷ []) (end + length body + 5) (applied c r) rows
  held_on now stands = record { bytes = bytes_more bodies writes.held.bytes; records = records_more; sound_rows = writes.step.sound_rows; stands = stands }

-- What was loaded behind a version, and the singletons that it stands for.
use denote.Bor.{Bor}
use Rattle.std.proofs.Common.{◌≡◌, ℕ, zero, suc, ◌+◌, ◌-◌, ◌≤◌, List, [], ◌∷◌, ◌++◌, map, take, drop, refl, sym, ◌∙◌, ap, arith, Bool, true, false, cond}
use Rattle.std.specs.Prelude.{is_some, nat_le, IfSome, Option, None, Some}
use Rattle.std.specs.List.{AllByRecursion}
use Rattle.std.proofs.lemmas.Bool.Decides.{nat_tests}
use Rattle.std.proofs.lemmas.List.{append_cancel_left, map-append, take-append-drop, take-take}
use Rattle.std.proofs.lemmas.List.Elements.{filter-append}
use Rattle.mesa_schema.proofs.mesa_columns.Lists.{all_drop}
use Rattle.mesa_store_spec.specs.Catalog.{Delta, TableMeta, start_in}
use Rattle.mesa_store_spec.specs.Fitting.{deltas_of}
use Rattle.mesa_catalog_table.specs.declared.table.Loaded.{Loaded}
use Rattle.mesa_catalog_table.specs.declared.table.Table.{Table}
use Rattle.mesa_catalog_table.specs.Meaning.{AreLoaded, IsTable, start_of_base, meta_of}
use Rattle.mesa_catalog_table.specs.Named.{through}
use Rattle.mesa_pick_files.specs.Lent.{lent_if_any, single_delta, with_rows}
use Rattle.mesa_pick_files.proofs.Among.{all_singles}
use Rattle.mesa_pick_files.proofs.Lending.{singles_taken, start_held}
use Rattle.mesa_check.specs.Faults.{merged_singles}
use Rattle.mesa_check.specs.Held.{delta_of, lent_delta}
use Rattle.mesa_check.specs.Parts.{parts_of}
use Rattle.mesa_check.specs.declared.testing.Test.{Test}

-- ---- what was loaded

-- the first of them are loaded
pub loaded_taken : (k start next : ℕ) (loaded : List Loaded) → AreLoaded start next loaded → AreLoaded start next (take k loaded)
loaded_taken zero start next [] are = tt
loaded_taken zero start next (l ∷ loaded) are = tt
loaded_taken (suc k) start next [] are = tt
loaded_taken (suc k) start next (l ∷ loaded) are = (are.0, are.1, loaded_taken k (l.version + 1) next loaded are.2)

-- up to a version, of those up to a later one
pub through_twice : (end to : ℕ) (loaded : List Loaded) → end ≤ to → through end (through to loaded) ≡ through end loaded
through_twice end to [] h = refl
through_twice end to (l ∷ loaded) h = by (nat_le l.version to) refl (through_twice end to loaded h)
  where
    by : (b : Bool) → nat_le l.version to ≡ b → through end (through to loaded) ≡ through end loaded → through end (cond (nat_le l.version to) (l ∷ through to loaded) (through to loaded)) ≡ cond (nat_le l.version end) (l ∷ through end loaded) (through end loaded)
    by true e rest = ap (λ c. through end (cond c (l ∷ through to loaded) (through to loaded))) e ∙ ap (λ ls. cond (nat_le l.version end) (l ∷ ls) ls) rest
    by false e rest =
        let out : nat_le l.version end ≡ false = grind (arith, nat_tests) in
        ap (λ c. through end (cond c (l ∷ through to loaded) (through to loaded))) e ∙ rest ∙ sym (ap (λ c. cond c (l ∷ through end loaded) (through end loaded)) out)

-- ---- singletons

-- those up to a version, and those since then up to another
pub singles_split : (u : TableMeta) (end to : ℕ) → end ≤ to → merged_singles u end ++ drop (end + 1 - start_in u) (merged_singles u to) ≡ merged_singles u to
singles_split u end to h =
    let n = end + 1 - start_in u in
    let less : end + 1 - start_in u ≤ to + 1 - start_in u = omega (arith, h) in
    ap (λ ds. ds ++ drop n (merged_singles u to)) (sym (take-take n (to + 1 - start_in u) u.singles less)) ∙ take-append-drop n (merged_singles u to)

-- those since then that have rows are of what was loaded since then
pub since_lent : (next end to : ℕ) (t : Table) (since : List Loaded) → IsTable next t → end ≤ to → through end t.loaded.items ++ since ≡ through to t.loaded.items
    → with_rows (map single_delta since) ≡ with_rows (drop (end + 1 - start_in (meta_of next t)) (merged_singles (meta_of next t) to))
since_lent next end to t since is h cut =
    let u = meta_of next t in
    let loaded = t.loaded.items in
    let has = λ (d : Delta). is_some d.files in
    let rest = drop (end + 1 - start_in u) (merged_singles u to) in
    let taken : (v : ℕ) → with_rows (merged_singles u v) ≡ with_rows (map single_delta (through v loaded)) = λ v. ap (λ n. with_rows (take (v + 1 - n) u.singles)) (start_held next t) ∙ singles_taken (start_of_base t.base) v next loaded is.loaded in
    append_cancel_left (with_rows (map single_delta (through end loaded))) (with_rows (map single_delta since)) (with_rows rest)
    (sym (filter-append has (map single_delta (through end loaded)) (map single_delta since))
    ∙ ap with_rows (sym (map-append single_delta (through end loaded) since) ∙ ap (map single_delta) cut)
    ∙ sym (taken to) ∙ ap with_rows (sym (singles_split u end to h))
    ∙ filter-append has (merged_singles u end) rest
    ∙ ap (λ ds. ds ++ with_rows rest) (taken end))

-- ---- behind a cumulative

pub lent_first : (o : Option (Bor Delta)) (xs ys : List Delta) → with_rows xs ≡ with_rows ys → with_rows (lent_if_any o ++ xs) ≡ with_rows (lent_delta o ∷ ys)
lent_first None xs ys e = e
lent_first (Some d) xs ys e = ap (λ ds. cond (is_some d.now.files) (d.now ∷ ds) ds) e

-- what makes up a range has the epochs of a table
pub parts_epochs : (u : TableMeta) (o : Option Test) (to epoch : ℕ) → AllByRecursion (λ (d : Delta). d.epoch ≤ epoch) (deltas_of u) → IfSome o (λ b. (delta_of b.range).epoch ≤ epoch) → AllByRecursion (λ (d : Delta). d.epoch ≤ epoch) (parts_of u o to)
parts_epochs u None to epoch all before = all_singles (λ (d : Delta). d.epoch ≤ epoch) u all to
parts_epochs u (Some b) to epoch all before = (before, all_drop (λ (d : Delta). d.epoch ≤ epoch) (b.range.to + 1 - start_in u) (merged_singles u to) (all_singles (λ (d : Delta). d.epoch ≤ epoch) u all to))

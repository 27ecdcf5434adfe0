-- Which files are named after a record that fits.
use Rattle.std.proofs.Common.{◌≡◌, ◌⊎◌, inl, inr, ⊎_elim, ℕ, zero, suc, ◌+◌, ◌-◌, ◌<◌, List, [], ◌∷◌, ◌++◌, map, take, flat_map, Option, Some, None, Bool, true, false, cond, ◌==◌, refl, sym, ◌∙◌, ap, subst, arith, slice_index_or}
use Rattle.std.proofs.lemmas.Bool.{cases_lt}
use Rattle.std.proofs.lemmas.List.{map-append}
use Rattle.std.proofs.lemmas.List.Sums.{sum_by-append}
use Rattle.std.proofs.lemmas.Simd.{map-map}
use Rattle.mesa_catalog.specs.mesa_schema.Changes.{Lineage}
use Rattle.mesa_commit.specs.Turn.{made_ids}
use Rattle.mesa_record.specs.declared.record.Files.{Files}
use Rattle.mesa_record.specs.declared.record.Record.{Record}
use Rattle.mesa_record.specs.declared.record.Record.TheVariants as record_of
use Rattle.mesa_record.specs.Rules.{keeps_rules}
use Rattle.mesa_invariant_spec.proofs.mesa_history_spec.Places.{same_is}
use Rattle.mesa_catalog.specs.mesa_store_spec.Catalog.{Catalog, Delta, TableMeta, applied, no_meta, start_in, meta_at}
use Rattle.mesa_catalog.specs.mesa_store_spec.Fitting.{base_deltas, delta_in, delta_live, deltas_of, files_live, fits, live_id, meta_live, view_live}
use Rattle.mesa_catalog.specs.mesa_store_spec.Ids.{HasOwnIds, brought_ids, delta_ids, dropped_deltas, dropped_ids, file_ids, named, own_delta_id, own_id, recast_dropped, times}
use Rattle.mesa_catalog.proofs.mesa_store_spec.Ids.{brought_own, counted}
use Rattle.mesa_catalog.proofs.mesa_store_spec.Lists.{is_equal}
use Rattle.mesa_catalog.proofs.mesa_store_spec.Moving.{kind_of}
use Rattle.mesa_commit.specs.Filed.{Renames}
use Rattle.mesa_commit.specs.Holding.{Among}
use Rattle.mesa_engine.proofs.Lists.{among_left, among_right, among_split}

-- ---- ids in lists

times_next : (id n : ℕ) (ids : List ℕ) → times id (n ∷ ids) ≡ cond (id == n) 1 0 + times id ids
times_next id n ids = let all : times id ((n ∷ []) ++ ids) ≡ times id (n ∷ []) + times id ids = sum_by-append (λ x. cond (id == x) 1 0) (n ∷ []) ids in omega (arith, all)

counted_among : (id : ℕ) (ids : List ℕ) → 0 < times id ids → Among id ids
counted_among id [] lt = absurd (omega (arith, lt))
counted_among id (n ∷ ids) lt = by (id == n) refl (λ more. counted_among id ids more)
  where
    by : (b : Bool) → (id == n) ≡ b → (0 < times id ids → Among id ids) → Among id (n ∷ ids)
    by true is rest = inl (sym (is_equal id n is))
    by false is rest = inr (rest (let next : times id (n ∷ ids) ≡ 0 + times id ids = times_next id n ids ∙ ap (λ b. cond b 1 0 + times id ids) is in omega (arith, next, lt)))

among_counted : (id : ℕ) (ids : List ℕ) → Among id ids → 0 < times id ids
among_counted id [] is = absurd is
among_counted id (n ∷ ids) (inl same) =
    let one : times id (n ∷ ids) ≡ 1 + times id ids = times_next id n ids ∙ ap (λ b. cond b 1 0 + times id ids) (subst (λ m. (id == m) ≡ true) (sym same) (same_is id)) in omega (arith, one)
among_counted id (n ∷ ids) (inr more) = let rest = among_counted id ids more in let next = times_next id n ids in omega (arith, rest, next)

-- ---- ids of deltas

module _ (id : ℕ) where
  abbrev In : List Delta → Type 0
  In ds = Among id (flat_map delta_ids ds)

  in_left : (xs ys : List Delta) → In xs → In (xs ++ ys)
  in_left [] ys is = absurd is
  in_left (x ∷ xs) ys is = ⊎_elim (λ one. among_left id (delta_ids x) _ one) (λ more. among_right id (delta_ids x) _ (in_left xs ys more)) (among_split id (delta_ids x) (flat_map delta_ids xs) is)

  in_right : (xs ys : List Delta) → In ys → In (xs ++ ys)
  in_right [] ys is = is
  in_right (x ∷ xs) ys is = among_right id (delta_ids x) _ (in_right xs ys is)

  in_either : (xs ys : List Delta) → In (xs ++ ys) → In xs ⊎ In ys
  in_either [] ys is = inr is
  in_either (x ∷ xs) ys is = ⊎_elim (λ one. inl (among_left id (delta_ids x) _ one)) (λ more. ⊎_elim (λ a. inl (among_right id (delta_ids x) _ a)) (λ b. inr b) (in_either xs ys more)) (among_split id (delta_ids x) (flat_map delta_ids (xs ++ ys)) is)

  in_front : (n : ℕ) (ds : List Delta) → In (take n ds) → In ds
  in_front zero [] is = is
  in_front zero (d ∷ ds) is = absurd is
  in_front (suc n) [] is = is
  in_front (suc n) (d ∷ ds) is = ⊎_elim (λ one. among_left id (delta_ids d) _ one) (λ more. among_right id (delta_ids d) _ (in_front n ds more)) (among_split id (delta_ids d) (flat_map delta_ids (take n ds)) is)

  -- the deltas whose place a new base takes are the table's
  dropped_there : (t : TableMeta) (to : ℕ) → In (dropped_deltas t to) → In (deltas_of t)
  dropped_there t to is =
      let base = base_deltas t.base in
      let cumulatives = map delta_in t.cumulatives in
      ⊎_elim (λ one. in_left base (cumulatives ++ t.singles) one)
      (λ rest. in_right base (cumulatives ++ t.singles)
      (⊎_elim (λ two. in_left cumulatives t.singles two) (λ three. in_right cumulatives t.singles (in_front (to + 1 - start_in t) t.singles three)) (in_either cumulatives (take (to + 1 - start_in t) t.singles) rest)))
      (in_either base (cumulatives ++ take (to + 1 - start_in t) t.singles) is)

  own_there : (ds : List Delta) → Among id (flat_map own_delta_id ds) → In ds
  own_there [] is = absurd is
  own_there (d ∷ ds) is = ⊎_elim (λ one. among_left id (delta_ids d) _ (by d.files one)) (λ more. among_right id (delta_ids d) _ (own_there ds more)) (among_split id (own_delta_id d) (flat_map own_delta_id ds) is)
    where
      by : (files : Option Files) → Among id (own_id files) → Among id (file_ids files)
      by None is = absurd is
      by (Some f) (inl same) = inl same
      by (Some f) (inr never) = absurd never

  -- and so are those whose files go with a recast
  recast_there : (t : TableMeta) → Among id (recast_dropped t) → In (deltas_of t)
  recast_there t is =
      let base = base_deltas t.base in
      let cumulatives = map delta_in t.cumulatives in
      ⊎_elim (λ own. ⊎_elim (λ one. in_left base (cumulatives ++ t.singles) one) (λ three. in_right base (cumulatives ++ t.singles) (in_right cumulatives t.singles three)) (in_either base t.singles (own_there (base ++ t.singles) own)))
      (λ two. in_right base (cumulatives ++ t.singles) (in_left cumulatives t.singles two))
      (among_split id (flat_map own_delta_id (base ++ t.singles)) (flat_map delta_ids cumulatives) is)

-- ---- ids of tables

ids_of_files : (l : Lineage) (epoch : ℕ) (files : Option Files) → map live_id (files_live l epoch files) ≡ file_ids files
ids_of_files l epoch None = refl
ids_of_files l epoch (Some f) = ap (λ ids. f.file.id ∷ ids) (map-map live_id (view_live l) f.views)

ids_of_deltas : (l : Lineage) (ds : List Delta) → map live_id (flat_map (delta_live l) ds) ≡ flat_map delta_ids ds
ids_of_deltas l [] = refl
ids_of_deltas l (d ∷ ds) = map-append live_id (delta_live l d) (flat_map (delta_live l) ds) ∙ (λ i. ids_of_files l d.epoch d.files i ++ ids_of_deltas l ds i)

table_named : (id : ℕ) (tables : List TableMeta) (n : ℕ) → Among id (flat_map delta_ids (deltas_of (slice_index_or tables n no_meta))) → Among id (map live_id (flat_map meta_live tables))
table_named id [] n is = absurd is
table_named id (t ∷ tables) zero is =
    subst (Among id) (sym (map-append live_id (meta_live t) (flat_map meta_live tables))) (among_left id (map live_id (meta_live t)) _ (subst (Among id) (sym (ids_of_deltas t.lineage (deltas_of t))) is))
table_named id (t ∷ tables) (suc n) is =
    subst (Among id) (sym (map-append live_id (meta_live t) (flat_map meta_live tables))) (among_right id (map live_id (meta_live t)) _ (table_named id tables n is))

-- what a record lets go was named
dropped_named : (id : ℕ) (c : Catalog) (r : Record) → Among id (dropped_ids c r) → Among id (named c)
dropped_named id c (record_of.Run number) is = absurd is
dropped_named id c (record_of.Table name keys values) is = absurd is
dropped_named id c (record_of.View table name keys values) is = absurd is
dropped_named id c (record_of.Alter table change) is = absurd is
dropped_named id c (record_of.Publish version parts) is = absurd is
dropped_named id c (record_of.Swap table true from to epoch files) is = table_named id c.tables table (dropped_there id (meta_at c table) to is)
dropped_named id c (record_of.Swap table false from to epoch files) is = absurd is
dropped_named id c (record_of.Expire version) is = absurd is
dropped_named id c (record_of.ExpireTable table version) is = absurd is
dropped_named id c (record_of.Checkpoint k) is = absurd is
dropped_named id c (record_of.Recast k) is = table_named id c.tables k.table (recast_there id (meta_at c k.table) is)

-- ---- a record

module _ (c : Catalog) (r : Record) (rules : keeps_rules r ≡ true) (fit : fits c r ≡ true) (own : HasOwnIds c) where
  all : (id : ℕ) → times id (named (applied c r)) + times id (dropped_ids c r) ≡ times id (named c) + times id (brought_ids c r)
  all id = counted id c r rules (kind_of c r fit)

  -- what was named isn't brought, and what is let go was named once
  not_brought : (id : ℕ) → 0 < times id (named c) → times id (brought_ids c r) ≡ 0
  not_brought id was = ⊎_elim (λ some. absurd (let new = (brought_own id c r fit some).new in omega (arith, new, was))) (λ none. (let zero : times id (brought_ids c r) ≡ 0 = omega (arith, none) in zero)) (cases_lt 0 (times id (brought_ids c r)))

  dropped_was : (id : ℕ) → 0 < times id (dropped_ids c r) → 0 < times id (named c)
  dropped_was id some = among_counted id (named c) (dropped_named id c r (counted_among id (dropped_ids c r) some))

  -- A record renames: it names what it brings, and no more what it lets go.
  pub record_renames : (made : List (ℕ × Option (List ℕ))) → made_ids made ≡ brought_ids c r → Renames (named c) made (named (applied c r)) (dropped_ids c r)
  record_renames made same = record {
    fewer = λ id is. (let some = among_counted id (named (applied c r)) is in
        ⊎_elim (λ was. among_left id (named c) (made_ids made) (counted_among id (named c) was))
        (λ none. among_right id (named c) (made_ids made) (subst (Among id) (sym same) (counted_among id (brought_ids c r) (omega (arith, all id, some, none))))) (cases_lt 0 (times id (named c))));
    were = λ id is. dropped_named id c r is;
    split = λ id is. (let some : 0 < times id (named c) + times id (brought_ids c r) = ⊎_elim (λ a. (let one = among_counted id (named c) a in let lt : 0 < times id (named c) + times id (brought_ids c r) = omega (arith, one) in lt))
        (λ b. (let one = among_counted id (brought_ids c r) (subst (Among id) same b) in let lt : 0 < times id (named c) + times id (brought_ids c r) = omega (arith, one) in lt)) (among_split id (named c) (made_ids made) is) in
        ⊎_elim (λ now. inl (counted_among id (named (applied c r)) now)) (λ none. inr (counted_among id (dropped_ids c r) (omega (arith, all id, some, none)))) (cases_lt 0 (times id (named (applied c r)))));
    apart = λ id gone is. (let out = among_counted id (dropped_ids c r) gone in let now = among_counted id (named (applied c r)) is in let was = dropped_was id out in let once = own.once id in let none = not_brought id was in omega (arith, all id, out, now, once, none));
  }

  pub record_brings : (made : List (ℕ × Option (List ℕ))) → made_ids made ≡ brought_ids c r → (id : ℕ) → Among id (made_ids made) → Among id (named (applied c r))
  record_brings made same id is =
      let some = among_counted id (brought_ids c r) (subst (Among id) same is) in
      let new = (brought_own id c r fit some).new in
      let none : times id (dropped_ids c r) ≡ 0 = ⊎_elim (λ out. absurd (let was = dropped_was id out in omega (arith, was, new))) (λ le. (let zero : times id (dropped_ids c r) ≡ 0 = omega (arith, le) in zero)) (cases_lt 0 (times id (dropped_ids c r))) in
      counted_among id (named (applied c r)) (omega (arith, all id, some, none))

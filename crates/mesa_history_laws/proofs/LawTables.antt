-- A table or a view more, a change, a recast and an expiry keep the fold law.
use Rattle.std.proofs.Common.{◌≡◌, ℕ, zero, suc, ◌+◌, ◌-◌, ◌≤◌, ◌==◌, List, [], ◌∷◌, ◌++◌, map, length, filter, set, refl, sym, ◌∙◌, ap, subst, arith, cond, Bool, true, false, slice_get, slice_index_or, Some, nat_le, inl, inr}
use Rattle.std.specs.List.{AllByRecursion}
use Rattle.std.specs.Prelude.{max}
use Rattle.std.proofs.lemmas.Bool.{cases_lt, eqb-false, eqb-true}
use Rattle.std.proofs.lemmas.List.{get_or-drop, get_or-replicate, length-append, length-drop, length-map, length-replicate, length-set}
use Rattle.std.proofs.lemmas.Option.{slice_get_within}
use Rattle.mesa_history_spec.specs.mesa_value.declared.Agg.{Agg}
use Rattle.mesa_history_spec.specs.mesa_columns.declared.rows.Row.{Row}
use Rattle.mesa_history_spec.specs.mesa_columns.declared.changes.Change.{Change}
use Rattle.mesa_history_spec.specs.mesa_columns.Columns.{Columns, aggs_of}
use Rattle.mesa_history_spec.specs.mesa_schema.Changes.{Lineage, columns_of}
use Rattle.mesa_history_spec.specs.mesa_fold.Folded.{folded, folded_at, keys_of, rows_of}
use Rattle.mesa_history_spec.specs.mesa_schema.Lineages.{HasDefault}
use Rattle.mesa_history_spec.specs.mesa_schema.Recasts.{IsRecastOf, Recast, recast_rows}
use Rattle.mesa_history_spec.specs.mesa_model.declared.commands.ViewWords.{ViewWords}
use Rattle.mesa_history_spec.specs.mesa_model.Warehouse.{Store, Table, Warehouse, table_at}
use Rattle.mesa_history_spec.specs.mesa_model.Tables.{new_table, table_changed, table_recast, with_recast}
use Rattle.mesa_history_spec.specs.mesa_model.Versions.{store_from, table_from}
use Rattle.mesa_history_spec.specs.Law.{Regroups, carried_content, carried_through, written_through}
use Rattle.mesa_history_spec.specs.Sources.{Source, Written, rows_now, source_recast, source_written, sources_to, written_recast}
use Rattle.mesa_history_laws.proofs.Kept.{IsAt, IsSince, Law, LawAt, all_written, law_early, law_late, no_source}
use Rattle.mesa_history_laws.proofs.LawAlters.{changed_law, recast_law}
use Rattle.mesa_history_spec.proofs.mesa_columns.Lists.{all_filter, all_map, all_so, got_map, got_push, got_set}
use Rattle.mesa_history_laws.proofs.Moves.{viewed}

-- ---- a table more

-- parts without rows fold to none
no_rows : (parts : List (List Row)) → AllByRecursion (λ part. part ≡ []) parts → rows_of parts ≡ []
no_rows [] all = refl
no_rows (part ∷ parts) all = λ i. all.0 i ++ no_rows parts all.1 i

none_folded : (aggs : List Agg) (parts : List (List Row)) → AllByRecursion (λ part. part ≡ []) parts → folded aggs parts ≡ []
none_folded aggs parts all = ap (λ (rows : List Row). map (folded_at aggs rows) (keys_of rows)) (no_rows parts all)

module _ (start : Warehouse) (early : ℕ → ℕ → Source) (later : ℕ → List Written) (w : Warehouse) (law : Law start early later w.store w.next) (name : List ℕ) (columns : Columns) where
  abbrev made : Table
  made = new_table w name columns

  abbrev number : ℕ
  number = length w.store.tables

  -- nothing is written of it yet
  none : ((version : ℕ) → early (length w.store.tables) version ≡ no_source) × AllByRecursion (λ (x : Written). x.source ≡ no_source) (later (length w.store.tables))
  none = law.others (length w.store.tables) (omega arith)

  nothing_at : (s : Source) → s ≡ no_source → IsAt (new_table w name columns).lineage s
  nothing_at s is = subst (IsAt (new_table w name columns).lineage) (sym is) (record { epoch = omega arith; form = tt })

  abbrev whole : List Written
  whole = all_written start (early (length w.store.tables)) (later (length w.store.tables))

  all_none : AllByRecursion (λ (x : Written). x.source ≡ no_source) (all_written start (early (length w.store.tables)) (later (length w.store.tables)))
  all_none = (none.0 (start.next - 1), none.1)

  empty_law : (version : ℕ) → carried_content start (new_table w name columns) (early (length w.store.tables)) (all_written start (early (length w.store.tables)) (later (length w.store.tables))) version ≡ []
  empty_law version = elim (cases_lt version start.next) [
    | inl soon ↦ law_early start made (early number) whole version soon ∙ ap (rows_now made.lineage) (none.0 version)
    | inr late ↦ law_late start made (early number) whole version late
        ∙ none_folded (aggs_of columns) (map (rows_now made.lineage) (sources_to version whole))
        (all_map (λ part. part ≡ []) (rows_now made.lineage) (sources_to version whole)
        (all_map (λ (s : Source). rows_now made.lineage s ≡ []) source_written (filter (λ (x : Written). nat_le x.version version) whole)
        (all_so (λ (x : Written). x.source ≡ no_source) (λ (x : Written). rows_now made.lineage x.source ≡ []) (filter (λ (x : Written). nat_le x.version version) whole) (λ x is. ap (rows_now made.lineage) is)
        (all_filter (λ (x : Written). x.source ≡ no_source) (λ (x : Written). nat_le x.version version) whole all_none))))
  ]

  new_law : LawAt start (early (length w.store.tables)) (later (length w.store.tables)) w.next (new_table w name columns)
  new_law = record {
    versions = length-replicate (w.next - w.store.floor) [];
    early_at = λ version. nothing_at (early number version) (none.0 version);
    later_at = all_so (λ (x : Written). x.source ≡ no_source) (λ (x : Written). IsAt made.lineage x.source) (later number) (λ x is. nothing_at x.source is) none.1;
    contents = λ version le lt. get_or-replicate (w.next - w.store.floor) (version - w.store.floor) [] [] (omega (arith, le, lt)) ∙ sym (empty_law version);
  }

  -- A table more keeps the law.
  pub law_makes : Law start early later (record w.store { tables = w.store.tables ++ made ∷ [] }) w.next
  law_makes = record {
    tables = λ place t' got. elim (got_push w.store.tables made place t' got) [
      | inl at ↦ law.tables place t' at
      | inr last ↦ subst (λ n. LawAt start (early n) (later n) w.next t') (sym last.0) (subst (LawAt start (early number) (later number) w.next) last.1 new_law)
    ];
    more = (let before = law.more in omega (arith, before, length-append w.store.tables (made ∷ [])));
    grows = law.grows;
    since = law.since;
    nothing = law.nothing;
    others = λ place le. law.others place (omega (arith, le, length-append w.store.tables (made ∷ [])));
  }

-- ---- one table in the place of another

module _ (start : Warehouse) (early : ℕ → ℕ → Source) (later : ℕ → List Written) (s : Store) (next : ℕ) (law : Law start early later s next) where
  -- of which the law holds too
  pub law_set : (number : ℕ) (t' : Table) → LawAt start (early number) (later number) next t' → Law start early later (record s { tables = set s.tables number t' }) next
  law_set number t' its = record {
    tables = λ place t got. elim (got_set s.tables number t' place t got) [
      | inl at ↦ law.tables place t at
      | inr here ↦ subst (λ n. LawAt start (early n) (later n) next t) (sym here.0) (subst (LawAt start (early number) (later number) next) here.1 its)
    ];
    more = (let before = law.more in omega (arith, before, length-set s.tables number t'));
    grows = law.grows;
    since = law.since;
    nothing = law.nothing;
    others = λ place le. law.others place (omega (arith, le, length-set s.tables number t'));
  }

  viewed_law : (number : ℕ) (t : Table) (words : ViewWords) → LawAt start (early number) (later number) next t → LawAt start (early number) (later number) next (viewed t words)
  viewed_law number t words its = record {
    versions = its.versions;
    early_at = λ version. record { epoch = (its.early_at version).epoch; form = (its.early_at version).form };
    later_at = all_so (λ (x : Written). IsAt t.lineage x.source) (λ (x : Written). IsAt (viewed t words).lineage x.source) (later number) (λ x at. record { epoch = at.epoch; form = at.form }) its.later_at;
    contents = its.contents;
  }

  -- A view more keeps the law.
  pub law_views : (number : ℕ) (t : Table) (words : ViewWords) → slice_get s.tables number ≡ Some t → Law start early later (record s { tables = set s.tables number (viewed t words) }) next
  law_views number t words at = law_set number (viewed t words) (viewed_law number t words (law.tables number t at))

  -- A change of a table's schema keeps the law.
  pub law_alters : (number : ℕ) (t : Table) (c : Change) → slice_get s.tables number ≡ Some t → HasDefault c → Law start early later (record s { tables = set s.tables number (table_changed t c) }) next
  law_alters number t c at default = law_set number (table_changed t c) (changed_law start t c default (early number) (later number) next (law.tables number t at))

  -- ---- an expiry

  expired_law : (number version : ℕ) (t : Table) → LawAt start (early number) (later number) next t → LawAt start (early number) (later number) next (table_from version t)
  expired_law number version t its = record {
    versions = (let count = its.versions in omega (arith, count, length-drop (version - t.oldest) t.contents));
    early_at = λ v. record { epoch = (its.early_at v).epoch; form = (its.early_at v).form };
    later_at = all_so (λ (x : Written). IsAt t.lineage x.source) (λ (x : Written). IsAt (table_from version t).lineage x.source) (later number) (λ x at. record { epoch = at.epoch; form = at.form }) its.later_at;
    contents = λ v above lt.
        let place : version - t.oldest + (v - max t.oldest version) ≡ v - t.oldest = omega (arith, above) in
        get_or-drop (version - t.oldest) t.contents (v - max t.oldest version) [] ∙ ap (λ i. slice_index_or t.contents i []) place ∙ its.contents v (omega (arith, above)) lt;
  }

  -- An expiry of all tables keeps the law.
  pub law_expires : (version : ℕ) → Law start early later (store_from s version) next
  law_expires version = record {
    tables = λ number t' got.
        let from = got_map (table_from version) s.tables number t' got in
        subst (LawAt start (early number) (later number) next) from.2 (expired_law number version from.0 (law.tables number from.0 from.1));
    more = (let before = law.more in omega (arith, before, length-map s.tables (table_from version)));
    grows = law.grows;
    since = law.since;
    nothing = law.nothing;
    others = λ number le. law.others number (omega (arith, le, length-map s.tables (table_from version)));
  }

  -- An expiry of one table keeps the law.
  pub law_expires_one : (number version : ℕ) (t : Table) → slice_get s.tables number ≡ Some t → Law start early later (record s { tables = set s.tables number (table_from version t) }) next
  law_expires_one number version t at = law_set number (table_from version t) (expired_law number version t (law.tables number t at))

-- ---- a recast

-- what is set at a place is there
set_here : (x y z : Table) (tables : List Table) (n : ℕ) → slice_get tables n ≡ Some z → slice_get (set tables n y) n ≡ Some x → y ≡ x
set_here x y z [] n at got = cc
set_here x y z (u ∷ tables) zero at got = cc
set_here x y z (u ∷ tables) (suc n) at got = set_here x y z tables n at got

module _ (start : Warehouse) (early : ℕ → ℕ → Source) (later : ℕ → List Written) (w : Warehouse) (law : Law start early later w.store w.next)
    (number : ℕ) (r : Recast) (at : slice_get w.store.tables number ≡ Some (table_at w.store number)) (is : IsRecastOf (columns_of (table_at w.store number).lineage) r) where
  abbrev t' : Table
  t' = table_recast (table_at w.store number) r

  abbrev lineage_at : ℕ → Lineage
  lineage_at place = (table_at w.store place).lineage

  -- what the table of a place is carried to, where it is the one that is recast or another
  abbrev carried_if : Bool → ℕ → ℕ → Source
  carried_if b place version = cond b (source_recast (lineage_at place) r (early place version)) (early place version)

  abbrev written_if : Bool → ℕ → List Written
  written_if b place = cond b (map (written_recast (lineage_at place) r) (later place)) (later place)

  at_place : (b : Bool) (place : ℕ) (x : Table) → (number == place) ≡ b → slice_get (set w.store.tables number t') place ≡ Some x → LawAt start (carried_if b place) (written_if b place) w.next x
  at_place true place x e got =
      let same : number ≡ place = eqb-true number place e in
      let is_it : t' ≡ x = set_here x t' (table_at w.store number) w.store.tables number at (ap (slice_get (set w.store.tables number t')) same ∙ got) in
      subst (λ n. LawAt start (carried_if true n) (written_if true n) w.next x) same
      (subst (LawAt start (carried_if true number) (written_if true number) w.next) is_it
      (recast_law start (table_at w.store number) r is (early number) (later number) w.next (law.tables number (table_at w.store number) at)))
  at_place false place x e got = elim (got_set w.store.tables number t' place x got) [
    | inl there ↦ law.tables place x there
    | inr last ↦ absurd (eqb-false number place e (sym last.0))
  ]

  since_place : (b : Bool) (place : ℕ) → AllByRecursion (IsSince start.next w.next) (written_if b place)
  since_place true place = all_map (IsSince start.next w.next) (written_recast (lineage_at place) r) (later place) (law.since place)
  since_place false place = law.since place

  nothing_place : (b : Bool) (place version : ℕ) → (early place version).rows ≡ [] → (carried_if b place version).rows ≡ []
  nothing_place true place version none = ap (λ rows. recast_rows (columns_of (lineage_at place)) r (rows_now (lineage_at place) (record { epoch = (early place version).epoch; rows = rows }))) none
  nothing_place false place version none = none

  others_place : (b : Bool) (place : ℕ) → (number == place) ≡ b → length w.store.tables ≤ place → ((version : ℕ) → carried_if b place version ≡ no_source) × AllByRecursion (λ (x : Written). x.source ≡ no_source) (written_if b place)
  others_place true place e le = absurd (let same = eqb-true number place e in let lt = slice_get_within w.store.tables number (table_at w.store number) at in omega (arith, same, lt, le))
  others_place false place e le = law.others place le

  -- A recast of a table keeps the law, with what is carried.
  pub law_recasts : Law start (λ place version. carried_through w.store (Regroups number r) place (early place version)) (λ place. written_through w.store (Regroups number r) place (later place)) (with_recast w number r).store w.next
  law_recasts = record {
    tables = λ place x got. at_place (number == place) place x refl got;
    more = (let before = law.more in omega (arith, before, length-set w.store.tables number t'));
    grows = law.grows;
    since = λ place. since_place (number == place) place;
    nothing = λ none place version. nothing_place (number == place) place version (law.nothing none place version);
    others = λ place le. others_place (number == place) place refl (omega (arith, le, length-set w.store.tables number t'));
  }

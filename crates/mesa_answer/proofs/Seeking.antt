-- The first group at a key or behind it has that key where a row of its group was put in.
use Rattle.std.proofs.Common.{◌≡◌, ◌↔◌, ℕ, zero, suc, ◌≤◌, List, [], ◌∷◌, ◌++◌, length, take, append_assoc, append-nil, true, false, Bool, cond, inl, inr, refl, sym, ◌∙◌, ap, subst, arith, Some, None}
use Rattle.std.specs.Prelude.{ℤ, ◌⊎◌, IsTrue, is_some, slice_get}
use Rattle.std.specs.Ordering.{is_eq, is_le}
use Rattle.std.specs.FinMap.Entries.{by_order}
use Rattle.std.specs.declared.cmp.Ordering.TheVariants.{Less, Equal, Greater}
use Rattle.mesa_value.specs.declared.Agg.{Agg}
use Rattle.mesa_key.specs.Order.{byte_cmp}
use Rattle.mesa_model.specs.mesa_columns.declared.rows.Row.{Row}
use Rattle.mesa_batch.proofs.Place.{flipped}
use Rattle.mesa_model.specs.mesa_columns.Columns.{Columns}
use Rattle.mesa_model.specs.mesa_fold.Folded.{grouped, regrouped, row_combined}
use Rattle.mesa_model.specs.mesa_fold.Put.{put_row}
use Rattle.mesa_answer.specs.Gathering.{first_groups, group_from, rows_behind}
use Rattle.mesa_answer.specs.Held.{value_at}
use Rattle.mesa_answer.specs.Sums.{HasGroup, group_key}
use Rattle.mesa_answer.proofs.Entries.{same_key, self_equal}
use Rattle.mesa_answer.proofs.Steps.{first_groups-before, first_groups-behind}

-- the first of the rows has this key
Leads : List ℕ → List Row → Type 0
Leads key [] = ⊥
Leads key (row ∷ rows) = row.key ≡ key

-- no row comes before it
AreFrom : List ℕ → List Row → Type 0
AreFrom key [] = Unit {0}
AreFrom key (row ∷ rows) = is_le (byte_cmp key row.key) ≡ true

-- of an only row the key is looked up just where it leads
leads : (key : List ℕ) (rows : List Row) → length rows ≤ 1 → IsTrue (is_some (value_at key rows)) ↔ Leads key rows
unfolding Leads
leads key [] few = (λ h. absurd (cc h), λ h. absurd h)
leads key (x ∷ y ∷ rows) few = absurd (omega (arith, few))
leads key (x ∷ []) few =
    let there : x.key ≡ key → byte_cmp key x.key ≡ Equal = λ is. subst (λ k. byte_cmp key k ≡ Equal) (sym is) (self_equal key) in
    elim (byte_cmp key x.key) as (λ o. byte_cmp key x.key ≡ o → IsTrue (is_some (cond (is_eq o) (Some x.values) None)) ↔ (x.key ≡ key)) [
      | Less ↦ λ o. (λ h. absurd (cc h), λ is. absurd (let other = there is in cc))
      | Equal ↦ λ o. (λ h. sym (same_key key x.key o), λ is. refl)
      | Greater ↦ λ o. (λ h. absurd (cc h), λ is. absurd (let other = there is in cc))
    ] refl

-- a key that doesn't come before another isn't behind it
not_before : (key other : List ℕ) → is_le (byte_cmp key other) ≡ true → byte_cmp other key ≡ Less → ⊥
not_before key other le less = let above = flipped key other Less less in cc

-- the first of rows and one more
put_leads : (key : List ℕ) (aggs : List Agg) (row : Row) (rows : List Row) → is_le (byte_cmp key row.key) ≡ true → AreFrom key rows
    → AreFrom key (take 1 (put_row aggs row rows)) × (Leads key (take 1 (put_row aggs row rows)) ↔ ((row.key ≡ key) ⊎ Leads key rows))
unfolding Leads AreFrom
put_leads key aggs row [] own all = (own, (λ is. inl is, λ h. elim h [ inl is ↦ is | inr none ↦ absurd none ]))
put_leads key aggs row (x ∷ xs) own all =
    let both : Row = record x { values = row_combined aggs x.values row.values } in
    elim (byte_cmp row.key x.key) as (λ o. byte_cmp row.key x.key ≡ o
    → AreFrom key (take 1 (by_order o (row ∷ x ∷ xs) (both ∷ xs) (x ∷ put_row aggs row xs))) × (Leads key (take 1 (by_order o (row ∷ x ∷ xs) (both ∷ xs) (x ∷ put_row aggs row xs))) ↔ ((row.key ≡ key) ⊎ (x.key ≡ key)))) [
      | Less ↦ λ o. (own, (λ is. inl is, λ h. elim h [ inl is ↦ is | inr is ↦ absurd (not_before key row.key own (subst (λ k. byte_cmp row.key k ≡ Less) is o)) ]))
      | Equal ↦ λ o. (all, (λ is. inr is, λ h. elim h [ inl is ↦ sym (same_key row.key x.key o) ∙ is | inr is ↦ is ]))
      | Greater ↦ λ o. (all, (λ is. inr is, λ h. elim h [ inl is ↦ absurd (not_before key x.key all (flipped x.key key Greater (subst (λ k. byte_cmp k x.key ≡ Greater) is o))) | inr is ↦ is ]))
    ] refl

-- a row before the key isn't of its group
other_group : (key other : List ℕ) → is_le (byte_cmp key other) ≡ false → other ≡ key → ⊥
other_group key other less is = let same = subst (λ k. byte_cmp key k ≡ Equal) (sym is) (self_equal key) in cc

-- one more of the rows
group_more : (s : Columns) (columns key : List ℕ) (rows : List Row) (row : Row) → HasGroup s columns key (rows ++ row ∷ []) ↔ ((group_key s columns row.key ≡ key) ⊎ HasGroup s columns key rows)
group_more s columns key [] row = (λ h. elim h [ inl is ↦ inl is | inr none ↦ absurd none ], λ h. elim h [ inl is ↦ inl is | inr none ↦ absurd none ])
group_more s columns key (x ∷ xs) row =
    let rest = group_more s columns key xs row in (
      λ h. elim h [ inl is ↦ inr (inl is) | inr more ↦ elim (rest.0 more) [ inl is ↦ inl is | inr among ↦ inr (inr among) ] ],
      λ h. elim h [ inl is ↦ inr (rest.1 (inl is)) | inr more ↦ elim more [ inl is ↦ inl is | inr among ↦ inr (rest.1 (inr among)) ] ],
    )

record Seeks (s : Columns) (columns key : List ℕ) (rows : List Row) : Type 0 where
  from : AreFrom key (first_groups (group_from s columns key) rows)
  found : Leads key (first_groups (group_from s columns key) rows) ↔ HasGroup s columns key rows

seeks_more : (s : Columns) (columns key : List ℕ) (rows : List Row) (row : Row) → Seeks s columns key rows → Seeks s columns key (rows ++ row ∷ [])
seeks_more s columns key rows row seeks =
    let w = group_from s columns key in
    let under : Row = regrouped s columns [] row in
    let more = group_more s columns key rows row in
    let passed : (b : Bool) → is_le (byte_cmp key under.key) ≡ b → Seeks s columns key (rows ++ row ∷ []) = λ b. elim b as (λ b. is_le (byte_cmp key under.key) ≡ b → Seeks s columns key (rows ++ row ∷ [])) [
      | true ↦ λ e.
          let put = put_leads key [] under (first_groups w rows) e seeks.from in
          let step = first_groups-behind w rows row e in
          record {
            from = subst (AreFrom key) (sym step) put.0;
            found = (
              λ h. more.1 (elim (put.1.0 (subst (Leads key) step h)) [ inl is ↦ inl is | inr led ↦ inr (seeks.found.0 led) ]),
              λ h. subst (Leads key) (sym step) (put.1.1 (elim (more.0 h) [ inl is ↦ inl is | inr among ↦ inr (seeks.found.1 among) ])),
            );
          }
      | false ↦ λ e.
          let step = first_groups-before w rows row e in
          record {
            from = subst (AreFrom key) (sym step) seeks.from;
            found = (
              λ h. more.1 (inr (seeks.found.0 (subst (Leads key) step h))),
              λ h. subst (Leads key) (sym step) (elim (more.0 h) [ inl is ↦ absurd (other_group key under.key e is) | inr among ↦ seeks.found.1 among ]),
            );
          }
    ] in
    passed (is_le (byte_cmp key under.key)) refl

seeks_all : (s : Columns) (columns key : List ℕ) (rows more : List Row) → Seeks s columns key rows → Seeks s columns key (rows ++ more)
seeks_all s columns key rows [] seeks = subst (Seeks s columns key) (sym (append-nil rows)) seeks
seeks_all s columns key rows (row ∷ more) seeks = subst (Seeks s columns key) (append_assoc rows (row ∷ []) more) (seeks_all s columns key (rows ++ row ∷ []) more (seeks_more s columns key rows row seeks))

shorter : (rows : List Row) → length (take 1 rows) ≤ 1
shorter [] = omega arith
shorter (row ∷ rows) = omega arith

-- THE GROUP IS THERE just where a row of it was put in.
pub group_there : (s : Columns) (columns key : List ℕ) (rows held : List Row) → held ≡ first_groups (group_from s columns key) rows → IsTrue (is_some (value_at key held)) ↔ HasGroup s columns key rows
unfolding Leads AreFrom
group_there s columns key rows held first =
    let w = group_from s columns key in
    let start : Seeks s columns key [] = record { from = tt; found = (λ h. h, λ h. h) } in
    let seeks = seeks_all s columns key [] rows start in
    let few : length held ≤ 1 = subst (λ n. n ≤ 1) (sym (ap length first)) (shorter (rows_behind true (Some key) (grouped s columns [] rows))) in
    let here = leads key held few in
    (λ h. seeks.found.0 (subst (Leads key) first (here.0 h)), λ h. here.1 (subst (Leads key) (sym first) (seeks.found.1 h)))

-- ---- the group of a row

-- a group whose values are found stands at a place
pub group_at : (held : List Row) (key : List ℕ) (old : List ℤ) → value_at key held ≡ Some old → (place : ℕ) × (slice_get held place ≡ Some (record { key = key; values = old }))
group_at [] key old some = cc
group_at (x ∷ xs) key old some =
    let later : value_at key xs ≡ Some old → (place : ℕ) × (slice_get (x ∷ xs) place ≡ Some (record { key = key; values = old })) = λ s. let there = group_at xs key old s in (suc there.0, there.1) in
    elim (byte_cmp key x.key) as (λ o. byte_cmp key x.key ≡ o → cond (is_eq o) (Some x.values) (value_at key xs) ≡ Some old → (place : ℕ) × (slice_get (x ∷ xs) place ≡ Some (record { key = key; values = old }))) [
      | Less ↦ λ o. later
      | Equal ↦ λ o s. (zero, (let values : x.values ≡ old = cc in λ i. Some (record { key = sym (same_key key x.key o) i; values = values i })))
      | Greater ↦ λ o. later
    ] refl some

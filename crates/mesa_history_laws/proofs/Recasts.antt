-- What the rules of a recast say, once they have passed.
use Rattle.std.proofs.Common.{◌≡◌, ◌⊎◌, inl, inr, ℕ, zero, suc, List, [], ◌∷◌, true, refl, subst, Result, Ok, Err, Some, is_ok, slice_get, get_or}
use Rattle.mesa_history_spec.specs.mesa_schema.Changes.{Lineage, columns_of}
use Rattle.mesa_history_spec.specs.mesa_schema.Recasts.{IsRecastOf, Recast, recast_checked}
use Rattle.mesa_history_spec.proofs.mesa_schema.LineageRecasts.{recast_allowed}
use Rattle.mesa_history_spec.specs.mesa_model.Warehouse.{Store, Table, no_table, table_at}

pub ok_is : {E : Type 0} (c : Result (Unit {0}) E) → is_ok c ≡ true → c ≡ Ok tt
ok_is (Ok x) h = refl
ok_is (Err e) h = cc

-- its columns are a choice of the table's
pub recast_rules : (l : Lineage) (r : Recast) → is_ok (recast_checked l r) ≡ true → IsRecastOf (columns_of l) r
recast_rules l r h = (recast_allowed l r (ok_is (recast_checked l r) h)).rules

-- a table that isn't there has no columns to choose among
never_recast : (r : Recast) → is_ok (recast_checked no_table.lineage r) ≡ true → ⊥
never_recast r h = by r.keys r.values h
  where
    by : (keys values : List (List ℕ)) → is_ok (recast_checked no_table.lineage (record { keys = keys; values = values })) ≡ true → ⊥
    by [] values ok = cc
    by (k ∷ keys) values ok = cc

there_or_not : (ts : List Table) (number : ℕ) → (slice_get ts number ≡ Some (get_or ts number no_table)) ⊎ (get_or ts number no_table ≡ no_table)
there_or_not [] number = inr refl
there_or_not (t ∷ ts) zero = inl refl
there_or_not (t ∷ ts) (suc number) = there_or_not ts number

-- so the table is there
pub recast_there : (s : Store) (number : ℕ) (r : Recast) → is_ok (recast_checked (table_at s number).lineage r) ≡ true → slice_get s.tables number ≡ Some (table_at s number)
recast_there s number r h = elim (there_or_not s.tables number) [
  | inl there ↦ there
  | inr none ↦ absurd (never_recast r (subst (λ (t : Table). is_ok (recast_checked t.lineage r) ≡ true) none h))
]

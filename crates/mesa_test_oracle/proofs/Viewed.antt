-- What is seen of a view.
use Rattle.std.proofs.Common.{◌≡◌, ℕ, ◌<◌, length, subst, sym, Option, Some}
use Rattle.std.specs.Prelude.{slice_get}
use Rattle.mesa_oracle_tables.specs.mesa_columns.declared.views.View.{View}
use Rattle.mesa_schema.specs.Changes.{Lineage}
use Rattle.mesa_model.specs.Relations.{Relation}
use Rattle.mesa_model.specs.Warehouse.{Table}
use Rattle.mesa_oracle_tables.proofs.Seen.{some_there}

-- what holds of a table's view, told by the table's columns through its life
pub view_seen : (P : Relation → Type 0) (n : ℕ) (t : Table) (e : Lineage) (view : ℕ) → e ≡ t.lineage → view < length e.views
    → ((v : View) → slice_get e.views view ≡ Some v → P (record { number = n; table = record t { lineage = e }; view = Some v }))
    → P (record { number = n; table = t; view = slice_get t.lineage.views view })
view_seen P n t e view same lt each =
    let there = some_there e.views view lt in
    subst (λ (l : Lineage). P (record { number = n; table = record t { lineage = l }; view = slice_get l.views view })) same
    (subst (λ (o : Option View). P (record { number = n; table = record t { lineage = e }; view = o })) (sym there.1) (each there.0 there.1))

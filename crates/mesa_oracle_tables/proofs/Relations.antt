-- Relations found one after another.
use Rattle.std.proofs.Common.{◌≡◌, ◌<◌, ◌+◌, ℕ, List, [], drop, length, map, Bool, true, false, cond, Some, None, refl, sym, ◌∙◌, ap, get_or}
use Rattle.std.specs.Prelude.{slice_get, Option, option_map}
use Rattle.std.proofs.lemmas.Option.{get_or_from_slice_get, slice_get-get_or}
use Rattle.mesa_list.specs.Bytes.{same_bytes}
use Rattle.mesa_answer.specs.mesa_columns.declared.views.View.{View}
use Rattle.mesa_batch.specs.Glance.{Known}
use Rattle.mesa_model.specs.Warehouse.{Table}
use Rattle.mesa_model.specs.Relations.{Relation, relation_from}
use Rattle.mesa_oracle_tables.specs.Kept.{Contents, From, table_in, tables_in}
use Rattle.mesa_oracle_tables.specs.Found.{known_at, no_known, relation_at, view_named}
use Rattle.mesa_oracle_tables.proofs.Items.{drop_from, of_map}

-- the view of a number, where its name is the one that is looked for
pub view_here : (name : List ℕ) (views : List View) (i : ℕ) (n : List ℕ) → slice_get (map (λ (v : View). v.name) views) i ≡ Some n → same_bytes name n ≡ true → view_named name (drop i views) ≡ view_named name views → slice_get views i ≡ view_named name views
view_here name views i n there same before =
    let one = of_map (λ (v : View). v.name) views i n there in
    let v = one.0 in
    let is : same_bytes name v.name ≡ true = ap (same_bytes name) one.1.1 ∙ same in
    let first : view_named name (drop i views) ≡ Some v = ap (view_named name) (drop_from views i v one.1.0) ∙ rw is refl in
    one.1.0 ∙ sym first ∙ before

-- and where it isn't
pub view_behind : (name : List ℕ) (views : List View) (i : ℕ) (n : List ℕ) → slice_get (map (λ (v : View). v.name) views) i ≡ Some n → same_bytes name n ≡ false → view_named name (drop i views) ≡ view_named name views → view_named name (drop (i + 1) views) ≡ view_named name views
view_behind name views i n there other before =
    let one = of_map (λ (v : View). v.name) views i n there in
    let v = one.0 in
    let is : same_bytes name v.name ≡ false = ap (same_bytes name) one.1.1 ∙ other in
    let first : view_named name (drop i views) ≡ view_named name (drop (i + 1) views) = ap (view_named name) (drop_from views i v one.1.0) ∙ rw is refl in
    sym first ∙ before

-- what a table decides, by whether it has the name and by its view of the name
abbrev decided : ℕ → Table → Bool → Option View → Option Relation → Option Relation
decided i t same view rest = elim (cond {A = Option Relation} same (Some (record { number = i; table = t; view = None })) (option_map (λ (v : View). record { number = i; table = t; view = Some v }) view)) [ None ↦ rest | Some relation ↦ Some relation ]

-- what is found so far: nothing, so that the tables from this one on decide
abbrev pub IsLeft : List ℕ → List Known → ℕ → Type 0
IsLeft name tables i = (from : From) (totals : List (List ℕ)) (versions : List Contents) → relation_from i name (tables_in from i totals versions (drop i tables)) ≡ relation_from 0 name (tables_in from 0 totals versions tables)

known_here : (tables : List Known) (i : ℕ) (k : Known) → slice_get tables i ≡ Some k → known_at i tables ≡ k
known_here tables i k there = get_or_from_slice_get tables i k no_known there

-- a table of the name
pub table_here : (name : List ℕ) (tables : List Known) (i : ℕ) (k : Known) → slice_get tables i ≡ Some k → same_bytes name k.name ≡ true → IsLeft name tables i
    → (from : From) (totals : List (List ℕ)) (versions : List Contents) → relation_from 0 name (tables_in from 0 totals versions tables) ≡ Some (relation_at from totals versions tables (record { table = i; view = None }))
table_here name tables i k there same left from totals versions =
    let first : relation_from i name (tables_in from i totals versions (drop i tables)) ≡ Some (record { number = i; table = table_in from i totals versions k; view = None }) =
    ap (λ ks. relation_from i name (tables_in from i totals versions ks)) (drop_from tables i k there)
    ∙ ap (λ b. decided i (table_in from i totals versions k) b (view_named name k.lineage.views) (relation_from (i + 1) name (tables_in from (i + 1) totals versions (drop (i + 1) tables)))) same in
    sym (left from totals versions) ∙ first ∙ ap (λ q. Some (record { number = i; table = table_in from i totals versions q; view = None })) (sym (known_here tables i k there))

-- a view of the name
pub view_of_table : (name : List ℕ) (tables : List Known) (i : ℕ) (k : Known) (view : ℕ) → slice_get tables i ≡ Some k → same_bytes name k.name ≡ false → view < length k.lineage.views → slice_get k.lineage.views view ≡ view_named name k.lineage.views → IsLeft name tables i
    → (from : From) (totals : List (List ℕ)) (versions : List Contents) → relation_from 0 name (tables_in from 0 totals versions tables) ≡ Some (relation_at from totals versions tables (record { table = i; view = Some view }))
view_of_table name tables i k view there other within found left from totals versions =
    let made : Known → Option View → Option Relation = λ q v. Some (record { number = i; table = table_in from i totals versions q; view = v }) in
    let d : View = record { name = []; keys = []; values = [] } in
    let v = get_or k.lineage.views view d in
    let some : slice_get k.lineage.views view ≡ Some v = slice_get-get_or k.lineage.views view d within in
    let named : view_named name k.lineage.views ≡ Some v = sym found ∙ some in
    let first : relation_from i name (tables_in from i totals versions (drop i tables)) ≡ made k (Some v) =
    ap (λ ks. relation_from i name (tables_in from i totals versions ks)) (drop_from tables i k there)
    ∙ (λ j. decided i (table_in from i totals versions k) (other j) (named j) (relation_from (i + 1) name (tables_in from (i + 1) totals versions (drop (i + 1) tables)))) in
    sym (left from totals versions) ∙ first ∙ ap (made k) (sym some) ∙ ap (λ q. made q (slice_get q.lineage.views view)) (sym (known_here tables i k there))

-- neither
pub not_here : (name : List ℕ) (tables : List Known) (i : ℕ) (k : Known) → slice_get tables i ≡ Some k → same_bytes name k.name ≡ false → view_named name k.lineage.views ≡ None → IsLeft name tables i → IsLeft name tables (i + 1)
not_here name tables i k there other none left from totals versions =
    let first : relation_from i name (tables_in from i totals versions (drop i tables)) ≡ relation_from (i + 1) name (tables_in from (i + 1) totals versions (drop (i + 1) tables)) =
    ap (λ ks. relation_from i name (tables_in from i totals versions ks)) (drop_from tables i k there)
    ∙ (λ j. decided i (table_in from i totals versions k) (other j) (none j) (relation_from (i + 1) name (tables_in from (i + 1) totals versions (drop (i + 1) tables)))) in
    sym first ∙ left from totals versions

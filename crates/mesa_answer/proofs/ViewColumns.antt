-- Views group by the places of their names.
use Rattle.std.proofs.Common.{◌≡◌, ℕ, List, map, ◌∙◌, ap, subst}
use Rattle.mesa_model.specs.mesa_columns.declared.columns.KeyColumn.{KeyColumn}
use Rattle.mesa_model.specs.mesa_columns.declared.columns.ValueColumn.{ValueColumn}
use Rattle.mesa_model.specs.mesa_columns.declared.rows.Row.{Row}
use Rattle.mesa_model.specs.mesa_columns.declared.views.View.{View}
use Rattle.mesa_model.specs.mesa_columns.Columns.{Columns, key_names, places_in, value_names}
use Rattle.mesa_model.specs.mesa_fold.Folded.{grouped}
use Rattle.mesa_model.specs.mesa_columns.Rows.{AreRowsOf}
use Rattle.mesa_schema.specs.Views.{view_columns, view_key_places, view_rows, view_value_places}
use Rattle.mesa_answer.specs.Answering.{KeepsSums, grouped_columns}

-- a view of these columns, by its places
pub record IsSeen (s : Columns) (v : View) (seen : Columns) (columns values : List ℕ) : Type 0 where
  pub of_schema : seen ≡ s
  pub key_places : columns ≡ view_key_places s v
  pub value_places : values ≡ view_value_places s v

-- the places of names that were looked up among listed columns
pub record AreNamed {C : Type 0} (name : C → List ℕ) (listed : List C) (names : List (List ℕ)) (places : List ℕ) : Type 0 where
  pub items : List ℕ
  pub same : places ≡ items
  pub found : items ≡ places_in (map name listed) names

pub seen_view : (s : Columns) (v : View) (seen : Columns) (keys : List KeyColumn) (values : List ValueColumn) (key_list value_list : List (List ℕ)) (columns places : List ℕ) → seen ≡ s → keys ≡ seen.keys → values ≡ seen.values
    → key_list ≡ v.keys → value_list ≡ v.values → AreNamed (λ (k : KeyColumn). k.name) keys key_list columns → AreNamed (λ (k : ValueColumn). k.name) values value_list places → IsSeen s v seen columns places
seen_view s v seen keys values key_list value_list columns places e k w a b named others = record {
  of_schema = e;
  key_places = named.same ∙ named.found ∙ (λ i. places_in (map (λ (c : KeyColumn). c.name) (k i)) (a i)) ∙ ap (λ (t : Columns). places_in (key_names t) v.keys) e;
  value_places = others.same ∙ others.found ∙ (λ i. places_in (map (λ (c : ValueColumn). c.name) (w i)) (b i)) ∙ ap (λ (t : Columns). places_in (value_names t) v.values) e;
}

pub seen_rows : (s : Columns) (v : View) (seen : Columns) (columns values : List ℕ) → IsSeen s v seen columns values → (rows found : List Row) → found ≡ grouped seen columns values rows → found ≡ view_rows s v rows
seen_rows s v seen columns values h rows found e = e ∙ (λ i. grouped (h.of_schema i) (h.key_places i) (h.value_places i) rows)

seen_columns : (s : Columns) (v : View) (seen : Columns) (columns values : List ℕ) → IsSeen s v seen columns values → grouped_columns seen columns values ≡ view_columns s v
seen_columns s v seen columns values h = λ i. grouped_columns (h.of_schema i) (h.key_places i) (h.value_places i)

pub seen_form : (s : Columns) (v : View) (seen : Columns) (columns values : List ℕ) → IsSeen s v seen columns values → (found : List Row) → AreRowsOf (grouped_columns seen columns values) found → AreRowsOf (view_columns s v) found
seen_form s v seen columns values h found form = subst (λ wide. AreRowsOf wide found) (seen_columns s v seen columns values h) form

pub seen_sums : (s : Columns) (v : View) (seen : Columns) (columns values : List ℕ) → IsSeen s v seen columns values → (found : List Row) → KeepsSums (grouped_columns seen columns values) found → KeepsSums (view_columns s v) found
seen_sums s v seen columns values h found keeps = subst (λ wide. KeepsSums wide found) (seen_columns s v seen columns values h) keeps

-- What a gatherer of groups holds of the rows that were put in.
use Rattle.std.specs.Prelude.{◌≡◌, ℕ, List, IfSome, IsTrue}
use Rattle.std.specs.Option.{option_copied}
use Rattle.mesa_model.specs.mesa_columns.declared.rows.Row.{Row}
use Rattle.mesa_model.specs.mesa_columns.Columns.{aggs_of, chosen, kinds_of}
use Rattle.mesa_model.specs.mesa_columns.Rows.{AreRowsOf}
use Rattle.mesa_filter.specs.Query.{are_places}
use Rattle.mesa_answer.specs.Window.{IsWindow}
use Rattle.mesa_answer.specs.Gathering.{Wanted, first_groups}
use Rattle.mesa_answer.specs.declared.groups.Groups.{Groups}

-- what groups a gatherer was made for
abbrev pub wanted_of : Groups → Wanted
wanted_of g = record { schema = g.schema.now; columns = g.columns.now; values = g.values.now; resume = option_copied g.resume; inclusive = g.inclusive; most = g.most }

-- the group key of the row that was taken in hand last
abbrev pub key_at_hand : Groups → List ℕ
key_at_hand g = g.hand.key

-- Just these rows were put into a gatherer, in this order: it holds their first groups.
pub record HasPut (g : Groups) (given : List Row) : Type 0 where
  pub columns : IsTrue (are_places g.schema.now.keys g.columns.now)
  pub values : IsTrue (are_places g.schema.now.values g.values.now)
  pub form : AreRowsOf g.schema.now given
  pub kinds : g.kinds.items ≡ kinds_of g.schema.now
  pub window : IfSome g.window (IsWindow (kinds_of g.schema.now) g.columns.now g.values.now)
  pub aggs : g.aggs.items ≡ chosen g.values.now (aggs_of g.schema.now)
  pub held : g.held ≡ first_groups (wanted_of g) given

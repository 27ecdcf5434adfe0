-- A small run of commands, computed.
use Rattle.std.proofs.Common.{◌≡◌, ℕ, List, [], ◌∷◌, refl, Some, None}
use Rattle.std.specs.Prelude.{pos, codes}
use Rattle.mesa_batch.specs.mesa_key.declared.KeyValue.TheVariants as value
use Rattle.mesa_batch.specs.mesa_key.declared.KeyType.TheVariants as kind
use Rattle.mesa_batch.specs.mesa_key.Spelling.{key_spelling, before_zero}
use Rattle.mesa_batch.specs.mesa_value.declared.Agg.TheVariants.{Sum, Max, Replace}
use Rattle.mesa_columns.specs.declared.views.View.{View}
use Rattle.mesa_columns.specs.Columns.{Columns}
use Rattle.mesa_filter.specs.declared.terms.Comparison.TheVariants as op
use Rattle.mesa_filter.specs.declared.terms.Term.{Term}
use Rattle.mesa_filter.specs.declared.words.VersionWord.TheVariants as asks
use Rattle.mesa_model.specs.declared.commands.Command.{Command}
use Rattle.mesa_model.specs.declared.commands.Command.TheVariants as command
use Rattle.mesa_model.specs.declared.commands.ChangeWords.TheVariants as change
use Rattle.mesa_model.specs.declared.replies.Reply.{Reply}
use Rattle.mesa_model.specs.declared.replies.Reply.TheVariants as reply
use Rattle.mesa_model.specs.declared.replies.Refusal.TheVariants as no
use Rattle.mesa_model.specs.declared.replies.SchemaFault.TheVariants as fault
use Rattle.mesa_model.specs.Orders.{choice, values_told}
use Rattle.mesa_model.specs.Warehouse.{Warehouse, empty_warehouse}
use Rattle.mesa_model.specs.Step.{step}

-- the replies to a session's commands, one after another
abbrev replies_of : Warehouse → List Command → List Reply
replies_of w [] = []
replies_of w (c ∷ cs) = (step w 0 c).1 ∷ replies_of (step w 0 c).0 cs

abbrev t : List ℕ
t = codes "t"

abbrev v : List ℕ
v = codes "v"

abbrev load : List ℕ → List ℕ → Command
load key amount = command.Load (record { table = t; fields = key ∷ amount ∷ [] } ∷ [])

abbrev query : Command
query = command.Query (record { relation = t; version = asks.Latest; filter = []; group = []; values = []; limit = 1000; resume = [] })

-- a pin keeps what a later drop of its table's column and a later expiry take from the present
abbrev script : List Command
script =
    command.Table (record { table = t; keys = record { name = codes "k"; kind = kind.Int } ∷ []; values = record { name = v; agg = Sum } ∷ [] })
    ∷ load (codes "1") (codes "5")
    ∷ load (codes "1") (codes "-6")
    ∷ command.Pin (asks.At 0)
    ∷ command.Alter (record { table = t; change = change.AddValue (record { name = codes "w"; agg = Max }) (codes "7") })
    ∷ command.Alter (record { table = t; change = change.DropValue v })
    ∷ command.Expire None 1
    ∷ command.Release 1
    ∷ command.Release 1
    ∷ query
    ∷ []

replies : replies_of empty_warehouse script
    ≡ reply.Table t
    ∷ reply.Loaded 0 1
    ∷ reply.Loaded 1 1
    ∷ reply.Pinned 1 0
    ∷ reply.Altered t 1
    ∷ reply.Altered t 2
    ∷ reply.Expired None 1
    ∷ reply.Released 1
    ∷ reply.Refused (no.NoPin 1)
    ∷ reply.Page (record { version = 1; rows = record { key = key_spelling (value.Int (pos 1) ∷ []); values = pos 7 ∷ [] } ∷ []; resume = None })
    ∷ []
unfolding before_zero
replies = refl

-- ---- two tables, of which one lets versions go

abbrev u : List ℕ
u = codes "u"

abbrev table_named : List ℕ → Command
table_named name = command.Table (record { table = name; keys = record { name = codes "k"; kind = kind.Int } ∷ []; values = record { name = v; agg = Sum } ∷ [] })

abbrev query_of : List ℕ → ℕ → Command
query_of name version = command.Query (record { relation = name; version = asks.At version; filter = []; group = []; values = []; limit = 1000; resume = [] })

abbrev apart : List Command
apart =
    table_named t
    ∷ table_named u
    ∷ command.Load (record { table = t; fields = codes "1" ∷ codes "5" ∷ [] } ∷ record { table = u; fields = codes "1" ∷ codes "7" ∷ [] } ∷ [])
    ∷ load (codes "1") (codes "1")
    ∷ command.Expire (Some t) 1
    ∷ query_of t 0
    ∷ query_of u 0
    ∷ command.Pin (asks.At 0)
    ∷ command.Expire None 0
    ∷ command.Expire (Some t) 0
    ∷ command.Expire (Some v) 0
    ∷ []

replies_apart : replies_of empty_warehouse apart
    ≡ reply.Table t
    ∷ reply.Table u
    ∷ reply.Loaded 0 2
    ∷ reply.Loaded 1 1
    ∷ reply.Expired (Some t) 1
    ∷ reply.Refused (no.Stale 0 1)
    ∷ reply.Page (record { version = 0; rows = record { key = key_spelling (value.Int (pos 1) ∷ []); values = pos 7 ∷ [] } ∷ []; resume = None })
    ∷ reply.Refused (no.Stale 0 1)
    ∷ reply.Expired None 0
    ∷ reply.Refused (no.Stale 0 1)
    ∷ reply.Refused (no.NoTable None)
    ∷ []
unfolding before_zero
replies_apart = refl

-- ---- a table that is recast

abbrev a : List ℕ
a = codes "a"

abbrev b : List ℕ
b = codes "b"

abbrev row : List ℕ → List ℕ → List ℕ → List (List ℕ)
row x y z = x ∷ y ∷ z ∷ []

abbrev two_keys : Command
two_keys = command.Table (record { table = t; keys = record { name = a; kind = kind.Int } ∷ record { name = b; kind = kind.Int } ∷ []; values = record { name = v; agg = Sum } ∷ [] })

abbrev three_rows : Command
three_rows = command.Load (record { table = t; fields = row (codes "1") (codes "2") (codes "5") } ∷ record { table = t; fields = row (codes "2") (codes "1") (codes "7") } ∷ record { table = t; fields = row (codes "3") (codes "1") (codes "1") } ∷ [])

-- it loses a key column: its rows are grouped, and later rows are loaded in its new columns
abbrev regrouping : List Command
regrouping =
    two_keys
    ∷ three_rows
    ∷ command.Recast (record { table = t; keys = b ∷ []; values = v ∷ [] })
    ∷ query
    ∷ load (codes "1") (codes "4")
    ∷ query
    ∷ command.Recast (record { table = t; keys = a ∷ []; values = v ∷ [] })
    ∷ command.Recast (record { table = t; keys = b ∷ b ∷ []; values = v ∷ [] })
    ∷ command.Recast (record { table = v; keys = b ∷ []; values = v ∷ [] })
    ∷ []

replies_regrouping : replies_of empty_warehouse regrouping
    ≡ reply.Table t
    ∷ reply.Loaded 0 3
    ∷ reply.Recast t 1
    ∷ reply.Page (record {
      version = 0;
      rows = record { key = key_spelling (value.Int (pos 1) ∷ []); values = pos 8 ∷ [] } ∷ record { key = key_spelling (value.Int (pos 2) ∷ []); values = pos 5 ∷ [] } ∷ [];
      resume = None;
    })
    ∷ reply.Loaded 1 1
    ∷ reply.Page (record {
      version = 1;
      rows = record { key = key_spelling (value.Int (pos 1) ∷ []); values = pos 12 ∷ [] } ∷ record { key = key_spelling (value.Int (pos 2) ∷ []); values = pos 5 ∷ [] } ∷ [];
      resume = None;
    })
    ∷ reply.Refused no.NoColumn
    ∷ reply.Refused (no.BadSchema fault.NameTwice)
    ∷ reply.Refused (no.NoTable None)
    ∷ []
unfolding before_zero
replies_regrouping = refl

-- ---- a further order

abbrev ordered : Columns
ordered = record { keys = record { name = a; kind = kind.Int } ∷ record { name = b; kind = kind.Int } ∷ []; values = record { name = v; agg = Sum } ∷ record { name = codes "r"; agg = Replace } ∷ [] }

-- `w` has every key column, and `x` leaves one out
abbrev orders : List View
orders = record { name = codes "x"; keys = b ∷ []; values = v ∷ [] } ∷ record { name = codes "w"; keys = b ∷ a ∷ []; values = v ∷ [] } ∷ []

abbrev equal : ℕ → Term
equal column = record { column = column; comparison = op.Equal; literals = value.Int (pos 2) ∷ [] }

-- a query of `v` with `b=2` is answered by `w`, one with `a=1` or with both by the table, and so is one of the replace column
by_view : choice ordered orders (values_told ordered) (equal 1 ∷ []) ≡ Some 1
by_view = refl

by_table : choice ordered orders (values_told ordered) (equal 0 ∷ []) ≡ None
by_table = refl

by_table_on_a_tie : choice ordered orders (values_told ordered) (equal 1 ∷ equal 0 ∷ []) ≡ None
by_table_on_a_tie = refl

by_table_for_its_values : choice ordered orders (0 ∷ 1 ∷ []) (equal 1 ∷ []) ≡ None
by_table_for_its_values = refl

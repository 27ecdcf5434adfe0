-- What records say, in the words of the definition.
use Rattle.std.specs.Prelude.{drop}
use Rattle.csv.specs.Records.{fields_of}
use Rattle.mesa_batch.specs.Load.{row_from}
use Rattle.mesa_script.specs.Records.{Name, Lease, Session, Table, View, Alter, Row, Commit, Query, Explain, Pin, Release, Expire, Work, Recast, Change, AddValue, DropValue, AddKey}
use Rattle.mesa_script.specs.Items.{Item, LeaseOf, NextSession, RowOf, EndOfLoad, Single}
use Rattle.mesa_parse.specs.declared.changes.Change.{Change as ChangeKind}
use Rattle.mesa_parse.specs.declared.changes.Change.TheVariants as change
use Rattle.mesa_parse.specs.declared.kinds.Kind.{Kind}
use Rattle.mesa_parse.specs.declared.kinds.Kind.TheVariants as kind
use Rattle.mesa_parse.specs.declared.items.Said.{Said}
use Rattle.mesa_parse.specs.declared.items.Said.TheVariants as said

-- the name of a kind of records
abbrev pub name_as : Kind → Name
name_as kind.Lease = Lease
name_as kind.Session = Session
name_as kind.Table = Table
name_as kind.View = View
name_as kind.Alter = Alter
name_as kind.Row = Row
name_as kind.Commit = Commit
name_as kind.Query = Query
name_as kind.Explain = Explain
name_as kind.Pin = Pin
name_as kind.Release = Release
name_as kind.Expire = Expire
name_as kind.Work = Work
name_as kind.Recast = Recast

-- the change of a kind
abbrev pub change_as : ChangeKind → Change
change_as change.AddValue = AddValue
change_as change.DropValue = DropValue
change_as change.AddKey = AddKey

-- what a record said
abbrev pub item_as : Said → Item
item_as (said.LeaseOf turns) = LeaseOf turns
item_as said.NextSession = NextSession
item_as (said.Row words) = RowOf (row_from (drop 1 (fields_of words.fields.now)))
item_as said.EndOfLoad = EndOfLoad
item_as (said.Single command) = Single command

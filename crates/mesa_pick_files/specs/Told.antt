-- What the files of a query tell of its answer.
use Rattle.std.specs.Prelude.{◌≡◌, ℕ, List, [], ◌∷◌, map, Bool, Option, ⊤}
use Rattle.mesa_validate.specs.mesa_columns.declared.rows.Row.{Row}
use Rattle.mesa_validate.specs.mesa_columns.Columns.{Columns, aggs_of}
use Rattle.mesa_validate.specs.mesa_columns.Rows.{AreRowsOf}
use Rattle.mesa_open_files.specs.mesa_fold.Folded.{folded, rows_of}
use Rattle.mesa_query.specs.mesa_answer.Answering.{KeepsSums}
use Rattle.mesa_validate.specs.mesa_filter.Query.{BuiltQuery, group_kinds}
use Rattle.mesa_query.specs.mesa_merge.Inputs.{AreTold, Known, knowns_of, lifted_in}
use Rattle.mesa_validate.specs.mesa_model.Query.{Answer}
use Rattle.mesa_query.specs.mesa_group_blocks.Moved.{inputs_in}
use Rattle.mesa_query.specs.Files.{owns_in}
use Rattle.mesa_query.specs.mesa_group_blocks.Ungrouped.{parts_ungrouped, rows_under}
use Rattle.mesa_query.specs.Relation.{page_over, parts_pinned}
use Rattle.mesa_open_files.specs.Pins.{IsOfRelation, relation_rows}
use Rattle.mesa_open_files.specs.declared.querying.Pinned.{Pinned}

-- The relation's rows in each file that is known, by the rows of the files: its own, or its table's grouped by the view.
abbrev pub parts_known : Option ℕ → List Known → List Bool → List (List Row) → List (List Row)
parts_known view [] own contents = []
parts_known view (k ∷ ks) [] contents = []
parts_known view (k ∷ ks) (o ∷ own) [] = []
parts_known view (k ∷ ks) (o ∷ own) (rows ∷ contents) = relation_rows view k.table (map (lifted_in k) rows) o ∷ parts_known view ks own contents

-- The same before any rows are grouped: a table's rows under the view's keys, each by itself.
abbrev pub parts_under : Option ℕ → List Known → List Bool → List (List Row) → List (List Row)
parts_under view [] own contents = []
parts_under view (k ∷ ks) [] contents = []
parts_under view (k ∷ ks) (o ∷ own) [] = []
parts_under view (k ∷ ks) (o ∷ own) (rows ∷ contents) = rows_under view k.table (map (lifted_in k) rows) o ∷ parts_under view ks own contents

-- Each file is the relation's own, with these columns, or one of its table.
abbrev pub AreOfRelation : Columns → Option ℕ → List Known → List Bool → Type 0
AreOfRelation s view [] own = ⊤
AreOfRelation s view (k ∷ ks) [] = ⊤
AreOfRelation s view (k ∷ ks) (o ∷ own) = IsOfRelation s view k.table o × AreOfRelation s view ks own

-- Files tell the answer to a query: their bytes are told; and whatever columns the relation has of which they are, no sum over their rows leaves its type, and the page over them is the answer's, at this version.
pub record TellAnswer (q : BuiltQuery) (version : ℕ) (view : Option ℕ) (files : List Known) (own : List Bool) (answer : Answer) : Type 0 where
  pub contents : List (List Row)
  pub told : AreTold files contents
  pub sums : (s : Columns) → AreOfRelation s view files own → KeepsSums s (rows_of (parts_under view files own contents))
  pub page : (s : Columns) → AreOfRelation s view files own → answer.page ≡ page_over s q (parts_known view files own contents)
  pub at : answer.page.version ≡ version
  pub heading : answer.heading ≡ record { kinds = group_kinds q; prefix = q.prefix }

-- The same of a query's files as they are handed out.
abbrev pub Tells : {R : Type 0} → (R → Option (List ℕ)) → Pinned R → Answer → Type 0
Tells bytes p answer = TellAnswer p.query p.version p.view (knowns_of bytes (inputs_in p.inputs.items)) (owns_in p.inputs.items) answer

-- A query's files tell the content of its relation, which has these columns: their bytes are told, no sum over their rows leaves its type, and the relation's rows in all of them fold to it.
pub record TellContent {R : Type 0} (bytes : R → Option (List ℕ)) (s : Columns) (p : Pinned R) (content : List Row) : Type 0 where
  pub contents : List (List Row)
  pub told : AreTold (knowns_of bytes (inputs_in p.inputs.items)) contents
  pub sums : KeepsSums s (rows_of (parts_ungrouped p.view p.inputs.items contents))
  pub fold : folded (aggs_of s) (parts_pinned p.view p.inputs.items contents) ≡ content
  pub form : AreRowsOf s content

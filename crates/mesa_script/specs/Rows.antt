-- The lines behind a head line: the rows of an answer, and the ranges of a plan.
use Rattle.std.specs.Prelude.{ℕ, List, [], ◌∷◌, ◌++◌, map, flat_map, length, codes, decimal, Option, Some, None, is_some}
use Rattle.std.specs.Fmt.{signed_decimal}
use Rattle.csv.specs.Writing.{row_text, default_writer}
use Rattle.mesa_model.specs.mesa_key.declared.KeyType.{KeyType}
use Rattle.mesa_model.specs.mesa_key.declared.KeyValue.{KeyValue}
use Rattle.mesa_model.specs.mesa_key.declared.KeyValue.TheVariants as value
use Rattle.mesa_model.specs.mesa_key.Spelling.{key_of}
use Rattle.mesa_model.specs.mesa_columns.declared.rows.Row.{Row}
use Rattle.mesa_model.specs.mesa_filter.Hex.{hex_of}
use Rattle.mesa_model.specs.declared.replies.Page.{Page}
use Rattle.mesa_model.specs.declared.replies.Reply.{Reply}
use Rattle.mesa_model.specs.declared.replies.Reply.TheVariants as reply
use Rattle.mesa_model.specs.Query.{Heading}
use Rattle.mesa_script.specs.declared.rendered.Rendered.{Rendered}

-- a key column's value as a field
abbrev pub value_text : KeyValue → List ℕ
value_text (value.Int z) = signed_decimal z
value_text (value.Text bytes) = bytes

-- a row's fields: those of its group key, and then its values
abbrev pub row_fields : List KeyType → Row → List (List ℕ)
row_fields kinds row = map value_text (key_of kinds row.key) ++ map signed_decimal row.values

-- a row's line, as csv writes records
abbrev pub row_line : List KeyType → Row → List ℕ
row_line kinds row = row_text default_writer (row_fields kinds row)

-- the line that says where a page goes on, where it does
abbrev pub resume_line : List ℕ → Option (List ℕ) → List ℕ
resume_line prefix None = []
resume_line prefix (Some key) = codes "resume " ++ prefix ++ hex_of key ++ 10 ∷ []

-- The lines of a page: its rows, and its resume key where further rows follow.
abbrev pub page_body : Heading → Page → List ℕ
page_body heading page = flat_map (row_line heading.kinds) page.rows ++ resume_line heading.prefix page.resume

-- A page as it is printed.
abbrev pub rendered : Heading → Page → Rendered
rendered heading page = record { rows = length page.rows; more = is_some page.resume; body = page_body heading page }

-- a range of versions
abbrev span_line : ℕ × ℕ → List ℕ
span_line span = 91 ∷ decimal span.0 ++ 44 ∷ decimal span.1 ++ 93 ∷ 10 ∷ []

-- a range a line
abbrev pub span_lines : List (ℕ × ℕ) → List ℕ
span_lines ranges = flat_map span_line ranges

-- the line that says in which relation's order a query would be answered, where that was asked
abbrev pub order_line : Option (List ℕ) → List ℕ
order_line None = []
order_line (Some name) = codes "by " ++ name ++ 10 ∷ []

-- the lines behind the head line of a reply
abbrev pub body_of : Heading → Reply → List ℕ
body_of heading (reply.Page page) = page_body heading page
body_of heading (reply.Spans ranges by) = span_lines ranges ++ order_line by
body_of heading r = []

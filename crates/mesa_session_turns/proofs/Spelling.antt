-- A page's rows spell keys of its query's group columns.
use Rattle.std.proofs.Common.{◌≡◌, List, [], ◌∷◌, ap, sym, ◌∙◌, subst}
use Rattle.std.specs.Prelude.{IsTrue}
use Rattle.std.specs.List.{AllByRecursion}
use Rattle.mesa_key.specs.declared.KeyType.{KeyType}
use Rattle.mesa_key.specs.declared.KeyValue.{KeyValue}
use Rattle.mesa_key.specs.Spelling.{IsKey, is_spelling, key_of, key_spelling}
use Rattle.mesa_core.specs.mesa_columns.declared.columns.KeyColumn.{KeyColumn}
use Rattle.mesa_core.specs.mesa_columns.declared.rows.Row.{Row}
use Rattle.mesa_core.specs.mesa_columns.Columns.{Columns, chosen, kinds_of}
use Rattle.mesa_core.specs.mesa_columns.Rows.{AreRowsOf, IsRowOf}
use Rattle.mesa_filter.specs.Query.{BuiltQuery, IsQueryOf, group_kinds}
use Rattle.mesa_core.specs.mesa_answer.Answering.{grouped_columns}
use Rattle.mesa_query.proofs.mesa_answer.Picked.{chosen-map}

rows_spell : (passes : (types : List KeyType) (key : List KeyValue) → IsKey types key → IsTrue (is_spelling types (key_spelling key))) (s : Columns) (kinds : List KeyType) (rows : List Row) → kinds_of s ≡ kinds → AreRowsOf s rows → AllByRecursion (λ (row : Row). IsTrue (is_spelling kinds row.key)) rows
rows_spell passes s kinds [] same all = tt
rows_spell passes s kinds (row ∷ rows) same all =
    let form : IsRowOf s row = all.0 in
    let own : IsTrue (is_spelling (kinds_of s) row.key) = subst (λ bytes. IsTrue (is_spelling (kinds_of s) bytes)) form.spelled (passes (kinds_of s) (key_of (kinds_of s) row.key) form.key) in
    (subst (λ types. IsTrue (is_spelling types row.key)) same own, rows_spell passes s kinds rows same all.1)

pub page_spells : (passes : (types : List KeyType) (key : List KeyValue) → IsKey types key → IsTrue (is_spelling types (key_spelling key))) (s : Columns) (q : BuiltQuery) (rows : List Row) → IsQueryOf s q → AreRowsOf (grouped_columns s q.asked.columns q.asked.values) rows → AllByRecursion (λ (row : Row). IsTrue (is_spelling (group_kinds q) row.key)) rows
page_spells passes s q rows asked form =
    let same : kinds_of (grouped_columns s q.asked.columns q.asked.values) ≡ group_kinds q = chosen-map (λ (c : KeyColumn). c.kind) q.asked.columns s.keys ∙ ap (chosen q.asked.columns) (sym asked.kinds) in
    rows_spell passes (grouped_columns s q.asked.columns q.asked.values) (group_kinds q) rows same form

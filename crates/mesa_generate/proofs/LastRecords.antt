-- The records of a generated script.
use Rattle.std.proofs.Common.{◌≡◌, ℕ, zero, suc, ◌+◌, ◌-◌, ◌*◌, ◌/◌, ◌%◌, ◌==◌, List, [], ◌∷◌, ◌++◌, length, map, true, false, refl, sym, ap, ◌∙◌, append_assoc, append-nil, arith}
use Rattle.std.specs.Prelude.{⊤, codes, if◌then◌else◌, pos, ◌-ℤ◌}
use Rattle.std.specs.Fmt.{decimal, signed_decimal}
use Rattle.std.specs.List.{AllByRecursion}
use Rattle.csv.specs.Reading.{default_config, records, strip_bom}
use Rattle.csv.specs.Writing.{default_writer, fields_text, is_blank, read_back, row_text}
use Rattle.csv.proofs.RoundTrip.{rows_text}
use Rattle.mesa_invariant_spec.specs.mesa_script.Generated.{draw, expiry_after, generated, row_record, rows_from, versions_from}
use Rattle.mesa_invariant_spec.specs.mesa_script.Records.{field}
use Rattle.mesa_invariant_spec.specs.mesa_script.Script.{records_of}
use Rattle.mesa_generate.proofs.Plain.{decimal_bare, row_bare, rows_both, rows_long, rows_read, signed_bare}

-- the record of row j of a version, from its three draws
abbrev pub row_fields : ℕ → ℕ → ℕ → ℕ → ℕ → List (List ℕ)
row_fields version j site clicks low =
    codes "row" ∷ codes "facts" ∷ decimal (version / 10) ∷ decimal (4 * (site % 16) + j) ∷ signed_decimal (pos (clicks % 201) -ℤ pos 100) ∷ decimal (low % 1000) ∷ decimal version ∷ []

six : (a b c d e f : List ℕ) → a ++ b ++ c ++ d ++ e ++ f ≡ a ++ (b ++ (c ++ (d ++ (e ++ f))))
six a b c d e f =
    append_assoc (a ++ b ++ c ++ d) e f
    ∙ append_assoc (a ++ b ++ c) d (e ++ f)
    ∙ append_assoc (a ++ b) c (d ++ (e ++ f))
    ∙ append_assoc a b (c ++ (d ++ (e ++ f)))

row_is : (version j site clicks low : ℕ) → row_record version j site clicks low ≡ row_text default_writer (row_fields version j site clicks low)
row_is version j site clicks low =
    ap (λ (t : List ℕ). codes "row,facts," ++ t) (six (decimal (version / 10)) (44 ∷ decimal (4 * (site % 16) + j)) (44 ∷ signed_decimal (pos (clicks % 201) -ℤ pos 100)) (44 ∷ decimal (low % 1000)) (44 ∷ decimal version) (10 ∷ []))
    ∙ sym (row_bare (codes "row") (codes "facts") _ refl refl (decimal_bare (version / 10), (decimal_bare (4 * (site % 16) + j), (signed_bare (pos (clicks % 201) -ℤ pos 100), (decimal_bare (low % 1000), (decimal_bare version, tt))))))

-- so many rows of a version from row j on, and what follows them
abbrev pub row_records : ℕ → ℕ → ℕ → ℕ → (ℕ → List (List (List ℕ))) → List (List (List ℕ))
row_records version j zero x rest = rest x
row_records version j (suc rows) x rest =
    let site = draw x in
    let clicks = draw site in
    let low = draw clicks in
    row_fields version j site clicks low ∷ row_records version (j + 1) rows low rest

rows_are : (version j rows x : ℕ) (text : ℕ → List ℕ) (rest : ℕ → List (List (List ℕ))) → ((y : ℕ) → text y ≡ rows_text (rest y)) → rows_from version j rows x text ≡ rows_text (row_records version j rows x rest)
unfolding rows_text
rows_are version j zero x text rest same = same x
rows_are version j (suc rows) x text rest same =
    (λ i. row_is version j (draw x) (draw (draw x)) (draw (draw (draw x))) i ++ rows_are version (j + 1) rows (draw (draw (draw x))) text rest same i)

abbrev pub expiry_records : ℕ → List (List (List ℕ))
expiry_records version = if version % 25 == 24 then (codes "expire" ∷ decimal (version - 10) ∷ []) ∷ [] else []

expiry_is : (version : ℕ) → expiry_after version ≡ rows_text (expiry_records version)
unfolding rows_text
expiry_is version = elim (version % 25 == 24) as (λ b. (if b then codes "expire," ++ decimal (version - 10) ++ 10 ∷ [] else []) ≡ rows_text (if b then (codes "expire" ∷ decimal (version - 10) ∷ []) ∷ [] else [])) [
  | true ↦ sym (append-nil _ ∙ row_bare (codes "expire") (decimal (version - 10)) [] refl (decimal_bare (version - 10)) tt)
  | false ↦ refl
]

-- the records of so many versions from one on
abbrev pub version_records : ℕ → ℕ → ℕ → List (List (List ℕ))
version_records version zero x = []
version_records version (suc versions) x =
    row_records version 0 4 x (λ y. (codes "commit" ∷ []) ∷ (codes "work" ∷ codes "facts" ∷ []) ∷ (expiry_records version ++ version_records (version + 1) versions y))

versions_are : (version versions x : ℕ) → versions_from version versions x ≡ rows_text (version_records version versions x)
unfolding rows_text is_blank fields_text
versions_are version zero x = refl
versions_are version (suc versions) x = rows_are version 0 4 x _ (λ y. (codes "commit" ∷ []) ∷ (codes "work" ∷ codes "facts" ∷ []) ∷ (expiry_records version ++ version_records (version + 1) versions y)) (λ y.
    ap (λ (t : List ℕ). codes "commit\nwork,facts\n" ++ t)
    ((λ i. expiry_is version i ++ versions_are (version + 1) versions y i) ∙ sym (rows_both (expiry_records version) (version_records (version + 1) versions y))))

abbrev pub table_record : List (List ℕ)
table_record = codes "table" ∷ codes "facts" ∷ codes "day int;site int" ∷ codes "clicks sum;low min;last replace" ∷ []

abbrev pub view_record : List (List ℕ)
view_record = codes "view" ∷ codes "by_site" ∷ codes "facts" ∷ codes "site" ∷ codes "clicks;low" ∷ []

-- the three queries
abbrev pub totals_record : List (List ℕ)
totals_record = codes "query" ∷ codes "facts" ∷ codes "latest" ∷ [] ∷ codes "-" ∷ codes "clicks;low" ∷ []

abbrev pub sites_record : List (List ℕ)
sites_record = codes "query" ∷ codes "by_site" ∷ codes "latest" ∷ codes "site<16" ∷ [] ∷ [] ∷ codes "8" ∷ []

abbrev pub day_record : List (List ℕ)
day_record = codes "query" ∷ codes "facts" ∷ codes "latest" ∷ codes "day=0&site>=48" ∷ [] ∷ [] ∷ codes "4" ∷ []

abbrev pub query_records : List (List (List ℕ))
query_records = totals_record ∷ sites_record ∷ day_record ∷ []

abbrev pub all_records : ℕ → ℕ → List (List (List ℕ))
all_records seed versions = table_record ∷ view_record ∷ (version_records 0 versions seed ++ query_records)

generated_is : (seed versions : ℕ) → generated seed versions ≡ rows_text (all_records seed versions)
unfolding rows_text is_blank fields_text
generated_is seed versions =
    ap (λ (t : List ℕ). codes "table,facts,day int;site int,clicks sum;low min;last replace\nview,by_site,facts,site,clicks;low\n" ++ t)
    (ap (λ (t : List ℕ). t ++ rows_text query_records) (versions_are 0 versions seed) ∙ sym (rows_both (version_records 0 versions seed) query_records))

-- ---- as they are read

-- a record with some field
abbrev pub HasField : List (List ℕ) → Type 0
HasField [] = ⊥
HasField (field ∷ fields) = ⊤

fields_back : (row : List (List ℕ)) → HasField row → read_back row ≡ row
fields_back [] is = absurd is
fields_back (field ∷ fields) is = refl

pub rows_back : (rows : List (List (List ℕ))) → AllByRecursion HasField rows → map read_back rows ≡ rows
rows_back [] all = refl
rows_back (row ∷ rows) all = λ i. fields_back row all.0 i ∷ rows_back rows all.1 i

-- the records that bytes of rows have, where no mark of the byte order is at their start
read_rows : (rows : List (List (List ℕ))) → AllByRecursion HasField rows → records default_config (rows_text rows) ≡ rows
read_rows rows all = rows_read rows (length (rows_text rows) + 1) (let long = rows_long rows in omega (arith, long)) ∙ rows_back rows all

no_mark : (seed versions : ℕ) → strip_bom (generated seed versions) ≡ generated seed versions
unfolding strip_bom
no_mark seed versions = refl

pub generated_records : (seed versions : ℕ) → AllByRecursion HasField (all_records seed versions) → records_of (generated seed versions) ≡ all_records seed versions
generated_records seed versions all = ap (records default_config) (no_mark seed versions ∙ generated_is seed versions) ∙ read_rows (all_records seed versions) all

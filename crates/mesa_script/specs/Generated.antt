-- Generated: the script that a seed gives.
use Rattle.std.specs.Prelude.{ℕ, zero, suc, ◌+◌, ◌-◌, ◌*◌, ◌/◌, ◌%◌, pos, ◌-ℤ◌, List, [], ◌∷◌, ◌++◌, codes, decimal, ◌==◌, if◌then◌else◌}
use Rattle.std.specs.Fmt.{signed_decimal}

-- the generator's next state, which is what it draws
abbrev pub draw : ℕ → ℕ
draw x = (75 * x + 74) % 65537

-- the record of row j of a version, from its three draws
abbrev pub row_record : ℕ → ℕ → ℕ → ℕ → ℕ → List ℕ
row_record version j site clicks low =
    codes "row,facts," ++ decimal (version / 10)
    ++ 44 ∷ decimal (4 * (site % 16) + j)
    ++ 44 ∷ signed_decimal (pos (clicks % 201) -ℤ pos 100)
    ++ 44 ∷ decimal (low % 1000)
    ++ 44 ∷ decimal version ++ 10 ∷ []

-- so many rows of a version from row j on, and what follows them from the state that they leave
abbrev pub rows_from : ℕ → ℕ → ℕ → ℕ → (ℕ → List ℕ) → List ℕ
rows_from version j zero x rest = rest x
rows_from version j (suc rows) x rest =
    let site = draw x in
    let clicks = draw site in
    let low = draw clicks in
    row_record version j site clicks low ++ rows_from version (j + 1) rows low rest

-- every twenty-fifth version is followed by an expiry
abbrev pub expiry_after : ℕ → List ℕ
expiry_after version = if version % 25 == 24 then codes "expire," ++ decimal (version - 10) ++ 10 ∷ [] else []

-- so many versions from one on, each of four rows, its end, a work, and perhaps an expiry
abbrev pub versions_from : ℕ → ℕ → ℕ → List ℕ
versions_from version zero x = []
versions_from version (suc versions) x = rows_from version 0 4 x (λ y. codes "commit\nwork,facts\n" ++ expiry_after version ++ versions_from (version + 1) versions y)

-- Generated: the script of a seed with so many versions.
abbrev pub generated : ℕ → ℕ → List ℕ
generated seed versions =
    codes "table,facts,day int;site int,clicks sum;low min;last replace\nview,by_site,facts,site,clicks;low\n"
    ++ versions_from 0 versions seed
    ++ codes "query,facts,latest,,-,clicks;low\nquery,by_site,latest,site<16,,,8\nquery,facts,latest,day=0&site>=48,,,4\n"

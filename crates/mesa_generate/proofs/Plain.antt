-- Records whose fields have no mark of the format in them, as they are written and as they are read.
use Rattle.std.proofs.Common.{◌≡◌, ℕ, zero, suc, ◌+◌, ◌≤◌, ◌==◌, ◌||◌, ◌/◌, ◌%◌, List, [], ◌∷◌, ◌++◌, length, map, Bool, true, false, refl, sym, ap, ◌∙◌, append_assoc, append-nil, arith, ne_eqb, nat_lt}
use Rattle.std.specs.Prelude.{if◌then◌else◌, ℤ, pos, negsuc}
use Rattle.std.specs.Fmt.{decimal, digit_glyph, digits, digits_onto, signed_decimal}
use Rattle.std.specs.List.{AllByRecursion}
use Rattle.std.proofs.lemmas.List.{length-append}
use Rattle.csv.specs.Machine.{next_record}
use Rattle.csv.specs.Reading.{default_config, records_from, records_next}
use Rattle.csv.specs.Writing.{default_writer, field_text, fields_text, is_blank, needs_byte, needs_quotes, read_back, row_body, row_text}
use Rattle.csv.specs.declared.parser.State.TheVariants as st
use Rattle.csv.proofs.RoundTrip.{read-write, rows_text}

-- a field without a mark
abbrev pub IsBare : List ℕ → Type 0
IsBare field = needs_quotes default_writer field ≡ false

bare_more : (b : ℕ) (text : List ℕ) → needs_byte default_writer b ≡ false → IsBare text → IsBare (b ∷ text)
bare_more b text not is = ap (λ (t : Bool). t || needs_quotes default_writer text) not ∙ is

-- ---- numbers

from_48 : (b : ℕ) → 48 ≤ b → needs_byte default_writer b ≡ false
from_48 b low =
    let comma = ne_eqb b 44 (λ e. omega (arith, e, low)) in
    let quote = ne_eqb b 34 (λ e. omega (arith, e, low)) in
    let return = ne_eqb b 13 (λ e. omega (arith, e, low)) in
    let feed = ne_eqb b 10 (λ e. omega (arith, e, low)) in
    rw (comma, quote, return, feed) refl

glyph_low : (d : ℕ) → 48 ≤ digit_glyph false d
glyph_low d = elim (nat_lt d 10) as (λ b. 48 ≤ (if b then 48 + d else 87 + d)) [ true ↦ omega arith | false ↦ omega arith ]

digits_bare : (k n : ℕ) (behind : List ℕ) → IsBare behind → IsBare (digits_onto k 10 false n behind)
digits_bare zero n behind is = is
digits_bare (suc k) n behind is =
    let more = bare_more (digit_glyph false (n % 10)) behind (from_48 (digit_glyph false (n % 10)) (glyph_low (n % 10))) is in
    elim (n / 10 == 0) as (λ b. IsBare (if b then digit_glyph false (n % 10) ∷ behind else digits_onto k 10 false (n / 10) (digit_glyph false (n % 10) ∷ behind))) [
      | true ↦ more
      | false ↦ digits_bare k (n / 10) (digit_glyph false (n % 10) ∷ behind) more
    ]

pub decimal_bare : (n : ℕ) → IsBare (decimal n)
unfolding digits
decimal_bare n = digits_bare 64 n [] refl

pub signed_bare : (z : ℤ) → IsBare (signed_decimal z)
signed_bare (pos n) = decimal_bare n
signed_bare (negsuc n) = bare_more 45 (decimal (suc n)) refl (decimal_bare (suc n))

-- ---- records as they are written

-- fields with a comma between them, and a line break behind the last
abbrev pub joined : List ℕ → List (List ℕ) → List ℕ
joined field [] = field ++ 10 ∷ []
joined field (next ∷ fields) = field ++ 44 ∷ joined next fields

field_bare : (field : List ℕ) → IsBare field → field_text default_writer field ≡ field
field_bare field is = rw is refl

fields_bare : (field : List ℕ) (fields : List (List ℕ)) → IsBare field → AllByRecursion IsBare fields → (field_text default_writer field ++ fields_text default_writer fields) ++ 10 ∷ [] ≡ joined field fields
unfolding fields_text
fields_bare field [] is all = ap (λ (t : List ℕ). t ++ 10 ∷ []) (append-nil (field_text default_writer field) ∙ field_bare field is)
fields_bare field (next ∷ fields) is all =
    append_assoc (field_text default_writer field) (44 ∷ (field_text default_writer next ++ fields_text default_writer fields)) (10 ∷ [])
    ∙ (λ i. field_bare field is i ++ 44 ∷ fields_bare next fields all.0 all.1 i)

-- a record of two fields or more
pub row_bare : (field next : List ℕ) (fields : List (List ℕ)) → IsBare field → IsBare next → AllByRecursion IsBare fields → row_text default_writer (field ∷ next ∷ fields) ≡ joined field (next ∷ fields)
unfolding is_blank
row_bare field next fields is also all = fields_bare field (next ∷ fields) is (also, all)

-- ---- records as they are read

pub rows_both : (rows more : List (List (List ℕ))) → rows_text (rows ++ more) ≡ rows_text rows ++ rows_text more
unfolding rows_text
rows_both [] more = refl
rows_both (row ∷ rows) more = ap (λ (t : List ℕ). row_text default_writer row ++ t) (rows_both rows more) ∙ sym (append_assoc (row_text default_writer row) (rows_text rows) (rows_text more))

none_read : (n : ℕ) → records_from default_config n st.StartRecord [] ≡ []
unfolding records_from next_record
none_read zero = refl
none_read (suc n) = refl

-- as many records as were written are read, however many may be
pub rows_read : (rows : List (List (List ℕ))) (n : ℕ) → length rows ≤ n → records_from default_config n st.StartRecord (rows_text rows) ≡ map read_back rows
unfolding records_from rows_text
rows_read [] n le = none_read n
rows_read (row ∷ rows) zero le = absurd (omega (arith, le))
rows_read (row ∷ rows) (suc n) le = ap (records_next (records_from default_config n)) (read-write row (rows_text rows)) ∙ ap (λ (t : List (List (List ℕ))). read_back row ∷ t) (rows_read rows n (omega (arith, le)))

-- each record is a byte long or longer
pub rows_long : (rows : List (List (List ℕ))) → length rows ≤ length (rows_text rows)
unfolding rows_text
rows_long [] = omega arith
rows_long (row ∷ rows) =
    let rest = rows_long rows in
    let both = length-append (row_text default_writer row) (rows_text rows) in
    omega (arith, rest, both, row_long row)
  where
    row_long : (row : List (List ℕ)) → 1 ≤ length (row_text default_writer row)
    row_long row =
        let blank : List ℕ = if is_blank default_writer row then 34 ∷ 34 ∷ [] else [] in
        omega (arith, length-append (row_body default_writer row) (blank ++ 10 ∷ []), length-append blank (10 ∷ []))

-- Numbers and bytes, both ways.
use Rattle.std.proofs.Common.{◌≡◌, ℕ, ◌+◌, ◌<◌, ◌^◌, List, [], ◌∷◌, ◌++◌, length, get_or, refl, sym, ap, subst, ◌∙◌, arith, Bool, true, false, Ok, Err}
use Rattle.std.specs.Prelude.{ℤ, take, nat_lt, if◌then◌else◌}
use Rattle.std.specs.Int.{w16, w32, w64, w128, from_be_bytes, to_be_bytes, cast_signed, cast_unsigned}
use Rattle.std.proofs.Math.Facts.{Fits-of_z, sfits_to_z}
use Rattle.std.proofs.Math.Seq.{drop-append_seam, take-append_seam}
use Rattle.std.proofs.lemmas.Bool.{le-ltb, ltb-false}
use Rattle.std.proofs.lemmas.Int.{of_z-to_z, to_z-of_z}
use Rattle.std.proofs.lemmas.List.{length-append, length-take-le, take-append-drop}
use Rattle.std.proofs.lemmas.Nat.{be_bytes_2, be_bytes_4, be_bytes_8, from_be_bytes-to_be_bytes_2, from_be_bytes-to_be_bytes_4, from_be_bytes-to_be_bytes_8}
use Rattle.mesa_file.proofs.mesa_list.WideBytes.{be_bytes_16, from_be_bytes-to_be_bytes_16}
use Rattle.mesa_columns.specs.mesa_value.Agg.{IsAmount, IsNarrow}
use Rattle.mesa_record_fields.specs.declared.edition.Edition.{Edition}
use Rattle.mesa_record_fields.specs.declared.edition.Edition.TheVariants.{First, Second, Third, Fourth}
use Rattle.mesa_record_fields.specs.declared.error.RecordError.TheVariants as fault
use Rattle.mesa_record_fields.specs.Reading.{Left, Read, aggregate_at, amount_at, total_at, wide_amount_at, wide_at, behind, byte_at, half_at, long_at, piece_at, word_at}
use Rattle.mesa_record_fields.specs.Rules.{IsHalf, IsLong, IsTotal, IsWord}
use Rattle.mesa_record_fields.specs.Spelling.{aggregate, amount, half, long, total, wide, word}
use Rattle.mesa_record_fields.proofs.Both.{Again, Begins, Bytes, Found, byte_in, here, of_ok, step_of, taken}

-- ---- pieces

pub piece_again : (p : List ℕ) (n at : ℕ) (more : List ℕ) → length p ≡ n → piece_at n (here at (p ++ more)) ≡ Ok (p, here (at + n) more)
piece_again p n at more h =
    let whole : nat_lt (length (p ++ more)) (length p) ≡ false = le-ltb _ _ (omega (arith, length-append p more)) in
    subst (λ n. piece_at n (here at (p ++ more)) ≡ Ok (p, here (at + n) more)) h (rw (whole, take-append_seam, drop-append_seam) refl)

pub record FoundPiece (n : ℕ) (l : Left) (p : List ℕ) (after : Left) : Type 0 where
  pub len : length p ≡ n
  pub bytes : Bytes p
  pub begins : Begins l p after

found_piece : (short : Bool) (n : ℕ) (l after : Left) (p : List ℕ) → Bytes l.bytes → nat_lt (length l.bytes) n ≡ short
    → if◌then◌else◌ {A = Read (List ℕ)} short (Err (fault.Truncated l.at)) (Ok (take n l.bytes, behind n l)) ≡ Ok (p, after) → FoundPiece n l p after
found_piece true n l after p bytes short h = absurd cc
found_piece false n l after p bytes short h =
    let all = taken n l.bytes bytes in
    subst (λ (x : List ℕ × Left). FoundPiece n l x.0 x.1)
    (of_ok _ (take n l.bytes, behind n l) (p, after) refl h)
    (record {
      len = length-take-le n l.bytes (ltb-false (length l.bytes) n short);
      bytes = all.0;
      begins = record { split = sym (take-append-drop n l.bytes); rest = all.1 };
    })

pub piece_found : (n : ℕ) (l after : Left) (p : List ℕ) → Bytes l.bytes → piece_at n l ≡ Ok (p, after) → FoundPiece n l p after
piece_found n l after p bytes h = found_piece (nat_lt (length l.bytes) n) n l after p bytes refl h

-- a number that is made of a piece, read and spelled by two functions that undo each other
number_found : {N : Type 0} (n : ℕ) (of : List ℕ → N) (spell : N → List ℕ) (Is : N → Type 0)
    → ((p : List ℕ) → length p ≡ n → Bytes p → Is (of p) × (spell (of p) ≡ p))
    → (l after : Left) (x : N) → Bytes l.bytes → (y : List ℕ × Left) → piece_at n l ≡ Ok y → ◌≡◌ {A = N × Left} (of y.0, y.1) (x, after) → Is x × Begins l (spell x) after
number_found {N = N} n of spell Is each l after x bytes y h same =
    let found = piece_found n l y.1 y.0 bytes h in
    let is = each y.0 found.len found.bytes in
    subst (λ (z : N × Left). Is z.0 × Begins l (spell z.0) z.1) same (is.0, record { split = found.begins.split ∙ ap (λ p. p ++ y.1.bytes) (sym is.1); rest = found.begins.rest })

-- ---- bytes

pub byte_again : (b at : ℕ) (more : List ℕ) → byte_at (here at (b ∷ more)) ≡ Ok (b, here (at + 1) more)
byte_again b at more = rw (piece_again (b ∷ []) 1 at more refl) refl

abbrev pub one : ℕ → List ℕ
one b = b ∷ []

one_byte : (p : List ℕ) → length p ≡ 1 → Bytes p → (get_or p 0 0 < 2 ^ 8) × (one (get_or p 0 0) ≡ p)
one_byte [] len bytes = absurd cc
one_byte (b ∷ []) len bytes = (bytes.0, refl)
one_byte (b ∷ c ∷ p) len bytes = absurd (omega (arith, len))

pub byte_found : Found byte_at one (λ b. b < 2 ^ 8)
byte_found l after b bytes h =
    let s = step_of (piece_at 1 l) _ _ h in
    number_found 1 (λ p. get_or p 0 0) one (λ b. b < 2 ^ 8) one_byte l after b bytes s.0 s.1 (of_ok _ _ _ refl s.2)

-- ---- numbers of two, four and eight bytes

pub half_again : (n : ℕ) → IsHalf n → Again half_at (half n) n
unfolding half
half_again n small at more = (at + 2, rw (piece_again (to_be_bytes w16 n) 2 at more refl, from_be_bytes-to_be_bytes_2 n small) refl)

pub half_of : (p : List ℕ) → length p ≡ 2 → Bytes p → IsHalf (from_be_bytes w16 p) × (half (from_be_bytes w16 p) ≡ p)
unfolding half
half_of p len bytes = let b = byte_in p bytes in (omega (arith, b 0, b 1), be_bytes_2 p (from_be_bytes w16 p) len b refl)

pub half_found : Found half_at half IsHalf
half_found l after n bytes h =
    let s = step_of (piece_at 2 l) _ _ h in
    number_found 2 (from_be_bytes w16) half IsHalf half_of l after n bytes s.0 s.1 (of_ok _ _ _ refl s.2)

pub word_again : (n : ℕ) → IsWord n → Again word_at (word n) n
unfolding word
word_again n small at more = (at + 4, rw (piece_again (to_be_bytes w32 n) 4 at more refl, from_be_bytes-to_be_bytes_4 n small) refl)

word_of : (p : List ℕ) → length p ≡ 4 → Bytes p → IsWord (from_be_bytes w32 p) × (word (from_be_bytes w32 p) ≡ p)
unfolding word
word_of p len bytes = let b = byte_in p bytes in (omega (arith, b 0, b 1, b 2, b 3), be_bytes_4 p (from_be_bytes w32 p) len b refl)

pub word_found : Found word_at word IsWord
word_found l after n bytes h =
    let s = step_of (piece_at 4 l) _ _ h in
    number_found 4 (from_be_bytes w32) word IsWord word_of l after n bytes s.0 s.1 (of_ok _ _ _ refl s.2)

pub long_again : (n : ℕ) → IsLong n → Again long_at (long n) n
unfolding long
long_again n small at more = (at + 8, rw (piece_again (to_be_bytes w64 n) 8 at more refl, from_be_bytes-to_be_bytes_8 n small) refl)

long_of : (p : List ℕ) → length p ≡ 8 → Bytes p → IsLong (from_be_bytes w64 p) × (long (from_be_bytes w64 p) ≡ p)
unfolding long
long_of p len bytes = let b = byte_in p bytes in (omega (arith, b 0, b 1, b 2, b 3, b 4, b 5, b 6, b 7), be_bytes_8 p (from_be_bytes w64 p) len b refl)

pub long_found : Found long_at long IsLong
long_found l after n bytes h =
    let s = step_of (piece_at 8 l) _ _ h in
    number_found 8 (from_be_bytes w64) long IsLong long_of l after n bytes s.0 s.1 (of_ok _ _ _ refl s.2)

-- ---- amounts

pub amount_again : (z : ℤ) → IsNarrow z → Again amount_at (amount z) z
unfolding long
amount_again z fits at more =
    let small : cast_unsigned w64 z < 2 ^ 64 = omega (arith, Fits-of_z {w = w64} {z = z} fits) in
    (at + 8, rw (piece_again (to_be_bytes w64 (cast_unsigned w64 z)) 8 at more refl, from_be_bytes-to_be_bytes_8 (cast_unsigned w64 z) small, to_z-of_z w64 z fits) refl)

amount_of : (p : List ℕ) → length p ≡ 8 → Bytes p → IsNarrow (cast_signed w64 (from_be_bytes w64 p)) × (amount (cast_signed w64 (from_be_bytes w64 p)) ≡ p)
amount_of p len bytes =
    let is = long_of p len bytes in
    (sfits_to_z {w = w64} {n = from_be_bytes w64 p} (omega (arith, is.0)), ap long (of_z-to_z w64 (from_be_bytes w64 p) is.0) ∙ is.1)

pub amount_found : Found amount_at amount IsNarrow
amount_found l after z bytes h =
    let s = step_of (piece_at 8 l) _ _ h in
    number_found 8 (λ p. cast_signed w64 (from_be_bytes w64 p)) amount IsNarrow amount_of l after z bytes s.0 s.1 (of_ok _ _ _ refl s.2)

-- ---- numbers of sixteen bytes

pub wide_again : (n : ℕ) → IsTotal n → Again wide_at (wide n) n
unfolding wide
wide_again n small at more = (at + 16, rw (piece_again (to_be_bytes w128 n) 16 at more refl, from_be_bytes-to_be_bytes_16 n small) refl)

wide_of : (p : List ℕ) → length p ≡ 16 → Bytes p → IsTotal (from_be_bytes w128 p) × (wide (from_be_bytes w128 p) ≡ p)
unfolding wide
wide_of p len bytes =
    let b = byte_in p bytes in
    (omega (arith, b 0, b 1, b 2, b 3, b 4, b 5, b 6, b 7, b 8, b 9, b 10, b 11, b 12, b 13, b 14, b 15), be_bytes_16 p (from_be_bytes w128 p) len b refl)

pub wide_found : Found wide_at wide IsTotal
wide_found l after n bytes h =
    let s = step_of (piece_at 16 l) _ _ h in
    number_found 16 (from_be_bytes w128) wide IsTotal wide_of l after n bytes s.0 s.1 (of_ok _ _ _ refl s.2)

wide_amount_again : (z : ℤ) → IsAmount z → Again wide_amount_at (aggregate Second z) z
unfolding wide
wide_amount_again z fits at more =
    let small : cast_unsigned w128 z < 2 ^ 128 = omega (arith, Fits-of_z {w = w128} {z = z} fits) in
    (at + 16, rw (piece_again (to_be_bytes w128 (cast_unsigned w128 z)) 16 at more refl, from_be_bytes-to_be_bytes_16 (cast_unsigned w128 z) small, to_z-of_z w128 z fits) refl)

wide_amount_of : (p : List ℕ) → length p ≡ 16 → Bytes p → IsAmount (cast_signed w128 (from_be_bytes w128 p)) × (aggregate Second (cast_signed w128 (from_be_bytes w128 p)) ≡ p)
wide_amount_of p len bytes =
    let is = wide_of p len bytes in
    (sfits_to_z {w = w128} {n = from_be_bytes w128 p} (omega (arith, is.0)), ap wide (of_z-to_z w128 (from_be_bytes w128 p) is.0) ∙ is.1)

wide_amount_found : Found wide_amount_at (aggregate Second) IsAmount
wide_amount_found l after z bytes h =
    let s = step_of (piece_at 16 l) _ _ h in
    number_found 16 (λ p. cast_signed w128 (from_be_bytes w128 p)) (aggregate Second) IsAmount wide_amount_of l after z bytes s.0 s.1 (of_ok _ _ _ refl s.2)

-- ---- aggregates and totals of an edition

abbrev pub IsAggregate : Edition → ℤ → Type 0
IsAggregate First z = IsNarrow z
IsAggregate Second z = IsAmount z
IsAggregate Third z = IsAmount z
IsAggregate Fourth z = IsAmount z

pub aggregate_again : (e : Edition) (z : ℤ) → IsAggregate e z → Again (aggregate_at e) (aggregate e z) z
aggregate_again First = amount_again
aggregate_again Second = wide_amount_again
aggregate_again Third = wide_amount_again
aggregate_again Fourth = wide_amount_again

pub aggregate_found : (e : Edition) → Found (aggregate_at e) (aggregate e) (IsAggregate e)
aggregate_found First = amount_found
aggregate_found Second = wide_amount_found
aggregate_found Third = wide_amount_found
aggregate_found Fourth = wide_amount_found

abbrev pub IsTotalIn : Edition → ℕ → Type 0
IsTotalIn First n = IsLong n
IsTotalIn Second n = IsTotal n
IsTotalIn Third n = IsTotal n
IsTotalIn Fourth n = IsTotal n

pub total_again : (e : Edition) (n : ℕ) → IsTotalIn e n → Again (total_at e) (total e n) n
total_again First = long_again
total_again Second = wide_again
total_again Third = wide_again
total_again Fourth = wide_again

pub total_found : (e : Edition) → Found (total_at e) (total e) (IsTotalIn e)
total_found First = long_found
total_found Second = wide_found
total_found Third = wide_found
total_found Fourth = wide_found

-- References to files, and totals, both ways.
use Rattle.std.proofs.Common.{◌≡◌, inl, inr, arith, [], ◌∷◌, ℕ, ◌+◌, ◌<◌, ◌^◌, List, ◌++◌, length, refl, sym, ap, subst, ◌∙◌, append_assoc, Bool, true, false, Ok, Some}
use Rattle.std.specs.Prelude.{IsTrue, ◌&&◌, nat_le}
use Rattle.std.proofs.lemmas.Bool.{ltb-true, lt-ltb}
use Rattle.mesa_columns.specs.mesa_list.Checks.{◌>>=◌}
use Rattle.mesa_file.proofs.mesa_list.Whole.{both}
use Rattle.std.specs.Prelude.{ℤ, ◌==◌}
use Rattle.std.specs.List.{AllByRecursion}
use Rattle.std.proofs.lemmas.Bool.{eqb-true}
use Rattle.mesa_columns.specs.mesa_value.Agg.{IsAmount}
use Rattle.mesa_file.specs.mesa_key.declared.Format.{Format}
use Rattle.mesa_file.specs.mesa_key.declared.Format.TheVariants as format
use Rattle.mesa_record_fields.specs.declared.edition.Edition.{Edition}
use Rattle.mesa_record_fields.specs.declared.edition.Edition.TheVariants.{First, Second, Third, Fourth}
use Rattle.mesa_file.specs.declared.file_ref.FileRef.{FileRef}
use Rattle.mesa_record_fields.specs.Reading.{Left, Read, aggregate_at, aggregates_at, format_at, format_of, total_at, file_ref_at, key_at, long_at, not_zero, piece_at, ruled, totals_at, word_at}
use Rattle.mesa_record_fields.specs.Rules.{FitsRef, FitsTotals, IsLong, IsTotal, IsTypedRef, IsWord, is_count_of_columns, is_file_ref, is_key_length}
use Rattle.mesa_record_fields.specs.Spelling.{aggregate, counted, format_byte, format_field, total, file_keys, file_ref, file_sizes, key, long, word}
use Rattle.mesa_record_fields.proofs.Both.{Again, Begins, Found, begins_two, here, ok_is, step_of}
use Rattle.mesa_record_fields.proofs.Numbers.{IsAggregate, IsTotalIn, aggregate_again, aggregate_found, total_again, total_found, long_again, long_found, piece_again, piece_found, word_again, word_found}
use Rattle.mesa_record_fields.proofs.Texts.{key_again, key_found, meaning_again, meaning_found, ruled_again, ruled_found}
use Rattle.mesa_record_fields.proofs.ColumnsBoth.{first_of_two, counted_again, counted_found}

pub all_true : (a b : Bool) → IsTrue a → IsTrue b → IsTrue (a && b)
all_true true b x y = y
all_true false b x y = absurd cc

-- ---- what an edition has room for

-- a number that an edition has room for is an amount
wider : (e : Edition) (z : ℤ) → IsAggregate e z → IsAmount z
wider First z h = omega (arith, h)
wider Second z h = h
wider Third z h = h
wider Fourth z h = h

pub all_wider : (e : Edition) (zs : List ℤ) → AllByRecursion (IsAggregate e) zs → AllByRecursion IsAmount zs
all_wider e [] all = tt
all_wider e (z ∷ zs) all = (wider e z all.0, all_wider e zs all.1)

wider_total : (e : Edition) (n : ℕ) → IsTotalIn e n → IsTotal n
wider_total First n h = omega (arith, h)
wider_total Second n h = h
wider_total Third n h = h
wider_total Fourth n h = h

pub totals_wider : (e : Edition) (ns : List ℕ) → AllByRecursion (IsTotalIn e) ns → AllByRecursion IsTotal ns
totals_wider e [] all = tt
totals_wider e (n ∷ ns) all = (wider_total e n all.0, totals_wider e ns all.1)

pub totals_fit : (e : Edition) (ns : List ℕ) → AllByRecursion (IsTotalIn e) ns → FitsTotals e ns
totals_fit First ns all = all
totals_fit Second ns all = tt
totals_fit Third ns all = tt
totals_fit Fourth ns all = tt

pub totals_in : (e : Edition) (ns : List ℕ) → AllByRecursion IsTotal ns → FitsTotals e ns → AllByRecursion (IsTotalIn e) ns
totals_in First ns all fits = fits
totals_in Second ns all fits = all
totals_in Third ns all fits = all
totals_in Fourth ns all fits = all

aggregates_in : (e : Edition) (f : FileRef) → IsTypedRef f → FitsRef e f → AllByRecursion (IsAggregate e) f.aggregates
aggregates_in First f typed fits = fits.1
aggregates_in Second f typed fits = typed.aggregates
aggregates_in Third f typed fits = typed.aggregates
aggregates_in Fourth f typed fits = typed.aggregates

-- the format that an edition tells
abbrev TellsFormat : Edition → Format → Type 0
TellsFormat First f = f ≡ format.One
TellsFormat Second f = Unit {0}
TellsFormat Third f = Unit {0}
TellsFormat Fourth f = Unit {0}

format_in : (e : Edition) (f : FileRef) → FitsRef e f → TellsFormat e f.format
format_in First f fits = fits.0
format_in Second f fits = tt
format_in Third f fits = tt
format_in Fourth f fits = tt

ref_fits : (e : Edition) (f : FileRef) → TellsFormat e f.format → AllByRecursion (IsAggregate e) f.aggregates → FitsRef e f
ref_fits First f is all = (is, all)
ref_fits Second f is all = tt
ref_fits Third f is all = tt
ref_fits Fourth f is all = tt

format_meant : (f : Format) → format_of (format_byte f) ≡ Some f
format_meant format.One = refl
format_meant format.Two = refl

format_of_byte : (b : ℕ) (f : Format) → format_of b ≡ Some f → format_byte f ≡ b
format_of_byte b f h = elim (first_of_two (b == 1) format.One f _ h) [
  | inl is ↦ ap format_byte (sym is.1) ∙ sym (eqb-true b 1 is.0)
  | inr h1 ↦ elim (first_of_two (b == 2) format.Two f _ h1) [
    | inl is ↦ ap format_byte (sym is.1) ∙ sym (eqb-true b 2 is.0)
    | inr h2 ↦ absurd cc
  ]
]

format_again : (e : Edition) (f : Format) → TellsFormat e f → Again (format_at e) (format_field e f) f
format_again First f is at more = (at, ap (λ (x : Format). Ok (x, here at more)) (sym is))
format_again Second f is at more = meaning_again format_of (format_byte f) f (format_meant f) at more
format_again Third f is at more = meaning_again format_of (format_byte f) f (format_meant f) at more
format_again Fourth f is at more = meaning_again format_of (format_byte f) f (format_meant f) at more

format_found : (e : Edition) → Found (format_at e) (format_field e) (TellsFormat e)
format_found First l after f bytes h =
    subst (λ (z : Format × Left). (z.0 ≡ format.One) × Begins l [] z.1) (ok_is (format.One, l) (f, after) h) (refl, record { split = refl; rest = bytes })
format_found Second l after f bytes h = let g = meaning_found format_of format_byte format_of_byte l after f bytes h in (tt, g.1)
format_found Third l after f bytes h = let g = meaning_found format_of format_byte format_of_byte l after f bytes h in (tt, g.1)
format_found Fourth l after f bytes h = let g = meaning_found format_of format_byte format_of_byte l after f bytes h in (tt, g.1)

-- a reference within its types that keeps the rules, and that an edition has room for
pub record IsRef (e : Edition) (f : FileRef) : Type 0 where
  pub typed : IsTypedRef f
  pub rules : IsTrue (is_file_ref f)
  pub fits : FitsRef e f

-- the rules of a reference, each by itself
record RefRules (f : FileRef) : Type 0 where
  pub rows : IsTrue (not_zero f.rows)
  pub blocks : IsTrue (not_zero f.blocks)
  pub first : length f.first < 2 ^ 16
  pub last : length f.last < 2 ^ 16
  pub aggregates : IsTrue (is_count_of_columns (length f.aggregates))

ref_rules : (f : FileRef) → IsTrue (is_file_ref f) → RefRules f
ref_rules f h =
    let four = both (not_zero f.rows && not_zero f.blocks && is_key_length (length f.first) && is_key_length (length f.last)) (is_count_of_columns (length f.aggregates)) h in
    let three = both (not_zero f.rows && not_zero f.blocks && is_key_length (length f.first)) (is_key_length (length f.last)) four.0 in
    let two = both (not_zero f.rows && not_zero f.blocks) (is_key_length (length f.first)) three.0 in
    let first = both (not_zero f.rows) (not_zero f.blocks) two.0 in
    record { rows = first.0; blocks = first.1; first = ltb-true _ _ two.1; last = ltb-true _ _ three.1; aggregates = four.1 }

pub file_ref_again : (e : Edition) (f : FileRef) → IsRef e f → Again (file_ref_at e) (file_ref e f) f
unfolding file_ref_at file_ref file_sizes file_keys
file_ref_again e f is at more =
    let rules = ref_rules f is.rules in
    let sums = counted (aggregate e) f.aggregates in
    let b7 = f.digest ++ more in
    let b6 = sums ++ b7 in
    let b5 = key f.last ++ b6 in
    let b4 = key f.first ++ b5 in
    let b3 = word f.blocks ++ b4 in
    let b2 = long f.rows ++ b3 in
    let b1 = long f.len ++ b2 in
    let b0 = long f.id ++ b1 in
    let form = format_again e f.format (format_in e f is.fits) at b0 in
    let id = long_again f.id is.typed.id form.0 b1 in
    let len = long_again f.len is.typed.len id.0 b2 in
    let rows = ruled_again not_zero long_at (long f.rows) f.rows rules.rows (long_again f.rows is.typed.rows) len.0 b3 in
    let blocks = ruled_again not_zero word_at (word f.blocks) f.blocks rules.blocks (word_again f.blocks is.typed.blocks) rows.0 b4 in
    let first = key_again f.first rules.first blocks.0 b5 in
    let last = key_again f.last rules.last first.0 b6 in
    let aggregates = counted_again is_count_of_columns (aggregate_at e) (aggregate e) (IsAggregate e) (aggregate_again e) f.aggregates (aggregates_in e f is.typed is.fits) rules.aggregates last.0 b7 in
    let digest = piece_again f.digest 32 aggregates.0 more is.typed.digest in
    let flat : file_ref e f ++ more ≡ format_field e f.format ++ b0 = simp append_assoc refl in
    (aggregates.0 + 32, ap (λ bytes. file_ref_at e (here at bytes)) flat ∙ rw (form.1, id.1, len.1, rows.1, blocks.1, first.1, last.1, aggregates.1, digest) refl)

ref_bool : (f : FileRef) → RefRules f → IsTrue (is_file_ref f)
ref_bool f r =
    all_true (not_zero f.rows && not_zero f.blocks && is_key_length (length f.first) && is_key_length (length f.last)) (is_count_of_columns (length f.aggregates))
    (all_true (not_zero f.rows && not_zero f.blocks && is_key_length (length f.first)) (is_key_length (length f.last))
    (all_true (not_zero f.rows && not_zero f.blocks) (is_key_length (length f.first)) (all_true (not_zero f.rows) (not_zero f.blocks) r.rows r.blocks) (lt-ltb _ _ r.first))
    (lt-ltb _ _ r.last))
    r.aggregates

-- the sizes of a reference, within their types and their rules
record AreSizes (id len rows blocks : ℕ) : Type 0 where
  pub id_fits : IsLong id
  pub len_fits : IsLong len
  pub rows_fit : IsLong rows × IsTrue (not_zero rows)
  pub blocks_fit : IsWord blocks × IsTrue (not_zero blocks)

-- what is read of a reference behind its sizes
abbrev behind_sizes : Edition → Format → (id len rows blocks : ℕ) → Left → Read FileRef
behind_sizes e form id len rows blocks l = do
  first ← key_at l
  last ← key_at first.1
  aggregates ← aggregates_at e last.1
  digest ← piece_at 32 aggregates.1
  Ok (record { format = form; id = id; len = len; rows = rows; blocks = blocks; first = first.0; last = last.0; aggregates = aggregates.0; digest = digest.0 }, digest.1)

-- By itself, so that no step of these stands in the types of those before it.
behind_sizes_found : (e : Edition) (form : Format) (id len rows blocks : ℕ) → TellsFormat e form → AreSizes id len rows blocks → (l start mid after : Left) (f : FileRef) → Begins l (format_field e form) start
    → Begins start (long id ++ (long len ++ (long rows ++ word blocks))) mid → behind_sizes e form id len rows blocks mid ≡ Ok (f, after) → IsRef e f × Begins l (file_ref e f) after
unfolding file_ref file_sizes file_keys
behind_sizes_found e form id len rows blocks tells are l start mid after f first_field sizes h =
    let s1 = step_of (key_at mid) _ _ h in
    let f1 = key_found mid s1.0.1 s1.0.0 sizes.rest s1.1 in
    let s2 = step_of (key_at s1.0.1) _ _ s1.2 in
    let f2 = key_found s1.0.1 s2.0.1 s2.0.0 f1.1.rest s2.1 in
    let s3 = step_of (aggregates_at e s2.0.1) _ _ s2.2 in
    let f3 = counted_found is_count_of_columns (aggregate_at e) (aggregate e) (IsAggregate e) (aggregate_found e) s2.0.1 s3.0.1 s3.0.0 f2.1.rest s3.1 in
    let s4 = step_of (piece_at 32 s3.0.1) _ _ s3.2 in
    let f4 = piece_found 32 s3.0.1 s4.0.1 s4.0.0 f3.1.rest s4.1 in
    let file : FileRef = record { format = form; id = id; len = len; rows = rows; blocks = blocks; first = s1.0.0; last = s2.0.0; aggregates = s3.0.0; digest = s4.0.0 } in
    let keys : Begins mid (file_keys file) s2.0.1 = begins_two mid s1.0.1 s2.0.1 _ _ f1.1 f2.1 in
    let rest : Begins s2.0.1 (counted (aggregate e) file.aggregates ++ file.digest) s4.0.1 = begins_two s2.0.1 s3.0.1 s4.0.1 _ _ f3.1 f4.begins in
    let rules : RefRules file = record { rows = are.rows_fit.1; blocks = are.blocks_fit.1; first = f1.0; last = f2.0; aggregates = f3.0.count } in
    let typed : IsTypedRef file = record { id = are.id_fits; len = are.len_fits; rows = are.rows_fit.0; blocks = are.blocks_fit.0; aggregates = all_wider e file.aggregates f3.0.all; digest = f4.len } in
    subst (λ (z : FileRef × Left). IsRef e z.0 × Begins l (file_ref e z.0) z.1) (ok_is (file, s4.0.1) (f, after) s4.2)
    (record { typed = typed; rules = ref_bool file rules; fits = ref_fits e file tells f3.0.all }, begins_two l start s4.0.1 _ _ first_field (begins_two start mid s4.0.1 _ _ sizes (begins_two mid s2.0.1 s4.0.1 _ _ keys rest)))

pub file_ref_found : (e : Edition) → Found (file_ref_at e) (file_ref e) (IsRef e)
unfolding file_ref_at
file_ref_found e l after f bytes h =
    let s0 = step_of (format_at e l) _ _ h in
    let f0 = format_found e l s0.0.1 s0.0.0 bytes s0.1 in
    let s1 = step_of (long_at s0.0.1) _ _ s0.2 in
    let f1 = long_found s0.0.1 s1.0.1 s1.0.0 f0.1.rest s1.1 in
    let s2 = step_of (long_at s1.0.1) _ _ s1.2 in
    let f2 = long_found s1.0.1 s2.0.1 s2.0.0 f1.1.rest s2.1 in
    let s3 = step_of (ruled not_zero long_at s2.0.1) _ _ s2.2 in
    let f3 = ruled_found not_zero long_at long IsLong long_found s2.0.1 s3.0.1 s3.0.0 f2.1.rest s3.1 in
    let s4 = step_of (ruled not_zero word_at s3.0.1) _ _ s3.2 in
    let f4 = ruled_found not_zero word_at word IsWord word_found s3.0.1 s4.0.1 s4.0.0 f3.1.rest s4.1 in
    let are : AreSizes s1.0.0 s2.0.0 s3.0.0 s4.0.0 = record { id_fits = f1.0; len_fits = f2.0; rows_fit = f3.0; blocks_fit = f4.0 } in
    let sizes = begins_two s0.0.1 s1.0.1 s4.0.1 _ _ f1.1 (begins_two s1.0.1 s2.0.1 s4.0.1 _ _ f2.1 (begins_two s2.0.1 s3.0.1 s4.0.1 _ _ f3.1 f4.1)) in
    behind_sizes_found e s0.0.0 s1.0.0 s2.0.0 s3.0.0 s4.0.0 f0.0 are l s0.0.1 s4.0.1 after f f0.1 sizes s4.2

-- ---- totals

pub totals_again : (e : Edition) (totals : List ℕ) → AllByRecursion IsTotal totals → FitsTotals e totals → IsTrue (nat_le (length totals) 16) → Again (totals_at e) (counted (total e) totals) totals
totals_again e totals typed fits few = counted_again (λ n. nat_le n 16) (total_at e) (total e) (IsTotalIn e) (total_again e) totals (totals_in e totals typed fits) few

-- totals within their type, no more of them than there may be, with room in an edition
pub record AreTotals (e : Edition) (totals : List ℕ) : Type 0 where
  pub typed : AllByRecursion IsTotal totals
  pub few : IsTrue (nat_le (length totals) 16)
  pub fits : FitsTotals e totals

pub totals_found : (e : Edition) → Found (totals_at e) (counted (total e)) (AreTotals e)
totals_found e l after totals bytes h =
    let f = counted_found (λ n. nat_le n 16) (total_at e) (total e) (IsTotalIn e) (total_found e) l after totals bytes h in
    (record { typed = totals_wider e totals f.0.all; few = f.0.count; fits = totals_fit e totals f.0.all }, f.1)

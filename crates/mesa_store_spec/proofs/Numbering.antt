-- The number of the next checkpoint, and what its body states.
use Rattle.std.proofs.Common.{◌≡◌, ℕ, ◌+◌, ◌%◌, ◌^◌, ◌<◌, ◌≤◌, List, [], ◌∷◌, Option, Some, None, Result, Ok, Err, Bool, true, false, ◌&&◌, ◌==◌, nat_le, refl, sym, ap, ◌∙◌, subst, arith}
use Rattle.std.proofs.lemmas.Bool.Decides.{nat_tests}
use Rattle.std.proofs.lemmas.Nat.{from_be_bytes-to_be_bytes_4}
use Rattle.std.specs.Prelude.{if◌then◌else◌}
use Rattle.std.specs.List.{AllByRecursion}
use Rattle.mesa_delta_format.specs.mesa_key.Spelling.{AreBytes}
use Rattle.mesa_commit.specs.mesa_disk.declared.area.Area.{Area}
use Rattle.mesa_commit.specs.mesa_disk.declared.area.Area.TheVariants.{Zero, One}
use Rattle.mesa_commit.specs.mesa_journal.Areas.{Leads, is_checkpoint, number_in, number_of, other_of}
use Rattle.mesa_commit.specs.mesa_journal.Journal.{of_word}
use Rattle.mesa_record.specs.declared.record.Record.{Record}
use Rattle.mesa_record.specs.declared.record.Record.TheVariants as record_of
use Rattle.mesa_record.specs.mesa_record_fields.declared.error.RecordError.{RecordError}
use Rattle.mesa_record.specs.declared.checkpoint.Checkpoint.{Checkpoint}
use Rattle.mesa_record.specs.mesa_record_fields.declared.edition.Edition.{Edition}
use Rattle.mesa_record.specs.mesa_record_fields.declared.edition.Edition.TheVariants.{First, Second, Third, Fourth}
use Rattle.mesa_record.specs.Editions.{IsSpelled}
use Rattle.mesa_record.specs.Reading.{record_at}
use Rattle.mesa_record.specs.Rules.{IsRecord}
use Rattle.mesa_record.specs.mesa_record_fields.Spelling.{word}
use Rattle.mesa_record.specs.Spelling.{spelled_in}
use Rattle.mesa_record.proofs.RecordsBoth.{record_again, record_found}
use Rattle.mesa_store_spec.specs.Checkpoint.{checkpoint_body, checkpoint_of, stated}
use Rattle.mesa_store_spec.specs.CheckpointFits.{checkpoint_fits, counts_fit, number_fits, tables_fit}
use Rattle.mesa_store_spec.specs.Catalog.{Catalog}
use Rattle.mesa_store_spec.specs.Fitting.{then_bodies, catalog_from}
use Rattle.mesa_store_spec.specs.Journaled.{catalog, checkpoint_in, first_body, first_by, first_read, stated_if}
use Rattle.mesa_store_spec.proofs.Lists.{both_true, is_equal}
use Rattle.mesa_store_spec.proofs.Stating.{catalog_again}
use Rattle.mesa_store_spec.proofs.StatedFits.{counts_ok, tables_fitted, two_true}
use Rattle.mesa_store_spec.proofs.Recordable.{checkpoint_recordable, fourth_fits}
use Rattle.mesa_store_spec.proofs.OneMore.{checkpoint_is}
use Rattle.mesa_store_spec.proofs.Wholes.{catalog_whole}

-- ---- a checkpoint's body

-- a checkpoint that fits states its catalogue
pub body_states : (area : Area) (k : Checkpoint) → IsRecord (record_of.Checkpoint k) → checkpoint_fits area k ≡ true → catalog area (checkpoint_body k ∷ []) ≡ Some (stated k)
unfolding catalog_from
body_states area k is fit =
    ap (λ o. then_bodies o (λ c. catalog_from c []))
    (ap (first_read area) (record_again Fourth (record_of.Checkpoint k) is (fourth_fits k)) ∙ ap (stated_if k) fit)

-- ---- numbers

stated_number : (e : Edition) (k : Checkpoint) → k.number < 2 ^ 32 → number_in (spelled_in e (record_of.Checkpoint k)) ≡ k.number
unfolding number_in of_word word spelled_in
stated_number First k small = from_be_bytes-to_be_bytes_4 k.number small
stated_number Second k small = from_be_bytes-to_be_bytes_4 k.number small
stated_number Third k small = from_be_bytes-to_be_bytes_4 k.number small
stated_number Fourth k small = from_be_bytes-to_be_bytes_4 k.number small

other_number : (kind : ℕ) (rest : List ℕ) → is_checkpoint kind ≡ false → number_in (kind ∷ rest) ≡ 0
unfolding number_in
other_number kind [] e = refl
other_number kind (a ∷ []) e = refl
other_number kind (a ∷ b ∷ []) e = refl
other_number kind (a ∷ b ∷ c ∷ []) e = refl
other_number kind (a ∷ b ∷ c ∷ d ∷ rest) e = ap (λ t. if◌then◌else◌ {A = ℕ} t (of_word (a ∷ b ∷ c ∷ d ∷ [])) 0) e

-- whether a kind is that of a checkpoint, in each edition
record_number : (e : Edition) (r : Record) → checkpoint_in r ≡ None → number_in (spelled_in e r) ≡ 0
unfolding spelled_in
record_number e (record_of.Run number) is = other_number 1 _ refl
record_number e (record_of.Table name keys values) is = other_number 2 _ refl
record_number e (record_of.View table name keys values) is = other_number 3 _ refl
record_number e (record_of.Alter table c) is = other_number 4 _ refl
record_number First (record_of.Publish version parts) is = other_number 5 _ refl
record_number Second (record_of.Publish version parts) is = other_number 9 _ refl
record_number Third (record_of.Publish version parts) is = other_number 9 _ refl
record_number Fourth (record_of.Publish version parts) is = other_number 9 _ refl
record_number First (record_of.Swap table base from to epoch f) is = other_number 6 _ refl
record_number Second (record_of.Swap table base from to epoch f) is = other_number 10 _ refl
record_number Third (record_of.Swap table base from to epoch f) is = other_number 10 _ refl
record_number Fourth (record_of.Swap table base from to epoch f) is = other_number 10 _ refl
record_number e (record_of.Expire version) is = other_number 7 _ refl
record_number e (record_of.ExpireTable table version) is = other_number 12 _ refl
record_number e (record_of.Checkpoint k) is = absurd (cc)
record_number e (record_of.Recast k) is = other_number 14 _ refl

-- the number behind one that an area takes, the other takes
next_fits : (area : Area) (n : ℕ) → number_fits area n ≡ true → number_fits (other_of area) (n + 1) ≡ true
next_fits Zero n e =
    let both = both_true (nat_le 2 n) (n % 2 == 0) e in
    let even : n % 2 ≡ 0 = is_equal (n % 2) 0 both.1 in
    let odd : (n + 1) % 2 ≡ 1 = omega (arith, even) in
    (let t : ((n + 1) % 2 == 1) ≡ true = grind (arith, nat_tests) in t)
next_fits One n e =
    let odd : n % 2 ≡ 1 = is_equal (n % 2) 1 e in
    let even : (n + 1) % 2 ≡ 0 = omega (arith, odd) in
    let two : 2 ≤ n + 1 = omega (arith, odd) in
    ap (λ b. b && ((n + 1) % 2 == 0)) (let t : nat_le 2 (n + 1) ≡ true = grind (arith, nat_tests) in t) ∙ (let u : ((n + 1) % 2 == 0) ≡ true = grind (arith, nat_tests) in u)

-- what the first body of an area has for a number
some_none : {A : Type 0} (x : A) → ◌≡◌ {A = Option A} None (Some x) → ⊥
some_none x e = cc

fits_of : (k : Checkpoint) (d : Catalog) (b : Bool) → stated_if k b ≡ Some d → b ≡ true
fits_of k d true e = refl
fits_of k d false e = absurd (some_none d e)

-- a checkpoint's number is the one that its area takes
checkpoint_number : (area : Area) (body : List ℕ) (k : Checkpoint) (d : Catalog) → IsRecord (record_of.Checkpoint k) → IsSpelled (record_of.Checkpoint k) body → stated_if k (checkpoint_fits area k) ≡ Some d → number_fits area (number_in body) ≡ true
checkpoint_number area body k d is spelled e =
    let fit = fits_of k d (checkpoint_fits area k) e in
    let number = (both_true (number_fits area k.number) (counts_fit k) (both_true (number_fits area k.number && counts_fit k) (tables_fit k) fit).0).0 in
    ap (number_fits area) (ap number_in (sym spelled.spelled) ∙ stated_number spelled.edition k is.typed.number) ∙ number

record_first : (area : Area) (body : List ℕ) (r : Record) (d : Catalog) → IsRecord r → IsSpelled r body → (o : Option Checkpoint) → checkpoint_in r ≡ o → first_by area r o ≡ Some d → number_fits (other_of area) (number_in body + 1) ≡ true
record_first area body r d is spelled (Some k) found e =
    let same = checkpoint_is r k found in
    next_fits area (number_in body) (checkpoint_number area body k d (subst IsRecord same is) (subst (λ (x : Record). IsSpelled x body) same spelled) e)
record_first Zero body r d is spelled None found e = ap (λ n. number_fits One (n + 1)) (ap number_in (sym spelled.spelled) ∙ record_number spelled.edition r found)
record_first One body r d is spelled None found e = absurd (some_none d e)

first_number : (area : Area) (body : List ℕ) (d : Catalog) → AreBytes body → (o : Result Record RecordError) → record_at body ≡ o → first_read area o ≡ Some d → number_fits (other_of area) (number_in body + 1) ≡ true
first_number area body d bytes (Ok r) reads e = let found = record_found body r bytes reads in record_first area body r d found.0 found.1 (checkpoint_in r) refl e
first_number area body d bytes (Err x) reads e = absurd (some_none d e)

then_first : (o : Option Catalog) (rest : Catalog → Option Catalog) (d : Catalog) → then_bodies o rest ≡ Some d → (b : Catalog) × (o ≡ Some b)
then_first None rest d e = absurd (some_none d e)
then_first (Some b) rest d e = (b, refl)

-- The number behind that of the live area fits the other.
pub next_number : (area : Area) (bodies : List (List ℕ)) (c : Catalog) → AllByRecursion AreBytes bodies → catalog area bodies ≡ Some c → number_fits (other_of area) (number_of bodies + 1) ≡ true
next_number Zero [] c bytes e = refl
next_number One [] c bytes e = absurd (some_none c e)
next_number area (body ∷ bodies) c bytes e =
    let first = then_first (first_body area body) (λ b. catalog_from b bodies) c e in
    first_number area body first.0 bytes.0 (record_at body) refl first.1

-- and makes the other area the live one
leads_by : (area : Area) (body : List ℕ) (bodies : List (List ℕ)) → number_in body ≡ number_of bodies + 1 → Leads area (body ∷ []) bodies
leads_by Zero body [] e = omega arith
leads_by One body [] e = omega arith
leads_by Zero body (b ∷ bodies) e = omega (arith, e)
leads_by One body (b ∷ bodies) e = omega (arith, e)

pub next_leads : (area : Area) (k : Checkpoint) (bodies : List (List ℕ)) → k.number < 2 ^ 32 → k.number ≡ number_of bodies + 1 → Leads area (checkpoint_body k ∷ []) bodies
next_leads area k bodies small is = leads_by area (checkpoint_body k) bodies (stated_number Fourth k small ∙ is)

-- What an opening writes: the checkpoint of a journal's catalogue, with the next number, states that catalogue as the first body of the other area, and is live there.
pub carries_on : (area : Area) (bodies : List (List ℕ)) (c : Catalog) → AllByRecursion AreBytes bodies → catalog area bodies ≡ Some c → number_of bodies + 1 < 2 ^ 32
    → (catalog (other_of area) (checkpoint_body (checkpoint_of (number_of bodies + 1) c) ∷ []) ≡ Some c) × Leads (other_of area) (checkpoint_body (checkpoint_of (number_of bodies + 1) c) ∷ []) bodies
carries_on area bodies c bytes e small =
    let n = number_of bodies + 1 in
    let all = catalog_whole area bodies c bytes e in
    let is : IsRecord (record_of.Checkpoint (checkpoint_of n c)) = checkpoint_recordable c n small all.shaped all.statable all.counted all.recordable in
    let fit : checkpoint_fits (other_of area) (checkpoint_of n c) ≡ true =
    two_true (number_fits (other_of area) n && counts_fit (checkpoint_of n c)) (tables_fit (checkpoint_of n c))
    (two_true (number_fits (other_of area) n) (counts_fit (checkpoint_of n c)) (next_number area bodies c bytes e) (counts_ok c n all.shaped all.counted)) (tables_fitted c n all.shaped all.own all.statable all.counted) in
    (body_states (other_of area) (checkpoint_of n c) is fit ∙ ap (λ (d : Catalog). Some d) (catalog_again c n all.shaped all.statable), next_leads (other_of area) (checkpoint_of n c) bodies small refl)

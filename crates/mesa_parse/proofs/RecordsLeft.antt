-- The records of bytes, one after another.
use Rattle.std.proofs.Common.{◌≡◌, ◌<◌, ◌≤◌, ◌+◌, ℕ, zero, suc, List, [], ◌∷◌, ◌++◌, length, true, false, Bool, refl, ap, ◌∙◌, arith, add-one}
use Rattle.std.specs.Prelude.{Option, Some, None, if◌then◌else◌, ◌==◌, ◌&&◌}
use Rattle.std.proofs.lemmas.Bool.{false≢true}
use Rattle.csv.specs.Machine.{Read, after_end, ends_at_end, ends_with, field_after, fields_after, in_field, is_byte, is_end, next_record, start_field, start_record, step}
use Rattle.csv.specs.Reading.{default_config, is_bom, records_from, records_next, strip_bom}
use Rattle.csv.specs.declared.parser.Config.{Config}
use Rattle.csv.specs.declared.parser.State.{State}
use Rattle.csv.specs.declared.parser.State.TheVariants as st
use Rattle.csv.specs.declared.parser.Action.{Action}
use Rattle.csv.specs.declared.parser.Terminator.{Terminator}
use Rattle.csv.specs.declared.parser.Terminator.TheVariants as term
use Rattle.mesa_script.specs.Script.{records_of}
use Rattle.mesa_parse.specs.Left.{records_at}

-- where a step ends a record, the end of the text ends none
abbrev EndsWell : State × Action → Type 0
EndsWell p = is_end p.1 ≡ true → ends_at_end p.0 ≡ false

pick : (b : Bool) (x y : State × Action) → EndsWell x → EndsWell y → EndsWell (if b then x else y)
pick true x y h k = h
pick false x y h k = k

after-end : (t : Terminator) (c : ℕ) → ends_at_end (after_end t c) ≡ false
after-end term.CRLF c = after-cr (c == 13)
  where
    after-cr : (b : Bool) → ends_at_end (if b then st.AfterCr else st.StartRecord) ≡ false
    after-cr true = refl
    after-cr false = refl
after-end (term.Any t) c = refl

in-field-end : (cfg : Config) (c : ℕ) → EndsWell (in_field cfg c)
in-field-end cfg c = pick (c == cfg.delimiter) _ _ (λ e. absurd (false≢true e)) (pick (ends_with cfg.terminator c) _ _ (λ e. after-end cfg.terminator c) (λ e. absurd (false≢true e)))

start-field-end : (cfg : Config) (c : ℕ) → EndsWell (start_field cfg c)
start-field-end cfg c = pick (cfg.quoting && (c == cfg.quote)) _ _ (λ e. absurd (false≢true e)) (in-field-end cfg c)

start-record-end : (cfg : Config) (c : ℕ) → EndsWell (start_record cfg c)
start-record-end cfg c = pick (ends_with cfg.terminator c) _ _ (λ e. absurd (false≢true e)) (pick (is_byte cfg.comment c) _ _ (λ e. absurd (false≢true e)) (start-field-end cfg c))

step-end : (cfg : Config) (s : State) (c : ℕ) → EndsWell (step cfg s c)
step-end cfg st.StartRecord c = start-record-end cfg c
step-end cfg st.StartField c = start-field-end cfg c
step-end cfg st.InField c = in-field-end cfg c
step-end cfg st.InQuoted c = pick (cfg.quoting && (c == cfg.quote)) _ _ (λ e. absurd (false≢true e)) (pick (cfg.quoting && is_byte cfg.escape c) _ _ (λ e. absurd (false≢true e)) (λ e. absurd (false≢true e)))
step-end cfg st.InEscape c = λ e. absurd (false≢true e)
step-end cfg st.AfterQuote c = pick (cfg.quoting && cfg.double_quote && (c == cfg.quote)) _ _ (λ e. absurd (false≢true e)) (in-field-end cfg c)
step-end cfg st.InComment c = pick (c == 10) _ _ (λ e. absurd (false≢true e)) (λ e. absurd (false≢true e))
step-end cfg st.AfterCr c = pick (c == 10) _ _ (λ e. absurd (false≢true e)) (start-record-end cfg c)

-- what is left behind a record, and the state there
record Behind (xs : List ℕ) (q : Read) : Type 0 where
  fewer : length q.2 ≤ length xs
  between : ends_at_end q.1 ≡ false

at-none : (b : Bool) (r q : Read) → r.1 ≡ st.StartRecord → r.2 ≡ [] → (if b then Some r else None) ≡ Some q → Behind [] q
at-none true r q s e h =
    let same : r ≡ q = cc h in
    record { fewer = rw (← same, e) (omega arith); between = rw (← same, s) refl }
at-none false r q s e h = cc h

at-end : (b : Bool) (r q : Read) (rest : List ℕ) (more : Option Read) → (b ≡ true → ends_at_end r.1 ≡ false) → r.2 ≡ rest → (b ≡ false → more ≡ Some q → Behind rest q)
    → (if b then Some r else more) ≡ Some q → Behind rest q
at-end true r q rest more f e k h =
    let same : r ≡ q = cc h in
    record { fewer = rw (← same, e) (omega arith); between = rw (← same) (f refl) }
at-end false r q rest more f e k h = k refl h

behind : (cfg : Config) (xs : List ℕ) (s : State) (fields : List (List ℕ)) (field : List ℕ) (q : Read) → next_record cfg s fields field xs ≡ Some q → Behind xs q
unfolding next_record
behind cfg [] s fields field q h = at-none (ends_at_end s) (fields ++ (field ∷ []), st.StartRecord, []) q refl refl h
behind cfg (c ∷ rest) s fields field q h =
    let b : Behind rest q = at-end (is_end (step cfg s c).1) (fields_after (step cfg s c).1 fields field, (step cfg s c).0, rest) q rest _ (step-end cfg s c) refl
    (λ e more. behind cfg rest (step cfg s c).0 (fields_after (step cfg s c).1 fields field) (field_after (step cfg s c).1 c field) q more) h in
    record { fewer = omega (arith, b.fewer); between = b.between }

-- a record that begins between records takes a byte
takes-one : (cfg : Config) (xs : List ℕ) (s : State) (q : Read) → ends_at_end s ≡ false → next_record cfg s [] [] xs ≡ Some q → length q.2 < length xs
unfolding next_record
takes-one cfg [] s q e h = absurd (none-some (ends_at_end s) _ q e h)
  where
    none-some : (b : Bool) (r q : Read) → b ≡ false → (if b then Some r else None) ≡ Some q → ⊥
    none-some true r q e h = cc e
    none-some false r q e h = cc h
takes-one cfg (c ∷ rest) s q e h =
    let b : Behind rest q = at-end (is_end (step cfg s c).1) (fields_after (step cfg s c).1 [] [], (step cfg s c).0, rest) q rest _ (step-end cfg s c) refl
    (λ e more. behind cfg rest (step cfg s c).0 (fields_after (step cfg s c).1 [] []) (field_after (step cfg s c).1 c []) q more) h in
    omega (arith, b.fewer)

-- what a record takes shows where the next one begins
record Rest (cfg : Config) (s : State) (xs : List ℕ) (q : Read) : Type 0 where
  shorter : length q.2 < length xs
  between : ends_at_end q.1 ≡ false

rest-of : (cfg : Config) (s : State) (xs : List ℕ) (q : Read) → ends_at_end s ≡ false → next_record cfg s [] [] xs ≡ Some q → Rest cfg s xs q
rest-of cfg s xs q e next = record { shorter = takes-one cfg xs s q e next; between = (behind cfg xs s [] [] q next).between }

-- the same records, however much is allowed for
same-records : (cfg : Config) (n m : ℕ) (s : State) (xs : List ℕ) → ends_at_end s ≡ false → length xs < n → length xs < m → records_from cfg n s xs ≡ records_from cfg m s xs
unfolding records_from
same-records cfg zero m s xs e p q = absurd (omega arith)
same-records cfg (suc n) zero s xs e p q = absurd (omega arith)
same-records cfg (suc n) (suc m) s xs e p q =
    elim (next_record cfg s [] [] xs) as (λ (o : Option Read). next_record cfg s [] [] xs ≡ o → records_next (records_from cfg n) o ≡ records_next (records_from cfg m) o) [
      | None ↦ λ next. refl
      | Some r ↦ λ next.
          let rest = rest-of cfg s xs r e next in
          ap (λ rows. r.0 ∷ rows) (same-records cfg n m r.1 r.2 rest.between (omega (arith, rest.shorter)) (omega (arith, rest.shorter)))
    ] refl

next-of : (cfg : Config) (n : ℕ) (s : State) (xs : List ℕ) (o : Option Read) → next_record cfg s [] [] xs ≡ o → records_from cfg (suc n) s xs ≡ records_next (records_from cfg n) o
unfolding records_from
next-of cfg n s xs o next = ap (records_next (records_from cfg n)) next

-- a record and those behind it
pub records_at-some : (s : State) (xs : List ℕ) (r : Read) → ends_at_end s ≡ false → next_record default_config s [] [] xs ≡ Some r → records_at s xs ≡ r.0 ∷ records_at r.1 r.2
records_at-some s xs r e next =
    let rest = rest-of default_config s xs r e next in
    ap (λ n. records_from default_config n s xs) (add-one (length xs))
    ∙ next-of default_config (length xs) s xs (Some r) next
    ∙ ap (λ rows. r.0 ∷ rows) (same-records default_config (length xs) (length r.2 + 1) r.1 r.2 rest.between rest.shorter (omega arith))

-- or none
pub records_at-none : (s : State) (xs : List ℕ) → next_record default_config s [] [] xs ≡ None → records_at s xs ≡ []
records_at-none s xs next = ap (λ n. records_from default_config n s xs) (add-one (length xs)) ∙ next-of default_config (length xs) s xs None next

-- the state behind a record is one between records
pub between-next : (s : State) (xs : List ℕ) (r : Read) → ends_at_end s ≡ false → next_record default_config s [] [] xs ≡ Some r → ends_at_end r.1 ≡ false
between-next s xs r e next = (rest-of default_config s xs r e next).between

-- there are at most as many records as bytes
few-from : (cfg : Config) (n : ℕ) (s : State) (xs : List ℕ) → ends_at_end s ≡ false → length (records_from cfg n s xs) ≤ length xs
unfolding records_from
few-from cfg zero s xs e = omega arith
few-from cfg (suc n) s xs e =
    elim (next_record cfg s [] [] xs) as (λ (o : Option Read). next_record cfg s [] [] xs ≡ o → length (records_next (records_from cfg n) o) ≤ length xs) [
      | None ↦ λ next. omega arith
      | Some r ↦ λ next.
          let rest = rest-of cfg s xs r e next in
          omega (arith, rest.shorter, few-from cfg n r.1 r.2 rest.between)
    ] refl

pub length-records_at : (s : State) (xs : List ℕ) → ends_at_end s ≡ false → length (records_at s xs) ≤ length xs
length-records_at s xs e = few-from default_config (length xs + 1) s xs e

stripped : (b : Bool) (xs ys : List ℕ) → length xs ≤ length ys → length (if b then xs else ys) ≤ length ys
stripped true xs ys le = le
stripped false xs ys le = omega arith

length-strip_bom : (xs : List ℕ) → length (strip_bom xs) ≤ length xs
unfolding strip_bom
length-strip_bom [] = omega arith
length-strip_bom (a ∷ []) = omega arith
length-strip_bom (a ∷ b ∷ []) = omega arith
length-strip_bom (a ∷ b ∷ c ∷ rest) = stripped (is_bom a b c) rest (a ∷ b ∷ c ∷ rest) (omega arith)

-- a text has at most as many records as bytes
pub length-records_of : (bytes : List ℕ) → length (records_of bytes) ≤ length bytes
length-records_of bytes = omega (arith, length-records_at st.StartRecord (strip_bom bytes) refl, length-strip_bom bytes)

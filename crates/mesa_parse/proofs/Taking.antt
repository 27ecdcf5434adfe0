-- What reading a record leaves of a reader.
use Rattle.std.proofs.Common.{◌≡◌, ℕ, List, [], ◌∷◌, true, false, Bool, sym, refl, ap, subst, ◌∙◌, inl}
use Rattle.std.specs.Prelude.{Some, if◌then◌else◌}
use Rattle.std.specs.Bool.{OnTrue}
use Rattle.csv.specs.Machine.{ends_at_end}
use Rattle.csv.specs.Reading.{Reached, ReadRecord, default_config, reader_state, took_first}
use Rattle.csv.specs.declared.reader.Reader.{Reader}
use Rattle.csv.proofs.ReadFacts.{rows-end, rows-more}
use Rattle.mesa_parse.specs.Left.{Bytes, IsBetween, bytes_left, records_at, records_in, records_left}
use Rattle.mesa_parse.proofs.RecordsLeft.{between-next, records_at-none, records_at-some}

left-told : (r : Reader Bytes) (bytes : List ℕ) → bytes_left r ≡ Some bytes → records_left r ≡ records_at (reader_state r) bytes
left-told r bytes told = ap (records_in (reader_state r)) told

-- the record that was taken, and the records and the reader after it
pub taken : (a b : Reader Bytes) (f : List (List ℕ)) → IsBetween a → ReadRecord (λ bytes. Some bytes.now) a b true f → took_first b ≡ true → (records_left a ≡ f ∷ records_left b) × IsBetween b
unfolding Reached
taken a b f is read first =
    let (y, told) = is.told in
    let (z, after, (p, next, same, (state, rest))) = rows-more (λ bytes. Some bytes.now) a b f default_config (reader_state a) y y [] is.config told (refl, refl) read in
    let left : records_left a ≡ p.0 ∷ records_at p.1 p.2 = left-told a y told ∙ records_at-some (reader_state a) y p is.between next in
    let more : records_at p.1 p.2 ≡ records_left b = (λ i. records_at (state i) (rest i)) ∙ sym (left-told b z after) in (
      left ∙ (λ i. sym same i ∷ more i),
      record {
        plain = read.3 ∙ is.plain;
        ready = inl first;
        config = read.2 ∙ is.config;
        between = subst (λ s. ends_at_end s ≡ false) state (between-next (reader_state a) y p is.between next);
        told = (z, after);
      },
    )

-- or there was none
pub none-taken : (a b : Reader Bytes) (f : List (List ℕ)) → IsBetween a → ReadRecord (λ bytes. Some bytes.now) a b false f → records_left a ≡ []
none-taken a b f is read =
    let (y, told) = is.told in
    left-told a y told ∙ records_at-none (reader_state a) y (rows-end (λ bytes. Some bytes.now) a b f default_config y is.config told read)

-- both, by the answer
pub by-found : (a b : Reader Bytes) (found : Bool) (f : List (List ℕ)) → IsBetween a → ReadRecord (λ bytes. Some bytes.now) a b found f → took_first b ≡ true
    → (records_left a ≡ (if found then f ∷ records_left b else [])) × OnTrue found (IsBetween b)
by-found a b true f is read first = let t = taken a b f is read first in (t.0, t.1)
by-found a b false f is read first = (none-taken a b f is read, tt)

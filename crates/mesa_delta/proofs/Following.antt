-- What a read block adds to what was read.
use Rattle.std.specs.Prelude.{IfErr, IfOk, Result, Ok, Err, Vec}
use Rattle.std.specs.declared.alloc.Global.{Global}
use Rattle.std.proofs.Common.{◌≡◌, ◌⊎◌, inl, inr, ℕ, ◌<◌, List, [], ◌∷◌, ◌++◌, length, take, refl, sym, ap, subst, ◌∙◌, arith, Option, Some}
use Rattle.mesa_delta_format.specs.mesa_file.declared.damage.Damage.{Damage}
use Rattle.mesa_delta_format.specs.mesa_file.declared.damage.Seen.TheVariants as seen
use Rattle.mesa_delta_format.specs.mesa_columns.declared.rows.Row.{Row}
use Rattle.mesa_delta_format.specs.mesa_block.Spelling.{block}
use Rattle.mesa_delta_format.specs.declared.place.Entry.{Entry}
use Rattle.mesa_delta.specs.declared.reader.DeltaReader.{DeltaReader}
use Rattle.mesa_delta.specs.declared.run.Run.{Run}
use Rattle.mesa_delta.specs.Damages.{IsWrongLength, IsPieceDamage}
use Rattle.mesa_delta_format.specs.Indexed.{Indexed, IsIndex}
use Rattle.mesa_delta_format.specs.Places.{places, entry_of}
use Rattle.mesa_delta.specs.Reading.{HasRead, IsBlock, IsBlockDamage, IsNeverNext, IsNoBlock, IsRun, piece_of}
use Rattle.mesa_delta_format.proofs.Packing.{FitsAlone}
use Rattle.mesa_delta_format.proofs.Placed.{laid}
use Rattle.mesa_delta_format.proofs.BlocksOnce.{Reads}
use Rattle.mesa_delta.proofs.Steps.{not_next, one_read}

-- damage of a block by itself is damage of it behind others
pub weaker : (told : Option (List ℕ)) (size : ℕ) (x : Indexed) (i : ℕ) (parts : List (List Row)) (d : Damage)
    → (IsWrongLength x.file x.len size d ⊎ ((size ≡ x.len) × IsPieceDamage told x.file (entry_of x.entries i).offset (entry_of x.entries i).len (entry_of x.entries i).digest (IsNoBlock x i) d)) → IsBlockDamage told size x i parts d
weaker told size x i parts d (inl wrong) = inl wrong
weaker told size x i parts d (inr (sized, (piece, read, inl wrong))) = inr (sized, (piece, read, inl wrong))
weaker told size x i parts d (inr (sized, (piece, read, inr misfit))) = inr (sized, (piece, read, inr (misfit.0, λ rows b f begins is. misfit.1 rows b f is)))

-- damage of a block that doesn't follow
pub unfollowed : FitsAlone → Reads → (told : Option (List ℕ)) (size : ℕ) (x : Indexed) (run : Run) (kept parts : List (List Row)) (part rows : List Row) (i : ℕ) (d : Damage) → size ≡ x.len → IsIndex x → i < length x.entries → i ≡ length kept → IsRun x.layout run kept
    → take (length kept) x.entries ≡ places x.layout 0 kept → rows ≡ part → IsBlock x i part → ((b : List ℕ) → told ≡ Some b → piece_of x i b ≡ block x.layout part)
    → d ≡ record { file = x.file; place = (entry_of x.entries run.next).offset; want = seen.Fits; found = seen.Misfit 0 } → IsNeverNext x run rows
    → ((b : List ℕ) → take (length (laid x.layout parts)) b ≡ laid x.layout parts → take (length (laid x.layout kept)) b ≡ laid x.layout kept) → IsBlockDamage told size x i parts d
unfollowed law reads told size x run kept parts part rows i d sized index lt at h before same b piece is never begins =
    let s = x.layout in
    let e = entry_of x.entries i in
    let place : run.next ≡ i = h.next ∙ sym at in
    let damage : d ≡ record { file = x.file; place = e.offset; want = seen.Fits; found = seen.Misfit 0 } = is ∙ ap (λ (n : ℕ). record { file = x.file; place = (entry_of x.entries n).offset; want = seen.Fits; found = seen.Misfit 0 }) place in
    let inside = subst (λ (n : ℕ). n < length x.entries) at lt in
    let next = not_next law reads x run kept part index h before inside b.rows (subst (IsNeverNext x run) same never) in
    inr (
      sized,
      (
        block s part,
        record { len = sym (ap (λ (k : Entry). k.len) b.entry); told = λ c told_so. sym (piece c told_so) },
        inr ((damage, sym (ap (λ (k : Entry). k.digest) b.entry)), λ all c f begun piece_is. next all c f (begins c begun) (subst (λ (n : ℕ). piece_of x n c ≡ block s part) at piece_is)),
      ),
    )

-- a block that follows
pub followed : {R : Type 0} (bytes : R → Option (List ℕ)) (old new : DeltaReader R) (run : Run) (kept : List (List Row)) (part rows : List Row) (i : ℕ) → IsIndex old.index → new.index ≡ old.index → bytes new.reader ≡ bytes old.reader → i < length old.index.entries → i ≡ length kept
    → IsRun old.index.layout run kept → take (length kept) old.index.entries ≡ places old.index.layout 0 kept → ((b : List ℕ) → bytes old.reader ≡ Some b → take (length (laid old.index.layout kept)) b ≡ laid old.index.layout kept)
    → rows ≡ part → IsBlock old.index i part → ((b : List ℕ) → bytes old.reader ≡ Some b → piece_of old.index i b ≡ block old.index.layout part)
    → ((parts : List (List Row)) → IsRun old.index.layout run parts → IsBlock old.index run.next rows → IsRun old.index.layout new.run (parts ++ rows ∷ [])) → (new.run.next ≡ length old.index.entries → new.run.rows ≡ old.index.rows)
    → HasRead bytes new (kept ++ part ∷ [])
followed bytes old new run kept part rows i index same reader lt at h before told is b piece more counted =
    let x = old.index in
    let place : i ≡ run.next = at ∙ sym h.next in
    let here = subst (λ (n : ℕ). IsBlock x n part) at b in
    let there = subst (λ (n : ℕ). IsBlock x n rows) place (subst (IsBlock x i) (sym is) b) in
    let after = subst (λ (l : List Row). IsRun x.layout new.run (kept ++ l ∷ [])) is (more kept h there) in
    one_read bytes old new kept part index same reader (subst (λ (n : ℕ). n < length x.entries) at lt) here after counted (λ c told_so. subst (λ (n : ℕ). piece_of x n c ≡ block x.layout part) at (piece c told_so)) before told

pub none_left : (parts : List (List Row)) → 0 ≡ length parts → parts ≡ []
none_left [] e = refl
none_left (p ∷ parts) e = absurd (omega arith)

-- the first block is the only one behind none
pub onto_none : {R : Type 0} (bytes : R → Option (List ℕ)) (new : DeltaReader R) (parts : List (List Row)) (part : List Row) → parts ≡ [] → HasRead bytes new (part ∷ []) → HasRead bytes new (parts ++ part ∷ [])
onto_none bytes new parts part none h = subst (λ (l : List (List Row)). HasRead bytes new (l ++ part ∷ [])) (sym none) h

-- what was read stays so where only what it reads from moves, and the buffer
pub read_moved : {R : Type 0} (bytes : R → Option (List ℕ)) (old : DeltaReader R) (reader : R) (buffer : Vec ℕ Global) (parts : List (List Row)) → bytes reader ≡ bytes old.reader → HasRead bytes old parts → HasRead bytes (record old { reader = reader; bytes = buffer }) parts
read_moved bytes old reader buffer parts same h = record { run = h.run; places = h.places; counted = h.counted; told = λ b at. h.told b (sym same ∙ at) }

pub each_ok : {T E : Type 0} {P Q : T → Type 0} (r : Result T E) → ((x : T) → P x → Q x) → IfOk r P → IfOk r Q
each_ok (Ok x) f h = f x h
each_ok (Err e) f h = tt

pub each_err : {T E : Type 0} {P Q : E → Type 0} (r : Result T E) → ((e : E) → P e → Q e) → IfErr r P → IfErr r Q
each_err (Ok x) f h = tt
each_err (Err e) f h = f e h

-- What a writer of blocks has laid down after one row more.
use Rattle.std.proofs.Common.{◌≡◌, ℕ, ◌+◌, List, [], ◌∷◌, ◌++◌, length, refl, sym, ap, subst, ◌∙◌, arith, append_assoc, Bool, true, false, Option, Some, None}
use Rattle.std.specs.Prelude.{flat_map, option_map}
use Rattle.std.proofs.lemmas.List.{append-nil, length-append}
use Rattle.std.proofs.lemmas.List.Concat.{flat_map-cons}
use Rattle.std.proofs.lemmas.Grind.{flat_map-append}
use Rattle.mesa_delta_format.specs.mesa_key.Order.{short_key}
use Rattle.mesa_delta_format.specs.mesa_columns.declared.rows.Row.{Row}
use Rattle.mesa_delta_format.specs.mesa_block.Layout.{Layout}
use Rattle.mesa_delta_format.specs.mesa_block.Fill.{Built, after, fit}
use Rattle.mesa_delta_format.specs.mesa_block.Spelling.{block}
use Rattle.mesa_delta.specs.Begun.{begun}
use Rattle.mesa_delta.specs.Laying.{Lays}
use Rattle.mesa_delta.specs.Pending.{entries_of}
use Rattle.mesa_delta_format.specs.Spread.{Filling, with_more, placed}
use Rattle.mesa_delta_format.specs.Tail.{entry, entries, first_key}
use Rattle.mesa_delta.specs.declared.blocks.BlockWriter.{BlockWriter}

pub begun_first : (rows : List Row) (row : Row) → begun rows ≡ None → Some (short_key row.key) ≡ begun (rows ++ row ∷ [])
begun_first [] row e = refl
begun_first (x ∷ rows) row e = absurd cc

pub begun_later : (rows : List Row) (row : Row) (short : List ℕ) → begun rows ≡ Some short → Some short ≡ begun (rows ++ row ∷ [])
begun_later [] row short e = absurd cc
begun_later (x ∷ rows) row short e = sym e

begun_is : (rows : List Row) (short : List ℕ) → begun rows ≡ Some short → short ≡ short_key (first_key rows)
begun_is [] short e = absurd cc
begun_is (row ∷ rows) short e = cc

pub entries_more : (s : Layout) (offset : ℕ) (blocks : List (List Row)) (rows : List Row)
    → entries s offset (blocks ++ rows ∷ []) ≡ entries s offset blocks ++ entry (short_key (first_key rows)) (offset + length (flat_map (block s) blocks)) (block s rows)
entries_more s offset [] rows = append-nil _ ∙ ap (λ (o : ℕ). entry (short_key (first_key rows)) o (block s rows)) (omega arith)
entries_more s offset (b ∷ blocks) rows =
    let head = entry (short_key (first_key b)) offset (block s b) in
    let sum : offset + length (block s b) + length (flat_map (block s) blocks) ≡ offset + length (flat_map (block s) (b ∷ blocks)) = rw flat_map-cons (omega (arith, length-append (block s b) (flat_map (block s) blocks))) in
    ap (λ (l : List ℕ). head ++ l) (entries_more s (offset + length (block s b)) blocks rows ∙ ap (λ (o : ℕ). entries s (offset + length (block s b)) blocks ++ entry (short_key (first_key rows)) o (block s rows)) sum)
    ∙ sym (append_assoc head _ _)

longer : (o : Option (List ℕ)) (piece t : List ℕ) → option_map (λ b. b ++ piece) o ≡ Some t → (before : List ℕ) × (o ≡ Some before) × (t ≡ before ++ piece)
longer None piece t e = absurd cc
longer (Some before) piece t e = (before, refl, cc)

flat_more : (s : Layout) (done : List (List Row)) (last : List Row) → flat_map (block s) (done ++ last ∷ []) ≡ flat_map (block s) done ++ block s last
flat_more s done last = flat_map-append (block s) done (last ∷ []) ∙ ap (λ (l : List ℕ). flat_map (block s) done ++ l) (append-nil (block s last))

pub closed : {M T : Type 0} (bytes : T → Option (List ℕ)) (s : Layout) (old new : BlockWriter M T) (f : Filling) (short piece : List ℕ)
    → old.short ≡ Some short → piece ≡ block old.builder.layout old.builder.rows
    → bytes new.draft ≡ option_map (λ b. b ++ piece) (bytes old.draft)
    → new.entries.items ++ entries_of new.pending ≡ (old.entries.items ++ entries_of old.pending) ++ entry short old.offset piece
    → new.offset ≡ old.offset + length piece → new.blocks ≡ old.blocks + 1
    → new.builder ≡ record old.builder { rows = [] } → new.short ≡ None
    → Lays bytes s old f → Lays bytes s new (record { done = f.done ++ f.last ∷ []; last = [] })
closed bytes s old new f short piece short_is piece_is put entries_are offset_is blocks_are built none h =
    let piece_of : piece ≡ block s f.last = piece_is ∙ ap (λ (b : Built). block b.layout b.rows) h.built in
    let short_of : short ≡ short_key (first_key f.last) = begun_is f.last short (sym h.short ∙ short_is) in
    record {
      told = λ t at.
          let l = longer (bytes old.draft) piece t (sym put ∙ at) in
          l.2 ∙ ap (λ (x : List ℕ). x ++ piece) (h.told l.0 l.1) ∙ ap (λ (x : List ℕ). flat_map (block s) f.done ++ x) piece_of ∙ sym (flat_more s f.done f.last);
      entries = entries_are ∙ ap (λ (e : List ℕ). e ++ entry short old.offset piece) h.entries
          ∙ ap (λ (e : List ℕ). entries s 0 f.done ++ e) (ap (λ (k : List ℕ). entry k old.offset piece) short_of ∙ ap (λ (o : ℕ). entry (short_key (first_key f.last)) o piece) h.offset ∙ ap (entry (short_key (first_key f.last)) (length (flat_map (block s) f.done))) piece_of)
          ∙ sym (entries_more s 0 f.done f.last ∙ ap (λ (o : ℕ). entries s 0 f.done ++ entry (short_key (first_key f.last)) o (block s f.last)) (omega arith));
      offset = offset_is ∙ ap (λ (n : ℕ). n + length piece) h.offset ∙ ap (λ (p : List ℕ). length (flat_map (block s) f.done) + length p) piece_of
          ∙ sym (ap length (flat_more s f.done f.last) ∙ length-append (flat_map (block s) f.done) (block s f.last));
      blocks = omega (arith, blocks_are, h.blocks, length-append f.done (f.last ∷ []));
      built = built ∙ ap (λ (b : Built). record b { rows = [] }) h.built;
      short = none;
    }

pub unchanged : {M T : Type 0} (bytes : T → Option (List ℕ)) (s : Layout) (old new : BlockWriter M T) (f : Filling)
    → new ≡ record old { builder = new.builder; short = new.short } → new.builder ≡ old.builder → new.short ≡ begun new.builder.rows
    → Lays bytes s old f → Lays bytes s new f
unchanged {M = M} {T = T} bytes s old new f same built short h = record {
  told = λ t at. h.told t (ap (λ (w : BlockWriter M T). bytes w.draft) (sym same) ∙ at);
  entries = ap (λ (w : BlockWriter M T). w.entries.items ++ entries_of w.pending) same ∙ h.entries;
  offset = ap (λ (w : BlockWriter M T). w.offset) same ∙ h.offset;
  blocks = ap (λ (w : BlockWriter M T). w.blocks) same ∙ h.blocks;
  built = built ∙ h.built;
  short = short ∙ ap (λ (b : Built). begun b.rows) (built ∙ h.built);
}

pub placed_on : {M T : Type 0} (bytes : T → Option (List ℕ)) (s : Layout) (old new : BlockWriter M T) (f : Filling) (row : Row)
    → new ≡ record old { builder = new.builder; short = new.short } → new.builder ≡ after true old.builder row → new.short ≡ begun new.builder.rows
    → true ≡ fit s (f.last ++ row ∷ [])
    → Lays bytes s old f → Lays bytes s new (with_more s f row)
placed_on {M = M} {T = T} bytes s old new f row same built short fits h =
    let is : new.builder ≡ record { layout = s; rows = f.last ++ row ∷ [] } = built ∙ ap (λ (b : Built). after true b row) h.built in
    subst (λ (t : Bool). Lays bytes s new (placed t f row)) fits (record {
      told = λ t at. h.told t (ap (λ (w : BlockWriter M T). bytes w.draft) (sym same) ∙ at);
      entries = ap (λ (w : BlockWriter M T). w.entries.items ++ entries_of w.pending) same ∙ h.entries;
      offset = ap (λ (w : BlockWriter M T). w.offset) same ∙ h.offset;
      blocks = ap (λ (w : BlockWriter M T). w.blocks) same ∙ h.blocks;
      built = is;
      short = short ∙ ap (λ (b : Built). begun b.rows) is;
    })

pub fits_in : {M T : Type 0} (bytes : T → Option (List ℕ)) (s : Layout) (old : BlockWriter M T) (f : Filling) (row : Row) (t : Bool)
    → t ≡ fit old.builder.layout (old.builder.rows ++ row ∷ []) → Lays bytes s old f → t ≡ fit s (f.last ++ row ∷ [])
fits_in bytes s old f row t is h = is ∙ ap (λ (b : Built). fit b.layout (b.rows ++ row ∷ [])) h.built

-- a row that doesn't fit begins the next block
pub next_begun : {M T : Type 0} (bytes : T → Option (List ℕ)) (s : Layout) (new : BlockWriter M T) (f : Filling) (row : Row)
    → false ≡ fit s (f.last ++ row ∷ []) → true ≡ fit s (row ∷ [])
    → Lays bytes s new (with_more s (record { done = f.done ++ f.last ∷ []; last = [] }) row) → Lays bytes s new (with_more s f row)
next_begun bytes s new f row not_in alone h =
    subst (λ (t : Bool). Lays bytes s new (placed t f row)) not_in
    (subst (λ (t : Bool). Lays bytes s new (placed t (record { done = f.done ++ f.last ∷ []; last = [] }) row)) (sym alone) h)

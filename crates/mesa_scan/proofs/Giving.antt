-- A block more of an input.
use Rattle.std.proofs.Common.{◌≡◌, ◌≢◌, ◌⊎◌, inl, inr, ℕ, zero, suc, ◌+◌, ◌<◌, ◌≤◌, List, [], ◌∷◌, ◌++◌, refl, sym, ◌∙◌, ap, subst, length, get_or, take, drop, arith, length-append, true, false}
use Rattle.std.proofs.lemmas.Bool.{false≢true}
use Rattle.std.proofs.lemmas.List.{append-nil, get_or-drop, length-drop, length-map, map-append, take-append-drop}
use Rattle.std.specs.Prelude.{flat_map, map, Option, None, Some}
use Rattle.std.specs.Ordering.{is_lt}
use Rattle.std.specs.declared.cmp.Ordering.TheVariants.{Less}
use Rattle.mesa_delta.specs.mesa_key.Order.{byte_cmp}
use Rattle.mesa_delta.specs.mesa_file.declared.damage.Damage.{Damage}
use Rattle.mesa_delta.specs.mesa_file.declared.damage.Seen.TheVariants as seen
use Rattle.mesa_delta.specs.mesa_columns.declared.rows.Row.{Row}
use Rattle.mesa_schema.specs.Changes.{columns_at, epoch_of}
use Rattle.mesa_delta.specs.mesa_columns.Columns.{Columns}
use Rattle.mesa_delta.specs.mesa_fold.Folded.{rows_of}
use Rattle.mesa_schema.specs.Laws.{LiftedRise}
use Rattle.mesa_delta.specs.mesa_columns.Lifting.{lifted_with}
use Rattle.mesa_schema.specs.Lineages.{IsLineage}
use Rattle.mesa_delta.specs.mesa_columns.Rows.{AreRowsOf, keys_rise}
use Rattle.mesa_filter.proofs.mesa_fold.Folds.{rows_of-append}
use Rattle.mesa_delta.specs.mesa_delta_format.Indexed.{Indexed}
use Rattle.mesa_delta.specs.mesa_delta_format.Packing.{last_part}
use Rattle.mesa_block.specs.Spelling.{block}
use Rattle.mesa_delta.specs.mesa_delta_format.Places.{entry_of, places}
use Rattle.mesa_delta.specs.Reading.{HasRead, IsBlock, IsIndexed, IsOver, IsReaderOf, IsRun, IsWhole, index_of, reader_of}
use Rattle.mesa_delta.specs.mesa_delta_format.Spread.{blocks_of}
use Rattle.mesa_delta.specs.mesa_delta_format.Summary.{last_key}
use Rattle.mesa_delta.specs.mesa_delta_format.Tail.{first_key}
use Rattle.mesa_delta.specs.declared.input.Input.{Input}
use Rattle.mesa_delta.specs.declared.reader.DeltaReader.{DeltaReader}
use Rattle.mesa_delta.proofs.mesa_delta_format.Packing.{blocks_rows}
use Rattle.mesa_scan.specs.declared.cursor.Cursor.{Cursor}
use Rattle.mesa_scan.specs.Cursors.{AreBlocks, HasGivenFrom, IsFall, IsInput, IsSameInput, at_hand, block_of, comes_behind, lift_by, lift_of, low_of, next_of, reader_in}
use Rattle.mesa_scan.specs.Cut.{cut}
use Rattle.mesa_scan.proofs.Cuts.{cut_append, rise_behind, rise_front}
use Rattle.mesa_scan.proofs.Following.{behind_parts, blocks_more, last_block, rise_apart, rise_join}
use Rattle.mesa_scan.proofs.Lifted.{block_forms, lifts_all, rows_push}
use Rattle.mesa_scan.proofs.Rising.{blocks_forms, rising}

-- ---- blocks of a file, from one on

take_one : {X : Type 0} (d : X) (xs : List X) (n : ℕ) → n < length xs → take n xs ++ get_or xs n d ∷ [] ≡ take (suc n) xs
take_one d [] n lt = absurd (omega arith)
take_one d (x ∷ xs) zero lt = refl
take_one d (x ∷ xs) (suc n) lt = ap (λ ys. x ∷ ys) (take_one d xs n (omega arith))

take_more : {X : Type 0} (d : X) (xs : List X) (start n : ℕ) → start + n < length xs → take n (drop start xs) ++ get_or xs (start + n) d ∷ [] ≡ take (suc n) (drop start xs)
take_more d xs start n lt =
    let there : n < length (drop start xs) = omega (arith, length-drop start xs, lt) in
    ap (λ x. take n (drop start xs) ++ x ∷ []) (sym (get_or-drop start xs n d)) ∙ take_one d (drop start xs) n there

-- their rows rise
middle_rise : (blocks : List (List Row)) (start n : ℕ) → keys_rise (rows_of blocks) ≡ true → keys_rise (rows_of (take n (drop start blocks))) ≡ true
middle_rise blocks start n up =
    let back : List (List Row) = drop start blocks in
    let whole : rows_of blocks ≡ rows_of (take start blocks) ++ rows_of back = ap rows_of (sym (take-append-drop start blocks)) ∙ rows_of-append (take start blocks) back in
    let both : rows_of back ≡ rows_of (take n back) ++ rows_of (drop n back) = ap rows_of (sym (take-append-drop n back)) ∙ rows_of-append (take n back) (drop n back) in
    rise_front (rows_of (take n back)) (rows_of (drop n back)) (ap keys_rise (sym both) ∙ rise_behind (rows_of (take start blocks)) (rows_of back) (ap keys_rise (sym whole) ∙ up))

-- ---- one block more

-- What a block that was read makes of the blocks that were read before: the reader's promises.
pub record IsMore {R : Type 0} (bytes : R → Option (List ℕ)) (old new : Input R) (at : ℕ) (block : List Row) : Type 0 where
  pub one : IsBlock (index_of old.reader) at block
  pub first : at ≡ 0 → HasRead bytes new.reader (block ∷ [])
  pub next : (parts : List (List Row)) → HasRead bytes old.reader parts → at ≡ length parts → HasRead bytes new.reader (parts ++ block ∷ [])
  pub whole : (parts : List (List Row)) → HasRead bytes new.reader parts → length parts ≡ length (index_of new.reader).entries
      → IsReaderOf bytes (reader_in new) (index_of new.reader) → IsWhole (index_of new.reader) (rows_of parts) (bytes (reader_in new))
  pub again : (b : List ℕ) (all : List Row) → bytes (reader_in old) ≡ Some b → IsIndexed (index_of old.reader) all b → block ≡ get_or (blocks_of (index_of old.reader).layout all) at []
  pub input : IsInput bytes old → IsInput bytes new
  pub same : IsSameInput bytes old new

same_or_not : (a b : ℕ) → (a ≡ b) ⊎ (a ≢ b)
same_or_not zero zero = inl refl
same_or_not zero (suc b) = inr (λ e. cc)
same_or_not (suc a) zero = inr (λ e. cc)
same_or_not (suc a) (suc b) = elim (same_or_not a b) [ inl e ↦ inl (ap suc e) | inr ne ↦ inr (λ e. ne (omega (arith, e))) ]

read_more : {R : Type 0} (bytes : R → Option (List ℕ)) (old new : Input R) (at : ℕ) (block : List Row) (parts : List (List Row)) → HasRead bytes old.reader parts
    → (at ≡ 0 → HasRead bytes new.reader (block ∷ []))
    → ((parts : List (List Row)) → HasRead bytes old.reader parts → at ≡ length parts → HasRead bytes new.reader (parts ++ block ∷ []))
    → ((parts : List (List Row)) → HasRead bytes old.reader parts → 0 < at → at ≢ length parts → HasRead bytes new.reader parts)
    → (more : List (List Row)) × HasRead bytes new.reader more
read_more bytes old new zero block parts read first next other = (block ∷ [], first refl)
read_more bytes old new (suc at) block parts read first next other = elim (same_or_not (suc at) (length parts)) [
  | inl e ↦ (parts ++ block ∷ [], next parts read e)
  | inr ne ↦ (parts, other parts read (omega arith) ne)
]

-- an input stays one when a block of it is read
pub input_more : {R : Type 0} (bytes : R → Option (List ℕ)) (old new : Input R) (at : ℕ) (block : List Row) → IsSameInput bytes old new
    → (at ≡ 0 → HasRead bytes new.reader (block ∷ []))
    → ((parts : List (List Row)) → HasRead bytes old.reader parts → at ≡ length parts → HasRead bytes new.reader (parts ++ block ∷ []))
    → ((parts : List (List Row)) → HasRead bytes old.reader parts → 0 < at → at ≢ length parts → HasRead bytes new.reader parts)
    → IsInput bytes old → IsInput bytes new
input_more bytes old new at block same first next other input = record {
  epoch = subst (λ e. e ≤ epoch_of new.evolving.value) (sym same.epoch) (subst (λ l. old.epoch ≤ epoch_of l.value) (sym same.evolving) input.epoch);
  columns = ap (λ x. x.layout.columns) same.index ∙ input.columns ∙ (λ i. columns_at (sym same.evolving i).value (sym same.epoch i));
  over = λ b told. subst (λ x. IsOver x b) (sym same.index) (input.over b (sym same.told ∙ told));
  read = read_more bytes old new at block input.read.0 input.read.1 first next other;
}

-- or where none was read, for a fault
pub input_failed : {R : Type 0} (bytes : R → Option (List ℕ)) (old : Input R) (reader : DeltaReader R) → index_of reader ≡ index_of old.reader → bytes (reader_of reader) ≡ bytes (reader_in old) → reader.run ≡ old.reader.run
    → IsInput bytes old → IsInput bytes (record old { reader = reader })
input_failed bytes old reader index told run input =
    let parts : List (List Row) = input.read.0 in
    let h : HasRead bytes old.reader parts = input.read.1 in
    record {
      epoch = input.epoch;
      columns = ap (λ (x : Indexed). x.layout.columns) index ∙ input.columns;
      over = λ b is. subst (λ x. IsOver x b) (sym index) (input.over b (sym told ∙ is));
      read = (
        parts,
        record {
          run = subst (λ (x : Indexed). IsRun x.layout reader.run parts) (sym index) (subst (λ r. IsRun (index_of old.reader).layout r parts) (sym run) h.run);
          places = subst (λ (x : Indexed). take (length parts) x.entries ≡ places x.layout 0 parts) (sym index) h.places;
          counted = subst (λ (x : Indexed). length parts ≡ length x.entries → length (rows_of parts) ≡ x.rows) (sym index) h.counted;
          told = λ b is. subst (λ (x : Indexed). take (length (flat_map (block x.layout) parts)) b ≡ flat_map (block x.layout) parts) (sym index) (h.told b (sym told ∙ is));
        },
      );
    }

-- what is known of the next block, lifted
pub record IsNext {R : Type 0} (old : Input R) (was now : Cursor) (block : List Row) : Type 0 where
  pub lift : lift_of now ≡ lift_of was
  pub low : low_of now ≡ low_of was
  pub next : next_of now ≡ next_of was + 1
  pub lifted : block_of now ≡ map (lifted_with (lift_of was)) block
  pub hand : keys_rise (block_of now) ≡ true → cut (low_of was) None (block_of now) ≡ at_hand now
  pub few : length (at_hand now) ≤ length (block_of now)
  pub on : low_of was ≢ None → comes_behind (block_of was) (block_of now) ≡ true

-- the rows of a block of an input, lifted
pub lifted_block : {R : Type 0} (bytes : R → Option (List ℕ)) (low : Option (List ℕ)) (i : Input R) (c : Cursor) (given block : List Row) (at : ℕ) → HasGivenFrom bytes low i c given → IsBlock (index_of i.reader) at block
    → map (lifted_with (lift_of c)) block ≡ map (lift_by i) block
lifted_block bytes low i c given block at h one =
    lifts_all (lift_of c) i.evolving.value i.epoch block h.lifts (subst (λ (s : Columns). AreRowsOf s block) h.input.columns (block_forms (index_of i.reader).layout block one.rows))

-- rows of blocks rise as they are lifted
lifted_rise : LiftedRise → {R : Type 0} (bytes : R → Option (List ℕ)) (low : Option (List ℕ)) (i : Input R) (c : Cursor) (given : List Row) (at : ℕ) (parts : List (List Row)) → HasGivenFrom bytes low i c given → AreBlocks (index_of i.reader) at parts
    → keys_rise (map (lift_by i) (rows_of parts)) ≡ keys_rise (rows_of parts)
lifted_rise law bytes low i c given at parts h all =
    law i.evolving.value i.epoch (rows_of parts) h.lineage (subst (λ (s : Columns). AreRowsOf s (rows_of parts)) h.input.columns (blocks_forms (index_of i.reader) at parts all))

some_last : (x : Indexed) (at : ℕ) (parts : List (List Row)) → AreBlocks x at parts → 0 < length parts → 0 < length (last_part parts)
some_last x at parts all some = (last_block x at parts some all).2.rows.some

one_more : {R : Type 0} (bytes : R → Option (List ℕ)) (old new : Input R) (at : ℕ) (block : List Row) (parts : List (List Row)) → IsMore bytes old new at block
    → (0 < length parts → HasRead bytes old.reader parts) → at ≡ length parts → HasRead bytes new.reader (parts ++ block ∷ [])
one_more bytes old new at block [] m read e = m.first e
one_more bytes old new at block (part ∷ parts) m read e = m.next (part ∷ parts) (read (omega arith)) e

-- the rows of the blocks that were read and of the next one rise
rise_more : LiftedRise → {R : Type 0} (bytes : R → Option (List ℕ)) (low : Option (List ℕ)) (old new : Input R) (was now : Cursor) (block given : List Row) → IsMore bytes old new (next_of was) block
    → (h : HasGivenFrom bytes low old was given) → IsNext old was now block → keys_rise (map (lift_by old) (rows_of (h.parts ++ block ∷ []))) ≡ true
rise_more law bytes None old new was now block given m h n =
    let x : Indexed = index_of old.reader in
    let start : h.start ≡ 0 = h.none refl in
    let read : HasRead bytes new.reader (h.parts ++ block ∷ []) = one_more bytes old new (next_of was) block h.parts m (h.read start) (omega (arith, h.next, start)) in
    let more : AreBlocks x h.start (h.parts ++ block ∷ []) = blocks_more x h.start h.parts block h.blocks (subst (λ k. IsBlock x k block) h.next m.one) in
    lifted_rise law bytes None old was given h.start (h.parts ++ block ∷ []) h more ∙ rising (rows_of (h.parts ++ block ∷ [])) read.run.rise
rise_more law bytes (Some low) old new was now block given m h n =
    let x : Indexed = index_of old.reader in
    let f : Row → Row = lift_by old in
    let same : block_of now ≡ map f block = n.lifted ∙ lifted_block bytes (Some low) old was given block (next_of was) h m.one in
    let up : keys_rise (map f block) ≡ true =
    ap (λ rows. keys_rise (map f rows)) (sym (append-nil block)) ∙ lifted_rise law bytes (Some low) old was given (next_of was) (block ∷ []) h (m.one, tt) ∙ ap keys_rise (append-nil block) ∙ rising block m.one.rows.rise in
    let other : low_of was ≢ None = λ none. absurd (cc (none, h.key)) in
    let on : comes_behind (map f (rows_of h.parts)) (map f block) ≡ true =
    behind_parts f h.parts (map f block) (some_last x h.start h.parts h.blocks) ∙ (λ i. comes_behind (sym h.last i) (sym same i)) ∙ n.on other in
    ap (λ rows. keys_rise (map f rows)) (rows_push h.parts block) ∙ ap keys_rise (map-append f (rows_of h.parts) block) ∙ rise_join (map f (rows_of h.parts)) (map f block) h.rise on up

last_push : (parts : List (List Row)) (part : List Row) → last_part (parts ++ part ∷ []) ≡ part
last_push [] part = refl
last_push (a ∷ []) part = refl
last_push (a ∷ b ∷ parts) part = last_push (b ∷ parts) part

-- the blocks that were read and the next one, of a file that is told
told_more : {R : Type 0} (bytes : R → Option (List ℕ)) (low : Option (List ℕ)) (i : Input R) (c : Cursor) (given block : List Row) (h : HasGivenFrom bytes low i c given) (b : List ℕ) (all : List Row)
    → bytes (reader_in i) ≡ Some b → IsIndexed (index_of i.reader) all b → next_of c < length (index_of i.reader).entries → block ≡ get_or (blocks_of (index_of i.reader).layout all) (next_of c) []
    → h.parts ++ block ∷ [] ≡ take (suc (length h.parts)) (drop h.start (blocks_of (index_of i.reader).layout all))
told_more bytes low i c given block h b all told indexed lt again =
    let blocks : List (List Row) = blocks_of (index_of i.reader).layout all in
    let there : h.start + length h.parts < length blocks = omega (arith, lt, h.next, indexed.blocks) in
    let one : block ≡ get_or blocks (h.start + length h.parts) [] = again ∙ ap (λ n. get_or blocks n []) h.next in
    (λ j. h.again b all told indexed j ++ one j ∷ []) ∙ take_more [] blocks h.start (length h.parts) there

-- what was given stays so when the next block is read
pub given_more : LiftedRise → {R : Type 0} (bytes : R → Option (List ℕ)) (low : Option (List ℕ)) (old new : Input R) (was now : Cursor) (block given : List Row) → IsMore bytes old new (next_of was) block
    → HasGivenFrom bytes low old was given → at_hand was ≡ [] → next_of was < length (index_of old.reader).entries → IsNext old was now block → HasGivenFrom bytes low new now given
given_more law bytes low old new was now block given m h none lt n =
    let x : Indexed = index_of old.reader in
    let f : Row → Row = lift_by old in
    let more : List (List Row) = h.parts ++ block ∷ [] in
    let count : length more ≡ length h.parts + 1 = length-append h.parts (block ∷ []) in
    let same_lift : lift_by new ≡ f = λ i row. lift_by (record new { evolving = m.same.evolving i; epoch = m.same.epoch i }) row in
    let same : block_of now ≡ map f block = n.lifted ∙ lifted_block bytes low old was given block (next_of was) h m.one in
    let up : keys_rise (block_of now) ≡ true =
    ap keys_rise same ∙ ap (λ rows. keys_rise (map f rows)) (sym (append-nil block)) ∙ lifted_rise law bytes low old was given (next_of was) (block ∷ []) h (m.one, tt) ∙ ap keys_rise (append-nil block) ∙ rising block m.one.rows.rise in
    let held : at_hand now ≡ cut low None (map f block) = sym (n.hand up) ∙ (λ i. cut (h.key i) None (same i)) in
    let before : given ≡ cut low None (map f (rows_of h.parts)) = sym (append-nil given) ∙ ap (λ rows. given ++ rows) (sym none) ∙ h.rows in
    record {
      start = h.start;
      parts = more;
      input = m.input h.input;
      lineage = subst (λ l. IsLineage l) (ap (λ e. e.value) (sym m.same.evolving)) h.lineage;
      lifts = λ row e. (λ i. lifted_with (n.lift i) row) ∙ h.lifts row (e ∙ (λ i. length (columns_at (m.same.evolving i).value (m.same.epoch i)).values)) ∙ (λ i. sym same_lift i row);
      key = n.low ∙ h.key;
      none = h.none;
      next = omega (arith, n.next, h.next, count);
      within = rw m.same.index (omega (arith, n.next, lt));
      few = omega (arith, n.few, ap length same, length-map block f, m.one.rows.few);
      blocks = subst (λ y. AreBlocks y h.start more) (sym m.same.index) (blocks_more x h.start h.parts block h.blocks (subst (λ k. IsBlock x k block) h.next m.one));
      rise = (λ i. keys_rise (map (same_lift i) (rows_of more))) ∙ rise_more law bytes low old new was now block given m h n;
      last = same ∙ ap (map f) (sym (last_push h.parts block)) ∙ (λ i. map (sym same_lift i) (last_part more));
      rows = ap (λ rows. given ++ rows) held ∙ ap (λ rows. rows ++ cut low None (map f block)) before
          ∙ sym (cut_append low None (map f (rows_of h.parts)) (map f block))
          ∙ ap (cut low None) (sym (map-append f (rows_of h.parts) block) ∙ ap (map f) (sym (rows_push h.parts block))) ∙ (λ i. cut low None (map (sym same_lift i) (rows_of more)));
      read = λ start _. one_more bytes old new (next_of was) block h.parts m (h.read start) (omega (arith, h.next, start));
      whole = λ start all. m.whole more (one_more bytes old new (next_of was) block h.parts m (h.read start) (omega (arith, h.next, start))) all (m.input h.input).over;
      before = λ b all told indexed.
          let was_indexed : IsIndexed (index_of old.reader) all b = subst (λ x. IsIndexed x all b) m.same.index indexed in
          let was_told : bytes (reader_in old) ≡ Some b = sym m.same.told ∙ told in
          (λ i. cut low None (map (same_lift i) (rows_of (take h.start (blocks_of (m.same.index i).layout all))))) ∙ h.before b all was_told was_indexed;
      again = λ b all told indexed.
          let was_indexed : IsIndexed (index_of old.reader) all b = subst (λ x. IsIndexed x all b) m.same.index indexed in
          let was_told : bytes (reader_in old) ≡ Some b = sym m.same.told ∙ told in
          let back : suc (length h.parts) ≡ length more = omega (arith, count) in
          told_more bytes low old was given block h b all was_told was_indexed lt (m.again b all was_told was_indexed) ∙ (λ i. take (back i) (drop h.start (blocks_of (sym m.same.index i).layout all)));
    }

-- ---- keys that fall

-- in a file that is told the next block's keys go on
pub told_on : LiftedRise → {R : Type 0} (bytes : R → Option (List ℕ)) (low : Option (List ℕ)) (i : Input R) (c : Cursor) (given block : List Row) → HasGivenFrom bytes low i c given → IsBlock (index_of i.reader) (next_of c) block → (b : List ℕ) (all : List Row)
    → bytes (reader_in i) ≡ Some b → IsIndexed (index_of i.reader) all b → next_of c < length (index_of i.reader).entries → block ≡ get_or (blocks_of (index_of i.reader).layout all) (next_of c) []
    → comes_behind (block_of c) (map (lifted_with (lift_of c)) block) ≡ true
told_on law bytes low i c given block h one b all told indexed lt again =
    let x : Indexed = index_of i.reader in
    let f : Row → Row = lift_by i in
    let more : List (List Row) = h.parts ++ block ∷ [] in
    let whole : keys_rise (rows_of (blocks_of x.layout all)) ≡ true = ap keys_rise (blocks_rows x.layout all) ∙ rising all indexed.file.rise in
    let up : keys_rise (rows_of more) ≡ true =
    ap (λ parts. keys_rise (rows_of parts)) (told_more bytes low i c given block h b all told indexed lt again) ∙ middle_rise (blocks_of x.layout all) h.start (suc (length h.parts)) whole in
    let lifted_up : keys_rise (map f (rows_of h.parts) ++ map f block) ≡ true =
    ap keys_rise (sym (map-append f (rows_of h.parts) block)) ∙ ap (λ rows. keys_rise (map f rows)) (sym (rows_push h.parts block))
    ∙ lifted_rise law bytes low i c given h.start more h (blocks_more x h.start h.parts block h.blocks (subst (λ k. IsBlock x k block) h.next one)) ∙ up in
    (λ j. comes_behind (h.last j) (lifted_block bytes low i c given block (next_of c) h one j))
    ∙ sym (behind_parts f h.parts (map f block) (some_last x h.start h.parts h.blocks))
    ∙ rise_apart (map f (rows_of h.parts)) (map f block) (rw length-map one.rows.some) lifted_up

-- two blocks whose keys rise over both go on as they are lifted
on_rows : (before block : List Row) → 0 < length before → byte_cmp (last_key before) (first_key block) ≡ Less → comes_behind before block ≡ true
on_rows [] block some less = absurd (omega arith)
on_rows (row ∷ rows) block some less = ap is_lt less

lifted_on : LiftedRise → {R : Type 0} (bytes : R → Option (List ℕ)) (low : Option (List ℕ)) (i : Input R) (c : Cursor) (given before block : List Row) (at : ℕ) → HasGivenFrom bytes low i c given → IsBlock (index_of i.reader) at before → IsBlock (index_of i.reader) (at + 1) block
    → byte_cmp (last_key before) (first_key block) ≡ Less → comes_behind (map (lift_by i) before) (map (lift_by i) block) ≡ true
lifted_on law bytes low i c given before block at h one next less =
    let f : Row → Row = lift_by i in
    let both : rows_of (before ∷ block ∷ []) ≡ before ++ block = ap (λ rows. before ++ rows) (append-nil block) in
    let up : keys_rise (before ++ block) ≡ true = rise_join before block (rising before one.rows.rise) (on_rows before block one.rows.some less) (rising block next.rows.rise) in
    rise_apart (map f before) (map f block) (rw length-map next.rows.some)
    (ap keys_rise (sym (map-append f before block)) ∙ ap (λ rows. keys_rise (map f rows)) (sym both) ∙ lifted_rise law bytes low i c given at (before ∷ block ∷ []) h (one, (next, tt)) ∙ ap keys_rise both ∙ up)

some_parts : (f : Row → Row) (parts : List (List Row)) (block : List Row) → comes_behind (map f (last_part parts)) block ≡ false → 0 < length parts
some_parts f [] block off = absurd (false≢true (sym off))
some_parts f (part ∷ parts) block off = omega arith

-- where they don't go on, keys fall
pub is_fall : LiftedRise → {R : Type 0} (bytes : R → Option (List ℕ)) (low : Option (List ℕ)) (i : Input R) (c : Cursor) (given block : List Row) (d : Damage) → HasGivenFrom bytes low i c given → IsBlock (index_of i.reader) (next_of c) block
    → comes_behind (block_of c) (map (lifted_with (lift_of c)) block) ≡ false
    → d ≡ record { file = (index_of i.reader).file; place = (entry_of (index_of i.reader).entries (next_of c)).offset; want = seen.Fits; found = seen.Misfit 0 } → IsFall (index_of i.reader) d
is_fall law bytes low i c given block d h one off told =
    let x : Indexed = index_of i.reader in
    let f : Row → Row = lift_by i in
    let off_last : comes_behind (map f (last_part h.parts)) (map f block) ≡ false =
    (λ j. comes_behind (sym h.last j) (sym (lifted_block bytes low i c given block (next_of c) h one) j)) ∙ off in
    let some : 0 < length h.parts = some_parts f h.parts (map f block) off_last in
    let last = last_block x h.start h.parts some h.blocks in
    let number : last.0 + 1 ≡ next_of c = omega (arith, last.1, h.next) in
    let next : IsBlock x (last.0 + 1) block = subst (λ k. IsBlock x k block) (sym number) one in
    record {
      at = last.0;
      before = last_part h.parts;
      part = block;
      one = last.2;
      next = next;
      falls = λ less. false≢true (sym off_last ∙ lifted_on law bytes low i c given (last_part h.parts) block last.0 h last.2 next less);
      told = told ∙ ap (λ k. record { file = x.file; place = (entry_of x.entries k).offset; want = seen.Fits; found = seen.Misfit 0 }) (sym number);
    }

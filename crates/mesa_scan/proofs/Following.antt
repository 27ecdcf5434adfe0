-- A block whose keys go on behind those of others.
use Rattle.std.proofs.Common.{◌≡◌, ℕ, ◌+◌, ◌<◌, List, [], ◌∷◌, ◌++◌, refl, sym, ◌∙◌, ap, subst, length, arith, append_assoc}
use Rattle.std.proofs.lemmas.Bool.{and_from, and_parts}
use Rattle.std.proofs.lemmas.List.{append-nil, length-map, map-append}
use Rattle.std.specs.Prelude.{true, map}
use Rattle.std.specs.Ordering.{is_lt}
use Rattle.mesa_delta.specs.mesa_key.Order.{byte_cmp}
use Rattle.mesa_delta.specs.mesa_columns.declared.rows.Row.{Row}
use Rattle.mesa_delta.specs.mesa_fold.Folded.{rows_of}
use Rattle.mesa_delta.specs.mesa_columns.Rows.{keys_rise}
use Rattle.mesa_delta.specs.mesa_delta_format.Indexed.{Indexed}
use Rattle.mesa_delta.specs.mesa_delta_format.Packing.{last_part}
use Rattle.mesa_delta.specs.Reading.{IsBlock}
use Rattle.mesa_delta.specs.mesa_delta_format.Summary.{last_key}
use Rattle.mesa_delta.specs.mesa_delta_format.Tail.{first_key}
use Rattle.mesa_scan.specs.Cursors.{AreBlocks, comes_behind}
use Rattle.mesa_scan.proofs.Cuts.{rise_tail}

-- ---- rows behind others

-- they rise together,
pub rise_join : (rows block : List Row) → keys_rise rows ≡ true → comes_behind rows block ≡ true → keys_rise block ≡ true → keys_rise (rows ++ block) ≡ true
rise_join [] block up on more = more
rise_join (a ∷ []) [] up on more = refl
rise_join (a ∷ []) (b ∷ block) up on more = and_from (is_lt (byte_cmp a.key b.key)) (keys_rise (b ∷ block)) on more
rise_join (a ∷ b ∷ rows) block up on more =
    let parts = and_parts (is_lt (byte_cmp a.key b.key)) (keys_rise (b ∷ rows)) up in
    and_from (is_lt (byte_cmp a.key b.key)) (keys_rise ((b ∷ rows) ++ block)) parts.0 (rise_join (b ∷ rows) block parts.1 on more)

-- and if they do, the last of them is below the first of those behind
pub rise_apart : (rows block : List Row) → 0 < length block → keys_rise (rows ++ block) ≡ true → comes_behind rows block ≡ true
rise_apart [] block some up = refl
rise_apart (a ∷ []) [] some up = absurd (omega arith)
rise_apart (a ∷ []) (b ∷ block) some up = (and_parts (is_lt (byte_cmp a.key b.key)) (keys_rise (b ∷ block)) up).0
rise_apart (a ∷ b ∷ rows) block some up = rise_apart (b ∷ rows) block some (rise_tail a (b ∷ (rows ++ block)) up)

-- only the last rows matter
last_behind : (rows last : List Row) → 0 < length last → last_key (rows ++ last) ≡ last_key last
last_behind [] last some = refl
last_behind (a ∷ []) [] some = absurd (omega arith)
last_behind (a ∷ []) (b ∷ last) some = refl
last_behind (a ∷ b ∷ rows) last some = last_behind (b ∷ rows) last some

by_last : (rows block : List Row) → 0 < length rows → comes_behind rows block ≡ is_lt (byte_cmp (last_key rows) (first_key block))
by_last [] block some = absurd (omega arith)
by_last (row ∷ rows) block some = refl

some_of : (rows last : List Row) → 0 < length last → 0 < length (rows ++ last)
some_of [] last some = some
some_of (row ∷ rows) last some = omega arith

pub behind_last : (rows last block : List Row) → 0 < length last → comes_behind (rows ++ last) block ≡ comes_behind last block
behind_last rows last block some = by_last (rows ++ last) block (some_of rows last some) ∙ ap (λ key. is_lt (byte_cmp key (first_key block))) (last_behind rows last some) ∙ sym (by_last last block some)

-- ---- blocks

-- the rows of blocks end with those of the last one
pub last_rows : (parts : List (List Row)) → (front : List Row) × (rows_of parts ≡ front ++ last_part parts)
last_rows [] = ([], refl)
last_rows (part ∷ []) = ([], append-nil part)
last_rows (part ∷ next ∷ parts) =
    let more = last_rows (next ∷ parts) in
    (part ++ more.0, ap (λ rows. part ++ rows) more.1 ∙ sym (append_assoc part more.0 (last_part (next ∷ parts))))

-- the last of blocks is one
pub last_block : (x : Indexed) (at : ℕ) (parts : List (List Row)) → 0 < length parts → AreBlocks x at parts → (n : ℕ) × (n + 1 ≡ at + length parts) × IsBlock x n (last_part parts)
last_block x at [] some all = absurd (omega arith)
last_block x at (part ∷ []) some all = (at, omega arith, all.0)
last_block x at (part ∷ next ∷ parts) some all =
    let more = last_block x (at + 1) (next ∷ parts) (omega arith) all.1 in
    (more.0, omega (arith, more.1), more.2)

-- with one more
pub blocks_more : (x : Indexed) (at : ℕ) (parts : List (List Row)) (block : List Row) → AreBlocks x at parts → IsBlock x (at + length parts) block → AreBlocks x at (parts ++ block ∷ [])
blocks_more x at [] block all one = (subst (λ n. IsBlock x n block) (omega arith) one, tt)
blocks_more x at (part ∷ parts) block all one = (all.0, blocks_more x (at + 1) parts block all.1 (subst (λ n. IsBlock x n block) (omega arith) one))

-- rows behind those of blocks, changed one by one
pub behind_parts : (f : Row → Row) (parts : List (List Row)) (block : List Row) → (0 < length parts → 0 < length (last_part parts)) → comes_behind (map f (rows_of parts)) block ≡ comes_behind (map f (last_part parts)) block
behind_parts f [] block some = refl
behind_parts f (part ∷ parts) block some =
    let last : List Row = last_part (part ∷ parts) in
    let split = last_rows (part ∷ parts) in
    ap (λ rows. comes_behind (map f rows) block) split.1 ∙ ap (λ rows. comes_behind rows block) (map-append f split.0 last)
    ∙ behind_last (map f split.0) (map f last) block (rw length-map (some (omega arith)))

-- A search begins at or before the first block that holds a key at least the one looked for.
use Rattle.std.proofs.Common.{◌≡◌, ℕ, ◌+◌, ◌<◌, List, [], ◌∷◌, ◌++◌, length, map, get_or, refl, sym, ap, subst, ◌∙◌, arith, append_assoc}
use Rattle.std.specs.declared.cmp.Ordering.TheVariants.{Less}
use Rattle.std.specs.Ordering.{is_le}
use Rattle.std.proofs.lemmas.Cmp.{nat_list_cmp_total}
use Rattle.std.proofs.lemmas.List.{length-append, length-map, map-append}
use Rattle.std.proofs.lemmas.Grind.{flat_map-append}
use Rattle.mesa_block.specs.mesa_key.Order.{byte_cmp, short_key}
use Rattle.mesa_columns.specs.declared.rows.Row.{Row}
use Rattle.mesa_fold.specs.Folded.{rows_of}
use Rattle.mesa_block.specs.Rows.{Rise}
use Rattle.mesa_block.specs.Spelling.{key_of}
use Rattle.mesa_delta_format.specs.Beginning.{BeginsBefore, first_short}
use Rattle.mesa_delta_format.proofs.Searching.{below, within, le_chain}
use Rattle.mesa_delta_format.proofs.Shorts.{short_le}
use Rattle.mesa_delta_format.proofs.Spreading.{rise_behind}

-- a key is less than each behind it
rises_over : (a : List ℕ) (between : List (List ℕ)) (b : List ℕ) (more : List (List ℕ)) → Rise (a ∷ (between ++ b ∷ more)) → byte_cmp a b ≡ Less
rises_over a [] b more h = h.0
rises_over a (c ∷ between) b more h = nat_list_cmp_total.trans a c b h.0 (rises_over c between b more h.1)

at_place : {X : Type 0} (front : List X) (x : X) (back : List X) (d : X) → get_or (front ++ x ∷ back) (length front) d ≡ x
at_place [] x back d = refl
at_place (y ∷ front) x back d = at_place front x back d

-- the rows of the blocks, with the two that are compared told apart
laid_out : (before : List (List Row)) (front : List Row) (row : Row) (back : List Row) (next : Row) (rest : List Row) (more : List (List Row))
    → rows_of (before ++ (front ++ row ∷ back) ∷ (next ∷ rest) ∷ more) ≡ (rows_of before ++ front) ++ row ∷ (back ++ next ∷ (rest ++ rows_of more))
laid_out before front row back next rest more =
    flat_map-append (λ (part : List Row). part) before ((front ++ row ∷ back) ∷ (next ∷ rest) ∷ more)
    ∙ ap (λ (l : List Row). rows_of before ++ l) (append_assoc front (row ∷ back) (next ∷ (rest ++ rows_of more)))
    ∙ sym (append_assoc (rows_of before) front (row ∷ (back ++ next ∷ (rest ++ rows_of more))))

comes_before : (before : List (List Row)) (front : List Row) (row : Row) (back : List Row) (next : Row) (rest : List Row) (more : List (List Row))
    → Rise (map key_of (rows_of (before ++ (front ++ row ∷ back) ∷ (next ∷ rest) ∷ more))) → byte_cmp row.key next.key ≡ Less
comes_before before front row back next rest more h =
    let head = rows_of before ++ front in
    let behind = back ++ next ∷ (rest ++ rows_of more) in
    let whole = subst Rise (ap (map key_of) (laid_out before front row back next rest more) ∙ map-append key_of head (row ∷ behind)) h in
    let tail = rise_behind (map key_of head) (map key_of (row ∷ behind)) whole in
    rises_over row.key (map key_of back) next.key (map key_of (rest ++ rows_of more))
    (subst Rise (ap (λ (l : List (List ℕ)). row.key ∷ l) (map-append key_of back (next ∷ (rest ++ rows_of more)))) tail)

pub begins : BeginsBefore
begins key before front row back [] rise some le =
    let shorts = map first_short (before ++ (front ++ row ∷ back) ∷ []) in
    omega (arith, within (short_key key) shorts, length-map (before ++ (front ++ row ∷ back) ∷ []) first_short, length-append before ((front ++ row ∷ back) ∷ []))
begins key before front row back ([] ∷ more) rise some le = absurd (omega (arith, some.0))
begins key before front row back ((next ∷ rest) ∷ more) rise some le =
    let held = front ++ row ∷ back in
    let blocks = before ++ held ∷ (next ∷ rest) ∷ more in
    let ahead = before ++ held ∷ [] in
    let parts : map first_short blocks ≡ map first_short ahead ++ first_short (next ∷ rest) ∷ map first_short more =
    ap (map first_short) (sym (append_assoc before (held ∷ []) ((next ∷ rest) ∷ more))) ∙ map-append first_short ahead ((next ∷ rest) ∷ more) in
    let count : length (map first_short ahead) ≡ length before + 1 = omega (arith, length-map ahead first_short, length-append before (held ∷ [])) in
    let place : get_or (map first_short blocks) (length before + 1) [] ≡ short_key next.key =
    ap (λ (l : List (List ℕ)). get_or l (length before + 1) []) parts ∙ ap (λ (n : ℕ). get_or (map first_short ahead ++ short_key next.key ∷ map first_short more) n []) (sym count)
    ∙ at_place (map first_short ahead) (short_key next.key) (map first_short more) [] in
    let less = ap is_le (comes_before before front row back next rest more rise) in
    let short = short_le key next.key (le_chain key row.key next.key le less) in
    let long : length before + 1 < length (map first_short blocks) = omega (arith, length-map blocks first_short, length-append before (held ∷ (next ∷ rest) ∷ more)) in
    let found = below (short_key key) (map first_short blocks) (length before + 1) [] (omega arith) long (ap (λ (s : List ℕ). is_le (byte_cmp (short_key key) s)) place ∙ short) in
    omega (arith, found)

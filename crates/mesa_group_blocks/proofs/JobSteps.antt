-- Jobs, whose blocks are read and grouped.
use Rattle.std.proofs.Common.{◌≡◌, ℕ, zero, suc, ◌+◌, ◌<◌, ◌≤◌, List, [], ◌∷◌, ◌++◌, length, map, take, drop, get_or, refl, sym, ◌∙◌, ap, subst, arith, append_assoc, Option, Some, true}
use Rattle.std.specs.Prelude.{flat_map, slice_get, slice_index_or, IfSome, IsTrue, Vec}
use Rattle.std.specs.declared.alloc.Global.{Global}
use Rattle.std.specs.List.{AllByRecursion}
use Rattle.std.proofs.lemmas.List.{append-nil, map-append, take-append-drop, take_all, take_more}
use Rattle.std.proofs.lemmas.Grind.{flat_map-append}
use Rattle.std.proofs.lemmas.List.Elements.{filter-append}
use Rattle.mesa_view.specs.mesa_key.declared.KeyType.{KeyType}
use Rattle.mesa_view.specs.mesa_key.Spelling.{is_spelling, key_of}
use Rattle.mesa_open_files.specs.mesa_columns.declared.rows.Row.{Row}
use Rattle.mesa_schema.specs.Changes.{columns_at, columns_of}
use Rattle.mesa_schema.specs.Laws.{LiftedForms}
use Rattle.mesa_open_files.specs.mesa_columns.Columns.{Columns, kinds_of}
use Rattle.mesa_open_files.specs.mesa_columns.Lifting.{lifted_with}
use Rattle.mesa_open_files.specs.mesa_columns.Rows.{AreRowsOf, IsRowOf}
use Rattle.mesa_filter.specs.Filter.{KeyFilter, filtered, meets}
use Rattle.mesa_delta.specs.Ahead.{AreAhead, IsOfFile, Told, Untested}
use Rattle.mesa_open_files.specs.mesa_delta_format.Indexed.{Indexed}
use Rattle.mesa_delta.specs.Reading.{IsBlock, IsIndexed}
use Rattle.mesa_open_files.specs.mesa_delta_format.Spread.{blocks_of}
use Rattle.mesa_scan.proofs.Lifted.{block_forms, lifts_all}
use Rattle.mesa_merge.specs.Inputs.{AreAlike, AreTold, IsTold, Known, lifted_in, tolds_of}
use Rattle.mesa_answer.specs.Gathered.{HasPut, wanted_of}
use Rattle.mesa_answer.specs.Gathering.{Wanted}
use Rattle.mesa_answer.specs.declared.groups.Groups.{Groups}
use Rattle.mesa_answer.proofs.Forms.{row_spells}
use Rattle.mesa_scan.specs.MatchingRows.{matching_rows}
use Rattle.mesa_scan.proofs.Blocks.{lifted_forms}
use Rattle.mesa_open_files.proofs.Retired.{all_append}
use Rattle.mesa_group_blocks.specs.declared.decoding.Decoding.{Decoding}
use Rattle.mesa_group_blocks.specs.declared.jobs.Job.{Job}
use Rattle.mesa_group_blocks.specs.declared.pieces.Piece.{Piece}
use Rattle.mesa_group_blocks.specs.Jobs.{CanGroup, HasGrouped, IsJob, pieces_in}
use Rattle.mesa_group_blocks.specs.Pieces.{AreDecodingsOf, IsDecodingOf, IsPieceOf, piece_of, rows_at, rows_in, rows_of_pieces}
use Rattle.mesa_group_blocks.proofs.Decoded.{file_of}
use Rattle.mesa_group_blocks.proofs.Moved.{all_at}
use Rattle.mesa_group_blocks.proofs.PieceRows.{rows_append, seen}

-- ---- what waits

-- what is known of a file at a place
told_of : (ks : List Known) (n : ℕ) (k : Known) → slice_get ks n ≡ Some k → slice_get (tolds_of ks) n ≡ Some (record { index = k.file; content = k.told })
told_of [] n k at = cc at
told_of (x ∷ ks) zero k at = ap (λ (o : Option Known). slice_get (tolds_of (x ∷ ks)) 0) at ∙ (let same : x ≡ k = cc at in ap (λ (y : Known). Some (record { index = y.file; content = y.told })) same)
told_of (x ∷ ks) (suc n) k at = told_of ks n k at

-- the first block that waits is one of its file
pub first_of_file : (ks : List Known) (u : Untested) (rest : List Untested) (k : Known) → AreAhead (tolds_of ks) (u ∷ rest) → slice_get ks u.file ≡ Some k → IsOfFile k.told k.file u
first_of_file ks u rest k h at = subst (λ (o : Option Told). IfSome o (λ (f : Told). IsOfFile f.content f.index u)) (told_of ks u.file k at) h.0

-- the rows of a told file
pub told_rows : (ks : List Known) (contents : List (List Row)) (n : ℕ) (k : Known) → AreTold ks contents → slice_get ks n ≡ Some k → IsTold k (get_or contents n [])
told_rows [] contents n k h at = cc at
told_rows (x ∷ ks) [] n k h at = absurd h
told_rows (x ∷ ks) (rows ∷ contents) zero k h at = let same : x ≡ k = cc at in subst (λ (y : Known). IsTold y rows) same h.0
told_rows (x ∷ ks) (rows ∷ contents) (suc n) k h at = told_rows ks contents n k h.1 at

pub alike_here : (s : Columns) (ks : List Known) (n : ℕ) (k : Known) → AreAlike s ks → slice_get ks n ≡ Some k → columns_of k.table ≡ s
alike_here s [] n k h at = cc at
alike_here s (x ∷ ks) zero k h at = let same : x ≡ k = cc at in subst (λ (y : Known). columns_of y.table ≡ s) same h.0
alike_here s (x ∷ ks) (suc n) k h at = alike_here s ks n k h.1 at

-- ---- a block that is decoded

-- a block of a file has the columns of the file's epoch
pub block_good : (k : Known) (d : Decoding) (n : ℕ) (block : List Row) → IsDecodingOf k d → IsBlock d.index.now n block → AreRowsOf (columns_at k.table k.epoch) block
block_good k d n block h is =
    let here : IsBlock k.file n block = subst (λ (x : Indexed). IsBlock x n block) h.index is in
    subst (λ (s : Columns). AreRowsOf s block) h.lift.columns (block_forms k.file.layout block here.rows)

-- its matching rows, as they are decoded, are those of the file's block
pub decoded_rows : (s : Columns) (f : KeyFilter) (ks : List Known) (contents : List (List Row)) (u : Untested) (rest : List Untested) (d : Decoding) (k : Known) (block : List Row) → f.kinds ≡ kinds_of s → AreAlike s ks → slice_get ks u.file ≡ Some k → IsDecodingOf k d
    → AreAhead (tolds_of ks) (u ∷ rest) → AreTold ks contents → IsBlock d.index.now u.block block
    → ((b : List ℕ) (all : List Row) → IsOfFile (Some b) d.index.now u → IsIndexed d.index.now all b → block ≡ get_or (blocks_of d.index.now.layout all) u.block [])
    → matching_rows f (map (lifted_with d.lift.now) block) ≡ rows_at f ks contents (piece_of u)
decoded_rows s f ks contents u rest d k block kinds alike at h ahead told is again =
    let rows : List Row = get_or contents u.file [] in
    let file = told_rows ks contents u.file k told at in
    let own : IsOfFile (Some file.0) k.file u = subst (λ (o : Option (List ℕ)). IsOfFile o k.file u) file.1 (first_of_file ks u rest k ahead at) in
    let same : block ≡ get_or (blocks_of k.file.layout rows) u.block [] =
    again file.0 rows (subst (λ (x : Indexed). IsOfFile (Some file.0) x u) (sym h.index) own) (subst (λ (x : Indexed). IsIndexed x rows file.0) (sym h.index) file.2) ∙ ap (λ (x : Indexed). get_or (blocks_of x.layout rows) u.block []) h.index in
    let table : f.kinds ≡ kinds_of (columns_of k.table) = kinds ∙ ap kinds_of (sym (alike_here s ks u.file k alike at)) in
    seen f d.lift.now k.table k.epoch block table h.lift.lifts (block_good k d u.block block h is)
    ∙ ap (λ (xs : List Row). filtered (columns_of k.table) f.terms (map (lifted_in k) xs)) same
    ∙ ap (λ (o : Option Known). rows_in f o rows u.block) (sym at)

-- ---- what waits is put

-- Of what waited some blocks were put.
pub record HasPutSome (s : Columns) (f : KeyFilter) (ds : List Decoding) (start waiting : List Untested) (before now : Groups) : Type 0 where
  pub put : (given : List Row) → HasPut before given → (more : List Row) × HasPut now (given ++ more)
      × ((ks : List Known) (contents : List (List Row)) → AreAlike s ks → AreDecodingsOf ks ds → AreAhead (tolds_of ks) start → AreTold ks contents
      → more ++ rows_of_pieces f ks contents (map piece_of waiting) ≡ rows_of_pieces f ks contents (map piece_of start))
  pub wanted : wanted_of now ≡ wanted_of before
  pub ahead : (ks : List Known) → AreAhead (tolds_of ks) start → AreAhead (tolds_of ks) waiting

pub put_none : (s : Columns) (f : KeyFilter) (ds : List Decoding) (start : List Untested) (groups : Groups) → HasPutSome s f ds start start groups groups
put_none s f ds start groups = record {
  put = λ given h. ([], subst (HasPut groups) (sym (append-nil given)) h, λ ks contents alike decoded ahead told. refl);
  wanted = refl;
  ahead = λ ks h. h;
}

-- one block more
pub put_more : (s : Columns) (f : KeyFilter) (ds : List Decoding) (start waiting : List Untested) (before between now : Groups) (u : Untested) (rest : List Untested) (d : Decoding) (block lifted : List Row) → HasPutSome s f ds start waiting before between → waiting ≡ u ∷ rest
    → f.kinds ≡ kinds_of s → slice_get ds u.file ≡ Some d → IsBlock d.index.now u.block block
    → ((b : List ℕ) (all : List Row) → IsOfFile (Some b) d.index.now u → IsIndexed d.index.now all b → block ≡ get_or (blocks_of d.index.now.layout all) u.block [])
    → lifted ≡ map (lifted_with d.lift.now) block
    → ((given : List Row) → HasPut between given → HasPut now (given ++ matching_rows f lifted)) → wanted_of now ≡ wanted_of between → HasPutSome s f ds start rest before now
put_more s f ds start waiting before between now u rest d block lifted h is kinds at tested again up put wanted = record {
  put = λ given was.
      let more = h.put given was in
      let own : List Row = matching_rows f lifted in (
        more.0 ++ own,
        subst (HasPut now) (append_assoc given more.0 own) (put (given ++ more.0) more.1),
        λ ks contents alike decoded ahead told.
            let file = file_of ks ds u.file d decoded at in
            let waits : AreAhead (tolds_of ks) (u ∷ rest) = subst (AreAhead (tolds_of ks)) is (h.ahead ks ahead) in
            let rows : own ≡ rows_at f ks contents (piece_of u) =
            ap (matching_rows f) up ∙ decoded_rows s f ks contents u rest d file.known block kinds alike file.there file.decoded waits told tested again in
            append_assoc more.0 own (rows_of_pieces f ks contents (map piece_of rest))
            ∙ ap (λ (xs : List Row). more.0 ++ (xs ++ rows_of_pieces f ks contents (map piece_of rest))) rows
            ∙ ap (λ (us : List Untested). more.0 ++ rows_of_pieces f ks contents (map piece_of us)) (sym is)
            ∙ more.2 ks contents alike decoded ahead told,
      );
  wanted = wanted ∙ h.wanted;
  ahead = λ ks ahead. (subst (AreAhead (tolds_of ks)) is (h.ahead ks ahead)).1;
}

-- all of them
pub put_all : (s : Columns) (f : KeyFilter) (ds : List Decoding) (start waiting : List Untested) (before now : Groups) → HasPutSome s f ds start waiting before now → waiting ≡ [] → (given : List Row) → HasPut before given → (more : List Row) × HasPut now (given ++ more)
    × ((ks : List Known) (contents : List (List Row)) → AreAlike s ks → AreDecodingsOf ks ds → AreAhead (tolds_of ks) start → AreTold ks contents → more ≡ rows_of_pieces f ks contents (map piece_of start))
put_all s f ds start waiting before now h none given was =
    let more = h.put given was in (
      more.0,
      more.1,
      λ ks contents alike decoded ahead told.
          sym (append-nil more.0) ∙ ap (λ (us : List Untested). more.0 ++ rows_of_pieces f ks contents (map piece_of us)) (sym none) ∙ more.2 ks contents alike decoded ahead told,
    )

-- a block of a file can be taken
pub taken_within : (ks : List Known) (ds : List Decoding) (u : Untested) (rest : List Untested) (d : Decoding) → AreDecodingsOf ks ds → AreAhead (tolds_of ks) (u ∷ rest) → slice_get ds u.file ≡ Some d → u.block < length d.index.now.entries
taken_within ks ds u rest d decoded ahead at =
    let file = file_of ks ds u.file d decoded at in
    subst (λ (x : Indexed). u.block < length x.entries) (sym file.decoded.index) (first_of_file ks u rest file.known ahead file.there).within

-- its lifted rows have the columns of the groups
pub lifted_good : LiftedForms → (s : Columns) (ks : List Known) (ds : List Decoding) (n m : ℕ) (d : Decoding) (block lifted : List Row) → AreAlike s ks → AreDecodingsOf ks ds → slice_get ds n ≡ Some d → IsBlock d.index.now m block → lifted ≡ map (lifted_with d.lift.now) block → AreRowsOf s lifted
lifted_good forms s ks ds n m d block lifted alike decoded at is up =
    let file = file_of ks ds n d decoded at in
    let k = file.known in
    let good = block_good k d m block file.decoded is in
    let rules = file.decoded.lift in
    let here : lifted ≡ map (lifted_in k) block = up ∙ lifts_all d.lift.now k.table k.epoch block rules.lifts good in
    subst (AreRowsOf s) (sym here) (subst (λ (t : Columns). AreRowsOf t (map (lifted_in k) block)) (alike_here s ks n k alike file.there) (lifted_forms forms k.table k.epoch block rules.rules good))

-- ---- jobs

-- A job whose blocks none was read of.
pub job_begun : (ks : List Known) (w : Wanted) (f : KeyFilter) (j : Job) → j.next ≡ 0 → j.waiting ≡ [] → AllByRecursion (IsPieceOf ks) j.pieces.items → wanted_of j.groups ≡ w → HasPut j.groups [] → IsJob ks w f j
job_begun ks w f j next none pieces wanted put = record {
  next = omega (arith, next);
  pieces = pieces;
  waiting = subst (AreAhead (tolds_of ks)) (sym none) tt;
  wanted = wanted;
  given = [];
  put = put;
  told = λ contents told. λ i. rows_of_pieces f ks contents (both none next j.pieces.items i);
} where
  both : {us : List Untested} {n : ℕ} → us ≡ [] → n ≡ 0 → (ps : List Piece) → map piece_of us ≡ take n ps
  both {us} {n} e z ps = ap (map piece_of) e ∙ ap (λ m. take m ps) (sym z)

-- one block more of it was read
pub job_more : (ks : List Known) (w : Wanted) (f : KeyFilter) (old new : Job) (u : Untested) (p : Piece) → IsJob ks w f old → old.next < length old.pieces.items → p ≡ get_or old.pieces.items old.next p → piece_of u ≡ p → AreAhead (tolds_of ks) (u ∷ [])
    → new.pieces ≡ old.pieces → new.next ≡ old.next + 1 → new.groups ≡ old.groups → new.waiting ≡ old.waiting ++ u ∷ [] → IsJob ks w f new
job_more ks w f old new u p h lt is own ahead pieces next groups waits = record {
  next = subst (λ (ps : Vec Piece Global). new.next ≤ length ps.items) (sym pieces) (omega (arith, next, lt));
  pieces = subst (λ (ps : Vec Piece Global). AllByRecursion (IsPieceOf ks) ps.items) (sym pieces) h.pieces;
  waiting = subst (AreAhead (tolds_of ks)) (sym waits) (all_append _ old.waiting (u ∷ []) h.waiting ahead);
  wanted = ap wanted_of groups ∙ h.wanted;
  given = h.given;
  put = subst (λ (g : Groups). HasPut g h.given) (sym groups) h.put;
  told = λ contents told.
      let rows : List Piece → List Row = rows_of_pieces f ks contents in
      let front : List Piece = take old.next old.pieces.items in
      let one : map piece_of new.waiting ≡ map piece_of old.waiting ++ p ∷ [] = ap (map piece_of) waits ∙ map-append piece_of old.waiting (u ∷ []) ∙ ap (λ (q : Piece). map piece_of old.waiting ++ q ∷ []) own in
      let behind : take new.next new.pieces.items ≡ front ++ p ∷ [] =
      (λ i. take (next i) (pieces i).items) ∙ take_more old.pieces.items old.next p lt ∙ ap (λ (q : Piece). front ++ q ∷ []) (sym is) in
      ap (λ (ps : List Piece). h.given ++ rows ps) one
      ∙ ap (λ (xs : List Row). h.given ++ xs) (rows_append f ks contents (map piece_of old.waiting) (p ∷ []))
      ∙ sym (append_assoc h.given (rows (map piece_of old.waiting)) (rows (p ∷ [])))
      ∙ ap (λ (xs : List Row). xs ++ rows (p ∷ [])) (h.told contents told)
      ∙ sym (rows_append f ks contents front (p ∷ []))
      ∙ ap rows (sym behind);
}

-- what waited of it was grouped
pub job_grouped : (ks : List Known) (w : Wanted) (f : KeyFilter) (ds : List Decoding) (old new : Job) → CanGroup ks w f ds old → new.pieces ≡ old.pieces → new.next ≡ old.next → new.waiting ≡ [] → wanted_of new.groups ≡ wanted_of old.groups
    → ((given : List Row) → HasPut old.groups given → (more : List Row) × HasPut new.groups (given ++ more)
    × ((files : List Known) (contents : List (List Row)) → AreAlike (wanted_of old.groups).schema files → AreDecodingsOf files ds → AreAhead (tolds_of files) old.waiting → AreTold files contents → more ≡ rows_of_pieces f files contents (map piece_of old.waiting)))
    → IsJob ks w f new
job_grouped ks w f ds old new can pieces next none wanted put =
    let h = can.job in
    let more = put h.given h.put in
    record {
      next = subst (λ (n : ℕ). n ≤ length new.pieces.items) (sym next) (subst (λ (ps : Vec Piece Global). old.next ≤ length ps.items) (sym pieces) h.next);
      pieces = subst (λ (ps : Vec Piece Global). AllByRecursion (IsPieceOf ks) ps.items) (sym pieces) h.pieces;
      waiting = subst (AreAhead (tolds_of ks)) (sym none) tt;
      wanted = wanted ∙ h.wanted;
      given = h.given ++ more.0;
      put = more.1;
      told = λ contents told.
          let alike : AreAlike (wanted_of old.groups).schema ks = subst (λ (v : Wanted). AreAlike v.schema ks) (sym h.wanted) can.alike in
          ap (λ (us : List Untested). (h.given ++ more.0) ++ rows_of_pieces f ks contents (map piece_of us)) none
          ∙ append-nil (h.given ++ more.0)
          ∙ ap (λ (xs : List Row). h.given ++ xs) (more.2 ks contents alike can.decoded h.waiting told)
          ∙ h.told contents told
          ∙ (λ i. rows_of_pieces f ks contents (take (sym next i) (sym pieces i).items));
    }

-- a job that is done has put the rows of all its blocks
pub job_done : (ks : List Known) (w : Wanted) (f : KeyFilter) (j : Job) (contents : List (List Row)) (h : IsJob ks w f j) → j.waiting ≡ [] → length j.pieces.items ≤ j.next → AreTold ks contents → h.given ≡ rows_of_pieces f ks contents j.pieces.items
job_done ks w f j contents h none le told =
    sym (append-nil h.given) ∙ ap (λ (us : List Untested). h.given ++ rows_of_pieces f ks contents (map piece_of us)) (sym none) ∙ h.told contents told
    ∙ ap (rows_of_pieces f ks contents) (take_all j.next j.pieces.items le)

-- ---- rows of a block

-- one row more of them is looked at
pub rows_next : (f : KeyFilter) (given rows : List Row) (i : ℕ) (row : Row) → i < length rows → row ≡ get_or rows i row → (given ++ matching_rows f (take i rows)) ++ matching_rows f (row ∷ []) ≡ given ++ matching_rows f (take (i + 1) rows)
rows_next f given rows i row lt is =
    append_assoc given (matching_rows f (take i rows)) (matching_rows f (row ∷ []))
    ∙ ap (λ (xs : List Row). given ++ xs) (
    sym (filter-append (λ (r : Row). meets (key_of f.kinds r.key) f.terms) (take i rows) (row ∷ []))
    ∙ ap (λ (r : Row). matching_rows f (take i rows ++ r ∷ [])) is
    ∙ ap (matching_rows f) (sym (take_more rows i row lt)))

-- a row of these columns can be tried
pub row_tried : (s : Columns) (f : KeyFilter) (rows : List Row) (i : ℕ) (row : Row) → f.kinds ≡ kinds_of s → AreRowsOf s rows → i < length rows → row ≡ get_or rows i row → IsTrue (is_spelling f.kinds row.key)
row_tried s f rows i row kinds form lt is = subst (λ (ks : List KeyType). IsTrue (is_spelling ks row.key)) (sym kinds) (row_spells s row (all_at (IsRowOf s) rows i row form lt is))

-- ---- all jobs

-- what waits of each can be grouped
pub can_group : (ks : List Known) (w : Wanted) (f : KeyFilter) (ds : List Decoding) (jobs : List Job) → f.kinds ≡ kinds_of w.schema → AreAlike w.schema ks → AreDecodingsOf ks ds → AllByRecursion (IsJob ks w f) jobs
    → (i : ℕ) (d : Job) → i < length jobs → CanGroup ks w f ds (slice_index_or jobs i d)
can_group ks w f ds [] kinds alike decoded all i d lt = absurd (omega (arith, lt))
can_group ks w f ds (j ∷ jobs) kinds alike decoded all zero d lt = record { filter = kinds; alike = alike; decoded = decoded; job = all.0 }
can_group ks w f ds (j ∷ jobs) kinds alike decoded all (suc i) d lt = can_group ks w f ds jobs kinds alike decoded all.1 i d (omega (arith, lt))

-- where it was, they go on
pub jobs_grouped : (ks : List Known) (w : Wanted) (f : KeyFilter) (ds : List Decoding) (old new : List Job) → f.kinds ≡ kinds_of w.schema → AreAlike w.schema ks → AreDecodingsOf ks ds → length new ≡ length old
    → ((i : ℕ) (d : Job) → i < length old → HasGrouped f ds (slice_index_or old i d) (slice_index_or new i d)) → AllByRecursion (λ (j : Job). j.sound ≡ true) new → AllByRecursion (IsJob ks w f) old → AllByRecursion (IsJob ks w f) new
jobs_grouped ks w f ds [] [] kinds alike decoded long each sound all = tt
jobs_grouped ks w f ds [] (y ∷ new) kinds alike decoded long each sound all = absurd (omega (arith, long))
jobs_grouped ks w f ds (x ∷ old) [] kinds alike decoded long each sound all = absurd (omega (arith, long))
jobs_grouped ks w f ds (x ∷ old) (y ∷ new) kinds alike decoded long each sound all =
    let one : HasGrouped f ds x y = each 0 x (omega arith) in (
      one.job sound.0 ks w (record { filter = kinds; alike = alike; decoded = decoded; job = all.0 }),
      jobs_grouped ks w f ds old new kinds alike decoded (omega (arith, long)) (λ i d lt. each (suc i) d (omega (arith, lt))) sound.1 all.1,
    )

-- and their blocks are the same
pub pieces_grouped : (f : KeyFilter) (ds : List Decoding) (old new : List Job) → length new ≡ length old → ((i : ℕ) (d : Job) → i < length old → HasGrouped f ds (slice_index_or old i d) (slice_index_or new i d)) → map pieces_in new ≡ map pieces_in old
pieces_grouped f ds [] [] long each = refl
pieces_grouped f ds [] (y ∷ new) long each = absurd (omega (arith, long))
pieces_grouped f ds (x ∷ old) [] long each = absurd (omega (arith, long))
pieces_grouped f ds (x ∷ old) (y ∷ new) long each =
    let one : HasGrouped f ds x y = each 0 x (omega arith) in
    let rest = pieces_grouped f ds old new (omega (arith, long)) (λ i d lt. each (suc i) d (omega (arith, lt))) in
    λ i. (one.pieces i).items ∷ rest i

-- the blocks of jobs, from their lists
pub pieces_flat : (jobs : List Job) → flat_map pieces_in jobs ≡ flat_map (λ (ps : List Piece). ps) (map pieces_in jobs)
pieces_flat [] = refl
pieces_flat (j ∷ jobs) = ap (λ (ps : List Piece). j.pieces.items ++ ps) (pieces_flat jobs)

pub pieces_same : (old new : List Job) → map pieces_in new ≡ map pieces_in old → flat_map pieces_in new ≡ flat_map pieces_in old
pieces_same old new same = pieces_flat new ∙ ap (λ (lists : List (List Piece)). flat_map (λ (ps : List Piece). ps) lists) same ∙ sym (pieces_flat old)

-- a run and what is behind it
pub split_whole : (n : ℕ) (rest run behind : List Piece) → run ≡ take n rest → behind ≡ drop n rest → rest ≡ run ++ behind
split_whole n rest run behind front back = sym (take-append-drop n rest) ∙ (λ i. sym front i ++ sym back i)

-- blocks dealt to one job more
pub dealt_more : (jobs : List Job) (j : Job) (run behind : List Piece) → j.pieces.items ≡ run → flat_map pieces_in (jobs ++ j ∷ []) ++ behind ≡ flat_map pieces_in jobs ++ (run ++ behind)
dealt_more jobs j run behind is =
    ap (λ (ps : List Piece). ps ++ behind) (flat_map-append pieces_in jobs (j ∷ []) ∙ ap (λ (ps : List Piece). flat_map pieces_in jobs ++ ps) (append-nil j.pieces.items ∙ is))
    ∙ append_assoc (flat_map pieces_in jobs) run behind

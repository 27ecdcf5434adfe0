use Rattle.std.proofs.Common.{◌≡◌, ◌∙◌, ◌++◌, ◌∷◌, Bor, List, ℕ, [], ap, sym, subst, map, take, get_or}
use Rattle.std.specs.Prelude.{IsTrue}
use Rattle.std.proofs.lemmas.List.{map-append, take_all}
use Rattle.mesa_columns.specs.mesa_key.Spelling.{is_spelling}
use Rattle.mesa_block.proofs.Laying.{at_mapped}
use Rattle.mesa_block.proofs.Putting.{Put, at_next, put_more, put_none, put_whole}
use Rattle.mesa_block.proofs.writing.put_column.Goals as goal

abbrev bytes_of : Bor (List ℕ) → List ℕ
bytes_of k = k.now

pub parted-requires-clause-spelled : goal.parted-requires-clause-spelled
parted-requires-clause-spelled c =
    let none : Bor (List ℕ) = record { ref_ptr = (0, 0); now = [] } in
    at_mapped (λ key. IsTrue (is_spelling c.args.kinds.now key)) (λ k. k.now) c.args.keys.now c.loop-key.key-index none c.loop-key-test.true c.requires.spelled

pub loop-key-init : goal.loop-key-init
loop-key-init c = λ kind others is. rw (c.clear.ensures.items, c.clear-2.ensures.items) (put_none kind c.args.out.now.items)

pub loop-key-preserved : goal.loop-key-preserved
loop-key-preserved c = λ kind others is.
    let l = c.loop-key in
    let none : Bor (List ℕ) = record { ref_ptr = (0, 0); now = [] } in
    let rests : map bytes_of c.push.new.self.items ≡ map bytes_of l.rests.items ++ bytes_of c.parted.result.1 ∷ [] = ap (map bytes_of) c.in_ok-push.ensures.items ∙ map-append bytes_of l.rests.items (c.parted.result.1 ∷ []) in
    subst (λ (ks : List (List ℕ)). Put kind ks c.args.out.now.items c.put_length.new.out.items c.extend_from_slice.new.self.items (map bytes_of c.push.new.self.items)) (sym (at_next bytes_of c.args.keys.now l.key-index none c.loop-key-test.true))
    (put_more kind (map bytes_of (take l.key-index c.args.keys.now)) (bytes_of (get_or c.args.keys.now l.key-index none)) c.args.out.now.items l.out.items c.put_length.new.out.items l.cells.items c.extend_from_slice.new.self.items (map bytes_of l.rests.items) (map bytes_of c.push.new.self.items) c.parted.result.0.now
    (l.invariant kind others is) (rw is at c.in_ok-put_length.ensures) c.in_ok-extend_from_slice.ensures.items (c.parted.ensures.cell kind others is) (rests ∙ ap (λ (x : List ℕ). map bytes_of l.rests.items ++ x ∷ []) (c.parted.ensures.rest kind others is)))

pub returns-clause-put : goal.returns-clause-put
returns-clause-put c = λ kind others is.
    let l = c.loop-key in
    put_whole kind (map bytes_of c.args.keys.now) c.args.out.now.items l.out.items c.extend_from_slice-2.new.self.items l.cells.items (map bytes_of l.rests.items)
    (subst (λ (xs : List (Bor (List ℕ))). Put kind (map bytes_of xs) c.args.out.now.items l.out.items l.cells.items (map bytes_of l.rests.items)) (take_all l.key-index c.args.keys.now c.loop-key-test.false) (l.invariant kind others is))
    (c.in_ok-extend_from_slice-2.ensures.items ∙ ap (λ (x : List ℕ). l.out.items ++ x) c.deref.ensures.value)

pub returns-clause-left : goal.returns-clause-left
returns-clause-left c = λ kind others is.
    let l = c.loop-key in
    (subst (λ (xs : List (Bor (List ℕ))). Put kind (map bytes_of xs) c.args.out.now.items l.out.items l.cells.items (map bytes_of l.rests.items)) (take_all l.key-index c.args.keys.now c.loop-key-test.false) (l.invariant kind others is)).rests

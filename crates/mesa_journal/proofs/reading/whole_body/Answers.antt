use Rattle.std.proofs.Common.{◌≡◌, ◌+◌, ◌-◌, ap, ℕ, List, length, take, drop, arith, length-drop}
use Rattle.std.proofs.lemmas.List.{get_or-drop, take_rest}
use Rattle.mesa_journal.specs.Journal.{of_word}
use Rattle.mesa_journal.proofs.Tails.{bytes_within, needed_of_long, whole}
use Rattle.mesa_journal.proofs.reading.whole_body.Goals as goal

pub returns-then-len-rest-clause-body : goal.returns-then-len-rest-clause-body
unfolding of_word
returns-then-len-rest-clause-body c =
    let tail = c.args.tail.now in
    let rest_is : take (length tail - 4) (drop 4 tail) ≡ drop 4 tail = take_rest tail 4 in
    whole tail _ c.from_be_bytes-len.result c.in-len4-up.len_at_least (λ i. let h = c.type_inv.tail i in omega arith) c.from_be_bytes-len.ensures c.from_be_bytes-len.type_inv
    (omega (arith, ap length rest_is, length-drop 4 tail))
    (ap (λ (l : List ℕ). take c.from_be_bytes-len.result l) rest_is)

pub returns-else-len-rest-clause-short : goal.returns-else-len-rest-clause-short
unfolding of_word
returns-else-len-rest-clause-short c e =
    let tail = c.args.tail.now in
    let rest_is : take (length tail - 4) (drop 4 tail) ≡ drop 4 tail = take_rest tail 4 in
    let is : c.from_be_bytes-len.result ≡ of_word tail = c.from_be_bytes-len.ensures in
    omega (arith, needed_of_long tail c.in-len4-up.len_at_least, ap length rest_is, length-drop 4 tail, is)

pub returns-then-len-rest-clause-bytes : goal.returns-then-len-rest-clause-bytes
returns-then-len-rest-clause-bytes c =
    let tail = c.args.tail.now in
    bytes_within _ (take (length tail - 4) (drop 4 tail)) (bytes_within (length tail - 4) (drop 4 tail) (λ i. rw (get_or-drop 4 tail i 0) (let h = c.type_inv.tail (4 + i) in omega arith)))

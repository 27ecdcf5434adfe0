use Rattle.std.proofs.Common.{◌≡◌, List, ℕ, ◌∙◌, ◌∷◌, [], ap, get_or}
use Rattle.std.specs.Int.{from_be_bytes, w64}
use Rattle.mesa_batch.proofs.Heads.{padded_bytes}
use Rattle.mesa_batch.proofs.spots.short_head.Goals as goal

pub returns : goal.returns
returns c =
    let key : List ℕ = c.args.key.now in
    let read : List ℕ = c.byte.result ∷ c.byte-2.result ∷ c.byte-3.result ∷ c.byte-4.result ∷ c.byte-5.result ∷ c.byte-6.result ∷ c.byte-7.result ∷ c.byte-8.result ∷ [] in
    let there : List ℕ = get_or key 0 0 ∷ get_or key 1 0 ∷ get_or key 2 0 ∷ get_or key 3 0 ∷ get_or key 4 0 ∷ get_or key 5 0 ∷ get_or key 6 0 ∷ get_or key 7 0 ∷ [] in
    let bytes : read ≡ there = λ i. c.byte.ensures i ∷ c.byte-2.ensures i ∷ c.byte-3.ensures i ∷ c.byte-4.ensures i ∷ c.byte-5.ensures i ∷ c.byte-6.ensures i ∷ c.byte-7.ensures i ∷ c.byte-8.ensures i ∷ [] in
    c.from_be_bytes.ensures ∙ ap (from_be_bytes w64) bytes ∙ ap (from_be_bytes w64) (padded_bytes key)

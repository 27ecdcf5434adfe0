use Rattle.std.proofs.Common.{◌≡◌, ◌∙◌, arith, sym}
use Rattle.std.specs.Prelude.{ℕ, Vec, false}
use Rattle.std.specs.Ordering.{is_lt}
use Rattle.std.specs.Map.{keys_of}
use Rattle.std.specs.declared.alloc.Global.{Global}
use Rattle.std.proofs.lemmas.List.Elements.{recursion_from_All}
use Rattle.mesa_key.specs.Order.{byte_cmp}
use Rattle.mesa_answer.proofs.Entries.{put-beyond}
use Rattle.mesa_answer.proofs.held.is_beyond.Goals as goal

pub returns-in-Some-clause-beyond : goal.returns-in-Some-clause-beyond
returns-in-Some-clause-beyond c = λ yes groups aggs values le.
    let last = c.in-Some.last.now in
    let P : Vec ℕ Global → Type 0 = λ (k : Vec ℕ Global). is_lt (byte_cmp last.items k.items) ≡ false in
    let all = recursion_from_All P (keys_of c.args.places.now.entries) c.in-Some.ensures.all_up_to in
    let less = rw (c.cmp.ensures, c.as_slice.ensures.value) at (sym c.is_lt.ensures ∙ yes) in
    put-beyond c.args.most last.items groups c.args.places.now.entries (record { key = c.args.key.now; values = values }) less all (omega (arith, le, c.len.ensures.len, c.if-len-most.false)) aggs

use Rattle.std.proofs.Common.{◌≡◌, ◌∙◌, ◌++◌, ◌∷◌, List, ℕ, length, arith, ap, subst}
use Rattle.std.specs.Int.{w16, to_be_bytes}
use Rattle.std.proofs.lemmas.List.{length-map}
use Rattle.mesa_columns.specs.declared.columns.ValueColumn.{ValueColumn}
use Rattle.mesa_block.specs.Layout.{width_of}
use Rattle.mesa_block.specs.Fill.{AreOver, Built}
use Rattle.mesa_block.specs.Spelling.{block}
use Rattle.mesa_block.proofs.Held.{block_held, count_over, keys_held}
use Rattle.mesa_block.proofs.builder.BlockBuilder.take.Goals as goal

pub put_head-requires : goal.put_head-requires
put_head-requires c =
    let b = c.self.inside in
    omega (arith, c.len.ensures, c.self.invariant.built.few, count_over (length b.schema.values) b.keys b.values.items)

pub put_keys-requires : goal.put_keys-requires
put_keys-requires c =
    let b = c.self.inside in
    rw c.deref.ensures.value (keys_held c.reads_back.ensures.passes (record { format = b.format; columns = b.schema }) b.kinds.items b.widths.items b.size b.keys b.values.items b.len c.self.invariant)

pub returns-clause-spelled : goal.returns-clause-spelled
returns-clause-spelled c =
    let b = c.self.inside in
    let h = c.self.invariant in
    let head : c.put_head.new.out.items ≡ 0 ∷ to_be_bytes w16 c.len.result = c.in_ok-put_head.ensures ∙ ap (λ (l : List ℕ). l ++ 0 ∷ to_be_bytes w16 c.len.result) c.clear.ensures.items in
    let keys = rw c.deref.ensures.value at c.in_ok-put_keys.ensures in
    let count : length b.widths.items ≡ length b.schema.values = ap length h.widths ∙ length-map b.schema.values (λ (c : ValueColumn). width_of b.format c.agg) in
    let over : AreOver (length c.deref-3.result.now) b.keys c.deref-2.result.now = rw (c.deref-2.ensures.value, c.deref-3.ensures.value, count) h.over in
    let values = rw (c.deref-2.ensures.value, c.deref-3.ensures.value, count) at (c.in_ok-put_values.ensures b.keys over) in
    subst (λ (x : Built). c.swap.new.x.items ≡ block x.layout x.rows) c.self.view_is
    (rw c.swap.ensures.x_after (block_held (record { format = b.format; columns = b.schema }) b.kinds.items b.widths.items b.size b.keys b.values.items b.len c.len.result c.put_head.new.out.items c.put_keys.new.out.items c.put_values.new.out.items h c.len.ensures head keys values))

use Rattle.std.proofs.Common.{◌≡◌, ◌∙◌, ◌+◌, ◌-◌, ◌≤◌, ℕ, None, ap, arith, map}
use Rattle.std.specs.List.{range_with_len}
use Rattle.mesa_compact.specs.mesa_delta_format.Places.{shorts_of}
use Rattle.mesa_split.specs.Sampling.{part_key, risen}
use Rattle.mesa_split.proofs.Cuts.{cut_more}
use Rattle.mesa_split.proofs.sampling.sample_index.Goals as goal

pub parts-preserved : goal.parts-preserved
parts-preserved c =
    let part = c.parts.part in
    let from : 1 ≤ part + 1 = omega arith in
    let to : part + 1 - 1 ≤ c.args.parts - 1 = omega (arith, c.parts-test.true) in
    record {
      from = from;
      to = to;
      cuts = cut_more c.args.parts (shorts_of c.args.index.now.entries) c.parts.cuts c.add_cut.new.cuts part c.in_ok-key.key c.parts.invariant.from c.parts.invariant.cuts (c.in_ok-key.ensures ∙ c.first_short.ensures) c.in_ok-add_cut.ensures;
    }

pub returns : goal.returns
returns c =
    let shorts = shorts_of c.args.index.now.entries in
    let e : c.parts.part - 1 ≡ c.args.parts - 1 = omega (arith, c.parts-test.false, c.parts.invariant.from, c.parts.invariant.to) in
    c.parts.invariant.cuts ∙ ap (λ (n : ℕ). risen None (map (part_key c.args.parts shorts) (range_with_len 1 n))) e

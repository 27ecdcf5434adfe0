use Rattle.std.proofs.Common.{◌≤◌, length, inl, arith}
use Rattle.mesa_disk.specs.Image.{area_of}
use Rattle.mesa_disk.specs.declared.area.Area.TheVariants.{Zero}
use Rattle.mesa_dir_bench.proofs.finding.read.Goals as goal

pub close_gate-requires-after_bounds : goal.close_gate-requires-after_bounds
close_gate-requires-after_bounds g c κs within i is =
    let laws = g.met.D.Disk g.world.𝓛 g.world.𝓜 g.world.𝓡 ((λ s x. x), (λ x. x), (λ x. x), λ x. x) in
    inl (let n : length (area_of Zero i) ≤ 1 = omega (arith, laws.lengths c.args.disk.now i Zero is, c.journal_len.ensures, c.if-journal_len-le1.true) in n)

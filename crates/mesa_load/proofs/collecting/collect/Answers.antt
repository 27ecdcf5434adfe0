use Rattle.std.proofs.Common.{◌++◌, ◌≡◌, length, map, ap, subst, sym, arith}
use Rattle.std.specs.Prelude.{IfErr, OnOk}
use Rattle.std.specs.List.{AllByRecursion}
use Rattle.mesa_load.specs.Collected.{HasCause, IsUnwritten, finished}
use Rattle.mesa_load.proofs.Keeping.{kept_more, quiet_more, refused_more}
use Rattle.mesa_load.proofs.collecting.collect.Goals as goal

pub files-preserved : goal.files-preserved
files-preserved g c =
    let inv = c.files.invariant in
    let items = c.in-Some.ensures.items in
    let first = g.B.Bench.faults c.args.bench.now in
    let before = g.B.Bench.faults c.files.bench in
    let now = g.B.Bench.faults c.keep-next.new.bench in
    let next = c.keep-next.ensures in
    let both = sym c.graver-kept.ensures in
    record {
      told = (subst (AllByRecursion (HasCause g.B.Draft.Draft.faults)) items inv.told).1;
      kept = subst (λ r. OnOk r (c.args.written.items ≡ map finished c.keep-next.new.files.items ++ c.pop_front.new.self.items)) both
          (kept_more c.args.written.items c.files.kept c.keep-next.result c.files.files.items c.keep-next.new.files.items c.in-Some.file c.pop_front.new.self.items
          (subst (λ left. OnOk c.files.kept (c.args.written.items ≡ map finished c.files.files.items ++ left)) items inv.kept) next.kept);
      room = omega (arith, inv.room, next.room, next.longer, ap length items);
      later = omega (arith, inv.later, next.later);
      quiet = subst (λ r. OnOk r (now ≡ first)) both (quiet_more c.files.kept c.keep-next.result first before now inv.quiet next.quiet);
      refused = subst (λ r. IfErr r (IsUnwritten first now)) both (refused_more c.files.kept c.keep-next.result first before now inv.quiet inv.refused next.later next.quiet next.refused);
    }

use Rattle.std.proofs.Common.{◌≡◌, ◌+◌, ◌-◌, ◌∙◌, sym, ap, length, take, arith}
use Rattle.std.proofs.lemmas.List.{length-take-le}
use Rattle.mesa_disk.specs.Picked.{synced}
use Rattle.mesa_disk.proofs.Picks.{synced-sync, synced-other, no_sync, last_of}
use Rattle.mesa_disk.proofs.memory.calls.count_synced.Goals as goal

pub returns-in-Sync-clause-count : goal.returns-in-Sync-clause-count
returns-in-Sync-clause-count c =
    let left = c.loop-left.left.now in
    let split = last_of left c.done-item.result c.in-len1-up.len_at_least c.done-item.is in
    let len : length left ≡ length (take (length left - 1) left) + 1 = omega (arith, length-take-le (length left - 1) left, c.in-len1-up.len_at_least) in
    len ∙ sym (synced-sync (take (length left - 1) left) c.done-item.result c.in-Sync.is) ∙ ap synced (sym split) ∙ c.loop-left.invariant.count

pub loop-left-preserved : goal.loop-left-preserved
loop-left-preserved c =
    let left = c.loop-left.left.now in
    let split = last_of left c.done-item.result c.in-len1-up.len_at_least c.done-item.is in
    record {
      count = sym (synced-other (take (length left - 1) left) c.done-item.result (no_sync c.done-item.result.call c.in_default-call.not-Sync)) ∙ ap synced (sym split) ∙ c.loop-left.invariant.count;
      within = omega (arith, length-take-le (length left - 1) left, c.loop-left.invariant.within);
    }

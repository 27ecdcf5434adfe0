use Rattle.std.proofs.Common.{◌≡◌, ◌≤◌, ◌-◌, ℕ, List, length, take, drop}
use Rattle.mesa_cache.specs.Pages.{AreAmong, AreOf}
use Rattle.mesa_cache.proofs.pages.copy_front.Given as goal

abbrev pub invariant-pieces : goal.invariant-pieces
invariant-pieces l = record {
  told : (bytes : List ℕ) → AreOf bytes l.fn.pages.entries → take l.done l.buf ≡ take l.done (drop l.at bytes);
  within : l.done ≤ length l.buf;
  among : AreAmong l.pages.entries l.fn.pages.entries;
}

abbrev pub decreases-pieces : goal.decreases-pieces
decreases-pieces l = length l.initial.buf - l.done

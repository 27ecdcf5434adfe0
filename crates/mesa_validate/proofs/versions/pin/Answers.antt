use Rattle.std.proofs.Common.{◌≡◌, ◌<◌, arith, length, refl, true, false, Ok, Err}
use Rattle.std.specs.Prelude.{nat_le}
use Rattle.std.proofs.lemmas.Bool.{le-leb}
use Rattle.std.proofs.lemmas.Bool.Decides.{nat_tests}
use Rattle.std.proofs.lemmas.Result.{err_from_is_err_and}
use Rattle.mesa_model.specs.Warehouse.{max_pins}
use Rattle.mesa_validate.proofs.Seen.{pinned_by}
use Rattle.mesa_validate.proofs.versions.pin.Goals as goal

pub returns-in_err-version-clause-refused : goal.returns-in_err-version-clause-refused
returns-in_err-version-clause-refused c =
    let p = err_from_is_err_and c.from_residual.result c.from_residual.ensures.1 in
    rw (p.1, p.2) (λ w session has count. pinned_by c.args.catalog.now.catalogue w session c.args.asked c.common_oldest.result (Err c.in_err-version.field-0.0) (nat_le max_pins (length w.pins)) has c.common_oldest.ensures (c.in_err-version.ensures.asked w has) refl)

pub returns-then-pins-ge-MAX_PINS-clause-refused : goal.returns-then-pins-ge-MAX_PINS-clause-refused
returns-then-pins-ge-MAX_PINS-clause-refused c = λ w session has count.
    let full : nat_le max_pins (length w.pins) ≡ true = le-leb max_pins (length w.pins) (omega (arith, count, c.if-pins-ge-MAX_PINS.true)) in
    pinned_by c.args.catalog.now.catalogue w session c.args.asked c.common_oldest.result (Ok c.in_ok-version.version) true has c.common_oldest.ensures (c.in_ok-version.ensures.asked w has) full

pub returns-clause-pinned : goal.returns-clause-pinned
returns-clause-pinned c = λ w session has count.
    let few : length w.pins < max_pins = omega (arith, count, c.if-pins-ge-MAX_PINS.false) in
    let room : nat_le max_pins (length w.pins) ≡ false = grind (arith, nat_tests) in
    pinned_by c.args.catalog.now.catalogue w session c.args.asked c.common_oldest.result (Ok c.in_ok-version.version) false has c.common_oldest.ensures (c.in_ok-version.ensures.asked w has) room

use Rattle.std.proofs.Common.{refl, ◌≡◌, ◌-◌, ◌≤◌, ◌+◌, ◌%◌, ◌∙◌, length, arith}
use Rattle.mesa_cache.proofs.Parts.{part_from, part_len, part_fits, filled_behind, put_len}
use Rattle.mesa_cache.proofs.pages.copy_front.Goals as goal

pub copy_kept-requires : goal.copy_kept-requires
copy_kept-requires c = λ page is.
    let count : c.min.result ≤ length c.pieces.buf - c.pieces.done = omega (arith, c.min.ensures) in
    let within : (c.args.at + c.pieces.done) + (length c.pieces.buf - c.pieces.done) ≤ c.args.size = omega (arith, c.pieces.invariant.within, c.pieces.auto.buf, c.requires) in
    rw (part_len c.pieces.buf c.pieces.done c.min.result count) (part_fits _ _ _ _ _ c.min.ensures within (c.requires.sized _ page (c.pieces.invariant.among _ page is)))

pub pieces-preserved : goal.pieces-preserved
pieces-preserved c =
    let from = c.args.at + c.pieces.done in
    let count : c.min.result ≤ length c.pieces.buf - c.pieces.done = omega (arith, c.min.ensures) in
    let fits : c.min.result ≤ 16384 - from % 16384 = omega (arith, c.min.ensures) in
    let front : c.pieces.done ≤ length c.pieces.buf = omega arith in
    let room : c.pieces.done + c.min.result ≤ length c.pieces.buf = omega arith in
    let same = part_len c.pieces.buf c.pieces.done c.min.result count in
    let len : length c.copy_kept.new.piece ≡ c.min.result = c.copy_kept.auto.piece ∙ same in
    record {
      told = λ bytes are.
          let found = c.if-not-copy_kept.ensures.found refl in
          let page = are _ found.0 (c.pieces.invariant.among _ found.0 found.1) in
          let part = part_from bytes found.0 c.copy_kept.new.piece from c.min.result fits page (rw same at found.2) in
          filled_behind bytes c.pieces.buf c.copy_kept.new.piece c.args.at c.pieces.done c.min.result _ front len (c.pieces.invariant.told bytes are) part;
      within = rw (put_len c.pieces.buf c.copy_kept.new.piece c.pieces.done c.min.result (c.pieces.done + c.min.result - c.pieces.done) room len (omega arith)) room;
      among = λ n p is. c.pieces.invariant.among n p (c.if-not-copy_kept.ensures.among n p is);
    }

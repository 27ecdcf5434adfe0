use Rattle.std.specs.Prelude.{◌≡◌, true, length, Ok}
use Rattle.std.specs.List.{list_all}
use Rattle.std.proofs.Common.{ap, arith, ◌∙◌}
use Rattle.mesa_dir.specs.Paths.{is_lower_hex}
use Rattle.mesa_dir.proofs.Digits.{id_hex, id_len, id_read}
use Rattle.mesa_dir.proofs.names.id_number.Goals as goal
use Rattle.mesa_dir.proofs.names.id_number.Goals.{then-digits-ne16-via-then-digits-ne16, then-digits-ne16-via-else-digits-ne16+then-not-are_digits}

pub returns-then-digits-ne16-clause-read : goal.returns-then-digits-ne16-clause-read
returns-then-digits-ne16-clause-read c = λ id small is.
    elim c.then-digits-ne16.branch [
      | then-digits-ne16-via-then-digits-ne16 w ↦ absurd (omega (arith, w.if-digits-ne16.true, ap length is, id_len id small))
      | then-digits-ne16-via-else-digits-ne16+then-not-are_digits w ↦
          let hex : list_all is_lower_hex c.args.digits.now ≡ true = ap (list_all is_lower_hex) is ∙ id_hex id small in cc
    ]

pub returns-clause-read : goal.returns-clause-read
returns-clause-read c = λ id small is.
    let read : c.from_str_radix.result ≡ Ok id = id_read id small c.args.digits.now c.from_str_radix.result is c.from_str_radix.ensures.value in
    rw read at c.ok.ensures.value

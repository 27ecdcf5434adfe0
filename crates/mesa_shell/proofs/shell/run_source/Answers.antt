use Rattle.std.proofs.Common.{◌≡◌, ◌∙◌, sym, inl, inr}
use Rattle.mesa_io.specs.declared.whole.ReadError.TheVariants as read_error
use Rattle.mesa_shell.proofs.shell.run_source.Goals as goal

pub returns-in-Err-Fault : goal.returns-in-Err-Fault
returns-in-Err-Fault g c = inl (c.in-Err-Fault.ensures.cause.failed c.in-Err-Fault.field-0-is, (c.ended.ensures.disk, c.ended.ensures.ended))

pub returns-in-Err-TooLong : goal.returns-in-Err-TooLong
returns-in-Err-TooLong g c =
    let quiet = c.in-Err-TooLong.ensures.cause.other (λ e. let fault : read_error.TooLong c.in-Err-TooLong.field-0-0 ≡ read_error.Fault = sym c.in-Err-TooLong.field-0-is ∙ e in cc) in
    inr (quiet, inl (c.in-Err-TooLong.ensures.too_long c.in-Err-TooLong.field-0-0 (cc c.in-Err-TooLong.field-0-is), (c.ended-in-Err-TooLong.ensures.disk, c.ended-in-Err-TooLong.ensures.ended)))

pub returns-in-Err-Memory : goal.returns-in-Err-Memory
returns-in-Err-Memory g c =
    let quiet = c.in-Err-Memory.ensures.cause.other (λ e. let fault : read_error.Memory ≡ read_error.Fault = sym c.in-Err-Memory.field-0-is ∙ e in cc) in
    inr (quiet, inr (inr (c.lacks_memory.ensures.disk, c.lacks_memory.ensures.ended)))

use Rattle.std.proofs.Common.{◌≡◌, ◌∙◌, ap, subst, sym, true, arith}
use Rattle.mesa_record.specs.declared.record.Record.TheVariants as record_of
use Rattle.mesa_record.specs.Rules.{keeps_rules}
use Rattle.mesa_store_spec.specs.Checkpoint.{checkpoint_of}
use Rattle.mesa_recover.proofs.Restating.{checkpoint_ruled}
use Rattle.mesa_recover.proofs.anew.state_anew.Goals as goal

pub encode-requires : goal.encode-requires
encode-requires c =
    let k = c.args.catalog.now.catalogue in
    let number = c.in-Some.number in
    let is = c.in_ok-checkpoint.ensures ∙ ap (λ run. record_of.Checkpoint (record (checkpoint_of number k) { run = run })) c.run.ensures in
    subst (λ r. keeps_rules r ≡ true) (sym is) (checkpoint_ruled c.args.live.area c.requires.0 k number c.requires.1 c.requires.2 (omega arith))

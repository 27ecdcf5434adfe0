use Rattle.std.proofs.Common.{ℕ, List, Option, sym, subst}
use Rattle.std.proofs.lemmas.Result.{IfErr-weaker}
use Rattle.mesa_recover.specs.Damages.{IsFileDamage}
use Rattle.mesa_recover.proofs.checking.check_file.Goals as goal

pub returns-clause-damaged : goal.returns-clause-damaged
returns-clause-damaged g c = IfErr-weaker c.check_bytes-checked.result _ _
    (λ e h d is i told. (let o = c.in-Ok.ensures.opened i told in subst (λ (f : Option (List ℕ)). IsFileDamage f c.args.file.now d) (sym o.1) (h d is o.0 o.2))) c.check_bytes-checked.ensures.damaged

use Rattle.std.proofs.Common.{sym, subst, arith}
use Rattle.mesa_store.specs.mesa_key.Spelling.{AreBytes}
use Rattle.mesa_recover.proofs.framing.frame_bytes.Goals as goal

pub returns-clause-bytes : goal.returns-clause-bytes
returns-clause-bytes c = subst AreBytes (sym c.in_ok-framed.ensures) (λ i. let h = c.type_inv.body i in omega arith)

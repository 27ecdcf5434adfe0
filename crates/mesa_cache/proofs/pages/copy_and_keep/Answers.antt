use Rattle.std.proofs.Common.{subst}
use Rattle.mesa_cache.specs.Pages.{AreWith}
use Rattle.mesa_cache.proofs.Kept.{kept_with}
use Rattle.mesa_cache.proofs.pages.copy_and_keep.Goals as goal

pub returns-clause-with : goal.returns-clause-with
returns-clause-with c =
    subst (λ page. AreWith c.args.number page c.put-kept.new.self.entries c.args.pages.now.entries) c.from_vec.ensures
    (kept_with c.put-kept.result _ _ c.args.pages.now c.put-kept.new.self c.put-kept.ensures.entries c.put-kept.ensures.err)

use Rattle.std.proofs.Common.{inl, inr, refl}
use Rattle.mesa_compact.proofs.Causing.{caused_damage, caused_on}
use Rattle.mesa_split.proofs.split.merge_split.Goals as goal

pub returns-in-Some-clause-causes : goal.returns-in-Some-clause-causes
returns-in-Some-clause-causes g c = caused_damage _ _ _ _ _ _ c.in-Some.damage refl refl refl (inl c.in-Some.is)

pub returns-in-Ok-clause-causes : goal.returns-in-Ok-clause-causes
returns-in-Ok-clause-causes g c = caused_on _ _ _ _ _ _ _ _ _ _ refl refl c.in-Ok.ensures.causes tt (λ d told. inr (c.in-None.is, told))

pub returns-in-Err-clause-causes : goal.returns-in-Err-clause-causes
returns-in-Err-clause-causes g c = caused_on _ _ _ _ _ _ _ _ _ _ refl refl c.in-Err.ensures.causes refl (λ d told. inr (c.in-None.is, told))

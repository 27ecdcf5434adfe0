use Rattle.std.proofs.Common.{inl, inr, refl}
use Rattle.mesa_compact.proofs.Causing.{caused_damage, caused_on, same_end}
use Rattle.mesa_copy.proofs.task.regroup_more.Goals as goal

pub returns-in-Some-clause-ids : goal.returns-in-Some-clause-ids
returns-in-Some-clause-ids g c = (0, refl)

pub returns-in-Some-clause-causes : goal.returns-in-Some-clause-causes
returns-in-Some-clause-causes g c = caused_damage _ _ _ _ _ _ c.in-Some.damage refl refl refl (inl c.in-Some.is)

pub returns-in-None-clause-causes : goal.returns-in-None-clause-causes
returns-in-None-clause-causes g c = caused_on _ _ _ _ _ _ _ _ c.regroup_sound.result c.regroup_sound.result refl refl c.regroup_sound.ensures.causes (same_end c.regroup_sound.result) (λ d told. inr (c.in-None.is, told))

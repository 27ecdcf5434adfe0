use Rattle.std.proofs.Common.{ap, inl, inr, refl}
use Rattle.std.specs.Prelude.{Vec}
use Rattle.std.specs.declared.alloc.Global.{Global}
use Rattle.mesa_open_files.specs.declared.merging.Spare.{Spare}
use Rattle.mesa_compact.proofs.Causing.{caused_damage, same_end}
use Rattle.mesa_compact.proofs.Tasking.{caused_spare}
use Rattle.mesa_compact.proofs.Whole.{if_err_map}
use Rattle.mesa_compact.proofs.task.merge_task.Goals as goal

pub returns-in-Some-clause-causes : goal.returns-in-Some-clause-causes
returns-in-Some-clause-causes g c = caused_damage _ _ _ _ _ _ c.in-Some.damage refl refl refl (inl c.in-Some.is)

pub returns-in-Some-clause-ids : goal.returns-in-Some-clause-ids
returns-in-Some-clause-ids g c = (0, refl)

pub returns-in-None-clause-causes : goal.returns-in-None-clause-causes
returns-in-None-clause-causes g c =
    let old = c.args.task.now in
    let new = c.merge_sound.new.task in
    caused_spare g.R.FileReader.faults _ _ _ _ old.inputs.items new.inputs.items old.spare.items new.spare.items c.merge_sound.result c.merge_sound.result
    (ap (λ (v : Vec (Spare g.row.R.Denot) Global). v.items) c.merge_sound.ensures.spare) c.merge_sound.ensures.causes (same_end c.merge_sound.result) (λ d told. inr (c.in-None.is, told))

pub returns-in-None-clause-accepts : goal.returns-in-None-clause-accepts
returns-in-None-clause-accepts g c = if_err_map c.merge_sound.result _ _ (λ e never d is whole l t bounded. never d is l t bounded) c.merge_sound.ensures.accepts

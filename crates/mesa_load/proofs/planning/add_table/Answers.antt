use Rattle.std.proofs.Common.{◌≡◌, ◌<◌, Bool, true, false, length, Ok, Err, refl, sym, ◌∙◌, arith}
use Rattle.std.specs.Prelude.{Result, OnOk, nat_le, ◌||◌}
use Rattle.std.proofs.lemmas.List.{nil_from_length}
use Rattle.std.specs.List.{list_any}
use Rattle.mesa_schema.specs.Changes.{Lineage}
use Rattle.mesa_batch.specs.Gathered.{rows_at}
use Rattle.mesa_batch.specs.Totals.{sum_bound}
use Rattle.mesa_batch.specs.Glance.{Known}
use Rattle.mesa_load.proofs.Places.{if_some, splits_at}
use Rattle.mesa_load.proofs.Shares.{next_table, plan_next, plan_same}
use Rattle.mesa_load.specs.declared.planning.Plan.{Plan}
use Rattle.mesa_load.specs.declared.planning.Planned.{Planned}
use Rattle.mesa_load.proofs.planning.add_table.Goals as goal
use Rattle.mesa_load.proofs.planning.add_table.Goals.{then-plan, else-plan}

pub returns-then-count-eq0 : goal.returns-then-count-eq0
returns-then-count-eq0 c =
    λ rows batched plan. plan_same c.args.glance.now rows c.args.batch.now c.args.table c.args.plan.now c.requires batched (nil_from_length (rows_at c.args.table c.args.batch.now) (sym c.count-count.ensures ∙ c.if-count-eq0.true)) plan

either : (x y z : Bool) → x ≡ true → z ≡ true → z ≡ (x || y)
either true y z a b = b
either false y z a b = absurd cc

neither : (x y : Bool) → x ≡ false → y ≡ (x || y)
neither true y a = absurd cc
neither false y a = refl

both : {T E : Type 0} (r : Result T E) (A B C : Type 0) → OnOk r A → OnOk r B → (A → B → C) → OnOk r C
both (Ok x) A B C a b f = f a b
both (Err e) A B C a b f = tt

pub returns : goal.returns
returns c =
    let table = c.args.table in
    let sight = c.args.glance.now in
    let b = c.args.batch.now in
    let l : Lineage = c.deref-evolving.result.now in
    let over : c.if-plan.plan ≡ (c.args.plan.now.over || list_any (λ total. nat_le sum_bound total) c.in_ok-totals.totals) = elim c.if-plan.branch [
      | then-plan w ↦ either c.args.plan.now.over _ c.if-plan.plan w.if-plan.true (w.plan-is ∙ w.if-plan.true)
      | else-plan w ↦ w.plan-is ∙ w.is_over-plan.ensures ∙ neither c.args.plan.now.over _ w.if-plan.false
    ] in
    both c.add_jobs.result _ _ _ c.add_jobs.ensures.contents c.add_jobs.ensures.fit (λ contents fit rows batched plan.
    let some : 0 < length (rows_at table b) = omega (arith, c.count-count.ensures, c.if-count-eq0.false) in
    let s = splits_at table sight.tables c.requires in
    let known = if_some (λ (t : Known). c.evolving.result.now.value ≡ t.lineage) _ s.x s.at c.evolving.ensures in
    let lineage : l ≡ s.x.lineage = c.deref-evolving.ensures ∙ known in
    let next = next_table sight rows b table l c.requires batched some lineage in
    let p : Planned = record { table = table; views = c.views.result; totals = c.in_ok-totals.totals } in
    let new : Plan = record { parts = c.push.new.self; jobs = c.add_jobs.new.jobs; over = c.if-plan.plan } in
    plan_next c.folds_by_key.ensures.rise sight rows b table l c.args.plan.now new p next plan c.in_ok-push.ensures.items refl c.views.ensures c.in_ok-totals.ensures
    contents over fit)

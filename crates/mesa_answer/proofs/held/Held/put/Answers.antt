use Rattle.std.proofs.Common.{◌<◌, ◌∙◌, List, ap, arith, length, sym, subst}
use Rattle.mesa_model.specs.mesa_columns.declared.rows.Row.{Row}
use Rattle.mesa_model.specs.mesa_fold.Put.{put_row}
use Rattle.mesa_answer.specs.Held.{StandsAt, values_in}
use Rattle.mesa_answer.proofs.Entries.{Meets, found_at, length-rows_in, met_full, met_placed, met_put, met_value, put_room}
use Rattle.mesa_answer.proofs.Results.{if_on_err, on_ok}
use Rattle.mesa_answer.proofs.held.Held.put.Goals as goal

-- ---- by a guess

pub combine_at-requires-clause-old_full : goal.combine_at-requires-clause-old_full
combine_at-requires-clause-old_full c =
    let h = c.self.inside in
    let groups = h.groups.items in
    let es = h.places.entries in
    let held = c.args.self.now in
    let key = c.args.key.now in
    let place = c.in-Some.place in
    let met : Meets groups es held place key = record { placed = c.self.invariant; at = subst (λ (gs : List Row). StandsAt gs place key) c.deref.ensures.value c.in-Some.ensures; seen = c.self.view_is } in
    met_full c.args.aggs.now groups es held place key met c.requires.full

pub invariant_of-self : goal.invariant_of-self
invariant_of-self c =
    let h = c.self.inside in
    let groups = h.groups.items in
    let es = h.places.entries in
    let held = c.args.self.now in
    let key = c.args.key.now in
    let place = c.in-Some.place in
    let met : Meets groups es held place key = record { placed = c.self.invariant; at = subst (λ (gs : List Row). StandsAt gs place key) c.deref.ensures.value c.in-Some.ensures; seen = c.self.view_is } in
    met_placed c.combine_at.result groups c.combine_at.new.groups.items es held place key _ met c.combine_at.ensures.ok c.combine_at.ensures.err

pub returns-in-Some-clause-put : goal.returns-in-Some-clause-put
returns-in-Some-clause-put c =
    let h = c.self.inside in
    let groups = h.groups.items in
    let es = h.places.entries in
    let held = c.args.self.now in
    let key = c.args.key.now in
    let place = c.in-Some.place in
    let met : Meets groups es held place key = record { placed = c.self.invariant; at = subst (λ (gs : List Row). StandsAt gs place key) c.deref.ensures.value c.in-Some.ensures; seen = c.self.view_is } in
    on_ok c.combine_at.result _ _ (λ is. met_put c.args.most c.args.aggs.now groups c.combine_at.new.groups.items es held place key c.args.values.now met c.requires.short is) c.combine_at.ensures.ok

pub returns-in-Some-clause-cause : goal.returns-in-Some-clause-cause
returns-in-Some-clause-cause c =
    let h = c.self.inside in
    let groups = h.groups.items in
    let es = h.places.entries in
    let held = c.args.self.now in
    let key = c.args.key.now in
    let place = c.in-Some.place in
    let met : Meets groups es held place key = record { placed = c.self.invariant; at = subst (λ (gs : List Row). StandsAt gs place key) c.deref.ensures.value c.in-Some.ensures; seen = c.self.view_is } in
    if_on_err c.combine_at.result _ _ (λ e leaves is. (values_in groups place, met_value groups es held place key met, leaves)) c.combine_at.ensures.cause

-- ---- by the map

pub combine_at-requires-in-Some-copied-clause-within : goal.combine_at-requires-in-Some-copied-clause-within
combine_at-requires-in-Some-copied-clause-within c =
    let h = c.self.inside in
    let groups = h.groups.items in
    let es = h.places.entries in
    let held = c.args.self.now in
    let key = c.args.key.now in
    let place = c.in-Some-copied.place in
    let at = (found_at groups es key place c.self.invariant.stand (sym c.get.ensures.value ∙ sym c.copied.ensures ∙ c.in-Some-copied.is)).1 in
    let met : Meets groups es held place key = record { placed = c.self.invariant; at = at; seen = c.self.view_is } in
    met.at.0

pub combine_at-requires-in-Some-copied-clause-old_full : goal.combine_at-requires-in-Some-copied-clause-old_full
combine_at-requires-in-Some-copied-clause-old_full c =
    let h = c.self.inside in
    let groups = h.groups.items in
    let es = h.places.entries in
    let held = c.args.self.now in
    let key = c.args.key.now in
    let place = c.in-Some-copied.place in
    let at = (found_at groups es key place c.self.invariant.stand (sym c.get.ensures.value ∙ sym c.copied.ensures ∙ c.in-Some-copied.is)).1 in
    let met : Meets groups es held place key = record { placed = c.self.invariant; at = at; seen = c.self.view_is } in
    met_full c.args.aggs.now groups es held place key met c.requires.full

pub invariant_of-self-in-Some-copied : goal.invariant_of-self-in-Some-copied
invariant_of-self-in-Some-copied c =
    let h = c.self.inside in
    let groups = h.groups.items in
    let es = h.places.entries in
    let held = c.args.self.now in
    let key = c.args.key.now in
    let place = c.in-Some-copied.place in
    let at = (found_at groups es key place c.self.invariant.stand (sym c.get.ensures.value ∙ sym c.copied.ensures ∙ c.in-Some-copied.is)).1 in
    let met : Meets groups es held place key = record { placed = c.self.invariant; at = at; seen = c.self.view_is } in
    met_placed c.combine_at-in-Some-copied.result groups c.combine_at-in-Some-copied.new.groups.items es held place key _ met c.combine_at-in-Some-copied.ensures.ok c.combine_at-in-Some-copied.ensures.err

pub returns-in-Some-copied-clause-put : goal.returns-in-Some-copied-clause-put
returns-in-Some-copied-clause-put c =
    let h = c.self.inside in
    let groups = h.groups.items in
    let es = h.places.entries in
    let held = c.args.self.now in
    let key = c.args.key.now in
    let place = c.in-Some-copied.place in
    let at = (found_at groups es key place c.self.invariant.stand (sym c.get.ensures.value ∙ sym c.copied.ensures ∙ c.in-Some-copied.is)).1 in
    let met : Meets groups es held place key = record { placed = c.self.invariant; at = at; seen = c.self.view_is } in
    on_ok c.combine_at-in-Some-copied.result _ _ (λ is. met_put c.args.most c.args.aggs.now groups c.combine_at-in-Some-copied.new.groups.items es held place key c.args.values.now met c.requires.short is) c.combine_at-in-Some-copied.ensures.ok

pub returns-in-Some-copied-clause-cause : goal.returns-in-Some-copied-clause-cause
returns-in-Some-copied-clause-cause c =
    let h = c.self.inside in
    let groups = h.groups.items in
    let es = h.places.entries in
    let held = c.args.self.now in
    let key = c.args.key.now in
    let place = c.in-Some-copied.place in
    let at = (found_at groups es key place c.self.invariant.stand (sym c.get.ensures.value ∙ sym c.copied.ensures ∙ c.in-Some-copied.is)).1 in
    let met : Meets groups es held place key = record { placed = c.self.invariant; at = at; seen = c.self.view_is } in
    if_on_err c.combine_at-in-Some-copied.result _ _ (λ e leaves is. (values_in groups place, met_value groups es held place key met, leaves)) c.combine_at-in-Some-copied.ensures.cause

-- ---- a new group

pub returns-in_ok-add-clause-put : goal.returns-in_ok-add-clause-put
returns-in_ok-add-clause-put c =
    let aggs = c.args.aggs.now in
    let held = c.args.self.now in
    let few : length held < c.args.most = omega (arith, c.len.ensures.len, c.if-len-most.true, ap length c.self.view_is, length-rows_in c.self.inside.groups.items c.self.inside.places.entries) in
    c.in_ok-add.ensures.put aggs ∙ (λ i. put_row aggs (c.in_ok-row.ensures i) (c.self.view_is i)) ∙ put_room c.args.most aggs (record { key = c.args.key.now; values = c.args.values.now }) held few

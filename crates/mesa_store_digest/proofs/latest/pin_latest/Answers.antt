use Rattle.std.proofs.Common.{sym}
use Rattle.mesa_query.proofs.mesa_answer.Results.{if_err, if_ok}
use Rattle.mesa_store_digest.proofs.Newest.{none_named}
use Rattle.mesa_store_digest.proofs.latest.pin_latest.Goals as goal

pub pin_place-requires-clause-named : goal.pin_place-requires-clause-named
pin_place-requires-clause-named g c κs within = (c.args.relation.now, sym c.in-Some.ensures.found)

pub returns-in-Some-clause-latest : goal.returns-in-Some-clause-latest
returns-in-Some-clause-latest g c = if_ok c.pin_place.result _ _ (λ p latest. latest c.args.relation.now (sym c.in-Some.ensures.found)) c.pin_place.ensures.latest

pub returns-in-Some-clause-reason : goal.returns-in-Some-clause-reason
returns-in-Some-clause-reason g c = if_err c.pin_place.result _ _ (λ e reason. reason c.args.relation.now (sym c.in-Some.ensures.found)) c.pin_place.ensures.reason

pub returns-in-None-clause-reason : goal.returns-in-None-clause-reason
returns-in-None-clause-reason g c = none_named c.args.opened.now.catalog.catalogue c.args.relation.now (sym c.in-None.ensures.found)

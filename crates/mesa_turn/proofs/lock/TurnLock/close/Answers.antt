use Rattle.std.proofs.Common.{rules, refl, ◌≡◌, ap, ◌∙◌, sym, subst, ◌<◌, length}
use Rattle.std.specs.Option.{IsSome}
use Rattle.mesa_turn.specs.declared.view.View.{View}
use Rattle.mesa_turn.specs.declared.view.Turn.TheVariants.{Idle}
use Rattle.mesa_turn.specs.History.{has}
use Rattle.mesa_turn.proofs.Change.{some_same}
use Rattle.mesa_turn.proofs.Ends.{closes}
use Rattle.mesa_turn.proofs.lock.TurnLock.close.Goals as goal

pub unwrap-requires : goal.unwrap-requires
unwrap-requires g c = let v : View = c.into_seat.result.me.0 in let idle : v.turn ≡ Idle = search rules in let names : v.names ≡ c.args.last.names = search rules in
    let e = closes g.V.Turned.history c.self.inside.table.shared.key _ v _ _ c.take-value.result c.close_with-closed.ensures.values.2 idle (λ n lt. ap (λ ns. has ns n) names ∙ c.requires.all n lt) c.take-value.ensures.value in
    subst IsSome (sym e.1) refl

pub returns-clause-history : goal.returns-clause-history
returns-clause-history g c = let v : View = c.into_seat.result.me.0 in let idle : v.turn ≡ Idle = search rules in let names : v.names ≡ c.args.last.names = search rules in let seen : v.seen ≡ c.args.last.seen = search rules in
    let e = closes g.V.Turned.history c.self.inside.table.shared.key _ v _ _ c.take-value.result c.close_with-closed.ensures.values.2 idle (λ n lt. ap (λ ns. has ns n) names ∙ c.requires.all n lt) c.take-value.ensures.value in
    let is = some_same c.unwrap.result e.0 (sym c.unwrap.ensures ∙ e.1) in
    ap g.V.Turned.history is ∙ (e.2 ∙ seen)

pub returns-clause-own : goal.returns-clause-own
returns-clause-own g c = let v : View = c.into_seat.result.me.0 in let idle : v.turn ≡ Idle = search rules in let names : v.names ≡ c.args.last.names = search rules in let seen : v.seen ≡ c.args.last.seen = search rules in let own : v.own ≡ c.args.last.own = search rules in
    let e = closes g.V.Turned.history c.self.inside.table.shared.key _ v _ _ c.take-value.result c.close_with-closed.ensures.values.2 idle (λ n lt. ap (λ ns. has ns n) names ∙ c.requires.all n lt) c.take-value.ensures.value in
    λ k lt. ap (λ l. has l k) (sym own) ∙ e.3 k (subst (λ l. k < length l) (sym seen) lt)

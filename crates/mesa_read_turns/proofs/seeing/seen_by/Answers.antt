use Rattle.std.proofs.Common.{sym, ◌∙◌, ap}
use Rattle.std.specs.Prelude.{option_map}
use Rattle.mesa_engine.specs.Meaning.{pin_as}
use Rattle.mesa_read_turns.proofs.Sees.{asked_pinned, asked_present, sees_none, sees_pinned, sees_present, version_pinned, version_present}
use Rattle.mesa_read_turns.proofs.seeing.seen_by.Goals as goal

pub returns-in_default : goal.returns-in_default
returns-in_default c =
    let l = c.args.metadata.now.state in
    let was_open = c.in_ok-check_open.ensures.opened in
    record {
      sees = λ rows words is. sees_present rows l c.args.session words c.args.asked is (λ token pin. c.in_default.not-Pin token pin) was_open c.catalog.result.now.catalogue c.catalog.ensures;
      catalogue = asked_present l c.args.session c.args.asked (λ token pin. c.in_default.not-Pin token pin) c.catalog.result.now.catalogue c.catalog.ensures;
      pinned = sym (version_present l c.args.session c.args.asked (λ token pin. c.in_default.not-Pin token pin));
      refused = tt;
    }

pub returns-in_default-pin_of-clause-refused : goal.returns-in_default-pin_of-clause-refused
returns-in_default-pin_of-clause-refused c rows words is =
    sees_none rows c.args.metadata.now.state c.args.session words c.in-Pin.token (is ∙ c.in-Pin.is) c.in_ok-check_open.ensures.opened (sym c.pin_of.ensures ∙ ap (option_map _) c.in_default-pin_of.is)

pub returns-clause-sees : goal.returns-clause-sees
returns-clause-sees c rows words is =
    sees_pinned rows c.args.metadata.now.state c.args.session words c.in-Pin.token (is ∙ c.in-Pin.is) c.in_ok-check_open.ensures.opened (pin_as c.in-Some.pin.now) (sym c.pin_of.ensures ∙ ap (option_map _) c.in-Some.is)

pub returns-clause-catalogue : goal.returns-clause-catalogue
returns-clause-catalogue c =
    asked_pinned c.args.metadata.now.state c.args.session c.args.asked c.in-Pin.token c.in-Pin.is (pin_as c.in-Some.pin.now) (sym c.pin_of.ensures ∙ ap (option_map _) c.in-Some.is)

pub returns-clause-pinned : goal.returns-clause-pinned
returns-clause-pinned c =
    sym (version_pinned c.args.metadata.now.state c.args.session c.args.asked c.in-Pin.token c.in-Pin.is (pin_as c.in-Some.pin.now) (sym c.pin_of.ensures ∙ ap (option_map _) c.in-Some.is))

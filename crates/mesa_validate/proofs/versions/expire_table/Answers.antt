use Rattle.std.proofs.Common.{◌≡◌, ◌∙◌, ◌≤◌, ◌<◌, ap, arith, length, refl, subst, sym, Some}
use Rattle.std.specs.Prelude.{IfSome, OnOk}
use Rattle.mesa_model.specs.declared.replies.Reply.TheVariants as reply
use Rattle.mesa_model.specs.Versions.{version_checked}
use Rattle.mesa_validate.specs.Seen.{number_of}
use Rattle.mesa_validate.proofs.Doing.{nowhere_expired, refused_expiry, ruled_table_expiry, meta_named}
use Rattle.mesa_validate.proofs.versions.expire_table.Goals as goal

pub returns-in_default-clause-refused : goal.returns-in_default-clause-refused
returns-in_default-clause-refused c = nowhere_expired c.args.catalog.now.catalogue c.args.name.now c.args.version (sym c.table_number.ensures.found ∙ c.in_default.is)

pub returns-in-Err-clause-refused : goal.returns-in-Err-clause-refused
returns-in-Err-clause-refused c =
    let cat = c.args.catalog.now.catalogue in
    let version = c.args.version in
    let found : number_of cat c.args.name.now ≡ Some c.in-Some.table = sym c.table_number.ensures.found ∙ c.in-Some.is in
    refused_expiry cat c.args.name.now version c.in-Some.table found c.in-Err.refusal (λ w has. ap (λ o. version_checked w o version) (sym c.oldest.ensures) ∙ sym (c.check_version.ensures.checked w has) ∙ c.in-Err.is)

pub returns-clause-written : goal.returns-clause-written
returns-clause-written c = (c.in-Some.table, sym c.table_number.ensures.found ∙ c.in-Some.is, refl)

pub returns-clause-told : goal.returns-clause-told
returns-clause-told c =
    let cat = c.args.catalog.now.catalogue in
    let found : number_of cat c.args.name.now ≡ Some c.in-Some.table = sym c.table_number.ensures.found ∙ c.in-Some.is in
    ap (λ n. reply.Expired (Some n) c.args.version) (c.in_ok-name.ensures ∙ c.name.ensures ∙ meta_named cat c.args.name.now c.in-Some.table found)

pub returns-clause-ruled : goal.returns-clause-ruled
returns-clause-ruled c =
    let cat = c.args.catalog.now.catalogue in
    let version = c.args.version in
    let table = c.in-Some.table in
    let found : number_of cat c.args.name.now ≡ Some table = sym c.table_number.ensures.found ∙ c.in-Some.is in
    let there : table < length cat.tables = subst (λ o. IfSome o (λ t. t < length cat.tables)) c.in-Some.is c.table_number.ensures.there in
    let low : c.oldest.result ≤ version = subst (λ r. OnOk r (c.oldest.result ≤ version)) c.in_default-check_version.is c.check_version.ensures.low in
    let high : version < cat.next = subst (λ r. OnOk r (version < cat.next)) c.in_default-check_version.is c.check_version.ensures.high in
    ruled_table_expiry cat c.args.name.now version table found _ there (omega (arith, low, c.oldest.ensures)) high
    (λ w has. ap (λ o. version_checked w o version) (sym c.oldest.ensures) ∙ sym (c.check_version.ensures.checked w has) ∙ c.in_default-check_version.is) refl
    (ap (λ n. reply.Expired (Some n) version) (c.in_ok-name.ensures ∙ c.name.ensures ∙ meta_named cat c.args.name.now table found))

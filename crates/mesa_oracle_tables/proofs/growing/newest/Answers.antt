use Rattle.std.proofs.Common.{◌-◌, get_or, subst, ◌≡◌, length}
use Rattle.mesa_oracle_tables.proofs.Newest.{newest_is}
use Rattle.mesa_oracle_tables.proofs.growing.newest.Goals as goal

pub returns-in-Some : goal.returns-in-Some
returns-in-Some c =
    let versions = c.args.versions.now in
    let contents = c.in-Some.contents.now in
    let item = c.in-Some.ensures.item in
    let is : contents ≡ get_or versions.items (length versions.items - 1) contents = subst (λ n. contents ≡ get_or versions.items (n - 1) contents) versions.ok.0 item.1 in
    newest_is c.args.number versions.items contents c.get.result item.3.0 is (rw c.as_slice.ensures at c.get.ensures.lookup.3)

use Rattle.std.proofs.Common.{◌≡◌, Ok, Err, ap, sym, ◌∙◌, subst}
use Rattle.std.specs.Prelude.{IfErr, IfOk}
use Rattle.mesa_delta.specs.declared.error.FileError.TheVariants as file_error
use Rattle.mesa_store_digest.specs.Latest.{HasLookReason}
use Rattle.mesa_store_digest.specs.Looked.{IsDigestOf}
use Rattle.mesa_store_digest.specs.declared.error.LookError.TheVariants as look
use Rattle.mesa_shell.specs.Ports.{ports}
use Rattle.mesa_shell.proofs.Digests.{digest_failed, digest_refused, digest_told}
use Rattle.mesa_shell.proofs.digesting.digest_relation.Goals as goal

pub returns-in-Err : goal.returns-in-Err
returns-in-Err g c =
    let p = ports g.K.Sink.held g.K.Sink.faults g.D.Disk.story g.M.Made.bytes g.B.Bench.faults in
    let r = c.in-Err.ensures in
    digest_failed p c.args.given c.ended_opening.result c.args.relation.now c.in-Err.disk c.ended_opening.ensures.disk r.unmoved_err c.in-Err.error r.reason r.full r.other c.ended_opening.ensures.ended

pub returns-in-Ok-looked : goal.returns-in-Ok-looked
returns-in-Ok-looked g c =
    let p = ports g.K.Sink.held g.K.Sink.faults g.D.Disk.story g.M.Made.bytes g.B.Bench.faults in
    let o = c.in-Ok.opened in
    let r = c.in-Ok.ensures in
    let k = c.look-looked.ensures in
    let e = c.ended_digest.ensures in
    let mid = g.D.Disk.story o.disk in
    let of = subst (λ x. IfOk x (λ t. IsDigestOf mid o.catalog.catalogue c.args.relation.now t.0 t.1.rows t.1.ordered t.1.set)) c.in-Ok-looked.is k.looked in
    digest_told p c.args.given c.ended_digest.result c.args.relation.now o.disk c.look-looked.new.opened.disk (e.disk ∙ c.disk_of-disk.ensures) r.unmoved r.quiet k.unmoved
    (k.quiet (λ failed. absurd (let never : Ok (c.in-Ok-looked.version, c.in-Ok-looked.pair) ≡ Err (look.File file_error.Read) = sym c.in-Ok-looked.is ∙ failed in cc)))
    o.area r.opened.bodies o.end o.catalog.catalogue r.opened.reads c.in-Ok-looked.version c.in-Ok-looked.pair.rows c.in-Ok-looked.pair.ordered c.in-Ok-looked.pair.set of e.ended

pub returns-in-Err-NoTable : goal.returns-in-Err-NoTable
returns-in-Err-NoTable g c =
    let p = ports g.K.Sink.held g.K.Sink.faults g.D.Disk.story g.M.Made.bytes g.B.Bench.faults in
    let o = c.in-Ok.opened in
    let r = c.in-Ok.ensures in
    let k = c.look-looked.ensures in
    let e = c.ended.ensures in
    let mid = g.D.Disk.story o.disk in
    let new = g.D.Disk.story c.look-looked.new.opened.disk in
    let is : c.look-looked.result ≡ Err look.NoTable = c.in-Err-NoTable.is ∙ ap Err c.in-Err-NoTable.field-0-is in
    let why = subst (λ x. IfErr x (HasLookReason mid new o.catalog.catalogue c.args.relation.now)) is k.reason in
    digest_refused p c.args.given c.ended.result c.args.relation.now o.disk c.look-looked.new.opened.disk (e.disk ∙ c.disk_of-disk.ensures) r.unmoved r.quiet k.unmoved
    o.area r.opened.bodies o.end o.catalog.catalogue r.opened.reads (look.NoTable) why (λ other. k.quiet (λ failed. other (let same : Err (look.NoTable) ≡ Err (look.File file_error.Read) = sym is ∙ failed in cc))) e.ended

pub returns-in-Err-NoVersion : goal.returns-in-Err-NoVersion
returns-in-Err-NoVersion g c =
    let p = ports g.K.Sink.held g.K.Sink.faults g.D.Disk.story g.M.Made.bytes g.B.Bench.faults in
    let o = c.in-Ok.opened in
    let r = c.in-Ok.ensures in
    let k = c.look-looked.ensures in
    let e = c.ended-in-Err-NoVersion.ensures in
    let mid = g.D.Disk.story o.disk in
    let new = g.D.Disk.story c.look-looked.new.opened.disk in
    let is : c.look-looked.result ≡ Err look.NoVersion = c.in-Err-NoVersion.is ∙ ap Err c.in-Err-NoVersion.field-0-is in
    let why = subst (λ x. IfErr x (HasLookReason mid new o.catalog.catalogue c.args.relation.now)) is k.reason in
    digest_refused p c.args.given c.ended-in-Err-NoVersion.result c.args.relation.now o.disk c.look-looked.new.opened.disk (e.disk ∙ c.disk_of-disk.ensures) r.unmoved r.quiet k.unmoved
    o.area r.opened.bodies o.end o.catalog.catalogue r.opened.reads (look.NoVersion) why (λ other. k.quiet (λ failed. other (let same : Err (look.NoVersion) ≡ Err (look.File file_error.Read) = sym is ∙ failed in cc))) e.ended

pub returns-in-Err-File-Damaged : goal.returns-in-Err-File-Damaged
returns-in-Err-File-Damaged g c =
    let p = ports g.K.Sink.held g.K.Sink.faults g.D.Disk.story g.M.Made.bytes g.B.Bench.faults in
    let o = c.in-Ok.opened in
    let r = c.in-Ok.ensures in
    let k = c.look-looked.ensures in
    let e = c.ended_opening-in-Err-File-Damaged.ensures in
    let mid = g.D.Disk.story o.disk in
    let new = g.D.Disk.story c.look-looked.new.opened.disk in
    let is : c.look-looked.result ≡ Err (look.File (file_error.Damaged c.in-Err-File-Damaged.damage)) = c.in-Err-File-Damaged.is ∙ ap Err (c.in-Err-File-Damaged.field-0-is ∙ ap look.File c.in-Err-File-Damaged.field-0-0-is) in
    let why = subst (λ x. IfErr x (HasLookReason mid new o.catalog.catalogue c.args.relation.now)) is k.reason in
    digest_refused p c.args.given c.ended_opening-in-Err-File-Damaged.result c.args.relation.now o.disk c.look-looked.new.opened.disk (e.disk ∙ c.disk_of-disk.ensures) r.unmoved r.quiet k.unmoved
    o.area r.opened.bodies o.end o.catalog.catalogue r.opened.reads (look.File (file_error.Damaged c.in-Err-File-Damaged.damage)) why (λ other. k.quiet (λ failed. other (let same : Err (look.File (file_error.Damaged c.in-Err-File-Damaged.damage)) ≡ Err (look.File file_error.Read) = sym is ∙ failed in cc))) e.ended

pub returns-in-Err-File-Read : goal.returns-in-Err-File-Read
returns-in-Err-File-Read g c =
    let p = ports g.K.Sink.held g.K.Sink.faults g.D.Disk.story g.M.Made.bytes g.B.Bench.faults in
    let o = c.in-Ok.opened in
    let r = c.in-Ok.ensures in
    let k = c.look-looked.ensures in
    let e = c.ended_opening-in-Err-File-Read.ensures in
    let mid = g.D.Disk.story o.disk in
    let new = g.D.Disk.story c.look-looked.new.opened.disk in
    let is : c.look-looked.result ≡ Err (look.File file_error.Read) = c.in-Err-File-Read.is ∙ ap Err (c.in-Err-File-Read.field-0-is ∙ ap look.File c.in-Err-File-Read.field-0-0-is) in
    let why = subst (λ x. IfErr x (HasLookReason mid new o.catalog.catalogue c.args.relation.now)) is k.reason in
    digest_refused p c.args.given c.ended_opening-in-Err-File-Read.result c.args.relation.now o.disk c.look-looked.new.opened.disk (e.disk ∙ c.disk_of-disk.ensures) r.unmoved r.quiet k.unmoved
    o.area r.opened.bodies o.end o.catalog.catalogue r.opened.reads (look.File file_error.Read) why (λ other. k.quiet (λ failed. other (let same : Err (look.File file_error.Read) ≡ Err (look.File file_error.Read) = sym is ∙ failed in cc))) e.ended

pub returns-in-Err-File-Memory : goal.returns-in-Err-File-Memory
returns-in-Err-File-Memory g c =
    let p = ports g.K.Sink.held g.K.Sink.faults g.D.Disk.story g.M.Made.bytes g.B.Bench.faults in
    let o = c.in-Ok.opened in
    let r = c.in-Ok.ensures in
    let k = c.look-looked.ensures in
    let e = c.ended_opening-in-Err-File-Memory.ensures in
    let mid = g.D.Disk.story o.disk in
    let new = g.D.Disk.story c.look-looked.new.opened.disk in
    let is : c.look-looked.result ≡ Err (look.File file_error.Memory) = c.in-Err-File-Memory.is ∙ ap Err (c.in-Err-File-Memory.field-0-is ∙ ap look.File c.in-Err-File-Memory.field-0-0-is) in
    let why = subst (λ x. IfErr x (HasLookReason mid new o.catalog.catalogue c.args.relation.now)) is k.reason in
    digest_refused p c.args.given c.ended_opening-in-Err-File-Memory.result c.args.relation.now o.disk c.look-looked.new.opened.disk (e.disk ∙ c.disk_of-disk.ensures) r.unmoved r.quiet k.unmoved
    o.area r.opened.bodies o.end o.catalog.catalogue r.opened.reads (look.File file_error.Memory) why (λ other. k.quiet (λ failed. other (let same : Err (look.File file_error.Memory) ≡ Err (look.File file_error.Read) = sym is ∙ failed in cc))) e.ended

pub returns-in-Err-Memory : goal.returns-in-Err-Memory
returns-in-Err-Memory g c =
    let p = ports g.K.Sink.held g.K.Sink.faults g.D.Disk.story g.M.Made.bytes g.B.Bench.faults in
    let o = c.in-Ok.opened in
    let r = c.in-Ok.ensures in
    let k = c.look-looked.ensures in
    let e = c.ended_opening-in-Err-Memory.ensures in
    let mid = g.D.Disk.story o.disk in
    let new = g.D.Disk.story c.look-looked.new.opened.disk in
    let is : c.look-looked.result ≡ Err look.Memory = c.in-Err-Memory.is ∙ ap Err c.in-Err-Memory.field-0-is in
    let why = subst (λ x. IfErr x (HasLookReason mid new o.catalog.catalogue c.args.relation.now)) is k.reason in
    digest_refused p c.args.given c.ended_opening-in-Err-Memory.result c.args.relation.now o.disk c.look-looked.new.opened.disk (e.disk ∙ c.disk_of-disk.ensures) r.unmoved r.quiet k.unmoved
    o.area r.opened.bodies o.end o.catalog.catalogue r.opened.reads (look.Memory) why (λ other. k.quiet (λ failed. other (let same : Err (look.Memory) ≡ Err (look.File file_error.Read) = sym is ∙ failed in cc))) e.ended

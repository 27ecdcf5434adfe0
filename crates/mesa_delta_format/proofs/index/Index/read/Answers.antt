use Rattle.std.proofs.Common.{◌≡◌, ◌+◌, ◌-◌, arith, ap, sym, ◌∙◌, take, drop, length, subst, rules}
use Rattle.std.specs.Int.{w64, from_be_bytes}
use Rattle.std.proofs.lemmas.Bool.{false≢true}
use Rattle.mesa_block.specs.mesa_key.Order.{short_key}
use Rattle.mesa_columns.specs.Columns.{Columns}
use Rattle.mesa_block.specs.Layout.{Layout}
use Rattle.mesa_delta_format.specs.Indexed.{IsIndexOf}
use Rattle.mesa_delta_format.specs.Places.{Follow, shorts_of}
use Rattle.mesa_delta_format.specs.Seeking.{NeverFall}
use Rattle.mesa_delta_format.specs.declared.index.Held.{Held}
use Rattle.mesa_delta_format.proofs.Tailing.{tail_long, foot_is, found_is, spelled_so, index_of}
use Rattle.mesa_delta_format.proofs.index.Index.read.Goals as goal

pub returns-then-count-eq0-clause-none : goal.returns-then-count-eq0-clause-none
returns-then-count-eq0-clause-none c = λ rows es fits len is place sum t. absurd (omega (arith, t.some, c.if-count-eq0.true))

pub returns-then-bytes-places-clause-none : goal.returns-then-bytes-places-clause-none
returns-then-bytes-places-clause-none c = λ rows es fits len is place sum t.
    let long = ap length is ∙ tail_long (record { format = c.args.file.now.format; columns = c.args.schema.now }) rows es t.widths in
    absurd (omega (arith, long, len, c.if-bytes-places.true, ap length c.keys.ensures.same, ap length c.values.ensures.same))

pub returns-then-not-branch-clause-none : goal.returns-then-not-branch-clause-none
returns-then-not-branch-clause-none c = λ rows es fits len is place sum t.
    let s : Layout = record { format = c.args.file.now.format; columns = c.args.schema.now } in
    let columns : length c.keys.result.now + length c.values.result.now ≡ length s.columns.keys + length s.columns.values = omega (arith, ap length c.keys.ensures.same, ap length c.values.ensures.same) in
    let read : c.rows_at-rows.result ≡ from_be_bytes w64 (take 8 (drop (length s.columns.keys + length s.columns.values) c.split_at.result.1.now)) = c.rows_at-rows.ensures ∙ ap (λ n. from_be_bytes w64 (take 8 (drop n c.split_at.result.1.now))) columns in
    let onto = foot_is s rows c.rows_at-rows.result c.args.file.now.blocks c.args.bytes.now c.split_at.result.1.now es fits len is t.widths c.split_at.ensures.back read in
    absurd (false≢true (sym c.if-not-branch.true ∙ c.in_ok-is_foot.ensures.1 onto))

pub returns-then-not-follow-clause-none : goal.returns-then-not-follow-clause-none
returns-then-not-follow-clause-none c = λ rows es fits len is place sum t.
    let same = found_is (record { format = c.args.file.now.format; columns = c.args.schema.now }) rows c.args.file.now.blocks c.args.bytes.now c.split_at.result.0.now c.in_ok-entries.entries.items es c.in_ok-entries.ensures.widths t.widths c.in_ok-entries.ensures.count len is c.split_at.ensures.front c.in_ok-entries.ensures.spelled in
    let at : place ≡ c.args.file.now.len - length c.args.bytes.now = omega (arith, sum) in
    let onto = subst (λ p. Follow 0 c.deref.result.now p) at (subst (λ l. Follow 0 l place) (sym same ∙ sym c.deref.ensures.value) t.follow) in
    absurd (false≢true (sym c.if-not-follow.true ∙ c.follow.ensures.1 onto))

pub returns-then-not-never_fall-clause-none : goal.returns-then-not-never_fall-clause-none
returns-then-not-never_fall-clause-none c = λ rows es fits len is place sum t.
    let same = found_is (record { format = c.args.file.now.format; columns = c.args.schema.now }) rows c.args.file.now.blocks c.args.bytes.now c.split_at.result.0.now c.in_ok-entries.entries.items es c.in_ok-entries.ensures.widths t.widths c.in_ok-entries.ensures.count len is c.split_at.ensures.front c.in_ok-entries.ensures.spelled in
    let onto = subst (λ l. NeverFall (shorts_of l)) (sym same ∙ sym c.deref-2.ensures.value) t.fall in
    absurd (false≢true (sym c.if-not-never_fall.true ∙ c.never_fall.ensures.1 onto))

pub returns-clause-found : goal.returns-clause-found
returns-clause-found c =
    let s : Layout = record { format = c.args.file.now.format; columns = c.args.schema.now } in
    let es = c.in_ok-entries.entries.items in
    let place = c.args.file.now.len - length c.args.bytes.now in
    let same : c.from_vec.result ≡ es = c.from_vec.ensures in
    let foot = c.in_ok-is_foot.ensures.0 c.if-not-branch.false in
    let spelled = spelled_so s c.rows_at-rows.result c.args.file.now.blocks c.args.bytes.now c.split_at.result.0.now c.split_at.result.1.now es c.in_ok-entries.ensures.count c.split_at.ensures.front c.split_at.ensures.back c.in_ok-entries.ensures.spelled foot in
    let follow = subst (λ l. Follow 0 l place) c.deref.ensures.value (c.follow.ensures.0 c.if-not-follow.false) in
    let fall = subst (λ l. NeverFall (shorts_of l)) c.deref-2.ensures.value (c.never_fall.ensures.0 c.if-not-never_fall.false) in
    subst (λ (k : Held). IsIndexOf c.args.file.now s c.args.bytes.now (record { file = k.file; layout = record { format = k.format; columns = k.schema }; len = k.len; tail = k.tail; rows = k.rows; entries = k.entries; last = k.last })) (sym c.in_ok-new.ensures.ok)
    (index_of c.args.file.now s (record { format = c.args.file.now.format; columns = c.in_ok-copy.field-0 }) c.args.bytes.now place c.rows_at-rows.result es c.from_vec.result c.short.result (c.short.ensures ∙ ap short_key c.as_slice.ensures) (ap (λ (k : Columns). record { format = c.args.file.now.format; columns = k }) c.in_ok-copy.ensures) same c.in_ok-entries.ensures.count (omega (arith, c.if-count-eq0.false)) (omega (arith, c.requires)) (search rules) (search rules) (search rules) c.keys.ensures.sound spelled follow fall c.in_ok-entries.ensures.widths)

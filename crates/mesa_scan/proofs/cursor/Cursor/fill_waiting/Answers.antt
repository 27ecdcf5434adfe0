use Rattle.std.proofs.Common.{◌∙◌, sym, subst, Result, Ok, Err}
use Rattle.std.specs.Prelude.{IfErr, OnOk}
use Rattle.mesa_delta.specs.Reading.{IsIndexed, index_of}
use Rattle.mesa_scan.specs.Cursors.{IsDamageFrom, reader_in}
use Rattle.mesa_scan.proofs.cursor.Cursor.fill_waiting.Goals as goal

on_ok : {X E : Type 0} (r : Result X E) (A B : Type 0) → (A → B) → OnOk r A → OnOk r B
on_ok (Ok x) A B f a = f a
on_ok (Err e) A B f a = a

if_err : {X E : Type 0} (r : Result X E) (P Q : E → Type 0) → ((e : E) → P e → Q e) → IfErr r P → IfErr r Q
if_err (Ok x) P Q f p = p
if_err (Err e) P Q f p = f e p

pub returns-then-self-blocks-clause-given : goal.returns-then-self-blocks-clause-given
returns-then-self-blocks-clause-given g c = on_ok c.fill.result _ _ (λ filled low given h. filled low given (c.in_default.ensures.given low given h)) c.fill.ensures.given

pub returns-then-self-blocks-clause-damaged_from : goal.returns-then-self-blocks-clause-damaged_from
returns-then-self-blocks-clause-damaged_from g c =
    let bytes = g.R.FileReader.bytes in
    let size = g.R.FileReader.size in
    let old = c.args.input.now in
    let now = c.read_waiting.new.input in
    let same = c.in_default.ensures.same in
    if_err c.fill.result _ _ (λ e told d is low given h.
    subst (λ x. IsDamageFrom (bytes (reader_in old)) (size (reader_in old)) x d) same.index
    (subst (λ n. IsDamageFrom (bytes (reader_in old)) n (index_of now.reader) d) c.in_default.ensures.size
    (subst (λ t. IsDamageFrom t (size (reader_in now)) (index_of now.reader) d) same.told (told d is low given (c.in_default.ensures.given low given h))))) c.fill.ensures.damaged_from

pub returns-then-self-blocks-clause-accepts_from : goal.returns-then-self-blocks-clause-accepts_from
returns-then-self-blocks-clause-accepts_from g c =
    let same = c.in_default.ensures.same in
    if_err c.fill.result _ _ (λ e no d is low given h b all told indexed.
    no d is low given (c.in_default.ensures.given low given h) b all (same.told ∙ told) (subst (λ x. IsIndexed x all b) (sym same.index) indexed)) c.fill.ensures.accepts_from

use Rattle.std.proofs.Common.{ℕ, List, Some, ◌≡◌, ◌-◌, ◌≤◌, ◌+◌, ◌*◌, ◌/◌, ◌%◌, length, take, drop, sym, ◌∙◌, ap, arith}
use Rattle.std.proofs.lemmas.Result.{on_ok_weaker}
use Rattle.std.proofs.lemmas.List.{with_items_is}
use Rattle.mesa_cache.specs.Pages.{IsPage}
use Rattle.mesa_cache.proofs.Parts.{part_from, rest_len, filled_front, filled_rest, ArePages-along, ArePages-with, page_is_read}
use Rattle.mesa_cache.proofs.cached.CachedFileReader.read_at.Goals as goal

pub copy_front-done-requires-clause-within : goal.copy_front-done-requires-clause-within
copy_front-done-requires-clause-within g c =
    let same : g.R.FileReader.size c.args.self.now.inner ≡ g.R.FileReader.size c.self.inside.inner = sym (ap (λ v. g.R.FileReader.size v.inner) c.self.view_is) in
    omega (arith, same, c.requires, c.len-size.ensures)

pub invariant_of-self : goal.invariant_of-self
invariant_of-self g c = λ n p is. c.self.invariant n p (c.copy_front-done.ensures.among n p is)

pub returns-then-done-buf-clause-read : goal.returns-then-done-buf-clause-read
returns-then-done-buf-clause-read g c = λ b is.
    let told : g.R.FileReader.bytes c.self.inside.inner ≡ Some b = ap (λ v. g.R.FileReader.bytes v.inner) c.self.view_is ∙ is in
    let before = c.copy_front-done.ensures.copied b (λ n p kept. (c.self.invariant n p kept).told b told) in
    filled_front b c.copy_front-done.new.buf c.args.at c.copy_front-done.result (length c.args.buf.now) c.if-done-buf.true c.copy_front-done.auto.buf before

pub read_at-requires : goal.read_at-requires
read_at-requires g c =
    let done = c.copy_front-done.result in
    let buf = c.copy_front-done.new.buf in
    let same : g.R.FileReader.size c.args.self.now.inner ≡ g.R.FileReader.size c.self.inside.inner = sym (ap (λ v. g.R.FileReader.size v.inner) c.self.view_is) in
    let fits : c.args.at + done + (length buf - done) ≤ g.R.FileReader.size c.self.inside.inner = omega (arith, same, c.requires, c.copy_front-done.ensures.within, c.copy_front-done.auto.buf) in
    rw (rest_len buf done) fits

pub invariant_of-self-then-left-offset : goal.invariant_of-self-then-left-offset
invariant_of-self-then-left-offset g c = ArePages-along _ _ _ _ c.self.inside.pages.entries _ (sym c.read_at.ensures.bytes) (sym c.read_at.ensures.size) c.self.invariant c.copy_front-done.ensures.among

pub returns-then-left-offset-clause-read : goal.returns-then-left-offset-clause-read
returns-then-left-offset-clause-read g c = on_ok_weaker c.read_at.result
    (λ read b is.
    let told : g.R.FileReader.bytes c.self.inside.inner ≡ Some b = ap (λ v. g.R.FileReader.bytes v.inner) c.self.view_is ∙ is in
    let before = c.copy_front-done.ensures.copied b (λ n p kept. (c.self.invariant n p kept).told b told) in
    filled_rest b c.copy_front-done.new.buf c.read_at.new.buf c.args.at c.copy_front-done.result (length c.args.buf.now) c.copy_front-done.auto.buf c.copy_front-done.ensures.within before c.read_at.auto.buf (read b told))
    c.read_at.ensures.read

pub overflow_sub-size : goal.overflow_sub-size
overflow_sub-size g c =
    let same : g.R.FileReader.size c.args.self.now.inner ≡ g.R.FileReader.size c.self.inside.inner = sym (ap (λ v. g.R.FileReader.size v.inner) c.self.view_is) in
    omega (arith, same, c.requires, c.len-size.ensures, c.copy_front-done.ensures.within)

pub read_at-requires-in_default : goal.read_at-requires-in_default
read_at-requires-in_default g c =
    let done = c.copy_front-done.result in
    let buf = c.copy_front-done.new.buf in
    let same : g.R.FileReader.size c.args.self.now.inner ≡ g.R.FileReader.size c.self.inside.inner = sym (ap (λ v. g.R.FileReader.size v.inner) c.self.view_is) in
    let fits : c.args.at + done + (length buf - done) ≤ g.R.FileReader.size c.self.inside.inner = omega (arith, same, c.requires, c.copy_front-done.ensures.within, c.copy_front-done.auto.buf) in
    rw (rest_len buf done) fits

pub invariant_of-self-in_default : goal.invariant_of-self-in_default
invariant_of-self-in_default g c = ArePages-along _ _ _ _ c.self.inside.pages.entries _ (sym c.read_at-in_default.ensures.bytes) (sym c.read_at-in_default.ensures.size) c.self.invariant (λ n p is. c.copy_front-done.ensures.among n p (c.in_default.ensures.among n p is))

pub returns-in_default-clause-read : goal.returns-in_default-clause-read
returns-in_default-clause-read g c = on_ok_weaker c.read_at-in_default.result
    (λ read b is.
    let told : g.R.FileReader.bytes c.self.inside.inner ≡ Some b = ap (λ v. g.R.FileReader.bytes v.inner) c.self.view_is ∙ is in
    let before = c.copy_front-done.ensures.copied b (λ n p kept. (c.self.invariant n p kept).told b told) in
    filled_rest b c.copy_front-done.new.buf c.read_at-in_default.new.buf c.args.at c.copy_front-done.result (length c.args.buf.now) c.copy_front-done.auto.buf c.copy_front-done.ensures.within before c.read_at-in_default.auto.buf (read b told))
    c.read_at-in_default.ensures.read

pub read_at-requires-2 : goal.read_at-requires-2
read_at-requires-2 g c =
    let same : g.R.FileReader.size c.args.self.now.inner ≡ g.R.FileReader.size c.self.inside.inner = sym (ap (λ v. g.R.FileReader.size v.inner) c.self.view_is) in
    omega (arith, same, c.requires, c.len-size.ensures, c.copy_front-done.ensures.within, c.deref_mut.ensures.len, c.in-Some.ensures.len, c.min-len.ensures)

pub invariant_of-self-in_err-read_at : goal.invariant_of-self-in_err-read_at
invariant_of-self-in_err-read_at g c = ArePages-along _ _ _ _ c.self.inside.pages.entries _ (sym c.in_err-read_at.ensures.bytes) (sym c.in_err-read_at.ensures.size) c.self.invariant (λ n p is. c.copy_front-done.ensures.among n p (c.in-Some.ensures.among n p is))

pub copy_and_keep-requires : goal.copy_and_keep-requires
copy_and_keep-requires g c =
    let same : g.R.FileReader.size c.args.self.now.inner ≡ g.R.FileReader.size c.self.inside.inner = sym (ap (λ v. g.R.FileReader.size v.inner) c.self.view_is) in
    omega (arith, same, c.requires, c.len-size.ensures, c.copy_front-done.ensures.within, c.copy_front-done.auto.buf, c.in-Some.ensures.len, c.min-len.ensures, c.if-left-offset.false, rest_len c.copy_front-done.new.buf c.copy_front-done.result)

pub invariant_of-self-2 : goal.invariant_of-self-2
invariant_of-self-2 g c =
    let from = c.args.at + c.copy_front-done.result in
    let read = c.read_at-2.new.buf in
    let inner = c.read_at-2.new.self in
    let place : from - from % 16384 ≡ 16384 * (from / 16384) = omega arith in
    let size : g.R.FileReader.size inner ≡ c.len-size.result = c.in_ok-read_at.ensures.size ∙ sym c.len-size.ensures in
    let given = c.deref_mut.ensures.len ∙ c.in-Some.ensures.len in
    let len : length read ≡ c.min-len.result = c.read_at-2.auto.buf ∙ given in
    let told : (b : List ℕ) → g.R.FileReader.bytes inner ≡ Some b → read ≡ take c.min-len.result (drop (16384 * (from / 16384)) b) = λ b is. rw (place, given) at (c.in_ok-read_at.ensures.read b (sym c.in_ok-read_at.ensures.bytes ∙ is)) in
    let one : IsPage (g.R.FileReader.bytes inner) (g.R.FileReader.size inner) (from / 16384) read = page_is_read _ _ _ c.min-len.result read (g.met.R.FileReader.sized inner) (c.min-len.ensures ∙ omega arith) len told in
    let whole : c.in-Some.page.len ≡ length read = c.in-Some.ensures.len ∙ sym len in
    let held = with_items_is c.in-Some.page read (sym whole) in
    ArePages-with _ _ (from / 16384) read c.make_page.new.pages.entries _ (ArePages-along _ _ _ _ c.self.inside.pages.entries _ (sym c.in_ok-read_at.ensures.bytes) (sym c.in_ok-read_at.ensures.size) c.self.invariant (λ n p is. c.copy_front-done.ensures.among n p (c.in-Some.ensures.among n p is))) one (rw held at c.copy_and_keep.ensures.with)

pub returns-clause-read : goal.returns-clause-read
returns-clause-read g c =
    let from = c.args.at + c.copy_front-done.result in
    let read = c.read_at-2.new.buf in
    let inner = c.read_at-2.new.self in
    let place : from - from % 16384 ≡ 16384 * (from / 16384) = omega arith in
    let size : g.R.FileReader.size inner ≡ c.len-size.result = c.in_ok-read_at.ensures.size ∙ sym c.len-size.ensures in
    let given = c.deref_mut.ensures.len ∙ c.in-Some.ensures.len in
    let len : length read ≡ c.min-len.result = c.read_at-2.auto.buf ∙ given in
    let told : (b : List ℕ) → g.R.FileReader.bytes inner ≡ Some b → read ≡ take c.min-len.result (drop (16384 * (from / 16384)) b) = λ b is. rw (place, given) at (c.in_ok-read_at.ensures.read b (sym c.in_ok-read_at.ensures.bytes ∙ is)) in
    let one : IsPage (g.R.FileReader.bytes inner) (g.R.FileReader.size inner) (from / 16384) read = page_is_read _ _ _ c.min-len.result read (g.met.R.FileReader.sized inner) (c.min-len.ensures ∙ omega arith) len told in
    let whole : c.in-Some.page.len ≡ length read = c.in-Some.ensures.len ∙ sym len in
    let held = with_items_is c.in-Some.page read (sym whole) in
    λ b is.
    let there : g.R.FileReader.bytes c.self.inside.inner ≡ Some b = ap (λ v. g.R.FileReader.bytes v.inner) c.self.view_is ∙ is in
    let before = c.copy_front-done.ensures.copied b (λ n p kept. (c.self.invariant n p kept).told b there) in
    let part = part_from b read c.copy_and_keep.new.piece from _ c.if-left-offset.false (one.told b (c.in_ok-read_at.ensures.bytes ∙ there)) (rw held at c.copy_and_keep.ensures.copied) in
    filled_rest b c.copy_front-done.new.buf c.copy_and_keep.new.piece c.args.at c.copy_front-done.result (length c.args.buf.now) c.copy_front-done.auto.buf c.copy_front-done.ensures.within before c.copy_and_keep.auto.piece part

use Rattle.std.proofs.Common.{◌∙◌, sym, refl, []}
use Rattle.mesa_delta.proofs.Accepting.{block_accepts, read_again}
use Rattle.mesa_delta.proofs.Following.{weaker, unfollowed, followed, none_left, onto_none}
use Rattle.mesa_delta.proofs.Steps.{start_run, whole_file}
use Rattle.mesa_delta.proofs.reader.DeltaReader.accept.Goals as goal

pub returns-in-Err-clause-accepts : goal.returns-in-Err-clause-accepts
returns-in-Err-clause-accepts g c = λ d is parts h b all at f.
    let r = g.R.FileReader in
    let self = c.args.self.now in
    block_accepts c.fits_alone.ensures r.bytes self (r.size self.reader) c.args.i parts d b all c.blocks-blocks.ensures.index c.requires.within at (c.told_sizes.ensures b at) f h
    (weaker (r.bytes self.reader) (r.size self.reader) self.index c.args.i parts d (c.in-Err.ensures.damaged d is))

pub returns-in-Err-go_on-clause-damaged : goal.returns-in-Err-go_on-clause-damaged
returns-in-Err-go_on-clause-damaged g c = λ d is parts h.
    let r = g.R.FileReader in
    let self = c.args.self.now in
    let p = c.start-start.ensures in
    let run = start_run self.index.layout c.start-start.result p.next p.rows p.last p.count in
    unfollowed c.fits_alone.ensures c.reads_blocks.ensures (r.bytes self.reader) (r.size self.reader) self.index c.start-start.result [] parts c.in-Ok.block c.in-Ok.block c.args.i d c.in-Ok.ensures.sized c.blocks-blocks.ensures.index c.requires.within c.if-i-eq0.true run refl refl
    c.in-Ok.ensures.block c.in-Ok.ensures.told (c.in-Err-go_on.ensures.err d is) (c.in-Err-go_on.ensures.never d is) (λ b begun. refl)

pub returns-in-Err-go_on-clause-accepts : goal.returns-in-Err-go_on-clause-accepts
returns-in-Err-go_on-clause-accepts g c = λ d is parts h b all at f.
    let r = g.R.FileReader in
    let self = c.args.self.now in
    let p = c.start-start.ensures in
    let run = start_run self.index.layout c.start-start.result p.next p.rows p.last p.count in
    block_accepts c.fits_alone.ensures r.bytes self (r.size self.reader) c.args.i parts d b all c.blocks-blocks.ensures.index c.requires.within at (c.told_sizes.ensures b at) f h
    (unfollowed c.fits_alone.ensures c.reads_blocks.ensures (r.bytes self.reader) (r.size self.reader) self.index c.start-start.result [] parts c.in-Ok.block c.in-Ok.block c.args.i d c.in-Ok.ensures.sized c.blocks-blocks.ensures.index c.requires.within c.if-i-eq0.true run refl refl
    c.in-Ok.ensures.block c.in-Ok.ensures.told (c.in-Err-go_on.ensures.err d is) (c.in-Err-go_on.ensures.never d is) (λ b begun. refl))

pub returns-then-i-eq0-clause-again : goal.returns-then-i-eq0-clause-again
returns-then-i-eq0-clause-again g c = λ b all at f.
    let self = c.args.self.now in
    read_again c.fits_alone.ensures c.reads_blocks.ensures self.index c.args.i c.in-Ok.block all b c.blocks-blocks.ensures.index c.requires.within c.in-Ok.ensures.block f (c.in-Ok.ensures.told b at)

pub returns-then-i-eq0-clause-first : goal.returns-then-i-eq0-clause-first
returns-then-i-eq0-clause-first g c = λ zero.
    let r = g.R.FileReader in
    let self = c.args.self.now in
    let p = c.start-start.ensures in
    let run = start_run self.index.layout c.start-start.result p.next p.rows p.last p.count in
    followed r.bytes self _ c.start-start.result [] c.in-Ok.block c.in-Ok.block c.args.i c.blocks-blocks.ensures.index refl refl c.requires.within c.if-i-eq0.true run refl (λ b at. refl) refl
    c.in-Ok.ensures.block c.in-Ok.ensures.told c.in-Ok-go_on.ensures.more c.in-Ok-go_on.ensures.counted

pub returns-then-i-eq0-clause-next : goal.returns-then-i-eq0-clause-next
returns-then-i-eq0-clause-next g c = λ parts h e.
    let r = g.R.FileReader in
    let self = c.args.self.now in
    let p = c.start-start.ensures in
    let run = start_run self.index.layout c.start-start.result p.next p.rows p.last p.count in
    let none = none_left parts (sym c.if-i-eq0.true ∙ e) in
    onto_none r.bytes _ parts c.in-Ok.block none
    (followed r.bytes self _ c.start-start.result [] c.in-Ok.block c.in-Ok.block c.args.i c.blocks-blocks.ensures.index refl refl c.requires.within c.if-i-eq0.true run refl (λ b at. refl) refl
    c.in-Ok.ensures.block c.in-Ok.ensures.told c.in-Ok-go_on.ensures.more c.in-Ok-go_on.ensures.counted)

pub returns-then-i-eq0-clause-whole : goal.returns-then-i-eq0-clause-whole
returns-then-i-eq0-clause-whole g c = λ parts h all over. whole_file c.fits_alone.ensures c.grows_by_rows.ensures g.R.FileReader.bytes _ parts c.blocks-blocks.ensures.index h all over

pub returns-in-Err-go_on-2-clause-damaged : goal.returns-in-Err-go_on-2-clause-damaged
returns-in-Err-go_on-2-clause-damaged g c = λ d is parts h.
    let r = g.R.FileReader in
    let self = c.args.self.now in
    unfollowed c.fits_alone.ensures c.reads_blocks.ensures (r.bytes self.reader) (r.size self.reader) self.index self.run parts parts c.in-Ok.block c.in-Ok.block c.args.i d c.in-Ok.ensures.sized c.blocks-blocks.ensures.index c.requires.within (c.if-i-self.true ∙ h.run.next) h.run h.places refl
    c.in-Ok.ensures.block c.in-Ok.ensures.told (c.in-Err-go_on-2.ensures.err d is) (c.in-Err-go_on-2.ensures.never d is) (λ b begun. begun)

pub returns-in-Err-go_on-2-clause-accepts : goal.returns-in-Err-go_on-2-clause-accepts
returns-in-Err-go_on-2-clause-accepts g c = λ d is parts h b all at f.
    let r = g.R.FileReader in
    let self = c.args.self.now in
    block_accepts c.fits_alone.ensures r.bytes self (r.size self.reader) c.args.i parts d b all c.blocks-blocks.ensures.index c.requires.within at (c.told_sizes.ensures b at) f h
    (unfollowed c.fits_alone.ensures c.reads_blocks.ensures (r.bytes self.reader) (r.size self.reader) self.index self.run parts parts c.in-Ok.block c.in-Ok.block c.args.i d c.in-Ok.ensures.sized c.blocks-blocks.ensures.index c.requires.within (c.if-i-self.true ∙ h.run.next) h.run h.places refl
    c.in-Ok.ensures.block c.in-Ok.ensures.told (c.in-Err-go_on-2.ensures.err d is) (c.in-Err-go_on-2.ensures.never d is) (λ b begun. begun))

pub returns-then-i-self-clause-again : goal.returns-then-i-self-clause-again
returns-then-i-self-clause-again g c = λ b all at f.
    let self = c.args.self.now in
    read_again c.fits_alone.ensures c.reads_blocks.ensures self.index c.args.i c.in-Ok.block all b c.blocks-blocks.ensures.index c.requires.within c.in-Ok.ensures.block f (c.in-Ok.ensures.told b at)

pub returns-then-i-self-clause-next : goal.returns-then-i-self-clause-next
returns-then-i-self-clause-next g c = λ parts h e.
    let r = g.R.FileReader in
    let self = c.args.self.now in
    followed r.bytes self _ self.run parts c.in-Ok.block c.in-Ok.block c.args.i c.blocks-blocks.ensures.index refl refl c.requires.within e h.run h.places h.told refl
    c.in-Ok.ensures.block c.in-Ok.ensures.told c.in-Ok-go_on-2.ensures.more c.in-Ok-go_on-2.ensures.counted

pub returns-then-i-self-clause-other : goal.returns-then-i-self-clause-other
returns-then-i-self-clause-other g c = λ parts h some differ. absurd (differ (c.if-i-self.true ∙ h.run.next))

pub returns-then-i-self-clause-whole : goal.returns-then-i-self-clause-whole
returns-then-i-self-clause-whole g c = λ parts h all over. whole_file c.fits_alone.ensures c.grows_by_rows.ensures g.R.FileReader.bytes _ parts c.blocks-blocks.ensures.index h all over

pub returns-clause-again : goal.returns-clause-again
returns-clause-again g c = λ b all at f.
    let self = c.args.self.now in
    read_again c.fits_alone.ensures c.reads_blocks.ensures self.index c.args.i c.in-Ok.block all b c.blocks-blocks.ensures.index c.requires.within c.in-Ok.ensures.block f (c.in-Ok.ensures.told b at)

pub returns-clause-next : goal.returns-clause-next
returns-clause-next g c = λ parts h e. absurd (c.if-i-self.false (e ∙ sym h.run.next))

pub returns-clause-whole : goal.returns-clause-whole
returns-clause-whole g c = λ parts h all over. whole_file c.fits_alone.ensures c.grows_by_rows.ensures g.R.FileReader.bytes _ parts c.blocks-blocks.ensures.index h all over

use Rattle.std.proofs.Common.{◌≡◌, ◌≢◌, ◌+◌, ◌<◌, ◌≤◌, suc, [], ◌∷◌, ◌++◌, List, length, take, get_or, refl, sym, ◌∙◌, ap, subst, arith, add-one, append_assoc, append-nil, length-append}
use Rattle.std.proofs.lemmas.List.{get_or-set_other, take_all}
use Rattle.mesa_batch.proofs.mesa_columns.Lists.{all_set}
use Rattle.mesa_compact.specs.mesa_merge.Inputs.{knowns_of}
use Rattle.mesa_open_files.specs.Inputs.{AreInputsTo}
use Rattle.mesa_open_files.specs.Recasts.{AreRewritten, IsRangeRewritten, own, recast_ids}
use Rattle.mesa_file.specs.Serials.{AreNext}
use Rattle.mesa_open_files.specs.declared.recasting.RecastRange.{RecastRange}
use Rattle.mesa_compact.specs.Bounded.{AreBounded}
use Rattle.mesa_compact.proofs.Causing.{caused_memory, caused_ok, caused_on}
use Rattle.mesa_compact.proofs.Putting.{all_at, map_set}
use Rattle.mesa_compact.proofs.Viewing.{drafts_more, set_some}
use Rattle.mesa_copy.proofs.Caused.{caused_at}
use Rattle.mesa_copy.specs.Copying.{known_range}
use Rattle.mesa_copy.specs.Renewals.{columns_in}
use Rattle.mesa_copy.proofs.Numbering.{ids_append, next_both, next_none}
use Rattle.mesa_copy.proofs.Rewriting.{rewritten_push}
use Rattle.mesa_copy.proofs.ranges.rewrite_ranges.Goals as goal

pub each-init : goal.each-init
each-init g c =
    let made = c.args.made.now in
    let begins : c.len-i.result ≡ length made.items = omega (arith, c.len-i.ensures, made.ok.0) in
    record {
      count = sym begins;
      rest = λ j d le. refl;
      rewritten = λ r is begun. subst (λ n. AreRewritten g.M.Made.bytes g.M.Made.id_of g.R.FileReader.bytes (columns_in c.args.renewal.now) r (take n c.args.ranges.now) made.items) (sym begins) begun;
      more = ([], sym (append-nil made.items), next_none c.args.ids.now);
      known = refl;
      kept = c.requires.ranges;
      faults = refl;
      reads = refl;
    }

pub rewrite_range-requires-clause-renewal : goal.rewrite_range-requires-clause-renewal
rewrite_range-requires-clause-renewal g c = λ _ _. (c.requires.begun.0, c.requires.begun.1)

pub rewrite_range-requires-clause-range : goal.rewrite_range-requires-clause-range
rewrite_range-requires-clause-range g c = λ _ _.
    all_at (λ (x : RecastRange g.row.R.Denot). AreInputsTo g.R.FileReader.bytes (columns_in c.args.renewal.now) (own x)) c.each.ranges c.each.i c.index-ranges-i.result c.each.invariant.kept (omega (arith, c.each-test.true, c.each.auto.ranges))

pub each-preserved : goal.each-preserved
each-preserved g c =
    let bytes = g.M.Made.bytes in
    let id_of = g.M.Made.id_of in
    let read = g.R.FileReader.bytes in
    let inv = c.each.invariant in
    let i = c.each.i in
    let d = c.index-ranges-i.result in
    let old = c.args.ranges.now in
    let new = c.rewrite_range.new.range in
    let s = columns_in c.args.renewal.now in
    let one = c.in-Ok.rewritten in
    let within : i < length c.each.ranges = omega (arith, c.each-test.true, c.each.auto.ranges) in
    let there : i < length old = omega (arith, c.each-test.true, c.each.auto.ranges) in
    let same : get_or c.each.ranges i d ≡ get_or old i d = inv.rest i d (omega arith) in
    let items : c.push.new.self.items ≡ c.each.made.items ++ one ∷ [] = c.in-Ok-push.ensures.items in
    let more = inv.more in
    record {
      count = ap length items ∙ length-append c.each.made.items (one ∷ []) ∙ ap (λ n. n + 1) inv.count;
      rest = λ j e le. let ne : j ≢ i = omega (arith, le) in let was : i ≤ j = omega (arith, le) in get_or-set_other c.each.ranges i j new e ne ∙ inv.rest j e was;
      rewritten = λ r is begun.
          let here = subst (λ (x : RecastRange g.row.R.Denot). IsRangeRewritten bytes id_of read s r x one) same (c.in-Ok.ensures.rewritten r is) in
          let all = rewritten_push bytes id_of read s r old i d c.each.made.items one there (inv.rewritten r is begun) here in
          subst (λ n. AreRewritten bytes id_of read s r (take n old) c.push.new.self.items) (sym (add-one i)) (subst (AreRewritten bytes id_of read s r (take (suc i) old)) (sym items) all);
      more = (
        more.0 ++ one ∷ [],
        items ∙ ap (λ ys. ys ++ one ∷ []) more.1 ∙ append_assoc c.args.made.now.items more.0 (one ∷ []),
        subst (AreNext c.args.ids.now c.rewrite_range.new.ids) (sym (ids_append id_of more.0 (one ∷ []))) (next_both c.args.ids.now c.each.ids c.rewrite_range.new.ids (recast_ids id_of more.0) (recast_ids id_of (one ∷ [])) more.2 c.in-Ok.ensures.numbered),
      );
      known = map_set (known_range read) c.each.ranges i new d c.in-Ok.ensures.known ∙ inv.known;
      kept = all_set (λ (x : RecastRange g.row.R.Denot). AreInputsTo read (columns_in c.args.renewal.now) (own x)) c.each.ranges i new c.in-Ok.ensures.kept inv.kept;
      faults = c.in-Ok.ensures.causes.drafts.quiet ∙ inv.faults;
      reads = (caused_at own g.R.FileReader.faults _ _ _ c.each.ranges i new d _ within c.in-Ok.ensures.causes).reads.quiet ∙ inv.reads;
    }

-- ---- all are made

pub returns-clause-rewritten : goal.returns-clause-rewritten
returns-clause-rewritten g c = λ r is begun.
    let inv = c.each.invariant in
    let old = c.args.ranges.now in
    let few : length old ≤ c.each.i = omega (arith, c.each-test.false, c.each.auto.ranges) in
    subst (λ (xs : List (RecastRange g.row.R.Denot)). AreRewritten g.M.Made.bytes g.M.Made.id_of g.R.FileReader.bytes (columns_in c.args.renewal.now) r xs c.each.made.items) (take_all c.each.i old few) (inv.rewritten r is begun)

pub returns-clause-more : goal.returns-clause-more
returns-clause-more g c = c.each.invariant.more

pub returns-clause-ids : goal.returns-clause-ids
returns-clause-ids g c = let next = c.each.invariant.more.2 in (next.count, next.after)

pub returns-clause-causes : goal.returns-clause-causes
returns-clause-causes g c = caused_ok _ _ _ _ _ _ c.each.invariant.faults c.each.invariant.reads

-- ---- one isn't

pub returns-in-Err-clause-more : goal.returns-in-Err-clause-more
returns-in-Err-clause-more g c = let more = c.each.invariant.more in (more.0, more.1, tt)

pub returns-in-Err-clause-ids : goal.returns-in-Err-clause-ids
returns-in-Err-clause-ids g c =
    let next = c.each.invariant.more.2 in
    let more = c.in-Err.ensures.ids in
    drafts_more next.count more.0 c.args.ids.now _ _ next.after more.1

pub returns-in-Err-clause-known : goal.returns-in-Err-clause-known
returns-in-Err-clause-known g c = map_set (known_range g.R.FileReader.bytes) c.each.ranges c.each.i c.rewrite_range.new.range c.index-ranges-i.result c.in-Err.ensures.known ∙ c.each.invariant.known

pub returns-in-Err-clause-kept : goal.returns-in-Err-clause-kept
returns-in-Err-clause-kept g c =
    all_set (λ (x : RecastRange g.row.R.Denot). AreInputsTo g.R.FileReader.bytes (columns_in c.args.renewal.now) (own x)) c.each.ranges c.each.i c.rewrite_range.new.range c.in-Err.ensures.kept c.each.invariant.kept

pub returns-in-Err-clause-causes : goal.returns-in-Err-clause-causes
returns-in-Err-clause-causes g c =
    let inv = c.each.invariant in
    let i = c.each.i in
    let new = c.rewrite_range.new.range in
    let within : i < length c.each.ranges = omega (arith, c.each-test.true, c.each.auto.ranges) in
    let all = caused_at own g.R.FileReader.faults _ _ _ c.each.ranges i new c.index-ranges-i.result _ within c.in-Err.ensures.causes in
    caused_on _ _ _ _ _ _ _ _ _ _ inv.faults inv.reads all refl (λ d told. record { at = i; range = new; one = set_some c.each.ranges i new within; told = told })

pub returns-in-Err-clause-accepts : goal.returns-in-Err-clause-accepts
returns-in-Err-clause-accepts g c = λ e is b.
    let read = g.R.FileReader.bytes in
    let s = columns_in c.args.renewal.now in
    let i = c.each.i in
    let d = c.index-ranges-i.result in
    let old = c.args.ranges.now in
    let same : get_or c.each.ranges i d ≡ get_or old i d = c.each.invariant.rest i d (omega arith) in
    c.in-Err.ensures.accepts e is (subst (λ (x : RecastRange g.row.R.Denot). AreBounded s (knowns_of read (own x))) (sym same) (all_at (λ (x : RecastRange g.row.R.Denot). AreBounded s (knowns_of read (own x))) old i d b (omega (arith, c.each-test.true, c.each.auto.ranges))))

-- ---- there is no room for it

pub returns-in-Err-push-clause-more : goal.returns-in-Err-push-clause-more
returns-in-Err-push-clause-more g c = let more = c.each.invariant.more in (more.0, c.in-Err-push.ensures.items ∙ more.1, tt)

pub returns-in-Err-push-clause-ids : goal.returns-in-Err-push-clause-ids
returns-in-Err-push-clause-ids g c =
    let next = c.each.invariant.more.2 in
    let more = c.in-Ok.ensures.ids in
    drafts_more next.count more.0 c.args.ids.now _ _ next.after more.1

pub returns-in-Err-push-clause-known : goal.returns-in-Err-push-clause-known
returns-in-Err-push-clause-known g c = map_set (known_range g.R.FileReader.bytes) c.each.ranges c.each.i c.rewrite_range.new.range c.index-ranges-i.result c.in-Ok.ensures.known ∙ c.each.invariant.known

pub returns-in-Err-push-clause-kept : goal.returns-in-Err-push-clause-kept
returns-in-Err-push-clause-kept g c =
    all_set (λ (x : RecastRange g.row.R.Denot). AreInputsTo g.R.FileReader.bytes (columns_in c.args.renewal.now) (own x)) c.each.ranges c.each.i c.rewrite_range.new.range c.in-Ok.ensures.kept c.each.invariant.kept

pub returns-in-Err-push-clause-causes : goal.returns-in-Err-push-clause-causes
returns-in-Err-push-clause-causes g c =
    let inv = c.each.invariant in
    let i = c.each.i in
    let within : i < length c.each.ranges = omega (arith, c.each-test.true, c.each.auto.ranges) in
    let all = caused_at own g.R.FileReader.faults _ _ _ c.each.ranges i c.rewrite_range.new.range c.index-ranges-i.result _ within c.in-Ok.ensures.causes in
    caused_memory _ _ _ _ _ (c.in-Ok.ensures.causes.drafts.quiet ∙ inv.faults) (all.reads.quiet ∙ inv.reads)

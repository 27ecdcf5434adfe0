use Rattle.std.proofs.Common.{◌≡◌, ap, subst, Ok}
use Rattle.mesa_pick_files.specs.mesa_columns.Columns.{Columns}
use Rattle.mesa_filter.specs.Asked.{asked_of}
use Rattle.mesa_filter.specs.Query.{IsQueryOf}
use Rattle.mesa_filter.specs.declared.words.QueryWords.{QueryWords}
use Rattle.mesa_validate.specs.Found.{columns_at}
use Rattle.mesa_store_digest.proofs.AllAsked.{AskForAll, asks_all, none_refuses}
use Rattle.mesa_store_digest.proofs.latest.query_of_all.Goals as goal

pub wants_memory-requires : goal.wants_memory-requires
wants_memory-requires c = λ other.
    let words = c.all_words-words.ensures in
    let is : AskForAll c.all_words-words.result = record { filter = ap (λ (w : QueryWords). w.filter) words; group = ap (λ (w : QueryWords). w.group) words; values = ap (λ (w : QueryWords). w.values) words; resume = ap (λ (w : QueryWords). w.resume) words } in
    none_refuses _ _ _ _ c.all_words-words.result _ is (c.in-Err.ensures.refused other)

pub returns-in-Ok-clause-asked : goal.returns-in-Ok-clause-asked
returns-in-Ok-clause-asked c =
    let words = c.all_words-words.ensures in
    let is : AskForAll c.all_words-words.result = record { filter = ap (λ (w : QueryWords). w.filter) words; group = ap (λ (w : QueryWords). w.group) words; values = ap (λ (w : QueryWords). w.values) words; resume = ap (λ (w : QueryWords). w.resume) words } in
    let s = columns_at c.args.catalog.now.catalogue c.args.place in
    asks_all s c.all_words-words.result _ is (subst (λ (t : Columns). asked_of t c.all_words-words.result ≡ Ok c.in-Ok.query.asked) c.in_ok-schema.ensures c.in-Ok.ensures.asked)

pub returns-in-Ok-clause-sound : goal.returns-in-Ok-clause-sound
returns-in-Ok-clause-sound c = subst (λ (t : Columns). IsQueryOf t c.in-Ok.query) c.in_ok-schema.ensures c.in-Ok.ensures.sound

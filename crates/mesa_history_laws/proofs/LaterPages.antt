-- Pages of a version that are asked for at any moments, by any sessions.
use Rattle.std.proofs.Common.{◌≡◌, ℕ, ◌<◌, List, length, sym, subst, Ok}
use Rattle.std.specs.List.{AllByRecursion}
use Rattle.mesa_history_spec.specs.mesa_filter.declared.words.QueryWords.{QueryWords}
use Rattle.mesa_history_spec.specs.mesa_filter.declared.words.VersionWord.{VersionWord}
use Rattle.mesa_history_spec.specs.mesa_filter.declared.words.VersionWord.TheVariants as asks
use Rattle.mesa_history_spec.specs.mesa_model.declared.commands.Script.{Script}
use Rattle.mesa_history_spec.specs.mesa_model.Warehouse.{Store, Warehouse}
use Rattle.mesa_history_spec.specs.mesa_model.WellFormed.{IsWellFormed}
use Rattle.mesa_history_spec.specs.mesa_model.Query.{Answer, query_answer, store_asked}
use Rattle.mesa_history_spec.specs.Run.{Run}
use Rattle.mesa_history_laws.specs.Later.{IsLaterPlace, IsStillThere}
use Rattle.mesa_history_laws.specs.Pages.{ArePagesOf, Asking, IsWholeAnswer, from_first, pages_asked_at}
use Rattle.mesa_history_spec.proofs.mesa_columns.Lists.{all_so}
use Rattle.mesa_history_laws.proofs.QueryPages.{AsksAlike, pages_of_whole}
use Rattle.mesa_history_laws.proofs.StayingAnswers.{answers_stay}
use Rattle.mesa_history_laws.proofs.StoredRows.{IsStored, well_stored}

module _ (script : Script) (r : Run) (is : IsWellFormed r.state.warehouse) (session : ℕ) (words : QueryWords) (version limit : ℕ) (at : words.version ≡ asks.At version) where
  abbrev was : Warehouse
  was = r.state.warehouse

  present : (s : Store) → store_asked was session words.version ≡ Ok s → IsStored s
  present s e =
      let own : store_asked was session (asks.At version) ≡ Ok s = subst (λ (v : VersionWord). store_asked was session v ≡ Ok s) at e in
      let same : was.store ≡ s = cc in
      subst IsStored same (well_stored was is)

  alike : (asking : Asking) → IsLaterPlace script r words.relation version asking → AsksAlike was session words limit asking
  alike asking later text answer e =
      subst (λ (w : Warehouse). query_answer w asking.session (record words { limit = limit; resume = text }) ≡ Ok answer) (sym later.reached)
      (answers_stay script r later.more is session asking.session (record words { limit = limit; resume = text }) version answer at e (subst (λ (w : Warehouse). IsStillThere was w words.relation version) later.reached later.still))

  -- Pages of a version that are asked for at any moments, by any sessions, are those of one answer.
  pub pages_later : (whole : Answer) → 0 < limit → IsWholeAnswer was session words whole → (askings : List Asking) → AllByRecursion (IsLaterPlace script r words.relation version) askings
      → ArePagesOf whole.page.rows (length askings) (pages_asked_at askings (from_first words limit))
  pages_later whole some answers askings later =
      pages_of_whole was session words limit answers.limit whole present some answers.answers answers.last askings (all_so (IsLaterPlace script r words.relation version) (AsksAlike was session words limit) askings alike later)

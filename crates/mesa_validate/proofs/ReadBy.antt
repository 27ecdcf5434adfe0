-- A query as it is read: what stays of it, and what is so of the order that is chosen.
use Rattle.std.proofs.Common.{◌≡◌, ◌∙◌, ℕ, ◌<◌, [], length, get_or, true, false, refl, sym, ap, subst, Option, Some, None}
use Rattle.std.specs.Prelude.{IfSome, IsTrue, is_some, slice_get}
use Rattle.std.proofs.lemmas.Option.{slice_get-get_or, slice_get_within}
use Rattle.mesa_catalog.specs.mesa_columns.declared.views.View.{View}
use Rattle.mesa_schema.specs.Changes.{Lineage, columns_of}
use Rattle.mesa_schema.specs.Views.{view_columns}
use Rattle.mesa_filter.specs.Query.{BuiltQuery, IsQueryOf}
use Rattle.mesa_model.specs.Orders.{choice, is_candidate}
use Rattle.mesa_model.specs.Relations.{relation_columns}
use Rattle.mesa_model.specs.Warehouse.{Table}
use Rattle.mesa_order.specs.Order.{query_through}
use Rattle.mesa_order.proofs.Choices.{chosen_candidate}
use Rattle.mesa_validate.specs.Ordered.{as_read, read_of, through_order, through_view}
use Rattle.mesa_validate.specs.declared.found.Found.{Found}

-- the same query, of the view of a number
abbrev pub read_through : Lineage → Found → ℕ → View → Found
read_through l f number v = record { relation = record { table = f.relation.table; view = Some number }; query = query_through (columns_of l) v f.query }

-- This view is chosen for a query of its table.
pub record IsChosen (l : Lineage) (f : Found) (number : ℕ) (v : View) : Type 0 where
  pub none : f.relation.view ≡ None
  pub there : slice_get l.views number ≡ Some v
  pub candidate : is_candidate (columns_of l) f.query.asked.values v ≡ true

-- What is so of what was found, and of it by whatever view is chosen, is so of what is read.
pub reads : (P : Found → Type 0) (l : Lineage) (f : Found) → P f → ((number : ℕ) (v : View) → IsChosen l f number v → P (read_through l f number v)) → P (as_read l f)
reads P l f same other = by_view f.relation.view refl
  where
    by_slot : (number : ℕ) → f.relation.view ≡ None → Some number ≡ choice (columns_of l) l.views f.query.asked.values f.query.asked.terms → (o : Option View) → slice_get l.views number ≡ o → P (through_view l f number o)
    by_slot number none chosen None at = same
    by_slot number none chosen (Some v) at =
        let serves : IfSome (Some number) (λ view. IfSome (slice_get l.views view) (λ w. IsTrue (is_candidate (columns_of l) f.query.asked.values w))) = chosen_candidate (columns_of l) f.query.asked.values f.query.asked.terms l.views (Some number) chosen in
        other number v (record { none = none; there = at; candidate = subst (λ (o : Option View). IfSome o (λ w. IsTrue (is_candidate (columns_of l) f.query.asked.values w))) at serves })

    by_choice : f.relation.view ≡ None → (o : Option ℕ) → o ≡ choice (columns_of l) l.views f.query.asked.values f.query.asked.terms → P (through_order l f o)
    by_choice none None chosen = same
    by_choice none (Some number) chosen = by_slot number none chosen (slice_get l.views number) refl

    by_view : (view : Option ℕ) → f.relation.view ≡ view → P (read_of l f view)
    by_view (Some view) is = same
    by_view None is = by_choice is (choice (columns_of l) l.views f.query.asked.values f.query.asked.terms) refl

-- ---- as the code reads it

none_of : (o : Option ℕ) → is_some o ≡ false → o ≡ None
none_of None e = refl
none_of (Some n) e = cc

-- what was found, with a query of the view of a number
abbrev by_number : Found → ℕ → BuiltQuery → Found
by_number f number q = record { relation = record { table = f.relation.table; view = Some number }; query = q }

module _ (l : Lineage) (number : ℕ) (q : BuiltQuery) (within : number < length l.views) where
  -- a view that is there
  abbrev v : View
  v = get_or l.views number (record { name = []; keys = []; values = [] })

  at : slice_get l.views number ≡ Some v
  at = slice_get-get_or l.views number (record { name = []; keys = []; values = [] }) within

  -- a query of a table, asked of the view that is chosen, is what is read
  pub read_chosen : (f : Found) → is_some f.relation.view ≡ false → Some number ≡ choice (columns_of l) l.views f.query.asked.values f.query.asked.terms → IfSome (slice_get l.views number) (λ (w : View). q ≡ query_through (columns_of l) w f.query) → by_number f number q ≡ as_read l f
  read_chosen f none chosen made =
      let asked : q ≡ query_through (columns_of l) v f.query = subst (λ (o : Option View). IfSome o (λ (w : View). q ≡ query_through (columns_of l) w f.query)) at made in
      ap (by_number f number) asked ∙ sym (ap (read_of l f) (none_of f.relation.view none) ∙ ap (through_order l f) (sym chosen) ∙ ap (through_view l f number) at)

  -- and it is one of that view
  pub read_asked : (t : Table) (n : ℕ) → t.lineage ≡ l → IfSome (slice_get l.views number) (λ (w : View). IsQueryOf (view_columns (columns_of l) w) q) → IsQueryOf (relation_columns (record { number = n; table = t; view = slice_get t.lineage.views number })) q
  read_asked t n same made =
      let asked : IsQueryOf (view_columns (columns_of l) v) q = subst (λ (o : Option View). IfSome o (λ (w : View). IsQueryOf (view_columns (columns_of l) w) q)) at made in
      subst (λ (o : Option View). IsQueryOf (relation_columns (record { number = n; table = t; view = o })) q) (sym (ap (λ (m : Lineage). slice_get m.views number) same ∙ at))
      (subst (λ (m : Lineage). IsQueryOf (view_columns (columns_of m) v) q) (sym same) asked)

-- ---- what stays

pub read_table : (l : Lineage) (f : Found) → (as_read l f).relation.table ≡ f.relation.table
read_table l f = reads (λ x. x.relation.table ≡ f.relation.table) l f refl (λ number v is. refl)

pub read_version : (l : Lineage) (f : Found) → (as_read l f).query.version ≡ f.query.version
read_version l f = reads (λ x. x.query.version ≡ f.query.version) l f refl (λ number v is. refl)

pub read_limit : (l : Lineage) (f : Found) → (as_read l f).query.limit ≡ f.query.limit
read_limit l f = reads (λ x. x.query.limit ≡ f.query.limit) l f refl (λ number v is. refl)

pub read_resume : (l : Lineage) (f : Found) → (as_read l f).query.resume ≡ f.query.resume
read_resume l f = reads (λ x. x.query.resume ≡ f.query.resume) l f refl (λ number v is. refl)

pub read_prefix : (l : Lineage) (f : Found) → (as_read l f).query.prefix ≡ f.query.prefix
read_prefix l f = reads (λ x. x.query.prefix ≡ f.query.prefix) l f refl (λ number v is. refl)

-- ---- its view

-- one that is chosen is there
pub read_within : (l : Lineage) (f : Found) → IfSome f.relation.view (λ view. view < length l.views) → IfSome (as_read l f).relation.view (λ view. view < length l.views)
read_within l f within = reads (λ x. IfSome x.relation.view (λ view. view < length l.views)) l f within (λ number v is. slice_get_within l.views number v is.there)

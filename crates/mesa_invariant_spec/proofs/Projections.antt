-- What books without rows say of a state with them.
use Rattle.std.proofs.Common.{◌≡◌, List, Bool, true, false, refl, sym, ◌∙◌, ap, Result, Ok, Err}
use Rattle.std.specs.Prelude.{is_ok}
use Rattle.mesa_history_spec.specs.mesa_schema.Changes.{columns_of}
use Rattle.mesa_history_spec.specs.mesa_batch.Batch.{Named, batch_of}
use Rattle.mesa_history_spec.specs.mesa_model.declared.commands.Command.{Command}
use Rattle.mesa_history_spec.specs.mesa_model.declared.commands.Command.TheVariants as command
use Rattle.mesa_history_spec.specs.mesa_model.declared.replies.Refusal.{Refusal}
use Rattle.mesa_history_spec.specs.mesa_model.declared.replies.Reply.{Reply}
use Rattle.mesa_history_spec.specs.mesa_model.declared.replies.Reply.TheVariants as reply
use Rattle.mesa_history_spec.specs.mesa_model.Warehouse.{Table, Store, Warehouse}
use Rattle.mesa_history_spec.specs.mesa_model.Load.{tables_named}
use Rattle.mesa_history_spec.specs.Run.{State}
use Rattle.mesa_history_spec.specs.Legal.{builds_files}
use Rattle.mesa_history_spec.specs.Bare.{bare_table, bare_store, bare_reply, bare_result}
use Rattle.mesa_history_spec.proofs.BareLists.{maps_same}
use Rattle.mesa_invariant_spec.specs.Books.{Books, AreBooksOf}
use Rattle.mesa_invariant_spec.specs.Changes.{is_plain}

-- a refusal of the one without rows is the other's
pub err_of : {A : Type 0} (f : A → A) (q : Result A Refusal) (x : Refusal) → bare_result f q ≡ Err x → q ≡ Err x
err_of f (Ok d) x is = cc
err_of f (Err e) x is = is

-- a value of the one without rows is the other's but for its rows
pub ok_of : {A : Type 0} (f : A → A) (q : Result A Refusal) (d : A) → bare_result f q ≡ Ok d → (x : A) × (q ≡ Ok x) × (f x ≡ d)
ok_of f (Ok x) d is = let same : f x ≡ d = cc in (x, refl, same)
ok_of f (Err e) d is = cc

-- a reply that isn't a page has no rows
pub plain_is : (r p : Reply) → is_plain p ≡ true → bare_reply r ≡ p → r ≡ p
plain_is (reply.Page page) p plain is = let never : false ≡ true = ap is_plain is ∙ plain in absurd cc
plain_is (reply.Table name) p plain is = is
plain_is (reply.View name) p plain is = is
plain_is (reply.Altered table epoch) p plain is = is
plain_is (reply.Loaded v rows) p plain is = is
plain_is (reply.Rows rows v more) p plain is = is
plain_is (reply.Spans spans by) p plain is = is
plain_is (reply.Pinned token v) p plain is = is
plain_is (reply.Released token) p plain is = is
plain_is (reply.Expired table oldest) p plain is = is
plain_is (reply.Swapped from to) p plain is = is
plain_is (reply.Recast table epoch) p plain is = is
plain_is reply.Idle p plain is = is
plain_is (reply.Busy lease) p plain is = is
plain_is (reply.Refused refusal) p plain is = is

pub bare_plain : (p : Reply) → is_plain p ≡ true → bare_reply p ≡ p
bare_plain (reply.Page page) plain = cc
bare_plain (reply.Table name) plain = refl
bare_plain (reply.View name) plain = refl
bare_plain (reply.Altered table epoch) plain = refl
bare_plain (reply.Loaded v rows) plain = refl
bare_plain (reply.Rows rows v more) plain = refl
bare_plain (reply.Spans spans by) plain = refl
bare_plain (reply.Pinned token v) plain = refl
bare_plain (reply.Released token) plain = refl
bare_plain (reply.Expired table oldest) plain = refl
bare_plain (reply.Swapped from to) plain = refl
bare_plain (reply.Recast table epoch) plain = refl
bare_plain reply.Idle plain = refl
bare_plain (reply.Busy lease) plain = refl
bare_plain (reply.Refused refusal) plain = refl

-- the names and columns of the tables have no rows
named_bare : (s : Store) → tables_named s ≡ tables_named (bare_store s)
named_bare s = sym (maps_same bare_table (λ (t : Table). record { name = t.name; columns = columns_of t.lineage }) (λ t. refl) s.tables)

pub named_is : (sound : Bool) (books : Books) (s : State) → AreBooksOf sound books s → tables_named s.warehouse.store ≡ tables_named books.bare.store
named_is sound books s are = named_bare s.warehouse.store ∙ ap (λ (w : Warehouse). tables_named w.store) are.projection

-- so whether files are built for a command is told without rows
pub builds_is : (sound : Bool) (books : Books) (s : State) (c : Command) → AreBooksOf sound books s → builds_files s.warehouse.store c ≡ builds_files books.bare.store c
builds_is sound books s (command.Load rows) are = ap (λ (named : List Named). is_ok (batch_of named rows)) (named_is sound books s are)
builds_is sound books s (command.Work words) are = refl
builds_is sound books s (command.Recast words) are = refl
builds_is sound books s (command.Table words) are = refl
builds_is sound books s (command.View words) are = refl
builds_is sound books s (command.Alter words) are = refl
builds_is sound books s (command.Query words) are = refl
builds_is sound books s (command.Explain words) are = refl
builds_is sound books s (command.Pin version) are = refl
builds_is sound books s (command.Release token) are = refl
builds_is sound books s (command.Expire table version) are = refl

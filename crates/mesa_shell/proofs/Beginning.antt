-- A store on which a run has begun is one that a vault starts from.
use Rattle.std.proofs.Common.{◌≡◌, inl, ℕ, ◌+◌, ◌*◌, ◌<◌, ◌≤◌, List, [], ◌∷◌, map, Bool, true, false, IsTrue, refl, sym, ◌∙◌, ap, arith, Option}
use Rattle.std.proofs.lemmas.List.{length-map}
use Rattle.mesa_disk.specs.Image.{Image}
use Rattle.mesa_disk.specs.Story.{Story}
use Rattle.mesa_disk.specs.declared.area.Area.{Area}
use Rattle.mesa_model.specs.Warehouse.{Table}
use Rattle.mesa_model.specs.declared.commands.Command.{Command}
use Rattle.mesa_model.specs.declared.commands.Script.{Script}
use Rattle.mesa_session.specs.mesa_history_spec.Claims.{HasRanges}
use Rattle.mesa_session.specs.mesa_history_spec.Found.{Found, kept_in}
use Rattle.mesa_session.specs.mesa_history_spec.Replay.{runs}
use Rattle.mesa_session.specs.mesa_history_spec.Run.{begins}
use Rattle.mesa_session.specs.mesa_history_spec.Bare.{bare_table}
use Rattle.mesa_session.specs.mesa_history_spec.Rows.{Rows}
use Rattle.mesa_engine.specs.mesa_commit.Filed.{AreFresh}
use Rattle.mesa_engine.specs.mesa_commit.Holding.{Among}
use Rattle.mesa_session.specs.mesa_invariant_spec.Books.{AreBooksOf}
use Rattle.mesa_engine.specs.mesa_store_spec.Catalog.{TableMeta, Catalog, ranges_of}
use Rattle.mesa_engine.specs.mesa_store_spec.Contents.{kept_of, table_of}
use Rattle.mesa_engine.specs.mesa_store_spec.Sound.{StandsFor}
use Rattle.mesa_engine.specs.mesa_store_spec.Ids.{named}
use Rattle.mesa_engine.proofs.mesa_store_spec.AllSourced.{all_found}
use Rattle.mesa_engine.specs.EngineState.{books_of, first_id, projection_of}
use Rattle.mesa_engine.specs.Vault.{IsReady, Starts}
use Rattle.mesa_engine.specs.Memory.{opened_state}
use Rattle.mesa_engine.specs.Beginning.{IsBegun}
use Rattle.mesa_engine.specs.Engine.{most_turns, starts_of}
use Rattle.mesa_engine.specs.mesa_catalog.declared.begun.Begun.{Begun}
use Rattle.mesa_session.specs.mesa_core.Passes.{turns_of}
use Rattle.mesa_shell.specs.Scripts.{IsSmall, commands_in}
use Rattle.mesa_shell.specs.StoreStart.{start_of}
use Rattle.mesa_shell.specs.Begun.{IsReadyToRun, IsSoundBegun}
use Rattle.mesa_shell.specs.Start.{origin_of}

turns_are : (sessions : List (List Command)) → turns_of sessions ≡ 3 * commands_in sessions
turns_are [] = refl
turns_are (x ∷ xs) = let rest = turns_are xs in omega (arith, rest)

-- a small script has not too many turns
pub few_turns : (script : Script) → IsSmall script → turns_of script.sessions ≤ most_turns
few_turns script small = let turns = turns_are script.sessions in omega (arith, turns, small.commands)

bare_tables : (rows : Rows) (next : ℕ) (ts : List TableMeta) → map bare_table (map (table_of rows next) ts) ≡ map projection_of ts
bare_tables rows next [] = refl
bare_tables rows next (t ∷ ts) = ap (λ (x : List Table). projection_of t ∷ x) (bare_tables rows next ts)

books_are : (script : Script) (c : Catalog) (area : Area) (end : ℕ) (w : Rows) (sound : Bool) → AreBooksOf sound (books_of w (opened_state c area end script.lease)) (start_of script c w)
unfolding kept_of
books_are script c area end w sound = record {
  projection = λ i. record (books_of w (opened_state c area end script.lease)).bare { store = record { tables = bare_tables w c.next c.tables i; floor = c.floor } };
  machine = refl;
  rows = λ is. refl;
  pins = λ is. refl;
}

has_ranges : (script : Script) (c : Catalog) (w : Rows) → HasRanges (start_of script c w)
unfolding kept_of
has_ranges script c w = length-map c.tables ranges_of ∙ sym (length-map c.tables (table_of w c.next))

same_leases : (script : Script) (c : Catalog) (area : Area) (end : ℕ) (w : Rows) → (start_of script c w).machine.leases ≡ (opened_state c area end script.lease).leases
unfolding kept_of
same_leases script c area end w = refl

found_first : (script : Script) (c : Catalog) (w : Rows) (t : ℕ) (x : Image) → StandsFor x (kept_of w c) → Found StandsFor script (begins (start_of script c w)) [] t x
unfolding kept_of kept_in runs
found_first script c w t x stands = record {
  kept = kept_of w c;
  is = stands;
  how = inl (record { past = []; rest = []; split = refl; later = tt; same = refl });
}

module _ {D : Type 0} (story : D → Story) (b : Begun D) (ready : IsReadyToRun story b) where
  abbrev c : Catalog
  c = b.catalog.catalogue

  given : (id : ℕ) → Among id (named c) → id < first_id c.run + 0
  given id is = let lt = ready.filed.filed.named_given id is in omega (arith, lt, ready.run)

  fresh : AreFresh (first_id c.run + 0) (first_id (c.run + 1)) (story b.disk).told
  fresh i told id from past = ready.filed.fresh i told id (omega (arith, from, ready.run)) (omega (arith, past, ready.run))

  is_ready : (turns : ℕ) → IsReady (opened_state c b.area b.end turns) (story b.disk)
  is_ready turns = record { long = ready.long; fresh = fresh; strays = ready.filed.strays }

  module _ (script : Script) (sound : Rows → Type 0) (held : Option (List ℕ)) where
    abbrev n : Starts
    n = starts_of script (λ rows. start_of script c rows) sound (λ rows. origin_of c rows) b.since ((story b.disk).faults + (story b.disk).read_faults) held

    pub begun_dark : (w : Rows) → IsBegun n w false c b.area b.end script.lease (story b.disk) held
    begun_dark w = record {
      bodies = [];
      state = books_are script c b.area b.end w false;
      leases = same_leases script c b.area b.end w;
      ranges = has_ranges script c w;
      generation = refl;
      run = refl;
      shaped = ready.shaped;
      own = ready.own;
      columns = ready.columns;
      recordable = ready.recordable;
      named_given = given;
      ready = is_ready script.lease;
      since = ready.since;
      counted = omega arith;
      sink = refl;
      holds = λ is. absurd (let no : false ≡ true = is in cc);
      found = λ is. absurd (let no : false ≡ true = is in cc);
      sound_rows = λ is. absurd (let no : false ≡ true = is in cc);
      read = λ is. absurd (let no : false ≡ true = is in cc);
      sourced = λ is. absurd (let no : false ≡ true = is in cc);
    }

    pub begun_light : {M : Type 0} (bytes : M → Option (List ℕ)) (w : Rows) → IsSoundBegun bytes b.since (story b.disk) b.area b.end c w → IsBegun n w true c b.area b.end script.lease (story b.disk) held
    begun_light bytes w s = record {
      bodies = s.held.0;
      state = books_are script c b.area b.end w true;
      leases = same_leases script c b.area b.end w;
      ranges = has_ranges script c w;
      generation = refl;
      run = refl;
      shaped = ready.shaped;
      own = ready.own;
      columns = ready.columns;
      recordable = ready.recordable;
      named_given = given;
      ready = is_ready script.lease;
      since = ready.since;
      counted = omega arith;
      sink = refl;
      holds = λ is. s.held.1;
      found = λ is below t x from to left. found_first script c w t x (s.found below t x from to left);
      sound_rows = λ is. s.held.1.sound_rows;
      read = λ is. s.read;
      sourced = λ is. all_found w c ready.shaped s.held.1.sound_rows;
    }

    -- on every store, and with the rows of a sound one
    pub begun_is : {M : Type 0} (bytes : M → Option (List ℕ)) (w : Rows) (light : Bool) → (IsTrue light → IsSoundBegun bytes b.since (story b.disk) b.area b.end c w) → IsBegun n w light c b.area b.end script.lease (story b.disk) held
    begun_is bytes w true is = begun_light bytes w (is refl)
    begun_is bytes w false is = begun_dark w

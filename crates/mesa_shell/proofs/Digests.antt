-- How a call ends that digests a relation, from the opening's clauses and those of the look-up.
use Rattle.std.proofs.Common.{◌≡◌, ◌⊎◌, inl, inr, ℕ, List, refl, sym, subst}
use Rattle.mesa_io.specs.Causes.{Rose}
use Rattle.mesa_disk.specs.Story.{Story, Unmoved}
use Rattle.mesa_disk.specs.declared.area.Area.{Area}
use Rattle.mesa_delta.specs.declared.error.FileError.TheVariants as file_error
use Rattle.mesa_store_digest.specs.Latest.{HasLookReason}
use Rattle.mesa_store_digest.specs.declared.error.LookError.{LookError}
use Rattle.mesa_store_digest.specs.declared.error.LookError.TheVariants as look
use Rattle.mesa_store_digest.specs.Looked.{IsDigestOf}
use Rattle.mesa_engine.specs.mesa_store_spec.Catalog.{Catalog}
use Rattle.mesa_recover.specs.declared.error.OpenError.{OpenError}
use Rattle.mesa_recover.specs.declared.error.OpenError.TheVariants as open_error
use Rattle.mesa_recover.specs.Opening.{HasReason, IsRead}
use Rattle.mesa_shell.specs.Ports.{Ports}
use Rattle.mesa_shell.specs.ExitLines.{answered_status, digest_line, no_table_line, no_version_line, open_line, open_status, refused_status}
use Rattle.mesa_shell.specs.Exit.{Ended, EndsDigest, EndsNamed}
use Rattle.mesa_shell.specs.Unopened.{HasSameCounts, IsUnread}
use Rattle.mesa_shell.specs.declared.done.Devices.{Devices}
use Rattle.mesa_shell.specs.declared.done.Done.{Done}
use Rattle.mesa_shell.proofs.Unmoved.{read_before, sound_after}
use Rattle.mesa_shell.proofs.Verdicts.{counts_there, fault_there, nothing_moved}

module _ {K D M B : Type 0} (ports : Ports K D M B) (g : Devices K D B) (done : Done K D B) (name : List ℕ) where
  abbrev old : Story
  old = ports.story g.disk

  -- the store wasn't read, or couldn't be read further
  pub digest_failed : (disk : D) → done.disk ≡ disk → Unmoved old (ports.story disk) → (e : OpenError) → HasReason old (ports.story disk) e → (e ≡ open_error.RunsFull → ⊥)
      → ((e ≡ open_error.Fault → ⊥) → HasSameCounts old (ports.story disk)) → Ended ports g done (open_status e) (open_line e) → EndsDigest ports g done name
  digest_failed disk is still e reason other quiet ended =
      inl (e, other, (subst (λ d. IsUnread old (ports.story d) e) (sym is) (record { reason = reason; quiet = quiet; unmoved = still }), ended))

  -- ---- behind an opening that moved nothing

  module _ (middle disk : D) (is : done.disk ≡ disk) (opened : Unmoved old (ports.story middle)) (counts : HasSameCounts old (ports.story middle)) (looked : Unmoved (ports.story middle) (ports.story disk)) where
    abbrev mid : Story
    mid = ports.story middle

    abbrev new : Story
    new = ports.story disk

    unread : Rose mid.faults new.faults ⊎ Rose mid.read_faults new.read_faults → Ended ports g done (open_status open_error.Fault) (open_line open_error.Fault) → EndsDigest ports g done name
    unread rose ended =
        digest_failed disk is (nothing_moved old mid new opened looked) open_error.Fault (fault_there old mid new opened looked counts.0 counts.1 rose) (λ no. absurd cc) (λ other. absurd (other refl)) ended

    module _ (same : HasSameCounts mid new) where
      quiet : HasSameCounts old new
      quiet = counts_there old mid new opened looked counts same

      lacking : Ended ports g done (open_status open_error.Memory) (open_line open_error.Memory) → EndsDigest ports g done name
      lacking ended = digest_failed disk is (nothing_moved old mid new opened looked) open_error.Memory tt (λ no. absurd cc) (λ other. quiet) ended

      module _ (live : Area) (bodies : List (List ℕ)) (end : ℕ) (c : Catalog) (read : IsRead mid live bodies end c) where
        named : EndsNamed ports g done c name → EndsDigest ports g done name
        named ends = inr (
          c,
          record {
            reads = (live, bodies, end, read_before old mid opened live bodies end c read);
            quiet = subst (λ d. HasSameCounts old (ports.story d)) (sym is) quiet;
            unmoved = subst (λ d. Unmoved old (ports.story d)) (sym is) (nothing_moved old mid new opened looked);
            ended = ends;
          },
        )

        pub digest_told : (version rows : ℕ) (ordered : List ℕ) (set : ℕ) → IsDigestOf mid c name version rows ordered set → Ended ports g done answered_status (digest_line name version rows ordered set) → EndsDigest ports g done name
        digest_told version rows ordered set of ended = named (inr (inr (inr (
          version,
          rows,
          ordered,
          set,
          record {
            relation = of.relation;
            named = of.named;
            newest = of.newest;
            content = of.content;
            form = of.form;
            is = λ files sound. of.is files (sound_after old mid opened c files sound);
            rows_are = of.rows_are;
            ordered_is = of.ordered_is;
            set_is = of.set_is;
          },
          ended,
        ))))

    -- the line and the status of each reason
    abbrev pub Told : LookError → Type 0
    Told look.NoTable = Ended ports g done refused_status no_table_line
    Told look.NoVersion = Ended ports g done refused_status no_version_line
    Told (look.File file_error.Read) = Ended ports g done (open_status open_error.Fault) (open_line open_error.Fault)
    Told (look.File (file_error.Damaged d)) = Ended ports g done (open_status (open_error.File d)) (open_line (open_error.File d))
    Told (look.File file_error.Memory) = Ended ports g done (open_status open_error.Memory) (open_line open_error.Memory)
    Told look.Memory = Ended ports g done (open_status open_error.Memory) (open_line open_error.Memory)

    module _ (live : Area) (bodies : List (List ℕ)) (end : ℕ) (c : Catalog) (read : IsRead mid live bodies end c) where
      pub digest_refused : (e : LookError) → HasLookReason mid new c name e → ((e ≡ look.File file_error.Read → ⊥) → HasSameCounts mid new) → Told e → EndsDigest ports g done name
      digest_refused look.NoTable why same ended = named (same (λ no. absurd cc)) live bodies end c read (inl (why, ended))
      digest_refused look.NoVersion why same ended = named (same (λ no. absurd cc)) live bodies end c read (inr (inl (why.0, why.1, ended)))
      digest_refused (look.File file_error.Read) why same ended = unread why.1 ended
      digest_refused (look.File (file_error.Damaged d)) why same ended =
          named (same (λ no. absurd cc)) live bodies end c read (inr (inr (inl (why.0, d, record { differs = why.1; never = λ rows sound. why.2 rows (sound_after old mid opened c rows sound) }, ended))))
      digest_refused (look.File file_error.Memory) why same ended = lacking (same (λ no. absurd cc)) ended
      digest_refused look.Memory why same ended = lacking (same (λ no. absurd cc)) ended

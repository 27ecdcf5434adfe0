-- A sound image is read, and as its catalogue alone.
use Rattle.std.proofs.Common.{◌≡◌, ℕ, List, [], ◌∷◌, ◌++◌, Bool, true, false, refl, sym, ◌∙◌, ap, subst, Option, Some, None, Result, Ok, Err}
use Rattle.std.specs.Prelude.{if◌then◌else◌}
use Rattle.mesa_disk.specs.Image.{Image}
use Rattle.mesa_disk.specs.Story.{Story}
use Rattle.mesa_file.specs.declared.damage.Seen.{Seen}
use Rattle.mesa_disk.specs.declared.area.Area.{Area}
use Rattle.mesa_recover.proofs.mesa_journal.Live.{never_damaged, one_live, same_live}
use Rattle.mesa_engine.specs.mesa_record.declared.record.Record.{Record}
use Rattle.mesa_engine.specs.mesa_record_fields.declared.error.RecordError.{RecordError}
use Rattle.mesa_engine.specs.mesa_record.Reading.{record_at}
use Rattle.mesa_session.specs.mesa_history_spec.Rows.{Rows}
use Rattle.mesa_engine.specs.mesa_store_spec.Catalog.{Catalog}
use Rattle.mesa_engine.specs.mesa_store_spec.Fitting.{applied_if, catalog_from, fits, read_record, then_bodies, with_body}
use Rattle.mesa_engine.specs.mesa_store_spec.Journaled.{catalog, first_body}
use Rattle.mesa_engine.specs.mesa_store_spec.Sound.{IsSoundAs}
use Rattle.mesa_recover.specs.Damages.{HasMisfit, IsCutOff, MisfitsBehind, first_place, misfit_of, place_if_none}
use Rattle.mesa_recover.specs.Opening.{IsSoundStart, ReadsAs}
use Rattle.mesa_shell.proofs.Journals.{same_catalog}

some_same : (o : Option Catalog) (c d : Catalog) → o ≡ Some c → o ≡ Some d → c ≡ d
some_same o c d a b = cc

none_some : (c : Catalog) → None ≡ Some c → ⊥
none_some c is = cc is

-- what is read of a sound store is what it has
pub reads_same : (story : Story) (c d : Catalog) (rows : Rows) → IsSoundStart story c rows → ReadsAs story d → c ≡ d
reads_same story c d rows s r = same_catalog s.image s.sound.live r.0 s.bodies r.1 s.sound.end r.2 c d s.sound.journal (r.3.journal s.image s.told) s.sound.records r.3.records

-- ---- its journal is whole

pub sound_whole : (image : Image) (bodies : List (List ℕ)) (c : Catalog) (rows : Rows) (area : Area) (at : ℕ) (want found : Seen) → IsSoundAs image bodies c rows → IsCutOff image area at want found → ⊥
sound_whole image bodies c rows area at want found s cut = never_damaged image s.live area bodies s.end at cut.0 s.journal cut.1

-- ---- and its records fit

unfit : (c : Catalog) (r : Record) (offset : ℕ) (b : Bool) → (if b then None else Some 0) ≡ Some offset → applied_if c r b ≡ None
unfit c r offset true is = absurd (let no : None ≡ Some offset = is in cc no)
unfit c r offset false is = refl

misfit_none : (c : Catalog) (r : Result Record RecordError) (offset : ℕ) → misfit_of c r ≡ Some offset → read_record c r ≡ None
misfit_none c (Ok r) offset is = unfit c r offset (fits c r) is
misfit_none c (Err e) offset is = refl

no_more : (o : Option Catalog) (rest : Catalog → Option Catalog) → o ≡ None → then_bodies o rest ≡ None
no_more None rest is = refl
no_more (Some c) rest is = absurd (let no : Some c ≡ None = is in cc no)

steps : (o : Option Catalog) (f g : Catalog → Option Catalog) (c : Catalog) → then_bodies o f ≡ Some c → ((d : Catalog) → f d ≡ Some c → g d ≡ None) → then_bodies o g ≡ None
steps None f g c is next = refl
steps (Some d) f g c is next = next d is

misfits : (start c : Catalog) (before : List (List ℕ)) (body : List ℕ) (more : List (List ℕ)) → catalog_from start before ≡ Some c → with_body c body ≡ None → catalog_from start (before ++ body ∷ more) ≡ None
unfolding catalog_from
misfits start c [] body more is isnt = no_more (with_body start body) (λ d. catalog_from d more) (subst (λ x. with_body x body ≡ None) (sym (some_same (Some start) start c refl is)) isnt)
misfits start c (b ∷ before) body more is isnt = steps (with_body start b) (λ d. catalog_from d before) (λ d. catalog_from d (before ++ body ∷ more)) c is (λ d is'. misfits d c before body more is' isnt)

none_placed : (o : Option Catalog) (place offset : ℕ) → place_if_none o place ≡ Some offset → o ≡ None
none_placed None place offset is = refl
none_placed (Some c) place offset is = absurd (let no : None ≡ Some offset = is in cc no)

-- bodies of which one misfits make no catalogue
makes_none : (area : Area) (before : List (List ℕ)) (body : List ℕ) (more : List (List ℕ)) (offset : ℕ) → MisfitsBehind area before body offset → catalog area (before ++ body ∷ more) ≡ None
makes_none area [] body more offset is = no_more (first_body area body) (λ d. catalog_from d more) (none_placed (first_body area body) (first_place (record_at body)) offset is)
makes_none area (first ∷ before) body more offset is =
    steps (first_body area first) (λ d. catalog_from d before) (λ d. catalog_from d (before ++ body ∷ more)) is.0 is.1 (λ d made. misfits d is.0 before body more made (misfit_none is.0 (record_at body) offset is.2))

pub sound_fits : (image : Image) (bodies : List (List ℕ)) (c : Catalog) (rows : Rows) (area : Area) (at : ℕ) (want found : Seen) → IsSoundAs image bodies c rows → HasMisfit image area at want found → ⊥
sound_fits image bodies c rows area at want found s m =
    let first = m.4 in
    let live : s.live ≡ area = one_live image s.live area bodies m.0 s.end m.1 s.journal m.3 in
    let same : bodies ≡ m.0 = (same_live image s.live area bodies m.0 s.end m.1 s.journal m.3).0 in
    let none : catalog area m.0 ≡ None = ap (catalog area) first.split ∙ makes_none area first.before first.body first.behind m.2 first.misfits in
    none_some c (sym none ∙ (ap (catalog area) (sym same) ∙ subst (λ (a : Area). catalog a bodies ≡ Some c) live s.records))

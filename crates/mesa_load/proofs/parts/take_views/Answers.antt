use Rattle.std.proofs.Common.{◌≡◌, ℕ, ◌+◌, ◌<◌, List, [], ◌∷◌, ◌++◌, Option, length, take, drop, refl, sym, ap, subst, ◌∙◌, arith}
use Rattle.std.proofs.lemmas.List.{length-take-le, nil_from_length}
use Rattle.std.proofs.Math.Seq.{take-length, drop-length}
use Rattle.mesa_open_files.specs.Batches.{made_ids}
use Rattle.mesa_open_files.specs.Made.{AreMadeViews, Content}
use Rattle.mesa_open_files.specs.declared.made.MadeFile.{MadeFile}
use Rattle.mesa_open_files.specs.declared.made.MadeView.{MadeView}
use Rattle.mesa_load.specs.Plans.{AreMade}
use Rattle.mesa_load.proofs.Filed.{views_more, views_next}
use Rattle.mesa_load.proofs.Places.{splits_at}
use Rattle.mesa_load.proofs.parts.take_views.Goals as goal
use Rattle.mesa_load.proofs.parts.take_views.Goals.{else-views-test, then-views-test+in_default}

-- the file that stands first is the next view's
step : {M : Type 0} (bytes : M → Option (List ℕ)) (id_of : M → ℕ) (contents rest : List Content) (i : ℕ) (taken more : List (MadeView M)) (one : MadeView M) (files left : List (MadeFile M)) → i < length contents
    → AreMadeViews bytes id_of 0 (take i contents) taken × AreMade bytes id_of (drop i contents ++ rest) files → files ≡ one.file ∷ left → more ≡ taken ++ one ∷ [] → one.view ≡ i
    → AreMadeViews bytes id_of 0 (take (i + 1) contents) more × AreMade bytes id_of (drop (i + 1) contents ++ rest) left
step bytes id_of contents rest i taken more one files left lt so_far first added number =
    let s = splits_at i contents lt in
    let made : AreMade bytes id_of (s.x ∷ (drop (i + 1) contents ++ rest)) (one.file ∷ left) =
    subst (λ (fs : List (MadeFile _)). AreMade bytes id_of (s.x ∷ (drop (i + 1) contents ++ rest)) fs) first (subst (λ (cs : List Content). AreMade bytes id_of (cs ++ rest) files) s.back so_far.1) in
    let count : length (take i contents) ≡ i = length-take-le i contents (omega arith) in (
      subst (λ (ms : List (MadeView _)). AreMadeViews bytes id_of 0 (take (i + 1) contents) ms) (sym added)
          (subst (λ (cs : List Content). AreMadeViews bytes id_of 0 cs (taken ++ one ∷ [])) (sym s.front)
          (views_more bytes id_of 0 (take i contents) s.x taken one so_far.0 (omega (arith, number, count)) made.0)),
      made.1,
    )

-- all views have their files
all : {M : Type 0} (bytes : M → Option (List ℕ)) (id_of : M → ℕ) (contents rest : List Content) (i : ℕ) (taken : List (MadeView M)) (files : List (MadeFile M)) → length contents ≡ i
    → AreMadeViews bytes id_of 0 (take i contents) taken × AreMade bytes id_of (drop i contents ++ rest) files → AreMadeViews bytes id_of 0 contents taken × AreMade bytes id_of rest files
all bytes id_of contents rest i taken files many so_far = (
  subst (λ (cs : List Content). AreMadeViews bytes id_of 0 cs taken) (ap (λ (n : ℕ). take n contents) (sym many) ∙ take-length contents) so_far.0,
  subst (λ (cs : List Content). AreMade bytes id_of (cs ++ rest) files) (ap (λ (n : ℕ). drop n contents) (sym many) ∙ drop-length contents) so_far.1,
)

-- a file is there for each view
lacking : {M : Type 0} (bytes : M → Option (List ℕ)) (id_of : M → ℕ) (contents rest : List Content) (i : ℕ) (files : List (MadeFile M)) → i < length contents → AreMade bytes id_of (drop i contents ++ rest) files → files ≡ [] → ⊥
lacking bytes id_of contents rest i files lt made none =
    let s = splits_at i contents lt in
    subst (λ (fs : List (MadeFile _)). AreMade bytes id_of (s.x ∷ (drop (i + 1) contents ++ rest)) fs) none (subst (λ (cs : List Content). AreMade bytes id_of (cs ++ rest) files) s.back made)

pub views-preserved : goal.views-preserved
views-preserved g c =
    let one : MadeView _ = record { view = c.views.view; file = c.in-Some.file } in
    record {
      made = λ contents rest many made.
          step g.M.Made.bytes g.M.Made.id_of contents rest c.views.view c.views.taken.items c.push.new.self.items one c.views.files.items c.pop_front.new.self.items
          (omega (arith, c.views-test.true, many)) (c.views.invariant.made contents rest many made) c.in-Some.ensures.items c.in_ok-push.ensures.items refl;
      ids = views_next g.M.Made.bytes g.M.Made.id_of (made_ids g.M.Made.id_of c.args.files.now.items) c.views.taken.items c.push.new.self.items one c.views.files.items c.pop_front.new.self.items c.views.invariant.ids c.in-Some.ensures.items c.in_ok-push.ensures.items;
    }

pub returns-clause-views : goal.returns-clause-views
returns-clause-views g c =
    λ contents rest many made.
    let bytes = g.M.Made.bytes in
    let id_of = g.M.Made.id_of in
    let so_far = c.views.invariant.made contents rest many made in
    elim c.views-test.branch [
      | else-views-test w ↦
          let count : length contents ≡ c.views.view = omega (arith, many, w.views-test.false, c.views.auto.view-end) in
          subst (λ files. AreMadeViews bytes id_of 0 contents c.views.taken.items × AreMade bytes id_of rest files.items) (sym w.files-is) (all bytes id_of contents rest c.views.view c.views.taken.items c.views.files.items count so_far)
      | then-views-test+in_default w ↦
          let none : c.views.files.items ≡ [] = nil_from_length c.views.files.items (omega (arith, c.views.files.ok.0, w.in_default.ensures.cases.0)) in
          absurd (lacking bytes id_of contents rest c.views.view c.views.files.items (omega (arith, many, w.views-test.true)) so_far.1 none)
    ]

-- Parts that get their files one after another.
use Rattle.std.proofs.Common.{◌≡◌, ℕ, ◌+◌, List, [], ◌∷◌, ◌++◌, Bool, true, false, length, ap, flat_map, refl, sym, subst, ◌∙◌, arith, append_assoc, append-nil, Option}
use Rattle.std.proofs.lemmas.List.{map-append}
use Rattle.mesa_open_files.specs.Batches.{AreParts, HasFiles, IsPart, Share, batch_ids, files_ids, made_ids, view_ids}
use Rattle.mesa_open_files.specs.Made.{AreMadeViews, Content, IsMadeFile}
use Rattle.mesa_open_files.specs.declared.made.MadeFile.{MadeFile}
use Rattle.mesa_open_files.specs.declared.made.MadeView.{MadeView}
use Rattle.mesa_open_files.specs.declared.prepared.PreparedPart.{PreparedPart}
use Rattle.mesa_load.specs.Plans.{AreMade, ArePlanned, HaveFiles, contents_of}
use Rattle.mesa_load.specs.declared.planning.Planned.{Planned}

-- The first of the shares have their parts, and the rest are planned, with their files.
pub record AreFiled {M : Type 0} (bytes : M → Option (List ℕ)) (id_of : M → ℕ) (over : Bool) (shares : List Share) (parts : List (PreparedPart M)) (left : List Planned) (files : List (MadeFile M)) : Type 0 where
  pub done : List Share
  pub rest : List Share
  pub split : shares ≡ done ++ rest
  pub filed : AreParts bytes id_of over done parts
  pub planned : ArePlanned rest left
  pub there : HaveFiles bytes id_of over (flat_map contents_of rest) files

module _ {M : Type 0} (bytes : M → Option (List ℕ)) (id_of : M → ℕ) where
  pub filed_none : (over : Bool) (shares : List Share) (left : List Planned) (files : List (MadeFile M)) → ArePlanned shares left → HaveFiles bytes id_of over (flat_map contents_of shares) files → AreFiled bytes id_of over shares [] left files
  filed_none over shares left files planned there = record { done = []; rest = shares; split = refl; filed = tt; planned = planned; there = there }

  parts_more : (over : Bool) (done : List Share) (share : Share) (parts : List (PreparedPart M)) (part : PreparedPart M) → AreParts bytes id_of over done parts → IsPart bytes id_of over share part → AreParts bytes id_of over (done ++ share ∷ []) (parts ++ part ∷ [])
  parts_more over [] share [] part all one = (one, tt)
  parts_more over [] share (p ∷ ps) part all one = absurd all
  parts_more over (d ∷ ds) share [] part all one = absurd all
  parts_more over (d ∷ ds) share (p ∷ ps) part all one = (all.0, parts_more over ds share ps part all.1 one)

  -- the next part
  pub filed_next : (over : Bool) (shares : List Share) (parts : List (PreparedPart M)) (p : Planned) (left : List Planned) (files more : List (MadeFile M)) (part : PreparedPart M)
      → AreFiled bytes id_of over shares parts (p ∷ left) files
      → part.table ≡ p.table → part.totals ≡ p.totals
      → ((share : Share) (rest : List Content) → p.views ≡ length share.lineage.views → HaveFiles bytes id_of over (contents_of share ++ rest) files → HasFiles bytes id_of over share part.files × HaveFiles bytes id_of over rest more)
      → AreFiled bytes id_of over shares (parts ++ part ∷ []) left more
  filed_next over shares parts p left files more part h table totals takes = by h.rest h.split h.planned h.there
    where
      by : (rest : List Share) → shares ≡ h.done ++ rest → ArePlanned rest (p ∷ left) → HaveFiles bytes id_of over (flat_map contents_of rest) files → AreFiled bytes id_of over shares (parts ++ part ∷ []) left more
      by [] split planned there = absurd planned
      by (share ∷ rest) split planned there =
          let taken = takes share (flat_map contents_of rest) planned.0.count there in
          record {
            done = h.done ++ share ∷ [];
            rest = rest;
            split = split ∙ sym (append_assoc h.done (share ∷ []) rest);
            filed = parts_more over h.done share parts part h.filed (record { table = table ∙ planned.0.table; totals = totals ∙ planned.0.totals; files = taken.0 });
            planned = planned.1;
            there = taken.1;
          }

  -- no file is left
  pub none_left : (over : Bool) (shares : List Share) (parts : List (PreparedPart M)) (left : List Planned) (files : List (MadeFile M)) → left ≡ [] → AreFiled bytes id_of over shares parts left files → files ≡ []
  none_left over shares parts left files none h = by over h.rest files (subst (ArePlanned h.rest) none h.planned) h.there
    where
      by : (over : Bool) (rest : List Share) (files : List (MadeFile M)) → ArePlanned rest [] → HaveFiles bytes id_of over (flat_map contents_of rest) files → files ≡ []
      by true [] files planned there = there
      by false [] [] planned there = refl
      by false [] (f ∷ fs) planned there = absurd there
      by over (s ∷ ss) files planned there = absurd planned

  -- the ids of the files that stand first, and of those behind them
  pub ids_next : (all : List ℕ) (parts : List (PreparedPart M)) (part : PreparedPart M) (files more : List (MadeFile M)) → batch_ids id_of parts ++ made_ids id_of files ≡ all → files_ids id_of part.files ++ made_ids id_of more ≡ made_ids id_of files
      → batch_ids id_of (parts ++ part ∷ []) ++ made_ids id_of more ≡ all
  ids_next all parts part files more so_far next =
      ap (λ (is : List ℕ). is ++ made_ids id_of more) (batch_more parts part)
      ∙ append_assoc (batch_ids id_of parts) (files_ids id_of part.files) (made_ids id_of more)
      ∙ ap (λ (is : List ℕ). batch_ids id_of parts ++ is) next
      ∙ so_far
    where
      batch_more : (ps : List (PreparedPart M)) (p : PreparedPart M) → batch_ids id_of (ps ++ p ∷ []) ≡ batch_ids id_of ps ++ files_ids id_of p.files
      batch_more [] p = append-nil (files_ids id_of p.files)
      batch_more (q ∷ ps) p = ap (λ (is : List ℕ). files_ids id_of q.files ++ is) (batch_more ps p) ∙ sym (append_assoc (files_ids id_of q.files) (batch_ids id_of ps) (files_ids id_of p.files))

  pub views_next : (all : List ℕ) (views more : List (MadeView M)) (one : MadeView M) (files left : List (MadeFile M)) → view_ids id_of views ++ made_ids id_of files ≡ all → files ≡ one.file ∷ left → more ≡ views ++ one ∷ []
      → view_ids id_of more ++ made_ids id_of left ≡ all
  views_next all views more one files left so_far first added =
      ap (λ (vs : List (MadeView M)). view_ids id_of vs ++ made_ids id_of left) added
      ∙ ap (λ (is : List ℕ). is ++ made_ids id_of left) (map-append (λ (v : MadeView M). id_of v.file.made) views (one ∷ []))
      ∙ append_assoc (view_ids id_of views) (id_of one.file.made ∷ []) (made_ids id_of left)
      ∙ ap (λ (fs : List (MadeFile M)). view_ids id_of views ++ made_ids id_of fs) (sym first)
      ∙ so_far

  -- all of them
  pub filed_all : (over : Bool) (shares : List Share) (parts : List (PreparedPart M)) (left : List Planned) (files : List (MadeFile M)) → left ≡ [] → AreFiled bytes id_of over shares parts left files → AreParts bytes id_of over shares parts
  filed_all over shares parts left files none h = by h.rest h.split (subst (ArePlanned h.rest) none h.planned)
    where
      by : (rest : List Share) → shares ≡ h.done ++ rest → ArePlanned rest [] → AreParts bytes id_of over shares parts
      by [] split planned = subst (λ (ss : List Share). AreParts bytes id_of over ss parts) (sym (split ∙ append-nil h.done)) h.filed
      by (s ∷ ss) split planned = absurd planned

  pub views_more : (n : ℕ) (cs : List Content) (c : Content) (ms : List (MadeView M)) (m : MadeView M) → AreMadeViews bytes id_of n cs ms → m.view ≡ n + length cs → IsMadeFile bytes id_of c m.file → AreMadeViews bytes id_of n (cs ++ c ∷ []) (ms ++ m ∷ [])
  views_more n [] c [] m all number one = (number ∙ omega arith, one, tt)
  views_more n [] c (q ∷ ms) m all number one = absurd all
  views_more n (x ∷ cs) c [] m all number one = absurd all
  views_more n (x ∷ cs) c (q ∷ ms) m all number one = (all.0, all.1, views_more (n + 1) cs c ms m all.2 (number ∙ omega arith) one)

  -- the file that stands first
  pub made_first : (c : Content) (cs : List Content) (file : MadeFile M) (files : List (MadeFile M)) → AreMade bytes id_of (c ∷ cs) (file ∷ files) → IsMadeFile bytes id_of c file × AreMade bytes id_of cs files
  made_first c cs file files all = all

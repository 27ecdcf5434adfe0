-- Jobs whose blocks are read, by files of which none is taken.
use Rattle.std.proofs.Common.{◌≡◌, ℕ, ◌+◌, ◌<◌, ◌≤◌, List, [], ◌∷◌, ◌++◌, length, map, take, get_or, set, refl, sym, ◌∙◌, ap, subst, Option}
use Rattle.std.specs.List.{AllByRecursion}
use Rattle.std.specs.Prelude.{IfSome, Vec}
use Rattle.std.specs.declared.alloc.Global.{Global}
use Rattle.std.proofs.Math.Seq.{map-set_same}
use Rattle.std.proofs.lemmas.List.{get_or_default}
use Rattle.mesa_filter.specs.Filter.{KeyFilter}
use Rattle.mesa_delta.specs.Ahead.{AreAhead, IsOfFile, Told, Untested}
use Rattle.mesa_delta.specs.Reading.{index_of}
use Rattle.mesa_scan.specs.Cursors.{reader_in}
use Rattle.mesa_merge.specs.Inputs.{Known, known_of, knowns_of, tolds_of}
use Rattle.mesa_answer.specs.Gathered.{HasPut, wanted_of}
use Rattle.mesa_answer.specs.Gathering.{Wanted}
use Rattle.mesa_answer.specs.declared.groups.Groups.{Groups}
use Rattle.mesa_open_files.specs.declared.querying.PinnedInput.{PinnedInput}
use Rattle.mesa_group_blocks.specs.declared.jobs.Job.{Job}
use Rattle.mesa_group_blocks.specs.declared.pieces.Piece.{Piece}
use Rattle.mesa_group_blocks.specs.Moved.{AreMoved, inputs_in}
use Rattle.mesa_group_blocks.specs.Jobs.{AreRun, IsJob, pieces_in}
use Rattle.mesa_group_blocks.specs.Pieces.{IsPieceOf, piece_of, rows_of_pieces}
use Rattle.mesa_group_blocks.proofs.Decoded.{known_here}
use Rattle.mesa_group_blocks.proofs.Moved.{all_at, all_set, length_knowns, moved_further, moved_known, moved_none, there_of_file}
use Rattle.mesa_group_blocks.proofs.JobSteps.{job_more}

-- Of files no block was taken, and jobs of them go on.
pub record GoOn {R : Type 0} (bytes : R → Option (List ℕ)) (size : R → ℕ) (f : KeyFilter) (start now : List (PinnedInput R)) (old new : List Job) : Type 0 where
  pub jobs : (w : Wanted) → AreRun (knowns_of bytes (inputs_in start)) w f old → AreRun (knowns_of bytes (inputs_in start)) w f new
  pub pieces : map pieces_in new ≡ map pieces_in old
  pub moved : AreMoved bytes size start now

pub goes_on : {R : Type 0} (bytes : R → Option (List ℕ)) (size : R → ℕ) (f : KeyFilter) (files : List (PinnedInput R)) (jobs : List Job) → GoOn bytes size f files files jobs jobs
goes_on bytes size f files jobs = record { jobs = λ w h. h; pieces = refl; moved = moved_none bytes size files }

-- one job of them goes on
pub one_goes_on : {R : Type 0} (bytes : R → Option (List ℕ)) (size : R → ℕ) (f : KeyFilter) (start now after : List (PinnedInput R)) (old jobs : List Job) (i : ℕ) (d x : Job) → GoOn bytes size f start now old jobs → i < length jobs → d ≡ get_or jobs i d
    → ((w : Wanted) → IsJob (knowns_of bytes (inputs_in now)) w f d → IsJob (knowns_of bytes (inputs_in now)) w f x) → x.pieces ≡ d.pieces → AreMoved bytes size now after → GoOn bytes size f start after old (set jobs i x)
one_goes_on {R = R} bytes size f start now after old jobs i d x h lt is on same moved =
    let known : knowns_of bytes (inputs_in now) ≡ knowns_of bytes (inputs_in start) = moved_known bytes size start now h.moved in
    record {
      jobs = λ w run.
          let was = h.jobs w run in
          let one : IsJob (knowns_of bytes (inputs_in start)) w f d = all_at (IsJob (knowns_of bytes (inputs_in start)) w f) jobs i d was.each lt is in
          record {
            filter = was.filter;
            alike = was.alike;
            each = all_set (IsJob (knowns_of bytes (inputs_in start)) w f) jobs i x was.each
                (subst (λ (ks : List Known). IsJob ks w f x) known (on w (subst (λ (ks : List Known). IsJob ks w f d) (sym known) one)));
          };
      pieces = map-set_same pieces_in jobs i x d ((λ k. (same k).items) ∙ ap pieces_in is) ∙ h.pieces;
      moved = moved_further bytes size start now after h.moved moved;
    }

-- the job at a place does
pub job_goes_on : {R : Type 0} (bytes : R → Option (List ℕ)) (size : R → ℕ) (f : KeyFilter) (start now after : List (PinnedInput R)) (old jobs : List Job) (i : ℕ) (d x : Job) → GoOn bytes size f start now old jobs → i < length jobs
    → ((w : Wanted) → IsJob (knowns_of bytes (inputs_in now)) w f (get_or jobs i d) → IsJob (knowns_of bytes (inputs_in now)) w f x) → x.pieces ≡ (get_or jobs i d).pieces → AreMoved bytes size now after → GoOn bytes size f start after old (set jobs i x)
job_goes_on bytes size f start now after old jobs i d x h lt on same moved =
    let job : Job = get_or jobs i d in
    one_goes_on bytes size f start now after old jobs i job x h lt (get_or_default jobs i d job lt) on same moved

-- a job that goes on goes on further
pub goes_further : {R : Type 0} (bytes : R → Option (List ℕ)) (size : R → ℕ) (f : KeyFilter) (start now : List (PinnedInput R)) (old job new : Job) → AreMoved bytes size start now
    → ((w : Wanted) → IsJob (knowns_of bytes (inputs_in start)) w f old → IsJob (knowns_of bytes (inputs_in start)) w f job)
    → ((w : Wanted) → IsJob (knowns_of bytes (inputs_in now)) w f job → IsJob (knowns_of bytes (inputs_in now)) w f new)
    → (w : Wanted) → IsJob (knowns_of bytes (inputs_in start)) w f old → IsJob (knowns_of bytes (inputs_in start)) w f new
goes_further bytes size f start now old job new moved was on w h =
    let known : knowns_of bytes (inputs_in now) ≡ knowns_of bytes (inputs_in start) = moved_known bytes size start now moved in
    subst (λ (ks : List Known). IsJob ks w f new) known (on w (subst (λ (ks : List Known). IsJob ks w f job) (sym known) (was w h)))

-- they go on further
pub further_on : {R : Type 0} (bytes : R → Option (List ℕ)) (size : R → ℕ) (f : KeyFilter) (start now after : List (PinnedInput R)) (old jobs new : List Job) → GoOn bytes size f start now old jobs → GoOn bytes size f now after jobs new → GoOn bytes size f start after old new
further_on bytes size f start now after old jobs new h k =
    let known : knowns_of bytes (inputs_in now) ≡ knowns_of bytes (inputs_in start) = moved_known bytes size start now h.moved in
    record {
      jobs = λ w run. subst (λ (ks : List Known). AreRun ks w f new) known (k.jobs w (subst (λ (ks : List Known). AreRun ks w f jobs) (sym known) (h.jobs w run)));
      pieces = k.pieces ∙ h.pieces;
      moved = moved_further bytes size start now after h.moved k.moved;
    }

-- a job that can go on
pub job_here : (ks : List Known) (w : Wanted) (f : KeyFilter) (jobs : List Job) (i : ℕ) (d : Job) → AreRun ks w f jobs → i < length jobs → d ≡ get_or jobs i d → IsJob ks w f d
job_here ks w f jobs i d h lt is = all_at (IsJob ks w f) jobs i d h.each lt is

-- ---- a block of a job

-- it is one of its file's
pub block_within : {R : Type 0} (bytes : R → Option (List ℕ)) (files : List (PinnedInput R)) (p : Piece) (file : PinnedInput R) → IsPieceOf (knowns_of bytes (inputs_in files)) p → file ≡ get_or files p.file file → p.block < length (index_of file.input.reader).entries
block_within bytes files p file one is =
    let lt : p.file < length files = subst (λ n. p.file < n) (length_knowns bytes files) one.file in
    subst (λ (k : Known). p.block < length k.file.entries) (known_here bytes files p.file file lt is) (one.block (known_of bytes file.input))

-- and once it is read it waits as one of its file's
pub block_waits : {R : Type 0} (bytes : R → Option (List ℕ)) (files : List (PinnedInput R)) (u : Untested) (file : PinnedInput R) → u.file < length files → file ≡ get_or files u.file file → IsOfFile (bytes (reader_in file.input)) (index_of file.input.reader) u
    → AreAhead (tolds_of (knowns_of bytes (inputs_in files))) (u ∷ [])
block_waits bytes files u file lt is own =
    (subst (λ (o : Option Told). IfSome o (λ (t : Told). IsOfFile t.content t.index u)) (sym (there_of_file bytes files files u.file file refl lt is)) own, tt)

-- The next block of a job.
pub piece_next : (ks : List Known) (w : Wanted) (f : KeyFilter) (j : Job) (p : Piece) → IsJob ks w f j → j.next < length j.pieces.items → p ≡ get_or j.pieces.items j.next p → IsPieceOf ks p
piece_next ks w f j p h lt is = all_at (IsPieceOf ks) j.pieces.items j.next p h.pieces lt is

pub piece_within : {R : Type 0} (bytes : R → Option (List ℕ)) (files : List (PinnedInput R)) (p : Piece) → IsPieceOf (knowns_of bytes (inputs_in files)) p → p.file < length files
piece_within bytes files p one = subst (λ n. p.file < n) (length_knowns bytes files) one.file

-- it was read
pub job_read : {R : Type 0} (bytes : R → Option (List ℕ)) (files : List (PinnedInput R)) (w : Wanted) (f : KeyFilter) (old new : Job) (u : Untested) (p : Piece) (file : PinnedInput R) → IsJob (knowns_of bytes (inputs_in files)) w f old
    → old.next < length old.pieces.items → p ≡ get_or old.pieces.items old.next p → file ≡ get_or files p.file file → piece_of u ≡ p → IsOfFile (bytes (reader_in file.input)) (index_of file.input.reader) u
    → new.pieces ≡ old.pieces → new.next ≡ old.next + 1 → new.groups ≡ old.groups → new.waiting ≡ old.waiting ++ u ∷ [] → IsJob (knowns_of bytes (inputs_in files)) w f new
job_read {R = R} bytes files w f old new u p file h lt is there own of_file pieces next groups waits =
    let ks : List Known = knowns_of bytes (inputs_in files) in
    let same : u.file ≡ p.file = ap (λ (q : Piece). q.file) own in
    let within : p.file < length files = piece_within bytes files p (piece_next ks w f old p h lt is) in
    let here : file ≡ get_or files u.file file = there ∙ ap (λ n. get_or files n file) (sym same) in
    let waiting : AreAhead (tolds_of ks) (u ∷ []) =
    block_waits bytes files u file (subst (λ n. n < length files) (sym same) within) here of_file in
    job_more ks w f old new u p h lt is own waiting pieces next groups waits

-- or not
pub job_same : (ks : List Known) (w : Wanted) (f : KeyFilter) (old new : Job) → new.pieces ≡ old.pieces → new.next ≡ old.next → new.groups ≡ old.groups → new.waiting ≡ old.waiting → IsJob ks w f old → IsJob ks w f new
job_same ks w f old new pieces next groups waits h = record {
  next = subst (λ n. n ≤ length new.pieces.items) (sym next) (subst (λ (ps : Vec Piece Global). old.next ≤ length ps.items) (sym pieces) h.next);
  pieces = subst (λ (ps : Vec Piece Global). AllByRecursion (IsPieceOf ks) ps.items) (sym pieces) h.pieces;
  waiting = subst (AreAhead (tolds_of ks)) (sym waits) h.waiting;
  wanted = ap wanted_of groups ∙ h.wanted;
  given = h.given;
  put = subst (λ (g : Groups). HasPut g h.given) (sym groups) h.put;
  told = λ contents told.
      ap (λ (us : List Untested). h.given ++ rows_of_pieces f ks contents (map piece_of us)) waits
      ∙ h.told contents told
      ∙ (λ i. rows_of_pieces f ks contents (take (sym next i) (sym pieces i).items));
}

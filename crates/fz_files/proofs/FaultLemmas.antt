-- A file has at most one first fault for a job.
use Rattle.std.specs.Prelude.{⊤}
use Rattle.std.proofs.Common.{◌≡◌, ℕ, ◌<◌, ◌≤◌, inl, inr, Bool, true, false, ℤ, pos, unsigned_abs, List, [], ◌∷◌, ◌++◌, length, map, Option, Some, None, Result, Ok, Err, if◌then◌else◌, cond, refl, sym, subst, ◌∙◌, ap}
use Rattle.std.specs.List.{filter, flat_map, range_with_len}
use Rattle.fz_base.specs.Refusal.{first_refusal, refusal}
use Rattle.fz_base.specs.declared.fault.Fault.{Fault}
use Rattle.fz_base.specs.declared.fault.Place.TheVariants.{Row as AtRow}
use Rattle.fz_block.specs.Checks.{Judge, walk_of}
use Rattle.fz_block.specs.Walk.{AreHeadersBetween, RefusesNone, stops}
use Rattle.fz_block.specs.declared.header.Header.{Header}
use Rattle.fz_grid.specs.declared.sieve.Sieve.{Sieve}
use Rattle.fz_table.specs.Records.{record_bytes}
use Rattle.fz_table.specs.declared.record.Record.{Record}
use Rattle.fz_tile.specs.Codecs.{CanRead}
use Rattle.fz_tile.specs.Laws.{StandsUnrefused, IsRefusedOnce}
use Rattle.fz_tile.specs.Pixels.{IsBitpix}
use Rattle.fz_tile.specs.Refusals.{IsFault}
use Rattle.fz_tile.specs.declared.codec.Codec.{Codec}
use Rattle.fz_checks.specs.JobChecks.{cut_hdu_checks, missing_hdu}
use Rattle.fz_checks.specs.Judges.{unpack_judge, cut_judge}
use Rattle.fz_checks.specs.TileKinds.{kind_of_tile}
use Rattle.fz_head.specs.declared.plan.Plan.{Plan}
use Rattle.fz_files.specs.declared.job.Job.{Job}
use Rattle.fz_files.specs.declared.job.Job.TheVariants.{Pack, Unpack, Cut, Verify, List as ListHdus, Drill, Retile}
use Rattle.fz_files.specs.FirstFault.{ImageRow, IsRowFault, IsRowSound, IsFirstRowFault, IsFirstFault, IsFaultBehind, IsFaultThen, IsRowsFault, image_row, rows_of, all_rows, picked_rows, picked_tiles_of, rows_for}
use Rattle.fz_files.specs.Packed.{pixel_bits, tiles_in}
use Rattle.fz_files.specs.Restored.{is_image, pixels_of, place_in, plan_in}
use Rattle.std.proofs.lemmas.Option.{none-some}
use Rattle.fz_files.specs.PlainFault.{plain_fault}
use Rattle.fz_files.specs.Walks.{header_fault, headers_for, found_headers, job_walk, fault_of_walk, cut_end_fault, missing_of, last_of, box_of}
use Rattle.fz_files.proofs.ImageLemmas.{UnpackFindsImage, CutFindsImage, EachIs, IsReadable, ReadableIf, cut_from_passed, cut_from_readable, unpacked_readable}

-- what a walk that answers says of its headers
abbrev pub WalkFindsHeaders : Type 0
WalkFindsHeaders = (judge : Judge) (most : ℕ) (file : List ℕ) (hs : List Header) → walk_of judge most file ≡ Ok hs →
    (0 < length hs) × (length hs ≤ most) × RefusesNone judge hs × ((end : ℕ) × (end ≤ length file) × AreHeadersBetween 0 0 end file hs)

-- ---- a row

-- the size of a pixel is that of the plan
bits_are : (codec : Codec) (bitpix : ℤ) → CanRead codec bitpix → CanRead codec (pos (unsigned_abs bitpix))
bits_are codec bitpix can = by_size can.size
  where
    by_size : IsBitpix bitpix → CanRead codec (pos (unsigned_abs bitpix))
    by_size (inl e) = subst (λ b. CanRead codec (pos (unsigned_abs b))) (sym e) (subst (CanRead codec) e can)
    by_size (inr (inl e)) = subst (λ b. CanRead codec (pos (unsigned_abs b))) (sym e) (subst (CanRead codec) e can)
    by_size (inr (inr (inl e))) = subst (λ b. CanRead codec (pos (unsigned_abs b))) (sym e) (subst (CanRead codec) e can)
    by_size (inr (inr (inr e))) = subst (λ b. CanRead codec (pos (unsigned_abs b))) (sym e) (subst (CanRead codec) e can)

-- tiles of a plan can be read
abbrev pub IsReadablePlan : Plan → Type 0
IsReadablePlan p = CanRead p.codec (pos (pixel_bits p))

pub readable_plan : (file : List ℕ) (h : Header) → IsReadable file h → IsReadablePlan (plan_in file h)
readable_plan file h is = bits_are (plan_in file h).codec (plan_in file h).bitpix is.readable

-- the rows of images that can be read
abbrev pub AreReadable : List ℕ → List ImageRow → Type 0
AreReadable file [] = ⊤
AreReadable file (r ∷ rs) = IsReadablePlan (plan_in file r.header) × AreReadable file rs

pub same_record : (found other : Record) (r : Result Record Fault) → r ≡ Ok found → r ≡ Ok other → found ≡ other
same_record found other r e f = cc

no_record : (found : Record) (fault : Fault) (r : Result Record Fault) → r ≡ Ok found → r ≡ Err fault → ⊥
no_record found fault r e f = absurd cc

-- a row that stands for pixels is not refused
sound_unrefused : StandsUnrefused → (file : List ℕ) (r : ImageRow) (fault : Fault) → IsReadablePlan (plan_in file r.header) → IsRowSound file r → IsRowFault file r fault → ⊥
sound_unrefused none file r fault can (xs, row) (inl refused) = no_record row.found fault _ row.chosen refused
sound_unrefused none file r fault can (xs, row) (inr (why, faulty, is)) =
    let p : Plan = plan_in file r.header in
    let same : faulty.found ≡ row.found = same_record faulty.found row.found _ faulty.chosen row.chosen in
    none p.codec (pixel_bits p) row.found.total (pixels_of p r.row) (place_in row.found.column) (record_bytes file row.found) why can
    (xs, row.count, row.means)
    (subst (λ (f : Record). IsFault p.codec (pixel_bits p) (place_in f.column) f.total (record_bytes file f) (pixels_of p r.row) why) same faulty.fault)

same_fault : (fault other : Fault) (r : Result Record Fault) → r ≡ Err fault → r ≡ Err other → fault ≡ other
same_fault fault other r e f = cc

-- and a row is refused in one way at most
one_row_fault : IsRefusedOnce → (file : List ℕ) (r : ImageRow) (fault other : Fault) → IsReadablePlan (plan_in file r.header) → IsRowFault file r fault → IsRowFault file r other → fault ≡ other
one_row_fault one file r fault other can (inl refused) (inl again) = same_fault fault other _ refused again
one_row_fault one file r fault other can (inl refused) (inr (why, faulty, is)) = absurd (no_record faulty.found fault _ faulty.chosen refused)
one_row_fault one file r fault other can (inr (why, faulty, is)) (inl refused) = absurd (no_record faulty.found other _ faulty.chosen refused)
one_row_fault one file r fault other can (inr (why, faulty, is)) (inr (why', again, is')) =
    let p : Plan = plan_in file r.header in
    let same : again.found ≡ faulty.found = same_record again.found faulty.found _ again.chosen faulty.chosen in
    let same_why : why' ≡ why =
    one p.codec (pixel_bits p) faulty.found.total (pixels_of p r.row) (place_in faulty.found.column) (record_bytes file faulty.found) why why' can faulty.fault
    (subst (λ (f : Record). IsFault p.codec (pixel_bits p) (place_in f.column) f.total (record_bytes file f) (pixels_of p r.row) why') same again.fault) in
    is ∙ (ap (λ w. refusal r.header.hdu (AtRow r.row) (kind_of_tile w)) (sym same_why) ∙ sym is')

-- ---- rows, one after another

one_among : StandsUnrefused → IsRefusedOnce → (file : List ℕ) (rs : List ImageRow) (found other : Option Fault) → AreReadable file rs →
    IsFirstRowFault file rs found → IsFirstRowFault file rs other → found ≡ other
one_among none one file [] None None can a b = refl
one_among none one file [] None (Some y) can a b = absurd b
one_among none one file [] (Some x) other can a b = absurd a
one_among none one file (r ∷ rs) None None can a b = refl
one_among none one file (r ∷ rs) None (Some y) can a (inl refused) = absurd (sound_unrefused none file r y can.0 a.0 refused)
one_among none one file (r ∷ rs) None (Some y) can a (inr b) = one_among none one file rs None (Some y) can.1 a.1 b.1
one_among none one file (r ∷ rs) (Some x) None can (inl refused) b = absurd (sound_unrefused none file r x can.0 b.0 refused)
one_among none one file (r ∷ rs) (Some x) None can (inr a) b = one_among none one file rs (Some x) None can.1 a.1 b.1
one_among none one file (r ∷ rs) (Some x) (Some y) can (inl refused) (inl again) = ap Some (one_row_fault one file r x y can.0 refused again)
one_among none one file (r ∷ rs) (Some x) (Some y) can (inl refused) (inr b) = absurd (sound_unrefused none file r x can.0 b.0 refused)
one_among none one file (r ∷ rs) (Some x) (Some y) can (inr a) (inl refused) = absurd (sound_unrefused none file r y can.0 a.0 refused)
one_among none one file (r ∷ rs) (Some x) (Some y) can (inr a) (inr b) = one_among none one file rs (Some x) (Some y) can.1 a.1 b.1

-- ---- the rows of a job can be read

readable_append : (file : List ℕ) (rs more : List ImageRow) → AreReadable file rs → AreReadable file more → AreReadable file (rs ++ more)
readable_append file [] more a b = b
readable_append file (r ∷ rs) more a b = (a.0, readable_append file rs more a.1 b)

readable_map : (file : List ℕ) (h : Header) (ts : List ℕ) → IsReadablePlan (plan_in file h) → AreReadable file (map (image_row h) ts)
readable_map file h [] can = tt
readable_map file h (t ∷ ts) can = (can, readable_map file h ts can)

all_readable : (file : List ℕ) (hs : List Header) → EachIs (ReadableIf file) hs → AreReadable file (all_rows file hs)
all_readable file [] are = tt
all_readable file (h ∷ hs) are = by_packed (all_readable file hs are.1) (is_image file h) are.0
  where
    by_packed :
        AreReadable file (all_rows file hs)
        → (packed : Bool)
        → (packed ≡ true → IsReadable file h)
        → AreReadable file (flat_map (rows_of file) (cond packed (h ∷ filter (is_image file) hs) (filter (is_image file) hs)))
    by_packed later true is =
        readable_append file (rows_of file h) (all_rows file hs) (readable_map file h (range_with_len 0 (tiles_in (plan_in file h))) (readable_plan file h (is refl))) later
    by_packed later false is = later

picked_readable : (file : List ℕ) (sieve : Sieve) (hs : List Header) → EachIs (IsReadable file) hs → AreReadable file (flat_map (picked_rows file sieve) hs)
picked_readable file sieve [] are = tt
picked_readable file sieve (h ∷ hs) are =
    readable_append file (picked_rows file sieve h) (flat_map (picked_rows file sieve) hs)
    (readable_map file h (picked_tiles_of (plan_in file h) sieve) (readable_plan file h are.0)) (picked_readable file sieve hs are.1)

-- a cut that finds its HDU stops at it
stops_if : (wanted : Option ℕ) (judge : Judge) (file : List ℕ) (hs : List Header) → missing_of wanted judge file hs ≡ None → stops judge hs ≡ true
stops_if wanted judge file hs e = by_stop (stops judge hs) e
  where
    by_stop : (stop : Bool) → (if stop then None else Some (missing_hdu wanted (length hs) (length file))) ≡ None → stop ≡ true
    by_stop true e = refl
    by_stop false e = absurd cc

-- where the headers have no fault, the walk found some
pub found_walk : (job : Job) (file : List ℕ) (found : Result (List Header) Fault) → fault_of_walk job file found ≡ None →
    (hs : List Header) × (found ≡ Ok hs) × (cut_end_fault job file hs ≡ None)
found_walk job file (Ok hs) none = (hs, refl, none)
found_walk job file (Err fault) none = absurd cc

unpacked_rows : WalkFindsHeaders → UnpackFindsImage → (file : List ℕ) (hs : List Header) → walk_of (unpack_judge file) 65536 file ≡ Ok hs → AreReadable file (all_rows file hs)
unpacked_rows finds law file hs walk =
    let found = finds (unpack_judge file) 65536 file hs walk in
    all_readable file hs (unpacked_readable law 0 0 found.3.0 file hs found.3.2 found.2)

cut_rows : WalkFindsHeaders → CutFindsImage → (wanted : Option ℕ) (sieve : Sieve) (file : List ℕ) (hs : List Header) → walk_of (cut_judge wanted (box_of sieve) file) 65536 file ≡ Ok hs →
    stops (cut_judge wanted (box_of sieve) file) hs ≡ true → AreReadable file (flat_map (picked_rows file sieve) (last_of hs))
cut_rows finds law wanted sieve file hs walk stop =
    let found = finds (cut_judge wanted (box_of sieve) file) 65536 file hs walk in
    picked_readable file sieve (last_of hs) (cut_from_readable law wanted sieve 65536 0 0 found.3.0 file hs found.3.2 walk stop)

pub cut_header : WalkFindsHeaders → CutFindsImage → (wanted : Option ℕ) (sieve : Sieve) (file : List ℕ) → header_fault (Cut wanted sieve) file ≡ None →
    EachIs (IsReadable file) (last_of (headers_for (Cut wanted sieve) file))
unfolding job_walk
cut_header finds law wanted sieve file none =
    let found = found_walk (Cut wanted sieve) file (walk_of (cut_judge wanted (box_of sieve) file) 65536 file) none in
    let walk = finds (cut_judge wanted (box_of sieve) file) 65536 file found.0 found.1 in
    subst (λ r. EachIs (IsReadable file) (last_of (found_headers r))) (sym found.1)
    (cut_from_readable law wanted sieve 65536 0 0 walk.3.0 file found.0 walk.3.2 found.1 (stops_if wanted (cut_judge wanted (box_of sieve) file) file found.0 found.2))

-- no check of `cut` refuses the HDU that is cut from
pub cut_passed : (wanted : Option ℕ) (sieve : Sieve) (file : List ℕ) → header_fault (Cut wanted sieve) file ≡ None →
    EachIs (λ h. first_refusal (cut_hdu_checks file (box_of sieve) h) ≡ None) (last_of (headers_for (Cut wanted sieve) file))
unfolding job_walk
cut_passed wanted sieve file none =
    let found = found_walk (Cut wanted sieve) file (walk_of (cut_judge wanted (box_of sieve) file) 65536 file) none in
    subst (λ r. EachIs (λ h. first_refusal (cut_hdu_checks file (box_of sieve) h) ≡ None) (last_of (found_headers r))) (sym found.1)
    (cut_from_passed wanted sieve 65536 0 0 file found.0 found.1 (stops_if wanted (cut_judge wanted (box_of sieve) file) file found.0 found.2))

rows_readable : WalkFindsHeaders → UnpackFindsImage → CutFindsImage → (job : Job) (file : List ℕ) → header_fault job file ≡ None → AreReadable file (rows_for job file (headers_for job file))
unfolding job_walk
rows_readable finds law law' (Pack o) file none = tt
rows_readable finds law law' Unpack file none =
    let found = found_walk Unpack file (walk_of (unpack_judge file) 65536 file) none in
    subst (λ r. AreReadable file (all_rows file (found_headers r))) (sym found.1) (unpacked_rows finds law file found.0 found.1)
rows_readable finds law law' (Cut wanted sieve) file none =
    let found = found_walk (Cut wanted sieve) file (walk_of (cut_judge wanted (box_of sieve) file) 65536 file) none in
    subst (λ r. AreReadable file (flat_map (picked_rows file sieve) (last_of (found_headers r)))) (sym found.1)
    (cut_rows finds law' wanted sieve file found.0 found.1 (stops_if wanted (cut_judge wanted (box_of sieve) file) file found.0 found.2))
rows_readable finds law law' Verify file none =
    let found = found_walk Verify file (walk_of (unpack_judge file) 65536 file) none in
    subst (λ r. AreReadable file (all_rows file (found_headers r))) (sym found.1) (unpacked_rows finds law file found.0 found.1)
rows_readable finds law law' ListHdus file none = tt
rows_readable finds law law' (Drill rows) file none = tt
rows_readable finds law law' (Retile o) file none =
    let found = found_walk (Retile o) file (walk_of (unpack_judge file) 65536 file) none in
    subst (λ r. AreReadable file (all_rows file (found_headers r))) (sym found.1) (unpacked_rows finds law file found.0 found.1)

-- ---- the file

-- of the rows, or else of what is looked for after them
one_then : StandsUnrefused → IsRefusedOnce → (file : List ℕ) (rows : List ImageRow) (later found other : Option Fault) → AreReadable file rows → IsFaultThen file rows later found → IsFaultThen file rows later other → found ≡ other
one_then none one file rows later None None can a b = refl
one_then none one file rows later None (Some y) can a (inl b) = one_among none one file rows None (Some y) can a.0 b
one_then none one file rows later None (Some y) can a (inr b) = sym a.1 ∙ b.1
one_then none one file rows later (Some x) None can (inl a) b = one_among none one file rows (Some x) None can a b.0
one_then none one file rows later (Some x) None can (inr a) b = sym a.1 ∙ b.1
one_then none one file rows later (Some x) (Some y) can (inl a) (inl b) = one_among none one file rows (Some x) (Some y) can a b
one_then none one file rows later (Some x) (Some y) can (inl a) (inr b) = absurd (none-some x (sym (one_among none one file rows (Some x) None can a b.0)))
one_then none one file rows later (Some x) (Some y) can (inr a) (inl b) = absurd (none-some y (sym (one_among none one file rows (Some y) None can b a.0)))
one_then none one file rows later (Some x) (Some y) can (inr a) (inr b) = sym a.1 ∙ b.1

one_of_rows : StandsUnrefused → IsRefusedOnce → (job : Job) (file : List ℕ) (found other : Option Fault) → AreReadable file (rows_for job file (headers_for job file)) →
    IsRowsFault job file found → IsRowsFault job file other → found ≡ other
one_of_rows none one (Pack o) file found other can a b = one_among none one file (rows_for (Pack o) file (headers_for (Pack o) file)) found other can a b
one_of_rows none one Unpack file found other can a b = one_among none one file (rows_for Unpack file (headers_for Unpack file)) found other can a b
one_of_rows none one (Cut wanted sieve) file found other can a b =
    one_among none one file (rows_for (Cut wanted sieve) file (headers_for (Cut wanted sieve) file)) found other can a b
one_of_rows none one Verify file found other can a b = one_among none one file (rows_for Verify file (headers_for Verify file)) found other can a b
one_of_rows none one ListHdus file found other can a b = one_among none one file (rows_for ListHdus file (headers_for ListHdus file)) found other can a b
one_of_rows none one (Drill rows) file found other can a b = one_among none one file (rows_for (Drill rows) file (headers_for (Drill rows) file)) found other can a b
one_of_rows none one (Retile o) file found other can a b = one_then none one file (rows_for (Retile o) file (headers_for (Retile o) file)) (plain_fault o file) found other can a b

one_behind : StandsUnrefused → IsRefusedOnce → (refused : Option Fault) (job : Job) (file : List ℕ) (found other : Option Fault) →
    (refused ≡ None → AreReadable file (rows_for job file (headers_for job file))) → IsFaultBehind refused job file found → IsFaultBehind refused job file other → found ≡ other
one_behind none one (Some fault) job file found other can a b = a ∙ sym b
one_behind none one None job file found other can a b = one_of_rows none one job file found other (can refl) a b

pub one_first_fault : StandsUnrefused → IsRefusedOnce → WalkFindsHeaders → UnpackFindsImage → CutFindsImage → (job : Job) (file : List ℕ) (found other : Option Fault) →
    IsFirstFault job file found → IsFirstFault job file other → found ≡ other
one_first_fault none one finds law law' job file found other a b = one_behind none one (header_fault job file) job file found other (rows_readable finds law law' job file) a b

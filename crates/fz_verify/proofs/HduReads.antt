-- What is read of the HDUs of a file: headers, rows and data (FITS 4.0, sections 3.1, 7.3.5 and 10.1).
use Rattle.std.proofs.Common.{◌≡◌, ℕ, ◌+◌, ◌<◌, ◌≤◌, Bool, List, [], ◌∷◌, ◌++◌, length, inl, inr, refl, sym, ap, ◌∙◌, subst, arith}
use Rattle.std.specs.Prelude.{Option, Some, None, IfSome, Ok}
use Rattle.fz_base.specs.Ranges.{LiesIn, LogsIn, LogsJoinLaw}
use Rattle.fz_base.specs.Source.{LogsWithin}
use Rattle.fz_block.specs.Checks.{header_touched}
use Rattle.fz_block.specs.Header.{data_start_of, next_start_of}
use Rattle.fz_block.specs.declared.header.Header.{Header}
use Rattle.fz_checks.specs.declared.job_checks.PackedImage.{PackedImage}
use Rattle.fz_files.specs.Reads.{header_ranges}
use Rattle.fz_files.specs.Walks.{header_fault}
use Rattle.fz_files.specs.declared.job.Job.TheVariants.{Verify}
use Rattle.fz_job.specs.Images.{fetched_ranges, AreTilesOf, IsSaid}
use Rattle.fz_job.specs.declared.survey.Survey.{Survey}
use Rattle.fz_job.specs.Again.{IsAgain, ReadsAsSeen, WasSeen}
use Rattle.fz_job.specs.Hdus.{DataAreOfHdus, HeaderIsOfHdus, KnownAreTouched, ReadsHdus, TilesAreOfImage, VerifiesWithin, ranges_of_hdus}
use Rattle.fz_job.specs.Known.{IsKnown, SurveysKnow}
use Rattle.fz_files.specs.Touched.{all_data_touched, data_touched, image_ranges, touched_by}
use Rattle.fz_job.specs.declared.again.ReadHdu.{ReadHdu}
use Rattle.fz_verify.specs.Printed.{IsChecking}
use Rattle.fz_verify.proofs.Finished.{Knows}
use Rattle.fz_verify.proofs.HeaderReads.{nothing}
use Rattle.fz_verify.proofs.Parts.{next, read_same, was_seen}
use Rattle.fz_verify.proofs.Said.{image_said}

-- what is read one after another, where the source tells its bytes
pub join_told : LogsJoinLaw → (held : Option (List ℕ)) (ranges : List ℕ → List (ℕ × ℕ)) (old mid new : Option (List (ℕ × ℕ))) → IfSome held (λ g. LogsIn (ranges g) old mid) → IfSome held (λ g. LogsIn (ranges g) mid new) →
    IfSome held (λ g. LogsIn (ranges g) old new)
join_told join None ranges old mid new first later = tt
join_told join (Some g) ranges old mid new first later = join (ranges g) old mid new first later

-- ---- one HDU

pub rows_read : VerifiesWithin → (held : Option (List ℕ)) (n : ℕ) (buf : List ℕ) (a : ReadHdu) → IsAgain held n buf a → (i : PackedImage) → a.image ≡ Some i → (old new : Option (List (ℕ × ℕ))) →
    IfSome held (λ g. LogsIn (image_ranges g a.header) old new) → IfSome held (λ g. LogsIn (data_touched Verify g a.header) old new)
rows_read law None n buf a w i is old new reads = tt
rows_read law (Some g) n buf a w i is old new reads = law.rows g a.header old new (image_said (Some g) n buf a w i g refl is).0 reads

pub sums_read : VerifiesWithin → (held : Option (List ℕ)) (h : Header) (old new : Option (List (ℕ × ℕ))) → LogsWithin (data_start_of h) (next_start_of h) old new → IfSome held (λ g. LogsIn (data_touched Verify g h) old new)
sums_read law None h old new reads = tt
sums_read law (Some g) h old new reads = law.rest g h old new reads

-- ---- one HDU after another

module _ (s : Survey) (old : Option (List (ℕ × ℕ))) where
  -- nothing is read before the first
  pub no_hdu : (held : Option (List ℕ)) → IfSome held (λ g. ReadsHdus Verify g s old old)
  no_hdu None = tt
  no_hdu (Some g) = λ hs list. nothing (ranges_of_hdus Verify g hs) old

  module _ (join : LogsJoinLaw) (k start : ℕ) (flag right : Bool) (before now : Option (List ℕ)) (few : k < s.hdus) (mid new : Option (List (ℕ × ℕ))) where
    -- the header of the next one
    pub one_header : HeaderIsOfHdus Verify → (held : Option (List ℕ)) → IfSome held (IsChecking s k start flag right before now) → IfSome held (λ g. LogsWithin start (header_touched k start g) mid new) →
        IfSome held (λ g. ReadsHdus Verify g s old mid) → IfSome held (λ g. ReadsHdus Verify g s old new)
    one_header law None was one reads = tt
    one_header law (Some g) was one reads = λ hs list.
        let w = was hs list in
        let little : k < length hs = omega (arith, few, list.count) in
        let more = next g s hs w.done k start flag w.part little in
        let seen : WasSeen g k start s.header_len s.tile more.0 = was_seen g s hs w.done k start flag w.part little in
        let parts : hs ≡ w.done ++ more.0 ∷ more.1.0 = w.part.parts ∙ ap (λ l. w.done ++ l) more.1.1 in
        let there : LogsWithin more.0.start (header_touched more.0.hdu more.0.start g) mid new =
        subst (λ n. LogsWithin more.0.start (header_touched n more.0.start g) mid new) (sym seen.number) (subst (λ n. LogsWithin n (header_touched k n g) mid new) (sym seen.place) one) in
        let here : LogsIn (ranges_of_hdus Verify g hs) mid new = subst (λ (l : List Header). LogsIn (ranges_of_hdus Verify g l) mid new) (sym parts) (law g w.done more.1.0 more.0 mid new there) in
        join (ranges_of_hdus Verify g hs) old mid new (reads hs list) here

    -- its rows and its data
    pub one_hdu : DataAreOfHdus Verify → (held : Option (List ℕ)) (a : ReadHdu) → IfSome held (IsChecking s k start flag right before now) → IfSome held (λ g. ReadsAsSeen g k start flag s.header_len s.tile (Ok a)) →
        IfSome held (λ g. LogsIn (data_touched Verify g a.header) mid new) → IfSome held (λ g. ReadsHdus Verify g s old mid) → IfSome held (λ g. ReadsHdus Verify g s old new)
    one_hdu law None a was again one reads = tt
    one_hdu law (Some g) a was again one reads = λ hs list.
        let w = was hs list in
        let little : k < length hs = omega (arith, few, list.count) in
        let more = next g s hs w.done k start flag w.part little in
        let same : a.header ≡ more.0 = read_same g s hs w.done k start flag w.part little a again in
        let parts : hs ≡ w.done ++ more.0 ∷ more.1.0 = w.part.parts ∙ ap (λ l. w.done ++ l) more.1.1 in
        let there : LogsIn (data_touched Verify g more.0) mid new = subst (λ (h : Header). LogsIn (data_touched Verify g h) mid new) same one in
        let here : LogsIn (ranges_of_hdus Verify g hs) mid new = subst (λ (l : List Header). LogsIn (ranges_of_hdus Verify g l) mid new) (sym parts) (law g w.done more.1.0 more.0 mid new there) in
        join (ranges_of_hdus Verify g hs) old mid new (reads hs list) here

-- ---- the first look, and what follows it

lies_before : (front back : List (ℕ × ℕ)) (byte : ℕ) → LiesIn front byte → LiesIn (front ++ back) byte
lies_before [] back byte is = absurd is
lies_before ((start, count) ∷ front) back byte (inl is) = inl is
lies_before ((start, count) ∷ front) back byte (inr is) = inr (lies_before front back byte is)

module _ (held : Option (List ℕ)) (old mid new : Option (List (ℕ × ℕ))) where
  -- only headers were read
  pub headers_read : IfSome held (λ g. LogsIn (header_ranges Verify g) old mid) → IfSome held (λ g. LogsIn (touched_by Verify g) old mid)
  headers_read reads = by_held held reads
    where
      by_held : (told : Option (List ℕ)) → IfSome told (λ g. LogsIn (header_ranges Verify g) old mid) → IfSome told (λ g. LogsIn (touched_by Verify g) old mid)
      by_held None reads = tt
      by_held (Some g) reads =
          (reads.0, (λ k d few byte from to. lies_before (header_ranges Verify g) (all_data_touched (header_fault Verify g) Verify g) byte (reads.1 k d few byte from to)), reads.2)

  pub all_read : LogsJoinLaw → SurveysKnow Verify → KnownAreTouched Verify → (s : Survey) → IfSome held (Knows s) → IfSome held (λ g. LogsIn (touched_by Verify g) old mid) → IfSome held (λ g. ReadsHdus Verify g s mid new) →
      IfSome held (λ g. LogsIn (touched_by Verify g) old new)
  all_read join know are s knows first next = by_held held knows first next
    where
      by_held : (told : Option (List ℕ)) → IfSome told (Knows s) → IfSome told (λ g. LogsIn (touched_by Verify g) old mid) → IfSome told (λ g. ReadsHdus Verify g s mid new) → IfSome told (λ g. LogsIn (touched_by Verify g) old new)
      by_held None knows first next = tt
      by_held (Some g) knows first next =
          let known : IsKnown Verify g s = know g s knows in
          let rest : LogsIn (touched_by Verify g) mid new = subst (λ rs. LogsIn rs mid new) (sym (are g s known)) (next known.headers known.seen) in
          join (touched_by Verify g) old mid new first rest

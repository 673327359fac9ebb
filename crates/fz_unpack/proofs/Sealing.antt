-- The restored file begins with the S of SIMPLE, so it is whole once byte 0 is written (FITS 4.0, section 4.4.1.1).
use Rattle.std.proofs.Common.{◌≡◌, ℕ, ◌<◌, ◌⊎◌, inl, inr, ◌&&◌, Bool, true, false, List, [], ◌∷◌, ◌++◌, length, take, drop, codes, Option, Some, None, IfSome, Result, Ok, Err, refl, sym, ap, subst, ◌∙◌, if◌then◌else◌, arith}
use Rattle.std.specs.Prelude.{OnOk, OnErr, IfErr, IsErrOf, bytes_eq, unwrap_or}
use Rattle.std.proofs.lemmas.Slice.Eq.{bytes_eq-Decides}
use Rattle.fz_base.specs.Counts.{Tally}
use Rattle.fz_base.specs.FirstByte.{IsShut, StopsShut, with_first_byte}
use Rattle.fz_base.specs.Sink.{emptied, written}
use Rattle.fz_base.specs.Stop.{IfRefused, StoppedByWrite}
use Rattle.fz_base.specs.declared.fault.Fault.{Fault}
use Rattle.fz_base.specs.declared.failure.Stop.{Stop}
use Rattle.fz_base.specs.declared.failure.Stop.TheVariants.{Refused, ReadFault, WriteFault, OverLimit, NoMemory}
use Rattle.fz_card.specs.Layout.{padded}
use Rattle.fz_card.specs.Reading.{logical_of}
use Rattle.fz_block.specs.Cards.{card_at}
use Rattle.fz_block.specs.Checks.{is_set}
use Rattle.fz_block.specs.Hdus.{cards_of, header_bytes}
use Rattle.fz_block.specs.Header.{next_start_of}
use Rattle.fz_block.specs.Walk.{hdu_of}
use Rattle.fz_block.specs.declared.header.Header.{Header}
use Rattle.fz_tile.specs.Plain.{plain_bytes}
use Rattle.fz_checks.specs.JobChecks.{is_after_empty}
use Rattle.fz_head.specs.PlainHeader.{plain_header, was_primary}
use Rattle.fz_files.specs.FirstFault.{IsFirstRowFault, all_rows}
use Rattle.fz_files.specs.Packed.{pixel_bits, zero_filled}
use Rattle.fz_files.specs.Restored.{HdusStandFor, StandsForAs, header_in, is_image, is_packed_primary, plan_in, standing}
use Rattle.fz_job.specs.declared.survey.Survey.{Survey}
use Rattle.fz_job.specs.Again.{WasSeen, WereSeen}
use Rattle.fz_job.specs.Behind.{written_behind}
use Rattle.fz_unpack.specs.Behind.{HoldsHdus, RestoresSeen}
use Rattle.fz_unpack.specs.Laws.{PrimariesBegin}
use Rattle.fz_job.specs.Known.{IsList}
use Rattle.fz_unpack.specs.Written.{AreRestored, AreShutOrWhole, FinishesSeen}
use Rattle.fz_unpack.proofs.Rows.{primary_plain}

-- ---- the first byte

abbrev pub BeginsWithS : List ℕ → Type 0
BeginsWithS l = l ≡ 83 ∷ drop 1 l

first_of_both : (a b : Bool) → (a && b) ≡ true → a ≡ true
first_of_both true b is = refl
first_of_both false b is = absurd cc

-- a header that begins with SIMPLE = T
simple_begins : (l : List ℕ) → is_set (codes "SIMPLE") (card_at l 0) ≡ true → BeginsWithS l
simple_begins [] is =
    let name : bytes_eq [] (padded (codes "SIMPLE")) ≡ true = first_of_both (bytes_eq [] (padded (codes "SIMPLE"))) (unwrap_or (logical_of []) false) is in
    let none : ◌≡◌ {A = List ℕ} [] (83 ∷ 73 ∷ 77 ∷ 80 ∷ 76 ∷ 69 ∷ 32 ∷ 32 ∷ []) = (bytes_eq-Decides [] (padded (codes "SIMPLE"))).0 name in
    absurd cc
simple_begins (x ∷ l) is =
    let name : bytes_eq (x ∷ take 7 (take 79 l)) (padded (codes "SIMPLE")) ≡ true =
    first_of_both (bytes_eq (x ∷ take 7 (take 79 l)) (padded (codes "SIMPLE"))) (unwrap_or (logical_of (x ∷ take 79 l)) false) is in
    let same : x ∷ take 7 (take 79 l) ≡ 83 ∷ 73 ∷ 77 ∷ 80 ∷ 76 ∷ 69 ∷ 32 ∷ 32 ∷ [] = (bytes_eq-Decides (x ∷ take 7 (take 79 l)) (padded (codes "SIMPLE"))).0 name in
    let first : x ≡ 83 = cc in
    ap (λ b. b ∷ l) first

begins_before : (front back : List ℕ) → BeginsWithS front → BeginsWithS (front ++ back)
begins_before [] back is = absurd cc
begins_before (x ∷ front) back is =
    let first : x ≡ 83 = cc in
    ap (λ b. b ∷ (front ++ back)) first

-- an HDU that is copied
own_begins : (file : List ℕ) (b : Bool) (h : Header) (bytes : List ℕ) → b ≡ false → is_set (codes "SIMPLE") (card_at (header_in file h) 0) ≡ true → StandsForAs b file h bytes → BeginsWithS bytes
own_begins file true h bytes none is stands = absurd cc
own_begins file false h bytes none is stands =
    subst BeginsWithS (sym stands) (begins_before (hdu_of file h).header (hdu_of file h).payload (simple_begins (header_in file h) is))

-- the image of a packed primary
image_begins : PrimariesBegin → (file : List ℕ) (header_len tile start : ℕ) (k : Header) (b : Bool) (bytes : List ℕ) → WasSeen file 1 start header_len tile k → is_image file k ≡ b → (b && was_primary (cards_of (header_in file k))) ≡ true →
    StandsForAs b file k bytes → BeginsWithS bytes
image_begins law file header_len tile start k false bytes seen is both stands = absurd cc
image_begins law file header_len tile start k true bytes seen is both stands =
    let header : List ℕ = header_in file k in
    let found = law k header (is_after_empty file k) (record { image = seen.image; passed = seen.said; packed = is; primary = both }) in
    let first : BeginsWithS (header_bytes (plain_header (cards_of header))) = found.1 ∙ ap (λ l. 83 ∷ drop 1 l) (sym found.1) in
    subst BeginsWithS (sym stands.image) (begins_before (header_bytes (plain_header (cards_of header))) (zero_filled (plain_bytes (pixel_bits (plan_in file k)) stands.array.numbers)) first)

begins_by : PrimariesBegin → (file : List ℕ) (header_len tile : ℕ) (b : Bool) (h k : Header) (hs : List Header) (bytes : List ℕ) → is_packed_primary file k ≡ b → WereSeen file header_len tile 0 0 (h ∷ k ∷ hs) →
    HdusStandFor file (if b then k ∷ hs else h ∷ k ∷ hs) bytes → BeginsWithS bytes
begins_by law file header_len tile true h k hs bytes is seen stand =
    subst BeginsWithS (sym stand.2) (begins_before stand.0 stand.1 (image_begins law file header_len tile (next_start_of h) k (is_image file k) stand.0 seen.1.0 refl is stand.3))
begins_by law file header_len tile false h k hs bytes is seen stand =
    subst BeginsWithS (sym stand.2) (begins_before stand.0 stand.1 (own_begins file (is_image file h) h stand.0 (primary_plain file 0 header_len tile h seen.0) (seen.0.simple refl) stand.3))

-- the whole of what HDUs stand for
file_begins : PrimariesBegin → (file : List ℕ) (header_len tile : ℕ) (hs : List Header) (bytes : List ℕ) → 0 < length hs → WereSeen file header_len tile 0 0 hs → HdusStandFor file (standing file hs) bytes → BeginsWithS bytes
file_begins law file header_len tile [] bytes some seen stand = absurd (omega (arith, some))
file_begins law file header_len tile (h ∷ []) bytes some seen stand =
    subst BeginsWithS (sym stand.2) (begins_before stand.0 stand.1 (own_begins file (is_image file h) h stand.0 (primary_plain file 0 header_len tile h seen.0) (seen.0.simple refl) stand.3))
file_begins law file header_len tile (h ∷ k ∷ hs) bytes some seen stand = begins_by law file header_len tile (is_packed_primary file k) h k hs bytes refl seen stand

-- ---- what is left after a seal

abbrev pub SealedLaw : Type 0
SealedLaw = (bytes : List ℕ) → with_first_byte (written 1 bytes (Some [])) ≡ Some (83 ∷ bytes)

sealed_whole : SealedLaw → (whole : List ℕ) → BeginsWithS whole → (old made mid now : Option (List ℕ)) → made ≡ emptied old → mid ≡ written_behind 0 whole made → now ≡ with_first_byte mid →
    IfSome now (λ bytes. bytes ≡ whole)
sealed_whole law whole begins None made mid now empty behind last =
    let none : now ≡ None = last ∙ ap with_first_byte (behind ∙ ap (written_behind 0 whole) empty) in
    subst (λ (c : Option (List ℕ)). IfSome c (λ bytes. bytes ≡ whole)) (sym none) tt
sealed_whole law whole begins (Some c) made mid now empty behind last =
    let is : now ≡ Some whole = last ∙ ap with_first_byte (behind ∙ ap (written_behind 0 whole) empty) ∙ law (drop 1 whole) ∙ ap Some (sym begins) in
    subst (λ (c : Option (List ℕ)). IfSome c (λ bytes. bytes ≡ whole)) (sym is) refl

module _ (primary : PrimariesBegin) (s : Survey) (old made mid now : Option (List ℕ)) where
  restored_now : SealedLaw → 0 < s.hdus → (g : List ℕ) → ((hs : List Header) → IsList g s hs → HoldsHdus g hs made mid) →
      made ≡ emptied old → now ≡ with_first_byte mid → (hs : List Header) → IsList g s hs → AreRestored g hs now
  restored_now law some g behind empty last hs is =
      let more : 0 < length hs = omega (arith, some, is.count) in
      let holds : HoldsHdus g hs made mid = behind hs is in
      record {
        bytes = holds.bytes;
        stand = holds.stand;
        told = sealed_whole law holds.bytes (file_begins primary g s.header_len s.tile hs holds.bytes more is.seen holds.stand) old made mid now empty holds.contents last;
      }

  never_refused : (X : Type 0) (before after : Tally) (stop : Stop) → StoppedByWrite before after stop → (P : Fault → Type 0) → IfRefused {X = X} (Err stop) P
  never_refused X before after (Refused x) why P = absurd why
  never_refused X before after ReadFault why P = tt
  never_refused X before after WriteFault why P = tt
  never_refused X before after (OverLimit live asked limit) why P = tt
  never_refused X before after NoMemory why P = tt

  pub sealed_finishes : {X Y : Type 0} (y : Y) (result : Result X Stop) (before after : Tally) (held : Option (List ℕ)) → SealedLaw → 0 < s.hdus → made ≡ emptied old →
      IfSome held (λ g. RestoresSeen {X = Y} g s made mid (Ok y)) → OnOk result (now ≡ with_first_byte mid) → IfErr result (StoppedByWrite before after) →
      IfSome held (λ g. FinishesSeen g s now result)
  sealed_finishes {X = X} y result before after None law some empty rewrites last why = tt
  sealed_finishes {X = X} y (Ok x) before after (Some g) law some empty rewrites last why = record {
    restored = λ hs is. restored_now law some g rewrites.restored empty last hs is;
    first_fault = λ hs is. tt;
  }
  sealed_finishes {X = X} y (Err stop) before after (Some g) law some empty rewrites last why = record {
    restored = λ hs is. tt;
    first_fault = λ hs is. never_refused X before after stop why (λ x. IsFirstRowFault g (all_rows g hs) (Some x));
  }

  -- ---- shut, or sealed

  by_write : (X : Type 0) (before after : Tally) (stop : Stop) → StoppedByWrite before after stop → IsErrOf {T = X} (Err stop) WriteFault ⊎ IsErrOf {T = X} (Err stop) NoMemory
  by_write X before after (Refused x) why = absurd why
  by_write X before after ReadFault why = absurd why
  by_write X before after WriteFault why = inl refl
  by_write X before after (OverLimit live asked limit) why = absurd why
  by_write X before after NoMemory why = inr refl

  whole_now : {Y : Type 0} (y : Y) (held : Option (List ℕ)) → SealedLaw → 0 < s.hdus → made ≡ emptied old → IfSome held (λ g. RestoresSeen {X = Y} g s made mid (Ok y)) →
      now ≡ with_first_byte mid → IfSome held (λ g. (hs : List Header) → IsList g s hs → AreRestored g hs now)
  whole_now y None law some empty rewrites last = tt
  whole_now y (Some g) law some empty rewrites last = restored_now law some g rewrites.restored empty last

  by_stop : (X : Type 0) {Y : Type 0} (y : Y) (stop : Stop) (before after : Tally) (held : Option (List ℕ)) → SealedLaw → 0 < s.hdus → made ≡ emptied old → IsShut mid →
      IfSome held (λ g. RestoresSeen {X = Y} g s made mid (Ok y)) → StoppedByWrite before after stop → StopsShut mid now → AreShutOrWhole {X = X} s held now (Err stop)
  by_stop X y stop before after held law some empty shut rewrites why (inl stays) = inl (stays shut)
  by_stop X y stop before after held law some empty shut rewrites why (inr last) =
      inr (whole_now y held law some empty rewrites last, by_write X before after stop why)

  pub sealed_or_shut : {X Y : Type 0} (y : Y) (result : Result X Stop) (before after : Tally) (held : Option (List ℕ)) → SealedLaw → 0 < s.hdus → made ≡ emptied old → IsShut mid →
      IfSome held (λ g. RestoresSeen {X = Y} g s made mid (Ok y)) → IfErr result (StoppedByWrite before after) → OnErr result (StopsShut mid now) →
      AreShutOrWhole s held now result
  sealed_or_shut {X = X} y (Ok x) before after held law some empty shut rewrites why stops = tt
  sealed_or_shut {X = X} y (Err stop) before after held law some empty shut rewrites why stops = by_stop X y stop before after held law some empty shut rewrites why stops

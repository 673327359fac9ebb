-- The packed file begins with the S of SIMPLE, so it is whole once byte 0 is written (FITS 4.0, section 4.4.1.1).
use Rattle.std.proofs.Common.{◌≡◌, ℕ, ◌<◌, ◌⊎◌, inl, inr, ◌&&◌, Bool, true, false, List, [], ◌∷◌, ◌++◌, length, map, take, drop, codes, Option, Some, None, IfSome, Result, Ok, Err, refl, sym, ap, subst, ◌∙◌, if◌then◌else◌, arith}
use Rattle.std.specs.Prelude.{OnOk, OnErr, IfErr, IsErrOf, bytes_eq, unwrap_or}
use Rattle.std.specs.Fmt.{digits}
use Rattle.std.proofs.lemmas.Slice.Eq.{bytes_eq-Decides}
use Rattle.fz_base.specs.Counts.{Tally}
use Rattle.fz_base.specs.FirstByte.{IsShut, StopsShut, with_first_byte}
use Rattle.fz_base.specs.Sink.{emptied, written}
use Rattle.fz_base.specs.Stop.{IfRefused, StoppedByWrite}
use Rattle.fz_base.specs.declared.failure.Stop.{Stop}
use Rattle.fz_base.specs.declared.failure.Stop.TheVariants.{Refused, ReadFault, WriteFault, OverLimit, NoMemory}
use Rattle.fz_card.specs.Layout.{padded}
use Rattle.fz_card.specs.Made.{int_card_bytes, logical_card_bytes}
use Rattle.fz_card.specs.Reading.{logical_of}
use Rattle.fz_block.specs.Cards.{card_at}
use Rattle.fz_block.specs.Checks.{is_set}
use Rattle.fz_block.specs.Facts.{facts_of}
use Rattle.fz_block.specs.Hdus.{hdu_bytes, header_bytes}
use Rattle.fz_block.specs.Walk.{hdu_of}
use Rattle.fz_block.specs.declared.header.Header.{Header}
use Rattle.fz_head.specs.EmptyPrimary.{empty_primary}
use Rattle.fz_head.specs.Packable.{is_packable}
use Rattle.fz_head.specs.Planned.{pack_plan_of}
use Rattle.fz_head.specs.declared.options.PackOptions.{PackOptions}
use Rattle.fz_files.specs.Packed.{packed_file, packed_from, packed_hdu, packed_image}
use Rattle.fz_job.specs.declared.survey.Survey.{Survey}
use Rattle.fz_pack.specs.Again.{WereSeen}
use Rattle.fz_job.specs.Behind.{written_behind}
use Rattle.fz_pack.specs.Behind.{RewritesSeen}
use Rattle.fz_pack.specs.Written.{ArePacked, AreShutOrWhole, FinishesSeen, IsList}

-- ---- the first byte

abbrev pub BeginsWithS : List ℕ → Type 0
BeginsWithS l = l ≡ 83 ∷ drop 1 l

first_of_both : (a b : Bool) → (a && b) ≡ true → a ≡ true
first_of_both true b is = refl
first_of_both false b is = absurd cc

-- a header that begins with SIMPLE = T
simple_begins : (l : List ℕ) → is_set (codes "SIMPLE") (card_at l 0) ≡ true → BeginsWithS l
simple_begins [] is =
    let name : bytes_eq [] (padded (codes "SIMPLE")) ≡ true = first_of_both (bytes_eq [] (padded (codes "SIMPLE"))) (unwrap_or (logical_of []) false) is in
    let none : ◌≡◌ {A = List ℕ} [] (83 ∷ 73 ∷ 77 ∷ 80 ∷ 76 ∷ 69 ∷ 32 ∷ 32 ∷ []) = (bytes_eq-Decides [] (padded (codes "SIMPLE"))).0 name in
    absurd cc
simple_begins (x ∷ l) is =
    let name : bytes_eq (x ∷ take 7 (take 79 l)) (padded (codes "SIMPLE")) ≡ true =
    first_of_both (bytes_eq (x ∷ take 7 (take 79 l)) (padded (codes "SIMPLE"))) (unwrap_or (logical_of (x ∷ take 79 l)) false) is in
    let same : x ∷ take 7 (take 79 l) ≡ 83 ∷ 73 ∷ 77 ∷ 80 ∷ 76 ∷ 69 ∷ 32 ∷ 32 ∷ [] = (bytes_eq-Decides (x ∷ take 7 (take 79 l)) (padded (codes "SIMPLE"))).0 name in
    let first : x ≡ 83 = cc in
    ap (λ b. b ∷ l) first

empty_begins : is_set (codes "SIMPLE") (card_at (header_bytes empty_primary) 0) ≡ true
unfolding logical_of logical_card_bytes int_card_bytes digits
empty_begins = refl

begins_before : (front back : List ℕ) → BeginsWithS front → BeginsWithS (front ++ back)
begins_before [] back is = absurd cc
begins_before (x ∷ front) back is =
    let first : x ≡ 83 = cc in
    ap (λ b. b ∷ (front ++ back)) first

by_test : (b : Bool) (front table own : List ℕ) → BeginsWithS front → BeginsWithS own → BeginsWithS (if b then front ++ table else own)
by_test true front table own before is = begins_before front table before
by_test false front table own before is = is

-- HDU 0 of the packed file
first_begins : (o : PackOptions) (g : List ℕ) (h : Header) → is_set (codes "SIMPLE") (card_at (hdu_of g h).header 0) ≡ true → BeginsWithS (packed_hdu o 0 (hdu_of g h))
first_begins o g h is =
    let facts : Header = facts_of 0 0 (hdu_of g h).header in
    by_test (is_packable facts) (header_bytes empty_primary) (packed_image o.sums (pack_plan_of o facts) (hdu_of g h)) (hdu_bytes (hdu_of g h))
    (simple_begins (header_bytes empty_primary) empty_begins)
    (begins_before (hdu_of g h).header (hdu_of g h).payload (simple_begins (hdu_of g h).header is))

-- and the whole of it
file_begins : (o : PackOptions) (g : List ℕ) (header_len tile : ℕ) (hs : List Header) → 0 < length hs → WereSeen o g header_len tile 0 0 hs → BeginsWithS (packed_file o (map (hdu_of g) hs))
unfolding packed_from
file_begins o g header_len tile [] some seen = absurd (omega (arith, some))
file_begins o g header_len tile (h ∷ hs) some seen =
    begins_before (packed_hdu o 0 (hdu_of g h)) (packed_from o 1 (map (hdu_of g) hs)) (first_begins o g h (seen.0.simple refl))

-- ---- what is left after a seal

abbrev pub SealedLaw : Type 0
SealedLaw = (bytes : List ℕ) → with_first_byte (written 1 bytes (Some [])) ≡ Some (83 ∷ bytes)

sealed_whole : SealedLaw → (whole : List ℕ) → BeginsWithS whole → (old made mid now : Option (List ℕ)) → made ≡ emptied old → mid ≡ written_behind 0 whole made → now ≡ with_first_byte mid →
    IfSome now (λ bytes. bytes ≡ whole)
sealed_whole law whole begins None made mid now empty behind last =
    let none : now ≡ None = last ∙ ap with_first_byte (behind ∙ ap (written_behind 0 whole) empty) in
    subst (λ (c : Option (List ℕ)). IfSome c (λ bytes. bytes ≡ whole)) (sym none) tt
sealed_whole law whole begins (Some c) made mid now empty behind last =
    let is : now ≡ Some whole = last ∙ ap with_first_byte (behind ∙ ap (written_behind 0 whole) empty) ∙ law (drop 1 whole) ∙ ap Some (sym begins) in
    subst (λ (c : Option (List ℕ)). IfSome c (λ bytes. bytes ≡ whole)) (sym is) refl

module _ (o : PackOptions) (s : Survey) (old made mid now : Option (List ℕ)) where
  packed_now : SealedLaw → 0 < s.hdus → (g : List ℕ) → ((hs : List Header) → WereSeen o g s.header_len s.tile 0 0 hs → length hs ≡ s.hdus → mid ≡ written_behind 0 (packed_file o (map (hdu_of g) hs)) made) →
      made ≡ emptied old → now ≡ with_first_byte mid → (hs : List Header) → IsList o g s hs → ArePacked o g hs now
  packed_now law some g behind empty last hs is =
      let more : 0 < length hs = omega (arith, some, is.count) in
      sealed_whole law (packed_file o (map (hdu_of g) hs)) (file_begins o g s.header_len s.tile hs more is.seen) old made mid now empty (behind hs is.seen is.count) last

  never_refused : (X : Type 0) (before after : Tally) (stop : Stop) → StoppedByWrite before after stop → IfRefused {X = X} (Err stop) (λ x. ⊥)
  never_refused X before after (Refused x) why = why
  never_refused X before after ReadFault why = tt
  never_refused X before after WriteFault why = tt
  never_refused X before after (OverLimit live asked limit) why = tt
  never_refused X before after NoMemory why = tt

  pub sealed_finishes : {X Y : Type 0} (y : Y) (result : Result X Stop) (before after : Tally) (held : Option (List ℕ)) → SealedLaw → 0 < s.hdus → made ≡ emptied old →
      IfSome held (λ g. RewritesSeen {X = Y} o g s.header_len s.tile s.hdus made mid (Ok y)) → OnOk result (now ≡ with_first_byte mid) → IfErr result (StoppedByWrite before after) →
      IfSome held (λ g. FinishesSeen o g s now result)
  sealed_finishes {X = X} y result before after None law some empty rewrites last why = tt
  sealed_finishes {X = X} y (Ok x) before after (Some g) law some empty rewrites last why = record {
    packed = λ hs is. packed_now law some g (λ ks seen count. rewrites.packed ks seen count) empty last hs is;
    as_seen = λ hs is. tt;
  }
  sealed_finishes {X = X} y (Err stop) before after (Some g) law some empty rewrites last why = record {
    packed = λ hs is. tt;
    as_seen = λ hs is. never_refused X before after stop why;
  }

  -- ---- shut, or sealed

  by_write : (X : Type 0) (before after : Tally) (stop : Stop) → StoppedByWrite before after stop → IsErrOf {T = X} (Err stop) WriteFault ⊎ IsErrOf {T = X} (Err stop) NoMemory
  by_write X before after (Refused x) why = absurd why
  by_write X before after ReadFault why = absurd why
  by_write X before after WriteFault why = inl refl
  by_write X before after (OverLimit live asked limit) why = absurd why
  by_write X before after NoMemory why = inr refl

  whole_now : {Y : Type 0} (y : Y) (held : Option (List ℕ)) → SealedLaw → 0 < s.hdus → made ≡ emptied old → IfSome held (λ g. RewritesSeen {X = Y} o g s.header_len s.tile s.hdus made mid (Ok y)) →
      now ≡ with_first_byte mid → IfSome held (λ g. (hs : List Header) → IsList o g s hs → ArePacked o g hs now)
  whole_now y None law some empty rewrites last = tt
  whole_now y (Some g) law some empty rewrites last = packed_now law some g (λ ks seen count. rewrites.packed ks seen count) empty last

  by_stop : (X : Type 0) {Y : Type 0} (y : Y) (stop : Stop) (before after : Tally) (held : Option (List ℕ)) → SealedLaw → 0 < s.hdus → made ≡ emptied old → IsShut mid →
      IfSome held (λ g. RewritesSeen {X = Y} o g s.header_len s.tile s.hdus made mid (Ok y)) → StoppedByWrite before after stop → StopsShut mid now → AreShutOrWhole {X = X} o s held now (Err stop)
  by_stop X y stop before after held law some empty shut rewrites why (inl stays) = inl (stays shut)
  by_stop X y stop before after held law some empty shut rewrites why (inr last) =
      inr (whole_now y held law some empty rewrites last, by_write X before after stop why)

  pub sealed_or_shut : {X Y : Type 0} (y : Y) (result : Result X Stop) (before after : Tally) (held : Option (List ℕ)) → SealedLaw → 0 < s.hdus → made ≡ emptied old → IsShut mid →
      IfSome held (λ g. RewritesSeen {X = Y} o g s.header_len s.tile s.hdus made mid (Ok y)) → IfErr result (StoppedByWrite before after) → OnErr result (StopsShut mid now) →
      AreShutOrWhole o s held now result
  sealed_or_shut {X = X} y (Ok x) before after held law some empty shut rewrites why stops = tt
  sealed_or_shut {X = X} y (Err stop) before after held law some empty shut rewrites why stops = by_stop X y stop before after held law some empty shut rewrites why stops

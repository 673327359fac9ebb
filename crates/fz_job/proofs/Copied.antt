-- An HDU that was copied, without byte 0 of the file (FITS 4.0, section 3.1): its header is written, and then its data.
use Rattle.std.proofs.Common.{◌≡◌, ℕ, zero, suc, ◌==◌, ◌+◌, ◌*◌, ◌-◌, ◌<◌, ◌≤◌, if◌then◌else◌, Bool, false, List, ◌++◌, length, take, drop, Option, Some, None, IfSome, sym, ap, ◌∙◌, arith}
use Rattle.std.proofs.lemmas.List.{drop-append-le, length-append, length-take, length-drop, take_all}
use Rattle.std.proofs.lemmas.Bool.Decides.{nat_tests}
use Rattle.fz_base.specs.Sink.{written}
use Rattle.fz_base.specs.Source.{HoldsLength, Reads}
use Rattle.fz_block.specs.Hdus.{hdu_bytes}
use Rattle.fz_block.specs.Header.{data_start_of, next_start_of, whole_blocks_of}
use Rattle.fz_block.specs.Walk.{hdu_of}
use Rattle.fz_block.specs.declared.header.Header.{Header}
use Rattle.fz_job.specs.Behind.{HoldsCopy, written_behind}

-- a write that follows another one is one write with it
abbrev pub IsOneWrite : Type 0
IsOneWrite = (at : ℕ) (front back : List ℕ) (contents : Option (List ℕ)) → written (at + length front) back (written at front contents) ≡ written at (front ++ back) contents

-- its length
long_one : (g : List ℕ) (h : Header) → next_start_of h ≤ length g → length (hdu_bytes (hdu_of g h)) ≡ next_start_of h - h.start
long_one g h within =
    let n : ℕ = 2880 * h.blocks in
    let m : ℕ = whole_blocks_of h.data_len in
    omega (
      arith,
      within,
      length-append (take n (drop h.start g)) (take m (drop (data_start_of h) g)),
      length-take n (drop h.start g),
      length-drop h.start g,
      length-take m (drop (data_start_of h) g),
      length-drop (data_start_of h) g,
    )

-- both writes together are one of the HDU, or of its bytes after the first at byte 0
both : IsOneWrite → (front back : List ℕ) (at skipped : ℕ) (before : Option (List ℕ)) → 0 < length front → skipped ≡ (if at == 0 then 1 else 0) →
    written (at + length front) back (written (at + skipped) (drop skipped front) before) ≡ written_behind at (front ++ back) before
both next front back zero skipped before some skips =
    let first : skipped ≡ 1 = skips in
    let rest : length (drop 1 front) ≡ length front - 1 = length-drop 1 front in
    let place : 0 + length front ≡ 1 + length (drop 1 front) = omega (arith, some, rest) in
    let one : 1 ≤ length front = omega (arith, some) in
    ap (λ k. written (0 + length front) back (written (0 + k) (drop k front) before)) first
    ∙ ap (λ k. written k back (written 1 (drop 1 front) before)) place
    ∙ next 1 (drop 1 front) back before
    ∙ ap (λ bytes. written 1 bytes before) (sym (drop-append-le 1 front back one))
both next front back (suc at) skipped before some skips =
    let later : (suc at == 0) ≡ false = grind (arith, nat_tests) in
    let none : skipped ≡ 0 = skips ∙ ap (λ (b : Bool). if b then 1 else 0) later in
    let place : suc at + 0 ≡ suc at = omega arith in
    ap (λ k. written (suc at + length front) back (written (suc at + k) (drop k front) before)) none
    ∙ ap (λ k. written (suc at + length front) back (written k front before)) place
    ∙ next (suc at) front back before

-- the header was written from its first byte that is not left for last, and then so many bytes of the data were copied
pub copied_whole : IsOneWrite → (held : Option (List ℕ)) (h : Header) (n at skipped from count : ℕ) (header : List ℕ) (before mid now : Option (List ℕ)) →
    HoldsLength held n → next_start_of h ≤ n → 0 < h.blocks → length header ≡ 2880 * h.blocks → Reads held h.start header →
    skipped ≡ (if at == 0 then 1 else 0) → from ≡ data_start_of h → count ≡ next_start_of h - from →
    mid ≡ written (at + skipped) (take (length header - skipped) (drop skipped header)) before →
    IfSome held (λ g. now ≡ written (at + length header) (take count (drop from g)) mid) →
    IfSome held (λ g. HoldsCopy h g at (at + length header + count) before now)
copied_whole next None h n at skipped from count header before mid now told within some whole reads skips begins long first last = tt
copied_whole next (Some g) h n at skipped from count header before mid now told within some whole reads skips begins long first last =
    let inside : next_start_of h ≤ length g = omega (arith, told, within) in
    let m : ℕ = whole_blocks_of h.data_len in
    let payload : List ℕ = take m (drop (data_start_of h) g) in
    let few : count ≡ m = omega (arith, begins, long) in
    let front : header ≡ take (2880 * h.blocks) (drop h.start g) = reads ∙ ap (λ k. take k (drop h.start g)) whole in
    let rest : length (drop skipped header) ≤ length header - skipped = omega (arith, length-drop skipped header) in
    record {
      contents = last
          ∙ ap (λ k. written (at + length header) (take k (drop from g)) mid) few
          ∙ ap (λ k. written (at + length header) (take m (drop k g)) mid) begins
          ∙ ap (λ c. written (at + length header) payload c) first
          ∙ ap (λ bytes. written (at + length header) payload (written (at + skipped) bytes before)) (take_all (length header - skipped) (drop skipped header) rest)
          ∙ both next header payload at skipped before (omega (arith, some, whole)) skips
          ∙ ap (λ bytes. written_behind at (bytes ++ payload) before) front;
      behind = omega (arith, whole, few, long_one g h inside);
    }

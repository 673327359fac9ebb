-- A header that was read is that of the file.
use Rattle.std.proofs.Common.{◌≡◌, ℕ, ◌+◌, ◌-◌, ◌≤◌, arith, Bool, List, length, take, drop, IfSome, sym, ap, ◌∙◌, subst}
use Rattle.std.specs.Prelude.{Option, Some, None}
use Rattle.fz_base.specs.Source.{Reads, HoldsLength}
use Rattle.std.specs.List.{range_with_len}
use Rattle.std.proofs.lemmas.List.{drop-take, take-take, length-map}
use Rattle.std.proofs.lemmas.List.FromFn.{length-range_with_len}
use Rattle.fz_card.specs.Reading.{integer_of}
use Rattle.fz_block.specs.Cards.{card_at}
use Rattle.fz_block.specs.Hdus.{IsHdu, size_at, size_in}
use Rattle.fz_block.specs.Facts.{IsHeaderOf}
use Rattle.fz_block.specs.Header.{next_start_of}
use Rattle.fz_block.specs.Walk.{hdu_of}
use Rattle.fz_block.specs.declared.header.Header.{Header}
use Rattle.fz_checks.specs.JobChecks.{is_after_empty}
use Rattle.fz_job.proofs.Judged.{IsHere}

-- what stands in a file with its data is an HDU of it, which is a law of the headers
abbrev pub HduLaw : Type 0
HduLaw = (file header : List ℕ) (h : Header) → IsHeaderOf header h → take (length header) (drop h.start file) ≡ header → next_start_of h ≤ length file →
    ((hdu_of file h).header ≡ header) × IsHdu h.hdu (hdu_of file h)

pub stands_here : HduLaw → (held : Option (List ℕ)) (len : ℕ) (h : Header) (buf : List ℕ) (after_empty : Bool) → HoldsLength held len → IsHeaderOf buf h → Reads held h.start buf → next_start_of h ≤ len →
    IfSome held (λ g. after_empty ≡ is_after_empty g h) → IfSome held (IsHere h buf after_empty)
stands_here hdus None len h buf after_empty told facts read within after = tt
stands_here hdus (Some g) len h buf after_empty told facts read within after = record {
  header = (hdus g buf h facts (sym read) (subst (λ n. next_start_of h ≤ n) (sym told) within)).0;
  after = after;
}

-- the number of axes is that of card 2, also of the file where the header begins it
axes_number : (header : List ℕ) (h : Header) → IsHeaderOf header h → h.axes.n ≡ size_at header 2
axes_number header h is =
    ap (λ (x : Header). x.axes.n) is.facts ∙ (length-map (range_with_len 3 (size_at header 2)) (size_at header) ∙ length-range_with_len 3 (size_at header 2))

front_card : (g : List ℕ) (len : ℕ) → 240 ≤ len → card_at (take len g) 2 ≡ card_at g 2
front_card g len long =
    let split : len ≡ 160 + (len - 160) = omega (arith, long) in
    ap (λ n. take 80 (drop 160 (take n g))) split ∙ (ap (take 80) (drop-take 160 (len - 160) g) ∙ take-take 80 (len - 160) (drop 160 g) (omega (arith, long)))

pub first_axes : (held : Option (List ℕ)) (k start : ℕ) (buf : List ℕ) (h : Header) → IsHeaderOf buf h → Reads held start buf → IfSome held (λ g. k ≡ 0 → start ≡ 0 → h.axes.n ≡ size_at g 2)
first_axes None k start buf h is read = tt
first_axes (Some g) k start buf h is read = λ first begin.
    let front : buf ≡ take (length buf) g = read ∙ ap (λ n. take (length buf) (drop n g)) begin in
    axes_number buf h is ∙ (ap (λ l. size_at l 2) front ∙ ap (λ c. size_in (integer_of c)) (front_card g (length buf) (omega (arith, is.whole.blocks))))

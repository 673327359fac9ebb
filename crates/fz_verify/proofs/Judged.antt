-- The verdicts on both sums of an HDU, where the source tells its bytes (FITS 4.0, section 4.4.2.7).
use Rattle.std.proofs.Common.{◌≡◌, ℕ, ◌*◌, List, ◌++◌, length, take, drop, sym, ap, ◌∙◌, arith}
use Rattle.std.specs.Prelude.{Option, Some, None, IfSome}
use Rattle.fz_base.specs.Source.{Reads}
use Rattle.fz_block.specs.Facts.{IsHeaderOf}
use Rattle.fz_block.specs.Hdus.{cards_of}
use Rattle.fz_block.specs.Walk.{hdu_of}
use Rattle.fz_block.specs.declared.header.Header.{Header}
use Rattle.fz_card.specs.CardLists.{cards_in}
use Rattle.fz_sum.specs.Pieces.{Added, after}
use Rattle.fz_sum.specs.Sums.{carried, ones_sum}
use Rattle.fz_sum.specs.Verdicts.{checksum_verdict, datasum_verdict}
use Rattle.fz_sum.specs.declared.verdicts.Verdict.{Verdict}
use Rattle.fz_verify.specs.Sums.{AreVerdictsOn, HasAdded}
use Rattle.fz_verify.proofs.Summed.{IsByPlace, IsOfWords, JoinsTotals, both_sum, data_sum, same_cards}

-- what the calls say
abbrev pub JudgesData : Header → List ℕ → ℕ → Verdict → Type 0
JudgesData h buf sum v = (payload : List ℕ) → sum ≡ ones_sum payload → v ≡ datasum_verdict (cards_in h.cards buf) payload

abbrev pub JudgesHdu : Header → List ℕ → ℕ → Verdict → Type 0
JudgesHdu h buf sum v = (header payload : List ℕ) → sum ≡ ones_sum (header ++ payload) → v ≡ checksum_verdict (cards_in h.cards buf) header payload

module _ (joins : JoinsTotals) (words : IsOfWords) (places : IsByPlace) (h : Header) (buf : List ℕ) (is : IsHeaderOf buf h) where
  long : length buf ≡ 2880 * h.blocks
  long = omega (arith, ap (λ (j : Header). j.blocks) is.facts, is.whole.blocks)

  header_is : (g : List ℕ) → buf ≡ take (length buf) (drop h.start g) → (hdu_of g h).header ≡ buf
  header_is g read = sym (read ∙ ap (λ n. take n (drop h.start g)) long)

  on_file : (g : List ℕ) → buf ≡ take (length buf) (drop h.start g) → (sum now : Added) (d c : Verdict) (one two : ℕ) → HasAdded (hdu_of g h).payload sum → now ≡ after sum 0 buf → one ≡ carried sum.total → two ≡ carried now.total →
      JudgesData h buf one d → JudgesHdu h buf two c → AreVerdictsOn g h (record { datasum = d; checksum = c })
  on_file g read sum now d c one two added more first both says tells =
      let payload : List ℕ = (hdu_of g h).payload in
      let cards : cards_in h.cards buf ≡ cards_of (hdu_of g h).header = same_cards buf h is ∙ ap cards_of (sym (header_is g read)) in
      let all : two ≡ ones_sum (buf ++ payload) = both ∙ both_sum joins words places buf payload h.blocks sum now long added more in
      record {
        datasum = says payload (first ∙ data_sum words payload sum added) ∙ ap (λ l. datasum_verdict l payload) cards;
        checksum = tells buf payload all ∙ (λ i. checksum_verdict (cards i) (sym (header_is g read) i) payload);
      }

  pub judged : (held : Option (List ℕ)) → Reads held h.start buf → (sum now : Added) (d c : Verdict) (one two : ℕ) → IfSome held (λ g. HasAdded (hdu_of g h).payload sum) → now ≡ after sum 0 buf → one ≡ carried sum.total → two ≡ carried now.total →
      JudgesData h buf one d → JudgesHdu h buf two c → IfSome held (λ g. AreVerdictsOn g h (record { datasum = d; checksum = c }))
  judged None read sum now d c one two added more first both says tells = tt
  judged (Some g) read sum now d c one two added more first both says tells = on_file g read sum now d c one two added more first both says tells

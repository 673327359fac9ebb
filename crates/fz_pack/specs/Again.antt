-- A header that is read once more, after the first look at all headers (FITS 4.0, sections 3.1 and 10.1).
use Rattle.std.specs.Prelude.{ℕ, suc, ◌≡◌, ◌*◌, ◌^◌, ◌≤◌, nat_lt, Bool, true, false, List, [], ◌∷◌}
use Rattle.std.specs.Prelude.{length, take, codes, Option, Some, None, IfSome, Result, Ok, Err, ⊤}
use Rattle.fz_base.specs.Source.{Reads}
use Rattle.fz_base.specs.Stop.{IfRefused}
use Rattle.fz_base.specs.declared.failure.Stop.{Stop}
use Rattle.fz_block.specs.Cards.{card_at}
use Rattle.fz_block.specs.Checks.{hdu_at, is_set}
use Rattle.fz_block.specs.Facts.{IsHeaderOf}
use Rattle.fz_block.specs.Header.{next_start_of}
use Rattle.fz_block.specs.Walk.{hdu_of}
use Rattle.fz_block.specs.declared.header.Header.{Header}
use Rattle.fz_grid.specs.Arrays.{product}
use Rattle.fz_grid.specs.Grid.{tile_lengths}
use Rattle.fz_grid.specs.Region.{lengths_of}
use Rattle.fz_head.specs.Conditions.{IsPackPlan}
use Rattle.fz_checks.specs.JobChecks.{plan_to_pack}
use Rattle.fz_head.specs.declared.options.PackOptions.{PackOptions}
use Rattle.fz_head.specs.declared.plan.Plan.{Plan}
use Rattle.fz_pack.specs.declared.again.Again.{Again}

-- the bytes of a header at the front of a buffer
abbrev pub header_in : Again → List ℕ → List ℕ
header_in a buf = take (2880 * a.header.blocks) buf

-- the pixels of tile 0, which is the largest
abbrev pub largest_of : Plan → ℕ
largest_of p = product (tile_lengths (lengths_of p.shape) (lengths_of p.tile) 0)

-- the tiles of an image that is packed have more pixels than so many
abbrev pub is_larger : ℕ → Option Plan → Bool
is_larger tile None = false
is_larger tile (Some p) = nat_lt tile (largest_of p)

-- the header of an HDU within so many bytes is at the front of the buffer, and this is the plan of the HDU, or none if it is copied
pub record IsAgain (o : PackOptions) (held : Option (List ℕ)) (len : ℕ) (buf : List ℕ) (a : Again) : Type 0 where
  pub room : 2880 * a.header.blocks ≤ length buf
  pub header : IsHeaderOf (header_in a buf) a.header
  pub simple : a.header.hdu ≡ 0 → is_set (codes "SIMPLE") (card_at (header_in a buf) 0) ≡ true
  pub inside : next_start_of a.header ≤ len
  pub near : next_start_of a.header ≤ 2 ^ 62
  pub read : Reads held a.header.start (header_in a buf)
  pub planned : plan_to_pack o a.header (header_in a buf) ≡ Ok a.plan
  pub usable : IfSome a.plan (IsPackPlan (header_in a buf) a.header o.sums)

-- HDU k begins at this byte, passes all checks, and is within what the first look learnt
pub record WasSeen (o : PackOptions) (file : List ℕ) (k start header_len tile : ℕ) (h : Header) : Type 0 where
  pub found : hdu_at k start file ≡ Ok h
  pub simple : k ≡ 0 → is_set (codes "SIMPLE") (card_at (hdu_of file h).header 0) ≡ true
  pub short : 2880 * h.blocks ≤ header_len
  pub plan : Option Plan
  pub planned : plan_to_pack o h (hdu_of file h).header ≡ Ok plan
  pub small : IfSome plan (λ p. largest_of p ≤ tile)

-- the same of HDUs from number k on, the last of which ends the file
abbrev pub WereSeen : PackOptions → List ℕ → ℕ → ℕ → ℕ → ℕ → List Header → Type 0
WereSeen o file header_len tile k start [] = start ≡ length file
WereSeen o file header_len tile k start (h ∷ hs) =
    WasSeen o file k start header_len tile h × WereSeen o file header_len tile (suc k) (next_start_of h) hs

-- the answer, if there is one, is this header
abbrev pub IsHeaderAnswered : Header → Result Again Stop → Type 0
IsHeaderAnswered h (Ok a) = a.header ≡ h
IsHeaderAnswered h (Err stop) = ⊤

-- it is read as it was seen, and not refused
abbrev pub ReadsAsSeen : PackOptions → List ℕ → ℕ → ℕ → ℕ → ℕ → Result Again Stop → Type 0
ReadsAsSeen o file k start header_len tile result =
    (h : Header) → WasSeen o file k start header_len tile h → IfRefused result (λ x. ⊥) × IsHeaderAnswered h result

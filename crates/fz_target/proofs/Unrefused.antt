-- A row that stands for numbers has no fault, and stands for no others.
use Rattle.std.proofs.Common.{◌≡◌, ℕ, ℤ, pos, unsigned_abs, List, length, Result, Ok, Err, inl, inr, sym, ◌∙◌, subst}
use Rattle.fz_base.specs.declared.fault.Fault.{Fault}
use Rattle.fz_block.specs.declared.header.Header.{Header}
use Rattle.fz_table.specs.Records.{record_bytes}
use Rattle.fz_table.specs.declared.record.Record.{Record}
use Rattle.fz_tile.specs.Codecs.{CanRead}
use Rattle.fz_tile.specs.Laws.{StandsUnrefused}
use Rattle.fz_tile.specs.Pixels.{IsBitpix}
use Rattle.fz_tile.specs.Record.{IsRecord}
use Rattle.fz_tile.specs.Refusals.{IsFault}
use Rattle.fz_tile.specs.declared.codec.Codec.{Codec}
use Rattle.fz_tile.specs.declared.coded.Place2.{Place2}
use Rattle.fz_files.specs.FirstFault.{IsRowFault, image_row}
use Rattle.fz_files.specs.Packed.{pixel_bits}
use Rattle.fz_files.specs.Restored.{RecordMeans, RowStandsFor, pixels_of, place_in, plan_in}
use Rattle.fz_head.specs.declared.plan.Plan.{Plan}

-- a record stands for at most one list of so many pixels
abbrev pub StandsForOneList : Type 0
StandsForOneList =
    (codec : Codec) (bitpix total : ℕ) (place : Place2) (read : List ℕ) (xs ys : List ℤ) → CanRead codec (pos bitpix) → length ys ≡ length xs →
    IsRecord codec bitpix place total read xs → IsRecord codec bitpix place total read ys → ys ≡ xs

-- the size of a pixel is that of the plan
pub bits_are : (codec : Codec) (bitpix : ℤ) → CanRead codec bitpix → CanRead codec (pos (unsigned_abs bitpix))
bits_are codec bitpix can = by_size can.size
  where
    by_size : IsBitpix bitpix → CanRead codec (pos (unsigned_abs bitpix))
    by_size (inl e) = subst (λ b. CanRead codec (pos (unsigned_abs b))) (sym e) (subst (CanRead codec) e can)
    by_size (inr (inl e)) = subst (λ b. CanRead codec (pos (unsigned_abs b))) (sym e) (subst (CanRead codec) e can)
    by_size (inr (inr (inl e))) = subst (λ b. CanRead codec (pos (unsigned_abs b))) (sym e) (subst (CanRead codec) e can)
    by_size (inr (inr (inr e))) = subst (λ b. CanRead codec (pos (unsigned_abs b))) (sym e) (subst (CanRead codec) e can)

-- the tiles of the image of a file can be read
abbrev pub CanReadTiles : List ℕ → Header → Type 0
CanReadTiles file h = CanRead (plan_in file h).codec (pos (pixel_bits (plan_in file h)))

same_record : (found other : Record) (r : Result Record Fault) → r ≡ Ok found → r ≡ Ok other → found ≡ other
same_record found other r e f = cc

no_record : (found : Record) (fault : Fault) (r : Result Record Fault) → r ≡ Ok found → r ≡ Err fault → ⊥
no_record found fault r e f = absurd cc

pub one_row : StandsForOneList → (file : List ℕ) (h : Header) (t : ℕ) (xs ys : List ℤ) → CanReadTiles file h → RowStandsFor file h t xs → RowStandsFor file h t ys → ys ≡ xs
one_row one file h t xs ys can a b =
    let p : Plan = plan_in file h in
    let same : b.found ≡ a.found = same_record b.found a.found _ b.chosen a.chosen in
    one p.codec (pixel_bits p) a.found.total (place_in a.found.column) (record_bytes file a.found) xs ys can
    (b.count ∙ sym a.count) a.means (subst (λ (f : Record). RecordMeans file p f ys) same b.means)

pub row_unrefused : StandsUnrefused → (file : List ℕ) (h : Header) (t : ℕ) (xs : List ℤ) (fault : Fault) → CanReadTiles file h → RowStandsFor file h t xs → IsRowFault file (image_row h t) fault → ⊥
row_unrefused unrefused file h t xs fault can row (inl refused) = no_record row.found fault _ row.chosen refused
row_unrefused unrefused file h t xs fault can row (inr (why, faulty, is)) =
    let p : Plan = plan_in file h in
    let same : faulty.found ≡ row.found = same_record faulty.found row.found _ faulty.chosen row.chosen in
    unrefused p.codec (pixel_bits p) row.found.total (pixels_of p t) (place_in row.found.column) (record_bytes file row.found) why can
    (xs, row.count, row.means)
    (subst (λ (f : Record). IsFault p.codec (pixel_bits p) (place_in f.column) f.total (record_bytes file f) (pixels_of p t) why) same faulty.fault)

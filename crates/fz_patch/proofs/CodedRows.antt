-- A row, as it is written: its bytes, and where it is (FITS 4.0, section 7.3.5).
use Rattle.std.proofs.Common.{◌≡◌, ℕ, ◌+◌, ◌*◌, ◌^◌, ◌<◌, ◌≤◌, Bool, true, false, List, ◌∷◌, length, if◌then◌else◌, refl, sym, ap, ◌∙◌, subst, arith}
use Rattle.fz_table.specs.Rows.{FitsDescriptor, descriptor_len, packed_row, row_start}
use Rattle.fz_table.specs.declared.array.Descriptor.{Descriptor}
use Rattle.fz_tile.specs.TileCode.{TileCode}
use Rattle.fz_tile.specs.declared.coded.Place2.{Place2}
use Rattle.fz_tile.specs.declared.coded.Place2.TheVariants.{Coded, Stored}
use Rattle.fz_head.specs.declared.plan.Plan.{Plan}
use Rattle.fz_grid.specs.Grid.{tile_count}
use Rattle.fz_grid.specs.Region.{lengths_of}
use Rattle.fz_grid.specs.declared.sieve.Sieve.{Sieve}
use Rattle.fz_files.specs.FirstFault.{picked_tiles_of}
use Rattle.fz_files.specs.Packed.{coded_count, is_coded, row_of, stored_count}
use Rattle.fz_pool.specs.Round.{coded_tile}
use Rattle.fz_pool.specs.declared.slot.Slot.{Slot}
use Rattle.fz_target.specs.Targets.{IsTarget, plan_to_write}
use Rattle.fz_target.specs.declared.target.Target.{Target}
use Rattle.fz_patch.proofs.Boxes.{AreAbove, filtered_above}
use Rattle.fz_patch.proofs.NewCodes.{heap_end_of}
use Rattle.fz_patch.proofs.Written.{row_low}

-- ---- tiles in their order

pub picked_above : (p : Plan) (sieve : Sieve) → AreAbove 0 (picked_tiles_of p sieve)
picked_above p sieve = filtered_above _ 0 (tile_count (lengths_of p.shape) (lengths_of p.tile))

pub not_below : (next tile : ℕ) (left after : List ℕ) → left ≡ tile ∷ after → AreAbove next left → next ≤ tile
not_below next tile left after is above = (subst (AreAbove next) is above).0

-- ---- the lengths of descriptors

pub descriptor_some : (wide : Bool) → 8 ≤ descriptor_len wide
descriptor_some true = omega arith
descriptor_some false = omega arith

pub descriptor_most : (wide : Bool) → descriptor_len wide ≤ 16
descriptor_most true = omega arith
descriptor_most false = omega arith

pub row_some : (t : Target) → IsTarget t → 0 < t.image.table.row_bytes
row_some t is = omega (arith, is.row, descriptor_some t.wide)

-- a row ends before the heap
pub row_within : (t : Target) (tile : ℕ) → IsTarget t → tile < t.image.table.rows → row_start t.image.table tile + t.image.table.row_bytes ≤ t.image.table.heap_at
row_within t tile is less = row_low t.image.table tile is.readable.table less

pub row_in_file : (t : Target) (tile : ℕ) → IsTarget t → tile < t.image.table.rows → row_start t.image.table tile ≤ heap_end_of t
row_in_file t tile is less = omega (arith, row_within t tile is less)

-- ---- the bytes of a row

-- both numbers of a descriptor fit
pub fits_code : (wide : Bool) (count offset len : ℕ) → count ≤ len → offset + len < (if wide then 2 ^ 63 else 2 ^ 31) → FitsDescriptor wide (record { count = count; offset = offset })
fits_code true count offset len few room = (omega (arith, few, room), omega (arith, room))
fits_code false count offset len few room = (omega (arith, few, room), omega (arith, room))

pub fits_none : (wide : Bool) → FitsDescriptor wide (record { count = 0; offset = 0 })
fits_none true = (omega arith, omega arith)
fits_none false = (omega arith, omega arith)

pub row_of_coded : (t : Target) (x : Slot) (offset count : ℕ) → x.job.place ≡ Coded → count ≡ coded_count t.image.plan (coded_tile x) →
    packed_row t.wide (record { count = count; offset = offset }) (record { count = 0; offset = 0 }) ≡ row_of (plan_to_write t) offset (coded_tile x)
row_of_coded t x offset count place is =
    let p : Plan = plan_to_write t in
    ap (λ n. packed_row t.wide (record { count = n; offset = offset }) (record { count = 0; offset = 0 })) is
    ∙ subst
    (λ (q : Place2). packed_row t.wide (record { count = coded_count t.image.plan (coded_tile x); offset = offset }) (record { count = 0; offset = 0 })
    ≡ (if is_coded q then packed_row p.wide (record { count = coded_count p (coded_tile x); offset = offset }) (record { count = 0; offset = 0 })
    else packed_row p.wide (record { count = 0; offset = 0 }) (record { count = stored_count p (coded_tile x); offset = offset }))) (sym place) refl

pub row_of_stored : (t : Target) (x : Slot) (offset count : ℕ) → x.job.place ≡ Stored → count ≡ stored_count t.image.plan (coded_tile x) →
    packed_row t.wide (record { count = 0; offset = 0 }) (record { count = count; offset = offset }) ≡ row_of (plan_to_write t) offset (coded_tile x)
row_of_stored t x offset count place is =
    let p : Plan = plan_to_write t in
    ap (λ n. packed_row t.wide (record { count = 0; offset = 0 }) (record { count = n; offset = offset })) is
    ∙ subst
    (λ (q : Place2). packed_row t.wide (record { count = 0; offset = 0 }) (record { count = stored_count t.image.plan (coded_tile x); offset = offset })
    ≡ (if is_coded q then packed_row p.wide (record { count = coded_count p (coded_tile x); offset = offset }) (record { count = 0; offset = 0 })
    else packed_row p.wide (record { count = 0; offset = 0 }) (record { count = stored_count p (coded_tile x); offset = offset }))) (sym place) refl

-- a row has both descriptors
packed_len : (wide : Bool) (coded stored : Descriptor) → length (packed_row wide coded stored) ≡ 2 * descriptor_len wide
packed_len true coded stored = refl
packed_len false coded stored = refl

row_len_by : (p : Plan) (offset : ℕ) (place : Place2) (bytes : List ℕ) → length (row_of p offset (record { place = place; bytes = bytes })) ≡ 2 * descriptor_len p.wide
row_len_by p offset Coded bytes = packed_len p.wide (record { count = coded_count p (record { place = Coded; bytes = bytes }); offset = offset }) (record { count = 0; offset = 0 })
row_len_by p offset Stored bytes = packed_len p.wide (record { count = 0; offset = 0 }) (record { count = stored_count p (record { place = Stored; bytes = bytes }); offset = offset })

pub row_long : (t : Target) (offset : ℕ) (e : TileCode) → IsTarget t → length (row_of (plan_to_write t) offset e) ≡ t.image.table.row_bytes
row_long t offset e is = row_len_by (plan_to_write t) offset e.place e.bytes ∙ sym is.row

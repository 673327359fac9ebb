-- How large an image and its table are at most.
use Rattle.std.proofs.Common.{◌+◌, ◌*◌, ◌^◌, ◌<◌, ◌≤◌, inl, inr, Bool, true, false, ℤ, sym, subst, arith, if◌then◌else◌}
use Rattle.std.proofs.Math.Nat.{mul-le-mul_left}
use Rattle.fz_grid.specs.Arrays.{product}
use Rattle.fz_grid.specs.Region.{lengths_of}
use Rattle.fz_tile.specs.Pixels.{IsBitpix}
use Rattle.fz_head.specs.Planned.{pixel_len}
use Rattle.fz_image.specs.Layout.{IsLayout, heap_at_of, pixel_bytes_of, rows_len_of}
use Rattle.fz_image.specs.declared.layout.Layout.{Layout}

-- a pixel has at most 8 bytes, and at least one
pixel_len_by : (bitpix : ℤ) → IsBitpix bitpix → (1 ≤ pixel_len bitpix) × (pixel_len bitpix ≤ 8)
pixel_len_by bitpix (inl e) = subst (λ b. (1 ≤ pixel_len b) × (pixel_len b ≤ 8)) (sym e) (omega arith, omega arith)
pixel_len_by bitpix (inr (inl e)) = subst (λ b. (1 ≤ pixel_len b) × (pixel_len b ≤ 8)) (sym e) (omega arith, omega arith)
pixel_len_by bitpix (inr (inr (inl e))) = subst (λ b. (1 ≤ pixel_len b) × (pixel_len b ≤ 8)) (sym e) (omega arith, omega arith)
pixel_len_by bitpix (inr (inr (inr e))) = subst (λ b. (1 ≤ pixel_len b) × (pixel_len b ≤ 8)) (sym e) (omega arith, omega arith)

pub pixel_len_some : (l : Layout) → IsLayout l → (1 ≤ l.pixel_len) × (l.pixel_len ≤ 8)
pixel_len_some l is = subst (λ n. (1 ≤ n) × (n ≤ 8)) (sym is.pixel_len) (pixel_len_by l.plan.bitpix is.plan.writable.size)

-- an image has at most 2^43 bytes
pub pixel_bytes_small : (l : Layout) → IsLayout l → pixel_bytes_of l ≤ 2 ^ 43
pixel_bytes_small l is =
    let few : product (lengths_of l.plan.shape) ≤ 2 ^ 40 = is.plan.divided.pixels in
    let size : l.pixel_len * product (lengths_of l.plan.shape) ≤ l.pixel_len * 2 ^ 40 = mul-le-mul_left l.pixel_len few in
    let low : l.pixel_len ≤ 8 = (pixel_len_some l is).1 in
    omega (arith, size, low)

-- a row has at most 32 bytes
row_len_by : (wide : Bool) → (1 ≤ (if wide then 32 else 16)) × ((if wide then 32 else 16) ≤ 32)
row_len_by true = (omega arith, omega arith)
row_len_by false = (omega arith, omega arith)

pub row_len_small : (l : Layout) → IsLayout l → (1 ≤ l.row_len) × (l.row_len ≤ 32)
row_len_small l is = subst (λ n. (1 ≤ n) × (n ≤ 32)) (sym is.row_len) (row_len_by l.plan.wide)

pub tiles_small : (l : Layout) → IsLayout l → l.tiles < 2 ^ 31
tiles_small l is = subst (λ n. n < 2 ^ 31) (sym is.tiles) is.plan.divided.tiles

-- all rows have at most 2^36 bytes
pub rows_small : (l : Layout) → IsLayout l → rows_len_of l ≤ 2 ^ 36
rows_small l is =
    let few : l.tiles ≤ 2 ^ 31 = omega (arith, tiles_small l is) in
    let size : l.row_len * l.tiles ≤ l.row_len * 2 ^ 31 = mul-le-mul_left l.row_len few in
    omega (arith, size, (row_len_small l is).1)

-- the heap begins where a place has 64 bits and room for the heap
pub heap_at_small : (l : Layout) → IsLayout l → (0 < heap_at_of l) × (heap_at_of l ≤ 2 ^ 63 + 2 ^ 36)
heap_at_small l is = (omega (arith, is.behind), omega (arith, is.near, rows_small l is))

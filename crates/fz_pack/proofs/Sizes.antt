-- How large an image and its table are at most.
use Rattle.std.proofs.Common.{ℕ, ◌*◌, ◌^◌, ◌<◌, ◌≤◌, inl, inr, Bool, true, false, ℤ, mul-le-mul_right, sym, subst, arith, if◌then◌else◌}
use Rattle.std.proofs.Math.Nat.{mul-le-mul_left}
use Rattle.fz_grid.specs.Arrays.{product}
use Rattle.fz_grid.specs.Region.{lengths_of}
use Rattle.fz_tile.specs.Pixels.{IsBitpix}
use Rattle.fz_head.specs.Planned.{pixel_len}
use Rattle.fz_image.specs.Layout.{IsLayout, pixel_bytes_of, rows_len_of}
use Rattle.fz_image.specs.declared.layout.Layout.{Layout}

-- a pixel has at most 8 bytes, and at least one
pixel_len_by : (bitpix : ℤ) → IsBitpix bitpix → (1 ≤ pixel_len bitpix) × (pixel_len bitpix ≤ 8)
pixel_len_by bitpix (inl e) = subst (λ b. (1 ≤ pixel_len b) × (pixel_len b ≤ 8)) (sym e) (omega arith, omega arith)
pixel_len_by bitpix (inr (inl e)) = subst (λ b. (1 ≤ pixel_len b) × (pixel_len b ≤ 8)) (sym e) (omega arith, omega arith)
pixel_len_by bitpix (inr (inr (inl e))) = subst (λ b. (1 ≤ pixel_len b) × (pixel_len b ≤ 8)) (sym e) (omega arith, omega arith)
pixel_len_by bitpix (inr (inr (inr e))) = subst (λ b. (1 ≤ pixel_len b) × (pixel_len b ≤ 8)) (sym e) (omega arith, omega arith)

pub pixel_len_some : (l : Layout) → IsLayout l → (1 ≤ l.pixel_len) × (l.pixel_len ≤ 8)
pixel_len_some l is = subst (λ n. (1 ≤ n) × (n ≤ 8)) (sym is.pixel_len) (pixel_len_by l.plan.bitpix is.plan.writable.size)

-- an image has at most 2^43 bytes
pub pixel_bytes_small : (l : Layout) → IsLayout l → pixel_bytes_of l ≤ 2 ^ 43
pixel_bytes_small l is =
    let few : product (lengths_of l.plan.shape) ≤ 2 ^ 40 = is.plan.divided.pixels in
    let size : l.pixel_len * product (lengths_of l.plan.shape) ≤ l.pixel_len * 2 ^ 40 = mul-le-mul_left l.pixel_len few in
    let low : l.pixel_len ≤ 8 = (pixel_len_some l is).1 in
    omega (arith, size, low)

-- a row has at most 32 bytes
row_len_by : (wide : Bool) → (1 ≤ (if wide then 32 else 16)) × ((if wide then 32 else 16) ≤ 32)
row_len_by true = (omega arith, omega arith)
row_len_by false = (omega arith, omega arith)

pub row_len_small : (l : Layout) → IsLayout l → (1 ≤ l.row_len) × (l.row_len ≤ 32)
row_len_small l is = subst (λ n. (1 ≤ n) × (n ≤ 32)) (sym is.row_len) (row_len_by l.plan.wide)

-- rows of a round have room in 4,096 bytes
pub rows_fit : (l : Layout) (count room : ℕ) → IsLayout l → count ≤ 128 → 4096 ≤ room → l.row_len * count ≤ room
rows_fit l count room is few long =
    let one : l.row_len * count ≤ 32 * count = mul-le-mul_right count (row_len_small l is).1 in
    omega (arith, one, few, long)

pub tiles_small : (l : Layout) → IsLayout l → l.tiles < 2 ^ 31
tiles_small l is = subst (λ n. n < 2 ^ 31) (sym is.tiles) is.plan.divided.tiles

-- all rows have at most 2^36 bytes
pub rows_small : (l : Layout) → IsLayout l → rows_len_of l ≤ 2 ^ 36
rows_small l is =
    let few : l.tiles ≤ 2 ^ 31 = omega (arith, tiles_small l is) in
    let size : l.row_len * l.tiles ≤ l.row_len * 2 ^ 31 = mul-le-mul_left l.row_len few in
    omega (arith, size, (row_len_small l is).1)

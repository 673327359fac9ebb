-- How large an image and its table are at most.
use Rattle.std.proofs.Common.{◌+◌, ◌*◌, ◌^◌, ◌<◌, ◌≤◌, Bool, true, false, sym, subst, arith, if◌then◌else◌}
use Rattle.std.proofs.Math.Nat.{mul-le-mul_left}
use Rattle.fz_image.specs.Layout.{IsLayout, heap_at_of, rows_len_of}
use Rattle.fz_image.specs.declared.layout.Layout.{Layout}

-- a row has at most 32 bytes
row_len_by : (wide : Bool) → (1 ≤ (if wide then 32 else 16)) × ((if wide then 32 else 16) ≤ 32)
row_len_by true = (omega arith, omega arith)
row_len_by false = (omega arith, omega arith)

pub row_len_small : (l : Layout) → IsLayout l → (1 ≤ l.row_len) × (l.row_len ≤ 32)
row_len_small l is = subst (λ n. (1 ≤ n) × (n ≤ 32)) (sym is.row_len) (row_len_by l.plan.wide)

pub tiles_small : (l : Layout) → IsLayout l → l.tiles < 2 ^ 31
tiles_small l is = subst (λ n. n < 2 ^ 31) (sym is.tiles) is.plan.divided.tiles

-- all rows have at most 2^36 bytes
pub rows_small : (l : Layout) → IsLayout l → rows_len_of l ≤ 2 ^ 36
rows_small l is =
    let few : l.tiles ≤ 2 ^ 31 = omega (arith, tiles_small l is) in
    let size : l.row_len * l.tiles ≤ l.row_len * 2 ^ 31 = mul-le-mul_left l.row_len few in
    omega (arith, size, (row_len_small l is).1)

-- the heap begins where a place has 64 bits and room for the heap
pub heap_at_small : (l : Layout) → IsLayout l → (0 < heap_at_of l) × (heap_at_of l ≤ 2 ^ 63 + 2 ^ 36)
heap_at_small l is = (omega (arith, is.behind), omega (arith, is.near, rows_small l is))

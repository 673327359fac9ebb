-- An image has at most 2^43 bytes.
use Rattle.std.proofs.Common.{◌≡◌, ◌+◌, ◌*◌, ap, arith}
use Rattle.fz_grid.specs.Arrays.{product}
use Rattle.fz_grid.specs.Region.{lengths_of}
use Rattle.fz_image.specs.Layout.{pixel_bytes_of}
use Rattle.fz_image.specs.declared.layout.Layout.{Layout}
use Rattle.fz_image.proofs.Sizes.{pixel_bytes_small}
use Rattle.fz_image.proofs.layout.Layout.pixels_end.Goals as goal

pub overflow_mul-len : goal.overflow_mul-len
overflow_mul-len c =
    let l : Layout = c.args.self.now in
    let all : c.volume.result ≡ product (lengths_of l.plan.shape) = omega (arith, c.volume.ensures, c.requires.plan.divided.pixels) in
    let size : c.from.result * c.volume.result ≡ pixel_bytes_of l = (λ i. c.from.ensures i * all i) in
    record { fits = omega (arith, size, pixel_bytes_small l c.requires) }

pub overflow_add-result : goal.overflow_add-result
overflow_add-result c =
    let l : Layout = c.args.self.now in
    let all : c.volume.result ≡ product (lengths_of l.plan.shape) = omega (arith, c.volume.ensures, c.requires.plan.divided.pixels) in
    let size : c.from.result * c.volume.result ≡ pixel_bytes_of l = (λ i. c.from.ensures i * all i) in
    record { fits = omega (arith, size, pixel_bytes_small l c.requires, c.requires.pixels) }

pub returns : goal.returns
returns c =
    let l : Layout = c.args.self.now in
    let all : c.volume.result ≡ product (lengths_of l.plan.shape) = omega (arith, c.volume.ensures, c.requires.plan.divided.pixels) in
    ap (λ n. l.pixels_at + n) (λ i. c.from.ensures i * all i)

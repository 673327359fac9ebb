-- The coordinates and the lengths are put before zeros.
use Rattle.std.proofs.Common.{◌≡◌, ℕ, ◌-◌, List, ◌++◌, length, take, drop, replicate, sym, ap, ◌∙◌, arith}
use Rattle.std.proofs.lemmas.List.{drop-replicate, length-take-le}
use Rattle.fz_grid.specs.Region.{lengths_of}
use Rattle.fz_laws.specs.Given.{nine_numbers}
use Rattle.fz_target.proofs.find.region_of.Goals as goal

pub returns : goal.returns
returns c =
    let corner : List ℕ = c.args.corner.now in
    let axes = c.args.axes.now in
    let n : ℕ = length corner in
    let lo : c.copy_from_slice.new.self ++ drop n (replicate 9 0) ≡ nine_numbers corner =
    ap (λ front. front ++ drop n (replicate 9 0)) c.copy_from_slice.ensures.after ∙ ap (λ back. corner ++ back) (drop-replicate n 9 0)
    in
    let lens : c.copy_from_slice-2.new.self ≡ lengths_of axes = c.copy_from_slice-2.ensures.after ∙ ap (λ k. take k axes.len) (sym c.requires.axes) in
    let long : length (lengths_of axes) ≡ n = length-take-le axes.n axes.len (omega (arith, c.requires.axes, c.requires.few)) ∙ c.requires.axes in
    let len : c.copy_from_slice-2.new.self ++ drop n (replicate 9 0) ≡ nine_numbers (lengths_of axes) =
    ap (λ front. front ++ drop n (replicate 9 0)) lens
    ∙ (ap (λ back. lengths_of axes ++ back) (drop-replicate n 9 0)
    ∙ ap (λ k. lengths_of axes ++ replicate (9 - k) 0) (sym long))
    in
    λ i. record { n = c.requires.axes i; lo = lo i; len = len i }

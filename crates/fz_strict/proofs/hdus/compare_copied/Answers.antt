-- `pack` copies the HDU, or not; and nothing is compared after a difference.
use Rattle.std.proofs.Common.{◌≡◌, ℕ, ◌-◌, List, Option, None, IfSome, sym, ap, ◌∙◌, subst}
use Rattle.fz_block.specs.Header.{next_start_of}
use Rattle.fz_job.specs.Again.{header_at_front}
use Rattle.fz_strict.specs.Origins.{IsOrigin, with_copied}
use Rattle.fz_strict.specs.SameImages.{ComparesCopy}
use Rattle.fz_strict.specs.declared.origin.Origin.{Origin}
use Rattle.fz_strict.proofs.CopiesCompared.{copied_none, copied_some}
use Rattle.fz_strict.proofs.hdus.compare_copied.Goals as goal

pub returns-in-Some-clause-compared : goal.returns-in-Some-clause-compared
returns-in-Some-clause-compared c = λ held n told again none.
    let o = c.args.options.now in
    let a = c.args.again.now in
    let allowed : IsOrigin c.in-Some.origin = subst (λ (x : Option Origin). IfSome x IsOrigin) c.in-Some.is c.requires.origin in
    let len : c.next_start.result - a.header.start ≡ next_start_of a.header - a.header.start = ap (λ k. k - a.header.start) c.next_start.ensures in
    let made : c.with_copied.result ≡ with_copied o c.in-Some.origin a.header (header_at_front a c.args.space.now.header) (c.next_start.result - a.header.start) =
    c.with_copied.ensures ∙ ap (λ (l : List ℕ). with_copied o c.in-Some.origin a.header (header_at_front a l) (c.next_start.result - a.header.start)) c.as_slice.ensures in
    subst (λ (x : Option Origin). IfSome held (λ g. ComparesCopy o g a.header x c.with_copied.result)) (sym c.in-Some.is)
    (copied_some held o c.args.space.now.header n (c.next_start.result - a.header.start) a c.in-Some.origin c.with_copied.result told again allowed len made)

pub returns-in-None-clause-compared : goal.returns-in-None-clause-compared
returns-in-None-clause-compared c = λ held n told again none.
    let o = c.args.options.now in
    let h = c.args.again.now.header in
    subst (λ (x : Option Origin). IfSome held (λ g. ComparesCopy o g h x None)) (sym c.in-None.is) (copied_none held o h)

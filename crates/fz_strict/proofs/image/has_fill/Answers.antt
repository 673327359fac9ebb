-- The table ends behind its fill, which is zeros.
use Rattle.std.proofs.Common.{◌≡◌, ℕ, ◌+◌, ◌-◌, ◌≤◌, List, Option, replicate, take, sym, ap, ◌∙◌, arith}
use Rattle.std.proofs.lemmas.List.{length-replicate, length-take}
use Rattle.std.proofs.lemmas.Result.{IfOk-weaker}
use Rattle.fz_block.specs.Header.{whole_blocks_of}
use Rattle.fz_image.specs.Layout.{rows_len_of}
use Rattle.fz_strict.proofs.FillsCompared.{ends_elsewhere, fill_compared, some_zeros}
use Rattle.fz_strict.proofs.Sizes.{heap_at_small, rows_small}
use Rattle.fz_strict.proofs.image.has_fill.Goals as goal

pub overflow_add-len : goal.overflow_add-len
overflow_add-len g c = record { fits = omega (arith, c.rows_len.ensures, rows_small c.args.layout.now c.requires.layout, c.requires.heap) }

pub whole_blocks-whole-requires : goal.whole_blocks-whole-requires
whole_blocks-whole-requires g c = omega (arith, c.rows_len.ensures, rows_small c.args.layout.now c.requires.layout, c.requires.heap)

pub overflow_add-wanted : goal.overflow_add-wanted
overflow_add-wanted g c = record { fits = omega (arith, c.whole_blocks-whole.ensures, c.rows_len.ensures, rows_small c.args.layout.now c.requires.layout, c.requires.heap, c.requires.layout.near) }

pub returns-then-end-wanted-clause-same : goal.returns-then-end-wanted-clause-same
returns-then-end-wanted-clause-same g c =
    let l = c.args.layout.now in
    let heap : ℕ = c.args.heap in
    let whole : c.whole_blocks-whole.result ≡ whole_blocks_of (rows_len_of l + heap) = c.whole_blocks-whole.ensures ∙ ap (λ m. whole_blocks_of (m + heap)) c.rows_len.ensures in
    ends_elsewhere c.args.end l heap (g.S.Source.held c.args.source.now) (λ is. c.if-end-wanted.true (is ∙ ap (λ n. l.rows_at + n) (sym whole)))

pub has_bytes-requires-clause-near : goal.has_bytes-requires-clause-near
has_bytes-requires-clause-near g c =
    omega (arith, c.heap_at.ensures, (heap_at_small c.args.layout.now c.requires.layout).1, c.requires.heap, length-take {A = ℕ}, length-replicate {A = ℕ})

pub returns-clause-same : goal.returns-clause-same
returns-clause-same g c =
    let held : Option (List ℕ) = g.S.Source.held c.args.source.now in
    let l = c.args.layout.now in
    let heap : ℕ = c.args.heap in
    let n : ℕ = rows_len_of l + heap in
    let whole : c.whole_blocks-whole.result ≡ whole_blocks_of n = c.whole_blocks-whole.ensures ∙ ap (λ m. whole_blocks_of (m + heap)) c.rows_len.ensures in
    let m : ℕ = c.whole_blocks-whole.result - (c.rows_len.result + heap) in
    let m_is : m ≡ whole_blocks_of n - n = λ i. whole i - (c.rows_len.ensures i + heap) in
    let few : m ≤ 2880 = omega (arith, m_is) in
    let zeros : take {A = ℕ} m (replicate 2880 0) ≡ replicate (whole_blocks_of n - n) 0 = some_zeros m 2880 few ∙ ap (λ k. replicate k 0) m_is in
    let ends : c.args.end ≡ l.rows_at + whole_blocks_of n = c.if-end-wanted.false ∙ ap (λ k. l.rows_at + k) whole in
    IfOk-weaker c.has_bytes.result _ _
    (λ answer same. fill_compared c.args.end l heap (take {A = ℕ} m (replicate 2880 0)) (c.heap_at.result + heap) answer ends zeros (ap (λ k. k + heap) c.heap_at.ensures) held same)
    c.has_bytes.ensures.same

pub returns-then-end-wanted-clause-read : goal.returns-then-end-wanted-clause-read
returns-then-end-wanted-clause-read g c = c.log_law.ensures.none 0 c.args.end (g.S.Source.ranges c.args.source.now)

pub returns-clause-read : goal.returns-clause-read
returns-clause-read g c =
    c.log_law.ensures.wider _ c.args.end 0 c.args.end (g.S.Source.ranges c.args.source.now) (g.S.Source.ranges c.has_bytes.new.source) (omega arith) (omega arith) c.has_bytes.ensures.read

-- The blocks of a header that are read to a buffer, one after another.
use borrow.Rule.Slice.PartMut.{put_mid}
use Rattle.std.proofs.Common.{◌≡◌, ℕ, ◌+◌, ◌-◌, ◌*◌, ◌≤◌, min, Bool, List, ◌++◌, length, take, drop, Option, Some, None, IfOk, Result, Ok, Err, refl, sym, subst, ◌∙◌, ap, arith}
use Rattle.std.proofs.lemmas.List.{drop-drop, length-append, length-drop, length-take, length-take-le, take_all}
use Rattle.std.proofs.lemmas.Slice.{take-put_mid}
use Rattle.std.proofs.Math.Seq.{take-add}
use Rattle.fz_base.specs.Source.{Reads}
use Rattle.fz_base.specs.Stop.{IfAnswered}
use Rattle.fz_base.specs.declared.failure.Stop.{Stop}
use Rattle.fz_base.specs.declared.failure.Stop.TheVariants.{Refused, ReadFault, WriteFault, OverLimit, NoMemory}
use Rattle.fz_block.specs.Again.{HasBlocks, IsLastBlock}
use Rattle.fz_block.specs.Facts.{IsHeaderOf}
use Rattle.fz_block.specs.declared.header.Header.{Header}
use Rattle.fz_block.proofs.HduLemmas.{blocks_of}

-- bytes of a file, and those after them
pub reads_on : (held : Option (List ℕ)) (start n : ℕ) (front rest : List ℕ) → length front ≡ n → Reads held start front → Reads held (start + n) rest → Reads held start (front ++ rest)
reads_on None start n front rest long first second = tt
reads_on (Some g) start n front rest long first second =
    let there : List ℕ = drop start g in
    let one : front ≡ take n there = first ∙ ap (λ m. take m there) long in
    let two : rest ≡ take (length rest) (drop n there) = second ∙ ap (take (length rest)) (sym (drop-drop n start g)) in
    let size : length (front ++ rest) ≡ n + length rest = length-append front rest ∙ ap (λ m. m + length rest) long in
    (λ i. one i ++ two i) ∙ (sym (take-add n (length rest) there) ∙ ap (λ m. take m there) (sym size))

-- before the first block
pub none_kept : (held : Option (List ℕ)) (start : ℕ) (buf : List ℕ) → HasBlocks held start 0 buf
none_kept None start buf = λ fits. tt
none_kept (Some g) start buf = λ fits. refl

-- a buffer keeps its length if a block in it is written
kept_long : (at : ℕ) (old ys : List ℕ) → at + 2880 ≤ length old → length ys ≡ 2880 → length (put_mid at (at + 2880 - at) old ys) ≡ length old
kept_long at old ys room size = simp (length-append, length-take, length-drop) (omega (arith, size, room))

-- one block more, which was read to its place
pub one_more : (held : Option (List ℕ)) (start b at : ℕ) (old ys : List ℕ) (answer : Result Bool Stop) → at ≡ min (2880 * b) (length old - 2880) → 2880 ≤ length old → length ys ≡ 2880 →
    IfOk answer (λ e. Reads held (start + 2880 * b) ys) → IfOk answer (λ e. HasBlocks held start b old → HasBlocks held start (b + 1) (put_mid at (at + 2880 - at) old ys))
one_more held start b at old ys (Err stop) place room size read = tt
one_more held start b at old ys (Ok has) place room size read = λ before fits.
    let long : length (put_mid at (at + 2880 - at) old ys) ≡ length old = kept_long at old ys (omega (arith, place, room)) size in
    let here : at ≡ 2880 * b = omega (arith, place, fits, long) in
    let some : 2880 * b ≤ length old = omega (arith, fits, long) in
    let parts : take (2880 * (b + 1)) (put_mid at (at + 2880 - at) old ys) ≡ take at old ++ ys =
    take-put_mid at (at + 2880 - at) old ys (2880 * (b + 1)) (omega (arith, here, size)) (omega (arith, here, some)) in
    let same : take (2880 * b) old ++ ys ≡ take (2880 * (b + 1)) (put_mid at (at + 2880 - at) old ys) = ap (λ n. take n old ++ ys) (sym here) ∙ sym parts in
    subst (Reads held start) same (reads_on held start (2880 * b) (take (2880 * b) old) ys (length-take-le (2880 * b) old some) (before some) read)

-- a buffer of one block is the block that was read
pub one_last : (held : Option (List ℕ)) (start b at : ℕ) (old ys : List ℕ) (answer : Result Bool Stop) → at ≡ min (2880 * b) (length old - 2880) → 2880 ≤ length old → length ys ≡ 2880 →
    IfOk answer (λ e. Reads held (start + 2880 * b) ys) → IfOk answer (λ e. IsLastBlock held start (b + 1) (put_mid at (at + 2880 - at) old ys))
one_last held start b at old ys (Err stop) place room size read = tt
one_last held start b at old ys (Ok has) place room size read = λ whole.
    let now : List ℕ = put_mid at (at + 2880 - at) old ys in
    let long : length now ≡ length old = kept_long at old ys (omega (arith, place, room)) size in
    let zero : at ≡ 0 = omega (arith, place, long, whole) in
    let parts : take 2880 now ≡ take at old ++ ys = take-put_mid at (at + 2880 - at) old ys 2880 (omega (arith, zero, size)) (omega (arith, zero)) in
    let all : take 2880 now ≡ now = take_all 2880 now (omega (arith, whole)) in
    let same : ys ≡ now = sym (ap (λ n. take n old ++ ys) zero) ∙ sym parts ∙ all in
    let there : start + 2880 * b ≡ start + (2880 * (b + 1) - 2880) = omega arith in
    subst (λ n. Reads held n now) there (subst (Reads held (start + 2880 * b)) same read)

-- no bytes are read
pub none_read : (held : Option (List ℕ)) (start n : ℕ) (buf : List ℕ) → n ≡ 0 → Reads held start (take n buf)
none_read None start n buf none = tt
none_read (Some g) start n buf none = subst (λ m. take m buf ≡ take (length (take m buf)) (drop start g)) (sym none) refl

-- an answer, whatever it is
pub always_answered : {X P : Type 0} (r : Result X Stop) → P → IfAnswered r P
always_answered (Ok x) is = is
always_answered (Err (Refused y)) is = is
always_answered (Err ReadFault) is = tt
always_answered (Err WriteFault) is = tt
always_answered (Err (OverLimit live asked limit)) is = tt
always_answered (Err NoMemory) is = tt

-- the blocks that were kept are as many as the header has
pub kept_header : (held : Option (List ℕ)) (start n : ℕ) (buf : List ℕ) (h : Header) → HasBlocks held start n buf → 2880 * n ≤ length buf → IsHeaderOf (take (2880 * n) buf) h →
    Reads held start (take (2880 * h.blocks) buf)
kept_header held start n buf h kept fits is =
    let many : 2880 * n ≡ 2880 * h.blocks = sym (length-take-le (2880 * n) buf fits) ∙ blocks_of (take (2880 * n) buf) h is in
    subst (λ m. Reads held start (take m buf)) many (kept fits)

-- and so the facts are those of the blocks that the header says it has
pub kept_facts : (n k start : ℕ) (buf : List ℕ) (h : Header) → 2880 * n ≤ length buf → IsHeaderOf (take (2880 * n) buf) h × (h.hdu ≡ k) × (h.start ≡ start) →
    IsHeaderOf (take (2880 * h.blocks) buf) h × (h.hdu ≡ k) × (h.start ≡ start)
kept_facts n k start buf h fits is =
    let many : 2880 * n ≡ 2880 * h.blocks = sym (length-take-le (2880 * n) buf fits) ∙ blocks_of (take (2880 * n) buf) h is.0 in
    (subst (λ m. IsHeaderOf (take m buf) h) many is.0, is.1, is.2)

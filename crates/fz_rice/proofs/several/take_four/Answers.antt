use Rattle.std.proofs.Common.{◌≡◌, ℕ, ◌+◌, ◌-◌, ◌<◌, length, take, drop, sym, subst, ap, ◌∙◌, arith}
use Rattle.fz_bits.specs.Bits.{number_bits}
use Rattle.fz_bits.specs.Reader.{left}
use Rattle.fz_rice.specs.Reading.{IsPiece}
use Rattle.fz_rice.proofs.SeveralLemmas.{four_stand}
use Rattle.fz_rice.proofs.several.take_four.Goals as goal

pub returns-clause-reads : goal.returns-clause-reads
returns-clause-reads g c =
    let k = c.args.k in
    let old = c.args.reader.now in
    let ahead = c.load.new.reader in
    let a = c.next_piece-a.result in
    let b = c.next_piece-b.result in
    let d = c.next_piece-c.result in
    let e = c.next_piece-d.result in
    let tail : c.args.shape.tail - 1 ≡ k = omega (arith, c.requires.tail) in
    let same : take c.ready.result (number_bits 64 c.word.result) ≡ take c.ready.result (left old) = ap (λ i. take i (number_bits 64 c.word.result)) c.ready.ensures.ready ∙ c.word.ensures ∙ ap (λ i. take i (left ahead)) (sym c.ready.ensures.ready) ∙ ap (take c.ready.result) c.load.ensures.left in
    let piece : (word value width rest : ℕ) → (width < 64 → IsPiece (c.args.shape.tail - 1) word value width rest) → width < 64 → IsPiece k word value width rest = λ word value width rest p near. subst (λ (i : ℕ). IsPiece i word value width rest) tail (p near) in
    (four_stand c.number_law.ensures g.row.W k c.requires.width c.requires.k c.ready.result c.word.result a.value b.value d.value e.value a.width b.width d.width e.width a.rest b.rest d.rest e.rest (left old) (left c.skip.new.self) c.ready.ensures.few (omega (arith, c.ready.ensures.within, ap length c.load.ensures.left)) same c.if-width-ready.false (omega (arith, c.if-width-shape.false, c.requires.most)) (omega (arith, c.next_piece-a.ensures.least, c.requires.tail)) (omega (arith, c.next_piece-b.ensures.least, c.requires.tail)) (omega (arith, c.next_piece-c.ensures.least, c.requires.tail)) (omega (arith, c.next_piece-d.ensures.least, c.requires.tail)) (piece _ _ _ _ c.next_piece-a.ensures.is) (piece _ _ _ _ c.next_piece-b.ensures.is) (piece _ _ _ _ c.next_piece-c.ensures.is) (piece _ _ _ _ c.next_piece-d.ensures.is) (c.skip.ensures.left ∙ ap (drop (a.width + b.width + d.width + e.width)) c.load.ensures.left)).reads

pub returns-clause-a : goal.returns-clause-a
returns-clause-a g c =
    let k = c.args.k in
    let old = c.args.reader.now in
    let ahead = c.load.new.reader in
    let a = c.next_piece-a.result in
    let b = c.next_piece-b.result in
    let d = c.next_piece-c.result in
    let e = c.next_piece-d.result in
    let tail : c.args.shape.tail - 1 ≡ k = omega (arith, c.requires.tail) in
    let same : take c.ready.result (number_bits 64 c.word.result) ≡ take c.ready.result (left old) = ap (λ i. take i (number_bits 64 c.word.result)) c.ready.ensures.ready ∙ c.word.ensures ∙ ap (λ i. take i (left ahead)) (sym c.ready.ensures.ready) ∙ ap (take c.ready.result) c.load.ensures.left in
    let piece : (word value width rest : ℕ) → (width < 64 → IsPiece (c.args.shape.tail - 1) word value width rest) → width < 64 → IsPiece k word value width rest = λ word value width rest p near. subst (λ (i : ℕ). IsPiece i word value width rest) tail (p near) in
    (four_stand c.number_law.ensures g.row.W k c.requires.width c.requires.k c.ready.result c.word.result a.value b.value d.value e.value a.width b.width d.width e.width a.rest b.rest d.rest e.rest (left old) (left c.skip.new.self) c.ready.ensures.few (omega (arith, c.ready.ensures.within, ap length c.load.ensures.left)) same c.if-width-ready.false (omega (arith, c.if-width-shape.false, c.requires.most)) (omega (arith, c.next_piece-a.ensures.least, c.requires.tail)) (omega (arith, c.next_piece-b.ensures.least, c.requires.tail)) (omega (arith, c.next_piece-c.ensures.least, c.requires.tail)) (omega (arith, c.next_piece-d.ensures.least, c.requires.tail)) (piece _ _ _ _ c.next_piece-a.ensures.is) (piece _ _ _ _ c.next_piece-b.ensures.is) (piece _ _ _ _ c.next_piece-c.ensures.is) (piece _ _ _ _ c.next_piece-d.ensures.is) (c.skip.ensures.left ∙ ap (drop (a.width + b.width + d.width + e.width)) c.load.ensures.left)).a_fits

pub returns-clause-b : goal.returns-clause-b
returns-clause-b g c =
    let k = c.args.k in
    let old = c.args.reader.now in
    let ahead = c.load.new.reader in
    let a = c.next_piece-a.result in
    let b = c.next_piece-b.result in
    let d = c.next_piece-c.result in
    let e = c.next_piece-d.result in
    let tail : c.args.shape.tail - 1 ≡ k = omega (arith, c.requires.tail) in
    let same : take c.ready.result (number_bits 64 c.word.result) ≡ take c.ready.result (left old) = ap (λ i. take i (number_bits 64 c.word.result)) c.ready.ensures.ready ∙ c.word.ensures ∙ ap (λ i. take i (left ahead)) (sym c.ready.ensures.ready) ∙ ap (take c.ready.result) c.load.ensures.left in
    let piece : (word value width rest : ℕ) → (width < 64 → IsPiece (c.args.shape.tail - 1) word value width rest) → width < 64 → IsPiece k word value width rest = λ word value width rest p near. subst (λ (i : ℕ). IsPiece i word value width rest) tail (p near) in
    (four_stand c.number_law.ensures g.row.W k c.requires.width c.requires.k c.ready.result c.word.result a.value b.value d.value e.value a.width b.width d.width e.width a.rest b.rest d.rest e.rest (left old) (left c.skip.new.self) c.ready.ensures.few (omega (arith, c.ready.ensures.within, ap length c.load.ensures.left)) same c.if-width-ready.false (omega (arith, c.if-width-shape.false, c.requires.most)) (omega (arith, c.next_piece-a.ensures.least, c.requires.tail)) (omega (arith, c.next_piece-b.ensures.least, c.requires.tail)) (omega (arith, c.next_piece-c.ensures.least, c.requires.tail)) (omega (arith, c.next_piece-d.ensures.least, c.requires.tail)) (piece _ _ _ _ c.next_piece-a.ensures.is) (piece _ _ _ _ c.next_piece-b.ensures.is) (piece _ _ _ _ c.next_piece-c.ensures.is) (piece _ _ _ _ c.next_piece-d.ensures.is) (c.skip.ensures.left ∙ ap (drop (a.width + b.width + d.width + e.width)) c.load.ensures.left)).b_fits

pub returns-clause-c : goal.returns-clause-c
returns-clause-c g c =
    let k = c.args.k in
    let old = c.args.reader.now in
    let ahead = c.load.new.reader in
    let a = c.next_piece-a.result in
    let b = c.next_piece-b.result in
    let d = c.next_piece-c.result in
    let e = c.next_piece-d.result in
    let tail : c.args.shape.tail - 1 ≡ k = omega (arith, c.requires.tail) in
    let same : take c.ready.result (number_bits 64 c.word.result) ≡ take c.ready.result (left old) = ap (λ i. take i (number_bits 64 c.word.result)) c.ready.ensures.ready ∙ c.word.ensures ∙ ap (λ i. take i (left ahead)) (sym c.ready.ensures.ready) ∙ ap (take c.ready.result) c.load.ensures.left in
    let piece : (word value width rest : ℕ) → (width < 64 → IsPiece (c.args.shape.tail - 1) word value width rest) → width < 64 → IsPiece k word value width rest = λ word value width rest p near. subst (λ (i : ℕ). IsPiece i word value width rest) tail (p near) in
    (four_stand c.number_law.ensures g.row.W k c.requires.width c.requires.k c.ready.result c.word.result a.value b.value d.value e.value a.width b.width d.width e.width a.rest b.rest d.rest e.rest (left old) (left c.skip.new.self) c.ready.ensures.few (omega (arith, c.ready.ensures.within, ap length c.load.ensures.left)) same c.if-width-ready.false (omega (arith, c.if-width-shape.false, c.requires.most)) (omega (arith, c.next_piece-a.ensures.least, c.requires.tail)) (omega (arith, c.next_piece-b.ensures.least, c.requires.tail)) (omega (arith, c.next_piece-c.ensures.least, c.requires.tail)) (omega (arith, c.next_piece-d.ensures.least, c.requires.tail)) (piece _ _ _ _ c.next_piece-a.ensures.is) (piece _ _ _ _ c.next_piece-b.ensures.is) (piece _ _ _ _ c.next_piece-c.ensures.is) (piece _ _ _ _ c.next_piece-d.ensures.is) (c.skip.ensures.left ∙ ap (drop (a.width + b.width + d.width + e.width)) c.load.ensures.left)).c_fits

pub returns-clause-d : goal.returns-clause-d
returns-clause-d g c =
    let k = c.args.k in
    let old = c.args.reader.now in
    let ahead = c.load.new.reader in
    let a = c.next_piece-a.result in
    let b = c.next_piece-b.result in
    let d = c.next_piece-c.result in
    let e = c.next_piece-d.result in
    let tail : c.args.shape.tail - 1 ≡ k = omega (arith, c.requires.tail) in
    let same : take c.ready.result (number_bits 64 c.word.result) ≡ take c.ready.result (left old) = ap (λ i. take i (number_bits 64 c.word.result)) c.ready.ensures.ready ∙ c.word.ensures ∙ ap (λ i. take i (left ahead)) (sym c.ready.ensures.ready) ∙ ap (take c.ready.result) c.load.ensures.left in
    let piece : (word value width rest : ℕ) → (width < 64 → IsPiece (c.args.shape.tail - 1) word value width rest) → width < 64 → IsPiece k word value width rest = λ word value width rest p near. subst (λ (i : ℕ). IsPiece i word value width rest) tail (p near) in
    (four_stand c.number_law.ensures g.row.W k c.requires.width c.requires.k c.ready.result c.word.result a.value b.value d.value e.value a.width b.width d.width e.width a.rest b.rest d.rest e.rest (left old) (left c.skip.new.self) c.ready.ensures.few (omega (arith, c.ready.ensures.within, ap length c.load.ensures.left)) same c.if-width-ready.false (omega (arith, c.if-width-shape.false, c.requires.most)) (omega (arith, c.next_piece-a.ensures.least, c.requires.tail)) (omega (arith, c.next_piece-b.ensures.least, c.requires.tail)) (omega (arith, c.next_piece-c.ensures.least, c.requires.tail)) (omega (arith, c.next_piece-d.ensures.least, c.requires.tail)) (piece _ _ _ _ c.next_piece-a.ensures.is) (piece _ _ _ _ c.next_piece-b.ensures.is) (piece _ _ _ _ c.next_piece-c.ensures.is) (piece _ _ _ _ c.next_piece-d.ensures.is) (c.skip.ensures.left ∙ ap (drop (a.width + b.width + d.width + e.width)) c.load.ensures.left)).d_fits

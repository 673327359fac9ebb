-- Slot 0 of a window that has the code of a tile.
use Rattle.std.proofs.lemmas.Option.{get_or_from_slice_get}
use Rattle.fz_target.specs.Tiles.{IsFirstOf}
use Rattle.fz_target.proofs.CodeSlots.{code_in}
use Rattle.fz_target.proofs.walk.code_slot.Goals as goal

pub returns-clause-first : goal.returns-clause-first
returns-clause-first c = λ d. get_or_from_slice_get c.args.window.now.slots 0 c.slot.result.now d c.slot.ensures

pub returns-clause-within : goal.returns-clause-within
returns-clause-within c =
    let first : IsFirstOf c.args.window.now c.slot.result.now = λ d. get_or_from_slice_get c.args.window.now.slots 0 c.slot.result.now d c.slot.ensures in
    (code_in c.column_law.ensures c.args.target.now.image.plan c.requires.code.0 c.args.window.now c.slot.result.now c.requires.target.writable c.requires.code.1 first).within

pub returns-clause-some : goal.returns-clause-some
returns-clause-some c =
    let first : IsFirstOf c.args.window.now c.slot.result.now = λ d. get_or_from_slice_get c.args.window.now.slots 0 c.slot.result.now d c.slot.ensures in
    (code_in c.column_law.ensures c.args.target.now.image.plan c.requires.code.0 c.args.window.now c.slot.result.now c.requires.target.writable c.requires.code.1 first).some

pub returns-clause-most : goal.returns-clause-most
returns-clause-most c =
    let first : IsFirstOf c.args.window.now c.slot.result.now = λ d. get_or_from_slice_get c.args.window.now.slots 0 c.slot.result.now d c.slot.ensures in
    (code_in c.column_law.ensures c.args.target.now.image.plan c.requires.code.0 c.args.window.now c.slot.result.now c.requires.target.writable c.requires.code.1 first).most

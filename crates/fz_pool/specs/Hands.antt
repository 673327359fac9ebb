-- What a worker's hand holds.
use Rattle.std.specs.Prelude.{◌≡◌, ℕ, Bool, [], ◌∷◌, Option, Some}
use mathlib.Core.Option.{some}
use lib.ListN.{get_elem?}
use Rattle.atomic_table.specs.Seated.{TableId}
use Rattle.atomic_table.specs.declared.shared.Seat.{Seat}
use Rattle.fz_pool.specs.declared.slot.Slot.{Slot}
use Rattle.fz_pool.specs.declared.board.TableKey.{TableKey}
use Rattle.fz_pool.specs.declared.board.View.{View}
use Rattle.fz_pool.specs.declared.board.Turn.TheVariants.{Idle, Tile, Ended, Lead}
use Rattle.fz_pool.specs.declared.task.Task.{Task}
use Rattle.fz_pool.specs.Slots.{IsReady, IsResult}
use Rattle.fz_pool.specs.Running.{starts_of}

abbrev pub Hand : Type 0
Hand = Seat (Option Slot) View

-- the hand is a seat of this table, which has one word
abbrev pub IsSeatOf : TableId → Hand → Type 0
IsSeatOf table h = (h.table_id ≡ table) × (table.words ≡ 1)

-- the hand has nothing to do yet
pub record IsIdle (h : Hand) : Type 0 where
  pub turn : h.me.0.turn ≡ Idle
  pub held : h.me.1 ≡ []

-- the last draw found no tile left
pub record HasEnded (h : Hand) : Type 0 where
  pub turn : h.me.0.turn ≡ Ended
  pub held : h.me.1 ≡ []

-- the hand has drawn the tile i, and holds its slot with its start
pub record HoldsStart (h : Hand) (i : ℕ) : Type 0 where
  pub turn : h.me.0.turn ≡ Tile i
  pub slot : Slot
  pub at : get_elem? h.me.0.starts i ≡ some slot
  pub ready : IsReady h.me.0.task slot
  pub held : h.me.1 ≡ (i, Some slot) ∷ []

-- the same, with the slot's result
pub record HoldsResult (h : Hand) (i : ℕ) : Type 0 where
  pub turn : h.me.0.turn ≡ Tile i
  pub slot : Slot
  pub at : get_elem? h.me.0.starts i ≡ some slot
  pub after : Slot
  pub result : IsResult h.me.0.task slot after
  pub held : h.me.1 ≡ (i, Some after) ∷ []

-- a worker's hand before its first draw, for the slots that its table was made for
pub record IsSeated (table : TableId) (key : TableKey) (task : Task) (h : Hand) : Type 0 where
  pub at : h.table_id ≡ table
  pub has_starts : h.me.0.starts ≡ starts_of key
  pub task_is : h.me.0.task ≡ task
  pub idle : IsIdle h

-- a worker's hand after its last draw
pub record IsBack (table : TableId) (h : Hand) : Type 0 where
  pub at : h.table_id ≡ table
  pub ended : HasEnded h

-- the first seat may still split off so many hands, and so many are not joined again
pub record Leads (table : TableId) (key : TableKey) (task : Task) (left unjoined : ℕ) (late : Bool) (h : Hand) : Type 0 where
  pub at : h.table_id ≡ table
  pub has_starts : h.me.0.starts ≡ starts_of key
  pub task_is : h.me.0.task ≡ task
  pub turn : h.me.0.turn ≡ Lead left unjoined late

-- a seat of the same table and number, for the same slots
pub record IsSame (h h' : Hand) : Type 0 where
  pub table : h'.table_id ≡ h.table_id
  pub id : h'.id ≡ h.id
  pub starts : h'.me.0.starts ≡ h.me.0.starts
  pub workers : h'.me.0.workers ≡ h.me.0.workers
  pub task : h'.me.0.task ≡ h.me.0.task

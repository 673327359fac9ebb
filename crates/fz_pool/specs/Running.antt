-- The rule of the running window, and what each step shows.
use Rattle.std.specs.Prelude.{◌≡◌, ◌≢◌, ◌⊎◌, ℕ, ◌+◌, ◌-◌, ◌<◌, ◌≤◌, Bool, true, false, List, [], ◌∷◌, take, length, slice_index, Option, Some, None}
use mathlib.Core.Option.{some, none}
use mathlib.Core.Option as maybe
use lib.ListN.{get_elem?}
use Rattle.atomic_table.specs.Table.{State, Me, Step, rest}
use Rattle.fz_pool.specs.declared.slot.Slot.{Slot}
use Rattle.fz_pool.specs.declared.board.TableKey.{TableKey}
use Rattle.fz_pool.specs.declared.board.View.{View}
use Rattle.fz_pool.specs.declared.board.Turn.{Turn}
use Rattle.fz_pool.specs.declared.board.Turn.TheVariants.{Idle, Tile, Ended, Spent, Lead}
use Rattle.fz_pool.specs.declared.task.Task.{Task}
use Rattle.fz_pool.specs.declared.task.Task.TheVariants.{Decode}
use Rattle.fz_pool.specs.Slots.{IsReady, IsResult}
use Rattle.fz_pool.specs.WindowCore.{Event, start, out, done, WindowState, first_state, AreEvents, last_state}

-- the slots that are worked on, as they were
abbrev pub starts_of : TableKey → List Slot
starts_of key = take key.count key.slots.value.items

abbrev pub turned_to : View → Turn → View
turned_to v t = record v { turn = t }

-- the view of the first seat before any split
abbrev pub leading : List Slot → ℕ → Task → View
leading starts workers task = record { starts = starts; workers = workers; task = task; turn = Lead workers 0 false; seen = 0 }

-- a seat that was not joined away
abbrev pub is_unjoined : Turn → ℕ
is_unjoined Idle = 1
is_unjoined (Tile k) = 1
is_unjoined Ended = 1
is_unjoined Spent = 0
is_unjoined (Lead left n late) = 0

-- a seat whose last draw found no tile left
abbrev pub is_finished : Turn → ℕ
is_finished Idle = 0
is_finished (Tile k) = 0
is_finished Ended = 1
is_finished Spent = 1
is_finished (Lead left n late) = 0

-- the same over all views, added up
abbrev pub total : (Turn → ℕ) → List View → ℕ
total f [] = 0
total f (v ∷ vs) = f v.turn + total f vs

-- the tile of a turn
abbrev pub tile_of : Turn → Option ℕ
tile_of Idle = None
tile_of (Tile k) = Some k
tile_of Ended = None
tile_of Spent = None
tile_of (Lead left n late) = None

abbrev pub tile_if : maybe.Option View → Option ℕ
tile_if none = None
tile_if (some v) = tile_of v.turn

-- the tile that is the turn of each seat
abbrev pub turns : List View → ℕ → Option ℕ
turns views j = tile_if (get_elem? views j)

-- The ticket and the seats' turns show this state of the core, for so many tiles, if the worker w has the seat w + 1
pub record Shows (count ticket : ℕ) (turn : ℕ → Option ℕ) (s : WindowState) : Type 0 where
  -- the next tile is the same
  pub next : s.ticket ≡ ticket
  -- each worker holds the tile that is its seat's turn
  pub held : (w : ℕ) → s.held w ≡ turn (w + 1)
  -- a tile that was not drawn has its start
  pub at_start : (k : ℕ) → ticket ≤ k → s.tiles k ≡ start
  -- a seat's tile is out
  pub is_turn : (j k : ℕ) → turn j ≡ Some k → s.tiles k ≡ out
  -- any other tile that was drawn is done
  pub otherwise : (k : ℕ) → k < ticket → k < count → ((j : ℕ) → turn j ≢ Some k) → s.tiles k ≡ done k

-- there is a list of events that leads to such a state
pub record HasStory (workers count ticket : ℕ) (turn : ℕ → Option ℕ) : Type 0 where
  pub events : List Event
  pub are : AreEvents workers count (λ k. k) first_state events
  pub shows : Shows count ticket turn (last_state workers count (λ k. k) first_state events)

-- for the slots' starts, the number of workers, and what is done with the slots
module _ (starts : List Slot) (workers : ℕ) (task : Task) where
  -- the view holds the same as the key
  pub record HasKey (v : View) : Type 0 where
    pub has_starts : v.starts ≡ starts
    pub has_workers : v.workers ≡ workers
    pub has_task : v.task ≡ task

  -- what is known of the view of the seat j, by its turn
  abbrev pub Knows : ℕ → ℕ → View → Turn → Type 0
  Knows ticket j v Idle = HasKey v × (0 < j) × (v.seen ≤ ticket)
  Knows ticket j v (Tile k) = HasKey v × (0 < j) × (v.seen ≤ ticket) × (k < ticket) × (k < length starts)
  Knows ticket j v Ended = HasKey v × (0 < j) × (v.seen ≤ ticket) × (length starts ≤ ticket)
  Knows ticket j v Spent = 0 < j
  Knows ticket j v (Lead left n late) = HasKey v × (j ≡ 0) × (v.seen ≤ ticket) × (late ≡ true → length starts ≤ ticket)

  -- Of a tile that was drawn: it is a seat's turn, or its slot is at home with its result
  abbrev pub Gone : (ℕ → Option ℕ) → List (maybe.Option (Option Slot)) → ℕ → Type 0
  Gone turn homes k = ((j : ℕ) × (turn j ≡ Some k))
      ⊎ ((x y : Slot) × (get_elem? starts k ≡ some x) × (get_elem? homes k ≡ some (some (Some y))) × IsResult task x y)

  -- the first seat's view counts the others
  pub record Led (views : List View) : Type 0 where
    -- how many seats may still be split off
    pub left : ℕ
    -- how many were split off and not joined again
    pub n : ℕ
    -- whether one was joined again
    pub late : Bool
    -- the first seat's view
    pub view : View
    pub at : get_elem? views 0 ≡ some view
    pub turn : view.turn ≡ Lead left n late
    pub are_unjoined : n ≡ total is_unjoined views
    pub all : left + length views ≡ workers + 1

  -- the rule
  pub record Kept (s : State (Option Slot) View) : Type 0 where
    -- the number of the next tile
    pub ticket : ℕ
    -- the first word of the table is that number
    pub word : slice_index s.words 0 ≡ ticket
    -- the table has no other word
    pub wide : length s.words ≡ 1
    -- it has a place for each slot that is worked on
    pub deep : length s.homes ≡ length starts
    -- there are at most 128 such slots, and 1 to 64 workers
    pub small : (length starts ≤ 128) × (0 < workers) × (workers ≤ 64)
    -- each slot was ready for its call
    pub ready : (k : ℕ) (x : Slot) → get_elem? starts k ≡ some x → IsReady task x
    -- each seat's view is true
    pub each : (j : ℕ) (v : View) → get_elem? s.views j ≡ some v → Knows ticket j v v.turn
    -- no two seats have the same tile
    pub apart : (i j k : ℕ) → turns s.views i ≡ Some k → turns s.views j ≡ Some k → i ≡ j
    -- the first seat counts the others
    pub led : Led s.views
    -- each draw beyond the last tile is the last one of its seat
    pub tickets : ticket ≤ length starts + total is_finished s.views
    -- the slot of a tile that was not drawn is at home as it was
    pub fresh : (k : ℕ) (x : Slot) → ticket ≤ k → get_elem? starts k ≡ some x → get_elem? s.homes k ≡ some (some (Some x))
    -- a tile that was drawn is a seat's, or its slot is at home with its result
    pub gone : (k : ℕ) → k < ticket → k < length starts → Gone (turns s.views) s.homes k
    -- the slot of a seat's tile is not at home
    pub away : (j k : ℕ) → turns s.views j ≡ Some k → get_elem? s.homes k ≡ some none
    -- a list of events of the core leads to this ticket and these turns
    pub story : HasStory workers (length starts) ticket (turns s.views)

-- what a seat knows, and the slots that it holds
abbrev pub SeatState : Type 0
SeatState = Me (Option Slot) View

-- the word and the slots that a step is made on
abbrev pub StepAt : Type 0
StepAt = Step (Option Slot)

-- a draw that found the word n, which is the number of a tile: the seat gets it with its slot
pub record DrewTile (m : SeatState) (n : ℕ) (m' : SeatState) : Type 0 where
  pub view : m'.0 ≡ record m.0 { turn = Tile n; seen = n + 1 }
  pub slot : Slot
  pub at : get_elem? m.0.starts n ≡ some slot
  pub ready : IsReady m.0.task slot
  pub held : m'.1 ≡ (n, Some slot) ∷ m.1

-- a draw that found the word n and no tile of this number
pub record DrewNone (m : SeatState) (n : ℕ) (m' : SeatState) : Type 0 where
  pub view : m'.0 ≡ record m.0 { turn = Ended; seen = n + 1 }
  pub held : m'.1 ≡ m.1

-- what a draw shows: a tile if one was left, otherwise none
pub record TellsDraw (st : StepAt) (m : SeatState) (n : ℕ) (m' : SeatState) : Type 0 where
  pub slots : st.slots ≡ length m.0.starts
  pub few : st.slots ≤ 128
  pub seen : m.0.seen ≤ n
  pub tile : n < st.slots → DrewTile m n m'
  pub late : st.slots ≤ n → DrewNone m n m'

-- the slot went home
abbrev pub TellsHome : StepAt → SeatState → ℕ → SeatState → Type 0
TellsHome st m n m' = m' ≡ (turned_to m.0 Idle, rest m.1)

-- a seat is split off
abbrev pub turn_after_split : Turn → Turn
turn_after_split (Lead left n late) = Lead (left - 1) (n + 1) late
turn_after_split t = t

abbrev pub view_after_split : View → View
view_after_split v = turned_to v (turn_after_split v.turn)

abbrev pub new_view : View → View
new_view v = record v { turn = Idle; seen = 0 }

-- a seat is joined
abbrev pub turn_after_join : Turn → Turn
turn_after_join (Lead left n late) = Lead left (n - 1) true
turn_after_join t = t

abbrev pub view_after_join : View → View → View
view_after_join v w = turned_to v (turn_after_join v.turn)

abbrev pub joined_view : View
joined_view = record { starts = []; workers = 0; task = Decode; turn = Spent; seen = 0 }

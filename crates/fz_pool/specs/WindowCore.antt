-- The core of the window as plain data. Workers draw tiles by ticket and put them back done, one event
-- after another, in whatever order they come.
use Rattle.std.specs.Prelude.{◌≡◌, ℕ, ◌+◌, ◌<◌, ◌≤◌, ◌==◌, nat_lt, Bool, true, false, List, [], ◌∷◌, Option, Some, None, IsSome, if◌then◌else◌}

-- the worker of this number draws a tile, or puts back the tile that it holds
pub data Event : Type 0 where
  draw : ℕ → Event
  put : ℕ → Event

-- a tile has its start, is out with a worker, or is done with a result
pub data TileState : Type 0 where
  start : TileState
  out : TileState
  done : ℕ → TileState

-- the next ticket, the tile that each worker holds, and what each tile is
pub record WindowState : Type 0 where
  pub ticket : ℕ
  pub held : ℕ → Option ℕ
  pub tiles : ℕ → TileState

-- at first nothing is drawn
abbrev pub first_state : WindowState
first_state = record { ticket = 0; held = λ _. None; tiles = λ _. start }

-- the same but for the value at i
abbrev pub changed : {A : Type 0} → (ℕ → A) → ℕ → A → ℕ → A
changed f i x j = if j == i then x else f j

-- the worker holds the tile k
abbrev pub is_tile : ℕ → Option ℕ → Bool
is_tile k None = false
is_tile k (Some j) = j == k

-- for so many workers and tiles, and the result of each tile's job
module _ (workers count : ℕ) (result : ℕ → ℕ) where
  -- the ticket grows by 1, and if there was a tile of this number the worker w holds it
  abbrev pub drawn : WindowState → ℕ → Bool → WindowState
  drawn s w true = record { ticket = s.ticket + 1; held = changed s.held w (Some s.ticket); tiles = changed s.tiles s.ticket out }
  drawn s w false = record { ticket = s.ticket + 1; held = s.held; tiles = s.tiles }

  -- the worker w holds nothing any more, and the tile that it held is done with the result of its own job
  abbrev pub put_back : WindowState → ℕ → Option ℕ → WindowState
  put_back s w None = s
  put_back s w (Some k) = record { ticket = s.ticket; held = changed s.held w None; tiles = changed s.tiles k (done (result k)) }

  abbrev pub after : WindowState → Event → WindowState
  after s (draw w) = drawn s w (nat_lt s.ticket count)
  after s (put w) = put_back s w (s.held w)

  -- a worker that holds nothing may draw, and one that holds a tile may put it back
  abbrev pub MayCome : WindowState → Event → Type 0
  MayCome s (draw w) = (w < workers) × (s.held w ≡ None)
  MayCome s (put w) = (w < workers) × IsSome (s.held w)

  -- each event may come where it is
  abbrev pub AreEvents : WindowState → List Event → Type 0
  AreEvents s [] = Unit {0}
  AreEvents s (e ∷ es) = MayCome s e × AreEvents (after s e) es

  abbrev pub last_state : WindowState → List Event → WindowState
  last_state s [] = s
  last_state s (e ∷ es) = last_state (after s e) es

  -- how often the tile k is drawn
  abbrev pub draws_of : ℕ → WindowState → List Event → ℕ
  draws_of k s [] = 0
  draws_of k s (draw w ∷ es) = (if s.ticket == k then 1 else 0) + draws_of k (after s (draw w)) es
  draws_of k s (put w ∷ es) = draws_of k (after s (put w)) es

  -- how often the tile k is put back done
  abbrev pub puts_of : ℕ → WindowState → List Event → ℕ
  puts_of k s [] = 0
  puts_of k s (draw w ∷ es) = puts_of k (after s (draw w)) es
  puts_of k s (put w ∷ es) = (if is_tile k (s.held w) then 1 else 0) + puts_of k (after s (put w)) es

  -- how many draws found no tile left
  abbrev pub late_draws : WindowState → List Event → ℕ
  late_draws s [] = 0
  late_draws s (draw w ∷ es) = (if nat_lt s.ticket count then 0 else 1) + late_draws (after s (draw w)) es
  late_draws s (put w ∷ es) = late_draws (after s (put w)) es

  -- the ticket of the last draw of the worker w, and `before` if it does not draw
  abbrev pub last_ticket : ℕ → Option ℕ → WindowState → List Event → Option ℕ
  last_ticket w before s [] = before
  last_ticket w before s (draw v ∷ es) = last_ticket w (if v == w then Some s.ticket else before) (after s (draw v)) es
  last_ticket w before s (put v ∷ es) = last_ticket w before (after s (put v)) es

  -- from the first state, and the last draw of each worker found no tile left
  abbrev pub IsComplete : List Event → Type 0
  IsComplete es = AreEvents first_state es × ((w : ℕ) → w < workers → (t : ℕ) × (last_ticket w None first_state es ≡ Some t) × (count ≤ t))

-- A step of the table, as an event of the core.
use Rattle.std.proofs.Common.{◌≡◌, ◌≢◌, ◌⊎◌, ℕ, ◌+◌, ◌-◌, ◌<◌, ◌≤◌, true, false, List, [], ◌∷◌, ◌++◌, Option, Some, None, IsSome, inl, inr, ⊎_elim, refl, sym, ap, ◌∙◌, subst, arith}
use Rattle.std.proofs.lemmas.Bool.{lt-ltb, le-ltb}
use Rattle.fz_pool.specs.WindowCore.{Event, draw, put, out, done, WindowState, first_state, changed, drawn, put_back, after, MayCome, AreEvents, last_state}
use Rattle.fz_pool.specs.Running.{Shows, HasStory}
use Rattle.fz_pool.proofs.CoreLemmas.{either_way, changed_here, changed_else, no_tile, one_tile}

module _ (workers count : ℕ) where
  abbrev R : ℕ → ℕ
  R k = k

  abbrev Are : WindowState → List Event → Type 0
  Are = AreEvents workers count R

  abbrev last : WindowState → List Event → WindowState
  last = last_state workers count R

  last_more : (s : WindowState) (es : List Event) (e : Event) → last s (es ++ e ∷ []) ≡ after workers count R (last s es) e
  last_more s [] e = refl
  last_more s (d ∷ es) e = last_more (after workers count R s d) es e

  are_more : (s : WindowState) (es : List Event) (e : Event) → Are s es → MayCome workers count R (last s es) e → Are s (es ++ e ∷ [])
  are_more s [] e are may = (may, tt)
  are_more s (d ∷ es) e are may = (are.0, are_more (after workers count R s d) es e are.1 may)

  -- one event more
  told : (t t' : ℕ) (f f' : ℕ → Option ℕ) (h : HasStory workers count t f) (e : Event) → MayCome workers count R (last first_state h.events) e
      → Shows count t' f' (after workers count R (last first_state h.events) e) → HasStory workers count t' f'
  told t t' f f' h e may shows = record {
    events = h.events ++ e ∷ [];
    are = are_more first_state h.events e h.are may;
    shows = subst (λ s. Shows count t' f' s) (sym (last_more first_state h.events e)) shows;
  }

  -- the worker of a seat
  worker_of : (id : ℕ) → 0 < id → (id - 1) + 1 ≡ id
  worker_of id some = omega arith

  other_seat : (w id : ℕ) → 0 < id → w ≢ id - 1 → w + 1 ≢ id
  other_seat w id some n e = n (omega arith)

  held_here : (f : ℕ → Option ℕ) (s : WindowState) (id : ℕ) → 0 < id → ((w : ℕ) → s.held w ≡ f (w + 1)) → s.held (id - 1) ≡ f id
  held_here f s id some h = h (id - 1) ∙ ap f (worker_of id some)

  -- the seats' turns after the seat id has another turn
  held_after : (f : ℕ → Option ℕ) (s : WindowState) (id : ℕ) (x : Option ℕ) → 0 < id → ((w : ℕ) → s.held w ≡ f (w + 1)) → (w : ℕ) → changed s.held (id - 1) x w ≡ changed f id x (w + 1)
  held_after f s id x some h w = ⊎_elim
      (λ (e : w ≡ id - 1). ap (changed s.held (id - 1) x) e ∙ (changed_here s.held (id - 1) x ∙ (sym (changed_here f id x) ∙ ap (changed f id x) (sym (ap (λ z. z + 1) e ∙ worker_of id some)))))
      (λ (n : w ≢ id - 1). changed_else s.held (id - 1) x w n ∙ (h w ∙ sym (changed_else f id x (w + 1) (other_seat w id some n))))
      (either_way w (id - 1))

  -- what a seat's turn was, where the seat id has the turn x now
  turn_was : (f : ℕ → Option ℕ) (id : ℕ) (x : Option ℕ) (j k : ℕ) → changed f id x j ≡ Some k → ((j ≡ id) × (x ≡ Some k)) ⊎ ((j ≢ id) × (f j ≡ Some k))
  turn_was f id x j k e = ⊎_elim
      (λ (h : j ≡ id). inl (h, sym (changed_here f id x) ∙ (ap (changed f id x) (sym h) ∙ e)))
      (λ (h : j ≢ id). inr (h, sym (changed_else f id x j h) ∙ e))
      (either_way j id)

  pub draws_tile : (t id : ℕ) (f : ℕ → Option ℕ) → HasStory workers count t f → 0 < id → id < workers + 1 → f id ≡ None
      → ((j k : ℕ) → f j ≡ Some k → k < t) → t < count → HasStory workers count (t + 1) (changed f id (Some t))
  draws_tile t id f h some near idle below left =
      let s : WindowState = last first_state h.events in let shows = h.shows in let w : ℕ = id - 1 in
      let next : s.ticket ≡ t = shows.next in
      let free : s.held w ≡ None = held_here f s id some shows.held ∙ idle in
      let x : Option ℕ = Some t in
      let found : Option ℕ = Some s.ticket in
      let same : found ≡ x = ap Some next in
      let s' : WindowState = drawn workers count R s w true in
      let else_tiles = changed_else s.tiles s.ticket out in
      let after_is : Shows count (t + 1) (changed f id x) s' = record {
        next = omega arith;
        held = λ u. ap (λ o. changed s.held w o u) same ∙ held_after f s id x some shows.held u;
        at_start = λ k l. else_tiles k (λ e. omega arith) ∙ shows.at_start k (omega arith);
        is_turn = λ j k e. ⊎_elim
            (λ (p : (j ≡ id) × (x ≡ Some k)). let at : t ≡ k = one_tile t k p.1 in ap (changed s.tiles s.ticket out) (sym (next ∙ at)) ∙ changed_here s.tiles s.ticket out)
            (λ (p : (j ≢ id) × (f j ≡ Some k)). let l = below j k p.1 in else_tiles k (λ z. omega arith) ∙ shows.is_turn j k p.1)
            (turn_was f id x j k e);
        otherwise = λ k l near_k no. let other : k ≢ t = λ z. no id (changed_here f id x ∙ ap Some (sym z)) in
            else_tiles k (λ z. other (z ∙ next)) ∙ shows.otherwise k (⊎_elim (λ (z : k ≡ t). absurd (other z)) (λ (z : k ≢ t). omega arith) (either_way k t)) near_k
            (λ j e. no j (changed_else f id x j (λ z. no_tile k (sym idle ∙ (ap f (sym z) ∙ e))) ∙ e));
      } in
      told t (t + 1) f (changed f id x) h (draw w) (omega arith, free)
      (subst (λ b. Shows count (t + 1) (changed f id x) (drawn workers count R s w b)) (sym (lt-ltb s.ticket count (omega arith))) after_is)

  pub draws_none : (t id : ℕ) (f : ℕ → Option ℕ) → HasStory workers count t f → 0 < id → id < workers + 1 → f id ≡ None → count ≤ t → HasStory workers count (t + 1) (changed f id None)
  draws_none t id f h some near idle late =
      let s : WindowState = last first_state h.events in let shows = h.shows in let w : ℕ = id - 1 in
      let next : s.ticket ≡ t = shows.next in
      let free : s.held w ≡ None = held_here f s id some shows.held ∙ idle in
      let as_before : (j : ℕ) → changed f id None j ≡ f j = λ j. ⊎_elim
      (λ (z : j ≡ id). ap (changed f id None) z ∙ (changed_here f id None ∙ (sym idle ∙ ap f (sym z))))
      (λ (z : j ≢ id). changed_else f id None j z)
      (either_way j id) in
      let after_is : Shows count (t + 1) (changed f id None) (drawn workers count R s w false) = record {
        next = omega arith;
        held = λ u. shows.held u ∙ sym (as_before (u + 1));
        at_start = λ k l. shows.at_start k (omega arith);
        is_turn = λ j k e. shows.is_turn j k (sym (as_before j) ∙ e);
        otherwise = λ k l near_k no. shows.otherwise k (omega arith) near_k (λ j e. no j (as_before j ∙ e));
      } in
      told t (t + 1) f (changed f id None) h (draw w) (omega arith, free)
      (subst (λ b. Shows count (t + 1) (changed f id None) (drawn workers count R s w b)) (sym (le-ltb s.ticket count (omega arith))) after_is)

  is_there : (o : Option ℕ) (k : ℕ) → o ≡ Some k → IsSome o
  is_there o k e = subst IsSome (sym e) refl

  pub puts_tile : (t id k : ℕ) (f : ℕ → Option ℕ) → HasStory workers count t f → 0 < id → id < workers + 1 → f id ≡ Some k → k < t
      → ((i j n : ℕ) → f i ≡ Some n → f j ≡ Some n → i ≡ j) → HasStory workers count t (changed f id None)
  puts_tile t id k f h some near mine below apart =
      let s : WindowState = last first_state h.events in let shows = h.shows in let w : ℕ = id - 1 in
      let holds : s.held w ≡ Some k = held_here f s id some shows.held ∙ mine in
      let s' : WindowState = put_back workers count R s w (Some k) in
      let else_tiles = changed_else s.tiles k (done k) in
      let after_is : Shows count t (changed f id None) s' = record {
        next = shows.next;
        held = held_after f s id None some shows.held;
        at_start = λ j l. else_tiles j (λ z. omega arith) ∙ shows.at_start j l;
        is_turn = λ i j e. ⊎_elim
            (λ (p : (i ≡ id) × (None ≡ Some j)). absurd (no_tile j p.1))
            (λ (p : (i ≢ id) × (f i ≡ Some j)). else_tiles j (λ z. p.0 (apart i id j p.1 (mine ∙ ap Some (sym z)))) ∙ shows.is_turn i j p.1)
            (turn_was f id None i j e);
        otherwise = λ j l near_j no. ⊎_elim
            (λ (z : j ≡ k). subst (λ i. changed s.tiles k (done k) i ≡ done i) (sym z) (changed_here s.tiles k (done k)))
            (λ (z : j ≢ k). else_tiles j z ∙ shows.otherwise j l near_j (λ i e. no i (changed_else f id None i (λ y. z (one_tile j k (sym e ∙ (ap f y ∙ mine)))) ∙ e)))
            (either_way j k);
      } in
      told t t f (changed f id None) h (put w) (omega arith, is_there (s.held w) k holds)
      (subst (λ o. Shows count t (changed f id None) (put_back workers count R s w o)) (sym holds) after_is)

  pub no_story : HasStory workers count 0 (λ _. None)
  no_story = record {
    events = [];
    are = tt;
    shows = record { next = refl; held = λ w. refl; at_start = λ k l. refl; is_turn = λ j k e. absurd (no_tile k e); otherwise = λ k l near no. absurd (omega arith) };
  }

-- What holds of every list of events.
use Rattle.std.proofs.Common.{◌≡◌, ◌≢◌, ◌⊎◌, ℕ, ◌+◌, ◌<◌, ◌≤◌, eqb, ltb, cond, max, Bool, true, false, List, [], ◌∷◌, Option, Some, None, inl, inr, ⊎_elim, refl, sym, ap, ◌∙◌, subst, arith, eq-eqb, ne_eqb}
use Rattle.std.proofs.lemmas.Bool.{ltb-true, ltb-false}
use mathlib.Core.Logic.{dite}
use native.Mathlib.Decide.{ℕ_discrete}
use Rattle.fz_pool.specs.WindowCore.{Event, draw, put, TileState, start, out, done, WindowState, first_state, changed, is_tile, drawn, put_back, after, MayCome, AreEvents, last_state, draws_of, puts_of, late_draws, last_ticket, IsComplete}

pub either_way : (i j : ℕ) → (i ≡ j) ⊎ (i ≢ j)
either_way i j = dite (ℕ_discrete i j) inl inr

pub changed_here : {A : Type 0} (f : ℕ → A) (i : ℕ) (x : A) → changed f i x i ≡ x
changed_here f i x = ap (λ b. cond b x (f i)) (eq-eqb i i refl)

pub changed_else : {A : Type 0} (f : ℕ → A) (i : ℕ) (x : A) (j : ℕ) → j ≢ i → changed f i x j ≡ f j
changed_else f i x j n = ap (λ b. cond b x (f j)) (ne_eqb j i n)

pub no_tile : (k : ℕ) → None ≡ Some k → ⊥
no_tile k e = cc

pub one_tile : (j k : ℕ) → Some j ≡ Some k → j ≡ k
one_tile j k e = cc

not_done : (r : ℕ) → out ≡ done r → ⊥
not_done r e = cc

not_out : out ≡ start → ⊥
not_out e = cc

not_started : (r : ℕ) → start ≡ done r → ⊥
not_started r e = cc

one_result : (q r : ℕ) → done q ≡ done r → q ≡ r
one_result q r e = cc

pub record IsSound (workers count : ℕ) (result : ℕ → ℕ) (s : WindowState) : Type 0 where
  pub fresh : (k : ℕ) → s.ticket ≤ k → s.tiles k ≡ start
  pub holders : (w k : ℕ) → s.held w ≡ Some k → (w < workers) × (k < s.ticket) × (k < count) × (s.tiles k ≡ out)
  pub apart : (v w k : ℕ) → s.held v ≡ Some k → s.held w ≡ Some k → v ≡ w
  pub gone : (k : ℕ) → k < s.ticket → k < count → ((w : ℕ) × (s.held w ≡ Some k)) ⊎ (s.tiles k ≡ done (result k))
  pub own : (k r : ℕ) → s.tiles k ≡ done r → r ≡ result k

module _ (workers count : ℕ) (result : ℕ → ℕ) where
  abbrev Sound : WindowState → Type 0
  Sound = IsSound workers count result

  first_sound : Sound first_state
  first_sound = record {
    fresh = λ k _. refl;
    holders = λ w k e. absurd (no_tile k e);
    apart = λ v w k e _. absurd (no_tile k e);
    gone = λ k l _. absurd (omega arith);
    own = λ k r e. absurd (not_started r e);
  }

  drawn_sound : (s : WindowState) (w : ℕ) → Sound s → w < workers → s.held w ≡ None → s.ticket < count → Sound (drawn workers count result s w true)
  drawn_sound s w a near free left =
      let t : ℕ = s.ticket in let held' : ℕ → Option ℕ = changed s.held w (Some t) in let tiles' : ℕ → TileState = changed s.tiles t out in
      let mine : held' w ≡ Some t = changed_here s.held w (Some t) in
      let others = changed_else s.held w (Some t) in
      let else_tiles = changed_else s.tiles t out in
      let holds : (v k : ℕ) → held' v ≡ Some k → ((v ≡ w) × (k ≡ t)) ⊎ ((v ≢ w) × (s.held v ≡ Some k)) =
      λ v k e. ⊎_elim (λ (h : v ≡ w). inl (h, one_tile k t (sym e ∙ (ap held' h ∙ mine)))) (λ (h : v ≢ w). inr (h, sym (others v h) ∙ e)) (either_way v w) in
      record {
        fresh = λ k l. else_tiles k (λ h. omega arith) ∙ a.fresh k (omega arith);
        holders = λ v k e. ⊎_elim
            (λ (h : (v ≡ w) × (k ≡ t)). let h0 : v ≡ w = h.0 in let h1 : k ≡ t = h.1 in (omega arith, omega arith, omega arith, ap tiles' h.1 ∙ changed_here s.tiles t out))
            (λ (h : (v ≢ w) × (s.held v ≡ Some k)). let old = a.holders v k h.1 in (old.0, omega arith, old.2, else_tiles k (λ x. omega arith) ∙ old.3))
            (holds v k e);
        apart = λ u v k e f. ⊎_elim
            (λ (h : (u ≡ w) × (k ≡ t)). ⊎_elim (λ (i : (v ≡ w) × (k ≡ t)). h.0 ∙ sym i.0) (λ (i : (v ≢ w) × (s.held v ≡ Some k)). let old = a.holders v k i.1 in let h1 : k ≡ t = h.1 in absurd (omega arith)) (holds v k f))
            (λ (h : (u ≢ w) × (s.held u ≡ Some k)). ⊎_elim (λ (i : (v ≡ w) × (k ≡ t)). let old = a.holders u k h.1 in let i1 : k ≡ t = i.1 in absurd (omega arith)) (λ (i : (v ≢ w) × (s.held v ≡ Some k)). a.apart u v k h.1 i.1) (holds v k f))
            (holds u k e);
        gone = λ k l near_k. ⊎_elim
            (λ (h : k ≡ t). inl (w, mine ∙ ap Some (sym h)))
            (λ (h : k ≢ t). ⊎_elim
            (λ (p : (v : ℕ) × (s.held v ≡ Some k)). inl (p.0, others p.0 (λ x. no_tile k (sym free ∙ (ap s.held (sym x) ∙ p.1))) ∙ p.1))
            (λ (p : s.tiles k ≡ done (result k)). inr (else_tiles k h ∙ p))
            (a.gone k (omega arith) near_k))
            (either_way k t);
        own = λ k r e. ⊎_elim
            (λ (h : k ≡ t). absurd (not_done r (sym (ap tiles' h ∙ changed_here s.tiles t out) ∙ e)))
            (λ (h : k ≢ t). a.own k r (sym (else_tiles k h) ∙ e))
            (either_way k t);
      }

  late_sound : (s : WindowState) (w : ℕ) → Sound s → count ≤ s.ticket → Sound (drawn workers count result s w false)
  late_sound s w a late = record {
    fresh = λ k l. a.fresh k (omega arith);
    holders = λ v k e. let old = a.holders v k e in (old.0, omega arith, old.2, old.3);
    apart = a.apart;
    gone = λ k l near. a.gone k (omega arith) near;
    own = a.own;
  }

  put_sound : (s : WindowState) (w j : ℕ) → Sound s → s.held w ≡ Some j → Sound (put_back workers count result s w (Some j))
  put_sound s w j a mine =
      let held' : ℕ → Option ℕ = changed s.held w None in let tiles' : ℕ → TileState = changed s.tiles j (done (result j)) in
      let free : held' w ≡ None = changed_here s.held w None in
      let others = changed_else s.held w None in
      let else_tiles = changed_else s.tiles j (done (result j)) in
      let old_j = a.holders w j mine in
      let holds : (v k : ℕ) → held' v ≡ Some k → (v ≢ w) × (s.held v ≡ Some k) =
      λ v k e. ⊎_elim (λ (h : v ≡ w). absurd (no_tile k (sym free ∙ (ap held' (sym h) ∙ e)))) (λ (h : v ≢ w). (h, sym (others v h) ∙ e)) (either_way v w) in
      record {
        fresh = λ k l. else_tiles k (λ h. omega arith) ∙ a.fresh k l;
        holders = λ v k e. let h = holds v k e in let old = a.holders v k h.1 in
            (old.0, old.1, old.2, else_tiles k (λ x. h.0 (a.apart v w k h.1 (mine ∙ ap Some (sym x)))) ∙ old.3);
        apart = λ u v k e f. a.apart u v k (holds u k e).1 (holds v k f).1;
        gone = λ k l near. ⊎_elim
            (λ (h : k ≡ j). inr (subst (λ i. tiles' i ≡ done (result i)) (sym h) (changed_here s.tiles j (done (result j)))))
            (λ (h : k ≢ j). ⊎_elim
            (λ (p : (v : ℕ) × (s.held v ≡ Some k)). inl (p.0, others p.0 (λ x. h (one_tile k j (sym p.1 ∙ (ap s.held x ∙ mine)))) ∙ p.1))
            (λ (p : s.tiles k ≡ done (result k)). inr (else_tiles k h ∙ p))
            (a.gone k l near))
            (either_way k j);
        own = λ k r e. ⊎_elim
            (λ (h : k ≡ j). one_result r (result k) (sym e ∙ subst (λ i. tiles' i ≡ done (result i)) (sym h) (changed_here s.tiles j (done (result j)))))
            (λ (h : k ≢ j). a.own k r (sym (else_tiles k h) ∙ e))
            (either_way k j);
      }

  draw_sound : (s : WindowState) (w : ℕ) (b : Bool) → ltb s.ticket count ≡ b → Sound s → w < workers → s.held w ≡ None → Sound (drawn workers count result s w b)
  draw_sound s w true e a near free = drawn_sound s w a near free (ltb-true s.ticket count e)
  draw_sound s w false e a near free = late_sound s w a (ltb-false s.ticket count e)

  back_sound : (s : WindowState) (w : ℕ) (o : Option ℕ) → s.held w ≡ o → Sound s → Sound (put_back workers count result s w o)
  back_sound s w None e a = a
  back_sound s w (Some j) e a = put_sound s w j a e

  pub stays_sound : (s : WindowState) (e : Event) → Sound s → MayCome workers count result s e → Sound (after workers count result s e)
  stays_sound s (draw w) a may = draw_sound s w (ltb s.ticket count) refl a may.0 may.1
  stays_sound s (put w) a may = back_sound s w (s.held w) refl a

  all_sound : (s : WindowState) (es : List Event) → Sound s → AreEvents workers count result s es → Sound (last_state workers count result s es)
  all_sound s [] a _ = a
  all_sound s (e ∷ es) a are = all_sound (after workers count result s e) es (stays_sound s e a are.0) are.1

  -- the ticket after a draw, and after a put
  draw_ticket : (s : WindowState) (w : ℕ) (b : Bool) → (drawn workers count result s w b).ticket ≡ s.ticket + 1
  draw_ticket s w true = refl
  draw_ticket s w false = refl

  back_ticket : (s : WindowState) (w : ℕ) (o : Option ℕ) → (put_back workers count result s w o).ticket ≡ s.ticket
  back_ticket s w None = refl
  back_ticket s w (Some j) = refl

  none_drawn : (k : ℕ) (s : WindowState) (es : List Event) → k < s.ticket → draws_of workers count result k s es ≡ 0
  none_drawn k s [] l = refl
  none_drawn k s (draw w ∷ es) l = let t = draw_ticket s w (ltb s.ticket count) in let more = none_drawn k (after workers count result s (draw w)) es (omega arith) in
      ap (λ b. cond b 1 0 + draws_of workers count result k (after workers count result s (draw w)) es) (ne_eqb s.ticket k (λ h. omega arith)) ∙ omega arith
  none_drawn k s (put w ∷ es) l = let t = back_ticket s w (s.held w) in none_drawn k (after workers count result s (put w)) es (omega arith)

  drawn_once : (k : ℕ) (s : WindowState) (es : List Event) → draws_of workers count result k s es ≤ 1
  drawn_once k s [] = omega arith
  drawn_once k s (draw w ∷ es) = let s' : WindowState = after workers count result s (draw w) in let n : ℕ = draws_of workers count result k s' es in
      ⊎_elim
      (λ (h : s.ticket ≡ k). let t : s'.ticket ≡ s.ticket + 1 = draw_ticket s w (ltb s.ticket count) in let zero_more : n ≡ 0 = none_drawn k s' es (omega arith) in
      subst (λ b. cond b 1 0 + n ≤ 1) (sym (eq-eqb s.ticket k h)) (omega arith))
      (λ (h : s.ticket ≢ k). let more : n ≤ 1 = drawn_once k s' es in subst (λ b. cond b 1 0 + n ≤ 1) (sym (ne_eqb s.ticket k h)) (omega arith))
      (either_way s.ticket k)
  drawn_once k s (put w ∷ es) = drawn_once k (after workers count result s (put w)) es

  -- a tile that is done stays so
  draw_keeps : (s : WindowState) (w k r : ℕ) (b : Bool) → Sound s → s.tiles k ≡ done r → (drawn workers count result s w b).tiles k ≡ done r
  draw_keeps s w k r true a e = changed_else s.tiles s.ticket out k (λ h. not_started r (sym (a.fresh k (omega arith)) ∙ e)) ∙ e
  draw_keeps s w k r false a e = e

  back_keeps : (s : WindowState) (w k r : ℕ) (o : Option ℕ) → s.held w ≡ o → Sound s → s.tiles k ≡ done r → (put_back workers count result s w o).tiles k ≡ done r
  back_keeps s w k r None h a e = e
  back_keeps s w k r (Some j) h a e = changed_else s.tiles j (done (result j)) k (λ x. not_done r (sym (a.holders w j h).3 ∙ (ap s.tiles (sym x) ∙ e))) ∙ e

  not_held : (s : WindowState) (w k r : ℕ) (o : Option ℕ) → s.held w ≡ o → Sound s → s.tiles k ≡ done r → is_tile k o ≡ false
  not_held s w k r None h a e = refl
  not_held s w k r (Some j) h a e = ne_eqb j k (λ x. not_done r (sym (a.holders w j h).3 ∙ (ap s.tiles x ∙ e)))

  none_put : (k r : ℕ) (s : WindowState) (es : List Event) → Sound s → AreEvents workers count result s es → s.tiles k ≡ done r → puts_of workers count result k s es ≡ 0
  none_put k r s [] a are e = refl
  none_put k r s (draw w ∷ es) a are e = none_put k r (after workers count result s (draw w)) es (stays_sound s (draw w) a are.0) are.1 (draw_keeps s w k r (ltb s.ticket count) a e)
  none_put k r s (put w ∷ es) a are e = let s' : WindowState = after workers count result s (put w) in
      let more : puts_of workers count result k s' es ≡ 0 = none_put k r s' es (stays_sound s (put w) a are.0) are.1 (back_keeps s w k r (s.held w) refl a e) in
      ap (λ b. cond b 1 0 + puts_of workers count result k s' es) (not_held s w k r (s.held w) refl a e) ∙ omega arith

  -- where the worker holds the tile k, its put makes k done
  becomes_done : (s : WindowState) (w k : ℕ) (o : Option ℕ) → is_tile k o ≡ true → (put_back workers count result s w o).tiles k ≡ done (result k)
  becomes_done s w k None e = cc
  becomes_done s w k (Some j) e = ⊎_elim
      (λ (h : k ≡ j). subst (λ i. changed s.tiles j (done (result j)) i ≡ done (result i)) (sym h) (changed_here s.tiles j (done (result j))))
      (λ (h : k ≢ j). let no : eqb j k ≡ false = ne_eqb j k (λ x. h (sym x)) in cc)
      (either_way k j)

  put_once_by : (k : ℕ) (s : WindowState) (w n : ℕ) (b : Bool) → (b ≡ true → n ≡ 0) → n ≤ 1 → cond b 1 0 + n ≤ 1
  put_once_by k s w n true h l = let z : n ≡ 0 = h refl in omega arith
  put_once_by k s w n false h l = omega arith

  put_once : (k : ℕ) (s : WindowState) (es : List Event) → Sound s → AreEvents workers count result s es → puts_of workers count result k s es ≤ 1
  put_once k s [] a are = omega arith
  put_once k s (draw w ∷ es) a are = put_once k (after workers count result s (draw w)) es (stays_sound s (draw w) a are.0) are.1
  put_once k s (put w ∷ es) a are = let s' : WindowState = after workers count result s (put w) in let a' = stays_sound s (put w) a are.0 in
      put_once_by k s w (puts_of workers count result k s' es) (is_tile k (s.held w)) (λ e. none_put k (result k) s' es a' are.1 (becomes_done s w k (s.held w) e)) (put_once k s' es a' are.1)

  -- the ticket, past the number of tiles, counts the late draws
  late_step : (t n : ℕ) (b : Bool) → ltb t count ≡ b → (last : ℕ) → max count last ≡ max count (t + 1) + n → max count last ≡ max count t + (cond b 0 1 + n)
  late_step t n true e last h = let l = ltb-true t count e in omega arith
  late_step t n false e last h = let l = ltb-false t count e in omega arith

  counts_late : (s : WindowState) (es : List Event) → max count (last_state workers count result s es).ticket ≡ max count s.ticket + late_draws workers count result s es
  counts_late s [] = omega arith
  counts_late s (draw w ∷ es) = let s' : WindowState = after workers count result s (draw w) in let t : s'.ticket ≡ s.ticket + 1 = draw_ticket s w (ltb s.ticket count) in
      let last : ℕ = (last_state workers count result s' es).ticket in let n : ℕ = late_draws workers count result s' es in
      let more : max count last ≡ max count s'.ticket + n = counts_late s' es in
      late_step s.ticket n (ltb s.ticket count) refl last (more ∙ ap (λ x. max count x + n) t)
  counts_late s (put w ∷ es) = let s' : WindowState = after workers count result s (put w) in let t : s'.ticket ≡ s.ticket = back_ticket s w (s.held w) in
      counts_late s' es ∙ ap (λ x. max count x + late_draws workers count result s' es) t

  -- what the last draw of a worker tells
  abbrev Told : ℕ → Option ℕ → WindowState → Type 0
  Told w before s = (t : ℕ) → before ≡ Some t → (t < s.ticket) × (count ≤ t → s.held w ≡ None)

  draw_tells : (w v : ℕ) (before : Option ℕ) (s : WindowState) (b : Bool) → ltb s.ticket count ≡ b → s.held v ≡ None → Told w before s
      → Told w (cond (eqb v w) (Some s.ticket) before) (drawn workers count result s v b)
  draw_tells w v before s true e free told = let l : s.ticket < count = ltb-true s.ticket count e in let s' : WindowState = drawn workers count result s v true in
      ⊎_elim
      (λ (h : v ≡ w). subst (λ c. Told w (cond c (Some s.ticket) before) s') (sym (eq-eqb v w h)) (λ t is. let same : s.ticket ≡ t = one_tile s.ticket t is in (omega arith, λ far. absurd (omega arith))))
      (λ (h : v ≢ w). subst (λ c. Told w (cond c (Some s.ticket) before) s') (sym (ne_eqb v w h))
      (λ t is. let old = told t is in (omega arith, λ far. changed_else s.held v (Some s.ticket) w (λ x. h (sym x)) ∙ old.1 far)))
      (either_way v w)
  draw_tells w v before s false e free told = let s' : WindowState = drawn workers count result s v false in
      ⊎_elim
      (λ (h : v ≡ w). subst (λ c. Told w (cond c (Some s.ticket) before) s') (sym (eq-eqb v w h)) (λ t is. let same : s.ticket ≡ t = one_tile s.ticket t is in (omega arith, λ far. ap s.held (sym h) ∙ free)))
      (λ (h : v ≢ w). subst (λ c. Told w (cond c (Some s.ticket) before) s') (sym (ne_eqb v w h)) (λ t is. let old = told t is in (omega arith, old.1)))
      (either_way v w)

  back_tells : (w v : ℕ) (before : Option ℕ) (s : WindowState) (o : Option ℕ) → Told w before s → Told w before (put_back workers count result s v o)
  back_tells w v before s None told = told
  back_tells w v before s (Some j) told = λ t is. let old = told t is in (
    old.0,
    λ far. ⊎_elim
        (λ (h : w ≡ v). ap (changed s.held v None) h ∙ changed_here s.held v None)
        (λ (h : w ≢ v). changed_else s.held v None w h ∙ old.1 far)
        (either_way w v),
  )

  last_tells : (w : ℕ) (before : Option ℕ) (s : WindowState) (es : List Event) → AreEvents workers count result s es → Told w before s
      → Told w (last_ticket workers count result w before s es) (last_state workers count result s es)
  last_tells w before s [] are told = told
  last_tells w before s (draw v ∷ es) are told =
      last_tells w (cond (eqb v w) (Some s.ticket) before) (after workers count result s (draw v)) es are.1 (draw_tells w v before s (ltb s.ticket count) refl are.0.1 told)
  last_tells w before s (put v ∷ es) are told = last_tells w before (after workers count result s (put v)) es are.1 (back_tells w v before s (s.held v) told)

  pub once_is : (es : List Event) → AreEvents workers count result first_state es → (k : ℕ) → k < count
      → (draws_of workers count result k first_state es ≤ 1) × (puts_of workers count result k first_state es ≤ 1)
  once_is es are k near = (drawn_once k first_state es, put_once k first_state es first_sound are)

  pub own_is : (es : List Event) → AreEvents workers count result first_state es → (k r : ℕ) → (last_state workers count result first_state es).tiles k ≡ done r → r ≡ result k
  own_is es are k r e = (all_sound first_state es first_sound are).own k r e

  ends : (es : List Event) → IsComplete workers count result es → (w : ℕ) → w < workers
      → (count < (last_state workers count result first_state es).ticket) × ((last_state workers count result first_state es).held w ≡ None)
  ends es is w near = let c = is.1 w near in let told = last_tells w None first_state es is.0 (λ t e. absurd (no_tile t e)) c.0 c.1 in
      let far : count ≤ c.0 = c.2 in let past = told.0 in (omega arith, told.1 far)

  pub complete_is : (es : List Event) → 0 < workers → IsComplete workers count result es
      → ((k : ℕ) → k < count → (last_state workers count result first_state es).tiles k ≡ done (result k))
      × ((w : ℕ) → w < workers → (last_state workers count result first_state es).held w ≡ None)
  complete_is es some is = let a = all_sound first_state es first_sound is.0 in let past = (ends es is 0 some).0 in (
    (λ k near. ⊎_elim
        (λ (p : (w : ℕ) × ((last_state workers count result first_state es).held w ≡ Some k)). absurd (no_tile k (sym (ends es is p.0 (a.holders p.0 k p.1).0).1 ∙ p.1)))
        (λ (p : (last_state workers count result first_state es).tiles k ≡ done (result k)). p)
        (a.gone k (omega arith) near)),
    (λ w near. (ends es is w near).1),
  )

  pub ticket_is : (es : List Event) → 0 < workers → IsComplete workers count result es
      → (last_state workers count result first_state es).ticket ≡ count + late_draws workers count result first_state es
  ticket_is es some is = let past = (ends es is 0 some).0 in let e = counts_late first_state es in omega arith

-- The codes that were written so far, and the next one (FITS 4.0, sections 7.3.5 and 10.1.3).
use Rattle.std.proofs.Common.{◌≡◌, ℕ, ◌+◌, ◌-◌, ◌*◌, ◌<◌, ◌≤◌, ◌==◌, Bool, true, false, ℤ, List, [], ◌∷◌, ◌++◌, length, replicate, Option, Some, None, if◌then◌else◌, refl, sym, ap, ◌∙◌, subst, arith}
use Rattle.std.specs.Option.{option_map}
use Rattle.std.specs.Prelude.{IfSome}
use Rattle.std.proofs.lemmas.Bool.Decides.{nat_tests}
use Rattle.std.proofs.lemmas.List.{append_assoc, length-replicate}
use Rattle.fz_base.specs.Counts.{Amend}
use Rattle.fz_base.specs.Sink.{overwrite, written}
use Rattle.fz_base.specs.Store.{MayAmend, amend_of, with_write}
use Rattle.fz_tile.specs.TileCode.{TileCode}
use Rattle.fz_files.specs.FirstFault.{picked_tiles_of}
use Rattle.fz_files.specs.Packed.{heap_of}
use Rattle.fz_files.specs.Restored.{header_in}
use Rattle.fz_pool.specs.Window.{Pool}
use Rattle.fz_laws.specs.Amends.{applied}
use Rattle.fz_laws.specs.FirstPatchFault.{BoxHasNumbers, RowsHaveNumbers}
use Rattle.fz_laws.specs.PatchLaws.{new_code}
use Rattle.fz_laws.specs.NewNumbers.{box_tiles}
use Rattle.fz_laws.specs.Writes.{code_writes, grown_end, heap_end, heap_writes, new_codes, zero_writes}
use Rattle.fz_target.specs.Steps.{KeepsHeader, Wrote, WroteSome}
use Rattle.fz_target.specs.Targets.{IsGivenTo, IsTarget, IsTargetIn, given_at}
use Rattle.fz_target.specs.Tiles.{HasCode, HasFirst, HasNewCode}
use Rattle.fz_target.specs.Told.{IfBoth}
use Rattle.fz_target.specs.declared.target.Target.{Target}
use Rattle.fz_patch.proofs.Boxes.{codes_more, codes_then, heap_more, more_codes, next_numbers}
use Rattle.fz_patch.proofs.Slices.{slice_before}
use Rattle.fz_patch.proofs.Stays.{IsStill, stands_still, still_none, still_then}
use Rattle.fz_patch.proofs.Targeted.{still_after, table_of, target_still, tiles_of}
use Rattle.fz_patch.proofs.Wrotes.{one-failed, one-wrote, some-back, some-front, wrote-all, wrote-none, wrote-then}

abbrev pub heap_end_of : Target → ℕ
heap_end_of t = t.image.table.heap_at + t.image.table.heap_len

-- these codes are in the file from the end of the heap on, and the next one begins here
pub record HasCodes (t : Target) (es : List TileCode) (held now : Option (List ℕ)) (log log' : Option (List Amend)) (at : ℕ) : Type 0 where
  pub wrote : Wrote (code_writes (heap_end_of t) es) held now log log'
  pub place : at ≡ heap_end_of t + length (heap_of es)

-- so are those of the first tiles, of every job that puts PATCH there
abbrev pub HaveCodes : Target → List ℕ → Option (List ℕ) → Option (List ℕ) → Option (List ℕ) → Option (List Amend) → Option (List Amend) → ℕ → Type 0
HaveCodes t front given held now log log' at =
    IfBoth held given (λ f p. (corner : List ℕ) (olds : List (List ℤ)) → IsGivenTo corner p t → BoxHasNumbers f t.header (given_at corner p) olds →
    HasCodes t (new_codes t.image.plan (given_at corner p) front olds) held now log log' at)

-- the rows are as they were
abbrev pub RowsAreStill : Target → Option (List ℕ) → Option (List ℕ) → Type 0
RowsAreStill t held now = IfBoth held now (λ f new. (row : ℕ) → row < t.image.table.rows → IsStill f new t.header row)

none_some : (x : List ℕ) → None ≡ Some x → ⊥
none_some x e = absurd cc

-- one code more
pub codes_step : (t : Target) (held given now now' : Option (List ℕ)) (log log' log'' : Option (List Amend)) (front : List ℕ) (tile : ℕ) (left : List ℕ) (at : ℕ) (bytes : List ℕ) (w : Pool) → IsTarget t →
    picked_tiles_of t.image.plan t.sieve ≡ front ++ (tile ∷ left) → tile < t.image.table.rows → IfSome held (λ f. IsTargetIn f t) → RowsAreStill t held now →
    IfBoth now given (λ f p. (corner : List ℕ) → IsGivenTo corner p t → HasNewCode f t.header t.image.plan (given_at corner p) tile w) →
    ((code : TileCode) → HasFirst (HasCode code) w → bytes ≡ code.bytes) → now' ≡ written at bytes now → log'' ≡ with_write (amend_of at bytes) log' →
    HaveCodes t front given held now log log' at → HaveCodes t (front ++ tile ∷ []) given held now' log log'' (at + length bytes)
codes_step t None given now now' log log' log'' front tile left at bytes w is parts less said still new coded made logged have = tt
codes_step t (Some f) None now now' log log' log'' front tile left at bytes w is parts less said still new coded made logged have = tt
codes_step t (Some f) (Some p) None now' log log' log'' front tile left at bytes w is parts less said still new coded made logged have =
    λ corner olds to rows. absurd (none_some _ (have corner olds to rows).wrote.held_is)
codes_step t (Some f) (Some p) (Some file) now' log log' log'' front tile left at bytes w is parts less said still new coded made logged have = λ corner olds to rows.
    let g = given_at corner p in
    let plan = t.image.plan in
    let old = have corner olds to rows in
    let es : List TileCode = new_codes plan g front olds in
    let all : RowsHaveNumbers f t.header (front ++ (tile ∷ left)) olds = subst (λ ts. RowsHaveNumbers f t.header ts olds) (tiles_of f t corner p said to ∙ parts) rows in
    let next = next_numbers f t.header plan g front tile left olds all in
    let e : TileCode = new_code plan g tile next.xs in
    let stands = stands_still f file t.header tile next.xs (table_of f t is said) (still tile less) next.stands in
    let same : bytes ≡ e.bytes = coded e (new corner to next.xs stands) in
    let grown : code_writes (heap_end_of t) (new_codes plan g (front ++ tile ∷ []) olds) ≡ code_writes (heap_end_of t) es ++ (amend_of at bytes ∷ []) =
    ap (code_writes (heap_end_of t)) next.codes
    ∙ codes_more (heap_end_of t) es e
    ∙ (λ j. code_writes (heap_end_of t) es ++ (amend_of (sym old.place j) (sym same j) ∷ []))
    in
    let count = heap_more es e in
    let counts : length (heap_of (new_codes plan g (front ++ tile ∷ []) olds)) ≡ length (heap_of es) + length e.bytes = ap (λ l. length (heap_of l)) next.codes ∙ count in
    let long : length bytes ≡ length e.bytes = ap length same in
    record {
      wrote = subst (λ ws. Wrote ws (Some f) now' log log'') (sym grown)
          (wrote-then (code_writes (heap_end_of t) es) (amend_of at bytes ∷ []) (Some f) (Some file) now' log log' log'' old.wrote (one-wrote (amend_of at bytes) (Some file) now' log' log'' made logged));
      place = omega (arith, old.place, counts, long);
    }

-- ---- what the file has if the work stops

-- the writes of all codes and of the zeros after them
all_writes_of : (f : List ℕ) (t : Target) (es : List TileCode) → IsTargetIn f t → heap_writes f t.header es ≡ code_writes (heap_end_of t) es ++ zero_writes (heap_end_of t + length (heap_of es)) (grown_end t.header (length (heap_of es)))
all_writes_of f t es said = ap (λ u. code_writes (heap_end u) es ++ zero_writes (heap_end u + length (heap_of es)) (grown_end t.header (length (heap_of es)))) said.said.table

-- some of the writes, if these codes were written, and perhaps a part of the next one
abbrev pub SomeCodes : Target → Option (List ℕ) → Option (List ℕ) → Option (List ℕ) → Option (List Amend) → Option (List Amend) → Type 0
SomeCodes t given held now log log' =
    IfBoth held given (λ f p. (corner : List ℕ) (olds : List (List ℤ)) → IsGivenTo corner p t → BoxHasNumbers f t.header (given_at corner p) olds →
    WroteSome (heap_writes f t.header (new_codes t.image.plan (given_at corner p) (box_tiles t.image.plan (given_at corner p)) olds)) held now log log')

pub codes_stop : (t : Target) (held given now : Option (List ℕ)) (log log' : Option (List Amend)) (front left : List ℕ) (at : ℕ) → picked_tiles_of t.image.plan t.sieve ≡ front ++ left → IfSome held (λ f. IsTargetIn f t) →
    HaveCodes t front given held now log log' at → SomeCodes t given held now log log'
codes_stop t None given now log log' front left at parts said have = tt
codes_stop t (Some f) None now log log' front left at parts said have = tt
codes_stop t (Some f) (Some p) now log log' front left at parts said have = λ corner olds to rows.
    let g = given_at corner p in
    let plan = t.image.plan in
    let boxes : box_tiles plan g ≡ front ++ left = ap (picked_tiles_of plan) (sym to.sieve) ∙ parts in
    let rows_all : RowsHaveNumbers f t.header (front ++ left) olds = subst (λ ts. RowsHaveNumbers f t.header ts olds) (tiles_of f t corner p said to ∙ parts) rows in
    let es : List TileCode = new_codes plan g front olds in
    let more = more_codes f t.header plan g front left olds rows_all in
    let rest : List TileCode = more.0 in
    let all : List TileCode = new_codes plan g (box_tiles plan g) olds in
    let split : all ≡ es ++ rest = ap (λ ts. new_codes plan g ts olds) boxes ∙ more.1 in
    let end : ℕ = heap_end_of t in
    let zeros : List Amend = zero_writes (end + length (heap_of all)) (grown_end t.header (length (heap_of all))) in
    let behind : List Amend = code_writes (end + length (heap_of es)) rest in
    let whole : heap_writes f t.header all ≡ (code_writes end es ++ behind) ++ zeros = all_writes_of f t all said ∙ ap (λ l. l ++ zeros) (ap (code_writes end) split ∙ codes_then end es rest) in
    let some = some-front (code_writes end es ++ behind) zeros (Some f) now log log'
    (some-front (code_writes end es) behind (Some f) now log log' (wrote-all (code_writes end es) (Some f) now log log' (have corner olds to rows).wrote)) in
    subst (λ ws. WroteSome ws (Some f) now log log') (sym whole) some

pub codes_failed : (t : Target) (held given now now' : Option (List ℕ)) (log log' log'' : Option (List Amend)) (front : List ℕ) (tile : ℕ) (left : List ℕ) (at : ℕ) (bytes : List ℕ) (w : Pool) → IsTarget t →
    picked_tiles_of t.image.plan t.sieve ≡ front ++ (tile ∷ left) → tile < t.image.table.rows → IfSome held (λ f. IsTargetIn f t) → RowsAreStill t held now →
    IfBoth now given (λ f p. (corner : List ℕ) → IsGivenTo corner p t → HasNewCode f t.header t.image.plan (given_at corner p) tile w) →
    ((code : TileCode) → HasFirst (HasCode code) w → bytes ≡ code.bytes) → MayAmend at (length bytes) now now' → log'' ≡ log' →
    HaveCodes t front given held now log log' at → SomeCodes t given held now' log log''
codes_failed t None given now now' log log' log'' front tile left at bytes w is parts less said still new coded part same have = tt
codes_failed t (Some f) None now now' log log' log'' front tile left at bytes w is parts less said still new coded part same have = tt
codes_failed t (Some f) (Some p) None now' log log' log'' front tile left at bytes w is parts less said still new coded part same have =
    λ corner olds to rows. absurd (none_some _ (have corner olds to rows).wrote.held_is)
codes_failed t (Some f) (Some p) (Some file) now' log log' log'' front tile left at bytes w is parts less said still new coded part same have = λ corner olds to rows.
    let g = given_at corner p in
    let plan = t.image.plan in
    let boxes : box_tiles plan g ≡ front ++ (tile ∷ left) = ap (picked_tiles_of plan) (sym to.sieve) ∙ parts in
    let rows_all : RowsHaveNumbers f t.header (front ++ (tile ∷ left)) olds = subst (λ ts. RowsHaveNumbers f t.header ts olds) (tiles_of f t corner p said to ∙ parts) rows in
    let old = have corner olds to rows in
    let es : List TileCode = new_codes plan g front olds in
    let next = next_numbers f t.header plan g front tile left olds rows_all in
    let e : TileCode = new_code plan g tile next.xs in
    let stands = stands_still f file t.header tile next.xs (table_of f t is said) (still tile less) next.stands in
    let bytes_are : bytes ≡ e.bytes = coded e (new corner to next.xs stands) in
    let again : (front ++ tile ∷ []) ++ left ≡ front ++ (tile ∷ left) = append_assoc front (tile ∷ []) left in
    let more = more_codes f t.header plan g (front ++ tile ∷ []) left olds (subst (λ ts. RowsHaveNumbers f t.header ts olds) (sym again) rows_all) in
    let rest : List TileCode = more.0 in
    let all : List TileCode = new_codes plan g (box_tiles plan g) olds in
    let split : all ≡ (es ++ e ∷ []) ++ rest = ap (λ ts. new_codes plan g ts olds) (boxes ∙ sym again) ∙ more.1 ∙ ap (λ l. l ++ rest) next.codes in
    let end : ℕ = heap_end_of t in
    let zeros : List Amend = zero_writes (end + length (heap_of all)) (grown_end t.header (length (heap_of all))) in
    let behind : List Amend = code_writes (end + length (heap_of (es ++ e ∷ []))) rest in
    let one : code_writes end (es ++ e ∷ []) ≡ code_writes end es ++ (amend_of at bytes ∷ []) =
    codes_more end es e ∙ (λ j. code_writes end es ++ (amend_of (sym old.place j) (sym bytes_are j) ∷ []))
    in
    let whole : heap_writes f t.header all ≡ ((code_writes end es ++ (amend_of at bytes ∷ [])) ++ behind) ++ zeros =
    all_writes_of f t all said ∙ ap (λ l. l ++ zeros) (ap (code_writes end) split ∙ codes_then end (es ++ e ∷ []) rest ∙ ap (λ l. l ++ behind) one)
    in
    let some = some-front ((code_writes end es ++ (amend_of at bytes ∷ [])) ++ behind) zeros (Some f) now' log log''
    (some-front (code_writes end es ++ (amend_of at bytes ∷ [])) behind (Some f) now' log log''
    (some-back (code_writes end es) (amend_of at bytes ∷ []) (Some f) (Some file) now' log log' log'' old.wrote (one-failed (amend_of at bytes) (Some file) now' log' log'' part same)))
    in
    subst (λ ws. WroteSome ws (Some f) now' log log'') (sym whole) some

-- ---- all codes, and the zeros after them

pub zeros_done : (t : Target) (held given now now' : Option (List ℕ)) (log log' log'' : Option (List Amend)) (front : List ℕ) (at more : ℕ) → picked_tiles_of t.image.plan t.sieve ≡ front → IfSome held (λ f. IsTargetIn f t) →
    at ≡ heap_end_of t + more → Wrote (zero_writes at (grown_end t.header more)) now now' log' log'' → HaveCodes t front given held now log log' at →
    IfBoth held given (λ f p. (corner : List ℕ) (olds : List (List ℤ)) → IsGivenTo corner p t → BoxHasNumbers f t.header (given_at corner p) olds →
    Wrote (heap_writes f t.header (new_codes t.image.plan (given_at corner p) (box_tiles t.image.plan (given_at corner p)) olds)) held now' log log'')
zeros_done t None given now now' log log' log'' front at more parts said end zeros have = tt
zeros_done t (Some f) None now now' log log' log'' front at more parts said end zeros have = tt
zeros_done t (Some f) (Some p) now now' log log' log'' front at more parts said end zeros have = λ corner olds to rows.
    let g = given_at corner p in
    let plan = t.image.plan in
    let boxes : box_tiles plan g ≡ front = ap (picked_tiles_of plan) (sym to.sieve) ∙ parts in
    let old = have corner olds to rows in
    let es : List TileCode = new_codes plan g front olds in
    let all : List TileCode = new_codes plan g (box_tiles plan g) olds in
    let split : all ≡ es = ap (λ ts. new_codes plan g ts olds) boxes in
    let counts : length (heap_of es) ≡ more = omega (arith, old.place, end) in
    let whole : heap_writes f t.header all ≡ code_writes (heap_end_of t) es ++ zero_writes at (grown_end t.header more) =
    all_writes_of f t all said
    ∙ ap (λ l. code_writes (heap_end_of t) l ++ zero_writes (heap_end_of t + length (heap_of l)) (grown_end t.header (length (heap_of l)))) split
    ∙ (λ j. code_writes (heap_end_of t) es ++ zero_writes (sym old.place j) (grown_end t.header (counts j)))
    in
    subst (λ ws. Wrote ws (Some f) now' log log'') (sym whole)
    (wrote-then (code_writes (heap_end_of t) es) (zero_writes at (grown_end t.header more)) (Some f) now now' log log' log'' old.wrote zeros)

pub zeros_failed : (t : Target) (held given now now' : Option (List ℕ)) (log log' log'' : Option (List Amend)) (front : List ℕ) (at more : ℕ) → picked_tiles_of t.image.plan t.sieve ≡ front → IfSome held (λ f. IsTargetIn f t) →
    at ≡ heap_end_of t + more → WroteSome (zero_writes at (grown_end t.header more)) now now' log' log'' → HaveCodes t front given held now log log' at → SomeCodes t given held now' log log''
zeros_failed t None given now now' log log' log'' front at more parts said end zeros have = tt
zeros_failed t (Some f) None now now' log log' log'' front at more parts said end zeros have = tt
zeros_failed t (Some f) (Some p) now now' log log' log'' front at more parts said end zeros have = λ corner olds to rows.
    let g = given_at corner p in
    let plan = t.image.plan in
    let boxes : box_tiles plan g ≡ front = ap (picked_tiles_of plan) (sym to.sieve) ∙ parts in
    let old = have corner olds to rows in
    let es : List TileCode = new_codes plan g front olds in
    let all : List TileCode = new_codes plan g (box_tiles plan g) olds in
    let split : all ≡ es = ap (λ ts. new_codes plan g ts olds) boxes in
    let counts : length (heap_of es) ≡ more = omega (arith, old.place, end) in
    let whole : heap_writes f t.header all ≡ code_writes (heap_end_of t) es ++ zero_writes at (grown_end t.header more) =
    all_writes_of f t all said
    ∙ ap (λ l. code_writes (heap_end_of t) l ++ zero_writes (heap_end_of t + length (heap_of l)) (grown_end t.header (length (heap_of l)))) split
    ∙ (λ j. code_writes (heap_end_of t) es ++ zero_writes (sym old.place j) (grown_end t.header (counts j)))
    in
    subst (λ ws. WroteSome ws (Some f) now' log log'') (sym whole)
    (some-back (code_writes (heap_end_of t) es) (zero_writes at (grown_end t.header more)) (Some f) now now' log log' log'' old.wrote zeros)

-- ---- the whole state of the second pass

-- the header is as it was
abbrev pub HeaderIsStill : Target → Option (List ℕ) → Option (List ℕ) → Type 0
HeaderIsStill t held now = KeepsHeader t.header held now

pub record CodesState (t : Target) (given held now : Option (List ℕ)) (log log' : Option (List Amend)) (left : List ℕ) (at : ℕ) : Type 0 where
  pub front : List ℕ
  pub parts : picked_tiles_of t.image.plan t.sieve ≡ front ++ left
  pub have : HaveCodes t front given held now log log' at
  pub still : RowsAreStill t held now
  pub header : HeaderIsStill t held now
  pub said : IfSome now (λ f. IsTargetIn f t)

pub codes_begin : (t : Target) (given held : Option (List ℕ)) (log : Option (List Amend)) (left : List ℕ) (at : ℕ) → picked_tiles_of t.image.plan t.sieve ≡ left → at ≡ heap_end_of t → IfSome held (λ f. IsTargetIn f t) → CodesState t given held held log log left at
unfolding heap_of
codes_begin t given held log left at parts end said = record { front = []; parts = parts; have = by_both held given; still = by_one held; header = by_header held; said = said }
  where
    none : (held : Option (List ℕ)) → HasCodes t [] held held log log at
    none held = record { wrote = wrote-none held log; place = omega (arith, end) }

    by_both : (held given : Option (List ℕ)) → HaveCodes t [] given held held log log at
    by_both None given = tt
    by_both (Some f) None = tt
    by_both (Some f) (Some p) = λ corner olds to rows. none (Some f)

    by_one : (held : Option (List ℕ)) → RowsAreStill t held held
    by_one None = tt
    by_one (Some f) = λ row less. still_none f t.header row

    by_header : (held : Option (List ℕ)) → HeaderIsStill t held held
    by_header held = λ header was. was

header_after : (t : Target) (file bytes : List ℕ) (at : ℕ) → IsTarget t → heap_end_of t ≤ at → 0 < length bytes → at ≤ length file → header_in (overwrite at bytes file) t.header ≡ header_in file t.header
header_after t file bytes at is low some within = slice_before at bytes file t.header.start (2880 * t.header.blocks) some within (omega (arith, is.rows_at, is.heap_at, low))

header_more : (t : Target) (held now now' : Option (List ℕ)) (at : ℕ) (bytes : List ℕ) → IsTarget t → heap_end_of t ≤ at → 0 < length bytes → IfSome now (λ f. at ≤ length f) → now' ≡ written at bytes now →
    HeaderIsStill t held now → HeaderIsStill t held now'
header_more t held None now' at bytes is low some within made still = λ header was. subst (λ n. IfSome n (λ f. header_in f t.header ≡ header)) (sym made) tt
header_more t held (Some file) now' at bytes is low some within made still =
    λ header was. subst (λ n. IfSome n (λ f. header_in f t.header ≡ header)) (sym made) (header_after t file bytes at is low some within ∙ still header was)

apart : (a b : ℕ) → (a == b) ≡ false → a ≤ b → 0 < b - a
apart a b e low = grind (arith, nat_tests)

-- also after the zeros
pub header_zeros : (t : Target) (held now now' : Option (List ℕ)) (log log' : Option (List Amend)) (at end : ℕ) → IsTarget t → heap_end_of t ≤ at → at ≤ end → IfSome now (λ f. at ≤ length f) → Wrote (zero_writes at end) now now' log log' →
    HeaderIsStill t held now → HeaderIsStill t held now'
header_zeros t held None now' log log' at end is low high within made still = λ header was. subst (λ n. IfSome n (λ f. header_in f t.header ≡ header)) (sym made.held_is) tt
header_zeros t held (Some file) now' log log' at end is low high within made still = by_test (at == end) refl made.held_is
  where
    by_test : (b : Bool) → (at == end) ≡ b → now' ≡ option_map (applied (if b then [] else amend_of at (replicate (end - at) 0) ∷ [])) (Some file) → HeaderIsStill t held now'
    by_test true e is_now = subst (HeaderIsStill t held) (sym is_now) still
    by_test false e is_now =
        let zeros : List ℕ = replicate (end - at) 0 in
        let long : length zeros ≡ end - at = length-replicate (end - at) 0 in
        let more : 0 < end - at = apart at end e high in
        λ header was. subst (λ n. IfSome n (λ f. header_in f t.header ≡ header)) (sym is_now) (header_after t file zeros at is low (omega (arith, long, more)) within ∙ still header was)

still_more : (t : Target) (held now now' : Option (List ℕ)) (at : ℕ) (bytes : List ℕ) → IsTarget t → heap_end_of t ≤ at → 0 < length bytes → IfSome now (λ f. at ≤ length f) → IfSome now (λ f. IsTargetIn f t) → now' ≡ written at bytes now →
    RowsAreStill t held now → RowsAreStill t held now'
still_more t None now now' at bytes is low some within said made still = tt
still_more t (Some f) None now' at bytes is low some within said made still = subst (RowsAreStill t (Some f)) (sym made) tt
still_more t (Some f) (Some file) now' at bytes is low some within said made still =
    subst (RowsAreStill t (Some f)) (sym made)
    (λ row less. still_then f file (overwrite at bytes file) t.header row (still row less) (still_after file bytes at t row is said some within low less))

said_more : (t : Target) (now now' : Option (List ℕ)) (at : ℕ) (bytes : List ℕ) (row : ℕ) → IsTarget t → heap_end_of t ≤ at → 0 < length bytes → row < t.image.table.rows → IfSome now (λ f. at ≤ length f) → now' ≡ written at bytes now →
    IfSome now (λ f. IsTargetIn f t) → IfSome now' (λ f. IsTargetIn f t)
said_more t None now' at bytes row is low some less within made said = subst (λ n. IfSome n (λ f. IsTargetIn f t)) (sym made) tt
said_more t (Some file) now' at bytes row is low some less within made said =
    subst (λ n. IfSome n (λ f. IsTargetIn f t)) (sym made)
    (target_still file (overwrite at bytes file) t (still_after file bytes at t row is said some within low less).header said)

pub codes_go_on : (t : Target) (given held now now' : Option (List ℕ)) (log log' log'' : Option (List Amend)) (tile : ℕ) (left : List ℕ) (at : ℕ) (bytes : List ℕ) (w : Pool) → IsTarget t → tile < t.image.table.rows → heap_end_of t ≤ at →
    0 < length bytes → IfSome now (λ f. at ≤ length f) → IfSome held (λ f. IsTargetIn f t) →
    IfBoth now given (λ f p. (corner : List ℕ) → IsGivenTo corner p t → HasNewCode f t.header t.image.plan (given_at corner p) tile w) →
    ((code : TileCode) → HasFirst (HasCode code) w → bytes ≡ code.bytes) → now' ≡ written at bytes now → log'' ≡ with_write (amend_of at bytes) log' →
    CodesState t given held now log log' (tile ∷ left) at → CodesState t given held now' log log'' left (at + length bytes)
codes_go_on t given held now now' log log' log'' tile left at bytes w is less low some within said new coded made logged old = record {
  front = old.front ++ tile ∷ [];
  parts = old.parts ∙ sym (append_assoc old.front (tile ∷ []) left);
  have = codes_step t held given now now' log log' log'' old.front tile left at bytes w is old.parts less said old.still new coded made logged old.have;
  still = still_more t held now now' at bytes is low some within old.said made old.still;
  header = header_more t held now now' at bytes is low some within made old.header;
  said = said_more t now now' at bytes tile is low some less within made old.said;
}

-- Rounds of tiles that were fetched, one after another (FITS 4.0, section 10.1).
use Rattle.std.proofs.Common.{◌≡◌, ℕ, zero, suc, ◌+◌, ◌-◌, ◌*◌, ◌<◌, ◌≤◌, List, [], ◌∷◌, ◌++◌, map, replicate, slice_index, Option, Some, None, IfSome, Err, inl, inr, sym, ap, ◌∙◌, subst, arith}
use Rattle.std.specs.List.{range_with_len}
use Rattle.std.proofs.lemmas.List.{map-append}
use Rattle.std.proofs.lemmas.List.FromFn.{get_or-range_with_len}
use Rattle.fz_base.specs.declared.fault.Fault.{Fault}
use Rattle.fz_base.specs.declared.failure.Stop.{Stop}
use Rattle.fz_base.specs.declared.failure.Stop.TheVariants.{Refused, ReadFault, WriteFault, OverLimit, NoMemory}
use Rattle.fz_base.specs.Stop.{IfRefused}
use Rattle.fz_block.specs.declared.header.Header.{Header}
use Rattle.fz_checks.specs.declared.job_checks.PackedImage.{PackedImage}
use Rattle.fz_head.specs.declared.plan.Plan.{Plan}
use Rattle.fz_files.specs.FirstFault.{ImageRow, IsFirstRowFault, image_row, rows_of}
use Rattle.fz_files.specs.Packed.{tiles_in}
use Rattle.fz_pool.specs.Window.{HasSlotsFor, Pool, WindowStays}
use Rattle.fz_job.specs.Images.{IsSaid}

-- ---- lists of rows

module _ (file : List ℕ) where
  sound_both : (xs ys : List ImageRow) → IsFirstRowFault file xs None → IsFirstRowFault file ys None → IsFirstRowFault file (xs ++ ys) None
  sound_both [] ys front back = back
  sound_both (r ∷ rs) ys front back = (front.0, sound_both rs ys front.1 back)

  fault_behind : (xs ys : List ImageRow) (x : Fault) → IsFirstRowFault file xs None → IsFirstRowFault file ys (Some x) → IsFirstRowFault file (xs ++ ys) (Some x)
  fault_behind [] ys x front back = back
  fault_behind (r ∷ rs) ys x front back = inr (front.0, fault_behind rs ys x front.1 back)

  fault_before : (xs ys : List ImageRow) (x : Fault) → IsFirstRowFault file xs (Some x) → IsFirstRowFault file (xs ++ ys) (Some x)
  fault_before [] ys x front = absurd front
  fault_before (r ∷ rs) ys x (inl is) = inl is
  fault_before (r ∷ rs) ys x (inr later) = inr (later.0, fault_before rs ys x later.1)

-- ---- numbers of tiles

pub number_at : (first count i : ℕ) → i < count → slice_index (range_with_len first count) i ≡ first + i
number_at first count i low = get_or-range_with_len first count i 0 low

-- numbers from one on are those of a round, and those after it
pub range_more : (a m n : ℕ) → range_with_len a (m + n) ≡ range_with_len a m ++ range_with_len (a + m) n
range_more a zero n =
    let none : zero + n ≡ n = omega arith in
    let same : a ≡ a + zero = omega arith in
    ap (range_with_len a) none ∙ ap (λ k. range_with_len k n) same
range_more a (suc m) n =
    let long : suc m + n ≡ suc (m + n) = omega arith in
    let place : a + 1 + m ≡ a + suc m = omega arith in
    ap (range_with_len a) long
    ∙ ap (λ (l : List ℕ). a ∷ l) (range_more (a + 1) m n ∙ ap (λ k. range_with_len (a + 1) m ++ range_with_len k n) place)

-- ---- rows

module _ (file : List ℕ) (h : Header) where
  -- the fault of a round after rows that are sound is the first of all
  pub fault_in_round : (first count n : ℕ) (x : Fault) → first + count ≤ n → IsFirstRowFault file (map (image_row h) (range_with_len 0 first)) None →
      IsFirstRowFault file (map (image_row h) (range_with_len first count)) (Some x) → IsFirstRowFault file (map (image_row h) (range_with_len 0 n)) (Some x)
  fault_in_round first count n x few sound fault =
      let rest : ℕ = n - (first + count) in
      let rows : List ℕ → List ImageRow = map (image_row h) in
      let all : n ≡ first + (count + rest) = omega (arith, few) in
      let begin : 0 + first ≡ first = omega arith in
      let split : range_with_len 0 n ≡ range_with_len 0 first ++ (range_with_len first count ++ range_with_len (first + count) rest) =
      ap (range_with_len 0) all ∙ range_more 0 first (count + rest)
      ∙ ap (λ k. range_with_len 0 first ++ range_with_len k (count + rest)) begin
      ∙ ap (λ l. range_with_len 0 first ++ l) (range_more first count rest) in
      let parts : rows (range_with_len 0 n) ≡ rows (range_with_len 0 first) ++ (rows (range_with_len first count) ++ rows (range_with_len (first + count) rest)) =
      ap rows split ∙ map-append (image_row h) (range_with_len 0 first) (range_with_len first count ++ range_with_len (first + count) rest)
      ∙ ap (λ l. rows (range_with_len 0 first) ++ l) (map-append (image_row h) (range_with_len first count) (range_with_len (first + count) rest)) in
      subst (λ l. IsFirstRowFault file l (Some x)) (sym parts)
      (fault_behind file (rows (range_with_len 0 first)) (rows (range_with_len first count) ++ rows (range_with_len (first + count) rest)) x sound
      (fault_before file (rows (range_with_len first count)) (rows (range_with_len (first + count) rest)) x fault))

  -- rows of rounds that are sound
  pub sound_rounds : (first count : ℕ) → IsFirstRowFault file (map (image_row h) (range_with_len 0 first)) None → IsFirstRowFault file (map (image_row h) (range_with_len first count)) None →
      IsFirstRowFault file (map (image_row h) (range_with_len 0 (first + count))) None
  sound_rounds first count front back =
      let begin : 0 + first ≡ first = omega arith in
      let split : range_with_len 0 (first + count) ≡ range_with_len 0 first ++ range_with_len first count =
      range_more 0 first count ∙ ap (λ k. range_with_len 0 first ++ range_with_len k count) begin in
      let parts : map (image_row h) (range_with_len 0 (first + count)) ≡ map (image_row h) (range_with_len 0 first) ++ map (image_row h) (range_with_len first count) =
      ap (map (image_row h)) split ∙ map-append (image_row h) (range_with_len 0 first) (range_with_len first count) in
      subst (λ l. IsFirstRowFault file l None) (sym parts) (sound_both file (map (image_row h) (range_with_len 0 first)) (map (image_row h) (range_with_len first count)) front back)

-- ---- where the source tells its bytes

pub none_sound : (held : Option (List ℕ)) (h : Header) → IfSome held (λ file. IsFirstRowFault file (map (image_row h) (range_with_len 0 0)) None)
none_sound None h = tt
none_sound (Some file) h = tt

pub more_sound : (held : Option (List ℕ)) (h : Header) (first count : ℕ) → IfSome held (λ file. IsFirstRowFault file (map (image_row h) (range_with_len 0 first)) None) →
    IfSome held (λ file. IsFirstRowFault file (map (image_row h) (range_with_len first count)) None) → IfSome held (λ file. IsFirstRowFault file (map (image_row h) (range_with_len 0 (first + count))) None)
more_sound None h first count front back = tt
more_sound (Some file) h first count front back = sound_rounds file h first count front back

-- all rows of the image
rows_said : (file : List ℕ) (h : Header) (image : PackedImage) → IsSaid file h image → map (image_row h) (range_with_len 0 (tiles_in image.plan)) ≡ rows_of file h
rows_said file h image said = ap (λ (p : Plan). map (image_row h) (range_with_len 0 (tiles_in p))) (sym said.plan)

pub all_sound : (held : Option (List ℕ)) (h : Header) (image : PackedImage) (first : ℕ) → IfSome held (λ file. IsSaid file h image) → first ≡ tiles_in image.plan →
    IfSome held (λ file. IsFirstRowFault file (map (image_row h) (range_with_len 0 first)) None) → IfSome held (λ file. IsFirstRowFault file (rows_of file h) None)
all_sound None h image first said all sound = tt
all_sound (Some file) h image first said all sound =
    subst (λ l. IsFirstRowFault file l None) (ap (λ n. map (image_row h) (range_with_len 0 n)) all ∙ rows_said file h image said) sound

one_faulty : (held : Option (List ℕ)) (h : Header) (image : PackedImage) (first count : ℕ) (x : Fault) → IfSome held (λ file. IsSaid file h image) → first + count ≤ tiles_in image.plan →
    IfSome held (λ file. IsFirstRowFault file (map (image_row h) (range_with_len 0 first)) None) → IfSome held (λ file. IsFirstRowFault file (map (image_row h) (range_with_len first count)) (Some x)) →
    IfSome held (λ file. IsFirstRowFault file (rows_of file h) (Some x))
one_faulty None h image first count x said few sound fault = tt
one_faulty (Some file) h image first count x said few sound fault =
    subst (λ l. IsFirstRowFault file l (Some x)) (rows_said file h image said) (fault_in_round file h first count (tiles_in image.plan) x few sound fault)

pub rounds_fault : (X : Type 0) (held : Option (List ℕ)) (h : Header) (image : PackedImage) (first count : ℕ) (stop : Stop) → IfSome held (λ file. IsSaid file h image) → first + count ≤ tiles_in image.plan →
    IfSome held (λ file. IsFirstRowFault file (map (image_row h) (range_with_len 0 first)) None) →
    IfRefused {X = X} (Err stop) (λ x. IfSome held (λ file. IsFirstRowFault file (map (image_row h) (range_with_len first count)) (Some x))) →
    IfRefused {X = X} (Err stop) (λ x. IfSome held (λ file. IsFirstRowFault file (rows_of file h) (Some x)))
rounds_fault X held h image first count (Refused x) said few sound fault = one_faulty held h image first count x said few sound fault
rounds_fault X held h image first count ReadFault said few sound fault = tt
rounds_fault X held h image first count WriteFault said few sound fault = tt
rounds_fault X held h image first count (OverLimit live asked limit) said few sound fault = tt
rounds_fault X held h image first count NoMemory said few sound fault = tt

-- slots that stay have room as before
pub room_stays : (pixels : ℕ) (old new : Pool) → HasSlotsFor pixels old → WindowStays old new → HasSlotsFor pixels new
room_stays pixels old new room stays =
    let n : ℕ = room.0 in
    (n, stays.sizes ∙ room.1 ∙ ap (λ (k : ℕ). replicate {A = ℕ × ℕ} (2 * k) (2 * n, 8 * n + 64)) (sym stays.workers), room.2)

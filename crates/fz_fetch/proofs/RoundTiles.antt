-- Rounds of tiles that were fetched, one after another (FITS 4.0, section 10.1).
use Rattle.std.proofs.Common.{◌≡◌, ℕ, zero, suc, ◌+◌, ◌-◌, ◌<◌, ◌≤◌, ℤ, List, [], ◌∷◌, ◌++◌, length, map, slice_index, Option, Some, None, IfSome, Result, Err, inl, inr, sym, ap, ◌∙◌, subst, arith}
use Rattle.std.specs.List.{range_with_len}
use Rattle.std.proofs.lemmas.List.{map-append}
use Rattle.std.proofs.lemmas.List.FromFn.{get_or-range_with_len, length-range_with_len}
use Rattle.fz_base.specs.declared.fault.Fault.{Fault}
use Rattle.fz_base.specs.declared.failure.Stop.{Stop}
use Rattle.fz_base.specs.declared.failure.Stop.TheVariants.{Refused, ReadFault, WriteFault, OverLimit, NoMemory}
use Rattle.fz_base.specs.Stop.{IfRefused}
use Rattle.fz_block.specs.declared.header.Header.{Header}
use Rattle.fz_checks.specs.declared.job_checks.PackedImage.{PackedImage}
use Rattle.fz_head.specs.declared.plan.Plan.{Plan}
use Rattle.fz_files.specs.FirstFault.{ImageRow, IsFirstRowFault, image_row, rows_of}
use Rattle.fz_files.specs.Packed.{tiles_in}
use Rattle.fz_pool.specs.declared.slot.Slot.{Slot}
use Rattle.fz_fetch.specs.Fetched.{AreFetched, RowsGive, TellsRowFault}
use Rattle.fz_job.specs.Images.{AreTilesOf, IsSaid}

-- ---- numbers of tiles

pub number_at : (first count i : ℕ) → i < count → slice_index (range_with_len first count) i ≡ first + i
number_at first count i low = get_or-range_with_len first count i 0 low

-- numbers from one on are those of a round, and those after it
pub range_more : (a m n : ℕ) → range_with_len a (m + n) ≡ range_with_len a m ++ range_with_len (a + m) n
range_more a zero n =
    let none : zero + n ≡ n = omega arith in
    let same : a ≡ a + zero = omega arith in
    ap (range_with_len a) none ∙ ap (λ k. range_with_len k n) same
range_more a (suc m) n =
    let long : suc m + n ≡ suc (m + n) = omega arith in
    let place : a + 1 + m ≡ a + suc m = omega arith in
    ap (range_with_len a) long
    ∙ ap (λ (l : List ℕ). a ∷ l) (range_more (a + 1) m n ∙ ap (λ k. range_with_len (a + 1) m ++ range_with_len k n) place)

-- as many as there are places for them
pub numbered : (first count : ℕ) (places tiles : List ℕ) → tiles ≡ range_with_len first (length places) → length places ≡ count → tiles ≡ range_with_len first count
numbered first count places tiles are long = are ∙ ap (range_with_len first) long

-- they are numbers of tiles of the image
pub tiles_of_image : (image : PackedImage) (first count : ℕ) (tiles : List ℕ) → tiles ≡ range_with_len first count → first + count ≤ tiles_in image.plan → AreTilesOf image tiles
tiles_of_image image first count tiles are few =
    subst (AreTilesOf image) (sym are)
    (λ i low. let near : i < count = omega (arith, low, length-range_with_len first count) in let is = number_at first count i near in omega (arith, is, near, few))

-- ---- rows

-- the rows of two lists
module _ (file : List ℕ) where
  pub sound_both : (xs ys : List ImageRow) → IsFirstRowFault file xs None → IsFirstRowFault file ys None → IsFirstRowFault file (xs ++ ys) None
  sound_both [] ys front back = back
  sound_both (r ∷ rs) ys front back = (front.0, sound_both rs ys front.1 back)

  pub fault_behind : (xs ys : List ImageRow) (x : Fault) → IsFirstRowFault file xs None → IsFirstRowFault file ys (Some x) → IsFirstRowFault file (xs ++ ys) (Some x)
  fault_behind [] ys x front back = back
  fault_behind (r ∷ rs) ys x front back = inr (front.0, fault_behind rs ys x front.1 back)

  pub fault_before : (xs ys : List ImageRow) (x : Fault) → IsFirstRowFault file xs (Some x) → IsFirstRowFault file (xs ++ ys) (Some x)
  fault_before [] ys x front = absurd front
  fault_before (r ∷ rs) ys x (inl is) = inl is
  fault_before (r ∷ rs) ys x (inr later) = inr (later.0, fault_before rs ys x later.1)

module _ (file : List ℕ) (h : Header) where
  -- rows that stand for pixels are sound
  pub given_sound : (tiles : List ℕ) (pixels : List (List ℤ)) → RowsGive file h tiles pixels → IsFirstRowFault file (map (image_row h) tiles) None
  given_sound [] pixels give = tt
  given_sound (t ∷ ts) [] give = ((_, give 0 [] (omega arith)), given_sound ts [] (λ i e low. give (suc i) e (omega (arith, low))))
  given_sound (t ∷ ts) (xs ∷ pixels) give = ((xs, give 0 [] (omega arith)), given_sound ts pixels (λ i e low. give (suc i) e (omega (arith, low))))

  -- the fault of a round after rows that are sound is the first of all
  pub fault_in_round : (first count n : ℕ) (x : Fault) → first + count ≤ n → IsFirstRowFault file (map (image_row h) (range_with_len 0 first)) None →
      IsFirstRowFault file (map (image_row h) (range_with_len first count)) (Some x) → IsFirstRowFault file (map (image_row h) (range_with_len 0 n)) (Some x)
  fault_in_round first count n x few sound fault =
      let rest : ℕ = n - (first + count) in
      let rows : List ℕ → List ImageRow = map (image_row h) in
      let all : n ≡ first + (count + rest) = omega (arith, few) in
      let begin : 0 + first ≡ first = omega arith in
      let split : range_with_len 0 n ≡ range_with_len 0 first ++ (range_with_len first count ++ range_with_len (first + count) rest) =
      ap (range_with_len 0) all ∙ range_more 0 first (count + rest)
      ∙ ap (λ k. range_with_len 0 first ++ range_with_len k (count + rest)) begin
      ∙ ap (λ l. range_with_len 0 first ++ l) (range_more first count rest) in
      let parts : rows (range_with_len 0 n) ≡ rows (range_with_len 0 first) ++ (rows (range_with_len first count) ++ rows (range_with_len (first + count) rest)) =
      ap rows split ∙ map-append (image_row h) (range_with_len 0 first) (range_with_len first count ++ range_with_len (first + count) rest)
      ∙ ap (λ l. rows (range_with_len 0 first) ++ l) (map-append (image_row h) (range_with_len first count) (range_with_len (first + count) rest)) in
      subst (λ l. IsFirstRowFault file l (Some x)) (sym parts)
      (fault_behind file (rows (range_with_len 0 first)) (rows (range_with_len first count) ++ rows (range_with_len (first + count) rest)) x sound
      (fault_before file (rows (range_with_len first count)) (rows (range_with_len (first + count) rest)) x fault))

  -- rows of rounds that are sound
  pub sound_rounds : (first count : ℕ) → IsFirstRowFault file (map (image_row h) (range_with_len 0 first)) None → IsFirstRowFault file (map (image_row h) (range_with_len first count)) None →
      IsFirstRowFault file (map (image_row h) (range_with_len 0 (first + count))) None
  sound_rounds first count front back =
      let begin : 0 + first ≡ first = omega arith in
      let split : range_with_len 0 (first + count) ≡ range_with_len 0 first ++ range_with_len first count =
      range_more 0 first count ∙ ap (λ k. range_with_len 0 first ++ range_with_len k count) begin in
      let parts : map (image_row h) (range_with_len 0 (first + count)) ≡ map (image_row h) (range_with_len 0 first) ++ map (image_row h) (range_with_len first count) =
      ap (map (image_row h)) split ∙ map-append (image_row h) (range_with_len 0 first) (range_with_len first count) in
      subst (λ l. IsFirstRowFault file l None) (sym parts) (sound_both file (map (image_row h) (range_with_len 0 first)) (map (image_row h) (range_with_len first count)) front back)

-- ---- where the source tells its bytes

-- the rows of a round are sound
pub round_sound : (held : Option (List ℕ)) (h : Header) (p : Plan) (first count : ℕ) (tiles : List ℕ) (slots : List Slot) → tiles ≡ range_with_len first count → AreFetched held h p tiles slots →
    IfSome held (λ file. IsFirstRowFault file (map (image_row h) (range_with_len first count)) None)
round_sound None h p first count tiles slots are fetched = tt
round_sound (Some file) h p first count tiles slots are fetched =
    subst (λ (ts : List ℕ). IsFirstRowFault file (map (image_row h) ts) None) are (given_sound file h tiles fetched.pixels fetched.told)

-- or one of them is refused
pub round_fault : {X : Type 0} (held : Option (List ℕ)) (h : Header) (first count : ℕ) (tiles : List ℕ) (r : Result X Stop) → tiles ≡ range_with_len first count → TellsRowFault held h tiles r →
    IfRefused r (λ x. IfSome held (λ file. IsFirstRowFault file (map (image_row h) (range_with_len first count)) (Some x)))
round_fault {X} held h first count tiles r are fault = subst (λ (ts : List ℕ). TellsRowFault {X = X} held h ts r) are fault

pub none_sound : (held : Option (List ℕ)) (h : Header) → IfSome held (λ file. IsFirstRowFault file (map (image_row h) (range_with_len 0 0)) None)
none_sound None h = tt
none_sound (Some file) h = tt

pub more_sound : (held : Option (List ℕ)) (h : Header) (first count : ℕ) → IfSome held (λ file. IsFirstRowFault file (map (image_row h) (range_with_len 0 first)) None) →
    IfSome held (λ file. IsFirstRowFault file (map (image_row h) (range_with_len first count)) None) → IfSome held (λ file. IsFirstRowFault file (map (image_row h) (range_with_len 0 (first + count))) None)
more_sound None h first count front back = tt
more_sound (Some file) h first count front back = sound_rounds file h first count front back

-- all rows of the image
rows_said : (file : List ℕ) (h : Header) (image : PackedImage) → IsSaid file h image → map (image_row h) (range_with_len 0 (tiles_in image.plan)) ≡ rows_of file h
rows_said file h image said = ap (λ (p : Plan). map (image_row h) (range_with_len 0 (tiles_in p))) (sym said.plan)

pub all_sound : (held : Option (List ℕ)) (h : Header) (image : PackedImage) (first : ℕ) → IfSome held (λ file. IsSaid file h image) → first ≡ tiles_in image.plan →
    IfSome held (λ file. IsFirstRowFault file (map (image_row h) (range_with_len 0 first)) None) → IfSome held (λ file. IsFirstRowFault file (rows_of file h) None)
all_sound None h image first said all sound = tt
all_sound (Some file) h image first said all sound =
    subst (λ l. IsFirstRowFault file l None) (ap (λ n. map (image_row h) (range_with_len 0 n)) all ∙ rows_said file h image said) sound

one_faulty : (held : Option (List ℕ)) (h : Header) (image : PackedImage) (first count : ℕ) (x : Fault) → IfSome held (λ file. IsSaid file h image) → first + count ≤ tiles_in image.plan →
    IfSome held (λ file. IsFirstRowFault file (map (image_row h) (range_with_len 0 first)) None) → IfSome held (λ file. IsFirstRowFault file (map (image_row h) (range_with_len first count)) (Some x)) →
    IfSome held (λ file. IsFirstRowFault file (rows_of file h) (Some x))
one_faulty None h image first count x said few sound fault = tt
one_faulty (Some file) h image first count x said few sound fault =
    subst (λ l. IsFirstRowFault file l (Some x)) (rows_said file h image said) (fault_in_round file h first count (tiles_in image.plan) x few sound fault)

pub rounds_fault : (X : Type 0) (held : Option (List ℕ)) (h : Header) (image : PackedImage) (first count : ℕ) (stop : Stop) → IfSome held (λ file. IsSaid file h image) → first + count ≤ tiles_in image.plan →
    IfSome held (λ file. IsFirstRowFault file (map (image_row h) (range_with_len 0 first)) None) →
    IfRefused {X = X} (Err stop) (λ x. IfSome held (λ file. IsFirstRowFault file (map (image_row h) (range_with_len first count)) (Some x))) →
    IfRefused {X = X} (Err stop) (λ x. IfSome held (λ file. IsFirstRowFault file (rows_of file h) (Some x)))
rounds_fault X held h image first count (Refused x) said few sound fault = one_faulty held h image first count x said few sound fault
rounds_fault X held h image first count ReadFault said few sound fault = tt
rounds_fault X held h image first count WriteFault said few sound fault = tt
rounds_fault X held h image first count (OverLimit live asked limit) said few sound fault = tt
rounds_fault X held h image first count NoMemory said few sound fault = tt

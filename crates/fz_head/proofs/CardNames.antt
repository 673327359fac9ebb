-- The name of a card in a packed header, and back.
use Rattle.std.proofs.Common.{◌≡◌, ℕ, ◌^◌, ◌<◌, ◌≤◌, Bool, true, false, cond, leb, List, length, sym, refl, ap, ◌∙◌, arith, inl, inr}
use Rattle.std.specs.Prelude.{Option, Some, None, is_some, unwrap_or, codes}
use Rattle.std.specs.Fmt.{digits}
use Rattle.std.proofs.lemmas.Bool.Decides.{nat_tests}
use Rattle.fz_card.specs.Laws.{CardLaws}
use Rattle.fz_card.specs.Layout.{padded}
use Rattle.fz_card.specs.Made.{numbered_name}
use Rattle.fz_card.specs.Tables.{IsNumberedName, IsHighAxis, IsRenamed, IsReserved, renamings, foreign_names}
use Rattle.fz_card.specs.Tables.Names.{Numbered}
use Rattle.fz_card.specs.Naming.{number_behind, up_to, is_in, packed_name, plain_name, is_dropped, is_reserved}

-- the name that a card has in a packed header, and the one that it has in the image
abbrev pub new_name : List ℕ → List ℕ
new_name name = unwrap_or (packed_name name) name

abbrev pub old_name : List ℕ → List ℕ
old_name name = unwrap_or (plain_name name) name

-- a name of an image that comes back: it is not reserved, and is no axis above the ninth
pub record IsFree (name : List ℕ) : Type 0 where
  pub eight : length name ≡ 8
  pub free : is_reserved name ≡ false
  pub low : ¬ (IsHighAxis name)

-- a card has the new name exactly where it had the old one
pub new_name-of : (a b : List ℕ) → packed_name a ≡ Some b → new_name a ≡ b
new_name-of a b e = ap (λ o. unwrap_or o a) e

up_to-within : (last i : ℕ) → i ≤ last → is_some (up_to last (Some i)) ≡ true
up_to-within last i within = by_test (leb i last) i (grind (arith, nat_tests))
  where
    by_test : (test : Bool) (i : ℕ) → test ≡ true → is_some (cond test (Some i) None) ≡ true
    by_test test i e = rw e refl

up_to-above : (last i : ℕ) → last < i → is_some (up_to last (Some i)) ≡ false
up_to-above last i above = by_test (leb i last) i (grind (arith, nat_tests))
  where
    by_test : (test : Bool) (i : ℕ) → test ≡ false → is_some (cond test (Some i) None) ≡ false
    by_test test i e = rw e refl

-- the names of the table that are looked for
abbrev pub IsWordPair : List ℕ → List ℕ → Type 0
IsWordPair plain packed = packed_name (padded plain) ≡ Some (padded packed)

pub simple-pair : IsWordPair (codes "SIMPLE") (codes "ZSIMPLE")
unfolding packed_name renamings number_behind numbered_name digits
simple-pair = refl

pub xtension-pair : IsWordPair (codes "XTENSION") (codes "ZTENSION")
unfolding packed_name renamings number_behind numbered_name digits
xtension-pair = refl

pub bitpix-pair : IsWordPair (codes "BITPIX") (codes "ZBITPIX")
unfolding packed_name renamings number_behind numbered_name digits
bitpix-pair = refl

pub naxis-pair : IsWordPair (codes "NAXIS") (codes "ZNAXIS")
unfolding packed_name renamings number_behind numbered_name digits
naxis-pair = refl

pub pcount-pair : IsWordPair (codes "PCOUNT") (codes "ZPCOUNT")
unfolding packed_name renamings number_behind numbered_name digits
pcount-pair = refl

pub gcount-pair : IsWordPair (codes "GCOUNT") (codes "ZGCOUNT")
unfolding packed_name renamings number_behind numbered_name digits
gcount-pair = refl

-- EXTNAME keeps its name
extname-old : old_name (padded (codes "EXTNAME")) ≡ padded (codes "EXTNAME")
unfolding plain_name renamings number_behind numbered_name digits
extname-old = refl

-- by the laws of cards
module _ (laws : CardLaws) where
  -- each name of a packed header that stands for another has 8 bytes
  pub renamed-length : (a b : List ℕ) → IsRenamed a b → length b ≡ 8
  unfolding IsRenamed renamings
  renamed-length a b (inl h) = ap length h.1
  renamed-length a b (inr (inl h)) = ap length h.1
  renamed-length a b (inr (inr (inl h))) = ap length h.1
  renamed-length a b (inr (inr (inr (inl h)))) = ap length h.1
  renamed-length a b (inr (inr (inr (inr (inl h))))) = ap length h.1
  renamed-length a b (inr (inr (inr (inr (inr (inl h)))))) = ap length h.1
  renamed-length a b (inr (inr (inr (inr (inr (inr (inl h))))))) = ap length h.1
  renamed-length a b (inr (inr (inr (inr (inr (inr (inr (inl h)))))))) = ap length h.1
  renamed-length a b (inr (inr (inr (inr (inr (inr (inr (inr (inl h))))))))) = ap length h.1
  renamed-length a b (inr (inr (inr (inr (inr (inr (inr (inr (inr (inl h)))))))))) = ap length h.1
  renamed-length a b (inr (inr (inr (inr (inr (inr (inr (inr (inr (inr (inl h))))))))))) =
      ap length h.packed_made ∙ laws.numbers.eight_bytes (codes "ZNAXIS") h.number (omega arith, omega (arith, h.high))
  renamed-length a b (inr (inr (inr (inr (inr (inr (inr (inr (inr (inr (inr h))))))))))) = absurd h

  new-length-by : (name : List ℕ) (found : Option (List ℕ)) → packed_name name ≡ found → length name ≡ 8 → length (unwrap_or found name) ≡ 8
  new-length-by name None e eight = eight
  new-length-by name (Some b) e eight = renamed-length name b (laws.names.packed_renamed name b e)

  pub length-new_name : (name : List ℕ) → length name ≡ 8 → length (new_name name) ≡ 8
  length-new_name name eight = new-length-by name (packed_name name) refl eight

  -- the name comes back
  old-new-by : (name : List ℕ) (found : Option (List ℕ)) → packed_name name ≡ found → IsFree name → old_name (unwrap_or found name) ≡ name
  old-new-by name None e is = ap (λ o. unwrap_or o name) (laws.names.other_kept name is.free is.low e).0
  old-new-by name (Some b) e is = ap (λ o. unwrap_or o b) (laws.names.packed_back name b e)

  pub old-new_name : (name : List ℕ) → IsFree name → old_name (new_name name) ≡ name
  old-new_name name is = old-new-by name (packed_name name) refl is

  pub was-named : (name a b : List ℕ) → IsFree name → packed_name a ≡ Some b → new_name name ≡ b → name ≡ a
  was-named name a b is e same = sym (old-new_name name is) ∙ (ap old_name same ∙ ap (λ o. unwrap_or o b) (laws.names.packed_back a b e))

  -- it is not dropped
  dropped-by : (name : List ℕ) (found : Option (List ℕ)) → packed_name name ≡ found → IsFree name → is_dropped (unwrap_or found name) ≡ false
  dropped-by name None e is = (laws.names.other_kept name is.free is.low e).1
  dropped-by name (Some b) e is = laws.names.renamed_kept name b e

  pub new_name-kept : (name : List ℕ) → IsFree name → is_dropped (new_name name) ≡ false
  new_name-kept name is = dropped-by name (packed_name name) refl is

  pub numbered-is : (stem : List ℕ) (last : ℕ) (name : List ℕ) → is_in (Numbered stem last) name ≡ true → IsNumberedName stem 1 last name
  numbered-is stem last name e = laws.names.line_named (Numbered stem last) name e

  pub is-numbered : (stem : List ℕ) (last i : ℕ) (name : List ℕ) → 1 ≤ i → i ≤ last → i < 2 ^ 64 → name ≡ numbered_name stem i → is_in (Numbered stem last) name ≡ true
  is-numbered stem last i name low high wide made = rw (laws.numbers.made_number stem name i low wide made) (up_to-within last i high)

  pub not-numbered : (stem : List ℕ) (last i : ℕ) (name : List ℕ) → 1 ≤ i → last < i → i < 2 ^ 64 → name ≡ numbered_name stem i → is_in (Numbered stem last) name ≡ false
  not-numbered stem last i name low high wide made = rw (laws.numbers.made_number stem name i low wide made) (up_to-above last i high)

  -- a name that becomes ZNAXISi was that of an axis
  no_number : (b : List ℕ) (i : ℕ) (word : List ℕ) → b ≡ padded word → number_behind (codes "ZNAXIS") (padded word) ≡ None → 1 ≤ i → i < 2 ^ 64 → ¬ (b ≡ numbered_name (codes "ZNAXIS") i)
  no_number b i word e none low wide made =
      let some = laws.numbers.made_number (codes "ZNAXIS") b i low wide made in
      let same : number_behind (codes "ZNAXIS") b ≡ number_behind (codes "ZNAXIS") (padded word) = ap (number_behind (codes "ZNAXIS")) e in
      cc

  was-axis-by : (a b : List ℕ) (i : ℕ) → IsRenamed a b → 1 ≤ i → i < 2 ^ 64 → b ≡ numbered_name (codes "ZNAXIS") i → IsNumberedName (codes "NAXIS") 1 9 a
  unfolding IsRenamed renamings number_behind numbered_name digits
  was-axis-by a b i (inl h) low wide made = absurd (no_number b i (codes "ZSIMPLE") h.1 refl low wide made)
  was-axis-by a b i (inr (inl h)) low wide made = absurd (no_number b i (codes "ZTENSION") h.1 refl low wide made)
  was-axis-by a b i (inr (inr (inl h))) low wide made = absurd (no_number b i (codes "ZBITPIX") h.1 refl low wide made)
  was-axis-by a b i (inr (inr (inr (inl h)))) low wide made = absurd (no_number b i (codes "ZNAXIS") h.1 refl low wide made)
  was-axis-by a b i (inr (inr (inr (inr (inl h))))) low wide made = absurd (no_number b i (codes "ZEXTEND") h.1 refl low wide made)
  was-axis-by a b i (inr (inr (inr (inr (inr (inl h)))))) low wide made = absurd (no_number b i (codes "ZBLOCKED") h.1 refl low wide made)
  was-axis-by a b i (inr (inr (inr (inr (inr (inr (inl h))))))) low wide made = absurd (no_number b i (codes "ZPCOUNT") h.1 refl low wide made)
  was-axis-by a b i (inr (inr (inr (inr (inr (inr (inr (inl h)))))))) low wide made = absurd (no_number b i (codes "ZGCOUNT") h.1 refl low wide made)
  was-axis-by a b i (inr (inr (inr (inr (inr (inr (inr (inr (inl h))))))))) low wide made = absurd (no_number b i (codes "ZHECKSUM") h.1 refl low wide made)
  was-axis-by a b i (inr (inr (inr (inr (inr (inr (inr (inr (inr (inl h)))))))))) low wide made = absurd (no_number b i (codes "ZDATASUM") h.1 refl low wide made)
  was-axis-by a b i (inr (inr (inr (inr (inr (inr (inr (inr (inr (inr (inl h))))))))))) low wide made =
      record { number = h.number; low = h.low; high = h.high; made = h.plain_made }
  was-axis-by a b i (inr (inr (inr (inr (inr (inr (inr (inr (inr (inr (inr h))))))))))) low wide made = absurd h

  -- ZNAXISi is reserved
  axis-reserved : (name : List ℕ) → IsNumberedName (codes "ZNAXIS") 1 99 name → is_reserved name ≡ true
  unfolding IsReserved foreign_names
  axis-reserved name h = laws.names.named_reserved name (inr (inr (inr (inr (inr (inl h))))))

  new-axis-by : (name : List ℕ) (found : Option (List ℕ)) → packed_name name ≡ found → IsFree name → IsNumberedName (codes "ZNAXIS") 1 99 (unwrap_or found name) → IsNumberedName (codes "NAXIS") 1 9 name
  new-axis-by name None e is h = let taken = axis-reserved name h in absurd (let free = is.free in cc)
  new-axis-by name (Some b) e is h = was-axis-by name b h.number (laws.names.packed_renamed name b e) h.low (omega (arith, h.high)) h.made

  -- a card that is called ZNAXISi was that of one of nine axes
  pub was-axis : (name : List ℕ) → IsFree name → is_in (Numbered (codes "ZNAXIS") 99) (new_name name) ≡ true → IsNumberedName (codes "NAXIS") 1 9 name
  was-axis name is e = new-axis-by name (packed_name name) refl is (numbered-is (codes "ZNAXIS") 99 (new_name name) e)

  pub axis-pair : (i : ℕ) → 1 ≤ i → i ≤ 9 → packed_name (numbered_name (codes "NAXIS") i) ≡ Some (numbered_name (codes "ZNAXIS") i)
  unfolding IsRenamed renamings
  axis-pair i low high =
      (laws.names.renamed (numbered_name (codes "NAXIS") i) (numbered_name (codes "ZNAXIS") i)
      (inr (inr (inr (inr (inr (inr (inr (inr (inr (inr (inl (record { number = i; low = low; high = high; plain_made = refl; packed_made = refl }))))))))))))).to_packed

  pub was-extname : (name : List ℕ) → IsFree name → new_name name ≡ padded (codes "EXTNAME") → name ≡ padded (codes "EXTNAME")
  was-extname name is same = sym (old-new_name name is) ∙ (ap old_name same ∙ extname-old)

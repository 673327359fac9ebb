-- The tables of names: the functions give the names of the tables, and the two ways through the table of both names undo each other.
use Rattle.std.proofs.Common.{◌≡◌, ℕ, zero, suc, ◌<◌, ◌≤◌, Bool, true, false, cond, leb, List, [], ◌∷◌, map, sym, refl, ap, ◌∙◌, subst, arith, inl, inr}
use Rattle.std.specs.Prelude.{◌⊎◌, ◌||◌, Option, Some, None, is_some, bytes_eq, codes}
use Rattle.std.specs.Option.{option_or, option_and_then, option_map}
use Rattle.std.specs.Fmt.{digits}
use Rattle.std.proofs.lemmas.Bool.{cases_lt}
use Rattle.std.proofs.lemmas.Bool.Decides.{nat_tests}
use Rattle.std.proofs.lemmas.Slice.Eq.{bytes_eq-Decides}
use Rattle.fz_card.specs.declared.card.Name.{Name}
use Rattle.fz_card.specs.Layout.{padded}
use Rattle.fz_card.specs.Made.{numbered_name}
use Rattle.fz_card.specs.Tables.{Names, Renaming, IsNumberedName, AreNumberedNames, IsIn, IsShortLine, AreShortLines, IsInSome, Renames, SomeRenames, renamings, IsRenamed, packed_names, own_names, foreign_names, IsDropped, IsReserved, IsHighAxis}
use Rattle.fz_card.specs.Tables.Names.{Word, Numbered}
use Rattle.fz_card.specs.Tables.Renaming.{Words, Stems}
use Rattle.fz_card.specs.Naming.{number_behind, up_to, is_in, is_in_some, renamed_by, some_renamed, reversed, packed_name, plain_name, is_dropped, is_reserved}
use Rattle.fz_card.specs.Laws.{AreBothNames}
use Rattle.fz_card.proofs.Readings.{some-if, le-true}
use Rattle.fz_card.proofs.Numbers.{number_behind-has, number_behind-made}

up_to-is : (last : ℕ) (o : Option ℕ) (i : ℕ) → up_to last o ≡ Some i → (o ≡ Some i) × (i ≤ last)
up_to-is last None i e = cc
up_to-is last (Some n) i e =
    let parts = some-if (leb n last) n i e in
    (ap Some parts.1, subst (λ (k : ℕ). k ≤ last) parts.1 (le-true n last parts.0))

-- what one line gives is what it renames the name to
stems-rename : (plain packed : List ℕ) (last : ℕ) (a b : List ℕ) (o : Option ℕ) → up_to last (number_behind plain a) ≡ o → option_and_then (λ number. Some (numbered_name packed number)) o ≡ Some b → AreNumberedNames plain packed last a b
stems-rename plain packed last a b None found e = cc
stems-rename plain packed last a b (Some i) found e =
    let parts = up_to-is last (number_behind plain a) i found in
    let has = number_behind-has plain a i parts.0 in
    record { number = i; low = has.some; high = parts.1; plain_made = has.made; packed_made = cc }

renamed-renames : (line : Renaming) (a b : List ℕ) → renamed_by line a ≡ Some b → Renames line a b
renamed-renames (Words plain packed) a b e =
    let parts = some-if (bytes_eq a (padded plain)) (padded packed) b e in
    ((bytes_eq-Decides a (padded plain)).0 parts.0, sym parts.1)
renamed-renames (Stems plain packed last) a b e = stems-rename plain packed last a b (up_to last (number_behind plain a)) refl e

or-some : {X : Type 0} (o p : Option X) (x : X) → option_or o p ≡ Some x → (o ≡ Some x) ⊎ (p ≡ Some x)
or-some None p x e = inr e
or-some (Some y) p x e = inl e

either : {A B C D : Type 0} → A ⊎ B → (A → C) → (B → D) → C ⊎ D
either (inl a) f g = inl (f a)
either (inr b) f g = inr (g b)

some-renames : (lines : List Renaming) (a b : List ℕ) → some_renamed lines a ≡ Some b → SomeRenames lines a b
some-renames [] a b e = cc
some-renames (line ∷ lines) a b e =
    either (or-some (renamed_by line a) (some_renamed lines a) b e) (λ f. renamed-renames line a b f) (λ f. some-renames lines a b f)

pub packed_name-renamed : (a b : List ℕ) → packed_name a ≡ Some b → IsRenamed a b
unfolding packed_name IsRenamed
packed_name-renamed a b e = some-renames renamings a b e

-- one to nine
by_nine : (P : ℕ → Type 0) → P 1 → P 2 → P 3 → P 4 → P 5 → P 6 → P 7 → P 8 → P 9 → (i : ℕ) → 1 ≤ i → i ≤ 9 → P i
by_nine P one two three four five six seven eight nine zero low high = absurd (omega arith)
by_nine P one two three four five six seven eight nine (suc zero) low high = one
by_nine P one two three four five six seven eight nine (suc (suc zero)) low high = two
by_nine P one two three four five six seven eight nine (suc (suc (suc zero))) low high = three
by_nine P one two three four five six seven eight nine (suc (suc (suc (suc zero)))) low high = four
by_nine P one two three four five six seven eight nine (suc (suc (suc (suc (suc zero))))) low high = five
by_nine P one two three four five six seven eight nine (suc (suc (suc (suc (suc (suc zero)))))) low high = six
by_nine P one two three four five six seven eight nine (suc (suc (suc (suc (suc (suc (suc zero))))))) low high = seven
by_nine P one two three four five six seven eight nine (suc (suc (suc (suc (suc (suc (suc (suc zero)))))))) low high = eight
by_nine P one two three four five six seven eight nine (suc (suc (suc (suc (suc (suc (suc (suc (suc zero))))))))) low high = nine
by_nine P one two three four five six seven eight nine (suc (suc (suc (suc (suc (suc (suc (suc (suc (suc i)))))))))) low high = absurd (omega arith)

-- the table read from right to left
reversed-renames : (line : Renaming) (a b : List ℕ) → Renames (reversed line) b a → Renames line a b
reversed-renames (Words plain packed) a b (to, from) = (from, to)
reversed-renames (Stems plain packed last) a b made = record { number = made.number; low = made.low; high = made.high; plain_made = made.packed_made; packed_made = made.plain_made }

reversed_some-renames : (lines : List Renaming) (a b : List ℕ) → SomeRenames (map reversed lines) b a → SomeRenames lines a b
reversed_some-renames [] a b h = h
reversed_some-renames (line ∷ lines) a b h =
    either h (λ t. reversed-renames line a b t) (λ t. reversed_some-renames lines a b t)

pub plain_name-renamed : (a b : List ℕ) → plain_name b ≡ Some a → IsRenamed a b
unfolding plain_name IsRenamed
plain_name-renamed a b e = reversed_some-renames renamings a b (some-renames (map reversed renamings) b a e)

-- what is found of a name of the table, for each line of it
pair-of : (P : List ℕ → List ℕ → Type 0) (x y a b : List ℕ) → P x y → a ≡ x → b ≡ y → P a b
pair-of P x y a b p e f = subst (λ (k : List ℕ). P k b) (sym e) (subst (P x) (sym f) p)

abbrev NumberedPair : ℕ → Type 0
NumberedPair i = AreBothNames (numbered_name (codes "NAXIS") i) (numbered_name (codes "ZNAXIS") i)

numbered_pair : (i : ℕ) → 1 ≤ i → i ≤ 9 → NumberedPair i
unfolding packed_name plain_name is_dropped renamings own_names packed_names number_behind numbered_name digits
numbered_pair i low high =
    by_nine NumberedPair (record { to_packed = refl; to_plain = refl; kept = refl }) (record { to_packed = refl; to_plain = refl; kept = refl }) (record { to_packed = refl; to_plain = refl; kept = refl }) (record { to_packed = refl; to_plain = refl; kept = refl }) (record { to_packed = refl; to_plain = refl; kept = refl }) (record { to_packed = refl; to_plain = refl; kept = refl }) (record { to_packed = refl; to_plain = refl; kept = refl }) (record { to_packed = refl; to_plain = refl; kept = refl }) (record { to_packed = refl; to_plain = refl; kept = refl }) i low high

word_pair : (plain packed a b : List ℕ) → AreBothNames (padded plain) (padded packed) → (a ≡ padded plain) × (b ≡ padded packed) → AreBothNames a b
word_pair plain packed a b pair (e, f) = pair-of AreBothNames (padded plain) (padded packed) a b pair e f

pub renamed-pair : (a b : List ℕ) → IsRenamed a b → AreBothNames a b
unfolding IsRenamed packed_name plain_name is_dropped renamings own_names packed_names number_behind numbered_name digits
renamed-pair a b (inl h) = word_pair (codes "SIMPLE") (codes "ZSIMPLE") a b (record { to_packed = refl; to_plain = refl; kept = refl }) h
renamed-pair a b (inr (inl h)) = word_pair (codes "XTENSION") (codes "ZTENSION") a b (record { to_packed = refl; to_plain = refl; kept = refl }) h
renamed-pair a b (inr (inr (inl h))) = word_pair (codes "BITPIX") (codes "ZBITPIX") a b (record { to_packed = refl; to_plain = refl; kept = refl }) h
renamed-pair a b (inr (inr (inr (inl h)))) = word_pair (codes "NAXIS") (codes "ZNAXIS") a b (record { to_packed = refl; to_plain = refl; kept = refl }) h
renamed-pair a b (inr (inr (inr (inr (inl h))))) = word_pair (codes "EXTEND") (codes "ZEXTEND") a b (record { to_packed = refl; to_plain = refl; kept = refl }) h
renamed-pair a b (inr (inr (inr (inr (inr (inl h)))))) = word_pair (codes "BLOCKED") (codes "ZBLOCKED") a b (record { to_packed = refl; to_plain = refl; kept = refl }) h
renamed-pair a b (inr (inr (inr (inr (inr (inr (inl h))))))) = word_pair (codes "PCOUNT") (codes "ZPCOUNT") a b (record { to_packed = refl; to_plain = refl; kept = refl }) h
renamed-pair a b (inr (inr (inr (inr (inr (inr (inr (inl h)))))))) = word_pair (codes "GCOUNT") (codes "ZGCOUNT") a b (record { to_packed = refl; to_plain = refl; kept = refl }) h
renamed-pair a b (inr (inr (inr (inr (inr (inr (inr (inr (inl h))))))))) = word_pair (codes "CHECKSUM") (codes "ZHECKSUM") a b (record { to_packed = refl; to_plain = refl; kept = refl }) h
renamed-pair a b (inr (inr (inr (inr (inr (inr (inr (inr (inr (inl h)))))))))) = word_pair (codes "DATASUM") (codes "ZDATASUM") a b (record { to_packed = refl; to_plain = refl; kept = refl }) h
renamed-pair a b (inr (inr (inr (inr (inr (inr (inr (inr (inr (inr (inl h))))))))))) =
    pair-of AreBothNames (numbered_name (codes "NAXIS") h.number) (numbered_name (codes "ZNAXIS") h.number) a b (numbered_pair h.number h.low h.high) h.plain_made h.packed_made
renamed-pair a b (inr (inr (inr (inr (inr (inr (inr (inr (inr (inr (inr h))))))))))) = absurd h

-- the name that a name has in a packed header has that name in the image
pub packed-plain : (a b : List ℕ) → packed_name a ≡ Some b → plain_name b ≡ Some a
packed-plain a b e = (renamed-pair a b (packed_name-renamed a b e)).to_plain

pub plain-packed : (a b : List ℕ) → plain_name b ≡ Some a → packed_name a ≡ Some b
plain-packed a b e = (renamed-pair a b (plain_name-renamed a b e)).to_packed

-- a line of a list
some-true : {X : Type 0} (o : Option X) → is_some o ≡ true → (x : X) × (o ≡ Some x)
some-true None e = cc
some-true (Some x) e = (x, refl)

pub is_in-is : (line : Names) (name : List ℕ) → is_in line name ≡ true → IsIn line name
is_in-is (Word word) name e = (bytes_eq-Decides name (padded word)).0 e
is_in-is (Numbered stem last) name e =
    let found = some-true (up_to last (number_behind stem name)) e in
    let parts = up_to-is last (number_behind stem name) found.0 found.1 in
    let has = number_behind-has stem name found.0 parts.0 in
    record { number = found.0; low = has.some; high = parts.1; made = has.made }

up_to-within : (last i : ℕ) → i ≤ last → is_some (up_to last (Some i)) ≡ true
up_to-within last i within = by_test (leb i last) i (grind (arith, nat_tests))
  where
    by_test : (test : Bool) (i : ℕ) → test ≡ true → is_some (cond test (Some i) None) ≡ true
    by_test test i e = rw e refl

pub is-is_in : (line : Names) (name : List ℕ) → IsShortLine line → IsIn line name → is_in line name ≡ true
is-is_in (Word word) name small is = (bytes_eq-Decides name (padded word)).1 is
is-is_in (Numbered stem last) name small is =
    rw (number_behind-made stem name is.number is.low (omega (arith, is.high)) is.made) (up_to-within last is.number is.high)

or-true : (a b : Bool) → (a || b) ≡ true → (a ≡ true) ⊎ (b ≡ true)
or-true true b e = inl refl
or-true false b e = inr e

true-or : (a b : Bool) → (a ≡ true) ⊎ (b ≡ true) → (a || b) ≡ true
true-or a b (inl e) = rw e refl
true-or true b (inr e) = refl
true-or false b (inr e) = e

pub is_in_some-is : (lines : List Names) (name : List ℕ) → is_in_some lines name ≡ true → IsInSome lines name
is_in_some-is [] name e = cc
is_in_some-is (line ∷ lines) name e =
    either (or-true (is_in line name) (is_in_some lines name) e) (λ f. is_in-is line name f) (λ f. is_in_some-is lines name f)

pub is-is_in_some : (lines : List Names) (name : List ℕ) → AreShortLines lines → IsInSome lines name → is_in_some lines name ≡ true
is-is_in_some [] name small is = absurd is
is-is_in_some (line ∷ lines) name (small, all) is =
    true-or (is_in line name) (is_in_some lines name) (either is (λ h. is-is_in line name small h) (λ h. is-is_in_some lines name all h))

own_small : AreShortLines own_names
unfolding own_names
own_small = (tt, (tt, (tt, (omega arith, (tt, (tt, (tt, (tt, tt))))))))

packed_small : AreShortLines packed_names
unfolding packed_names
packed_small = (tt, (omega arith, (omega arith, (tt, (tt, (tt, (omega arith, (omega arith, (omega arith, (tt, (tt, (tt, (tt, tt)))))))))))))

foreign_small : AreShortLines foreign_names
unfolding foreign_names
foreign_small = (tt, (tt, (tt, (omega arith, tt))))

pub dropped-is : (name : List ℕ) → is_dropped name ≡ true → IsDropped name
unfolding is_dropped IsDropped
dropped-is name e =
    either (or-true (is_in_some own_names name) (is_in_some packed_names name) e) (λ f. is_in_some-is own_names name f) (λ f. is_in_some-is packed_names name f)

pub is-dropped : (name : List ℕ) → IsDropped name → is_dropped name ≡ true
unfolding is_dropped IsDropped
is-dropped name is =
    true-or (is_in_some own_names name) (is_in_some packed_names name) (either is (λ h. is-is_in_some own_names name own_small h) (λ h. is-is_in_some packed_names name packed_small h))

pub reserved-is : (name : List ℕ) → is_reserved name ≡ true → IsReserved name
unfolding is_reserved IsReserved
reserved-is name e =
    either (or-true (is_some (plain_name name)) (is_in_some packed_names name || is_in_some foreign_names name) e)
    (λ f. let found = some-true (plain_name name) f in (found.0, plain_name-renamed found.0 name found.1))
    (λ f. either (or-true (is_in_some packed_names name) (is_in_some foreign_names name) f) (λ g. is_in_some-is packed_names name g) (λ g. is_in_some-is foreign_names name g))

pub is-reserved : (name : List ℕ) → IsReserved name → is_reserved name ≡ true
unfolding is_reserved IsReserved
is-reserved name is =
    true-or (is_some (plain_name name)) (is_in_some packed_names name || is_in_some foreign_names name)
    (either is
    (λ h. ap is_some (renamed-pair h.0 name h.1).to_plain)
    (λ h. true-or (is_in_some packed_names name) (is_in_some foreign_names name) (either h (λ k. is-is_in_some packed_names name packed_small k) (λ k. is-is_in_some foreign_names name foreign_small k))))

-- what a test found is what the table has
pub tested-is : (read found : Bool) (Is : Type 0) → read ≡ found → (found ≡ true → Is) → (Is → found ≡ true) → (read ≡ true → Is) × (Is → read ≡ true)
tested-is read found Is e is holds = (λ t. is (sym e ∙ t), λ h. e ∙ holds h)

pub dropped-own : (name : List ℕ) → is_in_some own_names name ≡ true → true ≡ is_dropped name
unfolding is_dropped
dropped-own name e = rw e refl

pub dropped-packed : (name : List ℕ) → is_in_some own_names name ≡ false → is_in_some packed_names name ≡ is_dropped name
unfolding is_dropped
dropped-packed name e = rw e refl

pub reserved-restored : (name : List ℕ) → is_some (plain_name name) ≡ true → true ≡ is_reserved name
unfolding is_reserved
reserved-restored name e = rw e refl

pub reserved-packed : (name : List ℕ) → is_some (plain_name name) ≡ false → is_in_some packed_names name ≡ true → true ≡ is_reserved name
unfolding is_reserved
reserved-packed name e f = rw (e, f) refl

pub reserved-foreign : (name : List ℕ) → is_some (plain_name name) ≡ false → is_in_some packed_names name ≡ false → is_in_some foreign_names name ≡ is_reserved name
unfolding is_reserved
reserved-foreign name e f = rw (e, f) refl

pub bytes-some : (read : Option Name) (found : Option (List ℕ)) → option_map (λ (n : Name). n.bytes) read ≡ found → is_some read ≡ is_some found
bytes-some None found e = ap is_some e
bytes-some (Some n) found e = ap is_some e

-- what is not reserved is not restored, and stands in no packed header alone
or-false : (a b : Bool) → (a || b) ≡ false → (a ≡ false) × (b ≡ false)
or-false true b e = cc
or-false false b e = (refl, e)

none-of : {X : Type 0} (o : Option X) → is_some o ≡ false → o ≡ None
none-of None e = refl
none-of (Some x) e = cc

unreserved : (name : List ℕ) → is_reserved name ≡ false → (plain_name name ≡ None) × (is_in_some packed_names name ≡ false)
unfolding is_reserved
unreserved name e =
    let parts = or-false (is_some (plain_name name)) (is_in_some packed_names name || is_in_some foreign_names name) e in
    (none-of (plain_name name) parts.0, (or-false (is_in_some packed_names name) (is_in_some foreign_names name) parts.1).0)

word-renamed : (x a y : List ℕ) → a ≡ x → packed_name x ≡ Some y → ¬ (packed_name a ≡ None)
word-renamed x a y e found none = let same : packed_name a ≡ packed_name x = ap packed_name e in cc

axis-renamed : (a : List ℕ) → IsNumberedName (codes "NAXIS") 1 999 a → ¬ (IsHighAxis a) → ¬ (packed_name a ≡ None)
axis-renamed a h high = by_number (cases_lt 9 h.number)
  where
    by_number : (9 < h.number) ⊎ (h.number ≤ 9) → ¬ (packed_name a ≡ None)
    by_number (inl above) = absurd (high (record { number = h.number; low = above; high = h.high; made = h.made }))
    by_number (inr within) = word-renamed (numbered_name (codes "NAXIS") h.number) a (numbered_name (codes "ZNAXIS") h.number) h.made (numbered_pair h.number h.low within).to_packed

-- a name that says how a table is built is renamed, but for the axes above the ninth
own-renamed : (a : List ℕ) → IsInSome own_names a → ¬ (IsHighAxis a) → ¬ (packed_name a ≡ None)
unfolding own_names packed_name renamings number_behind numbered_name digits
own-renamed a (inl h) high = word-renamed (padded (codes "XTENSION")) a (padded (codes "ZTENSION")) h refl
own-renamed a (inr (inl h)) high = word-renamed (padded (codes "BITPIX")) a (padded (codes "ZBITPIX")) h refl
own-renamed a (inr (inr (inl h))) high = word-renamed (padded (codes "NAXIS")) a (padded (codes "ZNAXIS")) h refl
own-renamed a (inr (inr (inr (inl h)))) high = axis-renamed a h high
own-renamed a (inr (inr (inr (inr (inl h))))) high = word-renamed (padded (codes "PCOUNT")) a (padded (codes "ZPCOUNT")) h refl
own-renamed a (inr (inr (inr (inr (inr (inl h)))))) high = word-renamed (padded (codes "GCOUNT")) a (padded (codes "ZGCOUNT")) h refl
own-renamed a (inr (inr (inr (inr (inr (inr (inl h))))))) high = word-renamed (padded (codes "CHECKSUM")) a (padded (codes "ZHECKSUM")) h refl
own-renamed a (inr (inr (inr (inr (inr (inr (inr (inl h)))))))) high = word-renamed (padded (codes "DATASUM")) a (padded (codes "ZDATASUM")) h refl
own-renamed a (inr (inr (inr (inr (inr (inr (inr (inr h)))))))) high = absurd h

not-true : (b : Bool) → ¬ (b ≡ true) → b ≡ false
not-true true never = absurd (never refl)
not-true false never = refl

-- a name of an image that is renamed is not dropped under its other name
pub renamed-kept : (a b : List ℕ) → packed_name a ≡ Some b → is_dropped b ≡ false
renamed-kept a b e = (renamed-pair a b (packed_name-renamed a b e)).kept

-- a name of an image that is not renamed is neither restored nor dropped
pub other-kept : (a : List ℕ) → is_reserved a ≡ false → ¬ (IsHighAxis a) → packed_name a ≡ None → (plain_name a ≡ None) × (is_dropped a ≡ false)
unfolding is_dropped
other-kept a free high none =
    let parts = unreserved a free in
    (parts.0, rw (not-true (is_in_some own_names a) (λ e. own-renamed a (is_in_some-is own_names a e) high none)) parts.1)

-- the first of two options, under the bytes of a name
pub or-bytes : (o r s : Option Name) (t u : Option (List ℕ)) → o ≡ option_or r s → option_map (λ (n : Name). n.bytes) r ≡ t → option_map (λ (n : Name). n.bytes) s ≡ u → option_map (λ (n : Name). n.bytes) o ≡ option_or t u
or-bytes o None s t u e f g = rw (e, ← f) g
or-bytes o (Some n) s t u e f g = rw (e, ← f) refl

pub or-none : {X : Type 0} (o : Option X) → o ≡ option_or o None
or-none None = refl
or-none (Some x) = refl

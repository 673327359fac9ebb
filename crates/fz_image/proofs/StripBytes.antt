-- Bytes of strips that were read, and of the file.
use Rattle.std.proofs.Common.{◌≡◌, ℕ, suc, ◌+◌, ◌-◌, ◌*◌, ◌<◌, ◌≤◌, ◌⊎◌, inl, inr, ⊎_elim, List, ◌++◌, length, take, drop, Option, Some, None, IfSome, sym, ap}
use Rattle.std.proofs.Common.{◌∙◌, subst, arith}
use Rattle.std.proofs.Math.Nat.{mul-le-mul_left, mul-suc}
use Rattle.std.proofs.lemmas.Bool.{cases_lt}
use Rattle.std.proofs.lemmas.List.{drop-drop, drop-take, drop_at, length-take-le, take-take, take_at}
use Rattle.fz_image.specs.Layout.{pixel_bytes_of}
use Rattle.fz_image.specs.Strips.{HasStrips, IsInStrip, no_strips, strip_at}
use Rattle.fz_image.specs.declared.layout.Layout.{Layout}
use Rattle.fz_image.specs.declared.strips.Strips.{Strips}

-- if two lists begin alike, so do their parts there
part_same : (off count len : ℕ) (xs ys : List ℕ) → take len xs ≡ take len ys → off + count ≤ len → take count (drop off xs) ≡ take count (drop off ys)
part_same off count len xs ys same within =
    let front : take (off + count) xs ≡ take (off + count) ys =
    sym (take-take (off + count) len xs within) ∙ ap (take (off + count)) same ∙ take-take (off + count) len ys within in
    sym (drop-take off count xs) ∙ ap (drop off) front ∙ drop-take off count ys

-- no strips are there at first
none_told : (held : Option (List ℕ)) (bytes : List ℕ)
    → IfSome held (λ file. (i : ℕ) → i < 0 → take 0 (drop (0 * i) bytes) ≡ take 0 (drop (strip_at no_strips i) file))
none_told None bytes = tt
none_told (Some file) bytes = λ i low. absurd (omega (arith, low))

pub none_there : (held : Option (List ℕ)) (bytes : List ℕ) → HasStrips held no_strips bytes
none_there held bytes = record { room = omega arith; told = none_told held bytes }

-- each strip is after those before it
next_strip : (len count i : ℕ) → i < count → len * i + len ≤ len * count
next_strip len count i near =
    let most : len * suc i ≤ len * count = mul-le-mul_left len (omega (arith, near)) in
    omega (arith, most, mul-suc len i)

-- what is in a strip is among the bytes
pub place_within : (held : Option (List ℕ)) (s : Strips) (bytes : List ℕ) (i from count place : ℕ) → HasStrips held s bytes → IsInStrip s i from count place
    → place + count ≤ length bytes
place_within held s bytes i from count place has is =
    let end : s.len * i + s.len ≤ s.len * s.count = next_strip s.len s.count i is.here in
    omega (arith, end, is.low, is.high, is.place_is, has.room)

-- and is what the file has there
in_file : (file : List ℕ) (s : Strips) (bytes : List ℕ) (i from count place : ℕ) → take s.len (drop (s.len * i) bytes) ≡ take s.len (drop (strip_at s i) file)
    → IsInStrip s i from count place →
    take count (drop place bytes) ≡ take count (drop from file)
in_file file s bytes i from count place told is =
    let off : ℕ = from - strip_at s i in
    let there : drop place bytes ≡ drop off (drop (s.len * i) bytes) = ap (λ k. drop k bytes) is.place_is ∙ sym (drop-drop off (s.len * i) bytes) in
    let begin : strip_at s i + off ≡ from = omega (arith, is.low) in
    let here : drop off (drop (strip_at s i) file) ≡ drop from file = drop-drop off (strip_at s i) file ∙ ap (λ k. drop k file) begin in
    ap (take count) there ∙ part_same off count s.len (drop (s.len * i) bytes) (drop (strip_at s i) file) told (omega (arith, is.low, is.high))
    ∙ ap (take count) here

pub strip_part : (held : Option (List ℕ)) (s : Strips) (bytes : List ℕ) (i from count place at : ℕ) (old new : List ℕ) → HasStrips held s bytes
    → IsInStrip s i from count place →
    take (at + count) new ≡ take at old ++ take count (drop place bytes)
    → IfSome held (λ file. take (at + count) new ≡ take at old ++ take count (drop from file))
strip_part None s bytes i from count place at old new has is part = tt
strip_part (Some file) s bytes i from count place at old new has is part =
    part ∙ ap (λ (l : List ℕ). take at old ++ l) (in_file file s bytes i from count place (has.told i is.here) is)

-- ---- strips of the image

-- strip i of some ends before the last one does
before_end : (s : Strips) (i : ℕ) → i < s.count → 1 ≤ s.count → strip_at s i ≤ strip_at s (s.count - 1)
before_end s i near some =
    let most : s.apart * i ≤ s.apart * (s.count - 1) = mul-le-mul_left s.apart (omega (arith, near)) in
    omega (arith, most)

pub all_within : (l : Layout) (s : Strips) (i : ℕ) → i < s.count → 1 ≤ s.count → strip_at s (s.count - 1) + s.len ≤ l.pixels_at + pixel_bytes_of l
    → strip_at s i + s.len ≤ l.pixels_at + pixel_bytes_of l
all_within l s i near some end = omega (arith, before_end s i near some, end)

-- ---- strips that are read one after another

-- the first i of them are there
abbrev pub AreRead : List ℕ → Strips → ℕ → List ℕ → Type 0
AreRead file s i bytes = (k : ℕ) → k < i → take s.len (drop (s.len * k) bytes) ≡ take s.len (drop (strip_at s k) file)

pub none_read : (held : Option (List ℕ)) (s : Strips) (bytes : List ℕ) → IfSome held (λ file. AreRead file s 0 bytes)
none_read None s bytes = tt
none_read (Some file) s bytes = λ k low. absurd (omega (arith, low))

below_or : (k n : ℕ) → k < n + 1 → (k < n) ⊎ (k ≡ n)
below_or k n near = ⊎_elim (λ low. inl low) (λ high. inr (omega (arith, near, high))) (cases_lt k n)

-- and then one more
strip_more : (file : List ℕ) (s : Strips) (i : ℕ) (old new : List ℕ) → s.len * i ≤ length old → AreRead file s i old
    → take (s.len * i + s.len) new ≡ take (s.len * i) old ++ take s.len (drop (strip_at s i) file) → AreRead file s (i + 1) new
strip_more file s i old new room so_far part k near = ⊎_elim before here (below_or k i near)
  where
    front : ℕ
    front = s.len * i

    size : length (take front old) ≡ front
    size = length-take-le front old room

    kept : take front new ≡ take front old
    kept =
        let within : front ≤ front + s.len = omega arith in
        sym (take-take front (front + s.len) new within) ∙ ap (take front) part ∙ take_at (take front old) (take s.len (drop (strip_at s i) file)) front size

    before : k < i → take s.len (drop (s.len * k) new) ≡ take s.len (drop (strip_at s k) file)
    before low = part_same (s.len * k) s.len front new old kept (next_strip s.len i k low) ∙ so_far k low

    last : take s.len (drop front new) ≡ take s.len (drop (strip_at s i) file)
    last = sym (drop-take front s.len new) ∙ ap (drop front) part ∙ drop_at (take front old) (take s.len (drop (strip_at s i) file)) front size

    here : k ≡ i → take s.len (drop (s.len * k) new) ≡ take s.len (drop (strip_at s k) file)
    here same = ap (λ n. take s.len (drop (s.len * n) new)) same ∙ last ∙ ap (λ n. take s.len (drop (strip_at s n) file)) (sym same)

pub read_one : (held held' : Option (List ℕ)) (s : Strips) (i : ℕ) (old new : List ℕ) → held' ≡ held → s.len * i ≤ length old
    → IfSome held (λ file. AreRead file s i old) →
    IfSome held' (λ file. take (s.len * i + s.len) new ≡ take (s.len * i) old ++ take s.len (drop (strip_at s i) file))
    → IfSome held (λ file. AreRead file s (i + 1) new)
read_one None held' s i old new same room so_far part = tt
read_one (Some file) held' s i old new same room so_far part =
    strip_more file s i old new room so_far
    (subst (λ (h : Option (List ℕ)). IfSome h (λ f. take (s.len * i + s.len) new ≡ take (s.len * i) old ++ take s.len (drop (strip_at s i) f))) same part)

-- with all of them the strips are there
pub all_read : (held held' : Option (List ℕ)) (s : Strips) (i : ℕ) (bytes : List ℕ) → held' ≡ held → i ≡ s.count → s.len * s.count ≤ length bytes
    → IfSome held (λ file. AreRead file s i bytes) → HasStrips held' s bytes
all_read held held' s i bytes same all room read =
    subst (λ (h : Option (List ℕ)). HasStrips h s bytes) (sym same)
    (record { room = room; told = subst (λ n. IfSome held (λ file. AreRead file s n bytes)) all read })

-- Stretches of a tile: how many places they take, where they begin, and whose picks they have (FITS 4.0, sections 3.3.2 and 10.1).
use Rattle.std.proofs.Common.{◌≡◌, ℕ, ◌-◌, ◌*◌, ◌/◌, ◌<◌, ◌≤◌, ◌==◌, min, inl, inr, Bool, true, false, if◌then◌else◌, ℤ, pos, unsigned_abs, Option, Some, None, IfSome, sym, ap, subst, arith}
use Rattle.fz_grid.specs.declared.sieve.Sieve.{Sieve}
use Rattle.fz_tile.specs.Codecs.{CanRead}
use Rattle.fz_tile.specs.Pixels.{IsBitpix, place_count}
use Rattle.fz_tile.specs.declared.codec.Codec.{Codec}
use Rattle.fz_tile.specs.declared.codec.Codec.TheVariants.{Rice, Plio, Plain}
use Rattle.fz_head.specs.declared.plan.Plan.{Plan}
use Rattle.fz_pixels.specs.Marks.{PicksLieBetween, part_start}
use Rattle.fz_pixels.specs.declared.marks.TileMark.{TileMark}
use Rattle.fz_look.specs.Marked.{table_place}

-- ---- places

fewer_by : (wide : Bool) (m n k : ℕ) → m ≤ n → (if wide then 2 * n else n) ≤ k → (if wide then 2 * m else m) ≤ k
fewer_by true m n k few fits = omega (arith, few, fits)
fewer_by false m n k few fits = omega (arith, few, fits)

-- fewer pixels fit where more do
pub fewer_fit : (bits m n k : ℕ) → m ≤ n → place_count bits n ≤ k → place_count bits m ≤ k
fewer_fit bits m n k few fits = fewer_by (bits == 64) m n k few fits

pixels_by : (wide : Bool) (n k : ℕ) → (if wide then 2 * n else n) ≤ k → n ≤ k
pixels_by true n k fits = omega (arith, fits)
pixels_by false n k fits = fits

-- a pixel takes one place at least
pub pixels_fit : (bits n k : ℕ) → place_count bits n ≤ k → n ≤ k
pixels_fit bits n k fits = pixels_by (bits == 64) n k fits

twice_by : (wide : Bool) (n k : ℕ) → 2 * n ≤ k → (if wide then 2 * n else n) ≤ k
twice_by true n k fits = fits
twice_by false n k fits = omega (arith, fits)

-- and two at most
twice_fit : (bits n k : ℕ) → 2 * n ≤ k → place_count bits n ≤ k
twice_fit bits n k fits = twice_by (bits == 64) n k fits

-- one, if it has fewer than 64 bits
one_place : (bitpix : ℤ) (n : ℕ) → IsBitpix bitpix → (bitpix ≡ pos 64 → ⊥) → place_count (unsigned_abs bitpix) n ≡ n
one_place bitpix n (inl e) never = ap (λ b. place_count (unsigned_abs b) n) e
one_place bitpix n (inr (inl e)) never = ap (λ b. place_count (unsigned_abs b) n) e
one_place bitpix n (inr (inr (inl e))) never = ap (λ b. place_count (unsigned_abs b) n) e
one_place bitpix n (inr (inr (inr e))) never = absurd (never e)

not_plain : (block bytepix : ℕ) → ◌≡◌ {A = Codec} (Rice block bytepix) Plain → ⊥
not_plain block bytepix is = cc

half_left : (n k : ℕ) → 2 * n ≤ k → n ≤ k - min (k / 2) 16384
half_left n k fits = omega (arith, fits)

-- the pixels of a tile fit before the table of marks
pub front_room : (codec : Codec) (bitpix : ℤ) (n k : ℕ) → CanRead codec bitpix → 2 * n ≤ k → place_count (unsigned_abs bitpix) n ≤ table_place codec k
front_room (Rice block bytepix) bitpix n k can fits =
    subst (λ m. m ≤ k - min (k / 2) 16384) (sym (one_place bitpix n can.size (λ e. not_plain block bytepix (can.plain e)))) (half_left n k fits)
front_room Plio bitpix n k can fits = twice_fit (unsigned_abs bitpix) n k fits
front_room Plain bitpix n k can fits = twice_fit (unsigned_abs bitpix) n k fits

-- ---- where a stretch begins

pub start_low : (from : Option TileMark) (first end : ℕ) → IfSome from (λ m. m.pixel ≤ first) → first < end → part_start from < end
start_low None first end before some = omega (arith, some)
start_low (Some m) first end before some = omega (arith, before, some)

pub start_most : (from : Option TileMark) (first : ℕ) → IfSome from (λ m. m.pixel ≤ first) → part_start from ≤ first
start_most None first before = omega arith
start_most (Some m) first before = before

-- ---- its picks

pub picks_wider : (p : Plan) (sieve : Sieve) (t i j a b : ℕ) → PicksLieBetween p sieve t i j → a ≤ i → j ≤ b → PicksLieBetween p sieve t a b
picks_wider p sieve t i j a b lie from to = λ k d low. let one = lie k d low in (omega (arith, one.0, from), omega (arith, one.1, to))

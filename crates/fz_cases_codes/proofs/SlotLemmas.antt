-- A slot of the tests has a tile of one pixel of 16 bits.
use Rattle.std.proofs.Common.{◌≡◌, ℕ, ◌<◌, ◌≤◌, ℤ, pos, List, [], ◌∷◌, ◌++◌, length, take, drop, get_or, inl, inr, refl, sym, ap, ◌∙◌, subst, arith}
use Rattle.std.proofs.lemmas.List.{append-nil, drop_all, take_all}
use Rattle.fz_tile.specs.declared.codec.Codec.TheVariants.{Plain}
use Rattle.fz_tile.specs.declared.coded.Place2.TheVariants.{Stored}
use Rattle.fz_tile.specs.Pixels.{HoldPixels}
use Rattle.fz_pool.specs.declared.slot.Job.{Job}
use Rattle.fz_pool.specs.declared.slot.Slot.{Slot}
use Rattle.fz_pool.specs.Slots.{IsForEncoding}

abbrev one_job : ℕ → ℕ → Job
one_job tile len = record { tile = tile; pixels = 1; codec = Plain; bitpix = pos 16; place = Stored; len = len; total = len }

holds : (ns : List ℤ) (v : ℕ) → v < 256 → get_or ns 0 (pos 0) ≡ pos v → 1 ≤ length ns → HoldPixels 16 (take 1 ns) (take 1 ns)
holds [] v small_v e any = absurd (omega arith)
holds (x ∷ xs) v small_v e any = record {
  pixels = λ k d l. let first : k ≡ 0 = omega arith in let is : x ≡ pos v = e in rw first (rw is (omega arith));
  are = refl;
}

one_pos : (m n : ℕ) → pos m ≡ pos n → m ≡ n
one_pos m n e = cc

wrong_width : pos 16 ≡ pos 64 → ⊥
wrong_width e = let f = one_pos 16 64 e in omega arith

pub tile_ready : (x : Slot) (lent : List ℤ) (tile v : ℕ) → v < 256 → get_or lent 0 (pos 0) ≡ pos v → 1 ≤ length lent → length x.code ≡ 72 → x.job ≡ one_job tile 0 → x.numbers ≡ lent → IsForEncoding x
tile_ready x lent tile v small_v e any room job numbers = subst IsForEncoding (λ i. record { numbers = sym numbers i; code = x.code; job = sym job i; fault = x.fault }) record {
  codec = record { size = inr (inl refl); plain = λ w. absurd (wrong_width w); codes = tt };
  pixels = (omega arith, omega arith);
  places = any;
  hold = (take 1 lent, holds lent v small_v e any);
  room = omega arith;
}

-- what was left in a whole buffer that was lent
pub refilled_all : {A : Type 0} (old lent : List A) → length lent ≡ length old → take (length old) (lent ++ drop (length lent) old) ≡ lent
refilled_all old lent e =
    ap (λ (xs : List _). take (length old) (lent ++ xs)) (drop_all (length lent) old (omega arith)) ∙ (ap (take (length old)) (append-nil lent) ∙ take_all (length old) lent (omega arith))

-- What the values of options write: numbers, lists of lengths, boxes.
use Rattle.std.specs.Prelude.{ℕ, ◌+◌, ◌-◌, ◌^◌, ◌&&◌, List, [], ◌∷◌, ◌++◌, length, map, replicate, codes, nat_le, Option, Some, None, if◌then◌else◌}
use Rattle.std.specs.Option.{option_and_then, option_map}
use Rattle.std.specs.Str.{bytes_eq}
use Rattle.std.specs.Str.Parse.{digits_value}
use Rattle.fz_block.specs.declared.axes.Axes.{Axes}
use Rattle.fz_card.specs.Reading.{is_short_numeral}
use Rattle.fz_grid.specs.declared.sieve.Sieve.{Sieve}
use Rattle.fz_head.specs.declared.options.CodecWord.{CodecWord}
use Rattle.fz_head.specs.declared.options.CodecWord.TheVariants as word
use Rattle.fz_words.specs.Cut.{pieces}

-- the number that 1 to 18 decimal digits write; zeros may be at their front
abbrev pub digits_in : List ℕ → Option ℕ
digits_in text = if is_short_numeral text then Some (digits_value 10 text) else None

abbrev pub within : ℕ → ℕ → ℕ → Option ℕ
within least most number = if nat_le least number && nat_le number most then Some number else None

-- the same, if it lies in this range
abbrev pub number_in : ℕ → ℕ → List ℕ → Option ℕ
number_in least most text = option_and_then (within least most) (digits_in text)

-- the longest axis: 2,147,483,647
abbrev pub longest_axis : ℕ
longest_axis = 2 ^ 31 - 1

-- a length, or a place on an axis counted from 1
abbrev pub length_in : List ℕ → Option ℕ
length_in text = number_in 1 longest_axis text

-- all values, if each is one
abbrev pub all_some : {A : Type 0} → List (Option A) → Option (List A)
all_some [] = Some []
all_some (None ∷ values) = None
all_some (Some value ∷ values) = option_map (λ others. value ∷ others) (all_some values)

-- a list of at most 9
abbrev pub at_most_nine : {A : Type 0} → List A → Option (List A)
at_most_nine values = if nat_le (length values) 9 then Some values else None

-- the 9 entries of a table of axes: 0 after the last
abbrev pub nine : List ℕ → List ℕ
nine numbers = numbers ++ replicate (9 - length numbers) 0

abbrev pub axes_of : List ℕ → Axes
axes_of lengths = record { n = length lengths; len = nine lengths }

-- 1 to 9 lengths, joined by commas
abbrev pub lengths_in : List ℕ → Option Axes
lengths_in text = option_map axes_of (option_and_then at_most_nine (all_some (map length_in (pieces 44 text))))

-- the ends and the step of a box along an axis, counted from 1
pub record Range : Type 0 where
  pub lo : ℕ
  pub hi : ℕ
  pub step : ℕ

-- `lo:hi` or `lo:hi:step`, if lo is at most hi; a missing step is 1
abbrev pub range_of : List ℕ → Option Range
range_of (lo ∷ hi ∷ []) = if nat_le lo hi then Some (record { lo = lo; hi = hi; step = 1 }) else None
range_of (lo ∷ hi ∷ step ∷ []) = if nat_le lo hi then Some (record { lo = lo; hi = hi; step = step }) else None
range_of other = None

-- the one length, if there are no others
abbrev pub only_one : Option (List ℕ) → Option ℕ
only_one None = None
only_one (Some []) = None
only_one (Some (step ∷ [])) = Some step
only_one (Some (step ∷ more ∷ others)) = None

-- the step, which is 1 if there is none
abbrev pub step_in : Option (List ℕ) → Option ℕ
step_in None = Some 1
step_in (Some text) = only_one (all_some (map length_in (pieces 58 text)))

abbrev pub range_in : List ℕ → Option Range
range_in text = option_and_then range_of (all_some (map length_in (pieces 58 text)))

-- the sieve, which is counted from 0
abbrev pub sieve_of : List Range → Sieve
sieve_of ranges = record {
  n = length ranges;
  lo = nine (map (λ r. r.lo - 1) ranges);
  hi = nine (map (λ r. r.hi - 1) ranges);
  step = nine (map (λ r. r.step) ranges);
}

-- 1 to 9 ranges, joined by commas
abbrev pub box_in : List ℕ → Option Sieve
box_in text = option_map sieve_of (option_and_then at_most_nine (all_some (map range_in (pieces 44 text))))

-- a codec by its word
abbrev pub codec_in : List ℕ → Option CodecWord
codec_in text =
    if bytes_eq text (codes "rice") then Some word.Rice
    else (if bytes_eq text (codes "plio") then Some word.Plio
    else (if bytes_eq text (codes "none") then Some word.None else None))

-- A part begins with the S of SIMPLE (FITS 4.0, section 4.4.1.1).
use Rattle.std.proofs.Common.{◌≡◌, ℕ, false, List, [], ◌∷◌, ◌++◌, length, map, take, drop, slice_index, codes, Option, Some, None, refl, sym, ap, ◌∙◌, subst, arith}
use Rattle.std.specs.Prelude.{◌↔◌, unwrap_or}
use Rattle.std.specs.Option.{option_to_list}
use Rattle.std.specs.Str.{bytes_eq}
use Rattle.fz_card.specs.CardLists.{IsFirstOfName, first_of_name}
use Rattle.fz_card.specs.Layout.{card_name, padded}
use Rattle.fz_card.specs.Made.{logical_card_bytes}
use Rattle.fz_card.specs.Naming.{number_behind, plain_name}
use Rattle.fz_card.specs.Tables.{renamings}
use Rattle.fz_block.specs.Hdus.{cards_of, header_bytes}
use Rattle.fz_block.specs.declared.header.Header.{Header}
use Rattle.fz_grid.specs.declared.region.Region.{Region}
use Rattle.fz_grid.specs.declared.sieve.Sieve.{Sieve}
use Rattle.fz_head.specs.PackedHeader.{flag_card}
use Rattle.fz_head.specs.PlainHeader.{cutout_header, or_card, plain_card}
use Rattle.fz_files.specs.CutoutBytes.{cutout_cards, moved_card, picked_region}
use Rattle.fz_files.specs.Packed.{pixel_bits, zero_filled}
use Rattle.fz_files.specs.Restored.{header_in, plan_in}
use Rattle.fz_tile.specs.Plain.{plain_bytes}
use Rattle.fz_cut.specs.Part.{IsPartOf}
use Rattle.fz_cut.proofs.Moves.{other_stays}

abbrev BeginsWithS : List ℕ → Type 0
BeginsWithS l = l ≡ 83 ∷ drop 1 l

-- and so it does with more bytes after
begins_more : (h z : List ℕ) → BeginsWithS h → BeginsWithS (h ++ z)
begins_more [] z is = absurd (omega (arith, ap length is))
begins_more (x ∷ xs) z is =
    let first : x ≡ 83 = ap (λ l. slice_index l 0) is in
    ap (λ y. y ∷ (xs ++ z)) first

simple_back : plain_name (padded (codes "ZSIMPLE")) ≡ Some (padded (codes "SIMPLE"))
unfolding plain_name renamings
simple_back = refl

simple_is : flag_card (codes "SIMPLE") ≡ padded (codes "SIMPLE") ++ drop 8 (flag_card (codes "SIMPLE"))
unfolding logical_card_bytes
simple_is = refl

simple_begins : (rest : List ℕ) (others : List (List ℕ)) → BeginsWithS (header_bytes ((padded (codes "SIMPLE") ++ rest) ∷ others))
simple_begins rest others = refl

-- a card of another stem, and the first card of a name
abbrev OtherStem : Type 0
OtherStem = (stem name : List ℕ) → bytes_eq (take (length stem) name) stem ≡ false → None ≡ number_behind stem name

abbrev FirstOfName : Type 0
FirstOfName = (name card : List ℕ) (cards : List (List ℕ)) → (first_of_name name cards ≡ Some card) ↔ IsFirstOfName name cards card

module _ (other : OtherStem) (first : FirstOfName) (sieve : Sieve) where
  moved_begins : (rest : List ℕ) (others : List (List ℕ)) → BeginsWithS (header_bytes (map (moved_card sieve) ((padded (codes "SIMPLE") ++ rest) ∷ others)))
  moved_begins rest others =
      let stays : moved_card sieve (padded (codes "SIMPLE") ++ rest) ≡ padded (codes "SIMPLE") ++ rest = other_stays other sieve (padded (codes "SIMPLE") ++ rest) refl in
      subst (λ (c : List ℕ). BeginsWithS (header_bytes (c ∷ map (moved_card sieve) others))) (sym stays) (simple_begins rest (map (moved_card sieve) others))

  leading_begins : (cards others : List (List ℕ)) (found : Option (List ℕ)) → first_of_name (padded (codes "ZSIMPLE")) cards ≡ found →
      BeginsWithS (header_bytes (map (moved_card sieve) (or_card (flag_card (codes "SIMPLE")) (map plain_card (option_to_list found)) ++ others)))
  leading_begins cards others None is =
      subst (λ (c : List ℕ). BeginsWithS (header_bytes (map (moved_card sieve) (c ∷ others)))) (sym simple_is) (moved_begins (drop 8 (flag_card (codes "SIMPLE"))) others)
  leading_begins cards others (Some card) is =
      let name : card_name card ≡ padded (codes "ZSIMPLE") = ((first (padded (codes "ZSIMPLE")) card cards).0 is).named in
      let plain : plain_card card ≡ padded (codes "SIMPLE") ++ drop 8 card =
      ap (λ n. unwrap_or (plain_name n) n ++ drop 8 card) name ∙ ap (λ o. unwrap_or o (padded (codes "ZSIMPLE")) ++ drop 8 card) simple_back in
      subst (λ (c : List ℕ). BeginsWithS (header_bytes (map (moved_card sieve) (c ∷ others)))) (sym plain) (moved_begins (drop 8 card) others)

  cutout_begins : (cards : List (List ℕ)) (region : Region) → BeginsWithS (header_bytes (map (moved_card sieve) (cutout_header cards region)))
  unfolding cutout_header
  cutout_begins cards region = leading_begins cards _ (first_of_name (padded (codes "ZSIMPLE")) cards) refl

  pub part_begins : (file : List ℕ) (h : Header) (bytes : List ℕ) → IsPartOf file h sieve bytes → bytes ≡ 83 ∷ drop 1 bytes
  part_begins file h bytes part =
      let cards : List (List ℕ) = cards_of (header_in file h) in
      subst BeginsWithS (sym part.made)
      (begins_more (header_bytes (cutout_cards sieve cards)) (zero_filled (plain_bytes (pixel_bits (plan_in file h)) part.numbers)) (cutout_begins cards (picked_region sieve)))

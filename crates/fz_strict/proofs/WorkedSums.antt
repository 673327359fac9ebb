-- The worked files with sums, in all tables and in some.
use Rattle.std.specs.Prelude.{None}
use Rattle.std.proofs.Common.{◌≡◌, ℕ, ◌+◌, Bool, true, false, true≢false, List, [], ◌∷◌, length, refl, sym, ◌∙◌, ap, rules}
use Rattle.std.specs.Fmt.{digits}
use Rattle.fz_card.specs.Made.{numbered_name}
use Rattle.fz_card.specs.Naming.{number_behind}
use Rattle.fz_card.specs.Quoted.{quoted}
use Rattle.fz_card.specs.Reading.{integer_of, logical_of, text_of}
use Rattle.fz_block.specs.Cards.{end_among}
use Rattle.fz_block.specs.Facts.{facts_of}
use Rattle.fz_block.specs.Hdus.{AreHdusOf, Hdu, IsHeader, cards_of, data_len_of, hdu_bytes}
use Rattle.fz_block.specs.Header.{whole_blocks_of}
use Rattle.fz_block.specs.Walk.{hdu_of}
use Rattle.fz_block.specs.declared.header.Header.{Header}
use Rattle.fz_head.specs.Packable.{is_packed}
use Rattle.fz_head.specs.PackedPlan.{plan_of_cards}
use Rattle.fz_files.specs.ExtensionFile.{image_data, image_table_cards}
use Rattle.fz_files.specs.FirstFault.{IsFirstFault}
use Rattle.fz_files.specs.HandMade.{block_of, empty_cards}
use Rattle.fz_files.specs.PlainFile.{plain_data, plain_plan}
use Rattle.fz_files.specs.Restored.{is_image, plan_in}
use Rattle.fz_files.specs.SumFile.{sum_file, sum_file_cards, sum_options}
use Rattle.fz_files.specs.declared.job.Job.TheVariants.{Unpack}
use Rattle.fz_strict.specs.FoundOptions.{block_of as block_found, codec_found, found_options, has_sums, images_agree, images_in, options_of, sums_in, tile_found, word_of}
use Rattle.fz_strict.specs.Laws.{StrictImagesAgree}
use Rattle.fz_strict.specs.Strict.{IsStrict}
use Rattle.fz_strict.specs.Worked.{some_sums_file}
use Rattle.fz_strict.proofs.Images.{first_plain}
use Rattle.fz_strict.specs.Taken.{WalkLaws}
use Rattle.fz_strict.proofs.WorkedHeaders.{PassingWalk, both_behind, headers_in, images_behind, sums_differ}

-- ---- the HDUs

abbrev pub empty_hdu : Hdu
empty_hdu = record { header = block_of empty_cards; payload = [] }

abbrev sum_table : Hdu
sum_table = record { header = block_of sum_file_cards; payload = plain_data }

abbrev other_table : Hdu
other_table = record { header = block_of image_table_cards; payload = image_data }

pub empty_header : IsHeader (block_of empty_cards)
unfolding end_among
empty_header = record { before = 0; blocks = refl; none = refl; has = search rules }

sum_header : IsHeader (block_of sum_file_cards)
unfolding end_among
sum_header = record { before = 0; blocks = refl; none = refl; has = search rules }

other_header : IsHeader (block_of image_table_cards)
unfolding end_among
other_header = record { before = 0; blocks = refl; none = refl; has = search rules }

pub empty_payload : 0 ≡ whole_blocks_of (data_len_of 0 (block_of empty_cards))
unfolding integer_of
empty_payload = refl

sum_payload : length plain_data ≡ whole_blocks_of (data_len_of 1 (block_of sum_file_cards))
unfolding integer_of
sum_payload = refl

other_payload : length image_data ≡ whole_blocks_of (data_len_of 2 (block_of image_table_cards))
unfolding integer_of
other_payload = refl

sum_hdus : AreHdusOf sum_file (empty_hdu ∷ sum_table ∷ [])
sum_hdus = record {
  parts = refl;
  each =
      (record { header = empty_header; payload = empty_payload }, (record { header = sum_header; payload = sum_payload }, tt));
}

some_hdus : AreHdusOf some_sums_file (empty_hdu ∷ sum_table ∷ other_table ∷ [])
some_hdus = record {
  parts = refl;
  each = (
    record { header = empty_header; payload = empty_payload },
    (record { header = sum_header; payload = sum_payload }, (record { header = other_header; payload = other_payload }, tt)),
  );
}

-- ---- their images

pub second_same : (a b x y : Hdu) (xs ys : List Hdu) → a ∷ b ∷ xs ≡ x ∷ y ∷ ys → b ≡ y
second_same a b x y xs ys e = cc

third_same : (a b c x y z : Hdu) (xs ys : List Hdu) → a ∷ b ∷ c ∷ xs ≡ x ∷ y ∷ z ∷ ys → c ≡ z
third_same a b c x y z xs ys e = cc

sum_packed : (start : ℕ) → is_packed (block_of sum_file_cards) (facts_of 1 start (block_of sum_file_cards)) ≡ true
unfolding is_packed end_among logical_of text_of quoted
sum_packed start = refl

other_packed : (start : ℕ) → is_packed (block_of image_table_cards) (facts_of 2 start (block_of image_table_cards)) ≡ true
unfolding is_packed end_among logical_of text_of quoted
other_packed start = refl

sum_cards : cards_of (block_of sum_file_cards) ≡ sum_file_cards
unfolding end_among
sum_cards = refl

other_cards : cards_of (block_of image_table_cards) ≡ image_table_cards
unfolding end_among
other_cards = refl

has_both : has_sums sum_file_cards ≡ true
has_both = refl

has_none : has_sums image_table_cards ≡ false
has_none = refl

-- a table among the HDUs of a file
table_image : (file : List ℕ) (k start : ℕ) (d : Hdu) → hdu_of file (facts_of k start d.header) ≡ d → is_packed d.header (facts_of k start d.header) ≡ true →
    is_image file (facts_of k start d.header) ≡ true
table_image file k start d here packed = ap (λ (x : Hdu). is_packed x.header (facts_of k start d.header)) here ∙ packed

table_sums : (file : List ℕ) (k start : ℕ) (d : Hdu) (cards : List (List ℕ)) (sums : Bool) → hdu_of file (facts_of k start d.header) ≡ d →
    cards_of d.header ≡ cards → has_sums cards ≡ sums →
    sums_in file (facts_of k start d.header) ≡ sums
table_sums file k start d cards sums here are has = ap (λ (x : Hdu). has_sums (cards_of x.header)) here ∙ (ap has_sums are ∙ has)

-- ---- sums in both tables, and in one

plan_said : plan_of_cards sum_file_cards ≡ plain_plan
unfolding plan_of_cards integer_of text_of quoted numbered_name digits number_behind
plan_said = refl

options_are : (file : List ℕ) (f : Header) → plan_in file f ≡ plain_plan → sums_in file f ≡ true → options_of file (f ∷ []) ≡ sum_options
options_are file f plan sums = λ i. record {
  codec = word_of (codec_found (plan i ∷ []));
  tile = tile_found (plan i ∷ []);
  block = block_found (codec_found (plan i ∷ []));
  sums = sums i;
  workers = 1;
}

pub found_by : (file : List ℕ) (f : Header) → images_in file ≡ f ∷ [] → found_options file ≡ options_of file (f ∷ [])
unfolding found_options
found_by file f images = ap (options_of file) images

pub sum_found : WalkLaws → PassingWalk → IsFirstFault Unpack sum_file None → found_options sum_file ≡ sum_options
sum_found w passing sound =
    let headers = headers_in w passing sum_file (empty_hdu ∷ sum_table ∷ []) sum_hdus sound in
    let e : Header = facts_of 0 0 (block_of empty_cards) in
    let start : ℕ = 0 + length (hdu_bytes empty_hdu) in
    let f : Header = facts_of 1 start (block_of sum_file_cards) in
    let here : hdu_of sum_file f ≡ sum_table = second_same (hdu_of sum_file e) (hdu_of sum_file f) empty_hdu sum_table [] [] headers.1 in
    let images : images_in sum_file ≡ f ∷ [] =
    images_behind sum_file e f headers.0 (first_plain sum_file e refl) (table_image sum_file 1 start sum_table here (sum_packed start)) in
    let plan : plan_in sum_file f ≡ plain_plan = ap (λ (x : Hdu). plan_of_cards (cards_of x.header)) here ∙ (ap plan_of_cards sum_cards ∙ plan_said) in
    found_by sum_file f images ∙ options_are sum_file f plan (table_sums sum_file 1 start sum_table sum_file_cards true here sum_cards has_both)

pub some_not_strict : WalkLaws → PassingWalk → StrictImagesAgree → IsStrict some_sums_file → ⊥
some_not_strict w passing agree is =
    let headers = headers_in w passing some_sums_file (empty_hdu ∷ sum_table ∷ other_table ∷ []) some_hdus is.strict.stands.sound in
    let e : Header = facts_of 0 0 (block_of empty_cards) in
    let start : ℕ = 0 + length (hdu_bytes empty_hdu) in
    let f : Header = facts_of 1 start (block_of sum_file_cards) in
    let next : ℕ = start + length (hdu_bytes sum_table) in
    let g : Header = facts_of 2 next (block_of image_table_cards) in
    let first : hdu_of some_sums_file f ≡ sum_table =
    second_same (hdu_of some_sums_file e) (hdu_of some_sums_file f) empty_hdu sum_table (hdu_of some_sums_file g ∷ []) (other_table ∷ []) headers.1 in
    let second : hdu_of some_sums_file g ≡ other_table =
    third_same (hdu_of some_sums_file e) (hdu_of some_sums_file f) (hdu_of some_sums_file g) empty_hdu sum_table other_table [] [] headers.1 in
    let images : images_in some_sums_file ≡ f ∷ g ∷ [] =
    both_behind some_sums_file e f g headers.0 (first_plain some_sums_file e refl) (table_image some_sums_file 1 start sum_table first (sum_packed start))
    (table_image some_sums_file 2 next other_table second (other_packed next)) in
    let none : images_agree some_sums_file ≡ false =
    sums_differ some_sums_file f g images (table_sums some_sums_file 1 start sum_table sum_file_cards true first sum_cards has_both)
    (table_sums some_sums_file 2 next other_table image_table_cards false second other_cards has_none) in
    absurd (true≢false (sym (agree some_sums_file is) ∙ none))

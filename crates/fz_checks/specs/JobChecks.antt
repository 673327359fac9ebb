-- The checks that a job makes of one HDU, after those that every job makes, and what it learns of it (FITS 4.0, sections 3.3.2,
-- 7.3 and 10.1).
use Rattle.std.specs.Prelude.{◌≡◌, ℕ, ◌+◌, ◌-◌, ◌<◌, ◌≤◌, ◌&&◌, ◌||◌, ◌==◌, not, nat_lt, Bool, true, List, [], ◌∷◌, ◌++◌, drop}
use Rattle.std.specs.Prelude.{take, codes, slice_index, Option, Some, None, is_some, unwrap_or, Result, Ok, if◌then◌else◌}
use Rattle.std.specs.List.{flat_map, position, range_with_len}
use Rattle.fz_base.specs.Refusal.{refusal, first_refusal}
use Rattle.fz_base.specs.declared.fault.Fault.{Fault}
use Rattle.fz_base.specs.declared.fault.Place.TheVariants.{Byte}
use Rattle.fz_base.specs.declared.kind.Kind.TheVariants.{AlreadyPacked, DataFill, NotPacked, OutOfBox}
use Rattle.fz_card.specs.Made.{numbered_name}
use Rattle.fz_block.specs.Checks.{is_set, unless_refused, refused_at}
use Rattle.fz_block.specs.Facts.{IsHeaderOf}
use Rattle.fz_block.specs.Hdus.{cards_of, size_at}
use Rattle.fz_block.specs.Header.{data_start_of, next_start_of}
use Rattle.fz_block.specs.Walk.{hdu_of}
use Rattle.fz_block.specs.declared.header.Header.{Header}
use Rattle.fz_grid.specs.Grid.{tile_count}
use Rattle.fz_grid.specs.Region.{IsDivided, lengths_of}
use Rattle.fz_grid.specs.declared.region.Region.{Region}
use Rattle.fz_table.specs.Tables.{table_checks, table_in, table_of}
use Rattle.fz_tile.specs.Codecs.{CanRead}
use Rattle.fz_checks.specs.declared.job_checks.PackedImage.{PackedImage}
use Rattle.fz_head.specs.declared.options.PackOptions.{PackOptions}
use Rattle.fz_head.specs.declared.plan.Plan.{Plan}
use Rattle.fz_head.specs.Conditions.{IsPackedPlan}
use Rattle.fz_head.specs.Packable.{is_packable, is_packed, is_table}
use Rattle.fz_head.specs.PackChecks.{pack_checks}
use Rattle.fz_head.specs.PackedChecks.{at_name, at_word, packed_checks}
use Rattle.fz_head.specs.PackedPlan.{numbered_in, plan_of_cards, size_of}
use Rattle.fz_head.specs.PlainHeader.{axis_count}
use Rattle.fz_head.specs.Planned.{AreOptions, pack_plan_of}
use Rattle.fz_head.specs.TableChecks.{compressed_table, repeated_table_names, table_card_checks}

-- a card says that a table holds a packed image, or that it is a compressed table
abbrev pub says_packed : List ℕ → Bool
says_packed card = is_set (codes "ZIMAGE") card || is_set (codes "ZTABLE") card

-- a table that is given to `pack` is no packed one
abbrev pub already_packed : Header → List ℕ → Bool × Fault
already_packed h header =
    let found = position says_packed (cards_of header) in
    (is_table h.sort && (refused_at h.hdu found AlreadyPacked).0, (refused_at h.hdu found AlreadyPacked).1)

-- the checks of the header of an HDU that is given to `pack`: those of an image are made if it can be packed
abbrev pub pack_header_checks : PackOptions → Header → List ℕ → List (Bool × Fault)
pack_header_checks o h header = already_packed h header ∷ (if is_packable h then pack_checks o h header else [])

-- the plan of an HDU that is given to `pack`, none if it is copied; or the fault of the first check that refuses
unfoldable pub plan_to_pack : PackOptions → Header → List ℕ → Result (Option Plan) Fault
plan_to_pack o h header = unless_refused (if is_packable h then Some (pack_plan_of o h) else None) (first_refusal (pack_header_checks o h header))

-- the byte after the data, and the bytes from there to the next HDU
abbrev pub data_end_of : Header → ℕ
data_end_of h = data_start_of h + h.data_len

abbrev pub fill_in : List ℕ → Header → List ℕ
fill_in file h = take (next_start_of h - data_end_of h) (drop (data_end_of h) file)

-- the fill after the data of an image is zeros; its bytes are given
abbrev pub data_fill : Header → List ℕ → Bool × Fault
data_fill h fill =
    let found = position (λ b. not (b == 0)) fill in
    (is_some found, refusal h.hdu (Byte (data_end_of h + unwrap_or found 0)) DataFill)

-- the checks that `pack` makes of one HDU of a file
abbrev pub pack_hdu_checks : PackOptions → List ℕ → Header → List (Bool × Fault)
pack_hdu_checks o file h = pack_header_checks o h (hdu_of file h).header ++ (if is_packable h then data_fill h (fill_in file h) ∷ [] else [])

-- An image of a file that `pack` takes with these options: no check refuses anything of it.
pub record IsImageToPack (o : PackOptions) (file : List ℕ) (h : Header) : Type 0 where
  pub options : AreOptions o
  pub is_header : IsHeaderOf (hdu_of file h).header h
  pub packable : is_packable h ≡ true
  pub passed : first_refusal (pack_hdu_checks o file h) ≡ None

-- the HDU is HDU 1, after a primary with NAXIS 0
abbrev pub is_after_empty : List ℕ → Header → Bool
is_after_empty file h = h.hdu == 1 && size_at file 2 == 0

-- the checks of the table and of the plan of a packed HDU
abbrev pub image_checks : Header → List ℕ → Bool → List (Bool × Fault)
image_checks h header after_empty = table_checks header h ++ packed_checks h.hdu header after_empty

-- the checks that `unpack`, `verify` and `list` make of the header of an HDU, which may be that after an empty primary
abbrev pub unpack_checks : Header → List ℕ → Bool → List (Bool × Fault)
unpack_checks h header after_empty =
    (if is_table h.sort then table_card_checks h header else [])
    ++ (if is_packed header h then image_checks h header after_empty else [])

-- what a packed HDU says of the image and of its table
abbrev pub image_in : Header → List ℕ → PackedImage
image_in h header = record { plan = plan_of_cards (cards_of header); table = table_in header h }

-- The image is the one that the header says: its plan and its table are those of the checks, the plan divides the image into tiles
-- that can be read, and the table has a row for each.
pub record IsImageOf (header : List ℕ) (h : Header) (image : PackedImage) : Type 0 where
  pub planned : IsPackedPlan header h image.plan
  pub table : table_of header h ≡ Ok image.table
  pub divided : IsDivided image.plan.shape image.plan.tile
  pub readable : CanRead image.plan.codec image.plan.bitpix
  pub rows : image.table.rows ≡ tile_count (lengths_of image.plan.shape) (lengths_of image.plan.tile)

-- the image of an HDU, none if it is copied; or the fault of the first check that refuses
unfoldable pub image_to_unpack : Header → List ℕ → Bool → Result (Option PackedImage) Fault
image_to_unpack h header after_empty =
    unless_refused (if is_packed header h then Some (image_in h header) else None) (first_refusal (unpack_checks h header after_empty))

-- the checks that `unpack`, `verify` and `list` make of one HDU of a file
abbrev pub unpack_hdu_checks : List ℕ → Header → List (Bool × Fault)
unpack_hdu_checks file h = unpack_checks h (hdu_of file h).header (is_after_empty file h)

-- a box has 1 to 9 axes, and a pixel along each
pub record IsBox (region : Region) : Type 0 where
  pub some : 1 ≤ region.n
  pub few : region.n ≤ 9
  pub positive : (i : ℕ) → i < region.n → 1 ≤ slice_index region.len i

-- the box of a part has the axes of the image, and ends within each
abbrev pub axis_inside : ℕ → List (List ℕ) → Region → ℕ → Bool × Fault
axis_inside k cards region i = (
  nat_lt (size_of (numbered_in (codes "ZNAXIS") (i + 1) cards)) (slice_index region.lo i + slice_index region.len i),
  at_name k (numbered_name (codes "ZNAXIS") (i + 1)) cards OutOfBox,
)

abbrev pub axes_check : ℕ → List (List ℕ) → ℕ → Bool × Fault
axes_check k cards axes = (not (axes == axis_count cards), at_word k (codes "ZNAXIS") cards OutOfBox)

abbrev pub box_checks : ℕ → List (List ℕ) → Region → List (Bool × Fault)
box_checks k cards region =
    axes_check k cards region.n ∷ flat_map (λ i. axis_inside k cards region i ∷ []) (range_with_len 0 (axis_count cards))

-- the HDU that a part is cut from must be packed
abbrev pub not_packed : Header → List ℕ → Bool × Fault
not_packed h header = (not (is_packed header h), refusal h.hdu (Byte h.start) NotPacked)

-- the checks of its cards
abbrev pub packed_card_checks : Header → List ℕ → List (Bool × Fault)
packed_card_checks h header = (if is_table h.sort then compressed_table h header ∷ [] else []) ++ (not_packed h header ∷ repeated_table_names h header ∷ [])

-- the checks that `cut` makes of the header of the HDU that it cuts from
abbrev pub cut_checks : Header → List ℕ → Bool → Region → List (Bool × Fault)
cut_checks h header after_empty region =
    packed_card_checks h header ++ (image_checks h header after_empty ++ box_checks h.hdu (cards_of header) region)

-- the image that a part is cut from, or the fault of the first check that refuses
unfoldable pub image_to_cut : Header → List ℕ → Bool → Region → Result PackedImage Fault
image_to_cut h header after_empty region = unless_refused (image_in h header) (first_refusal (cut_checks h header after_empty region))

-- the checks that `cut` makes of the HDU of a file that it cuts from
abbrev pub cut_hdu_checks : List ℕ → Region → Header → List (Bool × Fault)
cut_hdu_checks file region h = cut_checks h (hdu_of file h).header (is_after_empty file h) region

-- the checks of the header of the HDU whose image is changed in place: those of `cut`, without its box
abbrev pub amend_checks : Header → List ℕ → Bool → List (Bool × Fault)
amend_checks h header after_empty = packed_card_checks h header ++ image_checks h header after_empty

-- the image that is changed in place, or the fault of the first check that refuses
unfoldable pub image_to_amend : Header → List ℕ → Bool → Result PackedImage Fault
image_to_amend h header after_empty = unless_refused (image_in h header) (first_refusal (amend_checks h header after_empty))

-- the checks of the HDU of a file whose image is changed in place
abbrev pub amend_hdu_checks : List ℕ → Header → List (Bool × Fault)
amend_hdu_checks file h = amend_checks h (hdu_of file h).header (is_after_empty file h)

-- a file of so many HDUs and bytes ends before the HDU of this number, or before one that is packed
abbrev pub missing_hdu : Option ℕ → ℕ → ℕ → Fault
missing_hdu wanted hdus len = refusal (unwrap_or wanted hdus) (Byte len) NotPacked

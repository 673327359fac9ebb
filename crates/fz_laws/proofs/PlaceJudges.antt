-- The places that the checks of a job name in the header of an HDU that passes those of every job.
use Rattle.std.specs.Prelude.{⊤, unwrap_or}
use Rattle.std.proofs.Common.{◌≡◌, ℕ, zero, suc, ◌+◌, ◌-◌, ◌*◌, ◌<◌, ◌≤◌, ◌==◌, not, Bool, true, false, List, [], ◌∷◌, ◌++◌, length, drop, codes, bytes_eq, is_some, position, Option, Some, None, Ok, Err, if◌then◌else◌, refl, sym, ◌∙◌, ap, arith}
use Rattle.std.specs.List.{flat_map, list_any, range_with_len}
use Rattle.std.specs.Str.{byte}
use Rattle.std.proofs.lemmas.Bool.Decides.{nat_tests}
use Rattle.std.proofs.lemmas.List.{length-drop}
use Rattle.std.proofs.lemmas.List.FromFn.{length-map-range_with_len, length-range_with_len}
use Rattle.fz_base.specs.Refusal.{first_refusal}
use Rattle.fz_base.specs.declared.fault.Fault.{Fault}
use Rattle.fz_base.specs.declared.kind.Kind.TheVariants.{DataFill, HeaderFill, NotPacked, Truncated}
use Rattle.fz_card.specs.CardLists.{has_name}
use Rattle.fz_card.specs.Layout.{card_name, padded}
use Rattle.fz_card.specs.Made.{numbered_name}
use Rattle.fz_block.specs.Cards.{end_of}
use Rattle.fz_block.specs.Checks.{is_set, unless_refused}
use Rattle.fz_block.specs.Facts.{sort_of}
use Rattle.fz_block.specs.Hdus.{behind_end, cards_of, naxis_of, size_at}
use Rattle.fz_block.specs.Header.{next_start_of}
use Rattle.fz_block.specs.declared.header.Header.{Header}
use Rattle.fz_grid.specs.declared.region.Region.{Region}
use Rattle.fz_table.specs.Columns.{field_count, first_named, tform_card, ttype_card}
use Rattle.fz_table.specs.Tables.{array_checks, column_checks, field_checks, form_checks, heap_checks, table_checks, width_checks}
use Rattle.fz_head.specs.CardLists.{index_of}
use Rattle.fz_checks.specs.JobChecks.{already_packed, axis_inside, box_checks, cut_checks, cut_hdu_checks, data_end_of, data_fill, fill_in, image_checks, is_after_empty, not_packed, pack_hdu_checks, says_packed, unpack_checks, unpack_hdu_checks}
use Rattle.fz_checks.specs.Judges.{is_wanted}
use Rattle.fz_head.specs.PackChecks.{fill_place, is_offset, is_reserved_card, pack_checks}
use Rattle.fz_head.specs.Packable.{is_packable, is_packed, is_primary, is_table}
use Rattle.fz_head.specs.PackedChecks.{axis_checks, block_checks, bytepix_checks, column_count, grid_check, is_scaling, line_list_check, packed_checks, parameter_checks, row_check, shape_checks, sort_checks, tile_check}
use Rattle.fz_head.specs.PackedPlan.{is_rice_name, parameter_number, said_codec}
use Rattle.fz_head.specs.PlainHeader.{axis_count}
use Rattle.fz_head.specs.Repeats.{counted_name, first_repeat, image_names, itself, repeats, table_names}
use Rattle.fz_head.specs.TableChecks.{compressed_table, repeated_table_names, table_card_checks}
use Rattle.fz_head.specs.declared.options.PackOptions.{PackOptions}
use Rattle.fz_files.specs.declared.job.Job.{Job}
use Rattle.fz_files.specs.declared.job.Job.TheVariants.{Pack, Unpack, Cut, Verify, List as ListHdus, Drill, Retile}
use Rattle.fz_files.specs.Ends.{judge_for}
use Rattle.fz_files.specs.Restored.{header_in}
use Rattle.fz_files.specs.Walks.{box_of}
use Rattle.fz_laws.specs.Places.{IsByteOf}
use Rattle.fz_laws.proofs.PlaceCards.{cards_count, end_within, first_within, position_before, position_less, taken_within}
use Rattle.fz_laws.proofs.PlaceChecks.{Checked, and_after, each_is, refused_is}
use Rattle.fz_laws.proofs.PlaceHeaders.{FaultWithin, Stands, bad_card, before, first_holds, is_before_end, limit_card, table_card}

header_fill_is_other : HeaderFill ≡ Truncated → ⊥
header_fill_is_other e = absurd cc

data_fill_is_other : DataFill ≡ Truncated → ⊥
data_fill_is_other e = absurd cc

not_packed_is_other : NotPacked ≡ Truncated → ⊥
not_packed_is_other e = absurd cc

holds : (b : Bool) → not b ≡ false → b ≡ true
holds true e = refl
holds false e = absurd cc

-- a table is an extension
extension_of : (k : ℕ) (header : List ℕ) → is_table (sort_of k header) ≡ true → (j : ℕ) × (k ≡ suc j)
extension_of zero header e = absurd cc
extension_of (suc k) header e = (k, refl)

module _ (file : List ℕ) (h : Header) (s : Stands file h) where
  abbrev header : List ℕ
  header = header_in file h

  abbrev cards : List (List ℕ)
  cards = cards_of (header_in file h)

  abbrev e : ℕ
  e = s.last

  abbrev P : Fault → Type 0
  P = FaultWithin file s.last

  -- ---- cards

  count : length cards ≡ e
  count = cards_count header e s.ends

  at_end : length cards ≤ e
  at_end = omega (arith, count)

  axes_before : 3 + naxis_of header ≤ e
  axes_before = s.cards.axes

  two : 2 < e
  two = omega (arith, axes_before)

  found : (p : List ℕ → Bool) → unwrap_or (position p cards) 0 < e
  found p = let less = position_before p cards (omega (arith, two, count)) in omega (arith, less, count)

  named : (name : List ℕ) → unwrap_or (index_of name cards) 0 < e
  named name = found (has_name name)

  among : (p : ℕ → Bool) → unwrap_or (position p (range_with_len 0 (length cards))) 0 < e
  among p =
      let long = length-range_with_len 0 (length cards) in
      let less = position_before p (range_with_len 0 (length cards)) (omega (arith, two, long, count)) in
      omega (arith, less, long, count)

  cards_are : h.cards ≡ e
  cards_are = ap (λ (k : Header). k.cards) s.is.facts ∙ ap (λ o. unwrap_or o 0) s.ends

  first : (name : List ℕ) → unwrap_or (first_named name header) h.cards ≤ e
  unfolding first_named
  first name =
      let all : unwrap_or (end_of header) 0 ≡ e = ap (λ o. unwrap_or o 0) s.ends in
      let some = first_within (λ card. bytes_eq (card_name card) name) (unwrap_or (end_of header) 0) h.cards header (omega (arith, cards_are, all)) in
      omega (arith, some, all)

  -- ---- bytes

  inside : 80 * (e + 1) ≤ length header
  inside = end_within header e s.ends

  starts_within : h.start + length header ≤ length file
  starts_within =
      let taken : length header ≤ length file - h.start = taken_within file h.start (2880 * h.blocks) in
      omega (arith, inside, taken)

  start_is_byte : IsByteOf file NotPacked h.start
  start_is_byte = is_before_end file NotPacked h.start (omega (arith, inside, starts_within)) not_packed_is_other

  header_byte : is_some (fill_place header) ≡ true → IsByteOf file HeaderFill (h.start + behind_end header + unwrap_or (fill_place header) 0)
  header_byte some =
      let less : unwrap_or (fill_place header) 0 < length (drop (behind_end header) header) = position_less (λ b. not (b == byte " ")) (drop (behind_end header) header) some in
      let left : length (drop (behind_end header) header) ≡ length header - behind_end header = length-drop (behind_end header) header in
      is_before_end file HeaderFill (h.start + behind_end header + unwrap_or (fill_place header) 0) (omega (arith, less, left, starts_within)) header_fill_is_other

  data_byte : is_some (position (λ b. not (b == 0)) (fill_in file h)) ≡ true → IsByteOf file DataFill (data_end_of h + unwrap_or (position (λ b. not (b == 0)) (fill_in file h)) 0)
  data_byte some =
      let less : unwrap_or (position (λ b. not (b == 0)) (fill_in file h)) 0 < length (fill_in file h) = position_less (λ b. not (b == 0)) (fill_in file h) some in
      let taken : length (fill_in file h) ≤ length file - data_end_of h = taken_within file (data_end_of h) (next_start_of h - data_end_of h) in
      is_before_end file DataFill (data_end_of h + unwrap_or (position (λ b. not (b == 0)) (fill_in file h)) 0) (omega (arith, less, taken)) data_fill_is_other

  -- ---- `pack`

  pack_within : (o : PackOptions) → Checked P ⊤ (pack_hdu_checks o file h)
  pack_within o = by_sort (is_packable h)
    where
      by_sort : (packable : Bool) → Checked P ⊤ ((already_packed h header ∷ (if packable then pack_checks o h header else [])) ++ (if packable then data_fill h (fill_in file h) ∷ [] else []))
      by_sort true = (
        λ _. before (found says_packed),
        λ _. (
          λ _. before (found (is_reserved_card (is_primary h.sort) h.axes.n)),
          λ _. (
            λ _. before (among (repeats image_names itself cards)),
            λ _. (
              λ some. header_byte some,
              λ _. (
                λ _. before two,
                λ _. (
                  λ _. before two,
                  λ _. (
                    λ _. before two,
                    λ _. (
                      λ _. limit_card at_end,
                      λ _. (
                        λ _. before (found is_offset),
                        λ _.
                            (λ some. data_byte some, λ _. tt),
                      ),
                    ),
                  ),
                ),
              ),
            ),
          ),
        ),
      )
      by_sort false = (λ _. before (found says_packed), λ _. tt)

  -- ---- a packed image

  axes_are : h.axes.n ≡ naxis_of header
  axes_are = ap (λ (k : Header). k.axes.n) s.is.facts ∙ length-map-range_with_len (size_at header) 3 (naxis_of header)

  two_axes : not (h.axes.n == 2) ≡ false → naxis_of header ≡ 2
  two_axes passes =
      let same : (h.axes.n == 2) ≡ true = holds (h.axes.n == 2) passes in
      let is : h.axes.n ≡ 2 = grind (arith, nat_tests, same) in
      omega (arith, is, axes_are)

  array_within : 5 + naxis_of header ≤ e → Checked P ⊤ (array_checks h)
  array_within counts =
      let one : 1 ≤ e = omega (arith, counts) in (
        λ _. table_card one,
        λ _. (
          λ _. before two,
          λ axes.
              let pair : naxis_of header ≡ 2 = two_axes axes in
              let six : 6 ≤ e = omega (arith, counts, pair) in
              (λ _. table_card six, λ _. tt),
        ),
      )

  table_within : 5 + naxis_of header ≤ e → Checked P ⊤ (table_checks header h)
  table_within counts =
      let three : 3 ≤ e = omega (arith, counts) in
      let numbers : List ℕ = range_with_len 1 (field_count header) in
      let names : List (Bool × Fault) = flat_map (column_checks header h) numbers in
      let from_heap : List (Bool × Fault) = heap_checks header h ++ names in
      let from_width : List (Bool × Fault) = width_checks header h ++ from_heap in
      let forms : List (Bool × Fault) = flat_map (form_checks header h) numbers in
      and_after P ⊤ ⊤ (array_checks h) (field_checks header h ++ (forms ++ from_width)) (array_within counts) (λ _. (
        λ _. table_card (first (padded (codes "TFIELDS"))),
        λ _.
            and_after P ⊤ ⊤ forms from_width (each_is P (form_checks header h) numbers (λ i. (λ _. table_card (first (numbered_name (codes "TFORM") i)), λ _. tt))) (λ _. (
              λ _. table_card three,
              λ _. (
                λ _. table_card (first (padded (codes "THEAP"))),
                λ _.
                    each_is P (column_checks header h) numbers (λ i.
                    let title : unwrap_or (ttype_card header i) h.cards ≤ e = first (numbered_name (codes "TTYPE") i) in
                    let form : unwrap_or (tform_card header i) h.cards ≤ e = first (numbered_name (codes "TFORM") i) in
                    (λ _. table_card title, λ _. (λ _. table_card form, λ _. (λ _. table_card title, λ _. (λ _. table_card form, λ _. (λ _. table_card title, λ _. (λ _. table_card form, λ _. tt))))))),
              ),
            )),
      ))

  parameter_within : Checked P ⊤ (parameter_checks h.hdu cards)
  parameter_within = by_codec (is_rice_name (said_codec cards))
    where
      blocks : (i : Option ℕ) → Checked P ⊤ (block_checks h.hdu cards i)
      blocks None = tt
      blocks (Some i) = (λ _. before (named (numbered_name (codes "ZNAME") i)), λ _. (λ _. before (named (numbered_name (codes "ZVAL") i)), λ _. tt))

      bytes : (i : Option ℕ) → Checked P ⊤ (bytepix_checks h.hdu cards i)
      bytes None = tt
      bytes (Some i) = (λ _. before (named (numbered_name (codes "ZNAME") i)), λ _. (λ _. before (named (numbered_name (codes "ZVAL") i)), λ _. (λ _. before (named (numbered_name (codes "ZVAL") i)), λ _. tt)))

      by_codec : (rice : Bool) → Checked P ⊤ (if rice then block_checks h.hdu cards (parameter_number (codes "BLOCKSIZE") cards) ++ bytepix_checks h.hdu cards (parameter_number (codes "BYTEPIX") cards) else [])
      by_codec true =
          and_after P ⊤ ⊤ (block_checks h.hdu cards (parameter_number (codes "BLOCKSIZE") cards)) (bytepix_checks h.hdu cards (parameter_number (codes "BYTEPIX") cards))
          (blocks (parameter_number (codes "BLOCKSIZE") cards)) (λ _. bytes (parameter_number (codes "BYTEPIX") cards))
      by_codec false = tt

  shape_within : Checked P ⊤ (shape_checks h.hdu cards)
  shape_within =
      let axes : List ℕ = range_with_len 1 (axis_count cards) in
      let lengths : List (Bool × Fault) = flat_map (axis_checks h.hdu cards) axes in
      let tiles : List (Bool × Fault) = flat_map (λ i. tile_check h.hdu cards i ∷ []) axes in
      let naxis : unwrap_or (index_of (padded (codes "ZNAXIS")) cards) 0 < e = named (padded (codes "ZNAXIS")) in (
        λ _. bad_card at_end,
        λ _. (
          λ _. before naxis,
          λ _. (
            λ _. before naxis,
            λ _.
                and_after P ⊤ ⊤ lengths (tiles ++ (grid_check h.hdu cards ∷ []))
                (each_is P (axis_checks h.hdu cards) axes (λ i.
                let axis : unwrap_or (index_of (numbered_name (codes "ZNAXIS") i) cards) 0 < e = named (numbered_name (codes "ZNAXIS") i) in
                (λ _. bad_card at_end, λ _. (λ _. before axis, λ _. (λ _. before axis, λ _. tt)))))
                (λ _. and_after P ⊤ ⊤ tiles (grid_check h.hdu cards ∷ []) (each_is P (λ i. tile_check h.hdu cards i ∷ []) axes (λ i. (λ _. before (named (numbered_name (codes "ZTILE") i)), λ _. tt)))
                (λ _. (λ _. before naxis, λ _. tt))),
          ),
        ),
      )

  sort_within : (after_empty : Bool) → 5 + naxis_of header ≤ e → Checked P ⊤ (sort_checks h.hdu cards after_empty ++ (line_list_check h.hdu cards ∷ row_check h.hdu header ∷ []))
  sort_within after_empty counts =
      let four : 4 < e = omega (arith, counts) in
      let simple : unwrap_or (index_of (padded (codes "ZSIMPLE")) cards) 0 < e = named (padded (codes "ZSIMPLE")) in (
        λ _. before simple,
        λ _. (
          λ _. before (named (padded (codes "ZTENSION"))),
          λ _. (
            λ _. before simple,
            λ _. (
              λ _. before (named (padded (codes "ZPCOUNT"))),
              λ _. (
                λ _. before (named (padded (codes "ZGCOUNT"))),
                λ _.
                    (λ _. before (found is_offset), λ _. (λ _. before four, λ _. tt)),
              ),
            ),
          ),
        ),
      )

  packed_within : (after_empty : Bool) → 5 + naxis_of header ≤ e → Checked P ⊤ (packed_checks h.hdu header after_empty)
  packed_within after_empty counts =
      let from_sort : List (Bool × Fault) = sort_checks h.hdu cards after_empty ++ (line_list_check h.hdu cards ∷ row_check h.hdu header ∷ []) in
      let from_parameters : List (Bool × Fault) = parameter_checks h.hdu cards ++ from_sort in
      let codec : unwrap_or (index_of (padded (codes "ZCMPTYPE")) cards) 0 < e = named (padded (codes "ZCMPTYPE")) in
      let bitpix : unwrap_or (index_of (padded (codes "ZBITPIX")) cards) 0 < e = named (padded (codes "ZBITPIX")) in (
        λ _. before (found (is_scaling (column_count cards))),
        λ _. (
          λ _. bad_card at_end,
          λ _. (
            λ _. before codec,
            λ _. (
              λ _. before codec,
              λ _. (
                λ _. bad_card at_end,
                λ _. (
                  λ _. before bitpix,
                  λ _. (
                    λ _. before bitpix,
                    λ _. (
                      λ _. before codec,
                      λ _.
                          and_after P ⊤ ⊤ (shape_checks h.hdu cards) from_parameters shape_within (λ _.
                          and_after P ⊤ ⊤ (parameter_checks h.hdu cards) from_sort parameter_within (λ _. sort_within after_empty counts)),
                    ),
                  ),
                ),
              ),
            ),
          ),
        ),
      )

  image_within : (after_empty : Bool) → 5 + naxis_of header ≤ e → Checked P ⊤ (image_checks h header after_empty)
  image_within after_empty counts =
      and_after P ⊤ ⊤ (table_checks header h) (packed_checks h.hdu header after_empty) (table_within counts) (λ _. packed_within after_empty counts)

  -- the mandatory cards of a packed image
  packed_counts : is_packed header h ≡ true → 5 + naxis_of header ≤ e
  unfolding is_packed
  packed_counts packed =
      let table : is_table h.sort ≡ true = first_holds (is_table h.sort) (list_any (is_set (codes "ZIMAGE")) cards) packed in
      let extension = extension_of h.hdu header (sym (ap (λ (k : Header). is_table k.sort) s.is.facts) ∙ table) in
      s.cards.counts extension.0 extension.1

  compressed_at : unwrap_or (position (is_set (codes "ZTABLE")) cards) 0 < e
  compressed_at = found (is_set (codes "ZTABLE"))

  repeated_at : unwrap_or (first_repeat table_names counted_name cards) 0 < e
  repeated_at = among (repeats table_names counted_name cards)

  -- ---- `unpack`, `verify` and `list`

  unpack_within : (after_empty : Bool) → Checked P ⊤ (unpack_checks h header after_empty)
  unpack_within after_empty =
      and_after P ⊤ ⊤ (if is_table h.sort then table_card_checks h header else []) (if is_packed header h then image_checks h header after_empty else []) (by_table (is_table h.sort)) (λ _. by_packed (is_packed header h) refl)
    where
      by_table : (table : Bool) → Checked P ⊤ (if table then table_card_checks h header else [])
      by_table true = (λ _. before compressed_at, λ _. (λ _. before repeated_at, λ _. tt))
      by_table false = tt

      by_packed : (packed : Bool) → is_packed header h ≡ packed → Checked P ⊤ (if packed then image_checks h header after_empty else [])
      by_packed true is = image_within after_empty (packed_counts is)
      by_packed false is = tt

  -- ---- `cut`

  box_within : (region : Region) → Checked P ⊤ (box_checks h.hdu cards region)
  box_within region = (
    λ _. before (named (padded (codes "ZNAXIS"))),
    λ _.
        each_is P (λ i. axis_inside h.hdu cards region i ∷ []) (range_with_len 0 (axis_count cards)) (λ i. (λ _. before (named (numbered_name (codes "ZNAXIS") (i + 1))), λ _. tt)),
  )

  cut_within : (after_empty : Bool) (region : Region) → Checked P ⊤ (cut_checks h header after_empty region)
  cut_within after_empty region = by_table (is_table h.sort)
    where
      behind : List (Bool × Fault)
      behind = image_checks h header after_empty ++ box_checks h.hdu cards region

      from_packed : Checked P ⊤ ((not_packed h header ∷ repeated_table_names h header ∷ []) ++ behind)
      from_packed = (
        λ _. start_is_byte,
        λ packed. (
          λ _. before repeated_at,
          λ _.
              and_after P ⊤ ⊤ (image_checks h header after_empty) (box_checks h.hdu cards region) (image_within after_empty (packed_counts (holds (is_packed header h) packed))) (λ _. box_within region),
        ),
      )

      by_table : (table : Bool) → Checked P ⊤ (((if table then compressed_table h header ∷ [] else []) ++ (not_packed h header ∷ repeated_table_names h header ∷ [])) ++ behind)
      by_table true = (λ _. before compressed_at, λ _. from_packed)
      by_table false = from_packed

  -- the places that the checks of a job name
  pub judge_within : (job : Job) (x : Fault) → judge_for job file h ≡ Err x → FaultWithin file s.last x
  judge_within (Pack o) x says = refused_is P ⊤ false (pack_hdu_checks o file h) x (pack_within o) says
  judge_within Unpack x says = refused_is P ⊤ false (unpack_hdu_checks file h) x (unpack_within (is_after_empty file h)) says
  judge_within (Cut wanted sieve) x says = by_wanted (is_wanted wanted header h) says
    where
      by_wanted : (wanted : Bool) → (if wanted then unless_refused true (first_refusal (cut_hdu_checks file (box_of sieve) h)) else Ok false) ≡ Err x → FaultWithin file s.last x
      by_wanted true says = refused_is P ⊤ true (cut_hdu_checks file (box_of sieve) h) x (cut_within (is_after_empty file h) (box_of sieve)) says
      by_wanted false says = absurd cc
  judge_within Verify x says = refused_is P ⊤ false (unpack_hdu_checks file h) x (unpack_within (is_after_empty file h)) says
  judge_within ListHdus x says = refused_is P ⊤ false (unpack_hdu_checks file h) x (unpack_within (is_after_empty file h)) says
  judge_within (Drill rows) x says = absurd cc
  judge_within (Retile o) x says = refused_is P ⊤ false (unpack_hdu_checks file h) x (unpack_within (is_after_empty file h)) says

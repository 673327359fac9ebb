-- The fault of a check of an HDU is one of this HDU.
use Rattle.std.specs.Prelude.{⊤}
use Rattle.std.proofs.Common.{◌≡◌, ℕ, zero, suc, ◌*◌, Bool, true, false, List, [], ◌∷◌, ◌++◌, length, take, drop, codes, Option, Some, None, Result, Ok, Err, if◌then◌else◌, refl, sym, ◌∙◌, ap}
use Rattle.std.specs.List.{flat_map, range_with_len}
use Rattle.fz_base.specs.Refusal.{first_refusal}
use Rattle.fz_base.specs.declared.fault.Fault.{Fault}
use Rattle.fz_block.specs.Cards.{end_of}
use Rattle.fz_block.specs.Checks.{block_checks, blocks_to_end, end_checks, group_checks, hdu_at, hdu_end, header_blocks_of, header_checks, header_in, header_of, header_room, unless_refused}
use Rattle.fz_block.specs.Facts.{facts_of}
use Rattle.fz_block.specs.Hdus.{cards_of, naxis_of}
use Rattle.fz_block.specs.Mandatory.{axis_checks, count_checks, extension_checks, mandatory_checks}
use Rattle.fz_block.specs.declared.header.Header.{Header}
use Rattle.fz_grid.specs.declared.region.Region.{Region}
use Rattle.fz_table.specs.Columns.{field_count}
use Rattle.fz_table.specs.Tables.{column_checks, form_checks, heap_checks, table_checks, width_checks}
use Rattle.fz_checks.specs.JobChecks.{already_packed, axis_inside, box_checks, cut_checks, cut_hdu_checks, data_fill, fill_in, image_checks, is_after_empty, not_packed, packed_card_checks, pack_hdu_checks, unpack_checks, unpack_hdu_checks}
use Rattle.fz_checks.specs.Judges.{is_wanted}
use Rattle.fz_head.specs.PackChecks.{pack_checks}
use Rattle.fz_head.specs.Packable.{is_packable, is_packed, is_table}
use Rattle.fz_head.specs.PackedChecks.{axis_checks as image_axis_checks, block_checks as parameter_block_checks, bytepix_checks, grid_check, line_list_check, packed_checks, parameter_checks, row_check, shape_checks, sort_checks, tile_check}
use Rattle.fz_head.specs.PackedPlan.{is_rice_name, parameter_number, said_codec}
use Rattle.fz_head.specs.PlainHeader.{axis_count}
use Rattle.fz_head.specs.TableChecks.{compressed_table, repeated_table_names, table_card_checks}
use Rattle.fz_head.specs.declared.options.PackOptions.{PackOptions}
use Rattle.fz_files.specs.declared.job.Job.{Job}
use Rattle.fz_files.specs.declared.job.Job.TheVariants.{Pack, Unpack, Cut, Verify, List as ListHdus, Drill, Retile}
use Rattle.fz_files.specs.Ends.{judge_for}
use Rattle.fz_files.specs.Restored.{header_in as header_bytes_in}
use Rattle.fz_files.specs.Walks.{box_of}

-- the faults of these checks are of HDU k
abbrev AreOf : ℕ → List (Bool × Fault) → Type 0
AreOf k [] = ⊤
AreOf k (c ∷ cs) = (c.1.hdu ≡ k) × AreOf k cs

both_of : (k : ℕ) (xs ys : List (Bool × Fault)) → AreOf k xs → AreOf k ys → AreOf k (xs ++ ys)
both_of k [] ys a b = b
both_of k (x ∷ xs) ys a b = (a.0, both_of k xs ys a.1 b)

each_of : (k : ℕ) (f : ℕ → List (Bool × Fault)) (ns : List ℕ) → ((i : ℕ) → AreOf k (f i)) → AreOf k (flat_map f ns)
each_of k f [] all = tt
each_of k f (i ∷ ns) all = both_of k (f i) (flat_map f ns) (all i) (each_of k f ns all)

first_of : (k : ℕ) (cs : List (Bool × Fault)) (x : Fault) → AreOf k cs → first_refusal cs ≡ Some x → x.hdu ≡ k
first_of k [] x are e = absurd cc
first_of k ((true, y) ∷ cs) x are e =
    let same : y ≡ x = cc in
    ap (λ (z : Fault). z.hdu) (sym same) ∙ are.0
first_of k ((false, y) ∷ cs) x are e = first_of k cs x are.1 e

refused_of : {A : Type 0} (k : ℕ) (answer : A) (cs : List (Bool × Fault)) (x : Fault) → AreOf k cs → unless_refused answer (first_refusal cs) ≡ Err x → x.hdu ≡ k
refused_of {A} k answer cs x are e = by_first (first_refusal cs) refl e
  where
    by_first : (found : Option Fault) → first_refusal cs ≡ found → unless_refused answer found ≡ Err x → x.hdu ≡ k
    by_first None is e = absurd cc
    by_first (Some y) is e =
        let same : y ≡ x = cc in
        first_of k cs x are (is ∙ ap Some same)

-- ---- the checks of every job

extension_of : (k : ℕ) (header : List ℕ) → AreOf k (extension_checks k header)
extension_of zero header = tt
extension_of (suc k) header = (refl, tt)

count_of : (k : ℕ) (header : List ℕ) → AreOf k (count_checks k header)
count_of zero header = tt
count_of (suc k) header = (refl, (refl, tt))

group_of : (k : ℕ) (header : List ℕ) → AreOf k (group_checks k header)
group_of zero header = (refl, tt)
group_of (suc k) header = tt

mandatory_of : (k : ℕ) (header : List ℕ) → AreOf k (mandatory_checks k header)
mandatory_of k header =
    both_of k (extension_checks k header) _ (extension_of k header) (
      refl,
      (
        refl,
        (
          refl,
          both_of k (flat_map (axis_checks k header) (range_with_len 1 (naxis_of header))) (count_checks k header)
              (each_of k (axis_checks k header) (range_with_len 1 (naxis_of header)) (λ i. (refl, (refl, tt)))) (count_of k header),
        ),
      ),
    )

header_checks_of : (k start len : ℕ) (header : List ℕ) → AreOf k (header_checks k start len header)
header_checks_of k start len header = (
  refl,
  both_of k (mandatory_checks k header) _ (mandatory_of k header)
      (both_of k (group_checks k header) (end_checks k len (hdu_end k start header)) (group_of k header) (refl, (refl, tt))),
)

block_fault : (k start : ℕ) (file : List ℕ) (x : Fault) → header_blocks_of k start file ≡ Err x → x.hdu ≡ k
unfolding header_blocks_of
block_fault k start file x e =
    refused_of k (blocks_to_end (end_of (header_room start file))) (block_checks k start file) x (refl, (refl, (refl, (refl, (refl, (refl, tt)))))) e

header_fault_of : (k start len : ℕ) (header : List ℕ) (x : Fault) → header_of k start len header ≡ Err x → x.hdu ≡ k
unfolding header_of
header_fault_of k start len header x e = refused_of k (facts_of k start header) (header_checks k start len header) x (header_checks_of k start len header) e

pub hdu_fault : (k start : ℕ) (file : List ℕ) (x : Fault) → hdu_at k start file ≡ Err x → x.hdu ≡ k
unfolding hdu_at
hdu_fault k start file x e = by_blocks (header_blocks_of k start file) refl e
  where
    by_blocks : (r : Result ℕ Fault) → header_blocks_of k start file ≡ r → header_in k start file r ≡ Err x → x.hdu ≡ k
    by_blocks (Err y) is e =
        let same : y ≡ x = cc in
        block_fault k start file x (is ∙ ap Err same)
    by_blocks (Ok blocks) is e = header_fault_of k start (length file) (take (2880 * blocks) (drop start file)) x e

-- ---- those of the jobs

pack_of : (o : PackOptions) (file : List ℕ) (h : Header) → AreOf h.hdu (pack_hdu_checks o file h)
pack_of o file h = by_sort (is_packable h)
  where
    header : List ℕ
    header = header_bytes_in file h

    by_sort : (packable : Bool) → AreOf h.hdu ((already_packed h header ∷ (if packable then pack_checks o h header else [])) ++ (if packable then data_fill h (fill_in file h) ∷ [] else []))
    by_sort true = (refl, (refl, (refl, (refl, (refl, (refl, (refl, (refl, (refl, (refl, tt))))))))))
    by_sort false = (refl, tt)

module _ (header : List ℕ) (h : Header) where
  abbrev names : List (Bool × Fault)
  names = flat_map (column_checks header h) (range_with_len 1 (field_count header))

  abbrev forms : List (Bool × Fault)
  forms = flat_map (form_checks header h) (range_with_len 1 (field_count header))

  table_of_hdu : AreOf h.hdu (table_checks header h)
  table_of_hdu = (
    refl,
    (
      refl,
      (
        refl,
        (
          refl,
          both_of h.hdu forms (width_checks header h ++ (heap_checks header h ++ names)) (each_of h.hdu (form_checks header h) (range_with_len 1 (field_count header)) (λ i. (refl, tt)))
              (refl, (refl, each_of h.hdu (column_checks header h) (range_with_len 1 (field_count header)) (λ i. (refl, (refl, (refl, (refl, (refl, (refl, tt))))))))),
        ),
      ),
    ),
  )

parameter_of : (k : ℕ) (cards : List (List ℕ)) → AreOf k (parameter_checks k cards)
parameter_of k cards = by_codec (is_rice_name (said_codec cards))
  where
    blocks_of : (found : Option ℕ) → AreOf k (parameter_block_checks k cards found)
    blocks_of None = tt
    blocks_of (Some i) = (refl, (refl, tt))

    bytes_of : (found : Option ℕ) → AreOf k (bytepix_checks k cards found)
    bytes_of None = tt
    bytes_of (Some i) = (refl, (refl, (refl, tt)))

    by_codec : (rice : Bool) → AreOf k (if rice then parameter_block_checks k cards (parameter_number (codes "BLOCKSIZE") cards) ++ bytepix_checks k cards (parameter_number (codes "BYTEPIX") cards) else [])
    by_codec true =
        both_of k (parameter_block_checks k cards (parameter_number (codes "BLOCKSIZE") cards)) (bytepix_checks k cards (parameter_number (codes "BYTEPIX") cards))
        (blocks_of (parameter_number (codes "BLOCKSIZE") cards)) (bytes_of (parameter_number (codes "BYTEPIX") cards))
    by_codec false = tt

shape_of : (k : ℕ) (cards : List (List ℕ)) → AreOf k (shape_checks k cards)
shape_of k cards =
    let axes : List ℕ = range_with_len 1 (axis_count cards) in
    let tiles : AreOf k (flat_map (λ i. tile_check k cards i ∷ []) axes ++ (grid_check k cards ∷ [])) =
    both_of k (flat_map (λ i. tile_check k cards i ∷ []) axes) (grid_check k cards ∷ []) (each_of k (λ i. tile_check k cards i ∷ []) axes (λ i. (refl, tt))) (refl, tt) in (
      refl,
      (
        refl,
        (
          refl,
          both_of k (flat_map (image_axis_checks k cards) axes) (flat_map (λ i. tile_check k cards i ∷ []) axes ++ (grid_check k cards ∷ []))
              (each_of k (image_axis_checks k cards) axes (λ i. (refl, (refl, (refl, tt))))) tiles,
        ),
      ),
    )

module _ (k : ℕ) (header : List ℕ) (after_empty : Bool) where
  abbrev cards : List (List ℕ)
  cards = cards_of header

  abbrev from_sort : List (Bool × Fault)
  from_sort = sort_checks k cards after_empty ++ (line_list_check k cards ∷ row_check k header ∷ [])

  abbrev from_shape : List (Bool × Fault)
  from_shape = parameter_checks k cards ++ from_sort

  shapes_of : AreOf k (shape_checks k cards ++ from_shape)
  shapes_of = both_of k (shape_checks k cards) from_shape (shape_of k cards) (both_of k (parameter_checks k cards) from_sort (parameter_of k cards) (refl, (refl, (refl, (refl, (refl, (refl, (refl, tt))))))))

  packed_of : AreOf k (packed_checks k header after_empty)
  packed_of = (refl, (refl, (refl, (refl, (refl, (refl, (refl, (refl, shapes_of))))))))

image_of : (h : Header) (header : List ℕ) (after_empty : Bool) → AreOf h.hdu (image_checks h header after_empty)
image_of h header after_empty = both_of h.hdu (table_checks header h) (packed_checks h.hdu header after_empty) (table_of_hdu header h) (packed_of h.hdu header after_empty)

unpack_of : (h : Header) (header : List ℕ) (after_empty : Bool) → AreOf h.hdu (unpack_checks h header after_empty)
unpack_of h header after_empty =
    both_of h.hdu (if is_table h.sort then table_card_checks h header else []) (if is_packed header h then image_checks h header after_empty else []) (by_table (is_table h.sort)) (by_packed (is_packed header h))
  where
    by_table : (table : Bool) → AreOf h.hdu (if table then table_card_checks h header else [])
    by_table true = (refl, (refl, tt))
    by_table false = tt

    by_packed : (packed : Bool) → AreOf h.hdu (if packed then image_checks h header after_empty else [])
    by_packed true = image_of h header after_empty
    by_packed false = tt

cut_of : (h : Header) (header : List ℕ) (after_empty : Bool) (region : Region) → AreOf h.hdu (cut_checks h header after_empty region)
cut_of h header after_empty region =
    both_of h.hdu (packed_card_checks h header) _ (by_table (is_table h.sort))
    (both_of h.hdu (image_checks h header after_empty) (box_checks h.hdu (cards_of header) region) (image_of h header after_empty)
    (refl, each_of h.hdu (λ i. axis_inside h.hdu (cards_of header) region i ∷ []) (range_with_len 0 (axis_count (cards_of header))) (λ i. (refl, tt))))
  where
    by_table : (table : Bool) → AreOf h.hdu ((if table then compressed_table h header ∷ [] else []) ++ (not_packed h header ∷ repeated_table_names h header ∷ []))
    by_table true = (refl, (refl, (refl, tt)))
    by_table false = (refl, (refl, tt))

-- what a job says of an HDU is said of this HDU
pub judge_hdu : (job : Job) (file : List ℕ) (h : Header) (x : Fault) → judge_for job file h ≡ Err x → x.hdu ≡ h.hdu
judge_hdu (Pack o) file h x e = refused_of h.hdu false (pack_hdu_checks o file h) x (pack_of o file h) e
judge_hdu Unpack file h x e = refused_of h.hdu false (unpack_hdu_checks file h) x (unpack_of h (header_bytes_in file h) (is_after_empty file h)) e
judge_hdu (Cut wanted sieve) file h x e = by_wanted (is_wanted wanted (header_bytes_in file h) h) e
  where
    by_wanted : (wanted : Bool) → (if wanted then unless_refused true (first_refusal (cut_hdu_checks file (box_of sieve) h)) else Ok false) ≡ Err x → x.hdu ≡ h.hdu
    by_wanted true e = refused_of h.hdu true (cut_hdu_checks file (box_of sieve) h) x (cut_of h (header_bytes_in file h) (is_after_empty file h) (box_of sieve)) e
    by_wanted false e = absurd cc
judge_hdu Verify file h x e = refused_of h.hdu false (unpack_hdu_checks file h) x (unpack_of h (header_bytes_in file h) (is_after_empty file h)) e
judge_hdu ListHdus file h x e = refused_of h.hdu false (unpack_hdu_checks file h) x (unpack_of h (header_bytes_in file h) (is_after_empty file h)) e
judge_hdu (Drill rows) file h x e = absurd cc
judge_hdu (Retile o) file h x e = refused_of h.hdu false (unpack_hdu_checks file h) x (unpack_of h (header_bytes_in file h) (is_after_empty file h)) e

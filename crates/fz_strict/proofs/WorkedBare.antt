-- The worked file that has no image: a primary alone.
use Rattle.std.proofs.Common.{◌≡◌, ◌<◌, ◌==◌, ◌||◌, true, false, cond, [], ◌∷◌, length, None, Ok, refl, sym, subst, ◌∙◌, ap, arith}
use Rattle.std.proofs.lemmas.List.Elements.{All-from_recursion}
use Rattle.std.specs.Fmt.{digits}
use Rattle.std.specs.List.{flat_map, list_any}
use Rattle.fz_card.specs.Made.{numbered_name}
use Rattle.fz_card.specs.Quoted.{quoted}
use Rattle.fz_card.specs.Reading.{integer_of, logical_of, text_of}
use Rattle.fz_block.specs.Cards.{end_among, first_among}
use Rattle.fz_block.specs.Checks.{hdu_at, header_blocks_of, header_of, walk_of}
use Rattle.fz_block.specs.Facts.{facts_of}
use Rattle.fz_block.specs.Hdus.{AreHdusOf}
use Rattle.fz_block.specs.Header.{next_start_of}
use Rattle.fz_block.specs.declared.header.Header.{Header}
use Rattle.fz_checks.specs.Judges.{pack_judge, unpack_judge}
use Rattle.fz_head.specs.Packable.{is_packable, is_packed}
use Rattle.fz_files.specs.FirstFault.{IsFaultBehind, IsFirstFault, IsFirstRowFault, all_rows, rows_of}
use Rattle.fz_files.specs.HandMade.{block_of, empty_cards}
use Rattle.fz_files.specs.PlainFile.{plain_options}
use Rattle.fz_files.specs.Restored.{is_image}
use Rattle.fz_files.specs.StandsFor.{IsProfileFile}
use Rattle.fz_files.specs.Walks.{fault_of_walk, found_headers, header_fault, headers_for, job_walk}
use Rattle.fz_files.specs.declared.job.Job.TheVariants.{Unpack}
use Rattle.fz_laws.specs.RoundTrip.{PackCopies, UnpackCopies}
use Rattle.fz_strict.specs.Strict.{IsStrict}
use Rattle.fz_strict.specs.Worked.{bare_file}
use Rattle.fz_strict.proofs.Images.{first_plain}
use Rattle.fz_strict.proofs.Same.{sound_by}
use Rattle.fz_strict.proofs.WorkedFiles.{bytes_by, ends_with, tile_is}
use Rattle.fz_strict.proofs.WorkedSums.{empty_hdu, empty_header, empty_payload}

abbrev bare_facts : Header
bare_facts = facts_of 0 0 (block_of empty_cards)

bare_at : hdu_at 0 0 bare_file ≡ Ok bare_facts
unfolding hdu_at header_blocks_of header_of end_among first_among integer_of logical_of text_of quoted numbered_name digits
bare_at = refl

last_is : (next_start_of bare_facts == length bare_file) ≡ true
unfolding integer_of
last_is = refl

unpack_takes : unpack_judge bare_file bare_facts ≡ Ok false
unfolding is_packed
unpack_takes = refl

pack_takes : pack_judge plain_options bare_file bare_facts ≡ Ok false
unfolding is_packable integer_of
pack_takes = refl

not_packable : is_packable bare_facts ≡ false
unfolding is_packable integer_of
not_packable = refl

bare_hdus : AreHdusOf bare_file (empty_hdu ∷ [])
bare_hdus = record { parts = refl; each = (record { header = empty_header; payload = empty_payload }, tt) }

bare_walk : walk_of (unpack_judge bare_file) 65536 bare_file ≡ Ok (bare_facts ∷ [])
bare_walk = ends_with (unpack_judge bare_file) 65535 bare_file bare_facts bare_at unpack_takes last_is

headers_are : headers_for Unpack bare_file ≡ bare_facts ∷ []
unfolding job_walk
headers_are = ap found_headers bare_walk

no_fault : header_fault Unpack bare_file ≡ None
unfolding job_walk
no_fault = ap (fault_of_walk Unpack bare_file) bare_walk

no_image : is_image bare_file bare_facts ≡ false
no_image = first_plain bare_file bare_facts refl

no_rows : all_rows bare_file (bare_facts ∷ []) ≡ []
no_rows = ap (λ b. flat_map (rows_of bare_file) (cond b (bare_facts ∷ []) [])) no_image

sound : IsFirstFault Unpack bare_file None
sound =
    subst (λ r. IsFaultBehind r Unpack bare_file None) (sym no_fault)
    (subst (λ hs. IsFirstRowFault bare_file (all_rows bare_file hs) None) (sym headers_are)
    (subst (λ rows. IsFirstRowFault bare_file rows None) (sym no_rows) tt))

none : list_any (is_image bare_file) (headers_for Unpack bare_file) ≡ false
none = ap (list_any (is_image bare_file)) headers_are ∙ ap (λ b. b || false) no_image

taken : IsProfileFile plain_options bare_file
taken = record {
  bytes = All-from_recursion (λ b. b < 256) bare_file (bytes_by bare_file refl);
  options = record { low = omega arith; high = omega arith; tile = (omega arith, omega arith, tile_is) };
  sound = sound_by plain_options bare_file (bare_facts ∷ [])
      (ends_with (pack_judge plain_options bare_file) 65534 bare_file bare_facts bare_at pack_takes last_is);
}

pub bare_strict : UnpackCopies → PackCopies → IsStrict bare_file
bare_strict unpack pack = record {
  options = plain_options;
  strict = record {
    restored = bare_file;
    stands = unpack bare_file sound none;
    taken = taken;
    packed = pack plain_options bare_file (empty_hdu ∷ []) bare_hdus (not_packable, tt);
  };
}

-- The first faults of the files with faults, by the definitions.
use Rattle.std.proofs.Common.{◌≡◌, ℕ, false, pos, List, [], ◌∷◌, Some, Ok, Err, refl, sym, subst, ap}
use Rattle.std.specs.Fmt.{digits}
use Rattle.fz_base.specs.Refusal.{refusal}
use Rattle.fz_base.specs.declared.fault.Fault.{Fault}
use Rattle.fz_base.specs.declared.fault.Place.TheVariants.{Byte, Card}
use Rattle.fz_base.specs.declared.kind.Kind.TheVariants.{Reserved, TrailingBytes}
use Rattle.fz_card.specs.Made.{numbered_name}
use Rattle.fz_card.specs.Naming.{number_behind, plain_name, is_reserved}
use Rattle.fz_card.specs.Quoted.{quoted}
use Rattle.fz_card.specs.Reading.{integer_of, logical_of, text_of}
use Rattle.fz_card.specs.Tables.{renamings, packed_names, foreign_names}
use Rattle.fz_block.specs.Cards.{end_among, first_among}
use Rattle.fz_block.specs.Checks.{header_blocks_of, header_of, hdu_at}
use Rattle.fz_block.specs.declared.header.Header.{Header}
use Rattle.fz_block.specs.declared.header.Sort.TheVariants.{Primary}
use Rattle.fz_checks.specs.Judges.{pack_judge, unpack_judge}
use Rattle.fz_head.specs.Packable.{is_packable, is_packed}
use Rattle.fz_head.specs.PackedHeader.{packed_header}
use Rattle.fz_head.specs.Planned.{pack_plan_of}
use Rattle.fz_files.specs.declared.job.Job.{Job}
use Rattle.fz_files.specs.declared.job.Job.TheVariants.{Pack, Unpack}
use Rattle.fz_files.specs.FaultFile.{reserved_file, reserved_fault, trailing_file, trailing_fault}
use Rattle.fz_files.specs.FirstFault.{IsFirstFault, IsFaultBehind}
use Rattle.fz_files.specs.RiceFile.{rice_options}
use Rattle.fz_files.specs.Walks.{header_fault, job_walk, fault_of_walk}
use Rattle.fz_files.proofs.WorkedWalks.{refused_at_hdu, refused_by_job, goes_on}

-- a fault of the headers is the first
pub is_first : (job : Job) (file : List ℕ) (found : Fault) → header_fault job file ≡ Some found → IsFirstFault job file (Some found)
is_first job file found is = subst (λ r. IsFaultBehind r job file (Some found)) (sym is) refl

-- the first HDU of both files
abbrev pub small_facts : ℕ → Header
small_facts cards = record {
  hdu = 0;
  start = 0;
  cards = cards;
  blocks = 1;
  sort = Primary;
  bitpix = pos 16;
  axes = record { n = 2; len = 4 ∷ 2 ∷ 0 ∷ 0 ∷ 0 ∷ 0 ∷ 0 ∷ 0 ∷ 0 ∷ [] };
  pcount = 0;
  gcount = 1;
  data_len = 16;
}

pub small_at : hdu_at 0 0 trailing_file ≡ Ok (small_facts 5)
unfolding hdu_at header_blocks_of header_of end_among first_among integer_of logical_of text_of quoted numbered_name digits
small_at = refl

reserved_at : hdu_at 0 0 reserved_file ≡ Ok (small_facts 6)
unfolding hdu_at header_blocks_of header_of end_among first_among integer_of logical_of text_of quoted numbered_name digits
reserved_at = refl

-- after it there are ten bytes
pub no_hdu : hdu_at 1 5760 trailing_file ≡ Err (refusal 1 (Byte 5760) TrailingBytes)
unfolding hdu_at header_blocks_of end_among
no_hdu = refl

no_hdu_again : hdu_at 1 5760 reserved_file ≡ Err (refusal 1 (Byte 5760) TrailingBytes)
unfolding hdu_at header_blocks_of end_among
no_hdu_again = refl

-- the checks of `pack`
refuses : pack_judge rice_options reserved_file (small_facts 6) ≡ Err (refusal 0 (Card 5) Reserved)
unfolding is_packable end_among logical_of is_reserved plain_name packed_names foreign_names renamings number_behind numbered_name digits text_of quoted
refuses = refl

pub takes : pack_judge rice_options trailing_file (small_facts 5) ≡ Ok false
unfolding is_packable end_among logical_of is_reserved plain_name packed_names foreign_names renamings number_behind numbered_name digits text_of quoted pack_plan_of packed_header
takes = refl

-- those of `unpack`: the image is no packed one
copies : unpack_judge reserved_file (small_facts 6) ≡ Ok false
unfolding is_packed
copies = refl

pub own_first : IsFirstFault (Pack rice_options) reserved_file reserved_fault
unfolding job_walk
own_first =
    is_first (Pack rice_options) reserved_file (refusal 0 (Card 5) Reserved)
    (ap (fault_of_walk (Pack rice_options) reserved_file)
    (refused_by_job (pack_judge rice_options reserved_file) 65534 0 0 reserved_file (small_facts 6) (refusal 0 (Card 5) Reserved) reserved_at refuses))

pub trailing_fault_is : header_fault (Pack rice_options) trailing_file ≡ Some (refusal 1 (Byte 5760) TrailingBytes)
unfolding job_walk
trailing_fault_is =
    ap (fault_of_walk (Pack rice_options) trailing_file)
    (goes_on (pack_judge rice_options trailing_file) 65534 0 0 trailing_file (small_facts 5) (Err (refusal 1 (Byte 5760) TrailingBytes)) small_at takes refl
    (refused_at_hdu (pack_judge rice_options trailing_file) 65533 1 5760 trailing_file (refusal 1 (Byte 5760) TrailingBytes) no_hdu))

pub trailing_first : IsFirstFault (Pack rice_options) trailing_file trailing_fault
trailing_first = is_first (Pack rice_options) trailing_file (refusal 1 (Byte 5760) TrailingBytes) trailing_fault_is

pub unpack_first : IsFirstFault Unpack reserved_file trailing_fault
unfolding job_walk
unpack_first =
    is_first Unpack reserved_file (refusal 1 (Byte 5760) TrailingBytes)
    (ap (fault_of_walk Unpack reserved_file)
    (goes_on (unpack_judge reserved_file) 65535 0 0 reserved_file (small_facts 6) (Err (refusal 1 (Byte 5760) TrailingBytes)) reserved_at copies refl
    (refused_at_hdu (unpack_judge reserved_file) 65534 1 5760 reserved_file (refusal 1 (Byte 5760) TrailingBytes) no_hdu_again)))

-- The facts that a header says: what the HDU is, its pixels, its axes, and the length of its data (FITS 4.0, sections 4.4.1 and 7).
use Rattle.std.specs.Prelude.{ℕ, zero, suc, pos, ◌≡◌, ◌/◌, ◌-◌, ◌≤◌, List, ◌++◌, length, replicate}
use Rattle.std.specs.Prelude.{codes, bytes_eq, Option, Some, None, unwrap_or, if◌then◌else◌}
use Rattle.fz_base.specs.Refusal.{first_refusal}
use Rattle.fz_card.specs.Reading.{integer_of, text_of}
use Rattle.fz_block.specs.Cards.{card_at, end_of}
use Rattle.fz_block.specs.Hdus.{IsHeader, axes_of, pcount_of, gcount_of, data_len_of}
use Rattle.fz_block.specs.Mandatory.{mandatory_checks}
use Rattle.fz_block.specs.declared.axes.Axes.{Axes}
use Rattle.fz_block.specs.declared.header.Header.{Header}
use Rattle.fz_block.specs.declared.header.Sort.{Sort}
use Rattle.fz_block.specs.declared.header.Sort.TheVariants.{Primary, Image, BinTable, Other}

-- what an extension is, by the text of its XTENSION
abbrev pub sort_named : Option (List ℕ) → Sort
sort_named None = Other
sort_named (Some text) = if bytes_eq text (codes "IMAGE") then Image else (if bytes_eq text (codes "BINTABLE") then BinTable else Other)

-- what HDU k is
abbrev pub sort_of : ℕ → List ℕ → Sort
sort_of zero header = Primary
sort_of (suc k) header = sort_named (text_of (card_at header 0))

-- the axes of an array, with 0 for those that it has not
abbrev pub nine_axes : List ℕ → Axes
nine_axes lengths = record { n = length lengths; len = lengths ++ replicate (9 - length lengths) 0 }

-- the facts of the header of HDU k, which begins at this byte of the file
abbrev pub facts_of : ℕ → ℕ → List ℕ → Header
facts_of k start header = record {
  hdu = k;
  start = start;
  cards = unwrap_or (end_of header) 0;
  blocks = length header / 2880;
  sort = sort_of k header;
  bitpix = unwrap_or (integer_of (card_at header 1)) (pos 0);
  axes = nine_axes (axes_of header);
  pcount = pcount_of k header;
  gcount = gcount_of k header;
  data_len = data_len_of k header;
}

-- the same facts of a header that begins at this byte
abbrev pub begun_at : ℕ → Header → Header
begun_at start h = record h { start = start }

-- the same facts of HDU k
abbrev pub facts_as : ℕ → Header → Header
facts_as k h = record h { hdu = k }

-- The bytes are a header of at most 256 blocks with all mandatory cards, and these are its facts.
pub record IsHeaderOf (header : List ℕ) (h : Header) : Type 0 where
  pub whole : IsHeader header
  pub short : length header ≤ 737280
  pub mandatory : first_refusal (mandatory_checks h.hdu header) ≡ None
  pub facts : h ≡ facts_of h.hdu h.start header

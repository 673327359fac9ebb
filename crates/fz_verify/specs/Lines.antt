-- The line of an HDU, by what was read of its header and judged of its sums (FITS 4.0, sections 4.4.1, 4.4.2.7 and 7).
use Rattle.std.specs.Prelude.{ℕ, List, ◌++◌, codes, decimal, Option, Some, None}
use Rattle.fz_block.specs.declared.header.Header.{Header}
use Rattle.fz_checks.specs.declared.job_checks.PackedImage.{PackedImage}
use Rattle.fz_files.specs.Lines.{other_text, packed_text, sizes_text, verdict_word}
use Rattle.fz_files.specs.Packed.{tiles_in}
use Rattle.fz_verify.specs.declared.sums.Verdicts.{Verdicts}

-- the number of tiles of the image that is in an HDU, if there is one
abbrev pub tiles_said : Option PackedImage → List ℕ
tiles_said None = codes "-"
tiles_said (Some i) = decimal (tiles_in i.plan)

-- the line of `verify` for HDU k
abbrev pub verdicts_text : ℕ → Option PackedImage → Verdicts → List ℕ
verdicts_text k image v =
    codes "HDU " ++ decimal k ++ codes " datasum " ++ verdict_word v.datasum ++ codes " checksum " ++ verdict_word v.checksum ++ codes " tiles "
    ++ tiles_said image ++ codes "\n"

-- what an HDU is
abbrev pub hdu_text : Header → Option PackedImage → List ℕ
hdu_text h None = other_text h
hdu_text h (Some i) = packed_text i.plan

-- the line of `list` for it
abbrev pub listed_text : Header → Option PackedImage → List ℕ
listed_text h image = codes "HDU " ++ decimal h.hdu ++ codes " " ++ hdu_text h image ++ sizes_text h ++ codes "\n"

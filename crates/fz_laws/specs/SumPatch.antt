-- The patch of six pixels of `GridPatch` in the packed file of `SumFile`, whose table has checksums, written out by hand (FITS 4.0, section
-- 4.4.2.7 and appendix J).
use Rattle.std.specs.Prelude.{[], ◌∷◌, codes}
use Rattle.fz_block.specs.declared.header.Header.{Header}
use Rattle.fz_files.specs.CutFile.{table_facts}
use Rattle.fz_files.specs.HandMade.{card_of}
use Rattle.fz_laws.specs.Amends.{amend_of}
use Rattle.fz_laws.specs.GridPatch.{six_steps}
use Rattle.fz_laws.specs.Writes.{Steps}

-- the header of the table, which has two cards more
abbrev pub sum_facts : Header
sum_facts = record table_facts { cards = 23 }

-- DATASUM is card 21, and CHECKSUM card 22
abbrev pub sum_steps : Steps
sum_steps = record six_steps {
  sums =
      amend_of 4560 (card_of (codes "DATASUM = '472131746'"))
      ∷ amend_of 4640 (card_of (codes "CHECKSUM= '4kCD6i994iAA4i99'"))
      ∷ [];
}

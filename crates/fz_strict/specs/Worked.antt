-- Files that are strict, or are not, written out by hand (FITS 4.0, sections 4.4.2.7, 7.3 and 10.1).
use Rattle.std.specs.Prelude.{ℕ, List, [], ◌∷◌, ◌++◌, replicate}
use Rattle.fz_files.specs.ExtensionFile.{image_data, image_table_cards}
use Rattle.fz_files.specs.HandMade.{block_of, empty_cards}
use Rattle.fz_files.specs.PlainFile.{plain_cards, plain_data, plain_heap, plain_rows}
use Rattle.fz_files.specs.SumFile.{sum_file_cards}

-- only a primary without data
abbrev pub bare_file : List ℕ
bare_file = block_of empty_cards

-- two tables, of which the first has both cards of sums and the second neither
abbrev pub some_sums_file : List ℕ
some_sums_file = block_of empty_cards ++ (block_of sum_file_cards ++ (plain_data ++ (block_of image_table_cards ++ image_data)))

-- the packed file of `PlainFile` whose last byte, which fills the block, is 1
abbrev pub filled_file : List ℕ
filled_file = block_of empty_cards ++ (block_of plain_cards ++ (plain_rows ++ (plain_heap ++ (replicate 2768 0 ++ 1 ∷ []))))

use Rattle.std.proofs.Common.{unwrap_or}
use Rattle.fz_block.specs.Cards.{end_of}
use Rattle.fz_block.proofs.CardLists.{header_again, cards_of_bytes, bytes_header, bytes_fill, bytes_length, first_among_list}
use Rattle.fz_block.proofs.laws.cards_law.Goals as goal

pub returns-clause-bytes : goal.returns-clause-bytes
returns-clause-bytes c = header_again

pub returns-clause-cards : goal.returns-clause-cards
returns-clause-cards c = cards_of_bytes

pub returns-clause-header : goal.returns-clause-header
returns-clause-header c = λ cards all. (bytes_header cards all, bytes_fill cards all, bytes_length cards all)

pub returns-clause-first : goal.returns-clause-first
returns-clause-first c = λ has header. first_among_list has header 0 (unwrap_or (end_of header) 0)

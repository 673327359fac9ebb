use Rattle.fz_card.proofs.TableNames.{is_in-is, is-is_in, is_in_some-is, is-is_in_some, packed_name-renamed, plain_name-renamed, renamed-pair, packed-plain, plain-packed, dropped-is, is-dropped, reserved-is, is-reserved, renamed-kept, other-kept}
use Rattle.fz_card.proofs.tables.names_law.Goals as goal

pub returns : goal.returns
returns c = record {
  line_named = is_in-is;
  named_line = is-is_in;
  list_named = is_in_some-is;
  named_list = is-is_in_some;
  packed_renamed = packed_name-renamed;
  plain_renamed = plain_name-renamed;
  renamed = renamed-pair;
  packed_back = packed-plain;
  plain_back = plain-packed;
  dropped_named = dropped-is;
  named_dropped = is-dropped;
  reserved_named = reserved-is;
  named_reserved = is-reserved;
  renamed_kept = renamed-kept;
  other_kept = other-kept;
}

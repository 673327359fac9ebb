-- The view and the sink are pinned to what they are when the view is handed to `pack`.
use Rattle.fz_base.specs.Counts.{nameless}
use Rattle.fz_look.specs.Looked.{buffers_of}
use Rattle.fz_retile.proofs.retile_file.retile.Given as goal

abbrev pub ghosts-in_view-L-Origin : goal.ghosts-in_view-L-Origin
ghosts-in_view-L-Origin g a = record {
  name = a.view.inner.ghost_name;
  tally = g.S.Source.tally a.view.start.value;
  ranges = g.S.Source.ranges a.view.start.value;
  held = g.S.Source.held a.view.inner.now;
  file = a.view.length;
  length = a.view.plain_len;
  space = buffers_of a.view.space;
}

abbrev pub ghosts-in_view-M-Watch : goal.ghosts-in_view-M-Watch
ghosts-in_view-M-Watch g a = record { name = a.sink.inner.ghost_name; counts = nameless (g.K.Sink.tally a.sink.inner.now) }

-- What no call of a view changes, and why one fails.
use Rattle.std.specs.Prelude.{◌≡◌, Result}
use Rattle.fz_base.specs.Counts.{HasCause}
use Rattle.fz_base.specs.declared.failure.Failed.{Failed}
use Rattle.fz_base.specs.declared.source.Source.{Ghosts}
use Rattle.fz_look.specs.Looked.{buffers_of}
use Rattle.fz_retile.specs.Views.{KeepsFirst, with_more}
use Rattle.fz_retile.specs.declared.view.PlainView.{PlainView}

-- the reference to its source, that source as it was before the look, and the bytes that it shows; the lengths of the file that the packed file
-- stands for and of the packed file; how many bytes all its buffers have
pub record ViewStays {X : Type 0} {g : Ghosts X} (old new : PlainView X g) : Type 0 where
  pub name : new.inner.ghost_name ≡ old.inner.ghost_name
  pub start : new.start.value ≡ old.start.value
  pub held : g.held new.inner.now ≡ g.held old.inner.now
  pub plain_len : new.plain_len ≡ old.plain_len
  pub packed_len : new.length ≡ old.length
  pub space : buffers_of new.space ≡ buffers_of old.space

-- the counts that it shows changed as its answer says, and the refusal that it keeps is the first
pub record HasViewCause {X : Type 0} {g : Ghosts X} {Y : Type 0} (old new : PlainView X g) (result : Result Y Failed) : Type 0 where
  pub counts : HasCause (with_more (g.tally old.inner.now) old.more) (with_more (g.tally new.inner.now) new.more) result
  pub first : KeepsFirst old.later new.later result

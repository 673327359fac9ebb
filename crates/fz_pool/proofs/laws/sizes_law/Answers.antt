use Rattle.fz_pool.proofs.SizeLemmas.{sizes_fresh, as_many, size_at, asked_same}
use Rattle.fz_pool.proofs.WindowLemmas.{asked_fresh}
use Rattle.fz_pool.proofs.laws.sizes_law.Goals as goal

pub returns : goal.returns
returns c = record {
  fresh = sizes_fresh;
  many = λ slots m size sizes. as_many slots m size sizes;
  alike = λ slots m size i x sizes near at. size_at slots m size sizes i x near at;
  asked = λ m n. asked_fresh n m;
  same = asked_same;
}

-- A packed header that is made of that of an image, and what it is made of.
use Rattle.std.proofs.Common.{◌≡◌, ℕ, zero, suc, ◌-◌, Bool, true, false, cond, List, refl}
use Rattle.std.specs.Prelude.{Option, Some, None, codes, bytes_eq}
use Rattle.fz_card.specs.Reading.{text_of}
use Rattle.fz_block.specs.Cards.{card_at}
use Rattle.fz_block.specs.Facts.{sort_of, sort_named}
use Rattle.fz_block.specs.declared.header.Sort.TheVariants.{Image, BinTable, Other}
use Rattle.fz_head.specs.Packable.{is_primary}
use Rattle.fz_checks.proofs.FrontCards.{is_first_hdu}

-- an extension is no primary
no_primary : (b c : Bool) → is_primary (cond b Image (cond c BinTable Other)) ≡ false
no_primary true c = refl
no_primary false true = refl
no_primary false false = refl

named_no_primary : (text : Option (List ℕ)) → is_primary (sort_named text) ≡ false
named_no_primary None = refl
named_no_primary (Some text) = no_primary (bytes_eq text (codes "IMAGE")) (bytes_eq text (codes "BINTABLE"))

pub primary_is : (k : ℕ) (header : List ℕ) → is_primary (sort_of k header) ≡ is_first_hdu k
primary_is zero header = refl
primary_is (suc k) header = named_no_primary (text_of (card_at header 0))

-- Pixels of which the last were held back, once these are written too.
use Rattle.std.proofs.Common.{◌≡◌, ℕ, List, Option, IfSome, sym, subst}
use Rattle.fz_block.specs.declared.header.Header.{Header}
use Rattle.fz_head.specs.declared.plan.Plan.{Plan}
use Rattle.fz_unpack.specs.Images.{AreWrittenTiles}

-- from contents with nothing held back to contents with all that was
pub all_settled : (told : Option (List ℕ)) (h : Header) (p : Plan) (at : ℕ) (tiles : List ℕ) (before begun now end : Option (List ℕ)) → begun ≡ before
    → end ≡ now →
    IfSome told (λ file. AreWrittenTiles file h p at tiles begun now) → IfSome told (λ file. AreWrittenTiles file h p at tiles before end)
all_settled told h p at tiles before begun now end none put written =
    subst (λ (c : Option (List ℕ)). IfSome told (λ file. AreWrittenTiles file h p at tiles before c)) (sym put)
    (subst (λ (c : Option (List ℕ)). IfSome told (λ file. AreWrittenTiles file h p at tiles c now)) none written)

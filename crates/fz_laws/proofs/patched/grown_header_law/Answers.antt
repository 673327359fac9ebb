-- Card by card, and then what all of them say.
use Rattle.fz_laws.specs.PatchTaken.{CardPlaceLaws}
use Rattle.fz_laws.proofs.GrownHeaders.{counts_grow, forms_change, one_more, says_more, sums_change}
use Rattle.fz_laws.proofs.patched.grown_header_law.Goals as goal

pub returns-clause-count : goal.returns-clause-count
returns-clause-count c = counts_grow c.card_laws.ensures

pub returns-clause-forms : goal.returns-clause-forms
returns-clause-forms c = forms_change c.card_laws.ensures

pub returns-clause-sums : goal.returns-clause-sums
returns-clause-sums c = sums_change

pub returns-clause-more : goal.returns-clause-more
returns-clause-more c =
    let laws : CardPlaceLaws = record {
      there = c.with_card_law.ensures.there;
      others = c.with_card_law.ensures.others;
      long = c.with_card_law.ensures.long;
    } in
    one_more laws

pub returns-clause-says : goal.returns-clause-says
returns-clause-says c = says_more c.amended_header_law.ensures

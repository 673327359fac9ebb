use Rattle.std.proofs.Common.{◌≡◌, Some, Ok, Err, refl, sym, ap, ◌∙◌, rules, arith, to_z, of_z, SFits, w32}
use Rattle.std.proofs.lemmas.Int.{to_z-of_z}
use Rattle.fz_block.proofs.HeaderLemmas.{not_whole, in_mandatory, in_groups, in_end, all_pass, end_same, len_same, said_is, facts_are}
use Rattle.fz_block.proofs.Wholes.{whole_header}
use Rattle.fz_block.proofs.read.buffered_header.Goals as goal

pub returns-in_default-clause-exact : goal.returns-in_default-clause-exact
returns-in_default-clause-exact c = ap Err c.refused.ensures ∙ sym (not_whole c.args.hdu c.args.start c.args.length c.args.buf.now (c.in_default.ensures.none refl))

pub returns-in_err-said-clause-exact : goal.returns-in_err-said-clause-exact
returns-in_err-said-clause-exact c = rw (in_mandatory c.args.hdu c.args.start c.args.length c.args.buf.now _ c.in-Some.ensures.some.0 c.in_err-said.ensures.exact) (search rules)

pub returns-in_err-check_groups-clause-exact : goal.returns-in_err-check_groups-clause-exact
returns-in_err-check_groups-clause-exact c =
    rw (in_groups c.args.hdu c.args.start c.args.length c.args.buf.now _ c.in-Some.ensures.some.0 c.in_ok-said.ensures.exact c.in_err-check_groups.ensures) (search rules)

pub returns-in_err-check_end-clause-exact : goal.returns-in_err-check_end-clause-exact
returns-in_err-check_end-clause-exact c =
    let k = c.args.hdu in
    let header = c.args.buf.now in
    let m = c.in_ok-said.said in
    let e = c.in_ok-said.ensures in
    let said = said_is k header m e.bitpix e.axes e.counts.0 e.counts.1 in
    let stops = end_same k c.args.start c.args.length c.data_len-data_len.result header m said c.data_len-data_len.ensures ∙ c.in_err-check_end.ensures in
    rw (in_end k c.args.start c.args.length header _ c.in-Some.ensures.some.0 e.exact c.in_ok-check_groups.ensures stops) (search rules)

pub returns-clause-exact : goal.returns-clause-exact
returns-clause-exact c =
    let k = c.args.hdu in
    let header = c.args.buf.now in
    let m = c.in_ok-said.said in
    let e = c.in_ok-said.ensures in
    let said = said_is k header m e.bitpix e.axes e.counts.0 e.counts.1 in
    let passes = end_same k c.args.start c.args.length c.data_len-data_len.result header m said c.data_len-data_len.ensures ∙ c.in_ok-check_end.ensures in
    let len = len_same k c.args.start c.args.length c.data_len-data_len.result header m said c.data_len-data_len.ensures c.in_ok-check_end.ensures in
    let fits : SFits w32 m.bitpix = search rules in
    let back : to_z w32 (of_z w32 m.bitpix) ≡ m.bitpix = to_z-of_z w32 m.bitpix fits in
    ap Ok (facts_are _ k c.args.start c.in-Some.cards header refl refl c.in-Some.ensures.some.1 refl refl c.sort.ensures (e.bitpix ∙ ap Some (sym back)) e.axes e.counts.0 e.counts.1 len)
    ∙ sym (all_pass k c.args.start c.args.length header c.in-Some.ensures.some.0 e.exact c.in_ok-check_groups.ensures passes)

pub returns-clause-facts : goal.returns-clause-facts
returns-clause-facts c =
    let k = c.args.hdu in
    let header = c.args.buf.now in
    let m = c.in_ok-said.said in
    let e = c.in_ok-said.ensures in
    let said = said_is k header m e.bitpix e.axes e.counts.0 e.counts.1 in
    let len = len_same k c.args.start c.args.length c.data_len-data_len.result header m said c.data_len-data_len.ensures c.in_ok-check_end.ensures in
    let fits : SFits w32 m.bitpix = search rules in
    let back : to_z w32 (of_z w32 m.bitpix) ≡ m.bitpix = to_z-of_z w32 m.bitpix fits in (
      record {
        whole = whole_header header c.in-Some.cards c.in-Some.ensures.some.0 c.in-Some.ensures.some.1;
        short = omega arith;
        mandatory = e.exact;
        facts = facts_are _ k c.args.start c.in-Some.cards header refl refl c.in-Some.ensures.some.1 refl refl c.sort.ensures (e.bitpix ∙ ap Some (sym back)) e.axes e.counts.0 e.counts.1 len;
      },
      refl,
      refl,
    )

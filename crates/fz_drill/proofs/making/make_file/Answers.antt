use Rattle.std.proofs.Common.{◌≡◌, length, rules}
use Rattle.fz_drill.proofs.MadeFiles.{whole_file}
use Rattle.fz_drill.proofs.making.make_file.Goals as goal

pub returns : goal.returns
returns c =
    let long : length c.header_of.result ≡ 2880 = search rules in
    whole_file c.args.first c.args.columns c.args.rows c.header_of.result c.push_rows.new.file.items c.extend.new.file.items c.header_of.ensures long (search rules) (search rules)

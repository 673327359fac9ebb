use Rattle.fz_laws.proofs.FormTables.{forms_have_tables}
use Rattle.fz_laws.proofs.patched.form_law.Goals as goal

pub returns : goal.returns
returns c = forms_have_tables

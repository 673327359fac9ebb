-- Nothing is lost: what a packed file stands for is the file that was packed.
use Rattle.std.proofs.Common.{sym, ◌∙◌}
use Rattle.fz_files.specs.Laws.{StandsForOneFile}
use Rattle.fz_laws.specs.RoundTrip.{ComesBack, OnlyTheFileComesBack, LosesNothing, OptionsDoNotMatter}

pub comes_back_alone : ComesBack → StandsForOneFile → OnlyTheFileComesBack
comes_back_alone back one o file bytes other is packed few stands = one bytes other file stands (back o file bytes is packed few)

pub loses_nothing : ComesBack → StandsForOneFile → LosesNothing
loses_nothing back one o p file other bytes a b = one bytes file other (back o file bytes a.taken a.packed a.few) (back p other bytes b.taken b.packed b.few)

pub options_do_not_matter : ComesBack → StandsForOneFile → OptionsDoNotMatter
options_do_not_matter back one o p file bytes others first again a b x y =
    comes_back_alone back one o file bytes first a.taken a.packed a.few x ∙ sym (comes_back_alone back one p file others again b.taken b.packed b.few y)

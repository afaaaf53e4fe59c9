use Rattle.leaf_domain.proofs.FormLemmas.{forms_are_forms}
use Rattle.leaf_domain.proofs.SoundLemmas.{transfer_answers}
use Rattle.leaf_domain.proofs.FitLemmas.{transfer_holds}
use Rattle.leaf_domain.proofs.AtNothing.{nothing_stops}
use Rattle.leaf_domain.proofs.laws.transfer_is_sound.Goals as goal

pub returns-clause-forms : goal.returns-clause-forms
returns-clause-forms g c = forms_are_forms

pub returns-clause-answers : goal.returns-clause-answers
returns-clause-answers g c = λ m. transfer_answers g.L.Leaf.meaning g.met.L.Leaf.laws m forms_are_forms

pub returns-clause-holds : goal.returns-clause-holds
returns-clause-holds g c = transfer_holds g.L.Leaf.meaning g.met.L.Leaf.laws forms_are_forms

pub returns-clause-nothing : goal.returns-clause-nothing
returns-clause-nothing g c = nothing_stops g.L.Leaf.meaning

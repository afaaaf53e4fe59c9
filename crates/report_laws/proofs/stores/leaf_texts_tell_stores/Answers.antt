use Rattle.report_laws.proofs.LeafTexts.{texts_tell_stores}
use Rattle.report_laws.proofs.stores.leaf_texts_tell_stores.Goals as goal

pub returns : goal.returns
returns g c = texts_tell_stores g.L.Leaf.meaning g.met.L.Leaf.laws

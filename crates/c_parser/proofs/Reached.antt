-- What reading a file answers where a name has a fault.
use Rattle.std.proofs.Common.{ℕ, List, Some, Err, ap, subst, inr}
use Rattle.fam_outer.specs.declared.faults.Place.{Place}
use Rattle.fam_outer.specs.declared.faults.FileCode.{FileCode}
use Rattle.fam_outer.specs.declared.faults.FileRefusal.TheVariants.{Fault}
use Rattle.c_tree.specs.Tree.{Whole}
use Rattle.c_grammar.specs.Within.{SpellsWithin}
use Rattle.c_parser.specs.declared.numbering.Numbered.{Numbered}
use Rattle.c_parser.specs.Items.{Listed}
use Rattle.c_parser.specs.Phases.{FileMeaning, IsReadAs}
use Rattle.c_parser.specs.Stages.{list, listed_in}

-- the program that is spelled has the names, so what is true over its names is true of the items
over_names : (made : Numbered) (p : Whole) (P : Listed → Type 0) → SpellsWithin made.names p made.items.items → P (list p.names made.items.items) → P (listed_in made)
over_names made p P s h = subst (λ (ns : List (List ℕ)). P (list ns made.items.items)) (ap (λ (w : Whole). w.names) s.is) h

-- a name has a fault
pub wrong_name : {K : Type 0} (kind : FileMeaning K) (bytes : List ℕ) (made : Numbered) (known : K) (p : Whole) (code : FileCode) (place : Place) → kind.listed bytes (listed_in made) known
    → SpellsWithin made.names p made.items.items → kind.named (list p.names made.items.items) known (Some (code, place)) → IsReadAs kind bytes (Err (Fault code place))
wrong_name kind bytes made known p code place l s n = inr (record {
  listed = listed_in made;
  known = known;
  are = l;
  is = inr (inr (record { program = p; spelled = s; names = over_names made p (λ k. kind.named k known (Some (code, place))) s n }));
})

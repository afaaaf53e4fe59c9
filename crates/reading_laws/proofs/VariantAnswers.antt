-- Each file has the text of each of its variants, or a first fault.
use Rattle.std.proofs.Common.{◌≡◌, ℕ, Bool, List, Result, Ok, Err, refl, inl, inr}
use Rattle.fam_outer.specs.declared.dialect.Dialect.{Dialect}
use Rattle.fam_outer.specs.declared.faults.FileCode.{FileCode}
use Rattle.fam_outer.specs.declared.faults.Place.{Place}
use Rattle.linear_atoms.specs.declared.atoms.Atom.{Atom}
use Rattle.cpp_conditions.specs.Propositions.{Proposition}
use Rattle.cpp_conditions.specs.Validity.{Plain}
use Rattle.cpp_lines.specs.Preprocessed.{preprocessed}
use Rattle.cpp_lines.specs.Sections.{Told, TextIsRead}
use Rattle.cpp_lines.specs.Whole.{blanked_file}
use Rattle.reading_laws.specs.Answered.{HasVariant, TextsHaveLines, VariantsHaveTexts}

by_lines : (dialect : Dialect) (model : Plain) (truths : List (Proposition Atom) → List Bool) (bytes blanked : List ℕ) → blanked_file bytes ≡ Ok blanked → (x : Result Told (FileCode × Place)) → TextIsRead dialect model blanked x → HasVariant dialect model truths bytes
by_lines dialect model truths bytes blanked b (Ok told) r = inl (preprocessed (truths told.conditions) told.lines blanked, record { blanked = blanked; told = told; without_comments = b; read = r; is = refl })
by_lines dialect model truths bytes blanked b (Err fault) r = inr (fault, inr (record { blanked = blanked; without_comments = b; read = r }))

by_comments : TextsHaveLines → (dialect : Dialect) (model : Plain) (truths : List (Proposition Atom) → List Bool) (bytes : List ℕ) (x : Result (List ℕ) (FileCode × Place)) → blanked_file bytes ≡ x → HasVariant dialect model truths bytes
by_comments law dialect model truths bytes (Ok blanked) b = let x = law dialect model blanked in by_lines dialect model truths bytes blanked b x.0 x.1
by_comments law dialect model truths bytes (Err fault) b = inr (fault, inl b)

pub variants_have_texts : TextsHaveLines → VariantsHaveTexts
variants_have_texts law dialect model truths bytes = by_comments law dialect model truths bytes (blanked_file bytes) refl

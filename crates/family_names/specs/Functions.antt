-- The functions outside that the items of a file with groups declare before `main`, and those that may be called behind it (ISO/IEC
-- 9899:2011, 6.5.2.2 and 6.7.6.3).
use Rattle.std.specs.Prelude.{ℕ, Bool, true, false, List, ◌++◌}
use Rattle.c_grammar.specs.declared.items.Item.{Item}
use Rattle.c_grammar.specs.Functions.{of_functions, functions_of}
use Rattle.c_grammar.specs.Kept.{kept}
use Rattle.family_names.specs.AroundMain.{until_main}

-- the functions that the items declare with `void` or with a value, whatever group they stand in
abbrev pub functions_by : Bool → List Item → List ℕ
functions_by void items = functions_of (until_main (of_functions void items))

-- those that they declare where each condition has a truth
abbrev pub functions_at : List Bool → Bool → List Item → List ℕ
functions_at truths void items = functions_of (kept truths (until_main (of_functions void items)))

-- those that may be called: with a value where one is wanted, and else all
abbrev pub callable_by : Bool → List Item → List ℕ
callable_by true items = functions_by false items
callable_by false items = functions_by false items ++ functions_by true items

abbrev pub callable_at : List Bool → Bool → List Item → List ℕ
callable_at truths true items = functions_at truths false items
callable_at truths false items = functions_at truths false items ++ functions_at truths true items

-- Outside `main` each item leaves what is open within the limits: declarations open nothing deep.
use Rattle.std.proofs.Common.{ℕ, ℤ, pos, ◌+ℤ◌, int_lt, true, false, cond, List, ◌∷◌, None, arith}
use Rattle.std.specs.Prelude.{IfSome}
use Rattle.c_tree.specs.declared.tree.Op.TheVariants.{Sub}
use Rattle.c_tree.specs.declared.lists.Declared.{Declared}
use Rattle.c_tree.specs.Value.{greatest}
use Rattle.c_grammar.specs.declared.items.Sign.{Sign}
use Rattle.c_grammar.specs.declared.items.Sign.TheVariants as signs
use Rattle.c_grammar.specs.Grammar.{Qualifier, Unqualified, Constant, Counted, File}
use Rattle.c_grammar.specs.Machine.{Sections, Outermost, InPart, InLast, Aim, ToPrototype, ToMain, Tailing, Another, Leading, NoWord, StaticWord, ExternWord, ConstWord, TypeWords, OneInt, OneSigned, Parameters, next_condition, last_section, section_end, outside, behind_extern, behind_static, declaring, qualifying, main_of, first_word, naming, behind_type, after_type, after_enum, listed, declaration_end, enumeration_end, started, listing, counts_on, without_value, is_bare, starting, negating, after_define, defining, negative_defining, enclosing, negative_enclosing, in_parameters, after_parameters, over, with_declared}
use Rattle.c_grammar.proofs.OpenLimits.{Fine, StateFits, function_fits}

condition_fits : (m : ℕ) (secs : Sections) (ds : List Declared) → IfSome (next_condition m secs ds) (λ next. StateFits next 0)
unfolding StateFits
condition_fits m Outermost ds = tt
condition_fits m (InPart gs n outer) ds = tt
condition_fits m (InLast gs outer) ds = tt

last_section_fits : (secs : Sections) (ds : List Declared) → IfSome (last_section secs ds) (λ next. StateFits next 0)
unfolding StateFits
last_section_fits Outermost ds = tt
last_section_fits (InPart gs n outer) ds = tt
last_section_fits (InLast gs outer) ds = tt

section_end_fits : (secs : Sections) (ds : List Declared) → IfSome (section_end secs ds) (λ next. StateFits next 0)
unfolding StateFits
section_end_fits Outermost ds = tt
section_end_fits (InPart gs n outer) ds = tt
section_end_fits (InLast gs outer) ds = tt

pub first_fits : (lead : Leading) (secs : Sections) (ds : List Declared) (s : Sign) → IfSome (first_word lead secs ds s) (λ next. StateFits next 0)
unfolding StateFits
first_fits lead secs ds signs.Int = tt
first_fits lead secs ds signs.Int32 = tt
first_fits lead secs ds signs.Signed = tt
first_fits lead secs ds _ = tt

pub static_fits : (secs : Sections) (ds : List Declared) (s : Sign) → IfSome (behind_static secs ds s) (λ next. StateFits next 0)
unfolding StateFits
static_fits secs ds signs.Const = tt
static_fits secs ds s = first_fits StaticWord secs ds s

pub extern_fits : (secs : Sections) (ds : List Declared) (s : Sign) → IfSome (behind_extern secs ds s) (λ next. StateFits next 0)
unfolding StateFits
extern_fits secs ds signs.Void = tt
extern_fits secs ds s = first_fits ExternWord secs ds s

pub outside_fits : (secs : Sections) (ds : List Declared) (s : Sign) → IfSome (outside secs ds s) (λ next. StateFits next 0)
unfolding StateFits
outside_fits secs ds signs.Static = tt
outside_fits secs ds signs.Extern = tt
outside_fits secs ds signs.Const = tt
outside_fits secs ds signs.Enum = tt
outside_fits secs ds signs.Define = tt
outside_fits secs ds signs.Void = tt
outside_fits secs ds (signs.GroupIf n) = tt
outside_fits secs ds (signs.GroupElif n) = condition_fits n secs ds
outside_fits secs ds signs.GroupElse = last_section_fits secs ds
outside_fits secs ds signs.GroupEnd = section_end_fits secs ds
outside_fits secs ds s = first_fits NoWord secs ds s

main_fits : (secs : Sections) (ds : List Declared) → IfSome (main_of secs ds) (λ next. StateFits next 0)
unfolding StateFits
main_fits Outermost ds = tt
main_fits _ ds = tt

naming_fits : (secs : Sections) (ds : List Declared) (s : Sign) → IfSome (naming secs ds s) (λ next. StateFits next 0)
unfolding StateFits
naming_fits secs ds signs.Const = tt
naming_fits secs ds (signs.Name x) = tt
naming_fits secs ds signs.Input = tt
naming_fits secs ds (signs.Function k) = tt
naming_fits secs ds signs.Main = main_fits secs ds
naming_fits secs ds _ = tt

pub declaring_fits : (kind : Qualifier) (secs : Sections) (ds : List Declared) (s : Sign) → IfSome (declaring kind secs ds s) (λ next. StateFits next 0)
unfolding StateFits
declaring_fits kind secs ds (signs.Name x) = tt
declaring_fits kind secs ds _ = tt

qualifying_fits : (secs : Sections) (ds : List Declared) (s : Sign) → IfSome (qualifying secs ds s) (λ next. StateFits next 0)
unfolding StateFits
qualifying_fits secs ds signs.Const = tt
qualifying_fits secs ds s = declaring_fits Unqualified secs ds s

behind_type_fits : (lead : Leading) (secs : Sections) (ds : List Declared) (s : Sign) → IfSome (behind_type lead secs ds s) (λ next. StateFits next 0)
unfolding StateFits
behind_type_fits NoWord secs ds s = naming_fits secs ds s
behind_type_fits StaticWord secs ds s = qualifying_fits secs ds s
behind_type_fits ExternWord secs ds s = function_fits (Parameters (ToPrototype secs ds)) s tt
behind_type_fits ConstWord secs ds s = declaring_fits Constant secs ds s

pub after_type_fits : (lead : Leading) (secs : Sections) (ds : List Declared) (s : Sign) (words : TypeWords) → IfSome (after_type lead secs ds s words) (λ next. StateFits next 0)
unfolding StateFits
after_type_fits lead secs ds signs.Signed OneInt = tt
after_type_fits lead secs ds signs.Int OneSigned = tt
after_type_fits lead secs ds s words = behind_type_fits lead secs ds s

pub enum_fits : (secs : Sections) (ds : List Declared) (s : Sign) → IfSome (after_enum secs ds s) (λ next. StateFits next 0)
unfolding StateFits
enum_fits secs ds signs.LeftBrace = tt
enum_fits secs ds _ = tt

listed_fits : (kind : Qualifier) (n : ℤ) (secs : Sections) (ds : List Declared) → StateFits (listed kind n secs ds) 0
unfolding StateFits
listed_fits Unqualified n secs ds = tt
listed_fits Constant n secs ds = tt
listed_fits (Counted last) n secs ds = tt

declaration_end_fits : (kind : Qualifier) (secs : Sections) (ds : List Declared) → IfSome (declaration_end kind secs ds) (λ next. StateFits next 0)
unfolding StateFits
declaration_end_fits Unqualified secs ds = tt
declaration_end_fits Constant secs ds = tt
declaration_end_fits (Counted last) secs ds = tt

enumeration_end_fits : (kind : Qualifier) (secs : Sections) (ds : List Declared) → IfSome (enumeration_end kind secs ds) (λ next. StateFits next 0)
unfolding StateFits
enumeration_end_fits Unqualified secs ds = tt
enumeration_end_fits Constant secs ds = tt
enumeration_end_fits (Counted last) secs ds = tt

pub started_fits : (kind : Qualifier) (x : ℕ) (n : ℤ) (secs : Sections) (ds : List Declared) (s : Sign) → IfSome (started kind x n secs ds s) (λ next. StateFits next 0)
unfolding StateFits
started_fits kind x n secs ds signs.Comma = listed_fits kind n secs (with_declared secs ds x n)
started_fits kind x n secs ds signs.Semicolon = declaration_end_fits kind secs (with_declared secs ds x n)
started_fits kind x n secs ds signs.RightBrace = enumeration_end_fits kind secs (with_declared secs ds x n)
started_fits kind x n secs ds _ = tt

counts_fits : (last : ℤ) (x : ℕ) (secs : Sections) (ds : List Declared) (s : Sign) → IfSome (counts_on last x secs ds s) (λ next. StateFits next 0)
unfolding StateFits
counts_fits last x secs ds s = elim (int_lt last greatest) as (λ b. IfSome (cond b (started (Counted last) x (last +ℤ pos 1) secs ds s) None) (λ next. StateFits next 0)) [ true ↦ started_fits (Counted last) x (last +ℤ pos 1) secs ds s | false ↦ tt ]

pub listing_fits : (last : ℤ) (secs : Sections) (ds : List Declared) (s : Sign) → IfSome (listing last secs ds s) (λ next. StateFits next 0)
unfolding StateFits
listing_fits last secs ds signs.RightBrace = tt
listing_fits last secs ds s = declaring_fits (Counted last) secs ds s

unvalued_fits : (kind : Qualifier) (x : ℕ) (secs : Sections) (ds : List Declared) (s : Sign) → IfSome (without_value kind x secs ds s) (λ next. StateFits next 0)
unfolding StateFits
unvalued_fits Unqualified x secs ds s = started_fits Unqualified x (pos 0) secs ds s
unvalued_fits Constant x secs ds s = tt
unvalued_fits (Counted last) x secs ds s = counts_fits last x secs ds s

pub bare_fits : (kind : Qualifier) (x : ℕ) (secs : Sections) (ds : List Declared) (s : Sign) → IfSome (is_bare kind x secs ds s) (λ next. StateFits next 0)
unfolding StateFits
bare_fits kind x secs ds signs.Equals = tt
bare_fits kind x secs ds s = unvalued_fits kind x secs ds s

pub starting_fits : (kind : Qualifier) (x : ℕ) (secs : Sections) (ds : List Declared) (s : Sign) → IfSome (starting kind x secs ds s) (λ next. StateFits next 0)
unfolding StateFits
starting_fits kind x secs ds (signs.Number n) = tt
starting_fits kind x secs ds (signs.Oper Sub) = tt
starting_fits kind x secs ds _ = tt

pub negating_fits : (kind : Qualifier) (x : ℕ) (secs : Sections) (ds : List Declared) (s : Sign) → IfSome (negating kind x secs ds s) (λ next. StateFits next 0)
unfolding StateFits
negating_fits kind x secs ds (signs.Number n) = tt
negating_fits kind x secs ds _ = tt

pub define_fits : (secs : Sections) (ds : List Declared) (s : Sign) → IfSome (after_define secs ds s) (λ next. StateFits next 0)
unfolding StateFits
define_fits secs ds (signs.Name x) = tt
define_fits secs ds _ = tt

pub defining_fits : (x : ℕ) (secs : Sections) (ds : List Declared) (s : Sign) → IfSome (defining x secs ds s) (λ next. StateFits next 0)
unfolding StateFits
defining_fits x secs ds (signs.Number n) = tt
defining_fits x secs ds (signs.Oper Sub) = tt
defining_fits x secs ds signs.Open = tt
defining_fits x secs ds _ = tt

pub negative_defining_fits : (x : ℕ) (secs : Sections) (ds : List Declared) (s : Sign) → IfSome (negative_defining x secs ds s) (λ next. StateFits next 0)
unfolding StateFits
negative_defining_fits x secs ds (signs.Number n) = tt
negative_defining_fits x secs ds _ = tt

pub enclosing_fits : (x : ℕ) (secs : Sections) (ds : List Declared) (s : Sign) → IfSome (enclosing x secs ds s) (λ next. StateFits next 0)
unfolding StateFits
enclosing_fits x secs ds (signs.Number n) = tt
enclosing_fits x secs ds (signs.Oper Sub) = tt
enclosing_fits x secs ds _ = tt

pub negative_enclosing_fits : (x : ℕ) (secs : Sections) (ds : List Declared) (s : Sign) → IfSome (negative_enclosing x secs ds s) (λ next. StateFits next 0)
unfolding StateFits
negative_enclosing_fits x secs ds (signs.Number n) = tt
negative_enclosing_fits x secs ds _ = tt

pub in_parameters_fits : (aim : Aim) (s : Sign) → IfSome (in_parameters aim s) (λ next. StateFits next 0)
unfolding StateFits
in_parameters_fits aim signs.Void = tt
in_parameters_fits aim signs.Close = tt
in_parameters_fits aim _ = tt

pub after_parameters_fits : (aim : Aim) (s : Sign) → IfSome (after_parameters aim s) (λ next. StateFits next 0)
unfolding StateFits
after_parameters_fits (ToPrototype secs ds) signs.Semicolon = tt
after_parameters_fits (ToMain ds) signs.LeftBrace = (omega arith, tt)
after_parameters_fits _ _ = tt

pub over_fits : (f : File) (parts : List Tailing) (s : Sign) → Fine 0 f.body → IfSome (over f parts s) (λ next. StateFits next 0)
unfolding StateFits
over_fits f parts (signs.GroupIf n) h = h
over_fits f (Another k ∷ parts) (signs.GroupElif n) h = h
over_fits f (Another k ∷ parts) signs.GroupElse h = h
over_fits f (part ∷ parts) signs.GroupEnd h = h
over_fits f _ _ h = tt

-- Reading item by item: declarations.
use Rattle.std.specs.Prelude.{ℕ, ℤ, pos, neg_ℤ, ◌+ℤ◌, int_lt, List, [], ◌∷◌, ◌++◌, Option, Some, None, if◌then◌else◌}
use Rattle.c_tree.specs.declared.tree.Op.TheVariants.{Sub}
use Rattle.c_tree.specs.declared.lists.Declared.{Declared}
use Rattle.c_tree.specs.Value.{greatest}
use Rattle.c_tree.specs.Tree.{Done}
use Rattle.c_grammar.specs.declared.items.Sign.{Sign}
use Rattle.c_grammar.specs.declared.items.Sign.TheVariants as signs
use Rattle.c_grammar.specs.Groups.{Sections, Outermost, InPart, InLast, guards_of}
use Rattle.c_grammar.specs.Grammar.{Qualifier, Unqualified, Constant, Counted, uncounted, with_false, declared}
use Rattle.c_grammar.specs.States.{Top, Leading, NoWord, StaticWord, ExternWord, ConstWord, TypeWords, OneInt, OneSigned, WholeType, Aim, ToPrototype, ToMain, ReadingState, Outside, AfterStatic, AfterExtern, AfterConst, AfterEnum, AfterVoidType, AfterType, Declaring, Bare, Starting, Negating, Started, Listing, Enumerated, AfterDefine, Defining, NegativeDefining, Enclosing, NegativeEnclosing, Enclosed, Parameters, AfterVoid, AfterParameters, Ready}
use Rattle.c_grammar.specs.StatementSteps.{at_function}

-- ---- declarations

abbrev pub next_condition : ℕ → Sections → List Declared → Option ReadingState
next_condition m Outermost ds = None
next_condition m (InPart gs n outer) ds = Some (Outside (InPart (with_false gs n) m outer) ds)
next_condition m (InLast gs outer) ds = None

abbrev pub last_section : Sections → List Declared → Option ReadingState
last_section Outermost ds = None
last_section (InPart gs n outer) ds = Some (Outside (InLast (with_false gs n) outer) ds)
last_section (InLast gs outer) ds = None

abbrev pub section_end : Sections → List Declared → Option ReadingState
section_end Outermost ds = None
section_end (InPart gs n outer) ds = Some (Outside outer ds)
section_end (InLast gs outer) ds = Some (Outside outer ds)

-- the first word of a type
abbrev pub first_word : Leading → Sections → List Declared → Sign → Option ReadingState
first_word lead secs ds signs.Int = Some (AfterType lead OneInt secs ds)
first_word lead secs ds signs.Int32 = Some (AfterType lead WholeType secs ds)
first_word lead secs ds signs.Signed = Some (AfterType lead OneSigned secs ds)
first_word lead secs ds _ = None

abbrev pub outside : Sections → List Declared → Sign → Option ReadingState
outside secs ds signs.Static = Some (AfterStatic secs ds)
outside secs ds signs.Extern = Some (AfterExtern secs ds)
outside secs ds signs.Const = Some (AfterConst secs ds)
outside secs ds signs.Enum = Some (AfterEnum secs ds)
outside secs ds signs.Define = Some (AfterDefine secs ds)
outside secs ds signs.Void = Some (AfterVoidType secs ds)
outside secs ds (signs.GroupIf n) = Some (Outside (InPart (guards_of secs) n secs) ds)
outside secs ds (signs.GroupElif n) = next_condition n secs ds
outside secs ds signs.GroupElse = last_section secs ds
outside secs ds signs.GroupEnd = section_end secs ds
outside secs ds s = first_word NoWord secs ds s

-- `void`, or the first word of a type
abbrev pub behind_extern : Sections → List Declared → Sign → Option ReadingState
behind_extern secs ds signs.Void = Some (AfterVoidType secs ds)
behind_extern secs ds s = first_word ExternWord secs ds s

-- `const`, or the first word of a type
abbrev pub behind_static : Sections → List Declared → Sign → Option ReadingState
behind_static secs ds signs.Const = Some (AfterConst secs ds)
behind_static secs ds s = first_word StaticWord secs ds s

-- the brace of an `enum`
abbrev pub after_enum : Sections → List Declared → Sign → Option ReadingState
after_enum secs ds signs.LeftBrace = Some (Declaring uncounted secs ds)
after_enum secs ds _ = None

abbrev pub declaring : Qualifier → Sections → List Declared → Sign → Option ReadingState
declaring kind secs ds (signs.Name x) = Some (Bare kind x secs ds)
declaring kind secs ds _ = None

-- `const` behind the type, or the name of a variable
abbrev pub qualifying : Sections → List Declared → Sign → Option ReadingState
qualifying secs ds signs.Const = Some (Declaring Constant secs ds)
qualifying secs ds s = declaring Unqualified secs ds s

-- `main` stands outside every group
abbrev pub main_of : Sections → List Declared → Option ReadingState
main_of Outermost ds = Some (Parameters (ToMain ds))
main_of _ ds = None

-- `const`, or the name of a variable or of a function
abbrev pub naming : Sections → List Declared → Sign → Option ReadingState
naming secs ds signs.Const = Some (Declaring Constant secs ds)
naming secs ds (signs.Name x) = Some (Bare Unqualified x secs ds)
naming secs ds signs.Input = Some (Parameters (ToPrototype secs ds))
naming secs ds (signs.Function k) = Some (Parameters (ToPrototype secs ds))
naming secs ds signs.Main = main_of secs ds
naming secs ds _ = None

abbrev pub behind_type : Leading → Sections → List Declared → Sign → Option ReadingState
behind_type NoWord secs ds s = naming secs ds s
behind_type StaticWord secs ds s = qualifying secs ds s
behind_type ExternWord secs ds s = at_function (Parameters (ToPrototype secs ds)) s
behind_type ConstWord secs ds s = declaring Constant secs ds s

-- another word of the type, or what follows it
abbrev pub after_type : Leading → Sections → List Declared → Sign → TypeWords → Option ReadingState
after_type lead secs ds signs.Signed OneInt = Some (AfterType lead WholeType secs ds)
after_type lead secs ds signs.Int OneSigned = Some (AfterType lead WholeType secs ds)
after_type lead secs ds s words = behind_type lead secs ds s

-- the declarators with one more
abbrev pub with_declared : Sections → List Declared → ℕ → ℤ → List Declared
with_declared secs ds x n = ds ++ declared x n (guards_of secs) ∷ []

-- behind a comma, where the declarator before it has this value
abbrev pub listed : Qualifier → ℤ → Sections → List Declared → ReadingState
listed Unqualified n secs ds = Declaring Unqualified secs ds
listed Constant n secs ds = Declaring Constant secs ds
listed (Counted last) n secs ds = Listing n secs ds

-- the semicolon of variables or constants
abbrev pub declaration_end : Qualifier → Sections → List Declared → Option ReadingState
declaration_end Unqualified secs ds = Some (Outside secs ds)
declaration_end Constant secs ds = Some (Outside secs ds)
declaration_end (Counted last) secs ds = None

-- the brace of an `enum`
abbrev pub enumeration_end : Qualifier → Sections → List Declared → Option ReadingState
enumeration_end Unqualified secs ds = None
enumeration_end Constant secs ds = None
enumeration_end (Counted last) secs ds = Some (Enumerated secs ds)

abbrev pub started : Qualifier → ℕ → ℤ → Sections → List Declared → Sign → Option ReadingState
started kind x n secs ds signs.Comma = Some (listed kind n secs (with_declared secs ds x n))
started kind x n secs ds signs.Semicolon = declaration_end kind secs (with_declared secs ds x n)
started kind x n secs ds signs.RightBrace = enumeration_end kind secs (with_declared secs ds x n)
started kind x n secs ds _ = None

-- another name, or the brace behind a comma
abbrev pub listing : ℤ → Sections → List Declared → Sign → Option ReadingState
listing last secs ds signs.RightBrace = Some (Enumerated secs ds)
listing last secs ds s = declaring (Counted last) secs ds s

-- a constant that is counted is an `int`
abbrev pub counts_on : ℤ → ℕ → Sections → List Declared → Sign → Option ReadingState
counts_on last x secs ds s = if int_lt last greatest then started (Counted last) x (last +ℤ pos 1) secs ds s else None

-- a variable starts at 0; a constant has a value, or is counted
abbrev pub without_value : Qualifier → ℕ → Sections → List Declared → Sign → Option ReadingState
without_value Unqualified x secs ds s = started Unqualified x (pos 0) secs ds s
without_value Constant x secs ds s = None
without_value (Counted last) x secs ds s = counts_on last x secs ds s

abbrev pub is_bare : Qualifier → ℕ → Sections → List Declared → Sign → Option ReadingState
is_bare kind x secs ds signs.Equals = Some (Starting kind x secs ds)
is_bare kind x secs ds s = without_value kind x secs ds s

abbrev pub starting : Qualifier → ℕ → Sections → List Declared → Sign → Option ReadingState
starting kind x secs ds (signs.Number n) = Some (Started kind x n secs ds)
starting kind x secs ds (signs.Oper Sub) = Some (Negating kind x secs ds)
starting kind x secs ds _ = None

abbrev pub negating : Qualifier → ℕ → Sections → List Declared → Sign → Option ReadingState
negating kind x secs ds (signs.Number n) = Some (Started kind x (neg_ℤ n) secs ds)
negating kind x secs ds _ = None

-- the name of a definition
abbrev pub after_define : Sections → List Declared → Sign → Option ReadingState
after_define secs ds (signs.Name x) = Some (Defining x secs ds)
after_define secs ds _ = None

-- behind a definition with this value
abbrev pub defined_as : ℕ → ℤ → Sections → List Declared → ReadingState
defined_as x n secs ds = Outside secs (with_declared secs ds x n)

abbrev pub defining : ℕ → Sections → List Declared → Sign → Option ReadingState
defining x secs ds (signs.Number n) = Some (defined_as x n secs ds)
defining x secs ds (signs.Oper Sub) = Some (NegativeDefining x secs ds)
defining x secs ds signs.Open = Some (Enclosing x secs ds)
defining x secs ds _ = None

abbrev pub negative_defining : ℕ → Sections → List Declared → Sign → Option ReadingState
negative_defining x secs ds (signs.Number n) = Some (defined_as x (neg_ℤ n) secs ds)
negative_defining x secs ds _ = None

-- the same in parentheses
abbrev pub enclosing : ℕ → Sections → List Declared → Sign → Option ReadingState
enclosing x secs ds (signs.Number n) = Some (Enclosed x n secs ds)
enclosing x secs ds (signs.Oper Sub) = Some (NegativeEnclosing x secs ds)
enclosing x secs ds _ = None

abbrev pub negative_enclosing : ℕ → Sections → List Declared → Sign → Option ReadingState
negative_enclosing x secs ds (signs.Number n) = Some (Enclosed x (neg_ℤ n) secs ds)
negative_enclosing x secs ds _ = None

abbrev pub in_parameters : Aim → Sign → Option ReadingState
in_parameters aim signs.Void = Some (AfterVoid aim)
in_parameters aim signs.Close = Some (AfterParameters aim)
in_parameters aim _ = None

abbrev pub after_parameters : Aim → Sign → Option ReadingState
after_parameters (ToPrototype secs ds) signs.Semicolon = Some (Outside secs ds)
after_parameters (ToMain ds) signs.LeftBrace = Some (Ready (Top ds Done))
after_parameters _ _ = None

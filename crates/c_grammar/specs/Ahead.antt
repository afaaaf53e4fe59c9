-- What may stand ahead of a reader.
use Rattle.std.specs.Prelude.{ℕ, suc, ◌≤◌, List, [], ◌∷◌}
use Rattle.c_grammar.specs.declared.items.Sign.{Sign}
use Rattle.c_grammar.specs.declared.items.Sign.TheVariants as signs
use Rattle.c_grammar.specs.declared.items.Item.{Item}
use Rattle.c_grammar.specs.Grammar.{tighter, Qualifier, Unqualified, Constant, Counted}
use Rattle.c_grammar.specs.Machine.{Stack, Top, Braces, Yes, No, ThenOf, ElseOf, LoopOf, DoOf}

-- an operator that comes next is not tighter than a level
abbrev pub IsLooser : ℕ → Sign → Type 0
IsLooser k (signs.Oper op) = k ≤ suc (tighter op)
IsLooser k _ = Unit {0}

abbrev pub Loose : ℕ → List Item → Type 0
Loose k [] = Unit {0}
Loose k (x ∷ w) = IsLooser k x.sign

-- the innermost that is open is a list
abbrev pub IsList : Stack → Type 0
IsList (Top ds made) = Unit {0}
IsList (Braces p made outer) = Unit {0}
IsList (Yes links n made outer) = Unit {0}
IsList (No links n first made outer) = Unit {0}
IsList (ThenOf p e outer) = ⊥
IsList (ElseOf p e first outer) = ⊥
IsList (LoopOf start p e advance outer) = ⊥
IsList (DoOf p outer) = ⊥

abbrev pub IsNoElse : Sign → Type 0
IsNoElse signs.Else = ⊥
IsNoElse _ = Unit {0}

abbrev pub NoElse : List Item → Type 0
NoElse [] = Unit {0}
NoElse (x ∷ w) = IsNoElse x.sign

-- what a type declares is not counted
abbrev pub IsHeld : Qualifier → Type 0
IsHeld Unqualified = Unit {0}
IsHeld Constant = Unit {0}
IsHeld (Counted last) = ⊥

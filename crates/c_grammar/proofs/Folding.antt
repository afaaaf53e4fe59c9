-- What is put into the list that is open, or into a declaration in the parentheses of a `for`, once and again.
use Rattle.std.proofs.Common.{◌≡◌, refl, ap}
use Rattle.c_tree.specs.Tree.{Code, Done, Assign, Input, Assert, If, While, Do, Leave, Block, Skip, Cond, followed}
use Rattle.c_grammar.specs.Ahead.{IsList}
use Rattle.c_grammar.specs.Grammar.{Qualifier}
use Rattle.c_grammar.specs.Machine.{Stack, Top, Braces, Yes, No, ThenOf, ElseOf, LoopOf, DoOf, Scope, ListScope, ForScope, is_in_loop, folded, with_declarator, initialising}

-- what comes behind it stands in a loop as before
pub folded-inside : (outer : Stack) (c : Code) → is_in_loop (folded outer c) ≡ is_in_loop outer
folded-inside (Top ds made) c = refl
folded-inside (Braces p made outer) c = refl
folded-inside (Yes links n made outer) c = refl
folded-inside (No links n first made outer) c = refl
folded-inside (ThenOf p e outer) c = refl
folded-inside (ElseOf p e first outer) c = refl
folded-inside (LoopOf start p e advance outer) c = refl
folded-inside (DoOf p outer) c = refl

pub followed-none : (c : Code) → followed c Done ≡ c
followed-none Done = refl
followed-none (Assign p x e rest) = ap (λ (y : Code). Assign p x e y) (followed-none rest)
followed-none (Input p x rest) = ap (λ (y : Code). Input p x y) (followed-none rest)
followed-none (Assert p e rest) = ap (λ (y : Code). Assert p e y) (followed-none rest)
followed-none (If p e a b rest) = ap (λ (y : Code). If p e a b y) (followed-none rest)
followed-none (While p e a b rest) = ap (λ (y : Code). While p e a b y) (followed-none rest)
followed-none (Do p a q e rest) = ap (λ (y : Code). Do p a q e y) (followed-none rest)
followed-none (Leave p j rest) = ap (λ (y : Code). Leave p j y) (followed-none rest)
followed-none (Block p a rest) = ap (λ (y : Code). Block p a y) (followed-none rest)
followed-none (Skip p rest) = ap (λ (y : Code). Skip p y) (followed-none rest)
followed-none (Cond n a b rest) = ap (λ (y : Code). Cond n a b y) (followed-none rest)

pub followed-assoc : (c d e : Code) → followed (followed c d) e ≡ followed c (followed d e)
followed-assoc Done d f = refl
followed-assoc (Assign p x e rest) d f = ap (λ (y : Code). Assign p x e y) (followed-assoc rest d f)
followed-assoc (Input p x rest) d f = ap (λ (y : Code). Input p x y) (followed-assoc rest d f)
followed-assoc (Assert p e rest) d f = ap (λ (y : Code). Assert p e y) (followed-assoc rest d f)
followed-assoc (If p e a b rest) d f = ap (λ (y : Code). If p e a b y) (followed-assoc rest d f)
followed-assoc (While p e a b rest) d f = ap (λ (y : Code). While p e a b y) (followed-assoc rest d f)
followed-assoc (Do p a q e rest) d f = ap (λ (y : Code). Do p a q e y) (followed-assoc rest d f)
followed-assoc (Leave p j rest) d f = ap (λ (y : Code). Leave p j y) (followed-assoc rest d f)
followed-assoc (Block p a rest) d f = ap (λ (y : Code). Block p a y) (followed-assoc rest d f)
followed-assoc (Skip p rest) d f = ap (λ (y : Code). Skip p y) (followed-assoc rest d f)
followed-assoc (Cond n a b rest) d f = ap (λ (y : Code). Cond n a b y) (followed-assoc rest d f)

pub folded-none : (outer : Stack) → IsList outer → folded outer Done ≡ outer
folded-none (Top ds made) is = ap (Top ds) (followed-none made)
folded-none (Braces p made outer) is = ap (λ (y : Code). Braces p y outer) (followed-none made)
folded-none (Yes links n made outer) is = ap (λ (y : Code). Yes links n y outer) (followed-none made)
folded-none (No links n first made outer) is = ap (λ (y : Code). No links n first y outer) (followed-none made)
folded-none (ThenOf p e outer) is = absurd is
folded-none (ElseOf p e first outer) is = absurd is
folded-none (LoopOf start p e advance outer) is = absurd is
folded-none (DoOf p outer) is = absurd is

pub folded-twice : (outer : Stack) (c d : Code) → IsList outer → folded (folded outer c) d ≡ folded outer (followed c d)
folded-twice (Top ds made) c d is = ap (Top ds) (followed-assoc made c d)
folded-twice (Braces p made outer) c d is = ap (λ (y : Code). Braces p y outer) (followed-assoc made c d)
folded-twice (Yes links n made outer) c d is = ap (λ (y : Code). Yes links n y outer) (followed-assoc made c d)
folded-twice (No links n first made outer) c d is = ap (λ (y : Code). No links n first y outer) (followed-assoc made c d)
folded-twice (ThenOf p e outer) c d is = absurd is
folded-twice (ElseOf p e first outer) c d is = absurd is
folded-twice (LoopOf start p e advance outer) c d is = absurd is
folded-twice (DoOf p outer) c d is = absurd is

pub folded-list : (outer : Stack) (c : Code) → IsList outer → IsList (folded outer c)
folded-list (Top ds made) c is = tt
folded-list (Braces p made outer) c is = tt
folded-list (Yes links n made outer) c is = tt
folded-list (No links n first made outer) c is = tt
folded-list (ThenOf p e outer) c is = absurd is
folded-list (ElseOf p e first outer) c is = absurd is
folded-list (LoopOf start p e advance outer) c is = absurd is
folded-list (DoOf p outer) c is = absurd is

-- ---- declarations

-- where a declaration stands in a list, a list is the innermost that is open
abbrev pub IsScope : Scope → Type 0
IsScope (ListScope outer) = IsList outer
IsScope (ForScope p made outer) = Unit {0}

pub declared-scope : (scope : Scope) (c : Code) → IsScope scope → IsScope (with_declarator scope c)
declared-scope (ListScope outer) c is = folded-list outer c is
declared-scope (ForScope p made outer) c is = tt

pub declared-twice : (scope : Scope) (c d : Code) → IsScope scope → with_declarator (with_declarator scope c) d ≡ with_declarator scope (followed c d)
declared-twice (ListScope outer) c d is = ap ListScope (folded-twice outer c d is)
declared-twice (ForScope p made outer) c d is = ap (λ (y : Code). ForScope p y outer) (followed-assoc made c d)

-- the declarators that come behind one are of its kind
pub declared-kind : (scope : Scope) (c : Code) (kind held : Qualifier) → initialising scope kind ≡ held → initialising (with_declarator scope c) held ≡ held
declared-kind (ListScope outer) c kind held is = refl
declared-kind (ForScope p made outer) c kind held is = is

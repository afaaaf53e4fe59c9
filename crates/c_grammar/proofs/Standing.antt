-- What the items that were read so far were, by what is open.
use Rattle.std.proofs.Common.{◌≡◌, ℕ, ℤ, suc, ◌<◌, Bool, true, false, List, [], ◌∷◌, ◌++◌}
use Rattle.fam_outer.specs.declared.faults.Place.{Place}
use Rattle.c_tree.specs.declared.tree.Op.TheVariants.{Sub}
use Rattle.c_tree.specs.declared.lists.Declared.{Declared}
use Rattle.c_tree.specs.Tree.{Term, Code, Done, followed}
use Rattle.c_grammar.specs.declared.items.Sign.{Sign}
use Rattle.c_grammar.specs.declared.items.Sign.TheVariants as signs
use Rattle.c_grammar.specs.declared.items.Item.{Item}
use Rattle.c_grammar.specs.Ahead.{IsList, IsHeld}
use Rattle.c_grammar.specs.Grammar.{at, tighter, prefix_sign, Expresses, update_sign, count_sign, Callable, Changes, Clause, Tests, Listed, Stated, Locals, LocalDeclarator, Writes, Optional, Typed, Qualifier, Unqualified, Constant, Counted, Qualified, Begins, Declarator, Defines, with_true, with_false, Outer, Vars, Later, Declares, Gaps, GapRest, Empty, Body, Main, File, file_of, Forms}
use Rattle.c_grammar.specs.Machine.{Tailing, Another, Final, Frame, Paren, Pre, Left, room, Stack, Top, Braces, Yes, No, ThenOf, ElseOf, LoopOf, DoOf, Start, ChangeStart, DeclaredStart, Onward, InList, AtTest, Scope, ListScope, ForScope, Site, AsStatement, AsStart, AsStep, Use, ToAssign, ToInitialise, ToUpdate, ToAssert, ToChoose, ToLoop, ToRepeat, ToRedo, ToReturn, Pending, OfStatement, OfLocal, Sections, Outermost, InPart, InLast, guards_of, Aim, ToPrototype, ToMain, ReadingState, Outside, AfterStatic, AfterExtern, AfterConst, AfterEnum, AfterVoidType, AfterType, Leading, NoWord, StaticWord, ExternWord, ConstWord, TypeWords, OneInt, OneSigned, WholeType, Declaring, Bare, Starting, Negating, Started, Listing, Enumerated, AfterDefine, Defining, NegativeDefining, Enclosing, NegativeEnclosing, Enclosed, Parameters, InParameters, AfterVoid, AfterParameters, Ready, LocalConst, LocalType, NextLocal, LocalNamed, Ended, Wants, Has, Counting, Named, Opens, ForOpens, StartComes, TestComes, StepComes, RedoOpens, RedoComes, VoidComes, VoidCloses, CallComes, CallOpens, CallCloses, Finishing, Over, is_in_loop, folded, initialising, InStatic, BehindStatic, BehindStaticConst, BehindStaticType, BeforeStaticName, BehindStaticName, BehindStaticEquals, BehindStaticMinus, BehindStaticNumber, StaticPart}

-- the parts of a group before this one, and its directive, in the body of a loop or not
abbrev pub Begun : Bool → List (ℕ × Code) → ℕ → List Item → Type 0
Begun i [] n a = (p : Place) × (a ≡ at p (signs.GroupIf n) ∷ [])
Begun i (l ∷ links) n a = (p : Place) × (b ts : List Item) × Begun i links l.0 b × Writes (Listed i) ts l.1 × (a ≡ b ++ (ts ++ at p (signs.GroupElif n) ∷ []))

-- the items of a file up to the body of `main`, with its declarators
abbrev pub Headed : List Item → List Declared → Type 0
Headed b ds = (us : List Item) (c : Code) (q : Place) → Body us c q → Forms (b ++ us) (file_of ds c q)

-- what of a `for` stands before its first test, with what it does there
pub data StartHead : Start → List Item → Type 0 where
  change_head : (p q r : Place) {ts : List Item} {c : Code} → Clause ts c → StartHead (ChangeStart c) (at p signs.For ∷ at q signs.Open ∷ (ts ++ at r signs.Semicolon ∷ []))
  declaration_head : (p q : Place) {ts us : List Item} {c : Code} {kind : Qualifier} → Qualified kind ts → Writes (Locals Constant) us c → StartHead (DeclaredStart p c) (at p signs.For ∷ at q signs.Open ∷ (ts ++ us))

-- what stands before the body of a loop, with what it does before its first test, its place, its test and its step
pub data LoopHead : Start → Place → Term → Code → List Item → Type 0 where
  while_head : (p q r : Place) {ts : List Item} {e : Term} → Expresses 6 ts e → LoopHead (ChangeStart Done) p e Done (at p signs.While ∷ at q signs.Open ∷ (ts ++ at r signs.Close ∷ []))
  for_head : (s : Place) {ts us vs : List Item} {start : Start} {advance : Code} {t : Place} {e : Term} → StartHead start ts → Tests us t e → Clause vs advance → LoopHead start t e advance (ts ++ (us ++ (vs ++ at s signs.Close ∷ [])))

abbrev pub Read : Stack → List Item → Type 0
Read (Top ds made) a = (b ts : List Item) × Headed b ds × Writes (Listed false) ts made × (a ≡ b ++ ts)
Read (Braces p made outer) a = (b ts : List Item) × Read outer b × Writes (Listed (is_in_loop outer)) ts made × (a ≡ b ++ (at p signs.LeftBrace ∷ ts))
Read (Yes links n made outer) a = (b us ts : List Item) × Read outer b × IsList outer × Begun (is_in_loop outer) links n us × Writes (Listed (is_in_loop outer)) ts made × (a ≡ b ++ (us ++ ts))
Read (No links n first made outer) a = (b us vs ts : List Item) × (p : Place) × Read outer b × IsList outer × Begun (is_in_loop outer) links n us × Writes (Listed (is_in_loop outer)) vs first × Writes (Listed (is_in_loop outer)) ts made × (a ≡ b ++ (us ++ (vs ++ at p signs.GroupElse ∷ ts)))
Read (ThenOf p e outer) a = (q r : Place) × (b ts : List Item) × Read outer b × Expresses 6 ts e × (a ≡ b ++ (at p signs.If ∷ at q signs.Open ∷ (ts ++ at r signs.Close ∷ [])))
Read (ElseOf p e first outer) a = (q r z : Place) × (b ts us : List Item) × Read outer b × Expresses 6 ts e × Writes (Stated (is_in_loop outer) false) us first × (a ≡ b ++ (at p signs.If ∷ at q signs.Open ∷ (ts ++ at r signs.Close ∷ (us ++ at z signs.Else ∷ []))))
Read (LoopOf start p e advance outer) a = (b ts : List Item) × Read outer b × LoopHead start p e advance ts × (a ≡ b ++ ts)
Read (DoOf p outer) a = (b : List Item) × Read outer b × (a ≡ b ++ at p signs.Do ∷ [])

-- behind the body of a `do`; behind its `while`; before its test
abbrev pub BehindBody : Place → Code → Stack → List Item → Type 0
BehindBody p c outer a = (b ts : List Item) × (d : Bool) × Read outer b × Writes (Stated true d) ts c × (a ≡ b ++ at p signs.Do ∷ ts)

abbrev pub BehindWhile : Place → Code → Stack → List Item → Type 0
BehindWhile p c outer a = (q : Place) × (b ts : List Item) × (d : Bool) × Read outer b × Writes (Stated true d) ts c × (a ≡ b ++ at p signs.Do ∷ (ts ++ at q signs.While ∷ []))

abbrev pub InRedo : Place → Code → Stack → List Item → Type 0
InRedo p c outer a = (q r : Place) × (b ts : List Item) × (d : Bool) × Read outer b × Writes (Stated true d) ts c × (a ≡ b ++ at p signs.Do ∷ (ts ++ at q signs.While ∷ at r signs.Open ∷ []))

-- behind a statement, where no `else` comes
abbrev pub StandsOn : Onward → List Item → Type 0
StandsOn (InList outer) a = Read outer a
StandsOn (AtTest p c outer) a = BehindBody p c outer a

-- in the parentheses of a `for`: before what stands before its first test; before its test; behind its test
abbrev pub InStart : Place → Stack → List Item → Type 0
InStart p outer a = (q : Place) × (b : List Item) × Read outer b × (a ≡ b ++ (at p signs.For ∷ at q signs.Open ∷ []))

abbrev pub InTest : Start → Stack → List Item → Type 0
InTest start outer a = (b ts : List Item) × Read outer b × StartHead start ts × (a ≡ b ++ ts)

abbrev pub InStep : Start → Place → Term → Stack → List Item → Type 0
InStep start t e outer a = (b ts us : List Item) × Read outer b × StartHead start ts × Tests us t e × (a ≡ b ++ (ts ++ us))

-- before a change
abbrev pub AtSite : Site → List Item → Type 0
AtSite (AsStatement outer) a = Read outer a
AtSite (AsStart outer) a = (p : Place) × InStart p outer a
AtSite (AsStep start p e outer) a = InStep start p e outer a

-- before a declaration in `main`
abbrev pub BeforeDeclaration : Scope → List Item → Type 0
BeforeDeclaration (ListScope outer) a = Read outer a × IsList outer
BeforeDeclaration (ForScope p made outer) a = InStart p outer a × (made ≡ Done)

-- a declaration in a list up to a name: the stack before it and its items, what its declarators so far make, and that those which may
-- come next make a list with them
pub record InListDeclaration (kind : Qualifier) (outer : Stack) (a : List Item) : Type 0 where
  pub before : Stack
  pub start : List Item
  pub made : Code
  pub text : List Item
  pub is_read : Read before start
  pub is_list : IsList before
  pub folds : outer ≡ folded before made
  pub goes_on : (ts : List Item) (c : Code) → Writes (Locals kind) ts c → Writes (Listed (is_in_loop before)) (text ++ ts) (followed made c)
  pub parts : a ≡ start ++ text

-- the same in the parentheses of a `for` at this place: its type, and its declarators so far, with what they make
pub record InForDeclaration (p : Place) (made : Code) (outer : Stack) (a : List Item) : Type 0 where
  pub paren : Place
  pub kind : Qualifier
  pub start : List Item
  pub words : List Item
  pub text : List Item
  pub is_read : Read outer start
  pub is_qualified : Qualified kind words
  pub goes_on : (ts : List Item) (c : Code) → Writes (Locals Constant) ts c → Writes (Locals Constant) (text ++ ts) (followed made c)
  pub parts : a ≡ start ++ (at p signs.For ∷ at paren signs.Open ∷ (words ++ text))

abbrev pub InDeclaration : Qualifier → Scope → List Item → Type 0
InDeclaration kind (ListScope outer) a = InListDeclaration kind outer a
InDeclaration kind (ForScope p made outer) a = InForDeclaration p made outer a

abbrev pub Used : Use → List Item → Type 0
Used (ToAssign p x site) a = (q : Place) × (b : List Item) × AtSite site b × (a ≡ b ++ (at p (signs.Name x) ∷ at q signs.Equals ∷ []))
Used (ToInitialise kind p x scope) a = (q : Place) × (b : List Item) × InDeclaration kind scope b × (a ≡ b ++ (at p (signs.Name x) ∷ at q signs.Equals ∷ []))
Used (ToUpdate p x u site) a = (q : Place) × (b : List Item) × AtSite site b × (a ≡ b ++ (at p (signs.Name x) ∷ at q (update_sign u) ∷ []))
Used (ToAssert p outer) a = (q : Place) × (b : List Item) × Read outer b × (a ≡ b ++ (at p signs.Assert ∷ at q signs.Open ∷ []))
Used (ToChoose p outer) a = (q : Place) × (b : List Item) × Read outer b × (a ≡ b ++ (at p signs.If ∷ at q signs.Open ∷ []))
Used (ToLoop p outer) a = (q : Place) × (b : List Item) × Read outer b × (a ≡ b ++ (at p signs.While ∷ at q signs.Open ∷ []))
Used (ToRepeat start p outer) a = InTest start outer a
Used (ToRedo p c q outer) a = InRedo p c outer a
Used (ToReturn p outer) a = (b : List Item) × Read outer b × (a ≡ b ++ at p signs.Return ∷ [])

abbrev pub UsedAt : Use → List Item → Type 0
UsedAt (ToAssign p x site) a = ⊥
UsedAt (ToInitialise kind p x scope) a = ⊥
UsedAt (ToUpdate p x u site) a = ⊥
UsedAt (ToAssert p outer) a = (b : List Item) × Read outer b × (a ≡ b ++ at p signs.Assert ∷ [])
UsedAt (ToChoose p outer) a = (b : List Item) × Read outer b × (a ≡ b ++ at p signs.If ∷ [])
UsedAt (ToLoop p outer) a = (b : List Item) × Read outer b × (a ≡ b ++ at p signs.While ∷ [])
UsedAt (ToRepeat start p outer) a = ⊥
UsedAt (ToRedo p c q outer) a = ⊥
UsedAt (ToReturn p outer) a = ⊥

-- the first item has this place
abbrev pub StartsAt : Place → List Item → Type 0
StartsAt p [] = ⊥
StartsAt p (x ∷ w) = x.place ≡ p

-- the test of a `for` starts at the place of its loop, and that of a `do` at its own
abbrev pub Starts : Use → List Item → Type 0
Starts (ToRepeat start p outer) ts = StartsAt p ts
Starts (ToRedo p c q outer) ts = StartsAt q ts
Starts _ ts = Unit {0}

-- these items of an expression are its first where no frame stands before them
abbrev pub Leads : Use → List Frame → List Item → Type 0
Leads u [] ts = Starts u ts
Leads u (f ∷ fs) ts = Unit {0}

abbrev pub Framed : Use → List Frame → List Item → Type 0
Framed u [] a = Used u a
Framed u (Paren ∷ fs) a = (p : Place) × (b : List Item) × Framed u fs b × Leads u fs (at p signs.Open ∷ []) × (a ≡ b ++ at p signs.Open ∷ [])
Framed u (Pre v ∷ fs) a = (p : Place) × (b : List Item) × Framed u fs b × Leads u fs (at p (prefix_sign v) ∷ []) × (a ≡ b ++ at p (prefix_sign v) ∷ [])
Framed u (Left op x ∷ fs) a = (p : Place) × (b us : List Item) × Framed u fs b × Leads u fs us × Expresses (suc (tighter op)) us x × (tighter op < room fs) × (a ≡ b ++ (us ++ at p (signs.Oper op) ∷ []))

-- what stands before what is pending, and its own items
abbrev pub StandsBefore : Pending → List Item → Type 0
StandsBefore (OfStatement site c) b = AtSite site b
StandsBefore (OfLocal kind scope c) b = InDeclaration kind scope b

-- a statement but for its semicolon, or a change in a `for`
abbrev pub PendsAt : Site → Code → List Item → Type 0
PendsAt (AsStatement outer) c ts = (s : Place) → Writes (Stated (is_in_loop outer) false) (ts ++ at s signs.Semicolon ∷ []) c
PendsAt (AsStart outer) c ts = Changes ts c
PendsAt (AsStep start p e outer) c ts = Changes ts c

abbrev pub Pends : Pending → List Item → Type 0
Pends (OfStatement site c) ts = PendsAt site c ts
Pends (OfLocal kind scope c) ts = LocalDeclarator (initialising scope kind) ts c

-- what is put into the stack: in a list any list, elsewhere one statement
abbrev pub Piece : Bool → Stack → List Item → Code → Type 0
Piece d (Top ds made) ts c = Writes (Listed false) ts c
Piece d (Braces p made outer) ts c = Writes (Listed (is_in_loop outer)) ts c
Piece d (Yes links n made outer) ts c = Writes (Listed (is_in_loop outer)) ts c
Piece d (No links n first made outer) ts c = Writes (Listed (is_in_loop outer)) ts c
Piece d (ThenOf p e outer) ts c = Writes (Stated (is_in_loop outer) d) ts c
Piece d (ElseOf p e first outer) ts c = Writes (Stated (is_in_loop outer) d) ts c
Piece d (LoopOf start p e advance outer) ts c = Writes (Stated true d) ts c
Piece d (DoOf p outer) ts c = Writes (Stated true d) ts c

-- ---- what may come next

-- each text that may come next makes a file with what was read so far
abbrev pub Follows : List Item → (List Item → File → Type 0) → Type 0
Follows a P = (w : List Item) (f : File) → P w f → Forms (a ++ w) f

-- the rest of a file from where a declaration may begin
abbrev pub Tail : Sections → List Declared → List Item → File → Type 0
Tail Outermost ds w f = (ts us : List Item) × (es : List Declared) × (c : Code) × (q : Place) × Declares (Outer []) ts es × Main us c q × (w ≡ ts ++ us) × (f ≡ file_of (ds ++ es) c q)
Tail (InPart gs n outer) ds w f = (ts vs us : List Item) × (es fs : List Declared) × Declares (Outer (with_true gs n)) ts es × Declares (Later (with_false gs n)) vs fs × Tail outer (ds ++ (es ++ fs)) us f × (w ≡ ts ++ (vs ++ us))
Tail (InLast gs outer) ds w f = (ts us : List Item) × (es : List Declared) × (q : Place) × Declares (Outer gs) ts es × Tail outer (ds ++ es) us f × (w ≡ ts ++ at q signs.GroupEnd ∷ us)

abbrev pub VarsTail : Qualifier → Sections → List Declared → List Item → File → Type 0
VarsTail kind secs ds w f = (ts us : List Item) × (es : List Declared) × Declares (Vars kind (guards_of secs)) ts es × Tail secs (ds ++ es) us f × (w ≡ ts ++ us)

abbrev pub StartedTail : Qualifier → ℕ → ℤ → Sections → List Declared → List Item → File → Type 0
StartedTail kind x n secs ds w f = (us : List Item) → Declarator kind us x n → VarsTail kind secs ds (us ++ w) f

-- the rest of a file from where the parentheses of a definition are closed
abbrev pub EnclosedTail : ℕ → ℤ → Sections → List Declared → List Item → File → Type 0
EnclosedTail x n secs ds w f = (us : List Item) → ((p : Place) → Defines (us ++ at p signs.Close ∷ []) x n) → Tail secs ds (us ++ w) f

-- the words of a type so far
pub data Words : TypeWords → List Item → Type 0 where
  one_int : (p : Place) → Words OneInt (at p signs.Int ∷ [])
  one_signed : (p : Place) → Words OneSigned (at p signs.Signed ∷ [])
  whole_type : {us : List Item} → Typed us → Words WholeType us

-- the same in `main`, perhaps behind `const`
pub data LocalWords : Qualifier → TypeWords → List Item → Type 0 where
  variable_words : {t : TypeWords} {us : List Item} → Words t us → LocalWords Unqualified t us
  constant_words : (p : Place) {t : TypeWords} {us : List Item} → Words t us → LocalWords Constant t (at p signs.Const ∷ us)

-- where a declarator of a static declaration in `main` may begin: the list around it, and what of the declaration is read
pub record InStaticDeclaration (kind : Qualifier) (outer : Stack) (a : List Item) : Type 0 where
  pub start : List Item
  pub text : List Item
  pub is_read : Read outer start
  pub is_list : IsList outer
  pub is_held : IsHeld kind
  pub goes_on : (ts : List Item) (ds : List Declared) → Declares (Vars kind []) ts ds → Writes (Listed (is_in_loop outer)) (text ++ ts) Done
  pub parts : a ≡ start ++ text

-- what of a static declaration in `main` is read
abbrev pub StandsStatic : StaticPart → Stack → List Item → Type 0
StandsStatic BehindStatic outer a = (p : Place) × (b : List Item) × Read outer b × IsList outer × (a ≡ b ++ at p signs.Static ∷ [])
StandsStatic BehindStaticConst outer a = (p q : Place) × (b : List Item) × Read outer b × IsList outer × (a ≡ b ++ (at p signs.Static ∷ at q signs.Const ∷ []))
StandsStatic (BehindStaticType kind words) outer a = (p : Place) × (b us : List Item) × Read outer b × IsList outer × LocalWords kind words us × (a ≡ b ++ at p signs.Static ∷ us)
StandsStatic (BeforeStaticName kind) outer a = InStaticDeclaration kind outer a
StandsStatic (BehindStaticName kind) outer a = (p : Place) × (x : ℕ) × (b : List Item) × InStaticDeclaration kind outer b × (a ≡ b ++ at p (signs.Name x) ∷ [])
StandsStatic (BehindStaticEquals kind) outer a = (p q : Place) × (x : ℕ) × (b : List Item) × InStaticDeclaration kind outer b × (a ≡ b ++ (at p (signs.Name x) ∷ at q signs.Equals ∷ []))
StandsStatic (BehindStaticMinus kind) outer a = (p q r : Place) × (x : ℕ) × (b : List Item) × InStaticDeclaration kind outer b × (a ≡ b ++ (at p (signs.Name x) ∷ at q signs.Equals ∷ at r (signs.Oper Sub) ∷ []))
StandsStatic (BehindStaticNumber kind) outer a = (b ts : List Item) × (x : ℕ) × (n : ℤ) × InStaticDeclaration kind outer b × Declarator kind ts x n × (a ≡ b ++ ts)

-- `const`, perhaps behind `static`
pub data Consts : List Item → Type 0 where
  const_alone : (p : Place) → Consts (at p signs.Const ∷ [])
  static_const : (p q : Place) → Consts (at p signs.Static ∷ at q signs.Const ∷ [])

-- the same, with what stands before them
pub data Led : Leading → TypeWords → List Item → Type 0 where
  no_word : {t : TypeWords} {us : List Item} → Words t us → Led NoWord t us
  static_word : (p : Place) {t : TypeWords} {us : List Item} → Words t us → Led StaticWord t (at p signs.Static ∷ us)
  extern_word : (p : Place) {t : TypeWords} {us : List Item} → Words t us → Led ExternWord t (at p signs.Extern ∷ us)
  const_word : {t : TypeWords} {us vs : List Item} → Consts us → Words t vs → Led ConstWord t (us ++ vs)

-- what stands before the parentheses in a declaration of a function
pub data Heads : List Item → Type 0 where
  value_head : (q : Place) {f : Sign} {us : List Item} → Begins signs.Extern Unqualified us → Callable f → Heads (us ++ at q f ∷ [])
  void_head : (p q : Place) (k : ℕ) {us : List Item} → Optional signs.Extern us → Heads (us ++ at p signs.Void ∷ at q (signs.Function k) ∷ [])

abbrev pub ParametersTail : Aim → List Item → File → Type 0
ParametersTail (ToPrototype secs ds) w f = (us : List Item) → Heads us → Tail secs ds (us ++ w) f
ParametersTail (ToMain ds) w f = (q : Place) (us : List Item) → Typed us → Tail Outermost ds (us ++ at q signs.Main ∷ w) f

-- the rest of a file behind `main`
abbrev pub Trailing : List Tailing → List Item → Type 0
Trailing [] w = Empty Gaps w
Trailing (Another k ∷ parts) w = (ts vs us : List Item) × Empty Gaps ts × Empty GapRest vs × Trailing parts us × (w ≡ ts ++ (vs ++ us))
Trailing (Final k ∷ parts) w = (ts us : List Item) × (q : Place) × Empty Gaps ts × Trailing parts us × (w ≡ ts ++ at q signs.GroupEnd ∷ us)

-- ---- what the items read so far were, by the state

abbrev pub Stands : ReadingState → List Item → Type 0
Stands (Outside secs ds) a = Follows a (Tail secs ds)
Stands (AfterStatic secs ds) a = Follows a (λ w f. (p : Place) → Tail secs ds (at p signs.Static ∷ w) f)
Stands (AfterExtern secs ds) a = Follows a (λ w f. (p : Place) → Tail secs ds (at p signs.Extern ∷ w) f)
Stands (AfterConst secs ds) a = Follows a (λ w f. (us : List Item) → Consts us → Tail secs ds (us ++ w) f)
Stands (AfterEnum secs ds) a = Follows a (λ w f. (p : Place) → Tail secs ds (at p signs.Enum ∷ w) f)
Stands (AfterVoidType secs ds) a = Follows a (λ w f. (p : Place) (us : List Item) → Optional signs.Extern us → Tail secs ds (us ++ at p signs.Void ∷ w) f)
Stands (AfterType lead words secs ds) a = Follows a (λ w f. (us : List Item) → Led lead words us → Tail secs ds (us ++ w) f)
Stands (Declaring kind secs ds) a = Follows a (VarsTail kind secs ds)
Stands (Bare kind x secs ds) a = Follows a (λ w f. (p : Place) → VarsTail kind secs ds (at p (signs.Name x) ∷ w) f)
Stands (Starting kind x secs ds) a = Follows a (λ w f. (p q : Place) → VarsTail kind secs ds (at p (signs.Name x) ∷ at q signs.Equals ∷ w) f)
Stands (Negating kind x secs ds) a = Follows a (λ w f. (p q r : Place) → VarsTail kind secs ds (at p (signs.Name x) ∷ at q signs.Equals ∷ at r (signs.Oper Sub) ∷ w) f)
Stands (Started kind x n secs ds) a = Follows a (StartedTail kind x n secs ds)
Stands (Listing last secs ds) a = Follows a (VarsTail (Counted last) secs ds) × ((p q : Place) (w : List Item) (f : File) → Tail secs ds w f → Forms (a ++ at p signs.RightBrace ∷ at q signs.Semicolon ∷ w) f)
Stands (Enumerated secs ds) a = (q : Place) (w : List Item) (f : File) → Tail secs ds w f → Forms (a ++ at q signs.Semicolon ∷ w) f
Stands (AfterDefine secs ds) a = Follows a (λ w f. (p : Place) → Tail secs ds (at p signs.Define ∷ w) f)
Stands (Defining x secs ds) a = Follows a (λ w f. (p q : Place) → Tail secs ds (at p signs.Define ∷ at q (signs.Name x) ∷ w) f)
Stands (NegativeDefining x secs ds) a = Follows a (λ w f. (p q r : Place) → Tail secs ds (at p signs.Define ∷ at q (signs.Name x) ∷ at r (signs.Oper Sub) ∷ w) f)
Stands (Enclosing x secs ds) a = Follows a (λ w f. (p q r : Place) → Tail secs ds (at p signs.Define ∷ at q (signs.Name x) ∷ at r signs.Open ∷ w) f)
Stands (NegativeEnclosing x secs ds) a = Follows a (λ w f. (p q r s : Place) → Tail secs ds (at p signs.Define ∷ at q (signs.Name x) ∷ at r signs.Open ∷ at s (signs.Oper Sub) ∷ w) f)
Stands (Enclosed x n secs ds) a = Follows a (EnclosedTail x n secs ds)
Stands (Parameters aim) a = Follows a (ParametersTail aim)
Stands (InParameters aim) a = Follows a (λ w f. (r : Place) → ParametersTail aim (at r signs.Open ∷ w) f)
Stands (AfterVoid aim) a = Follows a (λ w f. (r t : Place) → ParametersTail aim (at r signs.Open ∷ at t signs.Void ∷ w) f)
Stands (AfterParameters aim) a = Follows a (λ w f. (r s : Place) (us : List Item) → Optional signs.Void us → ParametersTail aim (at r signs.Open ∷ (us ++ at s signs.Close ∷ w)) f)
Stands (Ready outer) a = Read outer a
Stands (LocalConst scope) a = (p : Place) × (b : List Item) × BeforeDeclaration scope b × (a ≡ b ++ at p signs.Const ∷ [])
Stands (LocalType kind words scope) a = (b us : List Item) × BeforeDeclaration scope b × LocalWords kind words us × (a ≡ b ++ us)
Stands (NextLocal kind scope) a = InDeclaration kind scope a
Stands (LocalNamed kind p x scope) a = (b : List Item) × InDeclaration kind scope b × (initialising scope kind ≡ kind) × (a ≡ b ++ at p (signs.Name x) ∷ [])
Stands (InStatic part outer) a = StandsStatic part outer a
Stands (Ended outer c) a = (b ts : List Item) × Read outer b × Piece false outer ts c × (a ≡ b ++ ts)
Stands (Wants fs u) a = Framed u fs a × ((p : Place) (s : Sign) → Leads u fs (at p s ∷ []))
Stands (Has fs u e) a = (b ts : List Item) × Framed u fs b × Leads u fs ts × Expresses 0 ts e × (a ≡ b ++ ts)
Stands (Counting p u site) a = (b : List Item) × AtSite site b × (a ≡ b ++ at p (count_sign u) ∷ [])
Stands (Named p x site) a = (b : List Item) × AtSite site b × (a ≡ b ++ at p (signs.Name x) ∷ [])
Stands (Opens u) a = UsedAt u a
Stands (ForOpens p outer) a = (b : List Item) × Read outer b × (a ≡ b ++ at p signs.For ∷ [])
Stands (StartComes p outer) a = InStart p outer a
Stands (TestComes start outer) a = InTest start outer a
Stands (StepComes start p e outer) a = InStep start p e outer a
Stands (RedoOpens p c outer) a = BehindWhile p c outer a
Stands (RedoComes p c outer) a = InRedo p c outer a
Stands (VoidComes p outer) a = (b : List Item) × Read outer b × (a ≡ b ++ at p signs.Open ∷ [])
Stands (VoidCloses p outer) a = (q : Place) × (b : List Item) × Read outer b × (a ≡ b ++ (at p signs.Open ∷ at q signs.Void ∷ []))
Stands (CallComes p outer) a = (q r : Place) × (b : List Item) × Read outer b × (a ≡ b ++ (at p signs.Open ∷ at q signs.Void ∷ at r signs.Close ∷ []))
Stands (CallOpens made) a = (b ts : List Item) × StandsBefore made b × ((q r : Place) → Pends made (ts ++ at q signs.Open ∷ at r signs.Close ∷ [])) × (a ≡ b ++ ts)
Stands (CallCloses made) a = (b ts : List Item) × StandsBefore made b × ((q : Place) → Pends made (ts ++ at q signs.Close ∷ [])) × (a ≡ b ++ ts)
Stands (Finishing made) a = (b ts : List Item) × StandsBefore made b × Pends made ts × (a ≡ b ++ ts)
Stands (Over f parts) a = (w : List Item) → Trailing parts w → Forms (a ++ w) f

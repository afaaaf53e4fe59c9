-- Statements and declarations are put where they belong.
use Rattle.std.proofs.Common.{◌≡◌, Bool, true, false, List, [], ◌∷◌, ◌++◌, refl, sym, ap, subst, ◌∙◌, append_assoc}
use Rattle.std.specs.Prelude.{IfSome}
use Rattle.std.proofs.lemmas.List.{append-nil}
use Rattle.fam_outer.specs.declared.faults.Place.{Place}
use Rattle.c_tree.specs.Tree.{Term, Code, Done, If, While, Block, Cond, followed}
use Rattle.c_grammar.specs.declared.items.Sign.TheVariants as signs
use Rattle.c_grammar.specs.declared.items.Item.{Item}
use Rattle.c_grammar.specs.Ahead.{IsList}
use Rattle.c_grammar.specs.Grammar.{at, Listed, Stated, Locals, Qualifier, Constant, Qualified, LocalDeclarator, Changes, clause, Writes, none, more, choice, local, static_local, last_local, next_local, change, while, for, declaring_for, if_then, if_else}
use Rattle.c_grammar.specs.Machine.{Stack, Top, Braces, Yes, No, ThenOf, ElseOf, LoopOf, DoOf, Start, Scope, ListScope, ForScope, Site, AsStatement, AsStart, AsStep, is_in_loop, folded, with_declarator, behind_declaration, initialising, started_by, placed, ended_change, closed_change}
use Rattle.c_grammar.proofs.Standing.{change_head, declaration_head, LoopHead, while_head, for_head, Read, AtSite, BeforeDeclaration, InDeclaration, PendsAt, Piece, StandsOn, Stands}
use Rattle.c_grammar.proofs.Folding.{followed-none, followed-assoc, folded-none, folded-twice}

single : {d : Bool} {ts : List Item} {c : Code} {i : Bool} → Writes (Stated i d) ts c → Writes (Listed i) ts c
single {d} {ts} {c} {i} s =
    let h : Writes (Listed i) (ts ++ []) (followed c Done) = more s none in
    subst (λ (y : List Item). Writes (Listed i) y c) (append-nil ts) (subst (λ (y : Code). Writes (Listed i) (ts ++ []) y) (followed-none c) h)

pub joined : {ts us : List Item} {c d : Code} {i : Bool} → Writes (Listed i) ts c → Writes (Listed i) us d → Writes (Listed i) (ts ++ us) (followed c d)
joined none t = t
joined {us = us} {d = d} {i = i} (more {b} {ts = ts} {us = vs} {c} {d = e} s l) t =
    subst (λ (y : Code). Writes (Listed i) ((ts ++ vs) ++ us) y) (sym (followed-assoc c e d)) (subst (λ (y : List Item). Writes (Listed i) y (followed c (followed e d))) (sym (append_assoc ts vs us)) (more s (joined l t)))
joined {us = us} {d = d} {i = i} (choice p n {ts = ts} {us = vs} {vs = ws} {c} {d = e} {e = f} s t l) m =
    let is : (ts ++ (vs ++ ws)) ++ us ≡ ts ++ (vs ++ (ws ++ us)) = append_assoc ts (vs ++ ws) us ∙ ap (λ (x : List Item). ts ++ x) (append_assoc vs ws us) in
    subst (λ (y : List Item). Writes (Listed i) (at p (signs.GroupIf n) ∷ y) (Cond n c e (followed f d))) (sym is) (choice p n s t (joined l m))
joined {us = us} {d = d} {i = i} (local {ts = ts} {us = vs} {vs = ws} {c} {d = e} q s l) t =
    let is : (ts ++ (vs ++ ws)) ++ us ≡ ts ++ (vs ++ (ws ++ us)) = append_assoc ts (vs ++ ws) us ∙ ap (λ (x : List Item). ts ++ x) (append_assoc vs ws us) in
    subst (λ (y : Code). Writes (Listed i) ((ts ++ (vs ++ ws)) ++ us) y) (sym (followed-assoc c e d)) (subst (λ (y : List Item). Writes (Listed i) y (followed c (followed e d))) (sym is) (local q s (joined l t)))
joined {us = us} {d = d} {i = i} (static_local p {ts = ts} {us = vs} {vs = ws} {c} q v l) t =
    let is : (ts ++ (vs ++ ws)) ++ us ≡ ts ++ (vs ++ (ws ++ us)) = append_assoc ts (vs ++ ws) us ∙ ap (λ (x : List Item). ts ++ x) (append_assoc vs ws us) in
    subst (λ (y : List Item). Writes (Listed i) (at p signs.Static ∷ y) (followed c d)) (sym is) (static_local p q v (joined l t))

pub piece : (d : Bool) (outer : Stack) (ts : List Item) (c : Code) → Writes (Stated (is_in_loop outer) d) ts c → Piece d outer ts c
piece d (Top ds made) ts c s = single s
piece d (Braces p made outer) ts c s = single s
piece d (Yes links n made outer) ts c s = single s
piece d (No links n first made outer) ts c s = single s
piece d (ThenOf p e outer) ts c s = s
piece d (ElseOf p e first outer) ts c s = s
piece d (LoopOf start p e advance outer) ts c s = s
piece d (DoOf p outer) ts c s = s

pub listed : (outer : Stack) (ts : List Item) (c : Code) → IsList outer → Writes (Listed (is_in_loop outer)) ts c → Piece false outer ts c
listed (Top ds made) ts c is s = s
listed (Braces p made outer) ts c is s = s
listed (Yes links n made outer) ts c is s = s
listed (No links n first made outer) ts c is s = s
listed (ThenOf p e outer) ts c is s = absurd is
listed (ElseOf p e first outer) ts c is s = absurd is
listed (LoopOf start p e advance outer) ts c is s = absurd is
listed (DoOf p outer) ts c is s = absurd is

-- a loop from what stands before its body
pub loops : {d : Bool} {start : Start} {p : Place} {e : Term} {advance : Code} {ts us : List Item} {c : Code} {i : Bool} → LoopHead start p e advance ts → Writes (Stated true d) us c → Writes (Stated i d) (ts ++ us) (started_by start (While p e advance c Done))
loops {d = d} {us = us} {c = c} {i = i} (while_head p q r {ts} {e} s) h =
    let is : at p signs.While ∷ at q signs.Open ∷ (ts ++ at r signs.Close ∷ us) ≡ (at p signs.While ∷ at q signs.Open ∷ (ts ++ at r signs.Close ∷ [])) ++ us = simp append_assoc in
    subst (λ (y : List Item). Writes (Stated i d) y (While p e Done c Done)) is (while p q r s h)
loops {d = d} {us = us} {c = c} {i = i} (for_head z {us = vs} {vs = ws} {advance = advance} {t} {e} (change_head p q r {ts} {c = start} a) b s) h =
    let is : at p signs.For ∷ at q signs.Open ∷ (ts ++ at r signs.Semicolon ∷ (vs ++ (ws ++ at z signs.Close ∷ us))) ≡ ((at p signs.For ∷ at q signs.Open ∷ (ts ++ at r signs.Semicolon ∷ [])) ++ (vs ++ (ws ++ at z signs.Close ∷ []))) ++ us = simp append_assoc in
    subst (λ (y : List Item). Writes (Stated i d) y (followed start (While t e advance c Done))) is (for p q r z a b s h)
loops {d = d} {us = us} {c = c} {i = i} (for_head z {us = vs} {vs = ws} {advance = advance} {t} {e} (declaration_head p q {ts} {us = ds} {c = start} g l) b s) h =
    let is : at p signs.For ∷ at q signs.Open ∷ (ts ++ (ds ++ (vs ++ (ws ++ at z signs.Close ∷ us)))) ≡ ((at p signs.For ∷ at q signs.Open ∷ (ts ++ ds)) ++ (vs ++ (ws ++ at z signs.Close ∷ []))) ++ us = simp append_assoc in
    subst (λ (y : List Item). Writes (Stated i d) y (Block p (followed start (While t e advance c Done)) Done)) is (declaring_for p q z g l b s h)

-- a list is put behind what its list has
pub fold_is : (outer : Stack) (c : Code) (b ts : List Item) → IsList outer → Read outer b → Writes (Listed (is_in_loop outer)) ts c → Read (folded outer c) (b ++ ts)
fold_is (Top ds made) c b ts is r s = (r.0, r.1 ++ ts, r.2, joined r.3 s, ap (λ (y : List Item). y ++ ts) r.4 ∙ append_assoc r.0 r.1 ts)
fold_is (Braces p made outer) c b ts is r s = (r.0, r.1 ++ ts, r.2, joined r.3 s, ap (λ (y : List Item). y ++ ts) r.4 ∙ append_assoc r.0 (at p signs.LeftBrace ∷ r.1) ts)
fold_is (Yes links n made outer) c b ts is r s = (r.0, r.1, r.2 ++ ts, r.3, r.4, r.5, joined r.6 s, ap (λ (y : List Item). y ++ ts) r.7 ∙ append_assoc r.0 (r.1 ++ r.2) ts ∙ ap (λ (y : List Item). r.0 ++ y) (append_assoc r.1 r.2 ts))
fold_is (No links n first made outer) c b ts is r s = (r.0, r.1, r.2, r.3 ++ ts, r.4, r.5, r.6, r.7, r.8, joined r.9 s, ap (λ (y : List Item). y ++ ts) r.10 ∙ simp append_assoc)
fold_is (ThenOf p e outer) c b ts is r s = absurd is
fold_is (ElseOf p e first outer) c b ts is r s = absurd is
fold_is (LoopOf start p e advance outer) c b ts is r s = absurd is
fold_is (DoOf p outer) c b ts is r s = absurd is

-- a statement is put where it belongs
pub place_is : (d : Bool) (outer : Stack) (c : Code) (b ts : List Item) → Read outer b → Piece d outer ts c → StandsOn (placed outer c) (b ++ ts)
place_is d (Top ds made) c b ts r s = fold_is (Top ds made) c b ts tt r s
place_is d (Braces p made outer) c b ts r s = fold_is (Braces p made outer) c b ts tt r s
place_is d (Yes links n made outer) c b ts r s = fold_is (Yes links n made outer) c b ts tt r s
place_is d (No links n first made outer) c b ts r s = fold_is (No links n first made outer) c b ts tt r s
place_is d (ThenOf p e outer) c b ts r s =
    let text : List Item = at p signs.If ∷ at r.0 signs.Open ∷ (r.3 ++ at r.1 signs.Close ∷ ts) in
    let is : b ++ ts ≡ r.2 ++ text = ap (λ (y : List Item). y ++ ts) r.6 ∙ simp append_assoc in
    subst (StandsOn (placed outer (If p e c Done Done))) (sym is) (place_is true outer (If p e c Done Done) r.2 text r.4 (piece true outer text (If p e c Done Done) (if_then p r.0 r.1 r.5 s)))
place_is d (ElseOf p e first outer) c b ts r s =
    let text : List Item = at p signs.If ∷ at r.0 signs.Open ∷ (r.4 ++ at r.1 signs.Close ∷ (r.5 ++ at r.2 signs.Else ∷ ts)) in
    let is : b ++ ts ≡ r.3 ++ text = ap (λ (y : List Item). y ++ ts) r.9 ∙ simp append_assoc in
    subst (StandsOn (placed outer (If p e first c Done))) (sym is) (place_is d outer (If p e first c Done) r.3 text r.6 (piece d outer text (If p e first c Done) (if_else p r.0 r.1 r.2 r.7 r.8 s)))
place_is d (LoopOf start p e advance outer) c b ts r s =
    let text : List Item = r.1 ++ ts in
    let made : Code = started_by start (While p e advance c Done) in
    let is : b ++ ts ≡ r.0 ++ text = ap (λ (y : List Item). y ++ ts) r.4 ∙ append_assoc r.0 r.1 ts in
    subst (StandsOn (placed outer made)) (sym is) (place_is d outer made r.0 text r.2 (piece d outer text made (loops r.3 s)))
place_is d (DoOf p outer) c b ts r s = (r.0, ts, d, r.1, s, ap (λ (y : List Item). y ++ ts) r.2 ∙ append_assoc r.0 (at p signs.Do ∷ []) ts)

-- ---- changes

-- a change where one may stand
pub change_pends : (site : Site) {ts : List Item} {c : Code} → Changes ts c → PendsAt site c ts
change_pends (AsStatement outer) s = λ r. change r s
change_pends (AsStart outer) s = s
change_pends (AsStep start p e outer) s = s

-- what is read but for its end, behind what stands before it
abbrev pub AtEnd : Site → Code → List Item → Type 0
AtEnd site c a = (b ts : List Item) × AtSite site b × PendsAt site c ts × (a ≡ b ++ ts)

-- a semicolon ends it
pub change_ends : (site : Site) (c : Code) (p : Place) (a : List Item) → AtEnd site c a → IfSome (ended_change site c) (λ next. Stands next (a ++ at p signs.Semicolon ∷ []))
change_ends (AsStatement outer) c p a r = (
  r.0,
  r.1 ++ at p signs.Semicolon ∷ [],
  r.2,
  piece false outer (r.1 ++ at p signs.Semicolon ∷ []) c (r.3 p),
  ap (λ (y : List Item). y ++ at p signs.Semicolon ∷ []) r.4 ∙ append_assoc r.0 r.1 (at p signs.Semicolon ∷ []),
)
change_ends (AsStart outer) c p a r =
    let h = r.2 in (
      h.1.1,
      at h.0 signs.For ∷ at h.1.0 signs.Open ∷ (r.1 ++ at p signs.Semicolon ∷ []),
      h.1.2,
      change_head h.0 h.1.0 p (clause r.3),
      ap (λ (y : List Item). y ++ at p signs.Semicolon ∷ []) (r.4 ∙ ap (λ (y : List Item). y ++ r.1) h.1.3) ∙ simp append_assoc,
    )
change_ends (AsStep start q e outer) c p a r = tt

-- the closing parenthesis of a `for` ends it
pub change_closes : (site : Site) (c : Code) (p : Place) (a : List Item) → AtEnd site c a → IfSome (closed_change site c) (λ next. Stands next (a ++ at p signs.Close ∷ []))
change_closes (AsStatement outer) c p a r = tt
change_closes (AsStart outer) c p a r = tt
change_closes (AsStep start q e outer) c p a r = let h = r.2 in (
  h.0,
  h.1 ++ (h.2 ++ (r.1 ++ at p signs.Close ∷ [])),
  h.3,
  for_head p h.4 h.5 (clause r.3),
  ap (λ (y : List Item). y ++ at p signs.Close ∷ []) (r.4 ∙ ap (λ (y : List Item). y ++ r.1) h.6) ∙ simp append_assoc,
)

-- ---- declarations in `main`

-- behind its type
pub declaration_begins : {kind : Qualifier} (scope : Scope) (b us : List Item) → BeforeDeclaration scope b → Qualified kind us → InDeclaration kind scope (b ++ us)
declaration_begins {kind} (ListScope outer) b us r q = record {
  before = outer;
  start = b;
  made = Done;
  text = us;
  is_read = r.0;
  is_list = r.1;
  folds = sym (folded-none outer r.1);
  goes_on = λ ts c s. subst (λ (y : List Item). Writes (Listed (is_in_loop outer)) (us ++ y) c) (append-nil ts) (subst (Writes (Listed (is_in_loop outer)) (us ++ (ts ++ []))) (followed-none c) (local q s none));
  parts = refl;
}
declaration_begins {kind} (ForScope p made outer) b us r q = record {
  paren = r.0.0;
  kind = kind;
  start = r.0.1;
  words = us;
  text = [];
  is_read = r.0.2;
  is_qualified = q;
  goes_on = λ ts c s. subst (λ (y : Code). Writes (Locals Constant) ts (followed y c)) (sym r.1) s;
  parts = ap (λ (y : List Item). y ++ us) r.0.3 ∙ append_assoc r.0.1 (at p signs.For ∷ at r.0.0 signs.Open ∷ []) us ∙ ap (λ (y : List Item). r.0.1 ++ (at p signs.For ∷ at r.0.0 signs.Open ∷ y)) (sym (append-nil us));
}

-- behind a comma
pub declaration_goes_on : (kind : Qualifier) (scope : Scope) (b ts : List Item) {c : Code} (p : Place) → InDeclaration kind scope b → LocalDeclarator (initialising scope kind) ts c → InDeclaration kind (with_declarator scope c) (b ++ (ts ++ at p signs.Comma ∷ []))
declaration_goes_on kind (ListScope outer) b ts {c} p d h = let is : (us : List Item) → d.text ++ (ts ++ at p signs.Comma ∷ us) ≡ (d.text ++ (ts ++ at p signs.Comma ∷ [])) ++ us = λ us. simp append_assoc in record {
  before = d.before;
  start = d.start;
  made = followed d.made c;
  text = d.text ++ (ts ++ at p signs.Comma ∷ []);
  is_read = d.is_read;
  is_list = d.is_list;
  folds = ap (λ (y : Stack). folded y c) d.folds ∙ folded-twice d.before d.made c d.is_list;
  goes_on = λ us e s. subst (λ (y : List Item). Writes (Listed (is_in_loop d.before)) y (followed (followed d.made c) e)) (is us) (subst (Writes (Listed (is_in_loop d.before)) (d.text ++ (ts ++ at p signs.Comma ∷ us))) (sym (followed-assoc d.made c e)) (d.goes_on (ts ++ at p signs.Comma ∷ us) (followed c e) (next_local p h s)));
  parts = ap (λ (y : List Item). y ++ (ts ++ at p signs.Comma ∷ [])) d.parts ∙ append_assoc d.start d.text (ts ++ at p signs.Comma ∷ []);
}
declaration_goes_on kind (ForScope q made outer) b ts {c} p d h = let is : (us : List Item) → d.text ++ (ts ++ at p signs.Comma ∷ us) ≡ (d.text ++ (ts ++ at p signs.Comma ∷ [])) ++ us = λ us. simp append_assoc in record {
  paren = d.paren;
  kind = d.kind;
  start = d.start;
  words = d.words;
  text = d.text ++ (ts ++ at p signs.Comma ∷ []);
  is_read = d.is_read;
  is_qualified = d.is_qualified;
  goes_on = λ us e s. subst (λ (y : List Item). Writes (Locals Constant) y (followed (followed made c) e)) (is us) (subst (Writes (Locals Constant) (d.text ++ (ts ++ at p signs.Comma ∷ us))) (sym (followed-assoc made c e)) (d.goes_on (ts ++ at p signs.Comma ∷ us) (followed c e) (next_local p h s)));
  parts = ap (λ (y : List Item). y ++ (ts ++ at p signs.Comma ∷ [])) d.parts ∙ simp append_assoc;
}

-- behind its semicolon
pub declaration_ends : (kind : Qualifier) (scope : Scope) (b ts : List Item) {c : Code} (p : Place) → InDeclaration kind scope b → LocalDeclarator (initialising scope kind) ts c → Stands (behind_declaration (with_declarator scope c)) (b ++ (ts ++ at p signs.Semicolon ∷ []))
declaration_ends kind (ListScope outer) b ts {c} p d h =
    let end : List Item = ts ++ at p signs.Semicolon ∷ [] in
    let text : List Item = d.text ++ end in
    let all : Code = followed d.made c in
    let r : Read (folded d.before all) (d.start ++ text) = fold_is d.before all d.start text d.is_list d.is_read (d.goes_on end c (last_local p h)) in
    let folds : folded outer c ≡ folded d.before all = ap (λ (y : Stack). folded y c) d.folds ∙ folded-twice d.before d.made c d.is_list in
    let is : b ++ end ≡ d.start ++ text = ap (λ (y : List Item). y ++ end) d.parts ∙ append_assoc d.start d.text end in
    subst (λ (y : Stack). Read y (b ++ end)) (sym folds) (subst (Read (folded d.before all)) (sym is) r)
declaration_ends kind (ForScope q made outer) b ts {c} p d h =
    let end : List Item = ts ++ at p signs.Semicolon ∷ [] in (
      d.start,
      at q signs.For ∷ at d.paren signs.Open ∷ (d.words ++ (d.text ++ end)),
      d.is_read,
      declaration_head q d.paren d.is_qualified (d.goes_on end c (last_local p h)),
      ap (λ (y : List Item). y ++ end) d.parts ∙ simp append_assoc,
    )

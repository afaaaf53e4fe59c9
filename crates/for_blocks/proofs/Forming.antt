-- What a list of statements within the limits turns into spells the same statements.
use Rattle.std.proofs.Common.{◌≡◌, ℕ, suc, Bool, true, false, List, [], ◌∷◌, ◌++◌, refl, sym, ap, subst, ◌∙◌, append_assoc}
use Rattle.std.proofs.lemmas.List.{append-nil}
use Rattle.fam_outer.specs.declared.faults.Place.{Place}
use Rattle.c_tree.specs.Tree.{Term, Code, Done, While, Block, followed}
use Rattle.c_grammar.specs.declared.items.Item.{Item}
use Rattle.c_grammar.specs.declared.items.Sign.{Sign}
use Rattle.c_grammar.specs.declared.items.Sign.TheVariants as signs
use Rattle.c_grammar.specs.Ahead.{IsNoElse}
use Rattle.c_grammar.specs.Grammar.{at, count_sign, Count, Raise, Lower, Callable, of_input, of_function, Changes, assignment, input_taken, compound_assignment, count_behind, count_before, Clause, Tests, Shape, Listed, Stated, Chained, Locals, Qualifier, Constant, Qualified, Writes}
use Rattle.c_grammar.specs.Grammar as plain
use Rattle.c_grammar.specs.Within.{WritesIn, none, more, choice, local, static_local, last_local, next_local, ends, otherwise, elif, change, call, void_call, assert, skip, block, while, for, declaring_for, if_then, if_else, do_while, break, continue, return}
use Rattle.c_grammar.proofs.Within.{change_written, clause_written, tests_written, writes_plain}
use Rattle.for_blocks.specs.Blocks.{behind_first, behind_semicolon, is_semicolon}
use Rattle.for_blocks.proofs.Texts.{shapes, stops, holds, neither, none_in, none_less, shapes_less, semicolons_less, semicolon_passed, IsCalm, calm_both, calm_in_parentheses, calmer}
use Rattle.for_blocks.proofs.Pieces.{Starts, starts_more, Piece, Statements, Statement, Later, IsSimple, IsDeclaration, DeclaresNone, of_while, of_for, Turns}
use Rattle.for_blocks.proofs.Pieces as pieces
use Rattle.for_blocks.proofs.Others.{not_for}
use Rattle.for_blocks.proofs.Calm.{call_calm, expression_calm, change_calm, clause_calm, test_calm, semicolon_calm, clause_declares_none, qualified_calm, qualified_begins, qualified_starts, locals_end, locals_any, qualified_held, variables_free}

-- ---- statements that hold no other

-- a sign that such a statement begins with
record Leads (s : Sign) : Type 0 where
  starts : IsNoElse s
  passed : (go : List Item → List Item) (xs : List Item) → behind_first go s xs ≡ behind_semicolon xs

count_leads : (u : Count) → Leads (count_sign u)
count_leads Raise = record { starts = tt; passed = λ go xs. refl }
count_leads Lower = record { starts = tt; passed = λ go xs. refl }

function_leads : {f : Sign} → Callable f → Leads f
function_leads of_input = record { starts = tt; passed = λ go xs. refl }
function_leads (of_function k) = record { starts = tt; passed = λ go xs. refl }

simple_text : (x : Item) (ts : List Item) (q : Place) → Leads x.sign → holds stops (x ∷ ts) ≡ false → IsSimple (x ∷ (ts ++ at q signs.Semicolon ∷ []))
simple_text x ts q l h =
    let rest = neither (stops x.sign) (holds stops ts) h in
    record {
      starts = l.starts;
      free = none_in shapes (x ∷ ts) (at q signs.Semicolon ∷ []) (none_less stops shapes (x ∷ ts) shapes_less h) refl;
      passed = λ go w. l.passed go ((ts ++ at q signs.Semicolon ∷ []) ++ w) ∙ ap behind_semicolon (append_assoc ts (at q signs.Semicolon ∷ []) w) ∙ semicolon_passed q ts w (none_less stops is_semicolon ts semicolons_less rest.1);
    }

name_leads : (x : ℕ) → Leads (signs.Name x)
name_leads x = record { starts = tt; passed = λ go xs. refl }

change_simple : {ts : List Item} {c : Code} (r : Place) → Changes ts c → IsSimple (ts ++ at r signs.Semicolon ∷ [])
change_simple r (assignment p q x {ts} e) = simple_text (at p (signs.Name x)) (at q signs.Equals ∷ ts) r (name_leads x) (change_calm (assignment p q x e)).free
change_simple z (input_taken p q r s t x {f} g) = simple_text (at p (signs.Name x)) (at q signs.Equals ∷ at r f ∷ at s signs.Open ∷ at t signs.Close ∷ []) z (name_leads x) (change_calm (input_taken p q r s t x g)).free
change_simple r (compound_assignment p q x u {ts} e) = simple_text (at p (signs.Name x)) (at q (plain.update_sign u) ∷ ts) r (name_leads x) (change_calm (compound_assignment p q x u e)).free
change_simple r (count_behind p q x u) = simple_text (at p (signs.Name x)) (at q (count_sign u) ∷ []) r (name_leads x) (change_calm (count_behind p q x u)).free
change_simple r (count_before p q x u) = simple_text (at p (count_sign u)) (at q (signs.Name x) ∷ []) r (count_leads u) (change_calm (count_before p q x u)).free

call_simple : {f : Sign} (p q r s : Place) → Callable f → IsSimple (at p f ∷ at q signs.Open ∷ at r signs.Close ∷ at s signs.Semicolon ∷ [])
call_simple {f} p q r s g = simple_text (at p f) (at q signs.Open ∷ at r signs.Close ∷ []) s (function_leads g) (call_calm p q r g).free

void_call_simple : {f : Sign} (p q r s t u v : Place) → Callable f → IsSimple (at p signs.Open ∷ at q signs.Void ∷ at r signs.Close ∷ at s f ∷ at t signs.Open ∷ at u signs.Close ∷ at v signs.Semicolon ∷ [])
void_call_simple {f} p q r s t u v g =
    simple_text (at p signs.Open) (at q signs.Void ∷ at r signs.Close ∷ at s f ∷ at t signs.Open ∷ at u signs.Close ∷ []) v (record { starts = tt; passed = λ go xs. refl }) (call_calm s t u g).free

assert_simple : {ts : List Item} (p q r s : Place) → IsCalm stops ts → IsSimple (at p signs.Assert ∷ at q signs.Open ∷ (ts ++ at r signs.Close ∷ at s signs.Semicolon ∷ []))
assert_simple {ts} p q r s a =
    subst (λ (y : List Item). IsSimple (at p signs.Assert ∷ at q signs.Open ∷ y)) (append_assoc ts (at r signs.Close ∷ []) (at s signs.Semicolon ∷ []))
    (simple_text (at p signs.Assert) (at q signs.Open ∷ (ts ++ at r signs.Close ∷ [])) s (record { starts = tt; passed = λ go xs. refl }) (calm_in_parentheses q r refl refl a).free)

-- ---- what a statement turns into

-- a statement that ends in an `if` without `else` may turn into one that does not
pub record Turned (k : ℕ) (i b : Bool) (ts : List Item) (c : Code) : Type 0 where
  pub text : List Item
  pub turns : Turns k (Statement b) ts text
  pub dangles : Bool
  pub no_more : b ≡ false → dangles ≡ false
  pub writes : Writes (Stated i dangles) text c

same_turned : {k : ℕ} {i : Bool} {ts : List Item} {c : Code} → IsSimple ts → Writes (Stated i false) ts c → Turned k i false ts c
same_turned {ts = ts} s w = record { text = ts; turns = pieces.simple s; dangles = false; no_more = λ e. e; writes = w }

-- one before an `else`
closed_writes : {k : ℕ} {i : Bool} {ts : List Item} {c : Code} (x : Turned k i false ts c) → Writes (Stated i false) x.text c
closed_writes {i = i} {c = c} x = subst (λ (d : Bool). Writes (Stated i d) x.text c) (x.no_more refl) x.writes

for_turned : {k : ℕ} {i b : Bool} {ts us vs ws : List Item} {start step c : Code} {t : Place} {e : Term} (p q r s : Place) → Clause ts start → Tests us t e → Clause vs step → Turned k true b ws c
    → Turned (suc k) i b (at p signs.For ∷ at q signs.Open ∷ (ts ++ at r signs.Semicolon ∷ (us ++ (vs ++ at s signs.Close ∷ ws)))) (followed start (While t e step c Done))
for_turned {k} {i} {b} {ts} {us} {vs} {ws} {start} {step} {c} {t} {e} p q r s first middle last x =
    let head : List Item = ts ++ at r signs.Semicolon ∷ (us ++ vs) in
    let is : (u : List Item) → head ++ at s signs.Close ∷ u ≡ ts ++ at r signs.Semicolon ∷ (us ++ (vs ++ at s signs.Close ∷ u)) = λ u. simp append_assoc in
    let calm : IsCalm shapes head = calm_both (calmer (clause_calm first)) (semicolon_calm r (calm_both (test_calm middle) (calmer (clause_calm last)))) in
    record {
      text = at p signs.For ∷ at q signs.Open ∷ (head ++ at s signs.Close ∷ x.text);
      turns = subst (λ (y : List Item). Turns (suc k) (Statement b) (at p signs.For ∷ at q signs.Open ∷ y) (at p signs.For ∷ at q signs.Open ∷ (head ++ at s signs.Close ∷ x.text))) (is ws)
          (pieces.loop p q s of_for calm (clause_declares_none p q r s (us ++ vs) first) x.turns);
      dangles = x.dangles;
      no_more = x.no_more;
      writes = subst (λ (y : List Item). Writes (Stated i x.dangles) (at p signs.For ∷ at q signs.Open ∷ y) (followed start (While t e step c Done))) (sym (is x.text)) (plain.for p q r s first middle last x.writes);
    }

-- a declaration by its first word, its others, and the semicolon at its end
declaration_is : {ts ds : List Item} (first : Item) (rest text : List Item) (r : Place) → ts ≡ first ∷ rest → ds ≡ text ++ at r signs.Semicolon ∷ [] → (u : List Item)
    → first ∷ ((rest ++ text) ++ at r signs.Semicolon ∷ u) ≡ ts ++ (ds ++ u)
declaration_is first rest text r e f u = rw (e, f) (simp append_assoc)

-- a `for` that declares variables turns into a block
declaring_turned : {k : ℕ} {i b : Bool} {ts ds us vs ws : List Item} {start step c : Code} {t : Place} {e : Term} {kind : Qualifier} (p q s : Place) → Qualified kind ts → Writes (Locals Constant) ds start → Tests us t e → Clause vs step → Turned k true b ws c
    → Turned (suc k) i b (at p signs.For ∷ at q signs.Open ∷ (ts ++ (ds ++ (us ++ (vs ++ at s signs.Close ∷ ws))))) (Block p (followed start (While t e step c Done)) Done)
declaring_turned {k} {i} {b} {ts} {ds} {us} {vs} {ws} {start} {step} {c} {t} {e} {kind} p q s held v middle last x =
    let y = qualified_begins held in
    let z = locals_end v in
    let head : List Item = us ++ vs in
    let words : List Item = y.rest ++ z.text in
    let calm : IsCalm stops (y.first ∷ words) = calm_both (subst (IsCalm stops) y.is (qualified_calm held)) z.calm in
    let is : (u : List Item) → y.first ∷ (words ++ at z.end signs.Semicolon ∷ u) ≡ ts ++ (ds ++ u) = declaration_is y.first y.rest z.text z.end y.is z.is in
    let inside : (u : List Item) → head ++ at s signs.Close ∷ u ≡ us ++ (vs ++ at s signs.Close ∷ u) = λ u. append_assoc us vs (at s signs.Close ∷ u) in
    let block_text : List Item = at p signs.LeftBrace ∷ y.first ∷ (words ++ at z.end signs.Semicolon ∷ at p signs.For ∷ at p signs.Open ∷ at p signs.Semicolon ∷ (head ++ at s signs.Close ∷ (x.text ++ at p signs.RightBrace ∷ []))) in
    let loop_text : List Item = at p signs.For ∷ at p signs.Open ∷ at p signs.Semicolon ∷ (us ++ (vs ++ at s signs.Close ∷ x.text)) in
    let loop_writes : Writes (Stated i x.dangles) loop_text (While t e step c Done) = plain.for p p p s plain.no_clause middle last x.writes in
    let within : Writes (Listed i) (ts ++ (ds ++ (loop_text ++ []))) (followed start (While t e step c Done)) = plain.local held (locals_any kind v) (plain.more loop_writes plain.none) in
    let last_brace : List Item = at p signs.RightBrace ∷ [] in
    let behind : List Item = at p signs.For ∷ at p signs.Open ∷ at p signs.Semicolon ∷ (head ++ at s signs.Close ∷ (x.text ++ last_brace)) in
    let apart : (ts ++ (ds ++ (loop_text ++ []))) ++ last_brace ≡ ts ++ (ds ++ behind) = simp (append_assoc, append-nil) in
    record {
      text = block_text;
      turns = subst (λ (u : List Item). Turns (suc k) (Statement b) (at p signs.For ∷ at q signs.Open ∷ u) block_text) (is (head ++ at s signs.Close ∷ ws) ∙ ap (λ (u : List Item). ts ++ (ds ++ u)) (inside ws))
          (pieces.declaring p q z.end s y.first y.is_type calm (calm_both (test_calm middle) (calmer (clause_calm last))) x.turns);
      dangles = false;
      no_more = λ h. refl;
      writes = subst (λ (u : List Item). Writes (Stated i false) (at p signs.LeftBrace ∷ u) (Block p (followed start (While t e step c Done)) Done)) (apart ∙ sym (is behind)) (plain.block p p within);
    }

-- ---- all statements

abbrev pub Forms : ℕ → Shape → List Item → Code → Type 0
Forms k (Listed i) ts c = (ms : List Item) × Turns k Statements ts ms × Writes (Listed i) ms c
Forms k (Stated i b) ts c = Turned k i b ts c
Forms k (Chained i) ts c = (ms : List Item) × Turns k Later ts ms × Writes (Chained i) ms c
Forms k (Locals kind) ts c = Unit {0}

-- a declaration before a list
declared : {k : ℕ} (ts us vs ns : List Item) → IsDeclaration (ts ++ us) → Turns k Statements vs ns → Turns k Statements (ts ++ (us ++ vs)) (ts ++ (us ++ ns))
declared {k} ts us vs ns h a =
    subst (λ (y : List Item). Turns k Statements y (ts ++ (us ++ ns))) (append_assoc ts us vs)
    (subst (λ (y : List Item). Turns k Statements ((ts ++ us) ++ vs) y) (append_assoc ts us ns) (pieces.declaration h a))

pub formed : {k : ℕ} {s : Shape} {ts : List Item} {c : Code} → WritesIn k s ts c → Forms k s ts c
formed none = ([], pieces.none, plain.none)
formed (more s l) =
    let x = formed s in
    let y = formed l in
    (x.text ++ y.0, pieces.more x.turns y.1, plain.more x.writes y.2)
formed (choice p n s r l) =
    let x = formed s in
    let y = formed r in
    let z = formed l in
    (at p (signs.GroupIf n) ∷ (x.0 ++ (y.0 ++ z.0)), pieces.choice p n x.1 y.1 z.1, plain.choice p n x.2 y.2 z.2)
formed (local {ts} {us} {vs} q v l) =
    let x = formed l in
    let d = locals_end (writes_plain v) in
    let free : holds shapes us ≡ false = rw d.is (none_in shapes d.text (at d.end signs.Semicolon ∷ []) (calmer d.calm).free refl) in
    let h : IsDeclaration (ts ++ us) = record { starts = starts_more ts us (qualified_starts q); free = none_in shapes ts us (calmer (qualified_calm q)).free free } in
    (ts ++ (us ++ x.0), declared ts us vs x.0 h x.1, plain.local q (writes_plain v) x.2)
formed (static_local p {ts} {us} {vs} q v l) =
    let x = formed l in
    let h : IsDeclaration (at p signs.Static ∷ (ts ++ us)) = record { starts = tt; free = none_in shapes ts us (calmer (qualified_calm q)).free (variables_free v (qualified_held q)) } in
    (at p signs.Static ∷ (ts ++ (us ++ x.0)), declared (at p signs.Static ∷ ts) us vs x.0 h x.1, plain.static_local p q v x.2)
formed (last_local p d) = tt
formed (next_local p d v) = tt
formed (ends p) = (at p signs.GroupEnd ∷ [], pieces.ends p, plain.ends p)
formed (otherwise p q s) =
    let x = formed s in
    (at p signs.GroupElse ∷ (x.0 ++ at q signs.GroupEnd ∷ []), pieces.otherwise p q x.1, plain.otherwise p q x.2)
formed (elif p n s r) =
    let x = formed s in
    let y = formed r in
    (at p (signs.GroupElif n) ∷ (x.0 ++ y.0), pieces.elif p n x.1 y.1, plain.elif p n x.2 y.2)
formed (change r d) = same_turned (change_simple r (change_written d)) (plain.change r (change_written d))
formed (call p q r s g) = same_turned (call_simple p q r s g) (plain.call p q r s g)
formed (void_call p q r s t u v g) = same_turned (void_call_simple p q r s t u v g) (plain.void_call p q r s t u v g)
formed (assert p q r s e) = same_turned (assert_simple p q r s (expression_calm e.expresses)) (plain.assert p q r s e.expresses)
formed (skip p) = same_turned (record { starts = tt; free = refl; passed = λ go w. refl }) (plain.skip p)
formed (block p q s) =
    let x = formed s in
    record {
      text = at p signs.LeftBrace ∷ (x.0 ++ at q signs.RightBrace ∷ []);
      turns = pieces.block p q x.1;
      dangles = false;
      no_more = λ h. h;
      writes = plain.block p q x.2;
    }
formed (while p q r {b} {ts} e s) =
    let x = formed s in
    record {
      text = at p signs.While ∷ at q signs.Open ∷ (ts ++ at r signs.Close ∷ x.text);
      turns = pieces.loop p q r of_while (calmer (expression_calm e.expresses)) (λ w. not_for (at p signs.While) (at q signs.Open ∷ (ts ++ at r signs.Close ∷ w)) refl) x.turns;
      dangles = x.dangles;
      no_more = x.no_more;
      writes = plain.while p q r e.expresses x.writes;
    }
formed (for p q r s first middle last l) = for_turned p q r s (clause_written first) (tests_written middle) (clause_written last) (formed l)
formed (declaring_for p q s held v middle last l) = declaring_turned p q s held (writes_plain v) (tests_written middle) (clause_written last) (formed l)
formed (if_then p q r {b} {ts} e s) =
    let x = formed s in
    record {
      text = at p signs.If ∷ at q signs.Open ∷ (ts ++ at r signs.Close ∷ x.text);
      turns = pieces.if_then p q r (calmer (expression_calm e.expresses)) x.turns;
      dangles = true;
      no_more = λ h. h;
      writes = plain.if_then p q r e.expresses x.writes;
    }
formed (if_else p q r s {b} {ts} e yes_side no_side) =
    let x = formed yes_side in
    let y = formed no_side in
    record {
      text = at p signs.If ∷ at q signs.Open ∷ (ts ++ at r signs.Close ∷ (x.text ++ at s signs.Else ∷ y.text));
      turns = pieces.if_else p q r s (calmer (expression_calm e.expresses)) x.turns y.turns;
      dangles = y.dangles;
      no_more = y.no_more;
      writes = plain.if_else p q r s e.expresses (closed_writes x) y.writes;
    }
formed (do_while p q r s t {b} {ts} {us} {x} {k = k} l e) =
    let y = formed l in
    let inner : List Item = at r signs.Open ∷ x ∷ (us ++ at s signs.Close ∷ []) in
    let is : (u : List Item) → u ++ at q signs.While ∷ (inner ++ at t signs.Semicolon ∷ []) ≡ u ++ at q signs.While ∷ at r signs.Open ∷ x ∷ (us ++ at s signs.Close ∷ at t signs.Semicolon ∷ []) =
    λ u. simp append_assoc in
    let whole : List Item → List Item = λ u. at p signs.Do ∷ (u ++ at q signs.While ∷ at r signs.Open ∷ x ∷ (us ++ at s signs.Close ∷ at t signs.Semicolon ∷ [])) in
    record {
      text = whole y.text;
      turns = subst (λ (z : List Item). Turns (suc k) (Statement false) (at p signs.Do ∷ z) (whole y.text)) (is ts)
          (subst (λ (z : List Item). Turns (suc k) (Statement false) (at p signs.Do ∷ (ts ++ at q signs.While ∷ (inner ++ at t signs.Semicolon ∷ []))) (at p signs.Do ∷ z)) (is y.text)
          (pieces.do_while p q t y.turns (calm_in_parentheses r s refl refl (expression_calm e.expresses))));
      dangles = false;
      no_more = λ h. h;
      writes = plain.do_while p q r s t y.writes e.expresses;
    }
formed (break p q) = same_turned (simple_text (at p signs.Break) [] q (record { starts = tt; passed = λ go xs. refl }) refl) (plain.break p q)
formed (continue p q) = same_turned (simple_text (at p signs.Continue) [] q (record { starts = tt; passed = λ go xs. refl }) refl) (plain.continue p q)
formed (return p q {ts} e) =
    same_turned (simple_text (at p signs.Return) ts q (record { starts = tt; passed = λ go xs. refl }) (expression_calm e.expresses).free) (plain.return p q e.expresses)

-- What is read within the limits is spelled within them: declarations and files.
use Rattle.std.proofs.Common.{◌≡◌, ℕ, suc, ◌+◌, ◌≤◌, List, [], ◌∷◌, ◌++◌, length, Ok, refl, sym, ap, subst, ◌∙◌, append_assoc, arith}
use Rattle.std.proofs.lemmas.List.{append-nil}
use Rattle.fam_outer.specs.declared.faults.Place.{Place}
use Rattle.c_tree.specs.declared.lists.Guard.{Guard}
use Rattle.c_tree.specs.declared.lists.Declared.{Declared}
use Rattle.c_tree.specs.Tree.{Code, Done}
use Rattle.c_grammar.specs.declared.items.Sign.TheVariants as signs
use Rattle.c_grammar.specs.declared.items.Item.{Item}
use Rattle.c_grammar.specs.Grammar.{at, with_true, with_false, Part, Outer, Vars, Later, Declares, Gap, Gaps, GapRest, Empty, Body, Main, File, file_of, Forms}
use Rattle.c_grammar.specs.Grammar as plain
use Rattle.c_grammar.specs.Machine.{Tailing, Another, Final, Top, Sections, Outermost, InPart, InLast, guards_of, Outside, Ready, Over, with_declared, start}
use Rattle.c_grammar.specs.Deep.{tail_depth, guarded}
use Rattle.c_grammar.specs.Within.{DeclaresIn, nothing, variables, prototype, void_prototype, definition, section, last_var, next_var, end_part, else_part, elif_part, EmptyIn, no_more, empty_section, empty_end, empty_else, empty_elif, BodyWithin, body, MainWithin, main, FormsWithin, file}
use Rattle.c_grammar.proofs.Files.{vars_first}
use Rattle.c_grammar.proofs.TokensWithin.{token, opens_in}
use Rattle.c_grammar.proofs.StatesWithin.{accepted_in}
use Rattle.c_grammar.proofs.FilesWithin.{begins_then, prototyped, void_prototyped, ends_prototype, definition_then, guards_true, guards_false, goes_in, passes_in, ends_main, enters_main}
use Rattle.c_grammar.proofs.SoundWithin.{opens_few, room_for, writes_back}

-- ---- declarations

-- declarators open nothing
abbrev pub DeclaresBack : Part → List Item → List Declared → Type 0
DeclaresBack (Outer gs) ts ds = (k : ℕ) (secs : Sections) → guards_of secs ≡ gs → k + length gs ≡ 64 → (es : List Declared) (w : List Item) (f : File) → guarded (Outside secs es) 0 (ts ++ w) ≡ Ok f → DeclaresIn k (Outer gs) ts ds
DeclaresBack (Vars kind gs) ts ds = (k : ℕ) → DeclaresIn k (Vars kind gs) ts ds
DeclaresBack (Later gs) ts ds = (k : ℕ) (hs : List Guard) (n : ℕ) (outer : Sections) → with_false hs n ≡ gs → k + length gs ≡ 64 → (es : List Declared) (w : List Item) (f : File) → guarded (Outside (InPart hs n outer) es) 0 (ts ++ w) ≡ Ok f → DeclaresIn k (Later gs) ts ds

declares_back : {s : Part} {ts : List Item} {ds : List Declared} → Declares s ts ds → DeclaresBack s ts ds
declares_back (plain.nothing gs) = λ k secs is e es w f h. nothing gs
declares_back (plain.variables gs {us} {vs} {ws} {ds} {es = fs} o v d) = λ k secs is e es w f h.
    let re : (us ++ (vs ++ ws)) ++ w ≡ us ++ (vs ++ (ws ++ w)) = simp append_assoc in
    let vars = declares_back v k in
    let begins = ap (guarded (Outside secs es) 0) re ∙ begins_then secs es (vs ++ (ws ++ w)) o (vars_first v (ws ++ w)) ∙ goes_in vars secs is (omega (arith, e)) es (ws ++ w) in
    variables gs o vars (declares_back d k secs is e (es ++ ds) w f (sym begins ∙ h))
declares_back (plain.prototype q r s t gs {f = called} {us} {vs} {ws} {es = fs} o g v d) = λ k secs is e es w f h.
    let rest : List Item = at r signs.Open ∷ (vs ++ at s signs.Close ∷ at t signs.Semicolon ∷ (ws ++ w)) in
    let re : (us ++ at q called ∷ at r signs.Open ∷ (vs ++ at s signs.Close ∷ at t signs.Semicolon ∷ ws)) ++ w ≡ us ++ at q called ∷ rest = simp append_assoc in
    let begins = ap (guarded (Outside secs es) 0) re ∙ prototyped q secs es rest o g ∙ ends_prototype r s t secs es (ws ++ w) v in
    prototype q r s t gs o g v (declares_back d k secs is e es w f (sym begins ∙ h))
declares_back (plain.void_prototype p q r s t n gs {us} {vs} {ws} {es = fs} o v d) = λ k secs is e es w f h.
    let rest : List Item = at r signs.Open ∷ (vs ++ at s signs.Close ∷ at t signs.Semicolon ∷ (ws ++ w)) in
    let re : (us ++ at p signs.Void ∷ at q (signs.Function n) ∷ at r signs.Open ∷ (vs ++ at s signs.Close ∷ at t signs.Semicolon ∷ ws)) ++ w ≡ us ++ at p signs.Void ∷ at q (signs.Function n) ∷ rest = simp append_assoc in
    let begins = ap (guarded (Outside secs es) 0) re ∙ void_prototyped p q n secs es rest o ∙ ends_prototype r s t secs es (ws ++ w) v in
    void_prototype p q r s t n gs o v (declares_back d k secs is e es w f (sym begins ∙ h))
declares_back (plain.definition gs {us} {ws} {x = x} {n = n} o d) = λ k secs is e es w f h.
    let begins = ap (guarded (Outside secs es) 0) (append_assoc us ws w) ∙ definition_then secs es (ws ++ w) o in
    definition gs o (declares_back d k secs is e (with_declared secs es x n) w f (sym begins ∙ h))
declares_back (plain.section p n gs {us} {vs} {ws} {cs} {ds} {es = fs} a b d) = λ k secs is e es w f h.
    let re : (us ++ (vs ++ ws)) ++ w ≡ us ++ (vs ++ (ws ++ w)) = simp append_assoc in
    let here : length (guards_of secs) ≡ length gs = ap length is in
    let le : suc (length (guards_of secs)) ≤ 64 = opens_few (Outside secs es) 0 (at p (signs.GroupIf n)) ((us ++ (vs ++ ws)) ++ w) f refl h in
    let j = room_for k (length gs) e (omega (arith, le, here)) in
    let inner : Sections = InPart (guards_of secs) n secs in
    let one : j.0 + length (with_true gs n) ≡ 64 = omega (arith, e, j.1, guards_true gs n) in
    let two : j.0 + length (with_false gs n) ≡ 64 = omega (arith, e, j.1, guards_false gs n) in
    let trues = ap (λ (y : List Guard). with_true y n) is in
    let falses = ap (λ (y : List Guard). with_false y n) is in
    let h1 = sym (opens_in (Outside secs es) (Outside inner es) p (signs.GroupIf n) 0 ((us ++ (vs ++ ws)) ++ w) refl refl le ∙ ap (guarded (Outside inner es) 0) re) ∙ h in
    let first = declares_back a j.0 inner trues one es (vs ++ (ws ++ w)) f h1 in
    let h2 = sym (goes_in first inner trues (omega (arith, one)) es (vs ++ (ws ++ w))) ∙ h1 in
    let second = declares_back b j.0 (guards_of secs) n secs falses two (es ++ cs) (ws ++ w) f h2 in
    let h3 = sym (goes_in second (guards_of secs) n secs falses (omega (arith, two)) (es ++ cs) (ws ++ w)) ∙ h2 in
    let third = declares_back d k secs is e ((es ++ cs) ++ ds) w f h3 in
    subst (λ (y : ℕ). DeclaresIn y (Outer gs) (at p (signs.GroupIf n) ∷ (us ++ (vs ++ ws))) (cs ++ (ds ++ fs))) (sym j.1) (section p n gs first second (subst (λ (y : ℕ). DeclaresIn y (Outer gs) ws fs) j.1 third))
declares_back (plain.last_var gs v o) = λ k. last_var gs v o
declares_back (plain.next_var p gs v d) = λ k. next_var p gs v (declares_back d k)
declares_back (plain.end_part p gs) = λ k hs n outer is e es w f h. end_part p gs
declares_back (plain.else_part p q gs {us} {ds} d) = λ k hs n outer is e es w f h.
    let begins =
    token (Outside (InPart hs n outer) es) (Outside (InLast (with_false hs n) outer) es) p signs.GroupElse 0 ((us ++ at q signs.GroupEnd ∷ []) ++ w) refl refl refl
    ∙ ap (guarded (Outside (InLast (with_false hs n) outer) es) 0) (append_assoc us (at q signs.GroupEnd ∷ []) w) in
    else_part p q gs (declares_back d k (InLast (with_false hs n) outer) is e es (at q signs.GroupEnd ∷ w) f (sym begins ∙ h))
declares_back (plain.elif_part p m gs {us} {vs} {cs} {ds} a b) = λ k hs n outer is e es w f h.
    let here : length (with_false hs n) ≡ length gs = ap length is in
    let le : suc (length (with_true hs n)) ≤ 64 = opens_few (Outside (InPart hs n outer) es) 0 (at p (signs.GroupElif m)) ((us ++ vs) ++ w) f refl h in
    let j = room_for k (length gs) e (omega (arith, le, here, guards_true hs n, guards_false hs n)) in
    let inner : Sections = InPart (with_false hs n) m outer in
    let one : j.0 + length (with_true gs m) ≡ 64 = omega (arith, e, j.1, guards_true gs m) in
    let two : j.0 + length (with_false gs m) ≡ 64 = omega (arith, e, j.1, guards_false gs m) in
    let trues = ap (λ (y : List Guard). with_true y m) is in
    let falses = ap (λ (y : List Guard). with_false y m) is in
    let h1 = sym (opens_in (Outside (InPart hs n outer) es) (Outside inner es) p (signs.GroupElif m) 0 ((us ++ vs) ++ w) refl refl le ∙ ap (guarded (Outside inner es) 0) (append_assoc us vs w)) ∙ h in
    let first = declares_back a j.0 inner trues one es (vs ++ w) f h1 in
    let h2 = sym (goes_in first inner trues (omega (arith, one)) es (vs ++ w)) ∙ h1 in
    let second = declares_back b j.0 (with_false hs n) m outer falses two (es ++ cs) w f h2 in
    subst (λ (y : ℕ). DeclaresIn y (Later gs) (at p (signs.GroupElif m) ∷ (us ++ vs)) (cs ++ ds)) (sym j.1) (elif_part p m gs first second)

-- ---- files

abbrev pub EmptyBack : Gap → List Item → Type 0
EmptyBack Gaps ts = (k : ℕ) (f : File) (parts : List Tailing) → k + tail_depth parts ≡ 64 → (w : List Item) (g : File) → guarded (Over f parts) 0 (ts ++ w) ≡ Ok g → EmptyIn k Gaps ts
EmptyBack GapRest ts = (k : ℕ) (f : File) (i : ℕ) (parts : List Tailing) → k + (i + tail_depth parts) ≡ 64 → (w : List Item) (g : File) → guarded (Over f (Another i ∷ parts)) 0 (ts ++ w) ≡ Ok g → EmptyIn k GapRest ts

empty_back : {s : Gap} {ts : List Item} → Empty s ts → EmptyBack s ts
empty_back plain.no_more = λ k f parts e w g h. no_more
empty_back (plain.empty_section p n {us} {vs} {ws} a b d) = λ k f parts e w g h.
    let re : (us ++ (vs ++ ws)) ++ w ≡ us ++ (vs ++ (ws ++ w)) = simp append_assoc in
    let le : suc (tail_depth parts) ≤ 64 = opens_few (Over f parts) 0 (at p (signs.GroupIf n)) ((us ++ (vs ++ ws)) ++ w) g refl h in
    let j = room_for k (tail_depth parts) e le in
    let one : j.0 + (1 + tail_depth parts) ≡ 64 = omega (arith, e, j.1) in
    let within : j.0 + (1 + tail_depth parts) ≤ 64 = omega (arith, one) in
    let h1 = sym (opens_in (Over f parts) (Over f (Another 1 ∷ parts)) p (signs.GroupIf n) 0 ((us ++ (vs ++ ws)) ++ w) refl refl le ∙ ap (guarded (Over f (Another 1 ∷ parts)) 0) re) ∙ h in
    let first = empty_back a j.0 f (Another 1 ∷ parts) one (vs ++ (ws ++ w)) g h1 in
    let h2 = sym (passes_in first f (Another 1 ∷ parts) within (vs ++ (ws ++ w))) ∙ h1 in
    let second = empty_back b j.0 f 1 parts one (ws ++ w) g h2 in
    let h3 = sym (passes_in second f 1 parts within (ws ++ w)) ∙ h2 in
    let third = empty_back d k f parts e w g h3 in
    subst (λ (y : ℕ). EmptyIn y Gaps (at p (signs.GroupIf n) ∷ (us ++ (vs ++ ws)))) (sym j.1) (empty_section p n first second (subst (λ (y : ℕ). EmptyIn y Gaps ws) j.1 third))
empty_back (plain.empty_end p) = λ k f i parts e w g h. empty_end p
empty_back (plain.empty_else p q {us} a) = λ k f i parts e w g h.
    let begins =
    token (Over f (Another i ∷ parts)) (Over f (Final i ∷ parts)) p signs.GroupElse 0 ((us ++ at q signs.GroupEnd ∷ []) ++ w) refl refl refl
    ∙ ap (guarded (Over f (Final i ∷ parts)) 0) (append_assoc us (at q signs.GroupEnd ∷ []) w) in
    empty_else p q (empty_back a k f (Final i ∷ parts) e (at q signs.GroupEnd ∷ w) g (sym begins ∙ h))
empty_back (plain.empty_elif p n {us} {vs} a b) = λ k f i parts e w g h.
    let le : suc (i + tail_depth parts) ≤ 64 = opens_few (Over f (Another i ∷ parts)) 0 (at p (signs.GroupElif n)) ((us ++ vs) ++ w) g refl h in
    let j = room_for k (i + tail_depth parts) e le in
    let one : j.0 + (suc i + tail_depth parts) ≡ 64 = omega (arith, e, j.1) in
    let begins = opens_in (Over f (Another i ∷ parts)) (Over f (Another (suc i) ∷ parts)) p (signs.GroupElif n) 0 ((us ++ vs) ++ w) refl refl le ∙ ap (guarded (Over f (Another (suc i) ∷ parts)) 0) (append_assoc us vs w) in
    let h1 = sym begins ∙ h in
    let first = empty_back a j.0 f (Another (suc i) ∷ parts) one (vs ++ w) g h1 in
    let h2 = sym (passes_in first f (Another (suc i) ∷ parts) (omega (arith, one)) (vs ++ w)) ∙ h1 in
    let second = empty_back b j.0 f (suc i) parts one w g h2 in
    subst (λ (y : ℕ). EmptyIn y GapRest (at p (signs.GroupElif n) ∷ (us ++ vs))) (sym j.1) (empty_elif p n first second)

body_back : {ts : List Item} {c : Code} {p : Place} (ds : List Declared) (g : File) → Body ts c p → guarded (Ready (Top ds Done)) 0 ts ≡ Ok g → BodyWithin ts c p
body_back ds g (plain.body p {us} {vs} {c} s e) h =
    let made : File = file_of ds c p in
    let text : List Item = at p signs.RightBrace ∷ vs in
    let statements = writes_back s 64 (Top ds Done) tt refl (omega arith) 0 text g tt h in
    let ends = accepted_in statements (Top ds Done) tt refl (omega arith) 0 text tt ∙ ends_main p ds c vs in
    body p statements (empty_back e 64 made [] (omega arith) [] g (ap (guarded (Over made []) 0) (append-nil vs) ∙ (sym ends ∙ h)))

main_back : {ts : List Item} {c : Code} {p : Place} (ds : List Declared) (g : File) → Main ts c p → guarded (Outside Outermost ds) 0 ts ≡ Ok g → MainWithin ts c p
main_back ds g (plain.main q r s t u {ts} {us} {vs} y o b) h = main q r s t u y o (body_back ds g b (sym (enters_main q r s t ds vs y o) ∙ h))

pub forms_back : {ts : List Item} {f : File} (g : File) → Forms ts f → guarded start 0 ts ≡ Ok g → FormsWithin ts f
forms_back g (plain.file {us} {vs} {ds} d m) h =
    let first = declares_back d 64 Outermost refl (omega arith) [] vs g h in
    file first (main_back ds g m (sym (goes_in first Outermost refl (omega arith) [] vs) ∙ h))

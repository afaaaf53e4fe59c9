-- What `cpp_groups` keeps is what stays.
use Rattle.std.proofs.Common.{◌≡◌, ℕ, Bool, true, false, not, ◌&&◌, cond, List, [], ◌∷◌, ◌++◌, Option, Some, refl, sym, ap, ◌∙◌, append_assoc, append-nil}
use Rattle.std.specs.Prelude.{is_none}
use Rattle.std.proofs.lemmas.List.{map-append}
use Rattle.cpp_groups.specs.declared.directive.GroupDirective.{GroupDirective}
use Rattle.cpp_groups.specs.declared.directive.GroupDirective.TheVariants.{If, Elif, Endif}
use Rattle.cpp_groups.specs.declared.section.Section.{Section}
use Rattle.cpp_groups.specs.declared.section.Section.TheVariants.{Seeking, Keeping, Passed}
use Rattle.cpp_groups.specs.Kept.{truth, next_group, all_kept, sections_after}
use Rattle.cpp_lines.specs.declared.line.Line.{Line}
use Rattle.cpp_lines.specs.declared.line.LineKind.{LineKind}
use Rattle.cpp_lines.specs.declared.line.LineKind.TheVariants as kinds
use Rattle.cpp_lines.specs.Lines.{stays as line_stays}
use Rattle.cpp_lines.specs.Preprocessed.{group_of, kept_line, kept_lines}
use Rattle.c_grammar.specs.declared.items.Item.{Item}
use Rattle.c_grammar.specs.declared.items.Sign.{Sign}
use Rattle.c_grammar.specs.declared.items.Sign.TheVariants as signs
use Rattle.c_grammar.specs.Grammar.{is_group}
use Rattle.c_grammar.specs.Kept.{directive_of, kept_from}
use Rattle.c_grammar.proofs.Keeping.{IsShut}
use Rattle.reading_laws.specs.Sectioned.{Directives, Part, Group, Later, IsSectioned, nothing, other, section, endif, otherwise, elif, none_of, Stays, nothing_stays, other_stays, first_group, later_group, no_group, else_group, elif_group, behind_elif}
use Rattle.reading_laws.specs.Staying.{item_groups, line_groups, staying_items, staying_lines, GroupsStay, KeptItemsStay, KeptLinesStay}

-- whether each of these is no directive and stands where the open sections keep it
abbrev pub stay_from : List Bool → List Section → Directives → List Bool
stay_from t secs [] = []
stay_from t secs (d ∷ ds) = (is_none d && all_kept secs) ∷ stay_from t (sections_after t secs d) ds

-- ---- groups of which none stays

abbrev Goes : List Bool → Part → Directives → Type 0
Goes t Group ds = (secs : List Section) → all_kept secs ≡ false → (rest : Directives) → stay_from t secs (ds ++ rest) ≡ none_of ds ++ stay_from t secs rest
Goes t Later ds = (s : Section) (secs : List Section) → IsShut s secs → (rest : Directives) → stay_from t (s ∷ secs) (ds ++ rest) ≡ none_of ds ++ stay_from t secs rest

shut_in : (secs : List Section) (b : Bool) → all_kept secs ≡ false → all_kept (next_group Seeking b ∷ secs) ≡ false
shut_in secs true h = h
shut_in secs false h = refl

shut_next : (s : Section) (secs : List Section) (b : Bool) → IsShut s secs → IsShut (next_group s b) secs
shut_next Seeking secs true h c = refl
shut_next Seeking secs false h c = h c
shut_next Keeping secs b h c = refl
shut_next Passed secs b h c = refl

none_both : (us vs : Directives) → none_of (us ++ vs) ≡ none_of us ++ none_of vs
none_both us vs = map-append (λ (d : Option GroupDirective). false) us vs

none_two : (us vs : Directives) (bs : List Bool) → none_of us ++ (none_of vs ++ bs) ≡ none_of (us ++ vs) ++ bs
none_two us vs bs = sym (append_assoc (none_of us) (none_of vs) bs) ∙ ap (λ (ys : List Bool). ys ++ bs) (sym (none_both us vs))

goes : {p : Part} {ds : Directives} (t : List Bool) → IsSectioned p ds → Goes t p ds
goes t nothing = λ secs k rest. refl
goes t (other {ds} h) = λ secs k rest.
    ap (λ (b : Bool). b ∷ stay_from t secs (ds ++ rest)) k ∙ ap (λ (ys : List Bool). false ∷ ys) (goes t h secs k rest)
goes t (section n {us} {vs} {ws} a b c) = λ secs k rest.
    let inner = next_group Seeking (truth t n) in
    let is : (us ++ (vs ++ ws)) ++ rest ≡ us ++ (vs ++ (ws ++ rest)) = simp append_assoc in
    ap (λ (y : Directives). false ∷ stay_from t (inner ∷ secs) y) is
    ∙ ap (λ (ys : List Bool). false ∷ ys)
    (goes t a (inner ∷ secs) (shut_in secs (truth t n) k) (vs ++ (ws ++ rest))
    ∙ ap (λ (ys : List Bool). none_of us ++ ys) (goes t b inner secs (shut_next Seeking secs (truth t n) (λ d. shut_in secs d k)) (ws ++ rest)
    ∙ ap (λ (ys : List Bool). none_of vs ++ ys) (goes t c secs k rest) ∙ none_two vs ws (stay_from t secs rest))
    ∙ none_two us (vs ++ ws) (stay_from t secs rest))
goes t endif = λ s secs k rest. refl
goes t (otherwise {us} a) = λ s secs k rest.
    ap (λ (y : Directives). false ∷ stay_from t (next_group s true ∷ secs) y) (append_assoc us (Some Endif ∷ []) rest)
    ∙ ap (λ (ys : List Bool). false ∷ ys) (goes t a (next_group s true ∷ secs) (k true) (Some Endif ∷ rest) ∙ none_two us (Some Endif ∷ []) (stay_from t secs rest))
goes t (elif n {us} {vs} a b) = λ s secs k rest.
    let inner = next_group s (truth t n) in
    ap (λ (y : Directives). false ∷ stay_from t (inner ∷ secs) y) (append_assoc us vs rest)
    ∙ ap (λ (ys : List Bool). false ∷ ys) (goes t a (inner ∷ secs) (k (truth t n)) (vs ++ rest)
    ∙ ap (λ (ys : List Bool). none_of us ++ ys) (goes t b inner secs (shut_next s secs (truth t n) k) rest) ∙ none_two us vs (stay_from t secs rest))

-- ---- groups of which some may stay

abbrev StaysAt : List Bool → Part → Directives → List Bool → Type 0
StaysAt t Group ds bs = (secs : List Section) → all_kept secs ≡ true → (rest : Directives) → stay_from t secs (ds ++ rest) ≡ bs ++ stay_from t secs rest
StaysAt t Later ds bs = (secs : List Section) → all_kept secs ≡ true → (rest : Directives) → stay_from t (Seeking ∷ secs) (ds ++ rest) ≡ bs ++ stay_from t secs rest

assoc_two : (xs ys zs : List Bool) → xs ++ (ys ++ zs) ≡ (xs ++ ys) ++ zs
assoc_two xs ys zs = sym (append_assoc xs ys zs)

stays : {t : List Bool} {p : Part} {ds : Directives} {bs : List Bool} → Stays t p ds bs → StaysAt t p ds bs
stays nothing_stays = λ secs k rest. refl
stays {t} (other_stays {ds} {bs} h) = λ secs k rest.
    ap (λ (b : Bool). b ∷ stay_from t secs (ds ++ rest)) k ∙ ap (λ (ys : List Bool). true ∷ ys) (stays h secs k rest)
stays {t} (first_group n {us} {vs} {ws} {xs} {zs} e a b c) = λ secs k rest.
    let is : (us ++ (vs ++ ws)) ++ rest ≡ us ++ (vs ++ (ws ++ rest)) = simp append_assoc in
    ap (λ (b : Bool). false ∷ stay_from t (next_group Seeking b ∷ secs) ((us ++ (vs ++ ws)) ++ rest)) e
    ∙ ap (λ (y : Directives). false ∷ stay_from t (Keeping ∷ secs) y) is
    ∙ ap (λ (ys : List Bool). false ∷ ys)
    (stays a (Keeping ∷ secs) k (vs ++ (ws ++ rest))
    ∙ ap (λ (ys : List Bool). xs ++ ys) (goes t b Keeping secs (λ d. refl) (ws ++ rest)
    ∙ ap (λ (ys : List Bool). none_of vs ++ ys) (stays c secs k rest) ∙ assoc_two (none_of vs) zs (stay_from t secs rest))
    ∙ assoc_two xs (none_of vs ++ zs) (stay_from t secs rest))
stays {t} (later_group n {us} {vs} {ws} {ys} {zs} e a b c) = λ secs k rest.
    let is : (us ++ (vs ++ ws)) ++ rest ≡ us ++ (vs ++ (ws ++ rest)) = simp append_assoc in
    ap (λ (b : Bool). false ∷ stay_from t (next_group Seeking b ∷ secs) ((us ++ (vs ++ ws)) ++ rest)) e
    ∙ ap (λ (y : Directives). false ∷ stay_from t (Seeking ∷ secs) y) is
    ∙ ap (λ (xs : List Bool). false ∷ xs)
    (goes t a (Seeking ∷ secs) refl (vs ++ (ws ++ rest))
    ∙ ap (λ (xs : List Bool). none_of us ++ xs) (stays b secs k (ws ++ rest)
    ∙ ap (λ (xs : List Bool). ys ++ xs) (stays c secs k rest) ∙ assoc_two ys zs (stay_from t secs rest))
    ∙ assoc_two (none_of us) (ys ++ zs) (stay_from t secs rest))
stays no_group = λ secs k rest. refl
stays {t} (else_group {us} {xs} a) = λ secs k rest.
    ap (λ (y : Directives). false ∷ stay_from t (Keeping ∷ secs) y) (append_assoc us (Some Endif ∷ []) rest)
    ∙ ap (λ (ys : List Bool). false ∷ ys) (stays a (Keeping ∷ secs) k (Some Endif ∷ rest) ∙ assoc_two xs (false ∷ []) (stay_from t secs rest))
stays {t} (elif_group n {us} {vs} {xs} e a b) = λ secs k rest.
    ap (λ (c : Bool). false ∷ stay_from t (next_group Seeking c ∷ secs) ((us ++ vs) ++ rest)) e
    ∙ ap (λ (y : Directives). false ∷ stay_from t (Keeping ∷ secs) y) (append_assoc us vs rest)
    ∙ ap (λ (ys : List Bool). false ∷ ys) (stays a (Keeping ∷ secs) k (vs ++ rest)
    ∙ ap (λ (ys : List Bool). xs ++ ys) (goes t b Keeping secs (λ d. refl) rest) ∙ assoc_two xs (none_of vs) (stay_from t secs rest))
stays {t} (behind_elif n {us} {vs} {ys} e a b) = λ secs k rest.
    ap (λ (c : Bool). false ∷ stay_from t (next_group Seeking c ∷ secs) ((us ++ vs) ++ rest)) e
    ∙ ap (λ (y : Directives). false ∷ stay_from t (Seeking ∷ secs) y) (append_assoc us vs rest)
    ∙ ap (λ (xs : List Bool). false ∷ xs) (goes t a (Seeking ∷ secs) refl (vs ++ rest)
    ∙ ap (λ (xs : List Bool). none_of us ++ xs) (stays b secs k rest) ∙ assoc_two (none_of us) ys (stay_from t secs rest))

pub whole_stays : (t : List Bool) (ds : Directives) (bs : List Bool) → Stays t Group ds bs → stay_from t [] ds ≡ bs
whole_stays t ds bs h = ap (stay_from t []) (sym (append-nil ds)) ∙ stays h [] refl [] ∙ append-nil bs

-- ---- there is such a list

two_ways : {us vs ws : Directives} (t : List Bool) (n : ℕ) → IsSectioned Group us → IsSectioned Later vs → (xs : List Bool) × Stays t Group us xs → (ys : List Bool) × Stays t Later vs ys → (zs : List Bool) × Stays t Group ws zs
    → (bs : List Bool) × Stays t Group (Some (If n) ∷ (us ++ (vs ++ ws))) bs
two_ways {us} {vs} {ws} t n a b x y z = elim (truth t n) as (λ c. truth t n ≡ c → (bs : List Bool) × Stays t Group (Some (If n) ∷ (us ++ (vs ++ ws))) bs) [
  | true ↦ λ e. (false ∷ (x.0 ++ (none_of vs ++ z.0)), first_group n e x.1 b z.1)
  | false ↦ λ e. (false ∷ (none_of us ++ (y.0 ++ z.0)), later_group n e a y.1 z.1)
] refl

two_later : {us vs : Directives} (t : List Bool) (n : ℕ) → IsSectioned Group us → IsSectioned Later vs → (xs : List Bool) × Stays t Group us xs → (ys : List Bool) × Stays t Later vs ys
    → (bs : List Bool) × Stays t Later (Some (Elif n) ∷ (us ++ vs)) bs
two_later {us} {vs} t n a b x y = elim (truth t n) as (λ c. truth t n ≡ c → (bs : List Bool) × Stays t Later (Some (Elif n) ∷ (us ++ vs)) bs) [
  | true ↦ λ e. (false ∷ (x.0 ++ none_of vs), elif_group n e x.1 b)
  | false ↦ λ e. (false ∷ (none_of us ++ y.0), behind_elif n e a y.1)
] refl

some_stay : {p : Part} {ds : Directives} (t : List Bool) → IsSectioned p ds → (bs : List Bool) × Stays t p ds bs
some_stay t nothing = ([], nothing_stays)
some_stay t (other h) = let r = some_stay t h in (true ∷ r.0, other_stays r.1)
some_stay t (section n a b c) = two_ways t n a b (some_stay t a) (some_stay t b) (some_stay t c)
some_stay t endif = (false ∷ [], no_group)
some_stay t (otherwise a) = let r = some_stay t a in (false ∷ (r.0 ++ false ∷ []), else_group r.1)
some_stay t (elif n a b) = two_later t n a b (some_stay t a) (some_stay t b)

pub groups_stay : GroupsStay
groups_stay truths groups h = some_stay truths h

-- ---- items

no_directive : (s : Sign) → is_none (directive_of s) ≡ not (is_group s)
no_directive (signs.GroupIf n) = refl
no_directive (signs.GroupElif n) = refl
no_directive signs.GroupElse = refl
no_directive signs.GroupEnd = refl
no_directive _ = refl

items_from : (t : List Bool) (secs : List Section) (items : List Item) → kept_from t secs items ≡ staying_items (stay_from t secs (item_groups items)) items
items_from t secs [] = refl
items_from t secs (x ∷ xs) =
    let next = sections_after t secs (directive_of x.sign) in
    ap (λ (ys : List Item). cond (not (is_group x.sign) && all_kept secs) (x ∷ ys) ys) (items_from t next xs)
    ∙ ap (λ (b : Bool). cond (b && all_kept secs) (x ∷ staying_items (stay_from t next (item_groups xs)) xs) (staying_items (stay_from t next (item_groups xs)) xs)) (sym (no_directive x.sign))

pub kept_items_stay : KeptItemsStay
kept_items_stay truths stay items h = items_from truths [] items ∙ ap (λ (bs : List Bool). staying_items bs items) (whole_stays truths (item_groups items) stay h)

-- ---- lines

line_same : (secs : List Section) (kind : LineKind) (p : List ℕ) → kept_line secs kind p ≡ cond (line_stays kind && (is_none (group_of kind) && all_kept secs)) p []
line_same secs kinds.Code p = refl
line_same secs kinds.Include p = refl
line_same secs kinds.Define p = refl
line_same secs (kinds.If n) p = refl
line_same secs (kinds.Elif n) p = refl
line_same secs kinds.Else p = refl
line_same secs kinds.Endif p = refl

lines_from : (t : List Bool) (secs : List Section) (ls : List Line) (ps : List (List ℕ)) → kept_lines t secs ls ps ≡ staying_lines (stay_from t secs (line_groups ls)) ls ps
lines_from t secs [] ps = refl
lines_from t secs (l ∷ ls) [] = refl
lines_from t secs (l ∷ ls) (p ∷ ps) =
    let next = sections_after t secs (group_of l.kind) in
    ap (λ (q : List ℕ). q ∷ kept_lines t next ls ps) (line_same secs l.kind p)
    ∙ ap (λ (qs : List (List ℕ)). cond (line_stays l.kind && (is_none (group_of l.kind) && all_kept secs)) p [] ∷ qs) (lines_from t next ls ps)

pub kept_lines_stay : KeptLinesStay
kept_lines_stay truths stay lines ps h = lines_from truths [] lines ps ∙ ap (λ (bs : List Bool). staying_lines bs lines ps) (whole_stays truths (line_groups lines) stay h)

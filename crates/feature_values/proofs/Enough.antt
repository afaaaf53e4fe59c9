-- A program at the truths of its conditions is the same at more truths behind them.
use Rattle.std.proofs.Common.{◌≡◌, ℕ, zero, suc, ◌+◌, ◌<◌, ◌==◌, ◌&&◌, Bool, true, false, if◌then◌else◌, List, [], ◌∷◌, ◌++◌, length, get_or, Option, Some, None, refl, ap, ◌∙◌, arith}
use Rattle.std.specs.Prelude.{ℤ, not, unwrap_or}
use Rattle.std.specs.List.{All, list_all}
use Rattle.std.proofs.lemmas.List.{get_or_append_left}
use Rattle.std.proofs.lemmas.List.Elements.{All-head, All-tail}
use Rattle.c_tree.specs.declared.lists.Declared.{Declared}
use Rattle.c_tree.specs.declared.lists.Guard.{Guard}
use Rattle.c_tree.specs.Project.{projected, IsNumbered, guard_holds, guards_hold, last_value, start_from, projected_start, IsGuarded}
use Rattle.c_tree.specs.Tree.{Code, Done, Assign, Input, Assert, If, While, Do, Leave, Block, Skip, Cond, followed, Whole}
use Rattle.feature_values.specs.Laws.{ConditionsAreEnough}

code_kept : (ts more : List Bool) (c : Code) → IsNumbered (length ts) c → projected (ts ++ more) c ≡ projected ts c
code_kept ts more Done h = refl
code_kept ts more (Assign place target value rest) h = ap (Assign place target value) (code_kept ts more rest h)
code_kept ts more (Input place target rest) h = ap (Input place target) (code_kept ts more rest h)
code_kept ts more (Assert place test rest) h = ap (Assert place test) (code_kept ts more rest h)
code_kept ts more (If place test p q rest) h = λ i. If place test (code_kept ts more p h.0 i) (code_kept ts more q h.1 i) (code_kept ts more rest h.2 i)
code_kept ts more (While place test step body rest) h = λ i. While place test (code_kept ts more step h.0 i) (code_kept ts more body h.1 i) (code_kept ts more rest h.2 i)
code_kept ts more (Do place body at test rest) h = λ i. Do place (code_kept ts more body h.0 i) at test (code_kept ts more rest h.1 i)
code_kept ts more (Leave place jump rest) h = ap (Leave place jump) (code_kept ts more rest h)
code_kept ts more (Block place body rest) h = λ i. Block place (code_kept ts more body h.0 i) (code_kept ts more rest h.1 i)
code_kept ts more (Skip place rest) h = ap (Skip place) (code_kept ts more rest h)
code_kept ts more (Cond number p q rest) h =
    λ i. followed (if get_or_append_left ts more false number h.0 i then code_kept ts more p h.1 i else code_kept ts more q h.2 i) (code_kept ts more rest h.3 i)

abbrev asked : Guard → Bool → Bool
asked g b = if g.positive then b else not b

guards_kept : (ts more : List Bool) (gs : List Guard) → All (λ (g : Guard). g.number < length ts) gs → guards_hold (ts ++ more) gs ≡ guards_hold ts gs
guards_kept ts more [] h = refl
guards_kept ts more (g ∷ gs) h =
    let l : g.number < length ts = All-head (λ (x : Guard). x.number < length ts) g gs h in
    let first : get_or (ts ++ more) g.number false ≡ get_or ts g.number false = get_or_append_left ts more false g.number l in
    ap (λ (b : Bool). asked g b && list_all (guard_holds (ts ++ more)) gs) first
    ∙ ap (λ (b : Bool). guard_holds ts g && b) (guards_kept ts more gs (All-tail (λ (x : Guard). x.number < length ts) g gs h))

last_kept : (ts more : List Bool) (x : ℕ) (ds : List Declared) (found : Option ℤ) → All (IsGuarded (length ts)) ds → last_value (ts ++ more) x ds found ≡ last_value ts x ds found
last_kept ts more x [] found h = refl
last_kept ts more x (d ∷ ds) found h =
    ap (λ (b : Bool). last_value (ts ++ more) x ds (if (d.target == x) && b then Some d.value else found)) (guards_kept ts more d.guards (All-head (IsGuarded (length ts)) d ds h))
    ∙ last_kept ts more x ds (if (d.target == x) && guards_hold ts d.guards then Some d.value else found) (All-tail (IsGuarded (length ts)) d ds h)

start_kept : (ts more : List Bool) (ds : List Declared) (x : ℕ) (ns : List ℤ) → All (IsGuarded (length ts)) ds → start_from (ts ++ more) ds x ns ≡ start_from ts ds x ns
start_kept ts more ds x [] h = refl
start_kept ts more ds x (n ∷ ns) h =
    ap (λ (o : Option ℤ). unwrap_or o n ∷ start_from (ts ++ more) ds (x + 1) ns) (last_kept ts more x ds None h)
    ∙ ap (λ (l : List ℤ). unwrap_or (last_value ts x ds None) n ∷ l) (start_kept ts more ds (x + 1) ns h)

pub program_kept : ConditionsAreEnough
program_kept ts more p h = λ i. record {
  names = p.names;
  start = start_kept ts more p.declared 0 p.start h.declared i;
  declared = [];
  body = code_kept ts more p.body h.body i;
  end = p.end;
}

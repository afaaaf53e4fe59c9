-- What `read_condition` answers is what the bytes are read as.
use Rattle.std.proofs.Common.{◌≡◌, ℕ, ◌≤◌, ◌<◌, ℤ, false, List, [], Option, Some, None, Result, Ok, Err, sym, ap, subst, ◌∙◌, arith}
use Rattle.std.specs.Prelude.{IfOk}
use Rattle.fam_outer.specs.declared.faults.ConditionFault.{ConditionFault}
use Rattle.fam_outer.specs.declared.faults.ConditionFault.TheVariants as faults
use Rattle.cpp_conditions.specs.Macros.{Macros}
use Rattle.linear_atoms.specs.declared.atoms.Atom.{Atom}
use Rattle.linear_atoms.specs.declared.atoms.Feature.{Feature}
use Rattle.linear_atoms.specs.Atoms.{IsWithin}
use Rattle.cpp_conditions.specs.declared.conditions.Condition.{Condition}
use Rattle.cpp_conditions.specs.declared.reading.ConditionRefusal.{ConditionRefusal}
use Rattle.cpp_conditions.specs.declared.reading.ConditionRefusal.TheVariants as refusals
use Rattle.cpp_conditions.specs.declared.expression_refusal.ExpressionRefusal.{ExpressionRefusal}
use Rattle.cpp_conditions.specs.declared.expression_refusal.ExpressionRefusal.TheVariants as stops
use Rattle.cpp_conditions.specs.declared.tokens.Token as coded
use Rattle.cpp_conditions.specs.Descent.{plain, AnswersExpression as Parses}
use Rattle.cpp_conditions.specs.Expressions.{Expression, is_nonzero, value}
use Rattle.cpp_conditions.specs.Grammar.{Spells, CSpells, judged, ReadsAs, no_tokens, too_deep, no_condition, read}
use Rattle.cpp_conditions.specs.Machine.{Wants, read as read_by}
use Rattle.cpp_conditions.specs.Propositions.{Proposition, true_at}
use Rattle.cpp_conditions.specs.Reading.{IsConditionRead, Judges, condition_refusal}
use Rattle.cpp_conditions.specs.Scanning.{Scans}
use Rattle.cpp_conditions.specs.Tokens.{SpellsTokens, weight_behind}
use Rattle.cpp_conditions.specs.View.{proposition}
use Rattle.cpp_conditions.proofs.Complete.{is_read}
use Rattle.cpp_conditions.proofs.Once.{has_value}
use Rattle.cpp_conditions.proofs.Sound.{read_spells}

pub stopped_scan : (macros : Macros) (features : List Feature) (bytes : List ℕ) (s : ExpressionRefusal) → Scans (Err s) bytes → IsConditionRead macros features bytes (Err (condition_refusal s))
stopped_scan macros features bytes stops.NoMemory h = tt
stopped_scan macros features bytes stops.Wrong h = no_tokens h

pub deep : (macros : Macros) (features : List Feature) (bytes : List ℕ) (list items : List coded.Token) (n : ℕ) → SpellsTokens bytes (plain items) → list ≡ items → n ≡ weight_behind false (plain list) → 64 < n → ReadsAs macros features bytes (Err faults.TooDeep)
deep macros features bytes list items n s e w lt = too_deep (plain items) s (let h : n ≡ weight_behind false (plain items) = w ∙ ap (λ ts. weight_behind false (plain ts)) e in omega arith)

none_some : (o : Option Expression) (e : Expression) → o ≡ None → o ≡ Some e → ⊥
none_some o e p q = absurd cc

no_tree : (macros : Macros) (features : List Feature) (bytes : List ℕ) (list list2 items : List coded.Token) (n : ℕ) → SpellsTokens bytes (plain items) → list ≡ items → list2 ≡ items → n ≡ weight_behind false (plain list) → n ≤ 64 → read_by (Wants []) (plain list2) ≡ None
    → ReadsAs macros features bytes (Err faults.Syntax)
no_tree macros features bytes list list2 items n s e f w le r =
    no_condition (plain items) s (let h : n ≡ weight_behind false (plain items) = w ∙ ap (λ ts. weight_behind false (plain ts)) e in omega arith)
    (λ d x. none_some (read_by (Wants []) (plain items)) d (ap (λ ts. read_by (Wants []) (plain ts)) (sym f) ∙ r) (is_read (plain items) d x))

pub stopped_parse : (macros : Macros) (features : List Feature) (bytes : List ℕ) (list list2 items : List coded.Token) (n : ℕ) (stop : ExpressionRefusal) → SpellsTokens bytes (plain items) → list ≡ items → list2 ≡ items → n ≡ weight_behind false (plain list) → n ≤ 64
    → Parses (Err stop) (read_by (Wants []) (plain list2)) → IsConditionRead macros features bytes (Err (condition_refusal stop))
stopped_parse macros features bytes list list2 items n stops.NoMemory s e f w le h = tt
stopped_parse macros features bytes list list2 items n stops.Wrong s e f w le h = no_tree macros features bytes list list2 items n s e f w le h

as_judged : (macros : Macros) (features : List Feature) (bytes : List ℕ) (r : Result Condition ConditionRefusal) (x : Result (Proposition Atom) ConditionFault) → ReadsAs macros features bytes x → Judges r x → IsConditionRead macros features bytes r
as_judged macros features bytes (Ok made) x h j = subst (ReadsAs macros features bytes) j h
as_judged macros features bytes (Err refusals.NoMemory) x h j = tt
as_judged macros features bytes (Err (refusals.Fault fault)) x h j = subst (ReadsAs macros features bytes) j h

pub tree_read : (macros : Macros) (features names : List Feature) (bytes : List ℕ) (list list2 items : List coded.Token) (n : ℕ) (tree : Expression) (r : Result Condition ConditionRefusal) → SpellsTokens bytes (plain items) → list ≡ items → list2 ≡ items
    → n ≡ weight_behind false (plain list) → n ≤ 64 → read_by (Wants []) (plain list2) ≡ Some tree → names ≡ features → Judges r (judged macros names tree) → IsConditionRead macros features bytes r
tree_read macros features names bytes list list2 items n tree r s e f w le p same j =
    let h : weight_behind false (plain items) ≤ 64 = (let k : n ≡ weight_behind false (plain items) = w ∙ ap (λ ts. weight_behind false (plain ts)) e in omega arith) in
    let x : Spells 6 (plain items) tree = read_spells (plain items) tree (ap (λ ts. read_by (Wants []) (plain ts)) (sym f) ∙ p) in
    as_judged macros features bytes r (judged macros features tree) (read (plain items) tree s h x) (subst (λ fs. Judges r (judged macros fs tree)) same j)

pub values_of : (macros : Macros) (features : List Feature) (bytes : List ℕ) (r : Result Condition ConditionRefusal) → IsConditionRead macros features bytes r
    → IfOk r (λ made. (e : Expression) (values : List ℤ) → CSpells e bytes → IsWithin features values → true_at values (proposition made) ≡ is_nonzero (value features values e))
values_of macros features bytes (Ok made) h = has_value macros features bytes (proposition made) h
values_of macros features bytes (Err fault) h = tt

-- The text of a variant line by line.
use Rattle.std.proofs.Common.{◌≡◌, ℕ, ◌+◌, Bool, List, [], ◌∷◌, ◌++◌, length, refl, sym, ap, subst, ◌∙◌, append_assoc}
use Rattle.cpp_groups.specs.declared.section.Section.{Section}
use Rattle.cpp_groups.specs.Kept.{sections_after}
use Rattle.cpp_lines.specs.declared.line.Line.{Line}
use Rattle.cpp_lines.specs.Lines.{pieces, AreLinesFrom}
use Rattle.cpp_lines.specs.Preprocessed.{group_of, kept_line, kept_lines, with_newlines}
use Rattle.cpp_lines.proofs.Coding.{not_none}

-- these lines are those of these pieces, wherever the first begins
pub record AreLeft (ps : List (List ℕ)) (ls : List Line) : Type 0 where
  pub start : ℕ
  pub are : AreLinesFrom start ps ls

pub none_left : (p : List ℕ) (ps : List (List ℕ)) (ls : List Line) → AreLeft (p ∷ ps) ls → ls ≡ [] → ⊥
none_left p ps ls h e = subst (λ (xs : List Line). AreLinesFrom h.start (p ∷ ps) xs) e h.are

pub left_behind : (p : List ℕ) (ps : List (List ℕ)) (l : Line) (ls : List Line) → AreLeft (p ∷ ps) (l ∷ ls) → AreLeft ps ls
left_behind p ps l ls h = record { start = h.start + length p + 1; are = h.are.1 }

-- a piece with a newline, before others
newline_behind : (k : List ℕ) (truths : List Bool) (sections : List Section) (ls : List Line) (ps : List (List ℕ)) → AreLeft ps ls → (ps ≡ [] → ⊥) → with_newlines (k ∷ kept_lines truths sections ls ps) ≡ k ++ 10 ∷ with_newlines (kept_lines truths sections ls ps)
newline_behind k truths sections ls [] h n = absurd (n refl)
newline_behind k truths sections [] (p ∷ ps) h n = absurd h.are
newline_behind k truths sections (l ∷ ls) (p ∷ ps) h n = refl

pub line_on : (out : List ℕ) (truths : List Bool) (sections : List Section) (l : Line) (ls : List Line) (p more : List ℕ) (total : List ℕ) → AreLeft (p ∷ pieces more) (l ∷ ls)
    → out ++ with_newlines (kept_lines truths sections (l ∷ ls) (p ∷ pieces more)) ≡ total
    → ((out ++ kept_line sections l.kind p) ++ 10 ∷ []) ++ with_newlines (kept_lines truths (sections_after truths sections (group_of l.kind)) ls (pieces more)) ≡ total
line_on out truths sections l ls p more total h e =
    append_assoc (out ++ kept_line sections l.kind p) (10 ∷ []) (with_newlines (kept_lines truths (sections_after truths sections (group_of l.kind)) ls (pieces more)))
    ∙ append_assoc out (kept_line sections l.kind p) (10 ∷ with_newlines (kept_lines truths (sections_after truths sections (group_of l.kind)) ls (pieces more)))
    ∙ ap (λ (xs : List ℕ). out ++ xs)
    (sym (newline_behind (kept_line sections l.kind p) truths (sections_after truths sections (group_of l.kind)) ls (pieces more) (left_behind p (pieces more) l ls h) (not_none more))) ∙ e

-- the last line
alone : (k : List ℕ) (truths : List Bool) (sections : List Section) (ls : List Line) → with_newlines (k ∷ kept_lines truths sections ls []) ≡ k
alone k truths sections [] = refl
alone k truths sections (l ∷ ls) = refl

pub last_on : (out : List ℕ) (truths : List Bool) (sections : List Section) (l : Line) (ls : List Line) (p : List ℕ) (total : List ℕ) → out ++ with_newlines (kept_lines truths sections (l ∷ ls) (p ∷ [])) ≡ total
    → out ++ kept_line sections l.kind p ≡ total
last_on out truths sections l ls p total e =
    ap (λ (xs : List ℕ). out ++ xs) (sym (alone (kept_line sections l.kind p) truths (sections_after truths sections (group_of l.kind)) ls)) ∙ e

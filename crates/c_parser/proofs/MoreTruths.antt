-- More truths behind those of a file's conditions change nothing of what stays of its text.
use Rattle.std.proofs.Common.{◌≡◌, ℕ, zero, suc, ◌<◌, Bool, List, [], ◌∷◌, ◌++◌, length, refl, ap, ◌∙◌, arith}
use Rattle.cpp_groups.specs.declared.section.Section.{Section}
use Rattle.cpp_groups.specs.declared.section.Section.TheVariants.{Seeking}
use Rattle.cpp_groups.specs.Kept.{next_group, in_next, sections_after, truth}
use Rattle.cpp_lines.specs.declared.line.Line.{Line}
use Rattle.cpp_lines.specs.declared.line.LineKind.{LineKind}
use Rattle.cpp_lines.specs.declared.line.LineKind.TheVariants as kinds
use Rattle.cpp_lines.specs.Lines.{pieces}
use Rattle.cpp_lines.specs.Preprocessed.{group_of, kept_line, kept_lines, with_newlines, preprocessed}
use Rattle.cpp_lines.specs.Sections.{IsNumberedBelow, AreNumberedBelow}

same_truth : (truths more : List Bool) (n : ℕ) → n < length truths → truth (truths ++ more) n ≡ truth truths n
same_truth [] more n lt = absurd (omega arith)
same_truth (t ∷ ts) more zero lt = refl
same_truth (t ∷ ts) more (suc n) lt = same_truth ts more n (omega arith)

same_after : (truths more : List Bool) (sections : List Section) (kind : LineKind) → IsNumberedBelow (length truths) kind → sections_after (truths ++ more) sections (group_of kind) ≡ sections_after truths sections (group_of kind)
same_after truths more sections (kinds.If n) h = ap (λ (b : Bool). next_group Seeking b ∷ sections) (same_truth truths more n h)
same_after truths more sections (kinds.Elif n) h = ap (λ (b : Bool). in_next b sections) (same_truth truths more n h)
same_after truths more sections kinds.Code h = refl
same_after truths more sections kinds.Include h = refl
same_after truths more sections kinds.Define h = refl
same_after truths more sections kinds.Else h = refl
same_after truths more sections kinds.Endif h = refl

same_lines : (truths more : List Bool) (sections : List Section) (ls : List Line) (ps : List (List ℕ)) → AreNumberedBelow (length truths) ls → kept_lines (truths ++ more) sections ls ps ≡ kept_lines truths sections ls ps
same_lines truths more sections [] ps h = refl
same_lines truths more sections (l ∷ ls) [] h = refl
same_lines truths more sections (l ∷ ls) (p ∷ ps) h =
    ap (λ (ss : List Section). kept_line sections l.kind p ∷ kept_lines (truths ++ more) ss ls ps) (same_after truths more sections l.kind h.0)
    ∙ ap (λ (qs : List (List ℕ)). kept_line sections l.kind p ∷ qs) (same_lines truths more (sections_after truths sections (group_of l.kind)) ls ps h.1)

-- the text that stays, where the lines have numbers of these truths alone
pub same_text : (truths more : List Bool) (ls : List Line) (text : List ℕ) → AreNumberedBelow (length truths) ls → preprocessed (truths ++ more) ls text ≡ preprocessed truths ls text
unfolding preprocessed
same_text truths more ls text h = ap with_newlines (same_lines truths more [] ls (pieces text) h)

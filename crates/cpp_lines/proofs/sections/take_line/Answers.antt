use Rattle.std.proofs.Common.{◌≡◌, ◌++◌, List, [], ◌∷◌, length, sym, ap, ◌∙◌, arith}
use Rattle.std.proofs.lemmas.List.{length-map}
use Rattle.fam_outer.specs.declared.faults.Place.{Place}
use Rattle.cpp_conditions.specs.View.{proposition}
use Rattle.cpp_lines.specs.declared.line.Line.{Line}
use Rattle.cpp_lines.specs.declared.open_sections.Opens.{Opens}
use Rattle.cpp_lines.specs.Defined.{names_in}
use Rattle.cpp_lines.specs.Lines.{line_place}
use Rattle.cpp_lines.specs.Nesting.{named_in, opened_by}
use Rattle.cpp_lines.specs.Opens.{flags, first_after}
use Rattle.cpp_lines.specs.Sections.{line_at}
use Rattle.cpp_lines.specs.Taking as taking
use Rattle.cpp_lines.proofs.sections.take_line.Goals as goal

pub returns : goal.returns
returns c =
    let j = c.in_default.ensures.judges in
    let count : c.len.result ≡ length (taking.meant c.args.reading.now) =
    (let n : c.len.result ≡ length c.args.reading.now.conditions.items = omega (arith, c.len.ensures) in n) ∙ sym (length-map c.args.reading.now.conditions.items proposition) in
    let made : c.line_at-made.result ≡ line_at (length (taking.meant c.args.reading.now)) c.args.start c.args.first c.args.line.now =
    c.line_at-made.ensures ∙ ap (λ n. line_at n c.args.start c.args.first c.args.line.now) count in
    record {
      judged = record { conditions = j.conditions; is_read = j.is_read; meant_now = j.meant_now; kept = record { atoms = j.kept.atoms; few = j.kept.few; fit = j.kept.fit } };
      lines = c.in_ok-push.ensures.items ∙ ap (λ (ls : List Line). ls ++ c.line_at-made.result ∷ []) (ap (λ (v : _). v.items) c.judge_line-judged.ensures.lines)
          ∙ ap (λ (l : Line). c.args.reading.now.lines.items ++ l ∷ []) made;
      followed = record {
        opened = c.in_ok-follow.ensures.flags ∙ ap (λ (o : Opens). opened_by (named_in c.args.line.now) (flags o)) c.judge_line-judged.ensures.opens;
        first = c.in_ok-follow.ensures.first
            ∙ ap (λ (p : Place). first_after (named_in c.args.line.now) p (flags c.judge_line-judged.new.reading.opens) c.judge_line-judged.new.reading.opens.first) c.line_place-place.ensures
            ∙ ap (λ (o : Opens). first_after (named_in c.args.line.now) (line_place c.args.first c.args.line.now) (flags o) o.first) c.judge_line-judged.ensures.opens;
      };
      named = record {
        above = c.in_ok-add_name.ensures ∙ ap (λ (v : _). taking.plain_names v.items ++ names_in c.args.line.now) c.judge_line-judged.ensures.above;
        defined = c.judge_line-judged.ensures.defined;
      };
    }

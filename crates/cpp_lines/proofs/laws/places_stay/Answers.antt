use Rattle.cpp_lines.specs.Comments.{blank}
use Rattle.cpp_lines.specs.Code.{code_of}
use Rattle.cpp_lines.proofs.Places.{alike, same_place, blank_alike, code_alike}
use Rattle.cpp_lines.proofs.laws.places_stay.Goals as goal

pub returns : goal.returns
returns c = record {
  blanked = λ text offset. same_place (blank text) text offset (blank_alike 0 text);
  code = λ text offset. same_place (code_of text) text offset (code_alike text);
  blanked_len = λ text. (alike (blank text) text (blank_alike 0 text)).3;
  code_len = λ text. (alike (code_of text) text (code_alike text)).3;
}

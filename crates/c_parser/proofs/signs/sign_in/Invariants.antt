use Rattle.std.proofs.Common.{◌≡◌, drop}
use Rattle.std.specs.Prelude.{map}
use Rattle.c_parser.specs.Signs as tables
use Rattle.c_parser.proofs.signs.sign_in.Given as goal

abbrev pub invariant-loop-text : goal.invariant-loop-text
invariant-loop-text l = tables.sign_in (map (λ entry. (entry.0.now, entry.1)) l.table) l.lexeme ≡ tables.sign_in (map (λ entry. (entry.0.now, entry.1)) (drop l.text-index l.table)) l.lexeme

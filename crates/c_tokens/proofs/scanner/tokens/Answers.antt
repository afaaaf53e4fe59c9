use Rattle.std.proofs.Common.{◌≡◌, ℕ, ◌+◌, ◌<◌, ◌≤◌, List, [], ◌∷◌, ◌++◌, length, take, drop, Ok, Err, sym, ap, subst, ◌∙◌, arith}
use Rattle.std.proofs.lemmas.List.{length-drop, length-take-le}
use Rattle.fam_outer.specs.declared.faults.Place.{Place}
use Rattle.c_tokens.specs.declared.token.Token.{Token}
use Rattle.fam_outer.specs.Places.{end_place, place_at}
use Rattle.c_tokens.specs.Reading.{front_of, read_from, tokens_of}
use Rattle.fam_outer.proofs.Placing.{spot, behind_bytes}
use Rattle.c_tokens.proofs.Scan.{front_more, behind, found_len, no_newline, spaced_on, taken_on, stopped_on, done_on, token_at}
use Rattle.c_tokens.proofs.scanner.tokens.Goals as goal

pub scan-preserved-then-is_space : goal.scan-preserved-then-is_space
scan-preserved-then-is_space c =
    let text = c.args.text.now in
    let at = c.scan.at in
    let rest = c.scan.rest.now in
    let bs = c.in-Some.behind.now in
    let cut : rest ≡ c.in-Some.b ∷ bs = c.in-Some.ensures in
    record {
      read = spaced_on c.scan.list.items text at c.in-Some.b bs rest (read_from text 0 0 text) cut (sym c.is_space.ensures ∙ c.if-is_space.true) c.scan.invariant.read;
      rest = ap (drop 1) (sym cut) ∙ behind text at 1 rest c.scan.invariant.rest;
      len = omega (arith, ap length cut);
      place = c.place_after-place.ensures.value (take at text) c.scan.invariant.place ∙ ap end_place (ap (λ (xs : List ℕ). take at text ++ take 1 xs) (sym cut) ∙ sym (front_more text at 1 rest c.scan.invariant.rest));
      line = omega arith;
      column = omega arith;
    }

pub returns-in-Err : goal.returns-in-Err
unfolding tokens_of
returns-in-Err c =
    let text = c.args.text.now in
    stopped_on c.scan.list.items text c.scan.at c.in-Some.b c.in-Some.behind.now c.scan.rest.now (read_from text 0 0 text) c.in-Err.code c.in-Some.ensures (sym c.is_space.ensures ∙ c.if-is_space.false) c.in-Err.ensures.value c.scan.invariant.read
    ∙ ap (λ (p : Place). Err (c.in-Err.code, p)) (sym c.scan.invariant.place)

pub scan-preserved : goal.scan-preserved
scan-preserved c =
    let text = c.args.text.now in
    let at = c.scan.at in
    let rest = c.scan.rest.now in
    let kind = c.in-Ok.found.0 in
    let n = c.in-Ok.found.1 in
    let cut = c.in-Some.ensures in
    let found : Ok (kind, n) ≡ front_of rest = c.in-Ok.ensures.value in
    let some : 0 < n = c.in-Ok.ensures.len.0 in
    let fits : n ≤ length rest = c.in-Ok.ensures.len.1 in
    let back : c.split_at.result.1.now ≡ drop n rest = c.split_at.ensures.back in
    let here : c.scan.place ≡ place_at text at = c.scan.invariant.place in
    let pushed : c.push.new.self.items ≡ c.scan.list.items ++ token_at text at kind n ∷ [] =
    c.in_ok-push.ensures.items ∙ ap (λ (p : Place). c.scan.list.items ++ record { kind = kind; place = p; start = at; end = at + n } ∷ []) here in
    let taken : length (take n rest) ≡ n = length-take-le n rest fits in
    record {
      read = rw (pushed, back) (taken_on c.scan.list.items text at c.in-Some.b c.in-Some.behind.now rest (read_from text 0 0 text) kind n cut (sym c.is_space.ensures ∙ c.if-is_space.false) found some fits c.scan.invariant.read);
      rest = back ∙ behind text at n rest c.scan.invariant.rest;
      len = omega (arith, ap length back, length-drop n rest);
      place = subst (λ (p : Place). spot p.line (p.column + n) ≡ end_place (take (at + n) text)) (sym here)
          (ap (λ (i : ℕ). spot (place_at text at).line ((place_at text at).column + i)) (sym taken)
          ∙ behind_bytes (take at text) (take n rest) (no_newline rest n some (found_len rest kind n (sym found)))
          ∙ ap end_place (sym (front_more text at n rest c.scan.invariant.rest)));
      line = omega arith;
      column = omega arith;
    }

pub returns : goal.returns
unfolding tokens_of
returns c = done_on c.scan.list.items c.args.text.now c.scan.at c.scan.rest.now (read_from c.args.text.now 0 0 c.args.text.now) c.in_default.ensures c.scan.invariant.read ∙ ap (λ (ts : List Token). Ok ts) (sym c.from_vec.ensures)

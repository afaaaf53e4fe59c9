-- The texts of regions.
use Rattle.std.proofs.Common.{◌≡◌, ℕ, ℤ, Bool, true, false, ◌&&◌, if◌then◌else◌, List, [], ◌∷◌, ◌++◌, length, map, codes, flat_map, Result, Ok, Err, inl, inr, refl, sym, ap, subst, ◌∙◌}
use Rattle.fam_outer.specs.declared.faults.ConditionFault.{ConditionFault}
use Rattle.fam_outer.specs.declared.faults.ConditionFault.TheVariants as faults
use Rattle.std.proofs.Math.Bool.{and_assoc}
use Rattle.std.proofs.lemmas.Bool.{false≢true}
use Rattle.std.proofs.lemmas.List.{append-nil, append_assoc}
use Rattle.fam_outer.specs.declared.dialect.Unknown.{Unknown}
use Rattle.fam_outer.specs.declared.dialect.Unknown.TheVariants.{Zero, Refuse}
use Rattle.linear_atoms.specs.declared.atoms.Atom.{Atom}
use Rattle.linear_atoms.specs.declared.atoms.Feature.{Feature}
use Rattle.linear_atoms.specs.declared.atoms.Literal.{Literal}
use Rattle.linear_atoms.specs.declared.regions.Regions.{Regions}
use Rattle.linear_atoms.specs.Atoms.{AreLiterals, IsAtom, IsWithin}
use Rattle.cpp_conditions.specs.Expressions.{Expression, between, bit, is_nonzero}
use Rattle.cpp_conditions.specs.Grammar.{CSpells, ReadsAs, Spells, has_reserved, has_unknown, has_defined, unknown_refuses, is_small_condition, judged, no_tokens, too_deep, no_condition, read}
use Rattle.cpp_conditions.specs.Macros.{no_macros}
use Rattle.cpp_conditions.specs.Meaning.{is_linear, cond}
use Rattle.cpp_conditions.specs.Propositions.{Proposition, true_at}
use Rattle.cpp_conditions.proofs.Lexemes.{one_list}
use Rattle.cpp_conditions.proofs.Once.{has_value, nothing_defined, spelled_once}
use Rattle.atom_solver.specs.Solutions.{all_hold}
use Rattle.alarm_report.specs.Pieces.{Piece, Single, Value, pieces_of, piece_text}
use Rattle.alarm_report.specs.Texts.{joined, region_text}
use Rattle.alarm_report.proofs.Piecewise.{atom_of, ArePieces, AreSome, pieces_are, some_pieces}
use Rattle.feature_model.specs.Features.{AreDistinct, AreNamed, HaveSwitches}
use Rattle.cpp_conditions.specs.declared.operators.Operator.TheVariants.{Both}
use Rattle.region_laws.proofs.Spelling.{IsTold, any, looser, with_value, with_text, told_one, told_both, both_mark, c_spells}
use Rattle.region_laws.specs.Spelled.{SpellsRegion, IsOfSize}
use Rattle.region_laws.proofs.Compared.{told_literal, told_value}
use Rattle.region_laws.proofs.Piecewise.{piece_holds, pieces_hold, all_pieces_hold}

both_bits : (a b : Bool) → between Both (bit a) (bit b) ≡ bit (a && b)
both_bits true true = refl
both_bits true false = refl
both_bits false b = refl

and_true : (a : Bool) → a ≡ (a && true)
and_true true = refl
and_true false = refl

bit_told : (b : Bool) → is_nonzero (bit b) ≡ b
bit_told true = refl
bit_told false = refl

-- ` && ` and a piece, for each
abbrev behind : List Feature → List Piece → List ℕ
behind features ps = flat_map (λ (u : List ℕ). codes " && " ++ u) (map (piece_text features) ps)

-- ---- refusals

abbrev refusal : ConditionFault → Result (Proposition Atom) ConditionFault
refusal fault = Err fault

err_is : (f g : ConditionFault) → refusal f ≡ refusal g → f ≡ g
err_is f g e = cc

by_size : (small : Bool) (p : Proposition Atom) (fault : ConditionFault) → (if small then Ok p else Err faults.TooLarge) ≡ Err fault → IsOfSize fault
by_size true p fault e = absurd cc
by_size false p fault e = inr (sym (err_is faults.TooLarge fault e))

-- where all names are those of features, none refuses the expression
none_refuses : (unknown : Unknown) (features : List Feature) (e : Expression) → has_unknown [] features e ≡ false → unknown_refuses (no_macros unknown) features e ≡ false
none_refuses Zero features e known = refl
none_refuses Refuse features e known = known

judged_by_size : (unknown : Unknown) (features : List Feature) (e : Expression) (fault : ConditionFault) → has_reserved e ≡ false → has_unknown [] features e ≡ false → is_linear features e ≡ true → judged (no_macros unknown) features e ≡ Err fault → IsOfSize fault
judged_by_size unknown features e fault allowed known linear is =
    by_size (is_small_condition features e) (cond features e) fault
    (sym (ap (λ b. Judged b (unknown_refuses (no_macros unknown) features e) (has_defined [] e) (is_linear features e)) allowed
    ∙ ap (λ b. Judged false b (has_defined [] e) (is_linear features e)) (none_refuses unknown features e known)
    ∙ ap (λ b. Judged false false b (is_linear features e)) (nothing_defined e) ∙ ap (Judged false false false) linear) ∙ is)
  where
    Judged : Bool → Bool → Bool → Bool → Result (Proposition Atom) ConditionFault
    Judged reserved strange defined linear =
        if reserved then Err faults.ReservedName
        else (if strange then Err faults.UnknownName else (if defined then Err faults.DefinedName else (if linear then (if is_small_condition features e then Ok (cond features e) else Err faults.TooLarge) else Err faults.NonLinear)))

refused : (unknown : Unknown) (features : List Feature) (bytes : List ℕ) (e : Expression) (r : Result (Proposition Atom) ConditionFault) (fault : ConditionFault) → CSpells e bytes → has_reserved e ≡ false → has_unknown [] features e ≡ false → is_linear features e ≡ true
    → ReadsAs (no_macros unknown) features bytes r → r ≡ Err fault → IsOfSize fault
refused unknown features bytes e _ fault c allowed known linear (no_tokens none) is = absurd (none c.tokens c.read)
refused unknown features bytes e _ fault c allowed known linear (too_deep ts s deep) is = inl (sym (err_is faults.TooDeep fault is))
refused unknown features bytes e _ fault c allowed known linear (no_condition ts s few none) is = absurd (none e (subst (λ vs. Spells 6 vs e) (one_list c.read ts s) c.spells))
refused unknown features bytes e _ fault c allowed known linear (read ts d s few spells) is =
    let same : d ≡ e = spelled_once bytes d e (record { tokens = ts; read = s; spells = spells }) c in
    judged_by_size unknown features e fault allowed known linear (subst (λ x. judged (no_macros unknown) features x ≡ Err fault) same is)

module _ {features : List Feature} (named : AreNamed features) (distinct : AreDistinct features) (switches : HaveSwitches features) where
  told_piece : (p : Piece) → IsAtom (length features) (atom_of p) → IsTold features 4 false (piece_text features p) (λ values. bit (piece_holds p values))
  told_piece (Single l) h = looser (told_literal named distinct switches l h)
  told_piece (Value a) h = told_value named distinct switches a h

  told_behind : (text : List ℕ) (f : List ℤ → Bool) (ps : List Piece) → ArePieces (length features) ps → IsTold features 5 false text (λ values. bit (f values))
      → IsTold features 5 false (text ++ behind features ps) (λ values. bit (f values && pieces_hold ps values))
  told_behind text f [] are t = with_text (text ++ []) (sym (append-nil text)) (with_value (λ values. bit (f values && true)) (λ values within. ap bit (and_true (f values))) t)
  told_behind text f (p ∷ ps) are t =
      let one = told_piece p are.0 in
      let own = piece_text features p in
      let two : IsTold features 5 false (text ++ (codes " && " ++ own)) (λ values. bit (f values && piece_holds p values)) =
      with_value (λ values. bit (f values && piece_holds p values)) (λ values within. both_bits (f values) (piece_holds p values))
      (told_both features Both false false false (λ e. absurd (false≢true e)) (codes " && ") text own (λ values. bit (f values)) (λ values. bit (piece_holds p values)) both_mark t one refl) in
      with_text (text ++ ((codes " && " ++ own) ++ behind features ps)) (append_assoc text (codes " && " ++ own) (behind features ps))
      (with_value (λ values. bit (f values && (piece_holds p values && pieces_hold ps values))) (λ values within. ap bit (and_assoc (f values) (piece_holds p values) (pieces_hold ps values)))
      (told_behind (text ++ (codes " && " ++ own)) (λ values. f values && piece_holds p values) ps are.1 two))

  told_pieces : (ps : List Piece) → AreSome ps → ArePieces (length features) ps → IsTold features 6 false (joined (codes " && ") (map (piece_text features) ps)) (λ values. bit (pieces_hold ps values))
  told_pieces [] some are = absurd some
  told_pieces (p ∷ ps) some are = looser (told_behind (piece_text features p) (piece_holds p) ps are.1 (looser (told_piece p are.0)))

  pub told_region : (regions : Regions) (ls : List Literal) → AreLiterals (length features) ls → IsTold features 6 false (region_text regions features ls) (λ values. bit (all_hold ls values))
  told_region regions [] are = looser (looser (looser (looser (looser (looser (any (told_one features)))))))
  told_region regions (l ∷ ls) are =
      with_value (λ values. bit (all_hold (l ∷ ls) values)) (λ values within. ap bit (all_pieces_hold regions features (l ∷ ls) values))
      (told_pieces (pieces_of regions features (l ∷ ls)) (some_pieces regions features l ls) (pieces_are regions (length features) features (l ∷ ls) are))

  -- what a region's text is read as is true exactly where all literals hold
  pub read_truly : (unknown : Unknown) (regions : Regions) (ls : List Literal) (p : Proposition Atom) (values : List ℤ) → AreLiterals (length features) ls → ReadsAs (no_macros unknown) features (region_text regions features ls) (Ok p) → IsWithin features values
      → true_at values p ≡ all_hold ls values
  read_truly unknown regions ls p values are r within =
      let t = told_region regions ls are in
      has_value (no_macros unknown) features (region_text regions features ls) p r t.tree values (c_spells t) within ∙ ap is_nonzero (t.value_is values within) ∙ bit_told (all_hold ls values)

  pub region_spelled : (regions : Regions) (ls : List Literal) → AreLiterals (length features) ls → SpellsRegion regions features ls
  region_spelled regions ls are =
      let t = told_region regions ls are in
      record { expression = t.tree; spelled = c_spells t; true_where = λ values within. ap is_nonzero (t.value_is values within) ∙ bit_told (all_hold ls values) }

  pub refused_by_size : (unknown : Unknown) (regions : Regions) (ls : List Literal) (fault : ConditionFault) → AreLiterals (length features) ls → ReadsAs (no_macros unknown) features (region_text regions features ls) (Err fault) → IsOfSize fault
  refused_by_size unknown regions ls fault are r =
      let t = told_region regions ls are in
      refused unknown features (region_text regions features ls) t.tree (Err fault) fault (c_spells t) t.allowed t.known t.linear r refl

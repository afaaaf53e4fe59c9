-- Generated families are accepted: no phase of reading them has a fault.
use Rattle.std.proofs.Common.{◌≡◌, inl, inr, ℕ, zero, suc, ◌+◌, ◌≤◌, List, [], ◌∷◌, ◌++◌, length, map, Option, Some, None, Result, Ok, Err, refl, ap, ◌∙◌, sym, subst, arith}
use Rattle.fam_outer.specs.declared.faults.Place.{Place}
use Rattle.fam_outer.specs.declared.faults.FileCode.{FileCode}
use Rattle.fam_outer.specs.Places.{end_place}
use Rattle.fam_outer.specs.Results.{and_then}
use Rattle.linear_atoms.specs.declared.atoms.Atom.{Atom}
use Rattle.linear_atoms.specs.declared.atoms.Feature.{Feature}
use Rattle.cpp_conditions.specs.declared.formulas.Formula.{Formula}
use Rattle.cpp_conditions.specs.declared.conditions.Condition.{Condition}
use Rattle.cpp_conditions.specs.declared.models.Model.{Model}
use Rattle.cpp_conditions.specs.View.{proposition}
use Rattle.cpp_conditions.specs.Validity.{Plain, plain}
use Rattle.c_tokens.specs.declared.token.Token.{Token}
use Rattle.c_tokens.specs.Reading.{tokens_of}
use Rattle.c_grammar.specs.declared.items.Item.{Item}
use Rattle.c_grammar.specs.declared.items.Sign.TheVariants as signs
use Rattle.c_grammar.specs.Grammar.{File}
use Rattle.c_grammar.specs.Machine.{start}
use Rattle.c_grammar.specs.Deep.{Fault, guarded}
use Rattle.c_grammar.specs.Deep as limits
use Rattle.c_grammar.specs.Laws.{ReadsWithin, StopsWrong, StopsDeep}
use Rattle.cpp_lines.specs.Code.{code_piece, code_of}
use Rattle.cpp_lines.specs.Defined.{names_of}
use Rattle.cpp_lines.specs.Lines.{pieces}
use Rattle.cpp_lines.specs.Sections.{Told, AreRead, TextIsRead}
use Rattle.cpp_lines.specs.Whole.{blanked_file}
use Rattle.cpp_lines.proofs.CodeLines.{code_pieces}
use Rattle.c_parser.specs.FamilyItems.{HasItems, HasEarlyFault}
use Rattle.c_parser.specs.FamilyReading.{IsFamilyRefused, families_over, context_of}
use Rattle.c_parser.specs.Functions.{own_functions}
use Rattle.c_parser.specs.Items.{Listed, listed}
use Rattle.c_parser.specs.Phases.{HasWrong, HasDeep, HasItemFault}
use Rattle.c_parser.specs.Reading.{items_of_code}
use Rattle.c_parser.proofs.FamilyNames.{by_line_of}
use Rattle.c_parser.proofs.KeptItems.{text_read}
use Rattle.c_parser.proofs.KeptTexts.{TextLaws, same_blanked, same_told, family_fit}
use Rattle.c_parser.proofs.LineItems.{by_both}
use Rattle.family_names.specs.Names.{IsFirstNameFault}
use Rattle.for_blocks.specs.Blocks.{unfolded}
use Rattle.for_blocks.specs.Laws.{OthersStay}
use Rattle.family_generator.specs.Features.{generated_dialect, generated_features}
use Rattle.family_generator.specs.Texts.{generated_text}
use Rattle.family_generator.proofs.BlockTexts.{Block, AreBlocks, generated_blocks, are_blocks}
use Rattle.family_generator.proofs.BlockLines.{file_lines, file_ended, file_pieces, generated_ended}
use Rattle.family_generator.proofs.Blanked.{file_blanked}
use Rattle.family_generator.proofs.Told.{plain_model, kind_in, file_kinds, DefinesNothing, nothing_defined, file_read}
use Rattle.family_generator.proofs.NoFunctions.{file_uncalled, no_functions}
use Rattle.family_generator.proofs.Lexed.{first_in, second_in, file_line_signs, file_lexed, lexed_read, sorted_signs, signs_sorted, file_sorted}
use Rattle.family_generator.proofs.Signs.{laid, laid_again, sign_in, place_in, blocks_signs, file_signs}
use Rattle.family_generator.proofs.Statements.{IsFormed, signs_formed}
use Rattle.family_generator.proofs.FreeNames.{names_free, statements_own}
use Rattle.family_generator.proofs.NameFaults.{no_fault}
use Rattle.family_generator.proofs.NoLoops.{file_stays}

-- what laws of lower crates say
pub record Laws : Type 0 where
  pub texts : TextLaws
  pub reads : ReadsWithin
  pub stops_wrong : StopsWrong
  pub stops_deep : StopsDeep
  pub others : OthersStay

-- ---- an answer is not a fault

abbrev text_ok : List ℕ → Result (List ℕ) (FileCode × Place)
text_ok t = Ok t

abbrev text_err : FileCode × Place → Result (List ℕ) (FileCode × Place)
text_err f = Err f

text_not_both : (r : Result (List ℕ) (FileCode × Place)) (t : List ℕ) (f : FileCode × Place) → r ≡ Ok t → r ≡ Err f → ⊥
text_not_both r t f e g = let z : text_ok t ≡ text_err f = sym e ∙ g in cc

abbrev told_ok : Told → Result Told (FileCode × Place)
told_ok t = Ok t

abbrev told_err : FileCode × Place → Result Told (FileCode × Place)
told_err f = Err f

told_not_both : (t : Told) (f : FileCode × Place) → told_ok t ≡ told_err f → ⊥
told_not_both t f e = let z : told_ok t ≡ told_err f = e in cc

abbrev listed_ok : Listed → Result Listed (FileCode × Place)
listed_ok t = Ok t

abbrev listed_err : FileCode × Place → Result Listed (FileCode × Place)
listed_err f = Err f

listed_not_both : (r : Result Listed (FileCode × Place)) (t : Listed) (f : FileCode × Place) → r ≡ Ok t → r ≡ Err f → ⊥
listed_not_both r t f e g = let z : listed_ok t ≡ listed_err f = sym e ∙ g in cc

abbrev file_ok : File → Result File Fault
file_ok t = Ok t

abbrev file_err : Fault → Result File Fault
file_err f = Err f

file_not_both : (r : Result File Fault) (t : File) (f : Fault) → r ≡ Ok t → r ≡ Err f → ⊥
file_not_both r t f e g = let z : file_ok t ≡ file_err f = sym e ∙ g in cc

abbrev some_fault : FileCode × Place → Option (FileCode × Place)
some_fault f = Some f

abbrev no_fault_there : Option (FileCode × Place)
no_fault_there = None

not_none : (f : FileCode × Place) → some_fault f ≡ no_fault_there → ⊥
not_none f e = let z : some_fault f ≡ no_fault_there = e in cc

-- ---- what is known of a generated family

pub record Accepts (laws : Laws) (model : Model) (text : List ℕ) (bs : List Block) : Type 0 where
  features : model.features ≡ generated_features
  model_is : plain model ≡ plain_model
  blocks : AreBlocks bs
  cut : pieces text ≡ file_lines bs
  blanked : blanked_file text ≡ Ok text
  told : Told
  read : TextIsRead generated_dialect (plain model) text (Ok told)
  sorts : map kind_in told.lines ≡ file_kinds bs

-- the code has tokens
code_read : (laws : Laws) (model : Model) (text : List ℕ) (bs : List Block) → Accepts laws model text bs → (ts : List Token) × (tokens_of (code_of text) ≡ Ok ts)
code_read laws model text bs a =
    text_read laws.texts.apart (code_of text) (map code_piece (file_lines bs)) (code_pieces text ∙ ap (map code_piece) a.cut)
    (lexed_read [] (file_lines bs) (file_line_signs (first_in []) (second_in []) bs) (file_lexed [] bs a.blocks))

-- it declares no functions
none_outside : (laws : Laws) (model : Model) (text : List ℕ) (bs : List Block) → Accepts laws model text bs → own_functions (code_of text) ≡ []
none_outside laws model text bs a =
    let ts = code_read laws model text bs a in
    no_functions laws.texts.tokens laws.texts.apart text (file_lines bs) (file_line_signs (first_in []) (second_in []) bs) ts.0 a.cut ts.1 (file_lexed [] bs a.blocks) (file_uncalled (first_in []) (second_in []) bs)

-- ---- no phase before the grammar has a fault

no_early : (laws : Laws) (model : Model) (text : List ℕ) (bs : List Block) (fault : FileCode × Place) → Accepts laws model text bs → HasEarlyFault generated_dialect (plain model) text fault → ⊥
no_early laws model text bs fault a (inl e) = text_not_both (blanked_file text) text fault a.blanked e
no_early laws model text bs fault a (inr (inl h)) =
    let same : h.blanked ≡ text = same_blanked text h.blanked text h.without_comments a.blanked in
    told_not_both a.told fault (laws.texts.told generated_dialect (plain model) text (Ok a.told) (Err fault) a.read (subst (λ (t : List ℕ). TextIsRead generated_dialect (plain model) t (Err fault)) same h.read))
no_early laws model text bs fault a (inr (inr h)) =
    let same : h.blanked ≡ text = same_blanked text h.blanked text h.without_comments a.blanked in
    let ts = code_read laws model text bs a in
    let functions = own_functions (code_of text) in
    listed_not_both (items_of_code functions [] (code_of text)) (listed functions [] (code_of text) ts.0) fault (ap (λ (r : Result (List Token) (FileCode × Place)). and_then r (λ us. Ok (listed (own_functions (code_of text)) [] (code_of text) us))) ts.1)
    (ap (λ (t : List ℕ). items_of_code (own_functions (code_of t)) [] (code_of t)) (sym same) ∙ h.token)

-- ---- the items of the family

signs_are : (laws : Laws) (model : Model) (text : List ℕ) (bs : List Block) (told : Told) (l : Listed) → Accepts laws model text bs → HasItems generated_dialect (plain model) text told l
    → map sign_in l.items ≡ file_signs (first_in l.names) (second_in l.names) bs
signs_are laws model text bs told l a h =
    let by = by_line_of laws.texts.tokens laws.texts.apart generated_dialect (plain model) text told l h in
    let same = same_told laws.texts generated_dialect (plain model) text h.blanked text told a.told h.without_comments a.blanked h.read a.read in
    let none : own_functions (code_of h.blanked) ≡ [] = ap (λ (t : List ℕ). own_functions (code_of t)) same.blanked ∙ none_outside laws model text bs a in
    let mine : l.names ≡ h.tokens.names = ap (λ (k : Listed). k.names) h.is in
    let x = first_in h.tokens.names in
    let y = second_in h.tokens.names in
    ap (map sign_in) by.are
    ∙ ap (λ (fs : List (List ℕ)). map sign_in (by_both fs h.tokens.names 0 told.lines (map code_piece (pieces h.blanked)))) none
    ∙ ap (λ (t : Told). map sign_in (by_both [] h.tokens.names 0 t.lines (map code_piece (pieces h.blanked)))) same.told
    ∙ ap (λ (ps : List (List ℕ)). map sign_in (by_both [] h.tokens.names 0 a.told.lines (map code_piece ps))) (ap pieces same.blanked ∙ a.cut)
    ∙ signs_sorted h.tokens.names 0 a.told.lines (file_lines bs) (file_line_signs (first_in h.tokens.names) (second_in h.tokens.names) bs) (file_lexed h.tokens.names bs a.blocks)
    ∙ ap (λ (ks : List _). sorted_signs ks (file_line_signs (first_in h.tokens.names) (second_in h.tokens.names) bs)) a.sorts
    ∙ file_sorted x y bs
    ∙ ap (λ (ns : List (List ℕ)). file_signs (first_in ns) (second_in ns) bs) (sym mine)

no_wrong : (laws : Laws) (l : Listed) (end : Place) (fault : FileCode × Place) → IsFormed l.items → HasWrong l end fault → ⊥
no_wrong laws l end fault f w =
    file_not_both (guarded start 0 l.items) f.made (limits.Wrong w.wrong.left) ((laws.reads l.items f.made).1 f.formed) ((laws.stops_wrong l.items w.wrong.left).1 (w.wrong.wrong, w.wrong.shallow))

no_deep : (laws : Laws) (l : Listed) (end : Place) (fault : FileCode × Place) → IsFormed l.items → HasDeep l end fault → ⊥
no_deep laws l end fault f d =
    file_not_both (guarded start 0 l.items) f.made (limits.Deep d.deep.left) ((laws.reads l.items f.made).1 f.formed) ((laws.stops_deep l.items d.deep.left).1 d.deep.deep)

abbrev nowhere : Place
nowhere = record { line = 0; column = 0 }

-- the items by their places and signs
items_laid : (x y : ℕ) (bs : List Block) (xs : List Item) → map sign_in xs ≡ file_signs x y bs → xs ≡ laid (place_in nowhere xs) 0 (file_signs x y bs)
items_laid x y bs xs e = sym (laid_again nowhere xs) ∙ ap (laid (place_in nowhere xs) 0) e

no_name : (laws : Laws) (model : Model) (text : List ℕ) (bs : List Block) (told : Told) (l : Listed) (atoms : List Atom) (formulas : List Formula) (functions : List (List ℕ)) (fault : FileCode × Place) → Accepts laws model text bs → HasItems generated_dialect (plain model) text told l
    → IsFirstNameFault (context_of model atoms formulas l.names functions) (unfolded l.items) (Some fault) → ⊥
no_name laws model text bs told l atoms formulas functions fault a h n =
    let context = context_of model atoms formulas l.names functions in
    let x = first_in l.names in
    let y = second_in l.names in
    let f = place_in nowhere l.items in
    let are = signs_are laws model text bs told l a h in
    let free = names_free (context_of model atoms formulas l.names functions) bs l.items a.features (family_fit laws.texts generated_dialect (plain model) text told l h) are in
    not_none fault (no_fault context f x y (laid f 12 (blocks_signs x y 0 bs ++ signs.RightBrace ∷ [])) (Some fault) free (statements_own f x y bs)
    (subst (λ (xs : List Item). IsFirstNameFault (context_of model atoms formulas l.names functions) xs (Some fault)) (ap unfolded (items_laid x y bs l.items are) ∙ file_stays laws.others f x y bs) n))

no_item : (laws : Laws) (model : Model) (text : List ℕ) (bs : List Block) (fault : FileCode × Place) → Accepts laws model text bs → HasItemFault (families_over generated_dialect model) text fault → ⊥
no_item laws model text bs fault a h =
    let formed = signs_formed (first_in h.listed.names) (second_in h.listed.names) bs h.listed.items (signs_are laws model text bs h.are.told h.listed a h.are.items) in
    elim h.is [
      | inl w ↦ no_wrong laws h.listed (end_place text) fault formed w
      | inr rest ↦ elim rest [
        | inl d ↦ no_deep laws h.listed (end_place text) fault formed d
        | inr n ↦ no_name laws model text bs h.are.told h.listed h.known.atoms h.known.formulas h.known.functions fault a h.are.items n.names
      ]
    ]

not_refused : (laws : Laws) (model : Model) (text : List ℕ) (bs : List Block) (fault : FileCode × Place) → Accepts laws model text bs → IsFamilyRefused generated_dialect model text fault → ⊥
not_refused laws model text bs fault a (inl e) = no_early laws model text bs fault a e
not_refused laws model text bs fault a (inr i) = no_item laws model text bs fault a i

-- ---- and it is known of each

blocks_counted : (number k left : ℕ) → length (generated_blocks number k left) ≡ left
blocks_counted number k zero = refl
blocks_counted number k (suc left) = omega (arith, blocks_counted number (k + 1) left)

same_plain : (model : Model) → model.features ≡ generated_features → model.constraints ≡ [] → plain model ≡ plain_model
same_plain model f c =
    ap (λ (fs : List Feature). record { features = fs; constraints = map proposition model.constraints }) f
    ∙ ap (λ (cs : List Condition). record { features = generated_features; constraints = map proposition cs }) c

accepts : (laws : Laws) (model : Model) (number : ℕ) → model.features ≡ generated_features → model.constraints ≡ [] → number ≤ 2000 → Accepts laws model (file_ended (generated_blocks number 0 number)) (generated_blocks number 0 number)
accepts laws model number f c le =
    let bs = generated_blocks number 0 number in
    let all = are_blocks number 0 number in
    let undefined : DefinesNothing (file_ended (generated_blocks number 0 number)) = ap names_of (file_pieces bs all) ∙ nothing_defined bs in
    let reads = file_read (file_ended (generated_blocks number 0 number)) undefined (generated_blocks number 0 number) all in
    let few : length (generated_blocks number 0 number) ≤ 2000 = omega (arith, blocks_counted number 0 number, le) in
    record {
      features = f;
      model_is = same_plain model f c;
      blocks = all;
      cut = file_pieces bs all;
      blanked = file_blanked bs all few;
      told = reads.told;
      read = subst (λ (m : Plain). TextIsRead generated_dialect m (file_ended (generated_blocks number 0 number)) (Ok reads.told)) (sym (same_plain model f c))
          (subst (λ (ps : List (List ℕ)). AreRead generated_dialect plain_model (file_ended (generated_blocks number 0 number)) [] [] [] 0 ps (Ok reads.told)) (sym (file_pieces bs all)) reads.read);
      sorts = reads.sorts_are;
    }

-- reading a generated family has no refusal but want of memory
pub generated_not_refused : Laws → (model : Model) (number : ℕ) (fault : FileCode × Place) → model.features ≡ generated_features → model.constraints ≡ [] → number ≤ 2000 → IsFamilyRefused generated_dialect model (generated_text number) fault → ⊥
generated_not_refused laws model number fault f c le h =
    not_refused laws model (file_ended (generated_blocks number 0 number)) (generated_blocks number 0 number) fault (accepts laws model number f c le)
    (subst (λ (t : List ℕ). IsFamilyRefused generated_dialect model t fault) (generated_ended number) h)

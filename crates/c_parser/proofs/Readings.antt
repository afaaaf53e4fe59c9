-- A file has one reading: that which the machine decides.
use Rattle.std.proofs.Common.{◌≡◌, ℕ, ◌+◌, ◌-◌, ◌<◌, List, ◌∷◌, length, Option, Some, None, Result, Ok, Err, refl, sym, ap, ◌∙◌, arith, inl, inr, ◌⊎◌}
use Rattle.std.proofs.lemmas.Bool.{lt-ltb}
use Rattle.std.proofs.lemmas.List.{length-append}
use Rattle.fam_outer.specs.declared.dialect.Includes.{Includes}
use Rattle.fam_outer.specs.declared.faults.Place.{Place}
use Rattle.fam_outer.specs.declared.faults.FileCode.{FileCode}
use Rattle.fam_outer.specs.declared.faults.FileCode.TheVariants.{TooDeep, TooLong}
use Rattle.fam_outer.specs.Limits.{file_bytes}
use Rattle.fam_outer.specs.Places.{end_place}
use Rattle.fam_outer.specs.Results.{and_then}
use Rattle.c_tree.specs.Tree.{Whole}
use Rattle.c_grammar.specs.declared.items.Item.{Item}
use Rattle.c_grammar.specs.Grammar.{File, whole_of}
use Rattle.c_grammar.specs.Machine.{start}
use Rattle.c_grammar.specs.Deep as limits
use Rattle.c_grammar.specs.Deep.{Fault, guarded}
use Rattle.c_grammar.specs.Within.{SpellsWithin}
use Rattle.c_grammar.specs.Laws.{ReadsWithin, StopsWrong, StopsDeep}
use Rattle.item_reader.specs.Reading.{IsWrongAt, IsDeepAt}
use Rattle.feature_values.specs.Declarators.{with_presets}
use Rattle.for_blocks.specs.Blocks.{unfolded}
use Rattle.c_parser.specs.Items.{Listed}
use Rattle.c_parser.specs.Names.{first_name_fault}
use Rattle.cpp_lines.specs.Whole.{file_place}
use Rattle.c_parser.specs.Phases.{HasDeep, HasNameFault, HasWrong, place_with, wrong_code}
use Rattle.c_parser.specs.Reading.{Given, outside, plain_files, IsPlainReadOver, code_of_file, items_of}

-- the laws of the grammar that are used here
pub record GrammarLaws : Type 0 where
  pub reads : ReadsWithin
  pub stops_wrong : StopsWrong
  pub stops_deep : StopsDeep

abbrev Came : Type 0
Came = Result File Fault

-- ---- what was told of the items decides what the machine comes to

pub record CameTo (l : Listed) (p : Whole) : Type 0 where
  pub file : File
  pub came : guarded start 0 l.items ≡ Ok file
  pub is : p ≡ whole_of l.names l.items file

pub record StoppedAt (items : List Item) (n : ℕ) (fault : ℕ → Fault) : Type 0 where
  pub left : ℕ
  pub there : n + left ≡ length items
  pub came : guarded start 0 items ≡ Err (fault left)

-- items that spell a program are read
came_to : GrammarLaws → (l : Listed) (p : Whole) → SpellsWithin l.names p l.items → CameTo l p
came_to laws l p s = record { file = s.file; came = (laws.reads l.items s.file).1 s.forms; is = s.is }

wrong_stops : GrammarLaws → (items : List Item) (n : ℕ) → IsWrongAt items n → StoppedAt items n limits.Wrong
wrong_stops laws items n w = record { left = w.left; there = w.position; came = (laws.stops_wrong items w.left).1 (w.wrong, w.shallow) }

deep_stops : GrammarLaws → (items : List Item) (n : ℕ) → IsDeepAt items n → StoppedAt items n limits.Deep
deep_stops laws items n d = record { left = d.left; there = d.position; came = (laws.stops_deep items d.left).1 d.deep }

-- ---- what the machine decides: the program of the items, or their fault

abbrev pub Answer : Type 0
Answer = Result Whole (FileCode × Place)

-- `code` is that of a wrong item at a position
abbrev spelled_of : (ℕ → FileCode) → Listed → Place → Came → Answer
spelled_of code l end (Ok f) = Ok (whole_of l.names l.items f)
spelled_of code l end (Err (limits.Wrong k)) = Err (code (length l.items - k), place_with l.items (length l.items - k) end)
spelled_of code l end (Err (limits.Deep k)) = Err (TooDeep, place_with l.items (length l.items - k) end)

abbrev pub spelled_by : (ℕ → FileCode) → Listed → Place → Answer
spelled_by code l end = spelled_of code l end (guarded start 0 l.items)

pub program_spelled : GrammarLaws → (code : ℕ → FileCode) (l : Listed) (end : Place) (p : Whole) → SpellsWithin l.names p l.items → spelled_by code l end ≡ Ok p
program_spelled laws code l end p s =
    let c = came_to laws l p s in
    ap (spelled_of code l end) c.came ∙ ap (λ (q : Whole). Ok q) (sym c.is)

same_position : (n k all : ℕ) → n + k ≡ all → n ≡ all - k
same_position n k all e = omega (arith, e)

pub wrong_spelled : GrammarLaws → (code : ℕ → FileCode) (l : Listed) (end : Place) (n : ℕ) → IsWrongAt l.items n → spelled_by code l end ≡ Err (code n, place_with l.items n end)
wrong_spelled laws code l end n w =
    let s = wrong_stops laws l.items n w in
    ap (spelled_of code l end) s.came ∙ ap (λ (m : ℕ). Err (code m, place_with l.items m end)) (sym (same_position n s.left (length l.items) s.there))

pub deep_spelled : GrammarLaws → (code : ℕ → FileCode) (l : Listed) (end : Place) (n : ℕ) → IsDeepAt l.items n → spelled_by code l end ≡ Err (TooDeep, place_with l.items n end)
deep_spelled laws code l end n d =
    let s = deep_stops laws l.items n d in
    ap (spelled_of code l end) s.came ∙ ap (λ (m : ℕ). Err (TooDeep, place_with l.items m end)) (sym (same_position n s.left (length l.items) s.there))

-- ---- and then the names

abbrev pub with_names : Option (FileCode × Place) → Whole → Answer
with_names None p = Ok p
with_names (Some fault) p = Err fault

-- the values from outside are start values
abbrev preset_or : Given → Option (FileCode × Place) → Whole → Answer
preset_or given fault p = with_names fault (with_presets given.values p)

abbrev answer_over : Given → Listed → Place → Answer
answer_over given l end = and_then (spelled_by (wrong_code l.items) l end) (preset_or given (first_name_fault (outside given) (unfolded l.items)))

abbrev answer : Includes → Given → List ℕ → Answer
answer includes given bytes = and_then (items_of includes given.functions given.names bytes) (λ l. answer_over given l (end_place bytes))

named : GrammarLaws → (given : Given) (l : Listed) (end : Place) (p : Whole) (fault : Option (FileCode × Place)) → SpellsWithin l.names p l.items → first_name_fault (outside given) (unfolded l.items) ≡ fault → answer_over given l end ≡ preset_or given fault p
named laws given l end p fault s e =
    ap (λ (x : Answer). and_then x (preset_or given (first_name_fault (outside given) (unfolded l.items)))) (program_spelled laws (wrong_code l.items) l end p s) ∙ ap (λ (o : Option (FileCode × Place)). preset_or given o p) e

-- an item is wrong or too deep, or a name has a fault
abbrev Refuses : Includes → Given → Listed → Place → FileCode × Place → Type 0
Refuses includes given l end fault = HasWrong l end fault ⊎ (HasDeep l end fault ⊎ HasNameFault (plain_files includes given) l tt fault)

refused_answer : GrammarLaws → (includes : Includes) (given : Given) (l : Listed) (end : Place) (fault : FileCode × Place) → Refuses includes given l end fault → answer_over given l end ≡ Err fault
refused_answer laws includes given l end fault (inl w) =
    ap (λ (x : Answer). and_then x (preset_or given (first_name_fault (outside given) (unfolded l.items)))) (wrong_spelled laws (wrong_code l.items) l end w.position w.wrong) ∙ ap (λ (f : FileCode × Place). Err f) (sym w.is)
refused_answer laws includes given l end fault (inr (inl w)) =
    ap (λ (x : Answer). and_then x (preset_or given (first_name_fault (outside given) (unfolded l.items)))) (deep_spelled laws (wrong_code l.items) l end w.position w.deep) ∙ ap (λ (f : FileCode × Place). Err f) (sym w.is)
refused_answer laws includes given l end fault (inr (inr w)) = named laws given l end w.program (Some fault) w.spelled w.names

is_answer : GrammarLaws → (includes : Includes) (given : Given) (bytes : List ℕ) (r : Answer) → IsPlainReadOver includes given bytes r → answer includes given bytes ≡ r
is_answer laws includes given bytes (Ok p) a =
    ap (λ (x : Result Listed (FileCode × Place)). and_then x (λ l. answer_over given l (end_place bytes))) a.accepted.are
    ∙ named laws given a.accepted.listed (end_place bytes) a.spelled None a.accepted.spelled a.accepted.names
    ∙ ap (λ (q : Whole). Ok q) (sym a.is)
is_answer laws includes given bytes (Err fault) (inl is) = ap (λ (x : Result Listed (FileCode × Place)). and_then x (λ l. answer_over given l (end_place bytes))) is
is_answer laws includes given bytes (Err fault) (inr h) =
    ap (λ (x : Result Listed (FileCode × Place)). and_then x (λ l. answer_over given l (end_place bytes))) h.are ∙ refused_answer laws includes given h.listed (end_place bytes) fault h.is

-- a file is read in one way
pub reads_once : GrammarLaws → (includes : Includes) (given : Given) (bytes : List ℕ) (r s : Answer) → IsPlainReadOver includes given bytes r → IsPlainReadOver includes given bytes s → r ≡ s
reads_once laws includes given bytes r s h k = sym (is_answer laws includes given bytes r h) ∙ is_answer laws includes given bytes s k

-- ---- each file is read

-- what stands in an answer behind the items
abbrev IsJudged : Includes → Given → Listed → Place → Answer → Type 0
IsJudged includes given l end (Ok p) = SpellsWithin l.names p l.items × (first_name_fault (outside given) (unfolded l.items) ≡ None)
IsJudged includes given l end (Err fault) = Refuses includes given l end fault

with_fault : (includes : Includes) (given : Given) (l : Listed) (end : Place) (p : Whole) → SpellsWithin l.names p l.items → (o : Option (FileCode × Place)) → first_name_fault (outside given) (unfolded l.items) ≡ o → (r : Answer) × IsJudged includes given l end r
with_fault includes given l end p s None e = (Ok p, (s, e))
with_fault includes given l end p s (Some fault) e = (Err fault, inr (inr (record { program = p; spelled = s; names = e })))

by_machine : GrammarLaws → (includes : Includes) (given : Given) (l : Listed) (end : Place) (g : Came) → guarded start 0 l.items ≡ g → (r : Answer) × IsJudged includes given l end r
by_machine laws includes given l end (Ok f) e = with_fault includes given l end (whole_of l.names l.items f) (record { file = f; forms = (laws.reads l.items f).0 e; is = refl }) (first_name_fault (outside given) (unfolded l.items)) refl
by_machine laws includes given l end (Err (limits.Wrong k)) e =
    let b = (laws.stops_wrong l.items k).0 e in
    let w = b.0 in (
      Err (wrong_code l.items (length w.before), place_with l.items (length w.before) end),
      inl (record {
        position = length w.before;
        wrong = record { left = k; position = omega (arith, ap length w.cut, length-append w.before w.rest, w.left); wrong = w; shallow = b.1 };
        is = refl;
      }),
    )
by_machine laws includes given l end (Err (limits.Deep k)) e =
    let a = (laws.stops_deep l.items k).0 e in (
      Err (TooDeep, place_with l.items (length a.before) end),
      inr (inl (record {
        position = length a.before;
        deep = record { left = k; position = omega (arith, ap length a.cut, length-append a.before (a.item ∷ a.rest), a.left); deep = a };
        is = refl;
      })),
    )

-- the answer of a file, by that of its items
abbrev preset_answer : Given → Answer → Answer
preset_answer given (Ok p) = Ok (with_presets given.values p)
preset_answer given (Err fault) = Err fault

judged_reads : (includes : Includes) (given : Given) (bytes : List ℕ) (l : Listed) → items_of includes given.functions given.names bytes ≡ Ok l → (r : Answer) → IsJudged includes given l (end_place bytes) r → IsPlainReadOver includes given bytes (preset_answer given r)
judged_reads includes given bytes l is (Ok p) j = record { spelled = p; accepted = record { listed = l; are = is; spelled = j.0; names = j.1 }; is = refl }
judged_reads includes given bytes l is (Err fault) j = inr (record { listed = l; known = tt; are = is; is = j })

by_items : GrammarLaws → (includes : Includes) (given : Given) (bytes : List ℕ) (x : Result Listed (FileCode × Place)) → items_of includes given.functions given.names bytes ≡ x → (r : Answer) × IsPlainReadOver includes given bytes r
by_items laws includes given bytes (Ok l) is = let j = by_machine laws includes given l (end_place bytes) (guarded start 0 l.items) refl in (preset_answer given j.0, judged_reads includes given bytes l is j.0 j.1)
by_items laws includes given bytes (Err fault) is = (Err fault, inl is)

-- each file is read
pub reads_any : GrammarLaws → (includes : Includes) (given : Given) (bytes : List ℕ) → (r : Answer) × IsPlainReadOver includes given bytes r
reads_any laws includes given bytes = by_items laws includes given bytes (items_of includes given.functions given.names bytes) refl

-- a file of more bytes is refused whole
pub reads_too_long : (includes : Includes) (given : Given) (bytes : List ℕ) → file_bytes < length bytes → IsPlainReadOver includes given bytes (Err (TooLong, file_place))
unfolding items_of code_of_file
reads_too_long includes given bytes h = inl (rw (lt-ltb file_bytes (length bytes) h) refl)

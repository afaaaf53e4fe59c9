-- What contracts see of what is open: the data of the machine, without boxes and capacities. A list whose innermost
-- comes last is seen with the innermost first.
use Rattle.std.specs.Prelude.{◌≡◌, ℕ, Bool, true, false, List, map, length, reverse, Option, Result, IfOk, option_map}
use Rattle.fam_outer.specs.declared.text.NoMemory.{NoMemory}
use Rattle.c_tree.specs.View.{term, front, code}
use Rattle.c_tree.specs.Tree.{Code, Done}
use Rattle.c_grammar.specs.declared.items.Sign.{Sign}
use Rattle.c_grammar.specs.declared.items.Sign.TheVariants as signs
use Rattle.c_grammar.specs.Grammar as grammar
use Rattle.c_grammar.specs.Machine as machine
use Rattle.reading_states.specs.declared.words.Prefix.{Prefix}
use Rattle.reading_states.specs.declared.words.Prefix.TheVariants as prefixes
use Rattle.reading_states.specs.declared.words.Update.{Update}
use Rattle.reading_states.specs.declared.words.Update.TheVariants as updates
use Rattle.reading_states.specs.declared.words.Count.{Count}
use Rattle.reading_states.specs.declared.words.Count.TheVariants as counts
use Rattle.reading_states.specs.declared.unfinished.Frame.{Frame}
use Rattle.reading_states.specs.declared.unfinished.Frame.TheVariants as frames
use Rattle.reading_states.specs.declared.unfinished.Link.{Link}
use Rattle.reading_states.specs.declared.unfinished.Start.{Start}
use Rattle.reading_states.specs.declared.unfinished.Start.TheVariants as starts
use Rattle.reading_states.specs.declared.unfinished.Stack.{Stack}
use Rattle.reading_states.specs.declared.unfinished.Stack.TheVariants as stacks
use Rattle.reading_states.specs.declared.unfinished.Onward.{Onward}
use Rattle.reading_states.specs.declared.unfinished.Onward.TheVariants as onwards
use Rattle.reading_states.specs.declared.unfinished.Scope.{Scope}
use Rattle.reading_states.specs.declared.unfinished.Scope.TheVariants as scopes
use Rattle.reading_states.specs.declared.unfinished.Site.{Site}
use Rattle.reading_states.specs.declared.unfinished.Site.TheVariants as sites
use Rattle.reading_states.specs.declared.unfinished.Purpose.{Purpose}
use Rattle.reading_states.specs.declared.unfinished.Purpose.TheVariants as purposes
use Rattle.reading_states.specs.declared.unfinished.Pending.{Pending}
use Rattle.reading_states.specs.declared.unfinished.Pending.TheVariants as pendings
use Rattle.reading_states.specs.declared.states.Sections.{Sections}
use Rattle.reading_states.specs.declared.states.Sections.TheVariants as sections
use Rattle.reading_states.specs.declared.words.Leading.{Leading}
use Rattle.reading_states.specs.declared.words.Leading.TheVariants as leadings
use Rattle.reading_states.specs.declared.words.Qualifier.{Qualifier}
use Rattle.reading_states.specs.declared.words.Qualifier.TheVariants as qualifiers
use Rattle.reading_states.specs.declared.words.TypeWords.{TypeWords}
use Rattle.reading_states.specs.declared.words.TypeWords.TheVariants as type_words
use Rattle.reading_states.specs.declared.words.StaticPart.{StaticPart}
use Rattle.reading_states.specs.declared.words.StaticPart.TheVariants as static_parts
use Rattle.reading_states.specs.declared.states.Aim.{Aim}
use Rattle.reading_states.specs.declared.states.Aim.TheVariants as aims
use Rattle.reading_states.specs.declared.states.Tailing.{Tailing}
use Rattle.reading_states.specs.declared.states.Tailing.TheVariants as tailings
use Rattle.reading_states.specs.declared.states.File.{File}
use Rattle.reading_states.specs.declared.states.ReadingState.{ReadingState}
use Rattle.reading_states.specs.declared.states.ReadingState.TheVariants as states

abbrev pub as_prefix : Prefix → grammar.Prefix
as_prefix prefixes.Positive = grammar.Positive
as_prefix prefixes.Negative = grammar.Negative
as_prefix prefixes.Inverse = grammar.Inverse

abbrev pub as_update : Update → grammar.Update
as_update updates.Sum = grammar.Sum
as_update updates.Difference = grammar.Difference
as_update updates.Product = grammar.Product
as_update updates.Quotient = grammar.Quotient
as_update updates.Remainder = grammar.Remainder

abbrev pub as_count : Count → grammar.Count
as_count counts.Raise = grammar.Raise
as_count counts.Lower = grammar.Lower

abbrev pub as_frame : Frame → machine.Frame
as_frame frames.Paren = machine.Paren
as_frame (frames.Pre u) = machine.Pre (as_prefix u)
as_frame (frames.Left op a) = machine.Left op (term a)

unfoldable pub as_frames : List Frame → List machine.Frame
as_frames list = map as_frame (reverse list)

abbrev pub as_link : Link → ℕ × Code
as_link link = (link.number, code link.made.items)

unfoldable pub as_links : List Link → List (ℕ × Code)
as_links list = map as_link (reverse list)

abbrev pub as_start : Start → machine.Start
as_start (starts.ChangeStart made) = machine.ChangeStart (code made.items)
as_start (starts.DeclaredStart place made) = machine.DeclaredStart place (code made.items)

abbrev pub as_stack : Stack → machine.Stack
as_stack (stacks.Top declared made) = machine.Top declared.items (code made.items)
as_stack (stacks.Braces' place made q outer) = machine.Braces place (code made.items) (as_stack outer)
as_stack (stacks.Yes' links number made q outer) = machine.Yes (as_links links.items) number (code made.items) (as_stack outer)
as_stack (stacks.No' links number first made q outer) = machine.No (as_links links.items) number (code first.items) (code made.items) (as_stack outer)
as_stack (stacks.ThenOf' place test q outer) = machine.ThenOf place (term test) (as_stack outer)
as_stack (stacks.ElseOf' place test first q outer) = machine.ElseOf place (term test) (code first.items) (as_stack outer)
as_stack (stacks.LoopOf' start place test advance q outer) = machine.LoopOf (as_start start) place (term test) (code advance.items) (as_stack outer)
as_stack (stacks.DoOf' place q outer) = machine.DoOf place (as_stack outer)

abbrev pub as_onward : Onward → machine.Onward
as_onward (onwards.InList outer) = machine.InList (as_stack outer)
as_onward (onwards.AtTest place body outer) = machine.AtTest place (code body.items) (as_stack outer)

abbrev pub as_scope : Scope → machine.Scope
as_scope (scopes.ListScope outer) = machine.ListScope (as_stack outer)
as_scope (scopes.ForScope place made outer) = machine.ForScope place (code made.items) (as_stack outer)

abbrev pub as_site : Site → machine.Site
as_site (sites.AsStatement outer) = machine.AsStatement (as_stack outer)
as_site (sites.AsStart outer) = machine.AsStart (as_stack outer)
as_site (sites.AsStep start place test outer) = machine.AsStep (as_start start) place (term test) (as_stack outer)

abbrev pub as_qualifier : Qualifier → grammar.Qualifier
as_qualifier qualifiers.Unqualified = grammar.Unqualified
as_qualifier qualifiers.Constant = grammar.Constant
as_qualifier (qualifiers.Counted last) = grammar.Counted last

abbrev pub as_purpose : Purpose → machine.Use
as_purpose (purposes.ToAssign place target site) = machine.ToAssign place target (as_site site)
as_purpose (purposes.ToInitialise kind place target scope) = machine.ToInitialise (as_qualifier kind) place target (as_scope scope)
as_purpose (purposes.ToUpdate place target update site) = machine.ToUpdate place target (as_update update) (as_site site)
as_purpose (purposes.ToAssert place outer) = machine.ToAssert place (as_stack outer)
as_purpose (purposes.ToChoose place outer) = machine.ToChoose place (as_stack outer)
as_purpose (purposes.ToLoop place outer) = machine.ToLoop place (as_stack outer)
as_purpose (purposes.ToRepeat start place outer) = machine.ToRepeat (as_start start) place (as_stack outer)
as_purpose (purposes.ToRedo place body test_place outer) = machine.ToRedo place (code body.items) test_place (as_stack outer)
as_purpose (purposes.ToReturn place outer) = machine.ToReturn place (as_stack outer)

abbrev pub as_pending : Pending → machine.Pending
as_pending (pendings.OfStatement site statement) = machine.OfStatement (as_site site) (front statement Done)
as_pending (pendings.OfLocal kind scope statement) = machine.OfLocal (as_qualifier kind) (as_scope scope) (front statement Done)

abbrev pub as_sections : Sections → machine.Sections
as_sections sections.Outermost = machine.Outermost
as_sections (sections.InPart' guards number q outer) = machine.InPart guards.items number (as_sections outer)
as_sections (sections.InLast' guards q outer) = machine.InLast guards.items (as_sections outer)

abbrev pub as_leading : Leading → machine.Leading
as_leading leadings.NoWord = machine.NoWord
as_leading leadings.StaticWord = machine.StaticWord
as_leading leadings.ExternWord = machine.ExternWord
as_leading leadings.ConstWord = machine.ConstWord

abbrev pub as_words : TypeWords → machine.TypeWords
as_words type_words.OneInt = machine.OneInt
as_words type_words.OneSigned = machine.OneSigned
as_words type_words.WholeType = machine.WholeType

abbrev pub as_static_part : StaticPart → machine.StaticPart
as_static_part static_parts.BehindStatic = machine.BehindStatic
as_static_part static_parts.BehindStaticConst = machine.BehindStaticConst
as_static_part (static_parts.BehindStaticType kind words) = machine.BehindStaticType (as_qualifier kind) (as_words words)
as_static_part (static_parts.BeforeStaticName kind) = machine.BeforeStaticName (as_qualifier kind)
as_static_part (static_parts.BehindStaticName kind) = machine.BehindStaticName (as_qualifier kind)
as_static_part (static_parts.BehindStaticEquals kind) = machine.BehindStaticEquals (as_qualifier kind)
as_static_part (static_parts.BehindStaticMinus kind) = machine.BehindStaticMinus (as_qualifier kind)
as_static_part (static_parts.BehindStaticNumber kind) = machine.BehindStaticNumber (as_qualifier kind)

abbrev pub as_aim : Aim → machine.Aim
as_aim (aims.ToPrototype secs declared) = machine.ToPrototype (as_sections secs) declared.items
as_aim (aims.ToMain declared) = machine.ToMain declared.items

abbrev pub as_tailing : Tailing → machine.Tailing
as_tailing (tailings.Another numbers) = machine.Another (length numbers.items)
as_tailing (tailings.Final numbers) = machine.Final (length numbers.items)

unfoldable pub as_parts : List Tailing → List machine.Tailing
as_parts list = map as_tailing (reverse list)

abbrev pub as_file : File → grammar.File
as_file file = grammar.file_of file.declared.items (code file.body.items) file.end

abbrev pub as_state : ReadingState → machine.ReadingState
as_state (states.Outside secs ds) = machine.Outside (as_sections secs) ds.items
as_state (states.AfterStatic secs ds) = machine.AfterStatic (as_sections secs) ds.items
as_state (states.AfterExtern secs ds) = machine.AfterExtern (as_sections secs) ds.items
as_state (states.AfterConst secs ds) = machine.AfterConst (as_sections secs) ds.items
as_state (states.AfterEnum secs ds) = machine.AfterEnum (as_sections secs) ds.items
as_state (states.AfterVoidType secs ds) = machine.AfterVoidType (as_sections secs) ds.items
as_state (states.AfterType leading words secs ds) = machine.AfterType (as_leading leading) (as_words words) (as_sections secs) ds.items
as_state (states.Declaring kind secs ds) = machine.Declaring (as_qualifier kind) (as_sections secs) ds.items
as_state (states.Bare kind x secs ds) = machine.Bare (as_qualifier kind) x (as_sections secs) ds.items
as_state (states.Starting kind x secs ds) = machine.Starting (as_qualifier kind) x (as_sections secs) ds.items
as_state (states.Negating kind x secs ds) = machine.Negating (as_qualifier kind) x (as_sections secs) ds.items
as_state (states.Started kind x n secs ds) = machine.Started (as_qualifier kind) x n (as_sections secs) ds.items
as_state (states.Listing last secs ds) = machine.Listing last (as_sections secs) ds.items
as_state (states.Enumerated secs ds) = machine.Enumerated (as_sections secs) ds.items
as_state (states.AfterDefine secs ds) = machine.AfterDefine (as_sections secs) ds.items
as_state (states.Defining x secs ds) = machine.Defining x (as_sections secs) ds.items
as_state (states.NegativeDefining x secs ds) = machine.NegativeDefining x (as_sections secs) ds.items
as_state (states.Enclosing x secs ds) = machine.Enclosing x (as_sections secs) ds.items
as_state (states.NegativeEnclosing x secs ds) = machine.NegativeEnclosing x (as_sections secs) ds.items
as_state (states.Enclosed x n secs ds) = machine.Enclosed x n (as_sections secs) ds.items
as_state (states.Parameters aim) = machine.Parameters (as_aim aim)
as_state (states.InParameters aim) = machine.InParameters (as_aim aim)
as_state (states.AfterVoid aim) = machine.AfterVoid (as_aim aim)
as_state (states.AfterParameters aim) = machine.AfterParameters (as_aim aim)
as_state (states.Ready outer) = machine.Ready (as_stack outer)
as_state (states.LocalConst scope) = machine.LocalConst (as_scope scope)
as_state (states.LocalType kind words scope) = machine.LocalType (as_qualifier kind) (as_words words) (as_scope scope)
as_state (states.NextLocal kind scope) = machine.NextLocal (as_qualifier kind) (as_scope scope)
as_state (states.LocalNamed kind place target scope) = machine.LocalNamed (as_qualifier kind) place target (as_scope scope)
as_state (states.InStatic part outer) = machine.InStatic (as_static_part part) (as_stack outer)
as_state (states.Ended outer statement) = machine.Ended (as_stack outer) (front statement Done)
as_state (states.Wants fs purpose) = machine.Wants (as_frames fs.items) (as_purpose purpose)
as_state (states.Has fs purpose operand) = machine.Has (as_frames fs.items) (as_purpose purpose) (term operand)
as_state (states.Counting place count site) = machine.Counting place (as_count count) (as_site site)
as_state (states.Named place target site) = machine.Named place target (as_site site)
as_state (states.Opens purpose) = machine.Opens (as_purpose purpose)
as_state (states.ForOpens place outer) = machine.ForOpens place (as_stack outer)
as_state (states.StartComes place outer) = machine.StartComes place (as_stack outer)
as_state (states.TestComes start outer) = machine.TestComes (as_start start) (as_stack outer)
as_state (states.StepComes start place test outer) = machine.StepComes (as_start start) place (term test) (as_stack outer)
as_state (states.RedoOpens place body outer) = machine.RedoOpens place (code body.items) (as_stack outer)
as_state (states.RedoComes place body outer) = machine.RedoComes place (code body.items) (as_stack outer)
as_state (states.VoidComes place outer) = machine.VoidComes place (as_stack outer)
as_state (states.VoidCloses place outer) = machine.VoidCloses place (as_stack outer)
as_state (states.CallComes place outer) = machine.CallComes place (as_stack outer)
as_state (states.CallOpens pending) = machine.CallOpens (as_pending pending)
as_state (states.CallCloses pending) = machine.CallCloses (as_pending pending)
as_state (states.Finishing pending) = machine.Finishing (as_pending pending)
as_state (states.Over file parts) = machine.Over (as_file file) (as_parts parts.items)

-- the state is what the machine comes to, where there is memory
abbrev pub Moves : Result (Option ReadingState) NoMemory → Option machine.ReadingState → Type 0
Moves result expected = IfOk result (λ next. option_map as_state next ≡ expected)

-- the sign is the second word of a type that has one word so far
abbrev pub is_second_word : Sign → machine.TypeWords → Bool
is_second_word signs.Signed machine.OneInt = true
is_second_word signs.Int machine.OneSigned = true
is_second_word _ _ = false

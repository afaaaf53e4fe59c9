-- All bytes are a model as `read_model` promises it, or have a refusal.
use Rattle.std.proofs.Common.{◌≡◌, ℕ, suc, ◌+◌, ◌≤◌, ◌<◌, ℤ, ◌⊎◌, inl, inr, List, [], ◌∷◌, length, map, Result, Ok, Err, refl, sym, subst, arith}
use Rattle.std.specs.Prelude.{IfOk}
use Rattle.fam_outer.specs.declared.dialect.Unknown.{Unknown}
use Rattle.fam_outer.specs.declared.faults.ConditionFault.{ConditionFault}
use Rattle.linear_atoms.specs.declared.atoms.Atom.{Atom}
use Rattle.linear_atoms.specs.declared.atoms.Feature.{Feature}
use Rattle.linear_atoms.specs.Atoms.{AreRanges}
use Rattle.cpp_conditions.specs.Distinct.{HaveFewAtoms, HaveMoreAtoms}
use Rattle.cpp_conditions.specs.Forming.{IsOverFeatures}
use Rattle.cpp_conditions.specs.Grammar.{ReadsAs}
use Rattle.cpp_conditions.specs.Macros.{Macros, no_macros}
use Rattle.cpp_conditions.specs.Propositions.{Proposition}
use Rattle.cpp_conditions.specs.declared.models.Model.{Model}
use Rattle.cpp_conditions.specs.Validity.{Plain, plain, IsValid, AreFit, AreOpen}
use Rattle.cpp_conditions.specs.View.{proposition}
use Rattle.feature_model.specs.declared.faults.ModelFault.{ModelFault}
use Rattle.feature_model.specs.declared.faults.ModelFault.TheVariants as faults
use Rattle.feature_model.specs.Constraints.{AreRead, none, refused, first}
use Rattle.cpp_conditions.specs.Naming.{AreFeatures}
use Rattle.feature_model.specs.Features.{AreDistinct, AreNamed, HaveSwitches}
use Rattle.feature_model.specs.Models.{Says, too_many_tests, void, accepted, IsReadAs, untold, said}
use Rattle.feature_model.specs.Models as models
use Rattle.feature_model.specs.Stages.{◌>>=◌, Told, told_of}
use Rattle.reading_laws.specs.Models.{HasNumber, IsPromised, IsRefused}
use Rattle.reading_laws.proofs.Collecting.{few_or_more}
use Rattle.reading_laws.proofs.Validities.{valid_or_void}
use Rattle.reading_laws.proofs.Fitting.{over_read}
use Rattle.reading_laws.proofs.MadeModels.{AreOver, Made, made_conditions}
use Rattle.reading_laws.proofs.Telling.{IsTold, is_told, has_number}

-- ---- the constraints

abbrev pub ConditionsAreRead : Type 0
ConditionsAreRead = (macros : Macros) (features : List Feature) (bytes : List ℕ) → (r : Result (Proposition Atom) ConditionFault) × ReadsAs macros features bytes r

abbrev Listed : Unknown → List Feature → ℕ → List (List ℕ) → Type 0
Listed unknown features n texts = (r : Result (List (Proposition Atom)) ModelFault) × AreRead unknown features n texts r

listed_first : (unknown : Unknown) (features : List Feature) (n : ℕ) (text : List ℕ) (texts : List (List ℕ)) (r : Result (Proposition Atom) ConditionFault) → ReadsAs (no_macros unknown) features text r → Listed unknown features (n + 1) texts → Listed unknown features n (text ∷ texts)
listed_first unknown features n text texts (Ok p) h rest = (rest.0 >>= λ ps. Ok (p ∷ ps), first n text texts p rest.0 h rest.1)
listed_first unknown features n text texts (Err fault) h rest = (Err (faults.Constraint n fault), refused n text texts fault h)

listed : ConditionsAreRead → (unknown : Unknown) (features : List Feature) (n : ℕ) (texts : List (List ℕ)) → Listed unknown features n texts
listed reads unknown features n [] = (Ok [], none n)
listed reads unknown features n (text ∷ texts) = let h = reads (no_macros unknown) features text in listed_first unknown features n text texts h.0 h.1 (listed reads unknown features (n + 1) texts)

over_more : (fs : List Feature) (p : Proposition Atom) (others : Result (List (Proposition Atom)) ModelFault) → IsOverFeatures fs p → IfOk others (AreOver fs) → IfOk (others >>= λ ps. Ok (p ∷ ps)) (AreOver fs)
over_more fs p (Ok ps) o h = (o, h)
over_more fs p (Err fault) o h = tt

over_all : (unknown : Unknown) (fs : List Feature) → AreRanges fs → (n : ℕ) (texts : List (List ℕ)) (r : Result (List (Proposition Atom)) ModelFault) → AreRead unknown fs n texts r → IfOk r (AreOver fs)
over_all unknown fs ranges _ _ _ (none n) = tt
over_all unknown fs ranges _ _ _ (refused n text texts fault h) = tt
over_all unknown fs ranges _ _ _ (first n text texts p others h rest) = over_more fs p others (over_read fs ranges (no_macros unknown) text (Ok p) h) (over_all unknown fs ranges (n + 1) texts others rest)

-- a fault of a constraint that counts so many texts from this number, or none
abbrev Counts : ℕ → ℕ → Result (List (Proposition Atom)) ModelFault → Type 0
Counts n count (Ok ps) = Unit {0}
Counts n count (Err fault) = (k : ℕ) × (c : ConditionFault) × (fault ≡ faults.Constraint k c) × (n ≤ k) × (k < n + count)

counts_more : (n count : ℕ) (p : Proposition Atom) (others : Result (List (Proposition Atom)) ModelFault) → Counts (n + 1) count others → Counts n (suc count) (others >>= λ ps. Ok (p ∷ ps))
counts_more n count p (Ok ps) h = tt
counts_more n count p (Err fault) h = let a = h.3 in let b = h.4 in (h.0, h.1, h.2, omega arith, omega arith)

counts : (unknown : Unknown) (fs : List Feature) (n : ℕ) (texts : List (List ℕ)) (r : Result (List (Proposition Atom)) ModelFault) → AreRead unknown fs n texts r → Counts n (length texts) r
counts unknown fs _ _ _ (none n) = tt
counts unknown fs _ _ _ (refused n text texts fault h) = (n, fault, refl, omega arith, omega arith)
counts unknown fs _ _ _ (first n text texts p others h rest) = counts_more n (length texts) p others (counts unknown fs (n + 1) texts others rest)

constraint_number : (texts : List (List ℕ)) (fault : ModelFault) → length texts ≤ 256 → Counts 1 (length texts) (Err fault) → HasNumber fault
constraint_number texts fault few h = let a = h.3 in let b = h.4 in subst HasNumber (sym h.2) (a, omega arith)

-- ---- the end

abbrev Answered : Unknown → List ℕ → Type 0
Answered unknown bytes = ((model : Model) × IsPromised unknown bytes model) ⊎ ((fault : ModelFault) × IsRefused unknown bytes fault)

-- what is known of a model before its atoms are counted
record IsBegun (unknown : Unknown) (bytes : List ℕ) (model : Model) : Type 0 where
  says : Says unknown bytes (plain model)
  features : AreFeatures model.features
  distinct : AreDistinct model.features
  named : AreNamed model.features
  switches : HaveSwitches model.features
  fit : AreFit (length model.features) model.constraints
  undecided : AreOpen model.features model.constraints

ended_few : (unknown : Unknown) (bytes : List ℕ) (model : Model) → IsBegun unknown bytes model → HaveFewAtoms 64 (plain model).constraints → ((values : List ℤ) × IsValid (plain model) values) ⊎ ((values : List ℤ) → IsValid (plain model) values → ⊥) → Answered unknown bytes
ended_few unknown bytes model b few (inl v) = inl (
  model,
  record {
    read = said (plain model) (Ok (plain model)) b.says (accepted few v.0 v.1);
    features = b.features;
    distinct = b.distinct;
    named = b.named;
    switches = b.switches;
    fit = b.fit;
    undecided = b.undecided;
    atoms = few;
    valid = v;
  },
)
ended_few unknown bytes model b few (inr n) = inr (faults.Void, record { read = said (plain model) (Err faults.Void) b.says (void few n); number = tt })

ended : (unknown : Unknown) (bytes : List ℕ) (model : Model) → IsBegun unknown bytes model → HaveFewAtoms 64 (plain model).constraints ⊎ HaveMoreAtoms 64 (plain model).constraints → Answered unknown bytes
ended unknown bytes model b (inl few) = ended_few unknown bytes model b few (valid_or_void (plain model))
ended unknown bytes model b (inr more) = inr (faults.TooManyTests, record { read = said (plain model) (Err faults.TooManyTests) b.says (too_many_tests more); number = tt })

-- ---- the whole

answered_said : (unknown : Unknown) (bytes : List ℕ) (t : Told) (constraints : List (Proposition Atom)) → told_of bytes ≡ Ok t → IsTold t → AreRead unknown t.features 1 t.texts (Ok constraints) → Made t.features constraints → Answered unknown bytes
answered_said unknown bytes t constraints e k h m =
    let model : Model = record { features = t.features; constraints = m.list } in
    let read : AreRead unknown t.features 1 t.texts (Ok (map proposition m.list)) = subst (λ ps. AreRead unknown t.features 1 t.texts (Ok ps)) (sym m.are) h in
    let b : IsBegun unknown bytes model = record {
      says = record { texts = t.texts; told = e; read = read };
      features = k.are;
      distinct = k.distinct;
      named = k.named;
      switches = k.switches;
      fit = m.fit;
      undecided = m.undecided;
    } in
    ended unknown bytes model b (few_or_more 64 (map proposition m.list))

answered_told : (unknown : Unknown) (bytes : List ℕ) (t : Told) → told_of bytes ≡ Ok t → (r : Result (List (Proposition Atom)) ModelFault) → AreRead unknown t.features 1 t.texts r → Answered unknown bytes
answered_told unknown bytes t e (Ok constraints) h =
    let k = is_told bytes t e in
    answered_said unknown bytes t constraints e k h (made_conditions t.features constraints (over_all unknown t.features k.are.ranges 1 t.texts (Ok constraints) h))
answered_told unknown bytes t e (Err fault) h = inr (fault, record { read = models.refused t fault e h; number = constraint_number t.texts fault (is_told bytes t e).few (counts unknown t.features 1 t.texts (Err fault) h) })

answered_by : ConditionsAreRead → (unknown : Unknown) (bytes : List ℕ) (r : Result Told ModelFault) → told_of bytes ≡ r → Answered unknown bytes
answered_by reads unknown bytes (Ok t) e = let h = listed reads unknown t.features 1 t.texts in answered_told unknown bytes t e h.0 h.1
answered_by reads unknown bytes (Err fault) e = inr (fault, record { read = untold fault e; number = has_number bytes fault e })

pub answered : ConditionsAreRead → (unknown : Unknown) (bytes : List ℕ) → Answered unknown bytes
answered reads unknown bytes = answered_by reads unknown bytes (told_of bytes) refl

read_by : (unknown : Unknown) (bytes : List ℕ) → Answered unknown bytes → (r : Result Plain ModelFault) × IsReadAs unknown bytes r
read_by unknown bytes (inl m) = (Ok (plain m.0), m.1.read)
read_by unknown bytes (inr f) = (Err f.0, f.1.read)

pub read_or_refused : ConditionsAreRead → (unknown : Unknown) (bytes : List ℕ) → (r : Result Plain ModelFault) × IsReadAs unknown bytes r
read_or_refused reads unknown bytes = read_by unknown bytes (answered reads unknown bytes)

-- What an analysis finds is what it promises.
use Rattle.std.proofs.Common.{◌≡◌, ℤ, Bool, true, false, if◌then◌else◌, List, [], ◌∷◌, ◌++◌, map, length, refl, ap, sym, ◌∙◌, subst, arith}
use Rattle.std.specs.List.{All, AllByRecursion, Contains}
use Rattle.std.proofs.lemmas.List.{map-append}
use Rattle.std.proofs.lemmas.List.Elements.{Contains-append_left, Contains-append_right}
use Rattle.fam_outer.specs.declared.faults.Place.{Place}
use Rattle.c_tree.specs.declared.tree.Kind.{Kind}
use Rattle.c_tree.specs.declared.tree.Kind.TheVariants.{Overflow, ZeroDivisor, Assertion}
use Rattle.c_tree.specs.declared.tree.Mode.{Mode}
use Rattle.c_tree.specs.Tree.{Whole}
use Rattle.c_tree.specs.Value.{IsInt}
use Rattle.c_tree.specs.Places.{program_places}
use Rattle.c_tree.specs.Whole.{IsProgram, IsPlainProgram}
use Rattle.c_tree.specs.Fit.{IsCodeOf}
use Rattle.leaf_domain.specs.Leaves.{LeafValue, LeafMeaning, LeafLaws, nothing_of}
use Rattle.leaf_domain.specs.Stops.{may_at}
use Rattle.leaf_domain.specs.Soundness.{TransferAnswers, TransferHolds}
use Rattle.plain_analysis.specs.declared.alarm.Alarm.{Alarm}
use Rattle.plain_analysis.specs.declared.findings.PlaceLeaf.{PlaceLeaf}
use Rattle.plain_analysis.specs.Statements.{Heads, Entry, passed, entries_by}
use Rattle.plain_analysis.specs.Places.{is_same_place, leaf_or, at_by, alarm_where, alarms_at, alarms_by}
use Rattle.plain_analysis.specs.Entered.{place_and_leaf, leaves_in, alarms_in}
use Rattle.plain_analysis.specs.Promises.{RunsForeseenBy, AreHeld}
use Rattle.plain_analysis.specs.Ways.{enter, end_of}
use Rattle.plain_analysis.proofs.Located.{IsListed, place_of, leaf_of, listed, at_end, same_places, leaves_are, alarms_are}
use Rattle.plain_analysis.proofs.Kept.{enter_leaves}
use Rattle.plain_analysis.proofs.Fine.{Setting, Known}
use Rattle.plain_analysis.proofs.Foreseen.{runs_foreseen}

-- ---- an alarm where a statement may stop

one_where : (b : Bool) (place : Place) (kind : Kind) → b ≡ true → Contains (alarm_where b place kind) (record { place = place; kind = kind })
one_where true place kind e = (0, omega arith, refl)
one_where false place kind e = cc

at_kind : (f : Kind → Bool) (place : Place) (kind : Kind) → f kind ≡ true → Contains (alarms_at f place) (record { place = place; kind = kind })
at_kind f place Overflow e =
    Contains-append_left (alarm_where (f Overflow) place Overflow) (alarm_where (f ZeroDivisor) place ZeroDivisor ++ alarm_where (f Assertion) place Assertion) _ (one_where (f Overflow) place Overflow e)
at_kind f place ZeroDivisor e =
    Contains-append_right (alarm_where (f Overflow) place Overflow) (alarm_where (f ZeroDivisor) place ZeroDivisor ++ alarm_where (f Assertion) place Assertion) _
    (Contains-append_left (alarm_where (f ZeroDivisor) place ZeroDivisor) (alarm_where (f Assertion) place Assertion) _ (one_where (f ZeroDivisor) place ZeroDivisor e))
at_kind f place Assertion e =
    Contains-append_right (alarm_where (f Overflow) place Overflow) (alarm_where (f ZeroDivisor) place ZeroDivisor ++ alarm_where (f Assertion) place Assertion) _
    (Contains-append_right (alarm_where (f ZeroDivisor) place ZeroDivisor) (alarm_where (f Assertion) place Assertion) _ (one_where (f Assertion) place Assertion e))

module _ (M : LeafMeaning) (mode : Mode) (H : Heads) (p : Whole) (d : LeafValue) (program : IsProgram p) (plain : IsPlainProgram p) where
  abbrev entries : List Entry
  entries = entries_by M mode H p.body (enter d)

  abbrev last_leaf : LeafValue
  last_leaf = end_of M (passed M mode H p.body (enter d))

  -- ---- runs

  module _ (laws : LeafLaws M) (A : TransferAnswers M mode) (T : TransferHolds M mode) (inputs : List ℤ) (ints : All IsInt inputs) where
    abbrev setting : Setting
    setting = record {
      M = M;
      laws = laws;
      mode = mode;
      H = H;
      A = A;
      T = T;
      count = d.variables;
      inputs = inputs;
      ints = ints;
      at = at_by M mode H p d;
      end = p.end;
      alarms = alarms_by M mode H p d;
    }

    known_from : (es : List Entry) → IsListed entries es → ((x : Alarm) → Contains (alarms_in M mode es) x → Contains (alarms_by M mode H p d) x) → AllByRecursion (Known setting) es
    unfolding IsListed
    known_from [] h k = tt
    known_from (e ∷ es) h k = (
      record {
        leaf = ap (leaf_or (if is_same_place p.end e.place then last_leaf else nothing_of d.variables)) h.0;
        stops = λ kind t. k (record { place = e.place; kind = kind })
            (Contains-append_left (alarms_at (λ i. may_at M mode i e.statement e.leaf) e.place) (alarms_in M mode es) _ (at_kind (λ i. may_at M mode i e.statement e.leaf) e.place kind t));
      },
      known_from es h.1 (λ x c. k x (Contains-append_right (alarms_at (λ i. may_at M mode i e.statement e.leaf) e.place) (alarms_in M mode es) x c)),
    )

    known_all : AllByRecursion (Known setting) entries
    known_all = known_from entries (listed M mode H p d plain.body program.rising) (λ x c. subst (λ l. Contains l x) (alarms_are M mode H p d plain.body program.rising) c)

  pub runs : LeafLaws M → TransferAnswers M mode → TransferHolds M mode → M.valid d → d.variables ≡ length p.names → AreHeld M mode H p.body (enter d) → RunsForeseenBy M mode H p d
  runs laws A T valid count held store inputs n h ints =
      runs_foreseen (setting laws A T inputs ints) p.body d
      (record {
        leaves = enter_leaves M laws d.variables d (record { valid = valid; count = refl });
        names = subst (λ m. IsCodeOf m p.body) (sym count) program.names;
        plain = plain.body;
        known = known_all laws A T inputs ints;
        held = held;
      })
      (at_end M mode H p d plain.body program.rising) store n h

  -- ---- the findings

  seconds : (es : List Entry) → map (λ (x : Place × LeafValue). x.1) (leaves_in es) ≡ map (leaf_of M mode H) es
  unfolding leaf_of
  seconds [] = refl
  seconds (e ∷ es) = ap (λ l. e.leaf ∷ l) (seconds es)

  firsts : (es : List Entry) → map (λ (x : Place × LeafValue). x.0) (leaves_in es) ≡ map place_of es
  unfolding place_of
  firsts [] = refl
  firsts (e ∷ es) = ap (λ l. e.place ∷ l) (firsts es)

  module _ {L : Type 0} (value : L → LeafValue) (found : List (PlaceLeaf L)) (last : PlaceLeaf L) (entered : map (place_and_leaf value) found ≡ leaves_in entries) (ends : last.place ≡ p.end) (after : value last.leaf ≡ end_of M (passed M mode H p.body (enter d))) where
    places_found : (ps : List (PlaceLeaf L)) → map (λ (x : PlaceLeaf L). x.place) ps ≡ map (λ (x : Place × LeafValue). x.0) (map (place_and_leaf value) ps)
    places_found [] = refl
    places_found (x ∷ ps) = ap (λ l. x.place ∷ l) (places_found ps)

    leaves_found : (ps : List (PlaceLeaf L)) → map (λ (x : PlaceLeaf L). value x.leaf) ps ≡ map (λ (x : Place × LeafValue). x.1) (map (place_and_leaf value) ps)
    leaves_found [] = refl
    leaves_found (x ∷ ps) = ap (λ l. value x.leaf ∷ l) (leaves_found ps)

    pub places : map (λ (x : PlaceLeaf L). x.place) (found ++ last ∷ []) ≡ program_places p
    places =
        map-append (λ (x : PlaceLeaf L). x.place) found (last ∷ [])
        ∙ (ap (λ l. l ++ last.place ∷ []) (places_found found ∙ (ap (map (λ (x : Place × LeafValue). x.0)) entered ∙ firsts entries))
        ∙ (ap (λ x. map place_of entries ++ x ∷ []) ends ∙ same_places M mode H p d plain.body program.rising))

    pub leaves : map (λ (x : PlaceLeaf L). value x.leaf) (found ++ last ∷ []) ≡ map (at_by M mode H p d) (program_places p)
    leaves =
        map-append (λ (x : PlaceLeaf L). value x.leaf) found (last ∷ [])
        ∙ (ap (λ l. l ++ value last.leaf ∷ []) (leaves_found found ∙ (ap (map (λ (x : Place × LeafValue). x.1)) entered ∙ seconds entries))
        ∙ (ap (λ x. map (leaf_of M mode H) entries ++ x ∷ []) after ∙ leaves_are M mode H p d plain.body program.rising))

  pub alarms : alarms_in M mode entries ≡ alarms_by M mode H p d
  alarms = alarms_are M mode H p d plain.body program.rising

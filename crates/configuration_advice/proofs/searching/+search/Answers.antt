use Rattle.std.proofs.Common.{◌≡◌, ◌+◌, ◌*◌, ◌<◌, ◌∙◌, List, [], ◌∷◌, ◌++◌, map, Option, Some, None, ap, sym, subst, arith}
use Rattle.configuration_advice.specs.declared.comparing.Advice.{Advice}
use Rattle.configuration_advice.specs.declared.choices.Choice.{Choice}
use Rattle.configuration_advice.specs.declared.choices.Choice.TheVariants.{Open, Kept, Changed}
use Rattle.configuration_advice.specs.Choices.{Tightens, close}
use Rattle.configuration_advice.specs.Searching.{IsFirstOf, IsRefuted, FindsFirst}
use Rattle.configuration_advice.proofs.Chosen.{close_tight}
use Rattle.configuration_advice.proofs.Searched.{IsBranching, found_kept, none_kept, trial_length, trial_changes, have_one_length, tight_behind, same_head, branching_same, branching_tried}
use Rattle.configuration_advice.proofs.searching.+search.Goals as goal
use Rattle.configuration_advice.proofs.searching.+search.Goals.{branches-then-is_tightened+in_ok-trial+in_ok-found, branches-else-is_tightened}

pub search-returns-in-Some : goal.search-returns-in-Some
search-returns-in-Some t c =
    let q = c.args.question.now in
    let cs = c.args.choices.now in
    let tight : c.deref.result.now ≡ map close cs = c.deref.ensures.value ∙ c.in_ok-tight.ensures in
    let first : FindsFirst q c.deref.result.now (Some c.in-Some.config) = rw c.in-Some.is at c.in_ok-config.ensures in
    found_kept q cs (c.args.changed + c.args.left) (record { config = c.in-Some.config; changed = c.args.changed })
    (subst (λ (xs : List Choice). IsFirstOf q xs c.in-Some.config.values) tight first) c.requires.changed (omega (arith, c.requires.changed))

pub search-returns-then-left-eq0 : goal.search-returns-then-left-eq0
search-returns-then-left-eq0 t c =
    let q = c.args.question.now in
    let cs = c.args.choices.now in
    let tight : c.deref.result.now ≡ map close cs = c.deref.ensures.value ∙ c.in_ok-tight.ensures in
    let none : FindsFirst q c.deref.result.now None = rw c.in_default.is at c.in_ok-config.ensures in
    none_kept q cs (c.args.changed + c.args.left) (subst (λ (xs : List Choice). IsRefuted q xs) tight none) (omega (arith, c.requires.changed, c.if-left-eq0.true))

pub search-core-requires-clause-tight : goal.search-core-requires-clause-tight
search-core-requires-clause-tight t c = subst (Tightens c.args.choices.now) (sym c.in_ok-tight.ensures) (close_tight c.args.choices.now)

pub branches-search-requires : goal.branches-search-requires
branches-search-requires t c =
    let q = c.args.question.now in
    let b = c.choices.invariant in
    let front = c.choices.front.items in
    let behind = c.in-Some-Some.behind.now in
    let trial = c.deref-then-is_tightened.result.now in
    let so = c.is_tightened.ensures.so c.if-is_tightened.true in
    let rest_is : c.choices.rest.now ≡ Open ∷ behind = c.in-Some-Some.ensures ∙ ap (λ (x : Choice). x ∷ behind) so.0 in
    let trial_is : trial ≡ front ++ Changed ∷ behind = c.deref-then-is_tightened.ensures.value ∙ c.in_ok-trial.ensures ∙ ap (λ (xs : List Choice). xs ++ Changed ∷ behind) c.deref.ensures.value in
    let long = trial_length q c.args.choices.now c.args.blamed.now _ front c.choices.rest.now c.choices.others.now behind trial c.choices.best b rest_is trial_is in
    let more = trial_changes q c.args.choices.now c.args.blamed.now _ front c.choices.rest.now c.choices.others.now behind trial c.choices.best b rest_is trial_is in
    let falls : 2 * c.args.left < t = omega (arith, c.decreases) in
    (falls, (c.requires.asked, (long ∙ c.requires.count, (omega (arith, more, c.requires.changed), c.requires.few))))

pub branches-nearer-best-requires : goal.branches-nearer-best-requires
branches-nearer-best-requires t c =
    have_one_length c.args.question.now c.args.choices.now c.deref-then-is_tightened.result.now _ c.choices.best c.in_ok-found.found c.choices.invariant.advice c.in_ok-found.ensures.advice

pub branches-choices-preserved : goal.branches-choices-preserved
branches-choices-preserved t c =
    let q = c.args.question.now in
    let cs = c.args.choices.now in
    let blamed = c.args.blamed.now in
    let most = c.args.changed + 1 + c.args.left in
    let b = c.choices.invariant in
    let front = c.choices.front.items in
    let rest = c.choices.rest.now in
    let others = c.choices.others.now in
    let choice = c.in-Some-Some.choice.now in
    let other = c.in-Some-Some.other.now in
    let behind = c.in-Some-Some.behind.now in
    let more = c.in-Some-Some.more.now in
    let new = c.push.new.self.items in
    let tight = tight_behind q rest others behind more choice other c.in-Some-Some.ensures c.in-Some-Some.ensures' b.tight in
    elim c.if-is_tightened.branch as (λ _. IsBranching q cs blamed most new behind more c.if-is_tightened.best) [
      | branches-then-is_tightened+in_ok-trial+in_ok-found w ↦
          let so = c.is_tightened.ensures.so w.if-is_tightened.true in
          let trial = w.deref-then-is_tightened.result.now in
          let rest_is : rest ≡ Open ∷ behind = c.in-Some-Some.ensures ∙ ap (λ (x : Choice). x ∷ behind) so.0 in
          let others_is : others ≡ Kept ∷ more = c.in-Some-Some.ensures' ∙ ap (λ (x : Choice). x ∷ more) so.1 in
          let trial_is : trial ≡ front ++ Changed ∷ behind = w.deref-then-is_tightened.ensures.value ∙ w.in_ok-trial.ensures ∙ ap (λ (xs : List Choice). xs ++ Changed ∷ behind) w.deref.ensures.value in
          let new_is : new ≡ front ++ Kept ∷ [] = c.in_ok-push.ensures.items ∙ ap (λ (x : Choice). front ++ x ∷ []) so.1 in
          subst (λ (x : Option Advice). IsBranching q cs blamed most new behind more x) (sym w.best-is)
          (branching_tried q cs blamed most front rest others behind more trial new c.choices.best w.in_ok-found.found w.nearer-best.result b rest_is others_is trial_is new_is tight w.in_ok-found.ensures
          w.nearer-best.ensures.one w.nearer-best.ensures.best w.nearer-best.ensures.found)
      | branches-else-is_tightened w ↦
          let same = same_head q rest others behind more choice other c.in-Some-Some.ensures c.in-Some-Some.ensures' b.tight (c.is_tightened.ensures.otherwise w.if-is_tightened.false) in
          let rest_is : rest ≡ other ∷ behind = c.in-Some-Some.ensures ∙ ap (λ (x : Choice). x ∷ behind) same in
          subst (λ (x : Option Advice). IsBranching q cs blamed most new behind more x) (sym w.best-is)
          (branching_same q cs blamed most front rest others behind more new other c.choices.best b rest_is c.in-Some-Some.ensures' c.in_ok-push.ensures.items tight)
    ]

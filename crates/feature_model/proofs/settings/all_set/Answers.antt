use Rattle.std.proofs.Common.{◌+◌, map, length, string_bytes, Global, sym, ap, subst, ◌∙◌, arith}
use Rattle.feature_model.specs.Settings.{steps, count, AreSmall}
use Rattle.feature_model.proofs.Setting.{count_most, count_unset, small_unset, length_unset}
use Rattle.feature_model.proofs.settings.all_set.Goals as goal

pub loop-word-init : goal.loop-word-init
loop-word-init c = record {
  rest = ap (λ s. steps c.args.features.now 1 s (map (string_bytes {Z = Global}) c.args.words.now)) c.in_ok-slots.ensures;
  length = ap length c.in_ok-slots.ensures ∙ length_unset c.args.features.now;
  number = sym (ap (λ n. n + 1) (ap count c.in_ok-slots.ensures ∙ count_unset c.args.features.now));
  small = subst AreSmall (sym c.in_ok-slots.ensures) (small_unset c.args.features.now);
}

pub overflow_add-number : goal.overflow_add-number
overflow_add-number c = let h = count_most c.loop-word.slots.items in omega (arith, c.loop-word.invariant.length)

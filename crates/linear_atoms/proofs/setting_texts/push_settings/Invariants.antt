use Rattle.std.proofs.Common.{◌≡◌, ◌++◌, map, length}
use Rattle.linear_atoms.specs.SettingTexts.{spaced_settings}
use Rattle.linear_atoms.proofs.setting_texts.push_settings.Given as goal

-- what stands, and what is left, are all
abbrev pub invariant-settings : goal.invariant-settings
invariant-settings g l =
    let name_of = g.N.Named.name_of in
    l.text.items ++ spaced_settings (map name_of l.names) l.rest ≡ l.fn.text.items ++ spaced_settings (map name_of l.fn.named) l.fn.values

abbrev pub decreases-settings : goal.decreases-settings
decreases-settings g l = length l.names

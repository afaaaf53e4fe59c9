-- Which groups of a text are kept, in the words of ISO/IEC 9899:2011, 6.10.1. A text is seen as the list of the group directives of
-- its lines, or of its items: None is a line, or an item, that is no group directive.
use Rattle.std.specs.Prelude.{◌≡◌, ℕ, Bool, true, false, List, [], ◌∷◌, ◌++◌, map, Option, Some, None}
use Rattle.cpp_groups.specs.declared.directive.GroupDirective.{GroupDirective}
use Rattle.cpp_groups.specs.declared.directive.GroupDirective.TheVariants.{If, Elif, Else, Endif}
use Rattle.cpp_groups.specs.Kept.{truth}

abbrev pub Directives : Type 0
Directives = List (Option GroupDirective)

-- what stands in no section or in one group; what stands behind a group of a section, up to its `#endif`
pub data Part : Type 0 where
  Group : Part
  Later : Part

-- each section is whole (6.10): a group with its condition, later groups with theirs, the group of `#else` or none, and `#endif`
pub data IsSectioned : Part → Directives → Type 0 where
  nothing : IsSectioned Group []
  other : {ds : Directives} → IsSectioned Group ds → IsSectioned Group (None ∷ ds)
  section : (n : ℕ) {us vs ws : Directives} → IsSectioned Group us → IsSectioned Later vs → IsSectioned Group ws → IsSectioned Group (Some (If n) ∷ (us ++ (vs ++ ws)))
  endif : IsSectioned Later (Some Endif ∷ [])
  otherwise : {us : Directives} → IsSectioned Group us → IsSectioned Later (Some Else ∷ (us ++ Some Endif ∷ []))
  elif : (n : ℕ) {us vs : Directives} → IsSectioned Group us → IsSectioned Later vs → IsSectioned Later (Some (Elif n) ∷ (us ++ vs))

-- none of these stays
abbrev pub none_of : Directives → List Bool
none_of ds = map (λ d. false) ds

-- which of them stay where the conditions have these truths: of each section what stays of the first group whose condition is true,
-- else of that of `#else`, and nothing where there is none
pub data Stays (truths : List Bool) : Part → Directives → List Bool → Type 0 where
  nothing_stays : Stays truths Group [] []
  other_stays : {ds : Directives} {bs : List Bool} → Stays truths Group ds bs → Stays truths Group (None ∷ ds) (true ∷ bs)
  first_group : (n : ℕ) {us vs ws : Directives} {xs zs : List Bool} → truth truths n ≡ true → Stays truths Group us xs → IsSectioned Later vs → Stays truths Group ws zs
      → Stays truths Group (Some (If n) ∷ (us ++ (vs ++ ws))) (false ∷ (xs ++ (none_of vs ++ zs)))
  later_group : (n : ℕ) {us vs ws : Directives} {ys zs : List Bool} → truth truths n ≡ false → IsSectioned Group us → Stays truths Later vs ys → Stays truths Group ws zs
      → Stays truths Group (Some (If n) ∷ (us ++ (vs ++ ws))) (false ∷ (none_of us ++ (ys ++ zs)))
  no_group : Stays truths Later (Some Endif ∷ []) (false ∷ [])
  else_group : {us : Directives} {xs : List Bool} → Stays truths Group us xs → Stays truths Later (Some Else ∷ (us ++ Some Endif ∷ [])) (false ∷ (xs ++ false ∷ []))
  elif_group : (n : ℕ) {us vs : Directives} {xs : List Bool} → truth truths n ≡ true → Stays truths Group us xs → IsSectioned Later vs → Stays truths Later (Some (Elif n) ∷ (us ++ vs)) (false ∷ (xs ++ none_of vs))
  behind_elif : (n : ℕ) {us vs : Directives} {ys : List Bool} → truth truths n ≡ false → IsSectioned Group us → Stays truths Later vs ys → Stays truths Later (Some (Elif n) ∷ (us ++ vs)) (false ∷ (none_of us ++ ys))

-- Of each line it is known whether it has a form, and which.
use Rattle.std.proofs.Common.{◌≡◌, ◌⊎◌, inl, inr, ℕ, ◌<◌, ◌≤◌, ◌^◌, Bool, true, false, ℤ, ◌≤ℤ◌, int_lt, List, [], ◌∷◌, ◌++◌, codes, append_assoc, refl, sym, ap, subst, ◌∙◌, arith}
use Rattle.std.specs.Prelude.{Option, Some, None}
use Rattle.std.proofs.lemmas.Int.{ints}
use Rattle.std.proofs.lemmas.List.{append_cancel_left}
use Rattle.std.proofs.lemmas.List.Elements.{All-from_recursion}
use Rattle.fam_outer.specs.declared.faults.Place.{Place}
use Rattle.c_tree.specs.declared.tree.Kind.{Kind}
use Rattle.c_tree.specs.declared.tree.Kind.TheVariants.{Overflow, ZeroDivisor, Assertion}
use Rattle.leaf_domain.specs.declared.range.Range.{Range}
use Rattle.alarm_report.specs.LeafTexts.{within_text}
use Rattle.alarm_report.specs.Texts.{place_text, kind_text}
use Rattle.certificate_format.specs.Bounds.{bounds_text, IsIntRange, AreIntBounds}
use Rattle.certificate_format.specs.Cuts.{Lacks}
use Rattle.certificate_format.specs.Forms.{further}
use Rattle.certificate_format.specs.Lines.{Saying, Loop, Alarm, Says, IsPlace, IsLoopText, IsAlarmLine}
use Rattle.certificate_format.proofs.Ranging.{no_name, behind_name, not_less, cons_bounds, no_further_cons, no_item, no_further, further_is, no_first, no_others}
use Rattle.certificate_format.proofs.Shapes.{no_kind, behind_alarm, no_alarm_kind, no_loop_cut, no_saying, no_leaf}
use Rattle.certificate_laws.proofs.Deciding.{decided_like, decided_both, is_below, IsSomeBelow, some_below, IsSomeInt, some_int, is_text, HasFront, has_front}
use Rattle.certificate_laws.proofs.Parting.{IsCutSomewhere, cut_or_lacks}

-- ---- places

abbrev place_at : ℕ → ℕ → Place
place_at line column = record { line = line; column = column }

-- a place stands at the front, before a separator
record HasPlace (s t : List ℕ) : Type 0 where
  place : Place
  rest : List ℕ
  text : t ≡ place_text place ++ (s ++ rest)
  is : IsPlace place

module _ (s t : List ℕ) where
  record IsPlaceAt (line column : ℕ) : Type 0 where
    some_line : 1 ≤ line
    some_column : 1 ≤ column
    rest : List ℕ
    text : t ≡ place_text (place_at line column) ++ (s ++ rest)

  abbrev IsFrontAt : ℕ → ℕ → Type 0
  IsFrontAt line column = (0 < line) × ((0 < column) × HasFront (place_text (place_at line column) ++ s) t)

  place_there : (line column : ℕ) → IsFrontAt line column → IsPlaceAt line column
  place_there line column (a, (b, (rest, e))) = record {
    some_line = omega (arith, a);
    some_column = omega (arith, b);
    rest = rest;
    text = e ∙ append_assoc (place_text (place_at line column)) s rest;
  }

  there_place : (line column : ℕ) → IsPlaceAt line column → IsFrontAt line column
  there_place line column h =
      let a = h.some_line in
      let b = h.some_column in
      (omega (arith, a), (omega (arith, b), (h.rest, h.text ∙ sym (append_assoc (place_text (place_at line column)) s h.rest))))

  is_place_at : (line column : ℕ) → Dec (IsPlaceAt line column)
  is_place_at line column =
      decided_like (place_there line column) (there_place line column)
      (decided_both (is_below 0 line) (decided_both (is_below 0 column) (has_front (place_text (place_at line column) ++ s) t)))

  abbrev HasColumn : ℕ → Type 0
  HasColumn line = IsSomeBelow (IsPlaceAt line) (2 ^ 32)

  found_place : IsSomeBelow HasColumn (2 ^ 32) → HasPlace s t
  found_place f = record {
    place = place_at f.number f.holds.number;
    rest = f.holds.holds.rest;
    text = f.holds.holds.text;
    is = record { word = (f.below, f.holds.below); line = f.holds.holds.some_line; column = f.holds.holds.some_column };
  }

  place_found : HasPlace s t → IsSomeBelow HasColumn (2 ^ 32)
  place_found h = record {
    number = h.place.line;
    below = h.is.word.0;
    holds = record {
      number = h.place.column;
      below = h.is.word.1;
      holds = record { some_line = h.is.line; some_column = h.is.column; rest = h.rest; text = h.text };
    };
  }

  has_place : Dec (HasPlace s t)
  has_place = decided_like found_place place_found (some_below HasColumn (λ line. some_below (IsPlaceAt line) (is_place_at line) (2 ^ 32)) (2 ^ 32))

-- ---- ranges

abbrev range_at : ℤ → ℤ → Range
range_at low high = record { low = low; high = high }

-- a range stands at the front
record HasRange (t : List ℕ) : Type 0 where
  range : Range
  rest : List ℕ
  text : t ≡ within_text range ++ rest
  is : IsIntRange range

up_to_by : (low high : ℤ) (b : Bool) → int_lt high low ≡ b → Dec (low ≤ℤ high)
up_to_by low high true less = no (λ h. omega (arith, ints, less, h))
up_to_by low high false less = yes (not_less high low less)

module _ (t : List ℕ) where
  abbrev IsRangeAt : ℤ → ℤ → Type 0
  IsRangeAt low high = (low ≤ℤ high) × HasFront (within_text (range_at low high)) t

  is_range_at : (low high : ℤ) → Dec (IsRangeAt low high)
  is_range_at low high = decided_both (up_to_by low high (int_lt high low) refl) (has_front (within_text (range_at low high)) t)

  found_range : IsSomeInt (λ low. IsSomeInt (IsRangeAt low)) → HasRange t
  found_range f = record {
    range = range_at f.number f.holds.number;
    rest = f.holds.holds.1.0;
    text = f.holds.holds.1.1;
    is = record { int = record { low = f.int; high = f.holds.int }; some = f.holds.holds.0 };
  }

  range_found : HasRange t → IsSomeInt (λ low. IsSomeInt (IsRangeAt low))
  range_found h = record {
    number = h.range.low;
    int = h.is.int.low;
    holds = record { number = h.range.high; int = h.is.int.high; holds = (h.is.some, (h.rest, h.text)) };
  }

  has_range : Dec (HasRange t)
  has_range = decided_like found_range range_found (some_int (λ low. IsSomeInt (IsRangeAt low)) (λ low. some_int (IsRangeAt low) (is_range_at low)))

-- ---- items

record HasItem (name t : List ℕ) : Type 0 where
  range : Range
  rest : List ℕ
  text : t ≡ (name ++ within_text range) ++ rest
  is : IsIntRange range

item_by : (name t : List ℕ) → Dec (HasFront name t) → Dec (HasItem name t)
item_by name t (no none) = no (λ h. no_name t name (λ rest e. none (rest, e)) h.range h.rest h.is h.text)
item_by name t (yes (a, e)) =
    decided_like
    (λ (h : HasRange a). record {
      range = h.range;
      rest = h.rest;
      text = e ∙ ap (λ v. name ++ v) h.text ∙ sym (append_assoc name (within_text h.range) h.rest);
      is = h.is;
    })
    (λ (h : HasItem name t). record { range = h.range; rest = h.rest; text = behind_name t name a e h.range h.rest h.text; is = h.is }) (has_range a)

has_item : (name t : List ℕ) → Dec (HasItem name t)
has_item name t = item_by name t (has_front name t)

-- the items of names, each behind `, `
record HasFurther (names : List (List ℕ)) (t : List ℕ) : Type 0 where
  more : List Range
  is : AreIntBounds names (Some more)
  text : t ≡ further names more

no_bounds : AreIntBounds [] (Some [])
no_bounds = (refl, All-from_recursion IsIntRange [] tt)

module _ (name : List ℕ) (names : List (List ℕ)) where
  further_behind : (t a : List ℕ) → t ≡ codes ", " ++ a → (i : HasItem name a) → Dec (HasFurther names i.rest) → Dec (HasFurther (name ∷ names) t)
  further_behind t a e i (yes h) = yes (record {
    more = i.range ∷ h.more;
    is = cons_bounds name names i.range h.more i.is h.is;
    text = further_is name names t a i.range i.rest h.more e i.text h.text;
  })
  further_behind t a e i (no none) =
      no (λ h. no_further name names t a i.range i.rest e i.text i.is (λ more is text. none (record { more = more; is = is; text = text })) h.more h.is h.text)

  further_item : (t a : List ℕ) → t ≡ codes ", " ++ a → ((u : List ℕ) → Dec (HasFurther names u)) → Dec (HasItem name a) → Dec (HasFurther (name ∷ names) t)
  further_item t a e later (yes i) = further_behind t a e i (later i.rest)
  further_item t a e later (no none) =
      no (λ h. no_item name names t a e (λ range rest is text. none (record { range = range; rest = rest; text = text; is = is })) h.more h.is h.text)

  further_by : (t : List ℕ) → ((u : List ℕ) → Dec (HasFurther names u)) → Dec (HasFront (codes ", ") t) → Dec (HasFurther (name ∷ names) t)
  further_by t later (yes (a, e)) = further_item t a e later (has_item name a)
  further_by t later (no none) =
      no (λ h. no_further_cons name names t (λ range ranges is are text. none ((name ++ within_text range) ++ further names ranges, text)) h.more h.is h.text)

has_further : (names : List (List ℕ)) (t : List ℕ) → Dec (HasFurther names t)
has_further [] t = decided_like (λ (e : t ≡ []). record { more = []; is = no_bounds; text = e }) (λ (h : HasFurther [] t). h.text) (is_text t [])
has_further (name ∷ names) t = further_by name names t (has_further names) (has_front (codes ", ") t)

-- ---- bounds

record HasRanges (names : List (List ℕ)) (t : List ℕ) : Type 0 where
  ranges : List Range
  is : AreIntBounds names (Some ranges)
  text : t ≡ bounds_text names (Some ranges)

module _ (name : List ℕ) (names : List (List ℕ)) (t : List ℕ) where
  ranges_behind : (i : HasItem name t) → Dec (HasFurther names i.rest) → Dec (HasRanges (name ∷ names) t)
  ranges_behind i (yes h) = yes (record {
    ranges = i.range ∷ h.more;
    is = cons_bounds name names i.range h.more i.is h.is;
    text = i.text ∙ ap (λ v. (name ++ within_text i.range) ++ v) h.text;
  })
  ranges_behind i (no none) =
      no (λ h. no_others name names t i.range i.rest i.text i.is (λ more is text. none (record { more = more; is = is; text = text })) h.ranges h.is h.text)

  ranges_by : Dec (HasItem name t) → Dec (HasRanges (name ∷ names) t)
  ranges_by (yes i) = ranges_behind i (has_further names i.rest)
  ranges_by (no none) = no (λ h. no_first name names t (λ range rest is text. none (record { range = range; rest = rest; text = text; is = is })) h.ranges h.is h.text)

has_ranges : (names : List (List ℕ)) (t : List ℕ) → Dec (HasRanges names t)
has_ranges [] t = decided_like (λ (e : t ≡ codes "reachable"). record { ranges = []; is = no_bounds; text = e }) (λ (h : HasRanges [] t). h.text) (is_text t (codes "reachable"))
has_ranges (name ∷ names) t = ranges_by name names t (has_item name t)

record HasBounds (names : List (List ℕ)) (t : List ℕ) : Type 0 where
  bounds : Option (List Range)
  is : AreIntBounds names bounds
  text : t ≡ bounds_text names bounds

module _ (names : List (List ℕ)) (t : List ℕ) where
  neither : ¬ (t ≡ codes "unreachable") → ¬ (HasRanges names t) → (bounds : Option (List Range)) → AreIntBounds names bounds → ¬ (t ≡ bounds_text names bounds)
  neither none other None is text = none text
  neither none other (Some ranges) is text = other (record { ranges = ranges; is = is; text = text })

  bounds_by : Dec (t ≡ codes "unreachable") → Dec (HasRanges names t) → Dec (HasBounds names t)
  bounds_by (yes e) d = yes (record { bounds = None; is = tt; text = e })
  bounds_by (no none) (yes h) = yes (record { bounds = Some h.ranges; is = h.is; text = h.text })
  bounds_by (no none) (no other) = no (λ h. neither none other h.bounds h.is h.text)

  has_bounds : Dec (HasBounds names t)
  has_bounds = bounds_by (is_text t (codes "unreachable")) (has_ranges names t)

-- ---- loops

record HasLoop (line : List ℕ) : Type 0 where
  place : Place
  region : List ℕ
  leaf : List ℕ
  is : IsLoopText line place region leaf

module _ (line : List ℕ) where
  loop_cut : (t : List ℕ) → line ≡ codes "loop " ++ t → (p : HasPlace (codes " if ") t) → Lacks (codes ": ") p.rest ⊎ IsCutSomewhere (codes ": ") p.rest → Dec (HasLoop line)
  loop_cut t e p (inl lacks) = no (λ h. no_loop_cut line t p.place p.rest e p.text p.is lacks h.place h.region h.leaf h.is)
  loop_cut t e p (inr c) = yes (record {
    place = p.place;
    region = c.front;
    leaf = c.rest;
    is = record { behind = p.rest; text = e ∙ ap (λ v. codes "loop " ++ v) p.text; region_ends = c.cut; place_is = p.is };
  })

  loop_place : (t : List ℕ) → line ≡ codes "loop " ++ t → Dec (HasPlace (codes " if ") t) → Dec (HasLoop line)
  loop_place t e (yes p) = loop_cut t e p (cut_or_lacks (codes ": ") p.rest)
  loop_place t e (no none) = no (λ h. none (record {
    place = h.place;
    rest = h.is.behind;
    text = append_cancel_left (codes "loop ") t (place_text h.place ++ (codes " if " ++ h.is.behind)) (sym e ∙ h.is.text);
    is = h.is.place_is;
  }))

  loop_by : Dec (HasFront (codes "loop ") line) → Dec (HasLoop line)
  loop_by (yes (t, e)) = loop_place t e (has_place (codes " if ") t)
  loop_by (no none) = no (λ h. none (place_text h.place ++ (codes " if " ++ h.is.behind), h.is.text))

  has_loop : Dec (HasLoop line)
  has_loop = loop_by (has_front (codes "loop ") line)

-- ---- alarms

record HasKind (t : List ℕ) : Type 0 where
  kind : Kind
  rest : List ℕ
  text : t ≡ kind_text kind ++ (codes " if " ++ rest)

kind_by : (t : List ℕ) → Dec (HasFront (codes "overflow if ") t) → Dec (HasFront (codes "zero-divisor if ") t) → Dec (HasFront (codes "assertion if ") t) → Dec (HasKind t)
kind_by t (yes (rest, e)) b c = yes (record { kind = Overflow; rest = rest; text = e })
kind_by t (no x) (yes (rest, e)) c = yes (record { kind = ZeroDivisor; rest = rest; text = e })
kind_by t (no x) (no y) (yes (rest, e)) = yes (record { kind = Assertion; rest = rest; text = e })
kind_by t (no x) (no y) (no z) = no (λ h. no_kind t (λ rest e. x (rest, e)) (λ rest e. y (rest, e)) (λ rest e. z (rest, e)) h.kind h.rest h.text)

has_kind : (t : List ℕ) → Dec (HasKind t)
has_kind t = kind_by t (has_front (codes "overflow if ") t) (has_front (codes "zero-divisor if ") t) (has_front (codes "assertion if ") t)

record HasAlarm (line : List ℕ) : Type 0 where
  place : Place
  kind : Kind
  region : List ℕ
  is : IsAlarmLine line place kind region

module _ (line : List ℕ) where
  alarm_kind : (t : List ℕ) → line ≡ codes "alarm " ++ t → (p : HasPlace (codes ": ") t) → Dec (HasKind p.rest) → Dec (HasAlarm line)
  alarm_kind t e p (yes k) = yes (record {
    place = p.place;
    kind = k.kind;
    region = k.rest;
    is = record {
      text = e ∙ ap (λ v. codes "alarm " ++ v) (p.text ∙ ap (λ v. place_text p.place ++ (codes ": " ++ v)) k.text);
      place_is = p.is;
    };
  })
  alarm_kind t e p (no none) =
      no (λ h. no_alarm_kind line t p.place p.rest e p.text p.is (λ kind rest text. none (record { kind = kind; rest = rest; text = text })) h.place h.kind h.region h.is)

  alarm_place : (t : List ℕ) → line ≡ codes "alarm " ++ t → Dec (HasPlace (codes ": ") t) → Dec (HasAlarm line)
  alarm_place t e (yes p) = alarm_kind t e p (has_kind p.rest)
  alarm_place t e (no none) = no (λ h. none (record {
    place = h.place;
    rest = kind_text h.kind ++ (codes " if " ++ h.region);
    text = behind_alarm line t e h.place h.kind h.region h.is;
    is = h.is.place_is;
  }))

  alarm_by : Dec (HasFront (codes "alarm ") line) → Dec (HasAlarm line)
  alarm_by (yes (t, e)) = alarm_place t e (has_place (codes ": ") t)
  alarm_by (no none) = no (λ h. none (place_text h.place ++ (codes ": " ++ (kind_text h.kind ++ (codes " if " ++ h.region))), h.is.text))

  has_alarm : Dec (HasAlarm line)
  has_alarm = alarm_by (has_front (codes "alarm ") line)

-- ---- lines

pub record HasSaying (names : List (List ℕ)) (line : List ℕ) : Type 0 where
  pub saying : Saying
  pub says : Says names line saying

module _ (names : List (List ℕ)) (line : List ℕ) where
  saying_leaf : (l : HasLoop line) → Dec (HasBounds names l.leaf) → Dec (HasSaying names line)
  saying_leaf l (yes b) = yes (record {
    saying = Loop l.place l.region b.bounds;
    says = (subst (IsLoopText line l.place l.region) b.text l.is, b.is);
  })
  saying_leaf l (no none) =
      no (λ h. no_leaf names line l.place l.region l.leaf l.is (λ bounds is text. none (record { bounds = bounds; is = is; text = text })) h.saying h.says)

  saying_by : Dec (HasLoop line) → Dec (HasAlarm line) → Dec (HasSaying names line)
  saying_by (yes l) d = saying_leaf l (has_bounds names l.leaf)
  saying_by (no none) (yes a) = yes (record { saying = Alarm a.place a.kind a.region; says = a.is })
  saying_by (no none) (no other) =
      no (λ h. no_saying names line (λ place region leaf is. none (record { place = place; region = region; leaf = leaf; is = is }))
      (λ place kind region is. other (record { place = place; kind = kind; region = region; is = is })) h.saying h.says)

  pub has_saying : Dec (HasSaying names line)
  has_saying = saying_by (has_loop line) (has_alarm line)

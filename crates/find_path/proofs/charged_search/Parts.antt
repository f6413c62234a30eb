-- The rules of the search, step by step, as the code takes them.
use mathlib.Core.Path.{◌≡◌, refl, sym, ◌∙◌, ap}
use Prim.Native.Nat.{ℕ, zero, suc, ◌≤◌}
use native.Mathlib.Omega.{arith}
use mathlib.Core.List.{List, [], ◌∷◌, ◌++◌}
use mathlib.Core.Bool.{Bool, true, false, not, false≢true}
use Rattle.std.specs.Prelude.{Option, None, Some, Result, Ok, Err}
use lib.Dec.{eqb}
use Rattle.snapshot.specs.Records.{Snapshot, Dependency, Import}
use Rattle.hir_def.specs.Finds.{select}
use Rattle.hir_def.specs.Items.{crate_of, home_of, ns_of, module_item}
use Rattle.hir_def.specs.Nameres.{is_dependency, is_sysroot, by_sysroot, dependencies_of, lang_of, sysroot_first}
use Rattle.hir_def.specs.ImportMap.{import_info_for}
use Rattle.hir_def.specs.declared.Item.{Item}
use Rattle.hir_def.proofs.Lookups.{select_select}
use Rattle.find_path_choice.specs.Choices.{Choice}
use Rattle.find_path_spec.specs.declared.Tank.{Tank}
use Rattle.find_path_spec.specs.declared.FindPathCtx.{FindPathCtx}
use Rattle.find_path_choice.specs.Choices.{nothing, length_left}
use Rattle.find_path_spec.specs.Rules.{module_rules, sought_of}
use Rattle.find_path_spec.specs.Meters.{Charged, go, stop, from_tank}
use Rattle.find_path_spec.specs.Conditions.{charged_by}
use Rattle.find_path_spec.specs.Charged.{Out, Found, found_of, is_stable, langs, one_or_none, is_at, offer_import, find_import, find_in_dep}
use Rattle.find_path_spec.specs.Charged.{find_in_deps, find_in_sysroot, go_on, after_charge, calculate_best_path, or_charged, find_path_for_module}
use Rattle.find_path_spec.specs.Search.{best_local, module_to, search_module}
use Rattle.find_path_spec.proofs.laws.Unfold.{module_more}
use Rattle.find_path.specs.charged_search.Parts.{modules, best_path, one_import, imports, dependencies, sysroot, in_lang}

-- an answer of the code, from its parts
abbrev pub found : Choice → Tank → Found
found c t = record { choice = c; meter = t }

-- ... and as the rules take it
abbrev pub taken : Found → Out Tank
taken f = record { choice = f.choice; meter = f.meter }

-- a home, +1, and its crate
pub at_none : (s : Snapshot) (h c : ℕ) → h ≡ 0 → false ≡ is_at s h c
unfolding is_at
at_none s zero c e = refl
at_none s (suc n) c e = absurd (omega arith)

pub at_some : (s : Snapshot) (h c : ℕ) {k m : ℕ} → h ≡ suc m → k ≡ crate_of s m → eqb k c ≡ is_at s h c
unfolding is_at
at_some s zero c h e = absurd (omega (arith, h))
at_some s (suc n) c {m = m} h e = let q : m ≡ n = omega (arith, h) in ap (λ (k : ℕ). eqb k c) (e ∙ ap (crate_of s) q)

pub at_home : (s : Snapshot) (item : Item) (c : ℕ) {h : ℕ} {b : Bool} → h ≡ home_of s item → b ≡ is_at s h c → is_at s (home_of s item) c ≡ b
at_home s item c e f = sym (f ∙ ap (λ (h : ℕ). is_at s h c) e)

pub module_ns : (m : ℕ) → ns_of (module_item m) ≤ 2
unfolding ns_of
module_ns m = omega arith

module _ (s : Snapshot) (x : FindPathCtx) where
  -- the module search

  rule_more : (left m : ℕ) (t : Tank) → (left ≡ 0 → ⊥)
      → modules s x left m t
      ≡ or_charged Tank from_tank s x (best_local s x) (modules s x) left m t (module_rules s x true m) (module_rules s x true m).found
  unfolding find_path_for_module
  rule_more zero m t h = absurd (h refl)
  rule_more (suc n) m t h = module_more Tank from_tank s x (suc n) m t

  pub module_none : (left m : ℕ) (t : Tank) → left ≡ 0 → found nothing t ≡ found_of (modules s x left m t)
  unfolding search_module module_to
  module_none zero m t e = refl
  module_none (suc n) m t e = absurd (omega arith)

  or_yes : (left m : ℕ) (t : Tank) (c : Choice) (b : Bool) → b ≡ true
      → found_of (or_charged Tank from_tank s x (best_local s x) (modules s x) left m t c b) ≡ found c t
  unfolding or_charged
  or_yes left m t c true e = refl
  or_yes left m t c false e = absurd (false≢true e)

  or_no : (left m : ℕ) (t : Tank) (c : Choice) (b : Bool) → b ≡ false
      → or_charged Tank from_tank s x (best_local s x) (modules s x) left m t c b ≡ best_path s x left (module_item m) t
  unfolding or_charged
  or_no left m t c true e = absurd (false≢true (sym e))
  or_no left m t c false e = refl

  pub module_found : (left m : ℕ) (t : Tank) {c : Choice} → (left ≡ 0 → ⊥) → c ≡ module_rules s x true m → c.found ≡ true
      → found c t ≡ found_of (modules s x left m t)
  module_found left m t h e f =
      ap (λ (c : Choice). found c t) e
      ∙ sym (ap found_of (rule_more left m t h) ∙ or_yes left m t _ _ (ap (λ (c : Choice). c.found) (sym e) ∙ f))

  pub module_charged : (left m : ℕ) (t : Tank) {c : Choice} → (left ≡ 0 → ⊥) → c ≡ module_rules s x true m → c.found ≡ false
      → best_path s x left (module_item m) t ≡ modules s x left m t
  module_charged left m t h e f =
      sym (rule_more left m t h ∙ or_no left m t _ _ (ap (λ (c : Choice). c.found) (sym e) ∙ f))

  -- the charge
  module _ (left : ℕ) (item : Item) where
    abbrev pub after : Charged Tank → Out Tank
    after = after_charge Tank from_tank s x (best_local s x) (modules s x) left item

    by_charge : (t : Tank) (d : Result Tank Tank) (c : Charged Tank) → charged_by d ≡ from_tank left (sought_of x item) t
        → charged_by d ≡ c → after c ≡ best_path s x left item t
    unfolding calculate_best_path
    by_charge t d c e h = ap after (sym h ∙ e)

    pub best_empty : (t : Tank) {d : Result Tank Tank} {u : Tank} → charged_by d ≡ from_tank left (sought_of x item) t → d ≡ Err u
        → found nothing u ≡ found_of (best_path s x left item t)
    unfolding after_charge charged_by
    best_empty t {d} {u} e h = ap found_of (by_charge t d (stop u) e (ap charged_by h))

    pub best_charged : (t : Tank) {d : Result Tank Tank} {u : Tank} → charged_by d ≡ from_tank left (sought_of x item) t → d ≡ Ok u
        → after (go u) ≡ best_path s x left item t
    unfolding charged_by
    best_charged t {d} {u} e h = by_charge t d (go u) e (ap charged_by h)

    -- and what follows it
    pub go_here : (t : Tank) {c : Choice} → c ≡ best_local s x left item → is_at s (home_of s item) x.from_crate.0 ≡ true
        → found c t ≡ found_of (after (go t))
    unfolding after_charge go_on
    go_here t e h =
        ap (λ (c : Choice). found c t) e
        ∙ sym (ap (λ (b : Bool). found_of (go_on Tank from_tank s x (best_local s x) (modules s x) left item t b x.is_std_item)) h)

    pub go_sysroot : (t : Tank) → is_at s (home_of s item) x.from_crate.0 ≡ false → x.is_std_item ≡ true
        → sysroot s x left item (record { choice = nothing; meter = t }) (langs x.prefer_no_std) false ≡ after (go t)
    unfolding after_charge go_on
    go_sysroot t h k =
        sym
        (ap (λ (b : Bool). go_on Tank from_tank s x (best_local s x) (modules s x) left item t b x.is_std_item) h
        ∙ ap (λ (b : Bool). go_on Tank from_tank s x (best_local s x) (modules s x) left item t false b) k)

    pub go_dependencies : (t : Tank) → is_at s (home_of s item) x.from_crate.0 ≡ false → x.is_std_item ≡ false
        → dependencies s x left item (record { choice = nothing; meter = t }) (dependencies_of s x.from_crate.0) ≡ after (go t)
    unfolding after_charge go_on
    go_dependencies t h k =
        sym
        (ap (λ (b : Bool). go_on Tank from_tank s x (best_local s x) (modules s x) left item t b x.is_std_item) h
        ∙ ap (λ (b : Bool). go_on Tank from_tank s x (best_local s x) (modules s x) left item t false b) k)

    -- the languages in turn
    stable_done : (o : Out Tank) (ls : List ℕ) → sysroot s x left item o ls true ≡ o
    unfolding find_in_sysroot
    stable_done o [] = refl
    stable_done o (n ∷ ls) = refl

    lang_step : (o : Out Tank) (n : ℕ) (ls : List ℕ) (b : Bool) → is_stable o.choice ≡ b
        → sysroot s x left item (in_lang s x left item o n b) ls (is_stable (in_lang s x left item o n b).choice) ≡ sysroot s x left item o (n ∷ ls) b
    unfolding find_in_sysroot in_lang
    lang_step o n ls true e = ap (sysroot s x left item o ls) e ∙ stable_done o ls
    lang_step o n ls false e = refl

    pub lang_next : (o : Out Tank) (n : ℕ) (ls : List ℕ)
        → sysroot s x left item (in_lang s x left item o n (is_stable o.choice)) ls
        (is_stable (in_lang s x left item o n (is_stable o.choice)).choice)
        ≡ sysroot s x left item o (n ∷ ls) (is_stable o.choice)
    lang_next o n ls = lang_step o n ls _ refl

    pub lang_stable : (o : Out Tank) (n : ℕ) (b : Bool) → b ≡ true → o ≡ in_lang s x left item o n b
    unfolding in_lang
    lang_stable o n true e = refl
    lang_stable o n false e = absurd (false≢true e)

    lang_by : (o : Out Tank) (n : ℕ) (b : Bool) (d : Option Dependency) → b ≡ false → d ≡ lang_of s x.from_crate.0 n
        → dependencies s x left item o (one_or_none d) ≡ in_lang s x left item o n b
    unfolding in_lang
    lang_by o n true d e h = absurd (false≢true (sym e))
    lang_by o n false d e h = ap (λ (y : Option Dependency). dependencies s x left item o (one_or_none y)) h

    pub lang_none : (o : Out Tank) (n : ℕ) (b : Bool) → b ≡ false → None ≡ lang_of s x.from_crate.0 n → o ≡ in_lang s x left item o n b
    unfolding find_in_deps one_or_none
    lang_none o n b e h = lang_by o n b None e h

    pub lang_some : (o : Out Tank) (n : ℕ) (b : Bool) (d : Dependency) → b ≡ false → Some d ≡ lang_of s x.from_crate.0 n
        → imports s x left o (import_info_for s d.crate item) ≡ in_lang s x left item o n b
    unfolding find_in_deps find_in_dep one_or_none
    lang_some o n b d e h = lang_by o n b (Some d) e h

    -- every dependency, those of the sysroot first
    deps_append : (o : Out Tank) (ds es : List Dependency)
        → dependencies s x left item (dependencies s x left item o ds) es ≡ dependencies s x left item o (ds ++ es)
    unfolding find_in_deps
    deps_append o [] es = refl
    deps_append o (d ∷ ds) es = deps_append (find_in_dep Tank from_tank s x (best_local s x) (modules s x) left item o d) ds es

    sysroot_parts : select (by_sysroot x.from_crate.0 true) s.dependencies ++ select (by_sysroot x.from_crate.0 false)
        s.dependencies ≡ sysroot_first s x.from_crate.0
    unfolding sysroot_first dependencies_of
    sysroot_parts =
        sym
        (ap (λ (l : List Dependency). l ++ select (λ d. not (is_sysroot d)) (select (is_dependency x.from_crate.0) s.dependencies))
        (select_select is_sysroot (is_dependency x.from_crate.0) s.dependencies)
        ∙ ap (λ (l : List Dependency). select (by_sysroot x.from_crate.0 true) s.dependencies ++ l)
        (select_select (λ d. not (is_sysroot d)) (is_dependency x.from_crate.0) s.dependencies))

    pub rest_stable : (o : Out Tank) (b : Bool) → b ≡ true → o ≡ sysroot s x left item o [] b
    unfolding find_in_sysroot
    rest_stable o true e = refl
    rest_stable o false e = absurd (false≢true e)

    pub rest_more : (o : Out Tank) (b : Bool) → b ≡ false
        → dependencies s x left item (dependencies s x left item o (select (by_sysroot x.from_crate.0 true) s.dependencies))
        (select (by_sysroot x.from_crate.0 false) s.dependencies)
        ≡ sysroot s x left item o [] b
    unfolding find_in_sysroot
    rest_more o true e = absurd (false≢true (sym e))
    rest_more o false e = deps_append o _ _ ∙ ap (dependencies s x left item o) sysroot_parts

  -- an import
  pub import_hidden : (left : ℕ) (o : Out Tank) (i : Import) (b : Bool) → b ≡ true → o ≡ one_import s x left o i b
  unfolding find_import
  import_hidden left o i true e = refl
  import_hidden left o i false e = absurd (false≢true e)

  pub import_seen : (left : ℕ) (o : Out Tank) (i : Import) (b : Bool) (r : Found) → b ≡ false
      → r ≡ found_of (modules s x (length_left left o.choice) i.container o.meter)
      → found (offer_import s x o.choice r.choice i) r.meter ≡ found_of (one_import s x left o i b)
  unfolding find_import
  import_seen left o i true r e h = absurd (false≢true (sym e))
  import_seen left o i false r e h = ap (λ (y : Found). found (offer_import s x o.choice y.choice i) y.meter) h

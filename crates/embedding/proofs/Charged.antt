-- The charged search gives alike choices and meters, whatever the meter.
use Prim.Native.Nat.{ℕ, zero, suc, ◌+◌, ◌≤◌, ◌<◌}
use mathlib.Core.Path.{◌≡◌, refl, sym, ◌∙◌, ap, ap₂, subst}
use mathlib.Core.List.{List, [], ◌∷◌}
use mathlib.Core.Bool.{Bool, true, false, ◌&&◌}
use Rattle.std.specs.Prelude.{Option, None, Some}
use native.Mathlib.Omega.{arith}
use borrow.Author.Tests.{eqb-true}
use lib.Dec.{eqb}
use lib.ListN.{length}
use Rattle.snapshot.specs.Records.{Snapshot, Definition, Import, Dependency}
use Rattle.check_rules.specs.Tests.{counts_of}
use Rattle.accept.specs.Valid.{Valid, ImportFits}
use Rattle.accept.proofs.Accepted.{by_test}
use Rattle.hir_def.specs.Items.{types, variant_kind, crate_of, definition_of, item_of, home_of, module_item}
use Rattle.hir_def.specs.Nameres.{lang_of}
use Rattle.hir_def.specs.ImportMap.{is_hidden, is_unstable, import_info_for}
use Rattle.hir_def.specs.declared.Item.{Item}
use Rattle.hir_def.specs.declared.Item.TheVariants.{Mod, Def}
use Rattle.find_path_choice.specs.Choices.{Choice}
use Rattle.find_path_choice.specs.Choices.{via_variant, via_import, step_by, push, length_left}
use Rattle.find_path_spec.specs.declared.FindPathCtx.{FindPathCtx}
use Rattle.find_path_spec.specs.Rules.{module_in, sought_of, scope_rule, prelude_rule, first_found, module_rules}
use Rattle.find_path_spec.specs.Meters.{Charged, Charge, go, stop}
use Rattle.find_path_spec.specs.Charged.{Out, Search, Inner, is_stable, langs, one_or_none, is_at, variant_of, push_variant, offer_import}
use Rattle.find_path_spec.specs.Charged.{find_import}
use Rattle.find_path_spec.specs.Charged.{find_imports, find_in_dep, find_in_deps, find_in_sysroot, go_on, after_charge, calculate_best_path}
use Rattle.find_path_spec.specs.Charged.{or_charged}
use Rattle.find_path_spec.specs.Charged.{find_path_for_module, after_enum, via_enum, or_enum, by_name, of_module, find_path_inner}
use Rattle.find_path_spec.specs.Search.{best_local, module_to, search_module, item_to, search_item}
use Rattle.join_rules.specs.Joined.{Numbers, or_none, second_to, first_to}
use Rattle.embedding.specs.Embeds as embeds
use Rattle.embedding.specs.Embeds.{Embeds, ImportAlike, context_to}
use Rattle.embedding.proofs.Chains.{eqb_moved, none_apart, crate_moved, crate_known}
use Rattle.embedding.proofs.Lookups.{Both, neither, each, Along, end, next, Hit, Has, kind_moved, first_moved, second_moved, fits, item_moved}
use Rattle.embedding.proofs.Lookups.{item_has, home_moved, home_low}
use Rattle.embedding.proofs.Scopes.{dependencies_moved, imports_moved}
use Rattle.embedding.proofs.Crates.{DependencyHit, lang_moved, sysroot_first_moved}
use Rattle.embedding.proofs.Choices.{Alike, by_same, nothing_alike, length_left_alike, unstably_alike, push_alike}
use Rattle.embedding.proofs.Rules.{Sits, first_found_alike, scope_rule_alike, prelude_rule_alike, module_rules_alike}
use Rattle.embedding.proofs.Local.{offer_alike, best_local_alike}

-- the module that an item is
module _ (e : Numbers) (s : Snapshot) where
  pub module_in_moved : (item : Item) → module_in (embeds.item_to e item) ≡ or_none e.modules (module_in item)
  unfolding module_in embeds.item_to
  module_in_moved (Mod m) =
      let a : m.0 + 1 ≡ suc m.0 = omega arith in
      let b : e.modules m.0 + 1 ≡ suc (e.modules m.0) = omega arith in
      b ∙ ap (or_none e.modules) (sym a)
  module_in_moved (Def ns d) = refl

  pub module_in_low : (item : Item) → Has s item → module_in item ≤ length s.modules
  unfolding module_in
  module_in_low (Mod m) h = omega arith
  module_in_low (Def ns d) h = omega arith

-- charges that both go on, or both stop
pub data Fare {M : Type 0} (R : M → M → Type 0) : Charged M → Charged M → Type 0 where
  goes : {t t' : M} → R t t' → Fare R (go t) (go t')
  stops : {t t' : M} → R t t' → Fare R (stop t) (stop t')

-- a charge that keeps the meters alike, told a module of the snapshot, +1, or 0
abbrev pub Fair : {M : Type 0} → Numbers → Snapshot → Charge M → (M → M → Type 0) → Type 0
Fair {M} e s charge R =
    (left sought : ℕ) → sought ≤ length s.modules → (t t' : M) → R t t' → Fare R (charge left sought t)
    (charge left (or_none e.modules sought) t')

-- what two searches leave
pub record OutAlike {M : Type 0} (e : Numbers) (s : Snapshot) (R : M → M → Type 0) (o p : Out M) : Type 0 where
  pub choice : Alike e s o.choice p.choice
  pub meter : R o.meter p.meter

module _ (e : Numbers) (s u : Snapshot) (em : Embeds e s u) (v : Valid s) (w : Valid u) (x : FindPathCtx) (at : Sits s x) where
  abbrev n : ℕ
  n = length s.modules

  abbrev y : FindPathCtx
  y = context_to e x

  -- what a charge is told

  none_or : (a : Bool) (k : ℕ) → elim a [ true ↦ 0 | false ↦ or_none e.modules k ] ≡ or_none e.modules (elim a [ true ↦ 0 | false ↦ k ])
  none_or true k = refl
  none_or false k = refl

  zero_low : (a : Bool) (k : ℕ) → k ≤ n → elim a [ true ↦ 0 | false ↦ k ] ≤ n
  zero_low true k h = omega arith
  zero_low false k h = h

  pub sought_moved : (item : Item) → Has s item → (sought_of y (embeds.item_to e item) ≡ or_none e.modules (sought_of x item))
      × (sought_of x item ≤ n)
  unfolding sought_of
  sought_moved item h =
      let q = module_in_moved e s item in
      let k = module_in_low e s item h in
      let o = at.own in
      let c = ap (λ i. eqb i (or_none e.modules x.own)) q ∙ eqb_moved (or_none e.modules) (suc n)
      (none_apart e.modules n em.modules_apart) (module_in item) x.own (omega arith) (omega arith) in (
        (λ i. elim (c i) [ true ↦ 0 | false ↦ q i ]) ∙ none_or (eqb (module_in item) x.own) (module_in item),
        zero_low (eqb (module_in item) x.own)
            (module_in item) k,
      )

  -- where a home is

  at_moved : (h c : ℕ) → h ≤ n → c < length s.crates → is_at u (or_none e.modules h) (e.crates c) ≡ is_at s h c
  unfolding is_at
  at_moved zero c a b = refl
  at_moved (suc h) c a b =
      let l : h < n = omega arith in
      ap (λ i. eqb i (e.crates c)) (crate_moved e s u em v w h l) ∙ eqb_moved e.crates (length s.crates) em.crates_apart
      (crate_of s h) c (crate_known e s u em v w h l) b

  home_at : (item : Item) → Has s item → is_at u (home_of u (embeds.item_to e item)) y.from_crate.0 ≡ is_at s (home_of s item) x.from_crate.0
  home_at item h =
      ap (λ i. is_at u i (e.crates x.from_crate.0)) (home_moved e s u em v item h) ∙ at_moved (home_of s item) x.from_crate.0
      (home_low e s u em v item h) at.crate

  -- a variant, its enum and its name

  abbrev VariantAlike : Definition → Definition → Type 0
  VariantAlike a b =
      (a.first < length s.definitions) × (b.first ≡ e.definitions a.first) × (a.second < length s.names)
      × (b.second ≡ e.names a.second)

  variant_moved : (item : Item) → Has s item → Both VariantAlike (variant_of s item) (variant_of u (embeds.item_to e item))
  unfolding variant_of embeds.item_to
  variant_moved (Mod m) h = neither
  variant_moved (Def ns i) l =
      let d = i.0 in
      let a = definition_of s d in
      let b = definition_of u (e.definitions d) in
      let k = kind_moved e s u em v d l in
      by_test (eqb a.kind variant_kind)
      (λ t.
      let f = (fits e s u em v d l).variant (eqb-true a.kind 2 t) in
      let t' : eqb b.kind variant_kind ≡ true = ap (λ j. eqb j variant_kind) k ∙ t in
      let first : b.first ≡ e.definitions a.first = first_moved e s u em v d l ∙ rw (first_to, t) in
      let second : b.second ≡ e.names a.second = second_moved e s u em v d l ∙ rw (second_to, t) in
      subst (λ j. Both VariantAlike (elim j [ true ↦ Some a | false ↦ None ]) (variant_of u (Def ns (record { 0 = e.definitions d })))) (sym t)
      (subst (λ j. Both VariantAlike (Some a) (elim j [ true ↦ Some b | false ↦ None ])) (sym t') (each (f.0, first, f.1, second))))
      (λ t.
      let t' : eqb b.kind variant_kind ≡ false = ap (λ j. eqb j variant_kind) k ∙ t in
      subst (λ j. Both VariantAlike (elim j [ true ↦ Some a | false ↦ None ]) (variant_of u (Def ns (record { 0 = e.definitions d })))) (sym t)
      (subst (λ j. Both VariantAlike None (elim j [ true ↦ Some b | false ↦ None ])) (sym t') neither))

  push_variant_alike : {c d : Choice} → Alike e s c d → (a b : Definition) → VariantAlike a b → Alike e s (push_variant s c a) (push_variant u d b)
  unfolding push_variant
  push_variant_alike {c} {d} k a b h =
      subst (λ i. Alike e s (push_variant s c a) (push u d i (step_by via_variant b.place))) (sym h.3)
      (push_alike e s u em k a.second (step_by via_variant a.place) (step_by via_variant b.place) h.2)

  -- imports

  offer_import_alike : {b b' c c' : Choice} → Alike e s b b' → Alike e s c c' → (i j : Import) → ImportFits (counts_of s) i → ImportAlike e i j
      → Alike e s (offer_import s x b c i) (offer_import u y b' c' j)
  unfolding offer_import
  offer_import_alike b c i j f a =
      let q : j.name ≡ e.names i.name = ap (λ (z : Import). z.name) a in
      let p = step_by via_import i.place in
      let p' = step_by via_import j.place in
      by_same (ap is_unstable a)
      (by_same {a = x.allow_unstable} refl (offer_alike e s u em v w x at b (unstably_alike e s u em c) i.name j.name p p' f.name q) b)
      (offer_alike e s u em v w x at b c i.name j.name p p' f.name q)

  module _ (M : Type 0) (charge : Charge M) (R : M → M → Type 0) (fair : Fair e s charge R) where
    -- searches that leave alike

    abbrev AlikeSearch : Search M → Search M → Type 0
    AlikeSearch f g = (left m : ℕ) → m < n → (t t' : M) → R t t' → OutAlike e s R (f left m t) (g left (e.modules m) t')

    abbrev AlikeInner : Inner M → Inner M → Type 0
    AlikeInner f g = (item : Item) → Has s item → (t t' : M) → R t t' → OutAlike e s R (f item t) (g (embeds.item_to e item) t')

    abbrev here : ℕ → Item → Choice
    here = best_local s x

    abbrev there : ℕ → Item → Choice
    there = best_local u y

    module _ (f g : Search M) (fg : AlikeSearch f g) (left : ℕ) where
      find_import_alike : {o p : Out M} → OutAlike e s R o p → (i j : Import) → ImportFits (counts_of s) i → ImportAlike e i j → (b : Bool)
          → OutAlike e s R (find_import M charge s x here f left o i b) (find_import M charge u y there g left p j b)
      unfolding find_import
      find_import_alike a i j k h true = a
      find_import_alike {o} {p} a i j k h false =
          let r = subst (λ d. OutAlike e s R (f (length_left left o.choice) i.container o.meter)
          (g (length_left left p.choice) d p.meter)) (sym (ap (λ (z : Import). z.container) h))
          (subst (λ d. OutAlike e s R (f (length_left left o.choice) i.container o.meter) (g d (e.modules i.container) p.meter))
          (sym (length_left_alike e s u em a.choice left))
          (fg (length_left left o.choice) i.container k.container o.meter p.meter a.meter)) in
          record { choice = offer_import_alike a.choice r.choice i j k h; meter = r.meter }

      find_imports_alike : {t : Import → Bool} {is js : List Import} → Along (Hit (ImportFits (counts_of s)) (ImportAlike e) t) is js → {o p : Out M}
          → OutAlike e s R o p
          → OutAlike e s R (find_imports M charge s x here f left o is) (find_imports M charge u y there g left p js)
      unfolding find_imports
      find_imports_alike end a = a
      find_imports_alike (next {x = i} {z = j} h r) {o = o} {p = p} a =
          find_imports_alike r
          (subst (λ b. OutAlike e s R (find_import M charge s x here f left o i (is_hidden i)) (find_import M charge u y there g left p j b))
          (sym (ap is_hidden h.1))
          (find_import_alike a i j h.0 h.1 (is_hidden i)))

      module _ (item : Item) (h : Has s item) where
        -- `find_in_dep`
        find_in_dep_alike : {o p : Out M} → OutAlike e s R o p → (c d : Dependency) → DependencyHit e s u em v x.from_crate.0 at.crate c d
            → OutAlike e s R (find_in_dep M charge s x here f left item o c) (find_in_dep M charge u y there g left (embeds.item_to e item) p d)
        unfolding find_in_dep
        find_in_dep_alike {o} {p} a c d k =
            subst (λ i. OutAlike e s R (find_in_dep M charge s x here f left item o c)
            (find_imports M charge u y there g left p (import_info_for u i (embeds.item_to e item))))
            (sym (ap (λ (z : Dependency). z.crate) k.1)) (find_imports_alike (imports_moved e s u em v c.crate k.0.crate item h) a)

        find_in_deps_alike : {cs ds : List Dependency} → Along (DependencyHit e s u em v x.from_crate.0 at.crate) cs ds → {o p : Out M}
            → OutAlike e s R o p
            → OutAlike e s R (find_in_deps M charge s x here f left item o cs) (find_in_deps M charge u y there g left (embeds.item_to e item) p ds)
        unfolding find_in_deps
        find_in_deps_alike end a = a
        find_in_deps_alike (next {x = c} {z = d} k r) a = find_in_deps_alike r (find_in_dep_alike a c d k)

        one_along : {a b : Option Dependency} → Both (DependencyHit e s u em v x.from_crate.0 at.crate) a b
            → Along (DependencyHit e s u em v x.from_crate.0 at.crate) (one_or_none a) (one_or_none b)
        unfolding one_or_none
        one_along neither = end
        one_along (each k) = next k end

        -- `find_in_sysroot`
        find_in_sysroot_alike : (ls : List ℕ) (b : Bool) {o p : Out M} → OutAlike e s R o p
            → OutAlike e s R (find_in_sysroot M charge s x here f left item o ls b) (find_in_sysroot M charge u y there g left
            (embeds.item_to e item) p ls b)
        unfolding find_in_sysroot
        find_in_sysroot_alike [] true a = a
        find_in_sysroot_alike [] false a = find_in_deps_alike (sysroot_first_moved e s u em v x.from_crate.0 at.crate) a
        find_in_sysroot_alike (l ∷ ls) true a = a
        find_in_sysroot_alike (l ∷ ls) false {o = o} {p = p} a =
            let r = find_in_deps M charge s x here f left item o (one_or_none (lang_of s x.from_crate.0 l)) in
            let q = find_in_deps M charge u y there g left (embeds.item_to e item) p (one_or_none (lang_of u (e.crates x.from_crate.0) l)) in
            let k = find_in_deps_alike (one_along (lang_moved e s u em v x.from_crate.0 at.crate l)) a in
            subst (λ b. OutAlike e s R (find_in_sysroot M charge s x here f left item r ls (is_stable r.choice))
            (find_in_sysroot M charge u y there g left (embeds.item_to e item) q ls b))
            (sym (ap₂ (λ i j. i && j) k.choice.found k.choice.stable)) (find_in_sysroot_alike ls (is_stable r.choice) k)

        go_on_alike : (t t' : M) → R t t' → (near std : Bool)
            → OutAlike e s R (go_on M charge s x here f left item t near std) (go_on M charge u y there g left (embeds.item_to e item) t' near std)
        unfolding go_on
        go_on_alike t t' r true std = record { choice = best_local_alike e s u em v w x at left item h; meter = r }
        go_on_alike t t' r false true =
            find_in_sysroot_alike (langs x.prefer_no_std) false (record { choice = nothing_alike e s u em; meter = r })
        go_on_alike t t' r false false =
            find_in_deps_alike (dependencies_moved e s u em v x.from_crate.0 at.crate)
            (record { choice = nothing_alike e s u em; meter = r })

        after_charge_alike : {a b : Charged M} → Fare R a b
            → OutAlike e s R (after_charge M charge s x here f left item a) (after_charge M charge u y there g left (embeds.item_to e item) b)
        unfolding after_charge
        after_charge_alike (goes {t = t} {t' = t'} r) =
            subst (λ b. OutAlike e s R (after_charge M charge s x here f left item (go t))
            (go_on M charge u y there g left (embeds.item_to e item) t' b x.is_std_item)) (sym (home_at item h))
            (go_on_alike t t' r (is_at s (home_of s item) x.from_crate.0) x.is_std_item)
        after_charge_alike (stops r) = record { choice = nothing_alike e s u em; meter = r }

        -- `calculate_best_path`
        pub best_path_alike : (t t' : M) → R t t'
            → OutAlike e s R (calculate_best_path M charge s x here f left item t) (calculate_best_path M charge u y there g left
            (embeds.item_to e item) t')
        unfolding calculate_best_path
        best_path_alike t t' r =
            let k = sought_moved item h in
            subst (λ i. OutAlike e s R (calculate_best_path M charge s x here f left item t)
            (after_charge M charge u y there g left (embeds.item_to e item) (charge left i t'))) (sym k.0)
            (after_charge_alike (fair left (sought_of x item) k.1 t t' r))

    module _ (f g : Search M) (fg : AlikeSearch f g) where
      or_charged_alike : (left m : ℕ) → m < n → (t t' : M) → R t t' → {c d : Choice} → Alike e s c d → (b : Bool)
          → OutAlike e s R (or_charged M charge s x here f left m t c b) (or_charged M charge u y there g left (e.modules m) t' d b)
      unfolding or_charged embeds.item_to
      or_charged_alike left m l t t' r a true = record { choice = a; meter = r }
      or_charged_alike left m l t t' r a false = best_path_alike f g fg left (module_item m) l t t' r

      -- `find_path_for_module`
      find_module_alike : AlikeSearch (find_path_for_module M charge s x here f) (find_path_for_module M charge u y there g)
      unfolding find_path_for_module
      find_module_alike zero m l t t' r = record { choice = nothing_alike e s u em; meter = r }
      find_module_alike (suc left) m l t t' r =
          let a = module_rules_alike e s u em v w x at m l true in
          subst (λ b. OutAlike e s R (find_path_for_module M charge s x here f (suc left) m t)
          (or_charged M charge u y there g (suc left) (e.modules m) t' (module_rules u y true (e.modules m)) b))
          (sym a.found) (or_charged_alike (suc left) m l t t' r a (module_rules s x true m).found)

      module _ (i j : Inner M) (ij : AlikeInner i j) where
        after_enum_alike : (item : Item) → Has s item → (a b : Definition) → VariantAlike a b → {o p : Out M} → OutAlike e s R o p → (found : Bool)
            → OutAlike e s R (after_enum M charge s x here f item a o found) (after_enum M charge u y there g (embeds.item_to e item) b p found)
        unfolding after_enum
        after_enum_alike item h a b k q true = record { choice = push_variant_alike q.choice a b k; meter = q.meter }
        after_enum_alike item h a b k {o = o} {p = p} q false = best_path_alike f g fg x.max_len item h o.meter p.meter q.meter

        via_enum_alike : (item : Item) → Has s item → (t t' : M) → R t t' → {a b : Option Definition} → Both VariantAlike a b
            → OutAlike e s R (via_enum M charge s x here f i item t a) (via_enum M charge u y there g j (embeds.item_to e item) t' b)
        unfolding via_enum
        via_enum_alike item h t t' r neither = best_path_alike f g fg x.max_len item h t t' r
        via_enum_alike item h t t' r (each {x = a} {z = b} k) =
            let o = i (item_of s types a.first) t in
            let p = j (item_of u types b.first) t' in
            let same : item_of u types b.first ≡ embeds.item_to e (item_of s types a.first) = ap (item_of u types) k.1
            ∙ item_moved e s u em v types a.first k.0 in
            let q = subst (λ z. OutAlike e s R o (j z t')) (sym same)
            (ij (item_of s types a.first) (item_has e s u em v types a.first k.0) t t' r) in
            subst (λ z. OutAlike e s R (after_enum M charge s x here f item a o o.choice.found)
            (after_enum M charge u y there g (embeds.item_to e item) b p z)) (sym q.choice.found)
            (after_enum_alike item h a b k q o.choice.found)

        or_enum_alike : (item : Item) → Has s item → (t t' : M) → R t t' → {c d : Choice} → Alike e s c d → (found : Bool)
            → OutAlike e s R (or_enum M charge s x here f i item t c found) (or_enum M charge u y there g j (embeds.item_to e item) t' d found)
        unfolding or_enum
        or_enum_alike item h t t' r a true = record { choice = a; meter = r }
        or_enum_alike item h t t' r a false = via_enum_alike item h t t' r (variant_moved item h)

        by_name_alike : AlikeInner (by_name M charge s x here f i) (by_name M charge u y there g j)
        unfolding by_name
        by_name_alike item h t t' r =
            let c = first_found (scope_rule s x item ∷ prelude_rule s x item ∷ []) in
            let d = first_found (scope_rule u y (embeds.item_to e item) ∷ prelude_rule u y (embeds.item_to e item) ∷ []) in
            let a = first_found_alike e s u em v w (next (scope_rule_alike e s u em v w x at item h)
            (next (prelude_rule_alike e s u em v w x at item h) end)) in
            subst (λ z. OutAlike e s R (or_enum M charge s x here f i item t c c.found)
            (or_enum M charge u y there g j (embeds.item_to e item) t' d z)) (sym a.found)
            (or_enum_alike item h t t' r a c.found)

        of_module_alike : (m : ℕ) → m < n → (t t' : M) → R t t' → (std : Bool)
            → OutAlike e s R (of_module M charge s x here f i m t std) (of_module M charge u y there g j (e.modules m) t' std)
        unfolding of_module embeds.item_to
        of_module_alike m l t t' r true = by_name_alike (module_item m) l t t' r
        of_module_alike m l t t' r false = fg x.max_len m l t t' r

        -- `find_path_inner`
        find_inner_alike : AlikeInner (find_path_inner M charge s x here f i) (find_path_inner M charge u y there g j)
        unfolding find_path_inner embeds.item_to
        find_inner_alike (Mod m) l t t' r = of_module_alike m.0 l t t' r x.is_std_item
        find_inner_alike (Def ns d) l t t' r = by_name_alike (Def ns d) l t t' r

    module_to_alike : (d : ℕ) → AlikeSearch (module_to M charge s x d) (module_to M charge u y d)
    unfolding module_to
    module_to_alike zero left m l t t' r = record { choice = nothing_alike e s u em; meter = r }
    module_to_alike (suc d) left m l t t' r =
        find_module_alike (module_to M charge s x d) (module_to M charge u y d) (module_to_alike d) left m l t t' r

    pub search_module_alike : AlikeSearch (search_module M charge s x) (search_module M charge u y)
    unfolding search_module
    search_module_alike left m l t t' r = module_to_alike left left m l t t' r

    item_to_alike : (d : ℕ) → AlikeInner (item_to M charge s x d) (item_to M charge u y d)
    unfolding item_to
    item_to_alike zero item h t t' r = record { choice = nothing_alike e s u em; meter = r }
    item_to_alike (suc d) item h t t' r =
        find_inner_alike (search_module M charge s x) (search_module M charge u y) search_module_alike (item_to M charge s x d)
        (item_to M charge u y d)
        (item_to_alike d) item h t t' r

    -- the item search
    pub search_item_alike : AlikeInner (search_item M charge s x) (search_item M charge u y)
    unfolding search_item
    search_item_alike item h t t' r = item_to_alike 2 item h t t' r

-- An item that is found under a limit is found under a larger one.
use mathlib.Core.Path.{◌≡◌, refl, ap, sym, ◌∙◌, subst}
use Prim.Native.Nat.{ℕ, zero, suc, ◌+◌, ◌-◌, ◌≤◌}
use native.Mathlib.Omega.{arith}
use mathlib.Core.List.{List, [], ◌∷◌, ◌++◌}
use mathlib.Core.Bool.{Bool, true, false, ◌&&◌, ◌||◌, not, true≢false, false≢true}
use Rattle.std.specs.Prelude.{Option, None, Some}
use mathlib.Core.Logic.{◌⊎◌}
use lib.Dec.{eqb}
use Rattle.snapshot.specs.Records.{Snapshot, Scope, Prelude, Extern, Dependency, Definition, Import}
use Rattle.accept.proofs.Accepted.{by_test}
use Rattle.accept.proofs.Bools.{and_left}
use Rattle.hir_def.specs.Items.{types, map_no, crate_of, crate_root, parent_of, in_block, item_of, ns_of, module_item}
use Rattle.module_tree.specs.rules.Visibility.{sees}
use Rattle.hir_def.specs.ItemScope.{name_of, preferred}
use Rattle.hir_def.specs.Nameres.{entry_named, occupied, prelude_of, extern_of, lang_of, sysroot_first}
use Rattle.hir_def.specs.ImportMap.{import_info_for, is_hidden, is_unstable}
use Rattle.hir_def.specs.declared.Item.{Item}
use Rattle.hir_def.specs.declared.Item.TheVariants.{Mod, Def}
use Rattle.find_path_choice.specs.Choices.{Choice}
use Rattle.find_path_spec.specs.declared.FindPathCtx.{FindPathCtx}
use Rattle.find_path_spec.specs.declared.Query.{Query}
use Rattle.find_path_spec.specs.declared.Report.{Report}
use Rattle.find_path_choice.specs.Choices.{plain_path, self_path, crate_path, via_scope, via_prelude, via_extern, via_import, step_by, nothing}
use Rattle.find_path_choice.specs.Choices.{keyword, choice_new, extended, push, unstably, better, try_select, path_len, shorter_if, length_left}
use Rattle.find_path_spec.specs.Walk.{Level}
use Rattle.find_path_spec.specs.Rules.{prefix_path_kind, context_of, first_found, single, find_in_scope, may_be_in_scope, scope_rule}
use Rattle.find_path_spec.specs.Rules.{same_here, is_usable, prelude_entry, in_prelude, find_in_prelude, prelude_rule, extern_kind}
use Rattle.find_path_spec.specs.Rules.{extern_name, root_rule, parent_kind, is_kw_kind_relative_to_from, keyword_of, module_rules}
use Rattle.find_path_spec.specs.Local.{LocalSearch, offer, offer_entry, is_importable, entry_if, importable_name, location, each_location}
use Rattle.find_path_spec.specs.Local.{calculate_best_path_local, or_local, find_path_for_module_local}
use Rattle.find_path_spec.specs.Meters.{counted}
use Rattle.find_path_spec.specs.Charged.{Out, Search, Inner, is_stable, langs, one_or_none, variant_of, push_variant, offer_import, find_import}
use Rattle.find_path_spec.specs.Charged.{find_imports}
use Rattle.find_path_spec.specs.Charged.{find_in_dep, find_in_deps, find_in_sysroot, go_on, after_charge, calculate_best_path, or_charged}
use Rattle.find_path_spec.specs.Charged.{find_path_for_module}
use Rattle.find_path_spec.specs.Charged.{after_enum, via_enum, or_enum, by_name, of_module, find_path_inner}
use Rattle.find_path_spec.specs.Search.{local_to, search_local, best_local, module_to, search_module, item_to, search_item, from_home, from_item}
use Rattle.find_path_spec.specs.Search.{find_path}
use Rattle.find_path_spec.specs.Report.{outcome_of, searched_freely}
use Rattle.find_path_spec.specs.laws.Fuels.{HasPath}
use Rattle.find_path_spec.specs.Report.{report_at}
use Rattle.find_path_spec.specs.laws.Limits.{with_limit, Whole, LimitsCompared}
use Rattle.find_path_spec.proofs.laws.Outcomes.{outcome_path, path_found}
use Rattle.find_path_spec.proofs.laws.Fuels.{Searched, not_refused, searched_tells}

abbrev IsFound : Choice → Type 0
IsFound c = c.found ≡ true

-- where the one is a path, so is the other
abbrev Implies : Choice → Choice → Type 0
Implies c d = IsFound c → IsFound d

either_found : (b : Bool) (c d : Choice) → IsFound c → IsFound d → IsFound (elim b [ true ↦ c | false ↦ d ])
either_found true c d f g = f
either_found false c d f g = g

either_implies : (b : Bool) (c d c' d' : Choice) → Implies c c' → Implies d d'
    → Implies (elim b [ true ↦ c | false ↦ d ]) (elim b [ true ↦ c' | false ↦ d' ])
either_implies true c d c' d' f g = f
either_implies false c d c' d' f g = g

extended_found : (s : Snapshot) (c : Choice) (n t : ℕ) (b : Bool) → IsFound (extended s c n t b)
unfolding extended
extended_found s c n t b = refl

push_found : (s : Snapshot) (c : Choice) (n t : ℕ) → IsFound (push s c n t)
unfolding push
push_found s c n t = extended_found s c n t _

select_found : (s : Snapshot) (prefer : Bool) (best c : Choice) (n t : ℕ) → IsFound (try_select s prefer best c n t)
unfolding try_select
select_found s prefer best c n t = by best.found refl
  where
    by : (b : Bool) → best.found ≡ b
        → IsFound (elim b [
          | true ↦ elim (better s prefer best c n) [ true ↦ extended s c n t c.has_prelude_segment | false ↦ best ]
          | false ↦ push s c n t
        ])
    by true e = either_found (better s prefer best c n) _ _ (extended_found s c n t _) e
    by false e = push_found s c n t

-- While nothing is found, the length left for a step is the caller's less one.
left_none : (b : Bool) (left n : ℕ) → b ≡ false → shorter_if b left n ≡ left - 1
unfolding shorter_if
left_none true left n e = absurd (true≢false e)
left_none false left n e = refl

none_before : (best best' : Choice) → Implies best best' → best'.found ≡ false → best.found ≡ false
none_before best best' h e = by_test best.found (λ t. absurd (true≢false (sym (h t) ∙ e))) (λ t. t)

length_grows : (left left' : ℕ) (best best' : Choice) → left ≤ left' → Implies best best' → best'.found ≡ false
    → length_left left best ≤ length_left left' best'
unfolding length_left
length_grows left left' best best' l h e =
    omega (arith, l, left_none best.found left (path_len best) (none_before best best' h e), left_none best'.found left' (path_len best') e)

-- an offer keeps what was found, and takes what is offered

module _ (s : Snapshot) (y : FindPathCtx) where
  offer_keeps : (best c : Choice) (n t : ℕ) → IsFound best → IsFound (offer s y best c n t)
  unfolding offer
  offer_keeps best c n t h = either_found c.found _ _ (select_found s y.prefer_prelude best c n t) h

  import_keeps : (best c : Choice) (i : Import) → IsFound best → IsFound (offer_import s y best c i)
  unfolding offer_import
  import_keeps best c i h =
      either_found (is_unstable i) _ _ (either_found y.allow_unstable _ _ (offer_keeps best (unstably c) i.name _ h) h)
      (offer_keeps best c i.name _ h)

  offer_taken : (best c : Choice) (n t : ℕ) → IsFound c → IsFound (offer s y best c n t)
  unfolding offer
  offer_taken best c n t h = rw (offer, h) (select_found s y.prefer_prelude best c n t)

  offer_from : (x : FindPathCtx) (best c : Choice) (n t : ℕ) → IsFound (offer s x best c n t) → (c.found ≡ false) → IsFound best
  unfolding offer
  offer_from x best c n t h e = rw (offer, e) at h

  offer_implies : (x : FindPathCtx) (best best' c c' : Choice) (n t : ℕ) → Implies best best' → Implies c c'
      → Implies (offer s x best c n t) (offer s y best' c' n t)
  offer_implies x best best' c c' n t h k f =
      by_test c.found (λ e. offer_taken best' c' n t (k e)) (λ e. offer_keeps best' c' n t (h (offer_from x best c n t f e)))

  import_implies : (x : FindPathCtx) (best best' c c' : Choice) (i : Import) → x.allow_unstable ≡ y.allow_unstable
      → Implies best best' → Implies c c'
      → Implies (offer_import s x best c i) (offer_import s y best' c' i)
  unfolding offer_import unstably
  import_implies x best best' c c' i e h k =
      subst (λ (b : Bool). Implies (by x best c b) (offer_import s y best' c' i)) (sym e)
      (either_implies (is_unstable i) _ _ _ _
      (either_implies y.allow_unstable _ _ _ _ (offer_implies x best best' (unstably c) (unstably c') i.name _ h k) h)
      (offer_implies x best best' c c' i.name _ h k))
    where
      by : FindPathCtx → Choice → Choice → Bool → Choice
      by z b d u =
          elim (is_unstable i) [
            | true ↦ elim u [ true ↦ offer s z b (unstably d) i.name (step_by via_import i.place) | false ↦ b ]
            | false ↦ offer s z b d i.name (step_by via_import i.place)
          ]

-- the context with another limit
abbrev limited : FindPathCtx → ℕ → FindPathCtx
limited x n =
    record {
      prefix = x.prefix;
      prefer_no_std = x.prefer_no_std;
      prefer_prelude = x.prefer_prelude;
      prefer_absolute = x.prefer_absolute;
      allow_unstable = x.allow_unstable;
      ignore_local_imports = x.ignore_local_imports;
      fresh = x.fresh;
      is_std_item = x.is_std_item;
      from = x.from;
      from_crate = x.from_crate;
      crate_root = x.crate_root;
      own = x.own;
      max_len = n;
    }

-- The rules that answer without a search know no limit.
module _ (s : Snapshot) (x : FindPathCtx) (n : ℕ) where
  abbrev y : FindPathCtx
  y = limited x n

  single_same : (kind rule : ℕ) (e : Option Scope) → single s x kind rule e ≡ single s y kind rule e
  unfolding single
  single_same kind rule None = refl
  single_same kind rule (Some e) = refl

  scope_same : (item : Item) → scope_rule s x item ≡ scope_rule s y item
  unfolding scope_rule may_be_in_scope find_in_scope
  scope_same item = λ i. elim (may_be_in_scope s x) [
    | true ↦ single_same (prefix_path_kind x.prefix) via_scope (find_in_scope s x item)
        i
    | false ↦ nothing
  ]

  here_same : (item : Item) (e : Option Scope) → same_here s x item e ≡ same_here s y item e
  unfolding same_here
  here_same item None = refl
  here_same item (Some e) = refl

  usable : (item : Item) (e : Scope) → is_usable s x item e ≡ is_usable s y item e
  usable item e = λ i. sees s x.from.0 e && here_same item (entry_named s x.from.0 (ns_of item) e.name) i

  entry_same : (item : Item) (e : Option Scope) → prelude_entry s x item e ≡ prelude_entry s y item e
  unfolding prelude_entry
  entry_same item None = refl
  entry_same item (Some e) = λ i. elim (usable item e i) [ true ↦ Some e | false ↦ None ]

  in_prelude_same : (item : Item) (p : Option Prelude) → in_prelude s x item p ≡ in_prelude s y item p
  unfolding in_prelude
  in_prelude_same item None = refl
  in_prelude_same item (Some p) = λ i. entry_same item (preferred x.fresh s p.target item (λ e. usable item e i) (name_of s p.target item)) i

  prelude_same : (item : Item) → prelude_rule s x item ≡ prelude_rule s y item
  unfolding prelude_rule find_in_prelude
  prelude_same item = λ i. single_same plain_path via_prelude (in_prelude_same item (prelude_of s (map_no s x.from.0)) i) i

  extern_kind_same : (b : Bool) → extern_kind s x b ≡ extern_kind s y b
  unfolding extern_kind
  extern_kind_same true = refl
  extern_kind_same false = refl

  extern_same : (m : ℕ) (e : Option Extern) → extern_name s x m e ≡ extern_name s y m e
  unfolding extern_name
  extern_same m None = refl
  extern_same m (Some e) = λ i. choice_new s (extern_kind_same (occupied s x.from.0 m e.name || x.prefer_absolute) i)
      e.name (step_by via_extern e.place)

  root_same : (b : Bool) (m : ℕ) → root_rule s x b m ≡ root_rule s y b m
  unfolding root_rule
  root_same b m = λ i. elim (eqb (crate_root s m) m) [
    | true ↦ elim (not b || eqb m x.crate_root.0) [ true ↦ keyword crate_path | false ↦ extern_same m (extern_of s x.from_crate.0 m) i ]
    | false ↦ nothing
  ]

  parent_same : (m p : ℕ) → parent_kind s x m p ≡ parent_kind s y m p
  unfolding parent_kind
  parent_same m zero = refl
  parent_same m (suc p) = refl

  kind_same : (m : ℕ) → is_kw_kind_relative_to_from s x m ≡ is_kw_kind_relative_to_from s y m
  unfolding is_kw_kind_relative_to_from
  kind_same m = λ i. elim (not (eqb (crate_of s m) (crate_of s x.from.0)) || (in_block s m || in_block s x.from.0)) [
    | true ↦ None
    | false ↦ elim (eqb m x.from.0) [ true ↦ Some self_path | false ↦ parent_same m (parent_of s x.from.0) i ]
  ]

  keyword_same : (k : Option ℕ) → keyword_of s x k ≡ keyword_of s y k
  unfolding keyword_of
  keyword_same None = refl
  keyword_same (Some k) = refl

  rules_same : (b : Bool) (m : ℕ) → module_rules s x b m ≡ module_rules s y b m
  unfolding module_rules
  rules_same b m = λ i. first_found (root_same b m i ∷ scope_same (module_item m) i ∷ keyword_same (kind_same m i) i ∷ prelude_same
      (module_item m) i ∷ [])

  name_same : (e : Option Scope) → entry_if s x e ≡ entry_if s y e
  unfolding entry_if
  name_same None = refl
  name_same (Some e) = refl

  importable_same : (item : Item) (m : ℕ) → importable_name s x item m ≡ importable_name s y item m
  unfolding importable_name
  importable_same item m = name_same (preferred x.fresh s m item (is_importable s x) (name_of s m item))

-- the local search at two lengths

module _ (s : Snapshot) (x : FindPathCtx) (n : ℕ) where
  abbrev GrowsLocal : LocalSearch → LocalSearch → Type 0
  GrowsLocal f g = (l m : ℕ) (ls : List Level) (k : ℕ) → l ≤ m → Implies (f l ls k) (g m ls k)

  module _ (f g : LocalSearch) (grows : GrowsLocal f g) (left left' : ℕ) (h : left ≤ left') where
    location_grows : (ls : List Level) (best best' : Choice) (k : ℕ) (a : Option Scope) → Implies best best'
        → Implies (location s x f left ls best k a) (location s (limited x n) g left' ls best' k a)
    unfolding location offer_entry
    location_grows ls best best' k None i = i
    location_grows ls best best' k (Some e) i =
        by_test best'.found (λ t _. offer_keeps s (limited x n) best' _ e.name _ t)
        (λ t. offer_implies s (limited x n) x best best' _ _ e.name _ i (grows _ _ ls k (length_grows left left' best best' h i t)))

    each_grows : (ls : List Level) (item : Item) (done : List ℕ) (best best' : Choice) (ms : List ℕ) → Implies best best'
        → Implies (each_location s x f left ls item done best ms) (each_location s (limited x n) g left' ls item done best' ms)
    unfolding each_location
    each_grows ls item done best best' [] i = i
    each_grows ls item done best best' (k ∷ ms) i =
        let ls' : List Level = record { item = item; modules = done ++ (k ∷ []) } ∷ ls in
        each_grows ls item (done ++ (k ∷ [])) (location s x f left ls' best k (importable_name s x item k))
        (location s (limited x n) g left' ls' best' k (importable_name s (limited x n) item k)) ms
        (subst (λ (a : Option Scope). Implies (location s x f left ls' best k (importable_name s x item k))
        (location s (limited x n) g left' ls' best' k a))
        (importable_same s x n item k) (location_grows ls' best best' k (importable_name s x item k) i))

    local_grows : (ls : List Level) (item : Item)
        → Implies (calculate_best_path_local s x f left ls item) (calculate_best_path_local s (limited x n) g left' ls item)
    unfolding calculate_best_path_local
    local_grows ls item = each_grows ls item [] nothing nothing _ (λ e. e)

    or_local_grows : (ls : List Level) (k : ℕ) (c : Choice) (b : Bool)
        → Implies (or_local s x f left ls k c b) (or_local s (limited x n) g left' ls k c b)
    unfolding or_local
    or_local_grows ls k c true = λ e. e
    or_local_grows ls k c false = local_grows ls (module_item k)

  local_to_grows : (d e l m : ℕ) (ls : List Level) (k : ℕ) → d ≤ e → l ≤ m → Implies (local_to s x d l ls k) (local_to s (limited x n) e m ls k)
  unfolding local_to find_path_for_module_local
  local_to_grows zero e l m ls k h i = λ z. absurd (false≢true z)
  local_to_grows (suc d) zero l m ls k h i = absurd (omega arith)
  local_to_grows (suc d) (suc e) zero m ls k h i = λ z. absurd (false≢true z)
  local_to_grows (suc d) (suc e) (suc l) zero ls k h i = absurd (omega arith)
  local_to_grows (suc d) (suc e) (suc l) (suc m) ls k h i =
      subst (λ (c : Choice). Implies (or_local s x (local_to s x d) (suc l) ls k (module_rules s x false k) (module_rules s x false k).found)
      (or_local s (limited x n) (local_to s (limited x n) e) (suc m) ls k c c.found)) (rules_same s x n false k)
      (or_local_grows (local_to s x d) (local_to s (limited x n) e) (λ l' m' ls' k' i'. local_to_grows d e l' m' ls' k' (omega arith) i')
      (suc l) (suc m) i ls k _ _)

  best_local_grows : (l m : ℕ) (item : Item) → l ≤ m → Implies (best_local s x l item) (best_local s (limited x n) m item)
  unfolding best_local search_local
  best_local_grows l m item h =
      local_grows (search_local s x) (search_local s (limited x n)) (λ l' m' ls k i. local_to_grows l' m' l' m' ls k i i) l m h [] item

-- The charged search without a tank. What was found stays found, and the meters may differ.

abbrev Has : Out ℕ → Type 0
Has o = IsFound o.choice

module _ (s : Snapshot) (y : FindPathCtx) (here : ℕ → Item → Choice) (rec : Search ℕ) (left : ℕ) where
  import_stays : (o : Out ℕ) (i : Import) (b : Bool) → Has o → Has (find_import ℕ counted s y here rec left o i b)
  unfolding find_import
  import_stays o i true f = f
  import_stays o i false f = import_keeps s y o.choice _ i f

  imports_stay : (o : Out ℕ) (is : List Import) → Has o → Has (find_imports ℕ counted s y here rec left o is)
  unfolding find_imports
  imports_stay o [] f = f
  imports_stay o (i ∷ is) f = imports_stay (find_import ℕ counted s y here rec left o i (is_hidden i)) is (import_stays o i _ f)

  deps_stay : (item : Item) (o : Out ℕ) (ds : List Dependency) → Has o → Has (find_in_deps ℕ counted s y here rec left item o ds)
  unfolding find_in_deps find_in_dep
  deps_stay item o [] f = f
  deps_stay item o (d ∷ ds) f =
      deps_stay item (find_in_dep ℕ counted s y here rec left item o d) ds (imports_stay o (import_info_for s d.crate item) f)

  sysroot_stays : (item : Item) (o : Out ℕ) (ls : List ℕ) (b : Bool) → Has o → Has (find_in_sysroot ℕ counted s y here rec left item o ls b)
  unfolding find_in_sysroot
  sysroot_stays item o [] true f = f
  sysroot_stays item o [] false f = deps_stay item o (sysroot_first s y.from_crate.0) f
  sysroot_stays item o (l ∷ ls) true f = f
  sysroot_stays item o (l ∷ ls) false f =
      sysroot_stays item (find_in_deps ℕ counted s y here rec left item o (one_or_none (lang_of s y.from_crate.0 l))) ls _
      (deps_stay item o (one_or_none (lang_of s y.from_crate.0 l)) f)

abbrev Both : Out ℕ → Out ℕ → Type 0
Both o p = Implies o.choice p.choice

module _ (s : Snapshot) (x : FindPathCtx) (n : ℕ) where
  abbrev Grows : Search ℕ → Search ℕ → Type 0
  Grows f g = (l m k : ℕ) (t u : ℕ) → l ≤ m → Implies (f l k t).choice (g m k u).choice

  module _ (here here' : ℕ → Item → Choice) (local : (l m : ℕ) (item : Item) → l ≤ m → Implies (here l item) (here' m item))
      (f g : Search ℕ) (grows : Grows f g) where
    module _ (left left' : ℕ) (h : left ≤ left') where
      import_grows : (o p : Out ℕ) (i : Import) (b : Bool) → Both o p
          → Both (find_import ℕ counted s x here f left o i b) (find_import ℕ counted s (limited x n) here' g left' p i b)
      unfolding find_import
      import_grows o p i true k = k
      import_grows o p i false k =
          by_test p.choice.found (λ t _. import_keeps s (limited x n) p.choice _ i t)
          (λ t. import_implies s (limited x n) x o.choice p.choice _ _ i refl k
          (grows _ _ i.container _ _ (length_grows left left' o.choice p.choice h k t)))

      imports_grow : (o p : Out ℕ) (is : List Import) → Both o p
          → Both (find_imports ℕ counted s x here f left o is) (find_imports ℕ counted s (limited x n) here' g left' p is)
      unfolding find_imports
      imports_grow o p [] k = k
      imports_grow o p (i ∷ is) k =
          imports_grow (find_import ℕ counted s x here f left o i (is_hidden i))
          (find_import ℕ counted s (limited x n) here' g left' p i (is_hidden i))
          is
          (import_grows o p i (is_hidden i) k)

      deps_grow : (item : Item) (o p : Out ℕ) (ds : List Dependency) → Both o p
          → Both (find_in_deps ℕ counted s x here f left item o ds) (find_in_deps ℕ counted s (limited x n) here' g left' item p ds)
      unfolding find_in_deps find_in_dep
      deps_grow item o p [] k = k
      deps_grow item o p (d ∷ ds) k =
          deps_grow item (find_imports ℕ counted s x here f left o (import_info_for s d.crate item))
          (find_imports ℕ counted s (limited x n) here' g left' p (import_info_for s d.crate item)) ds
          (imports_grow o p (import_info_for s d.crate item) k)

      -- each ends where its own choice is stable
      sysroot_grows : (item : Item) (o p : Out ℕ) (ls : List ℕ) (a b : Bool) → Both o p → (b ≡ true → IsFound p.choice)
          → Both (find_in_sysroot ℕ counted s x here f left item o ls a) (find_in_sysroot ℕ counted s (limited x n) here' g left' item p ls b)
      unfolding find_in_sysroot
      sysroot_grows item o p [] a true k e = λ _. e refl
      sysroot_grows item o p (l ∷ ls) a true k e = λ _. e refl
      sysroot_grows item o p [] true false k e = λ z. deps_stay s (limited x n) here' g left' item p (sysroot_first s x.from_crate.0) (k z)
      sysroot_grows item o p [] false false k e = deps_grow item o p (sysroot_first s x.from_crate.0) k
      sysroot_grows item o p (l ∷ ls) true false k e = λ z. sysroot_stays s (limited x n) here' g left' item p (l ∷ ls) false (k z)
      sysroot_grows item o p (l ∷ ls) false false k e =
          let o' : Out ℕ = find_in_deps ℕ counted s x here f left item o (one_or_none (lang_of s x.from_crate.0 l)) in
          let p' : Out ℕ = find_in_deps ℕ counted s (limited x n) here' g left' item p (one_or_none (lang_of s x.from_crate.0 l)) in
          sysroot_grows item o' p' ls (is_stable o'.choice) (is_stable p'.choice)
          (deps_grow item o p (one_or_none (lang_of s x.from_crate.0 l)) k)
          (λ e'. and_left p'.choice.found p'.choice.stable e')

      go_grows : (item : Item) (t u : ℕ) (a b : Bool)
          → Both (go_on ℕ counted s x here f left item t a b) (go_on ℕ counted s (limited x n) here' g left' item u a b)
      unfolding go_on
      go_grows item t u true b = local left left' item h
      go_grows item t u false true = sysroot_grows item _ _ (langs x.prefer_no_std) false false (λ z. z) (λ z. absurd (false≢true z))
      go_grows item t u false false = deps_grow item _ _ _ (λ z. z)

      best_grows : (item : Item) (t u : ℕ)
          → Both (calculate_best_path ℕ counted s x here f left item t) (calculate_best_path ℕ counted s (limited x n) here' g left' item u)
      unfolding calculate_best_path counted after_charge
      best_grows item t u = go_grows item (t + 1) (u + 1) _ _

      or_grows : (k : ℕ) (t u : ℕ) (c : Choice) (b : Bool)
          → Both (or_charged ℕ counted s x here f left k t c b) (or_charged ℕ counted s (limited x n) here' g left' k u c b)
      unfolding or_charged
      or_grows k t u c true = λ z. z
      or_grows k t u c false = best_grows (module_item k) t u

    module_grows : Grows (find_path_for_module ℕ counted s x here f) (find_path_for_module ℕ counted s (limited x n) here' g)
    unfolding find_path_for_module
    module_grows zero m k t u h = λ z. absurd (false≢true z)
    module_grows (suc l) zero k t u h = absurd (omega arith)
    module_grows (suc l) (suc m) k t u h =
        subst (λ (c : Choice). Both (or_charged ℕ counted s x here f (suc l) k t (module_rules s x true k) (module_rules s x true k).found)
        (or_charged ℕ counted s (limited x n) here' g (suc m) k u c c.found)) (rules_same s x n true k)
        (or_grows (suc l) (suc m) h k t u _ _)

    module _ (limit : x.max_len ≤ n) (v w : Inner ℕ) (within : (item : Item) (t u : ℕ) → Both (v item t) (w item u)) where
      enum_grows : (item : Item) (d : Definition) (o p : Out ℕ) (a b : Bool) → (a ≡ true → b ≡ true)
          → Both (after_enum ℕ counted s x here f item d o a) (after_enum ℕ counted s (limited x n) here' g item d p b)
      unfolding after_enum push_variant
      enum_grows item d o p a true k = λ _. push_found s p.choice d.second _
      enum_grows item d o p true false k = absurd (false≢true (k refl))
      enum_grows item d o p false false k = best_grows x.max_len n limit item o.meter p.meter

      via_grows : (item : Item) (t u : ℕ) (d : Option Definition)
          → Both (via_enum ℕ counted s x here f v item t d) (via_enum ℕ counted s (limited x n) here' g w item u d)
      unfolding via_enum
      via_grows item t u None = best_grows x.max_len n limit item t u
      via_grows item t u (Some d) = enum_grows item d _ _ _ _ (within (item_of s types d.first) t u)

      named_grows : (item : Item) (t u : ℕ) (c : Choice) (b : Bool)
          → Both (or_enum ℕ counted s x here f v item t c b) (or_enum ℕ counted s (limited x n) here' g w item u c b)
      unfolding or_enum
      named_grows item t u c true = λ z. z
      named_grows item t u c false = via_grows item t u (variant_of s item)

      by_name_grows : (item : Item) (t u : ℕ)
          → Both (by_name ℕ counted s x here f v item t) (by_name ℕ counted s (limited x n) here' g w item u)
      unfolding by_name
      by_name_grows item t u =
          let c : Choice = first_found (scope_rule s x item ∷ prelude_rule s x item ∷ []) in
          subst (λ (d : Choice). Both (or_enum ℕ counted s x here f v item t c c.found)
          (or_enum ℕ counted s (limited x n) here' g w item u d d.found))
          (λ i. first_found (scope_same s x n item i ∷ prelude_same s x n item i ∷ []))
          (named_grows item t u c c.found)

      of_grows : (k : ℕ) (t u : ℕ) (b : Bool)
          → Both (of_module ℕ counted s x here f v k t b) (of_module ℕ counted s (limited x n) here' g w k u b)
      unfolding of_module
      of_grows k t u true = by_name_grows (module_item k) t u
      of_grows k t u false = grows x.max_len n k t u limit

      item_grows : (item : Item) (t u : ℕ)
          → Both (find_path_inner ℕ counted s x here f v item t) (find_path_inner ℕ counted s (limited x n) here' g w item u)
      unfolding find_path_inner
      item_grows (Mod k) t u = of_grows k.0 t u x.is_std_item
      item_grows (Def ns d) t u = by_name_grows (Def ns d) t u

  module_to_grows : (d e l m k : ℕ) (t u : ℕ) → d ≤ e → l ≤ m → Both (module_to ℕ counted s x d l k t) (module_to ℕ counted s (limited x n) e m k u)
  unfolding module_to
  module_to_grows zero e l m k t u h i = λ z. absurd (false≢true z)
  module_to_grows (suc d) zero l m k t u h i = absurd (omega arith)
  module_to_grows (suc d) (suc e) l m k t u h i =
      module_grows (best_local s x) (best_local s (limited x n)) (best_local_grows s x n) (module_to ℕ counted s x d)
      (module_to ℕ counted s (limited x n) e)
      (λ l' m' k' t' u' i'. module_to_grows d e l' m' k' t' u' (omega arith) i') l m k t u i

  module_search_grows : Grows (search_module ℕ counted s x) (search_module ℕ counted s (limited x n))
  unfolding search_module
  module_search_grows l m k t u h = module_to_grows l m l m k t u h h

  item_to_grows : x.max_len ≤ n → (d : ℕ) (item : Item) (t u : ℕ) → Both (item_to ℕ counted s x d item t) (item_to ℕ counted s (limited x n) d item u)
  unfolding item_to
  item_to_grows h zero item t u = λ z. absurd (false≢true z)
  item_to_grows h (suc d) item t u =
      item_grows (best_local s x) (best_local s (limited x n)) (best_local_grows s x n) (search_module ℕ counted s x)
      (search_module ℕ counted s (limited x n))
      module_search_grows h (item_to ℕ counted s x d) (item_to ℕ counted s (limited x n) d) (item_to_grows h d) item t u

-- the whole search without a tank

module _ (s : Snapshot) (q : Query) (l m : ℕ) (h : l ≤ m) where
  home_grows : (item : Item) (t u k : ℕ) → Both (from_home ℕ counted s (with_limit q l) item t k) (from_home ℕ counted s (with_limit q m) item u k)
  unfolding from_home search_item context_of
  home_grows item t u zero = λ z. absurd (false≢true z)
  home_grows item t u (suc home) = item_to_grows s (context_of s (with_limit q l) home) m h 2 item t u

  start_grows : (t u : ℕ) (b : Bool) → Both (from_item ℕ counted s (with_limit q l) t b) (from_item ℕ counted s (with_limit q m) u b)
  unfolding from_item
  start_grows t u true = λ z. z
  start_grows t u false = home_grows _ t u _

  -- The search without a tank that finds a path under the smaller limit finds one under the larger.
  pub freely_grows : Implies (searched_freely s (with_limit q l)).choice (searched_freely s (with_limit q m)).choice
  unfolding searched_freely find_path
  freely_grows = start_grows 0 0 _

-- what a report that does not say empty has to do with it

module _ (words : List ℕ) (area : ℕ) (q : Query) (fuel : ℕ) (w : Whole (report_at words area q fuel)) where
  abbrev done : Searched words q fuel (report_at words area q fuel)
  done = not_refused words area q fuel w.answered

  outcome_is : (report_at words area q fuel).outcome ≡ outcome_of done.snapshot q (searched_freely done.snapshot q).choice
  outcome_is =
      ap (λ (r : Report). r.outcome) done.answer
      ∙ ((searched_tells done.snapshot q fuel).answer (λ e. w.full (ap (λ (r : Report). r.empty) done.answer ∙ e))).outcome

  -- it has a path exactly where that search finds one
  whole_found : HasPath (report_at words area q fuel) → IsFound (searched_freely done.snapshot q).choice
  whole_found h = path_found done.snapshot q _ (subst (λ (n : ℕ). (n ≡ 0) ⊎ (n ≡ 3)) outcome_is h)

  whole_path : IsFound (searched_freely done.snapshot q).choice → HasPath (report_at words area q fuel)
  whole_path h = subst (λ (n : ℕ). (n ≡ 0) ⊎ (n ≡ 3)) (sym outcome_is) (outcome_path done.snapshot q _ h)

-- Of two limits with no empty tank, an item found under the smaller is found under the larger.
pub limits_compared : LimitsCompared
limits_compared words area q l m F G h a b p =
    let c = done words area (with_limit q l) F a in
    let d = done words area (with_limit q m) G b in
    let same : c.snapshot ≡ d.snapshot = cc (c.accepted, d.accepted) in
    let k = whole_found words area (with_limit q l) F a p in
    let f = subst (λ (s : Snapshot). IsFound (searched_freely s (with_limit q l)).choice) same k in
    whole_path words area (with_limit q m) G b (freely_grows d.snapshot q l m h f)

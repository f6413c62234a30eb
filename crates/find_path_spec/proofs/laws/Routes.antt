-- Every step of a found path has its record, which its route names.
use mathlib.Core.Path.{◌≡◌, refl, ap, ap₂, sym, ◌∙◌, subst}
use Prim.Native.Nat.{ℕ, zero, suc, ◌+◌, ◌-◌, ◌≤◌, ◌<◌}
use native.Mathlib.Omega.{arith}
use native.Mathlib.Numerals.{add-one}
use mathlib.Core.List.Memᴰ
use mathlib.Core.List.{List, [], ◌∷◌, ◌++◌}
use mathlib.Core.Bool.{Bool, true, false, ◌||◌, not, true≢false, false≢true}
use Rattle.std.specs.Prelude.{Option, None, Some}
use mathlib.Core.Logic.{⊎_elim}
use lib.Dec.{eqb}
use lib.ListN.{length, get_or, set, take, length-set}
use lib.Seq.{take-suc-set, length-take-le}
use borrow.Author.Tests.{eqb-true, eqb-false, eq-eqb, not-false}
use Rattle.snapshot.specs.Words.{kind_of}
use Rattle.snapshot.specs.Limits.{path_limit}
use Rattle.snapshot.specs.Records.{Snapshot, Scope, Dependency, Definition, Import, Extern}
use Rattle.accept.specs.Valid.{Each, more, Placed, Valid}
use Rattle.check_rules.specs.Verdict.{accept, verdict}
use Rattle.accept.proofs.Accepted.{by_test}
use Rattle.accept.proofs.Bools.{and_left, and_right, and_two, or_none_lem, each_map, each_snoc}
use Rattle.accept.proofs.Places.{accepted_placed}
use Rattle.accept.proofs.Valid.{accepted_valid}
use Rattle.hir_def.specs.Finds.{first_of}
use Rattle.hir_def.specs.Items.{types, builtin_kind, map_no, crate_of, crate_root, root_of, parent_of, block_of, in_block, definition_of, item_of}
use Rattle.hir_def.specs.Items.{same_item}
use Rattle.hir_def.specs.Items.{home_of, module_item}
use Rattle.module_tree.specs.rules.Visibility.{sees}
use Rattle.hir_def.specs.ItemScope.{is_for, name_of, names_of}
use Rattle.hir_def.specs.Nameres.{dependencies_of, lang_of, sysroot_first, extern_of}
use Rattle.hir_def.specs.ImportMap.{is_import, import_info_for, is_hidden, is_unstable}
use Rattle.hir_def.specs.declared.Item.{Item}
use Rattle.hir_def.specs.declared.Item.TheVariants.{Mod, Def}
use Rattle.hir_def.proofs.Fresh.{preferred_has}
use Rattle.hir_def.proofs.Same.{same_item_lem}
use Rattle.hir_def.proofs.Every.{each_in, each_append}
use Rattle.find_path_choice.specs.Choices.{Choice}
use Rattle.find_path_spec.specs.declared.FindPathCtx.{FindPathCtx}
use Rattle.find_path_spec.specs.declared.Query.{Query}
use Rattle.find_path_spec.specs.declared.Question.{Question}
use Rattle.find_path_spec.specs.declared.Report.{Report}
use Rattle.find_path_spec.specs.declared.Tank.{Tank}
use Rattle.find_path_choice.specs.Choices.{plain_path, self_path, super_path, crate_path, via_builtin, via_scope}
use Rattle.find_path_choice.specs.Choices.{via_prelude, via_extern, via_keyword, via_variant, via_local, via_import, step_by}
use Rattle.find_path_choice.specs.Choices.{nothing, keyword, choice_new, extended, push, unstably, better, try_select}
use Rattle.find_path_spec.specs.Walk.{Level, visited}
use Rattle.find_path_spec.specs.Rules.{bit, by_crate, may_be_in_scope, prefix_path_kind, context_of, first_found, single, find_in_scope, scope_rule}
use Rattle.find_path_spec.specs.Rules.{find_in_prelude}
use Rattle.find_path_spec.specs.Rules.{prelude_rule, extern_name, root_rule, parent_kind, is_kw_kind_relative_to_from, keyword_of, module_rules}
use Rattle.find_path_spec.specs.Local.{LocalSearch, offer, offer_entry, is_importable, entry_if, importable_name, location, each_location}
use Rattle.find_path_spec.specs.Local.{calculate_best_path_local, or_local, find_path_for_module_local}
use Rattle.find_path_spec.specs.Meters.{Charged, go, stop, from_tank, Charge, filled}
use Rattle.find_path_spec.specs.Charged.{Out, Search, Inner, langs, one_or_none, is_at, variant_of, push_variant, offer_import, find_import}
use Rattle.find_path_spec.specs.Charged.{find_imports, find_in_dep, find_in_deps, find_in_sysroot, go_on, after_charge, calculate_best_path}
use Rattle.find_path_spec.specs.Charged.{or_charged, find_path_for_module, after_enum, via_enum, or_enum, by_name, of_module, find_path_inner}
use Rattle.find_path_spec.specs.Search.{builtin_choice, local_to, search_local, best_local, module_to, search_module, item_to, search_item, from_home}
use Rattle.find_path_spec.specs.Search.{from_item}
use Rattle.find_path_spec.specs.Search.{find_path}
use Rattle.find_path_spec.specs.Report.{refused, reported, searched, report_of}
use Rattle.find_path_spec.specs.laws.Fuels.{HasPath}
use Rattle.find_path_spec.specs.laws.Routes.{◌∈◌, Start, self, super, crate, scope, prelude, extern, builtin, Step, entry}
use Rattle.find_path_spec.specs.laws.Routes.{imported, Route, start, step, Path, direct, variant, rule_kind, rule_of}
use Rattle.find_path_spec.specs.laws.Routes.{place_of, Shown, asked_item, asked_context, route_steps, Routed, is_near}
use Rattle.find_path_spec.proofs.laws.Bounds.{Fits, more as wider, first_none as none-fits, first_fits, new_fits, scope_fits, prelude_fits}
use Rattle.find_path_spec.proofs.laws.Bounds.{best_local_fits, best_within, module_search_fits, item_to_fits, search_fits}
use Rattle.find_path_spec.proofs.laws.Crates.{Near, select_found, own_root, crate_root_lem, locations_near}
use Rattle.find_path_spec.proofs.laws.Known.{held_at, scope_held, prelude_held, extern_held, definition_in_lem, variant_in_lem}
use Rattle.find_path_spec.proofs.laws.Refusals.{Allowed}
use Rattle.find_path_spec.proofs.laws.Outcomes.{path_found, Kind, refusal, answer, kind_of_lem}

-- what a test says alone or joined with another
ruleset passed = (and_left, and_right)

-- what is found in a list stands there and passes the test
first_found_lem : {A : Type 0} (p : A → Bool) (xs : List A) (y : A) → first_of p xs ≡ Some y → (y ∈ xs) × (p y ≡ true)
unfolding first_of
first_found_lem p [] y e = let z : ◌≡◌ {A = ℕ} 0 1 = cc in absurd (omega arith)
first_found_lem p (x ∷ xs) y e =
    by_test (p x)
    (λ t. let f : Some x ≡ Some y = rw (t, first_of) at e in let same : y ≡ x = cc in (Memᴰ.head same, ap p same ∙ t))
    (λ t. let f = first_found_lem p xs y (rw (t, first_of) at e) in (Memᴰ.tail f.0, f.1))

-- every element stands in its list
each_self : {A : Type 0} (xs : List A) → Each (λ y. y ∈ xs) xs
each_self [] = Each.none
each_self (x ∷ xs) = more (Memᴰ.head refl) (each_map (λ y h. Memᴰ.tail h) (each_self xs))

-- one number more in the array, where it has room
names_more : (names : List ℕ) (k n : ℕ) → k < length names → take (k + 1) (set names k n) ≡ take k names ++ (n ∷ [])
names_more names k n h = ap (λ (j : ℕ). take j (set names k n)) (add-one k) ∙ take-suc-set names k n h

-- a choice that is one is a route to the item, where its names fit the array
pub record Leads (s : Snapshot) (x : FindPathCtx) (item : Item) (c : Choice) : Type 0 where
  pub route : c.found ≡ true → c.count ≤ length c.names → c.steps ≤ length c.route
      → Route s x c.kind (take c.count c.names) (take c.steps c.route) item

-- an import record of the item, which is of another crate, in a dependency of the viewer's
record Listed (s : Snapshot) (x : FindPathCtx) (item : Item) (i : Import) : Type 0 where
  dependency : Dependency
  known : dependency ∈ dependencies_of s x.from_crate.0
  stands : i ∈ s.imports
  owner : i.owner ≡ dependency.crate
  away : is_near s x item ≡ false
  same : item_of s i.ns i.definition ≡ item

-- what is set for the viewing module
record Rooted (s : Snapshot) (x : FindPathCtx) : Type 0 where
  root : x.crate_root.0 ≡ crate_root s x.from.0
  krate : x.from_crate.0 ≡ crate_of s x.from.0

-- an entry that is answered leads from the module to the item
abbrev Led : Snapshot → FindPathCtx → ℕ → Item → Option Scope → Type 0
Led s x m item (Some e) = Step s x m e.name (step_by via_local e.place) item
Led s x m item None = Unit {0}

-- the path of a keyword without names, where it is taken, reaches the module
abbrev Started : Snapshot → FindPathCtx → ℕ → Option ℕ → Type 0
Started s x m (Some k) = not (eqb x.prefix by_crate) || eqb k crate_path ≡ true → Start s x k [] (step_by via_keyword 0) (module_item m)
Started s x m None = Unit {0}

module _ (s : Snapshot) where
  module _ (x : FindPathCtx) where
    imports_listed : (d : Dependency) (item : Item) → d ∈ dependencies_of s x.from_crate.0 → is_near s x item ≡ false
        → Each (Listed s x item) (import_info_for s d.crate item)
    unfolding import_info_for
    imports_listed d item k away =
        select_found (is_import s d.crate item) s.imports
        (λ i h t.
        let f = and_two (eqb i.owner d.crate) _ t in
        record { dependency = d; known = k; stands = h; owner = eqb-true _ _ f.0; away = away; same = same_item_lem _ item f.1 })

    entry_step : (m : ℕ) (item : Item) (e : Scope) → e ∈ s.scopes → is_near s x item ≡ true → is_for s m item e ≡ true
        → importable_name s x item m ≡ Some e
        → sees s x.from.0 e ≡ true → Step s x m e.name (step_by via_local e.place) item
    unfolding is_for
    entry_step m item e h near p o v =
        let f = and_two (eqb e.owner m) (same_item (item_of s e.ns e.definition) item) p in
        let a = eqb-true e.owner m f.0 in
        let b = same_item_lem _ item f.1 in
        subst (λ (k : ℕ). Step s x k e.name (step_by via_local e.place) item) a
        (subst (Step s x e.owner e.name (step_by via_local e.place)) b
        (entry e h (ap (is_near s x) b ∙ near) (ap₂ (importable_name s x) b a ∙ o) v))

    import_step_lem : (item : Item) (i : Import) → Listed s x item i → is_hidden i ≡ false → (is_unstable i ≡ true → x.allow_unstable ≡ true)
        → Step s x i.container i.name (step_by via_import i.place) item
    import_step_lem item i h v u =
        subst (Step s x i.container i.name (step_by via_import i.place)) h.same
        (imported h.dependency i h.known h.stands h.owner (ap (is_near s x) h.same ∙ h.away) v u)

    -- choices

    nothing_leads : {item : Item} → Leads s x item nothing
    nothing_leads = record { route = λ e h l. absurd (false≢true e) }

    keyword_leads : (m k : ℕ) → Start s x k [] (step_by via_keyword 0) (module_item m) → Leads s x (module_item m) (keyword k)
    unfolding keyword
    keyword_leads m k b = record { route = λ e h l. start b }

    new_leads : (item : Item) (k n t : ℕ) → Start s x k (n ∷ []) t item → Leads s x item (choice_new s k n t)
    unfolding choice_new
    new_leads item k n t b = record { route = λ e h l. start b }

    extended_leads : (m : ℕ) (item : Item) (c : Choice) (n t : ℕ) (b : Bool) → Leads s x (module_item m) c → c.found ≡ true → Step s x m n t item
        → Leads s x item (extended s c n t b)
    unfolding extended
    extended_leads m item c n t b f e g = record {
      route = λ _ h l.
          let i : c.count < length c.names = omega (arith, h, length-set c.names c.count n) in
          let j : c.steps < length c.route = omega (arith, l, length-set c.route c.steps t) in
          subst (λ (ts : List ℕ). Route s x c.kind (take (c.count + 1) (set c.names c.count n)) ts item)
          (sym (names_more c.route c.steps t j))
          (subst (λ (ns : List ℕ). Route s x c.kind ns (take c.steps c.route ++ (t ∷ [])) item) (sym (names_more c.names c.count n i))
          (step (f.route e (omega (arith, i)) (omega (arith, j))) g));
    }

    push_leads : (m : ℕ) (item : Item) (c : Choice) (n t : ℕ) → Leads s x (module_item m) c → c.found ≡ true → Step s x m n t item
        → Leads s x item (push s c n t)
    unfolding push
    push_leads m item c n t f e g = extended_leads m item c n t _ f e g

    unstably_leads : (item : Item) (c : Choice) → Leads s x item c → Leads s x item (unstably c)
    unfolding unstably
    unstably_leads item c f = record { route = f.route }

    -- of two choices, the one that a test takes
    either_leads : {item : Item} (b : Bool) (c d : Choice) → (b ≡ true → Leads s x item c) → (b ≡ false → Leads s x item d)
        → Leads s x item (elim b [ true ↦ c | false ↦ d ])
    either_leads true c d f g = f refl
    either_leads false c d f g = g refl

    first_none : {item : Item} → Leads s x item (first_found [])
    unfolding first_found
    first_none = nothing_leads

    first_leads : {item : Item} (c : Choice) (cs : List Choice) → Leads s x item c → Leads s x item (first_found cs)
        → Leads s x item (first_found (c ∷ cs))
    unfolding first_found
    first_leads c cs f g = either_leads c.found c (first_found cs) (λ _. f) (λ _. g)

    select_leads : (m : ℕ) (item : Item) (best c : Choice) (n t : ℕ) → Leads s x item best → Leads s x (module_item m) c → c.found ≡ true
        → Step s x m n t item → Leads s x item (try_select s x.prefer_prelude best c n t)
    unfolding try_select
    select_leads m item best c n t f g e h =
        either_leads best.found _ _
        (λ _. either_leads (better s x.prefer_prelude best c n) _ _ (λ _. extended_leads m item c n t _ g e h) (λ _. f))
        (λ _. push_leads m item c n t g e h)

    offer_leads : (m : ℕ) (item : Item) (best c : Choice) (n t : ℕ) → Leads s x item best → Leads s x (module_item m) c → Step s x m n t item
        → Leads s x item (offer s x best c n t)
    unfolding offer
    offer_leads m item best c n t f g h = either_leads c.found _ _ (λ e. select_leads m item best c n t f g e h) (λ _. f)

    offer_import_leads : (item : Item) (best c : Choice) (i : Import) → Leads s x item best → Leads s x (module_item i.container) c
        → Listed s x item i → is_hidden i ≡ false → Leads s x item (offer_import s x best c i)
    unfolding offer_import
    offer_import_leads item best c i f g h v =
        either_leads (is_unstable i) _ _
        (λ _. either_leads x.allow_unstable _ _
        (λ a. offer_leads i.container item best (unstably c) i.name _ f (unstably_leads _ c g) (import_step_lem item i h v (λ _. a)))
        (λ _. f))
        (λ u. offer_leads i.container item best c i.name _ f g (import_step_lem item i h v (λ t. absurd (true≢false (sym t ∙ u)))))

    crate_start : (m : ℕ) → x.crate_root.0 ≡ m → Start s x crate_path [] (step_by via_keyword 0) (module_item m)
    crate_start m e = subst (λ (k : ℕ). Start s x crate_path [] (step_by via_keyword 0) (module_item k)) e crate

    -- the rules without a search

    single_leads : (item : Item) (kind rule : ℕ) (o : Option Scope)
        → ((e : Scope) → o ≡ Some e → Start s x kind (e.name ∷ []) (step_by rule e.place) item) → Leads s x item (single s x kind rule o)
    unfolding single
    single_leads item kind rule None f = nothing_leads
    single_leads item kind rule (Some e) f = new_leads item kind e.name _ (f e refl)

    scope_leads : (item : Item) → Leads s x item (scope_rule s x item)
    unfolding scope_rule
    scope_leads item =
        either_leads (may_be_in_scope s x) _ _
        (λ t. single_leads item (prefix_path_kind x.prefix) via_scope (find_in_scope s x item)
        (λ e h. scope item e (held_at (λ y. y ∈ s.scopes) _ (scope_held s (λ y. y ∈ s.scopes) (each_self s.scopes) x item) h) t h))
        (λ _. nothing_leads)

    prelude_leads : (item : Item) → Leads s x item (prelude_rule s x item)
    unfolding prelude_rule
    prelude_leads item =
        single_leads item plain_path via_prelude (find_in_prelude s x item)
        (λ e h. prelude item e (held_at (λ y. y ∈ s.scopes) _ (prelude_held s (λ y. y ∈ s.scopes) (each_self s.scopes) x item) h) h)

    extern_leads : (m : ℕ) (o : Option Extern) → crate_root s m ≡ m → (m ≡ x.crate_root.0 → ⊥)
        → extern_of s x.from_crate.0 m ≡ o → Leads s x (module_item m) (extern_name s x m o)
    unfolding extern_name
    extern_leads m None r z h = nothing_leads
    extern_leads m (Some e) r z h =
        new_leads (module_item m) _ e.name _
        (extern m e (held_at (λ y. y ∈ s.externs) _ (extern_held s (λ y. y ∈ s.externs) (each_self s.externs) x.from_crate.0 m) h)
        r z h)

    -- in a valid snapshot, with the root that is set for the viewing module
    module _ (valid : Valid s) (rooted : Rooted s x) where
      -- the root of a crate that has the keyword is the viewer's
      root_here : (b : Bool) (m : ℕ) → (b ≡ false → Near s valid x.from.0 m) → crate_root s m ≡ m → not b || eqb m x.crate_root.0 ≡ true
          → x.crate_root.0 ≡ m
      root_here true m near r e = sym (eqb-true m x.crate_root.0 e)
      root_here false m near r e = rooted.root ∙ sym (crate_root_lem s valid m x.from.0 (near refl)) ∙ r

      root_leads : (b : Bool) (m : ℕ) → (b ≡ false → Near s valid x.from.0 m) → Leads s x (module_item m) (root_rule s x b m)
      unfolding root_rule
      root_leads b m near =
          either_leads (eqb (crate_root s m) m) _ _
          (λ e. either_leads (not b || eqb m x.crate_root.0) _ _
          (λ t. keyword_leads m crate_path (crate_start m (root_here b m near (eqb-true (crate_root s m) m e) t)))
          (λ t. extern_leads m (extern_of s x.from_crate.0 m) (eqb-true (crate_root s m) m e)
          (eqb-false m x.crate_root.0 (or_none_lem (not b) _ t).1) refl))
          (λ _. nothing_leads)

      -- a keyword other than `crate` is not taken under ByCrate
      not_by_crate : (k : ℕ) → eqb k crate_path ≡ false → not (eqb x.prefix by_crate) || eqb k crate_path ≡ true → x.prefix ≡ by_crate → ⊥
      not_by_crate k n t e = true≢false (sym t ∙ rw (eq-eqb x.prefix by_crate e, n))

      either_started : (m : ℕ) (b : Bool) (k l : Option ℕ) → (b ≡ true → Started s x m k) → (b ≡ false → Started s x m l)
          → Started s x m (elim b [ true ↦ k | false ↦ l ])
      either_started m true k l f g = f refl
      either_started m false k l f g = g refl

      parent_started : (m p : ℕ) → parent_of s x.from.0 ≡ p → block_of s x.from.0 ≡ 0 → Started s x m (parent_kind s x m p)
      unfolding parent_kind
      parent_started m zero e b = tt
      parent_started m (suc p) e b =
          either_started m (eqb m p) _ _
          (λ t.
          let same : p ≡ m = sym (eqb-true m p t) in
          either_started m (eqb p (root_of s (map_no s x.from.0))) (Some crate_path) (Some super_path)
          (λ r k. crate_start m (rooted.root ∙ sym (own_root s valid x.from.0 p e b) ∙ sym (eqb-true p _ r) ∙ same))
          (λ _ k. subst (λ (j : ℕ). Start s x super_path [] (step_by via_keyword 0) (module_item j)) same
          (super p (not_by_crate super_path refl k) e)))
          (λ _. tt)

      keyword_started : (m : ℕ) → Started s x m (is_kw_kind_relative_to_from s x m)
      unfolding is_kw_kind_relative_to_from
      keyword_started m =
          either_started m (not (eqb (crate_of s m) (crate_of s x.from.0)) || (in_block s m || in_block s x.from.0)) None _ (λ _. tt)
          (λ t.
          let f = (or_none_lem (in_block s m) (in_block s x.from.0) (or_none_lem (not (eqb (crate_of s m) (crate_of s x.from.0))) _ t).1).1 in
          either_started m (eqb m x.from.0) (Some self_path) _
          (λ e k. subst (λ (j : ℕ). Start s x self_path [] (step_by via_keyword 0) (module_item j)) (sym (eqb-true m x.from.0 e))
          (self (not_by_crate self_path refl k)))
          (λ _. parent_started m (parent_of s x.from.0) refl (eqb-true (block_of s x.from.0) 0 (not-false _ f))))

      keyword_of_leads : (m : ℕ) (k : Option ℕ) → Started s x m k → Leads s x (module_item m) (keyword_of s x k)
      unfolding keyword_of
      keyword_of_leads m None b = nothing_leads
      keyword_of_leads m (Some k) b =
          either_leads (not (eqb x.prefix by_crate) || eqb k crate_path) _ _ (λ t. keyword_leads m k (b t)) (λ _. nothing_leads)

      rules_lead : (b : Bool) (m : ℕ) → (b ≡ false → Near s valid x.from.0 m) → Leads s x (module_item m) (module_rules s x b m)
      unfolding module_rules
      rules_lead b m near =
          first_leads _ _ (root_leads b m near)
          (first_leads _ _ (scope_leads (module_item m))
          (first_leads _ _ (keyword_of_leads m (is_kw_kind_relative_to_from s x m) (keyword_started m))
          (first_leads _ _ (prelude_leads (module_item m)) first_none)))

      -- the local search

      -- an entry of the module for the item
      abbrev Stands : ℕ → Item → Scope → Type 0
      Stands m item e = (e ∈ s.scopes) × (is_for s m item e ≡ true)

      first_stands : (m : ℕ) (item : Item) (p : Scope → Bool) (e : Scope) → ((y : Scope) → p y ≡ true → is_for s m item y ≡ true)
          → first_of p s.scopes ≡ Some e → Stands m item e
      first_stands m item p e g h = let f = first_found_lem p s.scopes e h in (f.0, g e f.1)

      -- what passes the test of the local rule is the entry itself, and is visible
      entry_if_lem : (o : Option Scope) (e : Scope) → entry_if s x o ≡ Some e → (o ≡ Some e) × (sees s x.from.0 e ≡ true)
      unfolding entry_if
      entry_if_lem None e h = let z : ◌≡◌ {A = ℕ} 0 1 = cc in absurd (omega arith)
      entry_if_lem (Some y) e h =
          by_test (is_importable s x y)
          (λ t.
          let f : Some y ≡ Some e = rw (entry_if, t) at h in
          let same : y ≡ e = cc in
          (f, subst (λ z. sees s x.from.0 z ≡ true) same (and_left (sees s x.from.0 y) _ t)))
          (λ t. let f : None ≡ Some e = rw (entry_if, t) at h in let z : ◌≡◌ {A = ℕ} 0 1 = cc in absurd (omega arith))

      importable_step : (item : Item) (m : ℕ) (e : Scope) → is_near s x item ≡ true → importable_name s x item m ≡ Some e
          → Step s x m e.name (step_by via_local e.place) item
      unfolding importable_name name_of names_of
      importable_step item m e near o =
          let f = entry_if_lem _ e o in
          let g =
          preferred_has s m item _ _ 0 (Stands m item) x.fresh e
          (first_stands m item _ e (λ y t. search passed)) (first_stands m item _ e (λ y t. search passed)) f.0 in
          entry_step m item e g.0 near g.1 o f.1

      led : (item : Item) (m : ℕ) (o : Option Scope) → is_near s x item ≡ true → importable_name s x item m ≡ o → Led s x m item o
      led item m None near h = tt
      led item m (Some e) near h = importable_step item m e near h

      importable_led : (item : Item) (m : ℕ) → is_near s x item ≡ true → Led s x m item (importable_name s x item m)
      importable_led item m near = led item m (importable_name s x item m) near refl

      module_near : (m : ℕ) → Near s valid x.from.0 m → is_near s x (module_item m) ≡ true
      unfolding is_at home_of
      module_near m e = rw (add-one m) (eq-eqb (crate_of s m) x.from_crate.0 (e ∙ sym rooted.krate))

      abbrev LeadsLocal : LocalSearch → Type 0
      LeadsLocal rec = (left : ℕ) (ls : List Level) (m : ℕ) → Near s valid x.from.0 m → Leads s x (module_item m) (rec left ls m)

      module _ (rec : LocalSearch) (leads : LeadsLocal rec) where
        location_leads : (item : Item) (left : ℕ) (ls : List Level) (best : Choice) (m : ℕ) (o : Option Scope) → Near s valid x.from.0 m
            → Leads s x item best → Led s x m item o
            → Leads s x item (location s x rec left ls best m o)
        unfolding location offer_entry
        location_leads item left ls best m None near f h = f
        location_leads item left ls best m (Some e) near f h = offer_leads m item best _ e.name _ f (leads _ ls m near) h

        each_leads : (left : ℕ) (ls : List Level) (item : Item) (done : List ℕ) (best : Choice) {ms : List ℕ} → is_near s x item ≡ true
            → Each (Near s valid x.from.0) ms → Leads s x item best
            → Leads s x item (each_location s x rec left ls item done best ms)
        unfolding each_location
        each_leads left ls item done best near Each.none f = f
        each_leads left ls item done best near (more {x = m} here ms) f =
            each_leads left ls item (done ++ (m ∷ [])) _ near ms
            (location_leads item left _ best m (importable_name s x item m) here f (importable_led item m near))

        local_leads : (left : ℕ) (ls : List Level) (item : Item)
            → is_near s x item ≡ true → Leads s x item (calculate_best_path_local s x rec left ls item)
        unfolding calculate_best_path_local
        local_leads left ls item near = each_leads left ls item [] nothing near (locations_near s valid x.from.0 (visited ls item)) nothing_leads

        or_local_leads : (left : ℕ) (ls : List Level) (m : ℕ) (c : Choice) (b : Bool) → Near s valid x.from.0 m → Leads s x (module_item m) c
            → Leads s x (module_item m) (or_local s x rec left ls m c b)
        unfolding or_local
        or_local_leads left ls m c true near f = f
        or_local_leads left ls m c false near f = local_leads left ls (module_item m) (module_near m near)

      local_to_leads : (d : ℕ) → LeadsLocal (local_to s x d)
      unfolding local_to find_path_for_module_local
      local_to_leads zero left ls m near = nothing_leads
      local_to_leads (suc d) zero ls m near = nothing_leads
      local_to_leads (suc d) (suc l) ls m near =
          or_local_leads (local_to s x d) (local_to_leads d) (suc l) ls m _ _ near (rules_lead false m (λ _. near))

      best_local_leads : (left : ℕ) (item : Item) → is_near s x item ≡ true → Leads s x item (best_local s x left item)
      unfolding best_local search_local
      best_local_leads left item near = local_leads (search_local s x) (λ l ls m. local_to_leads l l ls m) left [] item near

module _ (M : Type 0) (charge : Charge M) (s : Snapshot) (x : FindPathCtx) (valid : Valid s) (rooted : Rooted s x) where
  abbrev LeadsSearch : Search M → Type 0
  LeadsSearch rec = (left m : ℕ) (t : M) → Leads s x (module_item m) (rec left m t).choice

  -- a dependency of the viewer's crate
  abbrev Ours : Dependency → Type 0
  Ours d = d ∈ dependencies_of s x.from_crate.0

  lang_in : (o : Option Dependency) → ((d : Dependency) → o ≡ Some d → Ours d) → Each Ours (one_or_none o)
  unfolding one_or_none
  lang_in None f = Each.none
  lang_in (Some d) f = more (f d refl) Each.none

  lang_ours : (n : ℕ) → Each Ours (one_or_none (lang_of s x.from_crate.0 n))
  unfolding lang_of
  lang_ours n = lang_in _ (λ d e. (first_found_lem _ (dependencies_of s x.from_crate.0) d e).0)

  sysroot_ours : Each Ours (sysroot_first s x.from_crate.0)
  unfolding sysroot_first
  sysroot_ours =
      each_append (select_found _ (dependencies_of s x.from_crate.0) (λ d h t. h))
      (select_found _ (dependencies_of s x.from_crate.0) (λ d h t. h))

  module _ (rec : Search M) (leads : LeadsSearch rec) where
    -- an import that is not passed over is not hidden
    import_leads : (item : Item) (left : ℕ) (o : Out M) (i : Import) (b : Bool) → (b ≡ false → is_hidden i ≡ false) → Leads s x item o.choice
        → Listed s x item i → Leads s x item (find_import M charge s x (best_local s x) rec left o i b).choice
    unfolding find_import
    import_leads item left o i true v f h = f
    import_leads item left o i false v f h =
        offer_import_leads s x item o.choice _ i f (leads _ i.container o.meter) h (v refl)

    imports_lead : (item : Item) (left : ℕ) (o : Out M) {is : List Import} → Leads s x item o.choice → Each (Listed s x item) is
        → Leads s x item (find_imports M charge s x (best_local s x) rec left o is).choice
    unfolding find_imports
    imports_lead item left o f Each.none = f
    imports_lead item left o f (more {x = i} h hs) =
        imports_lead item left (find_import M charge s x (best_local s x) rec left o i (is_hidden i))
        (import_leads item left o i (is_hidden i) (λ e. e) f h) hs

    deps_lead : (left : ℕ) (item : Item) (o : Out M) (ds : List Dependency) → is_near s x item ≡ false → Each Ours ds → Leads s x item o.choice
        → Leads s x item (find_in_deps M charge s x (best_local s x) rec left item o ds).choice
    unfolding find_in_deps find_in_dep
    deps_lead left item o [] away h f = f
    deps_lead left item o (d ∷ ds) away (more k h) f =
        deps_lead left item (find_in_dep M charge s x (best_local s x) rec left item o d) ds away h
        (imports_lead item left o f (imports_listed s x d item k away))

    sysroot_leads : (left : ℕ) (item : Item) (o : Out M) (ls : List ℕ) (b : Bool) → is_near s x item ≡ false → Leads s x item o.choice
        → Leads s x item (find_in_sysroot M charge s x (best_local s x) rec left item o ls b).choice
    unfolding find_in_sysroot
    sysroot_leads left item o [] true away f = f
    sysroot_leads left item o [] false away f = deps_lead left item o (sysroot_first s x.from_crate.0) away sysroot_ours f
    sysroot_leads left item o (n ∷ ls) true away f = f
    sysroot_leads left item o (n ∷ ls) false away f =
        sysroot_leads left item (find_in_deps M charge s x (best_local s x) rec left item o (one_or_none (lang_of s x.from_crate.0 n))) ls _ away
        (deps_lead left item o (one_or_none (lang_of s x.from_crate.0 n)) away (lang_ours n) f)

    go_leads : (left : ℕ) (item : Item) (t : M) (a b : Bool)
        → is_near s x item ≡ a → Leads s x item (go_on M charge s x (best_local s x) rec left item t a b).choice
    unfolding go_on
    go_leads left item t true b near = best_local_leads s x valid rooted left item near
    go_leads left item t false true away = sysroot_leads left item _ (langs x.prefer_no_std) false away (nothing_leads s x)
    go_leads left item t false false away = deps_lead left item _ _ away (each_self (dependencies_of s x.from_crate.0)) (nothing_leads s x)

    after_leads : (left : ℕ) (item : Item) (c : Charged M) → Leads s x item (after_charge M charge s x (best_local s x) rec left item c).choice
    unfolding after_charge
    after_leads left item (go t) = go_leads left item t _ _ refl
    after_leads left item (stop t) = nothing_leads s x

    best_leads : (left : ℕ) (item : Item) (t : M) → Leads s x item (calculate_best_path M charge s x (best_local s x) rec left item t).choice
    unfolding calculate_best_path
    best_leads left item t = after_leads left item (charge _ _ t)

    or_leads : (left m : ℕ) (t : M) (c : Choice) (b : Bool) → Leads s x (module_item m) c
        → Leads s x (module_item m) (or_charged M charge s x (best_local s x) rec left m t c b).choice
    unfolding or_charged
    or_leads left m t c true f = f
    or_leads left m t c false f = best_leads left (module_item m) t

    module_leads : LeadsSearch (find_path_for_module M charge s x (best_local s x) rec)
    unfolding find_path_for_module
    module_leads zero m t = nothing_leads s x
    module_leads (suc l) m t = or_leads (suc l) m t _ _ (rules_lead s x valid rooted true m (λ e. absurd (true≢false e)))

  module_to_leads : (d : ℕ) → LeadsSearch (module_to M charge s x d)
  unfolding module_to
  module_to_leads zero left m t = nothing_leads s x
  module_to_leads (suc d) left m t = module_leads (module_to M charge s x d) (module_to_leads d) left m t

  module_search_leads : LeadsSearch (search_module M charge s x)
  unfolding search_module
  module_search_leads left m t = module_to_leads left left m t

-- the names of a choice that fits are as many as it counts
names_count : {s : Snapshot} {c : Choice} (left : ℕ) → left ≤ 16 → Fits s left c → length (take c.count c.names) ≡ c.count
names_count {c = c} left h f = length-take-le c.count c.names (omega (arith, f.few, f.long))

-- and its steps
steps_count : {s : Snapshot} {c : Choice} (left : ℕ) → left ≤ 16 → Fits s left c → length (take c.steps c.route) ≡ c.steps
steps_count {c = c} left h f = length-take-le c.steps c.route (omega (arith, f.few, f.once, f.wide))

-- a choice that is one is a path to the item
pub record Paths (s : Snapshot) (x : FindPathCtx) (item : Item) (c : Choice) : Type 0 where
  pub path : c.found ≡ true → Path s x c.kind (take c.count c.names) (take c.steps c.route) item

module _ (s : Snapshot) (x : FindPathCtx) (limit : x.max_len ≤ path_limit) where
  direct_path : (item : Item) (c : Choice) → Leads s x item c → Fits s x.max_len c → Paths s x item c
  direct_path item c f g = record {
    path = λ e.
        let n = names_count x.max_len (omega (arith, limit)) g in
        direct (f.route e (omega (arith, limit, g.few, g.long)) (omega (arith, limit, g.few, g.once, g.wide))) (omega (arith, n, g.few));
  }

  variant_path : (item : Item) (v : Definition) (c : Choice) → variant_of s item ≡ Some v → Leads s x (item_of s types v.first) c
      → Fits s x.max_len c → c.found ≡ true → Paths s x item (push_variant s c v)
  unfolding push_variant push extended
  variant_path item v c q f g e = record {
    path = λ _.
        let n = names_count x.max_len (omega (arith, limit)) g in
        let t = step_by via_variant v.place in
        subst (λ (ts : List ℕ). Path s x c.kind (take (c.count + 1) (set c.names c.count v.second)) ts item)
        (sym (names_more c.route c.steps t (omega (arith, limit, g.few, g.once, g.wide))))
        (subst (λ (ns : List ℕ). Path s x c.kind ns (take c.steps c.route ++ (t ∷ [])) item)
        (sym (names_more c.names c.count v.second (omega (arith, limit, g.few, g.long))))
        (variant v (variant_in_lem s item v q) q (f.route e (omega (arith, limit, g.few, g.long)) (omega (arith, limit, g.few, g.once, g.wide)))
        (omega (arith, n, g.few))));
  }

module _ (M : Type 0) (charge : Charge M) (s : Snapshot) (x : FindPathCtx) (valid : Valid s) (rooted : Rooted s x)
    (some-limit : 0 < x.max_len) (limit : x.max_len ≤ path_limit) where
  -- P holds of every route of as many names at most as the limit, and of what the enum's search gives a variant
  module _ (inner : Inner M) (P : Item → Choice → Type 0)
      (short : (item : Item) (c : Choice) → Leads s x item c → Fits s x.max_len c → P item c)
      (within : (item : Item) (t : M) (v : Definition) → variant_of s item ≡ Some v → (inner (item_of s types v.first) t).choice.found ≡ true
      → P item (push_variant s (inner (item_of s types v.first) t).choice v)) where
    best_path_lem : (item : Item) (t : M)
        → P item (calculate_best_path M charge s x (best_local s x) (search_module M charge s x) x.max_len item t).choice
    best_path_lem item t =
        short item _ (best_leads M charge s x valid rooted (search_module M charge s x) (module_search_leads M charge s x valid rooted)
        x.max_len item t)
        (best_within M charge s x (best_local s x) (best_local_fits s x) (search_module M charge s x) (module_search_fits M charge s x)
        x.max_len some-limit item t)

    enum_path : (item : Item) (v : Definition) (o : Out M) (b : Bool) → (b ≡ true → P item (push_variant s o.choice v))
        → P item (after_enum M charge s x (best_local s x) (search_module M charge s x) item v o b).choice
    unfolding after_enum
    enum_path item v o true f = f refl
    enum_path item v o false f = best_path_lem item o.meter

    via_path : (item : Item) (t : M) (v : Option Definition) → variant_of s item ≡ v
        → P item (via_enum M charge s x (best_local s x) (search_module M charge s x) inner item t v).choice
    unfolding via_enum
    via_path item t None q = best_path_lem item t
    via_path item t (Some v) q = enum_path item v _ _ (within item t v q)

    named_path : (item : Item) (t : M) (c : Choice) (b : Bool) → P item c
        → P item (or_enum M charge s x (best_local s x) (search_module M charge s x) inner item t c b).choice
    unfolding or_enum
    named_path item t c true f = f
    named_path item t c false f = via_path item t (variant_of s item) refl

    by_name_path : (item : Item) (t : M) → P item (by_name M charge s x (best_local s x) (search_module M charge s x) inner item t).choice
    unfolding by_name
    by_name_path item t =
        named_path item t _ _
        (short item _
        (first_leads s x _ _ (scope_leads s x item) (first_leads s x _ _ (prelude_leads s x item) (first_none s x)))
        (wider 1 x.max_len some-limit (first_fits 1 _ _ (scope_fits s x 0 item) (first_fits 1 _ _ (prelude_fits s x 0 item) (none-fits 1)))))

    of_path : (m : ℕ) (t : M) (b : Bool) → P (module_item m) (of_module M charge s x (best_local s x) (search_module M charge s x) inner m t b).choice
    unfolding of_module
    of_path m t true = by_name_path (module_item m) t
    of_path m t false = short (module_item m) _ (module_search_leads M charge s x valid rooted x.max_len m t)
        (module_search_fits M charge s x x.max_len m t)

    inner_path : (item : Item) (t : M) → P item (find_path_inner M charge s x (best_local s x) (search_module M charge s x) inner item t).choice
    unfolding find_path_inner
    inner_path (Mod m) t = of_path m.0 t x.is_std_item
    inner_path (Def ns d) t = by_name_path (Def ns d) t

  -- the search for an enum, which tries no enum above it
  enum_leads : (item : Item) (t : M) → Leads s x item (item_to M charge s x 1 item t).choice
  unfolding item_to
  enum_leads item t = inner_path (item_to M charge s x 0) (Leads s x) (λ i c f g. f) (λ i u v q e. absurd (false≢true e)) item t

  item_path : (item : Item) (t : M) → Paths s x item (search_item M charge s x item t).choice
  unfolding search_item item_to
  item_path item t =
      inner_path (item_to M charge s x 1) (Paths s x) (direct_path s x limit)
      (λ i u v q e. variant_path s x limit i v _ q (enum_leads (item_of s types v.first) u)
      (wider _ x.max_len (omega arith) (item_to_fits M charge s x (x.max_len - 1) some-limit (omega arith) 1 (item_of s types v.first) u)) e)
      item t

context_rooted : (s : Snapshot) (q : Query) (home : ℕ) → Rooted s (context_of s q home)
unfolding context_of
context_rooted s q home = record { root = refl; krate = refl }

context_limit : (s : Snapshot) (q : Query) (home : ℕ) → (context_of s q home).max_len ≡ q.limit
unfolding context_of
context_limit s q home = refl

module _ (M : Type 0) (charge : Charge M) (s : Snapshot) (valid : Valid s) (q : Query) (some-limit : 0 < q.limit)
    (limit : q.limit ≤ path_limit) where
  abbrev Asked : Choice → Type 0
  Asked c = Paths s (asked_context s q) (asked_item s q) c

  home_path : (t : M) (h : ℕ) → home_of s (asked_item s q) ≡ h → Asked (from_home M charge s q (asked_item s q) t h).choice
  unfolding from_home
  home_path t zero e = record { path = λ z. absurd (false≢true z) }
  home_path t (suc home) e =
      let same : home ≡ home_of s (asked_item s q) - 1 = omega (arith, e) in
      let c = context_limit s q home in
      subst (λ (k : ℕ). Paths s (context_of s q k) (asked_item s q) (search_item M charge s (context_of s q home) (asked_item s q) t).choice) same
      (item_path M charge s (context_of s q home) valid (context_rooted s q home) (omega (arith, c)) (omega (arith, c)) (asked_item s q) t)

  builtin_path : q.ns ≡ types → (definition_of s q.definition.0).kind ≡ builtin_kind
      → Asked (builtin_choice s (definition_of s q.definition.0))
  unfolding builtin_choice
  builtin_path e k =
      let b = builtin q.definition.0 (definition_in_lem s q.definition.0 2 k) k in
      let n = (definition_of s q.definition.0).first in
      let c = context_limit s q (home_of s (asked_item s q) - 1) in
      let t = step_by via_builtin (definition_of s q.definition.0).place in
      direct_path s (asked_context s q) (omega (arith, c)) (asked_item s q) _
      (new_leads s (asked_context s q) (asked_item s q) plain_path n t
      (subst (λ (ns : ℕ). Start s (asked_context s q) plain_path (n ∷ []) t (item_of s ns q.definition.0)) (sym e) b))
      (wider 1 (asked_context s q).max_len (omega (arith, c)) (new_fits s 0 plain_path n t))

  start_path : (t : M) (b : Bool) → (b ≡ true → (q.ns ≡ types) × ((definition_of s q.definition.0).kind ≡ builtin_kind))
      → Asked (from_item M charge s q t b).choice
  unfolding from_item
  start_path t true k = let e = k refl in builtin_path e.0 e.1
  start_path t false k = home_path t _ refl

  -- Every path that a search finds has a record for each of its steps.
  pub search_path : (t : M) → Asked (find_path M charge s q t).choice
  unfolding find_path
  search_path t =
      start_path t _
      (λ e.
      let f = and_two (eqb q.ns types) (eqb (definition_of s q.definition.0).kind builtin_kind) e in
      (eqb-true _ _ f.0, eqb-true _ _ f.1))

allowed : (s : Snapshot) (q : Query) → (asked_context s q).allow_unstable ≡ bit q.options 8
unfolding context_of
allowed s q = refl

searched_routed : (s : Snapshot) → Valid s → (q : Query) (fuel : ℕ) → Allowed q fuel → (searched s q fuel).choice.found ≡ true
    → Routed s q (reported s q (searched s q fuel))
unfolding searched reported
searched_routed s valid q fuel a e =
    let t : Tank = filled fuel in
    record {
      path = (search_path Tank from_tank s valid q a.some a.limit t).path e;
      count = names_count 16 (omega arith) (search_fits Tank from_tank s q a.some a.limit t);
      steps = steps_count 16 (omega arith) (search_fits Tank from_tank s q a.some a.limit t);
      unstable = allowed s q;
      limit = context_limit s q _;
    }

kind_routed : {words : List ℕ} {q : Query} {fuel : ℕ} (s : Snapshot) → verdict words ≡ accept s → (r : Report) → Kind words q fuel r
    → HasPath r → Routed s q r
unfolding refused reported
kind_routed s a r (refusal n h e) z =
    let y = ap (λ (w : Report). w.outcome) e in
    absurd (⊎_elim (λ w. omega arith) (λ w. omega arith) z)
kind_routed {words = words} {q = q} {fuel = fuel} s a r (answer u b h e) z =
    let same : u ≡ s = cc (a, b) in
    let y : HasPath (reported u q (searched u q fuel)) = subst HasPath e z in
    subst (λ w. Routed w q r) same (rw e (searched_routed u (accepted_valid words u b) q fuel h (path_found u q _ y)))

-- Every step of a path that is found, misleading or not, has its record in the snapshot that the words were accepted as.
pub found_route : (words : List ℕ) (area : ℕ) (q : Question) (s : Snapshot) → verdict words ≡ accept s
    → HasPath (report_of words area q) → Routed s q.query (report_of words area q)
found_route words area q s e z = kind_routed s e (report_of words area q) (kind_of_lem words area q) z

-- the heads in the words

-- a step has its rule and its place
step_rule : (rule place : ℕ) → rule < 8 → rule_of (step_by rule place) ≡ rule
step_rule rule place h = omega (arith, h)

step_place : (rule place : ℕ) → rule < 8 → place_of (step_by rule place) ≡ place
step_place rule place h = omega (arith, h)

by_keyword : (W : List ℕ) → Shown W (step_by via_keyword 0)
by_keyword W = record { keyword = λ _. refl; head = λ z. absurd (z refl) }

by_record : {W : List ℕ} (rule place : ℕ) → rule < 8 → (rule ≡ via_keyword → ⊥) → kind_of (get_or W place 0) ≡ rule_kind rule
    → Shown W (step_by rule place)
by_record {W = W} rule place h z e =
    let r = step_rule rule place h in
    record {
      keyword = λ k. absurd (z (sym r ∙ k));
      head = λ _. ap (λ (p : ℕ). kind_of (get_or W p 0)) (step_place rule place h) ∙ e ∙ ap rule_kind (sym r);
    }

module _ (W : List ℕ) (s : Snapshot) (placed : Placed W s) (x : FindPathCtx) where
  start_shown : {k t : ℕ} {ns : List ℕ} {item : Item} → Start s x k ns t item → Shown W t
  start_shown (self b) = by_keyword W
  start_shown (super p b e) = by_keyword W
  start_shown crate = by_keyword W
  start_shown (scope item e h m q) = by_record via_scope e.place (omega arith) (λ z. omega arith) (each_in placed.scopes h).head
  start_shown (prelude item e h q) = by_record via_prelude e.place (omega arith) (λ z. omega arith) (each_in placed.scopes h).head
  start_shown (extern m e h r z q) = by_record via_extern e.place (omega arith) (λ z. omega arith) (each_in placed.externs h).head
  start_shown (builtin d h q) = by_record via_builtin (definition_of s d).place (omega arith) (λ z. omega arith)
      (each_in placed.definitions h).head

  step_shown : {m n t : ℕ} {item : Item} → Step s x m n t item → Shown W t
  step_shown (entry e h n o v) = by_record via_local e.place (omega arith) (λ z. omega arith) (each_in placed.scopes h).head
  step_shown (imported d i k h o n v u) = by_record via_import i.place (omega arith) (λ z. omega arith) (each_in placed.imports h).head

  route_shown : {k : ℕ} {ns ts : List ℕ} {item : Item} → Route s x k ns ts item → Each (Shown W) ts
  route_shown (start b) = more (start_shown b) Each.none
  route_shown (step r g) = each_snoc (route_shown r) (step_shown g)

  path_shown : {k : ℕ} {ns ts : List ℕ} {item : Item} → Path s x k ns ts item → Each (Shown W) ts
  path_shown (direct r l) = route_shown r
  path_shown (variant v h q r l) = each_snoc (route_shown r) (by_record via_variant v.place (omega arith) (λ z. omega arith)
      (each_in placed.definitions h).head)

-- At the place of every step of a found path the words have the head of a record that its rule uses, unless it is a keyword's.
pub found_shown : (words : List ℕ) (area : ℕ) (q : Question) (s : Snapshot) → verdict words ≡ accept s
    → HasPath (report_of words area q) → Each (Shown words) (route_steps (report_of words area q))
found_shown words area q s e z =
    path_shown words s (accepted_placed words s e) (asked_context s q.query) (found_route words area q s e z).path

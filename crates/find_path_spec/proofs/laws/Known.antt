-- Every name of a path is the number of a name of the snapshot, its kind is one of the five, and its steps are small.
use mathlib.Core.Path.{◌≡◌, refl, ap, sym, ◌∙◌, subst}
use Prim.Native.Nat.{ℕ, zero, suc, ◌≤◌, ◌<◌}
use native.Mathlib.Omega.{arith}
use native.Mathlib.Decide.{dec_le}
use mathlib.Core.List.Memᴰ
use mathlib.Core.List.{List, [], ◌∷◌, ◌++◌}
use mathlib.Core.Bool.{Bool, true, false, ◌||◌, not}
use Rattle.std.specs.Prelude.{Option, None, Some}
use lib.Dec.{eqb}
use lib.ListN.{length, get_or, set, replicate, get_or-eq_default}
use borrow.Author.Tests.{eqb-true}
use Rattle.snapshot.specs.Limits.{word_limit}
use Rattle.snapshot.specs.Records.{Snapshot, Scope, Prelude, Dependency, Definition, Import, Extern}
use Rattle.check_rules.specs.Tests.{counts_of, no_definition}
use Rattle.accept.specs.Valid.{Each, more, ScopeFits, ImportFits, ExternFits, DefinitionFits, Ranges}
use Rattle.check_rules.specs.Verdict.{accept, verdict}
use Rattle.accept.proofs.Accepted.{by_test}
use Rattle.accept.proofs.Bools.{and_right, each_at}
use Rattle.accept.proofs.Ranges.{accepted_ranges}
use Rattle.hir_def.specs.Finds.{first_of, or_first, first_some}
use Rattle.hir_def.specs.Items.{types, variant_kind, builtin_kind, map_no, parent_of, root_of, crate_of, crate_root, in_block, definition_of, item_of}
use Rattle.hir_def.specs.Items.{module_item}
use Rattle.hir_def.specs.ItemScope.{name_of, names_of, is_fresh, preferred}
use Rattle.hir_def.specs.Nameres.{ancestor_maps, scope_entry, prelude_of, lang_of, sysroot_first, extern_of}
use Rattle.hir_def.specs.ImportMap.{import_info_for, is_unstable, is_hidden}
use Rattle.hir_def.specs.declared.Item.{Item}
use Rattle.hir_def.specs.declared.Item.TheVariants.{Mod, Def}
use Rattle.hir_def.proofs.Found.{each_first, each_select}
use Rattle.hir_def.proofs.Fits.{each_back}
use Rattle.find_path_choice.specs.Choices.{Choice}
use Rattle.find_path_spec.specs.declared.FindPathCtx.{FindPathCtx}
use Rattle.find_path_spec.specs.declared.Query.{Query}
use Rattle.find_path_spec.specs.declared.Question.{Question}
use Rattle.find_path_spec.specs.declared.Report.{Report}
use Rattle.find_path_spec.specs.declared.Tank.{Tank}
use Rattle.find_path_choice.specs.Choices.{plain_path, self_path, super_path, crate_path, via_scope, via_prelude, step_by}
use Rattle.find_path_choice.specs.Choices.{step_limit, nothing, keyword, choice_new, extended, push, unstably, better, try_select}
use Rattle.find_path_spec.specs.Walk.{Level}
use Rattle.find_path_spec.specs.Rules.{by_crate, may_be_in_scope, prefix_path_kind, context_of, first_found, single, find_in_scope}
use Rattle.find_path_spec.specs.Rules.{scope_rule, is_usable, prelude_entry, in_prelude, find_in_prelude, prelude_rule, extern_kind}
use Rattle.find_path_spec.specs.Rules.{extern_name, root_rule, parent_kind, is_kw_kind_relative_to_from, keyword_of, module_rules}
use Rattle.find_path_spec.specs.Local.{LocalSearch, offer, offer_entry, is_importable, entry_if, importable_name, location, each_location}
use Rattle.find_path_spec.specs.Local.{calculate_best_path_local, or_local, find_path_for_module_local}
use Rattle.find_path_spec.specs.Meters.{Charged, go, stop, from_tank, Charge}
use Rattle.find_path_spec.specs.Charged.{Out, Search, Inner, langs, one_or_none, variant_of, push_variant, offer_import, find_import, find_imports}
use Rattle.find_path_spec.specs.Charged.{find_in_dep}
use Rattle.find_path_spec.specs.Charged.{find_in_deps, find_in_sysroot, go_on, after_charge, calculate_best_path, or_charged, find_path_for_module}
use Rattle.find_path_spec.specs.Charged.{after_enum, via_enum}
use Rattle.find_path_spec.specs.Charged.{or_enum, by_name, of_module, find_path_inner}
use Rattle.find_path_spec.specs.Search.{builtin_choice, local_to, search_local, best_local, module_to, search_module, item_to, search_item, from_home}
use Rattle.find_path_spec.specs.Search.{from_item}
use Rattle.find_path_spec.specs.Search.{find_path}
use Rattle.find_path_spec.specs.Report.{refused, reported, searched, report_of}
use Rattle.find_path_spec.specs.laws.Fuels.{NamesKnown}
use Rattle.find_path_spec.specs.laws.Routes.{◌∈◌}
use Rattle.find_path_spec.proofs.laws.Bounds.{zeros}
use Rattle.find_path_spec.proofs.laws.Outcomes.{Kind, refusal, answer, kind_of_lem}

pub record Known (s : Snapshot) (c : Choice) : Type 0 where
  pub kind : c.kind ≤ 4
  pub names : (i : ℕ) → i < c.count → get_or c.names i 0 < length s.names
  pub route : (i : ℕ) → get_or c.route i 0 < step_limit

-- what may be there, and has P if it is
abbrev pub Held : {A : Type 0} → (A → Type 0) → Option A → Type 0
Held P None = Unit {0}
Held P (Some y) = P y

-- the path kind of a keyword is one of the five
abbrev KindSmall : Option ℕ → Type 0
KindSmall (Some k) = k ≤ 4
KindSmall None = Unit {0}

held : {A : Type 0} {P : A → Type 0} (o : Option A) → ((y : A) → o ≡ Some y → P y) → Held P o
held None f = tt
held (Some y) f = f y refl

pub held_at : {A : Type 0} (P : A → Type 0) {y : A} (o : Option A) → Held P o → o ≡ Some y → P y
held_at P None h e = let z : ◌≡◌ {A = ℕ} 0 1 = cc in absurd (omega arith)
held_at P {y = y} (Some w) h e = let same : w ≡ y = cc in subst P same h

first_held : {A : Type 0} {P : A → Type 0} {xs : List A} (p : A → Bool) → Each P xs → Held P (first_of p xs)
first_held p h = held _ (λ y e. each_first p y h e)

or_held : {A : Type 0} (P : A → Type 0) (a b : Option A) → Held P a → Held P b → Held P (elim a [ Some y ↦ Some y | None ↦ b ])
or_held P None b h g = g
or_held P (Some y) b h g = h

some_held : {A B : Type 0} (P : B → Type 0) (f : A → Option B) (xs : List A) → ((x : A) → Held P (f x)) → Held P (first_some f xs)
unfolding first_some
some_held P f [] h = tt
some_held P f (x ∷ xs) h = or_held P (f x) (first_some f xs) (h x) (some_held P f xs h)

-- one place of a list set to a number below m
put_below : (l : List ℕ) (k n i m : ℕ) → n < m → ((i ≡ k → ⊥) → get_or l i 0 < m) → get_or (set l k n) i 0 < m
put_below [] k n i m h g = omega arith
put_below (x ∷ l) zero n zero m h g = h
put_below (x ∷ l) zero n (suc i) m h g = g (λ e. omega arith)
put_below (x ∷ l) (suc k) n zero m h g = g (λ e. omega arith)
put_below (x ∷ l) (suc k) n (suc i) m h g = put_below l k n i m h (λ e. g (λ z. e (omega arith)))

-- a name of the snapshot, by a step that is small
record NameBy (s : Snapshot) (n t : ℕ) : Type 0 where
  name : n < length s.names
  step : t < step_limit

-- a rule, and a place of the words
by_rule_lem : {s : Snapshot} (n rule place : ℕ) → n < length s.names → rule ≤ 7 → place < word_limit → NameBy s n (step_by rule place)
by_rule_lem n rule place h k l = record { name = h; step = omega (arith, k, l) }

no_steps : (i : ℕ) → get_or (replicate 17 0) i 0 < step_limit
no_steps i = let z = zeros 17 i in omega (arith, z)

nothing_known : {s : Snapshot} → Known s nothing
nothing_known = record { kind = omega arith; names = λ i h. absurd (omega arith); route = no_steps }

keyword_known : {s : Snapshot} (k : ℕ) → k ≤ 4 → Known s (keyword k)
unfolding keyword
keyword_known k h =
    record { kind = h; names = λ i l. absurd (omega arith); route = λ i. put_below (replicate 17 0) 0 4 i _ (omega arith) (λ e. no_steps i) }

new_known : (s : Snapshot) (k n t : ℕ) → k ≤ 4 → NameBy s n t → Known s (choice_new s k n t)
unfolding choice_new
new_known s k n t h g =
    record {
      kind = h;
      names = λ i l. put_below (replicate 16 0) 0 n i _ g.name (λ e. absurd (e (omega arith)));
      route = λ i. put_below (replicate 17 0) 0 t i _ g.step (λ e. no_steps i);
    }

extended_known : (s : Snapshot) (c : Choice) (n t : ℕ) (b : Bool) → Known s c → NameBy s n t → Known s (extended s c n t b)
unfolding extended
extended_known s c n t b f g =
    record {
      kind = f.kind;
      names = λ i l. put_below c.names c.count n i _ g.name (λ e. f.names i (omega arith));
      route = λ i. put_below c.route c.steps t i _ g.step (λ e. f.route i);
    }

push_known : (s : Snapshot) (c : Choice) (n t : ℕ) → Known s c → NameBy s n t → Known s (push s c n t)
unfolding push
push_known s c n t f g = extended_known s c n t _ f g

-- of two choices, the one that a test takes
either_known : {s : Snapshot} (b : Bool) (c d : Choice) → Known s c → Known s d → Known s (elim b [ true ↦ c | false ↦ d ])
either_known true c d f g = f
either_known false c d f g = g

first_none : {s : Snapshot} → Known s (first_found [])
unfolding first_found
first_none = nothing_known

first_known : {s : Snapshot} (c : Choice) (cs : List Choice) → Known s c → Known s (first_found cs) → Known s (first_found (c ∷ cs))
unfolding first_found
first_known c cs f g = either_known c.found c (first_found cs) f g

-- path kinds

prefix_small : (p : ℕ) → prefix_path_kind p ≤ 4
unfolding prefix_path_kind
prefix_small zero = omega arith
prefix_small (suc zero) = omega arith
prefix_small (suc (suc zero)) = omega arith
prefix_small (suc (suc (suc p))) = omega arith

either_small : (b : Bool) (k l : Option ℕ) → KindSmall k → KindSmall l → KindSmall (elim b [ true ↦ k | false ↦ l ])
either_small true k l f g = f
either_small false k l f g = g

held_if : {A : Type 0} (P : A → Type 0) (b : Bool) (y : A) → P y → Held P (elim b [ true ↦ Some y | false ↦ None ])
held_if P true y h = h
held_if P false y h = tt

-- the entries that the rules find have what all entries have
module _ (s : Snapshot) (P : Scope → Type 0) (all : Each P s.scopes) where
  names_held : (m : ℕ) (item : Item) (p : Scope → Bool) → Held P (names_of s m item p)
  unfolding names_of
  names_held m item p = first_held _ all

  name_held : (m : ℕ) (item : Item) → Held P (name_of s m item)
  unfolding name_of
  name_held m item = first_held _ all

  two_held : (o old : Option Scope) → Held P o → Held P old → Held P (or_first o old)
  unfolding or_first
  two_held None old f g = g
  two_held (Some e) old f g = f

  preferred_held : (b : Bool) (m : ℕ) (item : Item) (p : Scope → Bool) (old : Option Scope) → Held P old → Held P (preferred b s m item p old)
  unfolding preferred
  preferred_held true m item p old h = two_held _ old (names_held m item (is_fresh p)) h
  preferred_held false m item p old h = h

  module _ (x : FindPathCtx) where
    pub scope_held : (item : Item) → Held P (find_in_scope s x item)
    unfolding find_in_scope scope_entry
    scope_held item = some_held P _ (ancestor_maps s x.from.0) (λ a. preferred_held x.fresh a item _ _ (names_held a item _))

    prelude_entry_held : (item : Item) (o : Option Scope) → Held P o → Held P (prelude_entry s x item o)
    unfolding prelude_entry
    prelude_entry_held item None h = tt
    prelude_entry_held item (Some e) h = held_if P (is_usable s x item e) e h

    in_prelude_held : (item : Item) (o : Option Prelude) → Held P (in_prelude s x item o)
    unfolding in_prelude
    in_prelude_held item None = tt
    in_prelude_held item (Some p) = prelude_entry_held item _ (preferred_held x.fresh p.target item _ _ (name_held p.target item))

    pub prelude_held : (item : Item) → Held P (find_in_prelude s x item)
    unfolding find_in_prelude
    prelude_held item = in_prelude_held item (prelude_of s (map_no s x.from.0))

    entry_if_held : (o : Option Scope) → Held P o → Held P (entry_if s x o)
    unfolding entry_if
    entry_if_held None h = tt
    entry_if_held (Some e) h = held_if P (is_importable s x e) e h

    pub importable_held : (item : Item) (m : ℕ) → Held P (importable_name s x item m)
    unfolding importable_name
    importable_held item m = entry_if_held _ (preferred_held x.fresh m item _ _ (name_held m item))

pub extern_held : (s : Snapshot) (P : Extern → Type 0) → Each P s.externs → (c m : ℕ) → Held P (extern_of s c m)
unfolding extern_of
extern_held s P all c m = first_held {P = P} _ (search (all, each_back, Each.none))

-- what stands at a place of a list stands in it
at_in : {A : Type 0} (xs : List A) (d : A) (i : ℕ) → i < length xs → get_or xs i d ∈ xs
at_in [] d i h = absurd (omega arith)
at_in (x ∷ xs) d zero h = Memᴰ.head refl
at_in (x ∷ xs) d (suc i) h = Memᴰ.tail (at_in xs d i (omega arith))

-- a definition of a kind is there
pub definition_in_lem : (s : Snapshot) (d k : ℕ) → (definition_of s d).kind ≡ suc k → definition_of s d ∈ s.definitions
unfolding definition_of
definition_in_lem s d k e =
    elim (dec_le (length s.definitions) d) [
      | yes h ↦ let z = sym (ap (λ (y : Definition). y.kind) (get_or-eq_default s.definitions no_definition h)) ∙ e in absurd (omega arith)
      | no h ↦ at_in s.definitions no_definition d (omega arith)
    ]

pub variant_in_lem : (s : Snapshot) (item : Item) (v : Definition) → variant_of s item ≡ Some v → v ∈ s.definitions
unfolding variant_of
variant_in_lem s (Mod m) v e = let z : ◌≡◌ {A = ℕ} 0 1 = cc in absurd (omega arith)
variant_in_lem s (Def ns d) v e =
    by_test (eqb (definition_of s d.0).kind variant_kind)
    (λ t.
    let f : Some (definition_of s d.0) ≡ Some v = rw (variant_of, t) at e in
    let same : definition_of s d.0 ≡ v = cc in
    subst (λ z. z ∈ s.definitions) same (definition_in_lem s d.0 1 (eqb-true _ _ t)))
    (λ t. let f : None ≡ Some v = rw (variant_of, t) at e in let z : ◌≡◌ {A = ℕ} 0 1 = cc in absurd (omega arith))

module _ (s : Snapshot) (r : Ranges (counts_of s) s) where
  -- a definition of a kind is in range
  pub definition_known : (d k : ℕ) → (definition_of s d).kind ≡ suc k → DefinitionFits (counts_of s) (definition_of s d)
  unfolding definition_of
  definition_known d k e =
      elim (dec_le (length s.definitions) d) [
        | yes h ↦ let z = sym (ap (λ (y : Definition). y.kind) (get_or-eq_default s.definitions no_definition h)) ∙ e in absurd (omega arith)
        | no h ↦ each_at no_definition d r.definitions (omega arith)
      ]

  -- the name of a variant, and the step to it
  variant_held : (item : Item) → Held (λ d. NameBy s d.second (step_by 5 d.place)) (variant_of s item)
  unfolding variant_of
  variant_held (Mod m) = tt
  variant_held (Def ns d) =
      by_test (eqb (definition_of s d.0).kind variant_kind)
      (λ t.
      rw (variant_of, t)
      (let k = eqb-true _ _ t in let f = definition_known d.0 1 k in by_rule_lem (definition_of s d.0).second 5 _ (f.variant k).1
      (omega arith) f.place))
      (λ t. rw (variant_of, t) tt)

  module _ (x : FindPathCtx) where
    select_known : (best c : Choice) (n t : ℕ) → Known s best → Known s c → NameBy s n t → Known s (try_select s x.prefer_prelude best c n t)
    unfolding try_select
    select_known best c n t f g h =
        either_known best.found _ _
        (either_known (better s x.prefer_prelude best c n) _ _ (extended_known s c n t _ g h) f) (push_known s c n t g h)

    offer_known : (best c : Choice) (n t : ℕ) → Known s best → Known s c → NameBy s n t → Known s (offer s x best c n t)
    unfolding offer
    offer_known best c n t f g h = either_known c.found _ _ (select_known best c n t f g h) f

    unstably_known : (c : Choice) → Known s c → Known s (unstably c)
    unfolding unstably
    unstably_known c f = record { kind = f.kind; names = f.names; route = f.route }

    offer_import_known : (best c : Choice) (i : Import) → Known s best → Known s c → ImportFits (counts_of s) i → Known s (offer_import s x best c i)
    unfolding offer_import
    offer_import_known best c i f g h =
        let n = by_rule_lem i.name 7 i.place h.name (omega arith) h.place in
        either_known (is_unstable i) _ _
        (either_known x.allow_unstable _ _ (offer_known best (unstably c) i.name _ f (unstably_known c g) n) f)
        (offer_known best c i.name _ f g n)

    -- the rules without a search

    single_known : (kind rule : ℕ) (o : Option Scope) → kind ≤ 4 → rule ≤ 7 → Held (ScopeFits (counts_of s)) o → Known s (single s x kind rule o)
    unfolding single
    single_known kind rule None k l h = nothing_known
    single_known kind rule (Some e) k l h = new_known s kind e.name _ k (by_rule_lem e.name rule e.place h.name l h.place)

    scope_known : (item : Item) → Known s (scope_rule s x item)
    unfolding scope_rule
    scope_known item =
        either_known (may_be_in_scope s x) _ _
        (single_known _ via_scope (find_in_scope s x item) (prefix_small x.prefix) (omega arith)
        (scope_held s (ScopeFits (counts_of s)) r.scopes x item)) nothing_known

    prelude_known : (item : Item) → Known s (prelude_rule s x item)
    unfolding prelude_rule
    prelude_known item =
        single_known plain_path via_prelude _ (omega arith) (omega arith) (prelude_held s (ScopeFits (counts_of s)) r.scopes x item)

    extern_small : (b : Bool) → extern_kind s x b ≤ 4
    unfolding extern_kind
    extern_small true = omega arith
    extern_small false = omega arith

    extern_known : (m : ℕ) (e : Option Extern) → Held (ExternFits (counts_of s)) e → Known s (extern_name s x m e)
    unfolding extern_name
    extern_known m None h = nothing_known
    extern_known m (Some e) h = new_known s _ _ _ (extern_small _) (by_rule_lem e.name 3 e.place h.name (omega arith) h.place)

    root_known : (b : Bool) (m : ℕ) → Known s (root_rule s x b m)
    unfolding root_rule
    root_known b m =
        either_known (eqb (crate_root s m) m) _ _
        (either_known (not b || eqb m x.crate_root.0) _ _ (keyword_known crate_path (omega arith))
        (extern_known m (extern_of s x.from_crate.0 m) (extern_held s (ExternFits (counts_of s)) r.externs x.from_crate.0 m)))
        nothing_known

    parent_small : (m p : ℕ) → KindSmall (parent_kind s x m p)
    unfolding parent_kind
    parent_small m zero = tt
    parent_small m (suc p) =
        either_small (eqb m p) _ _
        (either_small (eqb p (root_of s (map_no s x.from.0))) (Some crate_path) (Some super_path) (omega arith) (omega arith)) tt

    kind_small : (m : ℕ) → KindSmall (is_kw_kind_relative_to_from s x m)
    unfolding is_kw_kind_relative_to_from
    kind_small m =
        either_small (not (eqb (crate_of s m) (crate_of s x.from.0)) || (in_block s m || in_block s x.from.0)) None _ tt
        (either_small (eqb m x.from.0) (Some self_path) _ (omega arith) (parent_small m (parent_of s x.from.0)))

    keyword_of_known : (k : Option ℕ) → KindSmall k → Known s (keyword_of s x k)
    unfolding keyword_of
    keyword_of_known None h = nothing_known
    keyword_of_known (Some k) h = either_known (not (eqb x.prefix by_crate) || eqb k crate_path) _ _ (keyword_known k h) nothing_known

    rules_known : (b : Bool) (m : ℕ) → Known s (module_rules s x b m)
    unfolding module_rules
    rules_known b m =
        first_known _ _ (root_known b m)
        (first_known _ _ (scope_known (module_item m))
        (first_known _ _ (keyword_of_known (is_kw_kind_relative_to_from s x m) (kind_small m))
        (first_known _ _ (prelude_known (module_item m)) first_none)))

    -- the local search

    abbrev KnownLocal : LocalSearch → Type 0
    KnownLocal rec = (left : ℕ) (ls : List Level) (m : ℕ) → Known s (rec left ls m)

    module _ (rec : LocalSearch) (known : KnownLocal rec) where
      location_known : (left : ℕ) (ls : List Level) (best : Choice) (m : ℕ) (o : Option Scope) → Known s best → Held (ScopeFits (counts_of s)) o
          → Known s (location s x rec left ls best m o)
      unfolding location offer_entry
      location_known left ls best m None f h = f
      location_known left ls best m (Some e) f h =
          offer_known best _ e.name _ f (known _ ls m) (by_rule_lem e.name 6 e.place h.name (omega arith) h.place)

      each_known : (left : ℕ) (ls : List Level) (item : Item) (done : List ℕ) (best : Choice) (ms : List ℕ) → Known s best
          → Known s (each_location s x rec left ls item done best ms)
      unfolding each_location
      each_known left ls item done best [] f = f
      each_known left ls item done best (m ∷ ms) f =
          each_known left ls item (done ++ (m ∷ [])) _ ms (location_known left _ best m (importable_name s x item m) f
          (importable_held s (ScopeFits (counts_of s)) r.scopes x item m))

      local_known : (left : ℕ) (ls : List Level) (item : Item) → Known s (calculate_best_path_local s x rec left ls item)
      unfolding calculate_best_path_local
      local_known left ls item = each_known left ls item [] nothing _ nothing_known

      or_local_known : (left : ℕ) (ls : List Level) (m : ℕ) (c : Choice) (b : Bool) → Known s c → Known s (or_local s x rec left ls m c b)
      unfolding or_local
      or_local_known left ls m c true f = f
      or_local_known left ls m c false f = local_known left ls (module_item m)

    local_to_known : (d : ℕ) → KnownLocal (local_to s x d)
    unfolding local_to find_path_for_module_local
    local_to_known zero left ls m = nothing_known
    local_to_known (suc d) zero ls m = nothing_known
    local_to_known (suc d) (suc l) ls m = or_local_known (local_to s x d) (local_to_known d) (suc l) ls m _ _ (rules_known false m)

    best_local_known : (left : ℕ) (item : Item) → Known s (best_local s x left item)
    unfolding best_local search_local
    best_local_known left item = local_known (search_local s x) (λ l ls m. local_to_known l l ls m) left [] item

module _ (M : Type 0) (charge : Charge M) (s : Snapshot) (r : Ranges (counts_of s) s) where
  abbrev KnownSearch : Search M → Type 0
  KnownSearch rec = (left m : ℕ) (t : M) → Known s (rec left m t).choice

  abbrev KnownInner : Inner M → Type 0
  KnownInner inner = (item : Item) (t : M) → Known s (inner item t).choice

  module _ (x : FindPathCtx) (here : ℕ → Item → Choice) (local : (left : ℕ) (item : Item) → Known s (here left item))
      (rec : Search M) (known : KnownSearch rec) where
    import_known : (left : ℕ) (o : Out M) (i : Import) (b : Bool) → Known s o.choice → ImportFits (counts_of s) i
        → Known s (find_import M charge s x here rec left o i b).choice
    unfolding find_import
    import_known left o i true f h = f
    import_known left o i false f h = offer_import_known s r x o.choice _ i f (known _ i.container o.meter) h

    imports_known : (left : ℕ) (o : Out M) {is : List Import} → Known s o.choice → Each (ImportFits (counts_of s)) is
        → Known s (find_imports M charge s x here rec left o is).choice
    unfolding find_imports
    imports_known left o f Each.none = f
    imports_known left o f (more {x = i} h hs) =
        imports_known left (find_import M charge s x here rec left o i (is_hidden i)) (import_known left o i _ f h) hs

    deps_known : (left : ℕ) (item : Item) (o : Out M) (ds : List Dependency) → Known s o.choice
        → Known s (find_in_deps M charge s x here rec left item o ds).choice
    unfolding find_in_deps find_in_dep import_info_for
    deps_known left item o [] f = f
    deps_known left item o (d ∷ ds) f =
        deps_known left item (find_in_dep M charge s x here rec left item o d) ds (imports_known left o f (each_select _ r.imports))

    sysroot_known : (left : ℕ) (item : Item) (o : Out M) (ls : List ℕ) (b : Bool) → Known s o.choice
        → Known s (find_in_sysroot M charge s x here rec left item o ls b).choice
    unfolding find_in_sysroot
    sysroot_known left item o [] true f = f
    sysroot_known left item o [] false f = deps_known left item o (sysroot_first s x.from_crate.0) f
    sysroot_known left item o (n ∷ ls) true f = f
    sysroot_known left item o (n ∷ ls) false f =
        sysroot_known left item (find_in_deps M charge s x here rec left item o (one_or_none (lang_of s x.from_crate.0 n))) ls _
        (deps_known left item o (one_or_none (lang_of s x.from_crate.0 n)) f)

    go_known : (left : ℕ) (item : Item) (t : M) (a b : Bool) → Known s (go_on M charge s x here rec left item t a b).choice
    unfolding go_on
    go_known left item t true b = local left item
    go_known left item t false true = sysroot_known left item _ (langs x.prefer_no_std) false nothing_known
    go_known left item t false false = deps_known left item _ _ nothing_known

    after_known : (left : ℕ) (item : Item) (c : Charged M) → Known s (after_charge M charge s x here rec left item c).choice
    unfolding after_charge
    after_known left item (go t) = go_known left item t _ _
    after_known left item (stop t) = nothing_known

    best_known : (left : ℕ) (item : Item) (t : M) → Known s (calculate_best_path M charge s x here rec left item t).choice
    unfolding calculate_best_path
    best_known left item t = after_known left item (charge _ _ t)

    or_known : (left m : ℕ) (t : M) (c : Choice) (b : Bool) → Known s c → Known s (or_charged M charge s x here rec left m t c b).choice
    unfolding or_charged
    or_known left m t c true f = f
    or_known left m t c false f = best_known left (module_item m) t

    module_known : KnownSearch (find_path_for_module M charge s x here rec)
    unfolding find_path_for_module
    module_known zero m t = nothing_known
    module_known (suc l) m t = or_known (suc l) m t _ _ (rules_known s r x true m)

    module _ (inner : Inner M) (within : KnownInner inner) where
      enum_known : (item : Item) (v : Definition) (o : Out M) (b : Bool) → Known s o.choice → NameBy s v.second (step_by 5 v.place)
          → Known s (after_enum M charge s x here rec item v o b).choice
      unfolding after_enum push_variant
      enum_known item v o true f h = push_known s o.choice v.second _ f h
      enum_known item v o false f h = best_known x.max_len item o.meter

      via_known : (item : Item) (t : M) (v : Option Definition) → Held (λ d. NameBy s d.second (step_by 5 d.place)) v
          → Known s (via_enum M charge s x here rec inner item t v).choice
      unfolding via_enum
      via_known item t None h = best_known x.max_len item t
      via_known item t (Some v) h = enum_known item v _ _ (within (item_of s types v.first) t) h

      named_known : (item : Item) (t : M) (c : Choice) (b : Bool) → Known s c → Known s (or_enum M charge s x here rec inner item t c b).choice
      unfolding or_enum
      named_known item t c true f = f
      named_known item t c false f = via_known item t (variant_of s item) (variant_held s r item)

      by_name_known : (item : Item) (t : M) → Known s (by_name M charge s x here rec inner item t).choice
      unfolding by_name
      by_name_known item t =
          named_known item t _ _ (first_known _ _ (scope_known s r x item) (first_known _ _ (prelude_known s r x item) first_none))

      of_known : (m : ℕ) (t : M) (b : Bool) → Known s (of_module M charge s x here rec inner m t b).choice
      unfolding of_module
      of_known m t true = by_name_known (module_item m) t
      of_known m t false = known x.max_len m t

      item_known : KnownInner (find_path_inner M charge s x here rec inner)
      unfolding find_path_inner
      item_known (Mod m) t = of_known m.0 t x.is_std_item
      item_known (Def ns d) t = by_name_known (Def ns d) t

  module_to_known : (x : FindPathCtx) (d : ℕ) → KnownSearch (module_to M charge s x d)
  unfolding module_to
  module_to_known x zero left m t = nothing_known
  module_to_known x (suc d) left m t =
      module_known x (best_local s x) (best_local_known s r x) (module_to M charge s x d) (module_to_known x d) left m t

  module_search_known : (x : FindPathCtx) → KnownSearch (search_module M charge s x)
  unfolding search_module
  module_search_known x left m t = module_to_known x left left m t

  item_to_known : (x : FindPathCtx) (d : ℕ) → KnownInner (item_to M charge s x d)
  unfolding item_to
  item_to_known x zero item t = nothing_known
  item_to_known x (suc d) item t =
      item_known x (best_local s x) (best_local_known s r x) (search_module M charge s x) (module_search_known x)
      (item_to M charge s x d) (item_to_known x d) item t

  home_known : (q : Query) (item : Item) (t : M) (h : ℕ) → Known s (from_home M charge s q item t h).choice
  unfolding from_home search_item
  home_known q item t zero = nothing_known
  home_known q item t (suc home) = item_to_known (context_of s q home) 2 item t

  start_known : (q : Query) (t : M) (b : Bool) → (b ≡ true → (definition_of s q.definition.0).kind ≡ builtin_kind)
      → Known s (from_item M charge s q t b).choice
  unfolding from_item builtin_choice
  start_known q t true k =
      let e = k refl in
      let f = definition_known s r q.definition.0 2 e in
      new_known s plain_path _ _ (omega arith) (by_rule_lem (definition_of s q.definition.0).first 0 _ (f.builtin e) (omega arith) f.place)
  start_known q t false k = home_known q _ t _

  -- Every path that a search finds has names of the snapshot alone.
  pub search_known : (q : Query) (t : M) → Known s (find_path M charge s q t).choice
  unfolding find_path
  search_known q t =
      start_known q t _
      (λ e. eqb-true _ _ (and_right (eqb q.ns types) (eqb (definition_of s q.definition.0).kind builtin_kind) e))

-- what the search of a question on accepted words finds
pub searched_known : (words : List ℕ) (s : Snapshot) → verdict words ≡ accept s → (q : Query) (fuel : ℕ) → Known s (searched s q fuel).choice
unfolding searched
searched_known words s e q fuel = search_known Tank from_tank s (accepted_ranges words s e) q _

kind_known : {words : List ℕ} {q : Query} {fuel : ℕ} (s : Snapshot) → verdict words ≡ accept s → (r : Report) → Kind words q fuel r → NamesKnown s r
unfolding refused reported
kind_known s a r (refusal n h e) = let z = ap (λ (y : Report). y.count) e in λ i l. absurd (omega arith)
kind_known {words = words} {q = q} {fuel = fuel} s a r (answer u b h e) =
    let same : u ≡ s = cc (a, b) in
    subst (λ z. NamesKnown z r) same (rw e (searched_known words u b q fuel).names)

-- Every name of a report is the number of a name of the snapshot that the words were accepted as.
pub report_known : (words : List ℕ) (area : ℕ) (q : Question) (s : Snapshot) → verdict words ≡ accept s → NamesKnown s (report_of words area q)
report_known words area q s e = kind_known s e (report_of words area q) (kind_of_lem words area q)

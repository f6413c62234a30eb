-- Names of a path: at most the length left, sixteen places, zero past the names; and how long its text is.
use mathlib.Core.Path.{◌≡◌, refl, ◌∙◌}
use Prim.Native.Nat.{ℕ, zero, suc, ◌+◌, ◌*◌, ◌≤◌, ◌<◌}
use native.Mathlib.Omega.{arith}
use mathlib.Core.List.{List, [], ◌∷◌, ◌++◌}
use mathlib.Core.Bool.{Bool, true, false, ◌||◌, not}
use Rattle.std.specs.Prelude.{Option, None, Some}
use lib.ListN.{length, get_or, replicate, set, length-set}
use lib.Seq.{get_or-set_other}
use Rattle.snapshot.specs.Limits.{path_limit}
use Rattle.snapshot.specs.Records.{Snapshot, Scope, Dependency, Definition, Import, Extern}
use Rattle.hir_def.specs.Items.{types, crate_root, item_of, module_item}
use lib.Dec.{eqb}
use Rattle.hir_def.specs.Nameres.{lang_of, sysroot_first, extern_of}
use Rattle.hir_def.specs.ImportMap.{import_info_for, is_unstable, is_hidden}
use Rattle.hir_def.specs.declared.Item.{Item}
use Rattle.hir_def.specs.declared.Item.TheVariants.{Mod, Def}
use Rattle.find_path_choice.specs.Choices.{Choice}
use Rattle.find_path_spec.specs.declared.FindPathCtx.{FindPathCtx}
use Rattle.find_path_spec.specs.declared.Query.{Query}
use Rattle.find_path_choice.specs.Choices.{name_len, path_kind_len, plain_path, crate_path, nothing, keyword, choice_new, extended, push, unstably}
use Rattle.find_path_choice.specs.Choices.{better}
use Rattle.find_path_choice.specs.Choices.{try_select}
use Rattle.find_path_spec.specs.Walk.{Level}
use Rattle.find_path_spec.specs.Rules.{by_crate, may_be_in_scope, prefix_path_kind, context_of, first_found, single, scope_rule, prelude_rule}
use Rattle.find_path_spec.specs.Rules.{extern_name, root_rule, keyword_of, module_rules, is_kw_kind_relative_to_from, find_in_scope}
use Rattle.find_path_spec.specs.Local.{LocalSearch, offer, offer_entry, importable_name, location, each_location, calculate_best_path_local, or_local}
use Rattle.find_path_spec.specs.Local.{find_path_for_module_local}
use Rattle.find_path_spec.specs.Meters.{Charged, go, stop, Charge}
use Rattle.find_path_spec.specs.Charged.{Out, Search, Inner, langs, one_or_none, variant_of, push_variant, offer_import, find_import, find_imports}
use Rattle.find_path_spec.specs.Charged.{find_in_dep}
use Rattle.find_path_spec.specs.Charged.{find_in_deps, find_in_sysroot, go_on, after_charge, calculate_best_path, or_charged, find_path_for_module}
use Rattle.find_path_spec.specs.Charged.{after_enum, via_enum}
use Rattle.find_path_spec.specs.Charged.{or_enum, by_name, of_module, find_path_inner}
use Rattle.find_path_spec.specs.Search.{builtin_choice, local_to, search_local, best_local, module_to, search_module, item_to, search_item, from_home}
use Rattle.find_path_spec.specs.Search.{from_item}
use Rattle.find_path_spec.specs.Search.{find_path}
use Rattle.find_path_spec.proofs.laws.Unfold.{length_falls}

-- no name is longer than 255 bytes
abbrev pub Short : Snapshot → Type 0
Short s = (n : ℕ) → name_len s n ≤ 255

pub record Fits (s : Snapshot) (left : ℕ) (c : Choice) : Type 0 where
  pub few : c.count ≤ left
  pub long : length c.names ≡ 16
  pub rest : (i : ℕ) → c.count ≤ i → get_or c.names i 0 ≡ 0
  -- the text of a path is short where the names are
  pub text : Short s → c.path_text_len ≤ 5 + 255 * c.count
  -- a step for each name, and one more after a keyword; zeros past them
  pub each : c.count ≤ c.steps
  pub once : c.steps ≤ c.count + 1
  pub wide : length c.route ≡ 17
  pub past : (i : ℕ) → c.steps ≤ i → get_or c.route i 0 ≡ 0

pub zeros : (n i : ℕ) → ◌≡◌ {A = ℕ} (get_or (replicate n 0) i 0) 0
zeros zero i = refl
zeros (suc n) zero = refl
zeros (suc n) (suc i) = zeros n i

kind_short : (k : ℕ) → path_kind_len k ≤ 5
unfolding path_kind_len
kind_short zero = omega arith
kind_short (suc zero) = omega arith
kind_short (suc (suc zero)) = omega arith
kind_short (suc (suc (suc zero))) = omega arith
kind_short (suc (suc (suc (suc zero)))) = omega arith
kind_short (suc (suc (suc (suc (suc k))))) = omega arith

pub more : {s : Snapshot} {c : Choice} (l left : ℕ) → l ≤ left → Fits s l c → Fits s left c
more l left h f =
    record {
      few = omega (arith, f.few);
      long = f.long;
      rest = f.rest;
      text = f.text;
      each = f.each;
      once = f.once;
      wide =
          f.wide;
      past = f.past;
    }

pub nothing_fits : {s : Snapshot} (left : ℕ) → Fits s left nothing
nothing_fits left =
    record {
      few = omega arith;
      long = refl;
      rest = λ i _. zeros 16 i;
      text = λ h. omega arith;
      each = omega arith;
      once = omega arith;
      wide = refl;
      past = λ i _. zeros 17 i;
    }

-- zeros past the first step
one_past : (t i : ℕ) → 1 ≤ i → get_or (set (replicate 17 0) 0 t) i 0 ≡ 0
one_past t i h = get_or-set_other (replicate 17 0) 0 i t 0 (λ e. omega arith) ∙ zeros 17 i

keyword_fits : {s : Snapshot} (left k : ℕ) → Fits s left (keyword k)
unfolding keyword
keyword_fits left k =
    record {
      few = omega arith;
      long = refl;
      rest = λ i _. zeros 16 i;
      text = λ h. omega (arith, kind_short k);
      each = omega arith;
      once = omega arith;
      wide = refl;
      past = one_past 4;
    }

extended_fits : (s : Snapshot) (l : ℕ) (c : Choice) (n t : ℕ) (b : Bool) → Fits s l c → Fits s (suc l) (extended s c n t b)
unfolding extended
extended_fits s l c n t b f = record {
  few = omega (arith, f.few);
  long = length-set c.names c.count n ∙ f.long;
  rest = λ i h. get_or-set_other c.names c.count i n 0 (λ e. omega arith) ∙ f.rest i (omega arith);
  text = λ h. let a = f.text h in let b = h n in omega arith;
  each = omega (arith, f.each);
  once = omega (arith, f.once);
  wide = length-set c.route c.steps t ∙ f.wide;
  past = λ i h. get_or-set_other c.route c.steps i t 0 (λ e. omega arith) ∙ f.past i (omega arith);
}

pub new_fits : (s : Snapshot) (l k n t : ℕ) → Fits s (suc l) (choice_new s k n t)
unfolding choice_new
new_fits s l k n t = record {
  few = omega arith;
  long = refl;
  rest = λ i h. get_or-set_other (replicate 16 0) 0 i n 0 (λ e. omega arith) ∙ zeros 16 i;
  text = λ h. let a = kind_short k in let b = h n in omega arith;
  each = omega arith;
  once = omega arith;
  wide = refl;
  past = one_past t;
}

pub push_fits : (s : Snapshot) (l : ℕ) (c : Choice) (n t : ℕ) → Fits s l c → Fits s (suc l) (push s c n t)
unfolding push
push_fits s l c n t f = extended_fits s l c n t _ f

-- of two choices, the one that a test takes
pub either_fits : {s : Snapshot} (left : ℕ) (b : Bool) (c d : Choice) → Fits s left c → Fits s left d → Fits s left (elim b [ true ↦ c | false ↦ d ])
either_fits left true c d f g = f
either_fits left false c d f g = g

pub first_none : {s : Snapshot} (left : ℕ) → Fits s left (first_found [])
unfolding first_found
first_none left = nothing_fits left

pub first_fits : {s : Snapshot} (left : ℕ) (c : Choice) (cs : List Choice) → Fits s left c → Fits s left (first_found cs)
    → Fits s left (first_found (c ∷ cs))
unfolding first_found
first_fits left c cs f g = either_fits left c.found c (first_found cs) f g

module _ (s : Snapshot) (x : FindPathCtx) where
  select_fits : (l : ℕ) (best c : Choice) (n t : ℕ) → Fits s (suc l) best → Fits s l c → Fits s (suc l) (try_select s x.prefer_prelude best c n t)
  unfolding try_select
  select_fits l best c n t f g =
      either_fits (suc l) best.found _ _
      (either_fits (suc l) (better s x.prefer_prelude best c n) _ _ (extended_fits s l c n t _ g) f) (push_fits s l c n t g)

  pub offer_fits : (l left : ℕ) (best c : Choice) (n t : ℕ) → l < left → Fits s left best → Fits s l c → Fits s left (offer s x best c n t)
  unfolding offer
  offer_fits l zero best c n t h f g = absurd (omega arith)
  offer_fits l (suc k) best c n t h f g =
      either_fits (suc k) c.found _ _ (select_fits k best c n t f (more l k (omega arith) g)) f

  unstably_fits : (l : ℕ) (c : Choice) → Fits s l c → Fits s l (unstably c)
  unfolding unstably
  unstably_fits l c f =
      record { few = f.few; long = f.long; rest = f.rest; text = f.text; each = f.each; once = f.once; wide = f.wide; past = f.past }

  pub offer_import_fits : (l left : ℕ) (best c : Choice) (i : Import) → l < left → Fits s left best → Fits s l c
      → Fits s left (offer_import s x best c i)
  unfolding offer_import
  offer_import_fits l left best c i h f g =
      either_fits left (is_unstable i) _ _
      (either_fits left x.allow_unstable _ _ (offer_fits l left best (unstably c) i.name _ h f (unstably_fits l c g)) f)
      (offer_fits l left best c i.name _ h f g)

  -- the rules without a search give a name at most
  single_fits : (l kind rule : ℕ) (o : Option Scope) → Fits s (suc l) (single s x kind rule o)
  unfolding single
  single_fits l kind rule None = nothing_fits (suc l)
  single_fits l kind rule (Some e) = new_fits s l kind e.name _

  pub scope_fits : (l : ℕ) (item : Item) → Fits s (suc l) (scope_rule s x item)
  unfolding scope_rule
  scope_fits l item =
      either_fits (suc l) (may_be_in_scope s x) _ _ (single_fits l (prefix_path_kind x.prefix) _ (find_in_scope s x item)) (nothing_fits (suc l))

  pub prelude_fits : (l : ℕ) (item : Item) → Fits s (suc l) (prelude_rule s x item)
  unfolding prelude_rule
  prelude_fits l item = single_fits l plain_path _ _

  extern_fits : (l m : ℕ) (e : Option Extern) → Fits s (suc l) (extern_name s x m e)
  unfolding extern_name
  extern_fits l m None = nothing_fits (suc l)
  extern_fits l m (Some e) = new_fits s l _ _ _

  root_fits : (l : ℕ) (b : Bool) (m : ℕ) → Fits s (suc l) (root_rule s x b m)
  unfolding root_rule
  root_fits l b m =
      either_fits (suc l) (eqb (crate_root s m) m) _ _
      (either_fits (suc l) (not b || eqb m x.crate_root.0) _ _ (keyword_fits (suc l) crate_path)
      (extern_fits l m (extern_of s x.from_crate.0 m)))
      (nothing_fits (suc l))

  keyword_of_fits : (l : ℕ) (k : Option ℕ) → Fits s (suc l) (keyword_of s x k)
  unfolding keyword_of
  keyword_of_fits l None = nothing_fits (suc l)
  keyword_of_fits l (Some k) = either_fits (suc l) (not (eqb x.prefix by_crate) || eqb k crate_path) _ _ (keyword_fits (suc l) k)
      (nothing_fits (suc l))

  pub rules_fit : (l : ℕ) (b : Bool) (m : ℕ) → Fits s (suc l) (module_rules s x b m)
  unfolding module_rules
  rules_fit l b m =
      first_fits (suc l) _ _ (root_fits l b m)
      (first_fits (suc l) _ _ (scope_fits l (module_item m))
      (first_fits (suc l) _ _ (keyword_of_fits l (is_kw_kind_relative_to_from s x m))
      (first_fits (suc l) _ _ (prelude_fits l (module_item m)) (first_none (suc l)))))

  abbrev FitsLocal : LocalSearch → Type 0
  FitsLocal rec = (left : ℕ) (ls : List Level) (m : ℕ) → Fits s left (rec left ls m)

  module _ (rec : LocalSearch) (fits : FitsLocal rec) where
    pub location_fits : (l : ℕ) (ls : List Level) (best : Choice) (m : ℕ) (a : Option Scope) → Fits s (suc l) best
        → Fits s (suc l) (location s x rec (suc l) ls best m a)
    unfolding location offer_entry
    location_fits l ls best m None f = f
    location_fits l ls best m (Some e) f =
        offer_fits _ (suc l) best _ e.name _ (length_falls (suc l) _ (omega arith)) f (fits _ ls m)

    pub each_fits : (l : ℕ) (ls : List Level) (item : Item) (done : List ℕ) (best : Choice) (ms : List ℕ) → Fits s (suc l) best
        → Fits s (suc l) (each_location s x rec (suc l) ls item done best ms)
    unfolding each_location
    each_fits l ls item done best [] f = f
    each_fits l ls item done best (m ∷ ms) f =
        each_fits l ls item (done ++ (m ∷ [])) _ ms (location_fits l _ best m (importable_name s x item m) f)

    pub local_fits : (l : ℕ) (ls : List Level) (item : Item) → Fits s (suc l) (calculate_best_path_local s x rec (suc l) ls item)
    unfolding calculate_best_path_local
    local_fits l ls item = each_fits l ls item [] nothing _ (nothing_fits (suc l))

    or_local_fits : (l : ℕ) (ls : List Level) (m : ℕ) (c : Choice) (b : Bool) → Fits s (suc l) c → Fits s (suc l) (or_local s x rec (suc l) ls m c b)
    unfolding or_local
    or_local_fits l ls m c true f = f
    or_local_fits l ls m c false f = local_fits l ls (module_item m)

  local_to_fits : (d : ℕ) → FitsLocal (local_to s x d)
  unfolding local_to find_path_for_module_local
  local_to_fits zero left ls m = nothing_fits left
  local_to_fits (suc d) zero ls m = nothing_fits 0
  local_to_fits (suc d) (suc l) ls m = or_local_fits (local_to s x d) (local_to_fits d) l ls m _ _ (rules_fit l false m)

  -- what a local module search finds
  pub search_local_fits : FitsLocal (search_local s x)
  unfolding search_local
  search_local_fits left ls m = local_to_fits left left ls m

  pub best_local_fits : (l : ℕ) (item : Item) → Fits s (suc l) (best_local s x (suc l) item)
  unfolding best_local
  best_local_fits l item = local_fits (search_local s x) search_local_fits l [] item

module _ (M : Type 0) (charge : Charge M) (s : Snapshot) where
  abbrev FitsSearch : Search M → Type 0
  FitsSearch rec = (left m : ℕ) (t : M) → Fits s left (rec left m t).choice

  abbrev FitsInner : ℕ → Inner M → Type 0
  FitsInner n inner = (item : Item) (t : M) → Fits s n (inner item t).choice

  module _ (x : FindPathCtx) (here : ℕ → Item → Choice) (local : (l : ℕ) (item : Item) → Fits s (suc l) (here (suc l) item))
      (rec : Search M) (fits : FitsSearch rec) where
    pub import_fits : (l : ℕ) (o : Out M) (i : Import) (b : Bool) → Fits s (suc l) o.choice
        → Fits s (suc l) (find_import M charge s x here rec (suc l) o i b).choice
    unfolding find_import
    import_fits l o i true f = f
    import_fits l o i false f =
        offer_import_fits s x _ (suc l) o.choice _ i (length_falls (suc l) _ (omega arith)) f (fits _ i.container o.meter)

    pub imports_fit : (l : ℕ) (o : Out M) (is : List Import) → Fits s (suc l) o.choice
        → Fits s (suc l) (find_imports M charge s x here rec (suc l) o is).choice
    unfolding find_imports
    imports_fit l o [] f = f
    imports_fit l o (i ∷ is) f = imports_fit l (find_import M charge s x here rec (suc l) o i (is_hidden i)) is (import_fits l o i _ f)

    pub deps_fit : (l : ℕ) (item : Item) (o : Out M) (ds : List Dependency) → Fits s (suc l) o.choice
        → Fits s (suc l) (find_in_deps M charge s x here rec (suc l) item o ds).choice
    unfolding find_in_deps find_in_dep
    deps_fit l item o [] f = f
    deps_fit l item o (d ∷ ds) f =
        deps_fit l item (find_in_dep M charge s x here rec (suc l) item o d) ds (imports_fit l o (import_info_for s d.crate item) f)

    pub sysroot_fits : (l : ℕ) (item : Item) (o : Out M) (ls : List ℕ) (b : Bool) → Fits s (suc l) o.choice
        → Fits s (suc l) (find_in_sysroot M charge s x here rec (suc l) item o ls b).choice
    unfolding find_in_sysroot
    sysroot_fits l item o [] true f = f
    sysroot_fits l item o [] false f = deps_fit l item o (sysroot_first s x.from_crate.0) f
    sysroot_fits l item o (n ∷ ls) true f = f
    sysroot_fits l item o (n ∷ ls) false f =
        sysroot_fits l item (find_in_deps M charge s x here rec (suc l) item o (one_or_none (lang_of s x.from_crate.0 n))) ls _
        (deps_fit l item o (one_or_none (lang_of s x.from_crate.0 n)) f)

    go_fits : (l : ℕ) (item : Item) (t : M) (a b : Bool) → Fits s (suc l) (go_on M charge s x here rec (suc l) item t a b).choice
    unfolding go_on
    go_fits l item t true b = local l item
    go_fits l item t false true = sysroot_fits l item _ (langs x.prefer_no_std) false (nothing_fits (suc l))
    go_fits l item t false false = deps_fit l item _ _ (nothing_fits (suc l))

    after_fits : (l : ℕ) (item : Item) (c : Charged M) → Fits s (suc l) (after_charge M charge s x here rec (suc l) item c).choice
    unfolding after_charge
    after_fits l item (go t) = go_fits l item t _ _
    after_fits l item (stop t) = nothing_fits (suc l)

    best_fits : (l : ℕ) (item : Item) (t : M) → Fits s (suc l) (calculate_best_path M charge s x here rec (suc l) item t).choice
    unfolding calculate_best_path
    best_fits l item t = after_fits l item (charge _ _ t)

    pub best_within : (left : ℕ) → 0 < left → (item : Item) (t : M) → Fits s left (calculate_best_path M charge s x here rec left item t).choice
    best_within zero h item t = absurd (omega arith)
    best_within (suc l) h item t = best_fits l item t

    or_fits : (l m : ℕ) (t : M) (c : Choice) (b : Bool) → Fits s (suc l) c → Fits s (suc l) (or_charged M charge s x here rec (suc l) m t c b).choice
    unfolding or_charged
    or_fits l m t c true f = f
    or_fits l m t c false f = best_fits l (module_item m) t

    module_fits : FitsSearch (find_path_for_module M charge s x here rec)
    unfolding find_path_for_module
    module_fits zero m t = nothing_fits 0
    module_fits (suc l) m t = or_fits l m t _ _ (rules_fit s x l true m)

    -- a variant has one name more than its enum
    module _ (n : ℕ) (inner : Inner M) (within : FitsInner n inner) (pos : 0 < x.max_len) (wide : x.max_len ≤ suc n) where
      item_best : (item : Item) (t : M) → Fits s (suc n) (calculate_best_path M charge s x here rec x.max_len item t).choice
      item_best item t = more x.max_len (suc n) wide (best_within x.max_len pos item t)

      enum_fits : (item : Item) (v : Definition) (o : Out M) (b : Bool) → Fits s n o.choice
          → Fits s (suc n) (after_enum M charge s x here rec item v o b).choice
      unfolding after_enum push_variant
      enum_fits item v o true f = push_fits s n o.choice v.second _ f
      enum_fits item v o false f = item_best item o.meter

      via_fits : (item : Item) (t : M) (v : Option Definition) → Fits s (suc n) (via_enum M charge s x here rec inner item t v).choice
      unfolding via_enum
      via_fits item t None = item_best item t
      via_fits item t (Some v) = enum_fits item v _ _ (within (item_of s types v.first) t)

      named_fits : (item : Item) (t : M) (c : Choice) (b : Bool) → Fits s (suc n) c
          → Fits s (suc n) (or_enum M charge s x here rec inner item t c b).choice
      unfolding or_enum
      named_fits item t c true f = f
      named_fits item t c false f = via_fits item t (variant_of s item)

      by_name_fits : (item : Item) (t : M) → Fits s (suc n) (by_name M charge s x here rec inner item t).choice
      unfolding by_name
      by_name_fits item t =
          named_fits item t _ _
          (first_fits (suc n) _ _ (scope_fits s x n item) (first_fits (suc n) _ _ (prelude_fits s x n item) (first_none (suc n))))

      of_fits : (m : ℕ) (t : M) (b : Bool) → Fits s (suc n) (of_module M charge s x here rec inner m t b).choice
      unfolding of_module
      of_fits m t true = by_name_fits (module_item m) t
      of_fits m t false = more x.max_len (suc n) wide (fits x.max_len m t)

      item_fits : FitsInner (suc n) (find_path_inner M charge s x here rec inner)
      unfolding find_path_inner
      item_fits (Mod m) t = of_fits m.0 t x.is_std_item
      item_fits (Def ns d) t = by_name_fits (Def ns d) t

  module_to_fits : (x : FindPathCtx) (d : ℕ) → FitsSearch (module_to M charge s x d)
  unfolding module_to
  module_to_fits x zero left m t = nothing_fits left
  module_to_fits x (suc d) left m t =
      module_fits x (best_local s x) (best_local_fits s x) (module_to M charge s x d) (module_to_fits x d) left m t

  pub module_search_fits : (x : FindPathCtx) → FitsSearch (search_module M charge s x)
  unfolding search_module
  module_search_fits x left m t = module_to_fits x left left m t

  pub item_to_fits : (x : FindPathCtx) (l : ℕ) → 0 < x.max_len → x.max_len ≤ suc l → (d : ℕ) → FitsInner (l + d) (item_to M charge s x d)
  unfolding item_to
  item_to_fits x l p h zero item t = nothing_fits (l + 0)
  item_to_fits x l p h (suc d) item t =
      more (suc (l + d)) (l + suc d) (omega arith)
      (item_fits x (best_local s x) (best_local_fits s x) (search_module M charge s x) (module_search_fits x) (l + d)
      (item_to M charge s x d) (item_to_fits x l p h d) p (omega arith) item t)

  module _ (q : Query) (p : 0 < q.limit) (l : q.limit ≤ path_limit) where
    home_fits : (item : Item) (t : M) (h : ℕ) → Fits s 16 (from_home M charge s q item t h).choice
    unfolding from_home search_item context_of
    home_fits item t zero = nothing_fits 16
    home_fits item t (suc home) = item_to_fits (context_of s q home) 14 p l 2 item t

    start_fits : (t : M) (b : Bool) → Fits s 16 (from_item M charge s q t b).choice
    unfolding from_item builtin_choice
    start_fits t true = new_fits s path_limit plain_path _ _
    start_fits t false = home_fits _ t _

    -- Every path has at most sixteen names, and zeros past them.
    pub search_fits : (t : M) → Fits s 16 (find_path M charge s q t).choice
    unfolding find_path
    search_fits t = start_fits t _

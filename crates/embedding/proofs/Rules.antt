-- The rules that answer without a search give alike choices.
use Prim.Native.Nat.{ℕ, zero, suc, ◌≤◌, ◌<◌}
use mathlib.Core.Path.{◌≡◌, refl, sym, ◌∙◌, ap, ap₂, subst}
use mathlib.Core.List.{List}
use mathlib.Core.Bool.{Bool, true, false, ◌&&◌, ◌||◌, not}
use Rattle.std.specs.Prelude.{Option, None, Some}
use native.Mathlib.Omega.{arith}
use lib.Dec.{eqb}
use lib.ListN.{length}
use Rattle.snapshot.specs.Records.{Snapshot, Scope, Prelude, Extern}
use Rattle.check_rules.specs.Tests.{counts_of, no_module}
use Rattle.accept.specs.Valid.{Valid, PreludeFits, ExternFits}
use Rattle.accept.proofs.Bools.{each_at}
use Rattle.module_tree.proofs.Roots.{root_known}
use Rattle.hir_def.specs.Items.{map_no, crate_of, parent_of, module_of, block_of, in_block, root_of, own_map, crate_root, ns_of, module_item}
use Rattle.module_tree.specs.rules.Visibility.{sees}
use Rattle.hir_def.specs.Nameres.{entry_named, occupied, prelude_of}
use Rattle.hir_def.specs.declared.Item.{Item}
use Rattle.hir_def.proofs.Chains.{map_known}
use Rattle.find_path_choice.specs.Choices.{Choice}
use Rattle.find_path_choice.specs.Choices.{plain_path, self_path, super_path, crate_path, via_scope, via_prelude, via_extern, step_by, choice_new}
use Rattle.find_path_spec.specs.declared.FindPathCtx.{FindPathCtx}
use Rattle.find_path_spec.specs.Rules.{by_crate, prefix_path_kind, first_found, single, find_in_scope, may_be_in_scope, scope_rule, same_here}
use Rattle.find_path_spec.specs.Rules.{is_usable}
use Rattle.find_path_spec.specs.Rules.{prelude_entry}
use Rattle.find_path_spec.specs.Rules.{in_prelude, find_in_prelude, prelude_rule, extern_kind, extern_name, root_rule, parent_kind}
use Rattle.find_path_spec.specs.Rules.{is_kw_kind_relative_to_from}
use Rattle.find_path_spec.specs.Rules.{keyword_of, module_rules}
use Rattle.join_rules.specs.Joined.{Numbers, or_none, prelude_to}
use Rattle.embedding.specs.Embeds.{ExternAlike, Embeds, item_to, context_to}
use Rattle.embedding.proofs.Chains.{eqb_moved, none_same, crates_compared, map_moved, parent_moved, block_moved, crate_known, sees_moved}
use Rattle.embedding.proofs.Lookups.{Both, neither, each, Along, end, next, Hit, Has, ns_moved}
use Rattle.embedding.proofs.Scopes.{item_same, prelude_moved}
use Rattle.embedding.proofs.Nameres.{Like, Same, name_like, preferred_moved, scope_entry_moved, entry_named_moved, occupied_moved, own_known}
use Rattle.embedding.proofs.Nameres.{crate_root_moved}
use Rattle.embedding.proofs.Crates.{extern_moved}
use Rattle.embedding.proofs.Choices.{Alike, by_same, nothing_alike, keyword_alike, choice_new_alike}

-- what is set for a question speaks of the snapshot
pub record Sits (s : Snapshot) (x : FindPathCtx) : Type 0 where
  pub from : x.from.0 < length s.modules
  pub crate : x.from_crate.0 < length s.crates
  pub root : x.crate_root.0 < length s.modules
  pub own : x.own ≤ length s.modules

-- an answer that is kept by the same test
kept : {A : Type 0} {R : A → A → Type 0} (a : Bool) (x z : A) → R x z
    → Both R (elim a [ true ↦ Some x | false ↦ None ]) (elim a [ true ↦ Some z | false ↦ None ])
kept true x z r = each r
kept false x z r = neither

pub kept_same : {A : Type 0} {R : A → A → Type 0} (a b : Bool) → b ≡ a → (x z : A) → R x z
    → Both R (elim a [ true ↦ Some x | false ↦ None ]) (elim b [ true ↦ Some z | false ↦ None ])
kept_same {R = R} a b t x z r =
    subst (λ y. Both R (elim a [ true ↦ Some x | false ↦ None ]) (elim y [ true ↦ Some z | false ↦ None ])) (sym t) (kept a x z r)

module _ (e : Numbers) (s u : Snapshot) (em : Embeds e s u) (v : Valid s) (w : Valid u) where
  abbrev n : ℕ
  n = length s.modules

  pub first_found_alike : {cs ds : List Choice} → Along (Alike e s) cs ds → Alike e s (first_found cs) (first_found ds)
  unfolding first_found
  first_found_alike end = nothing_alike e s u em
  first_found_alike (next a r) = by_same a.found a (first_found_alike r)

  pub root_low : (m : ℕ) → m < n → crate_root s m < n
  unfolding crate_root
  root_low m l = (root_known s v (own_map s (crate_of s m)) (own_known e s u em v w (crate_of s m) (crate_known e s u em v w m l))).0

  pub in_block_moved : (m : ℕ) → m < n → in_block u (e.modules m) ≡ in_block s m
  in_block_moved m l = ap (λ b. not (eqb b 0)) (block_moved e s u em v w m l) ∙ ap not (none_same e.modules (block_of s m))

  module _ (x : FindPathCtx) (at : Sits s x) where
    abbrev y : FindPathCtx
    y = context_to e x

    abbrev from : ℕ
    from = x.from.0

    modules_compared : (m k : ℕ) → m < n → k < n → eqb (e.modules m) (e.modules k) ≡ eqb m k
    modules_compared m k l h = eqb_moved e.modules n em.modules_apart m k l h

    single_alike : (kind rule : ℕ) {a b : Option Scope} → Both (Like e s u em v w) a b → Alike e s (single s x kind rule a) (single u y kind rule b)
    unfolding single
    single_alike kind rule neither = nothing_alike e s u em
    single_alike kind rule (each {x = c} {z = d} r) =
        subst (λ k. Alike e s (choice_new s kind c.name (step_by rule c.place)) (choice_new u kind k (step_by rule d.place)))
        (sym (ap (λ (z : Scope). z.name) r.1))
        (choice_new_alike e s u em kind c.name (step_by rule c.place) (step_by rule d.place) r.0.name)

    -- the scope

    may_moved : may_be_in_scope u y ≡ may_be_in_scope s x
    unfolding may_be_in_scope
    may_moved = ap (λ i. not (eqb x.prefix by_crate) || i) (modules_compared x.crate_root.0 from at.root at.from)

    pub scope_rule_alike : (item : Item) → Has s item → Alike e s (scope_rule s x item) (scope_rule u y (item_to e item))
    unfolding scope_rule find_in_scope
    scope_rule_alike item h =
        by_same may_moved
        (single_alike (prefix_path_kind x.prefix) via_scope (scope_entry_moved e s u em v w from at.from item h x.ignore_local_imports
        x.fresh))
        (nothing_alike e s u em)

    -- the prelude

    same_here_moved : (item : Item) → Has s item → {a b : Option Scope} → Both (Like e s u em v w) a b
        → same_here u y (item_to e item) b ≡ same_here s x item a
    unfolding same_here
    same_here_moved item h neither = refl
    same_here_moved item h (each {x = c} {z = d} r) = item_same e s u em v from at.from item h c d r.0 r.1

    usable_moved : (item : Item) → Has s item → Same e s u em v w (is_usable s x item) (is_usable u y (item_to e item))
    usable_moved item h c d f a =
        ap₂ (λ i j. i && j)
        (ap (sees u (e.modules from)) a ∙ sees_moved e s u em v w c from at.from f)
        (ap (λ k. same_here u y (item_to e item) (entry_named u (e.modules from) k d.name)) (ns_moved e s u em v item)
        ∙ ap (λ (z : Scope). same_here u y (item_to e item) (entry_named u (e.modules from) (ns_of item) z.name)) a
        ∙ same_here_moved item h (entry_named_moved e s u em v w from at.from (ns_of item) c.name f.name))

    prelude_entry_moved : (item : Item) → Has s item → {a b : Option Scope} → Both (Like e s u em v w) a b
        → Both (Like e s u em v w) (prelude_entry s x item a) (prelude_entry u y (item_to e item) b)
    unfolding prelude_entry
    prelude_entry_moved item h neither = neither
    prelude_entry_moved item h (each {x = c} {z = d} r) =
        kept_same (is_usable s x item c) (is_usable u y (item_to e item) d) (usable_moved item h c d r.0 r.1) c d r

    in_prelude_moved : (item : Item) → Has s item → {t : Prelude → Bool} {a b : Option Prelude}
        → Both (Hit (PreludeFits (counts_of s)) (λ p q. q ≡ prelude_to e p) t) a b
        → Both (Like e s u em v w) (in_prelude s x item a) (in_prelude u y (item_to e item) b)
    unfolding in_prelude
    in_prelude_moved item h neither = neither
    in_prelude_moved item h (each {x = p} {z = q} r) =
        let l = r.0.target in
        subst (λ k. Both (Like e s u em v w) (in_prelude s x item (Some p)) (in_prelude u y (item_to e item) (Some k))) (sym r.1)
        (prelude_entry_moved item h
        (preferred_moved e s u em v w item h p.target l x.fresh (is_usable s x item) (is_usable u y (item_to e item)) (usable_moved item h)
        (name_like e s u em v w item h p.target l)))

    pub prelude_rule_alike : (item : Item) → Has s item → Alike e s (prelude_rule s x item) (prelude_rule u y (item_to e item))
    unfolding prelude_rule find_in_prelude
    prelude_rule_alike item h =
        subst (λ k. Alike e s (prelude_rule s x item) (single u y plain_path via_prelude (in_prelude u y (item_to e item) (prelude_of u k))))
        (sym (map_moved e s u em v w from at.from))
        (single_alike plain_path via_prelude (in_prelude_moved item h (prelude_moved e s u em v (map_no s from)
        (map_known s v.tree from at.from))))

    -- a module: root, extern, keyword

    module _ (m : ℕ) (l : m < n) where
      extern_kind_same : (b : Bool) → extern_kind u y b ≡ extern_kind s x b
      unfolding extern_kind
      extern_kind_same true = refl
      extern_kind_same false = refl

      extern_name_alike : {t : Extern → Bool} {a b : Option Extern} → Both (Hit (ExternFits (counts_of s)) (ExternAlike e) t) a b
          → Alike e s (extern_name s x m a) (extern_name u y (e.modules m) b)
      unfolding extern_name
      extern_name_alike neither = nothing_alike e s u em
      extern_name_alike (each {x = c} {z = d} r) =
          let q : d.name ≡ e.names c.name = ap (λ (z : Extern). z.name) r.1 in
          let o = ap (occupied u (e.modules from) (e.modules m)) q ∙ occupied_moved e s u em v w from at.from m c.name l r.0.name in
          let k = ap (λ i. extern_kind u y (i || x.prefer_absolute)) o ∙ extern_kind_same (occupied s from m c.name || x.prefer_absolute) in
          subst (λ i. Alike e s (extern_name s x m (Some c)) (choice_new u i d.name (step_by via_extern d.place))) (sym k)
          (subst (λ i. Alike e s (extern_name s x m (Some c))
          (choice_new u (extern_kind s x (occupied s from m c.name || x.prefer_absolute)) i (step_by via_extern d.place))) (sym q)
          (choice_new_alike e s u em (extern_kind s x (occupied s from m c.name || x.prefer_absolute)) c.name (step_by via_extern c.place)
          (step_by via_extern d.place) r.0.name))

      pub root_rule_alike : (maybe : Bool) → Alike e s (root_rule s x maybe m) (root_rule u y maybe (e.modules m))
      unfolding root_rule
      root_rule_alike maybe =
          by_same (ap (λ i. eqb i (e.modules m)) (crate_root_moved e s u em v w m l) ∙ modules_compared (crate_root s m) m (root_low m l) l)
          (by_same (ap (λ i. not maybe || i) (modules_compared m x.crate_root.0 l at.root)) (keyword_alike e s u em crate_path)
          (extern_name_alike (extern_moved e s u em v x.from_crate.0 at.crate m l)))
          (nothing_alike e s u em)

      parent_low : parent_of s from ≤ n
      unfolding module_of
      parent_low = (each_at no_module from v.ranges.modules at.from).parent

      parent_kind_moved : (p : ℕ) → p ≤ n → parent_kind u y (e.modules m) (or_none e.modules p) ≡ parent_kind s x m p
      unfolding parent_kind
      parent_kind_moved zero h = refl
      parent_kind_moved (suc p) h =
          let k = map_known s v.tree from at.from in
          let lp : p < n = omega arith in
          let a = modules_compared m p l lp in
          let b = ap (λ i. eqb (e.modules p) (root_of u i)) (map_moved e s u em v w from at.from) ∙ ap (eqb (e.modules p))
          (em.root (map_no s from) k)
          ∙ modules_compared p (root_of s (map_no s from)) lp (root_known s v (map_no s from) k).0 in
          λ i. elim (a i) [ true ↦ elim (b i) [ true ↦ Some crate_path | false ↦ Some super_path ] | false ↦ None ]

      pub kw_kind_moved : is_kw_kind_relative_to_from u y (e.modules m) ≡ is_kw_kind_relative_to_from s x m
      unfolding is_kw_kind_relative_to_from
      kw_kind_moved =
          let a = crates_compared e s u em v w m from l at.from in
          let b = in_block_moved m l in
          let c = in_block_moved from at.from in
          let d = modules_compared m from l at.from in
          let p = ap (parent_kind u y (e.modules m)) (parent_moved e s u em v w from at.from) ∙ parent_kind_moved (parent_of s from) parent_low in
          λ i. elim (not (a i) || (b i || c i)) [ true ↦ None | false ↦ elim (d i) [ true ↦ Some self_path | false ↦ p i ] ]

      keyword_of_alike : (k : Option ℕ) → Alike e s (keyword_of s x k) (keyword_of u y k)
      unfolding keyword_of
      keyword_of_alike None = nothing_alike e s u em
      keyword_of_alike (Some k) =
          by_same {a = not (eqb x.prefix by_crate) || eqb k crate_path} refl (keyword_alike e s u em k) (nothing_alike e s u em)

      -- `find_path_for_module` before its search
      pub module_rules_alike : (maybe : Bool) → Alike e s (module_rules s x maybe m) (module_rules u y maybe (e.modules m))
      unfolding module_rules item_to
      module_rules_alike maybe =
          first_found_alike
          (next (root_rule_alike maybe)
          (next (scope_rule_alike (module_item m) l)
          (next (subst (λ k. Alike e s (keyword_of s x (is_kw_kind_relative_to_from s x m)) (keyword_of u y k)) (sym kw_kind_moved)
          (keyword_of_alike (is_kw_kind_relative_to_from s x m)))
          (next (prelude_rule_alike (module_item m) l) end))))

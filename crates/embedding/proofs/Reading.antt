-- A path read back in an embedded snapshot means the same item.
use Prim.Native.Nat.{ℕ, zero, suc, ◌≤◌, ◌<◌}
use mathlib.Core.Path.{◌≡◌, refl, sym, ◌∙◌, ap, ap₂, subst}
use mathlib.Core.List.{List, ◌∷◌, map}
use mathlib.Core.Bool.{Bool, true, false, ◌&&◌}
use Rattle.std.specs.Prelude.{Option, None, Some}
use native.Mathlib.Omega.{arith}
use lib.Dec.{eqb, ltb}
use lib.ListN.{length}
use Rattle.snapshot.specs.Records.{Snapshot, Scope, Prelude, Extern, Member}
use Rattle.check_rules.specs.Tests.{counts_of, no_module}
use Rattle.accept.specs.Valid.{Valid, Each, more, PreludeFits, ExternFits, MemberFits}
use Rattle.accept.proofs.Bools.{each_at}
use Rattle.hir_def.specs.Finds.{first_some}
use Rattle.hir_def.specs.Items.{types, macros, module_of, map_no, crate_of, parent_of, block_of, crate_root, item_of, same_item, ns_of, module_item}
use Rattle.hir_def.specs.ItemScope.{get}
use Rattle.module_tree.specs.rules.Visibility.{sees}
use Rattle.hir_def.specs.Nameres.{prelude_of}
use Rattle.hir_def.specs.declared.Item.{Item}
use Rattle.hir_def.specs.declared.Item.TheVariants.{Mod, Def}
use Rattle.hir_def.proofs.Chains.{map_known}
use Rattle.read_back.specs.readings.Reads.{self_kind, super_kind, crate_kind, absolute_kind, variant_member, outward, scopes_from, stands_for}
use Rattle.read_back.specs.readings.Reads.{meaning}
use Rattle.read_back.specs.readings.Reads.{entry_or}
use Rattle.read_back.specs.readings.Reads.{is_extern_named, extern_named, extern_means, in_externs, prelude_means, in_prelude_of, entry_from}
use Rattle.read_back.specs.readings.Reads.{first_name}
use Rattle.read_back.specs.readings.Reads.{is_variant_named}
use Rattle.read_back.specs.readings.Reads.{variant_named, variant_in, later_name, after, looked_in, follow, plainly, absolutely, parent_means}
use Rattle.read_back.specs.readings.Reads.{reads_to, is_the}
use Rattle.read_back.specs.readings.Reads.{reads_back}
use Rattle.read_back.proofs.Outward.{outward_falls}
use Rattle.join_rules.specs.Joined.{Numbers, or_none, prelude_to, member_to}
use Rattle.embedding.specs.Embeds.{ExternAlike, Embeds, item_to}
use Rattle.embedding.proofs.Chains.{eqb_moved, none_same, steps_moved, last_moved, last_low, map_moved, parent_moved, block_moved, crate_moved}
use Rattle.embedding.proofs.Chains.{crate_known, sees_moved}
use Rattle.embedding.proofs.Lookups.{Both, neither, each, Along, end, next, Hit, Has, first_within, outside_not, item_moved, item_has}
use Rattle.embedding.proofs.Lookups.{same_moved, ns_moved}
use Rattle.embedding.proofs.Scopes.{get_moved, prelude_moved}
use Rattle.embedding.proofs.Walks.{steps_known}
use Rattle.embedding.proofs.Nameres.{both_as, or_both, first_some_moved, Like, crate_root_moved}
use Rattle.embedding.proofs.Choices.{Named}
use Rattle.embedding.proofs.Rules.{kept_same, root_low}

module _ (e : Numbers) (s u : Snapshot) (em : Embeds e s u) (v : Valid s) (w : Valid u) where
  abbrev n : ℕ
  n = length s.modules

  -- an item that is read, and its like
  abbrev pub Means : Item → Item → Type 0
  Means a b = Has s a × (b ≡ item_to e a)

  module_means : (m : ℕ) → m < n → Means (module_item m) (module_item (e.modules m))
  unfolding item_to
  module_means m l = (l, refl)

  -- the way out of blocks

  outward_of : (b : Bool) (k : ℕ) → elim b [ true ↦ or_none e.modules k | false ↦ 0 ] ≡ or_none e.modules (elim b [ true ↦ k | false ↦ 0 ])
  outward_of true k = refl
  outward_of false k = refl

  outward_moved : (m : ℕ) → m < n → outward u (e.modules m) ≡ or_none e.modules (outward s m)
  unfolding outward
  outward_moved m l =
      let a = ap (λ i. eqb i 0) (parent_moved e s u em v w m l) ∙ none_same e.modules (parent_of s m) in
      let b = block_moved e s u em v w m l in
      (λ i. elim (a i) [ true ↦ b i | false ↦ 0 ]) ∙ outward_of (eqb (parent_of s m) 0) (block_of s m)

  scopes_from_moved : (m : ℕ) → m < n → scopes_from u (e.modules m) ≡ map e.modules (scopes_from s m)
  unfolding scopes_from
  scopes_from_moved m l = ap (λ r. e.modules m ∷ r)
      (steps_moved e.modules (outward s) (outward u) n (length u.modules) (outward_falls s v.tree) (outward_falls u w.tree)
      em.module_there outward_moved m l)

  scopes_from_known : (m : ℕ) → m < n → Each (λ a. a < n) (scopes_from s m)
  unfolding scopes_from
  scopes_from_known m l = more l (steps_known (outward s) n (outward_falls s v.tree) (suc m) m (omega arith) l)

  stands_moved : (m : ℕ) → m < n → (stands_for u (e.modules m) ≡ e.modules (stands_for s m)) × (stands_for s m < n)
  unfolding stands_for
  stands_moved m l =
      let k = last_low e.modules (outward s) (outward u) n (length u.modules) (outward_falls s v.tree) (outward_falls u w.tree)
      em.module_there outward_moved m l in (
        last_moved e.modules (outward s) (outward u) n (length u.modules) (outward_falls s v.tree) (outward_falls u w.tree)
            em.module_there outward_moved m l,
        omega arith,
      )

  module _ (from : ℕ) (lf : from < n) where
    -- entries

    meaning_moved : (c d : Scope) → Like e s u em v w c d → Both Means (meaning s from c) (meaning u (e.modules from) d)
    unfolding meaning
    meaning_moved c d r =
        let f = r.0 in
        kept_same {R = Means} (sees s from c) (sees u (e.modules from) d)
        (ap (sees u (e.modules from)) r.1 ∙ sees_moved e s u em v w c from lf f)
        (item_of s c.ns c.definition) (item_of u d.ns d.definition) (
          item_has e s u em v c.ns c.definition f.definition,
          ap (λ (z : Scope). item_of u z.ns z.definition) r.1
              ∙ item_moved e s u em v c.ns c.definition f.definition,
        )

    entry_or_moved : {o p : Option Item} → Both Means o p → {a b : Option Scope} → Both (Like e s u em v w) a b
        → Both Means (entry_or s from o a) (entry_or u (e.modules from) p b)
    unfolding entry_or
    entry_or_moved o neither = o
    entry_or_moved o (each {x = c} {z = d} r) = meaning_moved c d r

    get_like : (m : ℕ) → m < n → (ns k : ℕ) → k < length s.names → Both (Like e s u em v w) (get s m ns k) (get u (e.modules m) ns (e.names k))
    get_like m l ns k h = both_as (λ x z r. (r.0, r.1)) (get_moved e s u em v m l ns k h)

    module _ (ns k : ℕ) (h : k < length s.names) where
      -- externs

      extern_named_moved : (c : ℕ) → c < length s.crates
          → Both (Hit (ExternFits (counts_of s)) (ExternAlike e) (is_extern_named c k)) (extern_named s c k) (extern_named u (e.crates c) (e.names k))
      unfolding extern_named
      extern_named_moved c l =
          first_within (is_extern_named c k) (is_extern_named (e.crates c) (e.names k))
          (λ x z f a.
          ap (λ (y : Extern). eqb y.owner (e.crates c) && eqb y.name (e.names k)) a
          ∙ ap₂ (λ i j. i && j) (eqb_moved e.crates (length s.crates) em.crates_apart x.owner c f.owner l)
          (eqb_moved e.names (length s.names) em.names_apart x.name k f.name h))
          (λ z o. ap (λ i. i && eqb z.name (e.names k)) (outside_not e.crates (length s.crates) z.owner c o l)) v.ranges.externs
          em.externs

      extern_means_moved : {t : Extern → Bool} {a b : Option Extern} → Both (Hit (ExternFits (counts_of s)) (ExternAlike e) t) a b
          → Both Means (extern_means a) (extern_means b)
      unfolding extern_means
      extern_means_moved neither = neither
      extern_means_moved (each {x = c} {z = d} r) =
          each (r.0.target, ap (λ (z : Extern). module_item z.target) r.1 ∙ (module_means c.target r.0.target).1)

      externs_by : (b : Bool) {a c : Option Item} → Both Means a c
          → Both Means (elim b [ true ↦ a | false ↦ None ]) (elim b [ true ↦ c | false ↦ None ])
      externs_by true r = r
      externs_by false r = neither

      in_externs_moved : Both Means (in_externs s from ns k) (in_externs u (e.modules from) ns (e.names k))
      unfolding in_externs
      in_externs_moved =
          subst (λ c. Both Means (in_externs s from ns k) (elim (eqb ns types) [ true ↦ extern_means (extern_named u c (e.names k)) | false ↦ None ]))
          (sym (crate_moved e s u em v w from lf))
          (externs_by (eqb ns types) (extern_means_moved (extern_named_moved (crate_of s from) (crate_known e s u em v w from lf))))

      -- the prelude

      prelude_means_moved : {t : Prelude → Bool} {a b : Option Prelude} → Both (Hit (PreludeFits (counts_of s)) (λ p q. q ≡ prelude_to e p) t) a b
          → Both Means (prelude_means s from ns k a) (prelude_means u (e.modules from) ns (e.names k) b)
      unfolding prelude_means
      prelude_means_moved neither = neither
      prelude_means_moved (each {x = p} {z = q} r) =
          subst (λ j. Both Means (prelude_means s from ns k (Some p)) (prelude_means u (e.modules from) ns (e.names k) (Some j))) (sym r.1)
          (entry_or_moved neither (get_like p.target r.0.target ns k h))

      in_prelude_of_moved : Both Means (in_prelude_of s from ns k) (in_prelude_of u (e.modules from) ns (e.names k))
      unfolding in_prelude_of
      in_prelude_of_moved =
          subst (λ j. Both Means (in_prelude_of s from ns k) (prelude_means u (e.modules from) ns (e.names k) (prelude_of u j)))
          (sym (map_moved e s u em v w from lf))
          (prelude_means_moved (prelude_moved e s u em v (map_no s from) (map_known s v.tree from lf)))

      entry_from_moved : Both (Like e s u em v w) (entry_from s from ns k) (entry_from u (e.modules from) ns (e.names k))
      unfolding entry_from
      entry_from_moved =
          subst (λ ms. Both (Like e s u em v w) (entry_from s from ns k) (first_some (λ m. get u m ns (e.names k)) ms))
          (sym (scopes_from_moved from lf))
          (first_some_moved e.modules n (λ m. get s m ns k) (λ m. get u m ns (e.names k)) (λ m l. get_like m l ns k h) (scopes_from s from)
          (scopes_from_known from lf))

      first_name_moved : Both Means (first_name s from ns k) (first_name u (e.modules from) ns (e.names k))
      unfolding first_name
      first_name_moved = entry_or_moved (or_both in_externs_moved in_prelude_of_moved) entry_from_moved

      -- variants

      variant_named_moved : (d : ℕ) → d < length s.definitions
          → Both (Hit (MemberFits (counts_of s)) (λ x z. z ≡ member_to e x) (is_variant_named d k)) (variant_named s d k)
          (variant_named u (e.definitions d) (e.names k))
      unfolding variant_named
      variant_named_moved d l =
          first_within (is_variant_named d k) (is_variant_named (e.definitions d) (e.names k))
          (λ x z f a.
          ap (λ (y : Member). is_variant_named (e.definitions d) (e.names k) y) a
          ∙ ap₂ (λ i j. i && (eqb x.kind variant_member && j))
          (eqb_moved e.definitions (length s.definitions) em.definitions_apart x.parent d f.parent l)
          (eqb_moved e.names (length s.names) em.names_apart x.name k f.name h))
          (λ z o. ap (λ i. i && (eqb z.kind variant_member && eqb z.name (e.names k)))
          (outside_not e.definitions (length s.definitions) z.parent d o l))
          v.ranges.members em.members

      variant_in_moved : {t : Member → Bool} {a b : Option Member} → Both (Hit (MemberFits (counts_of s)) (λ x z. z ≡ member_to e x) t) a b
          → Both Means (variant_in s ns a) (variant_in u ns b)
      unfolding variant_in
      variant_in_moved neither = neither
      variant_in_moved (each {x = c} {z = d} r) =
          kept_same {R = Means} (ltb ns macros) (ltb ns macros) refl (item_of s ns c.definition) (item_of u ns d.definition) (
            item_has e s u em v ns c.definition r.0.definition,
            ap (λ (z : Member). item_of u ns z.definition) r.1
                ∙ item_moved e s u em v ns c.definition r.0.definition,
          )

      later_name_moved : (a : Item) → Has s a → Both Means (later_name s from ns k a) (later_name u (e.modules from) ns (e.names k) (item_to e a))
      unfolding later_name item_to
      later_name_moved (Mod m) l = entry_or_moved neither (get_like m.0 l ns k h)
      later_name_moved (Def j d) l = variant_in_moved (variant_named_moved d.0 l)

      after_moved : {a b : Option Item} → Both Means a b
          → Both Means (after a (later_name s from ns k)) (after b (later_name u (e.modules from) ns (e.names k)))
      unfolding after
      after_moved neither = neither
      after_moved (each {x = a} {z = b} r) =
          subst (λ j. Both Means (later_name s from ns k a) (later_name u (e.modules from) ns (e.names k) j)) (sym r.1) (later_name_moved a r.0)

    -- names one after the other

    looked_moved : (ns : ℕ) {ks js : List ℕ} → Along (Named e s) ks js → looked_in ns js ≡ looked_in ns ks
    unfolding looked_in
    looked_moved ns end = refl
    looked_moved ns (next r a) = refl

    module _ (ns : ℕ) where
      follow_moved : {ks js : List ℕ} → Along (Named e s) ks js → {a b : Option Item} → Both Means a b
          → Both Means (follow s from ns a ks) (follow u (e.modules from) ns b js)
      unfolding follow
      follow_moved end r = r
      follow_moved (next {x = k} {z = j} {xs = ks} {zs = js} h t) {a = a} {b = b} r =
          follow_moved t
          (subst (λ i. Both Means (after a (later_name s from (looked_in ns ks) k)) (after b (later_name u (e.modules from) (looked_in ns js) i)))
          (sym h.1)
          (subst (λ i. Both Means (after a (later_name s from (looked_in ns ks) k)) (after b (later_name u (e.modules from) i (e.names k))))
          (sym (looked_moved ns t))
          (after_moved (looked_in ns ks) k h.0 r)))

      plainly_moved : {ks js : List ℕ} → Along (Named e s) ks js → Both Means (plainly s from ns ks) (plainly u (e.modules from) ns js)
      unfolding plainly
      plainly_moved end = neither
      plainly_moved (next {x = k} {z = j} {xs = ks} {zs = js} h t) =
          follow_moved t
          (subst (λ i. Both Means (first_name s from (looked_in ns ks) k) (first_name u (e.modules from) (looked_in ns js) i)) (sym h.1)
          (subst (λ i. Both Means (first_name s from (looked_in ns ks) k) (first_name u (e.modules from) i (e.names k))) (sym (looked_moved ns t))
          (first_name_moved (looked_in ns ks) k h.0)))

      absolutely_moved : {ks js : List ℕ} → Along (Named e s) ks js → Both Means (absolutely s from ns ks) (absolutely u (e.modules from) ns js)
      unfolding absolutely
      absolutely_moved end = neither
      absolutely_moved (next {x = k} {z = j} {xs = ks} {zs = js} h t) =
          follow_moved t
          (subst (λ i. Both Means (in_externs s from (looked_in ns ks) k) (in_externs u (e.modules from) (looked_in ns js) i)) (sym h.1)
          (subst (λ i. Both Means (in_externs s from (looked_in ns ks) k) (in_externs u (e.modules from) i (e.names k))) (sym (looked_moved ns t))
          (in_externs_moved (looked_in ns ks) k h.0)))

      parent_means_moved : (p : ℕ) → p ≤ n → Both Means (parent_means s p) (parent_means u (or_none e.modules p))
      unfolding parent_means
      parent_means_moved zero l = neither
      parent_means_moved (suc p) l =
          let k = stands_moved p (omega arith) in
          each (k.1, ap module_item k.0 ∙ (module_means (stands_for s p) k.1).1)

      parent_known : (m : ℕ) → m < n → parent_of s m ≤ n
      unfolding module_of
      parent_known m l = (each_at no_module m v.ranges.modules l).parent

      chosen : (b : Bool) {o p a c : Option Item} → Both Means o p → Both Means a c
          → Both Means (elim b [ true ↦ o | false ↦ a ]) (elim b [ true ↦ p | false ↦ c ])
      chosen true r t = r
      chosen false r t = t

      -- what a path means
      pub reads_to_moved : (kind : ℕ) {ks js : List ℕ} → Along (Named e s) ks js
          → Both Means (reads_to s from ns kind ks) (reads_to u (e.modules from) ns kind js)
      unfolding reads_to
      reads_to_moved kind t =
          let k = stands_moved from lf in
          let r = root_low e s u em v w from lf in
          let up : parent_of u (stands_for u (e.modules from)) ≡ or_none e.modules (parent_of s (stands_for s from)) = ap (parent_of u) k.0
          ∙ parent_moved e s u em v w (stands_for s from) k.1 in
          chosen (eqb kind self_kind) (follow_moved t (each (k.1, ap module_item k.0 ∙ (module_means (stands_for s from) k.1).1)))
          (chosen (eqb kind super_kind)
          (follow_moved t
          (subst (λ i. Both Means (parent_means s (parent_of s (stands_for s from))) (parent_means u i)) (sym up)
          (parent_means_moved (parent_of s (stands_for s from)) (parent_known (stands_for s from) k.1))))
          (chosen (eqb kind crate_kind)
          (follow_moved t (each (r, ap module_item (crate_root_moved e s u em v w from lf) ∙ (module_means (crate_root s from) r).1)))
          (chosen (eqb kind absolute_kind) (absolutely_moved t) (plainly_moved t))))

    is_the_moved : (item : Item) → Has s item → {a b : Option Item} → Both Means a b → is_the (item_to e item) b ≡ is_the item a
    unfolding is_the
    is_the_moved item h neither = refl
    is_the_moved item h (each {x = a} {z = b} r) = ap (λ i. same_item i (item_to e item)) r.1 ∙ same_moved e s u em v a item r.0 h

    -- a path reads back alike
    pub reads_back_moved : (item : Item) → Has s item → (kind : ℕ) {ks js : List ℕ} → Along (Named e s) ks js
        → reads_back u (e.modules from) (item_to e item) kind js ≡ reads_back s from item kind ks
    unfolding reads_back
    reads_back_moved item h kind {js = js} t =
        ap (λ i. is_the (item_to e item) (reads_to u (e.modules from) i kind js)) (ns_moved e s u em v item)
        ∙ is_the_moved item h (reads_to_moved (ns_of item) kind t)

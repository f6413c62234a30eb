-- Each case of a name.
use Prim.Native.Nat.{ℕ, suc, ◌-◌, ◌≤◌, ◌<◌}
use mathlib.Core.Path.{◌≡◌, refl, sym, ap, ap₂, ◌∙◌}
use mathlib.Core.List.{List}
use mathlib.Core.Logic.{◌⊎◌, inl, inr}
use mathlib.Core.Bool.{true, false, ◌&&◌}
use Rattle.std.specs.Prelude.{Option, None, Some, option_map}
use Rattle.std.specs.Option.{option_map_or}
use native.Mathlib.Omega.{arith}
use borrow.Author.Tests.{eq-eqb, ne_eqb, eqb-true, le-ltb}
use lib.Dec.{eqb}
use Rattle.snapshot.specs.Records.{Snapshot, Definition, Scope, Extern, Member, definition_at}
use Rattle.snapshot.specs.Layouts.{snap_of}
use Rattle.snapshot.specs.declared.ids.DefinitionId.{DefinitionId}
use Rattle.snapshot.specs.declared.ids.ModuleId.{ModuleId}
use Rattle.snapshot.specs.declared.ids.PathKind.{PathKind}
use Rattle.snapshot.specs.declared.ids.PathKind.TheVariants.{Plain, SelfModule, Super, Crate, Absolute}
use Rattle.snapshot.specs.declared.layout.Layout.{Layout}
use Rattle.accept.specs.Post.{Reads}
use Rattle.accept.specs.Valid.{Valid}
use Rattle.accept.proofs.Bools.{and_two}
use Rattle.accept.proofs.Valid.{accepted_valid}
use Rattle.module_tree.specs.rules.Modules.{crate_of, parent_of, crate_root}
use Rattle.module_tree.specs.rules.Privately.{module_around}
use Rattle.module_tree.proofs.Chains.{parent_fits}
use Rattle.module_tree.proofs.Reading.{length_modules}
use Rattle.hir_def.specs.Entries.{ReadsAs}
use Rattle.hir_def.specs.Finds.{first_of}
use Rattle.hir_def.specs.Items.{types, macros, definition_of, crate_data, item_of, module_item, defined_item}
use Rattle.hir_def.specs.declared.Item.{Item}
use Rattle.hir_def.specs.declared.Item.TheVariants.{Mod, Def}
use Rattle.hir_def.proofs.Every.{each_in}
use Rattle.nameable.specs.Paths.{Keyword, supers, crate, Path, keyword, absolute, into, Named, named, as_named, entries_in, variant_named}
use Rattle.nameable.specs.Paths.{variants_in, extern_named, absolutes, within, above_or, above, keyword_module, module_named, after, reads, item_in}
use Rattle.nameable.specs.Paths.{place_in}
use Rattle.nameable.specs.Queue.{seen_named}
use Rattle.nameable.proofs.Lists.{none_some, first_found_lem}
use Rattle.nameable.proofs.Reached.{item_in_lem}
use Rattle.nameable.proofs.Lookups.{named_seen}
use Rattle.read_back.specs.readings.Reads.{extern_named as extern_of_name, is_variant_named, variant_named as first_variant}
use Rattle.any_path.specs.Plain.{externs_named}
use Rattle.any_path.proofs.Plains.{externs_read, externs_types, externs_others}
use Rattle.told_paths.proofs.shortest_paths.Laws.{variant_first}
use Rattle.told_paths.specs.declared.told_routes.Meaning.{Meaning}
use Rattle.told_paths.specs.told_routes.Routes.{keyword_by, first_path, next_path, meaning_of, Answers}

pub answers_as : {o q : Option Named} {x : Option Meaning} → o ≡ q → Answers o x → Answers q x
answers_as e a = a ∙ ap (option_map meaning_of) e

-- The item and the place of what is answered.

item_by : (o : Option Named) → option_map (λ (z : Meaning). z.item) (option_map meaning_of o) ≡ item_in o
unfolding item_in
item_by None = refl
item_by (Some x) = refl

place_by : (o : Option Named) → option_map_or (λ (z : Meaning). z.place) (option_map meaning_of o) 0 ≡ place_in o
unfolding place_in
place_by None = refl
place_by (Some x) = refl

pub item_answered : (o : Option Named) {x : Option Meaning} → Answers o x → option_map (λ (z : Meaning). z.item) x ≡ item_in o
item_answered o a = ap (option_map (λ (z : Meaning). z.item)) a ∙ item_by o

pub place_answered : (o : Option Named) {x : Option Meaning} → Answers o x → option_map_or (λ (z : Meaning). z.place) x 0 ≡ place_in o
place_answered o a = ap (λ (z : Option Meaning). option_map_or (λ (t : Meaning). t.place) z 0) a ∙ place_by o

-- By an entry, and by an extern.

pub answers_entry : (s : Snapshot) (e : Scope) {i : Item} → i ≡ item_of s e.ns e.definition
    → record { item = i; place = e.place } ≡ meaning_of (as_named s e)
answers_entry s e ei = ap (λ (z : Item). record { item = z; place = e.place }) ei

pub answers_extern : (x : Extern) (m : ModuleId) → m.0 ≡ x.target → record { item = Mod m; place = x.place } ≡ meaning_of (extern_named x)
answers_extern x m e = ap (λ (t : ℕ). record { item = module_item t; place = x.place }) e

-- A name after `::`.
module _ (s : Snapshot) (from ns n : ℕ) {c : ℕ} (k : c ≡ crate_of s from) {y : ℕ} (edition : y ≡ (crate_data s c).edition) where
  same_edition : y ≡ (crate_data s (crate_of s from)).edition
  same_edition = edition ∙ ap (λ (j : ℕ). (crate_data s j).edition) k

  pub absolute_old : y ≡ 2015 → None ≡ reads s from ns (absolute n)
  unfolding reads absolutes named first_of
  absolute_old e =
      let old : eqb (crate_data s (crate_of s from)).edition 2015 ≡ true =
      eq-eqb (crate_data s (crate_of s from)).edition 2015 (sym same_edition ∙ e) in
      rw (absolutes, old)

  module _ (late : y ≡ 2015 → ⊥) where
    absolute_late : reads s from ns (absolute n) ≡ option_map extern_named (externs_named s from ns n)
    unfolding reads absolutes
    absolute_late =
        let new : eqb (crate_data s (crate_of s from)).edition 2015 ≡ false =
        ne_eqb (crate_data s (crate_of s from)).edition 2015 (λ z. late (same_edition ∙ z)) in
        rw (absolutes, new) (externs_read s from ns n)

    pub absolute_other : (ns ≡ types → ⊥) → None ≡ reads s from ns (absolute n)
    absolute_other h = ap (option_map extern_named) (externs_others s from ns n h) ∙ sym absolute_late

    pub absolute_by : ns ≡ types → {o : Option Extern} → o ≡ extern_of_name s c n → option_map extern_named o ≡ reads s from ns (absolute n)
    absolute_by h e = ap (option_map extern_named) (e ∙ externs_types s from ns n k h) ∙ sym absolute_late

-- By an entry of a module.
pub entry_by : (s : Snapshot) (from ns m n : ℕ) {o : Option Scope} → o ≡ seen_named s from ns m n
    → option_map (as_named s) o ≡ named n (entries_in s from ns m)
entry_by s from ns m n e = ap (option_map (as_named s)) e ∙ sym (named_seen s from ns m n)

-- By a variant of an enum.
module _ (W A : List ℕ) (l : Layout) (r : Reads W A l) (ns d n : ℕ) where
  pub variant_macro : macros ≤ ns → None ≡ named n (variants_in (snap_of W A l) ns d)
  unfolding variants_in named first_of
  variant_macro h = rw (variants_in, le-ltb ns macros h)

  module _ (low : ns < macros) where
    pub variant_gone : None ≡ first_variant (snap_of W A l) d n → None ≡ named n (variants_in (snap_of W A l) ns d)
    variant_gone e = ap (option_map (variant_named (snap_of W A l) ns)) e ∙ sym (variant_first (snap_of W A l) ns d d n low)

    variant_kind_lem : (x : Member) → Some x ≡ first_variant (snap_of W A l) d n → (definition_of (snap_of W A l) x.definition).kind ≡ 2
    unfolding first_variant definition_of
    variant_kind_lem x e =
        let s : Snapshot = snap_of W A l in
        let ok : Valid s = accepted_valid W s r.same in
        let f = first_found_lem (is_variant_named d n) s.members x (sym e) in
        let g = and_two (eqb x.parent d) (eqb x.kind 0 && eqb x.name n) f.1 in
        let k = and_two (eqb x.kind 0) (eqb x.name n) g.1 in
        ((each_in ok.members f.0).variant (eqb-true x.kind 0 k.0)).0

    pub variant_answers : {x : Member} (y : DefinitionId) {h : ℕ} → Some x ≡ first_variant (snap_of W A l) d n → y.0 ≡ x.definition
        → ReadsAs W h (definition_of (snap_of W A l) y.0)
        → Answers (named n (variants_in (snap_of W A l) ns d)) (Some (record { item = Def (record { 0 = ns }) y; place = h }))
    variant_answers {x} y {h} e ey a =
        let s : Snapshot = snap_of W A l in
        let kind : (definition_of s y.0).kind ≡ 2 = ap (λ (j : ℕ). (definition_of s j).kind) ey ∙ variant_kind_lem x e in
        let whole : definition_at W h ≡ definition_of s y.0 = a.whole (omega (arith, kind)) in
        let there : Some (variant_named s ns x) ≡ named n (variants_in s ns d) =
        ap (option_map (variant_named s ns)) e ∙ sym (variant_first s ns d d n low) in
        answers_as there
        (ap₂ (λ (j k : ℕ). Some (record { item = defined_item ns j; place = k })) ey
        (ap (λ (z : Definition). z.place) whole ∙ ap (λ (j : ℕ). (definition_of s j).place) ey))

-- A name after an item.
module _ (s : Snapshot) (from ns n : ℕ) {i : Item} {x : Option Meaning} where
  pub within_module : (m : ModuleId) → i ≡ Mod m → Answers (named n (entries_in s from ns m.0)) x → Answers (named n (within s from ns i)) x
  unfolding within
  within_module m e a = answers_as (ap (λ (z : Item). named n (within s from ns z)) (sym e)) a

  pub within_other : (k d : ℕ) → i ≡ defined_item k d → Answers (named n (variants_in s ns d)) x → Answers (named n (within s from ns i)) x
  unfolding within
  within_other k d e a = answers_as (ap (λ (z : Item). named n (within s from ns z)) (sym e)) a

-- A name after what the names before it mean.
module _ (f : Item → Option Named) {here : Option Item} where
  pub after_nothing : here ≡ None → (o : Option Named) → here ≡ item_in o → None ≡ after o f
  unfolding item_in after
  after_nothing e None h = refl
  after_nothing e (Some y) h = absurd (none_some (sym (e) ∙ h))

  pub after_thing : {x : Item} → here ≡ Some x → (o : Option Named) → here ≡ item_in o → f x ≡ after o f
  unfolding item_in after
  after_thing {x} e o h = let y = item_in_lem o x (sym h ∙ e) in rw y.1 (ap f (sym y.2))

-- The next name of a path, by its kind.
module _ (kind : PathKind) (k : ℕ) (p : Path) (n : ℕ) where
  later_by : (j : ℕ) → k ≡ suc j → into p n ≡ next_path kind k p n
  unfolding next_path
  later_by j e = sym (ap (λ (i : ℕ). next_path kind i p n) e)

  pub next_later : 0 < k → into p n ≡ next_path kind k p n
  next_later h = later_by (k - 1) (omega (arith, h))

  module _ (z : k ≡ 0) where
    is_first : first_path kind p n ≡ next_path kind k p n
    unfolding next_path
    is_first = sym (ap (λ (i : ℕ). next_path kind i p n) z)

    pub next_first : {c : PathKind} → kind ≡ c → first_path c p n ≡ next_path kind k p n
    next_first e = sym (ap (λ (c : PathKind). first_path c p n) e) ∙ is_first

    pub next_keyword : (kind ≡ SelfModule) ⊎ ((kind ≡ Super) ⊎ (kind ≡ Crate)) → into p n ≡ next_path kind k p n
    unfolding first_path
    next_keyword (inl e) = next_first e
    next_keyword (inr (inl e)) = next_first e
    next_keyword (inr (inr e)) = next_first e

-- Keywords.

-- a parent is a module
pub parent_below : (W A : List ℕ) (l : Layout) → Reads W A l → (m p : ℕ) → m < l.modules → parent_of (snap_of W A l) m ≡ suc p → p < l.modules
parent_below W A l r m p h e =
    let s : Snapshot = snap_of W A l in
    let ok : Valid s = accepted_valid W s r.same in
    let z = length_modules W A l in
    let f = parent_fits s ok.tree m p (omega (arith, z, h)) e in
    omega (arith, f.0, h)

module _ (s : Snapshot) where
  abbrev pub above_means : ℕ → ℕ → Option Item
  above_means k m = item_in (module_named (above s k m))

  pub above_here : (m : ModuleId) (k : ℕ) → k ≡ 0 → Some (Mod m) ≡ above_means k m.0
  unfolding above module_named item_in
  above_here m k e = sym (ap (λ (j : ℕ). above_means j m.0) e)

  above_by : (m k j : ℕ) → k ≡ suc j → above s k m ≡ above_or s (above s j) (parent_of s m)
  unfolding above
  above_by m k j e = ap (λ (i : ℕ). above s i m) e

  pub above_gone : (m k : ℕ) → 0 < k → parent_of s m ≡ 0 → None ≡ above_means k m
  unfolding above_or module_named item_in
  above_gone m k h e =
      sym (ap (λ (o : Option ℕ). item_in (module_named o)) (above_by m k (k - 1) (omega (arith, h)) ∙ ap (above_or s (above s (k - 1))) e))

  pub above_on : (m k p : ℕ) → 0 < k → parent_of s m ≡ suc p → above_means k m ≡ above_means (k - 1) (module_around s p)
  unfolding above_or
  above_on m k p h e = ap (λ (o : Option ℕ). item_in (module_named o)) (above_by m k (k - 1) (omega (arith, h)) ∙ ap (above_or s (above s (k - 1))) e)

  module _ (from : ℕ) (kind : PathKind) (u : ℕ) where
    abbrev start_means : Keyword → Option Item
    start_means w = item_in (reads s from types (keyword w))

    pub start_crate : (m : ModuleId) → kind ≡ Crate → m.0 ≡ crate_root s from
        → Some (Mod m) ≡ item_in (reads s from types (keyword (keyword_by kind u)))
    unfolding reads keyword_module module_named item_in keyword_by
    start_crate m e em =
        let same : keyword_by kind u ≡ crate = ap (λ (c : PathKind). keyword_by c u) e in
        ap (λ (t : ℕ). Some (module_item t)) em ∙ sym (ap start_means same)

    other_kind : (kind ≡ Plain) ⊎ ((kind ≡ SelfModule) ⊎ ((kind ≡ Super) ⊎ (kind ≡ Absolute))) → keyword_by kind u ≡ supers u
    unfolding keyword_by
    other_kind (inl e) = ap (λ (c : PathKind). keyword_by c u) e
    other_kind (inr (inl e)) = ap (λ (c : PathKind). keyword_by c u) e
    other_kind (inr (inr (inl e))) = ap (λ (c : PathKind). keyword_by c u) e
    other_kind (inr (inr (inr e))) = ap (λ (c : PathKind). keyword_by c u) e

    pub start_above : {o : Option Item} {m : ℕ} → (kind ≡ Plain) ⊎ ((kind ≡ SelfModule) ⊎ ((kind ≡ Super) ⊎ (kind ≡ Absolute)))
        → m ≡ module_around s from → o ≡ above_means u m
        → o ≡ item_in (reads s from types (keyword (keyword_by kind u)))
    unfolding reads keyword_module keyword_by
    start_above e em eo =
        eo ∙ ap (above_means u) em ∙ sym (ap start_means (other_kind e))

-- Imports written to a target, or only counted, one list after the other.
use Prim.Native.Nat.{ℕ, suc, ◌+◌, ◌-◌, ◌*◌, ◌^◌, ◌≤◌, ◌<◌}
use mathlib.Core.Path.{◌≡◌, refl, sym, ◌∙◌, ap, ap₂, subst}
use mathlib.Core.List.{List, [], ◌∷◌, ◌++◌, map}
use mathlib.Core.Bool.{Bool, true, false, ◌&&◌, and_comm}
use native.Mathlib.Omega.{arith}
use borrow.Author.Tests.{eq-eqb, ne_eqb}
use lib.Dec.{eqb}
use lib.ListN.{length, get_or, set, length-append, length-map}
use Rattle.snapshot.specs.Sizes.{import_size, member_size, scope_size}
use Rattle.snapshot.specs.Lists.{rows}
use Rattle.snapshot.specs.Records.{Snapshot, Scope, Import, Member, scope_at, member_at}
use Rattle.snapshot.specs.Layouts.{scope_base, member_base, snap_of}
use Rattle.snapshot.specs.declared.layout.Layout.{Layout}
use Rattle.snapshot.proofs.Laws.{rows_next, rows_none, rows_whole, length_rows}
use Rattle.check_records.specs.chains.Chains.{Last}
use Rattle.accept.specs.Valid.{Each}
use Rattle.accept.proofs.Bools.{each_rows}
use Rattle.accept.proofs.Valid.{accepted_valid}
use Rattle.accept.proofs.Reading.{member_read}
use Rattle.hir_def.specs.Finds.{select}
use Rattle.find_path_spec.proofs.laws.Walks.{select_short}
use Rattle.import_rules.specs.Collect.{entry_before, is_public_in, entries_of, is_member_of, member_ns, member_import, entry_import, imports_of}
use Rattle.import_rules.specs.Collect.{imports_in}
use Rattle.import_rules.specs.Collect.{imports_over, words_of}
use Rattle.answer.specs.counts.Targets.{written}
use Rattle.answer.proofs.counts.Targets.{written_append, written_length, written_none}
use Rattle.imports.specs.order.Rooms.{entries_room, heads_room, spare_room}
use Rattle.imports.specs.order.Lists.{Ready}
use Rattle.imports.proofs.order.Visits.{length_sort}
use Rattle.import_rules.proofs.import_words.Taken.{words_length, words_append}
use Rattle.imports.specs.lists.Threads.{member_heads_base, member_links_base, rest, member_of, Threaded}
use Rattle.imports.specs.lists.Walks.{order_base, order_at}
use Rattle.imports.specs.lists.Writes.{new_import, Bounded, Space, Wrote, is_kept, kept_imports, members_of, Listed}
use Rattle.imports.proofs.lists.Keyed.{rest_first, rest_next, rest_none, keyed_rows, select_both}
use Rattle.imports.proofs.lists.Walks.{rest_at, owner_of, thread_of, thread_fits, thread_word, thread_next}

-- two lists one after the other

pub record Parts (left xs ys : List Import) : Type 0 where
  pub split : left ≡ xs ++ ys

parts_length : {left xs ys : List Import} → Parts left xs ys → length left ≡ length xs + length ys
parts_length {left} {xs} {ys} p = ap length p.split ∙ length-append xs ys

module _ {write : Bool} {at : ℕ} {xs ys left : List Import} {T : List ℕ} (space : Space write at left T) (p : Parts left xs ys) where
  pub space_first : Space write at xs T
  space_first =
      let n = parts_length p in
      let h = space.small in
      record { small = omega arith; room = λ t. let q = space.room t in omega arith }

  pub space_rest : {U : List ℕ} {r : ℕ} → Wrote write at xs T U r → Space write r ys U
  space_rest {U} {r} w =
      let n = parts_length p in
      let h = space.small in
      let e = w.next in
      let z : length U ≡ length T = ap length w.same ∙ written_length write at (words_of xs) T in
      record { small = omega arith; room = λ t. let q = space.room t in omega arith }

pub wrote_size : {write : Bool} {at r : ℕ} {xs : List Import} {T U : List ℕ} → Wrote write at xs T U r → length U ≡ length T
wrote_size {write} {at} {r} {xs} {T} w = ap length w.same ∙ written_length write at (words_of xs) T

-- of equal lists
pub space_as : {write : Bool} {at : ℕ} {xs ys : List Import} {T : List ℕ} → Space write at xs T → xs ≡ ys → Space write at ys T
space_as {write} {at} {xs} {ys} {T} s e = subst (λ zs. Space write at zs T) e s

pub wrote_as : {write : Bool} {at r : ℕ} {xs ys : List Import} {T U : List ℕ} → Wrote write at xs T U r → xs ≡ ys → Wrote write at ys T U r
wrote_as {write} {at} {r} {xs} {ys} {T} {U} w e = subst (λ zs. Wrote write at zs T U r) e w

pub wrote_none : {write : Bool} {at : ℕ} {xs : List Import} {T : List ℕ} → xs ≡ [] → Wrote write at xs T T at
unfolding words_of
wrote_none {write} {at} {xs} {T} e =
    let n = ap length e in
    record { next = omega arith; same = sym (ap (λ ys. written write at (words_of ys) T) e ∙ written_none write at T) }

module _ {write : Bool} {at r q : ℕ} {xs ys left : List Import} {T U X : List ℕ} (p : Parts left xs ys) (w : Wrote write at xs T U r)
    (v : Wrote write r ys U X q) where
  pub wrote_both : Wrote write at left T X q
  wrote_both =
      let n = parts_length p in
      let m : length (words_of xs) ≡ import_size * length xs = words_length xs in
      let a = w.next in
      let b = v.next in
      let e : r ≡ at + length (words_of xs) = omega arith in
      record {
        next = omega arith;
        same =
            v.same ∙ ap₂ (λ k Y. written write k (words_of ys) Y) e w.same ∙ written_append write at (words_of xs) (words_of ys) T
            ∙ ap (λ z. written write at z T) (sym (words_append xs ys) ∙ ap words_of (sym p.split));
      }

-- a loop that writes: the imports that are left make the rest of the whole
pub record Going (write : Bool) (whole : List Import) (first : ℕ) (T₀ : List ℕ) (left : List Import) (at : ℕ) (T : List ℕ) : Type 0 where
  pub space : Space write at left T
  pub whole_of : {U : List ℕ} {r : ℕ} → Wrote write at left T U r → Wrote write first whole T₀ U r
  pub size : length T ≡ length T₀

pub going_start : {write : Bool} {xs : List Import} {at : ℕ} {T : List ℕ} → Space write at xs T → Going write xs at T xs at T
going_start s = record { space = s; whole_of = λ w. w; size = refl }

module _ {write : Bool} {whole : List Import} {first : ℕ} {T₀ : List ℕ} {left : List Import} {at : ℕ} {T : List ℕ}
    (g : Going write whole first T₀ left at T) where
  pub going_next : {xs ys : List Import} {U : List ℕ} {r : ℕ} → Parts left xs ys → Wrote write at xs T U r → Going write whole first T₀ ys r U
  going_next p w =
      record { space = space_rest g.space p w; whole_of = λ v. g.whole_of (wrote_both p w v); size = wrote_size w ∙ g.size }

  pub going_done : left ≡ [] → Wrote write first whole T₀ T at
  going_done e = g.whole_of (wrote_none e)

-- one import

pub wrote_one : (at c ns d name m bits : ℕ) (T : List ℕ)
    → Wrote true at (new_import c ns d name m bits ∷ []) T
    (set (set (set (set (set (set T at (0xA0000000 + c)) (at + 1) ns) (at + 2) d) (at + 3) name) (at + 4) m) (at + 5) bits) (at + 6)
unfolding written words_of
wrote_one at c ns d name m bits T =
    let a : at + 1 ≡ suc at = omega arith in
    let b : at + 2 ≡ suc (suc at) = omega arith in
    let e : at + 3 ≡ suc (suc (suc at)) = omega arith in
    let f : at + 4 ≡ suc (suc (suc (suc at))) = omega arith in
    let g : at + 5 ≡ suc (suc (suc (suc (suc at)))) = omega arith in
    record { next = omega arith; same = rw (a, b, e, f, g) }

pub counted_one : (at c ns d name m bits : ℕ) (T : List ℕ) → Wrote false at (new_import c ns d name m bits ∷ []) T T (at + 6)
unfolding written
counted_one at c ns d name m bits T = record { next = omega arith; same = refl }

-- a member

pub kept_none : (c : ℕ) (e : Scope) (x : Member) → x.kind ≡ 3 → kept_imports c e (x ∷ []) ≡ []
unfolding kept_imports select
kept_none c e x h = rw (kept_imports, select, eq-eqb x.kind 3 h)

pub kept_one : (c : ℕ) (e : Scope) (x : Member) → (x.kind ≡ 3 → ⊥) → kept_imports c e (x ∷ []) ≡ member_import c e x ∷ []
unfolding kept_imports select
kept_one c e x h = rw (kept_imports, select, ne_eqb x.kind 3 h)

pub member_same_import : (c : ℕ) (e : Scope) (x : Member) {ns kind d name m bits ens : ℕ} → kind ≡ x.kind → ens ≡ e.ns
    → ns ≡ member_ns ens kind → d ≡ x.definition
    → name ≡ x.name → m ≡ e.owner → bits ≡ x.bits → new_import c ns d name m bits ≡ member_import c e x
member_same_import c e x k n a d t m b =
    let q = a ∙ ap₂ member_ns n k in λ i. record { owner = c; ns = q i; definition = d i; name = t i; container = m i; bits = b i; place = 0 }

pub entry_same_import : (c : ℕ) (e : Scope) {ns d name m bits : ℕ} → ns ≡ e.ns → d ≡ e.definition → name ≡ e.name → m ≡ e.owner → bits ≡ e.bits
    → new_import c ns d name m bits ≡ entry_import c e
entry_same_import c e n d t m b = λ i. record { owner = c; ns = n i; definition = d i; name = t i; container = m i; bits = b i; place = 0 }

-- what an import's words want, of the same import
pub bounded_as : {x y : Import} → Bounded x → y ≡ x → Bounded y
bounded_as b e = subst Bounded (sym e) b

kept_append : (c : ℕ) (e : Scope) (x : Member) (xs : List Member) → kept_imports c e (x ∷ xs) ≡ kept_imports c e (x ∷ []) ++ kept_imports c e xs
unfolding kept_imports select
kept_append c e x xs = by (is_kept x)
  where
    by : (b : Bool) → map (member_import c e) (elim b [ true ↦ x ∷ select is_kept xs | false ↦ select is_kept xs ])
        ≡ map (member_import c e) (elim b [ true ↦ x ∷ [] | false ↦ [] ]) ++ map (member_import c e) (select is_kept xs)
    by true = refl
    by false = refl

-- the members of a parent

member_of_lem : (d : ℕ) (xs : List Member) → select is_kept (select (λ x. eqb x.parent d) xs) ≡ select (is_member_of d) xs
member_of_lem d xs =
    let e : (λ (x : Member). is_kept x && eqb x.parent d) ≡ is_member_of d = λ i x. and_comm (is_kept x) (eqb x.parent d) i in
    select_both is_kept (λ x. eqb x.parent d) xs ∙ ap (λ p. select p xs) e

abbrev pub parent_of : List ℕ → Layout → ℕ → ℕ
parent_of W l j = (member_of W l j).parent

-- the imports of the members from a number of a thread on
abbrev pub kept_at : List ℕ → Layout → ℕ → Scope → ℕ → List Import
kept_at W l c e k = kept_imports c e (rest (parent_of W l) (member_of W l) k)

pub kept_end : (W : List ℕ) (l : Layout) (c : ℕ) (e : Scope) (k : ℕ) → k ≡ 0 → kept_at W l c e k ≡ []
unfolding kept_imports select
kept_end W l c e k z = ap (kept_imports c e) (rest_none (parent_of W l) (member_of W l) k z)

ns_small : (ns kind : ℕ) → ns ≤ 2 → member_ns ns kind ≤ 2
unfolding member_ns
ns_small ns kind h = by (eqb kind 0)
  where
    by : (b : Bool) → elim b [ true ↦ 0 | false ↦ ns ] ≤ 2
    by true = omega arith
    by false = h

module _ {W A : List ℕ} {l : Layout} {c : ℕ} {e : Scope} (h : Listed W A l c e) where
  pub entry_bounded : Bounded (entry_import c e)
  entry_bounded =
      let f = h.fits in
      let o = h.owner in
      let q = h.ready.reads.tables.limited in
      record { owner = omega arith; ns = f.ns; definition = omega arith; name = omega arith; container = omega arith; bits = f.bits }

  pub kept_first : {d k : ℕ} → d ≡ e.definition → k ≡ get_or A (member_heads_base l + d) 0 → (kept_at W l c e k ≡ members_of (snap_of W A l) c e)
      × (k ≤ l.members)
  unfolding kept_imports members_of
  kept_first {d} {k} ed ek =
      let f = h.fits.definition in
      let last : Last (parent_of W l) d l.members k = rw ek (h.members.first d (omega arith)) in (
        ap (λ r. map (member_import c e) (select is_kept r))
            (rest_first (parent_of W l) (member_of W l) last ∙ keyed_rows (λ (x : Member). x.parent)
            (λ i. member_at W (member_base l + member_size * i)) d l.members)
            ∙ ap (map (member_import c e)) (member_of_lem d (snap_of W A l).members)
            ∙ ap (λ x. map (member_import c e) (select (is_member_of x) (snap_of W A l).members)) ed,
        last.within,
      )

  -- a number of a thread, one more, and its record
  module _ {k : ℕ} (within : k ≤ l.members) (some : 0 < k) {x : ℕ} (ex : x ≡ member_base l + member_size * (l.members - k)) where
    member_same : member_at W x ≡ member_of W l (k - 1)
    member_same = let q : l.members - k ≡ l.members - 1 - (k - 1) = omega arith in ap (member_at W) (ex ∙ ap (λ y. member_base l + member_size * y) q)

    pub member_bounded : Bounded (member_import c e (member_at W x))
    member_bounded =
        let f = member_read W A l (accepted_valid W (snap_of W A l) h.ready.reads.same) (l.members - k) (omega arith) in
        let g = h.fits in
        let o = h.owner in
        let q = h.ready.reads.tables.limited in
        let z = ns_small e.ns (member_at W x).kind g.ns in
        rw ex
        (record {
          owner = omega arith;
          ns = ns_small e.ns (member_at W (member_base l + member_size * (l.members - k))).kind g.ns;
          definition = omega arith;
          name = omega arith;
          container = omega arith;
          bits = f.bits;
        })

    pub kept_next : {next : ℕ} → next ≡ get_or A (member_links_base l + (k - 1)) 0
        → Parts (kept_at W l c e k) (kept_imports c e (member_at W x ∷ [])) (kept_at W l c e next) × (next < k)
    kept_next {next} en =
        let last : Last (parent_of W l) (parent_of W l (k - 1)) (k - 1) next = rw en (h.members.next (k - 1) (omega arith)) in
        let w = last.within in (
          record {
            split =
                ap (kept_imports c e) (rest_next (parent_of W l) (member_of W l) k some last
                ∙ ap (λ y. y ∷ rest (parent_of W l) (member_of W l) next) (sym member_same))
                ∙ kept_append c e (member_at W x) (rest (parent_of W l) (member_of W l) next);
          },
          omega arith,
        )

-- an entry: its members and then itself
pub imports_entry : (s : Snapshot) (c : ℕ) (e : Scope) → Parts (imports_of s c e) (members_of s c e) (entry_import c e ∷ [])
unfolding imports_of members_of
imports_entry s c e = record { split = refl }

-- a module

-- the imports of the entries from a number of a thread on
abbrev pub imports_at : List ℕ → List ℕ → Layout → ℕ → ℕ → ℕ → List Import
imports_at W A l n c k = imports_in (snap_of W A l) c (rest_at W A n k)

pub imports_end : (W A : List ℕ) (l : Layout) (n c k : ℕ) → k ≡ 0 → imports_at W A l n c k ≡ []
unfolding imports_in
imports_end W A l n c k z = ap (imports_in (snap_of W A l) c) (rest_none (owner_of W A n) _ k z)

module _ {W A : List ℕ} {l : Layout} {n : ℕ} (th : Threaded W A l n) where
  pub imports_first : (c : ℕ) {m k : ℕ} → m < 512 → k ≡ get_or A (heads_room + m) 0
      → (imports_at W A l n c k ≡ imports_in (snap_of W A l) c (entries_of (snap_of W A l) m)) × (k ≤ n)
  imports_first c small e = let q = thread_of th small e in (ap (imports_in (snap_of W A l) c) q.0, q.1)

  module _ (c : ℕ) {k : ℕ} (within : k ≤ n) (some : 0 < k) {entry : ℕ} (e : entry ≡ get_or A (entries_room + (n - k)) 0) where
    pub entry_listed : c < l.crates → Listed W A l c (scope_at W entry)
    entry_listed o = record {
      ready = th.ready;
      members = th.members;
      owner = o;
      fits = rw (thread_word th within some e)
          (thread_fits th within some);
    }

    pub imports_next : {next : ℕ} → next ≡ get_or A (spare_room + (k - 1)) 0
        → Parts (imports_at W A l n c k) (imports_of (snap_of W A l) c (scope_at W entry)) (imports_at W A l n c next) × (next < k)
    unfolding imports_in
    imports_next {next} en =
        let q = thread_next th within some en in
        (record { split = ap (imports_in (snap_of W A l) c) (q.0 ∙ ap (λ x. x ∷ rest_at W A n next) (sym (thread_word th within some e))) }, q.1)

-- the modules in order

-- the imports of the modules from a number on
abbrev pub imports_from : List ℕ → List ℕ → Layout → ℕ → ℕ → ℕ → List Import
imports_from W A l c order i = imports_over (snap_of W A l) c (rows (λ j. get_or A (order_base l + j) 0) i (order - i))

pub over_first : (W A : List ℕ) (l : Layout) (c order : ℕ) → imports_over (snap_of W A l) c (order_at A l order) ≡ imports_from W A l c order 0
over_first W A l c order = rows_whole (imports_over (snap_of W A l) c) (λ j. get_or A (order_base l + j) 0) order

pub over_next : (W A : List ℕ) (l : Layout) (c order i : ℕ) {m : ℕ} → i < order → m ≡ get_or A (order_base l + i) 0
    → Parts (imports_from W A l c order i) (imports_in (snap_of W A l) c (entries_of (snap_of W A l) m)) (imports_from W A l c order (i + 1))
unfolding imports_over
over_next W A l c order i h e = rw e (record {
  split = ap (imports_over (snap_of W A l) c)
      (rows_next (λ j. get_or A (order_base l + j) 0) i order h);
})

pub over_end : (W A : List ℕ) (l : Layout) (c order i : ℕ) → order ≤ i → imports_from W A l c order i ≡ []
unfolding imports_over
over_end W A l c order i h = ap (imports_over (snap_of W A l) c) (rows_none (λ j. get_or A (order_base l + j) 0) i order h)

pub order_known : (A : List ℕ) (l : Layout) (order : ℕ) → Each (λ m. m < l.modules) (order_at A l order) → {m : ℕ} (i : ℕ)
    → i < order → m ≡ get_or A (order_base l + i) 0 → m < l.modules
order_known A l order each i h e = rw e (each_rows {P = λ m. m < l.modules} (λ j. get_or A (order_base l + j) 0) order i each h)

-- a bound on all imports

module _ (s : Snapshot) (c : ℕ) (members : length s.members ≤ 3276) where
  of_few : (e : Scope) → length (imports_of s c e) ≤ 3277
  unfolding imports_of
  of_few e =
      let xs = select (is_member_of e.definition) s.members in
      let a = length-append (map (member_import c e) xs) (entry_import c e ∷ []) in
      let b = length-map xs (member_import c e) in
      let d = select_short (is_member_of e.definition) s.members in
      omega arith

  in_few : (es : List Scope) → length (imports_in s c es) ≤ 3277 * length es
  unfolding imports_in
  in_few [] = omega arith
  in_few (e ∷ es) = omega (arith, length-append (imports_of s c e) (imports_in s c es), of_few e, in_few es)

  module _ (scopes : length s.scopes ≤ 2048) where
    entries_few : (m : ℕ) → length (entries_of s m) ≤ 2048
    unfolding entries_of
    entries_few m = omega (arith, length_sort (entry_before s) [] (select (is_public_in m) s.scopes), select_short (is_public_in m) s.scopes)

    pub over_few : (ms : List ℕ) → length (imports_over s c ms) ≤ 6711296 * length ms
    unfolding imports_over
    over_few [] = omega arith
    over_few (m ∷ ms) =
        let a = length-append (imports_in s c (entries_of s m)) (imports_over s c ms) in
        let b = in_few (entries_of s m) in
        let d = entries_few m in
        let f = over_few ms in
        omega arith

-- few enough to be counted, for the modules of a walk
pub over_small : {W A : List ℕ} {l : Layout} → Ready W A l → (c : ℕ) (ms : List ℕ) → length ms ≤ l.scopes + 1
    → import_size * length (imports_over (snap_of W A l) c ms) ≤ 2 ^ 40
over_small {W} {A} {l} r c ms h =
    let e = length_rows (λ k. member_at W (member_base l + member_size * k)) l.members in
    let f = length_rows (λ k. scope_at W (scope_base l + scope_size * k)) l.scopes in
    let few : l.scopes ≤ 2048 = omega (arith, r.reads.tables.whole, r.reads.tables.short) in
    let g : length (snap_of W A l).members ≤ 3276 = omega (arith, r.reads.tables.whole, r.reads.tables.short) in
    let k : length (snap_of W A l).scopes ≤ 2048 = omega arith in
    let b = over_few (snap_of W A l) c g k ms in
    omega arith

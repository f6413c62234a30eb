-- Records of another crate are none of a crate's.
use Prim.Native.Nat.{ℕ, zero, suc, min, ◌+◌, ◌-◌, ◌*◌, ◌≤◌, ◌<◌}
use mathlib.Core.Path.{◌≡◌, refl, sym, ap, ◌∙◌}
use mathlib.Core.List.{List, reverse}
use mathlib.Core.Bool.{Bool, false, ◌&&◌}
use Rattle.std.specs.Prelude.{Option, None}
use native.Mathlib.Omega.{arith}
use borrow.Author.Tests.{ne_eqb}
use Rattle.snapshot.specs.Lists.{rows}
use Rattle.snapshot.specs.Sizes.{extern_size}
use Rattle.snapshot.specs.Records.{Dependency, Extern, extern_at}
use Rattle.snapshot.specs.Layouts.{extern_base, extern_table, snap_of}
use Rattle.snapshot.specs.declared.layout.Layout.{Layout}
use Rattle.record_index.specs.Ranges.{extern_owner_at}
use Rattle.accept.specs.Post.{Reads}
use Rattle.accept.proofs.Valid.{accepted_valid}
use Rattle.accept.proofs.Reading.{extern_read}
use Rattle.accept.proofs.Laws.{and_no}
use Rattle.hir_def.specs.Finds.{first_of}
use Rattle.hir_def.specs.Nameres.{is_dependency, is_extern}
use Rattle.hir_def.specs.Spans.{Parted}
use Rattle.hir_def.specs.declared.Part.{Part}
use Rattle.hir_def.proofs.Lookups.{back_miss, back_none}
use Rattle.hir_def.specs.crate_graph.Among.{among}
use Rattle.hir_def.specs.declared.crate_graph.Which.{Which}
use Rattle.hir_def.specs.declared.crate_graph.Which.TheVariants.{All, Sysroot, Others}

pub others_among : (c : ℕ) (w : Which) (d : Dependency) → (d.owner ≡ c → ⊥) → among c w d ≡ false
others_among c All d n = ne_eqb _ _ n
others_among c Sysroot d n = sym (and_no _ (ne_eqb _ _ n))
others_among c Others d n = sym (and_no _ (ne_eqb _ _ n))

pub others_lang : (c : ℕ) (p : Dependency → Bool) (d : Dependency) → (d.owner ≡ c → ⊥) → (is_dependency c d && p d) ≡ false
others_lang c p d n = sym (and_no _ (ne_eqb _ _ n))

pub others_extern : (c m : ℕ) (e : Extern) → (e.owner ≡ c → ⊥) → is_extern c m e ≡ false
others_extern c m e n = sym (and_no _ (ne_eqb _ _ n))

-- a search backwards passes over records that don't pass
module _ {R : Type 0} (p : R → Bool) (f : ℕ → R) where
  pub back_skip : (d k : ℕ) → ((i : ℕ) → k ≤ i → i < k + d → p (f i) ≡ false)
      → first_of p (reverse (rows f 0 (k + d))) ≡ first_of p (reverse (rows f 0 k))
  back_skip zero k h = let e : k + 0 ≡ k = omega arith in ap (λ n. first_of p (reverse (rows f 0 n))) e
  back_skip (suc d) k h =
      let e : k + suc d - 1 ≡ k + d = omega arith in
      back_miss p f _ (k + suc d) refl (omega arith) refl refl (h (k + suc d - 1) (omega arith) (omega arith))
      ∙ ap (λ n. first_of p (reverse (rows f 0 n))) e ∙ back_skip d k (λ i u v. h i u (omega arith))

-- the externs of a crate, backwards
module _ (W A : List ℕ) (l : Layout) (r : Reads W A l) (c m : ℕ) (p : Part) (f : Parted l A extern_table c p) {b : ℕ} (e : b ≡ extern_base l) where
  abbrev at : ℕ → Extern
  at i = extern_at W (b + extern_size * i)

  abbrev upto : ℕ → Option Extern
  upto k = first_of (is_extern c m) (reverse (rows at 0 k))

  outside : (i : ℕ) → i < l.externs → (p.low ≤ i → i < p.high → ⊥) → is_extern c m (at i) ≡ false
  outside i h n =
      others_extern c m (at i)
      (λ q.
      let w = f (extern_owner_at W l) l.externs r.tables.index.externs
      (λ j o. (extern_read W A l (accepted_valid W (snap_of W A l) r.same) j o).owner) i h
      (ap (λ z. (extern_at W (z + extern_size * i)).owner) (sym e) ∙ q) in
      n w.0 w.1)

  pub extern_high : {k : ℕ} → k ≡ min p.high l.externs → (k ≤ l.externs) × (upto l.externs ≡ upto k)
  extern_high {k} q =
      let g : k ≤ l.externs = omega (arith, q) in
      let z : k + (l.externs - k) ≡ l.externs = omega (arith, g) in (
        g,
        ap upto (sym z)
            ∙ back_skip (is_extern c m) at (l.externs - k) k (λ i u v. outside i (omega (arith, z, v)) (λ a o. omega (arith, q, u, o, z, v))),
      )

  pub extern_low : {k : ℕ} → k ≤ p.low → k ≤ l.externs → None ≡ upto k
  extern_low {k} h g =
      let z : 0 + k ≡ k = omega arith in
      back_none (is_extern c m) at (upto 0) 0 refl (omega arith)
      ∙ sym (back_skip (is_extern c m) at k 0 (λ i u v. outside i (omega (arith, z, v, g)) (λ a o. omega (arith, a, v, h)))) ∙ ap upto z

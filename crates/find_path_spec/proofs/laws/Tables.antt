-- What accepted words give the code of the search, and what stays while the tables stay.
use Prim.Native.Nat.{ℕ, ◌≤◌}
use mathlib.Core.Path.{◌≡◌, sym, ◌∙◌, ap}
use mathlib.Core.List.{List, []}
use native.Mathlib.Omega.{arith}
use native.Mathlib.Decide.{dec_le}
use lib.ListN.{length, get_or, take, get_or-eq_default}
use lib.Seq.{get_or-take}
use Rattle.snapshot.specs.Records.{Name, name_at}
use Rattle.snapshot.specs.Layouts.{name_head, snap_of, names_of, table_words}
use Rattle.snapshot.specs.declared.layout.Layout.{Layout}
use Rattle.snapshot.proofs.Laws.{length_rows}
use Rattle.accept.specs.Post.{Reads}
use Rattle.accept.proofs.Tabled.{Kept}
use Rattle.accept.proofs.Stable.{snap_stays, reads_stay}
use Rattle.find_path_spec.specs.declared.FindPathCtx.{FindPathCtx}
use Rattle.find_path_choice.specs.Choices.{name_data}
use Rattle.find_path_spec.specs.Conditions.{Prepared}
use Rattle.find_path_choice.proofs.Names.{name_bytes, name_short}
use Rattle.find_path_spec.proofs.laws.Bounds.{Short}

-- no name of an accepted snapshot is longer than 255 bytes
pub names_short : (W A : List ℕ) (l : Layout) → Reads W A l → Short (snap_of W A l)
unfolding name_data
names_short W A l r n =
    elim (dec_le l.names n) [
      | yes h ↦ past (names_of W A l.names) n (omega (arith, length_rows (λ k. name_at W (name_head A k)) l.names))
      | no h ↦ let a = name_bytes W A l r n (omega arith) in let b = name_short W A l r n (omega arith) in omega arith
    ]
  where
    past : (ns : List Name) (i : ℕ) → length ns ≤ i → (get_or ns i (record { bytes = 0; text = [] })).bytes ≤ 255
    past ns i h = let e = ap (λ (x : Name). x.bytes) (get_or-eq_default ns (record { bytes = 0; text = [] }) h) in omega arith

module _ (W A B : List ℕ) (l : Layout) (same : take table_words B ≡ take table_words A) where
  kept : Kept A B 0 table_words
  kept i u v = sym (get_or-take table_words B i 0 v) ∙ ap (λ (x : List ℕ). get_or x i 0) same ∙ get_or-take table_words A i 0 v

  -- the snapshot is the same, and can be read
  pub same_snap : Reads W A l → snap_of W B l ≡ snap_of W A l
  same_snap r = snap_stays W A B l r.tables kept

  pub same_reads : Reads W A l → Reads W B l
  same_reads r = reads_stay W A B l r kept

  -- the next search can begin
  pub same_prepared : {x : FindPathCtx} → Prepared W A l x → length B ≡ length A → Prepared W B l x
  same_prepared p e = record { reads = same_reads p.reads; from = p.from; area = e ∙ p.area; some = p.some; limit = p.limit }

-- What accepted words say of a name.
use Prim.Native.Nat.{ℕ, ◌≤◌, ◌<◌}
use mathlib.Core.Path.{◌≡◌, sym, ap}
use mathlib.Core.List.{List, []}
use lib.ListN.{get_or}
use Rattle.snapshot.specs.Words.{pay_of}
use Rattle.snapshot.specs.Records.{name_at}
use Rattle.snapshot.specs.Layouts.{name_head, snap_of}
use Rattle.snapshot.specs.declared.layout.Layout.{Layout}
use Rattle.snapshot.proofs.Laws.{get_d_rows}
use Rattle.accept.specs.Post.{Reads}
use Rattle.accept.proofs.Valid.{accepted_valid}
use Rattle.accept.proofs.Bools.{each_rows}
use Rattle.find_path_choice.specs.Choices.{name_data, name_len}

module _ (W A : List ℕ) (l : Layout) (r : Reads W A l) (n : ℕ) (h : n < l.names) where
  pub name_read : name_at W (name_head A n) ≡ name_data (snap_of W A l) n
  unfolding name_data
  name_read = sym (get_d_rows (λ k. name_at W (name_head A k)) (record { bytes = 0; text = [] }) l.names n h)

  pub name_bytes : pay_of (get_or W (name_head A n) 0) ≡ name_len (snap_of W A l) n
  name_bytes = ap (λ x. x.bytes) name_read

  pub name_short : pay_of (get_or W (name_head A n) 0) ≤ 255
  name_short = (each_rows (λ k. name_at W (name_head A k)) l.names n (accepted_valid W (snap_of W A l) r.same).ranges.names h).bytes

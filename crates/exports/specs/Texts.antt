-- The text of a name, and whether an edition writes it with `r#`, by the tables that the check left.
use Rattle.std.specs.Prelude.{ℕ, ◌≤◌, ◌<◌, ◌≡◌, List, [], ◌++◌, Bool, true, false, ltb, length, get_or, take, drop}
use Rattle.snapshot.specs.Words.{pay_of, text_at}
use Rattle.snapshot.specs.Records.{name_at}
use Rattle.snapshot.specs.Layouts.{name_head, snap_of}
use Rattle.snapshot.specs.declared.layout.Layout.{Layout}
use Rattle.keywords.specs.Keywords.{is_raw}
use Rattle.accept.specs.Post.{Reads}
use Rattle.find_path_choice.specs.Choices.{name_data}
use Rattle.find_path_spec.specs.Line.{unpacked, text_of}

-- the bytes of the name with its head at a place, as far as the words go
abbrev pub text_from : List ℕ → ℕ → List ℕ
text_from W h = take (pay_of (get_or W h 0)) (unpacked (text_at W h))

-- T has the heads of the names; a number past them has no text
unfoldable pub name_text : List ℕ → List ℕ → ℕ → List ℕ
name_text W T k = elim (ltb k (length T)) [ true ↦ text_from W (name_head T k) | false ↦ [] ]

-- r is the length of the text, which stands at the front where there is room for all of it; all else stays
pub record Copied (text old new : List ℕ) (r : ℕ) : Type 0 where
  pub long : r ≡ length text
  pub put : r ≤ length old → new ≡ text ++ drop r old
  pub kept : length old < r → new ≡ old

-- where T begins the area that the check of accepted words left, and has the head of each name, the text is that of the snapshot
abbrev pub Named : List ℕ → List ℕ → ℕ → List ℕ → Type 0
Named W T k text =
    (A : List ℕ) (l : Layout) → Reads W A l → T ≡ take (length T) A → l.names ≤ length T → k < l.names
    → text ≡ text_of (snap_of W A l) k

-- whether an edition writes the name with `r#`; a number past the heads names nothing
unfoldable pub name_raw : List ℕ → List ℕ → ℕ → ℕ → Bool
name_raw W T k e = elim (ltb k (length T)) [ true ↦ is_raw e (name_at W (name_head T k)) | false ↦ false ]

-- with tables as for `Named`, it is asked of the snapshot's name
abbrev pub RawNamed : List ℕ → List ℕ → ℕ → ℕ → Type 0
RawNamed W T k e =
    (A : List ℕ) (l : Layout) → Reads W A l → T ≡ take (length T) A → l.names ≤ length T → k < l.names
    → name_raw W T k e ≡ is_raw e (name_data (snap_of W A l) k)

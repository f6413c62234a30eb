-- The text of a name, and whether an edition writes it with `r#`.
use Prim.Native.Nat.{ℕ, zero, suc, ◌+◌, ◌*◌, ◌≤◌, ◌<◌}
use mathlib.Core.Path.{◌≡◌, refl, sym, ◌∙◌, ap, ap₂}
use mathlib.Core.List.{List, [], ◌∷◌, ◌++◌}
use mathlib.Core.Bool.{Bool, false}
use native.Mathlib.Omega.{arith}
use borrow.Author.Tests.{lt-ltb, le-ltb}
use lib.ListN.{length, get_or, take, drop, length-take}
use lib.Seq.{get_or-take}
use Rattle.snapshot.specs.Words.{pay_of, words_of, text_at}
use Rattle.snapshot.specs.Records.{name_at}
use Rattle.snapshot.specs.Layouts.{name_head, snap_of}
use Rattle.snapshot.specs.declared.layout.Layout.{Layout}
use Rattle.snapshot.proofs.Laws.{get_d_rows}
use Rattle.printing.specs.Output.{Put}
use Rattle.printing.proofs.Laws.{put_whole}
use Rattle.find_path_choice.specs.Choices.{name_data, name_len}
use Rattle.keywords.specs.Keywords.{is_raw}
use Rattle.find_path_spec.specs.Line.{unpacked}
use Rattle.line.proofs.Laws.{length_unpacked, name_text_lem}
use Rattle.exports.specs.Texts.{text_from, name_text, Copied, Named, name_raw, RawNamed}

-- how many bytes the words hold
pub held_all : (ws : List ℕ) (b : ℕ) → words_of b ≤ length ws → b ≡ length (take b (unpacked ws))
held_all ws b h = omega (arith, length-take b (unpacked ws), length_unpacked ws)

pub held_cut : (ws : List ℕ) (b : ℕ) → length ws < words_of b → 3 * length ws ≡ length (take b (unpacked ws))
held_cut ws b h = omega (arith, length-take b (unpacked ws), length_unpacked ws)

pub held_within : (ws : List ℕ) (b n : ℕ) → n ≡ length (take b (unpacked ws)) → n ≤ 3 * length ws
held_within ws b n q = omega (arith, length-take b (unpacked ws), length_unpacked ws)

take_held : (T : List ℕ) (b n : ℕ) → n ≡ length (take b T) → take n T ≡ take b T
take_held T zero n e = rw e
take_held [] (suc b) n e = rw e
take_held (x ∷ T) (suc b) zero e = absurd (omega arith)
take_held (x ∷ T) (suc b) (suc n) e = ap (λ z. x ∷ z) (take_held T b n (omega arith))

-- the text of a name

pub name_none : (W T : List ℕ) (k : ℕ) → length T ≤ k → [] ≡ name_text W T k
unfolding name_text
name_none W T k h = rw (name_text, le-ltb _ _ h)

pub name_some : (W T : List ℕ) (k : ℕ) → k < length T → text_from W (name_head T k) ≡ name_text W T k
unfolding name_text
name_some W T k h = rw (name_text, lt-ltb _ _ h)

-- no text
pub copied_none : (W T O : List ℕ) (k : ℕ) → length T ≤ k → Copied (name_text W T k) O O 0
copied_none W T O k h =
    let e = name_none W T k h in
    record { long = ap length e; put = λ g. ap (λ x. x ++ O) e; kept = λ g. absurd (omega arith) }

module _ (W T O X : List ℕ) (k n b head : ℕ) (h : k < length T) (place : head ≡ name_head T k) (e : X ≡ text_at W head)
    (count : b ≡ pay_of (get_or W head 0)) (q : n ≡ length (take b (unpacked X))) where
  whole : take b (unpacked X) ≡ name_text W T k
  whole = ap₂ (λ x y. take x (unpacked y)) count e ∙ ap (text_from W) place ∙ name_some W T k h

  -- no room
  pub copied_not : length O < n → Copied (name_text W T k) O O n
  copied_not g = record { long = q ∙ ap length whole; put = λ p. absurd (omega arith); kept = λ p. refl }

  pub copied_whole : n ≤ length O → {N : List ℕ} {r : ℕ} → Put O 0 (take n (unpacked X)) N r → r ≡ 0 + n → Copied (name_text W T k) O N r
  copied_whole g {N} {r} p f =
      let e : n ≡ length (name_text W T k) = q ∙ ap length whole in
      record {
        long = omega (arith, e, f);
        put = λ m. put_whole p ∙ ap (λ x. x ++ drop r O) (take_held (unpacked X) b n q ∙ whole);
        kept = λ m. absurd (omega arith);
      }

name_bytes : (W A : List ℕ) (l : Layout) (k : ℕ) → k < l.names → pay_of (get_or W (name_head A k) 0) ≡ name_len (snap_of W A l) k
unfolding name_data
name_bytes W A l k h =
    ap (λ x. x.bytes) (sym (get_d_rows (λ j. name_at W (name_head A j)) (record { bytes = 0; text = [] }) l.names k h))

head_kept : (T A : List ℕ) (k : ℕ) → T ≡ take (length T) A → k < length T → name_head T k ≡ name_head A k
head_kept T A k e q = ap (λ x. get_or x k 0) e ∙ get_or-take (length T) A k 0 q

-- the text is the snapshot's
pub named : (W T : List ℕ) (k : ℕ) → Named W T k (name_text W T k)
named W T k A l r e g h =
    let q : k < length T = omega arith in
    let p = head_kept T A k e q in
    sym (name_some W T k q)
    ∙ ap (text_from W) p
    ∙ name_text_lem W A l r k h (text_at W (name_head A k)) (pay_of (get_or W (name_head A k) 0)) refl (name_bytes W A l k h)

-- `r#`

pub raw_none : (W T : List ℕ) (k e : ℕ) → length T ≤ k → false ≡ name_raw W T k e
unfolding name_raw
raw_none W T k e h = rw (name_raw, le-ltb _ _ h)

raw_some : (W T : List ℕ) (k e : ℕ) → k < length T → is_raw e (name_at W (name_head T k)) ≡ name_raw W T k e
unfolding name_raw
raw_some W T k e h = rw (name_raw, lt-ltb _ _ h)

pub raw_there : (W T : List ℕ) (k e : ℕ) {h : ℕ} {b : Bool} → k < length T → h ≡ name_head T k → b ≡ is_raw e (name_at W h) → b ≡ name_raw W T k e
raw_there W T k e q p r = r ∙ ap (λ x. is_raw e (name_at W x)) p ∙ raw_some W T k e q

pub raw_named : (W T : List ℕ) (k e : ℕ) → RawNamed W T k e
unfolding name_data
raw_named W T k e A l r f g h =
    let q : k < length T = omega arith in
    sym (raw_some W T k e q)
    ∙ ap (λ x. is_raw e (name_at W x)) (head_kept T A k f q)
    ∙ ap (is_raw e) (sym (get_d_rows (λ j. name_at W (name_head A j)) (record { bytes = 0; text = [] }) l.names k h))

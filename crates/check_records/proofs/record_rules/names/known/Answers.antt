use Prim.Native.Nat.{ℕ, ◌<◌}
use mathlib.Core.Path.{◌≡◌, sym, ap, ◌∙◌}
use mathlib.Core.List.{List}
use mathlib.Core.Bool.{Bool}
use native.Mathlib.Omega.{arith}
use lib.ListN.{get_or, take}
use lib.Seq.{length-take-le, get_or-take}
use Rattle.snapshot.specs.Lists.{any}
use Rattle.snapshot.specs.Words.{pay_of, words_of}
use Rattle.snapshot.specs.Records.{name_at}
use Rattle.snapshot.proofs.Laws.{rows_whole, any_hit, any_miss, any_none}
use Rattle.check_rules.specs.Tests.{same_name}
use Rattle.check_records.proofs.record_rules.names.known.Goals as goal

pub loop-head-init : goal.loop-head-init
loop-head-init c = (omega arith, rows_whole (any _) _ _)

pub same_text-requires : goal.same_text-requires
same_text-requires c =
    let e = c.payload.ensures in (
      omega (arith, c.shared_slice_known-3-1.given c.loop-head.head-index, c.text_words-size.ensures, e),
      c.text_words-size.ensures
          ∙ ap words_of e,
      c.payload_of-last.ensures ∙ ap pay_of c.field.ensures,
    )

-- the test of the turn is that of the head at its index
same_head : (W N H : List ℕ) (at n k : ℕ) {t b : Bool} → k < n → t ≡ same_name (name_at W at) (name_at N (get_or (take n H) k 0)) → t ≡ b
    → same_name (name_at W at) (name_at N (get_or H k 0)) ≡ b
same_head W N H at n k h e q = ap (λ j. same_name (name_at W at) (name_at N j)) (sym (get_or-take n H k 0 h)) ∙ sym e ∙ q

pub returns-then-same_text : goal.returns-then-same_text
returns-then-same_text c =
    let l = c.loop-head in
    let a = c.args in
    let z = length-take-le a.n a.heads.now c.requires.1 in
    let h : l.head-index < a.n = omega arith in
    any_hit _ _ _ _ _ l.invariant.1 h (same_head a.words.now a.names.now a.heads.now a.at a.n l.head-index h c.same_text.ensures c.if-same_text.true)

pub loop-head-preserved : goal.loop-head-preserved
loop-head-preserved c =
    let l = c.loop-head in
    let a = c.args in
    let z = length-take-le a.n a.heads.now c.requires.1 in
    let h : l.head-index < a.n = omega arith in (
      omega arith,
      any_miss _ _ _ _ _ l.invariant.1 h
          (same_head a.words.now a.names.now a.heads.now a.at a.n l.head-index h c.same_text.ensures c.if-same_text.false),
    )

pub returns : goal.returns
returns c = let z = length-take-le c.args.n c.args.heads.now c.requires.1 in any_none _ _ _ _ _ c.loop-head.invariant.1 (omega arith)

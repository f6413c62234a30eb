-- What the entry point leaves, by the definition of a join.
use Prim.Native.Nat.{ℕ, ◌+◌, ◌^◌, ◌≤◌, ◌<◌}
use mathlib.Core.Path.{◌≡◌, refl, sym, ◌∙◌, ap, ap₂, subst}
use mathlib.Core.List.{List, ◌++◌, map}
use mathlib.Core.Bool.{Bool, true, false, ◌&&◌, not, false≢true}
use native.Mathlib.Omega.{arith}
use native.Mathlib.Nat.{zero-add}
use borrow.Author.Tests.{lt-ltb, le-ltb, le-leb, lt-leb, leb-true, not-true, not-false}
use lib.Dec.{leb}
use lib.ListN.{length, get_or, drop, length-append, length-map}
use lib.Seq.{sets, sets-eq}
use Rattle.snapshot.specs.Limits.{word_limit, crate_limit, module_limit, name_limit, definition_limit}
use Rattle.snapshot.specs.Records.{Snapshot}
use Rattle.snapshot.specs.declared.layout.Layout.{Layout}
use Rattle.check_rules.specs.Tests.{same_name}
use Rattle.check_rules.specs.Verdict.{refuse, accept, verdict}
use Rattle.accept.specs.Post.{Reads}
use Rattle.accept.proofs.Bools.{and_two}
use Rattle.accept.proofs.Valid.{accepted_valid}
use Rattle.hir_def.specs.Finds.{select}
use Rattle.find_path_spec.proofs.laws.Walks.{select_short}
use Rattle.answer.specs.Answers.{zeros}
use Rattle.answer.proofs.Areas.{area_small, area_large}
use Rattle.join_rules.specs.Joined.{is_new, merged, same_builtin, second_numbers, module_to, definition_to, together, joined_words, is_within}
use Rattle.join_rules.specs.Joined.{Joining}
use Rattle.join_rules.specs.Joined.{refused_by, joined_as, join_in, join_by, join_of}
use Rattle.join_rules.proofs.Joins.{joined_accepted}
use Rattle.join.specs.numbers.Parts.{part_of, Part, Ready}
use Rattle.join.specs.numbers.Numbered.{Numbered}
use Rattle.join.specs.declared.numbers.tables.New.{New}
use Rattle.join.proofs.numbers.Parts.{part_of_lem, read_is}
use Rattle.join.specs.records.Moves.{words_to}
use Rattle.join.specs.records.Writes.{Space, Wrote, Whole}
use Rattle.answer.specs.counts.Targets.{written}
use Rattle.join.proofs.records.Laws.{words_few}
use Rattle.join.specs.Joins.{number_in, words_in, Joins, JoinsIn, fits_in}
use Rattle.answer.specs.counts.Counts.{Counted}
use Rattle.join.proofs.Low.{accepted_low}
use Rattle.join.proofs.Words.{words_same}

-- the limits

module _ (w n c m d r : ℕ) where
  pub fits_words : word_limit < w → false ≡ fits_in w n c m d r
  unfolding fits_in
  fits_words a = rw (fits_in, lt-leb w word_limit a)

  module _ (p : w ≤ word_limit) where
    pub fits_names : name_limit < n → false ≡ fits_in w n c m d r
    unfolding fits_in
    fits_names a = rw (fits_in, le-leb w word_limit p, lt-leb n name_limit a)

    module _ (q : n ≤ name_limit) where
      pub fits_crates : crate_limit < c → false ≡ fits_in w n c m d r
      unfolding fits_in
      fits_crates a = rw (fits_in, le-leb w word_limit p, le-leb n name_limit q, lt-leb c crate_limit a)

      module _ (o : c ≤ crate_limit) where
        pub fits_modules : module_limit < m → false ≡ fits_in w n c m d r
        unfolding fits_in
        fits_modules a = rw (fits_in, le-leb w word_limit p, le-leb n name_limit q, le-leb c crate_limit o, lt-leb m module_limit a)

        module _ (u : m ≤ module_limit) where
          pub fits_definitions : definition_limit < d → false ≡ fits_in w n c m d r
          unfolding fits_in
          fits_definitions a =
              rw (fits_in, le-leb w word_limit p, le-leb n name_limit q, le-leb c crate_limit o, le-leb m module_limit u, lt-leb d definition_limit a)

          pub fits_room : d ≤ definition_limit → leb w r ≡ fits_in w n c m d r
          unfolding fits_in
          fits_room a =
              rw (fits_in, le-leb w word_limit p, le-leb n name_limit q, le-leb c crate_limit o, le-leb m module_limit u, le-leb d definition_limit a)

-- a refusal
pub joins_not : {T : List ℕ} {e : Joining} (k : ℕ) → e ≡ refused_by k → Joins T e T (record { number = k; count = 0 })
unfolding number_in words_in
joins_not {T} k q = subst (λ x. Joins T x T (record { number = k; count = 0 })) (sym q) (record { number = refl; count = refl; target = refl })

-- two accepted snapshots
module _ {W X A B : List ℕ} {l m : Layout} {n : New} (r : Ready W X A l m) (f : Numbered (part_of W) (part_of X) A B n) where
  abbrev s : Snapshot
  s = part_of W

  abbrev t : Snapshot
  t = part_of X

  second : Part X m
  second = part_of_lem X A m r.second

  pub wholes : Whole W l × Whole X m
  wholes =
      (record { whole = r.first.whole; short = r.first.short }, record { whole = r.second.tables.whole; short = r.second.tables.short })

  same : words_to B l m W X ≡ joined_words s t
  same = words_same B W X l m r.first second f.numbers

  -- to be counted
  pub count_space : (T : List ℕ) → Space false 0 (words_to B l m W X) T
  count_space T =
      let h = words_few B wholes.0 wholes.1 in
      record { small = omega arith; room = λ z. absurd (false≢true z); fits = λ z. absurd (false≢true z) }

  name_count : l.names + n.names ≡ length (together s t).names
  unfolding together merged
  name_count = omega (arith, r.first.counted.names, f.names, length-append s.names (select (is_new same_name s.names) t.names))

  definition_count : l.definitions + n.definitions ≡ length (together s t).definitions
  unfolding together
  definition_count =
      let a = r.first.counted.definitions in
      let b = f.definitions in
      let ds = select (is_new (same_builtin s t) s.definitions) t.definitions in
      let c = length-append s.definitions (map (definition_to (second_numbers s t)) ds) in
      let d = length-map ds (definition_to (second_numbers s t)) in
      omega arith

  crate_count : l.crates + m.crates ≡ length (together s t).crates
  unfolding together
  crate_count = omega (arith, r.first.counted.crates, second.counted.crates, length-append s.crates t.crates)

  module_count : l.modules + m.modules ≡ length (together s t).modules
  unfolding together
  module_count =
      let a = r.first.counted.modules in
      let b = second.counted.modules in
      let c = length-append s.modules (map (module_to (second_numbers s t)) t.modules) in
      let d = length-map t.modules (module_to (second_numbers s t)) in
      omega arith

  -- the sums that the limits are asked of
  pub record Sums : Type 0 where
    pub names : l.names + n.names ≤ 4096
    pub crates : l.crates + m.crates ≤ 128
    pub modules : l.modules + m.modules ≤ 1024
    pub definitions : l.definitions + n.definitions ≤ 4096

  pub sums : Sums
  sums =
      let v = (accepted_valid W s r.first.same).limits in
      let w = (accepted_valid X t second.same).limits in
      let v0 = v.names in
      let v1 = v.crates in
      let v2 = v.modules in
      let v3 = v.definitions in
      let w0 = w.names in
      let w1 = w.crates in
      let w2 = w.modules in
      let w3 = w.definitions in
      let a0 = r.first.counted.names in
      let a1 = r.first.counted.crates in
      let a2 = r.first.counted.modules in
      let a3 = r.first.counted.definitions in
      let b1 = second.counted.crates in
      let b2 = second.counted.modules in
      let c0 = f.names in
      let c3 = f.definitions in
      let d0 = select_short (is_new same_name s.names) t.names in
      let d3 = select_short (is_new (same_builtin s t) s.definitions) t.definitions in
      record { names = omega arith; crates = omega arith; modules = omega arith; definitions = omega arith }

  module _ {T U : List ℕ} {count : ℕ} (w : Wrote false 0 (words_to B l m W X) T U count) where
    pub counted_same : U ≡ T
    unfolding written
    counted_same = w.same

    counted : count ≡ length (joined_words s t)
    counted = let a = w.next in let b = ap length same in omega arith

    fits_same : (room : ℕ) → fits_in count (l.names + n.names) (l.crates + m.crates) (l.modules + m.modules)
        (l.definitions + n.definitions) room
        ≡ (is_within (together s t) && leb (length (joined_words s t)) room)
    unfolding fits_in
    fits_same room =
        let p = counted in
        let a = name_count in
        let b = crate_count in
        let c = module_count in
        let d = definition_count in
        λ i. (leb (p i) word_limit && leb (a i) name_limit && leb (b i) crate_limit && leb (c i) module_limit && leb (d i) definition_limit)
        && leb (p i) room

    module _ {b : Bool}
        (e : b ≡ fits_in count (l.names + n.names) (l.crates + m.crates) (l.modules + m.modules) (l.definitions + n.definitions) (length U))
      where
        room_same : b ≡ (is_within (together s t) && leb (length (joined_words s t)) (length T))
        room_same = e ∙ fits_same (length U) ∙ ap (λ j. is_within (together s t) && leb (length (joined_words s t)) (length j)) counted_same

        pub join_not : not b ≡ true → Joins T (join_in (length T) s t) U (record { number = 51; count = 0 })
        unfolding join_in
        join_not h =
            let q : (is_within (together s t) && leb (length (joined_words s t)) (length T)) ≡ false = sym room_same ∙ not-true b h in
            subst (λ y. Joins T (join_in (length T) s t) y (record { number = 51; count = 0 })) (sym counted_same)
            (joins_not 51 (rw (join_in, q)))

        module _ (h : not b ≡ false) where
          within : (is_within (together s t) ≡ true) × (leb (length (joined_words s t)) (length T) ≡ true)
          within = and_two (is_within (together s t)) (leb (length (joined_words s t)) (length T)) (sym room_same ∙ not-false b h)

          -- to be written
          pub write_space : Space true 0 (words_to B l m W X) U
          write_space =
              let k = words_few B wholes.0 wholes.1 in
              let a = leb-true (length (joined_words s t)) (length T) within.1 in
              let z = ap length same in
              let y = ap length counted_same in
              let v = joined_accepted W X s t r.first.same second.same within.0 in
              record {
                small = omega arith;
                room = λ o. omega arith;
                fits = λ o i j.
                    subst (λ g. g < 2 ^ 32) (ap (λ g. get_or g i 0) (sym same)) (accepted_low (joined_words s t) _ v i (omega arith));
              }

          pub join_done : {Y : List ℕ} {k : ℕ} → Wrote true 0 (words_to B l m W X) U Y k
              → Joins T (join_in (length T) s t) Y (record { number = 0; count = count })
          unfolding join_in written number_in words_in
          join_done {Y} {k} v =
              let ws = joined_words s t in
              let a = leb-true (length ws) (length T) within.1 in
              let q : (is_within (together s t) && leb (length ws) (length T)) ≡ true = sym room_same ∙ not-false b h in
              let p : join_in (length T) s t ≡ joined_as ws = rw (join_in, q) in
              let g : 0 + length ws ≤ length T = omega arith in
              subst (λ j. Joins T j Y (record { number = 0; count = count })) (sym p)
              (record {
                number = refl;
                count = counted;
                target = v.same ∙ ap₂ (λ x y. sets y 0 x) same counted_same ∙ sets-eq ws T 0 g ∙ ap (λ j. ws ++ drop j T) (zero-add (length ws));
              })

-- the checks before it

module _ (W X T : List ℕ) where
  pub second_not : {k at : ℕ} → refuse k at ≡ verdict X → Joins T (join_by (length T) (accept (part_of W)) (verdict X)) T
      (record { number = k; count = 0 })
  unfolding join_by
  second_not {k} e = joins_not k (ap (join_by (length T) (accept (part_of W))) (sym e))

  pub second_done : {A : List ℕ} {m : Layout} {Y : List ℕ} {r : Counted} → Reads X A m → Joins T (join_in (length T) (part_of W) (part_of X)) Y r
      → Joins T (join_by (length T) (accept (part_of W)) (verdict X)) Y r
  unfolding join_by
  second_done {A} {m} {Y} {r} q h =
      subst (λ v. Joins T (join_by (length T) (accept (part_of W)) v) Y r) (sym (q.same ∙ ap accept (sym (read_is X A m q)))) h

  pub first_not : {k at : ℕ} → refuse k at ≡ verdict W → Joins T (join_by (length T) (verdict W) (verdict X)) T (record { number = k; count = 0 })
  unfolding join_by
  first_not {k} e = joins_not k (ap (λ v. join_by (length T) v (verdict X)) (sym e))

  pub first_done : {A : List ℕ} {l : Layout} {Y : List ℕ} {r : Counted} → Reads W A l
      → Joins T (join_by (length T) (accept (part_of W)) (verdict X)) Y r
      → Joins T (join_by (length T) (verdict W) (verdict X)) Y r
  first_done {A} {l} {Y} {r} q h =
      subst (λ v. Joins T (join_by (length T) v (verdict X)) Y r) (sym (q.same ∙ ap accept (sym (read_is W A l q)))) h

-- the work area

pub joins_small : (W X A T : List ℕ) → length A < 16384 → JoinsIn W X A T T A (record { number = 20; count = 0 })
unfolding join_of
joins_small W X A T h = record { join = joins_not 20 (rw (join_of, lt-ltb _ _ h)); area = area_small A h }

pub joins_large : (W X A T Y B : List ℕ) (r : Counted) → 16384 ≤ length A → B ≡ zeros 16384 → Joins T (join_by (length T) (verdict W) (verdict X)) Y r
    → JoinsIn W X A T Y (B ++ drop 16384 A) r
unfolding join_of
joins_large W X A T Y B r h z q =
    record {
      join = subst (λ e. Joins T e Y r) (sym (let e : join_of (length A) W X (length T) ≡ join_by (length T) (verdict W) (verdict X) =
          rw (join_of, le-ltb _ _ h) in e)) q;
      area = area_large A B h z;
    }

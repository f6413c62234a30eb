-- Laws of the keywords.
use Prim.Native.Nat.{ℕ, ◌≤◌, ◌<◌}
use mathlib.Core.Path.{◌≡◌, refl, sym, ◌∙◌, ap}
use mathlib.Core.List.{List, [], ◌∷◌, map}
use mathlib.Core.Bool.{Bool, true, false, ◌&&◌, not, false≢true}
use native.Mathlib.Omega.{arith}
use lib.Dec.{leb, ltb}
use lib.ListN.{take}
use borrow.Author.Tests.{ltb-true, ltb-false, lt-ltb, le-ltb, le-leb, lt-leb, leb-true, eqb-true}
use Rattle.snapshot.specs.Lists.{rows, any, all}
use Rattle.snapshot.specs.Records.{Name}
use Rattle.check_rules.specs.Tests.{same_name}
use Rattle.check_records.proofs.record_rules.Judged.{and_left, and_right}
use Rattle.keywords.specs.Keywords.{Keyword, keywords, is_keyword, is_raw, plain_words}
use Rattle.keywords.specs.Editions.{keywords_in}

-- how many keywords an edition has, test by test
module _ (e : ℕ) where
  pub in_none : e < 2015 → 0 ≡ keywords_in e
  unfolding keywords_in
  in_none h = rw (keywords_in, lt-ltb e 2015 h)

  pub in_first : 2015 ≤ e → e < 2018 → 48 ≡ keywords_in e
  unfolding keywords_in
  in_first g h = rw (keywords_in, le-ltb e 2015 g, lt-ltb e 2018 h)

  pub in_second : 2015 ≤ e → 2018 ≤ e → e < 2024 → 52 ≡ keywords_in e
  unfolding keywords_in
  in_second f g h = rw (keywords_in, le-ltb e 2015 f, le-ltb e 2018 g, lt-ltb e 2024 h)

  pub in_third : 2015 ≤ e → 2018 ≤ e → 2024 ≤ e → 53 ≡ keywords_in e
  unfolding keywords_in
  in_third f g h = rw (keywords_in, le-ltb e 2015 f, le-ltb e 2018 g, le-ltb e 2024 h)

-- the first keywords of a list that has them all, so many as an edition has, are its keywords
module _ (x : Name) (f : ℕ → Name) (h : rows f 0 53 ≡ map (λ (k : Keyword). k.name) keywords) (e : ℕ) where
  by_first : (n : ℕ) → n ≡ keywords_in e → any (same_name x) (rows f 0 n) ≡ is_keyword e x
      → any (same_name x) (rows f 0 (keywords_in e)) ≡ is_keyword e x
  by_first n p q = ap (λ m. any (same_name x) (rows f 0 m)) (sym p) ∙ q

  edition_keywords : any (same_name x) (rows f 0 (keywords_in e)) ≡ is_keyword e x
  unfolding rows any is_keyword
  edition_keywords = by_2015 (ltb e 2015) refl
    where
      by_2024 : 2018 ≤ e → (b : Bool) → ltb e 2024 ≡ b → any (same_name x) (rows f 0 (keywords_in e)) ≡ is_keyword e x
      by_2024 g true t =
          let r = ltb-true e 2024 t in
          by_first 52 (in_second e (omega arith) g r) (ap (any (same_name x)) (ap (take 52) h)
          ∙ sym (rw (is_keyword, le-leb 2015 e (omega arith), le-leb 2018 e g, lt-leb 2024 e r)))
      by_2024 g false t =
          let r = ltb-false e 2024 t in
          by_first 53 (in_third e (omega arith) g r) (ap (any (same_name x)) h
          ∙ sym (rw (is_keyword, le-leb 2015 e (omega arith), le-leb 2018 e g, le-leb 2024 e r)))

      by_2018 : 2015 ≤ e → (b : Bool) → ltb e 2018 ≡ b → any (same_name x) (rows f 0 (keywords_in e)) ≡ is_keyword e x
      by_2018 g true t =
          let r = ltb-true e 2018 t in
          by_first 48 (in_first e g r) (ap (any (same_name x)) (ap (take 48) h)
          ∙ sym (rw (is_keyword, le-leb 2015 e g, lt-leb 2018 e r, lt-leb 2024 e (omega arith))))
      by_2018 g false t = by_2024 (ltb-false e 2018 t) (ltb e 2024) refl

      by_2015 : (b : Bool) → ltb e 2015 ≡ b → any (same_name x) (rows f 0 (keywords_in e)) ≡ is_keyword e x
      by_2015 true t =
          let r = ltb-true e 2015 t in
          by_first 0 (in_none e r) (sym (rw (is_keyword, lt-leb 2015 e r, lt-leb 2018 e (omega arith), lt-leb 2024 e (omega arith))))
      by_2015 false t = by_2018 (ltb-false e 2015 t) (ltb e 2018) refl

  pub edition_known : {n : ℕ} {r : Bool} → r ≡ any (same_name x) (rows f 0 n) → n ≡ keywords_in e → r ≡ is_keyword e x
  edition_known p q = p ∙ ap (λ m. any (same_name x) (rows f 0 m)) q ∙ edition_keywords

-- a keyword is of one to eight bytes

pub record Short (x : Name) : Type 0 where
  pub some : 1 ≤ x.bytes
  pub few : x.bytes ≤ 8

among_short : (e : ℕ) (x : Name) (ks : List Keyword) → all (λ k. leb 1 k.name.bytes && leb k.name.bytes 8) ks ≡ true
    → any (λ k. leb k.since e && same_name x k.name) ks ≡ true → Short x
unfolding any all
among_short e x [] s h = absurd (false≢true h)
among_short e x (k ∷ ks) s h =
    by (leb k.since e && same_name x k.name) refl
    (λ r. among_short e x ks (and_right (leb 1 k.name.bytes && leb k.name.bytes 8) _ s) r)
  where
    by : (b : Bool) → leb k.since e && same_name x k.name ≡ b
        → (any (λ k. leb k.since e && same_name x k.name) ks ≡ true → Short x) → Short x
    by true t rest =
        let q = eqb-true x.bytes k.name.bytes (and_left _ _ (and_right (leb k.since e) (same_name x k.name) t)) in
        let p = and_left (leb 1 k.name.bytes && leb k.name.bytes 8) _ s in
        let u = leb-true 1 k.name.bytes (and_left _ _ p) in
        let v = leb-true k.name.bytes 8 (and_right (leb 1 k.name.bytes) _ p) in
        record { some = omega arith; few = omega arith }
    by false t rest = rest (rw t at h)

pub raw_short : (e : ℕ) (x : Name) → is_raw e x ≡ true → Short x
unfolding is_raw is_keyword all
raw_short e x h = among_short e x keywords refl (and_left (is_keyword e x) (not (any (same_name x) plain_words)) h)

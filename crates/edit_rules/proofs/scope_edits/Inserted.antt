-- Accepted words with one scope record more, after the last, are accepted, with its entry at the end of the list; the records after it stand
-- higher.
use Prim.Native.Nat.{ℕ, zero, suc, ◌+◌, ◌-◌, ◌/◌, ◌%◌, ◌≤◌, ◌<◌}
use mathlib.Core.Path.{◌≡◌, refl, sym, ◌∙◌, ap, subst}
use mathlib.Core.List.{List, [], ◌∷◌, ◌++◌}
use mathlib.Core.Bool.{true, false}
use native.Mathlib.Omega.{arith}
use native.Mathlib.Nat.{add-zero, zero-add}
use lib.Dec.{eqb}
use lib.ListN.{length, get_or}
use borrow.Author.Tests.{eq-eqb, le-leb, ltb-true, ltb-false}
use Rattle.snapshot.specs.Lists.{any}
use Rattle.snapshot.specs.Limits.{word_limit, crate_limit, module_limit}
use Rattle.snapshot.specs.Words.{kind_of, pay_of, arguments_of, arguments_at}
use Rattle.snapshot.specs.Sizes.{scope_size}
use Rattle.snapshot.specs.Records.{Snapshot, Scope, scope_at}
use Rattle.check_rules.specs.Tests.{counts_of, ns_placed, same_entry, scope_defined, scope_range}
use Rattle.check_rules.specs.Steps.{add_scope, scope_step}
use Rattle.check_rules.specs.Verdict.{follows, arguments_from, accept, records, empty, verdict}
use Rattle.accept.specs.Valid.{ScopeFits, Limits}
use Rattle.accept.proofs.Ranges.{scope_fits, accepted_limits}
use Rattle.edit_rules.specs.Entries.{higher, moved_scope, placed, with_scopes, scope_words, is_later, scopes_end, inserted}
use Rattle.edit_rules.proofs.scope_edits.Lists.{inserted_length, inserted_before, inserted_at, inserted_after}
use Rattle.edit_rules.proofs.scope_edits.Moved.{Same, Bare, bare_moved, scope_same}
use Rattle.edit_rules.proofs.scope_edits.Stepped.{Taking, taken_step, arguments_same, scope_kind_lem, scope_takes}
use Rattle.edit_rules.proofs.scope_edits.Folded.{base, records_more, records_after, records_take, run_late, run_moved}
use Rattle.edit_rules.proofs.scope_edits.Split.{Split, split, verdict_records, verdict_is}
use Rattle.edit_rules.proofs.scope_edits.Removed.{bare_kept}

-- the words of an entry in range are a record

pub record Small (x : Scope) : Type 0 where
  pub owner : x.owner < 268435456
  pub ns : x.ns < 268435456
  pub name : x.name < 268435456
  pub definition : x.definition < 268435456
  pub visibility : x.visibility < 268435456
  pub number : x.number < 268435456
  pub declared : x.declared < 268435456
  pub bits : x.bits < 268435456

number_small : (v n c m : ℕ) → (v ≡ 0 → n ≡ 0) → (v ≡ 1 → n < c) → (2 ≤ v → n < m) → c ≤ crate_limit → m ≤ module_limit → n < 268435456
number_small zero n c m f g h i j = let z = f refl in omega arith
number_small (suc zero) n c m f g h i j = let z = g refl in omega arith
number_small (suc (suc v)) n c m f g h i j = let z = h (omega arith) in omega arith

pub fits_small : (u : Snapshot) (x : Scope) → Limits (counts_of u) → scope_range x ≡ true → scope_defined (counts_of u) x ≡ true → Small x
fits_small u x l r e =
    let f : ScopeFits (counts_of u) (placed 0 x) = scope_fits (counts_of u) (placed 0 x) (omega arith) r e in
    let a = l.modules in
    let b = l.names in
    let d = l.definitions in
    let g = f.owner in
    let i = f.ns in
    let j = f.name in
    let k = f.definition in
    let m = f.visibility in
    let n = f.declared in
    let o = f.bits in
    record {
      owner = omega arith;
      ns = omega arith;
      name = omega arith;
      definition = omega arith;
      visibility = omega arith;
      number = number_small x.visibility x.number (length u.crates) (length u.modules) f.public f.crate f.inside
          l.crates l.modules;
      declared = omega arith;
      bits = omega arith;
    }

follows_scope : (last : ℕ) → last ≤ 9 → follows last 9 ≡ true
follows_scope last h = rw (le-leb last 9 h)

pub kind_none : (w : ℕ) → w < 268435456 → eqb (kind_of w) 0 ≡ true
kind_none w h = eq-eqb (w / 268435456) 0 (omega arith)

module _ (x : Scope) (small : Small x) where
  pub words_length : length (scope_words x) ≡ scope_size
  unfolding scope_words
  words_length = refl

  words_kind : kind_of (get_or (scope_words x) 0 0) ≡ 9
  unfolding scope_words
  words_kind = let h = small.owner in omega arith

  words_entry : scope_at (scope_words x) 0 ≡ placed 0 x
  unfolding scope_words
  words_entry =
      let h = small.owner in
      let e : (2415919104 + x.owner) % 268435456 ≡ x.owner = omega arith in
      λ i. record {
        owner = e i;
        ns = x.ns;
        name = x.name;
        definition = x.definition;
        visibility = x.visibility;
        number = x.number;
        declared = x.declared;
        bits = x.bits;
        place = 0;
      }

  words_arguments : arguments_from (scope_words x) 1 (scope_size - 1) ≡ true
  unfolding scope_words arguments_from
  words_arguments =
      rw (
        kind_none x.ns small.ns,
        kind_none x.name small.name,
        kind_none x.definition small.definition,
        kind_none x.visibility small.visibility,
        kind_none x.number small.number,
        kind_none x.declared small.declared,
        kind_none x.bits small.bits,
      )

  -- they stand at a place
  module _ (X : List ℕ) (p : ℕ) (at : (i : ℕ) → i < scope_size → get_or X (p + i) 0 ≡ get_or (scope_words x) i 0)
      (fits : p + scope_size ≤ length X) where
    here : Same (scope_words x) X 0 p (scope_size - 1)
    here i h = at i (omega arith) ∙ ap (λ j. get_or (scope_words x) j 0) (sym (zero-add i))

    pub entry_kind : kind_of (get_or X p 0) ≡ 9
    entry_kind = ap (λ j. kind_of (get_or X j 0)) (sym (add-zero p)) ∙ ap kind_of (at 0 (omega arith)) ∙ words_kind

    pub entry_is : scope_at X p ≡ placed p x
    entry_is = scope_same (scope_words x) X 0 p (λ n. p) refl here ∙ ap (placed p) words_entry

    pub entry_size : arguments_at X p ≡ scope_size - 1
    unfolding arguments_of
    entry_size = ap (λ k. arguments_of k (pay_of (get_or X p 0))) entry_kind

    entry_arguments : arguments_from X (p + 1) (scope_size - 1) ≡ true
    entry_arguments =
        arguments_same (scope_words x) X 1 (p + 1) (scope_size - 1)
        (λ d h. let a : p + 1 + d ≡ p + (1 + d) = omega arith in ap (λ j. get_or X j 0) a ∙ at (1 + d) (omega arith)) (omega arith) words_arguments

    entry_taken : (last : ℕ) (s : Snapshot) → last ≤ 9 → scope_range x ≡ true → scope_defined (counts_of s) x ≡ true
        → any (same_entry x) s.scopes ≡ false
        → ns_placed s x.ns x.definition ≡ true → Taking X p last s (add_scope s (placed p x))
    entry_taken last s low a b c d =
        record {
          order = ap (follows last) entry_kind ∙ follows_scope last low;
          whole = ap (arguments_from X (p + 1)) entry_size ∙ entry_arguments;
          step = scope_kind_lem X p (kind_of (get_or X p 0)) s entry_kind ∙ ap (scope_step s) entry_is ∙ scope_takes s (placed p x) a b c d;
        }

-- no record so far is of a kind above that of scopes
abbrev Low : ℕ → Snapshot → Type 0
Low last s = (last ≤ 9) × Bare s

low_kept : (W : List ℕ) (a last : ℕ) (s t : Snapshot) → is_later W a ≡ false → Taking W a last s t → Low last s → Low (kind_of (get_or W a 0)) t
low_kept W a last s t d k h = let l = ltb-false 9 (kind_of (get_or W a 0)) d in (l, bare_kept W a last s t k l h.1)

-- a list, and with the entry at its end
abbrev More : List Scope → Scope → List Scope → List Scope → Type 0
More pre x xs ys = (xs ≡ pre) × (ys ≡ pre ++ (x ∷ []))

more_kept : (pre : List Scope) (x : Scope) → 10 ≤ 9 → (xs ys : List Scope) (z : Scope) → More pre x xs ys → any (same_entry z) xs ≡ false
    → (any (same_entry z) ys ≡ false) × More pre x (xs ++ (z ∷ [])) (ys ++ (moved_scope higher z ∷ []))
more_kept pre x h xs ys z r e = absurd (omega arith)

module _ (W : List ℕ) (u : Snapshot) (acc : verdict W ≡ accept u) where
  pub end_split : Split W u (is_later W) Low 0 0 empty (scopes_end W)
  unfolding scopes_end
  end_split =
      let e = verdict_records W u acc in
      split W u (is_later W) Low (low_kept W) (length W) 0 0 empty e.1 (omega arith) (omega arith) (omega arith, (refl, refl))

  pub end_within : scopes_end W ≤ length W
  end_within = end_split.within

  -- from there on no record is of the kind of scopes or a lower one
  end_rest : records end_split.fuel W (scopes_end W) 10 end_split.state ≡ accept u
  end_rest =
      records_after W end_split.fuel (scopes_end W) end_split.before 10 end_split.state u
      (λ h. ltb-true 9 (kind_of (get_or W (scopes_end W) 0)) (end_split.stopped h)) end_split.rest

  end_base : base u ≡ base end_split.state
  end_base = run_late W end_split.fuel (scopes_end W) 10 end_split.state u (omega arith) end_split.enough end_rest

  module _ (x : Scope) (ranged : scope_range x ≡ true) (known : scope_defined (counts_of u) x ≡ true) (new : any (same_entry x) u.scopes ≡ false)
      (right : ns_placed u x.ns x.definition ≡ true) (room : length W + scope_size ≤ word_limit)
    where
      small : Small x
      small = fits_small u x (accepted_limits W u acc) ranged known

      longer : length (inserted (scopes_end W) (scope_words x) W) ≡ length W + scope_size
      longer = inserted_length W (scope_words x) (scopes_end W) end_within ∙ ap (λ n. length W + n) (words_length x small)

      fits : scopes_end W + scope_size ≤ length (inserted (scopes_end W) (scope_words x) W)
      fits = let l = longer in let w = end_within in omega arith

      stands : (i : ℕ) → i < scope_size → get_or (inserted (scopes_end W) (scope_words x) W) (scopes_end W + i) 0 ≡ get_or (scope_words x) i 0
      stands i h = inserted_at W (scope_words x) (scopes_end W) end_within i (rw (words_length x small) h)

      taken : Taking (inserted (scopes_end W) (scope_words x) W) (scopes_end W) end_split.before end_split.state
          (add_scope end_split.state (placed (scopes_end W) x))
      taken =
          entry_taken x small (inserted (scopes_end W) (scope_words x) W) (scopes_end W) stands fits end_split.before end_split.state
          end_split.holds.0 ranged
          (subst (λ (s : Snapshot). scope_defined (counts_of s) x ≡ true) end_base known)
          (subst (λ (s : Snapshot). any (same_entry x) s.scopes ≡ false) end_base new)
          (subst (λ (s : Snapshot). ns_placed s x.ns x.definition ≡ true) end_base right)

      -- over the record that was put in
      over : (n : ℕ) → length (inserted (scopes_end W) (scope_words x) W) ≤ n + scopes_end W
          → records n (inserted (scopes_end W) (scope_words x) W) (scopes_end W) end_split.before end_split.state
          ≡ records end_split.fuel (inserted (scopes_end W) (scope_words x) W) (scopes_end W + scope_size) 9
          (add_scope end_split.state (placed (scopes_end W) x))
      over zero h = let f = fits in absurd (omega arith)
      over (suc n) h =
          let f = fits in
          let l = longer in
          let m = end_split.enough in
          let to : scopes_end W + 1 + (scope_size - 1) ≡ scopes_end W + scope_size = omega arith in
          records_take (inserted (scopes_end W) (scope_words x) W) n (scopes_end W) end_split.before end_split.state
          (add_scope end_split.state (placed (scopes_end W) x)) (omega arith)
          (taken_step (inserted (scopes_end W) (scope_words x) W) (scopes_end W) end_split.before end_split.state
          (add_scope end_split.state (placed (scopes_end W) x)) taken)
          (entry_size x small (inserted (scopes_end W) (scope_words x) W) (scopes_end W) stands fits)
          (entry_kind x small (inserted (scopes_end W) (scope_words x) W) (scopes_end W) stands fits)
          ∙ ap (λ j. records n (inserted (scopes_end W) (scope_words x) W) j 9 (add_scope end_split.state (placed (scopes_end W) x))) to
          ∙ records_more (inserted (scopes_end W) (scope_words x) W) n end_split.fuel (scopes_end W + scope_size) 9
          (add_scope end_split.state (placed (scopes_end W) x)) (omega arith) (omega arith)

      -- over the records after it
      after : (zs : List Scope) × More end_split.state.scopes (placed (scopes_end W) x) u.scopes zs
          × (records end_split.fuel (inserted (scopes_end W) (scope_words x) W) (scopes_end W + scope_size) 9
          (add_scope end_split.state (placed (scopes_end W) x)) ≡ accept (with_scopes higher u zs))
      after =
          let l = longer in
          let y = placed (scopes_end W) x in
          let r =
          run_moved W (inserted (scopes_end W) (scope_words x) W) higher (More end_split.state.scopes y) 10
          (more_kept end_split.state.scopes y) (omega arith)
          end_split.fuel (scopes_end W) (scopes_end W + scope_size) 10 9 end_split.state u (end_split.state.scopes ++ (y ∷ []))
          (omega arith) (omega arith)
          (inserted_after W (scope_words x) (scopes_end W) end_within scope_size (sym (words_length x small))) (λ i. omega arith)
          (omega arith) end_split.enough (refl, refl) end_rest in (
            r.0,
            r.1,
            ap (records end_split.fuel (inserted (scopes_end W) (scope_words x) W) (scopes_end W + scope_size) 9)
                (sym (bare_moved higher end_split.state end_split.holds.1 (end_split.state.scopes ++ (y ∷ [])))) ∙ r.2,
          )

      -- up to it
      first : (m : ℕ) × (length (inserted (scopes_end W) (scope_words x) W) ≤ m + scopes_end W)
          × (records (length (inserted (scopes_end W) (scope_words x) W)) (inserted (scopes_end W) (scope_words x) W) 0 0 empty
          ≡ records m (inserted (scopes_end W) (scope_words x) W) (scopes_end W) end_split.before end_split.state)
      first =
          let f = fits in
          end_split.same (inserted (scopes_end W) (scope_words x) W) (inserted_before W (scope_words x) (scopes_end W) end_within) (omega arith)
          (length (inserted (scopes_end W) (scope_words x) W)) (omega arith)

      pub added_accepted : verdict (inserted (scopes_end W) (scope_words x) W)
          ≡ accept (with_scopes higher u (u.scopes ++ (placed (scopes_end W) x ∷ [])))
      added_accepted =
          let l = longer in
          verdict_is (inserted (scopes_end W) (scope_words x) W) (omega arith)
          ∙ first.2
          ∙ over first.0 first.1
          ∙ after.2
          ∙ ap (λ zs. accept (with_scopes higher u zs)) (after.1.1 ∙ ap (λ l. l ++ (placed (scopes_end W) x ∷ [])) (sym after.1.0))

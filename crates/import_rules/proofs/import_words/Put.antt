-- Accepted words with other import records in place of their own are accepted, as the snapshot with those imports.
use Prim.Native.Nat.{ℕ, ◌+◌, ◌*◌, ◌-◌, ◌≤◌, ◌<◌}
use mathlib.Core.Path.{◌≡◌, refl, sym, ◌∙◌, ap, ap₂, subst}
use mathlib.Core.List.{List, [], ◌∷◌, ◌++◌, map, append_assoc}
use mathlib.Core.Bool.{false}
use native.Mathlib.Omega.{arith}
use borrow.Author.Tests.{ltb-true}
use lib.ListN.{length, get_or, take, drop}
use lib.Seq.{length-take-le, take_at, drop_at}
use Rattle.snapshot.specs.Lists.{any}
use Rattle.snapshot.specs.Words.{kind_of}
use Rattle.snapshot.specs.Sizes.{import_size}
use Rattle.snapshot.specs.Records.{Snapshot, Scope, Import, Extern}
use Rattle.check_rules.specs.Tests.{counts_of, same_entry}
use Rattle.check_rules.specs.Verdict.{accept, records, empty, verdict}
use Rattle.accept.specs.Valid.{Each, Limits}
use Rattle.accept.proofs.Ranges.{accepted_limits}
use Rattle.edit_rules.specs.Entries.{moved_scope, moved_extern, with_lists, scopes_end, cut}
use Rattle.edit_rules.proofs.scope_edits.Lists.{inserted_length, inserted_before, inserted_at, inserted_after, cut_length, cut_before, cut_after}
use Rattle.edit_rules.proofs.scope_edits.Folded.{base, records_more, records_after, run_late, run_moved}
use Rattle.edit_rules.proofs.scope_edits.Split.{verdict_is}
use Rattle.edit_rules.proofs.scope_edits.Inserted.{end_split}
use Rattle.import_rules.specs.Collect.{words_of}
use Rattle.import_rules.specs.import_words.Words.{Fits, placed_from, others_than, replaced, words_with, snapshot_with}
use Rattle.import_rules.proofs.import_words.Taken.{words_length, words_append, with_more, Over, over_imports}
use Rattle.import_rules.proofs.import_words.Runs.{Run, old_imports, with_these, run_apart, run_lower}

-- no scope record comes any more
scopes_kept : (m : ℕ → ℕ) → 11 ≤ 9 → (xs ys : List Scope) (y : Scope) → ys ≡ xs → any (same_entry y) xs ≡ false
    → (any (same_entry y) ys ≡ false) × (ys ++ (moved_scope m y ∷ []) ≡ xs ++ (y ∷ []))
scopes_kept m h xs ys y r e = absurd (omega arith)

module _ (W : List ℕ) (u : Snapshot) (acc : verdict W ≡ accept u) where
  -- the fold where the import records begin

  abbrev start : Snapshot
  start = (end_split W u acc).state

  begun : records (end_split W u acc).fuel W (scopes_end W) 10 start ≡ accept u
  begun =
      records_after W (end_split W u acc).fuel (scopes_end W) (end_split W u acc).before 10 start u
      (λ h. ltb-true 9 (kind_of (get_or W (scopes_end W) 0)) ((end_split W u acc).stopped h)) (end_split W u acc).rest

  start_base : base u ≡ base start
  start_base = run_late W (end_split W u acc).fuel (scopes_end W) 10 start u (omega arith) (end_split W u acc).enough begun

  start_limits : Limits (counts_of start)
  start_limits = subst (λ (s : Snapshot). Limits (counts_of s)) start_base (accepted_limits W u acc)

  bare : (start.imports ≡ []) × (start.externs ≡ [])
  bare = (end_split W u acc).holds.1

  old : (xs : List Import) × Run W u (scopes_end W) start xs
  old = old_imports W u (end_split W u acc).fuel (scopes_end W) start (end_split W u acc).within (end_split W u acc).enough begun

  imports_are : u.imports ≡ old.0
  imports_are =
      let r = old.1 in
      (run_apart W r.fuel (scopes_end W + import_size * length old.0) 11 (with_more start old.0) u [] (omega arith) r.enough r.rest).0
      ∙ ap (λ l. l ++ old.0) bare.0

  -- over the import records
  run : Run W u (scopes_end W) start u.imports
  run = subst (λ xs. Run W u (scopes_end W) start xs) (sym imports_are) old.1

  pub imports_within : scopes_end W + import_size * length u.imports ≤ length W
  imports_within = run.within

  module _ (ys : List Import) where
    rest_fits : scopes_end W ≤ length (cut (scopes_end W) (import_size * length u.imports) W)
    rest_fits = let c = cut_length W (scopes_end W) (import_size * length u.imports) imports_within in let w = imports_within in omega arith

    pub with_length : length (words_with W u ys) + import_size * length u.imports ≡ length W + import_size * length ys
    unfolding words_with
    with_length =
        let c = cut_length W (scopes_end W) (import_size * length u.imports) imports_within in
        let i = inserted_length (cut (scopes_end W) (import_size * length u.imports) W) (words_of ys) (scopes_end W) rest_fits in
        let l = words_length ys in
        omega arith

    with_before : (i : ℕ) → i < scopes_end W → get_or (words_with W u ys) i 0 ≡ get_or W i 0
    unfolding words_with
    with_before i h =
        inserted_before (cut (scopes_end W) (import_size * length u.imports) W) (words_of ys) (scopes_end W) rest_fits i h
        ∙ cut_before W (scopes_end W) (import_size * length u.imports) imports_within i h

    with_at : (i : ℕ) → i < import_size * length ys → get_or (words_with W u ys) (scopes_end W + i) 0 ≡ get_or (words_of ys) i 0
    unfolding words_with
    with_at i h =
        inserted_at (cut (scopes_end W) (import_size * length u.imports) W) (words_of ys) (scopes_end W) rest_fits i
        (let l = words_length ys in omega arith)

    with_after : (i : ℕ) → get_or (words_with W u ys) (scopes_end W + import_size * length ys + i) 0
        ≡ get_or W (scopes_end W + import_size * length u.imports + i) 0
    unfolding words_with
    with_after i =
        inserted_after (cut (scopes_end W) (import_size * length u.imports) W) (words_of ys) (scopes_end W) rest_fits (import_size * length ys)
        (sym (words_length ys)) i
        ∙ cut_after W (scopes_end W) (import_size * length u.imports) imports_within i

  -- The words of imports stand as they were written, between what stood before and behind the import records.
  pub put_words : (c : ℕ) (xs : List Import) → words_with W u (replaced u c xs)
      ≡ take (scopes_end W) W ++ (words_of (others_than c u.imports) ++ (words_of xs ++ drop (scopes_end W + import_size * length u.imports) W))
  unfolding words_with
  put_words c xs =
      let os = others_than c u.imports in
      let p = scopes_end W in
      let D = drop (p + import_size * length u.imports) W in
      let w = imports_within in
      let n : length (take p W) ≡ p = length-take-le p W (omega arith) in
      ap₂ (λ a b. a ++ (words_of (os ++ xs) ++ b)) (take_at (take p W) D p n) (drop_at (take p W) D p n)
      ∙ ap (λ l. take p W ++ (l ++ D)) (words_append os xs) ∙ ap (λ l. take p W ++ l) (append_assoc (words_of os) (words_of xs) D)

  module _ (ys : List Import) (fits : Each (Fits u) ys) (short : length (words_with W u ys) ≤ 16384) where
    abbrev X : List ℕ
    X = words_with W u ys

    abbrev moved : ℕ → ℕ
    moved n = n + import_size * length ys - import_size * length u.imports

    -- where the records after the imports begin

    abbrev behind : ℕ
    behind = scopes_end W + import_size * length u.imports

    abbrev ahead : ℕ
    ahead = scopes_end W + import_size * length ys

    abbrev placed : List Import
    placed = placed_from (scopes_end W) ys

    abbrev shifted : List Extern → List Extern
    shifted es = map (moved_extern moved) es

    begins : ahead ≤ length X
    begins = let l = with_length ys in let w = imports_within in omega arith

    -- up to the import records
    first : (m : ℕ) × (length X ≤ m + scopes_end W)
        × (records (length X) X 0 0 empty ≡ records m X (scopes_end W) (end_split W u acc).before start)
    first = let b = begins in (end_split W u acc).same X (with_before ys) (omega arith) (length X) (omega arith)

    -- over them
    over : Over X first.0 (scopes_end W) (end_split W u acc).before start ys
    over =
        let l = (end_split W u acc).holds.0 in
        over_imports X ys first.0 (scopes_end W) (end_split W u acc).before start start_limits (omega arith)
        (subst (λ (s : Snapshot). Each (Fits s) ys) start_base fits) (with_at ys) begins first.1

    roomy : length X ≤ run.fuel + ahead
    roomy = let l = with_length ys in let e = run.enough in let w = imports_within in omega arith

    -- the records after them, without imports
    bare_after : (zs : List Scope) × (zs ≡ u.scopes)
        × (records run.fuel X ahead 11 (with_lists start start.scopes [] (shifted start.externs))
        ≡ accept (with_lists u zs [] (shifted u.externs)))
    bare_after =
        let l = with_length ys in
        let w = imports_within in
        let e = run_apart W run.fuel behind 11 (with_more start u.imports) u [] (omega arith) run.enough run.rest in
        run_moved W X moved (λ xs zs. zs ≡ xs) 11 (scopes_kept moved) (omega arith) run.fuel behind
        ahead 11 11 (with_these (with_more start u.imports) []) (with_these u []) start.scopes (omega arith) (omega arith)
        (with_after ys) (λ i. omega arith) (omega arith) run.enough refl e.1

    -- and with them
    after : records run.fuel X ahead 11 (with_more start placed)
        ≡ accept (with_lists u u.scopes placed (shifted u.externs))
    after =
        let is = start.imports ++ placed in
        let r = run_apart X run.fuel ahead 11 (with_lists start start.scopes [] (shifted start.externs))
        (with_lists u bare_after.0 [] (shifted u.externs)) is (omega arith) roomy bare_after.2 in
        let none : shifted start.externs ≡ start.externs = ap shifted bare.1 ∙ sym bare.1 in
        ap (λ es. records run.fuel X ahead 11 (with_lists start start.scopes is es)) (sym none)
        ∙ r.1
        ∙ ap₂ (λ zs l. accept (with_lists u zs l (shifted u.externs))) bare_after.1 (ap (λ l. l ++ placed) bare.0)

    -- Records that fit, whichever crates', in place of the snapshot's: the words are accepted.
    pub put_accepted : verdict (words_with W u ys) ≡ accept (snapshot_with W u ys)
    unfolding snapshot_with
    put_accepted =
        let low = over.low in
        verdict_is X short
        ∙ first.2
        ∙ over.same
        ∙ records_more X over.fuel run.fuel ahead over.before (with_more start placed) over.enough roomy
        ∙ run_lower X run.fuel ahead 11 over.before (with_more start placed)
        (with_lists u u.scopes placed (shifted u.externs)) (omega arith) (omega arith) roomy after

  -- the imports of an accepted snapshot fit
  pub own_fits : Each (Fits u) u.imports
  own_fits = subst (λ (s : Snapshot). Each (Fits s) u.imports) (sym start_base) run.fits

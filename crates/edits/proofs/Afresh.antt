-- After any run of edits the snapshot's own words are those written afresh with the entries that are left.
use Prim.Native.Nat.{ℕ}
use mathlib.Core.Path.{◌≡◌, refl, sym, ◌∙◌, ap, ap₂}
use mathlib.Core.List.{List, [], ◌∷◌, ◌++◌, map, map-append}
use Rattle.snapshot.specs.Records.{Snapshot, Scope}
use Rattle.check_rules.specs.Verdict.{accept, verdict}
use Rattle.accept.proofs.Accepted.{by_test}
use Rattle.find_path_spec.specs.declared.Question.{Question}
use Rattle.find_path_spec.specs.Report.{report_of}
use Rattle.edit_rules.specs.Entries.{is_named, higher, lower, moved_scope, moved_import, moved_extern, placed, with_lists, with_scopes, without}
use Rattle.edit_rules.specs.Entries.{scopes_end}
use Rattle.edit_rules.specs.Entries.{scope_words}
use Rattle.edit_rules.specs.Edits.{Edit, refused_by, edited, Operation, adding, removing, edited_snapshot}
use Rattle.edit_rules.specs.Written.{import_words, extern_words, each_words, joined, snapshot_words, words_with}
use Rattle.edit_rules.proofs.scope_edits.Written.{accepted_written}
use Rattle.edits.specs.Runs.{Held, own_words, after, edit_in, after_run, snapshot_by, snapshot_after, removed, entries_by, entries_after}
use Rattle.edits.proofs.Fresh.{run_snapshot}

-- records without their places

abbrev nowhere : ℕ → ℕ
nowhere n = 0

abbrev bare : Snapshot → Snapshot
bare s = with_scopes nowhere s (map (moved_scope nowhere) s.scopes)

each_moved : {A : Type 0} (f : A → List ℕ) (g : A → A) → ((x : A) → f (g x) ≡ f x) → (xs : List A) → each_words f (map g xs) ≡ each_words f xs
unfolding each_words
each_moved f g h [] = refl
each_moved f g h (x ∷ xs) = ap₂ (λ a b. a ++ b) (h x) (each_moved f g h xs)

map_moved : {A : Type 0} (g h k : A → A) → ((x : A) → g (h x) ≡ k x) → (xs : List A) → map g (map h xs) ≡ map k xs
map_moved g h k e [] = refl
map_moved g h k e (x ∷ xs) = ap₂ (λ a b. a ∷ b) (e x) (map_moved g h k e xs)

-- no place counts
bare_words : (s : Snapshot) → snapshot_words (bare s) ≡ snapshot_words s
unfolding snapshot_words joined scope_words
bare_words s =
    rw (
      each_moved scope_words (moved_scope nowhere) (λ x. refl) s.scopes,
      each_moved import_words (moved_import nowhere) (λ x. refl)
          s.imports,
      each_moved extern_words (moved_extern nowhere) (λ x. refl) s.externs,
    )

-- a snapshot with other entries at other places
bare_with : (f : ℕ → ℕ) (s : Snapshot) (xs : List Scope)
    → bare (with_scopes f s xs) ≡ with_lists (bare s) (map (moved_scope nowhere) xs) (bare s).imports (bare s).externs
bare_with f s xs =
    ap₂ (with_lists s (map (moved_scope nowhere) xs))
    (map_moved (moved_import nowhere) (moved_import f) (moved_import nowhere) (λ x. refl) s.imports)
    (map_moved (moved_extern nowhere) (moved_extern f) (moved_extern nowhere) (λ x. refl) s.externs)

-- the first of a name, out of either list
module _ (m ns name : ℕ) where
  removed_bare : (xs : List Scope) → map (moved_scope nowhere) (removed (is_named m ns name) xs) ≡ removed (is_named m ns name)
      (map (moved_scope nowhere) xs)
  unfolding removed
  removed_bare [] = refl
  removed_bare (x ∷ xs) =
      by_test (is_named m ns name x) (λ c. rw (removed, c))
      (λ c. rw (removed, c) (ap (λ l. moved_scope nowhere x ∷ l) (removed_bare xs)))

  without_bare : (xs : List Scope) → map (moved_scope nowhere) (without (is_named m ns name) xs) ≡ removed (is_named m ns name)
      (map (moved_scope nowhere) xs)
  unfolding removed without
  without_bare [] = refl
  without_bare (x ∷ xs) =
      by_test (is_named m ns name x)
      (λ c. rw (removed, without, c) (map_moved (moved_scope nowhere) (moved_scope lower) (moved_scope nowhere) (λ x. refl) xs))
      (λ c. rw (removed, without, c) (ap (λ l. moved_scope nowhere x ∷ l) (without_bare xs)))

-- s with the entries xs, but for places, is t
abbrev Alike : Snapshot → List Scope → Snapshot → Type 0
Alike s xs t = bare t ≡ bare (with_lists s xs s.imports s.externs)

module _ (s : Snapshot) (xs : List Scope) (t : Snapshot) (e : Alike s xs t) where
  scopes_alike : map (moved_scope nowhere) t.scopes ≡ map (moved_scope nowhere) xs
  scopes_alike = ap (λ (u : Snapshot). u.scopes) e

  alike_with : (f : ℕ → ℕ) (ys zs : List Scope) → map (moved_scope nowhere) ys ≡ map (moved_scope nowhere) zs → Alike s zs (with_scopes f t ys)
  alike_with f ys zs h =
      bare_with f t ys ∙ ap₂ (λ (u : Snapshot) l. with_lists u l u.imports u.externs) e h

  alike_by : (h : Held) (o : Operation) (y : Edit) → Alike s (entries_by xs o y) (snapshot_by h t o y)
  unfolding entries_by snapshot_by edited_snapshot
  alike_by h o (refused_by n) = e
  alike_by h (adding x) (edited S) =
      let at = scopes_end (own_words h) in
      alike_with higher (t.scopes ++ (placed at x ∷ [])) (xs ++ (x ∷ []))
      (map-append (moved_scope nowhere) t.scopes (placed at x ∷ [])
      ∙ ap (λ l. l ++ (placed 0 x ∷ [])) scopes_alike
      ∙ sym (map-append (moved_scope nowhere) xs (x ∷ [])))
  alike_by h (removing m ns name) (edited S) =
      alike_with lower (without (is_named m ns name) t.scopes) (removed (is_named m ns name) xs)
      (without_bare m ns name t.scopes ∙ ap (removed (is_named m ns name)) scopes_alike ∙ sym (removed_bare m ns name xs))

alike_run : (area : ℕ) (os : List Operation) (h : Held) (s : Snapshot) (xs : List Scope) (t : Snapshot) → Alike s xs t
    → Alike s (entries_after area h xs os) (snapshot_after area h t os)
unfolding entries_after snapshot_after
alike_run area [] h s xs t e = e
alike_run area (o ∷ os) h s xs t e =
    alike_run area os (after h (edit_in area h o)) s (entries_by xs o (edit_in area h o)) (snapshot_by h t o (edit_in area h o))
    (alike_by s xs t e h o (edit_in area h o))

-- Any run of edits: the snapshot's own words are those written afresh, with the entries that are left in their order and the other records
-- unchanged.
pub run_written : (area : ℕ) (os : List Operation) (h : Held) (s : Snapshot) → verdict (own_words h) ≡ accept s
    → own_words (after_run area h os) ≡ words_with s (entries_after area h s.scopes os)
run_written area os h s acc =
    let t = snapshot_after area h s os in
    let xs = entries_after area h s.scopes os in
    accepted_written (own_words (after_run area h os)) t (run_snapshot area os h s acc)
    ∙ sym (bare_words t)
    ∙ ap snapshot_words (alike_run area os h s s.scopes s refl)
    ∙ bare_words (with_lists s xs s.imports s.externs)

-- So each report is the one for the snapshot written afresh.
pub run_afresh : (area : ℕ) (os : List Operation) (h : Held) (s : Snapshot) → verdict (own_words h) ≡ accept s → (room : ℕ) (q : Question)
    → report_of (own_words (after_run area h os)) room q ≡ report_of (words_with s (entries_after area h s.scopes os)) room q
run_afresh area os h s acc room q = ap (λ W. report_of W room q) (run_written area os h s acc)

-- The walk is privacy, but for the condition of `Differs`, and there it says visible.
use mathlib.Core.Path.{◌≡◌, refl, ap, sym, ◌∙◌, subst}
use mathlib.Core.Bool.{Bool, true, false, true≢false}
use mathlib.Core.Logic.{inl, ⊎_elim, ◌↔◌}
use Prim.Native.Nat.{ℕ, zero, suc, ◌≤◌, ◌<◌}
use native.Mathlib.Omega.{arith}
use mathlib.Core.List.{List}
use lib.ListN.{length, get_or}
use borrow.Author.Tests.{eqb-true, eq-eqb}
use Rattle.snapshot.specs.Records.{Snapshot, Scope}
use Rattle.check_rules.specs.Tests.{counts_of}
use Rattle.check_rules.specs.Verdict.{accept, verdict}
use Rattle.accept.specs.Valid.{Tree, ScopeFits}
use Rattle.accept.proofs.Accepted.{by_test}
use Rattle.accept.proofs.Valid.{accepted_valid}
use Rattle.accept.proofs.Bools.{each_at}
use Rattle.module_tree.specs.rules.Modules.{map_of, map_no, parent_of, block_of, crate_of, containing}
use Rattle.module_tree.specs.rules.Visibility.{met, climb, in_module, is_visible_from, sees}
use Rattle.module_tree.specs.Privacy.{StandsIn, inner, outermost, block, Visible, Privacy}
use Rattle.module_tree.specs.Differs.{Leaves, here, later, Differs, Exception, Known, Answers, InBlock}
use Rattle.module_tree.proofs.Laws.{by_number}
use Rattle.module_tree.proofs.Chains.{map_known, parent_fits, block_fits, containing_falls}
use Rattle.module_tree.proofs.Ways.{met_meets, meets_met, meets_below}
use Rattle.module_tree.proofs.Compared.{walk_within, privacy_walk, walk_privacy, differs_walk, differs_privacy, leaves_stands, stands_one}
use Rattle.module_tree.proofs.Compared.{stands_within, step_on}

-- equal off the condition
equal_off : (r : Bool) (P D : Type 0) → Answers r P D → (D → ⊥) → (r ≡ true) ↔ P
equal_off r P D a n = ((λ e. ⊎_elim (λ p. p) (λ d. absurd (n d)) (a.sound e)), a.complete)

leaves_block : (s : Snapshot) (k x t : ℕ) → Leaves s k x t → InBlock s k x
leaves_block s k x t (here {b = b} {p = p} e z q) =
    let f = step_on s k t b e in
    subst (λ (m : ℕ). InBlock s k m) q (record { other = f.0; above = b; around = f.1; owner = p; under = z })
leaves_block s k x t (later {b = b} e z l) = leaves_block s k x b l

module _ (W : List ℕ) (s : Snapshot) (accepted : verdict W ≡ accept s) where
  tree : Tree s.maps s.modules
  tree = (accepted_valid W s accepted).tree

  -- Viewing module v and target module t.
  module _ (v t : ℕ) (r : v < length s.modules) (q : t < length s.modules) where
    -- A module's visibility: the walk says visible wherever privacy holds, and besides that exactly where they differ.
    pub module_answers : Answers (in_module s v t) (Visible s v t) (Differs s v t)
    module_answers =
        record {
          complete = privacy_walk s tree v r t q;
          sound = walk_privacy s tree v r t q;
          wrong = λ d. (differs_walk s tree v r t q d, differs_privacy s tree v r t q d);
        }

    equal_where_none : (Differs s v t → ⊥) → (in_module s v t ≡ true) ↔ Visible s v t
    equal_where_none n = equal_off (in_module s v t) (Visible s v t) (Differs s v t) module_answers n

    left_stands : (d : Differs s v t) → StandsIn s d.left t
    left_stands d = leaves_stands s tree v r t d.left d.leaves

    left_in_block : (d : Differs s v t) → InBlock s (map_no s v) d.left
    left_in_block d = leaves_block s (map_no s v) d.left t d.leaves

    left_known : (d : Differs s v t) → d.left < length s.modules
    left_known d =
        meets_below (containing s) (length s.modules) (containing_falls s tree) t d.left q
        (stands_within s tree t d.left q (left_stands d))

    -- Where they differ, the target stands in a `mod` that is written inside a block, and not in the viewer's map.
    pub differs_in_block : (d : Differs s v t) → StandsIn s d.left t × InBlock s (map_no s v) d.left
    differs_in_block d = (left_stands d, left_in_block d)

    -- So a snapshot where they differ has three modules at least: the block's parent, the block's root and the `mod`.
    pub differs_needs_three : Differs s v t → 3 ≤ length s.modules
    differs_needs_three d =
        let b = left_in_block d in
        let l = left_known d in
        let f = parent_fits s tree d.left b.owner l b.under in
        let g = block_fits s tree b.owner b.above (omega (arith, f.0, l)) (ap (λ (k : ℕ). (map_of s k).block) f.1 ∙ b.around) in
        omega (arith, f.0, g.0, l)

    -- They are equal where the target stands in a module of a crate's own map.
    pub own_map_lem : (x : ℕ) → StandsIn s x t → block_of s x ≡ 0 → (in_module s v t ≡ true) ↔ Visible s v t
    own_map_lem x i e = equal_where_none λ d.
        let same = stands_one s tree t d.left x (left_stands d) i in
        let z : block_of s d.left ≡ 0 = ap (block_of s) same ∙ e in
        omega (arith, (left_in_block d).around, z)

    -- They are equal where the target is in a crate's own map.
    pub in_own_map : block_of s t ≡ 0 → (in_module s v t ≡ true) ↔ Visible s v t
    in_own_map e = by_number (parent_of s t) (λ z. own_map_lem t (outermost z e refl) e) (λ p z. own_map_lem t (inner z refl) e)

    -- They are equal in a crate without blocks.
    pub no_blocks : ((k : ℕ) → k < length s.maps → (map_of s k).crate ≡ crate_of s t → (map_of s k).block ≡ 0)
        → (in_module s v t ≡ true) ↔ Visible s v t
    no_blocks f = in_own_map (f (map_no s t) (map_known s tree t q) refl)

    -- They are equal where the target is the root of a block whose parent is in a crate's own map.
    pub block_of_own_map : (b : ℕ) → parent_of s t ≡ 0 → block_of s t ≡ suc b → block_of s b ≡ 0 → (in_module s v t ≡ true) ↔ Visible s v t
    block_of_own_map b z y e =
        by_number (parent_of s b) (λ w. own_map_lem b (block z y (outermost w e refl)) e) (λ p w. own_map_lem b (block z y (inner w refl)) e)

    -- They are equal where target and viewer share a map.
    pub same_map : map_no s t ≡ map_no s v → (in_module s v t ≡ true) ↔ Visible s v t
    same_map e = equal_where_none λ d. stays d.left d.leaves
      where
        stays : (x : ℕ) → Leaves s (map_no s v) x t → ⊥
        stays x (here {b = b} g z l) = (step_on s (map_no s v) t b g).0 e
        stays x (later {b = b} g z l) = (step_on s (map_no s v) t b g).0 e

    -- They are equal where no `mod` is written inside a block.
    pub plain_blocks : ((m p : ℕ) → m < length s.modules → parent_of s m ≡ suc p → block_of s m ≡ 0)
        → (in_module s v t ≡ true) ↔ Visible s v t
    plain_blocks f = equal_where_none λ d.
        let b = left_in_block d in
        let z = f d.left b.owner (left_known d) b.under in
        omega (arith, b.around, z)

    -- The Rust tests equality and the crate before it climbs; the climbs alone would answer the same.
    pub tests_before_decide_nothing : in_module s v t ≡ met (containing s) v (climb s (map_no s v) t)
    tests_before_decide_nothing =
        let f = walk_within s tree v t r q in
        let c = climb s (map_no s v) t in
        by_test (met (containing s) v c)
        (λ y. f.1 (met_meets (containing s) (length s.modules) (containing_falls s tree) v c r y) ∙ sym y)
        (λ n. by_test (in_module s v t)
        (λ y. absurd (true≢false (sym (meets_met (containing s) (length s.modules) (containing_falls s tree) v c r (f.0 y)) ∙ n)))
        (λ y. y ∙ sym n))

  by_visibility : (k n v : ℕ) → v < length s.modules → Known s k n
      → Answers (is_visible_from s k n v) (Privacy s k n v) (Exception s k n v)
  unfolding is_visible_from
  by_visibility zero n v r h = record { complete = λ p. refl; sound = λ e. inl tt; wrong = λ d. absurd d }
  by_visibility (suc zero) n v r h =
      record {
        complete = eq-eqb (crate_of s v) n;
        sound = λ e. inl (eqb-true (crate_of s v) n e);
        wrong = λ d. absurd d;
      }
  by_visibility (suc (suc k)) n v r h = module_answers v n r h

  -- THE THEOREM. In an accepted snapshot, for a visibility k with its number n (public, a crate, or a module in range) and a viewing
  -- module v in range: the walk says visible wherever privacy holds (complete), and besides that exactly where `Differs` holds
  -- (sound, wrong). So they differ only there, and only towards visible.
  pub walk_is_privacy_but : (k n v : ℕ) → v < length s.modules → Known s k n
      → Answers (is_visible_from s k n v) (Privacy s k n v) (Exception s k n v)
  walk_is_privacy_but k n v r h = by_visibility k n v r h

  -- Privacy implies the walk: what the Reference shows, the walk never hides.
  pub privacy_implies_walk : (k n v : ℕ) → v < length s.modules → Known s k n → Privacy s k n v → is_visible_from s k n v ≡ true
  privacy_implies_walk k n v r h p = (walk_is_privacy_but k n v r h).complete p

  -- The difference is only towards visible: where the walk says hidden, privacy does not hold.
  pub hidden_is_private : (k n v : ℕ) → v < length s.modules → Known s k n → is_visible_from s k n v ≡ false → Privacy s k n v → ⊥
  hidden_is_private k n v r h z p = true≢false (sym (privacy_implies_walk k n v r h p) ∙ z)

  -- the number of an entry's visibility is in range
  known_number : (x : Scope) (k : ℕ) → x.visibility ≡ k → ScopeFits (counts_of s) x → Known s k x.number
  known_number x zero q f = tt
  known_number x (suc zero) q f = tt
  known_number x (suc (suc k)) q f = f.inside (omega arith)

  -- The same for the j-th entry of the scopes, seen from v: nothing is asked of its visibility.
  pub entry_is_privacy_but : (d : Scope) (j v : ℕ) → j < length s.scopes → v < length s.modules
      → Answers (sees s v (get_or s.scopes j d)) (Privacy s (get_or s.scopes j d).visibility (get_or s.scopes j d).number v)
      (Exception s (get_or s.scopes j d).visibility (get_or s.scopes j d).number v)
  entry_is_privacy_but d j v h r =
      let x = get_or s.scopes j d in
      walk_is_privacy_but x.visibility x.number v r
      (known_number x x.visibility refl (each_at d j (accepted_valid W s accepted).ranges.scopes h))

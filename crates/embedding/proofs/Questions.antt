-- A question put with its numbers moved: the same path, by as many charges, with a tank or with any meter that is charged alike.
use Prim.Native.Nat.{ℕ, zero, suc, ◌+◌, ◌≤◌, ◌<◌}
use mathlib.Core.Path.{◌≡◌, refl, sym, ◌∙◌, ap, subst}
use mathlib.Core.Bool.{Bool, true, false, ◌&&◌, ◌||◌, not}
use native.Mathlib.Omega.{arith}
use borrow.Author.Tests.{eqb-true, ne_eqb}
use lib.Dec.{eqb}
use lib.ListN.{length}
use Rattle.snapshot.specs.Records.{Snapshot, Map}
use Rattle.accept.specs.Valid.{Valid}
use Rattle.accept.proofs.Bools.{and_two}
use Rattle.hir_def.specs.Items.{types, builtin_kind, crate_of, crate_data, definition_of, item_of, home_of}
use Rattle.hir_def.specs.declared.Item.{Item}
use Rattle.find_path_choice.specs.Choices.{plain_path, via_builtin, step_by, choice_new}
use Rattle.find_path_spec.specs.declared.Query.{Query}
use Rattle.find_path_spec.specs.declared.Tank.{Tank}
use Rattle.find_path_spec.specs.Rules.{bit, plain_if, module_in, context_of}
use Rattle.find_path_spec.specs.Meters.{Charge, drained, draw, from_tank, filled}
use Rattle.find_path_spec.specs.Search.{is_builtin_type, builtin_choice, search_item, from_home, from_item, find_path}
use Rattle.find_path_spec.specs.Report.{searched}
use Rattle.join_rules.specs.Joined.{Numbers, or_none, first_to, question_to}
use Rattle.embedding.specs.Embeds.{Embeds, item_to, context_to}
use Rattle.embedding.proofs.Chains.{map_same, crate_moved, crate_known}
use Rattle.embedding.proofs.Lookups.{Has, kind_moved, first_moved, fits, item_moved, item_has, home_moved, home_low}
use Rattle.embedding.proofs.Nameres.{crate_root_moved}
use Rattle.embedding.proofs.Choices.{Alike, nothing_alike, choice_new_alike}
use Rattle.embedding.proofs.Rules.{Sits, root_low, in_block_moved}
use Rattle.embedding.proofs.Charged.{Fare, goes, stops, Fair, OutAlike, module_in_moved, module_in_low, search_item_alike}

abbrev pub query_to : Numbers → Query → Query
query_to e q = (question_to e (record { query = q; fuel = 0 })).query

-- the tank: what is told of the module that was looked for is moved
pub record TankAlike (e : Numbers) (t t' : Tank) : Type 0 where
  pub fuel : t'.fuel ≡ t.fuel
  pub spent : t'.spent ≡ t.spent
  pub empty : t'.empty ≡ t.empty
  pub left : t'.left ≡ t.left
  pub sought : t'.sought ≡ or_none e.modules t.sought

module _ (e : Numbers) (s : Snapshot) where
  drained_alike : (left sought : ℕ) (t t' : Tank) → TankAlike e t t' → (b : Bool)
      → TankAlike e (drained left sought t b) (drained left (or_none e.modules sought) t' b)
  unfolding drained
  drained_alike left sought t t' a true = record { fuel = refl; spent = a.spent; empty = refl; left = a.left; sought = a.sought }
  drained_alike left sought t t' a false = record { fuel = refl; spent = a.spent; empty = refl; left = refl; sought = refl }

  draw_alike : (left sought : ℕ) (t t' : Tank) → TankAlike e t t' → (k : ℕ)
      → Fare (TankAlike e) (draw left sought t k) (draw left (or_none e.modules sought) t' k)
  unfolding draw
  draw_alike left sought t t' a zero =
      stops (subst (λ b. TankAlike e (drained left sought t t.empty) (drained left (or_none e.modules sought) t' b)) (sym a.empty)
      (drained_alike left sought t t' a t.empty))
  draw_alike left sought t t' a (suc k) =
      goes (record { fuel = refl; spent = ap (λ i. i + 1) a.spent; empty = a.empty; left = a.left; sought = a.sought })

  pub tank_fair : Fair e s from_tank (TankAlike e)
  unfolding from_tank
  tank_fair left sought l t t' a =
      subst (λ k. Fare (TankAlike e) (draw left sought t t.fuel) (draw left (or_none e.modules sought) t' k)) (sym a.fuel)
      (draw_alike left sought t t' a t.fuel)

  pub filled_alike : (fuel : ℕ) → TankAlike e (filled fuel) (filled fuel)
  unfolding filled
  filled_alike fuel = record { fuel = refl; spent = refl; empty = refl; left = refl; sought = refl }

module _ (e : Numbers) (s u : Snapshot) (em : Embeds e s u) (v : Valid s) (w : Valid u) where
  abbrev n : ℕ
  n = length s.modules

  pub crate_data_moved : (m : ℕ) → m < n → crate_data u (crate_of u (e.modules m)) ≡ crate_data s (crate_of s m)
  crate_data_moved m l = ap (crate_data u) (crate_moved e s u em v w m l) ∙ em.crates (crate_of s m) (crate_known e s u em v w m l)

  -- a question that speaks of the snapshot
  module _ (q : Query) (lf : q.from.0 < n) (ld : q.definition.0 < length s.definitions) where
    abbrev from : ℕ
    from = q.from.0

    abbrev pub asked : Item
    asked = item_of s q.ns q.definition.0

    pub asked_moved : item_of u q.ns (e.definitions q.definition.0) ≡ item_to e asked
    asked_moved = item_moved e s u em v q.ns q.definition.0 ld

    pub asked_has : Has s asked
    asked_has = item_has e s u em v q.ns q.definition.0 ld

    pub context_moved : (home : ℕ) → home < n → context_of u (query_to e q) (e.modules home) ≡ context_to e (context_of s q home)
    unfolding context_of
    context_moved home h =
        let b = in_block_moved e s u em v w home h in
        let a = ap (λ (x : Map). x.no_std) (map_same e s u em v w from lf) in
        let c = crate_data_moved from lf in
        let d = crate_data_moved home h in
        let k = crate_moved e s u em v w from lf in
        let r = crate_root_moved e s u em v w from lf in
        let o = ap module_in asked_moved ∙ module_in_moved e s asked in
        λ i. record {
          prefix = plain_if (b i) q.prefix;
          prefer_no_std = bit q.options 1 || (eqb (a i) 1 || eqb (c i).no_std 1);
          prefer_prelude = bit q.options 2;
          prefer_absolute = bit q.options 4;
          allow_unstable = bit q.options 8;
          ignore_local_imports = bit q.options 16;
          fresh = bit q.options 32;
          is_std_item = not (eqb (d i).origin 0);
          from = record { 0 = e.modules from };
          from_crate = record { 0 = k i };
          crate_root = record { 0 = r i };
          own = o i;
          max_len = q.limit;
        }

    sits : (home : ℕ) → Sits s (context_of s q home)
    unfolding context_of
    sits home =
        record { from = lf; crate = crate_known e s u em v w from lf; root = root_low e s u em v w from lf; own = module_in_low e s asked asked_has }

    pub builtin_type_moved : is_builtin_type u (query_to e q) ≡ is_builtin_type s q
    builtin_type_moved = ap (λ k. eqb q.ns types && eqb k builtin_kind) (kind_moved e s u em v q.definition.0 ld)

    builtin_alike : (definition_of s q.definition.0).kind ≡ 3
        → Alike e s (builtin_choice s (definition_of s q.definition.0)) (builtin_choice u (definition_of u (e.definitions q.definition.0)))
    unfolding builtin_choice
    builtin_alike t =
        let x = definition_of s q.definition.0 in
        let z = definition_of u (e.definitions q.definition.0) in
        let first : z.first ≡ e.names x.first = first_moved e s u em v q.definition.0 ld
        ∙ rw (first_to, ne_eqb x.kind 2 (λ a. omega arith), t) in
        subst (λ k. Alike e s (builtin_choice s x) (choice_new u plain_path k (step_by via_builtin z.place))) (sym first)
        (choice_new_alike e s u em plain_path x.first (step_by via_builtin x.place) (step_by via_builtin z.place)
        ((fits e s u em v q.definition.0 ld).builtin t))

    module _ (M : Type 0) (charge : Charge M) (R : M → M → Type 0) (fair : Fair e s charge R) (t t' : M) (r : R t t') where
      from_home_alike : (home : ℕ) → home ≤ n
          → OutAlike e s R (from_home M charge s q asked t home) (from_home M charge u (query_to e q) (item_to e asked) t' (or_none e.modules home))
      unfolding from_home
      from_home_alike zero h = record { choice = nothing_alike e s u em; meter = r }
      from_home_alike (suc home) h =
          subst (λ x. OutAlike e s R (search_item M charge s (context_of s q home) asked t) (search_item M charge u x (item_to e asked) t'))
          (sym (context_moved home (omega arith)))
          (search_item_alike e s u em v w (context_of s q home) (sits home) M charge R fair asked asked_has t t' r)

      from_item_alike : (b : Bool) → is_builtin_type s q ≡ b → OutAlike e s R (from_item M charge s q t b) (from_item M charge u (query_to e q) t' b)
      unfolding from_item
      from_item_alike true a =
          let k = and_two (eqb q.ns types) (eqb (definition_of s q.definition.0).kind builtin_kind) a in
          record { choice = builtin_alike (eqb-true (definition_of s q.definition.0).kind 3 k.1); meter = r }
      from_item_alike false a =
          let h = ap (home_of u) asked_moved ∙ home_moved e s u em v asked asked_has in
          subst (λ k. OutAlike e s R (from_home M charge s q asked t (home_of s asked))
          (from_home M charge u (query_to e q) (item_of u q.ns (e.definitions q.definition.0)) t' k)) (sym h)
          (subst (λ k. OutAlike e s R (from_home M charge s q asked t (home_of s asked))
          (from_home M charge u (query_to e q) k t' (or_none e.modules (home_of s asked)))) (sym asked_moved)
          (from_home_alike (home_of s asked) (home_low e s u em v asked asked_has)))

      -- `find_path`
      pub find_path_alike : OutAlike e s R (find_path M charge s q t) (find_path M charge u (query_to e q) t')
      unfolding find_path
      find_path_alike =
          subst (λ b. OutAlike e s R (find_path M charge s q t) (from_item M charge u (query_to e q) t' b)) (sym builtin_type_moved)
          (from_item_alike (is_builtin_type s q) refl)

    -- the search with a tank
    pub searched_alike : (fuel : ℕ) → OutAlike e s (TankAlike e) (searched s q fuel) (searched u (query_to e q) fuel)
    unfolding searched
    searched_alike fuel = find_path_alike Tank from_tank (TankAlike e) (tank_fair e s) (filled fuel) (filled fuel) (filled_alike e s fuel)

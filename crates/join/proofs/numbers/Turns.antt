-- The tables of names and of definitions: a turn of each loop, in terms of both inputs.
use Prim.Native.Nat.{ℕ, ◌+◌, ◌*◌, ◌^◌, ◌≤◌, ◌<◌}
use mathlib.Core.Path.{◌≡◌, sym, ◌∙◌, ap, ap₂}
use mathlib.Core.List.{List}
use mathlib.Core.Bool.{◌&&◌}
use native.Mathlib.Omega.{arith}
use borrow.Author.Tests.{eq-eqb, ne_eqb}
use lib.Dec.{eqb}
use lib.ListN.{length, get_or, set}
use Rattle.snapshot.specs.Sizes.{definition_size}
use Rattle.snapshot.specs.Records.{Definition, Snapshot, name_at, definition_at}
use Rattle.snapshot.specs.Layouts.{definition_base, name_head, records_of}
use Rattle.snapshot.specs.declared.layout.Layout.{Layout}
use Rattle.snapshot.proofs.Laws.{get_d_rows}
use Rattle.check_rules.specs.Tests.{no_name, no_definition, same_name}
use Rattle.accept.proofs.Bools.{each_at}
use Rattle.accept.proofs.Valid.{accepted_valid}
use Rattle.hir_def.specs.Finds.{place_of}
use Rattle.join_rules.specs.Joined.{name_number, same_builtin, definition_number}
use Rattle.join_rules.proofs.Lists.{any_not}
use Rattle.join.specs.numbers.Parts.{part_of, names_from, Part, Ready}
use Rattle.join.specs.numbers.Numbered.{name_table, definition_table, Holds, is_named, number_by, fresh_by, NamesNumbered, DefinitionsNumbered}
use Rattle.join.specs.numbers.Numbered.{Numbered}
use Rattle.join.proofs.numbers.Parts.{read_is, part_of_lem, ready_stays}
use Rattle.join.proofs.numbers.Finding.{place_none, place_by}
use Rattle.join.proofs.numbers.Filling.{Numbering, numbering_next, numbering_done, fresh_few}

module _ (W X A : List ℕ) (l m : Layout) (r : Ready W X A l m) where
  abbrev s : Snapshot
  s = part_of W

  abbrev t : Snapshot
  t = part_of X

  pub second_part : Part X m
  second_part = part_of_lem X A m r.second

  -- names

  abbrev pub Names : List ℕ → ℕ → ℕ → Type 0
  Names B n fresh = Numbering same_name no_name s.names t.names name_table A B n fresh

  name_read : (B : List ℕ) (n fresh : ℕ) → Names B n fresh → n < m.names → get_or t.names n no_name ≡ name_at X (name_head B n)
  name_read B n fresh h k =
      let few = second_part.limited.names in
      let q = h.filled.below n (omega arith) in
      ap (λ (u : Snapshot). get_or u.names n no_name) (read_is X A m r.second) ∙ get_d_rows (λ j. name_at X (name_head A j)) no_name m.names n k
      ∙ ap (name_at X) (sym q)

  pub names_next : (B C : List ℕ) (n fresh place f : ℕ) → Names B n fresh → n < m.names
      → place ≡ place_of (same_name (name_at X (name_head B n))) 0 (names_from W 0 l.names)
      → C ≡ set B (name_table + n) (number_by l.names place fresh) → f ≡ fresh_by l.names place fresh → Names C (n + 1) f
  names_next B C n fresh place f h k e c q =
      let few = second_part.limited.names in
      let z = second_part.counted.names in
      let room = r.room in
      numbering_next same_name no_name s.names t.names name_table A B C n fresh l.names place f h (omega arith) (omega arith)
      (sym r.first.counted.names)
      (e ∙ ap₂ (λ y xs. place_of (same_name y) 0 xs) (sym (name_read B n fresh h k)) (sym r.first.names)) c q

  pub names_done : (B : List ℕ) (n fresh : ℕ) → Names B n fresh → m.names ≤ n → NamesNumbered s t A B fresh
  unfolding name_number
  names_done B n fresh h k =
      let z = second_part.counted.names in
      let d = numbering_done same_name no_name s.names t.names name_table A B n fresh h (omega arith) in
      record { filled = d.0; new = d.1 }

  -- there is room for one number more
  pub names_room : (B : List ℕ) (n fresh : ℕ) → Names B n fresh → n < m.names → (name_table + n < length B) × (l.names + fresh < 2 ^ 32)
  names_room B n fresh h k =
      let few = second_part.limited.names in
      let old = r.first.limited.names in
      let z = h.filled.size in
      let f = fresh_few _ _ _ _ _ A B n fresh h in
      let room = r.room in
      (omega arith, omega arith)

  -- definitions

  abbrev pub Definitions : List ℕ → ℕ → ℕ → Type 0
  Definitions B n fresh = Numbering (same_builtin s t) no_definition s.definitions t.definitions definition_table A B n fresh

  definition_read : (n : ℕ) → n < m.definitions → get_or t.definitions n no_definition ≡ definition_at X (definition_base m + definition_size * n)
  definition_read n k =
      ap (λ ds. get_or ds n no_definition) second_part.definitions
      ∙ get_d_rows (λ j. definition_at X (definition_base m + definition_size * j)) no_definition m.definitions n k

  pub definitions_ready : (B : List ℕ) (n fresh : ℕ) → Definitions B n fresh → Ready W X B l m
  definitions_ready B n fresh h = ready_stays W X A B l m r h.filled.size (λ i k. h.filled.below i (omega arith))

  pub definitions_named : (B : List ℕ) (n fresh : ℕ) → Definitions B n fresh → Holds A name_table (name_number s t) m.names
      → Holds B name_table (name_number s t) m.names
  definitions_named B n fresh h a i k =
      let few = second_part.limited.names in
      h.filled.below (name_table + i) (omega arith) ∙ a i k

  pub definitions_next : (B C : List ℕ) (n fresh place f : ℕ) → Definitions B n fresh → n < m.definitions
      → place ≡ place_of (same_builtin s t (definition_at X (definition_base m + definition_size * n))) 0 s.definitions
      → C ≡ set B (definition_table + n) (number_by l.definitions place fresh) → f ≡ fresh_by l.definitions place fresh → Definitions C (n + 1) f
  definitions_next B C n fresh place f h k e c q =
      let few = second_part.limited.definitions in
      let z = second_part.counted.definitions in
      let room = r.room in
      numbering_next (same_builtin s t) no_definition s.definitions t.definitions definition_table A B C n fresh l.definitions place f h
      (omega arith) (omega arith) (sym r.first.counted.definitions)
      (e ∙ ap (λ y. place_of (same_builtin s t y) 0 s.definitions) (sym (definition_read n k))) c q

  pub definitions_done : (B : List ℕ) (n fresh : ℕ) → Definitions B n fresh → m.definitions ≤ n → DefinitionsNumbered s t A B fresh
  unfolding definition_number
  definitions_done B n fresh h k =
      let z = second_part.counted.definitions in
      let d = numbering_done (same_builtin s t) no_definition s.definitions t.definitions definition_table A B n fresh h (omega arith) in
      record { filled = d.0; new = d.1 }

  -- there is room for one number more
  pub definitions_room : (B : List ℕ) (n fresh : ℕ) → Definitions B n fresh → n < m.definitions → (definition_table + n < length B)
      × (l.definitions + fresh < 2 ^ 32)
  definitions_room B n fresh h k =
      let few = second_part.limited.definitions in
      let old = r.first.limited.definitions in
      let z = h.filled.size in
      let f = fresh_few _ _ _ _ _ A B n fresh h in
      let room = r.room in
      (omega arith, omega arith)

  -- where a definition of the second stands in the first

  pub other_place : (y : Definition) {k : ℕ} → k ≡ y.kind → (k ≡ 3 → ⊥) → l.definitions ≡ place_of (same_builtin s t y) 0 s.definitions
  other_place y e h =
      let b = ne_eqb y.kind 3 (λ z. h (e ∙ z)) in
      let a = any_not (same_builtin s t y) no_definition s.definitions (λ j i. rw b) in
      let p = place_none (same_builtin s t y) 0 s.definitions a in
      let c = r.first.counted.definitions in
      omega arith

  pub builtin_place : (d : ℕ) {k f name place : ℕ} → Holds A name_table (name_number s t) m.names → d < m.definitions
      → k ≡ (definition_at X (definition_base m + definition_size * d)).kind → k ≡ 3
      → f ≡ (definition_at X (definition_base m + definition_size * d)).first
      → name ≡ get_or A (name_table + f) 0
      → place ≡ place_of (is_named name) 0 (records_of definition_at definition_size W (definition_base l) l.definitions)
      → place ≡ place_of (same_builtin s t (definition_at X (definition_base m + definition_size * d))) 0 s.definitions
  builtin_place d {k} {f} {name} h i a b c e p =
      let y = definition_at X (definition_base m + definition_size * d) in
      let z = second_part.counted.definitions in
      let n = second_part.counted.names in
      let q = definition_read d i in
      let v = each_at no_definition d (accepted_valid X t second_part.same).ranges.definitions (omega arith) in
      let three : y.kind ≡ 3 = sym a ∙ b in
      let w = v.builtin (ap (λ (x : Definition). x.kind) q ∙ three) in
      let g : (get_or t.definitions d no_definition).first ≡ y.first = ap (λ (x : Definition). x.first) q in
      let o : name ≡ name_number s t y.first = e ∙ ap (λ j. get_or A (name_table + j) 0) c ∙ h y.first (omega arith) in
      let u = eq-eqb y.kind 3 three in
      p ∙ ap (place_of (is_named name) 0) (sym r.first.definitions)
      ∙ place_by (is_named name) (same_builtin s t y) 0 s.definitions (λ x. ap (λ j. eqb x.kind 3 && eqb j x.first) o ∙ sym (rw u))

  -- both tables

  pub named_ready : (B : List ℕ) (n : ℕ) → NamesNumbered s t A B n → Ready W X B l m
  named_ready B n h = ready_stays W X A B l m r h.filled.size h.filled.below

  pub named_holds : (B : List ℕ) (n : ℕ) → NamesNumbered s t A B n → Holds B name_table (name_number s t) m.names
  named_holds B n h i k = let z = second_part.counted.names in h.filled.table i (omega arith)

  pub numbered : (B C : List ℕ) (n d : ℕ) → NamesNumbered s t A B n → DefinitionsNumbered s t B C d
      → Numbered s t A C (record { names = n; definitions = d })
  numbered B C n d h g =
      let few = second_part.limited.names in
      let z = second_part.counted.names in
      record {
        numbers =
            record {
              names = λ i k. g.filled.below (name_table + i) (omega arith) ∙ h.filled.table i k;
              definitions = g.filled.table;
            };
        names = h.new;
        definitions = g.new;
        size = g.filled.size ∙ h.filled.size;
        below = λ i k. g.filled.below i (omega arith) ∙ h.filled.below i k;
      }

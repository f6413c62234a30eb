-- A checked input when its tables are gone: what its words and its layout still say.
use Prim.Native.Nat.{ℕ, ◌+◌, ◌≤◌, ◌<◌}
use mathlib.Core.Path.{◌≡◌, refl, sym, ◌∙◌, ap, ap₂, subst}
use mathlib.Core.List.{List, [], ◌∷◌, ◌++◌}
use native.Mathlib.Omega.{arith}
use native.Mathlib.Nat.{zero-add}
use lib.ListN.{length, get_or}
use Rattle.snapshot.specs.Lists.{rows}
use Rattle.snapshot.specs.Words.{pay_of, words_of}
use Rattle.snapshot.specs.Records.{Name, Module, Snapshot, name_at}
use Rattle.snapshot.specs.Layouts.{crate_base, dependency_base, map_base, child_base, prelude_base, definition_base, scope_base, import_base}
use Rattle.snapshot.specs.Layouts.{extern_base}
use Rattle.snapshot.specs.Layouts.{member_base, table_words, snap_of}
use Rattle.snapshot.specs.declared.layout.Layout.{Layout}
use Rattle.snapshot.proofs.Laws.{length_rows}
use Rattle.check_rules.specs.Verdict.{accept, verdict}
use Rattle.accept.specs.Valid.{Each, more, NameFits}
use Rattle.accept.specs.Post.{Reads}
use Rattle.accept.proofs.Bools.{each_map}
use Rattle.accept.proofs.Stable.{reads_stay}
use Rattle.accept.proofs.Valid.{accepted_valid}
use Rattle.find_path_spec.specs.Line.{snapshot_of}
use Rattle.edit_rules.specs.Entries.{scope_words}
use Rattle.edit_rules.specs.Written.{name_words, crate_words, dependency_words, child_words, prelude_words, definition_words, import_words}
use Rattle.edit_rules.specs.Written.{extern_words}
use Rattle.edit_rules.specs.Written.{member_words, each_words, tree_words, kinds_words, joined, snapshot_words}
use Rattle.edit_rules.proofs.scope_edits.Written.{accepted_written}
use Rattle.join_rules.proofs.Runs.{At, at_left, at_right, at_next, at_rows, pay_is}
use Rattle.join_rules.proofs.Stages.{NameWhole}
use Rattle.join_rules.proofs.Wholes.{accepted_whole}
use Rattle.join.specs.numbers.Parts.{part_of, Counted, after_name, names_from, Part, Ready}
use Rattle.join.proofs.numbers.Lengths.{Sizes, sizes, snapshot_length}

pub part_is : (W : List ℕ) (s : Snapshot) → verdict W ≡ accept s → part_of W ≡ s
unfolding snapshot_of
part_is W s e = ap snapshot_of e

pub read_is : (W A : List ℕ) (l : Layout) → Reads W A l → part_of W ≡ snap_of W A l
read_is W A l r = part_is W (snap_of W A l) r.same

-- a name that stands in words, and names that stand one after the other

name_stands : (x : Name) {X : List ℕ} {p : ℕ} → At X p (name_words x) → x.bytes ≤ 255 → length x.text ≡ words_of x.bytes → name_at X p ≡ x
name_stands x {X} {p} at low size =
    let b = pay_is 1 x.bytes at (omega arith) in
    let t = ap (λ m. rows (λ i. get_or X (p + 1 + i) 0) 0 (words_of m)) b ∙ at_rows x.text (words_of x.bytes) size (at_next _ x.text at) in
    λ i. record { bytes = b i; text = t i }

names_stand : {X : List ℕ} {p : ℕ} (xs : List Name) → Each NameWhole xs → Each NameFits xs → At X p (each_words name_words xs)
    → names_from X p (length xs) ≡ xs
unfolding names_from each_words
names_stand [] hs fs at = refl
names_stand {X} {p} (x ∷ xs) (more h hs) (more f fs) at =
    let a = at_left (name_words x) (each_words name_words xs) at in
    let e = name_stands x a f.bytes h.size in
    let b : pay_of (get_or X p 0) ≡ x.bytes = ap (λ (y : Name). y.bytes) e in
    let c = ap words_of b in
    let g = h.size in
    let q : after_name X p ≡ p + length (name_words x) = omega arith in
    ap₂ (λ y ys. y ∷ ys) e
    (ap (λ j. names_from X j (length xs)) q
    ∙ names_stand {p = p + length (name_words x)} xs hs fs (at_right (name_words x) (each_words name_words xs) at))

at_whole : (W : List ℕ) → At W 0 W
at_whole W = record { same = λ i h. ap (λ j. get_or W j 0) (zero-add i); within = omega arith }

-- the words of each kind, from its base on
pub record Kinds (W : List ℕ) (l : Layout) (s : Snapshot) : Type 0 where
  pub names : At W 0 (each_words name_words s.names)
  pub crates : At W (crate_base l) (each_words crate_words s.crates)
  pub dependencies : At W (dependency_base l) (each_words dependency_words s.dependencies)
  pub tree : At W (map_base l) (tree_words 0 s.maps s.modules)
  pub children : At W (child_base l) (each_words child_words s.children)
  pub preludes : At W (prelude_base l) (each_words prelude_words s.preludes)
  pub definitions : At W (definition_base l) (each_words definition_words s.definitions)
  pub scopes : At W (scope_base l) (each_words scope_words s.scopes)
  pub imports : At W (import_base l) (each_words import_words s.imports)
  pub externs : At W (extern_base l) (each_words extern_words s.externs)
  pub members : At W (member_base l) (each_words member_words s.members)
  pub sizes : Sizes s

-- the kinds that follow one
at_then : {W : List ℕ} {p q : ℕ} (a b : List ℕ) → At W p (a ++ b) → p + length a ≡ q → At W q b
at_then {W} a b h e = subst (λ j. At W j b) e (at_right a b h)

module _ (W : List ℕ) (l : Layout) (s : Snapshot) (e : W ≡ snapshot_words s) (c : Counted l s) (z : Sizes s) where
  pub kinds : Kinds W l s
  unfolding snapshot_words joined
  kinds =
      let r0 : At W 0 (joined (kinds_words s)) = subst (At W 0) e (at_whole W) in
      let r1 : At W (crate_base l) _ = at_then (each_words name_words s.names) _ r0 (omega arith) in
      let r2 : At W (dependency_base l) _ = at_then (each_words crate_words s.crates) _ r1 (omega arith) in
      let r3 : At W (map_base l) _ = at_then (each_words dependency_words s.dependencies) _ r2 (omega arith) in
      let r4 : At W (child_base l) _ = at_then (tree_words 0 s.maps s.modules) _ r3 (omega arith) in
      let r5 : At W (prelude_base l) _ = at_then (each_words child_words s.children) _ r4 (omega arith) in
      let r6 : At W (definition_base l) _ = at_then (each_words prelude_words s.preludes) _ r5 (omega arith) in
      let r7 : At W (scope_base l) _ = at_then (each_words definition_words s.definitions) _ r6 (omega arith) in
      let r8 : At W (import_base l) _ = at_then (each_words scope_words s.scopes) _ r7 (omega arith) in
      let r9 : At W (extern_base l) _ = at_then (each_words import_words s.imports) _ r8 (omega arith) in
      let r10 : At W (member_base l) _ = at_then (each_words extern_words s.externs) _ r9 (omega arith) in
      record {
        names = at_left (each_words name_words s.names) _ r0;
        crates = at_left (each_words crate_words s.crates) _ r1;
        dependencies = at_left (each_words dependency_words s.dependencies) _ r2;
        tree = at_left (tree_words 0 s.maps s.modules) _ r3;
        children = at_left (each_words child_words s.children) _ r4;
        preludes = at_left (each_words prelude_words s.preludes) _ r5;
        definitions = at_left (each_words definition_words s.definitions) _ r6;
        scopes = at_left (each_words scope_words s.scopes) _ r7;
        imports = at_left (each_words import_words s.imports) _ r8;
        externs = at_left (each_words extern_words s.externs) _ r9;
        members = at_left (each_words member_words s.members) _ r10;
        sizes = z;
      }

-- checked words with their tables are a part

known_maps : (W : List ℕ) (s : Snapshot) → verdict W ≡ accept s → Each (λ x. x.map < length s.maps) s.modules
known_maps W s v = each_map (λ (x : Module) f. f.map) (accepted_valid W s v).ranges.modules

module _ (W A : List ℕ) (l : Layout) (r : Reads W A l) where
  counted : Counted l (snap_of W A l)
  counted =
      let s = snap_of W A l in
      let e = ap length (accepted_written W s r.same) ∙ snapshot_length s (sizes s (known_maps W s r.same)) in
      let w = r.tables.whole in
      let names : length (snap_of W A l).names ≡ l.names = length_rows _ l.names in
      let crates : length (snap_of W A l).crates ≡ l.crates = length_rows _ l.crates in
      let dependencies : length (snap_of W A l).dependencies ≡ l.dependencies = length_rows _ l.dependencies in
      let maps : length (snap_of W A l).maps ≡ l.maps = length_rows _ l.maps in
      let modules : length (snap_of W A l).modules ≡ l.modules = length_rows _ l.modules in
      let children : length (snap_of W A l).children ≡ l.children = length_rows _ l.children in
      let preludes : length (snap_of W A l).preludes ≡ l.preludes = length_rows _ l.preludes in
      let definitions : length (snap_of W A l).definitions ≡ l.definitions = length_rows _ l.definitions in
      let scopes : length (snap_of W A l).scopes ≡ l.scopes = length_rows _ l.scopes in
      let imports : length (snap_of W A l).imports ≡ l.imports = length_rows _ l.imports in
      let externs : length (snap_of W A l).externs ≡ l.externs = length_rows _ l.externs in
      let members : length (snap_of W A l).members ≡ l.members = length_rows _ l.members in
      record {
        text = omega arith;
        names = names;
        crates = crates;
        dependencies = dependencies;
        maps = maps;
        modules = modules;
        children = children;
        preludes = preludes;
        definitions = definitions;
        scopes = scopes;
        imports = imports;
        externs = externs;
        members = members;
      }

  part_read : (s : Snapshot) → snap_of W A l ≡ s → verdict W ≡ accept s
      → (Counted l s) × (s.names ≡ names_from W 0 l.names) × (W ≡ snapshot_words s) × (Kinds W l s)
  part_read s q v =
      let c = subst (Counted l) q counted in
      let e = accepted_written W s v in
      let k = kinds W l s e c (sizes s (known_maps W s v)) in
      let n = names_stand s.names (accepted_whole W s v).names (accepted_valid W s v).ranges.names k.names in
      (c, sym n ∙ ap (names_from W 0) c.names, e, k)

  pub part_of_lem : Part W l
  part_of_lem =
      let q = read_is W A l r in
      let v = r.same ∙ ap accept (sym q) in
      let p = part_read (part_of W) (sym q) v in
      record {
        same = v;
        words = p.2;
        whole = r.tables.whole;
        short = r.tables.short;
        limited = r.tables.limited;
        maps = r.tables.maps;
        counted = p.0;
        names = p.1;
        definitions = ap (λ (s : Snapshot). s.definitions) q;
      }

-- a part's words, kind by kind
pub part_kinds : (W : List ℕ) (l : Layout) → Part W l → Kinds W l (part_of W)
part_kinds W l p = kinds W l (part_of W) p.words p.counted (sizes (part_of W) (known_maps W (part_of W) p.same))

-- the second's tables stay while their words do
pub ready_stays : (W X A B : List ℕ) (l m : Layout) → Ready W X A l m → length B ≡ length A
    → ((i : ℕ) → i < table_words → get_or B i 0 ≡ get_or A i 0)
    → Ready W X B l m
ready_stays W X A B l m r e kept =
    let a = r.room in
    record { first = r.first; second = reads_stay X A B m r.second (λ i p q. kept i q); room = omega arith }

-- Accepted words stay readable while the words of the tables stay: what a search writes past them does not matter.
use Prim.Native.Nat.{ℕ, ◌+◌, ◌*◌, ◌≤◌, ◌<◌}
use mathlib.Core.Path.{◌≡◌, refl, sym, ◌∙◌, ap}
use mathlib.Core.List.{List, ◌++◌}
use native.Mathlib.Omega.{arith}
use lib.ListN.{length, get_or, drop, get_or-append}
use lib.Seq.{drop_at}
use borrow.Author.Tests.{lt-ltb, le-ltb}
use Rattle.snapshot.specs.Limits.{area_limit}
use Rattle.snapshot.specs.Sizes.{crate_size, dependency_size, child_size, prelude_size}
use Rattle.snapshot.specs.Sizes.{definition_size, scope_size, import_size, extern_size, member_size}
use Rattle.snapshot.specs.Records.{map_at, crate_at, dependency_at, child_at, prelude_at, definition_at, scope_at, import_at, extern_at, member_at}
use Rattle.snapshot.specs.Layouts.{crate_base, dependency_base, child_base, prelude_base, definition_base, scope_base}
use Rattle.snapshot.specs.Layouts.{import_base, extern_base, member_base, module_map, module_head, map_root, own_map, names_of}
use Rattle.snapshot.specs.Layouts.{maps_of, modules_of, records_of, snap_of, module_table, root_table, crate_table, table_words}
use Rattle.snapshot.specs.declared.layout.Layout.{Layout}
use Rattle.snapshot.proofs.Laws.{rows_ext}
use Rattle.check_rules.specs.Tests.{no_map}
use Rattle.check_rules.specs.Verdict.{accept}
use Rattle.check_records.specs.record_rules.Stands.{own_of}
use Rattle.record_index.proofs.Ranging.{index_stays}
use Rattle.accept.specs.Post.{Tables, Reads, Judged, Checks, check_of, outcome, Readable, Checked}
use Rattle.std.specs.Prelude.{Ok, Err}
use Rattle.snapshot.specs.declared.refusal.Refusal.TheVariants.{Area}
use Rattle.check_records.proofs.record_rules.Tabled.{Kept, names_kept, modules_kept, heads_kept}

module _ (W A B : List ℕ) (l : Layout) (t : Tables W A l) (kept : Kept A B 0 table_words) where
  map_stays : (m : ℕ) → m < l.modules → module_map B m ≡ module_map A m
  map_stays m h = let q = t.limited.modules in kept (module_table + 3 * m) (omega arith) (omega arith)

  root_stays : (k : ℕ) → k < l.maps → map_root B k ≡ map_root A k
  root_stays k h = let q = t.limited.modules in let r = t.maps in kept (root_table + k) (omega arith) (omega arith)

  own_stays : (c : ℕ) → c < l.crates → own_map B c ≡ own_map A c
  own_stays c h = let q = t.limited.crates in kept (crate_table + c) (omega arith) (omega arith)

  maps_stay : maps_of W B l.maps ≡ maps_of W A l.maps
  maps_stay =
      rows_ext _ _ l.maps
      (λ k h.
      let q = t.limited.modules in
      let r = t.rooted k h in
      ap (λ x. map_at W (module_head B x)) (root_stays k h) ∙ ap (map_at W) (kept (module_table + 3 * map_root A k + 1) (omega arith) (omega arith)))

  -- the snapshot is the same
  pub snap_stays : snap_of W B l ≡ snap_of W A l
  snap_stays =
      let q_names : names_of W B l.names ≡ names_of W A l.names = names_kept W A B l.names t.limited.names
      (λ i u v. kept i u (omega arith)) in
      let q_modules : modules_of B l.modules ≡ modules_of A l.modules = modules_kept A B l.modules t.limited.modules
      (λ i u v. kept i (omega arith) (omega arith)) in
      let q-maps = maps_stay in
      λ i. record {
        names = q_names i;
        crates = records_of crate_at crate_size W (crate_base l) l.crates;
        dependencies = records_of dependency_at dependency_size W (dependency_base l) l.dependencies;
        maps = q-maps i;
        modules = q_modules i;
        children = records_of child_at child_size W (child_base l) l.children;
        preludes = records_of prelude_at prelude_size W (prelude_base l) l.preludes;
        definitions = records_of definition_at definition_size W (definition_base l) l.definitions;
        scopes = records_of scope_at scope_size W (scope_base l) l.scopes;
        imports = records_of import_at import_size W (import_base l) l.imports;
        externs = records_of extern_at extern_size W (extern_base l) l.externs;
        members = records_of member_at member_size W (member_base l) l.members;
      }

  -- and so are the tables
  pub tables_stay : Tables W B l
  tables_stay =
      record {
        whole = t.whole;
        short = t.short;
        limited = t.limited;
        maps = t.maps;
        heads = heads_kept W A B l.names t.limited.names (λ i u v. kept i u (omega arith)) t.heads;
        below = λ m h. rw (map_stays m h) (t.below m h);
        mapped = λ m h.
            (let q = t.limited.modules in
            ap (λ x. get_or x (module_map B m) no_map) maps_stay ∙ ap (λ k. get_or (maps_of W A l.maps) k no_map) (map_stays m h) ∙ t.mapped m h
            ∙ ap (map_at W) (sym (kept (module_table + 3 * m + 1) (omega arith) (omega arith))));
        rooted = λ k h. rw (root_stays k h) (t.rooted k h);
        inside = λ k h. ap (module_map B) (root_stays k h) ∙ map_stays (map_root A k) (t.rooted k h) ∙ t.inside k h;
        first = λ m h. rw (map_stays m h, root_stays (module_map A m) (t.below m h)) (t.first m h);
        own = λ c h. own_stays c h ∙ t.own c h ∙ ap (own_of c) (sym maps_stay);
        owned = λ c h. rw (own_stays c h) (t.owned c h);
        index = index_stays W A B l (let q = t.whole in let r = t.short in omega arith) t.limited.crates
            (λ i p q. kept i (omega arith) (omega arith)) t.index;
      }

-- the check in the first part of an area
module _ (W A B : List ℕ) (large : area_limit ≤ length A) (long : length B ≡ area_limit) where
  joined : Kept B (B ++ drop area_limit A) 0 table_words
  joined i p q = get_or-append B (drop area_limit A) 0 i (omega arith)

  same_at : (r : Checked) → Readable W B r → outcome W (B ++ drop area_limit A) r ≡ outcome W B r
  same_at (Err e) t = refl
  same_at (Ok l) t = ap accept (snap_stays W B (B ++ drop area_limit A) l t joined)

  tables_at : (r : Checked) → Readable W B r → Readable W (B ++ drop area_limit A) r
  tables_at (Err e) t = tt
  tables_at (Ok l) t = tables_stay W B (B ++ drop area_limit A) l t joined

  pub checks_part : (r : Checked) → Judged W B r → Checks W A (B ++ drop area_limit A) r
  unfolding check_of
  checks_part r j =
      record {
        same = same_at r j.tables ∙ j.same ∙ sym (rw (check_of, le-ltb _ _ large));
        tables = tables_at r j.tables;
        rest = drop_at B (drop area_limit A) area_limit long;
        untouched = λ h. absurd (omega arith);
      }

pub checks_small : (W A : List ℕ) → length A < area_limit → Checks W A A (Err (record { why = Area; at = 0 }))
unfolding check_of
checks_small W A h = record { same = sym (rw (check_of, lt-ltb _ _ h)); tables = tt; rest = refl; untouched = λ g. refl }

-- accepted words stay readable
pub reads_stay : (W A B : List ℕ) (l : Layout) → Reads W A l → Kept A B 0 table_words → Reads W B l
reads_stay W A B l r kept =
    record {
      same = r.same ∙ ap accept (sym (snap_stays W A B l r.tables kept));
      tables = tables_stay W A B l r.tables kept;
    }

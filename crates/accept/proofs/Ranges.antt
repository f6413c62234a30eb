-- The fields and numbers of an accepted snapshot are in range.
use mathlib.Core.Path.{◌≡◌}
use Prim.Native.Nat.{ℕ, ◌≤◌, ◌<◌}
use native.Mathlib.Omega.{arith}
use mathlib.Core.List.{List, [], ◌∷◌, ◌++◌}
use mathlib.Core.Bool.{Bool, true, false, ◌&&◌, ◌||◌, not}
use lib.Dec.{eqb, ltb, leb}
use lib.ListN.{length}
use borrow.Author.Tests.{eqb-true, eq-eqb, ne_eqb, ltb-true, leb-true}
use Rattle.snapshot.specs.Limits.{word_limit, crate_limit, module_limit, name_limit, definition_limit, namespace_limit}
use Rattle.snapshot.specs.Records.{Name, Crate, Dependency, Map, Module, Child, Prelude, Definition, Scope, Import, Extern, Member, Snapshot}
use Rattle.check_rules.specs.Tests.{Counts, counts_of, padded, name_range, crate_range, is_edition, dependency_range, dependency_defined}
use Rattle.check_rules.specs.Tests.{map_range, map_defined, module_defined, child_defined, prelude_defined, definition_defined}
use Rattle.check_rules.specs.Tests.{scope_range, scope_defined, import_range, import_defined, extern_defined, member_range, member_defined}
use Rattle.check_rules.specs.Steps.{add_name, add_crate, add_dependency, add_map, add_module, add_child}
use Rattle.check_rules.specs.Steps.{add_prelude, add_definition, add_scope, add_import, add_extern, add_member}
use Rattle.check_rules.specs.Verdict.{accept, verdict, empty}
use Rattle.accept.specs.Valid.{none, NameFits, CrateFits, DependencyFits, MapFits, ModuleFits, ChildFits, PreludeFits, DefinitionFits}
use Rattle.accept.specs.Valid.{ScopeFits, ImportFits, ExternFits, MemberFits, Ranges, Limits}
use Rattle.accept.proofs.Accepted.{by_test, Keeps, verdict_keeps}
use Rattle.accept.proofs.Bools.{and_two, and_three, and_four, and_five, unless_right, or_right, length_snoc, each_map, each_snoc}

-- the tests of each kind

name_fits : (y : Name) → name_range y ≡ true → NameFits y
name_fits y r =
    let q = and_three (leb 1 y.bytes) (leb y.bytes 255) (padded y.bytes y.text) r in
    record { some = leb-true 1 y.bytes q.0; bytes = leb-true y.bytes 255 q.1 }

crate_fits : (y : Crate) → crate_range y ≡ true → is_edition y.edition ≡ true → CrateFits y
crate_fits y r e =
    let q = and_two (leb y.origin 4) (leb y.no_std 1) r in
    record { origin = leb-true y.origin 4 q.0; no_std = leb-true y.no_std 1 q.1; edition = e }

neither : (a b c : Bool) → a || b || c ≡ true → a ≡ false → b ≡ false → c ≡ true
neither a b c e p q = or_right (a || b) c e (rw (p, q))

module _ (n : Counts) where
  dependency_fits : (y : Dependency) → dependency_range y ≡ true → dependency_defined n y ≡ true → DependencyFits n y
  dependency_fits y r e =
      let q = and_two (ltb y.owner n.crates) (ltb y.crate n.crates) e in
      record {
        owner = ltb-true y.owner n.crates q.0;
        crate = ltb-true y.crate n.crates q.1;
        sysroot = leb-true y.sysroot 1 r;
      }

  map_fits : (y : Map) → map_range y ≡ true → map_defined n y ≡ true → MapFits n y
  map_fits y r e =
      let q = and_two (ltb y.crate n.crates) (leb y.block n.modules) e in
      record {
        crate = ltb-true y.crate n.crates q.0;
        block = leb-true y.block n.modules q.1;
        no_std = leb-true y.no_std 1 r;
      }

  module_fits : (y : Module) → module_defined n y ≡ true → ModuleFits n y
  module_fits y e =
      let q = and_two (ltb y.map n.maps) (leb y.parent n.modules) e in
      record { map = ltb-true y.map n.maps q.0; parent = leb-true y.parent n.modules q.1 }

  child_fits : (y : Child) → child_defined n y ≡ true → ChildFits n y
  child_fits y e =
      let q = and_two (ltb y.owner n.modules) (ltb y.child n.modules) e in
      record { owner = ltb-true y.owner n.modules q.0; child = ltb-true y.child n.modules q.1 }

  prelude_fits : (y : Prelude) → prelude_defined n y ≡ true → PreludeFits n y
  prelude_fits y e =
      let q = and_two (ltb y.map n.maps) (ltb y.target n.modules) e in
      record { map = ltb-true y.map n.maps q.0; target = ltb-true y.target n.modules q.1 }

  definition_fits : (y : Definition) (rest : Bool) → y.place < word_limit
      → leb 1 y.kind && leb y.kind 5 && (eqb y.kind 2 || eqb y.second 0) && rest ≡ true
      → definition_defined n y ≡ true → DefinitionFits n y
  definition_fits y rest i r e =
      let p = and_four (leb 1 y.kind) (leb y.kind 5) (eqb y.kind 2 || eqb y.second 0) rest r in
      let q =
      and_three (not (eqb y.kind 2) || ltb y.first n.definitions && ltb y.second n.names)
      (not (eqb y.kind 3) || ltb y.first n.names)
      (eqb y.kind 2 || eqb y.kind 3 || ltb y.first n.modules) e in
      record {
        known = leb-true 1 y.kind p.0;
        kind = leb-true y.kind 5 p.1;
        variant = λ k.
            let a = unless_right (eqb y.kind 2) (ltb y.first n.definitions && ltb y.second n.names) q.0 (eq-eqb y.kind 2 k) in
            let b = and_two (ltb y.first n.definitions) (ltb y.second n.names) a in
            (ltb-true y.first n.definitions b.0, ltb-true y.second n.names b.1);
        builtin = λ k.
            ltb-true y.first n.names (unless_right (eqb y.kind 3) (ltb y.first n.names) q.1 (eq-eqb y.kind 3 k));
        home = λ a b.
            ltb-true y.first n.modules
            (neither (eqb y.kind 2) (eqb y.kind 3) (ltb y.first n.modules) q.2 (ne_eqb y.kind 2 a) (ne_eqb y.kind 3 b));
        place = i;
      }

  pub scope_fits : (y : Scope) → y.place < word_limit → scope_range y ≡ true → scope_defined n y ≡ true → ScopeFits n y
  scope_fits y i r e =
      let p = and_five (leb y.ns namespace_limit) (leb y.visibility 3) (not (eqb y.visibility 0) || eqb y.number 0)
      (leb y.declared 3) (leb y.bits 3) r in
      let q =
      and_five (ltb y.owner n.modules) (ltb y.name n.names) (ltb y.definition n.definitions)
      (not (eqb y.visibility 1) || ltb y.number n.crates) (leb y.visibility 1 || ltb y.number n.modules) e in
      record {
        owner = ltb-true y.owner n.modules q.0;
        ns = leb-true y.ns namespace_limit p.0;
        name = ltb-true y.name n.names q.1;
        definition = ltb-true y.definition n.definitions q.2;
        visibility = leb-true y.visibility 3 p.1;
        public = λ k. eqb-true y.number 0 (unless_right (eqb y.visibility 0) (eqb y.number 0) p.2 (eq-eqb y.visibility 0 k));
        crate = λ k.
            ltb-true y.number n.crates (unless_right (eqb y.visibility 1) (ltb y.number n.crates) q.3 (eq-eqb y.visibility 1 k));
        inside = λ k.
            ltb-true y.number n.modules
            (or_right (leb y.visibility 1) (ltb y.number n.modules) q.4
            (by_test (leb y.visibility 1) (λ t. let u = leb-true y.visibility 1 t in absurd (omega arith)) (λ t. t)));
        declared = leb-true y.declared 3 p.3;
        bits = leb-true y.bits 3 p.4;
        place = i;
      }

  import_fits : (y : Import) → y.place < word_limit → import_range y ≡ true → import_defined n y ≡ true → ImportFits n y
  import_fits y i r e =
      let p = and_two (leb y.ns namespace_limit) (leb y.bits 3) r in
      let q =
      and_four (ltb y.owner n.crates) (ltb y.definition n.definitions) (ltb y.name n.names)
      (ltb y.container n.modules) e in
      record {
        owner = ltb-true y.owner n.crates q.0;
        ns = leb-true y.ns namespace_limit p.0;
        definition = ltb-true y.definition n.definitions q.1;
        name = ltb-true y.name n.names q.2;
        container = ltb-true y.container n.modules q.3;
        bits = leb-true y.bits 3 p.1;
        place = i;
      }

  extern_fits : (y : Extern) → y.place < word_limit → extern_defined n y ≡ true → ExternFits n y
  extern_fits y i e =
      let q = and_three (ltb y.owner n.crates) (ltb y.name n.names) (ltb y.target n.modules) e in
      record {
        owner = ltb-true y.owner n.crates q.0;
        name = ltb-true y.name n.names q.1;
        target = ltb-true y.target n.modules q.2;
        place = i;
      }

  member_fits : (y : Member) → member_range y ≡ true → member_defined n y ≡ true → MemberFits n y
  member_fits y r e =
      let p = and_two (leb y.kind 3) (leb y.bits 3) r in
      let q = and_three (ltb y.parent n.definitions) (ltb y.name n.names) (ltb y.definition n.definitions) e in
      record {
        parent = ltb-true y.parent n.definitions q.0;
        name = ltb-true y.name n.names q.1;
        definition = ltb-true y.definition n.definitions q.2;
        kind = leb-true y.kind 3 p.0;
        bits = leb-true y.bits 3 p.1;
      }

-- more of each kind
record AtLeast (n m : Counts) : Type 0 where
  names : n.names ≤ m.names
  crates : n.crates ≤ m.crates
  maps : n.maps ≤ m.maps
  modules : n.modules ≤ m.modules
  definitions : n.definitions ≤ m.definitions

module _ (n m : Counts) (a : AtLeast n m) where
  ranges_more : (s : Snapshot) → Ranges n s → Ranges m s
  ranges_more s h =
      record {
        names = h.names;
        crates = h.crates;
        dependencies = each_map (λ x f. record { owner = omega arith; crate = omega arith; sysroot = f.sysroot }) h.dependencies;
        maps = each_map (λ x f. record { crate = omega arith; block = omega arith; no_std = f.no_std }) h.maps;
        modules = each_map (λ x f. record { map = omega arith; parent = omega arith }) h.modules;
        children = each_map (λ x f. record { owner = omega arith; child = omega arith }) h.children;
        preludes = each_map (λ x f. record { map = omega arith; target = omega arith }) h.preludes;
        definitions = each_map
            (λ x f.
            record {
              known = f.known;
              kind = f.kind;
              variant = λ q. let g = f.variant q in (omega (arith, g.0, a.definitions), omega (arith, g.1, a.names));
              builtin = λ q. omega (arith, f.builtin q, a.names);
              home = λ p q. omega (arith, f.home p q, a.modules);
              place = f.place;
            })
            h.definitions;
        scopes = each_map
            (λ x f.
            record {
              owner = omega arith;
              ns = f.ns;
              name = omega arith;
              definition = omega arith;
              visibility = f.visibility;
              public = f.public;
              crate = λ q. omega (arith, f.crate q, a.crates);
              inside = λ q. omega (arith, f.inside q, a.modules);
              declared = f.declared;
              bits = f.bits;
              place = f.place;
            })
            h.scopes;
        imports = each_map
            (λ x f.
            record {
              owner = omega arith;
              ns = f.ns;
              definition = omega arith;
              name = omega arith;
              container = omega arith;
              bits = f.bits;
              place = f.place;
            })
            h.imports;
        externs = each_map (λ x f. record { owner = omega arith; name = omega arith; target = omega arith; place = f.place }) h.externs;
        members = each_map (λ x f. record { parent = omega arith; name = omega arith; definition = omega arith; kind = f.kind; bits = f.bits })
            h.members;
      }

abbrev InRange : Snapshot → Type 0
InRange s = Ranges (counts_of s) s

no_ranges : InRange empty
no_ranges =
    record {
      names = none;
      crates = none;
      dependencies = none;
      maps = none;
      modules = none;
      children = none;
      preludes = none;
      definitions = none;
      scopes = none;
      imports = none;
      externs = none;
      members = none;
    }

-- the ranges with some lists longer, each by a record that fits
module _ (s : Snapshot) where
  more_names : (y : Name) → AtLeast (counts_of s) (counts_of (add_name s y))
  more_names y = let e = length_snoc s.names y in record {
    names = omega arith;
    crates = omega arith;
    maps = omega arith;
    modules =
        omega arith;
    definitions = omega arith;
  }

  more_crates : (y : Crate) → AtLeast (counts_of s) (counts_of (add_crate s y))
  more_crates y = let e = length_snoc s.crates y in record {
    names = omega arith;
    crates = omega arith;
    maps = omega arith;
    modules = omega arith;
    definitions = omega arith;
  }

  more_maps : (y : Map) → AtLeast (counts_of s) (counts_of (add_map s y))
  more_maps y = let e = length_snoc s.maps y in record {
    names = omega arith;
    crates = omega arith;
    maps = omega arith;
    modules =
        omega arith;
    definitions = omega arith;
  }

  more_modules : (y : Module) → AtLeast (counts_of s) (counts_of (add_module s y))
  more_modules y = let e = length_snoc s.modules y in record {
    names = omega arith;
    crates = omega arith;
    maps = omega arith;
    modules = omega arith;
    definitions = omega arith;
  }

  more_definitions : (y : Definition) → AtLeast (counts_of s) (counts_of (add_definition s y))
  more_definitions y = let e = length_snoc s.definitions y in record {
    names = omega arith;
    crates = omega arith;
    maps =
        omega arith;
    modules = omega arith;
    definitions = omega arith;
  }

  module _ (h : InRange s) where
    name_ranged : (y : Name) → NameFits y → InRange (add_name s y)
    name_ranged y f =
        let r = ranges_more (counts_of s) (counts_of (add_name s y)) (more_names y) s h in
        record {
          names = each_snoc h.names f;
          crates = h.crates;
          dependencies = r.dependencies;
          maps = r.maps;
          modules =
              r.modules;
          children = r.children;
          preludes = r.preludes;
          definitions = r.definitions;
          scopes = r.scopes;
          imports =
              r.imports;
          externs = r.externs;
          members = r.members;
        }

    crate_ranged : (y : Crate) → CrateFits y → InRange (add_crate s y)
    crate_ranged y f =
        let r = ranges_more (counts_of s) (counts_of (add_crate s y)) (more_crates y) s h in
        record {
          names = h.names;
          crates = each_snoc h.crates f;
          dependencies = r.dependencies;
          maps = r.maps;
          modules =
              r.modules;
          children = r.children;
          preludes = r.preludes;
          definitions = r.definitions;
          scopes = r.scopes;
          imports =
              r.imports;
          externs = r.externs;
          members = r.members;
        }

    dependency_ranged : (y : Dependency) → DependencyFits (counts_of s) y → InRange (add_dependency s y)
    dependency_ranged y f =
        record {
          names = h.names;
          crates = h.crates;
          dependencies = each_snoc h.dependencies f;
          maps = h.maps;
          modules =
              h.modules;
          children = h.children;
          preludes = h.preludes;
          definitions = h.definitions;
          scopes = h.scopes;
          imports =
              h.imports;
          externs = h.externs;
          members = h.members;
        }

    map_ranged : (y : Map) → MapFits (counts_of s) y → InRange (add_map s y)
    map_ranged y f =
        let r = ranges_more (counts_of s) (counts_of (add_map s y)) (more_maps y) s h in
        record {
          names = h.names;
          crates = h.crates;
          dependencies = r.dependencies;
          maps = each_snoc r.maps
              (record { crate = f.crate; block = f.block; no_std = f.no_std });
          modules = r.modules;
          children = r.children;
          preludes =
              r.preludes;
          definitions = r.definitions;
          scopes = r.scopes;
          imports = r.imports;
          externs = r.externs;
          members = r.members;
        }

    module_ranged : (y : Module) → ModuleFits (counts_of s) y → InRange (add_module s y)
    module_ranged y f =
        let r = ranges_more (counts_of s) (counts_of (add_module s y)) (more_modules y) s h in
        let e = length_snoc s.modules y in
        record {
          names = h.names;
          crates = h.crates;
          dependencies = r.dependencies;
          maps = r.maps;
          modules = each_snoc r.modules
              (record { map = f.map; parent = omega (arith, f.parent) });
          children = r.children;
          preludes = r.preludes;
          definitions =
              r.definitions;
          scopes = r.scopes;
          imports = r.imports;
          externs = r.externs;
          members = r.members;
        }

    child_ranged : (y : Child) → ChildFits (counts_of s) y → InRange (add_child s y)
    child_ranged y f =
        record {
          names = h.names;
          crates = h.crates;
          dependencies = h.dependencies;
          maps = h.maps;
          modules = h.modules;
          children =
              each_snoc h.children f;
          preludes = h.preludes;
          definitions = h.definitions;
          scopes = h.scopes;
          imports =
              h.imports;
          externs = h.externs;
          members = h.members;
        }

    prelude_ranged : (y : Prelude) → PreludeFits (counts_of s) y → InRange (add_prelude s y)
    prelude_ranged y f =
        record {
          names = h.names;
          crates = h.crates;
          dependencies = h.dependencies;
          maps = h.maps;
          modules = h.modules;
          children =
              h.children;
          preludes = each_snoc h.preludes f;
          definitions = h.definitions;
          scopes = h.scopes;
          imports =
              h.imports;
          externs = h.externs;
          members = h.members;
        }

    definition_ranged : (y : Definition) → DefinitionFits (counts_of s) y → InRange (add_definition s y)
    definition_ranged y f =
        let r = ranges_more (counts_of s) (counts_of (add_definition s y)) (more_definitions y) s h in
        let e = length_snoc s.definitions y in
        record {
          names = h.names;
          crates = h.crates;
          dependencies = r.dependencies;
          maps = r.maps;
          modules = r.modules;
          children = r.children;
          preludes = r.preludes;
          definitions = each_snoc r.definitions
              (record {
                known = f.known;
                kind = f.kind;
                variant = λ q. let g = f.variant q in (omega (arith, g.0), g.1);
                builtin = f.builtin;
                home = f.home;
                place = f.place;
              });
          scopes = r.scopes;
          imports = r.imports;
          externs = r.externs;
          members = r.members;
        }

    scope_ranged : (y : Scope) → ScopeFits (counts_of s) y → InRange (add_scope s y)
    scope_ranged y f =
        record {
          names = h.names;
          crates = h.crates;
          dependencies = h.dependencies;
          maps = h.maps;
          modules = h.modules;
          children =
              h.children;
          preludes = h.preludes;
          definitions = h.definitions;
          scopes = each_snoc h.scopes f;
          imports =
              h.imports;
          externs = h.externs;
          members = h.members;
        }

    import_ranged : (y : Import) → ImportFits (counts_of s) y → InRange (add_import s y)
    import_ranged y f =
        record {
          names = h.names;
          crates = h.crates;
          dependencies = h.dependencies;
          maps = h.maps;
          modules = h.modules;
          children =
              h.children;
          preludes = h.preludes;
          definitions = h.definitions;
          scopes = h.scopes;
          imports = each_snoc h.imports
              f;
          externs = h.externs;
          members = h.members;
        }

    extern_ranged : (y : Extern) → ExternFits (counts_of s) y → InRange (add_extern s y)
    extern_ranged y f =
        record {
          names = h.names;
          crates = h.crates;
          dependencies = h.dependencies;
          maps = h.maps;
          modules = h.modules;
          children =
              h.children;
          preludes = h.preludes;
          definitions = h.definitions;
          scopes = h.scopes;
          imports = h.imports;
          externs =
              each_snoc h.externs f;
          members = h.members;
        }

    member_ranged : (y : Member) → MemberFits (counts_of s) y → InRange (add_member s y)
    member_ranged y f =
        record {
          names = h.names;
          crates = h.crates;
          dependencies = h.dependencies;
          maps = h.maps;
          modules = h.modules;
          children =
              h.children;
          preludes = h.preludes;
          definitions = h.definitions;
          scopes = h.scopes;
          imports = h.imports;
          externs =
              h.externs;
          members = each_snoc h.members f;
        }

ranges_kept : {W : List ℕ} → Keeps W InRange
ranges_kept =
    record {
      names = λ s y p h. name_ranged s h y (name_fits y p.ranged);
      crates = λ s y p h. crate_ranged s h y (crate_fits y p.range p.edition);
      dependencies = λ s y p h. dependency_ranged s h y (dependency_fits (counts_of s) y p.ranged p.known);
      maps = λ s y p h. map_ranged s h y (map_fits (counts_of s) y p.ranged p.known);
      modules = λ s y p h. module_ranged s h y (module_fits (counts_of s) y p.known);
      children = λ s y p h. child_ranged s h y (child_fits (counts_of s) y p.known);
      preludes = λ s y p h. prelude_ranged s h y (prelude_fits (counts_of s) y p.known);
      definitions = λ s y o p h. definition_ranged s h y (definition_fits (counts_of s) y _ o.inside p.ranged p.known);
      scopes = λ s y o p h. scope_ranged s h y (scope_fits (counts_of s) y o.inside p.ranged p.known);
      imports = λ s y o p h. import_ranged s h y (import_fits (counts_of s) y o.inside p.ranged p.known);
      externs = λ s y o p h. extern_ranged s h y (extern_fits (counts_of s) y o.inside p.known);
      members = λ s y p h. member_ranged s h y (member_fits (counts_of s) y p.ranged p.known);
    }

abbrev Limited : Snapshot → Type 0
Limited s = Limits (counts_of s)

one_more_lem : {A : Type 0} (l : List A) (y : A) (n : ℕ) → ltb (length l) n ≡ true → length (l ++ (y ∷ [])) ≤ n
one_more_lem l y n e = let q = length_snoc l y in let h = ltb-true (length l) n e in omega arith

limits_kept : {W : List ℕ} → Keeps W Limited
limits_kept =
    record {
      names = λ s y p h. record {
        names = one_more_lem s.names y name_limit p.roomy;
        crates = h.crates;
        modules = h.modules;
        definitions = h.definitions;
      };
      crates = λ s y p h. record {
        names = h.names;
        crates = one_more_lem s.crates y crate_limit p.room;
        modules = h.modules;
        definitions = h.definitions;
      };
      dependencies = λ s y p h. h;
      maps = λ s y p h. record { names = h.names; crates = h.crates; modules = h.modules; definitions = h.definitions };
      modules = λ s y p h. record {
        names = h.names;
        crates = h.crates;
        modules = one_more_lem s.modules y module_limit p.roomy;
        definitions = h.definitions;
      };
      children = λ s y p h. h;
      preludes = λ s y p h. h;
      definitions = λ s y o p h. record {
        names = h.names;
        crates = h.crates;
        modules = h.modules;
        definitions =
            one_more_lem s.definitions y definition_limit p.roomy;
      };
      scopes = λ s y o p h. h;
      imports = λ s y o p h. h;
      externs = λ s y o p h. h;
      members = λ s y p h. h;
    }

module _ (W : List ℕ) (s : Snapshot) (e : verdict W ≡ accept s) where
  -- The fields and numbers of an accepted snapshot are in range.
  pub accepted_ranges : Ranges (counts_of s) s
  accepted_ranges = (verdict_keeps W InRange ranges_kept no_ranges s e).kept

  -- Its counts are within the limits.
  pub accepted_limits : Limits (counts_of s)
  accepted_limits =
      (verdict_keeps W Limited limits_kept
      (record { names = omega arith; crates = omega arith; modules = omega arith; definitions = omega arith }) s e).kept

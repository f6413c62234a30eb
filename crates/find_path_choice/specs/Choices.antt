-- `Choice`, `push`, `try_select`, and the lengths of a path.
use Prim.Native.Nat.{ℕ, ◌+◌, ◌-◌, ◌*◌, min, compare, Ordering}
use Rattle.std.specs.Prelude.{List, [], ◌∷◌, Bool, true, false, ◌&&◌, ◌||◌, eqb, ltb, get_or, replicate, set}
use Rattle.snapshot.specs.Lists.{eq_list}
use Rattle.snapshot.specs.Records.{Snapshot, Name}

-- A path of the rules, or none. `Given.antt` says what the code answers for it.
pub record Choice : Type 0 where
  pub found : Bool
  pub kind : ℕ
  pub names : List ℕ
  pub count : ℕ
  pub path_text_len : ℕ
  pub stable : Bool
  pub has_prelude_segment : Bool
  pub route : List ℕ
  pub steps : ℕ

unfoldable pub name_data : Snapshot → ℕ → Name
name_data s n = get_or s.names n (record { bytes = 0; text = [] })

-- the bytes of a name's text
abbrev pub name_len : Snapshot → ℕ → ℕ
name_len s n = (name_data s n).bytes

-- the text is `prelude`, three bytes a word
unfoldable pub is_prelude : Snapshot → ℕ → Bool
is_prelude s n = eqb (name_len s n) 7 && eq_list (name_data s n).text (0x657270 ∷ 0x64756C ∷ 0x65 ∷ [])

-- the path kinds: a plain path, `self`, `super`, `crate`, a leading `::`

abbrev pub plain_path : ℕ
plain_path = 0

abbrev pub self_path : ℕ
self_path = 1

abbrev pub super_path : ℕ
super_path = 2

abbrev pub crate_path : ℕ
crate_path = 3

abbrev pub absolute_path : ℕ
absolute_path = 4

-- `path_kind_len`: the text length of each path kind
unfoldable pub path_kind_len : ℕ → ℕ
path_kind_len k = get_or (0 ∷ 4 ∷ 5 ∷ 5 ∷ 2 ∷ []) k 0

-- `ModPath::len`: the names, and one more for `super` and for `crate`
unfoldable pub path_len : Choice → ℕ
path_len c = get_or (0 ∷ 0 ∷ 1 ∷ 1 ∷ 0 ∷ []) c.kind 0 + c.count

-- the rules of a route: a builtin, the scope, the prelude, an extern, a keyword without names; then a variant after its enum, a scope entry of
-- a local search, an import

abbrev pub via_builtin : ℕ
via_builtin = 0

abbrev pub via_scope : ℕ
via_scope = 1

abbrev pub via_prelude : ℕ
via_prelude = 2

abbrev pub via_extern : ℕ
via_extern = 3

abbrev pub via_keyword : ℕ
via_keyword = 4

abbrev pub via_variant : ℕ
via_variant = 5

abbrev pub via_local : ℕ
via_local = 6

abbrev pub via_import : ℕ
via_import = 7

-- a step of a route: the rule, and the place of the record used, 0 for a keyword
abbrev pub step_by : ℕ → ℕ → ℕ
step_by rule place = place * 8 + rule

-- every place is below 16,384
abbrev pub step_limit : ℕ
step_limit = 131072

-- no path
abbrev pub nothing : Choice
nothing =
    record {
      found = false;
      kind = 0;
      names = replicate 16 0;
      count = 0;
      path_text_len = 0;
      stable = false;
      has_prelude_segment = false;
      route = replicate 17 0;
      steps = 0;
    }

-- a keyword without names
unfoldable pub keyword : ℕ → Choice
keyword k =
    record {
      found = true;
      kind = k;
      names = replicate 16 0;
      count = 0;
      path_text_len = path_kind_len k;
      stable = true;
      has_prelude_segment = false;
      route = set (replicate 17 0) 0 (step_by via_keyword 0);
      steps = 1;
    }

-- `Choice::new`: one name, stable; t is its step
unfoldable pub choice_new : Snapshot → ℕ → ℕ → ℕ → Choice
choice_new s k n t =
    record {
      found = true;
      kind = k;
      names = set (replicate 16 0) 0 n;
      count = 1;
      path_text_len = path_kind_len k + name_len s n;
      stable = true;
      has_prelude_segment = is_prelude s n;
      route = set (replicate 17 0) 0 t;
      steps = 1;
    }

-- one name more, by a step t, with a flag given for `prelude`
unfoldable pub extended : Snapshot → Choice → ℕ → ℕ → Bool → Choice
extended s c n t flag =
    record {
      found = true;
      kind = c.kind;
      names = set c.names c.count n;
      count = c.count + 1;
      path_text_len = c.path_text_len + name_len s n;
      stable = c.stable;
      has_prelude_segment = flag;
      route = set c.route c.steps t;
      steps = c.steps + 1;
    }

-- `Choice::push`
unfoldable pub push : Snapshot → Choice → ℕ → ℕ → Choice
push s c n t = extended s c n t (c.has_prelude_segment || is_prelude s n)

-- the choice, unstable
unfoldable pub unstably : Choice → Choice
unstably c =
    record {
      found = c.found;
      kind = c.kind;
      names = c.names;
      count = c.count;
      path_text_len = c.path_text_len;
      stable = false;
      has_prelude_segment = c.has_prelude_segment;
      route = c.route;
      steps = c.steps;
    }

-- `bool::cmp`
unfoldable pub compare_bool : Bool → Bool → Ordering
compare_bool false false = Ordering.eq
compare_bool false true = Ordering.lt
compare_bool true false = Ordering.gt
compare_bool true true = Ordering.eq

-- `Ordering::then`
unfoldable pub and_then : Ordering → Ordering → Ordering
and_then Ordering.lt o = Ordering.lt
and_then Ordering.eq o = o
and_then Ordering.gt o = Ordering.gt

-- the prelude flags, the one without first unless preferred
unfoldable pub compare_prelude : Bool → Bool → Bool → Ordering
compare_prelude true current other = compare_bool other current
compare_prelude false current other = compare_bool current other

-- the newcomer is taken on a greater order, and on an equal one where its text is shorter
unfoldable pub taken : Ordering → Bool → Bool
taken Ordering.lt shorter = false
taken Ordering.eq shorter = shorter
taken Ordering.gt shorter = true

-- whether the newcomer `other`, with the name n to come, takes the place of `current`
unfoldable pub better : Snapshot → Bool → Choice → Choice → ℕ → Bool
better s prefer current other n =
    taken
    (and_then (compare_bool other.stable current.stable)
    (and_then (compare_prelude prefer current.has_prelude_segment other.has_prelude_segment)
    (compare (path_len current) (path_len other + 1))))
    (ltb (other.path_text_len + name_len s n) current.path_text_len)

-- `Choice::try_select`: the first choice counts its last name for `prelude`, a later one does not
unfoldable pub try_select : Snapshot → Bool → Choice → Choice → ℕ → ℕ → Choice
try_select s prefer current other n t =
    elim current.found [
      | true ↦ elim (better s prefer current other n) [ true ↦ extended s other n t other.has_prelude_segment | false ↦ current ]
      | false ↦ push s other n t
    ]

-- The length left for a step: one less than the caller's, or than the length of the choice so far if that is smaller.
unfoldable pub shorter_if : Bool → ℕ → ℕ → ℕ
shorter_if true left n = min left n - 1
shorter_if false left n = left - 1

unfoldable pub length_left : ℕ → Choice → ℕ
length_left left best = shorter_if best.found left (path_len best)

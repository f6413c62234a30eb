-- Entries by module and members by parent, as threads in the work area. Only contracts of inner functions and proofs cite it.
use Rattle.std.specs.Prelude.{ℕ, zero, suc, ◌+◌, ◌-◌, ◌*◌, ◌≤◌, ◌<◌, ◌≡◌, List, [], ◌∷◌, Bool, true, false, eqb, length, get_or}
use Rattle.snapshot.specs.Limits.{module_limit}
use Rattle.snapshot.specs.Sizes.{member_size}
use Rattle.snapshot.specs.Records.{Snapshot, Scope, Member, scope_at, member_at}
use Rattle.snapshot.specs.Layouts.{member_base, snap_of}
use Rattle.snapshot.specs.declared.layout.Layout.{Layout}
use Rattle.check_records.specs.chains.Chains.{ChainedBy}
use Rattle.hir_def.specs.Finds.{select}
use Rattle.imports.specs.order.Rooms.{entries_room, heads_room, spare_room}
use Rattle.import_rules.specs.Collect.{entry_before, sort_into}
use Rattle.imports.specs.order.Lists.{entries_at, Runs, Ready}

-- the first words of the heads of the members' threads, a word a definition, and of their links: they follow the links of the entries

abbrev pub member_heads_base : Layout → ℕ
member_heads_base l = spare_room + l.scopes

abbrev pub member_links_base : Layout → ℕ
member_links_base l = member_heads_base l + l.definitions

-- of the things numbered below n those with a key, the last first
unfoldable pub keyed : {A : Type 0} → (ℕ → ℕ) → ℕ → (ℕ → A) → ℕ → List A
keyed key b f zero = []
keyed key b f (suc n) = elim (eqb (key n) b) [ true ↦ f n ∷ keyed key b f n | false ↦ keyed key b f n ]

-- the same from a number on, which is one more, 0 at the end: its key is that of the first
abbrev pub rest : {A : Type 0} → (ℕ → ℕ) → (ℕ → A) → ℕ → List A
rest key f c = keyed key (key (c - 1)) f c

abbrev pub is_public : Scope → Bool
is_public e = eqb e.visibility 0

-- the public entries of all modules, in order
abbrev pub public_in : Snapshot → List Scope
public_in s = sort_into (entry_before s) [] (select is_public s.scopes)

-- the entry of a number: n of them stand in their room, and the last has the number 0
abbrev pub entry_of : List ℕ → List ℕ → ℕ → ℕ → Scope
entry_of W A n j = scope_at W (get_or A (entries_room + (n - 1 - j)) 0)

-- the member of a number, the last has the number 0
abbrev pub member_of : List ℕ → Layout → ℕ → Member
member_of W l j = member_at W (member_base l + member_size * (l.members - 1 - j))

-- the public entries of all modules stand in the area, in no order
pub record Gathered (W A : List ℕ) (l : Layout) (B : List ℕ) (n : ℕ) : Type 0 where
  pub frame : Runs A B entries_room heads_room
  pub few : n ≤ l.scopes
  pub same : entries_at W B entries_room n ≡ select is_public (snap_of W A l).scopes

-- a thread for each key below a count: the words before the heads and links stay, and those after them
pub record Threads (count heads links : ℕ) (key : ℕ → ℕ) (n : ℕ) (A B : List ℕ) : Type 0 where
  pub chained : ChainedBy count B heads links key n
  pub size : length B ≡ length A
  pub other : (i : ℕ) → ((b : ℕ) → b < count → i ≡ heads + b → ⊥) → ((j : ℕ) → j < n → i ≡ links + j → ⊥) → get_or B i 0 ≡ get_or A i 0

-- the n public entries in order, threaded by module, and the members threaded by parent
pub record Threaded (W A : List ℕ) (l : Layout) (n : ℕ) : Type 0 where
  pub ready : Ready W A l
  pub few : n ≤ l.scopes
  pub list : entries_at W A entries_room n ≡ public_in (snap_of W A l)
  pub entries : ChainedBy module_limit A heads_room spare_room (λ j. (entry_of W A n j).owner) n
  pub members : ChainedBy l.definitions A (member_heads_base l) (member_links_base l) (λ j. (member_of W l j).parent) l.members

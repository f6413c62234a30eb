-- Where the lists stand in the work area, past the tables: `Lists` of the code. What follows depends on how many records there are.
use Rattle.std.specs.Prelude.{ℕ, ◌+◌}
use Rattle.snapshot.specs.Limits.{module_limit}
use Rattle.snapshot.specs.Layouts.{scope_limit, table_words}

-- the heads of entries
abbrev pub entries_room : ℕ
entries_room = table_words

-- the heads of the entries' threads
abbrev pub heads_room : ℕ
heads_room = entries_room + scope_limit

-- the spare words, then the links of the entries' threads
abbrev pub spare_room : ℕ
spare_room = heads_room + module_limit

-- The limits of a snapshot, of a question, of the work area and of a printed line.
use Rattle.std.specs.Prelude.{ℕ, ◌*◌}

abbrev pub word_limit : ℕ
word_limit = 16384

-- bytes of an input
abbrev pub input_limit : ℕ
input_limit = 4 * word_limit

abbrev pub crate_limit : ℕ
crate_limit = 64

abbrev pub module_limit : ℕ
module_limit = 512

abbrev pub name_limit : ℕ
name_limit = 2048

abbrev pub definition_limit : ℕ
definition_limit = 2048

-- the length left where a search begins, at most
abbrev pub path_limit : ℕ
path_limit = 15

abbrev pub fuel_limit : ℕ
fuel_limit = 10000

-- the numbers of a namespace, of a prefix and of options, at most

abbrev pub namespace_limit : ℕ
namespace_limit = 2

abbrev pub prefix_limit : ℕ
prefix_limit = 2

abbrev pub options_limit : ℕ
options_limit = 127

-- words of a work area that serves
abbrev pub area_limit : ℕ
area_limit = 16384

-- bytes of a buffer that serves for the line of a question, without its route and with it

abbrev pub line_limit : ℕ
line_limit = 4169

abbrev pub routed_limit : ℕ
routed_limit = 4662

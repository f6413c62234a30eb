-- The text that is printed of a refusal, and of how many records of each kind there are.
use Rattle.std.specs.Prelude.{ℕ, List, ◌++◌, true, false, eqb}
use Prim.Native.String.{String}
use Rattle.snapshot.specs.Refusals.{words_refusal, form_refusal, range_refusal, undefined_refusal, repeated_refusal, place_refusal, count_refusal}
use Rattle.snapshot.specs.Refusals.{bytes_refusal, rest_refusal, edition_refusal}
use Rattle.printing.specs.Output.{bytes_of, decimal}

-- bytes of a buffer that serves for a text
abbrev pub text_limit : ℕ
text_limit = 512

-- the text, where the two numbers are the same, or the other
unfoldable pub choose : ℕ → ℕ → List ℕ → List ℕ → List ℕ
choose n m text other = elim (eqb n m) [ true ↦ text | false ↦ other ]

-- what a refusal's number means; 20 last
unfoldable pub meaning : ℕ → List ℕ
meaning n =
    choose n words_refusal (bytes_of "more than 16384 words\n")
    (choose n form_refusal (bytes_of "an unknown or falling kind, a wrong argument kind, or a missing argument\n")
    (choose n range_refusal (bytes_of "a field outside its range, bad padding, or a builtin with another name\n")
    (choose n undefined_refusal (bytes_of "a number that is not defined yet\n")
    (choose n repeated_refusal (bytes_of "something that may stand once only is repeated\n")
    (choose n place_refusal (bytes_of "a record that does not fit the records before it, or a map or crate left incomplete\n")
    (choose n count_refusal (bytes_of "more than 64 crates, 512 modules, 2048 names or 2048 definitions\n")
    (choose n bytes_refusal (bytes_of "more than 65536 bytes\n")
    (choose n rest_refusal (bytes_of "a number of bytes that is not a multiple of 4\n")
    (choose n edition_refusal (bytes_of "an edition other than 2015, 2018, 2021 and 2024\n")
    (bytes_of "a work area of fewer than 16384 words\n"))))))))))

-- a number after its label
abbrev pub labelled : String → ℕ → List ℕ
labelled label n = bytes_of label ++ decimal n

-- the same, up to the end of the line
abbrev pub line : String → ℕ → List ℕ
line label n = labelled label n ++ bytes_of "\n"

-- the number and its place on a line, then the meaning
abbrev pub refusal : ℕ → ℕ → List ℕ
refusal n at = labelled "refused " n ++ (line " at " at ++ meaning n)

-- the same where a question begins at the refused word, which no record does
abbrev pub asked_there : ℕ → List ℕ
asked_there at = line "refused 31 at " at ++ bytes_of "a question begins there: path_printer answers questions\n"

-- the kinds up to modules
abbrev pub first_lines : ℕ → ℕ → ℕ → ℕ → ℕ → List ℕ
first_lines names crates dependencies maps modules =
    line "names " names
    ++ (line "crates " crates
    ++ (line "dependencies " dependencies
    ++ (line "maps " maps
    ++ line "modules " modules)))

-- the kinds from children to externs
abbrev pub last_lines : ℕ → ℕ → ℕ → ℕ → ℕ → ℕ → List ℕ
last_lines children preludes definitions scopes imports externs =
    line "children " children
    ++ (line "preludes " preludes
    ++ (line "definitions " definitions
    ++ (line "scopes " scopes
    ++ (line "imports " imports
    ++ line "externs " externs))))

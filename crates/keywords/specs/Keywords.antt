-- The keywords of the Rust Reference, and which names an edition writes with `r#`.
use Rattle.std.specs.Prelude.{ℕ, List, [], ◌∷◌, Bool, ◌&&◌, not, leb}
use Prim.Native.String.{String}
use Rattle.snapshot.specs.Lists.{any}
use Rattle.snapshot.specs.Records.{Name}
use Rattle.check_rules.specs.Tests.{same_name}
use Rattle.check_rules.specs.Builtins.{spelled}
use Rattle.printing.specs.Output.{bytes_of}

-- a strict or reserved keyword, and the first edition in which it is one
pub record Keyword : Type 0 where
  pub name : Name
  pub since : ℕ

abbrev pub keyword : String → ℕ → Keyword
keyword t e = record { name = spelled (bytes_of t); since = e }

-- strict and then reserved ones; those of all editions, and those that came with 2018 and 2024
abbrev pub keywords : List Keyword
keywords =
    keyword "as" 2015
    ∷ keyword "break" 2015
    ∷ keyword "const" 2015
    ∷ keyword "continue" 2015
    ∷ keyword "crate" 2015
    ∷ keyword "else" 2015
    ∷ keyword "enum" 2015
    ∷ keyword "extern" 2015
    ∷ keyword "false" 2015
    ∷ keyword "fn" 2015
    ∷ keyword "for" 2015
    ∷ keyword "if" 2015
    ∷ keyword "impl" 2015
    ∷ keyword "in" 2015
    ∷ keyword "let" 2015
    ∷ keyword "loop" 2015
    ∷ keyword "match" 2015
    ∷ keyword "mod" 2015
    ∷ keyword "move" 2015
    ∷ keyword "mut" 2015
    ∷ keyword "pub" 2015
    ∷ keyword "ref" 2015
    ∷ keyword "return" 2015
    ∷ keyword "self" 2015
    ∷ keyword "Self" 2015
    ∷ keyword "static" 2015
    ∷ keyword "struct" 2015
    ∷ keyword "super" 2015
    ∷ keyword "trait" 2015
    ∷ keyword "true" 2015
    ∷ keyword "type" 2015
    ∷ keyword "unsafe" 2015
    ∷ keyword "use" 2015
    ∷ keyword "where" 2015
    ∷ keyword "while" 2015
    ∷ keyword "_" 2015
    ∷ keyword "abstract" 2015
    ∷ keyword "become" 2015
    ∷ keyword "box" 2015
    ∷ keyword "do" 2015
    ∷ keyword "final" 2015
    ∷ keyword "macro" 2015
    ∷ keyword "override" 2015
    ∷ keyword "priv" 2015
    ∷ keyword "typeof" 2015
    ∷ keyword "unsized" 2015
    ∷ keyword "virtual" 2015
    ∷ keyword "yield" 2015
    ∷ keyword "async" 2018
    ∷ keyword "await" 2018
    ∷ keyword "dyn" 2018
    ∷ keyword "try" 2018
    ∷ keyword "gen" 2024
    ∷ []

-- a name is a keyword of an edition
unfoldable pub is_keyword : ℕ → Name → Bool
is_keyword e x = any (λ k. leb k.since e && same_name x k.name) keywords

-- the words that cannot be raw
abbrev pub plain_words : List Name
plain_words =
    spelled (bytes_of "_")
    ∷ spelled (bytes_of "crate")
    ∷ spelled (bytes_of "self")
    ∷ spelled (bytes_of "super")
    ∷ spelled (bytes_of "Self")
    ∷ []

-- a name is written with `r#` in an edition
unfoldable pub is_raw : ℕ → Name → Bool
is_raw e x = is_keyword e x && not (any (same_name x) plain_words)

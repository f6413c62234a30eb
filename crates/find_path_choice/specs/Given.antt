-- What the code answers, as the rules have it.
use Rattle.std.specs.Prelude.{true, Option, None, Some}
use Rattle.find_path_choice.specs.Choices.{Choice, nothing}
use Rattle.find_path_choice.specs.declared.Choice.{Choice as Path}

-- a path of the code
abbrev pub chosen : Path → Choice
chosen c =
    record {
      found = true;
      kind = c.kind;
      names = c.names;
      count = c.count;
      path_text_len = c.path_text_len;
      stable = c.stable;
      has_prelude_segment = c.has_prelude_segment;
      route = c.route;
      steps = c.steps;
    }

-- a path of the code, or none
abbrev pub given : Option Path → Choice
given None = nothing
given (Some c) = chosen c

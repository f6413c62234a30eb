-- The joints of a path.
use Rattle.std.specs.Prelude.{ℕ, List, [], Bool, true, false}
use Rattle.find_path_spec.specs.Line.{bytes_of}

-- a joint, where something stands before it
abbrev pub joint_if : Bool → List ℕ
joint_if true = bytes_of "::"
joint_if false = []

-- An accepted snapshot is valid.
use mathlib.Core.Path.{◌≡◌, refl}
use Prim.Native.Nat.{ℕ}
use mathlib.Core.List.{List}
use Rattle.snapshot.specs.Records.{Snapshot}
use Rattle.check_rules.specs.Verdict.{accept, verdict}
use Rattle.accept.specs.Valid.{Valid}
use Rattle.accept.proofs.Ranges.{accepted_ranges, accepted_limits}
use Rattle.accept.proofs.Trees.{accepted_tree, accepted_enums}
use Rattle.accept.proofs.Members.{accepted_members}
use Rattle.accept.proofs.Places.{accepted_children, accepted_scopes, accepted_imports, accepted_filled, accepted_owned, accepted_defined}
use Rattle.accept.proofs.Places.{accepted_once}

pub accepted_valid : (W : List ℕ) (s : Snapshot) → verdict W ≡ accept s → Valid s
accepted_valid W s e =
    record {
      ranges = accepted_ranges W s e;
      limits = accepted_limits W s e;
      tree = accepted_tree W s e;
      enums = accepted_enums W s e;
      children = accepted_children W s e;
      scopes = accepted_scopes W s e;
      imports = accepted_imports W s e;
      members = accepted_members W s e;
      filled = accepted_filled W s e;
      owned = accepted_owned W s e;
      once = accepted_once W s e;
      modules = accepted_defined 1 refl W s e;
      builtins = accepted_defined 3 refl W s e;
    }

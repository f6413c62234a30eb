use Rattle.std.proofs.Common.{rules}
use Rattle.snapshot.specs.Records.{scope_at}
use Rattle.nameable.specs.Seen.{is_declaration, declaration_in}
use Rattle.hir_def.proofs.Searches.{first_in}
use Rattle.any_path.proofs.seen_entries.entries.declaration_in.Goals as goal

pub returns : goal.returns
unfolding declaration_in
returns c =
    λ A.
    first_in (is_declaration c.args.m.0 c.args.ns c.args.d.0) scope_at c.args.records.now.words.now c.scopes.ensures
    (λ h t p. search rules) _ c.first_where.ensures

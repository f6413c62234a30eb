use mathlib.Core.Path.{sym, ap}
use mathlib.Core.List.{[], ◌∷◌}
use Rattle.snapshot.specs.Records.{scope_at}
use Rattle.imports.proofs.lists.Writing.{space_first, space_rest, space_as, wrote_as, wrote_both, entry_same_import, bounded_as, entry_bounded}
use Rattle.imports.proofs.lists.Writing.{imports_entry}
use Rattle.accept.specs.Opened.{snap_in}
use Rattle.imports.proofs.lists.write.put_entry.Goals as goal

pub put_members-t-requires : goal.put_members-t-requires
put_members-t-requires c = let e = scope_at c.args.db.now.records.words.now c.args.entry in
    record { listed = c.requires.listed; space = space_first c.requires.space (imports_entry (snap_in c.args.db.now) c.args.c.0 e) }

pub put_import-requires : goal.put_import-requires
put_import-requires c =
    let e = scope_at c.args.db.now.records.words.now c.args.entry in
    let p = imports_entry (snap_in c.args.db.now) c.args.c.0 e in
    let q = entry_same_import c.args.c.0 e c.scope_ns.ensures
    c.scope_definition.ensures
    c.scope_name.ensures c.scope_owner.ensures c.scope_bits.ensures in
    (bounded_as (entry_bounded c.requires.listed) q, space_as (space_rest c.requires.space p c.put_members-t.ensures) (ap (λ y. y ∷ []) (sym q)))

pub returns : goal.returns
returns c =
    let e = scope_at c.args.db.now.records.words.now c.args.entry in
    let p = imports_entry (snap_in c.args.db.now) c.args.c.0 e in
    let q = entry_same_import c.args.c.0 e c.scope_ns.ensures
    c.scope_definition.ensures
    c.scope_name.ensures c.scope_owner.ensures c.scope_bits.ensures in
    wrote_both p c.put_members-t.ensures (wrote_as c.put_import.ensures (ap (λ y. y ∷ []) q))

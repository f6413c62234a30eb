use mathlib.Core.Path.{sym, ap, ◌∙◌}
use Rattle.std.specs.Prelude.{option_map}
use Rattle.snapshot.specs.Records.{scope_at, extern_at}
use Rattle.accept.specs.Opened.{snap_in}
use Rattle.hir_def.specs.Entries.{entry_of}
use Rattle.nameable.specs.Paths.{as_named}
use Rattle.any_path.specs.Plain.{record_read}
use Rattle.any_path.proofs.Plains.{plain_scope, plain_extern, plain_prelude}
use Rattle.any_path.proofs.plain.read_plain.Goals as goal

pub returns-in-Some : goal.returns-in-Some
unfolding record_read
returns-in-Some c = plain_scope _ _ _ _ _ (sym c.scopes_named-near.ensures ∙ ap (entry_of scope_at _) c.in-Some.is)

pub returns-in-Some-outer : goal.returns-in-Some-outer
unfolding record_read
returns-in-Some-outer c =
    plain_extern _ _ _ _ (sym c.scopes_named-near.ensures ∙ ap (entry_of scope_at _) c.in_default.is) _
    (sym c.externs_named-outer.ensures ∙ ap (entry_of extern_at _) c.in-Some-outer.is)

pub returns-in_err-h : goal.returns-in_err-h
unfolding record_read
returns-in_err-h c =
    let db = c.args.view.now.db in
    ap (record_read (snap_in db) db.records.words.now) c.from_residual.ensures
    ∙ ap (option_map (as_named (snap_in db))) (sym (ap (entry_of scope_at _) c.in_err-h.was) ∙ c.prelude_named.ensures)
    ∙ plain_prelude _ _ _ _ (sym c.scopes_named-near.ensures ∙ ap (entry_of scope_at _) c.in_default.is)
    (sym c.externs_named-outer.ensures ∙ ap (entry_of extern_at _) c.in_default-outer.is)

pub returns : goal.returns
unfolding record_read
returns c =
    ap (option_map (as_named (snap_in c.args.view.now.db))) (sym (ap (entry_of scope_at _) c.in_ok-h.was) ∙ c.prelude_named.ensures)
    ∙ plain_prelude _ _ _ _ (sym c.scopes_named-near.ensures ∙ ap (entry_of scope_at _) c.in_default.is)
    (sym c.externs_named-outer.ensures ∙ ap (entry_of extern_at _) c.in_default-outer.is)

use mathlib.Core.Path.{sym, ap, ◌∙◌}
use Rattle.std.specs.Prelude.{Option, Some}
use Rattle.snapshot.specs.Ids.{plus_one}
use Rattle.snapshot.specs.Layouts.{snap_of}
use Rattle.any_path.specs.Plain.{record_read, module_in, module_no}
use Rattle.any_path.specs.declared.plain.Reading.{Reading}
use Rattle.any_path.proofs.Plains.{mod_no}
use Rattle.any_path.proofs.plain.module_read.Goals as goal

pub returns-in_err-h : goal.returns-in_err-h
unfolding plus_one module_in record_read
returns-in_err-h c =
    λ A.
    let W = c.args.records.now.words.now in
    let L = c.args.records.now.layout in
    ap plus_one c.from_residual.ensures ∙ sym (ap (λ (x : Option Reading). module_in (record_read (snap_of W A L) W x)) c.in_err-h.was)

pub returns-in-Scope : goal.returns-in-Scope
unfolding module_in record_read
returns-in-Scope c =
    λ A.
    let W = c.args.records.now.words.now in
    let L = c.args.records.now.layout in
    c.entry_module.ensures A
    ∙ sym (ap (λ (x : Option Reading). module_in (record_read (snap_of W A L) W x)) (c.in_ok-h.was ∙ ap Some c.in-Scope.is))

pub returns-in-Extern : goal.returns-in-Extern
unfolding module_in module_no record_read
returns-in-Extern c =
    λ A.
    let W = c.args.records.now.words.now in
    let L = c.args.records.now.layout in
    mod_no _ c.extern_target.ensures
    ∙ sym (ap (λ (x : Option Reading). module_in (record_read (snap_of W A L) W x)) (c.in_ok-h.was ∙ ap Some c.in-Extern.is))

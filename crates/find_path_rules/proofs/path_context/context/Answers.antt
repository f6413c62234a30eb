use Rattle.find_path_rules.proofs.path_context.ContextLaws.{context_same}
use Rattle.accept.specs.Opened.{snap_in}
use Rattle.find_path_rules.proofs.path_context.context.Goals as goal

pub returns : goal.returns
returns c =
    let n = snap_in c.args.db.now in
    let A = c.args.db.now.area.now in
    context_same n c.args.q c.args.home.0 c.requires.2
    c.in_block.ensures
    c.plain_if-prefix.ensures
    c.krate-here.ensures
    c.no_std-map.ensures
    (c.supports_no_std-its.ensures A)
    c.bit.ensures
    c.bit-prelude.ensures
    c.bit-absolute.ensures c.bit-unstable.ensures
    c.bit-declared.ensures c.bit-fresh.ensures
    c.krate.ensures (c.is_lang-std.ensures A) c.crate_root-root.ensures

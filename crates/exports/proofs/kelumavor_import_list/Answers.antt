use mathlib.Core.Path.{subst}
use Rattle.imports.specs.Listings.{ListsIn}
use Rattle.exports.proofs.kelumavor_import_list.Goals as goal

pub returns : goal.returns
returns c =
    let a = c.args in
    subst (ListsIn a.words.now a.area.now a.krate a.target.now c.import_list-r.new.target c.import_list-r.new.area)
    c.tell.ensures c.import_list-r.ensures

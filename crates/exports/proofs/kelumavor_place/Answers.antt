use Rattle.exports.proofs.Serving.{placed_words}
use Rattle.exports.proofs.kelumavor_place.Goals as goal

pub returns : goal.returns
returns c =
    rw c.number_of.ensures (placed_words _ _ _ _ c.windows_of-windows.ensures c.words_of.ensures _ _ _ c.place-r.ensures)
